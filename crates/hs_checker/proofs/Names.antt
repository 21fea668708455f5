-- Names, and the numbers that they stand for.
use Rattle.std.proofs.Common.{◌≡◌, ℕ, zero, suc, ◌<◌, true, false, not, ltb, List, [], ◌∷◌, length, get_or, Option, Some, None, refl, sym, ap, subst, ◌∙◌}
use Rattle.std.proofs.Math.Numerals.{one-add}
use Rattle.std.specs.Prelude.{slice_get}
use Rattle.std.specs.List.{position_or_len}
use Rattle.std.specs.Str.{bytes_eq}
use Rattle.std.proofs.lemmas.Bool.{and_parts, or_parts, not-true, both_ways, false_from_ne_true, cond-true, lt-ltb}
use Rattle.std.proofs.lemmas.List.Quantifiers.{position-Some}
use Rattle.std.proofs.lemmas.Option.{slice_get-get_or, slice_get_within}
use Rattle.std.proofs.lemmas.Slice.Eq.{bytes_eq-Decides}
use Rattle.hs_base.specs.Options.{◌>>=◌, bind_some}
use Rattle.hs_tokens.specs.declared.token.SourceToken.{SourceToken}
use Rattle.hs_tree.specs.declared.straight.tree.Kind.{Kind}
use Rattle.hs_tree.specs.declared.straight.tree.Kind.TheVariants.{Letter}
use Rattle.hs_tree.specs.declared.straight.tree.Variable.{Variable}
use Rattle.hs_tree.specs.Straight.Names.{begins_with_letter, is_identifier, is_name}
use Rattle.hs_tree.specs.Straight.Fine.{has_kind, kind_eq, is_declared, is_taken, is_fine_name, are_fine_names}
use Rattle.hs_checker.specs.Straight.Grammar.{Piece, word, name_in, name_of, Spells}
use Rattle.hs_checker.specs.Straight.Reading.{first_at, number_of, variable_at}
use Rattle.hs_checker.proofs.Marks.{some_is, first_takes, first_again}

-- stands in where a list is read past its end
nobody : Variable
nobody = record { kind = Letter; name = [] }

-- a number that was found is that of a variable
pub number_within : (variables : List Variable) (name : List ℕ) (number : ℕ) → number_of variables name ≡ Some number → number < length variables
unfolding number_of
number_within variables name number found = (position-Some (λ variable. bytes_eq variable.name name) variables number nobody found).0

-- the variable of that number has the name
pub name_found : (variables : List Variable) (name : List ℕ) (number : ℕ) → number_of variables name ≡ Some number → name_of variables number ≡ name
unfolding number_of
name_found variables name number found =
    let here = position-Some (λ variable. bytes_eq variable.name name) variables number nobody found in
    ap name_in (slice_get-get_or variables number nobody here.0) ∙ (bytes_eq-Decides (get_or variables number nobody).name name).0 here.1

-- a name is no text that no name may be
pub not_text : (name text : List ℕ) → is_name name ≡ true → is_name text ≡ false → bytes_eq name text ≡ false
not_text name text is not_one = false_from_ne_true (bytes_eq name text)
    (λ e. both_ways (is_name text) not_one (subst (λ (t : List ℕ). is_name t ≡ true) ((bytes_eq-Decides name text).0 e) is))

-- ---- declared variables

-- a variable of some kind is declared
pub declared : (kind : Kind) (found : Option Variable) → has_kind kind found ≡ true → (variable : Variable) × (found ≡ Some variable)
    × (kind_eq variable.kind kind ≡ true)
declared kind None has = absurd cc
declared kind (Some variable) has = (variable, refl, has)

-- a declared variable has a name that it may have, which none before it has
pub names_hold : (earlier variables : List Variable) (number : ℕ) (variable : Variable) → are_fine_names earlier variables ≡ true
    → slice_get variables number ≡ Some variable
    → (is_name variable.name ≡ true) × (is_taken earlier variable.name ≡ false)
names_hold earlier [] number variable fine at = absurd cc
names_hold earlier (first ∷ rest) zero variable fine at =
    let parts = and_parts (is_fine_name earlier first.name) (are_fine_names (first ∷ earlier) rest) fine in
    let both = and_parts (is_name first.name) (not (is_taken earlier first.name)) parts.0 in
    subst (λ (v : Variable). (is_name v.name ≡ true) × (is_taken earlier v.name ≡ false)) (some_is first variable at)
    (both.0, not-true (is_taken earlier first.name) both.1)
names_hold earlier (first ∷ rest) (suc number) variable fine at =
    let parts = and_parts (is_fine_name earlier first.name) (are_fine_names (first ∷ earlier) rest) fine in
    let after = names_hold (first ∷ earlier) rest number variable parts.1 at in
    (after.0, (or_parts (bytes_eq first.name variable.name) (is_taken earlier variable.name) after.1).1)

-- no variable before it has the name, so the search ends at it
place_again : (earlier variables : List Variable) (number : ℕ) (variable : Variable) → are_fine_names earlier variables ≡ true
    → slice_get variables number ≡ Some variable
    → position_or_len (λ other. bytes_eq other.name variable.name) variables ≡ number
place_again earlier [] number variable fine at = absurd cc
place_again earlier (first ∷ rest) zero variable fine at =
    let same : bytes_eq first.name variable.name ≡ true =
    (bytes_eq-Decides first.name variable.name).1 (ap (λ (v : Variable). v.name) (some_is first variable at)) in
    rw same refl
place_again earlier (first ∷ rest) (suc number) variable fine at =
    let parts = and_parts (is_fine_name earlier first.name) (are_fine_names (first ∷ earlier) rest) fine in
    let after = names_hold (first ∷ earlier) rest number variable parts.1 at in
    let other : bytes_eq first.name variable.name ≡ false = (or_parts (bytes_eq first.name variable.name) (is_taken earlier variable.name) after.1).0 in
    rw other (one-add _ ∙ ap suc (place_again (first ∷ earlier) rest number variable parts.1 at))

-- a declared variable is found by its name
pub number_again : (variables : List Variable) (number : ℕ) (variable : Variable) → are_fine_names [] variables ≡ true
    → slice_get variables number ≡ Some variable
    → number_of variables variable.name ≡ Some number
unfolding number_of
number_again variables number variable fine at =
    let place = place_again [] variables number variable fine at in
    let within : ltb (position_or_len (λ other. bytes_eq other.name variable.name) variables) (length variables) ≡ true =
    lt-ltb _ _ (rw place (slice_get_within variables number variable at)) in
    cond-true _ _ _ within ∙ ap (λ (n : ℕ). Some n) place

-- ---- reading a name

-- a name that is read is spelled by its number
pub variable_takes : (variables : List Variable) (tokens : List SourceToken) (x : ℕ × List SourceToken) (pieces : List Piece)
    → variable_at variables tokens ≡ Some x → Spells pieces x.1 → Spells (word (name_of variables x.0) ∷ pieces) tokens
unfolding variable_at
variable_takes variables tokens x pieces e after =
    let a = bind_some (first_at tokens) (λ first. number_of variables first.0.text >>= λ number. Some (number, first.1)) x e in
    let b = bind_some (number_of variables a.0.0.text) (λ number. Some (number, a.0.1)) x a.2 in
    let made : ℕ × List SourceToken = (b.0, a.0.1) in
    let name = name_found variables a.0.0.text b.0 b.1 in
    let taken : Spells pieces a.0.1 → Spells (word (name_of variables b.0) ∷ pieces) tokens =
    λ s. first_takes tokens a.0 (word (name_of variables b.0)) pieces a.1 (sym name) tt s in
    let P : (ℕ × List SourceToken) → Type 0 = λ y. Spells pieces y.1 → Spells (word (name_of variables y.0) ∷ pieces) tokens in
    subst P (some_is made x b.2) taken after

-- a spelled name is read, and gives its number
pub variable_again : (variables : List Variable) (kind : Kind) (number : ℕ) (pieces : List Piece) (tokens : List SourceToken)
    → are_fine_names [] variables ≡ true → is_declared kind variables number ≡ true
    → Spells (word (name_of variables number) ∷ pieces) tokens
    → (rest : List SourceToken) × (variable_at variables tokens ≡ Some (number, rest)) × Spells pieces rest
unfolding variable_at
variable_again variables kind number pieces tokens fine is spelled =
    let there = declared kind (slice_get variables number) is in
    let first = first_again (word (name_of variables number)) pieces tokens spelled in
    let name : first.0.0.text ≡ there.0.name = first.2 ∙ ap name_in there.1 in
    let found : number_of variables first.0.0.text ≡ Some number = rw name (number_again variables number there.0 fine there.1) in
    (first.0.1, rw (first.1, found) refl, first.4)

-- the name of a declared variable is a name
pub name_is : (variables : List Variable) (kind : Kind) (number : ℕ) → are_fine_names [] variables ≡ true → is_declared kind variables number ≡ true
    → is_name (name_of variables number) ≡ true
name_is variables kind number fine is =
    let there = declared kind (slice_get variables number) is in
    rw there.1 (names_hold [] variables number there.0 fine there.1).0

-- a name begins with a letter
pub name_begins : (name : List ℕ) → is_name name ≡ true → begins_with_letter name ≡ true
name_begins name is = (and_parts _ _ (and_parts (is_identifier name) _ is).0).0
