-- Declarations: what is read is spelled so, and what is spelled so is read.
use Rattle.std.proofs.Common.{◌≡◌, ℕ, true, false, not, cond, List, [], ◌∷◌, ◌++◌, Some, None, refl, sym, subst, ◌∙◌, inl, inr}
use Rattle.std.specs.Prelude.{codes}
use Rattle.std.proofs.lemmas.Bool.{and_parts}
use Rattle.std.proofs.lemmas.Option.{cond_some}
use Rattle.hs_base.specs.Options.{◌>>=◌, bind_some}
use Rattle.hs_tokens.specs.declared.token.SourceToken.{SourceToken}
use Rattle.hs_tree.specs.declared.straight.tree.Kind.{Kind}
use Rattle.hs_tree.specs.declared.straight.tree.Kind.TheVariants.{Handle, Pointer, Letter}
use Rattle.hs_tree.specs.declared.straight.tree.Variable.{Variable}
use Rattle.hs_tree.specs.Straight.Names.{is_name}
use Rattle.hs_tree.specs.Straight.Fine.{is_taken, is_fine_name}
use Rattle.hs_checker.specs.Straight.Grammar.{Piece, word, stars_of, declaration_spelling, ended, Spells}
use Rattle.hs_checker.specs.Straight.Reading.{first_at, mark_at, is_at, second_star_at, kind_at, declaration_at}
use Rattle.hs_checker.proofs.Marks.{some_is, chosen, first_takes, first_again, word_takes, word_again, at_first}
use Rattle.hs_checker.proofs.Names.{not_text}

-- the stars are those of the kind
abbrev IsKind : List SourceToken → (Kind × List SourceToken) → Type 0
IsKind tokens x = (pieces : List Piece) → Spells pieces x.1 → Spells (stars_of x.0 ++ pieces) tokens

-- one star was read before
abbrev IsSecond : List SourceToken → (Kind × List SourceToken) → Type 0
IsSecond tokens x = (pieces : List Piece) (before : List SourceToken) → Spells pieces x.1
    → ((behind : List Piece) → Spells behind tokens → Spells (word (codes "*") ∷ behind) before) → Spells (stars_of x.0 ++ pieces) before

second_takes : (tokens : List SourceToken) (x : Kind × List SourceToken) → second_star_at tokens ≡ Some x → IsSecond tokens x
unfolding second_star_at
second_takes tokens x e =
    elim (chosen (is_at (codes "*") tokens) (mark_at (codes "*") tokens >>= λ star. Some (Handle, star.1)) (Some (Pointer, tokens)) (Some x) e) [
      | inl two ↦
          let a = bind_some (mark_at (codes "*") tokens) (λ star. Some (Handle, star.1)) x two.1 in
          let made : Kind × List SourceToken = (Handle, a.0.1) in
          let taken : IsSecond tokens made = λ pieces before s first. first (word (codes "*") ∷ pieces) (word_takes (codes "*") tokens a.0 pieces a.1 s) in
          subst (IsSecond tokens) (some_is made x a.2) taken
      | inr one ↦
          let made : Kind × List SourceToken = (Pointer, tokens) in
          let taken : IsSecond tokens made = λ pieces before s first. first pieces s in
          subst (IsSecond tokens) (some_is made x one.1) taken
    ]

kind_takes : (tokens : List SourceToken) (x : Kind × List SourceToken) → kind_at tokens ≡ Some x → IsKind tokens x
unfolding kind_at
kind_takes tokens x e =
    elim (chosen (is_at (codes "*") tokens) (mark_at (codes "*") tokens >>= λ star. second_star_at star.1) (Some (Letter, tokens)) (Some x) e) [
      | inl some ↦
          let a = bind_some (mark_at (codes "*") tokens) (λ star. second_star_at star.1) x some.1 in
          λ pieces s. second_takes a.0.1 x a.2 pieces tokens s (λ behind spelled. word_takes (codes "*") tokens a.0 behind a.1 spelled)
      | inr other ↦
          let made : Kind × List SourceToken = (Letter, tokens) in
          let taken : IsKind tokens made = λ pieces s. s in
          subst (IsKind tokens) (some_is made x other.1) taken
    ]

-- a declaration is its stars, then its name and its semicolon
grouped : (kind : Kind) (name mark : Piece) (pieces : List Piece)
    → ((stars_of kind ++ name ∷ []) ++ mark ∷ []) ++ pieces ≡ stars_of kind ++ (name ∷ mark ∷ pieces)
grouped Handle name mark pieces = refl
grouped Pointer name mark pieces = refl
grouped Letter name mark pieces = refl

-- a declaration is spelled so, with its semicolon, and its name may follow those before it
pub record IsDeclaration (earlier : List Variable) (tokens : List SourceToken) (x : Variable × List SourceToken) : Type 0 where
  pub fine : is_fine_name earlier x.0.name ≡ true
  pub spelled : (pieces : List Piece) → Spells pieces x.1 → Spells (ended (declaration_spelling x.0) ++ pieces) tokens

-- a declaration that is read is spelled so
pub declaration_takes : (earlier : List Variable) (tokens : List SourceToken) (x : Variable × List SourceToken) → declaration_at earlier tokens ≡ Some x
    → IsDeclaration earlier tokens x
unfolding declaration_at
declaration_takes earlier tokens x e =
    let a = bind_some (mark_at (codes "char") tokens)
    (λ begin. kind_at begin.1 >>= λ kind. first_at kind.1 >>= λ name. mark_at (codes ";") name.1 >>= λ mark. cond
    (is_fine_name earlier name.0.text) (Some (record { kind = kind.0; name = name.0.text }, mark.1)) None) x e in
    let b = bind_some (kind_at a.0.1) (λ kind. first_at kind.1 >>= λ name. mark_at (codes ";") name.1 >>= λ mark. cond
    (is_fine_name earlier name.0.text) (Some (record { kind = kind.0; name = name.0.text }, mark.1)) None) x a.2 in
    let d = bind_some (first_at b.0.1) (λ name. mark_at (codes ";") name.1 >>= λ mark. cond (is_fine_name earlier name.0.text)
    (Some (record { kind = b.0.0; name = name.0.text }, mark.1)) None) x b.2 in
    let f = bind_some (mark_at (codes ";") d.0.1)
    (λ mark. cond (is_fine_name earlier d.0.0.text) (Some (record { kind = b.0.0; name = d.0.0.text }, mark.1)) None) x d.2 in
    let made : Variable × List SourceToken = (record { kind = b.0.0; name = d.0.0.text }, f.0.1) in
    let test = cond_some (is_fine_name earlier d.0.0.text) made x f.2 in
    let taken : IsDeclaration earlier tokens made = record {
      fine = test.0;
      spelled = λ pieces s.
          let name : Spells (word d.0.0.text ∷ word (codes ";") ∷ pieces) b.0.1 =
          first_takes b.0.1 d.0 (word d.0.0.text) (word (codes ";") ∷ pieces) d.1 refl tt (word_takes (codes ";") d.0.1 f.0 pieces f.1 s) in
          let kind : Spells (stars_of b.0.0 ++ (word d.0.0.text ∷ word (codes ";") ∷ pieces)) a.0.1 =
          kind_takes a.0.1 b.0 b.1 (word d.0.0.text ∷ word (codes ";") ∷ pieces) name in
          let whole : Spells (((stars_of b.0.0 ++ word d.0.0.text ∷ []) ++ word (codes ";") ∷ []) ++ pieces) a.0.1 =
          subst (λ (p : List Piece). Spells p a.0.1) (sym (grouped b.0.0 (word d.0.0.text) (word (codes ";")) pieces)) kind in
          word_takes (codes "char") tokens a.0 (((stars_of b.0.0 ++ word d.0.0.text ∷ []) ++ word (codes ";") ∷ []) ++ pieces) a.1 whole;
    } in
    subst (IsDeclaration earlier tokens) test.1 taken

-- the stars in front of a name give the kind
kind_again : (kind : Kind) (name : List ℕ) (pieces : List Piece) (tokens : List SourceToken) → is_name name ≡ true
    → Spells (stars_of kind ++ (word name ∷ pieces)) tokens
    → (rest : List SourceToken) × (kind_at tokens ≡ Some (kind, rest)) × Spells (word name ∷ pieces) rest
unfolding kind_at second_star_at
kind_again Handle name pieces tokens is spelled =
    let here : is_at (codes "*") tokens ≡ true = at_first (codes "*") (word (codes "*")) (word (codes "*") ∷ word name ∷ pieces) tokens spelled in
    let first = word_again (codes "*") (word (codes "*") ∷ word name ∷ pieces) tokens spelled in
    let there : is_at (codes "*") first.0.1 ≡ true = at_first (codes "*") (word (codes "*")) (word name ∷ pieces) first.0.1 first.2 in
    let second = word_again (codes "*") (word name ∷ pieces) first.0.1 first.2 in
    (second.0.1, rw (here, first.1, there, second.1) refl, second.2)
kind_again Pointer name pieces tokens is spelled =
    let here : is_at (codes "*") tokens ≡ true = at_first (codes "*") (word (codes "*")) (word name ∷ pieces) tokens spelled in
    let first = word_again (codes "*") (word name ∷ pieces) tokens spelled in
    let there : is_at (codes "*") first.0.1 ≡ false = at_first (codes "*") (word name) pieces first.0.1 first.2 ∙ not_text name (codes "*") is refl in
    (first.0.1, rw (here, first.1, there) refl, first.2)
kind_again Letter name pieces tokens is spelled =
    let here : is_at (codes "*") tokens ≡ false = at_first (codes "*") (word name) pieces tokens spelled ∙ not_text name (codes "*") is refl in
    (tokens, rw here refl, spelled)

-- a spelled declaration that may stand there is read again
pub declaration_again : (earlier : List Variable) (variable : Variable) (pieces : List Piece) (tokens : List SourceToken)
    → is_fine_name earlier variable.name ≡ true
    → Spells (ended (declaration_spelling variable) ++ pieces) tokens → (rest : List SourceToken) × (declaration_at earlier tokens ≡ Some (variable, rest))
    × Spells pieces rest
unfolding declaration_at
declaration_again earlier variable pieces tokens fine spelled =
    let is = (and_parts (is_name variable.name) (not (is_taken earlier variable.name)) fine).0 in
    let begin = word_again (codes "char") (((stars_of variable.kind ++ word variable.name ∷ []) ++ word (codes ";") ∷ []) ++ pieces) tokens spelled in
    let whole : Spells (stars_of variable.kind ++ (word variable.name ∷ word (codes ";") ∷ pieces)) begin.0.1 =
    subst (λ (p : List Piece). Spells p begin.0.1) (grouped variable.kind (word variable.name) (word (codes ";")) pieces) begin.2 in
    let kind = kind_again variable.kind variable.name (word (codes ";") ∷ pieces) begin.0.1 is whole in
    let name = first_again (word variable.name) (word (codes ";") ∷ pieces) kind.0 kind.2 in
    let mark = word_again (codes ";") pieces name.0.1 name.4 in
    (mark.0.1, rw (begin.1, kind.1, name.1, mark.1, name.2, fine) refl, mark.2)

-- a declaration begins with `char`
pub declaration_begins : (variable : Variable) (pieces : List Piece) (tokens : List SourceToken)
    → Spells (ended (declaration_spelling variable) ++ pieces) tokens → is_at (codes "char") tokens ≡ true
declaration_begins variable pieces tokens spelled =
    at_first (codes "char") (word (codes "char")) (((stars_of variable.kind ++ word variable.name ∷ []) ++ word (codes ";") ∷ []) ++ pieces) tokens spelled
