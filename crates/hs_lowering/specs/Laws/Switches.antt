-- The labels of a switch (own).
--     place_of is labels otherwise          the operation of the first label that is so, or else that one
--     any_in is labels                      there is such a label
--     chosen_case                           the case of a switch is the place of the label at which the list of statements begins
use Rattle.std.proofs.Common.{◌≡◌, ℕ, suc, ◌==◌, Bool, true, false, ◌||◌, List, [], ◌∷◌, ◌++◌, Option, refl, ap, ◌∙◌}
use Rattle.std.specs.List.{list_any}
use Rattle.hs_code_run.specs.Steps.{or_later, found, or_default}
use Rattle.hs_lowering.specs.Lowering.{after}
use Rattle.hs_lowering.specs.Statements.{Counts, Targets, pieces_for, after_statement, labels_at, labels_code, cases_in, default_in, statement_code, list_code}
use Rattle.hs_meaning.specs.Settings.{Setting}
use Rattle.hs_meaning.specs.Statements.{is_case, is_default, has_label}
use Rattle.hs_tree.specs.Trees as tree
use Rattle.hs_tree.specs.Trees.{TypedFunction, TypedStatements}
use Rattle.hs_tree.specs.declared.statement.Label.{Label}
use Rattle.hs_tree.specs.declared.statement.Label.TheVariants as label

-- that place, or else the other one
abbrev pub pick : Bool → ℕ → ℕ → ℕ
pick true place otherwise = place
pick false place otherwise = otherwise

-- of the first such label
abbrev pub place_of : (Label → Bool) → List (Label × ℕ) → ℕ → ℕ
place_of is [] otherwise = otherwise
place_of is (its ∷ rest) otherwise = pick (is its.0) its.1 (place_of is rest otherwise)

-- there is one
abbrev pub any_in : (Label → Bool) → List (Label × ℕ) → Bool
any_in is [] = false
any_in is (its ∷ rest) = is its.0 || any_in is rest

-- ---- lists of labels

pub place_append : (is : Label → Bool) (first second : List (Label × ℕ)) (otherwise : ℕ)
    → place_of is (first ++ second) otherwise ≡ place_of is first (place_of is second otherwise)
place_append is [] second otherwise = refl
place_append is (its ∷ first) second otherwise = ap (pick (is its.0) its.1) (place_append is first second otherwise)

-- if there is no such label
pub place_of_none : (is : Label → Bool) (labels : List (Label × ℕ)) (otherwise : ℕ) → any_in is labels ≡ false → place_of is labels otherwise ≡ otherwise
place_of_none is [] otherwise no_ = refl
place_of_none is (its ∷ rest) otherwise no_ = by (is its.0) (place_of_none is rest otherwise) no_
  where
    by : (b : Bool) → (any_in is rest ≡ false → place_of is rest otherwise ≡ otherwise) → (b || any_in is rest) ≡ false
        → pick b its.1 (place_of is rest otherwise) ≡ otherwise
    by true others so = absurd cc
    by false others so = others so

-- if there is one
pub place_of_some : (is : Label → Bool) (labels : List (Label × ℕ)) (a b : ℕ) → any_in is labels ≡ true → place_of is labels a ≡ place_of is labels b
place_of_some is [] a b some_ = absurd cc
place_of_some is (its ∷ rest) a b some_ = by (is its.0) (place_of_some is rest a b) some_
  where
    by : (c : Bool) → (any_in is rest ≡ true → place_of is rest a ≡ place_of is rest b) → (c || any_in is rest) ≡ true
        → pick c its.1 (place_of is rest a) ≡ pick c its.1 (place_of is rest b)
    by true others so = refl
    by false others so = others so

pub any_append : (is : Label → Bool) (first second : List (Label × ℕ)) → any_in is (first ++ second) ≡ (any_in is first || any_in is second)
any_append is [] second = refl
any_append is (its ∷ first) second = by (is its.0) (any_append is first second)
  where
    by : (b : Bool) → any_in is (first ++ second) ≡ (any_in is first || any_in is second)
        → (b || any_in is (first ++ second)) ≡ ((b || any_in is first) || any_in is second)
    by true others = refl
    by false others = others

pub any_at : (is : Label → Bool) (labels : List Label) (start : ℕ) → any_in is (labels_at labels start) ≡ list_any is labels
any_at is [] start = refl
any_at is (its ∷ rest) start = ap (λ b. is its || b) (any_at is rest (suc start))

-- ---- cases

or_default_later : (b : Bool) (target : ℕ) (later : Option ℕ) (otherwise : ℕ)
    → or_default (or_later b target later) otherwise ≡ pick b target (or_default later otherwise)
or_default_later true target later otherwise = refl
or_default_later false target later otherwise = refl

-- the first case of that number
found_case : (bits : ℕ) (labels : List (Label × ℕ)) (otherwise : ℕ)
    → or_default (found bits (cases_in labels)) otherwise ≡ place_of (is_case bits) labels otherwise
found_case bits [] otherwise = refl
found_case bits ((label.Case at its, target) ∷ rest) otherwise =
    or_default_later (its == bits) target (found bits (cases_in rest)) otherwise ∙ ap (pick (its == bits) target) (found_case bits rest otherwise)
found_case bits ((label.Default at, target) ∷ rest) otherwise = found_case bits rest otherwise

-- the default
found_default : (labels : List (Label × ℕ)) (otherwise : ℕ) → default_in labels otherwise ≡ place_of is_default labels otherwise
found_default [] otherwise = refl
found_default ((label.Case at its, target) ∷ rest) otherwise = found_default rest otherwise
found_default ((label.Default at, target) ∷ rest) otherwise = refl

-- where control goes for a number: to its case, if there is one, and else to the default
pub case_is : (bits : ℕ) (labels : List (Label × ℕ)) (otherwise : ℕ) → any_in (is_case bits) labels ≡ true
    → or_default (found bits (cases_in labels)) (default_in labels otherwise) ≡ place_of (is_case bits) labels otherwise
case_is bits labels otherwise some_ =
    found_case bits labels (default_in labels otherwise) ∙ place_of_some (is_case bits) labels (default_in labels otherwise) otherwise some_

pub default_is : (bits : ℕ) (labels : List (Label × ℕ)) (otherwise : ℕ) → any_in (is_case bits) labels ≡ false
    → or_default (found bits (cases_in labels)) (default_in labels otherwise) ≡ place_of is_default labels otherwise
default_is bits labels otherwise no_ =
    found_case bits labels (default_in labels otherwise) ∙ place_of_none (is_case bits) labels (default_in labels otherwise) no_
    ∙ found_default labels otherwise

-- the labels of a list are those of its statements
pub any_of_list : (setting : Setting) (function : TypedFunction) (is : Label → Bool) (list : TypedStatements) (counts : Counts) (targets : Targets)
    (start : ℕ) → any_in is (list_code setting function list counts targets start).labels ≡ has_label is list
any_of_list setting function is tree.no_statements counts targets start = refl
any_of_list setting function is (tree.more_statements labels it rest) counts targets start =
    any_append is (labels_at labels start) (list_code setting function rest (after_statement it (pieces_for labels counts)) targets
    (after (after start (labels_code counts.pieces labels))
    (statement_code setting function it (pieces_for labels counts) targets (after start (labels_code counts.pieces labels))).ops)).labels
    ∙ ap (λ b. b || any_in is (list_code setting function rest (after_statement it (pieces_for labels counts)) targets
    (after (after start (labels_code counts.pieces labels))
    (statement_code setting function it (pieces_for labels counts) targets (after start (labels_code counts.pieces labels))).ops)).labels)
    (any_at is labels start)
    ∙ ap (λ b. list_any is labels || b) (any_of_list setting function is rest (after_statement it (pieces_for labels counts)) targets
    (after (after start (labels_code counts.pieces labels))
    (statement_code setting function it (pieces_for labels counts) targets (after start (labels_code counts.pieces labels))).ops))
