-- Answers of the definitions, and types that their crates do not export.
--     accepted                    what was answered
--     none_some, false_true       what cannot be
--     Taken f, Given f            what a function takes and gives
use Rattle.std.proofs.Common.{◌≡◌, true, false, Option, Some, None, Result, Ok}
use Rattle.hs_typer.specs.declared.type_error.TypeError.{TypeError}

-- what was answered, and not refused
pub accepted : {A : Type 0} → (x y : A) → ◌≡◌ {A = Result A TypeError} (Ok x) (Ok y) → x ≡ y
accepted x y same = cc

-- what cannot be
pub none_some : {A : Type 0} → (x : A) → ◌≡◌ {A = Option A} None (Some x) → ⊥
none_some x is = cc

pub false_true : false ≡ true → ⊥
false_true is = cc

-- what a function takes
abbrev pub Taken : {A B : Type 0} → (A → B) → Type 0
Taken {A} {B} f = A

-- and what it gives
abbrev pub Given : {A B : Type 0} → (A → B) → Type 0
Given {A} {B} f = B
