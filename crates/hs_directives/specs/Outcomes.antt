-- What an outcome of the code says, in the definition's words: memory may run out, and the rest is exact.
--     Gives view outcome result       the result is the outcome, or that memory ran out
--     IsRefusal outcome error         the error is that memory ran out, or the outcome's
--     ReadsNone error                 it says nothing of a read
use Rattle.std.specs.Prelude.{◌≡◌, ◌⊎◌, Result, Ok, Err}
use Rattle.hs_directives.specs.declared.error.ReadError.{ReadError}
use Rattle.hs_directives.specs.declared.error.ReadError.TheVariants.{Missing, ReadFault, NoMemory}

-- memory was refused, or the outcome is this refusal
abbrev pub IsRefusal : {B : Type 0} → Result B ReadError → ReadError → Type 0
IsRefusal outcome error = (error ≡ NoMemory) ⊎ (outcome ≡ Err error)

-- a refusal that says nothing of a read
abbrev pub ReadsNone : ReadError → Type 0
ReadsNone (Missing name) = ⊥
ReadsNone (ReadFault name) = ⊥
ReadsNone _ = Unit {0}

-- the value that a function returned is the outcome's, seen by the view, and so is its refusal
abbrev pub Gives : {A B : Type 0} → (A → B) → Result B ReadError → Result A ReadError → Type 0
Gives view outcome (Ok value) = outcome ≡ Ok (view value)
Gives view outcome (Err error) = IsRefusal outcome error × ReadsNone error
