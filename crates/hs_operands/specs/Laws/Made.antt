-- What the proofs of all operators go by: the tests and the steps that an answer depends on.
--     Makes holds given              what is given meets the fact
--     gives, refuses                 an answer, and a refusal
--     either_way, gives_then         a test, and a step after another
use Rattle.std.proofs.Common.{◌≡◌, Bool, true, false, Result, Ok, Err, refl, subst, if◌then◌else◌}
use Rattle.hs_tokens.specs.declared.place.Place.{Place}
use Rattle.hs_operand_types.specs.Answers.{◌>>=◌}
use Rattle.hs_operand_types.specs.declared.operand_end.OperandEnd.{OperandEnd}
use Rattle.hs_operand_types.specs.declared.operand_end.OperandEnd.TheVariants.{Untyped}

-- What is given meets the fact. `MakesTyped`, `MakesObject` and `MakesOfType` are this for their facts.
abbrev pub Makes : {A : Type 0} → (A → Type 0) → Result A OperandEnd → Type 0
Makes {A} holds given = (made : A) → given ≡ Ok made → holds made

-- an answer
pub gives : {A : Type 0} → (holds : A → Type 0) (it : A) → holds it → Makes holds (Ok it)
gives holds it is made given = let same : it ≡ made = cc in subst holds same is

-- a refusal
pub refuses : {A : Type 0} → (holds : A → Type 0) (at : Place) → Makes holds (Err (Untyped at))
refuses holds at made given = absurd cc

-- both ways of a test
pub either_way : {A : Type 0} → (holds : A → Type 0) (test : Bool) (a b : A) → (test ≡ true → holds a) → (test ≡ false → holds b)
    → holds (if test then a else b)
either_way holds true a b met failed = met refl
either_way holds false a b met failed = failed refl

-- a step after another
pub gives_then : {A B : Type 0} → (holds : B → Type 0) (first : Result A OperandEnd) (next : A → Result B OperandEnd)
    → ((it : A) → first ≡ Ok it → Makes holds (next it)) → Makes holds (first >>= next)
gives_then holds (Ok it) next is made given = is it refl made given
gives_then holds (Err why) next is made given = absurd cc
