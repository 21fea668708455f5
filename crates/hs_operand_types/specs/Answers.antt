-- What an answer says of the definition: it is the definition's, or memory ran out.
use Rattle.std.specs.Prelude.{◌≡◌, Result, Ok, Err}
use Rattle.hs_operand_types.specs.declared.operand_end.OperandEnd.{OperandEnd}
use Rattle.hs_operand_types.specs.declared.operand_end.OperandEnd.TheVariants.{Untyped, NoMemory}

infixl 10 ◌>>=◌
-- a step after another, if there is no refusal
abbrev pub ◌>>=◌ : {A B : Type 0} → Result A OperandEnd → (A → Result B OperandEnd) → Result B OperandEnd
Ok it >>= next = next it
Err why >>= next = Err why

-- memory ran out
abbrev pub no_memory : OperandEnd
no_memory = NoMemory

-- the refusal is that of the definition
abbrev pub Refuses : {A : Type 0} → Result A OperandEnd → OperandEnd → Type 0
Refuses given NoMemory = Unit {0}
Refuses given (Untyped at) = given ≡ Err (Untyped at)

-- the answer, as it is seen, is that of the definition
abbrev pub Gives : {A B : Type 0} → (B → A) → Result A OperandEnd → Result B OperandEnd → Type 0
Gives view given (Ok it) = given ≡ Ok (view it)
Gives view given (Err why) = Refuses given why

-- The answer is that of the definition, and the table is then the one that the definition gives.
abbrev pub Changes : {A B C : Type 0} → (B → A) → C → Result (A × C) OperandEnd → Result B OperandEnd → Type 0
Changes view new given (Ok it) = given ≡ Ok (view it, new)
Changes view new given (Err why) = Refuses given why
