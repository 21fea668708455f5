-- Typing in steps. Each step changes what is known, and gives something, or the first refusal.
--     beginning table               what is known before the first declaration
--     Step A                        such a step
--     give it, refuse why           the step that changes nothing
--     first >>= next                one after the other
--     of_types f, on_types f        what is known of types alone, and with a change of the table of types
--     lifted it                     an answer of the operators
--     unevaluated step              what is in `sizeof` makes no string, takes no address and calls nothing (own)
--     Gives view given result, Steps view new given result      what an answer of the code says of the definition's
use Rattle.std.specs.Prelude.{◌≡◌, Bool, true, false, List, [], Result, Ok, Err}
use Rattle.hs_typer.specs.declared.origins.Origins.{Origins}
use Rattle.hs_typer.specs.declared.type_error.TypeError.{TypeError}
use Rattle.hs_typer.specs.declared.type_error.TypeError.TheVariants.{Untyped, Undeclared, UnknownRoutine, Clash, NoMemory}
use Rattle.hs_typer.specs.declared.typer.Typer.{Typer}
use Rattle.hs_operand_types.specs.declared.operand_end.OperandEnd.{OperandEnd}
use Rattle.hs_operand_types.specs.declared.operand_end.OperandEnd.TheVariants as end
use Rattle.hs_table.specs.declared.routine.Routine.{Routine}
use Rattle.hs_types.specs.TypeTables.{TypeTable, basic_types}

-- memory ran out
abbrev pub no_memory : TypeError
no_memory = NoMemory

-- before the first unit
abbrev pub no_origins : Origins
no_origins = record { unit = 0; times = []; firsts = []; structs = []; enumerations = [] }

-- before the first declaration
abbrev pub beginning : List Routine → Typer
beginning table =
    record {
      types = basic_types;
      names = record { declarations = []; level = 0 };
      tags = record { declarations = []; level = 0 };
      table = table;
      literals = [];
      taken = [];
      calls = [];
      origins = no_origins;
      open_bodies = [];
      begun = [];
      tentatives = [];
      counts = true;
      keeps = false;
    }

-- what is given, and what is known then
abbrev pub Step : Type 0 → Type 0
Step A = Typer → Result (A × Typer) TypeError

-- the next step, if there is no refusal
abbrev pub then_with : {A B : Type 0} → (A → Step B) → Result (A × Typer) TypeError → Result (B × Typer) TypeError
then_with next (Ok p) = next p.0 p.1
then_with next (Err why) = Err why

infixl 10 ◌>>=◌
-- with what the first one gives
abbrev pub ◌>>=◌ : {A B : Type 0} → Step A → (A → Step B) → Step B
(first >>= next) s = then_with next (first s)

infixl 10 ◌>>◌
-- a step that gives nothing, and then another
abbrev pub ◌>>◌ : {A B : Type 0} → Step A → Step B → Step B
first >> next = first >>= (λ it. next)

-- nothing is refused
abbrev pub give : {A : Type 0} → A → Step A
give it s = Ok (it, s)

-- nothing is given
abbrev pub refuse : {A : Type 0} → TypeError → Step A
refuse why s = Err why

-- an answer that changes nothing
abbrev pub kept : {A : Type 0} → Typer → Result A TypeError → Result (A × Typer) TypeError
kept s (Ok it) = Ok (it, s)
kept s (Err why) = Err why

-- an answer that changes the table of types
abbrev pub with_types : {A : Type 0} → Typer → Result (A × TypeTable) TypeError → Result (A × Typer) TypeError
with_types s (Ok p) = Ok (p.0, record s { types = p.1 })
with_types s (Err why) = Err why

-- of all that is known
abbrev pub look : {A : Type 0} → (Typer → Result A TypeError) → Step A
look f s = kept s (f s)

-- of the types alone
abbrev pub of_types : {A : Type 0} → (TypeTable → Result A TypeError) → Step A
of_types f s = kept s (f s.types)

-- of the types, which change
abbrev pub on_types : {A : Type 0} → (TypeTable → Result (A × TypeTable) TypeError) → Step A
on_types f s = with_types s (f s.types)

-- the same refusal
abbrev pub lifted_end : OperandEnd → TypeError
lifted_end (end.Untyped at) = Untyped at
lifted_end end.NoMemory = NoMemory

-- or the same answer
abbrev pub lifted : {A : Type 0} → Result A OperandEnd → Result A TypeError
lifted (Ok it) = Ok it
lifted (Err why) = Err (lifted_end why)

-- the answer, made into something else
abbrev pub mapped : {A B : Type 0} → (A → B) → Result A TypeError → Result B TypeError
mapped f (Ok it) = Ok (f it)
mapped f (Err why) = Err why

-- what counted before counts again
abbrev pub restored : {A : Type 0} → Bool → Result (A × Typer) TypeError → Result (A × Typer) TypeError
restored counts (Ok p) = Ok (p.0, record p.1 { counts = counts })
restored counts (Err why) = Err why

-- 3.3.3.4: the operand of `sizeof` is not evaluated
abbrev pub unevaluated : {A : Type 0} → Step A → Step A
unevaluated step s = restored s.counts (step (record s { counts = false }))

-- the refusal is that of the definition
abbrev pub Refuses : {A : Type 0} → Result A TypeError → TypeError → Type 0
Refuses given NoMemory = Unit {0}
Refuses given (Untyped at) = given ≡ Err (Untyped at)
Refuses given (Undeclared at name) = given ≡ Err (Undeclared at name)
Refuses given (UnknownRoutine at name) = given ≡ Err (UnknownRoutine at name)
Refuses given (Clash at name) = given ≡ Err (Clash at name)

-- the answer, as it is seen, is that of the definition
abbrev pub Gives : {A B : Type 0} → (B → A) → Result A TypeError → Result B TypeError → Type 0
Gives view given (Ok it) = given ≡ Ok (view it)
Gives view given (Err why) = Refuses given why

-- and what is known is then what the definition says
abbrev pub Steps : {A B : Type 0} → (B → A) → Typer → Result (A × Typer) TypeError → Result B TypeError → Type 0
Steps view new given (Ok it) = given ≡ Ok (view it, new)
Steps view new given (Err why) = Refuses given why

-- the same of a change of the table of types
abbrev pub Changes : {A B : Type 0} → (B → A) → TypeTable → Result (A × TypeTable) TypeError → Result B TypeError → Type 0
Changes view new given (Ok it) = given ≡ Ok (view it, new)
Changes view new given (Err why) = Refuses given why
