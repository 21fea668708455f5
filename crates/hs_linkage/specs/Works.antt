-- Typing a program in steps, as typing an expression goes in steps (`Steps.antt` of hs_typer): each step changes what is known of the
-- program, and gives something, or the first refusal.
--     before_units table its        what is known before the first unit
--     Work A                        such a step
--     pass it, stop why             the step that changes nothing
--     first >>= next                one after the other
--     typing step                   a step that changes what typing knows
--     knowing f                     what is known
--     Works view new given result   what an answer of the code says of the definition's
use Rattle.std.specs.Prelude.{◌≡◌, Bool, List, [], Result, Ok, Err, if◌then◌else◌}
use Rattle.hs_linkage.specs.declared.definitions.Definition.{Definition}
use Rattle.hs_linkage.specs.declared.translator.Translator.{Translator}
use Rattle.hs_table.specs.declared.routine.Routine.{Routine}
use Rattle.hs_typer.specs.Steps.{Step, Refuses, beginning}
use Rattle.hs_typer.specs.declared.type_error.TypeError.{TypeError}
use Rattle.hs_typer.specs.declared.typer.Typer.{Typer}

-- before the first unit, with the functions that all units define
abbrev pub before_units : List Routine → List Definition → Translator
before_units table its =
    record {
      typer = beginning table;
      definitions = its;
      objects = [];
      links = record { declarations = []; level = 0 };
      internals = [];
      externals = [];
      routines = [];
      locals = [];
    }

-- what is given, and what is known then
abbrev pub Work : Type 0 → Type 0
Work A = Translator → Result (A × Translator) TypeError

-- the next step, if there is no refusal
abbrev pub work_with : {A B : Type 0} → (A → Work B) → Result (A × Translator) TypeError → Result (B × Translator) TypeError
work_with next (Ok p) = next p.0 p.1
work_with next (Err why) = Err why

infixl 10 ◌>>=◌
-- with what the first one gives
abbrev pub ◌>>=◌ : {A B : Type 0} → Work A → (A → Work B) → Work B
(first >>= next) m = work_with next (first m)

infixl 10 ◌>>◌
-- a step that gives nothing, and then another
abbrev pub ◌>>◌ : {A B : Type 0} → Work A → Work B → Work B
first >> next = first >>= (λ it. next)

-- nothing is refused
abbrev pub pass : {A : Type 0} → A → Work A
pass it m = Ok (it, m)

-- nothing is given
abbrev pub stop : {A : Type 0} → TypeError → Work A
stop why m = Err why

-- what typing knows changes
abbrev pub with_typer : {A : Type 0} → Translator → Result (A × Typer) TypeError → Result (A × Translator) TypeError
with_typer m (Ok p) = Ok (p.0, record m { typer = p.1 })
with_typer m (Err why) = Err why

-- a step of typing
abbrev pub typing : {A : Type 0} → Step A → Work A
typing step m = with_typer m (step m.typer)

-- an answer that changes nothing
abbrev pub same_work : {A : Type 0} → Translator → Result A TypeError → Result (A × Translator) TypeError
same_work m (Ok it) = Ok (it, m)
same_work m (Err why) = Err why

-- of all that is known
abbrev pub knowing : {A : Type 0} → (Translator → Result A TypeError) → Work A
knowing f m = same_work m (f m)

-- a test of what is known, or the refusal
abbrev pub unless : TypeError → (Translator → Bool) → Work (Unit {0})
unless why test m = if test m then Err why else Ok (tt, m)

-- what is known is then what the definition says
abbrev pub Works : {A B : Type 0} → (B → A) → Translator → Result (A × Translator) TypeError → Result B TypeError → Type 0
Works view new given (Ok it) = given ≡ Ok (view it, new)
Works view new given (Err why) = Refuses given why
