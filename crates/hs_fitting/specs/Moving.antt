-- Steps of typing a program move on, in the forms that they are made of.
--     Moving m given               what is known after the answer, if it is one, has moved on
--     Moved work holds             from every place of the text; and what is given has that fact of what is known then
--     then_moves, ..               one step after another
use Rattle.std.proofs.Common.{Bool, true, false, Result, Ok, Err, if◌then◌else◌}
use Rattle.hs_expressions.specs.Laws.{IsScoped}
use Rattle.hs_expressions.specs.Laws.Always as typing_law
use Rattle.hs_expressions.specs.Laws.Always.{Reaching}
use Rattle.hs_fitting.specs.Moves.{Moves, any_reaches, moves_self, moves_then, moves_typer}
use Rattle.hs_linkage.specs.Works.{Work, work_with, ◌>>=◌, ◌>>◌, pass, stop, typing, with_typer, knowing, same_work, unless}
use Rattle.hs_linkage.specs.declared.translator.Translator.{Translator}
use Rattle.hs_typer.specs.Steps.{Step}
use Rattle.hs_typer.specs.declared.type_error.TypeError.{TypeError}
use Rattle.hs_typer.specs.declared.typer.Entity.{Entity}
use Rattle.hs_typer.specs.declared.typer.Typer.{Typer}

abbrev pub Moving : {A : Type 0} → Translator → Result (A × Translator) TypeError → Type 0
Moving m (Ok p) = Moves m p.1
Moving m (Err why) = Unit {0}

-- from every place of the text
pub record Moved {A : Type 0} (work : Work A) : Type 0 where
  pub from : (m : Translator) → IsScoped m.typer → Moving m (work m)

moving_with : {A B : Type 0} → (next : A → Work B) (m : Translator) (given : Result (A × Translator) TypeError) → Moving m given
    → ((it : A) → Moved (next it)) → Moving m (work_with next given)
moving_with next m (Ok p) before after = moving_behind m p.1 (next p.0 p.1) before ((after p.0).from p.1 before.scoped)
  where
    moving_behind : {B : Type 0} → (first second : Translator) (given : Result (B × Translator) TypeError) → Moves first second → Moving second given
        → Moving first given
    moving_behind first second (Ok p) before after = moves_then first second p.1 before after
    moving_behind first second (Err why) before after = tt
moving_with next m (Err why) before after = tt

moving_typer : {A : Type 0} → (allowed : Entity → Type 0) (m : Translator) (given : Result (A × Typer) TypeError) → IsScoped m.typer
    → Reaching allowed m.typer given → Moving m (with_typer m given)
moving_typer allowed m (Ok p) scoped reached = moves_typer m p.1 scoped (any_reaches allowed m.typer p.1 reached)
moving_typer allowed m (Err why) scoped reached = tt

moving_same : {A : Type 0} → (m : Translator) (given : Result A TypeError) → IsScoped m.typer → Moving m (same_work m given)
moving_same m (Ok it) scoped = moves_self m scoped
moving_same m (Err why) scoped = tt

-- what does not change anything
pub passes_moved : {A : Type 0} → (it : A) → Moved (pass it)
passes_moved it = record { from = λ m scoped. moves_self m scoped }

pub stops_moved : {A : Type 0} → (why : TypeError) → Moved {A = A} (stop why)
stops_moved why = record { from = λ m scoped. tt }

pub knowing_moved : {A : Type 0} → (f : Translator → Result A TypeError) → Moved (knowing f)
knowing_moved f = record { from = λ m scoped. moving_same m (f m) scoped }

moving_unless : (why : TypeError) (b : Bool) (m : Translator) → IsScoped m.typer → Moving {A = Unit {0}} m (if b then Err why else Ok (tt, m))
moving_unless why true m scoped = tt
moving_unless why false m scoped = moves_self m scoped

pub unless_moved : (why : TypeError) (test : Translator → Bool) → Moved (unless why test)
unless_moved why test = record { from = λ m scoped. moving_unless why (test m) m scoped }

-- one after another
pub then_moved : {A B : Type 0} → {next : A → Work B} → (first : Work A) → Moved first → ((it : A) → Moved (next it)) → Moved (first >>= next)
then_moved {next = next} first before after = record { from = λ m scoped. moving_with next m (first m) (before.from m scoped) after }

pub and_moved : {A B : Type 0} → {next : Work B} → (first : Work A) → Moved first → Moved next → Moved (first >> next)
and_moved first before after = then_moved first before (λ it. after)

-- a step of typing
pub typing_moved : {A : Type 0} → (allowed : Entity → Type 0) (step : Step A) → typing_law.Always allowed step → Moved (typing step)
typing_moved allowed step is = record { from = λ m scoped. moving_typer allowed m (step m.typer) scoped (is.from m.typer scoped) }
