-- What a worked row says: the program keeps what every typed program keeps, and its run ends so.
--     Run                             a program, and what its run is given
--     run program input schedule turns
--     it comes_to ending              what a row says
use Rattle.std.specs.Prelude.{◌≡◌, ℕ, List}
use Rattle.hs_heap.specs.declared.decision.Decision.{Decision}
use Rattle.hs_meaning.specs.Runs.{Ending}
use Rattle.hs_meaning.specs.Runs as runs
use Rattle.hs_meaning.specs.declared.input.Input.{Input}
use Rattle.hs_tree.specs.Fitting.{Fits}
use Rattle.hs_tree.specs.Trees.{TypedProgram}

pub record Run : Type 0 where
  pub program : TypedProgram
  pub input : Input
  pub schedule : List Decision
  pub turns : ℕ

abbrev pub run : TypedProgram → Input → List Decision → ℕ → Run
run program input schedule turns = record { program = program; input = input; schedule = schedule; turns = turns }

infix 4 ◌comes_to◌
-- the run ends so, and its program is typed
abbrev pub ◌comes_to◌ : Run → Ending → Type 0
it comes_to ending = Fits it.program × (runs.run it.program it.input it.schedule it.turns ≡ ending)
