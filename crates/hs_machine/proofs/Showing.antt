-- What a transcript shows, from what is known of the run.
use Rattle.std.proofs.Common.{◌≡◌, ℕ, Bool, true, false, List, [], ◌∷◌, length, take, sym, ap, subst, refl}
use Rattle.hs_code_run.specs.Codes.{CodeProgram}
use Rattle.hs_heap.specs.declared.decision.Decision.{Decision}
use Rattle.hs_machine.specs.Transcripts.{HasRun, RunsTo, comes_under, reaches_under}
use Rattle.hs_machine.specs.declared.transcript.Transcript.{Transcript}
use Rattle.hs_meaning.specs.Frames.{given_all, has_frame, in_frame, opened}
use Rattle.hs_meaning.specs.Machine.{Machine}
use Rattle.hs_meaning.specs.Objects.{bindings, objects_for}
use Rattle.hs_meaning.specs.Settings.{Setting}
use Rattle.hs_meaning.specs.declared.input.Input.{Input}
use Rattle.hs_meaning.specs.declared.outcome.Outcome.{Outcome}
use Rattle.hs_meaning.specs.declared.outcome.Stop.{Stop}
use Rattle.hs_state.specs.Machines.{Does}
use Rattle.hs_tree.specs.declared.head.VariableDecl.{VariableDecl}
use Rattle.std.proofs.Common.{Err}
use Rattle.hs_values.specs.declared.halt.Halt.TheVariants as halt

-- by its parts
pub shows : (program : CodeProgram) (input : Input) (turns : ℕ) (its : Transcript) (script : List Decision) (outcome : Outcome) (after : Machine) (left : ℕ)
    → RunsTo program (reaches_under program input turns) (comes_under program input turns) script outcome after left
    → its.script.decisions ≡ script → its.outcome ≡ outcome → after.output ≡ its.output → after.blocks ≡ its.heap.blocks
    → HasRun program input turns its
shows program input turns its script outcome after left runs scripts outcomes output blocks =
    let reaches = reaches_under program input turns in
    let comes = comes_under program input turns in
    record {
      after = after;
      left = left;
      run =
          subst (λ (o : Outcome). RunsTo program reaches comes its.script.decisions o after left) (sym outcomes)
          (subst (λ (l : List Decision). RunsTo program reaches comes l outcome after left) (sym scripts) runs);
      output = output;
      blocks = blocks;
    }

-- a call without arguments that stops has put nothing out
module _ (setting : Setting) (machine now : Machine) (why : Stop) where
  given_none : (parameters : List VariableDecl) (middle : Machine) → Does (given_all setting 0 parameters [] middle) now (Err (halt.Stopped why))
      → now.output ≡ middle.output
  given_none [] middle does = absurd does
  given_none (variable ∷ rest) middle does = ap (λ (m : Machine). m.output) does.1

  pub stops_silently : (parameters : ℕ) (variables : List VariableDecl)
      → Does (opened setting parameters variables [] machine) now (Err (halt.Stopped why)) → now.output ≡ machine.output
  stops_silently parameters variables does = by_frame (has_frame (objects_for setting.types variables) machine) refl
    where
      -- whether there is a frame
      by_frame : (there : Bool) → has_frame (objects_for setting.types variables) machine ≡ there → now.output ≡ machine.output
      by_frame true is =
          given_none (take parameters variables)
          (in_frame (bindings setting.types (length machine.objects) variables) (objects_for setting.types variables) machine)
          (rw is at does)
      by_frame false is = let stopped = rw is at does in ap (λ (m : Machine). m.output) stopped.1
