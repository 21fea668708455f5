-- What is shown of a run is a function of the program, its input, its turns and what the mover tells. Own to this project.
--     shown_once                   a mover that tells its decisions has one text for each program, input and number of turns
--     shown_again                  a mover that tells the decisions that were shown has the same text, also if nothing is known of the first mover
use Rattle.std.proofs.Common.{◌≡◌, ℕ, List, Option, Some, sym, ap, ◌∙◌, subst}
use Rattle.hs_heap.specs.declared.decision.Decision.{Decision}
use Rattle.hs_lowering.specs.Exact.{program_code}
use Rattle.hs_machine.specs.Laws.Scripts.{AreOne, one_run, printed_again}
use Rattle.hs_meaning.specs.declared.input.Input.{Input}
use Rattle.hs_meaning.specs.declared.outcome.Outcome.{Outcome}
use Rattle.hs_meaning.specs.declared.outcome.Outcome.TheVariants.{Finished, Stopped, TurnsSpent}
use Rattle.hs_movers.specs.declared.script.Script.{Script}
use Rattle.hs_report.specs.declared.run_report.Ran.{Ran}
use Rattle.hs_run_text.specs.RunTexts as runs
use Rattle.hs_tree.specs.Trees.{TypedProgram}
use Rattle.hs_command.specs.Runs.{IsFileOf, ShowsRun}

-- the file of an outcome is one
one_file : (names : List (List ℕ)) (outcome : Outcome) (file other : List ℕ) → IsFileOf names outcome file → IsFileOf names outcome other → file ≡ other
one_file names (Finished number) file other is also = is ∙ sym also
one_file names TurnsSpent file other is also = is ∙ sym also
one_file names (Stopped why at) file other is also = same file other (sym is ∙ also)
  where
    same : (a b : List ℕ) → ◌≡◌ {A = Option (List ℕ)} (Some a) (Some b) → a ≡ b
    same a b it = cc

-- a script is its seed and its decisions
same_script : (one other : Script) → one.seed ≡ other.seed → one.decisions ≡ other.decisions → one ≡ other
same_script one other seeds decisions =
    ap (λ (n : ℕ). script n one.decisions) seeds ∙ ap (λ (l : List Decision). script other.seed l) decisions
  where
    script : ℕ → List Decision → Script
    script seed decisions = record { seed = seed; decisions = decisions }

module _ (program : TypedProgram) (input : Input) (turns : ℕ) (names : List (List ℕ)) (told other_told : Option (List Decision)) (ran other : Ran)
    (shows : ShowsRun program input turns told names ran) (also : ShowsRun program input turns other_told names other) where
  -- transcripts that are one have one text
  one_text : AreOne (program_code program) input turns shows.its also.its → ran ≡ other
  one_text one =
      ap (λ (text : List ℕ). shown text ran.outcome) texts ∙ ap (λ (outcome : Outcome). shown other.text outcome) outcomes
    where
      shown : List ℕ → Outcome → Ran
      shown text outcome = record { text = text; outcome = outcome }

      scripts_same : shows.its.script ≡ also.its.script
      scripts_same = same_script shows.its.script also.its.script (shows.no_seed ∙ sym also.no_seed) one.script

      files : shows.file ≡ also.file
      files =
          one_file names also.its.outcome shows.file also.file
          (subst (λ (outcome : Outcome). IsFileOf names outcome shows.file) one.outcome shows.is_file) also.is_file

      outcomes : ran.outcome ≡ other.outcome
      outcomes = shows.is_outcome ∙ one.outcome ∙ sym also.is_outcome

      texts : ran.text ≡ other.text
      texts =
          shows.is_text
          ∙ ap (λ (output : List ℕ). runs.text_of output shows.file shows.its.outcome shows.its.script) one.output
          ∙ ap (λ (file : List ℕ). runs.text_of also.its.output file shows.its.outcome shows.its.script) files
          ∙ ap (λ (outcome : Outcome). runs.text_of also.its.output also.file outcome shows.its.script) one.outcome
          ∙ ap (λ (script : Script). runs.text_of also.its.output also.file also.its.outcome script) scripts_same
          ∙ sym also.is_text

-- A mover that tells its decisions has one text for each program, input and number of turns.
pub shown_once : (program : TypedProgram) (input : Input) (turns : ℕ) (names : List (List ℕ)) (told : List Decision) (ran other : Ran)
    → ShowsRun program input turns (Some told) names ran → ShowsRun program input turns (Some told) names other → ran ≡ other
shown_once program input turns names told ran other shows also =
    one_text program input turns names (Some told) (Some told) ran other shows also
    (one_run (program_code program) input turns told shows.its also.its shows.exactly also.exactly shows.is_told also.is_told)

-- A mover that tells the decisions that were shown gives the same text.
pub shown_again : (program : TypedProgram) (input : Input) (turns : ℕ) (names : List (List ℕ)) (told : Option (List Decision)) (ran other : Ran)
    → (shows : ShowsRun program input turns told names ran) → ShowsRun program input turns (Some shows.its.script.decisions) names other → ran ≡ other
shown_again program input turns names told ran other shows also =
    one_text program input turns names told (Some shows.its.script.decisions) ran other shows also
    (printed_again (program_code program) input turns shows.its also.its shows.exactly shows.printable also.exactly also.is_told)
