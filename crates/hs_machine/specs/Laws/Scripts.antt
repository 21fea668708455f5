-- A run under the decisions that a mover tells is one run: its script, its output and its end are a function of what is told.
--     told_together                two scripts of which both are what was told are fronts of one list
--     ends_once                    two runs whose scripts are such fronts are one
--     one_run                      so the runs of a mover that tells its decisions are one
--     printed_again                and a mover that tells the decisions that were printed gives the same run
use Rattle.std.proofs.Common.{◌≡◌, ◌≤◌, ◌+◌, ◌==◌, not, ℕ, zero, suc, Bool, true, List, [], ◌∷◌, ◌++◌, length, drop, filter, slice_get, Option, Some, None, if◌then◌else◌, refl, sym, ap, ◌∙◌, subst, arith}
use Rattle.std.proofs.lemmas.Bool.Decides.{nat_tests}
use Rattle.std.proofs.lemmas.List.{append_cancel_right, drop_all}
use Rattle.std.proofs.lemmas.List.Elements.{recursion_from_All}
use Rattle.std.specs.List.{AllByRecursion}
use Rattle.hs_code_run.specs.Codes.{CodeFunction, CodeProgram}
use Rattle.hs_code_run.specs.Runs.{ComesWith, begun}
use Rattle.hs_heap.specs.declared.decision.Decision.{Decision}
use Rattle.hs_heap.specs.declared.decision.Which.{Which}
use Rattle.hs_heap.specs.declared.decision.Which.TheVariants.{All, These}
use Rattle.hs_machine.specs.Laws.Ways.{one_end}
use Rattle.hs_machine.specs.Recording.{IsTold, named, recorded, told_front}
use Rattle.hs_machine.specs.Transcripts.{HasRun, RunsTo, comes_under, reaches_under}
use Rattle.hs_machine.specs.declared.transcript.Transcript.{Transcript}
use Rattle.hs_meaning.specs.Machine.{Machine}
use Rattle.hs_meaning.specs.Runs.{starting}
use Rattle.hs_meaning.specs.Steps.{State}
use Rattle.hs_meaning.specs.declared.input.Input.{Input}
use Rattle.hs_meaning.specs.declared.outcome.Outcome.{Outcome}
use Rattle.hs_movers.specs.Movers.{no_block}
use Rattle.hs_movers.specs.ScriptTexts.{HasNoZero, IsPrintable}
use Rattle.hs_movers.specs.declared.script.Script.{Script}

-- ---- what was told

-- two lists are fronts of one
pub record AreFronts (one other : List Decision) : Type 0 where
  pub rest : List Decision
  pub others : List Decision
  pub same : one ++ rest ≡ other ++ others

-- a front of what is told, and the front of the rest
front_more : (count more : ℕ) (told : List Decision) → told_front (count + more) told ≡ told_front count told ++ told_front more (drop count told)
front_more zero more told = ap (λ (n : ℕ). told_front n told) (omega arith)
front_more (suc count) more [] =
    let longer : suc count + more ≡ suc (count + more) = omega arith in
    let past : drop count [] ≡ [] = drop_all count [] (omega arith) in
    ap (λ (n : ℕ). told_front n []) longer
    ∙ ap (λ (l : List Decision). no_block ∷ l)
    (front_more count more [] ∙ ap (λ (l : List Decision). told_front count [] ++ told_front more l) past)
front_more (suc count) more (first ∷ told) =
    let longer : suc count + more ≡ suc (count + more) = omega arith in
    ap (λ (n : ℕ). told_front n (first ∷ told)) longer ∙ ap (λ (l : List Decision). recorded first ∷ l) (front_more count more told)

-- scripts of one mover
pub told_together : (told one other : List Decision) → IsTold (Some told) one → IsTold (Some told) other → AreFronts one other
told_together told one other is so =
    record {
      rest = told_front n (drop m told);
      others = told_front m (drop n told);
      same =
          ap (λ (l : List Decision). l ++ told_front n (drop m told)) is
          ∙ sym (front_more m n told)
          ∙ ap (λ (k : ℕ). told_front k told) both
          ∙ front_more n m told
          ∙ ap (λ (l : List Decision). l ++ told_front m (drop n told)) (sym so);
    }
  where
    m : ℕ
    m = length one

    n : ℕ
    n = length other

    both : m + n ≡ n + m
    both = omega arith

-- ---- one run

-- what follows the scripts is the same, so the scripts are
pub same_front : (one other rest : List Decision) → one ++ rest ≡ other ++ rest → one ≡ other
same_front one other rest is = append_cancel_right one other rest is

module _ (program : CodeProgram) (input : Input) (turns : ℕ) where
  -- a run under one schedule ends in one way
  pub ends_in_one_way : (schedule : List Decision) (outcome ended : Outcome) (after other : State) → comes_under program input turns schedule outcome after
      → comes_under program input turns schedule ended other → (outcome ≡ ended) × (after ≡ other)
  ends_in_one_way schedule outcome ended after other first second = go (slice_get program.functions program.main) first second
    where
      go : (main : Option CodeFunction) → ComesWith program input schedule [] turns main outcome after → ComesWith program input schedule [] turns main ended other
          → (outcome ≡ ended) × (after ≡ other)
      go None first second = absurd first
      go (Some function) first second =
          one_end program (begun program [] function (starting program.setting input schedule turns)) after other outcome ended first second

  -- two runs whose scripts are fronts of one list
  pub record IsOneEnd (one other : List Decision) (outcome ended : Outcome) (after now : Machine) : Type 0 where
    pub script : one ≡ other
    pub outcome_too : outcome ≡ ended
    pub machine : after ≡ now

  pub ends_once : (one other : List Decision) (outcome ended : Outcome) (after now : Machine) (left still : ℕ) → AreFronts one other
      → RunsTo program (reaches_under program input turns) (comes_under program input turns) one outcome after left
      → RunsTo program (reaches_under program input turns) (comes_under program input turns) other ended now still
      → IsOneEnd one other outcome ended after now
  ends_once one other outcome ended after now left still fronts first second =
      record {
        script = same_front one other fronts.rest (fronts.same ∙ ap (λ (l : List Decision). other ++ l) (sym rests));
        outcome_too = both.0;
        machine = ap (λ (s : State). s.machine) both.1;
      }
    where
      ends : State
      ends = record { machine = after; schedule = fronts.rest; turns = left }

      ends_too : State
      ends_too = record { machine = now; schedule = fronts.others; turns = still }

      both : (outcome ≡ ended) × (ends ≡ ends_too)
      both =
          ends_in_one_way (other ++ fronts.others) outcome ended ends ends_too
          (subst (λ (l : List Decision). comes_under program input turns l outcome ends) fronts.same (first fronts.rest)) (second fronts.others)

      rests : fronts.rest ≡ fronts.others
      rests = ap (λ (s : State). s.schedule) both.1

  -- ---- transcripts

  -- all that is shown of two runs is the same
  pub record AreOne (its other : Transcript) : Type 0 where
    pub script : its.script.decisions ≡ other.script.decisions
    pub outcome : its.outcome ≡ other.outcome
    pub output : its.output ≡ other.output

  both_shown : (its other : Transcript) → HasRun program input turns its → HasRun program input turns other
      → AreFronts its.script.decisions other.script.decisions → AreOne its other
  both_shown its other has too fronts =
      record { script = one.script; outcome = one.outcome_too; output = sym has.output ∙ ap (λ (m : Machine). m.output) one.machine ∙ too.output }
    where
      one : IsOneEnd its.script.decisions other.script.decisions its.outcome other.outcome has.after too.after
      one =
          ends_once its.script.decisions other.script.decisions its.outcome other.outcome has.after too.after has.left too.left fronts has.run too.run

  -- The runs of a mover that tells its decisions are one.
  pub one_run : (told : List Decision) (its other : Transcript) → HasRun program input turns its → HasRun program input turns other
      → IsTold (Some told) its.script.decisions → IsTold (Some told) other.script.decisions → AreOne its other
  one_run told its other has too is so =
      both_shown its other has too (told_together told its.script.decisions other.script.decisions is so)

-- ---- what was printed

-- a list without the number 0 is recorded as it is
kept_number : (number : ℕ) (rest : List ℕ) → not (number == 0) ≡ true → filter (λ one. not (one == 0)) rest ≡ rest
    → filter (λ one. not (one == 0)) (number ∷ rest) ≡ number ∷ rest
kept_number number rest is same =
    ap (λ (b : Bool). if b then number ∷ filter (λ one. not (one == 0)) rest else filter (λ one. not (one == 0)) rest) is
    ∙ ap (λ (l : List ℕ). number ∷ l) same

kept_numbers : (numbers : List ℕ) → AllByRecursion (λ number. 1 ≤ number) numbers → filter (λ one. not (one == 0)) numbers ≡ numbers
kept_numbers [] are = refl
kept_numbers (number ∷ rest) are =
    let first = are.0 in
    let is : not (number == 0) ≡ true = grind (arith, nat_tests, first) in
    kept_number number rest is (kept_numbers rest are.1)

same_named : (which : Which) → HasNoZero which → named which ≡ which
same_named All is = refl
same_named (These numbers) is = ap These (kept_numbers numbers (recursion_from_All (λ number. 1 ≤ number) numbers is))

same_recorded : (decision : Decision) → HasNoZero decision.moves → HasNoZero decision.purges → recorded decision ≡ decision
same_recorded decision moves purges =
    ap (λ (w : Which). decision_of w (named decision.purges)) (same_named decision.moves moves)
    ∙ ap (λ (w : Which). decision_of decision.moves w) (same_named decision.purges purges)
  where
    decision_of : Which → Which → Decision
    decision_of moves purges = record { moves = moves; purges = purges }

-- so a script that is printed is what a mover tells that tells it
told_itself : (script : List Decision) → AllByRecursion (λ decision. HasNoZero decision.moves) script
    → AllByRecursion (λ decision. HasNoZero decision.purges) script → script ≡ told_front (length script) script
told_itself [] moves purges = refl
told_itself (decision ∷ rest) moves purges =
    ap (λ (d : Decision). d ∷ rest) (sym (same_recorded decision moves.0 purges.0))
    ∙ ap (λ (l : List Decision). recorded decision ∷ l) (told_itself rest moves.1 purges.1)

pub printed_is_told : (script : Script) → IsPrintable script → IsTold (Some script.decisions) script.decisions
printed_is_told script is =
    told_itself script.decisions (recursion_from_All (λ (decision : Decision). HasNoZero decision.moves) script.decisions is.moves)
    (recursion_from_All (λ (decision : Decision). HasNoZero decision.purges) script.decisions is.purges)

-- A mover that tells the decisions that were printed gives the same run.
pub printed_again : (program : CodeProgram) (input : Input) (turns : ℕ) (its other : Transcript) → HasRun program input turns its
    → IsPrintable its.script → HasRun program input turns other → IsTold (Some its.script.decisions) other.script.decisions
    → AreOne program input turns its other
printed_again program input turns its other has is too told =
    one_run program input turns its.script.decisions its other has too (printed_is_told its.script is) told
