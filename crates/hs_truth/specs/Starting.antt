-- A run begins: no handle is anywhere, so what must hold of the call of `main` does (own).
--     begun_good          the call of `main`
use Rattle.std.proofs.Common.{◌≡◌, ℕ, zero, suc, Bool, true, false, [], slice_get, Some, refl, sym, ◌∙◌}
use Rattle.hs_calls.specs.Calls.{beginning, fixed_in}
use Rattle.hs_code_run.specs.Codes.{CodeFunction, CodeProgram, scope_of}
use Rattle.hs_facts.specs.Changes.{Impact}
use Rattle.hs_hiding.specs.Calls.{opened_lacks, SameOutside, opened_same}
use Rattle.hs_hiding.specs.Holding.{Lacking, OnDone}
use Rattle.hs_hiding.specs.Starting.{starting_lacks}
use Rattle.hs_meaning.specs.Frames.{opened}
use Rattle.hs_meaning.specs.Machine.{Machine, Done, done, stopped}
use Rattle.hs_meaning.specs.Objects.{starting_machine}
use Rattle.hs_meaning.specs.declared.input.Input.{Input}
use Rattle.hs_sound_heap.specs.Since.{May}
use Rattle.hs_truth.specs.Good.{Good}
use Rattle.hs_truth.specs.Linked.{since_of}
use Rattle.hs_truth.specs.Truth.{at_entry}

-- ---- the call of main

module _ (program : CodeProgram) (may : ℕ → May) (sets : ℕ → ℕ → Bool) (impact : Impact) (input : Input) (function : CodeFunction)
    (found : slice_get program.functions program.main ≡ Some function) where
  -- the machine before `main` is called
  abbrev start : Machine
  start = starting_machine program.setting input

  none_fixed : (n : ℕ) → fixed_in (starting_machine program.setting input) n ≡ false
  none_fixed zero = refl
  none_fixed (suc k) = refl

  pub begun_good : OnDone (λ it after. Good program may sets impact (beginning program.main function (starting_machine program.setting input)) after [])
      (opened program.setting function.parameters function.variables [] (starting_machine program.setting input))
  begun_good =
      by_done (opened program.setting function.parameters function.variables [] (starting_machine program.setting input))
      (opened_same program.setting function.parameters function.variables [] (starting_machine program.setting input))
      (λ n. opened_lacks n program.setting function.parameters function.variables [] (starting_machine program.setting input) tt
      (starting_lacks n program.setting input))
    where
      never : (n : ℕ) → fixed_in (starting_machine program.setting input) n ≡ true → ⊥
      never n is = Rattle.std.proofs.Common.true≢false (sym is ∙ none_fixed n)

      by_done : (its : Done (Unit {0})) → OnDone (λ it after. SameOutside (starting_machine program.setting input) after) its
          → ((n : ℕ) → OnDone (λ it after. Lacking n after) its)
          → OnDone (λ it after. Good program may sets impact (beginning program.main function (starting_machine program.setting input)) after []) its
      by_done (stopped why after) same lacks = tt
      by_done (done it after) same lacks =
          record {
            found = found;
            lasts = λ n is. absurd (never n is);
            known = λ n gone. record { places = tt; nowhere = lacks n };
            linked = tt;
            round = zero;
            facts =
                at_entry (scope_of program function) function.code impact (since_of may sets program.main [])
                (beginning program.main function (starting_machine program.setting input)) after refl;
          }
