-- Restores that are noted, one window of the names after the other.
--     noted_none      before the first window
--     noted_more      after one window more
--     noted_all       after all of them
use Rattle.std.proofs.Common.{◌≡◌, ◌<◌, ◌≤◌, ◌⊎◌, inl, inr, replicate, ℕ, zero, suc, ◌+◌, Bool, true, false, ap, sym, subst, ◌∙◌, refl, arith, List, length, slice_get, Option, Some}
use Rattle.std.proofs.lemmas.Bool.{cases_lt}
use Rattle.std.proofs.lemmas.List.{length-replicate}
use Rattle.std.proofs.lemmas.Option.{slice_get_within}
use Rattle.std.specs.Bool.{Decides}
use Rattle.hs_code.specs.Codes.{scope_of}
use Rattle.hs_code.specs.declared.function_code.FunctionCode.{FunctionCode}
use Rattle.hs_code.specs.declared.function_code.Placed.{Placed}
use Rattle.hs_effects.specs.Effecting.{noted}
use Rattle.hs_fact_rows.specs.Cells.{index_of}
use Rattle.hs_fact_rows.specs.Cuts.{IsSolved}
use Rattle.hs_fact_rows.specs.Laws.Numbers.{some_one, false_not_true, less_numbers}
use Rattle.hs_fact_rows.specs.declared.plan.Plan.{Plan}
use Rattle.hs_facts.specs.Effects.{WholeCode, IsRestoreAt, ops_in}
use Rattle.hs_facts.specs.Names.{is_name, names_of}
use Rattle.hs_restores.specs.Laws.Jobs.{IsFor, task_of}
use Rattle.hs_restores.specs.Laws.Naming.{are_names}
use Rattle.hs_restores.specs.Restoring.{AddsShown, IsReady, Noted, Shows}
use Rattle.hs_restores.specs.Stepping.{greatest}
use Rattle.hs_rows.specs.Sets.{Sets}
use Rattle.hs_tree.specs.Trees.{TypedFunction}
use Rattle.hs_tree.specs.declared.head.Variable.{Variable}
use Rattle.hs_restores.specs.Laws.Restoring.{shown_restore, restore_shown}

-- ---- what is noted

none_noted : (count at : ℕ) → noted (slice_get (replicate count false) at) ≡ false
none_noted zero at = refl
none_noted (suc count) zero = refl
none_noted (suc count) (suc at) = none_noted count at

-- no restore is noted, and none is asked for
pub noted_none : (whole : WholeCode) (f : ℕ) (names : List Variable) (code : FunctionCode) → slice_get whole.functions f ≡ Some code
    → Noted whole f names 0 (replicate (length code.ops) false)
noted_none whole f names code of_code = record {
  long =
      length-replicate (length code.ops) false
      ∙ sym (ap (λ (it : Option FunctionCode). length (ops_in it)) of_code);
  back = λ at h. false_not_true (sym (none_noted (length code.ops) at) ∙ h);
  first = λ at r below. absurd (omega (arith, below));
}

module _ (whole : WholeCode) (f : ℕ) (function : TypedFunction) (code : FunctionCode) (slots : List Variable) (assigned : ℕ → ℕ → Bool)
    (ready : IsReady whole f function code slots assigned) (plan : Plan) (from count : ℕ)
    (fits : from + count ≤ length (names_of (scope_of whole.program function) code))
    (plan_names : plan.names ≡ count) (plan_slots : plan.slots ≡ length slots) (plan_places : plan.places ≡ greatest 0 code.ops) where
  pub window_is : IsFor (scope_of whole.program function) code plan from count slots assigned
  window_is = record {
    fits = fits;
    plan_names = plan_names;
    plan_slots = plan_slots;
    plan_places = plan_places;
    gets = ready.gets;
    sets = ready.sets;
    calls = ready.calls;
  }

  -- those of the window are noted too
  pub noted_more : (sets : Sets) → IsSolved (task_of (scope_of whole.program function) code plan from count slots assigned) sets → (old new : List Bool)
      → AddsShown (scope_of whole.program function) plan sets code.ops (length code.ops) old new
      → Noted whole f (names_of (scope_of whole.program function) code) from old
      → Noted whole f (names_of (scope_of whole.program function) code) (from + count) new
  noted_more sets solved old new adds noted_old = record {
    long = adds.long ∙ noted_old.long;
    back = λ at h. back at (adds.back at h);
    first = λ at r below. first at r below (cases_lt (index_of (names_of (scope_of whole.program function) code) r.handle) from);
  }
    where
      back : (at : ℕ) → (noted (slice_get old at) ≡ true) ⊎ ((it : Placed) × (slice_get code.ops at ≡ Some it) × Shows (scope_of whole.program
          function) plan sets at it) → IsRestoreAt whole f at
      back at (inl h) = noted_old.back at h
      back at (inr h) =
          shown_restore whole f function code ready.of_function ready.of_code plan from count slots assigned ready.assigned_true ready.assigns_true
          window_is sets solved at h.0 h.1 h.2

      first : (at : ℕ) (r : IsRestoreAt whole f at) → index_of (names_of (scope_of whole.program function) code) r.handle < from + count
          → (index_of (names_of (scope_of whole.program function) code) r.handle < from)
          ⊎ (from ≤ index_of (names_of (scope_of whole.program function) code) r.handle) → noted (slice_get new at) ≡ true
      first at r below (inl low) = adds.kept at (noted_old.first at r low)
      first at r below (inr high) =
          let there : slice_get code.ops at ≡ Some r.its =
          subst (λ (c : FunctionCode). slice_get c.ops at ≡ Some r.its) (some_one r.code code (sym r.its_code ∙ ready.of_code)) r.there in
          adds.comes at r.its (slice_get_within code.ops at r.its there) there
          (restore_shown whole f function code ready.of_function ready.of_code plan from count slots assigned ready.assigned_true ready.assigns_true
          window_is sets solved at r.its there r high below)

-- all names are done
pub noted_all : (whole : WholeCode) (f : ℕ) (function : TypedFunction) (code : FunctionCode) → slice_get whole.program.functions f ≡ Some function
    → slice_get whole.functions f ≡ Some code → (bound : ℕ) (row : List Bool) → length (names_of (scope_of whole.program function) code) ≤ bound
    → Noted whole f (names_of (scope_of whole.program function) code) bound row → (at : ℕ) → Decides (noted (slice_get row at)) (IsRestoreAt whole f at)
noted_all whole f function code of_function of_code bound row all its at = (its.back at, λ r. its.first at r (below r))
  where
    below : (r : IsRestoreAt whole f at) → index_of (names_of (scope_of whole.program function) code) r.handle < bound
    below r =
        let one = some_one r.function function (sym r.of_function ∙ of_function) in
        let two = some_one r.code code (sym r.its_code ∙ of_code) in
        let exists = (r.held 0).0.2.named in
        let named : is_name (scope_of whole.program function) code r.handle ≡ true =
        subst (λ (c : FunctionCode). is_name (scope_of whole.program function) c r.handle ≡ true) two
        (subst (λ (t : TypedFunction). is_name (scope_of whole.program t) r.code r.handle ≡ true) one exists) in
        let within = less_numbers (index_of (names_of (scope_of whole.program function) code) r.handle)
        (length (names_of (scope_of whole.program function) code)) (sym (are_names (scope_of whole.program function) code r.handle) ∙ named) in
        omega (arith, within, all)
