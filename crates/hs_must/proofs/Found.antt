-- What is found of a function, and of all of them.
--     facts_found      the answers of a function are right
--     named            its handle names
--     ready_from       its lists are made from the code of the program
--     some_none, some_next      so many functions are found
--     all_exact        all are, and the answers are exact
use Rattle.std.proofs.Common.{◌≡◌, ◌<◌, ◌≤◌, ◌⊎◌, ℕ, zero, suc, ◌+◌, nat_lt, ◌&&◌, ap, sym, subst, ◌∙◌, refl, inl, inr, arith, List, [], ◌∷◌, ◌++◌, length, slice_get, Bool, Option, Some, None}
use Rattle.std.proofs.lemmas.Bool.{cases_lt}
use Rattle.std.proofs.lemmas.Option.{slice_get_within}
use Rattle.std.specs.Bool.{Decides}
use Rattle.hs_code.specs.Codes.{IsCode, scope_of}
use Rattle.hs_code.specs.declared.function_code.FunctionCode.{FunctionCode}
use Rattle.hs_code.specs.declared.function_code.Placed.{Placed}
use Rattle.hs_cuts.specs.Cuts as cuts
use Rattle.hs_effects.specs.Answers as effects
use Rattle.hs_fact_rows.specs.Cuts as low_rows
use Rattle.hs_fact_rows.specs.declared.plan.Plan.{Plan}
use Rattle.hs_facts.specs.Effects.{HoldsAt, WholeCode, disposes, unlocks}
use Rattle.hs_facts.specs.MustFacts.{in_slot, With, Saved, Locked, Live, Distinct}
use Rattle.hs_facts.specs.Names.{names_of}
use Rattle.hs_lock_rows.specs.Layout.{total}
use Rattle.hs_lock_rows.specs.Making.{makes}
use Rattle.hs_lock_rows.specs.declared.change.Change.{Change}
use Rattle.hs_must.specs.Answers.{HasMany, IsExact, IsFacts, IsName, asked, distinct_by, live_by, locked_by, names_by, names_in, saved_by, with_by}
use Rattle.hs_must.specs.Changing.{changes_by, may}
use Rattle.hs_must.specs.Ends.{AreKept, AreSome, IsFound}
use Rattle.hs_must.specs.Functions.{FunctionAnswers}
use Rattle.hs_must.specs.Laws.Exact.{facts_are}
use Rattle.hs_must.specs.declared.kept.Kept.{Kept}
use Rattle.hs_must.specs.declared.kept.Kept.TheVariants as kept
use Rattle.hs_restores.specs.Laws.Jobs.{IsFor, task_of}
use Rattle.hs_restores.specs.Laws.Assigning.{ready_is}
use Rattle.hs_restores.specs.Laws.Numbering.{is_in}
use Rattle.hs_restores.specs.Marks.{is_changed}
use Rattle.hs_restores.specs.Restoring.{IsAssigned, IsReady}
use Rattle.hs_rows.specs.Sets.{Sets, has, width}
use Rattle.hs_tree.specs.Trees.{TypedFunction}
use Rattle.hs_tree.specs.declared.globals.Global.{Global}
use Rattle.hs_tree.specs.declared.head.Variable.{Variable}

module _ (whole : WholeCode) (f : ℕ) (function : TypedFunction) (code : FunctionCode) (of_function : slice_get whole.program.functions f ≡ Some function)
    (of_code : slice_get whole.functions f ≡ Some code) where
  pub named : names_in whole f ≡ names_of (scope_of whole.program function) code
  named =
      ap (λ (t : Option TypedFunction). names_by whole t (slice_get whole.functions f)) of_function
      ∙ ap (λ (c : Option FunctionCode). names_by whole (Some function) c) of_code

  module _ (answers : effects.Answers) (exact : effects.IsExact whole answers) (plan : Plan) (slots : List Variable) (assigned : ℕ → ℕ → Bool)
      (ready : IsReady whole f function code slots assigned) (names : List Variable) (names_is : names ≡ names_of (scope_of whole.program function) code)
      (some : 0 < length names) (its : IsFor (scope_of whole.program function) code plan 0 (length names) slots assigned) (low rows : Sets)
      (low_solved : low_rows.IsSolved (task_of (scope_of whole.program function) code plan 0 (length names) slots assigned) low) where
    pub facts_found : (n : ℕ) (ops : List Placed) (changes : List Change) → n ≡ length whole.functions → ops ≡ code.ops
        → changes ≡ changes_by (scope_of whole.program function) names slots (may answers n unlocks) (may answers n disposes) ops
        → cuts.IsSolved (cuts.the_task (total plan) code (makes plan names slots assigned low changes)) rows
        → IsFacts whole f (record { plan = plan; ops = length ops; low = low; locks = rows; slots = slots })
    facts_found n ops changes n_is ops_is changes_are solved =
        subst (λ (list : List Placed). IsFacts whole f (record { plan = plan; ops = length list; low = low; locks = rows; slots = slots })) (sym ops_is)
        (facts_are whole answers exact f function code of_function of_code plan slots assigned ready.assigned_true ready.assigns_true
        (subst (λ (list : List Variable). IsFor (scope_of whole.program function) code plan 0 (length list) slots assigned) names_is its)
        (subst (λ (list : List Variable). 0 < length list) names_is some) low rows
        (subst (λ (list : List Variable). low_rows.IsSolved (task_of (scope_of whole.program function) code plan 0 (length list) slots assigned) low)
        names_is low_solved)
        (subst (λ (list : List Variable). cuts.IsSolved (cuts.the_task (total plan) code (makes plan list slots assigned low
        (changes_by (scope_of whole.program function) list slots (may answers (length whole.functions) unlocks)
        (may answers (length whole.functions) disposes) code.ops))) rows) names_is
        (subst (λ (list : List Placed). cuts.IsSolved (cuts.the_task (total plan) code (makes plan names slots assigned low
        (changes_by (scope_of whole.program function) names slots (may answers (length whole.functions) unlocks)
        (may answers (length whole.functions) disposes) list))) rows) ops_is
        (subst (λ m. cuts.IsSolved (cuts.the_task (total plan) code (makes plan names slots assigned low
        (changes_by (scope_of whole.program function) names slots (may answers m unlocks) (may answers m disposes) ops))) rows) n_is
        (subst (λ (list : List Change). cuts.IsSolved (cuts.the_task (total plan) code (makes plan names slots assigned low list)) rows) changes_are
        solved)))))

  -- what its slots and assigned globals are made of
  pub ready_from : (are : ∥ IsCode whole.program whole.classes whole.functions ∥₁) (answers : effects.Answers) → effects.IsExact whole answers
      → answers.assigned.count ≡ length whole.functions → length whole.program.globals ≤ width answers.assigned → (sets : Sets) → sets ≡ answers.assigned
      → (slots : List Variable) → ((v : Variable) → is_in slots v ≡ is_changed (scope_of whole.program function) code (has sets f) v)
      → (n : ℕ) → n ≡ length whole.functions → (globals : List Global) → globals ≡ whole.program.globals
      → IsReady whole f function code slots (λ g h. nat_lt g n && (nat_lt h (length globals) && has sets g h))
  ready_from are answers exact count wide sets same slots changed n n_is globals globals_is =
      subst (λ m. IsReady whole f function code slots (λ g h. nat_lt g m && (nat_lt h (length globals) && has sets g h))) (sym n_is)
      (subst (λ (list : List Global). IsReady whole f function code slots (λ g h. nat_lt g (length whole.functions) && (nat_lt h (length list)
      && has sets g h))) (sym globals_is)
      (ready_is whole are sets known f function code of_function of_code slots changed))
    where
      known : IsAssigned whole sets
      known = subst (IsAssigned whole) (sym same) (record {
        count = count;
        wide = wide;
        exact = λ g h low below. exact.assigns g h (omega (arith, low, count)) below;
      })

-- ---- all functions

pub none_empty : (list : List Variable) → length list ≡ 0 → list ≡ []
none_empty [] e = refl
none_empty (x ∷ rest) e = absurd (omega (arith, e))

-- a function that is not of the program has no names
pub none_named : (whole : WholeCode) (f : ℕ) → slice_get whole.program.functions f ≡ None → names_in whole f ≡ []
none_named whole f none = ap (λ (t : Option TypedFunction). names_by whole t (slice_get whole.functions f)) none

pub some_none : (whole : WholeCode) → AreSome whole 0 []
some_none whole = record { long = refl; found = λ f its there. absurd cc }

at_end : {X : Type 0} (list : List X) (x : X) → slice_get (list ++ x ∷ []) (length list) ≡ Some x
at_end [] x = refl
at_end (y ∷ rest) x = at_end rest x

before_end : {X : Type 0} (list : List X) (x : X) (k : ℕ) → k < length list → slice_get (list ++ x ∷ []) k ≡ slice_get list k
before_end [] x k low = absurd (omega arith)
before_end (y ∷ rest) x zero low = refl
before_end (y ∷ rest) x (suc k) low = before_end rest x k (omega (arith, low))

end_length : {X : Type 0} (list : List X) (x : X) → length (list ++ x ∷ []) ≡ suc (length list)
end_length [] x = refl
end_length (y ∷ rest) x = ap (λ n. suc n) (end_length rest x)

-- one function more
pub some_next : (whole : WholeCode) (count : ℕ) (all : List Kept) (its : Kept) → AreSome whole count all
    → IsFound whole count its → AreSome whole (count + 1) (all ++ its ∷ [])
some_next whole count all its are new = record {
  long = let last = end_length all its in let long = are.long in omega (arith, last, long);
  found = λ f it there. by_place f it there (cases_lt f (length all));
}
  where
    by_place : (f : ℕ) (it : Kept) → slice_get (all ++ its ∷ []) f ≡ Some it → (f < length all) ⊎ (length all ≤ f) → IsFound whole f it
    by_place f it there (inl low) = are.found f it (sym (before_end all its f low) ∙ there)
    by_place f it there (inr high) =
        let within = slice_get_within (all ++ its ∷ []) f it there in
        let long = end_length all its in
        let last : f ≡ length all = omega (arith, within, long, high) in
        let is : its ≡ it = some_same its it (sym (at_end all its) ∙ sym (ap (slice_get (all ++ its ∷ [])) last) ∙ there) in
        subst (λ n. IsFound whole n it) (sym (last ∙ are.long)) (subst (IsFound whole count) is new)
      where
        some_same : (a b : Kept) → Some a ≡ Some b → a ≡ b
        some_same a b e = cc

-- ---- the answers

past_none : {X : Type 0} (list : List X) (k : ℕ) → length list ≤ k → slice_get list k ≡ None
past_none [] k far = refl
past_none (x ∷ rest) zero far = absurd (omega arith)
past_none (x ∷ rest) (suc k) far = past_none rest k (omega (arith, far))

none_past : {X : Type 0} (list : List X) (k : ℕ) → slice_get list k ≡ None → length list ≤ k
none_past [] k none = omega arith
none_past (x ∷ rest) zero none = absurd cc
none_past (x ∷ rest) (suc k) none = let far = none_past rest k none in omega (arith, far)

-- a function without code has no names
no_code : (whole : WholeCode) (f : ℕ) → slice_get whole.functions f ≡ None → names_in whole f ≡ []
no_code whole f none =
    ap (λ (c : Option FunctionCode). names_by whole (slice_get whole.program.functions f) c) none ∙ by_case (slice_get whole.program.functions f)
  where
    by_case : (t : Option TypedFunction) → names_by whole t None ≡ []
    by_case None = refl
    by_case (Some function) = refl

module _ (whole : WholeCode) (all : List Kept) (are : AreSome whole (length whole.functions) all) where
  -- a function that is not there, or of which nothing is kept, has no names
  no_names : (f : ℕ) → slice_get all f ≡ None → names_in whole f ≡ []
  no_names f none =
      let far = none_past all f none in
      let long = are.long in
      no_code whole f (past_none whole.functions f (omega (arith, far, long)))

  in_function : (f : ℕ) (P : Type 0) (answer : FunctionAnswers → Bool) → (names_in whole f ≡ [] → ⊥)
      → ((its : FunctionAnswers) → IsFacts whole f its → Decides (answer its) P) → Decides (asked (slice_get all f) answer) P
  in_function f P answer some tests = by_case (slice_get all f) refl
    where
      by_kept : (it : Kept) → AreKept whole f it → Decides (asked (Some it) answer) P
      by_kept (kept.Named its) are = tests its are
      by_kept (kept.Nameless rows) none = absurd (some none)

      by_case : (it : Option Kept) → slice_get all f ≡ it → Decides (asked it answer) P
      by_case None e = absurd (some (no_names f e))
      by_case (Some it) e = by_kept it (are.found f it e).facts

  has_names : (f h : ℕ) (x : Variable) → IsName whole f h x → names_in whole f ≡ [] → ⊥
  has_names f h x is none = none_there (subst (λ (list : List Variable). slice_get list h ≡ Some x) none is)
    where
      none_there : slice_get [] h ≡ Some x → ⊥
      none_there e = absurd cc

  few : (f : ℕ) → HasMany whole f → ⊥
  few f many = by_case (slice_get all f) refl
    where
      empty : names_in whole f ≡ [] → ⊥
      empty none = let long = ap length none in absurd (omega (arith, many, long))

      by_case : (it : Option Kept) → slice_get all f ≡ it → ⊥
      by_case None e = empty (no_names f e)
      by_case (Some it) e = let most = (are.found f it e).few in absurd (omega (arith, many, most))

  pub all_exact : IsExact whole all × ((f : ℕ) → HasMany whole f → ⊥)
  all_exact = (
    record {
      functions = are.long;
      rows = λ f its there. (are.found f its there).rows;
      locked = λ f at h x is. in_function f (HoldsAt whole f at (Locked x)) (λ its. locked_by its at h) (has_names f h x is)
          (λ its facts. facts.locked at h x is);
      live = λ f at h x is. in_function f (HoldsAt whole f at (Live x)) (λ its. live_by its at h) (has_names f h x is) (λ its facts. facts.live at h x is);
      distinct = λ f at a b x y is also. in_function f (HoldsAt whole f at (Distinct x y)) (λ its. distinct_by its at a b) (has_names f a x is)
          (λ its facts. facts.distinct at a b x y is also);
      with = λ f at place h x is there. in_function f (HoldsAt whole f at (With place x)) (λ its. with_by its at place h) (has_names f h x is)
          (λ its facts. facts.with at place h x is there);
      saved = λ f at b h x is slot. in_function f (HoldsAt whole f at (Saved (in_slot b) x)) (λ its. saved_by its at b h) (has_names f h x is)
          (λ its facts. facts.saved at b h x is slot);
    },
    few,
  )
