-- The rows of a function answer whether its facts hold.
--     Rows ..            what was found of a function
--     facts_are          its answers are right
--     all_exact          so are those of a program, if those of each function are
use Rattle.std.proofs.Common.{◌≡◌, ◌≢◌, ◌<◌, ℕ, zero, suc, ◌==◌, nat_lt, Bool, true, false, not, ◌&&◌, ap, sym, subst, ◌∙◌, refl, arith, List, [], ◌∷◌, length, slice_get, Option, Some, None}
use Rattle.std.proofs.lemmas.Option.{slice_get_within}
use Rattle.std.specs.Bool.{Decides}
use Rattle.hs_code.specs.Codes.{scope_of}
use Rattle.hs_code.specs.Stacks.{Scope}
use Rattle.hs_code.specs.declared.function_code.FunctionCode.{FunctionCode}
use Rattle.hs_code.specs.declared.function_code.Placed.{Placed}
use Rattle.hs_cuts.specs.Cuts as cuts
use Rattle.hs_effects.specs.Answers as effects
use Rattle.hs_effects.specs.Effecting.{number_of}
use Rattle.hs_fact_rows.specs.Cells.{Cell, cell_of, index_of, saved_in, with_at}
use Rattle.hs_fact_rows.specs.Cuts as low_rows
use Rattle.hs_fact_rows.specs.Given.{facts_in}
use Rattle.hs_fact_rows.specs.Laws.Numbers.{some_one, less_number, less_numbers, other_variables, same_itself}
use Rattle.hs_fact_rows.specs.declared.plan.Plan.{Plan}
use Rattle.hs_facts.specs.Effects.{Assigns, Effect, HasEffect, HoldsAt, Leads, WholeCode, disposes, impact_of, itself, ops_in, placed_in, through, unlocks}
use Rattle.hs_facts.specs.Laws.Bytes.{IsOfByte}
use Rattle.hs_facts.specs.MustFacts.{AreNames, MustFact, Under, in_slot, With, Saved, Locked, Live, Distinct}
use Rattle.hs_facts.specs.Names.{is_name, names_of, same_variable}
use Rattle.hs_facts.specs.Rounds.{Holds}
use Rattle.hs_lock_rows.specs.Laws.Exact.{impact_with}
use Rattle.hs_lock_rows.specs.Laws.Solved as locks
use Rattle.hs_lock_rows.specs.Laws.Tests.{and_test, and_then, as_test, eq_test, lt_test, not_test, false_true}
use Rattle.hs_lock_rows.specs.Changing.{change_of}
use Rattle.hs_lock_rows.specs.Layout.{IsOfLocks, bit_of, field_of, number, total}
use Rattle.hs_lock_rows.specs.Making.{makes}
use Rattle.hs_lock_rows.specs.declared.change.Change.{Change}
use Rattle.hs_lock_rows.specs.declared.field.Field.{Field}
use Rattle.hs_lock_rows.specs.declared.field.Field.TheVariants as field
use Rattle.hs_must.specs.Answers.{IsFacts, IsName, IsPlace, IsSlot, distinct_by, has_in, is_slot_of, is_there, live_by, locked_by, names_by, names_in, saved_by, with_by}
use Rattle.hs_must.specs.Changing.{changes_by, may}
use Rattle.hs_must.specs.Functions.{FunctionAnswers}
use Rattle.hs_must.specs.Laws.Changing.{change_is, changes_at}
use Rattle.hs_must.specs.Laws.Impacts.{Holds-impact}
use Rattle.hs_restores.specs.Laws.Jobs.{IsFor, task_is, task_of}
use Rattle.hs_restores.specs.Laws.Naming.{are_names, distinct_names}
use Rattle.hs_restores.specs.Laws.Windows.{part_of}
use Rattle.hs_rows.specs.Sets.{Sets, has}
use Rattle.hs_tree.specs.Trees.{TypedFunction}
use Rattle.hs_tree.specs.declared.head.Variable.{Variable}

-- ---- lists

-- a part of all
take_all : (list : List Variable) → part_of 0 (length list) list ≡ list
take_all [] = refl
take_all (x ∷ rest) = ap (λ (list : List Variable). x ∷ list) (take_all rest)

-- past its end a list has nothing
none_past : {X : Type 0} (list : List X) (at : ℕ) → slice_get list at ≡ None → at < length list → ⊥
none_past [] at e low = absurd (omega arith)
none_past (x ∷ rest) zero e low = absurd cc
none_past (x ∷ rest) (suc at) e low = none_past rest at e (omega (arith, low))

-- ---- effects

-- a chain of calls begins at a function that is there
there_from : (whole : WholeCode) (f last at : ℕ) (its : Placed) → Leads whole f last → placed_in whole last at ≡ Some its → f < length whole.functions
there_from whole f last at its (itself it) there = by_case (slice_get whole.functions it) refl there
  where
    by_case : (code : Option FunctionCode) → slice_get whole.functions it ≡ code → slice_get (ops_in code) at ≡ Some its → it < length whole.functions
    by_case None e k = absurd cc
    by_case (Some code) e k = slice_get_within whole.functions it code e
there_from whole f last at its (through it g end calls leads) there = by_case (slice_get whole.functions it) refl calls.there
  where
    by_case : (code : Option FunctionCode) → slice_get whole.functions it ≡ code → slice_get (ops_in code) calls.at ≡ Some calls.its
        → it < length whole.functions
    by_case None e k = absurd cc
    by_case (Some code) e k = slice_get_within whole.functions it code e

-- an effect is answered
module _ (whole : WholeCode) (answers : effects.Answers) (exact : effects.IsExact whole answers) where
  abbrev pub may_unlock : ℕ → Bool
  may_unlock = may answers (length whole.functions) unlocks

  abbrev pub may_dispose : ℕ → Bool
  may_dispose = may answers (length whole.functions) disposes

  effect_test : (f : ℕ) (effect : Effect) → Decides (may answers (length whole.functions) effect f) (HasEffect whole f effect)
  effect_test f effect =
      as_test (may answers (length whole.functions) effect f) ((f < length whole.functions) × HasEffect whole f effect) (HasEffect whole f effect)
      (λ h. h.1) (λ does. (there_from whole f does.last does.at does.its does.leads does.there, does))
      (and_then (nat_lt f (length whole.functions)) (has answers.effects f (number_of effect)) (f < length whole.functions) (HasEffect whole f effect)
      (lt_test f (length whole.functions)) (λ low. exact.effects f effect low))

-- ---- a function

module _ (whole : WholeCode) (answers : effects.Answers) (exact : effects.IsExact whole answers) (f : ℕ) (function : TypedFunction) (code : FunctionCode)
    (of_function : slice_get whole.program.functions f ≡ Some function) (of_code : slice_get whole.functions f ≡ Some code) (plan : Plan)
    (slots : List Variable) (assigned : ℕ → ℕ → Bool)
    (assigned_true : (g h : ℕ) → assigned g h ≡ true → Assigns whole g h) (assigns_true : (g h : ℕ) → Assigns whole g h → assigned g h ≡ true)
    (its : IsFor (scope_of whole.program function) code plan 0 (length (names_of (scope_of whole.program function) code)) slots assigned)
    (some : 0 < length (names_of (scope_of whole.program function) code)) (low rows : Sets)
    (low_solved : low_rows.IsSolved (task_of (scope_of whole.program function) code plan 0 (length (names_of (scope_of whole.program function) code))
    slots assigned) low)
    (solved : cuts.IsSolved (cuts.the_task (total plan) code (makes plan (names_of (scope_of whole.program function) code) slots assigned low
    (changes_by (scope_of whole.program function) (names_of (scope_of whole.program function) code) slots (may_unlock whole answers exact)
    (may_dispose whole answers exact) code.ops))) rows) where
  abbrev scope : Scope
  scope = scope_of whole.program function

  abbrev names : List Variable
  names = names_of (scope_of whole.program function) code

  abbrev part : List Variable
  part = part_of 0 (length (names_of (scope_of whole.program function) code)) (names_of (scope_of whole.program function) code)

  whole_part : part ≡ names
  whole_part = take_all names

  abbrev task : low_rows.Task
  task = task_of (scope_of whole.program function) code plan 0 (length (names_of (scope_of whole.program function) code)) slots assigned

  abbrev unlocks_by : ℕ → Bool
  unlocks_by = may_unlock whole answers exact

  abbrev disposes_by : ℕ → Bool
  disposes_by = may_dispose whole answers exact

  abbrev changes : List Change
  changes = changes_by (scope_of whole.program function) (names_of (scope_of whole.program function) code) slots (may_unlock whole answers exact)
      (may_dispose whole answers exact) code.ops

  number_of_name : (h : ℕ) (x : Variable) → slice_get names h ≡ Some x → index_of names x ≡ h
  number_of_name h x there = distinct_names scope code h x there

  name_is : (h : ℕ) (x : Variable) → slice_get names h ≡ Some x → is_name scope code x ≡ true
  name_is h x there =
      are_names scope code x
      ∙ less_number (index_of names x) (length names) (subst (λ n. n < length names) (sym (number_of_name h x there)) (slice_get_within names h x there))

  listed : (x : Variable) → is_name scope code x ≡ true → index_of names x < length names
  listed x is = less_numbers (index_of names x) (length names) (sym (are_names scope code x) ∙ is)

  is_of : locks.IsOf scope task unlocks_by disposes_by changes
  is_of = record {
    of = task_is scope code plan 0 (length names) slots assigned its;
    some = subst (λ n. 0 < n) (sym its.plan_names) some;
    listed = λ x is. subst (λ (list : List Variable). index_of list x < length list) (sym whole_part) (listed x is);
    changes_are = λ at it there.
        changes_at scope names slots unlocks_by disposes_by code.ops at it there
        ∙ ap (λ (c : Change). Some c) (change_is scope names slots unlocks_by disposes_by code (are_names scope code) it.op it.places)
        ∙ ap (λ (list : List Variable). Some (change_of scope code list slots unlocks_by disposes_by it.op it.places)) (sym whole_part);
  }

  solved_here : cuts.IsSolved (locks.the_task scope task unlocks_by disposes_by changes is_of low low_solved) rows
  solved_here =
      subst (λ (list : List Variable). cuts.IsSolved (cuts.the_task (total plan) code (makes plan list slots assigned low changes)) rows) (sym whole_part) solved

  -- ---- what calls do

  to_whole : (at : ℕ) (fact : MustFact) → Holds scope code (impact_with assigned unlocks_by disposes_by) at fact → Holds scope code (impact_of whole) at fact
  to_whole = Holds-impact (impact_with assigned unlocks_by disposes_by) (impact_of whole) (record {
    assigns = assigns_true;
    unlocks = λ g. (effect_test whole answers exact g unlocks).1;
    disposes = λ g. (effect_test whole answers exact g disposes).1;
  }) scope code

  from_whole : (at : ℕ) (fact : MustFact) → Holds scope code (impact_of whole) at fact → Holds scope code (impact_with assigned unlocks_by disposes_by) at fact
  from_whole = Holds-impact (impact_of whole) (impact_with assigned unlocks_by disposes_by) (record {
    assigns = assigned_true;
    unlocks = λ g. (effect_test whole answers exact g unlocks).0;
    disposes = λ g. (effect_test whole answers exact g disposes).0;
  }) scope code

  at_whole : (at : ℕ) (fact : MustFact) → Holds scope code (impact_of whole) at fact → HoldsAt whole f at fact
  at_whole at fact h = record { function = function; of_function = of_function; code = code; its_code = of_code; holds = h }

  of_whole : (at : ℕ) (fact : MustFact) → HoldsAt whole f at fact → Holds scope code (impact_of whole) at fact
  of_whole at fact h =
      subst (λ (c : FunctionCode). Holds scope c (impact_of whole) at fact) (some_one h.code code (sym h.its_code ∙ of_code))
      (subst (λ (t : TypedFunction). Holds (scope_of whole.program t) h.code (impact_of whole) at fact)
      (some_one h.function function (sym h.of_function ∙ of_function)) h.holds)

  -- ---- facts of locks

  there : (at : ℕ) → at < length code.ops → (it : Placed) × (slice_get code.ops at ≡ Some it)
  there at low_at = by_case (slice_get code.ops at) refl
    where
      by_case : (it : Option Placed) → slice_get code.ops at ≡ it → (it : Placed) × (slice_get code.ops at ≡ Some it)
      by_case None e = absurd (none_past code.ops at e low_at)
      by_case (Some it) e = (it, e)

  abbrev facts : FunctionAnswers
  facts = record { plan = plan; ops = length code.ops; low = low; locks = rows; slots = slots }

  there_test : (at h : ℕ) → h < length names → Decides (is_there facts at h) (at < length code.ops)
  there_test at h below =
      as_test (is_there facts at h) ((at < length code.ops) × (h < plan.names)) (at < length code.ops) (λ k. k.0)
      (λ k. (k, subst (λ n. h < n) (sym its.plan_names) below))
      (and_test (nat_lt at (length code.ops)) (nat_lt h plan.names) (at < length code.ops) (h < plan.names) (lt_test at (length code.ops)) (lt_test h plan.names))

  -- a fact that names no place
  lock_test : (at h : ℕ) (kind : Field) (fact : MustFact) → IsOfLocks fact → AreNames scope code fact → ((depth : ℕ) → Under depth fact) → h < length names
      → field_of names slots fact ≡ kind → bit_of names slots fact ≡ h → Decides (has_in facts kind at h) (HoldsAt whole f at fact)
  lock_test at h kind fact is named under below same_field same_bit =
      as_test (has_in facts kind at h) ((at < length code.ops) × HoldsAt whole f at fact) (HoldsAt whole f at fact) (λ k. k.1)
      (λ k. (slice_get_within code.ops at ((of_whole at fact k) 0).0.0 ((of_whole at fact k) 0).0.1, k))
      (and_then (is_there facts at h) (has rows at (number plan kind h)) (at < length code.ops) (HoldsAt whole f at fact) (there_test at h below) (λ low_at.
      let it = there at low_at in (
        λ bit. at_whole at fact (to_whole at fact (locks.locks-Holds scope task unlocks_by disposes_by changes is_of low low_solved rows solved_here at fact is
            (it.0, it.1, record { under = under it.0.places; named = named }) (sym here ∙ bit))),
        λ k. here ∙ locks.Holds-locks scope task unlocks_by disposes_by changes is_of low low_solved rows solved_here at fact is (from_whole at fact
            (of_whole at fact k)),
      )))
    where
      here : has rows at (number plan kind h) ≡ has rows at (number plan (field_of part slots fact) (bit_of part slots fact))
      here =
          ap (λ (k : Field). has rows at (number plan k h)) (sym same_field)
          ∙ ap (λ n. has rows at (number plan (field_of names slots fact) n)) (sym same_bit)
          ∙ ap (λ (list : List Variable). has rows at (number plan (field_of list slots fact) (bit_of list slots fact))) (sym whole_part)

  -- ---- With and Saved

  -- a fact whose places are there
  low_test : (at h : ℕ) (cell : Cell) (fact : MustFact) → IsOfByte fact → AreNames scope code fact
      → ((it : Placed) → slice_get code.ops at ≡ Some it → Under it.places fact) → h < length names → cell_of names slots fact ≡ cell
      → Decides (is_there facts at h && facts_in plan low at cell) (HoldsAt whole f at fact)
  low_test at h cell fact is named under below same =
      as_test (is_there facts at h && facts_in plan low at cell) ((at < length code.ops) × HoldsAt whole f at fact) (HoldsAt whole f at fact) (λ k. k.1)
      (λ k. (slice_get_within code.ops at ((of_whole at fact k) 0).0.0 ((of_whole at fact k) 0).0.1, k))
      (and_then (is_there facts at h) (facts_in plan low at cell) (at < length code.ops) (HoldsAt whole f at fact) (there_test at h below) (λ low_at.
      let it = there at low_at in (
        λ bit. at_whole at fact (to_whole at fact (locks.low-Holds scope task unlocks_by disposes_by changes is_of low low_solved at fact is
            (it.0, it.1, record { under = under it.0 it.1; named = named }) (sym here ∙ bit))),
        λ k. here ∙ locks.Holds-low scope task unlocks_by disposes_by changes is_of low low_solved at fact is (from_whole at fact (of_whole at fact k)),
      )))
    where
      here : facts_in plan low at cell ≡ facts_in plan low at (cell_of part slots fact)
      here =
          ap (facts_in plan low at) (sym same)
          ∙ ap (λ (list : List Variable). facts_in plan low at (cell_of list slots fact)) (sym whole_part)

  -- ---- the answers

  names_are : names_in whole f ≡ names
  names_are =
      ap (λ (t : Option TypedFunction). names_by whole t (slice_get whole.functions f)) of_function
      ∙ ap (λ (c : Option FunctionCode). names_by whole (Some function) c) of_code

  named_at : (h : ℕ) (x : Variable) → IsName whole f h x → slice_get names h ≡ Some x
  named_at h x is = subst (λ (list : List Variable). slice_get list h ≡ Some x) names_are is

  within : (h : ℕ) (x : Variable) → slice_get names h ≡ Some x → h < length names
  within h x is = slice_get_within names h x is

  locked_test : (at h : ℕ) (x : Variable) → IsName whole f h x → Decides (locked_by facts at h) (HoldsAt whole f at (Locked x))
  locked_test at h x is =
      let named = named_at h x is in
      lock_test at h field.Locked (Locked x) tt (name_is h x named) (λ depth. tt) (within h x named) refl (number_of_name h x named)

  live_test : (at h : ℕ) (x : Variable) → IsName whole f h x → Decides (live_by facts at h) (HoldsAt whole f at (Live x))
  live_test at h x is =
      let named = named_at h x is in
      lock_test at h field.Live (Live x) tt (name_is h x named) (λ depth. tt) (within h x named) refl (number_of_name h x named)

  distinct_test : (at a b : ℕ) (x y : Variable) → IsName whole f a x → IsName whole f b y → Decides (distinct_by facts at a b) (HoldsAt whole f at (Distinct x y))
  distinct_test at a b x y is also =
      as_test (distinct_by facts at a b) ((a < plan.names) × (a ≢ b) × HoldsAt whole f at (Distinct x y)) (HoldsAt whole f at (Distinct x y)) (λ k. k.2)
      (λ k. (subst (λ n. a < n) (sym its.plan_names) (within a x one), other k, k))
      (as_test (distinct_by facts at a b) ((a < plan.names) × ((a ≢ b) × HoldsAt whole f at (Distinct x y)))
      ((a < plan.names) × (a ≢ b) × HoldsAt whole f at (Distinct x y)) (λ k. (k.0, k.1.0, k.1.1)) (λ k. (k.0, (k.1, k.2)))
      (and_test (nat_lt a plan.names) (not (a == b) && has_in facts (field.Apart a) at b) (a < plan.names)
      ((a ≢ b) × HoldsAt whole f at (Distinct x y)) (lt_test a plan.names)
      (and_then (not (a == b)) (has_in facts (field.Apart a) at b) (a ≢ b) (HoldsAt whole f at (Distinct x y)) (not_test (a == b) (a ≡ b) (eq_test a b))
      (λ differ. lock_test at b (field.Apart a) (Distinct x y) tt
      (name_is a x one, name_is b y two, different (λ e. differ (sym (number_of_name a x one) ∙ ap (index_of names) e ∙ number_of_name b y two)))
      (λ depth. tt) (within b y two) (ap field.Apart (number_of_name a x one)) (number_of_name b y two)))))
    where
      one : slice_get names a ≡ Some x
      one = named_at a x is

      two : slice_get names b ≡ Some y
      two = named_at b y also

      different : (x ≡ y → ⊥) → same_variable x y ≡ false
      different ne = other_variables x y ne

      other : HoldsAt whole f at (Distinct x y) → a ≢ b
      other k e =
          let apart = ((of_whole at (Distinct x y) k) 0).0.2.named.2 in
          let same : x ≡ y = some_one x y (sym one ∙ ap (slice_get names) e ∙ two) in
          false_true (sym apart ∙ subst (λ z. same_variable x z ≡ true) same (same_itself x))

  with_test : (at place h : ℕ) (x : Variable) → IsName whole f h x → IsPlace whole f at place → Decides (with_by facts at place h) (HoldsAt whole f at (With place x))
  with_test at place h x is there_is =
      let named = named_at h x is in
      let it = there_is.0 in
      let in_code : slice_get code.ops at ≡ Some it =
      subst (λ (c : Option FunctionCode). slice_get (ops_in c) at ≡ Some it) of_code there_is.1 in
      let low_place = (task_is scope code plan 0 (length names) slots assigned its).places at it in_code in
      let below = there_is.2 in
      let in_plan : place < plan.places = omega (arith, low_place, below) in
      subst (λ (t : Bool). Decides (is_there facts at h && t) (HoldsAt whole f at (With place x)))
      (sym (ap (λ t. t && facts_in plan low at (with_at place h)) (less_number place plan.places in_plan)))
      (low_test at h (with_at place h) (With place x) tt (name_is h x named)
      (λ other is_there. subst (λ (p : Placed). place < p.places) (some_one it other (sym in_code ∙ is_there)) below) (within h x named)
      (ap (with_at place) (number_of_name h x named)))

  saved_test : (at : ℕ) (b : Variable) (h : ℕ) (x : Variable) → IsName whole f h x → IsSlot whole f b
      → Decides (saved_by facts at b h) (HoldsAt whole f at (Saved (in_slot b) x))
  saved_test at b h x is slot =
      let named = named_at h x is in
      low_test at h (saved_in (index_of slots b) h) (Saved (in_slot b) x) tt
      (subst (λ (t : Option TypedFunction). is_slot_of whole t b ≡ true) of_function slot, name_is h x named) (λ it is_there. tt) (within h x named)
      (ap (saved_in (index_of slots b)) (number_of_name h x named))

  pub facts_are : IsFacts whole f facts
  facts_are = record { locked = locked_test; live = live_test; distinct = distinct_test; with = with_test; saved = saved_test }
