-- Steps of operations that are not in the table of changes (own).
--     pushes, keeps_stack, drops      those that leave the machine as it is
--     used_goes                       a value that is used as a number
--     bare_operates                   those that take values and leave one
use Rattle.std.proofs.Common.{◌≡◌, ◌-◌, inr, ℕ, suc, Bool, true, false, List, ◌∷◌, length, Option, Some, None, refl, sym, ap, ◌∙◌, subst, arith, slice_get, map}
use Rattle.std.specs.List.{AllByRecursion}
use Rattle.hs_calls.specs.Calls.{Here, Wait, point_of, waiting_of}
use Rattle.hs_calls.specs.Changing.{since}
use Rattle.hs_calls.specs.Stacks.{RanTo, Stays}
use Rattle.hs_code.specs.Following.{IsNext}
use Rattle.hs_code.specs.Stacks.{Scope}
use Rattle.hs_code.specs.declared.function_code.Placed.{Placed}
use Rattle.hs_code.specs.declared.op.Op.{Op}
use Rattle.hs_code_run.specs.Codes.{CodeProgram, scope_of, Point}
use Rattle.hs_code_run.specs.Steps.{below, holds, operates_if, onward}
use Rattle.hs_facts.specs.Changes.{Impact}
use Rattle.hs_facts.specs.MustFacts.{Under}
use Rattle.hs_facts.specs.Names.{taken as taken_by}
use Rattle.hs_hiding.specs.Holding.{Lacks}
use Rattle.hs_lowering.specs.Laws.Variables as variables
use Rattle.hs_meaning.specs.Accesses.{by_stop}
use Rattle.hs_meaning.specs.Laws.Changes.Operations.{SpeaksOf}
use Rattle.hs_meaning.specs.Operations.{Operation}
use Rattle.hs_meaning.specs.Steps.{State, Step, then_with, used, ran_at}
use Rattle.hs_meaning.specs.Values.{Value, bits_in, number_stop}
use Rattle.hs_meaning.specs.declared.outcome.Outcome.{Outcome}
use Rattle.hs_meaning.specs.declared.outcome.Stop.{Stop}
use Rattle.hs_sound_heap.specs.Roles.{nothing}
use Rattle.hs_sound_heap.specs.Since.{May}
use Rattle.hs_truth.specs.Bare.{onward_at, IsBare, bare_sound, same_good}
use Rattle.hs_truth.specs.Good.{Good}
use Rattle.hs_truth.specs.Linked.{since_of}
use Rattle.hs_truth.specs.Owing.{operates_good}
use Rattle.hs_truth.specs.Places.{below_length, OthersLack, under_top, at_place}
use Rattle.hs_truth.specs.Truth.{SoundAt}
use Rattle.hs_truth.specs.Values.{bare_value, globals_after}

module _ (program : CodeProgram) (may : ℕ → May) (sets : ℕ → ℕ → Bool) (impact : Impact) (E : Outcome → State → Type 0)
    (ends : (outcome : Outcome) (s : State) → E outcome s) (here : Here) (ws : List Wait) (choices : List Bool) (its : Placed) (s : State)
    (good : Good program may sets impact here s.machine ws) (there : slice_get here.function.code.ops here.at ≡ Some its)
    (deep : its.places ≡ length here.stack) where
  -- the point of the operation
  abbrev point : Point
  point = point_of here ws choices

  -- what facts of the function depend on
  abbrev scope : Scope
  scope = scope_of program here.function

  -- the call goes on
  abbrev pub GoesOn : Point → State → Type 0
  GoesOn = Stays program (Good program may sets impact) E here s.machine ws

  -- the facts of a table row that is empty
  abbrev pub Bare : Op → Type 1
  Bare = IsBare program may sets impact here ws its s.machine good there

  -- wherever it goes, with that stack
  abbrev pub with_stack : ℕ → List Value → Here
  with_stack = onward_at program may sets impact here ws its s.machine good there

  -- what an operation owes that leaves the machine as it is
  abbrev pub Sound : ℕ → List Value → Type 1
  Sound at stack =
      SoundAt scope here.function.code impact (since_of may sets here.fn ws) its here s.machine (with_stack at stack) s.machine

  -- it goes on so
  pub on_same : (at : ℕ) (stack : List Value) (later : List Bool) (turns : ℕ) → IsNext its.op here.function.code.cases here.at at
      → ((n : ℕ) → AllByRecursion (Lacks n) here.stack → AllByRecursion (Lacks n) stack) → Sound at stack
      → GoesOn (record { frame = record { code = here.function.code; at = at; stack = stack }; waiting = map waiting_of ws; choices = later })
      (record s { turns = turns })
  on_same at stack later turns follows lack sound = (
    at,
    stack,
    later,
    refl,
    same_good program may sets impact here ws its s.machine good there at stack follows lack sound,
  )

  follows_on : (o : Op) → its.op ≡ o → IsNext o here.function.code.cases here.at (suc here.at) → IsNext its.op here.function.code.cases here.at (suc here.at)
  follows_on o is next = subst (λ o. IsNext o here.function.code.cases here.at (suc here.at)) (sym is) next

  to_bare : (o : Op) → its.op ≡ o → Bare o → Bare its.op
  to_bare o is bare = subst Bare (sym is) bare

  taken_is : (o : Op) (k : ℕ) → its.op ≡ o → taken_by scope o ≡ k → its.places - taken_by scope its.op ≡ length here.stack - k
  taken_is o k is so = ap (λ n. n - taken_by scope its.op) deep ∙ ap (λ o. length here.stack - taken_by scope o) is ∙ ap (λ n. length here.stack - n) so

  no_less : (a : ℕ) → a - 0 ≡ a
  no_less a = omega arith

  -- ---- a value is pushed, or nothing

  pushed_sound : (o : Op) → its.op ≡ o → Bare o → taken_by scope o ≡ 0 → (v : Value) → ((n : ℕ) → Lacks n v) → Sound (suc here.at) (v ∷ here.stack)
  pushed_sound o is bare none v lacks =
      bare_sound program may sets impact here ws its s.machine good there (suc here.at) (length here.stack) (v ∷ here.stack) (to_bare o is bare)
      (taken_is o 0 is none ∙ no_less (length here.stack)) (λ i low. under_top i v here.stack low) (λ i n low others. (inr (lacks n), others))

  same_stack : (o : Op) → its.op ≡ o → Bare o → taken_by scope o ≡ 0 → (at : ℕ) → Sound at here.stack
  same_stack o is bare none at =
      bare_sound program may sets impact here ws its s.machine good there at (length here.stack) here.stack (to_bare o is bare)
      (taken_is o 0 is none ∙ no_less (length here.stack)) (λ i low. refl) (λ i n low others. others)

  pub pushes : (o : Op) → its.op ≡ o → Bare o → taken_by scope o ≡ 0 → IsNext o here.function.code.cases here.at (suc here.at) → (v : Value)
      → ((n : ℕ) → Lacks n v) → GoesOn (onward point (v ∷ here.stack)) s
  pushes o is bare none next v lacks =
      on_same (suc here.at) (v ∷ here.stack) choices s.turns (follows_on o is next) (λ n all. (lacks n, all)) (pushed_sound o is bare none v lacks)

  pub keeps_stack : (o : Op) → its.op ≡ o → Bare o → taken_by scope o ≡ 0 → (at : ℕ) → IsNext o here.function.code.cases here.at at
      → (later : List Bool) (turns : ℕ)
      → GoesOn (record { frame = record { code = here.function.code; at = at; stack = here.stack }; waiting = map waiting_of ws; choices = later })
      (record s { turns = turns })
  keeps_stack o is bare none at next later turns =
      on_same at here.stack later turns (subst (λ o. IsNext o here.function.code.cases here.at at) (sym is) next) (λ n all. all)
      (same_stack o is bare none at)

  -- ---- the top is taken

  pub drops : (o : Op) → its.op ≡ o → Bare o → taken_by scope o ≡ 1 → (v : Value) (rest : List Value) → here.stack ≡ v ∷ rest → (at : ℕ)
      → IsNext o here.function.code.cases here.at at
      → GoesOn (record { frame = record { code = here.function.code; at = at; stack = rest }; waiting = map waiting_of ws; choices = choices }) s
  drops o is bare one v rest so at next =
      on_same at rest choices s.turns (subst (λ o. IsNext o here.function.code.cases here.at at) (sym is) next)
      (λ n all. (subst (AllByRecursion (Lacks n)) so all).1)
      (bare_sound program may sets impact here ws its s.machine good there at (length rest) rest (to_bare o is bare)
      (taken_is o 1 is one ∙ ap (λ stack. length stack - 1) so ∙ one_less (length rest))
      (λ i low. sym (under_top i v rest low) ∙ ap (at_place i) (sym so)) (λ i n low others. (subst (OthersLack n i) so others).1))
    where
      one_less : (a : ℕ) → suc a - 1 ≡ a
      one_less a = omega arith

  -- ---- a value is used as a number

  pub used_goes : (v : Value) (next : ℕ → Step Point) → ((bits : ℕ) → RanTo E GoesOn (next bits s)) → RanTo E GoesOn (then_with next (used its.at v s))
  used_goes v next each = by_stop_of (number_stop v)
    where
      by_stop_of : (why : Option Stop) → RanTo E GoesOn (then_with next (ran_at its.at s (by_stop why (bits_in v) s.machine s.machine)))
      by_stop_of None = each (bits_in v)
      by_stop_of (Some why) = ends _ _

  -- ---- operations of the machine that are not in the table

  module _ (o : Op) (is : its.op ≡ o) (bare : Bare o) (count : ℕ) (operation : Operation) (same : taken_by scope o ≡ count)
      (no_set : variables.is_set operation ≡ false) (quiet : SpeaksOf (since nothing) program.setting operation)
      (permits : SpeaksOf (since (may here.fn)) program.setting operation) (next : IsNext o here.function.code.cases here.at (suc here.at)) where
    first_is : holds count here.stack ≡ true → its.places - taken_by scope its.op ≡ length (below count here.stack)
    first_is held = taken_is o count is same ∙ below_length count here.stack held

    pub bare_operates : (b : Bool) → holds count here.stack ≡ b → RanTo E GoesOn (operates_if program its.at point b count operation s)
    bare_operates false held = ends _ _
    bare_operates true held =
        operates_good program may sets impact here ws its operation count s.machine good there (follows_on o is next) E ends choices its.at s refl permits
        (λ v after ran. (
          globals_after program may sets impact here ws its operation count s.machine good v after ran no_set,
          bare_value program may sets impact here ws its operation count s.machine good v after ran no_set nothing quiet refl refl
              (λ R fact keep. subst (λ k. Under k fact) (first_is held) ((to_bare o is bare).under R fact keep)) (to_bare o is bare).none,
        ))
