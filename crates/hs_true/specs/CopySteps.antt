-- Steps of operations that copy values: Dup, Get and Conv (own).
--     done_of         what is known of an operation that does not stop
--     dup_goes, get_goes, conv_goes
use Rattle.std.proofs.Common.{◌≡◌, ◌<◌, ◌≤◌, ◌-◌, inr, ℕ, suc, Bool, true, List, [], ◌∷◌, length, Option, Some, None, refl, sym, ap, ◌∙◌, subst, arith, ◌&&◌, slice_get, not, ◌==◌}
use Rattle.std.proofs.lemmas.Bool.Decides.{nat_tests}
use Rattle.std.proofs.lemmas.Option.{same_Some}
use Rattle.std.specs.List.{AllByRecursion}
use Rattle.hs_calls.specs.Calls.{Here, moved, Wait, point_of, steady_in}
use Rattle.hs_calls.specs.Stacks.{RanTo, Stays}
use Rattle.hs_code.specs.Following.{IsNext}
use Rattle.hs_code.specs.Stacks.{Scope}
use Rattle.hs_code.specs.declared.function_code.Placed.{Placed}
use Rattle.hs_code.specs.declared.op.Op.TheVariants as op
use Rattle.hs_code_run.specs.Codes.{CodeProgram, scope_of, Point}
use Rattle.hs_code_run.specs.Steps.{taken, below, onward, operates}
use Rattle.hs_facts.specs.Changes as changes
use Rattle.hs_facts.specs.Changes.{Impact, Copied, CopiedByte, Got}
use Rattle.hs_facts.specs.MustFacts.{Keeper, MustFact, With, Saved, Kept, Locked, Live, Distinct, New, on_stack, in_slot, Under}
use Rattle.hs_hiding.specs.Holding.{Lacks, value_of}
use Rattle.hs_meaning.specs.Accesses.{unless_stopped}
use Rattle.hs_meaning.specs.Machine.{Machine, done}
use Rattle.hs_meaning.specs.Operations as operation
use Rattle.hs_meaning.specs.Operations.{operate, slot_stop, convert_stop, converted_value}
use Rattle.hs_meaning.specs.Steps.{State}
use Rattle.hs_meaning.specs.Values.{Value, number, pointer, state, structure, or_nothing}
use Rattle.hs_meaning.specs.declared.outcome.Outcome.{Outcome}
use Rattle.hs_sound_heap.specs.Roles.{nothing}
use Rattle.hs_sound_heap.specs.Since.{since_refl, May}
use Rattle.hs_tree.specs.declared.head.Variable.{Variable}
use Rattle.hs_true.specs.BareSteps.{on_same}
use Rattle.hs_truth.specs.Bare.{of_op}
use Rattle.hs_truth.specs.Good.{Good}
use Rattle.hs_truth.specs.Linked.{since_of}
use Rattle.hs_truth.specs.Owing.{operates_good}
use Rattle.hs_truth.specs.Places.{place_low, under_top, at_place, others_at, the_top}
use Rattle.hs_truth.specs.Quiet.{copies_true, IsPlain}
use Rattle.hs_truth.specs.Truth.{AllTrue, SoundAt}
use Rattle.hs_truth.specs.Values.{done_since, new_after, done_of, values_after, next_value, globals_after, places_after, same_done}
use Rattle.hs_types.specs.declared.integer.Integer.{Integer}

-- nothing plain is copied
pub copied_plain : (R : MustFact → Type 0) (from to : ℕ) (fact : MustFact) → IsPlain fact → Copied R from to fact → ⊥
copied_plain R from to (With i x) plain it = absurd plain
copied_plain R from to (Saved b x) plain it = absurd plain
copied_plain R from to (Kept b x) plain it = absurd plain
copied_plain R from to (Locked x) plain it = it
copied_plain R from to (Live x) plain it = it
copied_plain R from to (Distinct x y) plain it = it
copied_plain R from to (New i) plain it = it

not_so_plain : (i top : ℕ) → not (i == top) ≡ true → top ≡ i → ⊥
not_so_plain i top is so = grind (is, so, nat_tests, arith)

module _ (program : CodeProgram) (may : ℕ → May) (sets : ℕ → ℕ → Bool) (impact : Impact) (E : Outcome → State → Type 0)
    (ends : (outcome : Outcome) (s : State) → E outcome s) (here : Here) (ws : List Wait) (choices : List Bool) (its : Placed) (s : State)
    (good : Good program may sets impact here s.machine ws) (there : slice_get here.function.code.ops here.at ≡ Some its)
    (deep : its.places ≡ length here.stack) where
  -- the point of the operation
  abbrev point : Point
  point = point_of here ws choices

  -- what facts of the function depend on
  abbrev scope : Scope
  scope = scope_of program here.function

  -- what a purgeable bit shows of the begin of the call
  abbrev marked_by : ℕ → Type 0
  marked_by = since_of may sets here.fn ws

  -- the call goes on
  abbrev GoesOn : Point → State → Type 0
  GoesOn = Stays program (Good program may sets impact) E here s.machine ws

  -- what an operation owes that leaves the machine as it is
  abbrev Sound : ℕ → List Value → Type 1
  Sound at stack =
      SoundAt scope here.function.code impact marked_by its here s.machine
      (moved here at stack (λ k. here.lasting k && steady_in s.machine s.machine k)) s.machine

  -- ---- a value of the stack

  -- a name of a place has its value
  named_value : (R : MustFact → Type 0) → AllTrue R here s.machine marked_by → (i : ℕ) (v : Value) → at_place i here.stack ≡ Some v → (y : Variable)
      → R (With i y) → value_of s.machine y ≡ Some v
  named_value R are i v is y named = by_value (are.says (With i y) named)
    where
      by_value : (u : Value) × (at_place i here.stack ≡ Some u) × (value_of s.machine y ≡ Some u) → value_of s.machine y ≡ Some v
      by_value old = old.2 ∙ sym old.1 ∙ is

  top_of : (v : Value) (rest : List Value) → here.stack ≡ v ∷ rest → its.places - 1 ≡ length rest
  top_of v rest so = ap (λ n. n - 1) (deep ∙ ap length so) ∙ one_less (length rest)
    where
      one_less : (a : ℕ) → suc a - 1 ≡ a
      one_less a = omega arith

  top_value : (v : Value) (rest : List Value) → here.stack ≡ v ∷ rest → at_place (its.places - 1) here.stack ≡ Some v
  top_value v rest so = ap (at_place (its.places - 1)) so ∙ the_top (its.places - 1) v rest (top_of v rest so)

  -- the only value at the top
  only_top : (i : ℕ) (v w : Value) (rest : List Value) → length rest ≤ i → at_place i (v ∷ rest) ≡ Some w → v ≡ w
  only_top i v w rest high held = same_Some v w (sym (the_top i v rest (omega (high, place_low i (v ∷ rest) w held, arith))) ∙ held)

  -- ---- Dup

  dup_sound : its.op ≡ op.Dup → (v : Value) (rest : List Value) → here.stack ≡ v ∷ rest → Sound (suc here.at) (v ∷ here.stack)
  dup_sound is v rest so R names are =
      of_op program may sets impact here ws its s.machine good there R op.Dup
      (moved here (suc here.at) (v ∷ here.stack) (λ k. here.lasting k && steady_in s.machine s.machine k)) s.machine is
      (copies_true scope here.function.code R (changes.Stays scope here.function.code impact R op.Dup its.places)
      (changes.Brings scope here.function.code impact R op.Dup its.places) (length here.stack) here s.machine s.machine marked_by are (suc here.at)
      (v ∷ here.stack) good.lasts (λ x. refl) nothing (since_refl nothing s.machine.blocks) refl refl
      (record {
        under = λ fact keep. subst (λ k. Under k fact) deep keep.0;
        places = λ i low. under_top i v here.stack low;
        others = λ i n keep it. (
          (
            inr (others_at n i (its.places - 1) v here.stack it.others (top_value v rest so) (not_so_plain i (its.places - 1) keep.1)),
            it.others,
          ),
          it.nowhere,
        );
        source = λ i. on_stack (its.places - 1);
        same = λ i byte high held. top_value v rest so ∙ ap Some (only_top i v (state byte) here.stack high held);
        names = λ i y it. (v, the_top i v here.stack (it.0 ∙ deep), named_value R are (its.places - 1) v (top_value v rest so) y it.1);
        saved = saved;
        kept = kept;
        others_come = λ fact names plain it. absurd (copied_plain R (its.places - 1) its.places fact plain it);
      }))
    where
      high_is : (place : ℕ) → place ≡ its.places → length here.stack ≤ place
      high_is place at = omega (at, deep, arith)

      saved : (b : Keeper) (y : Variable) → Copied R (its.places - 1) its.places (Saved b y)
          → (i : ℕ) × (b ≡ on_stack i) × (length here.stack ≤ i) × R (Saved (on_stack (its.places - 1)) y)
      saved (on_stack place) y it = (place, refl, high_is place it.0, it.1)
      saved (in_slot b) y it = absurd it

      kept : (b : Keeper) (y : Variable) → Copied R (its.places - 1) its.places (Kept b y)
          → (i : ℕ) × (b ≡ on_stack i) × (length here.stack ≤ i) × R (Kept (on_stack (its.places - 1)) y)
      kept (on_stack place) y it = (place, refl, high_is place it.0, it.1)
      kept (in_slot b) y it = absurd it

  pub dup_goes : its.op ≡ op.Dup → (v : Value) (rest : List Value) → here.stack ≡ v ∷ rest → GoesOn (onward point (v ∷ v ∷ rest)) s
  dup_goes is v rest so =
      subst (λ stack. GoesOn (onward point (v ∷ stack)) s) so
      (on_same program may sets impact E ends here ws choices its s good there deep (suc here.at) (v ∷ here.stack) choices s.turns
      (subst (λ o. IsNext o here.function.code.cases here.at (suc here.at)) (sym is) refl)
      (λ n all. ((subst (AllByRecursion (Lacks n)) so all).0, all)) (dup_sound is v rest so))

  -- ---- Get

  get_done : (x : Variable) (v : Value) (after : Machine) → operate program.setting (operation.get x) [] s.machine ≡ done v after
      → (value_of s.machine x ≡ Some v) × (s.machine ≡ after)
  get_done x v after ran = by_value (value_of s.machine x) refl ran
    where
      by_value : (found : Option Value) → value_of s.machine x ≡ found
          → unless_stopped (slot_stop found ∷ []) (or_nothing found) s.machine s.machine ≡ done v after → (value_of s.machine x ≡ Some v) × (s.machine ≡ after)
      by_value None is so = absurd cc
      by_value (Some u) is so = (is ∙ ap Some (same_done u s.machine after v so).0, (same_done u s.machine after v so).1)

  got_plain : (R : MustFact → Type 0) (x : Variable) (to : ℕ) (fact : MustFact) → IsPlain fact → Got R x to fact → ⊥
  got_plain R x to (With i y) plain it = absurd plain
  got_plain R x to (Saved b y) plain it = absurd plain
  got_plain R x to (Kept b y) plain it = absurd plain
  got_plain R x to (Locked y) plain it = it
  got_plain R x to (Live y) plain it = it
  got_plain R x to (Distinct y z) plain it = it
  got_plain R x to (New i) plain it = it

  get_sound : (x : Variable) → its.op ≡ op.Get x → (v : Value) (after : Machine)
      → (ran : operate program.setting (operation.get x) (taken 0 here.stack) s.machine ≡ done v after)
      → SoundAt scope here.function.code impact marked_by its here s.machine
      (next_value program may sets impact here ws its (operation.get x) 0 s.machine good v after ran) after
  get_sound x is v after ran R names are =
      of_op program may sets impact here ws its s.machine good there R (op.Get x)
      (next_value program may sets impact here ws its (operation.get x) 0 s.machine good v after ran) after is
      (copies_true scope here.function.code R (changes.Stays scope here.function.code impact R (op.Get x) its.places)
      (changes.Brings scope here.function.code impact R (op.Get x) its.places) (length here.stack) here s.machine after marked_by are (suc here.at)
      (v ∷ here.stack) good.lasts values nothing
      (done_since program may sets impact here ws its (operation.get x) 0 s.machine good v after ran nothing tt) refl refl
      (record {
        under = λ fact keep. subst (λ k. Under k fact) (less_none its.places ∙ deep) keep;
        places = λ i low. under_top i v here.stack low;
        others = λ i n keep it.
            new_after program may sets impact here ws its (operation.get x) 0 s.machine good v after ran i n
            (subst (λ k. i < k) (less_none its.places ∙ deep) keep) it;
        source = λ i. in_slot x;
        same = λ i byte high held. (get_done x v after ran).0 ∙ ap Some (only_top i v (state byte) here.stack high held);
        names = λ i y it.
            (v, the_top i v here.stack (it.0 ∙ deep), values y ∙ ap (value_of s.machine) it.1 ∙ (get_done x v after ran).0);
        saved = saved;
        kept = kept;
        others_come = λ fact names plain it. absurd (got_plain R x its.places fact plain it);
      }))
    where
      less_none : (a : ℕ) → a - 0 ≡ a
      less_none a = omega arith

      values : (y : Variable) → value_of after y ≡ value_of s.machine y
      values = values_after program may sets impact here ws its (operation.get x) 0 s.machine good v after ran refl

      high_is : (place : ℕ) → place ≡ its.places → length here.stack ≤ place
      high_is place at = omega (at, deep, arith)

      saved : (b : Keeper) (y : Variable) → Got R x its.places (Saved b y)
          → (i : ℕ) × (b ≡ on_stack i) × (length here.stack ≤ i) × R (Saved (in_slot x) y)
      saved (on_stack place) y it = (place, refl, high_is place it.0, it.1)
      saved (in_slot b) y it = absurd it

      kept : (b : Keeper) (y : Variable) → Got R x its.places (Kept b y)
          → (i : ℕ) × (b ≡ on_stack i) × (length here.stack ≤ i) × R (Kept (in_slot x) y)
      kept (on_stack place) y it = (place, refl, high_is place it.0, it.1)
      kept (in_slot b) y it = absurd it

  pub get_goes : (x : Variable) → its.op ≡ op.Get x → RanTo E GoesOn (operates program its.at point 0 (operation.get x) s)
  get_goes x is =
      operates_good program may sets impact here ws its (operation.get x) 0 s.machine good there
      (subst (λ o. IsNext o here.function.code.cases here.at (suc here.at)) (sym is) refl) E ends choices its.at s refl tt
      (λ v after ran. (
        globals_after program may sets impact here ws its (operation.get x) 0 s.machine good v after ran refl,
        get_sound x is v after ran,
      ))

  -- ---- Conv

  converted_state : (kind : Integer) (u : Value) (byte : ℕ) → converted_value kind u ≡ state byte → u ≡ state byte
  converted_state kind (number bits) byte is = absurd cc
  converted_state kind (pointer p) byte is = absurd cc
  converted_state kind (state other) byte is = is
  converted_state kind (structure cells) byte is = absurd cc

  byte_plain : (R : MustFact → Type 0) (top : ℕ) (fact : MustFact) → IsPlain fact → CopiedByte R top fact → ⊥
  byte_plain R top (With i y) plain it = absurd plain
  byte_plain R top (Saved b y) plain it = absurd plain
  byte_plain R top (Kept b y) plain it = absurd plain
  byte_plain R top (Locked y) plain it = it
  byte_plain R top (Live y) plain it = it
  byte_plain R top (Distinct y z) plain it = it
  byte_plain R top (New i) plain it = it

  conv_sound : (kind : Integer) → its.op ≡ op.Conv kind → (u : Value) (rest : List Value) → here.stack ≡ u ∷ rest → (v : Value) (after : Machine)
      → (ran : operate program.setting (operation.convert kind) (taken 1 here.stack) s.machine ≡ done v after)
      → SoundAt scope here.function.code impact marked_by its here s.machine
      (next_value program may sets impact here ws its (operation.convert kind) 1 s.machine good v after ran) after
  conv_sound kind is u rest so v after ran R names are =
      of_op program may sets impact here ws its s.machine good there R (op.Conv kind)
      (next_value program may sets impact here ws its (operation.convert kind) 1 s.machine good v after ran) after is
      (copies_true scope here.function.code R (changes.Stays scope here.function.code impact R (op.Conv kind) its.places)
      (changes.Brings scope here.function.code impact R (op.Conv kind) its.places) (length (below 1 here.stack)) here s.machine after marked_by are
      (suc here.at) (v ∷ below 1 here.stack) good.lasts
      (values_after program may sets impact here ws its (operation.convert kind) 1 s.machine good v after ran refl) nothing
      (done_since program may sets impact here ws its (operation.convert kind) 1 s.machine good v after ran nothing tt) refl refl
      (record {
        under = λ fact keep. subst (λ k. Under k fact) first_is keep;
        places = λ i low. places_after program may sets impact here ws its (operation.convert kind) 1 s.machine good v after ran i low;
        others = λ i n keep it.
            new_after program may sets impact here ws its (operation.convert kind) 1 s.machine good v after ran i n (subst (λ k. i < k) first_is keep) it;
        source = λ i. on_stack (its.places - 1);
        same = λ i byte high held.
            top_value u rest so
            ∙ ap Some (converted_state kind u byte (gives ∙ only_top i v (state byte) (below 1 here.stack) high held));
        names = λ i y it. absurd it;
        saved = saved;
        kept = kept;
        others_come = λ fact names plain it. absurd (byte_plain R (its.places - 1) fact plain it);
      }))
    where
      first_is : its.places - 1 ≡ length (below 1 here.stack)
      first_is = top_of u rest so ∙ ap (λ stack. length (below 1 stack)) (sym so)

      gives : converted_value kind u ≡ v
      gives =
          (done_of (convert_stop u ∷ []) (converted_value kind u) s.machine s.machine v after
          (ap (λ stack. operate program.setting (operation.convert kind) (taken 1 stack) s.machine) (sym so) ∙ ran)).1

      high_is : (place : ℕ) → place ≡ its.places - 1 → length (below 1 here.stack) ≤ place
      high_is place at = omega (at, first_is, arith)

      saved : (b : Keeper) (y : Variable) → CopiedByte R (its.places - 1) (Saved b y)
          → (i : ℕ) × (b ≡ on_stack i) × (length (below 1 here.stack) ≤ i) × R (Saved (on_stack (its.places - 1)) y)
      saved (on_stack place) y it = (place, refl, high_is place it.0, it.1)
      saved (in_slot b) y it = absurd it

      kept : (b : Keeper) (y : Variable) → CopiedByte R (its.places - 1) (Kept b y)
          → (i : ℕ) × (b ≡ on_stack i) × (length (below 1 here.stack) ≤ i) × R (Kept (on_stack (its.places - 1)) y)
      kept (on_stack place) y it = (place, refl, high_is place it.0, it.1)
      kept (in_slot b) y it = absurd it

  pub conv_goes : (kind : Integer) → its.op ≡ op.Conv kind → (u : Value) (rest : List Value) → here.stack ≡ u ∷ rest
      → RanTo E GoesOn (operates program its.at point 1 (operation.convert kind) s)
  conv_goes kind is u rest so =
      operates_good program may sets impact here ws its (operation.convert kind) 1 s.machine good there
      (subst (λ o. IsNext o here.function.code.cases here.at (suc here.at)) (sym is) refl) E ends choices its.at s refl tt
      (λ v after ran. (
        globals_after program may sets impact here ws its (operation.convert kind) 1 s.machine good v after ran refl,
        conv_sound kind is u rest so v after ran,
      ))
