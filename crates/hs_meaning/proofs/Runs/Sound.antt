-- A straight tree with no stale use is safe: each step does to the still state what it does to the moving one, and keeps
-- what every moving run keeps, so both runs put out the same and end alike, and in no misuse.
use Rattle.std.proofs.Common.{◌≡◌, ℕ, ◌+◌, ◌==◌, Bool, true, false, ◌&&◌, List, [], ◌∷◌, ◌++◌, map, inl, inr, Result, Ok, Err, nat_le, refl, sym, ap, ◌∙◌, subst, if◌then◌else◌, suc-ne-zero}
use Rattle.std.specs.List.{list_any}
use Rattle.std.proofs.lemmas.Bool.{and_parts, false_from_ne_true}
use Rattle.std.proofs.lemmas.List.{map-append, length-map}
use Rattle.std.proofs.lemmas.Option.{none-some}
use Rattle.hs_base.specs.declared.pos.Pos.{Pos}
use Rattle.hs_tree.specs.declared.straight.tree.Kind.TheVariants.{Handle, Pointer, Letter}
use Rattle.hs_tree.specs.declared.straight.tree.Variable.{Variable}
use Rattle.hs_tree.specs.declared.straight.tree.Expr.{Expr}
use Rattle.hs_tree.specs.declared.straight.tree.Expr.TheVariants as expr
use Rattle.hs_tree.specs.declared.straight.tree.Step.{Step}
use Rattle.hs_tree.specs.declared.straight.tree.Step.TheVariants as form
use Rattle.hs_tree.specs.declared.straight.tree.Straight.{Straight}
use Rattle.hs_tree.specs.Straight.Fine.{is_declared, was_assigned, is_fine_expr, is_fine_step, are_fine_names, are_fine_steps}
use Rattle.hs_heap.specs.Blocks.{Block, new_block}
use Rattle.hs_heap.specs.Memory.{has_room}
use Rattle.hs_heap.specs.declared.decision.Decision.{Decision}
use Rattle.hs_meaning.specs.Straight.Value.{Value, handle, byte_of, char_of}
use Rattle.hs_meaning.specs.Straight.Run.{State, Halt, Ending, ◌>>=◌, at_place, assigned, store_through, next_decision, new_handle_powers, shifted_by, allocated, is_granted, locked_by, after, going_on, run_from, start, IsMisuse, IsSafe}
use Rattle.hs_meaning.specs.Straight.StaleUses.{Use, IsStaleUse, IsCountOf, HasStaleUses, step_uses, expr_uses, uses_after}
use Rattle.hs_meaning.specs.Straight.Along.{is_stale_after}
use Rattle.hs_meaning.specs.Straight.AlongLaws.{IsStaleUse-from_along}
use Rattle.hs_meaning.specs.declared.input.Input.{Input}
use Rattle.hs_meaning.proofs.Runs.Still.{still_value, still_block, still, Each, IsPlain, byte_of-still, live_bytes-still, shift_from-still, shift_from-nothing}
use Rattle.hs_meaning.proofs.Runs.Alike.{IsHarmlessHalt, Alike, IsFresh, alike_at_place, alike_then, value_of-alike, IsFreshUse, store_through-alike, derive_through-alike, lock_through-alike, eval-alike}
use Rattle.hs_meaning.proofs.Runs.Kept.{IsKept, kept_on, fresh_from_kept}
use Rattle.hs_meaning.proofs.Runs.Steps.{putchar_next, set_next, derive_next, store_next, lock_form, lock_next, allocated_if, new_handle_next}

-- both states after a step are alike, and the moving one keeps all
abbrev AreAlike : List Variable → List Step → Step → Result State Halt → Result State Halt → Type 0
AreAlike variables done step x y = Alike IsHarmlessHalt still (IsKept variables (step ∷ done)) x y

-- HLock and HUnlock do to the still state what they do to the moving one
lock_alike : (on : Bool) (variables : List Variable) (done : List Step) (state : State) (pos : Pos) (locked : ℕ)
    → is_declared Handle variables locked ≡ true → IsKept variables done state
    → AreAlike variables done (lock_form on pos locked) (locked_by on state pos locked) (locked_by on (still state) pos locked)
lock_alike on variables done state pos locked declared kept =
    alike_then _ _ _ _ _ _ _ _ (alike_at_place _ _ pos _ _ (value_of-alike state locked))
    (λ value found.
    alike_then _ _ _ _ _ _ _ _ (alike_at_place _ _ pos _ _ (lock_through-alike on state.heap kept.is_plain value))
    (λ heap set. (
      refl,
      kept_on variables done state (lock_form on pos locked) (record state { heap = heap }) kept
          (lock_next on variables done state pos locked value heap declared found set kept),
    )))

-- the shift of the still state is the still state of the shift
shifted_by-still : (state : State) → Each IsPlain state.heap → shifted_by new_handle_powers (still state) ≡ still (shifted_by new_handle_powers state)
shifted_by-still state plain =
    ap (λ (heap : List Block). record (still state) { heap = heap })
    (shift_from-nothing 1 (map still_block state.heap) ∙ sym (shift_from-still new_handle_powers (next_decision state.schedule) 1 state.heap plain))

-- a block fits the still heap if it fits the moving one
has_room-still : (heap : List Block) (size : ℕ) → has_room (map still_block heap) size ≡ has_room heap size
has_room-still heap size = rw (live_bytes-still heap, length-map heap still_block) refl

-- an allocation is granted in the still state if it is in the moving one
is_granted-still : (input : Input) (state : State) (size : ℕ) → is_granted input (still state) size ≡ is_granted input state size
is_granted-still input state size =
    ap (λ (room : Bool). if list_any (λ refused. refused == state.allocations + 1) input.refused then false else room) (has_room-still state.heap size)

-- an allocation in the still state is the still state of the allocation
allocated_if-still : (granted : Bool) (state : State) (assigned_to size : ℕ)
    → allocated_if granted (still state) assigned_to size ≡ still (allocated_if granted state assigned_to size)
allocated_if-still true state assigned_to size = rw (map-append still_block state.heap (new_block size ∷ []), length-map state.heap still_block) refl
allocated_if-still false state assigned_to size = refl

-- so is the allocation as the run decides it
allocated-still : (input : Input) (state : State) (assigned_to size : ℕ)
    → allocated input (still state) assigned_to size ≡ still (allocated input state assigned_to size)
allocated-still input state assigned_to size =
    ap (λ (granted : Bool). allocated_if granted (still state) assigned_to size) (is_granted-still input state size)
    ∙ allocated_if-still (is_granted input state size) state assigned_to size

-- no pointer of the list is stale after the steps done
abbrev AreNotStale : List Step → List ℕ → Type 0
AreNotStale done pointers = Each (λ pointer. is_stale_after pointer done ≡ false) pointers

-- the pointers that a fine expression uses are fresh, if they are not stale
fresh_uses : (variables : List Variable) (done : List Step) (state : State) (value : Expr) → IsKept variables done state
    → is_fine_expr variables done value ≡ true
    → AreNotStale done (expr_uses value) → Each (IsFreshUse state) (expr_uses value)
fresh_uses variables done state (expr.Letter pos letter) kept fine safe = tt
fresh_uses variables done state (expr.Load pos pointer) kept fine safe =
    (fresh_from_kept variables done state pointer kept (and_parts (is_declared Pointer variables pointer) (was_assigned pointer done) fine).0 safe.0, tt)
fresh_uses variables done state (expr.Number value) kept fine safe = tt

-- after a step whose uses are not stale the still state is the still one of the moving state, or both stop alike
step_alike : (input : Input) (variables : List Variable) (done : List Step) (state : State) (step : Step) → IsKept variables done state
    → is_fine_step variables done step ≡ true
    → AreNotStale done (step_uses step) → AreAlike variables done step (after input state step) (after input (still state) step)
unfolding lock_form
step_alike input variables done state (form.NewHandle assigned_to size) kept fine safe = (
  ap Ok
      (ap (λ (s : State). allocated input s assigned_to size) (shifted_by-still state kept.is_plain)
      ∙ allocated-still input (shifted_by new_handle_powers state) assigned_to size),
  kept_on variables done state (form.NewHandle assigned_to size) (allocated input (shifted_by new_handle_powers state) assigned_to size) kept
      (new_handle_next input variables done state assigned_to size (and_parts (is_declared Handle variables assigned_to) (nat_le size 32767) fine).0 kept),
)
step_alike input variables done state (form.HLock pos locked) kept fine safe =
    lock_alike true variables done state pos locked (and_parts (is_declared Handle variables locked) (was_assigned locked done) fine).0 kept
step_alike input variables done state (form.HUnlock pos locked) kept fine safe =
    lock_alike false variables done state pos locked (and_parts (is_declared Handle variables locked) (was_assigned locked done) fine).0 kept
step_alike input variables done state (form.Derive pos pointer from) kept fine safe =
    alike_then _ _ _ _ _ _ _ _ (alike_at_place _ _ pos _ _ (value_of-alike state from))
    (λ value found.
    alike_then _ _ _ _ _ _ _ _ (alike_at_place _ _ pos _ _ (derive_through-alike state.heap kept.is_plain value))
    (λ got master. (
      refl,
      kept_on variables done state (form.Derive pos pointer from) (assigned state pointer got) kept
          (derive_next variables done state pos pointer from value got parts.0 is_handle found master kept),
    )))
  where
    parts : (is_declared Pointer variables pointer ≡ true) × ((is_declared Handle variables from && was_assigned from done) ≡ true)
    parts = and_parts (is_declared Pointer variables pointer) (is_declared Handle variables from && was_assigned from done) fine

    is_handle : is_declared Handle variables from ≡ true
    is_handle = (and_parts (is_declared Handle variables from) (was_assigned from done) parts.1).0
step_alike input variables done state (form.Set letter value) kept fine safe =
    alike_then _ _ _ _ _ _ _ _ (eval-alike state value (fresh_uses variables done state value kept parts.1 safe))
    (λ got known. (
      ap (λ (byte : ℕ). Ok (assigned (still state) letter (char_of byte))) (byte_of-still got),
      kept_on variables done state (form.Set letter value) (assigned state letter (char_of (byte_of got))) kept
          (set_next variables done state letter value (char_of (byte_of got)) parts.0 kept),
    ))
  where
    parts : (is_declared Letter variables letter ≡ true) × (is_fine_expr variables done value ≡ true)
    parts = and_parts (is_declared Letter variables letter) (is_fine_expr variables done value) fine
step_alike input variables done state (form.Store pos pointer value) kept fine safe =
    alike_then _ _ _ _ _ _ _ _ (alike_at_place _ _ pos _ _ (value_of-alike state pointer))
    (λ to found.
    alike_then _ _ _ _ _ _ _ _ (eval-alike state value (fresh_uses variables done state value kept parts.1 safe.1))
    (λ got known. stored to (byte_of got) (byte_of (still_value got)) (byte_of-still got)
    (fresh_from_kept variables done state pointer kept is_pointer safe.0 to found)))
  where
    parts : ((is_declared Pointer variables pointer && was_assigned pointer done) ≡ true) × (is_fine_expr variables done value ≡ true)
    parts = and_parts (is_declared Pointer variables pointer && was_assigned pointer done) (is_fine_expr variables done value) fine

    is_pointer : is_declared Pointer variables pointer ≡ true
    is_pointer = (and_parts (is_declared Pointer variables pointer) (was_assigned pointer done) parts.0).0

    stored : (to : Value) (byte still_byte : ℕ) → still_byte ≡ byte → IsFresh state.heap to
        → AreAlike variables done (form.Store pos pointer value)
        (at_place pos (store_through state.heap to byte) >>= (λ heap. Ok (record state { heap = heap })))
        (at_place pos (store_through (map still_block state.heap) (still_value to) still_byte) >>= (λ heap. Ok (record (still state) { heap = heap })))
    stored to byte still_byte same fresh = rw same
        (alike_then _ _ _ _ _ _ _ _ (alike_at_place _ _ pos _ _ (store_through-alike state.heap to byte fresh))
        (λ heap is_stored. (
          refl,
          kept_on variables done state (form.Store pos pointer value) (record state { heap = heap }) kept
              (store_next variables done state pos pointer value heap is_stored kept),
        )))
step_alike input variables done state (form.Putchar value) kept fine safe =
    alike_then _ _ _ _ _ _ _ _ (eval-alike state value (fresh_uses variables done state value kept fine safe))
    (λ got known. (
      ap (λ (byte : ℕ). Ok (record (still state) { output = state.output ++ byte ∷ [] })) (byte_of-still got),
      kept_on variables done state (form.Putchar value) (record state { output = state.output ++ byte_of got ∷ [] }) kept
          (putchar_next variables done state value (state.output ++ byte_of got ∷ []) kept),
    ))

-- both runs end alike, and in no misuse
abbrev EndAlike : Ending → Ending → Type 0
EndAlike ending still_ending = (ending ≡ still_ending) × (IsMisuse ending.outcome → ⊥)

-- runs that go on alike from alike results end alike
going_on-alike : (variables : List Variable) (done : List Step) (step : Step) (state : State) (x y : Result State Halt)
    (go : State → Ending) → AreAlike variables done step x y
    → ((next : State) → IsKept variables (step ∷ done) next → EndAlike (go next) (go (still next)))
    → EndAlike (going_on state x go) (going_on (still state) y go)
going_on-alike variables done step state (Ok next) y go alike ends =
    subst (λ (r : Result State Halt). EndAlike (go next) (going_on (still state) r go)) (sym alike.0) (ends next alike.1)
going_on-alike variables done step state (Err halt) y go alike ends =
    (sym (ap (λ (r : Result State Halt). going_on (still state) r go) alike.0), alike.1 halt.pos)

-- what each item of two lists has, each item of each of them has
Each-append : {A : Type 0} (P : A → Type 0) (xs ys : List A) → Each P (xs ++ ys) → Each P xs × Each P ys
Each-append P [] ys each = (tt, each)
Each-append P (x ∷ xs) ys each = let rest : Each P xs × Each P ys = Each-append P xs ys each.1 in ((each.0, rest.0), rest.1)

-- each item that a map gives has P, so each item has what follows
Each-map : {A B : Type 0} (P : B → Type 0) (f : A → B) (Q : A → Type 0) (xs : List A) → ((x : A) → P (f x) → Q x) → Each P (map f xs) → Each Q xs
Each-map P f Q [] weaker each = tt
Each-map P f Q (x ∷ xs) weaker each = (weaker x each.0, Each-map P f Q xs weaker each.1)

-- if none of the items has P, each has it not
Each-from_count : {A : Type 0} (P : A → Type 0) (xs : List A) → IsCountOf P xs 0 → Each (λ x. P x → ⊥) xs
Each-from_count P [] count = tt
Each-from_count P (x ∷ xs) (inl (m, held, rest, same)) = absurd (suc-ne-zero m (sym same))
Each-from_count P (x ∷ xs) (inr (fails, rest)) = (fails, Each-from_count P xs rest)

-- the runs of fine steps with no stale use end alike: by induction on the steps
run_from-alike : (input : Input) (variables : List Variable) (done : List Step) (state : State) (steps : List Step)
    → IsKept variables done state → are_fine_steps variables done steps ≡ true
    → Each (λ use_of. IsStaleUse use_of → ⊥) (uses_after done steps) → EndAlike (run_from input state steps) (run_from input (still state) steps)
run_from-alike input variables done state [] kept fine safe = (refl, λ misuse. misuse)
run_from-alike input variables done state (step ∷ steps) kept fine safe =
    going_on-alike variables done step state (after input state step) (after input (still state) step) (λ next. run_from input next steps)
    (step_alike input variables done state step kept parts.0 not_stale)
    (λ next kept_next. run_from-alike input variables (step ∷ done) next steps kept_next parts.1 safe_parts.1)
  where
    parts : (is_fine_step variables done step ≡ true) × (are_fine_steps variables (step ∷ done) steps ≡ true)
    parts = and_parts (is_fine_step variables done step) (are_fine_steps variables (step ∷ done) steps) fine

    here : List Use
    here = map (λ pointer. record { done = done; pointer = pointer }) (step_uses step)

    safe_parts : Each (λ use_of. IsStaleUse use_of → ⊥) here × Each (λ use_of. IsStaleUse use_of → ⊥) (uses_after (step ∷ done) steps)
    safe_parts = Each-append (λ use_of. IsStaleUse use_of → ⊥) here (uses_after (step ∷ done) steps) safe

    not_stale : AreNotStale done (step_uses step)
    not_stale =
        Each-map (λ use_of. IsStaleUse use_of → ⊥) (λ pointer. record { done = done; pointer = pointer })
        (λ pointer. is_stale_after pointer done ≡ false) (step_uses step)
        (λ pointer fails. false_from_ne_true (is_stale_after pointer done) (λ stale. fails (IsStaleUse-from_along pointer done stale))) safe_parts.0

-- at the start there is nothing to keep
start-kept : (variables : List Variable) (schedule : List Decision) → IsKept variables [] (start schedule)
start-kept variables schedule = record {
  is_plain = tt;
  handles = λ variable value declared found. absurd (none-some value found);
  is_own = λ variable other named one two found. absurd (none-some (handle named) found);
  pointers = λ variable value declared found. absurd (none-some value found);
}

-- a straight tree that has no stale use is safe
pub IsSafe-from_no_stale_uses : (tree : Straight) → HasStaleUses tree 0 → IsSafe tree
IsSafe-from_no_stale_uses tree none_stale = λ input schedule turns.
    run_from-alike input tree.variables [] (start schedule) tree.steps (start-kept tree.variables schedule)
    (and_parts (are_fine_names [] tree.variables) (are_fine_steps tree.variables [] tree.steps) tree.fine).1
    (Each-from_count IsStaleUse (uses_after [] tree.steps) none_stale)
