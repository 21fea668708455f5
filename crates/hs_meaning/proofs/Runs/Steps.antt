-- Each step form keeps what every moving run keeps: what it assigns is as it should be, and so is each block after it.
use Rattle.std.proofs.Common.{◌≡◌, ℕ, zero, suc, ◌+◌, ◌<◌, ◌≤◌, ◌==◌, Bool, true, false, List, [], ◌∷◌, ◌++◌, length, inl, inr, Option, Some, slice_get, refl, sym, ap, ◌∙◌, subst, if◌then◌else◌, true≢false, eqb-true, eq-eqb, ne_eqb, arith}
use Rattle.std.proofs.lemmas.List.{append-nil}
use Rattle.std.proofs.lemmas.Option.{none-some, same_Some}
use Rattle.hs_base.specs.declared.pos.Pos.{Pos}
use Rattle.hs_base.specs.Entries.{entry_stays}
use Rattle.hs_tree.specs.declared.straight.tree.Kind.{Kind}
use Rattle.hs_tree.specs.declared.straight.tree.Kind.TheVariants.{Handle, Pointer, Letter}
use Rattle.hs_tree.specs.declared.straight.tree.Variable.{Variable}
use Rattle.hs_tree.specs.declared.straight.tree.Expr.{Expr}
use Rattle.hs_tree.specs.declared.straight.tree.Step.{Step}
use Rattle.hs_tree.specs.declared.straight.tree.Step.TheVariants as form
use Rattle.hs_tree.specs.Straight.Fine.{assigns, kind_eq, is_declared}
use Rattle.hs_heap.specs.Blocks.{Block, new_block}
use Rattle.hs_heap.specs.Memory.{block_at, put_block}
use Rattle.hs_heap.specs.Shift.{shift}
use Rattle.hs_heap.specs.declared.decision.Decision.{Decision}
use Rattle.hs_heap.specs.BlockLaws.{block_at_last}
use Rattle.hs_meaning.specs.Straight.Value.{Value, number, nil, handle, spot}
use Rattle.hs_meaning.specs.Straight.Run.{State, lookup, assigned, next_decision, new_handle_powers, shifted_by, is_granted, allocated, later_decisions}
use Rattle.hs_meaning.specs.Straight.StaleUses.{concerns, is_locked_after}
use Rattle.hs_meaning.specs.declared.input.Input.{Input}
use Rattle.hs_meaning.proofs.Runs.Still.{Each, IsPlain, IsShifted, shift_from-plain, length-shift_from, slice_get-shift_from, block_at-plain}
use Rattle.hs_meaning.proofs.Runs.Alike.{IsStored, IsMaster, IsLockedThrough}
use Rattle.hs_meaning.proofs.Runs.Blocks.{same_block, same_lock, IsFoundAfter, block_at-put, put_block-plain, block_at-within, append-plain}
use Rattle.hs_meaning.proofs.Runs.Kept.{IsHandleOf, IsHandleValue, IsPointerValue, IsKept, IsBlockAfter, IsNext, one_kind, is_locked_after-other}

-- a heap that does not change has each block as it was
blocks_same : (step : Step) (heap : List Block) (named : ℕ) (block : Block) → block_at heap named ≡ Some block → IsBlockAfter step block (block_at heap named)
blocks_same step heap named block found = record { after = block; is_after = found; same_epoch = λ locked. refl }

-- a lock stays if the step does not concern its handle and the block has the lock that it had
locks_same : (step : Step) (done : List Step) (variable : ℕ) (block later : Block) → concerns variable step ≡ false → later.locked ≡ block.locked
    → (is_locked_after variable done ≡ true → block.locked ≡ true) → is_locked_after variable (step ∷ done) ≡ true → later.locked ≡ true
locks_same step done variable block later other same before now = same ∙ before (sym (is_locked_after-other variable step done other) ∙ now)

-- NIL is no handle
nil-handle : (named : ℕ) → ◌≡◌ {A = Option Value} (Some nil) (Some (handle named)) → ⊥
nil-handle named same = cc

-- a handle is of one block
handle-handle : (one other : ℕ) → Some (handle one) ≡ Some (handle other) → one ≡ other
handle-handle one other same = cc

-- the value of the variable that was assigned last
lookup-assigned : (variable assigned_to : ℕ) (value got : Value) (entries : List (ℕ × Value)) → (assigned_to == variable) ≡ true
    → lookup ((assigned_to, value) ∷ entries) variable ≡ Some got → got ≡ value
lookup-assigned variable assigned_to value got entries same found = sym (same_Some value got (rw same at found))

-- the other variables keep theirs
lookup-other : (variable assigned_to : ℕ) (value : Value) (entries : List (ℕ × Value)) → (assigned_to == variable) ≡ false
    → lookup ((assigned_to, value) ∷ entries) variable ≡ lookup entries variable
lookup-other variable assigned_to value entries other = rw other refl

-- a variable that is assigned has no other kind than the one that the step asks for
other_kind : (variables : List Variable) (assigned_to variable : ℕ) (kind other : Kind) → kind_eq kind other ≡ false
    → is_declared kind variables assigned_to ≡ true
    → (assigned_to == variable) ≡ true → is_declared other variables variable ≡ true → ⊥
other_kind variables assigned_to variable kind other differ is_kind same is_other =
    true≢false
    (sym (one_kind variables assigned_to kind other is_kind
    (subst (λ (v : ℕ). is_declared other variables v ≡ true) (sym (eqb-true assigned_to variable same)) is_other))
    ∙ differ)

-- a step that assigns nothing has only blocks and locks to show
heap_next : (variables : List Variable) (done : List Step) (state : State) (step : Step) (heap : List Block) (output : List ℕ)
    → ((variable : ℕ) → assigns variable step ≡ false) → Each IsPlain heap
    → ((named : ℕ) (block : Block) → block_at state.heap named ≡ Some block → IsBlockAfter step block (block_at heap named))
    → ((variable named : ℕ) (block after : Block) → is_declared Handle variables variable ≡ true → lookup state.variables variable ≡ Some (handle named)
    → block_at state.heap named ≡ Some block → block_at heap named ≡ Some after → (is_locked_after variable done ≡ true → block.locked ≡ true)
    → is_locked_after variable (step ∷ done) ≡ true → after.locked ≡ true)
    → IsNext variables done state step (record state { heap = heap; output = output })
heap_next variables done state step heap output assigns_none plain blocks locks = record {
  is_plain = plain;
  others = λ variable other. refl;
  blocks = blocks;
  locks = λ variable named block later is_handle other. locks variable named block later is_handle;
  new_handle = λ variable got is_assigned. absurd (true≢false (sym is_assigned ∙ assigns_none variable));
  new_own = λ variable other named is_assigned. absurd (true≢false (sym is_assigned ∙ assigns_none variable));
  new_pointer = λ variable got is_assigned. absurd (true≢false (sym is_assigned ∙ assigns_none variable));
}

-- putchar changes neither the variables nor the heap
pub putchar_next : (variables : List Variable) (done : List Step) (state : State) (value : Expr) (output : List ℕ) → IsKept variables done state
    → IsNext variables done state (form.Putchar value) (record state { output = output })
putchar_next variables done state value output kept =
    heap_next variables done state (form.Putchar value) state.heap output (λ variable. refl) kept.is_plain (blocks_same (form.Putchar value) state.heap)
    (λ variable named block later declared found is_block is_later.
    locks_same (form.Putchar value) done variable block later refl (same_lock (block_at state.heap named) block later is_block is_later))

-- a letter is no handle and no pointer
pub set_next : (variables : List Variable) (done : List Step) (state : State) (letter : ℕ) (value : Expr) (got : Value)
    → is_declared Letter variables letter ≡ true
    → IsKept variables done state → IsNext variables done state (form.Set letter value) (assigned state letter got)
set_next variables done state letter value got declared kept = record {
  is_plain = kept.is_plain;
  others = λ variable other. lookup-other variable letter got state.variables other;
  blocks = blocks_same (form.Set letter value) state.heap;
  locks = λ variable named block later is_handle other found is_block is_later.
      locks_same (form.Set letter value) done variable block later (rw other refl) (same_lock (block_at state.heap named) block later is_block is_later);
  new_handle = λ variable held is_assigned is_handle. absurd (other_kind variables letter variable Letter Handle refl declared is_assigned is_handle);
  new_own = λ variable other named is_assigned is_handle. absurd (other_kind variables letter variable Letter Handle refl declared is_assigned is_handle);
  new_pointer = λ variable held is_assigned is_pointer. absurd (other_kind variables letter variable Letter Pointer refl declared is_assigned is_pointer);
}

-- a pointer taken from a handle's master pointer points to the handle's block, as it stands
pub derive_next : (variables : List Variable) (done : List Step) (state : State) (pos : Pos) (pointer from : ℕ) (value got : Value)
    → is_declared Pointer variables pointer ≡ true → is_declared Handle variables from ≡ true → lookup state.variables from ≡ Some value
    → IsMaster state.heap value got
    → IsKept variables done state → IsNext variables done state (form.Derive pos pointer from) (assigned state pointer got)
derive_next variables done state pos pointer from value got is_pointer is_handle found master kept = record {
  is_plain = kept.is_plain;
  others = λ variable other. lookup-other variable pointer got state.variables other;
  blocks = blocks_same (form.Derive pos pointer from) state.heap;
  locks = λ variable named block later declared other found_here is_block is_later.
      locks_same (form.Derive pos pointer from) done variable block later (rw other refl) (same_lock (block_at state.heap named) block later is_block is_later);
  new_handle = λ variable held is_assigned declared. absurd (other_kind variables pointer variable Pointer Handle refl is_pointer is_assigned declared);
  new_own = λ variable other named is_assigned declared. absurd (other_kind variables pointer variable Pointer Handle refl is_pointer is_assigned declared);
  new_pointer = λ variable held is_assigned declared is_held.
      subst (λ (v : Value). IsPointerValue variables (form.Derive pos pointer from ∷ done) ((pointer, got) ∷ state.variables) state.heap variable v)
      (sym (lookup-assigned variable pointer got held state.variables is_assigned is_held ∙ master.is_spot))
      (record {
        block = master.block;
        derivation = record { handle = from; is_same = true; is_stale = false };
        is_block = ap (block_at state.heap) master.is_place ∙ master.is_block;
        is_known = rw is_assigned refl;
        is_declared_handle = is_handle;
        is_same = λ same. from_other ∙ found ∙ ap Some (master.is_handle ∙ ap handle (sym master.is_place));
        is_fresh = λ fresh. master.is_fresh;
      });
}
  where
    differ : pointer ≡ from → ⊥
    differ same = other_kind variables pointer from Pointer Handle refl is_pointer (eq-eqb pointer from same) is_handle

    from_other : lookup ((pointer, got) ∷ state.variables) from ≡ lookup state.variables from
    from_other = lookup-other from pointer got state.variables (ne_eqb pointer from differ)

-- a block put instead of one with the same epoch leaves all epochs
blocks_put : (step : Step) (heap : List Block) (place : ℕ) (old new : Block) → block_at heap place ≡ Some old → new.epoch ≡ old.epoch
    → (named : ℕ) (block : Block) → block_at heap named ≡ Some block → IsBlockAfter step block (block_at (put_block heap place new) named)
blocks_put step heap place old new is_old same named block found = go (block_at-put heap place old new named block is_old found)
  where
    go : IsFoundAfter place new named block (block_at (put_block heap place new) named) → IsBlockAfter step block (block_at (put_block heap place new) named)
    go (inl at) = record {
      after = new;
      is_after = at.1;
      same_epoch = λ locked. same ∙ ap (λ (b : Block). b.epoch) (same_block (block_at heap place) block old (sym (ap (block_at heap) at.0) ∙ found) is_old);
    }
    go (inr at) = record { after = block; is_after = at.1; same_epoch = λ locked. refl }

-- a block put instead of one with the same lock leaves all locks
locks_put : (heap : List Block) (place : ℕ) (old new : Block) → block_at heap place ≡ Some old → new.locked ≡ old.locked
    → (named : ℕ) (block later : Block) → block_at heap named ≡ Some block → block_at (put_block heap place new) named ≡ Some later
    → later.locked ≡ block.locked
locks_put heap place old new is_old same named block later found is_later = go (block_at-put heap place old new named block is_old found)
  where
    go : IsFoundAfter place new named block (block_at (put_block heap place new) named) → later.locked ≡ block.locked
    go (inl at) =
        same_lock (block_at (put_block heap place new) named) new later at.1 is_later ∙ same
        ∙ same_lock (block_at heap place) block old (sym (ap (block_at heap) at.0) ∙ found) is_old
    go (inr at) = same_lock (block_at (put_block heap place new) named) block later at.1 is_later

-- a store changes the cells of one block
pub store_next : (variables : List Variable) (done : List Step) (state : State) (pos : Pos) (pointer : ℕ) (value : Expr) (heap : List Block)
    → IsStored state.heap heap
    → IsKept variables done state → IsNext variables done state (form.Store pos pointer value) (record state { heap = heap })
store_next variables done state pos pointer value heap stored kept =
    subst (λ (h : List Block). IsNext variables done state (form.Store pos pointer value) (record state { heap = h })) (sym stored.is_after)
    (heap_next variables done state (form.Store pos pointer value) (put_block state.heap stored.place new) state.output (λ variable. refl)
    (put_block-plain state.heap stored.place new kept.is_plain (record { is_present = plain.is_present; is_kept = plain.is_kept }))
    (blocks_put (form.Store pos pointer value) state.heap stored.place stored.block new stored.is_block refl)
    (λ variable named block later declared found is_block is_later.
    locks_same (form.Store pos pointer value) done variable block later refl
    (locks_put state.heap stored.place stored.block new stored.is_block refl named block later is_block is_later)))
  where
    new : Block
    new = record stored.block { cells = stored.cells }

    plain : IsPlain stored.block
    plain = block_at-plain state.heap kept.is_plain stored.place stored.block stored.is_block

-- HLock or HUnlock
unfoldable pub lock_form : Bool → Pos → ℕ → Step
lock_form true pos locked = form.HLock pos locked
lock_form false pos locked = form.HUnlock pos locked

-- neither assigns a variable
lock_assigns : (on : Bool) (pos : Pos) (locked variable : ℕ) → assigns variable (lock_form on pos locked) ≡ false
unfolding lock_form
lock_assigns true pos locked variable = refl
lock_assigns false pos locked variable = refl

-- neither concerns another handle
lock_concerns : (on : Bool) (pos : Pos) (locked variable : ℕ) → (locked ≡ variable → ⊥) → concerns variable (lock_form on pos locked) ≡ false
unfolding lock_form
lock_concerns true pos locked variable other = rw (ne_eqb locked variable other) refl
lock_concerns false pos locked variable other = rw (ne_eqb locked variable other) refl

-- after HLock the handle is locked along the steps, and after HUnlock it is not
lock_says : (on : Bool) (pos : Pos) (locked : ℕ) (done : List Step) → is_locked_after locked (lock_form on pos locked ∷ done) ≡ on
unfolding lock_form
lock_says true pos locked done = rw (eq-eqb locked locked refl) (eq-eqb locked locked refl)
lock_says false pos locked done = rw (eq-eqb locked locked refl) refl

-- a lock of one handle's block is not the lock of another's
pub lock_next : (on : Bool) (variables : List Variable) (done : List Step) (state : State) (pos : Pos) (locked : ℕ) (value : Value) (heap : List Block)
    → is_declared Handle variables locked ≡ true → lookup state.variables locked ≡ Some value → IsLockedThrough on state.heap value heap
    → IsKept variables done state
    → IsNext variables done state (lock_form on pos locked) (record state { heap = heap })
lock_next on variables done state pos locked nil heap declared found same kept =
    subst (λ (h : List Block). IsNext variables done state (lock_form on pos locked) (record state { heap = h })) (sym same)
    (heap_next variables done state (lock_form on pos locked) state.heap state.output (lock_assigns on pos locked) kept.is_plain
    (blocks_same (lock_form on pos locked) state.heap)
    (λ variable named block later is_handle is_held is_block is_later.
    locks_same (lock_form on pos locked) done variable block later (lock_concerns on pos locked variable (λ one. differ variable named one is_held))
    (same_lock (block_at state.heap named) block later is_block is_later)))
  where
    differ : (variable named : ℕ) → locked ≡ variable → lookup state.variables variable ≡ Some (handle named) → ⊥
    differ variable named one is_held = nil-handle named (sym found ∙ ap (lookup state.variables) one ∙ is_held)
lock_next on variables done state pos locked (number n) heap declared found same kept = absurd same
lock_next on variables done state pos locked (spot s) heap declared found same kept = absurd same
lock_next on variables done state pos locked (handle held) heap declared found set kept =
    subst (λ (h : List Block). IsNext variables done state (lock_form on pos locked) (record state { heap = h })) (sym set.is_after)
    (heap_next variables done state (lock_form on pos locked) (put_block state.heap held new) state.output (lock_assigns on pos locked)
    (put_block-plain state.heap held new kept.is_plain (record { is_present = plain.is_present; is_kept = plain.is_kept }))
    (blocks_put (lock_form on pos locked) state.heap held set.block new set.is_block refl)
    (λ variable named block later is_handle is_held is_block is_later before now.
    still_locked variable named block later is_handle is_held is_later before now
    (block_at-put state.heap held set.block new named block set.is_block is_block)))
  where
    new : Block
    new = record set.block { locked = on }

    plain : IsPlain set.block
    plain = block_at-plain state.heap kept.is_plain held set.block set.is_block

    differ : (variable named : ℕ) → (named ≡ held → ⊥) → lookup state.variables variable ≡ Some (handle named) → locked ≡ variable → ⊥
    differ variable named other is_held one = other (handle-handle named held (sym is_held ∙ sym (ap (lookup state.variables) one) ∙ found))

    still_locked : (variable named : ℕ) (block later : Block) → is_declared Handle variables variable ≡ true
        → lookup state.variables variable ≡ Some (handle named)
        → block_at (put_block state.heap held new) named ≡ Some later → (is_locked_after variable done ≡ true → block.locked ≡ true)
        → is_locked_after variable (lock_form on pos locked ∷ done) ≡ true → IsFoundAfter held new named block (block_at (put_block state.heap held new) named)
        → later.locked ≡ true
    still_locked variable named block later is_handle is_held is_later before now (inl at) =
        let one : variable ≡ locked = kept.is_own variable locked held is_handle declared (is_held ∙ ap (λ (n : ℕ). Some (handle n)) at.0) found in
        same_lock (block_at (put_block state.heap held new) named) new later at.1 is_later
        ∙ sym (lock_says on pos locked done)
        ∙ subst (λ (v : ℕ). is_locked_after v (lock_form on pos locked ∷ done) ≡ true) one now
    still_locked variable named block later is_handle is_held is_later before now (inr at) =
        locks_same (lock_form on pos locked) done variable block later (lock_concerns on pos locked variable (differ variable named at.0 is_held))
        (same_lock (block_at (put_block state.heap held new) named) block later at.1 is_later) before now

-- what a call of NewHandle leaves of a block: its lock, and its epoch if it was locked
record IsCalledBlock (block : Block) (found : Option Block) : Type 0 where
  later : Block
  is_later : found ≡ Some later
  same_lock : later.locked ≡ block.locked
  same_epoch : block.locked ≡ true → later.epoch ≡ block.epoch

-- the handle is new, or NIL, and the blocks that were there are as the shift leaves them
new_handle_kept : (variables : List Variable) (done : List Step) (state : State) (assigned_to size : ℕ) (value : Value)
    (heap : List Block) (schedule : List Decision) (allocations : ℕ)
    → is_declared Handle variables assigned_to ≡ true → IsKept variables done state
    → Each IsPlain heap → ((named : ℕ) (block : Block) → block_at state.heap named ≡ Some block → IsCalledBlock block (block_at heap named))
    → IsHandleValue heap false value → ((named : ℕ) → value ≡ handle named → length state.heap < named)
    → IsNext variables done state (form.NewHandle assigned_to size)
    (record { variables = (assigned_to, value) ∷ state.variables; heap = heap; schedule = schedule; allocations = allocations; output = state.output })
new_handle_kept variables done state assigned_to size value heap schedule allocations declared kept plain called is_value fresh = record {
  is_plain = plain;
  others = λ variable other. lookup-other variable assigned_to value state.variables other;
  blocks = λ named block found. record {
    after = (called named block found).later;
    is_after = (called named block found).is_later;
    same_epoch = λ locked. (called named block found).same_epoch (locked refl);
  };
  locks = λ variable named block later is_handle other is_held is_block is_later.
      locks_same (form.NewHandle assigned_to size) done variable block later (rw other refl)
      (same_lock (block_at heap named) (called named block is_block).later later (called named block is_block).is_later is_later
      ∙ (called named block is_block).same_lock);
  new_handle = λ variable held is_assigned is_handle is_held.
      subst (λ (v : Value). IsHandleValue heap (is_locked_after variable (form.NewHandle assigned_to size ∷ done)) v)
      (sym (lookup-assigned variable assigned_to value held state.variables is_assigned is_held))
      (rw is_assigned is_value);
  new_own = λ variable other named is_assigned is_handle other_handle one two.
      too_large other named other_handle two (fresh named (sym (lookup-assigned variable assigned_to value (handle named) state.variables is_assigned one)));
  new_pointer = λ variable held is_assigned is_pointer. absurd (other_kind variables assigned_to variable Handle Pointer refl declared is_assigned is_pointer);
}
  where
    too_large : (other named : ℕ) → is_declared Handle variables other ≡ true → lookup state.variables other ≡ Some (handle named)
        → length state.heap < named → ⊥
    too_large other named other_handle found large =
        let known : IsHandleOf state.heap (is_locked_after other done) named = kept.handles other (handle named) other_handle found in
        let small : named ≤ length state.heap = block_at-within state.heap named known.block known.is_block in
        omega arith

-- a block that the shift of the call leaves
shifted_block : (decision : Decision) (heap added : List Block) → Each IsPlain heap → (named : ℕ) (block : Block) → block_at heap named ≡ Some block
    → IsCalledBlock block (block_at (shift new_handle_powers decision heap ++ added) named)
shifted_block decision heap added plain zero block found = absurd (none-some block found)
shifted_block decision heap added plain (suc place) block found = go (slice_get-shift_from new_handle_powers decision 1 heap plain place block found)
  where
    go : (later : Block) × (slice_get (shift new_handle_powers decision heap) place ≡ Some later) × IsShifted block later
        → IsCalledBlock block (slice_get (shift new_handle_powers decision heap ++ added) place)
    go (later, is_later, shifted_so) = record {
      later = later;
      is_later = entry_stays (shift new_handle_powers decision heap) added place later is_later;
      same_lock = shifted_so.same_lock;
      same_epoch = shifted_so.same_epoch;
    }

-- the state after an allocation, granted or not
abbrev pub allocated_if : Bool → State → ℕ → ℕ → State
allocated_if granted state variable size =
    if granted
    then record state {
      variables = (variable, handle (length state.heap + 1)) ∷ state.variables;
      heap = state.heap ++ new_block size ∷ [];
      allocations = state.allocations + 1;
    }
    else record state { variables = (variable, nil) ∷ state.variables; allocations = state.allocations + 1 }

-- a call of NewHandle keeps all
pub new_handle_next : (input : Input) (variables : List Variable) (done : List Step) (state : State) (assigned_to size : ℕ)
    → is_declared Handle variables assigned_to ≡ true → IsKept variables done state
    → IsNext variables done state (form.NewHandle assigned_to size) (allocated input (shifted_by new_handle_powers state) assigned_to size)
new_handle_next input variables done state assigned_to size declared kept = go (is_granted input (shifted_by new_handle_powers state) size)
  where
    heap : List Block
    heap = shift new_handle_powers (next_decision state.schedule) state.heap

    plain : Each IsPlain heap
    plain = shift_from-plain new_handle_powers (next_decision state.schedule) 1 state.heap kept.is_plain

    same_length : length heap ≡ length state.heap
    same_length = length-shift_from new_handle_powers (next_decision state.schedule) 1 state.heap

    go : (granted : Bool) → IsNext variables done state (form.NewHandle assigned_to size)
        (allocated_if granted (shifted_by new_handle_powers state) assigned_to size)
    go true =
        new_handle_kept variables done state assigned_to size (handle (length heap + 1)) (heap ++ new_block size ∷ [])
        (later_decisions state.schedule) (state.allocations + 1) declared kept
        (append-plain heap (new_block size ∷ []) plain (record { is_present = refl; is_kept = refl }, tt))
        (shifted_block (next_decision state.schedule) state.heap (new_block size ∷ []) kept.is_plain)
        (record { block = new_block size; is_block = block_at_last heap (new_block size); is_locked = λ locked. absurd (true≢false (sym locked)) })
        (λ named is_named. let same : length heap + 1 ≡ named = handle-handle (length heap + 1) named (ap Some is_named) in omega (arith, same_length))
    go false =
        new_handle_kept variables done state assigned_to size nil heap (later_decisions state.schedule) (state.allocations + 1) declared kept plain
        (λ named block found. subst (λ (h : List Block). IsCalledBlock block (block_at h named)) (append-nil heap)
        (shifted_block (next_decision state.schedule) state.heap [] kept.is_plain named block found))
        tt
        (λ named is_named. absurd (nil-handle named (ap Some is_named)))
