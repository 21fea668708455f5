-- What every moving run keeps: its blocks are plain; a handle has a block of its own, locked if the steps done say so;
-- and a pointer has the epoch of its block if the steps done do not say that it is stale.
use Rattle.std.proofs.Common.{◌≡◌, ℕ, Bool, true, false, not, ◌&&◌, List, ◌∷◌, ◌⊎◌, inl, inr, Option, Some, None, slice_get, refl, sym, ap, ◌∙◌, subst, true≢false, eqb-true}
use Rattle.std.proofs.lemmas.Bool.{or_parts, and_parts, and_cases, not-true, not-false, cases_Bool}
use Rattle.std.proofs.lemmas.Option.{same_Some}
use Rattle.hs_tree.specs.declared.straight.tree.Kind.{Kind}
use Rattle.hs_tree.specs.declared.straight.tree.Kind.TheVariants.{Handle, Pointer, Letter}
use Rattle.hs_tree.specs.declared.straight.tree.Variable.{Variable}
use Rattle.hs_tree.specs.declared.straight.tree.Step.{Step}
use Rattle.hs_tree.specs.declared.straight.tree.Step.TheVariants as form
use Rattle.hs_tree.specs.Straight.Fine.{assigns, kind_eq, has_kind, is_declared}
use Rattle.hs_heap.specs.Blocks.{Block}
use Rattle.hs_heap.specs.Memory.{block_at}
use Rattle.hs_heap.specs.declared.cell.Spot.{Spot}
use Rattle.hs_meaning.specs.Straight.Value.{Value, number, nil, handle, spot}
use Rattle.hs_meaning.specs.Straight.Run.{State, lookup}
use Rattle.hs_meaning.specs.Straight.StaleUses.{calls_new_handle, concerns, is_locked_after}
use Rattle.hs_meaning.specs.Straight.Along.{Derivation, kept_by, kept_if, derived_after, is_stale_derivation, is_stale_after}
use Rattle.hs_meaning.specs.Straight.AlongLaws.{derived_after-keep}
use Rattle.hs_meaning.proofs.Runs.Still.{Each, IsPlain}
use Rattle.hs_meaning.proofs.Runs.Alike.{IsFresh, IsFreshUse}

-- the handle has a block, locked if it should be
pub record IsHandleOf (heap : List Block) (should_lock : Bool) (named : ℕ) : Type 0 where
  pub block : Block
  pub is_block : block_at heap named ≡ Some block
  pub is_locked : should_lock ≡ true → block.locked ≡ true

-- a value that a handle can have
abbrev pub IsHandleValue : List Block → Bool → Value → Type 0
IsHandleValue heap should_lock nil = Unit {0}
IsHandleValue heap should_lock (handle named) = IsHandleOf heap should_lock named
IsHandleValue heap should_lock (number n) = ⊥
IsHandleValue heap should_lock (spot s) = ⊥

-- where the pointer points, and what the steps done say of it
pub record IsPointerTo (variables : List Variable) (done : List Step) (entries : List (ℕ × Value)) (heap : List Block) (pointer : ℕ) (s : Spot) : Type 0 where
  pub block : Block
  pub derivation : Derivation
  pub is_block : block_at heap s.block ≡ Some block
  pub is_known : derived_after pointer done ≡ Some derivation
  pub is_declared_handle : is_declared Handle variables derivation.handle ≡ true
  pub is_same : derivation.is_same ≡ true → lookup entries derivation.handle ≡ Some (handle s.block)
  pub is_fresh : derivation.is_stale ≡ false → s.epoch ≡ block.epoch

-- a value that a pointer can have
abbrev pub IsPointerValue : List Variable → List Step → List (ℕ × Value) → List Block → ℕ → Value → Type 0
IsPointerValue variables done entries heap pointer (spot s) = IsPointerTo variables done entries heap pointer s
IsPointerValue variables done entries heap pointer nil = ⊥
IsPointerValue variables done entries heap pointer (handle named) = ⊥
IsPointerValue variables done entries heap pointer (number n) = ⊥

-- what holds of the state after the steps done
pub record IsKept (variables : List Variable) (done : List Step) (state : State) : Type 0 where
  pub is_plain : Each IsPlain state.heap
  pub handles : (variable : ℕ) (value : Value) → is_declared Handle variables variable ≡ true → lookup state.variables variable ≡ Some value
      → IsHandleValue state.heap (is_locked_after variable done) value
  pub is_own : (variable other named : ℕ) → is_declared Handle variables variable ≡ true → is_declared Handle variables other ≡ true
      → lookup state.variables variable ≡ Some (handle named) → lookup state.variables other ≡ Some (handle named) → variable ≡ other
  pub pointers : (variable : ℕ) (value : Value) → is_declared Pointer variables variable ≡ true → lookup state.variables variable ≡ Some value
      → IsPointerValue variables done state.variables state.heap variable value

-- what a step makes of a block: its epoch changes only at a call of NewHandle that does not find it locked
pub record IsBlockAfter (step : Step) (block : Block) (found : Option Block) : Type 0 where
  pub after : Block
  pub is_after : found ≡ Some after
  pub same_epoch : (calls_new_handle step ≡ true → block.locked ≡ true) → after.epoch ≡ block.epoch

-- what a step has to show of the state after it, so that all is kept
pub record IsNext (variables : List Variable) (done : List Step) (state : State) (step : Step) (next : State) : Type 0 where
  pub is_plain : Each IsPlain next.heap
  pub others : (variable : ℕ) → assigns variable step ≡ false → lookup next.variables variable ≡ lookup state.variables variable
  pub blocks : (named : ℕ) (block : Block) → block_at state.heap named ≡ Some block → IsBlockAfter step block (block_at next.heap named)
  pub locks : (variable named : ℕ) (block after : Block) → is_declared Handle variables variable ≡ true → assigns variable step ≡ false
      → lookup state.variables variable ≡ Some (handle named)
      → block_at state.heap named ≡ Some block → block_at next.heap named ≡ Some after
      → (is_locked_after variable done ≡ true → block.locked ≡ true) → is_locked_after variable (step ∷ done) ≡ true → after.locked ≡ true
  pub new_handle : (variable : ℕ) (value : Value) → assigns variable step ≡ true → is_declared Handle variables variable ≡ true
      → lookup next.variables variable ≡ Some value → IsHandleValue next.heap (is_locked_after variable (step ∷ done)) value
  pub new_own : (variable other named : ℕ) → assigns variable step ≡ true → is_declared Handle variables variable ≡ true
      → is_declared Handle variables other ≡ true
      → lookup next.variables variable ≡ Some (handle named) → lookup state.variables other ≡ Some (handle named) → ⊥
  pub new_pointer : (variable : ℕ) (value : Value) → assigns variable step ≡ true → is_declared Pointer variables variable ≡ true
      → lookup next.variables variable ≡ Some value
      → IsPointerValue variables (step ∷ done) next.variables next.heap variable value

-- a variable has one kind
pub one_kind : (variables : List Variable) (variable : ℕ) (kind other : Kind) → is_declared kind variables variable ≡ true
    → is_declared other variables variable ≡ true → kind_eq kind other ≡ true
one_kind variables variable kind other is_kind is_other = go (slice_get variables variable) is_kind is_other
  where
    same : (declared wanted another : Kind) → kind_eq declared wanted ≡ true → kind_eq declared another ≡ true → kind_eq wanted another ≡ true
    same Handle Handle another one two = two
    same Pointer Pointer another one two = two
    same Letter Letter another one two = two
    same Handle Pointer another one two = absurd (true≢false (sym one))
    same Handle Letter another one two = absurd (true≢false (sym one))
    same Pointer Handle another one two = absurd (true≢false (sym one))
    same Pointer Letter another one two = absurd (true≢false (sym one))
    same Letter Handle another one two = absurd (true≢false (sym one))
    same Letter Pointer another one two = absurd (true≢false (sym one))

    go : (declared : Option Variable) → has_kind kind declared ≡ true → has_kind other declared ≡ true → kind_eq kind other ≡ true
    go None one two = absurd (true≢false (sym one))
    go (Some declared) one two = same declared.kind kind other one two

-- a step assigns one variable
assigned_same : (step : Step) (one other : ℕ) → assigns one step ≡ true → assigns other step ≡ true → one ≡ other
assigned_same (form.NewHandle assigned size) one other is_one is_other = sym (eqb-true assigned one is_one) ∙ eqb-true assigned other is_other
assigned_same (form.Derive pos assigned from) one other is_one is_other = sym (eqb-true assigned one is_one) ∙ eqb-true assigned other is_other
assigned_same (form.Set assigned value) one other is_one is_other = sym (eqb-true assigned one is_one) ∙ eqb-true assigned other is_other
assigned_same (form.HLock pos named) one other is_one is_other = absurd (true≢false (sym is_one))
assigned_same (form.HUnlock pos named) one other is_one is_other = absurd (true≢false (sym is_one))
assigned_same (form.Store pos pointer value) one other is_one is_other = absurd (true≢false (sym is_one))
assigned_same (form.Putchar value) one other is_one is_other = absurd (true≢false (sym is_one))

-- a step that does not concern the handle leaves what is said of its lock
pub is_locked_after-other : (variable : ℕ) (step : Step) (done : List Step) → concerns variable step ≡ false
    → is_locked_after variable (step ∷ done) ≡ is_locked_after variable done
is_locked_after-other variable step done other = rw other refl

-- a handle that is locked along the steps has a locked block
handle_locked : (heap : List Block) (should_lock : Bool) (named : ℕ) (block : Block) → IsHandleOf heap should_lock named
    → block_at heap named ≡ Some block → should_lock ≡ true → block.locked ≡ true
handle_locked heap should_lock named block known is_block should =
    subst (λ (b : Block). b.locked ≡ true) (same_Some known.block block (sym known.is_block ∙ is_block)) (known.is_locked should)

-- a pointer that the step does not assign goes on pointing to its block
pointer_kept : (variables : List Variable) (done : List Step) (state : State) (step : Step) (next : State) (pointer : ℕ) (s : Spot)
    → IsKept variables done state → IsNext variables done state step next
    → assigns pointer step ≡ false → IsPointerTo variables done state.variables state.heap pointer s
    → IsPointerTo variables (step ∷ done) next.variables next.heap pointer s
pointer_kept variables done state step next pointer s kept is_next other before = record {
  block = block.after;
  derivation = kept_by done step before.derivation;
  is_block = block.is_after;
  is_known = derived_after-keep pointer step done other ∙ ap (kept_if done step) before.is_known;
  is_declared_handle = before.is_declared_handle;
  is_same = λ same. same_handle (and_parts before.derivation.is_same (not (assigns before.derivation.handle step)) same);
  is_fresh = λ fresh.
      same_epoch (or_parts before.derivation.is_stale
      (calls_new_handle step && not (before.derivation.is_same && is_locked_after before.derivation.handle done)) fresh);
}
  where
    block : IsBlockAfter step before.block (block_at next.heap s.block)
    block = is_next.blocks s.block before.block before.is_block

    same_handle : (before.derivation.is_same ≡ true) × (not (assigns before.derivation.handle step) ≡ true)
        → lookup next.variables before.derivation.handle ≡ Some (handle s.block)
    same_handle parts = is_next.others before.derivation.handle (not-true (assigns before.derivation.handle step) parts.1) ∙ before.is_same parts.0

    locked_now : (before.derivation.is_same ≡ true) × (is_locked_after before.derivation.handle done ≡ true) → before.block.locked ≡ true
    locked_now parts =
        handle_locked state.heap (is_locked_after before.derivation.handle done) s.block before.block
        (kept.handles before.derivation.handle (handle s.block) before.is_declared_handle (before.is_same parts.0)) before.is_block parts.1

    locked_at_call : (calls_new_handle step ≡ false)
        ⊎ (not (before.derivation.is_same && is_locked_after before.derivation.handle done) ≡ false)
        → calls_new_handle step ≡ true → before.block.locked ≡ true
    locked_at_call (inl silent) calls = absurd (true≢false (sym calls ∙ silent))
    locked_at_call (inr safe) calls =
        locked_now (and_parts before.derivation.is_same (is_locked_after before.derivation.handle done)
        (not-false (before.derivation.is_same && is_locked_after before.derivation.handle done) safe))

    same_epoch : (before.derivation.is_stale ≡ false)
        × ((calls_new_handle step && not (before.derivation.is_same && is_locked_after before.derivation.handle done)) ≡ false)
        → s.epoch ≡ block.after.epoch
    same_epoch parts =
        before.is_fresh parts.0
        ∙ sym (block.same_epoch (locked_at_call
        (and_cases (calls_new_handle step) (not (before.derivation.is_same && is_locked_after before.derivation.handle done)) parts.1)))

-- a handle that the step does not assign goes on having its block
handle_kept : (variables : List Variable) (done : List Step) (state : State) (step : Step) (next : State) (variable : ℕ) (value : Value)
    → IsKept variables done state → IsNext variables done state step next
    → assigns variable step ≡ false → is_declared Handle variables variable ≡ true → lookup state.variables variable ≡ Some value
    → IsHandleValue state.heap (is_locked_after variable done) value → IsHandleValue next.heap (is_locked_after variable (step ∷ done)) value
handle_kept variables done state step next variable nil kept is_next other declared found before = tt
handle_kept variables done state step next variable (number n) kept is_next other declared found before = before
handle_kept variables done state step next variable (spot s) kept is_next other declared found before = before
handle_kept variables done state step next variable (handle named) kept is_next other declared found before = record {
  block = block.after;
  is_block = block.is_after;
  is_locked = is_next.locks variable named before.block block.after declared other found before.is_block block.is_after before.is_locked;
}
  where
    block : IsBlockAfter step before.block (block_at next.heap named)
    block = is_next.blocks named before.block before.is_block

-- so does what a pointer has
pointer_value_kept : (variables : List Variable) (done : List Step) (state : State) (step : Step) (next : State) (pointer : ℕ) (value : Value)
    → IsKept variables done state → IsNext variables done state step next
    → assigns pointer step ≡ false → IsPointerValue variables done state.variables state.heap pointer value
    → IsPointerValue variables (step ∷ done) next.variables next.heap pointer value
pointer_value_kept variables done state step next pointer (spot s) kept is_next other before =
    pointer_kept variables done state step next pointer s kept is_next other before
pointer_value_kept variables done state step next pointer nil kept is_next other before = before
pointer_value_kept variables done state step next pointer (handle named) kept is_next other before = before
pointer_value_kept variables done state step next pointer (number n) kept is_next other before = before

-- a step that shows what it has to keeps all
pub kept_on : (variables : List Variable) (done : List Step) (state : State) (step : Step) (next : State) → IsKept variables done state
    → IsNext variables done state step next → IsKept variables (step ∷ done) next
kept_on variables done state step next kept is_next = record {
  is_plain = is_next.is_plain;
  handles = λ variable value declared found. handle_of variable value declared found (cases_Bool (assigns variable step));
  is_own = λ variable other named is_one is_other one two.
      own variable other named is_one is_other one two (cases_Bool (assigns variable step)) (cases_Bool (assigns other step));
  pointers = λ variable value declared found. pointer variable value declared found (cases_Bool (assigns variable step));
}
  where
    handle_of : (variable : ℕ) (value : Value) → is_declared Handle variables variable ≡ true
        → lookup next.variables variable ≡ Some value → (assigns variable step ≡ true) ⊎ (assigns variable step ≡ false)
        → IsHandleValue next.heap (is_locked_after variable (step ∷ done)) value
    handle_of variable value declared found (inl assigned) = is_next.new_handle variable value assigned declared found
    handle_of variable value declared found (inr other) =
        handle_kept variables done state step next variable value kept is_next other declared (sym (is_next.others variable other) ∙ found)
        (kept.handles variable value declared (sym (is_next.others variable other) ∙ found))

    pointer : (variable : ℕ) (value : Value) → is_declared Pointer variables variable ≡ true
        → lookup next.variables variable ≡ Some value → (assigns variable step ≡ true) ⊎ (assigns variable step ≡ false)
        → IsPointerValue variables (step ∷ done) next.variables next.heap variable value
    pointer variable value declared found (inl assigned) = is_next.new_pointer variable value assigned declared found
    pointer variable value declared found (inr other) =
        pointer_value_kept variables done state step next variable value kept is_next other
        (kept.pointers variable value declared (sym (is_next.others variable other) ∙ found))

    own : (variable other named : ℕ) → is_declared Handle variables variable ≡ true → is_declared Handle variables other ≡ true
        → lookup next.variables variable ≡ Some (handle named) → lookup next.variables other ≡ Some (handle named)
        → (assigns variable step ≡ true) ⊎ (assigns variable step ≡ false) → (assigns other step ≡ true) ⊎ (assigns other step ≡ false) → variable ≡ other
    own variable other named is_one is_other one two (inl one_assigned) (inl two_assigned) = assigned_same step variable other one_assigned two_assigned
    own variable other named is_one is_other one two (inl one_assigned) (inr two_other) =
        absurd (is_next.new_own variable other named one_assigned is_one is_other one (sym (is_next.others other two_other) ∙ two))
    own variable other named is_one is_other one two (inr one_other) (inl two_assigned) =
        absurd (is_next.new_own other variable named two_assigned is_other is_one two (sym (is_next.others variable one_other) ∙ one))
    own variable other named is_one is_other one two (inr one_other) (inr two_other) =
        kept.is_own variable other named is_one is_other (sym (is_next.others variable one_other) ∙ one) (sym (is_next.others other two_other) ∙ two)

-- a pointer that is not stale along the steps is fresh
pub fresh_from_kept : (variables : List Variable) (done : List Step) (state : State) (pointer : ℕ) → IsKept variables done state
    → is_declared Pointer variables pointer ≡ true → is_stale_after pointer done ≡ false
    → IsFreshUse state pointer
fresh_from_kept variables done state pointer kept declared fresh value found = go value (kept.pointers pointer value declared found)
  where
    go : (held : Value) → IsPointerValue variables done state.variables state.heap pointer held → IsFresh state.heap held
    go nil known = tt
    go (number n) known = tt
    go (handle named) known = tt
    go (spot s) known = λ block is_block.
        known.is_fresh (sym (ap is_stale_derivation known.is_known) ∙ fresh)
        ∙ ap (λ (b : Block). b.epoch) (same_Some known.block block (sym known.is_block ∙ is_block))
