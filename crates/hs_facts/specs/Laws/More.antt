-- An operation gives no less if more facts hold before it: all conditions on must facts are that some facts hold, and none that one does not.
--     Gives-more                 by the parts of the definition, in their order
use Rattle.std.proofs.Common.{inl, inr}
use Rattle.std.specs.Prelude.{◌≡◌, ◌<◌, ◌≤◌, ◌⊎◌, ℕ, suc, ◌-◌, Bool, true, false, Option, Some, None}
use Rattle.hs_code.specs.Stacks.{Scope}
use Rattle.hs_code.specs.declared.function_code.FunctionCode.{FunctionCode}
use Rattle.hs_code.specs.declared.op.Op.{Op}
use Rattle.hs_code.specs.declared.op.Op.TheVariants as op
use Rattle.hs_facts.specs.Changes.{Apart, Restored, StaysUnlocked, StaysSet, StaysDisposed, StaysInRole, Copied, Moved, CopiedByte, Got, OfTop, TopApart, SetName, SetOther, SetBy, UsedIf, LockedBy, Read, BroughtByRole, MadeIf, Impact, Stays, Brings, Gives}
use Rattle.hs_facts.specs.MustFacts.{MustFact, on_stack, in_slot, With, Saved, Kept, Locked, Live, Distinct, New}
use Rattle.hs_facts.specs.Names.{is_name, taken, role_at, uses_handle, makes_handle}
use Rattle.hs_table.specs.declared.role.Role.{Role}
use Rattle.hs_table.specs.declared.role.Role.TheVariants as role
use Rattle.hs_tree.specs.declared.head.Variable.{Variable}

module _ (R S : MustFact → Type 0) (more : (fact : MustFact) → R fact → S fact) where
  -- ---- conditions

  pub apart_more : (place : ℕ) (y : Variable) → Apart R place y → Apart S place y
  apart_more place y h = (h.0, more (With place h.0) h.1, more (Distinct h.0 y) h.2)

  restored_more : (place : ℕ) (y : Variable) → Restored R place y → Restored S place y
  restored_more place y h =
      ((h.0.0, more (With place h.0.0) h.0.1, more (Saved (on_stack (suc place)) h.0.0) h.0.2), more (Kept (on_stack (suc place)) y) h.1)

  either_more : (place : ℕ) (y : Variable) → Apart R place y ⊎ Restored R place y → Apart S place y ⊎ Restored S place y
  either_more place y (inl h) = inl (apart_more place y h)
  either_more place y (inr h) = inr (restored_more place y h)

  of_top_more : (top : ℕ) (of : Variable → MustFact) → OfTop R top of → OfTop S top of
  of_top_more top of h = (h.0, more (With top h.0) h.1, more (of h.0) h.2)

  top_apart_more : (top : ℕ) (z : Variable) → TopApart R top z → TopApart S top z
  top_apart_more top z (inl h) = inl (more (New top) h)
  top_apart_more top z (inr h) = inr (of_top_more top (λ y. Distinct y z) h)

  live_more : (top : ℕ) → R (New top) ⊎ OfTop R top Live → S (New top) ⊎ OfTop S top Live
  live_more top (inl h) = inl (more (New top) h)
  live_more top (inr h) = inr (of_top_more top Live h)

  distinct_more : (v : Variable) (top : ℕ) (x y : Variable) → ((x ≡ v) × TopApart R top y) ⊎ ((y ≡ v) × TopApart R top x)
      → ((x ≡ v) × TopApart S top y) ⊎ ((y ≡ v) × TopApart S top x)
  distinct_more v top x y (inl h) = inl (h.0, top_apart_more top y h.1)
  distinct_more v top x y (inr h) = inr (h.0, top_apart_more top x h.1)

  -- ---- by the fact

  unlocked_more : (place : ℕ) (fact : MustFact) → StaysUnlocked R place fact → StaysUnlocked S place fact
  unlocked_more place (With at x) h = h
  unlocked_more place (Saved b x) h = h
  unlocked_more place (Kept b x) h = apart_more place x h
  unlocked_more place (Locked x) h = apart_more place x h
  unlocked_more place (Live x) h = h
  unlocked_more place (Distinct x y) h = h
  unlocked_more place (New at) h = h

  set_more : (place : ℕ) (fact : MustFact) → StaysSet R place fact → StaysSet S place fact
  set_more place (With at x) h = h
  set_more place (Saved b x) h = h
  set_more place (Kept b x) h = either_more place x h
  set_more place (Locked x) h = either_more place x h
  set_more place (Live x) h = h
  set_more place (Distinct x y) h = h
  set_more place (New at) h = h

  disposed_more : (place : ℕ) (fact : MustFact) → StaysDisposed R place fact → StaysDisposed S place fact
  disposed_more place (With at x) h = h
  disposed_more place (Saved b x) h = h
  disposed_more place (Kept b x) h = h
  disposed_more place (Locked x) h = h
  disposed_more place (Live x) h = apart_more place x h
  disposed_more place (Distinct x y) h = h
  disposed_more place (New at) h = h

  copied_more : (from to : ℕ) (fact : MustFact) → Copied R from to fact → Copied S from to fact
  copied_more from to (With at x) h = (h.0, more (With from x) h.1)
  copied_more from to (Saved (on_stack at) x) h = (h.0, more (Saved (on_stack from) x) h.1)
  copied_more from to (Saved (in_slot b) x) h = h
  copied_more from to (Kept (on_stack at) x) h = (h.0, more (Kept (on_stack from) x) h.1)
  copied_more from to (Kept (in_slot b) x) h = h
  copied_more from to (Locked x) h = h
  copied_more from to (Live x) h = h
  copied_more from to (Distinct x y) h = h
  copied_more from to (New at) h = h

  moved_more : (from to : ℕ) (fact : MustFact) → Moved R from to fact → Moved S from to fact
  moved_more from to (With at x) h = copied_more from to (With at x) h
  moved_more from to (Saved b x) h = copied_more from to (Saved b x) h
  moved_more from to (Kept b x) h = copied_more from to (Kept b x) h
  moved_more from to (Locked x) h = copied_more from to (Locked x) h
  moved_more from to (Live x) h = copied_more from to (Live x) h
  moved_more from to (Distinct x y) h = copied_more from to (Distinct x y) h
  moved_more from to (New at) h = (h.0, more (New from) h.1)

  byte_more : (top : ℕ) (fact : MustFact) → CopiedByte R top fact → CopiedByte S top fact
  byte_more top (With at x) h = h
  byte_more top (Saved (on_stack at) x) h = (h.0, more (Saved (on_stack top) x) h.1)
  byte_more top (Saved (in_slot b) x) h = h
  byte_more top (Kept (on_stack at) x) h = (h.0, more (Kept (on_stack top) x) h.1)
  byte_more top (Kept (in_slot b) x) h = h
  byte_more top (Locked x) h = h
  byte_more top (Live x) h = h
  byte_more top (Distinct x y) h = h
  byte_more top (New at) h = h

  got_more : (v : Variable) (to : ℕ) (fact : MustFact) → Got R v to fact → Got S v to fact
  got_more v to (With at x) h = h
  got_more v to (Saved (on_stack at) x) h = (h.0, more (Saved (in_slot v) x) h.1)
  got_more v to (Saved (in_slot b) x) h = h
  got_more v to (Kept (on_stack at) x) h = (h.0, more (Kept (in_slot v) x) h.1)
  got_more v to (Kept (in_slot b) x) h = h
  got_more v to (Locked x) h = h
  got_more v to (Live x) h = h
  got_more v to (Distinct x y) h = h
  got_more v to (New at) h = h

  name_more : (v : Variable) (top : ℕ) (fact : MustFact) → SetName R v top fact → SetName S v top fact
  name_more v top (With at x) h = h
  name_more v top (Saved b x) h = h
  name_more v top (Kept b x) h = (h.0, h.1, of_top_more top (Kept b) h.2)
  name_more v top (Locked x) h = (h.0, of_top_more top Locked h.1)
  name_more v top (Live x) h = (h.0, live_more top h.1)
  name_more v top (Distinct x y) h = distinct_more v top x y h
  name_more v top (New at) h = h

  other_more : (v : Variable) (top : ℕ) (fact : MustFact) → SetOther R v top fact → SetOther S v top fact
  other_more v top (With at x) h = h
  other_more v top (Saved (on_stack at) x) h = h
  other_more v top (Saved (in_slot b) x) h = (h.0, more (Saved (on_stack top) x) h.1)
  other_more v top (Kept (on_stack at) x) h = h
  other_more v top (Kept (in_slot b) x) h = (h.0, more (Kept (on_stack top) x) h.1)
  other_more v top (Locked x) h = h
  other_more v top (Live x) h = h
  other_more v top (Distinct x y) h = h
  other_more v top (New at) h = h

  set_by_more : (is : Bool) (v : Variable) (top : ℕ) (fact : MustFact) → SetBy R is v top fact → SetBy S is v top fact
  set_by_more true v top fact h = name_more v top fact h
  set_by_more false v top fact h = other_more v top fact h

  used_more : (is : Bool) (place : ℕ) (fact : MustFact) → UsedIf R is place fact → UsedIf S is place fact
  used_more true place (With at x) h = h
  used_more true place (Saved b x) h = h
  used_more true place (Kept b x) h = h
  used_more true place (Locked x) h = h
  used_more true place (Live x) h = more (With place x) h
  used_more true place (Distinct x y) h = h
  used_more true place (New at) h = h
  used_more false place fact h = h

  locked_more : (place : ℕ) (fact : MustFact) → LockedBy R place fact → LockedBy S place fact
  locked_more place (With at x) h = h
  locked_more place (Saved b x) h = h
  locked_more place (Kept b x) h = (more (With place x) h.0, h.1, (h.2.0, more (Saved b h.2.0) h.2.1, apart_more place h.2.0 h.2.2))
  locked_more place (Locked x) h = more (With place x) h
  locked_more place (Live x) h = h
  locked_more place (Distinct x y) h = h
  locked_more place (New at) h = h

  read_more : (place : ℕ) (fact : MustFact) → Read R place fact → Read S place fact
  read_more place (With at x) h = h
  read_more place (Saved (on_stack at) x) h = (h.0, more (With place x) h.1)
  read_more place (Saved (in_slot b) x) h = h
  read_more place (Kept (on_stack at) x) h = (h.0, more (Locked x) h.1)
  read_more place (Kept (in_slot b) x) h = h
  read_more place (Locked x) h = h
  read_more place (Live x) h = h
  read_more place (Distinct x y) h = h
  read_more place (New at) h = h

  -- ---- by the role

  in_role_more : (its : Option Role) (place : ℕ) (fact : MustFact) → StaysInRole R its place fact → StaysInRole S its place fact
  in_role_more None place fact h = h
  in_role_more (Some role.NewHandle) place fact h = h
  in_role_more (Some role.DisposeHandle) place fact h = disposed_more place fact h
  in_role_more (Some role.GetSize) place fact h = h
  in_role_more (Some role.SetSize) place fact h = h
  in_role_more (Some role.Lock) place fact h = h
  in_role_more (Some role.Unlock) place fact h = unlocked_more place fact h
  in_role_more (Some role.Purge) place fact h = h
  in_role_more (Some role.NoPurge) place fact h = h
  in_role_more (Some role.GetState) place fact h = h
  in_role_more (Some role.SetState) place fact h = set_more place fact h
  in_role_more (Some role.Empty) place fact h = h
  in_role_more (Some role.Realloc) place fact h = unlocked_more place fact h
  in_role_more (Some role.NewPtr) place fact h = h
  in_role_more (Some role.DisposePtr) place fact h = h
  in_role_more (Some role.BlockMove) place fact h = h
  in_role_more (Some role.Getchar) place fact h = h
  in_role_more (Some role.Putchar) place fact h = h
  in_role_more (Some role.Plain) place fact h = h

  by_role_more : (its : Option Role) (place : ℕ) (fact : MustFact) → BroughtByRole R its place fact → BroughtByRole S its place fact
  by_role_more None place fact h = h
  by_role_more (Some role.NewHandle) place fact h = h
  by_role_more (Some role.DisposeHandle) place fact h = h
  by_role_more (Some role.GetSize) place fact h = h
  by_role_more (Some role.SetSize) place fact h = h
  by_role_more (Some role.Lock) place fact h = locked_more place fact h
  by_role_more (Some role.Unlock) place fact h = h
  by_role_more (Some role.Purge) place fact h = h
  by_role_more (Some role.NoPurge) place fact h = h
  by_role_more (Some role.GetState) place fact h = read_more place fact h
  by_role_more (Some role.SetState) place fact h = h
  by_role_more (Some role.Empty) place fact h = h
  by_role_more (Some role.Realloc) place fact h = h
  by_role_more (Some role.NewPtr) place fact h = h
  by_role_more (Some role.DisposePtr) place fact h = h
  by_role_more (Some role.BlockMove) place fact h = h
  by_role_more (Some role.Getchar) place fact h = h
  by_role_more (Some role.Putchar) place fact h = h
  by_role_more (Some role.Plain) place fact h = h

  -- ---- by the operation

  tuck_more : (depth : ℕ) (fact : MustFact)
      → Copied R (depth - 1) (depth - 2) fact ⊎ Copied R (depth - 2) (depth - 1) fact ⊎ Copied R (depth - 1) depth fact
      → Copied S (depth - 1) (depth - 2) fact ⊎ Copied S (depth - 2) (depth - 1) fact ⊎ Copied S (depth - 1) depth fact
  tuck_more depth fact (inl h) = inl (copied_more (depth - 1) (depth - 2) fact h)
  tuck_more depth fact (inr (inl h)) = inr (inl (copied_more (depth - 2) (depth - 1) fact h))
  tuck_more depth fact (inr (inr h)) = inr (inr (copied_more (depth - 1) depth fact h))

  brought_more : (from depth : ℕ) (fact : MustFact)
      → Moved R from (depth - 1) fact ⊎ ((at : ℕ) × (from ≤ at) × (suc at < depth) × Moved R (suc at) at fact)
      → Moved S from (depth - 1) fact ⊎ ((at : ℕ) × (from ≤ at) × (suc at < depth) × Moved S (suc at) at fact)
  brought_more from depth fact (inl h) = inl (moved_more from (depth - 1) fact h)
  brought_more from depth fact (inr h) = inr (h.0, h.1, h.2, moved_more (suc h.0) h.0 fact h.3)

  routine_more : (its : Option Role) (makes : Bool) (base : ℕ) (fact : MustFact)
      → UsedIf R (uses_handle its) base fact ⊎ BroughtByRole R its base fact ⊎ MadeIf makes base fact
      → UsedIf S (uses_handle its) base fact ⊎ BroughtByRole S its base fact ⊎ MadeIf makes base fact
  routine_more its makes base fact (inl h) = inl (used_more (uses_handle its) base fact h)
  routine_more its makes base fact (inr (inl h)) = inr (inl (by_role_more its base fact h))
  routine_more its makes base fact (inr (inr h)) = inr (inr h)

  module _ (scope : Scope) (code : FunctionCode) (impact : Impact) where
    stays_more : (its : Op) (depth : ℕ) (fact : MustFact) → Stays scope code impact R its depth fact → Stays scope code impact S its depth fact
    stays_more (op.Num bits) depth fact h = h
    stays_more op.Nil depth fact h = h
    stays_more (op.Address its) depth fact h = h
    stays_more (op.Get v) depth fact h = h
    stays_more (op.Set v) depth fact h = h
    stays_more (op.Load its) depth fact h = h
    stays_more (op.Store its) depth fact h = h
    stays_more op.Drop depth fact h = h
    stays_more op.Dup depth fact h = h
    stays_more op.Tuck depth fact h = h
    stays_more (op.Conv kind) depth fact h = h
    stays_more (op.Unary its) depth fact h = h
    stays_more (op.Binary its kind) depth fact h = h
    stays_more op.IsNil depth fact h = h
    stays_more (op.Compare its) depth fact h = h
    stays_more (op.Difference size) depth fact h = h
    stays_more (op.Offset bytes) depth fact h = h
    stays_more (op.Step stride pointer_first) depth fact h = h
    stays_more (op.Jump target) depth fact h = h
    stays_more (op.Zero target) depth fact h = h
    stays_more (op.Choose goal) depth fact h = h
    stays_more (op.Shift place) depth fact h = h
    stays_more (op.Routine place) depth fact h = (h.0, in_role_more (role_at scope place) (depth - taken scope (op.Routine place)) fact h.1)
    stays_more (op.Call f) depth fact h = h
    stays_more op.Return depth fact h = h
    stays_more op.Turn depth fact h = h
    stays_more op.Mark depth fact h = h
    stays_more (op.Pick target) depth fact h = h
    stays_more (op.Bring place) depth fact h = h

    brings_more : (its : Op) (depth : ℕ) (fact : MustFact) → Brings scope code impact R its depth fact → Brings scope code impact S its depth fact
    brings_more (op.Num bits) depth fact h = h
    brings_more op.Nil depth fact h = h
    brings_more (op.Address its) depth fact h = h
    brings_more (op.Get v) depth fact h = got_more v depth fact h
    brings_more (op.Set v) depth fact h = set_by_more (is_name scope code v) v (depth - 1) fact h
    brings_more (op.Load its) depth fact h = used_more true (depth - 1) fact h
    brings_more (op.Store its) depth fact h = h
    brings_more op.Drop depth fact h = h
    brings_more op.Dup depth fact h = copied_more (depth - 1) depth fact h
    brings_more op.Tuck depth fact h = tuck_more depth fact h
    brings_more (op.Conv kind) depth fact h = byte_more (depth - 1) fact h
    brings_more (op.Unary its) depth fact h = h
    brings_more (op.Binary its kind) depth fact h = h
    brings_more op.IsNil depth fact h = h
    brings_more (op.Compare its) depth fact h = h
    brings_more (op.Difference size) depth fact h = h
    brings_more (op.Offset bytes) depth fact h = h
    brings_more (op.Step stride pointer_first) depth fact h = h
    brings_more (op.Jump target) depth fact h = h
    brings_more (op.Zero target) depth fact h = h
    brings_more (op.Choose goal) depth fact h = h
    brings_more (op.Shift place) depth fact h = h
    brings_more (op.Routine place) depth fact h = routine_more (role_at scope place) (makes_handle scope place) (depth - taken scope (op.Routine place)) fact h
    brings_more (op.Call f) depth fact h = h
    brings_more op.Return depth fact h = h
    brings_more op.Turn depth fact h = h
    brings_more op.Mark depth fact h = h
    brings_more (op.Pick target) depth fact h = h
    brings_more (op.Bring place) depth fact h = brought_more (depth - place) depth fact h

    -- an operation gives no less
    pub Gives-more : (its : Op) (depth : ℕ) (fact : MustFact) → Gives scope code impact R its depth fact → Gives scope code impact S its depth fact
    Gives-more its depth fact (inl h) = inl (stays_more its depth fact h.0, more fact h.1)
    Gives-more its depth fact (inr h) = inr (brings_more its depth fact h)
