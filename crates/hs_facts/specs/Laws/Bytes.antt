-- With and Saved depend on what calls assign, and on nothing else that they do. So a restore is the same whether the other effects are known
-- or not, and effects can be found from these facts first.
--     IsOfByte fact              With or Saved
--     Holds-bytes                if two impacts agree in what calls assign, such a fact holds by the one if it holds by the other
use Rattle.std.proofs.Common.{inl, inr}
use Rattle.std.specs.Prelude.{◌<◌, ◌≤◌, ◌⊎◌, ℕ, zero, suc, ◌-◌, Bool, true, false, Option, Some, None}
use Rattle.hs_code.specs.Stacks.{Scope}
use Rattle.hs_code.specs.declared.function_code.FunctionCode.{FunctionCode}
use Rattle.hs_code.specs.declared.op.Op.{Op}
use Rattle.hs_code.specs.declared.op.Op.TheVariants as op
use Rattle.hs_facts.specs.Changes.{StaysInRole, Copied, Moved, CopiedByte, Got, SetBy, UsedIf, LockedBy, Read, BroughtByRole, MadeIf, Impact, StaysInCall, Stays, Brings, Gives}
use Rattle.hs_facts.specs.MustFacts.{MustFact, on_stack, in_slot, With, Saved, Kept, Locked, Live, Distinct, New}
use Rattle.hs_facts.specs.Names.{is_name, taken, role_at, uses_handle, makes_handle}
use Rattle.hs_facts.specs.Rounds.{HoldsIn, Holds}
use Rattle.hs_table.specs.declared.role.Role.{Role}
use Rattle.hs_table.specs.declared.role.Role.TheVariants as role
use Rattle.hs_tree.specs.declared.head.Variable.{Variable}

-- what a place has, or from which handle a byte was read
abbrev pub IsOfByte : MustFact → Type 0
IsOfByte (With place x) = Unit {0}
IsOfByte (Saved b x) = Unit {0}
IsOfByte _ = ⊥

module _ (R S : MustFact → Type 0) (more : (fact : MustFact) → IsOfByte fact → R fact → S fact) where
  -- ---- by the fact

  copied_byte : (from to : ℕ) (fact : MustFact) → IsOfByte fact → Copied R from to fact → Copied S from to fact
  copied_byte from to (With at x) is h = (h.0, more (With from x) tt h.1)
  copied_byte from to (Saved (on_stack at) x) is h = (h.0, more (Saved (on_stack from) x) tt h.1)
  copied_byte from to (Saved (in_slot b) x) is h = h
  copied_byte from to (Kept b x) is h = absurd is
  copied_byte from to (Locked x) is h = absurd is
  copied_byte from to (Live x) is h = absurd is
  copied_byte from to (Distinct x y) is h = absurd is
  copied_byte from to (New at) is h = absurd is

  moved_byte : (from to : ℕ) (fact : MustFact) → IsOfByte fact → Moved R from to fact → Moved S from to fact
  moved_byte from to (With at x) is h = copied_byte from to (With at x) tt h
  moved_byte from to (Saved b x) is h = copied_byte from to (Saved b x) tt h
  moved_byte from to (Kept b x) is h = absurd is
  moved_byte from to (Locked x) is h = absurd is
  moved_byte from to (Live x) is h = absurd is
  moved_byte from to (Distinct x y) is h = absurd is
  moved_byte from to (New at) is h = absurd is

  converted_byte : (top : ℕ) (fact : MustFact) → IsOfByte fact → CopiedByte R top fact → CopiedByte S top fact
  converted_byte top (With at x) is h = h
  converted_byte top (Saved (on_stack at) x) is h = (h.0, more (Saved (on_stack top) x) tt h.1)
  converted_byte top (Saved (in_slot b) x) is h = h
  converted_byte top (Kept b x) is h = absurd is
  converted_byte top (Locked x) is h = absurd is
  converted_byte top (Live x) is h = absurd is
  converted_byte top (Distinct x y) is h = absurd is
  converted_byte top (New at) is h = absurd is

  got_byte : (v : Variable) (to : ℕ) (fact : MustFact) → IsOfByte fact → Got R v to fact → Got S v to fact
  got_byte v to (With at x) is h = h
  got_byte v to (Saved (on_stack at) x) is h = (h.0, more (Saved (in_slot v) x) tt h.1)
  got_byte v to (Saved (in_slot b) x) is h = h
  got_byte v to (Kept b x) is h = absurd is
  got_byte v to (Locked x) is h = absurd is
  got_byte v to (Live x) is h = absurd is
  got_byte v to (Distinct x y) is h = absurd is
  got_byte v to (New at) is h = absurd is

  set_byte : (its : Bool) (v : Variable) (top : ℕ) (fact : MustFact) → IsOfByte fact → SetBy R its v top fact → SetBy S its v top fact
  set_byte true v top (With at x) is h = h
  set_byte true v top (Saved b x) is h = h
  set_byte true v top (Kept b x) is h = absurd is
  set_byte true v top (Locked x) is h = absurd is
  set_byte true v top (Live x) is h = absurd is
  set_byte true v top (Distinct x y) is h = absurd is
  set_byte true v top (New at) is h = absurd is
  set_byte false v top (With at x) is h = h
  set_byte false v top (Saved (on_stack at) x) is h = h
  set_byte false v top (Saved (in_slot b) x) is h = (h.0, more (Saved (on_stack top) x) tt h.1)
  set_byte false v top (Kept b x) is h = absurd is
  set_byte false v top (Locked x) is h = absurd is
  set_byte false v top (Live x) is h = absurd is
  set_byte false v top (Distinct x y) is h = absurd is
  set_byte false v top (New at) is h = absurd is

  used_byte : (its : Bool) (place : ℕ) (fact : MustFact) → IsOfByte fact → UsedIf R its place fact → UsedIf S its place fact
  used_byte true place (With at x) is h = h
  used_byte true place (Saved b x) is h = h
  used_byte true place (Kept b x) is h = absurd is
  used_byte true place (Locked x) is h = absurd is
  used_byte true place (Live x) is h = absurd is
  used_byte true place (Distinct x y) is h = absurd is
  used_byte true place (New at) is h = absurd is
  used_byte false place fact is h = h

  locked_byte : (place : ℕ) (fact : MustFact) → IsOfByte fact → LockedBy R place fact → LockedBy S place fact
  locked_byte place (With at x) is h = h
  locked_byte place (Saved b x) is h = h
  locked_byte place (Kept b x) is h = absurd is
  locked_byte place (Locked x) is h = absurd is
  locked_byte place (Live x) is h = absurd is
  locked_byte place (Distinct x y) is h = absurd is
  locked_byte place (New at) is h = absurd is

  read_byte : (place : ℕ) (fact : MustFact) → IsOfByte fact → Read R place fact → Read S place fact
  read_byte place (With at x) is h = h
  read_byte place (Saved (on_stack at) x) is h = (h.0, more (With place x) tt h.1)
  read_byte place (Saved (in_slot b) x) is h = h
  read_byte place (Kept b x) is h = absurd is
  read_byte place (Locked x) is h = absurd is
  read_byte place (Live x) is h = absurd is
  read_byte place (Distinct x y) is h = absurd is
  read_byte place (New at) is h = absurd is

  -- ---- by the role

  by_role_byte : (its : Option Role) (place : ℕ) (fact : MustFact) → IsOfByte fact → BroughtByRole R its place fact → BroughtByRole S its place fact
  by_role_byte None place fact is h = h
  by_role_byte (Some role.NewHandle) place fact is h = h
  by_role_byte (Some role.DisposeHandle) place fact is h = h
  by_role_byte (Some role.GetSize) place fact is h = h
  by_role_byte (Some role.SetSize) place fact is h = h
  by_role_byte (Some role.Lock) place fact is h = locked_byte place fact is h
  by_role_byte (Some role.Unlock) place fact is h = h
  by_role_byte (Some role.Purge) place fact is h = h
  by_role_byte (Some role.NoPurge) place fact is h = h
  by_role_byte (Some role.GetState) place fact is h = read_byte place fact is h
  by_role_byte (Some role.SetState) place fact is h = h
  by_role_byte (Some role.Empty) place fact is h = h
  by_role_byte (Some role.Realloc) place fact is h = h
  by_role_byte (Some role.NewPtr) place fact is h = h
  by_role_byte (Some role.DisposePtr) place fact is h = h
  by_role_byte (Some role.BlockMove) place fact is h = h
  by_role_byte (Some role.Getchar) place fact is h = h
  by_role_byte (Some role.Putchar) place fact is h = h
  by_role_byte (Some role.Plain) place fact is h = h

  -- With and Saved stay at each routine, but for places that are taken
  in_role_byte : (its : Option Role) (place : ℕ) (fact : MustFact) → IsOfByte fact → StaysInRole R its place fact → StaysInRole S its place fact
  in_role_byte None place fact is h = h
  in_role_byte (Some role.NewHandle) place fact is h = h
  in_role_byte (Some role.DisposeHandle) place (With at x) is h = h
  in_role_byte (Some role.DisposeHandle) place (Saved b x) is h = h
  in_role_byte (Some role.DisposeHandle) place (Kept b x) is h = absurd is
  in_role_byte (Some role.DisposeHandle) place (Locked x) is h = absurd is
  in_role_byte (Some role.DisposeHandle) place (Live x) is h = absurd is
  in_role_byte (Some role.DisposeHandle) place (Distinct x y) is h = absurd is
  in_role_byte (Some role.DisposeHandle) place (New at) is h = absurd is
  in_role_byte (Some role.GetSize) place fact is h = h
  in_role_byte (Some role.SetSize) place fact is h = h
  in_role_byte (Some role.Lock) place fact is h = h
  in_role_byte (Some role.Unlock) place (With at x) is h = h
  in_role_byte (Some role.Unlock) place (Saved b x) is h = h
  in_role_byte (Some role.Unlock) place (Kept b x) is h = absurd is
  in_role_byte (Some role.Unlock) place (Locked x) is h = absurd is
  in_role_byte (Some role.Unlock) place (Live x) is h = absurd is
  in_role_byte (Some role.Unlock) place (Distinct x y) is h = absurd is
  in_role_byte (Some role.Unlock) place (New at) is h = absurd is
  in_role_byte (Some role.Purge) place fact is h = h
  in_role_byte (Some role.NoPurge) place fact is h = h
  in_role_byte (Some role.GetState) place fact is h = h
  in_role_byte (Some role.SetState) place (With at x) is h = h
  in_role_byte (Some role.SetState) place (Saved b x) is h = h
  in_role_byte (Some role.SetState) place (Kept b x) is h = absurd is
  in_role_byte (Some role.SetState) place (Locked x) is h = absurd is
  in_role_byte (Some role.SetState) place (Live x) is h = absurd is
  in_role_byte (Some role.SetState) place (Distinct x y) is h = absurd is
  in_role_byte (Some role.SetState) place (New at) is h = absurd is
  in_role_byte (Some role.Empty) place fact is h = h
  in_role_byte (Some role.Realloc) place (With at x) is h = h
  in_role_byte (Some role.Realloc) place (Saved b x) is h = h
  in_role_byte (Some role.Realloc) place (Kept b x) is h = absurd is
  in_role_byte (Some role.Realloc) place (Locked x) is h = absurd is
  in_role_byte (Some role.Realloc) place (Live x) is h = absurd is
  in_role_byte (Some role.Realloc) place (Distinct x y) is h = absurd is
  in_role_byte (Some role.Realloc) place (New at) is h = absurd is
  in_role_byte (Some role.NewPtr) place fact is h = h
  in_role_byte (Some role.DisposePtr) place fact is h = h
  in_role_byte (Some role.BlockMove) place fact is h = h
  in_role_byte (Some role.Getchar) place fact is h = h
  in_role_byte (Some role.Putchar) place fact is h = h
  in_role_byte (Some role.Plain) place fact is h = h

  -- ---- by the operation

  tuck_byte : (depth : ℕ) (fact : MustFact) → IsOfByte fact
      → Copied R (depth - 1) (depth - 2) fact ⊎ Copied R (depth - 2) (depth - 1) fact ⊎ Copied R (depth - 1) depth fact
      → Copied S (depth - 1) (depth - 2) fact ⊎ Copied S (depth - 2) (depth - 1) fact ⊎ Copied S (depth - 1) depth fact
  tuck_byte depth fact is (inl h) = inl (copied_byte (depth - 1) (depth - 2) fact is h)
  tuck_byte depth fact is (inr (inl h)) = inr (inl (copied_byte (depth - 2) (depth - 1) fact is h))
  tuck_byte depth fact is (inr (inr h)) = inr (inr (copied_byte (depth - 1) depth fact is h))

  brought_byte : (from depth : ℕ) (fact : MustFact) → IsOfByte fact
      → Moved R from (depth - 1) fact ⊎ ((at : ℕ) × (from ≤ at) × (suc at < depth) × Moved R (suc at) at fact)
      → Moved S from (depth - 1) fact ⊎ ((at : ℕ) × (from ≤ at) × (suc at < depth) × Moved S (suc at) at fact)
  brought_byte from depth fact is (inl h) = inl (moved_byte from (depth - 1) fact is h)
  brought_byte from depth fact is (inr h) = inr (h.0, h.1, h.2, moved_byte (suc h.0) h.0 fact is h.3)

  routine_byte : (its : Option Role) (makes : Bool) (base : ℕ) (fact : MustFact) → IsOfByte fact
      → UsedIf R (uses_handle its) base fact ⊎ BroughtByRole R its base fact ⊎ MadeIf makes base fact
      → UsedIf S (uses_handle its) base fact ⊎ BroughtByRole S its base fact ⊎ MadeIf makes base fact
  routine_byte its makes base fact is (inl h) = inl (used_byte (uses_handle its) base fact is h)
  routine_byte its makes base fact is (inr (inl h)) = inr (inl (by_role_byte its base fact is h))
  routine_byte its makes base fact is (inr (inr h)) = inr (inr h)

  module _ (scope : Scope) (code : FunctionCode) (one two : Impact) (same : (f g : ℕ) → two.assigns f g → one.assigns f g) where
    in_call_byte : (f : ℕ) (fact : MustFact) → IsOfByte fact → StaysInCall one f fact → StaysInCall two f fact
    in_call_byte f (With at x) is h = h
    in_call_byte f (Saved b x) is h = h
    in_call_byte f (Kept b x) is h = absurd is
    in_call_byte f (Locked x) is h = absurd is
    in_call_byte f (Live x) is h = absurd is
    in_call_byte f (Distinct x y) is h = absurd is
    in_call_byte f (New at) is h = absurd is

    stays_byte : (its : Op) (depth : ℕ) (fact : MustFact) → IsOfByte fact → Stays scope code one R its depth fact
        → Stays scope code two S its depth fact
    stays_byte (op.Num bits) depth fact is h = h
    stays_byte op.Nil depth fact is h = h
    stays_byte (op.Address its) depth fact is h = h
    stays_byte (op.Get v) depth fact is h = h
    stays_byte (op.Set v) depth fact is h = h
    stays_byte (op.Load its) depth fact is h = h
    stays_byte (op.Store its) depth fact is h = h
    stays_byte op.Drop depth fact is h = h
    stays_byte op.Dup depth fact is h = h
    stays_byte op.Tuck depth fact is h = h
    stays_byte (op.Conv kind) depth fact is h = h
    stays_byte (op.Unary its) depth fact is h = h
    stays_byte (op.Binary its kind) depth fact is h = h
    stays_byte op.IsNil depth fact is h = h
    stays_byte (op.Compare its) depth fact is h = h
    stays_byte (op.Difference size) depth fact is h = h
    stays_byte (op.Offset bytes) depth fact is h = h
    stays_byte (op.Step stride pointer_first) depth fact is h = h
    stays_byte (op.Jump target) depth fact is h = h
    stays_byte (op.Zero target) depth fact is h = h
    stays_byte (op.Choose goal) depth fact is h = h
    stays_byte (op.Shift place) depth fact is h = h
    stays_byte (op.Routine place) depth fact is h = (h.0, in_role_byte (role_at scope place) (depth - taken scope (op.Routine place)) fact is h.1)
    stays_byte (op.Call f) depth fact is h = (h.0, in_call_byte f fact is h.1, λ g assigned. h.2 g (same f g assigned))
    stays_byte op.Return depth fact is h = h
    stays_byte op.Turn depth fact is h = h
    stays_byte op.Mark depth fact is h = h
    stays_byte (op.Pick target) depth fact is h = h
    stays_byte (op.Bring place) depth fact is h = h

    brings_byte : (its : Op) (depth : ℕ) (fact : MustFact) → IsOfByte fact → Brings scope code one R its depth fact
        → Brings scope code two S its depth fact
    brings_byte (op.Num bits) depth fact is h = h
    brings_byte op.Nil depth fact is h = h
    brings_byte (op.Address its) depth fact is h = h
    brings_byte (op.Get v) depth fact is h = got_byte v depth fact is h
    brings_byte (op.Set v) depth fact is h = set_byte (is_name scope code v) v (depth - 1) fact is h
    brings_byte (op.Load its) depth fact is h = used_byte true (depth - 1) fact is h
    brings_byte (op.Store its) depth fact is h = h
    brings_byte op.Drop depth fact is h = h
    brings_byte op.Dup depth fact is h = copied_byte (depth - 1) depth fact is h
    brings_byte op.Tuck depth fact is h = tuck_byte depth fact is h
    brings_byte (op.Conv kind) depth fact is h = converted_byte (depth - 1) fact is h
    brings_byte (op.Unary its) depth fact is h = h
    brings_byte (op.Binary its kind) depth fact is h = h
    brings_byte op.IsNil depth fact is h = h
    brings_byte (op.Compare its) depth fact is h = h
    brings_byte (op.Difference size) depth fact is h = h
    brings_byte (op.Offset bytes) depth fact is h = h
    brings_byte (op.Step stride pointer_first) depth fact is h = h
    brings_byte (op.Jump target) depth fact is h = h
    brings_byte (op.Zero target) depth fact is h = h
    brings_byte (op.Choose goal) depth fact is h = h
    brings_byte (op.Shift place) depth fact is h = h
    brings_byte (op.Routine place) depth fact is h =
        routine_byte (role_at scope place) (makes_handle scope place) (depth - taken scope (op.Routine place)) fact is h
    brings_byte (op.Call f) depth fact is h = h
    brings_byte op.Return depth fact is h = h
    brings_byte op.Turn depth fact is h = h
    brings_byte op.Mark depth fact is h = h
    brings_byte (op.Pick target) depth fact is h = h
    brings_byte (op.Bring place) depth fact is h = brought_byte (depth - place) depth fact is h

    pub Gives-byte : (its : Op) (depth : ℕ) (fact : MustFact) → IsOfByte fact → Gives scope code one R its depth fact
        → Gives scope code two S its depth fact
    Gives-byte its depth fact is (inl h) = inl (stays_byte its depth fact is h.0, more fact is h.1)
    Gives-byte its depth fact is (inr h) = inr (brings_byte its depth fact is h)

-- ---- rounds

module _ (scope : Scope) (code : FunctionCode) (one two : Impact) (same : (f g : ℕ) → two.assigns f g → one.assigns f g) where
  in_round : (round at : ℕ) (fact : MustFact) → IsOfByte fact → HoldsIn scope code one round at fact → HoldsIn scope code two round at fact
  in_round zero at fact is h = h
  in_round (suc round) at fact is h = (
    h.0,
    h.1,
    λ from its there next.
        Gives-byte (HoldsIn scope code one round from) (HoldsIn scope code two round from) (λ it of. in_round round from it of) scope code one two same
        its.op its.places fact is (h.2 from its there next),
  )

  -- and so in every round
  pub Holds-bytes : (at : ℕ) (fact : MustFact) → IsOfByte fact → Holds scope code one at fact → Holds scope code two at fact
  Holds-bytes at fact is h = λ round. in_round round at fact is (h round)
