-- What an operation does to must facts (own).
--     Impact                                    what calls of functions do to them
--     Stays, Brings scope code impact R ..      a fact stays, or comes
--     Gives scope code impact R op depth fact   the fact is true after the operation, if the facts of R are true before it
-- Each condition is read from R, which has the facts that hold before the operation on all paths to it. So after `x = c ? y : z` no lock of x is
-- known, though y and z are both locked: neither `With(top, y)` nor `With(top, z)` is in R.
use Rattle.std.specs.Prelude.{◌≡◌, ◌<◌, ◌≤◌, ◌⊎◌, ℕ, suc, ◌-◌, Bool, true, false, Option, Some}
use Rattle.hs_code.specs.Stacks.{Scope}
use Rattle.hs_code.specs.declared.function_code.FunctionCode.{FunctionCode}
use Rattle.hs_code.specs.declared.op.Op.{Op}
use Rattle.hs_code.specs.declared.op.Op.TheVariants as op
use Rattle.hs_facts.specs.MustFacts.{MustFact, on_stack, in_slot, With, Saved, Kept, Locked, Live, Distinct, New, KeeperUnder, Under, keeper_free, free_of, not_new}
use Rattle.hs_facts.specs.Names.{is_name, taken, role_at, uses_handle, makes_handle}
use Rattle.hs_table.specs.declared.role.Role.{Role}
use Rattle.hs_table.specs.declared.role.Role.TheVariants as role
use Rattle.hs_tree.specs.declared.head.Variable.{Variable}
use Rattle.hs_tree.specs.declared.head.Variable.TheVariants as name

-- ---- facts that come, whatever holds

-- a handle was made
abbrev pub MadeIf : Bool → ℕ → MustFact → Type 0
MadeIf true place (New at) = at ≡ place
MadeIf made place fact = ⊥

module _ (R : MustFact → Type 0) where
  -- ---- conditions

  -- one of the names of the place has no handle of the block of y
  abbrev pub Apart : ℕ → Variable → Type 0
  Apart place y = (x : Variable) × R (With place x) × R (Distinct x y)

  -- the byte of one place was read from the handle of another
  abbrev pub IsRestore : ℕ → ℕ → Type 0
  IsRestore place byte = (x : Variable) × R (With place x) × R (Saved (on_stack byte) x)

  -- y stays locked when the byte is put back on its handle, which is right below it
  abbrev pub Restored : ℕ → Variable → Type 0
  Restored place y = IsRestore place (suc place) × R (Kept (on_stack (suc place)) y)

  -- ---- facts that stay at a routine whose first argument has that place

  -- at unlock and realloc: a lock stays if its name is apart
  abbrev pub StaysUnlocked : ℕ → MustFact → Type 0
  StaysUnlocked place (Locked y) = Apart place y
  StaysUnlocked place (Kept b y) = Apart place y
  StaysUnlocked place _ = Unit {0}

  -- at set_state: or if the byte keeps it
  abbrev pub StaysSet : ℕ → MustFact → Type 0
  StaysSet place (Locked y) = Apart place y ⊎ Restored place y
  StaysSet place (Kept b y) = Apart place y ⊎ Restored place y
  StaysSet place _ = Unit {0}

  -- at dispose_handle: a name stays live if it is apart
  abbrev pub StaysDisposed : ℕ → MustFact → Type 0
  StaysDisposed place (Live y) = Apart place y
  StaysDisposed place _ = Unit {0}

  -- by the role of the routine
  abbrev pub StaysInRole : Option Role → ℕ → MustFact → Type 0
  StaysInRole (Some role.Unlock) place fact = StaysUnlocked place fact
  StaysInRole (Some role.Realloc) place fact = StaysUnlocked place fact
  StaysInRole (Some role.SetState) place fact = StaysSet place fact
  StaysInRole (Some role.DisposeHandle) place fact = StaysDisposed place fact
  StaysInRole _ place fact = Unit {0}

  -- ---- facts that come with a value

  -- what is known of one place is known of another, but New
  abbrev pub Copied : ℕ → ℕ → MustFact → Type 0
  Copied from to (With place x) = (place ≡ to) × R (With from x)
  Copied from to (Saved (on_stack place) x) = (place ≡ to) × R (Saved (on_stack from) x)
  Copied from to (Kept (on_stack place) x) = (place ≡ to) × R (Kept (on_stack from) x)
  Copied from to _ = ⊥

  -- and New too, as the value is no longer in the first place
  abbrev pub Moved : ℕ → ℕ → MustFact → Type 0
  Moved from to (New place) = (place ≡ to) × R (New from)
  Moved from to fact = Copied from to fact

  -- a conversion leaves a state byte as it is
  abbrev pub CopiedByte : ℕ → MustFact → Type 0
  CopiedByte top (Saved (on_stack place) x) = (place ≡ top) × R (Saved (on_stack top) x)
  CopiedByte top (Kept (on_stack place) x) = (place ≡ top) × R (Kept (on_stack top) x)
  CopiedByte top _ = ⊥

  -- the value of the slot v is in that place
  abbrev pub Got : Variable → ℕ → MustFact → Type 0
  Got v to (With place x) = (place ≡ to) × (x ≡ v)
  Got v to (Saved (on_stack place) x) = (place ≡ to) × R (Saved (in_slot v) x)
  Got v to (Kept (on_stack place) x) = (place ≡ to) × R (Kept (in_slot v) x)
  Got v to _ = ⊥

  -- ---- facts that come at Set

  -- it is known of a name of the top
  abbrev pub OfTop : ℕ → (Variable → MustFact) → Type 0
  OfTop top of = (y : Variable) × R (With top y) × R (of y)

  -- the top has no handle of the block of z
  abbrev pub TopApart : ℕ → Variable → Type 0
  TopApart top z = R (New top) ⊎ OfTop top (λ y. Distinct y z)

  -- the name v is given the top
  abbrev pub SetName : Variable → ℕ → MustFact → Type 0
  SetName v top (With place x) = (place ≡ top) × (x ≡ v)
  SetName v top (Saved b x) = ⊥
  SetName v top (Kept b x) = (x ≡ v) × (keeper_free v b ≡ true) × OfTop top (Kept b)
  SetName v top (Locked x) = (x ≡ v) × OfTop top Locked
  SetName v top (Live x) = (x ≡ v) × (R (New top) ⊎ OfTop top Live)
  SetName v top (Distinct x y) = ((x ≡ v) × TopApart top y) ⊎ ((y ≡ v) × TopApart top x)
  SetName v top (New place) = ⊥

  -- a slot v that is no name is given the top
  abbrev pub SetOther : Variable → ℕ → MustFact → Type 0
  SetOther v top (Saved (in_slot b) x) = (b ≡ v) × R (Saved (on_stack top) x)
  SetOther v top (Kept (in_slot b) x) = (b ≡ v) × R (Kept (on_stack top) x)
  SetOther v top _ = ⊥

  -- by whether v is a name
  abbrev pub SetBy : Bool → Variable → ℕ → MustFact → Type 0
  SetBy true v top fact = SetName v top fact
  SetBy false v top fact = SetOther v top fact

  -- ---- facts that come at a load or a routine

  -- a handle that is used is live
  abbrev pub UsedIf : Bool → ℕ → MustFact → Type 0
  UsedIf true place (Live x) = R (With place x)
  UsedIf used place fact = ⊥

  -- the block of the handle is locked, and stays so when a byte is put back that was read from a handle that is apart
  abbrev pub LockedBy : ℕ → MustFact → Type 0
  LockedBy place (Locked x) = R (With place x)
  LockedBy place (Kept b x) = R (With place x) × KeeperUnder place b × ((z : Variable) × R (Saved b z) × Apart place z)
  LockedBy place _ = ⊥

  -- the state of the handle is read, and the byte takes its place on the stack: what is locked now stays locked when it is put back
  abbrev pub Read : ℕ → MustFact → Type 0
  Read place (Saved (on_stack b) x) = (b ≡ place) × R (With place x)
  Read place (Kept (on_stack b) x) = (b ≡ place) × R (Locked x)
  Read place _ = ⊥

  -- by the role of the routine
  abbrev pub BroughtByRole : Option Role → ℕ → MustFact → Type 0
  BroughtByRole (Some role.Lock) place fact = LockedBy place fact
  BroughtByRole (Some role.GetState) place fact = Read place fact
  BroughtByRole _ place fact = ⊥

-- ---- calls

-- what a call of a function does, by its number: it may assign a global, unlock a block, dispose of a block
pub record Impact : Type 1 where
  pub assigns : ℕ → ℕ → Type 0
  pub unlocks : ℕ → Type 0
  pub disposes : ℕ → Type 0

-- at a call of the function
abbrev pub StaysInCall : Impact → ℕ → MustFact → Type 0
StaysInCall impact f (Locked x) = ¬ (impact.unlocks f)
StaysInCall impact f (Kept b x) = ¬ (impact.unlocks f)
StaysInCall impact f (Live x) = ¬ (impact.disposes f)
StaysInCall impact f _ = Unit {0}

-- the fact names no global that the function assigns
abbrev pub IsSpared : Impact → ℕ → MustFact → Type 0
IsSpared impact f fact = (g : ℕ) → impact.assigns f g → free_of (name.Global g) fact ≡ true

-- ---- by the operation, with so many values on the stack before it

module _ (scope : Scope) (code : FunctionCode) (impact : Impact) (R : MustFact → Type 0) where
  -- a fact that is true before the operation stays true
  abbrev pub Stays : Op → ℕ → MustFact → Type 0
  Stays (op.Set v) depth fact = Under depth fact × (free_of v fact ≡ true) × (not_new (depth - 1) fact ≡ true)
  Stays op.Dup depth fact = Under depth fact × (not_new (depth - 1) fact ≡ true)
  Stays (op.Routine place) depth fact =
      Under (depth - taken scope (op.Routine place)) fact
      × StaysInRole R (role_at scope place) (depth - taken scope (op.Routine place)) fact
  Stays (op.Call f) depth fact = Under (depth - taken scope (op.Call f)) fact × StaysInCall impact f fact × IsSpared impact f fact
  Stays its depth fact = Under (depth - taken scope its) fact

  -- a fact becomes true. `Bring` moves the value of a place to the top, and each value above it one place down
  abbrev pub Brings : Op → ℕ → MustFact → Type 0
  Brings (op.Get v) depth fact = Got R v depth fact
  Brings (op.Set v) depth fact = SetBy R (is_name scope code v) v (depth - 1) fact
  Brings (op.Load its) depth fact = UsedIf R true (depth - 1) fact
  Brings op.Dup depth fact = Copied R (depth - 1) depth fact
  Brings op.Tuck depth fact = Copied R (depth - 1) (depth - 2) fact ⊎ Copied R (depth - 2) (depth - 1) fact ⊎ Copied R (depth - 1) depth fact
  Brings (op.Conv kind) depth fact = CopiedByte R (depth - 1) fact
  Brings (op.Bring place) depth fact =
      Moved R (depth - place) (depth - 1) fact
      ⊎ ((at : ℕ) × (depth - place ≤ at) × (suc at < depth) × Moved R (suc at) at fact)
  Brings (op.Routine place) depth fact =
      UsedIf R (uses_handle (role_at scope place)) (depth - taken scope (op.Routine place)) fact
      ⊎ BroughtByRole R (role_at scope place) (depth - taken scope (op.Routine place)) fact
      ⊎ MadeIf (makes_handle scope place) (depth - taken scope (op.Routine place)) fact
  Brings _ depth fact = ⊥

  -- it is true after the operation
  abbrev pub Gives : Op → ℕ → MustFact → Type 0
  Gives its depth fact = (Stays its depth fact × R fact) ⊎ Brings its depth fact
