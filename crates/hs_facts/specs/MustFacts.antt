-- Must facts: what can be known of the values and slots of a call (own).
--     Keeper              where a state byte is kept
--     MustFact            a fact
--     Under depth fact    the places of the fact are below that one
--     free_of v fact      the fact does not name the variable
--     Exists              a fact about names, slots and places that are there
use Rattle.std.specs.Prelude.{◌≡◌, ◌<◌, ℕ, ◌==◌, Bool, true, false, not, ◌&&◌}
use Rattle.hs_code.specs.Codes.{is_slot_in}
use Rattle.hs_code.specs.Stacks.{Scope, variable_in}
use Rattle.hs_code.specs.declared.function_code.FunctionCode.{FunctionCode}
use Rattle.hs_facts.specs.Names.{same_variable, is_name}
use Rattle.hs_tree.specs.declared.head.Variable.{Variable}

-- ---- facts

-- where a state byte is kept: a place on the stack, counted from 0 at its bottom, or a slot
pub data Keeper : Type 0 where
  on_stack : ℕ → Keeper
  in_slot : Variable → Keeper

-- x, y are handle names, b is a keeper, and a place is counted from 0 at the bottom of the stack.
--     With place x      the place has the value of x
--     Saved b x         b has a state byte that was read from the handle in x
--     Kept b x          x stays locked when the byte of b is put back on the handle from which it was read
--     Locked x          x has no handle, or the block of its handle is locked or not present
--     Live x            x is defined, and has no disposed handle
--     Distinct x y      x and y are two names, and have no handles of one block
--     New place         the place has NIL, or the handle of a block that is not disposed, and nothing else has a handle of that block
pub data MustFact : Type 0 where
  With : ℕ → Variable → MustFact
  Saved : Keeper → Variable → MustFact
  Kept : Keeper → Variable → MustFact
  Locked : Variable → MustFact
  Live : Variable → MustFact
  Distinct : Variable → Variable → MustFact
  New : ℕ → MustFact

-- ---- tests of facts

-- a slot, or a place below that one
abbrev pub KeeperUnder : ℕ → Keeper → Type 0
KeeperUnder depth (on_stack place) = place < depth
KeeperUnder depth (in_slot b) = Unit {0}

-- each place that the fact names is below that one
abbrev pub Under : ℕ → MustFact → Type 0
Under depth (With place x) = place < depth
Under depth (Saved b x) = KeeperUnder depth b
Under depth (Kept b x) = KeeperUnder depth b
Under depth (Locked x) = Unit {0}
Under depth (Live x) = Unit {0}
Under depth (Distinct x y) = Unit {0}
Under depth (New place) = place < depth

-- the byte is not kept in the variable
abbrev pub keeper_free : Variable → Keeper → Bool
keeper_free v (on_stack place) = true
keeper_free v (in_slot b) = not (same_variable b v)

-- the fact does not name the variable
abbrev pub free_of : Variable → MustFact → Bool
free_of v (With place x) = not (same_variable x v)
free_of v (Saved b x) = keeper_free v b && not (same_variable x v)
free_of v (Kept b x) = keeper_free v b && not (same_variable x v)
free_of v (Locked x) = not (same_variable x v)
free_of v (Live x) = not (same_variable x v)
free_of v (Distinct x y) = not (same_variable x v) && not (same_variable y v)
free_of v (New place) = true

-- the fact is not New of that place
abbrev pub not_new : ℕ → MustFact → Bool
not_new top (New place) = not (place == top)
not_new top _ = true

-- ---- facts of a function

module _ (scope : Scope) (code : FunctionCode) where
  -- a handle name of the function
  abbrev pub IsName : Variable → Type 0
  IsName x = is_name scope code x ≡ true

  -- a place, or a slot that is there
  abbrev pub IsKeeper : Keeper → Type 0
  IsKeeper (on_stack place) = Unit {0}
  IsKeeper (in_slot b) = is_slot_in scope.types (variable_in scope b) ≡ true

  -- the names are handle names, and Distinct is of two of them
  abbrev pub AreNames : MustFact → Type 0
  AreNames (With place x) = IsName x
  AreNames (Saved b x) = IsKeeper b × IsName x
  AreNames (Kept b x) = IsKeeper b × IsName x
  AreNames (Locked x) = IsName x
  AreNames (Live x) = IsName x
  AreNames (Distinct x y) = IsName x × IsName y × (same_variable x y ≡ false)
  AreNames (New place) = Unit {0}

  -- a fact of the function before an operation, if so many values are on the stack there
  pub record Exists (depth : ℕ) (fact : MustFact) : Type 0 where
    pub under : Under depth fact
    pub named : AreNames fact
