-- What is known at an operation (own), and the names of slots.
--     Given                           the answers at an operation
--     names_slot given slot h x       the name x, which has the number h, is a name of the slot
--     any_name given test             one of the names passes the test
--     apart given a b                 the slots are known to have no handles of one block
--     share_name given a b            the slots have a name in common
--     is_name_locked given slot       a name of the slot is locked
--     least_name given place          the least name of a place
-- A place has the names whose value it is known to have. A variable has itself, if it is a name. No other slot has a name.
use Rattle.std.specs.Prelude.{ℕ, suc, Bool, false, ◌&&◌, ◌||◌, List, [], ◌∷◌, Option, Some, None, if◌then◌else◌}
use Rattle.hs_facts.specs.Names.{same_variable}
use Rattle.hs_flow.specs.declared.fact.Slot.{Slot}
use Rattle.hs_flow.specs.declared.fact.Slot.TheVariants as slot
use Rattle.hs_tree.specs.declared.head.Variable.{Variable}

-- The number of the function, how many values are on the stack before the operation, the handle names of the function, the must facts that hold
-- before the operation, and whether the operation puts back a state byte that was read from its handle. A name is given by its place in the list of
-- names. `with place h`: the place has the value of the name h. `saved v h`: the slot v has a state byte that was read from the handle in the name h.
pub record Given : Type 0 where
  pub function : ℕ
  pub places : ℕ
  pub names : List Variable
  pub distinct : ℕ → ℕ → Bool
  pub locked : ℕ → Bool
  pub live : ℕ → Bool
  pub saved : Variable → ℕ → Bool
  pub with : ℕ → ℕ → Bool
  pub restores : Bool

-- ---- names

-- the name x, which has the number h, is a name of the slot
abbrev pub names_slot : Given → Slot → ℕ → Variable → Bool
names_slot given (slot.Place place) h x = given.with place h
names_slot given (slot.Variable v) h x = same_variable x v
names_slot given _ h x = false

-- one of the variables passes the test, if they are the names from that number on
abbrev pub any_from : ℕ → List Variable → (ℕ → Variable → Bool) → Bool
any_from h [] test = false
any_from h (x ∷ rest) test = test h x || any_from (suc h) rest test

-- one of the names does
abbrev pub any_name : Given → (ℕ → Variable → Bool) → Bool
any_name given test = any_from 0 given.names test

-- the least of their numbers that passes the test
abbrev pub least_from : ℕ → List Variable → (ℕ → Bool) → Option ℕ
least_from h [] test = None
least_from h (x ∷ rest) test = if test h then Some h else least_from (suc h) rest test

-- the least name of a place
abbrev pub least_name : Given → ℕ → Option ℕ
least_name given place = least_from 0 given.names (given.with place)

-- ---- slots by their names

-- some name of the slot is known to have no handle of the block of the name of that number
abbrev pub name_apart : Given → Slot → ℕ → Bool
name_apart given b h = any_name given (λ k y. names_slot given b k y && given.distinct h k)

-- some name of the one and some name of the other are known to have no handles of one block
abbrev pub apart : Given → Slot → Slot → Bool
apart given a b = any_name given (λ h x. names_slot given a h x && name_apart given b h)

-- one name is a name of both
abbrev pub share_name : Given → Slot → Slot → Bool
share_name given a b = any_name given (λ h x. names_slot given a h x && names_slot given b h x)

-- the block of a handle in the slot is locked, as a name says
abbrev pub is_name_locked : Given → Slot → Bool
is_name_locked given a = any_name given (λ h x. names_slot given a h x && given.locked h)
