-- The facts With and Saved by numbers (own): names and slots by their places in two lists. Slots that are in no list share one number.
--     index_of list v           the place of the variable, or the length of the list if it is not there
--     Cell                      a fact in numbers
--     Plan                      how many names, slots and places there are
--     number plan cell          the number of the fact in the row of an operation
use Rattle.std.specs.Prelude.{◌<◌, ◌≤◌, ℕ, suc, ◌+◌, ◌*◌, Bool, true, false, List, [], ◌∷◌}
use Rattle.hs_facts.specs.MustFacts.{MustFact, on_stack, in_slot, With, Saved, Kept, Locked, Live, Distinct, New}
use Rattle.hs_facts.specs.Names.{same_variable}
use Rattle.hs_fact_rows.specs.declared.plan.Plan.{Plan}
use Rattle.hs_tree.specs.declared.head.Variable.{Variable}

-- ---- variables by number

-- here, or further on
abbrev pub found_at : Bool → ℕ → ℕ
found_at true rest = 0
found_at false rest = suc rest

abbrev pub index_of : List Variable → Variable → ℕ
index_of [] v = 0
index_of (x ∷ rest) v = found_at (same_variable x v) (index_of rest v)

-- ---- facts by number

-- a place has the value of a name; a place has a byte that was read from the handle in a name; and so has a slot
pub data Cell : Type 0 where
  with_at : ℕ → ℕ → Cell
  saved_at : ℕ → ℕ → Cell
  saved_in : ℕ → ℕ → Cell

-- of these names and slots
module _ (names slots : List Variable) where
  abbrev pub cell_of : MustFact → Cell
  cell_of (With place x) = with_at place (index_of names x)
  cell_of (Saved (on_stack place) x) = saved_at place (index_of names x)
  cell_of (Saved (in_slot b) x) = saved_in (index_of slots b) (index_of names x)
  cell_of (Kept b x) = with_at 0 0
  cell_of (Locked x) = with_at 0 0
  cell_of (Live x) = with_at 0 0
  cell_of (Distinct x y) = with_at 0 0
  cell_of (New place) = with_at 0 0

-- ---- where a fact is in a row

module _ (plan : Plan) where
  -- The row is one field of bits after another, each with a bit for each name: of each slot, then of the slots that are in no list, and then
  -- two of each place.
  abbrev pub with_field : ℕ → ℕ
  with_field place = suc (plan.slots + 2 * place)

  abbrev pub saved_field : ℕ → ℕ
  saved_field place = suc (suc (plan.slots + 2 * place))

  abbrev pub field_of : Cell → ℕ
  field_of (with_at place i) = with_field place
  field_of (saved_at place i) = saved_field place
  field_of (saved_in slot i) = slot

  abbrev pub name_in : Cell → ℕ
  name_in (with_at place i) = i
  name_in (saved_at place i) = i
  name_in (saved_in slot i) = i

  abbrev pub number : Cell → ℕ
  number cell = field_of cell * plan.names + name_in cell

  -- all fields
  abbrev pub total : ℕ
  total = with_field plan.places * plan.names

  -- a fact of the plan
  abbrev pub IsIn : Cell → Type 0
  IsIn (with_at place i) = (place < plan.places) × (i < plan.names)
  IsIn (saved_at place i) = (place < plan.places) × (i < plan.names)
  IsIn (saved_in slot i) = (slot ≤ plan.slots) × (i < plan.names)
