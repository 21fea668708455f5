-- The facts Kept, Locked, Live, Distinct and New by numbers (own): names and slots by their places in two lists, as in `hs_fact_rows`.
--     field_of, bit_of fact        the field of a fact, and its bit there
--     number plan field i          the number of a bit in the row of an operation
use Rattle.std.specs.Prelude.{◌<◌, ◌≤◌, ℕ, suc, ◌+◌, ◌*◌, List}
use Rattle.hs_fact_rows.specs.Cells.{index_of}
use Rattle.hs_fact_rows.specs.declared.plan.Plan.{Plan}
use Rattle.hs_facts.specs.MustFacts.{MustFact, on_stack, in_slot, With, Saved, Kept, Locked, Live, Distinct, New}
use Rattle.hs_lock_rows.specs.declared.field.Field.{Field}
use Rattle.hs_lock_rows.specs.declared.field.Field.TheVariants as field
use Rattle.hs_tree.specs.declared.head.Variable.{Variable}

-- ---- facts by number

-- neither With nor Saved, which are in rows of their own
abbrev pub IsOfLocks : MustFact → Type 0
IsOfLocks (With place x) = ⊥
IsOfLocks (Saved b x) = ⊥
IsOfLocks _ = Unit {0}

-- of these names and slots
module _ (names slots : List Variable) where
  abbrev pub field_of : MustFact → Field
  field_of (With place x) = field.Locked
  field_of (Saved b x) = field.Locked
  field_of (Kept (on_stack place) x) = field.KeptAt place
  field_of (Kept (in_slot b) x) = field.KeptIn (index_of slots b)
  field_of (Locked x) = field.Locked
  field_of (Live x) = field.Live
  field_of (Distinct x y) = field.Apart (index_of names x)
  field_of (New place) = field.NewAt place

  abbrev pub bit_of : MustFact → ℕ
  bit_of (With place x) = index_of names x
  bit_of (Saved b x) = index_of names x
  bit_of (Kept b x) = index_of names x
  bit_of (Locked x) = index_of names x
  bit_of (Live x) = index_of names x
  bit_of (Distinct x y) = index_of names y
  bit_of (New place) = 0

-- ---- where a fact is in a row

module _ (plan : Plan) where
  -- the fields that are in front of those of places
  abbrev pub fixed : ℕ
  fixed = suc (suc (suc (plan.names + plan.slots)))

  -- The row is one field of bits after another, each with a bit for each name: of what is locked, of what is live, of what is apart from each name,
  -- of each slot, then of the slots that are in no list, and then two of each place.
  abbrev pub field_number : Field → ℕ
  field_number field.Locked = 0
  field_number field.Live = 1
  field_number (field.Apart name) = suc (suc name)
  field_number (field.KeptIn slot) = suc (suc (plan.names + slot))
  field_number (field.KeptAt place) = fixed + 2 * place
  field_number (field.NewAt place) = suc (fixed + 2 * place)

  abbrev pub fields : ℕ
  fields = fixed + 2 * plan.places

  abbrev pub number : Field → ℕ → ℕ
  number its i = field_number its * plan.names + i

  abbrev pub total : ℕ
  total = fields * plan.names

  -- a field of the plan
  abbrev pub IsField : Field → Type 0
  IsField (field.KeptIn slot) = slot ≤ plan.slots
  IsField field.Locked = Unit {0}
  IsField field.Live = Unit {0}
  IsField (field.Apart name) = name < plan.names
  IsField (field.KeptAt place) = place < plan.places
  IsField (field.NewAt place) = place < plan.places
