-- What is read of the rows before an operation, as words (own).
--     HasRoom plan sets row          a row has room for the facts of the plan
--     FitsChange plan change         the numbers of the change are those of the plan
--     argument_of change             how many values there are before it, and the place of the handle that it is about
--     IsPoint ..                     the rows before an operation have room
--     IsKnown ..                     the words are those of a change
use Rattle.std.proofs.Props.{props}
use Rattle.std.specs.Prelude.{◌≡◌, ◌<◌, ◌≤◌, ◌^◌, ℕ, ◌-◌, Bool, false, List}
use Rattle.hs_fact_rows.specs.Given.{Names, IsFit, facts_in, with_of}
use Rattle.hs_fact_rows.specs.declared.plan.Plan.{Plan}
use Rattle.hs_lock_rows.specs.Given.{Locks, Stay, apart_of, comes, kept_of, new_of, stay_of}
use Rattle.hs_lock_rows.specs.Layout.{fields, total}
use Rattle.hs_lock_rows.specs.Making.{gone_by}
use Rattle.hs_lock_rows.specs.declared.change.Change.{Change}
use Rattle.hs_lock_rows.specs.declared.change.Change.TheVariants as change
use Rattle.hs_lock_rows.specs.declared.field.Field.{Field}
use Rattle.hs_lock_rows.specs.declared.knowing.Known.{Known}
use Rattle.hs_rows.specs.Sets.{Sets, bit_in, width}
use Rattle.hs_tree.specs.declared.head.Variable.{Variable}

module _ (plan : Plan) where
  -- the row is there and has room for the facts, whose numbers are numbers of the machine, and there is a name
  pub record HasRoom (sets : Sets) (row : ℕ) : Type 0 where
    pub names : plan.names ≤ 64
    pub fields_fit : fields plan < 2 ^ 64
    pub numbers : total plan < 2 ^ 64
    pub room : total plan ≤ width sets
    pub there : row < sets.count
    pub some : 0 < plan.names

  -- the numbers of the change are those of the plan
  abbrev pub FitsChange : Change → Type 0
  FitsChange (change.Pop base) = Unit {0}
  FitsChange (change.Get to slot) = slot ≤ plan.slots
  FitsChange (change.SetName depth name slot) = (depth ≤ plan.places) × (slot ≤ plan.slots)
  FitsChange (change.SetSlot depth slot) = (depth ≤ plan.places) × (slot ≤ plan.slots)
  FitsChange (change.Dup depth) = depth ≤ plan.places
  FitsChange (change.Tuck depth) = depth ≤ plan.places
  FitsChange (change.Conv depth) = depth ≤ plan.places
  FitsChange (change.Bring depth base) = depth ≤ plan.places
  FitsChange (change.Use depth base) = depth ≤ plan.places
  FitsChange (change.Lock depth base) = depth ≤ plan.places
  FitsChange (change.Unlock depth base) = depth ≤ plan.places
  FitsChange (change.SetState depth base) = (depth ≤ plan.places) × (base ≤ depth)
  FitsChange (change.Dispose depth base) = depth ≤ plan.places
  FitsChange (change.ReadState depth base) = depth ≤ plan.places
  FitsChange (change.Make base) = Unit {0}
  FitsChange (change.Call base f unlocks disposes) = Unit {0}

-- how many values there are before it, and the place of the handle that it is about
abbrev pub argument_of : Change → ℕ × ℕ
argument_of (change.SetName depth name slot) = (depth, depth - 1)
argument_of (change.Use depth base) = (depth, base)
argument_of (change.Lock depth base) = (depth, base)
argument_of (change.Unlock depth base) = (depth, base)
argument_of (change.SetState depth base) = (depth, base)
argument_of (change.Dispose depth base) = (depth, base)
argument_of (change.ReadState depth base) = (depth, base)
argument_of _ = (0, 0)

module _ (plan : Plan) (low : Sets) where
  -- there is a row of the facts With and Saved, and one of all others
  pub record IsPoint (sets : Sets) (at : ℕ) : Type 0 where
    pub low_fits : IsFit plan low at
    pub fits : HasRoom plan sets at

-- the words of a change
module _ (plan : Plan) (names slots : List Variable) (assigned : ℕ → ℕ → Bool) (low : Sets) (at : ℕ) (facts : Locks) where
  abbrev pub apart_at : ℕ → ℕ → Names
  apart_at depth place = apart_of plan.names (gone_by assigned names) (gone_by assigned slots) (facts_in plan low at) facts depth place

  abbrev pub kept_at : ℕ → ℕ → Names
  kept_at depth place = kept_of plan.names (gone_by assigned names) (gone_by assigned slots) (facts_in plan low at) facts depth place

  abbrev pub new_at : ℕ → ℕ → Names
  new_at depth place = new_of plan.names (gone_by assigned names) (gone_by assigned slots) (facts_in plan low at) facts depth place

  abbrev pub stay_at : Change → Stay
  stay_at its = stay_of plan.names (gone_by assigned names) (gone_by assigned slots) (facts_in plan low at) facts its

  abbrev pub comes_at : Change → Field → ℕ → Bool
  comes_at its = comes plan.names (gone_by assigned names) (gone_by assigned slots) (facts_in plan low at) facts its

  pub record IsKnown (its : Change) (known : Known) : Type 0 where
    pub with : (i : ℕ) → i < plan.names → bit_in known.with i ≡ with_of (facts_in plan low at) (argument_of its).0 (argument_of its).1 i
    pub few : (i : ℕ) → plan.names ≤ i → bit_in known.with i ≡ false
    pub apart : (i : ℕ) → i < plan.names → bit_in known.apart i ≡ apart_at (argument_of its).0 (argument_of its).1 i
    pub locks : (i : ℕ) → i < plan.names → bit_in known.locks i ≡ (stay_at its).locks i
    pub lives : (i : ℕ) → i < plan.names → bit_in known.lives i ≡ (stay_at its).lives i
    pub names_stay : (i : ℕ) → i < plan.names → bit_in known.names i ≡ (stay_at its).names i
    pub new : known.new ≡ new_at (argument_of its).0 (argument_of its).1 0

-- that the numbers fit is a fact
at_most : (a b : ℕ) → IsProp (a ≤ b)
at_most a b = hlevel props

both_at_most : (a b c d : ℕ) → IsProp ((a ≤ b) × (c ≤ d))
both_at_most a b c d = hlevel props

nothing : IsProp (Unit {0})
nothing = hlevel props

pub fits_prop : (plan : Plan) (its : Change) → IsProp (FitsChange plan its)
fits_prop plan (change.Pop base) = nothing
fits_prop plan (change.Get to slot) = at_most slot plan.slots
fits_prop plan (change.SetName depth name slot) = both_at_most depth plan.places slot plan.slots
fits_prop plan (change.SetSlot depth slot) = both_at_most depth plan.places slot plan.slots
fits_prop plan (change.Dup depth) = at_most depth plan.places
fits_prop plan (change.Tuck depth) = at_most depth plan.places
fits_prop plan (change.Conv depth) = at_most depth plan.places
fits_prop plan (change.Bring depth base) = at_most depth plan.places
fits_prop plan (change.Use depth base) = at_most depth plan.places
fits_prop plan (change.Lock depth base) = at_most depth plan.places
fits_prop plan (change.Unlock depth base) = at_most depth plan.places
fits_prop plan (change.SetState depth base) = both_at_most depth plan.places base depth
fits_prop plan (change.Dispose depth base) = at_most depth plan.places
fits_prop plan (change.ReadState depth base) = at_most depth plan.places
fits_prop plan (change.Make base) = nothing
fits_prop plan (change.Call base f unlocks disposes) = nothing
