-- What an operation gives of the facts Kept, Locked, Live, Distinct and New, in numbers (own). A set of facts is a test of the bits of fields.
--     stays, brings                  a fact stays, or comes
--     given names ends loses low change facts      the facts that are there after a change, from those before it
-- Here `names` is how many names there are, `low` the facts With and Saved before the operation, and a call ends what is about the names and the
-- slots of `ends` and `loses`.
use Rattle.std.specs.Prelude.{ℕ, zero, suc, ◌-◌, ◌==◌, nat_lt, nat_le, Bool, true, false, not, ◌&&◌, ◌||◌}
use Rattle.hs_fact_rows.specs.Cells.{saved_in}
use Rattle.hs_fact_rows.specs.Given.{Facts, Names, with_of, saved_of}
use Rattle.hs_lock_rows.specs.declared.change.Change.{Change}
use Rattle.hs_lock_rows.specs.declared.change.Change.TheVariants as change
use Rattle.hs_lock_rows.specs.declared.field.Field.{Field}
use Rattle.hs_lock_rows.specs.declared.field.Field.TheVariants as field

-- the bits of the fields
abbrev pub Locks : Type 0
Locks = Field → Names

-- one number below that one
abbrev pub any : ℕ → Names → Bool
any zero is = false
any (suc n) is = any n is || is n

-- all names, and all but one
abbrev pub all : Names
all i = true

abbrev pub other : ℕ → Names
other k i = not (i == k)

-- ---- what stays, by parts

-- What is about the places from the base on ends. Of the rest these locks stay, these names live, and what is about these names; what is about
-- bytes of these slots; and that these places are new.
pub record Stay : Type 0 where
  pub base : ℕ
  pub locks : Names
  pub lives : Names
  pub names : Names
  pub slots : Names
  pub news : Names

abbrev pub stay_by : Stay → Field → ℕ → Bool
stay_by stay (field.KeptIn slot) i = stay.slots slot && (stay.names i && stay.locks i)
stay_by stay field.Locked i = stay.names i && stay.locks i
stay_by stay field.Live i = stay.names i && stay.lives i
stay_by stay (field.Apart name) i = stay.names name && stay.names i
stay_by stay (field.KeptAt place) i = nat_lt place stay.base && (stay.names i && stay.locks i)
stay_by stay (field.NewAt place) i = nat_lt place stay.base && stay.news place

-- all that is below the base
abbrev pub plain : ℕ → Stay
plain base = record { base = base; locks = all; lives = all; names = all; slots = all; news = all }

-- ---- what comes, by places

-- a place below the top gets the value above it, and the top that of the base
abbrev pub brought : ℕ → ℕ → (ℕ → Bool) → ℕ → Bool
brought depth base its place =
    ((place == depth - 1) && its base) || (nat_le base place && (nat_lt (suc place) depth && its (suc place)))

module _ (names : ℕ) (ends loses : ℕ → Names) (low : Facts) (facts : Locks) where
  -- ---- what holds before the operation, with so many values on the stack

  -- the name is apart from one that the place has
  abbrev pub apart_of : ℕ → ℕ → Names
  apart_of depth place y = any names (λ x. with_of low depth place x && (other y x && facts (field.Apart x) y))

  -- the byte of the place keeps the name
  abbrev pub kept_of : ℕ → ℕ → Names
  kept_of depth place i = nat_lt place depth && facts (field.KeptAt place) i

  -- the value of the place is new
  abbrev pub new_of : ℕ → ℕ → Names
  new_of depth place i = nat_lt place depth && facts (field.NewAt place) i

  -- the byte above the handle at the base was read from it
  abbrev pub restores_of : ℕ → ℕ → Bool
  restores_of depth base = any names (λ x. with_of low depth base x && saved_of low depth (suc base) x)

  -- a name that the top has is one of these
  abbrev pub of_top : ℕ → Names → Bool
  of_top depth its = any names (λ y. with_of low depth (depth - 1) y && its y)

  -- a byte of one of these names was read from one that is apart from what the place has
  abbrev pub guarded : ℕ → ℕ → Names → Bool
  guarded depth place its = any names (λ z. its z && apart_of depth place z)

  -- the top has no handle of the block of the name
  abbrev pub top_apart : ℕ → Names
  top_apart depth z = new_of depth (depth - 1) 0 || apart_of depth (depth - 1) z

  -- ---- what stays

  abbrev pub stay_of : Change → Stay
  stay_of (change.Pop base) = plain base
  stay_of (change.Get to slot) = plain to
  stay_of (change.SetName depth name slot) =
      record { base = depth; locks = all; lives = all; names = other name; slots = other slot; news = other (depth - 1) }
  stay_of (change.SetSlot depth slot) =
      record { base = depth; locks = all; lives = all; names = all; slots = other slot; news = other (depth - 1) }
  stay_of (change.Dup depth) = record { base = depth; locks = all; lives = all; names = all; slots = all; news = other (depth - 1) }
  stay_of (change.Tuck depth) = plain (depth - 2)
  stay_of (change.Conv depth) = plain (depth - 1)
  stay_of (change.Bring depth base) = plain base
  stay_of (change.Use depth base) = plain base
  stay_of (change.Lock depth base) = plain base
  stay_of (change.Unlock depth base) =
      record { base = base; locks = apart_of depth base; lives = all; names = all; slots = all; news = all }
  stay_of (change.SetState depth base) =
      record {
        base = base;
        locks = λ i. apart_of depth base i || (restores_of depth base && kept_of depth (suc base) i);
        lives = all;
        names = all;
        slots = all;
        news = all;
      }
  stay_of (change.Dispose depth base) =
      record { base = base; locks = all; lives = apart_of depth base; names = all; slots = all; news = all }
  stay_of (change.ReadState depth base) = plain base
  stay_of (change.Make base) = plain base
  stay_of (change.Call base f unlocks disposes) =
      record {
        base = base;
        locks = λ i. not unlocks;
        lives = λ i. not disposes;
        names = λ i. not (ends f i);
        slots = λ i. not (loses f i);
        news = all;
      }

  -- ---- what comes, field by field

  -- the bytes of slots
  abbrev pub kept_in_comes : Change → ℕ → Names
  kept_in_comes (change.SetName depth name slot) at i = (i == name) && (other slot at && of_top depth (facts (field.KeptIn at)))
  kept_in_comes (change.SetSlot depth slot) at i = (at == slot) && kept_of depth (depth - 1) i
  kept_in_comes (change.Lock depth base) at i = with_of low depth base i && guarded depth base (λ z. low (saved_in at z))
  kept_in_comes _ at i = false

  -- the bytes of places
  abbrev pub kept_at_comes : Change → ℕ → Names
  kept_at_comes (change.Get to slot) place i = (place == to) && facts (field.KeptIn slot) i
  kept_at_comes (change.SetName depth name slot) place i = (i == name) && of_top depth (kept_of depth place)
  kept_at_comes (change.Dup depth) place i = (place == depth) && kept_of depth (depth - 1) i
  kept_at_comes (change.Tuck depth) place i =
      ((place == depth - 2) && kept_of depth (depth - 1) i)
      || (((place == depth - 1) && kept_of depth (depth - 2) i) || ((place == depth) && kept_of depth (depth - 1) i))
  kept_at_comes (change.Conv depth) place i = (place == depth - 1) && kept_of depth (depth - 1) i
  kept_at_comes (change.Bring depth base) place i = brought depth base (λ from. kept_of depth from i) place
  kept_at_comes (change.Lock depth base) place i =
      with_of low depth base i && (nat_lt place base && guarded depth base (saved_of low depth place))
  kept_at_comes (change.ReadState depth base) place i = (place == base) && facts field.Locked i
  kept_at_comes _ place i = false

  -- the locks
  abbrev pub locked_comes : Change → Names
  locked_comes (change.SetName depth name slot) i = (i == name) && of_top depth (facts field.Locked)
  locked_comes (change.Lock depth base) i = with_of low depth base i
  locked_comes _ i = false

  -- the names that live
  abbrev pub live_comes : Change → Names
  live_comes (change.SetName depth name slot) i = (i == name) && (new_of depth (depth - 1) 0 || of_top depth (facts field.Live))
  live_comes (change.Use depth base) i = with_of low depth base i
  live_comes (change.Lock depth base) i = with_of low depth base i
  live_comes (change.Unlock depth base) i = with_of low depth base i
  live_comes (change.SetState depth base) i = with_of low depth base i
  live_comes (change.ReadState depth base) i = with_of low depth base i
  live_comes _ i = false

  -- what is apart from a name
  abbrev pub apart_comes : Change → ℕ → Names
  apart_comes (change.SetName depth name slot) x i = ((x == name) && top_apart depth i) || ((i == name) && top_apart depth x)
  apart_comes _ x i = false

  -- what is new
  abbrev pub new_comes : Change → ℕ → Names
  new_comes (change.Bring depth base) place i = brought depth base (λ from. new_of depth from i) place
  new_comes (change.Make base) place i = place == base
  new_comes _ place i = false

  abbrev pub comes : Change → Field → ℕ → Bool
  comes its (field.KeptIn slot) i = kept_in_comes its slot i
  comes its field.Locked i = locked_comes its i
  comes its field.Live i = live_comes its i
  comes its (field.Apart name) i = apart_comes its name i
  comes its (field.KeptAt place) i = kept_at_comes its place i
  comes its (field.NewAt place) i = new_comes its place i

  -- ---- the facts after a change

  abbrev pub given : Change → Locks
  given its field i = (stay_by (stay_of its) field i && facts field i) || comes its field i
