-- Facts as numbers (own).
--     numbers, statuses             how many numbers a slot has, and how many a status
--     code_of fact                  the number of a fact
--     fact_of code                  the fact of a number
--     IsSmall fact                  the numbers in the fact fit, so that it has a number of its own
-- Facts are ordered as their numbers are: by the slot (nothing, the result, variables of the program, variables of the function, places, classes, each
-- by number), and then by the status, the nearest to a hazard first.
use Rattle.std.specs.Prelude.{◌<◌, ℕ, ◌+◌, ◌-◌, ◌*◌, ◌/◌, ◌%◌, ◌==◌, nat_lt, if◌then◌else◌}
use Rattle.hs_flow.specs.declared.fact.Fact.{Fact}
use Rattle.hs_flow.specs.declared.fact.FactStatus.{FactStatus}
use Rattle.hs_flow.specs.declared.fact.FactStatus.TheVariants as status
use Rattle.hs_flow.specs.declared.fact.Slot.{Slot}
use Rattle.hs_flow.specs.declared.fact.Slot.TheVariants as slot
use Rattle.hs_tree.specs.declared.head.Variable.TheVariants as name

-- numbers of 32 bits
abbrev pub numbers : ℕ
numbers = 4294967296

-- numbers of 29 bits
abbrev pub statuses : ℕ
statuses = 536870912

-- the names below this number have one
abbrev pub names : ℕ
names = 536870903

-- ---- slots

-- its kind
abbrev pub rank_of : Slot → ℕ
rank_of slot.Nothing = 0
rank_of slot.Answer = 1
rank_of (slot.Variable (name.Global place)) = 2
rank_of (slot.Variable (name.Local place)) = 3
rank_of (slot.Place place) = 4
rank_of (slot.Class class) = 5

-- its number among those of its kind
abbrev pub number_of : Slot → ℕ
number_of slot.Nothing = 0
number_of slot.Answer = 0
number_of (slot.Variable (name.Global place)) = place
number_of (slot.Variable (name.Local place)) = place
number_of (slot.Place place) = place
number_of (slot.Class class) = class

-- the slot of a kind and a number
abbrev pub slot_of : ℕ → ℕ → Slot
slot_of rank number =
    if rank == 0 then slot.Nothing else
    if rank == 1 then slot.Answer else
    if rank == 2 then slot.Variable (name.Global number) else
    if rank == 3 then slot.Variable (name.Local number) else
    if rank == 4 then slot.Place number else slot.Class number

-- ---- statuses

-- its number
abbrev pub number_of_status : FactStatus → ℕ
number_of_status status.Stale = 0
number_of_status status.Hollow = 1
number_of_status status.Loose = 2
number_of_status status.Outer = 3
number_of_status status.Held = 4
number_of_status (status.Fresh h) = h + 5
number_of_status status.SavedPurgeable = 536870908
number_of_status status.Purgeable = 536870909
number_of_status status.IsHandle = 536870910
number_of_status status.Reached = 536870911

-- the status of a number, after the first five
abbrev pub later_status_of : ℕ → FactStatus
later_status_of number =
    if nat_lt number 536870908 then status.Fresh (number - 5) else
    if number == 536870908 then status.SavedPurgeable else
    if number == 536870909 then status.Purgeable else
    if number == 536870910 then status.IsHandle else status.Reached

-- the status of a number
abbrev pub status_of : ℕ → FactStatus
status_of number =
    if number == 0 then status.Stale else
    if number == 1 then status.Hollow else
    if number == 2 then status.Loose else
    if number == 3 then status.Outer else
    if number == 4 then status.Held else later_status_of number

-- ---- facts

-- its number: first the kind of its slot, then the number of the slot, then the status
abbrev pub code_of : Fact → ℕ
code_of fact = (rank_of fact.slot * numbers + number_of fact.slot) * statuses + number_of_status fact.status

-- the fact of a number
abbrev pub fact_of : ℕ → Fact
fact_of code =
    record {
      slot = slot_of (code / statuses / numbers) (code / statuses % numbers);
      status = status_of (code % statuses);
    }

-- a name that has a number
abbrev pub IsSmallStatus : FactStatus → Type 0
IsSmallStatus (status.Fresh h) = h < names
IsSmallStatus _ = Unit {0}

-- the number of the slot has 32 bits, and the name one of its own
pub record IsSmall (fact : Fact) : Type 0 where
  pub number : number_of fact.slot < numbers
  pub status : IsSmallStatus fact.status
