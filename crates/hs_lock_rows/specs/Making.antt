-- The rows that an operation makes (own).
--     ends_by, loses_by          the names and the slots that a call of a function ends
--     makes ..                   a row has exactly the facts that are given by the change of the operation
--     Popped ..                  values were taken from the stack
--     IsMade ..                  the same of a row that is written, which leaves all others
use Rattle.std.specs.Prelude.{◌≡◌, ◌<◌, ℕ, Bool, ◌&&◌, List, slice_get, Some}
use Rattle.hs_fact_rows.specs.Given.{Names, facts_in, gone}
use Rattle.hs_fact_rows.specs.declared.plan.Plan.{Plan}
use Rattle.hs_lock_rows.specs.Given.{Locks, given, plain, stay_by}
use Rattle.hs_lock_rows.specs.Layout.{IsField, number}
use Rattle.hs_lock_rows.specs.declared.change.Change.{Change}
use Rattle.hs_lock_rows.specs.declared.field.Field.{Field}
use Rattle.hs_rows.specs.Sets.{Sets, has, KeepsRows, SameSize}
use Rattle.hs_tree.specs.declared.head.Variable.{Variable}

-- by what each function assigns
abbrev pub gone_by : (ℕ → ℕ → Bool) → List Variable → ℕ → Names
gone_by assigned list f = gone (assigned f) list

module _ (plan : Plan) where
  -- the facts of a row
  abbrev pub locks_in : (ℕ → Bool) → Locks
  locks_in row field i = row (number plan field i)

  -- they have those bits
  abbrev pub Shows : (ℕ → Bool) → Locks → Type 0
  Shows row facts = (field : Field) (i : ℕ) → IsField plan field → i < plan.names → facts field i ≡ row (number plan field i)

-- what is about places from the base on ends, and all else of a row is in another one
module _ (plan : Plan) (to at base : ℕ) where
  abbrev pub Popped : Sets → Sets → Type 0
  Popped old new = (field : Field) (i : ℕ) → IsField plan field → i < plan.names
      → has new to (number plan field i) ≡ (stay_by (plain base) field i && has old at (number plan field i))

-- `low` has the facts With and Saved
module _ (plan : Plan) (names slots : List Variable) (assigned : ℕ → ℕ → Bool) (low : Sets) where
  abbrev pub given_at : ℕ → Change → Locks → Locks
  given_at at its facts = given plan.names (gone_by assigned names) (gone_by assigned slots) (facts_in plan low at) facts its

  -- by the change of each operation
  abbrev pub makes : List Change → ℕ → (ℕ → Bool) → (ℕ → Bool) → Type 0
  makes changes at row made =
      (its : Change) → slice_get changes at ≡ Some its → (field : Field) (i : ℕ) → IsField plan field → i < plan.names
      → made (number plan field i) ≡ given_at at its (locks_in plan row) field i

  -- a row is made by a change from that of an operation
  pub record IsMade (at to : ℕ) (its : Change) (old new : Sets) : Type 0 where
    pub made : (facts : Locks) → Shows plan (has old at) facts → (field : Field) (i : ℕ) → IsField plan field → i < plan.names
        → has new to (number plan field i) ≡ given_at at its facts field i
    pub others : KeepsRows to old new
    pub size : SameSize old new
