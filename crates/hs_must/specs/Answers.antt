-- What the must facts of a program answer (own).
--     locked_by, live_by, ..         the answers of what is kept of a function
--     locked_in, live_in, ..         the answers of the function of that number
--     rows_in                        its rows
--     names_in whole f               the handle names of a function
--     IsFacts whole f its            the answers of a function are right
--     AreRows whole f kept           its rows have them too
--     IsExact whole answers          those of all functions are
use Rattle.std.specs.Bool.{Decides}
use Rattle.std.specs.Prelude.{◌≡◌, ◌<◌, ◌≤◌, ℕ, ◌+◌, ◌*◌, ◌==◌, nat_lt, Bool, true, false, not, ◌&&◌, List, [], length, Option, Some, None, slice_get}
use Rattle.hs_code.specs.Codes.{is_slot_in, scope_of}
use Rattle.hs_code.specs.Stacks.{variable_in}
use Rattle.hs_code.specs.declared.function_code.FunctionCode.{FunctionCode}
use Rattle.hs_code.specs.declared.function_code.Placed.{Placed}
use Rattle.hs_fact_rows.specs.Cells.{index_of, saved_in, with_at}
use Rattle.hs_fact_rows.specs.Given.{facts_in}
use Rattle.hs_facts.specs.Effects.{HoldsAt, WholeCode, placed_in}
use Rattle.hs_facts.specs.MustFacts.{in_slot, With, Saved, Locked, Live, Distinct}
use Rattle.hs_facts.specs.Names.{names_of}
use Rattle.hs_lock_rows.specs.Layout.{number}
use Rattle.hs_lock_rows.specs.declared.field.Field.{Field}
use Rattle.hs_lock_rows.specs.declared.field.Field.TheVariants as field
use Rattle.hs_must.specs.Functions.{FunctionAnswers}
use Rattle.hs_must.specs.declared.kept.Kept.{Kept}
use Rattle.hs_must.specs.declared.kept.Kept.TheVariants as kept
use Rattle.hs_rows.specs.Sets.{Sets, has, width}
use Rattle.hs_tree.specs.Trees.{TypedFunction}
use Rattle.hs_tree.specs.declared.head.Variable.{Variable}

-- ---- a function

module _ (its : FunctionAnswers) where
  -- an operation and a name that are there
  abbrev pub is_there : ℕ → ℕ → Bool
  is_there at h = nat_lt at its.ops && nat_lt h its.plan.names

  -- the row before the operation has the name in that field
  abbrev pub has_in : Field → ℕ → ℕ → Bool
  has_in kind at h = is_there at h && has its.locks at (number its.plan kind h)

  abbrev pub locked_by : ℕ → ℕ → Bool
  locked_by at h = has_in field.Locked at h

  abbrev pub live_by : ℕ → ℕ → Bool
  live_by at h = has_in field.Live at h

  -- two names that are there
  abbrev pub distinct_by : ℕ → ℕ → ℕ → Bool
  distinct_by at a b = nat_lt a its.plan.names && (not (a == b) && has_in (field.Apart a) at b)

  abbrev pub with_by : ℕ → ℕ → ℕ → Bool
  with_by at place h = is_there at h && (nat_lt place its.plan.places && facts_in its.plan its.low at (with_at place h))

  abbrev pub saved_by : ℕ → Variable → ℕ → Bool
  saved_by at b h = is_there at h && facts_in its.plan its.low at (saved_in (index_of its.slots b) h)

-- ---- all functions

-- of a function, if it has a name
abbrev pub asked_of : Kept → (FunctionAnswers → Bool) → Bool
asked_of (kept.Named its) answer = answer its
asked_of (kept.Nameless rows) answer = false

-- of the function of that number, if it is there
abbrev pub asked : Option Kept → (FunctionAnswers → Bool) → Bool
asked None answer = false
asked (Some its) answer = asked_of its answer

module _ (answers : List Kept) (f at : ℕ) where
  abbrev pub locked_in : ℕ → Bool
  locked_in h = asked (slice_get answers f) (λ its. locked_by its at h)

  abbrev pub live_in : ℕ → Bool
  live_in h = asked (slice_get answers f) (λ its. live_by its at h)

  abbrev pub distinct_in : ℕ → ℕ → Bool
  distinct_in a b = asked (slice_get answers f) (λ its. distinct_by its at a b)

  abbrev pub with_in : ℕ → ℕ → Bool
  with_in place h = asked (slice_get answers f) (λ its. with_by its at place h)

  abbrev pub saved_in_slot : Variable → ℕ → Bool
  saved_in_slot b h = asked (slice_get answers f) (λ its. saved_by its at b h)

-- the rows of a function
abbrev pub rows_of : Kept → Sets
rows_of (kept.Named its) = its.locks
rows_of (kept.Nameless rows) = rows

-- if it is there
abbrev pub some_rows : Option Kept → Sets
some_rows None = record { count = 0; per = 0; words = [] }
some_rows (Some its) = rows_of its

abbrev pub rows_in : List Kept → ℕ → Sets
rows_in answers f = some_rows (slice_get answers f)

-- ---- what is right

-- the handle names of a function that is there
abbrev pub names_by : WholeCode → Option TypedFunction → Option FunctionCode → List Variable
names_by whole None code = []
names_by whole (Some function) None = []
names_by whole (Some function) (Some code) = names_of (scope_of whole.program function) code

abbrev pub names_in : WholeCode → ℕ → List Variable
names_in whole f = names_by whole (slice_get whole.program.functions f) (slice_get whole.functions f)

-- the name of that number
abbrev pub IsName : WholeCode → ℕ → ℕ → Variable → Type 0
IsName whole f h x = slice_get (names_in whole f) h ≡ Some x

-- so many values are on the stack before the operation that there is one at that place
abbrev pub IsPlace : WholeCode → ℕ → ℕ → ℕ → Type 0
IsPlace whole f at place = (its : Placed) × (placed_in whole f at ≡ Some its) × (place < its.places)

-- a slot variable of the function
abbrev pub is_slot_of : WholeCode → Option TypedFunction → Variable → Bool
is_slot_of whole None b = false
is_slot_of whole (Some function) b = is_slot_in whole.program.types (variable_in (scope_of whole.program function) b)

abbrev pub IsSlot : WholeCode → ℕ → Variable → Type 0
IsSlot whole f b = is_slot_of whole (slice_get whole.program.functions f) b ≡ true

-- more than 64 handle names
abbrev pub HasMany : WholeCode → ℕ → Type 0
HasMany whole f = 64 < length (names_in whole f)

-- each answer is whether the fact holds
pub record IsFacts (whole : WholeCode) (f : ℕ) (its : FunctionAnswers) : Type 0 where
  pub locked : (at h : ℕ) (x : Variable) → IsName whole f h x → Decides (locked_by its at h) (HoldsAt whole f at (Locked x))
  pub live : (at h : ℕ) (x : Variable) → IsName whole f h x → Decides (live_by its at h) (HoldsAt whole f at (Live x))
  pub distinct : (at a b : ℕ) (x y : Variable) → IsName whole f a x → IsName whole f b y
      → Decides (distinct_by its at a b) (HoldsAt whole f at (Distinct x y))
  pub with : (at place h : ℕ) (x : Variable) → IsName whole f h x → IsPlace whole f at place
      → Decides (with_by its at place h) (HoldsAt whole f at (With place x))
  pub saved : (at : ℕ) (b : Variable) (h : ℕ) (x : Variable) → IsName whole f h x → IsSlot whole f b
      → Decides (saved_by its at b h) (HoldsAt whole f at (Saved (in_slot b) x))

-- There is a row for each operation. Where the function has n names it has the number a if a is locked, n + a if a is live, and 2n + a * n + b if a and b
-- are two names that are apart.
pub record AreRows (whole : WholeCode) (f : ℕ) (its : Kept) : Type 0 where
  pub there : (at : ℕ) (it : Placed) → placed_in whole f at ≡ Some it → at < (rows_of its).count
  pub wide : 2 * length (names_in whole f) + length (names_in whole f) * length (names_in whole f) ≤ width (rows_of its)
  pub locked : (at a : ℕ) (it : Placed) → placed_in whole f at ≡ Some it → a < length (names_in whole f)
      → has (rows_of its) at a ≡ asked_of its (λ its. locked_by its at a)
  pub live : (at a : ℕ) (it : Placed) → placed_in whole f at ≡ Some it → a < length (names_in whole f)
      → has (rows_of its) at (length (names_in whole f) + a) ≡ asked_of its (λ its. live_by its at a)
  pub distinct : (at a b : ℕ) (it : Placed) → placed_in whole f at ≡ Some it → a < length (names_in whole f) → b < length (names_in whole f)
      → has (rows_of its) at (2 * length (names_in whole f) + a * length (names_in whole f) + b)
      ≡ (not (a == b) && asked_of its (λ its. distinct_by its at a b))

pub record IsExact (whole : WholeCode) (answers : List Kept) : Type 0 where
  pub functions : length answers ≡ length whole.functions
  pub rows : (f : ℕ) (its : Kept) → slice_get answers f ≡ Some its → AreRows whole f its
  pub locked : (f at h : ℕ) (x : Variable) → IsName whole f h x → Decides (locked_in answers f at h) (HoldsAt whole f at (Locked x))
  pub live : (f at h : ℕ) (x : Variable) → IsName whole f h x → Decides (live_in answers f at h) (HoldsAt whole f at (Live x))
  pub distinct : (f at a b : ℕ) (x y : Variable) → IsName whole f a x → IsName whole f b y
      → Decides (distinct_in answers f at a b) (HoldsAt whole f at (Distinct x y))
  pub with : (f at place h : ℕ) (x : Variable) → IsName whole f h x → IsPlace whole f at place
      → Decides (with_in answers f at place h) (HoldsAt whole f at (With place x))
  pub saved : (f at : ℕ) (b : Variable) (h : ℕ) (x : Variable) → IsName whole f h x → IsSlot whole f b
      → Decides (saved_in_slot answers f at b h) (HoldsAt whole f at (Saved (in_slot b) x))
