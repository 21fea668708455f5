-- What the search for must facts comes to (own).
--     IsFound whole f its        what is kept of a function is right
--     HasNone code its           nothing is kept of it but a row for each operation
--     Finds whole f found        the same, or the function has too many names
--     AreFound whole found       of all functions
--     Ends whole result          what `must` answers
use Rattle.std.specs.Prelude.{◌≡◌, ◌≤◌, ℕ, List, [], length, Option, Some, None, Result, Ok, Err, slice_get}
use Rattle.hs_base.specs.Limit.{number_of}
use Rattle.hs_base.specs.declared.limit.Limit.{Limit}
use Rattle.hs_base.specs.declared.limit.LimitKind.TheVariants as kind
use Rattle.hs_code.specs.declared.function_code.FunctionCode.{FunctionCode}
use Rattle.hs_facts.specs.Effects.{WholeCode}
use Rattle.hs_must.specs.Answers.{AreRows, HasMany, IsExact, IsFacts, names_in}
use Rattle.hs_must.specs.declared.kept.Kept.{Kept}
use Rattle.hs_must.specs.declared.kept.Kept.TheVariants as kept
use Rattle.hs_must.specs.declared.must_end.MustEnd.{MustEnd}
use Rattle.hs_must.specs.declared.must_end.MustEnd.TheVariants as end

-- its facts, if it has names
abbrev pub AreKept : WholeCode → ℕ → Kept → Type 0
AreKept whole f (kept.Named its) = IsFacts whole f its
AreKept whole f (kept.Nameless rows) = names_in whole f ≡ []

pub record IsFound (whole : WholeCode) (f : ℕ) (its : Kept) : Type 0 where
  pub facts : AreKept whole f its
  pub few : length (names_in whole f) ≤ 64
  pub rows : AreRows whole f its

-- of a function without names: a row for each operation
abbrev pub HasNone : FunctionCode → Kept → Type 0
HasNone code (kept.Named its) = ⊥
HasNone code (kept.Nameless rows) = rows.count ≡ length code.ops

-- by whether the function has too many names
abbrev pub Finds : WholeCode → ℕ → Option Kept → Type 0
Finds whole f None = HasMany whole f
Finds whole f (Some its) = IsFound whole f its

-- so many functions are found
pub record AreSome (whole : WholeCode) (count : ℕ) (all : List Kept) : Type 0 where
  pub long : length all ≡ count
  pub found : (f : ℕ) (its : Kept) → slice_get all f ≡ Some its → IsFound whole f its

-- all functions are found, or one has too many names
abbrev pub AreFound : WholeCode → Option (List Kept) → Type 0
AreFound whole None = (f : ℕ) × HasMany whole f
AreFound whole (Some all) = AreSome whole (length whole.functions) all

-- the limit on names was passed
abbrev pub names_limit : Limit
names_limit = record { kind = kind.Names; reached = number_of kind.Names }

-- An answer is exact, and no function has too many names; if one has, the limit is named, unless memory runs out.
abbrev pub Ends : WholeCode → Result (List Kept) MustEnd → Type 0
Ends whole (Ok its) = IsExact whole its × ((f : ℕ) → HasMany whole f → ⊥)
Ends whole (Err (end.Limit limit)) = (limit ≡ names_limit) × ((f : ℕ) × HasMany whole f)
Ends whole (Err end.NoMemory) = Unit {0}
