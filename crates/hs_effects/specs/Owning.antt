-- Numbers that functions have by their own operations.
--     Owns Has whole f b            an operation of f has the number b
--     OwnsTo Has whole count f b    if f is below that number
--     OwnsIn Has ops count f b      one of the operations below that number, of the code of f
--     assigned_by op                the global that an operation assigns
use Rattle.std.specs.Prelude.{◌≡◌, ◌<◌, ℕ, List, Option, Some, None, slice_get}
use Rattle.hs_code.specs.declared.function_code.Placed.{Placed}
use Rattle.hs_code.specs.declared.op.Op.{Op}
use Rattle.hs_code.specs.declared.op.Op.TheVariants as op
use Rattle.hs_facts.specs.Effects.{WholeCode, placed_in}
use Rattle.hs_tree.specs.declared.head.Variable.TheVariants as name

-- the global that an operation assigns
abbrev pub assigned_by : Op → Option ℕ
assigned_by (op.Set (name.Global g)) = Some g
assigned_by _ = None

-- by the function, the number of the operation, and the operation
abbrev pub Assigned : ℕ → ℕ → Op → ℕ → Type 0
Assigned f at its b = assigned_by its ≡ Some b

module _ (Has : ℕ → ℕ → Op → ℕ → Type 0) where
  -- an operation of the function has the number
  pub record Owns (whole : WholeCode) (f b : ℕ) : Type 0 where
    pub at : ℕ
    pub its : Placed
    pub there : placed_in whole f at ≡ Some its
    pub has : Has f at its.op b

  -- of one of the functions up to there
  abbrev pub OwnsTo : WholeCode → ℕ → ℕ → ℕ → Type 0
  OwnsTo whole count f b = (f < count) × Owns whole f b

  -- one of the operations up to there has it
  pub record OwnsAt (ops : List Placed) (count f b : ℕ) : Type 0 where
    pub at : ℕ
    pub below : at < count
    pub its : Placed
    pub there : slice_get ops at ≡ Some its
    pub has : Has f at its.op b

  abbrev pub OwnsIn : List Placed → ℕ → ℕ → ℕ → ℕ → Type 0
  OwnsIn ops count function f b = (f ≡ function) × OwnsAt ops count f b
