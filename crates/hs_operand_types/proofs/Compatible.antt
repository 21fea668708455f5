-- Two types that are not the same are compatible if what is inside them is.
use Rattle.std.proofs.Common.{◌≡◌, ℕ, zero, suc, ◌-◌, false, Some, refl}
use native.Mathlib.Numerals.{unary_clauses}
use Rattle.hs_operand_types.specs.Conversions.{same_type}
use Rattle.hs_operand_types.specs.Types.{are_int, inside_both, compatible_within}
use Rattle.hs_operand_types.specs.declared.types.Inside.{Inside}
use Rattle.hs_types.specs.TypeTables.{TypeTable, row_of}
use Rattle.hs_types.specs.declared.row.TypeId.{TypeId}

pub compatible_inside : (more : ℕ) (types : TypeTable) (a b : TypeId) (next : Inside) → (more ≡ 0 → ⊥) → same_type a b ≡ false
    → are_int (row_of types a) (row_of types b) ≡ false → inside_both (row_of types a) (row_of types b) ≡ Some next
    → compatible_within (more - 1) types next.left next.right ≡ compatible_within more types a b
compatible_inside zero types a b next some differ int inside = absurd (some refl)
compatible_inside (suc more) types a b next some differ int inside = simp unary_clauses (rw (differ, int, inside) refl)
