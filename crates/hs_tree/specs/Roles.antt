-- With which results and parameters a routine of each role may be declared (own).
--     FitsRole types routine prototype
--     IsShaped, AreShaped types shapes ids     parameters that are pointers and numbers, in this order
--     GivesNothing types id                    the result of a role that has none
--     FitsPlain types fills prototype          a plain routine
use Rattle.std.specs.Prelude.{ℕ, zero, suc, Bool, false, ◌||◌, List, [], ◌∷◌, slice_get, Option, Some, None, IsTrue, is_some}
use Rattle.hs_table.specs.declared.role.Role.{Role}
use Rattle.hs_table.specs.declared.role.Role.TheVariants as role
use Rattle.hs_table.specs.declared.routine.Routine.{Routine}
use Rattle.hs_tree.specs.Kinds.{is_number, is_scalar, is_void, pointed, size_at, IsAnyNumber, IsPointer}
use Rattle.hs_tree.specs.declared.function.Prototype.{Prototype}
use Rattle.hs_types.specs.TypeTables.{TypeTable}
use Rattle.hs_types.specs.declared.row.TypeId.{TypeId}

-- what a parameter of a role is: a handle or another pointer, or a number
pub data Shape : Type 0 where
  pointer : Shape
  number : Shape

-- a type of that shape
abbrev pub IsShaped : TypeTable → Shape → TypeId → Type 0
IsShaped types pointer id = IsPointer types id
IsShaped types number id = IsAnyNumber types id

-- as many parameters as shapes, each of its shape
abbrev pub AreShaped : TypeTable → List Shape → List TypeId → Type 0
AreShaped types [] [] = Unit {0}
AreShaped types [] (id ∷ ids) = ⊥
AreShaped types (shape ∷ shapes) [] = ⊥
AreShaped types (shape ∷ shapes) (id ∷ ids) = IsShaped types shape id × AreShaped types shapes ids

-- Where a role has no result, the declaration may give none or a number, which is 0.
abbrev pub GivesNothing : TypeTable → TypeId → Type 0
GivesNothing types id = IsTrue (is_void types id || is_number types id)

-- the parameter that a plain routine fills is a pointer to a complete type; 0 stands for none
-- a pointer to a complete type
abbrev pub points_to_complete : TypeTable → Option TypeId → Bool
points_to_complete types None = false
points_to_complete types (Some id) = is_some (size_at types (pointed types id))

-- counted from 1
abbrev pub Fills : TypeTable → ℕ → List TypeId → Type 0
Fills types zero ids = Unit {0}
Fills types (suc place) ids = IsTrue (points_to_complete types (slice_get ids place))

-- a plain routine has any parameters, and its result is no struct
abbrev pub FitsPlain : TypeTable → ℕ → Prototype → Type 0
FitsPlain types fills prototype =
    IsTrue (is_void types prototype.result || is_scalar types prototype.result)
    × Fills types fills prototype.parameters

-- these parameters, and that result
abbrev pub FitsShapes : TypeTable → List Shape → (TypeId → Type 0) → Prototype → Type 0
FitsShapes types shapes Gives prototype = AreShaped types shapes prototype.parameters × Gives prototype.result

-- by the role
abbrev pub FitsNamedRole : TypeTable → Role → ℕ → Prototype → Type 0
FitsNamedRole types role.NewHandle fills prototype = FitsShapes types (number ∷ []) (IsPointer types) prototype
FitsNamedRole types role.DisposeHandle fills prototype = FitsShapes types (pointer ∷ []) (GivesNothing types) prototype
FitsNamedRole types role.GetSize fills prototype = FitsShapes types (pointer ∷ []) (IsAnyNumber types) prototype
FitsNamedRole types role.SetSize fills prototype = FitsShapes types (pointer ∷ number ∷ []) (GivesNothing types) prototype
FitsNamedRole types role.Lock fills prototype = FitsShapes types (pointer ∷ []) (GivesNothing types) prototype
FitsNamedRole types role.Unlock fills prototype = FitsShapes types (pointer ∷ []) (GivesNothing types) prototype
FitsNamedRole types role.Purge fills prototype = FitsShapes types (pointer ∷ []) (GivesNothing types) prototype
FitsNamedRole types role.NoPurge fills prototype = FitsShapes types (pointer ∷ []) (GivesNothing types) prototype
FitsNamedRole types role.GetState fills prototype = FitsShapes types (pointer ∷ []) (IsAnyNumber types) prototype
FitsNamedRole types role.SetState fills prototype = FitsShapes types (pointer ∷ number ∷ []) (GivesNothing types) prototype
FitsNamedRole types role.Empty fills prototype = FitsShapes types (pointer ∷ []) (GivesNothing types) prototype
FitsNamedRole types role.Realloc fills prototype = FitsShapes types (pointer ∷ number ∷ []) (GivesNothing types) prototype
FitsNamedRole types role.NewPtr fills prototype = FitsShapes types (number ∷ []) (IsPointer types) prototype
FitsNamedRole types role.DisposePtr fills prototype = FitsShapes types (pointer ∷ []) (GivesNothing types) prototype
FitsNamedRole types role.BlockMove fills prototype = FitsShapes types (pointer ∷ pointer ∷ number ∷ []) (GivesNothing types) prototype
FitsNamedRole types role.Getchar fills prototype = FitsShapes types [] (IsAnyNumber types) prototype
FitsNamedRole types role.Putchar fills prototype = FitsShapes types (number ∷ []) (IsAnyNumber types) prototype
FitsNamedRole types role.Plain fills prototype = FitsPlain types fills prototype

-- the role of a routine, and the parameter that it fills
abbrev pub FitsRole : TypeTable → Routine → Prototype → Type 0
FitsRole types routine prototype = FitsNamedRole types routine.role routine.fills prototype
