-- What objects of a program are made of, at the end of all units (X3.159-1989 3.7.2): each has the size of its type, and starts with constants
-- for its scalars.
--     open_parts                      an array of unknown length starts with none
--     all_globals                     the law
use Rattle.std.proofs.Common.{◌≡◌, inl, inr, ℕ, suc, List, [], ◌∷◌, Option, Some, None, IsTrue, is_some, refl, sym, subst}
use Rattle.std.specs.List.{AllByRecursion}
use Rattle.std.specs.Prelude.{◌||◌}
use Rattle.hs_base.specs.Entries.{all_so}
use Rattle.hs_fitting.specs.Claims.{Claims, Endures, IsObjectRight}
use Rattle.hs_linkage.specs.declared.translator.StaticObject.{StaticObject}
use Rattle.hs_linkage.specs.declared.translator.Translator.{Translator}
use Rattle.hs_tree.specs.Kinds.{kind_of_row, pointed_of_row}
use Rattle.hs_tree.specs.Objects.{IsScalarAt, itself, in_array, is_field, in_field, FitsParts, FitsGlobal}
use Rattle.hs_tree.specs.Trees.{TypedFunction, TypedProgram}
use Rattle.hs_tree.specs.declared.constant.Part.{Part}
use Rattle.hs_tree.specs.declared.globals.Global.{Global}
use Rattle.hs_types.specs.TypeTables.{TypeTable, row_of}
use Rattle.hs_types.specs.declared.layout.Layout.{Layout}
use Rattle.hs_types.specs.declared.row.FieldId.{FieldId}
use Rattle.hs_types.specs.declared.row.Row.{Row}
use Rattle.hs_types.specs.declared.row.Row.TheVariants as row
use Rattle.hs_types.specs.declared.row.TypeId.{TypeId}
use Rattle.hs_ends.specs.Ends.{taken_globals}
use Rattle.hs_typing.specs.Finishing.{IsSameOrOne, IsEnded, AreEnded, program_at_end, objects_ended}

-- ---- an array of unknown length has no parts

-- it is no scalar
open_scalar : (types : TypeTable) (id of : TypeId) (given : Option Row) → given ≡ Some (row.OpenArray of)
    → IsTrue (is_some (kind_of_row given) || is_some (pointed_of_row given)) → ⊥
open_scalar types id of None known is = cc
open_scalar types id of (Some row.Void) known is = cc
open_scalar types id of (Some (row.Integer kind)) known is = cc
open_scalar types id of (Some (row.Pointer to)) known is = cc
open_scalar types id of (Some (row.Enumeration number)) known is = cc
open_scalar types id of (Some (row.Struct number)) known is = cc
open_scalar types id of (Some (row.Array its length layout)) known is = cc
open_scalar types id of (Some (row.OpenArray its)) known is = cc
open_scalar types id of (Some (row.Function result parameters)) known is = cc

-- two rows that are not the same
open_array : (given : Option Row) (of its : TypeId) (length : ℕ) (layout : Layout) → given ≡ Some (row.OpenArray of)
    → given ≡ Some (row.Array its length layout) → ⊥
open_array given of its length layout known known' = cc

-- and two others
open_struct : (given : Option Row) (of : TypeId) (number : ℕ) → given ≡ Some (row.OpenArray of) → given ≡ Some (row.Struct number) → ⊥
open_struct given of number known known' = cc

-- no scalar is inside it
no_scalar : (types : TypeTable) (of id scalar : TypeId) (offset : ℕ) (field : Option FieldId) → row_of types id ≡ Some (row.OpenArray of)
    → IsScalarAt types id offset scalar field → ⊥
no_scalar types of _ _ _ _ known (itself id is) = open_scalar types id of (row_of types id) known is
no_scalar types of _ _ _ _ known (in_array id its scalar length place offset layout field array within inner) =
    open_array (row_of types id) of its length layout known array
no_scalar types of _ _ _ _ known (is_field id scalar field offset struct there is) = open_struct (row_of types id) of field.of known struct
no_scalar types of _ _ _ _ known (in_field id its scalar field first offset inner struct there is rest) =
    open_struct (row_of types id) of field.of known struct

-- so it starts with none
open_parts : (program : TypedProgram) (of id : TypeId) (parts : List Part) → row_of program.types id ≡ Some (row.OpenArray of)
    → FitsParts program id parts → parts ≡ []
open_parts program of id [] known fits = refl
open_parts program of id (part ∷ parts) known fits =
    absurd (no_scalar program.types of id part.type_id part.offset part.field known fits.0.0.0)

module _ (program : TypedProgram) (marks : List ℕ) where
  -- the parts of an object fit its type at the end
  parts_fit : (id its : TypeId) (parts : List Part) → IsSameOrOne program.types id program.types its → FitsParts program id parts
      → FitsParts program its parts
  parts_fit id its parts (inl same) fits = subst (λ type_id. FitsParts program type_id parts) (sym same) fits
  parts_fit id its parts (inr one) fits =
      subst (FitsParts program its) (sym (open_parts program one.0 id parts one.2 fits)) (tt, refl)

  -- one object
  object_fits : (place : ℕ) (it : StaticObject) (ended : Global) → IsEnded program.types marks place it ended
      → FitsParts program it.variable.type_id it.parts → FitsGlobal program ended
  object_fits place it ended is fits = (
    is.size,
    subst (FitsParts program ended.variable.type_id) (sym is.parts)
        (parts_fit it.variable.type_id ended.variable.type_id it.parts is.its fits),
  )

  -- all of them
  objects_fit : (place : ℕ) (its : List StaticObject) (ended : List Global) → AreEnded program.types marks place its ended
      → AllByRecursion (λ it. FitsParts program it.variable.type_id it.parts) its → AllByRecursion (FitsGlobal program) ended
  objects_fit place [] [] are fit = tt
  objects_fit place [] (ended ∷ rest) are fit = absurd are
  objects_fit place (it ∷ its) [] are fit = absurd are
  objects_fit place (it ∷ its) (ended ∷ rest) are fit = (object_fits place it ended are.0 fit.0, objects_fit (suc place) its rest are.1 fit.1)

module _ (m : Translator) (functions : List TypedFunction) (main : ℕ) where
  -- the program
  abbrev pub at_end : TypedProgram
  at_end = program_at_end m functions main

  -- Each object has the size of its type, and starts with constants for its scalars.
  pub all_globals : (its : Claims) → AllByRecursion (IsObjectRight at_end its m) m.objects → Endures at_end its m
      → AllByRecursion (FitsGlobal at_end) at_end.globals
  all_globals its right endures =
      objects_fit at_end (taken_globals [] m.typer.taken) 0 m.objects at_end.globals (objects_ended m functions main)
      (all_so (IsObjectRight at_end its m) (λ it. FitsParts at_end it.variable.type_id it.parts) (λ it is. is.filled endures) m.objects right)
