-- Which types of one object or function are one, in one unit or in several (X3.159-1989 3.1.2.6, and own).
--     whole_struct same types row      the struct that stands for one whose body has come
--     AreOne same types one other      types of one category, and of one struct
use Rattle.std.specs.Prelude.{◌≡◌, ℕ, Bool, Option, Some, None, is_some, if◌then◌else◌}
use Rattle.hs_tree.specs.Kinds.{AreAlike}
use Rattle.hs_tree.specs.Representatives.{struct_for}
use Rattle.hs_tree.specs.declared.representatives.Representatives.{Representatives}
use Rattle.hs_types.specs.TypeTables.{TypeTable, row_of, body_of}
use Rattle.hs_types.specs.declared.row.Row.{Row}
use Rattle.hs_types.specs.declared.row.Row.TheVariants as row
use Rattle.hs_types.specs.declared.row.TypeId.{TypeId}

-- the struct that stands for the one of the row, if that has its body
abbrev pub whole_struct : Representatives → TypeTable → Option Row → Option ℕ
whole_struct same types None = None
whole_struct same types (Some row.Void) = None
whole_struct same types (Some (row.Integer kind)) = None
whole_struct same types (Some (row.Pointer of)) = None
whole_struct same types (Some (row.Enumeration number)) = None
whole_struct same types (Some (row.Struct number)) = if is_some (body_of types number) then Some (struct_for same number) else None
whole_struct same types (Some (row.Array of length layout)) = None
whole_struct same types (Some (row.OpenArray of)) = None
whole_struct same types (Some (row.Function result parameters)) = None

-- if both are there, they are one
abbrev pub AreSameIfBoth : Option ℕ → Option ℕ → Type 0
AreSameIfBoth None other = Unit {0}
AreSameIfBoth (Some number) None = Unit {0}
AreSameIfBoth (Some number) (Some other) = number ≡ other

-- Two declarations of one object or function, in one unit or in two, may give it types that differ (3.1.2.6), but only of one category; and two
-- structs with their bodies are one: the same struct stands for both.
abbrev pub AreOne : Representatives → TypeTable → TypeId → TypeId → Type 0
AreOne same types one other =
    AreAlike types one other × AreSameIfBoth (whole_struct same types (row_of types one)) (whole_struct same types (row_of types other))
