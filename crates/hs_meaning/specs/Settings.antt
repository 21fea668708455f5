-- What a run needs of a program, apart from the bodies of its functions: code has the same.
--     Setting, setting_of program         its types, variables, strings, routines and classes
--     class_number setting its            the number of a class: cells name by it the class through which they were stored
--     access_of_type setting id class     what a load or a store of an object of that type and class reaches
--     access_of setting e                 what one of an lvalue reaches
use Rattle.std.specs.List.{position_or_len}
use Rattle.std.specs.Prelude.{ℕ, Bool, true, false, List, Option, Some, None}
use Rattle.hs_meaning.specs.Classes.{class_of_type, classes_of, same_class}
use Rattle.hs_meaning.specs.Values.{Access, of_number, of_pointer, of_struct}
use Rattle.hs_tree.specs.Classes.{class_of}
use Rattle.hs_tree.specs.Kinds.{number_kind, is_pointer}
use Rattle.hs_tree.specs.Trees.{LeftValue, TypedProgram, type_of_left}
use Rattle.hs_tree.specs.declared.class.Class.{Class}
use Rattle.hs_tree.specs.declared.function.BoundRoutine.{BoundRoutine}
use Rattle.hs_tree.specs.declared.globals.Global.{Global}
use Rattle.hs_tree.specs.declared.representatives.Representatives.{Representatives}
use Rattle.hs_types.specs.TypeTables.{TypeTable, size_of}
use Rattle.hs_types.specs.declared.integer.Integer.{Integer}
use Rattle.hs_types.specs.declared.row.FieldId.{FieldId}
use Rattle.hs_types.specs.declared.row.TypeId.{TypeId}

-- what a run needs of a program, apart from the bodies of its functions
pub record Setting : Type 0 where
  pub types : TypeTable
  pub globals : List Global
  pub literals : List (List ℕ)
  pub routines : List BoundRoutine
  pub same : Representatives
  pub taken : List FieldId
  pub classes : List Class

-- of a program
abbrev pub setting_of : TypedProgram → Setting
setting_of program =
    record {
      types = program.types;
      globals = program.globals;
      literals = program.literals;
      routines = program.routines;
      same = program.same;
      taken = program.taken;
      classes = classes_of program;
    }

-- its place among them
abbrev pub class_number : Setting → Class → ℕ
class_number setting its = position_or_len (same_class its) setting.classes

-- a number of that kind, a pointer of that class, or a struct
abbrev pub access_by : Setting → TypeId → Class → Option Integer → Bool → Access
access_by setting id its (Some kind) pointer = of_number kind
access_by setting id its None true = of_pointer (class_number setting its)
access_by setting id its None false = of_struct (size_of setting.types id)

-- an object of that type, whose class it is if it is a pointer
abbrev pub access_of_type : Setting → TypeId → Class → Access
access_of_type setting id its = access_by setting id its (number_kind setting.types id) (is_pointer setting.types id)

-- the class of an lvalue, which counts only if it is a pointer
abbrev pub class_or : Setting → TypeId → Option Class → Class
class_or setting id None = class_of_type setting.same id
class_or setting id (Some its) = its

-- of an lvalue
abbrev pub access_of : Setting → LeftValue → Access
access_of setting e =
    access_of_type setting (type_of_left e) (class_or setting (type_of_left e) (class_of setting.types setting.same setting.taken e))
