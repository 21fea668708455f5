-- Worked examples: what the definitions say of small programs.
use Rattle.std.proofs.Common.{◌≡◌, ℕ, true, false, List, [], ◌∷◌, Some, None, refl, arith}
use Rattle.std.specs.Prelude.{codes}
use Rattle.hs_tokens.specs.declared.place.Place.{Place}
use Rattle.hs_tree.specs.Classes.{class_of}
use Rattle.hs_tree.specs.Fitting.{Fits}
use Rattle.hs_tree.specs.Trees as tree
use Rattle.hs_tree.specs.Trees.{RightValue, LeftValue, TypedStatement, TypedStatements, TypedBlock, TypedFunction, TypedProgram}
use Rattle.hs_tree.specs.declared.class.Class.TheVariants as class
use Rattle.hs_tree.specs.declared.head.Head.{Head}
use Rattle.hs_tree.specs.declared.head.VariableDecl.{VariableDecl}
use Rattle.hs_tree.specs.declared.representatives.Representatives.{Representatives}
use Rattle.hs_types.specs.Rows.{integer_id, char_pointer_id}
use Rattle.hs_types.specs.TypeTables.{basic_types}
use Rattle.hs_types.specs.declared.integer.Integer.TheVariants as kind
use Rattle.hs_types.specs.declared.row.FieldId.{FieldId}
use Rattle.hs_types.specs.declared.row.TypeId.{TypeId}

abbrev head : Place → TypeId → Head
head at id = record { at = at; type_id = id }

-- a program with `main` alone, that has these variables and statements
abbrev program_with : Place → TypeId → List VariableDecl → TypedStatements → TypedProgram
program_with at result variables statements =
    record {
      types = basic_types;
      globals = [];
      literals = [];
      functions =
          record {
            name = codes "main";
            at = at;
            result = result;
            parameters = 0;
            variables = variables;
            body = tree.compound at [] statements at;
          } ∷ [];
      routines = [];
      same = record { structs = []; types = [] };
      taken = [];
      main = 0;
    }

abbrev one : TypedStatement → TypedStatements
one it = tree.more_statements [] it tree.no_statements

abbrev number_at : Place → ℕ → RightValue
number_at at bits = tree.number (head at (integer_id kind.Int)) bits

-- `int main(void) { return 0; }`
smallest : (at : Place) → Fits (program_with at (integer_id kind.Int) [] (one (tree.return_ at (Some (number_at at 0)))))
smallest at =
    record {
      ranges = ((tt, ((tt, tt))), tt);
      operands = ((tt, ((tt, tt))), tt);
      results = ((tt, ((refl, tt))), tt);
      fields = ((tt, ((tt, tt))), tt);
      calls = ((tt, ((tt, tt))), tt);
      routine_calls = ((tt, ((tt, tt))), tt);
      roles = tt;
      taken = ((tt, ((tt, tt))), tt);
      statements = ((tt, (((refl, refl), tt))), tt);
      places = (refl, tt);
      functions = ((omega arith, tt, refl), tt);
      globals = tt;
      main = (refl, refl, refl);
    }

-- A `return` of a `char` without a conversion is refused.
converted_result : (at : Place)
    → Fits (program_with at (integer_id kind.Int) [] (one (tree.return_ at (Some (tree.number (head at (integer_id kind.Char)) 0))))) → ⊥
converted_result at fits = let same : integer_id kind.Char ≡ integer_id kind.Int = fits.statements.0.1.0.1 in cc

-- `int main(void) { break; }`
break_outside : (at : Place) → Fits (program_with at (integer_id kind.Int) [] (one (tree.break_ at))) → ⊥
break_outside at fits = let holds : false ≡ true = fits.places.0 in cc

-- each type stands for itself
abbrev none_same : Representatives
none_same = record { structs = []; types = [] }

-- a field is a class of its own, unless its address is taken
abbrev field : FieldId
field = record { of = 3; place = 1 }

class_of_field : (at : Place) (object : LeftValue)
    → class_of basic_types none_same [] (tree.member (head at char_pointer_id) field 4 object) ≡ Some (class.Field field)
class_of_field at object = refl

class_of_taken : (at : Place) (object : LeftValue)
    → class_of basic_types none_same (field ∷ []) (tree.member (head at char_pointer_id) field 4 object) ≡ Some (class.Pointer char_pointer_id)
class_of_taken at object = refl

-- struct 3 is one with struct 1
abbrev one_struct : Representatives
one_struct = record { structs = 0 ∷ 1 ∷ 2 ∷ 1 ∷ []; types = [] }

class_in_another_unit : (at : Place) (object : LeftValue)
    → class_of basic_types one_struct [] (tree.member (head at char_pointer_id) field 4 object) ≡ Some (class.Field (record { of = 1; place = 1 }))
class_in_another_unit at object = refl

-- its address is taken where it has the other number
class_of_taken_elsewhere : (at : Place)
    → class_of basic_types one_struct (record { of = 1; place = 1 } ∷ []) (tree.arrow (head at char_pointer_id) field 4 (number_at at 0))
    ≡ Some (class.Pointer char_pointer_id)
class_of_taken_elsewhere at = refl

-- a number has no class
class_of_number : (at : Place) (object : LeftValue) → class_of basic_types none_same [] (tree.member (head at (integer_id kind.Int)) field 4 object) ≡ None
class_of_number at object = refl
