-- Objects are not functions: which types they have, and what agrees with the type of a function (X3.159-1989 3.1.2.5 and 3.1.2.6).
--     function_category               a function type is a function type in the program too
--     designates_makes                a type that an object can have is not a function type there
--     zero_right                      an object that starts as zero bytes is right
--     no_function_there               no object is a function
--     agrees_typed                    what agrees with a type has a type
--     IsFunction it, declared_function, function_typed      what agrees with the type of a function is a function
use Rattle.std.proofs.Common.{◌≡◌, ℕ, zero, suc, true, List, [], ◌∷◌, slice_get, Option, Some, None, refl, sym, ap, ◌∙◌}
use Rattle.std.specs.List.{AllByRecursion}
use Rattle.hs_base.specs.Options.{some_same}
use Rattle.hs_fitting.specs.Answers.{none_some}
use Rattle.hs_fitting.specs.Claims.{Claims, RefersAs, IsVariableIn, IsObjectRight, category_at}
use Rattle.hs_fitting.specs.Links.{HasShape}
use Rattle.hs_linkage.specs.Externals.{type_of_entity, agrees_in}
use Rattle.hs_linkage.specs.Linkage.{with_type_id, zero_object, is_function}
use Rattle.hs_linkage.specs.declared.translator.StaticObject.{StaticObject}
use Rattle.hs_linkage.specs.declared.translator.Translator.{Translator}
use Rattle.hs_operand_types.specs.Types.{designates_row, designates}
use Rattle.hs_operand_types.specs.declared.operand.Bound.{Bound}
use Rattle.hs_syntax.specs.declared.word.Word.{Word}
use Rattle.hs_tree.specs.Kinds.{of_function, category_of_row, category_of}
use Rattle.hs_tree.specs.Trees.{TypedProgram}
use Rattle.hs_tree.specs.declared.head.Variable.TheVariants as variable
use Rattle.hs_typer.specs.Declarators.{is_function_row}
use Rattle.hs_typer.specs.declared.origins.Origins.{Origins}
use Rattle.hs_typer.specs.declared.typer.Entity.{Entity}
use Rattle.hs_typer.specs.declared.typer.Entity.TheVariants as entity
use Rattle.hs_types.specs.TypeTables.{TypeTable, row_of, Grows}
use Rattle.hs_types.specs.declared.row.Row.{Row}
use Rattle.hs_types.specs.declared.row.Row.TheVariants as row
use Rattle.hs_types.specs.declared.row.TypeId.{TypeId}

-- ---- types

-- a row of functions
function_row : (given : Option Row) → is_function_row given ≡ true → (found : Row) × (given ≡ Some found) × (category_of_row given ≡ Some of_function)
function_row None is = absurd cc
function_row (Some row.Void) is = absurd cc
function_row (Some (row.Integer kind)) is = absurd cc
function_row (Some (row.Pointer of)) is = absurd cc
function_row (Some (row.Enumeration number)) is = absurd cc
function_row (Some (row.Struct number)) is = absurd cc
function_row (Some (row.Array of length layout)) is = absurd cc
function_row (Some (row.OpenArray of)) is = absurd cc
function_row (Some (row.Function result parameters)) is = (row.Function result parameters, refl, refl)

-- A function type is a function type in the program too.
pub function_category : (old types : TypeTable) (id : TypeId) → Grows old types → is_function old id ≡ true
    → category_of types id ≡ Some of_function
function_category old types id grows is =
    let one : (found : Row) × (row_of old id ≡ Some found) × (category_of_row (row_of old id) ≡ Some of_function)
    = function_row (row_of old id) is in
    ap category_of_row (grows.rows id.number one.0 one.1) ∙ ap category_of_row (sym one.1) ∙ one.2

-- a row that an object can be of
object_row : (given : Option Row) → designates_row given ≡ true
    → (found : Row) × (given ≡ Some found) × (category_of_row (Some found) ≡ Some of_function → ⊥)
object_row None is = absurd cc
object_row (Some row.Void) is = absurd cc
object_row (Some (row.Integer kind)) is = (row.Integer kind, refl, λ same. cc)
object_row (Some (row.Pointer of)) is = (row.Pointer of, refl, λ same. cc)
object_row (Some (row.Enumeration number)) is = (row.Enumeration number, refl, λ same. cc)
object_row (Some (row.Struct number)) is = (row.Struct number, refl, λ same. cc)
object_row (Some (row.Array of length layout)) is = (row.Array of length layout, refl, λ same. cc)
object_row (Some (row.OpenArray of)) is = (row.OpenArray of, refl, λ same. cc)
object_row (Some (row.Function result parameters)) is = absurd cc

-- A type that an object can have is not a function type in the program.
pub designates_makes : (old types : TypeTable) (id : TypeId) → Grows old types → designates old id ≡ true
    → category_of types id ≡ Some of_function → ⊥
designates_makes old types id grows is of_functions =
    let one : (found : Row) × (row_of old id ≡ Some found) × (category_of_row (Some found) ≡ Some of_function → ⊥)
    = object_row (row_of old id) is in
    one.2 (sym (ap category_of_row (grows.rows id.number one.0 one.1)) ∙ of_functions)

-- ---- objects

-- An object that starts as zero bytes is right.
pub zero_right : (program : TypedProgram) (its : Claims) (m : Translator) (word : Word) (id : TypeId)
    → (category_of program.types id ≡ Some of_function → ⊥) → IsObjectRight program its m (zero_object word id)
zero_right program its m word id object = record { category = object; undefined = λ is. refl; filled = λ endures. (tt, refl) }

-- No object is a function.
pub no_function_there : (program : TypedProgram) (its : Claims) (m : Translator) (objects : List StaticObject) (place : ℕ)
    → AllByRecursion (IsObjectRight program its m) objects → category_at program.types (slice_get objects place) ≡ Some (Some of_function) → ⊥
no_function_there program its m [] place are same = cc
no_function_there program its m (it ∷ rest) zero are same = are.0.category (some_same (category_of program.types it.variable.type_id) (Some of_function) same)
no_function_there program its m (it ∷ rest) (suc place) are same = no_function_there program its m rest place are.1 same

-- ---- declarations of functions

-- a function
abbrev pub IsFunction : Entity → Type 0
IsFunction it = (its : TypeId) × ((to : Bound) × (it ≡ entity.Function its to))

-- what agrees with a type has a type
pub agrees_typed : (types : TypeTable) (o : Origins) (id : TypeId) (given : Option TypeId) → agrees_in types o id given ≡ true
    → (other : TypeId) × (given ≡ Some other)
agrees_typed types o id None is = absurd cc
agrees_typed types o id (Some other) is = (other, refl)

-- What has the shape of a function is a function. It is not an object: that object would be a function, and no object is a function.
pub declared_function : (program : TypedProgram) (its : Claims) (m : Translator) (id : TypeId) (it : Entity)
    → AllByRecursion (IsObjectRight program its m) m.objects → RefersAs program.types its m.objects it → IsVariableIn program.types [] it
    → (other : TypeId) × (type_of_entity it ≡ Some other) → HasShape program.types it id → category_of program.types id ≡ Some of_function
    → IsFunction it
declared_function program its m id (entity.Constant bits) are refers global typed shape is = absurd (none_some typed.0 typed.1)
declared_function program its m id (entity.Variable (variable.Global place) old) are refers global typed shape is =
    absurd (no_function_there program its m m.objects place are (refers ∙ ap Some ((shape old refl).category ∙ is)))
declared_function program its m id (entity.Variable (variable.Local place) old) are refers global typed shape is = absurd global
declared_function program its m id (entity.Function old to) are refers global typed shape is = (old, (to, refl))
declared_function program its m id (entity.Typedef old) are refers global typed shape is = absurd (none_some typed.0 typed.1)

-- with another type it is one, too
pub function_typed : (id : TypeId) (it : Entity) → IsFunction it → IsFunction (with_type_id id it)
function_typed id it is = (id, (is.1.0, ap (with_type_id id) is.1.1))
