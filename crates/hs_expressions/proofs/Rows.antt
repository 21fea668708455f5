-- Worked expressions on the definition, by computation.
use Rattle.std.proofs.Common.{◌≡◌, ℕ, true, List, [], ◌∷◌, Result, Ok, Err, refl}
use Rattle.std.specs.Prelude.{codes}
use Rattle.hs_expressions.specs.Expressions.{typed, derivations}
use Rattle.hs_typer.specs.Steps.{beginning}
use Rattle.hs_typer.specs.declared.type_error.TypeError.{TypeError}
use Rattle.hs_typer.specs.declared.type_error.TypeError.TheVariants.{Untyped, Undeclared}
use Rattle.hs_typer.specs.declared.typer.Entity.TheVariants as entity
use Rattle.hs_typer.specs.declared.typer.Taken.TheVariants as taken
use Rattle.hs_typer.specs.declared.typer.Typer.{Typer}
use Rattle.hs_names.specs.Scopes.{declared}
use Rattle.hs_operand_types.specs.Conversions.{head_at}
use Rattle.hs_operand_types.specs.Operands as operand
use Rattle.hs_syntax.specs.Trees as syntax
use Rattle.hs_syntax.specs.Trees.{Expression, NamedType, Declared}
use Rattle.hs_syntax.specs.declared.operators.Basic.TheVariants as basic
use Rattle.hs_syntax.specs.declared.operators.BinaryOperator.TheVariants as binary
use Rattle.hs_syntax.specs.declared.operators.PrefixOperator.TheVariants as prefix
use Rattle.hs_syntax.specs.declared.word.Word.{Word}
use Rattle.hs_tokens.specs.declared.place.Place.{Place}
use Rattle.hs_tokens.specs.declared.token.Origin.TheVariants.{Plain}
use Rattle.hs_tree.specs.Trees as tree
use Rattle.hs_tree.specs.Trees.{RightValue}
use Rattle.hs_tree.specs.declared.head.Variable.TheVariants as variable
use Rattle.hs_tree.specs.declared.operators.Arithmetic.TheVariants as arithmetic
use Rattle.hs_types.specs.Rows.{integer_id, char_pointer_id}
use Rattle.hs_types.specs.declared.integer.Integer.TheVariants as kind
use Rattle.hs_types.specs.declared.row.TypeId.{TypeId}

-- a place, by its column
abbrev at : ℕ → Place
at column = record { pos = record { file = 0; line = 1; col = column }; origin = Plain }

abbrev word : List ℕ → ℕ → Word
word text column = record { text = text; place = at column }

abbrev name : List ℕ → ℕ → Expression
name text column = syntax.name (word text column)

abbrev number : List ℕ → ℕ → Expression
number text column = syntax.number (word text column)

-- an int `i`, a char `c` and a `char *p`
abbrev with_object : List ℕ → ℕ → TypeId → Typer → Typer
with_object text place id s = record s { names = declared text (entity.Variable (variable.Global place) id) s.names }

abbrev known : Typer
known =
    with_object (codes "i") 0 (integer_id kind.Int)
    (with_object (codes "c") 1 (integer_id kind.Char) (with_object (codes "p") 2 char_pointer_id (beginning [])))

-- `1`
one-is_int : typed (number (codes "1") 1) known ≡ Ok (operand.value (tree.number (head_at (at 1) (integer_id kind.Int)) 1), known)
one-is_int = refl

-- `2147483648` and `0x80000000` (3.1.3.2)
wide-is_unsigned_long : typed (number (codes "2147483648") 1) known
    ≡ Ok (operand.value (tree.number (head_at (at 1) (integer_id kind.UnsignedLong)) 2147483648), known)
wide-is_unsigned_long = refl

-- `'TEXT'`
type_code : typed (syntax.character (word (codes "'TEXT'") 1)) known
    ≡ Ok (operand.value (tree.number (head_at (at 1) (integer_id kind.Int)) 1413830740), known)
type_code = refl

-- `i` is an object
i-is_object : typed (name (codes "i") 1) known
    ≡ Ok (operand.object (tree.variable (head_at (at 1) (integer_id kind.Int)) (variable.Global 0)), known)
i-is_object = refl

-- `x` is not declared
x-is_undeclared : typed (name (codes "x") 1) known ≡ Err (Undeclared (at 1) (codes "x"))
x-is_undeclared = refl

-- `c + x`: the right operand is refused
sum-is_undeclared : typed (syntax.binary (name (codes "c") 1) binary.Add (at 3) (name (codes "x") 5)) known ≡ Err (Undeclared (at 5) (codes "x"))
sum-is_undeclared = refl

-- `p * i`: the operands come first, and then the operator
product-is_untyped : typed (syntax.binary (name (codes "p") 1) binary.Multiply (at 3) (name (codes "i") 5)) known ≡ Err (Untyped (at 3))
product-is_untyped = refl

-- `c + i`: the left operand is promoted
abbrev loaded : List ℕ → ℕ → TypeId → ℕ → RightValue
loaded text place id column = tree.load (head_at (at column) id) (tree.variable (head_at (at column) id) (variable.Global place))

sum-is_int : typed (syntax.binary (name (codes "c") 1) binary.Add (at 3) (name (codes "i") 5)) known
    ≡ Ok (
      operand.value
          (tree.arithmetic (head_at (at 3) (integer_id kind.Int)) arithmetic.Add kind.Int
          (tree.convert_number (head_at (at 3) (integer_id kind.Int)) kind.Int (loaded (codes "c") 1 (integer_id kind.Char) 1))
          (loaded (codes "i") 0 (integer_id kind.Int) 5)),
      known,
    )
sum-is_int = refl

-- `p == 0` is a test against the null pointer
null_test : typed (syntax.binary (name (codes "p") 1) binary.Equal (at 3) (number (codes "0") 6)) known
    ≡ Ok (operand.value (tree.is_nil (head_at (at 3) (integer_id kind.Int)) true (loaded (codes "p") 2 char_pointer_id 1)), known)
null_test = refl

-- `sizeof(long)`
abbrev long_name : NamedType
long_name = syntax.typed_as (syntax.more_specifiers (syntax.basic basic.Long (at 8)) syntax.no_specifiers) (syntax.pointing [] syntax.nothing)

size-of_long : typed (syntax.sizeof_type (at 1) long_name) known
    ≡ Ok (operand.value (tree.number (head_at (at 1) (integer_id kind.UnsignedLong)) 4), known)
size-of_long = refl

-- `sizeof &c` is the size of a pointer, and takes no address
size-of_address : typed (syntax.sizeof_value (at 1) (syntax.prefix prefix.Address (at 8) (name (codes "c") 9))) known
    ≡ Ok (operand.value (tree.number (head_at (at 1) (integer_id kind.UnsignedLong)) 4), known)
size-of_address = refl

-- `&c` takes one
address-of_c : typed (syntax.prefix prefix.Address (at 1) (name (codes "c") 2)) known
    ≡ Ok (
      operand.value (tree.address (head_at (at 1) char_pointer_id) (tree.variable (head_at (at 2) (integer_id kind.Char)) (variable.Global 1))),
      record known { taken = taken.Variable (variable.Global 1) ∷ [] },
    )
address-of_c = refl

-- `f(int x)`
abbrev function_f : Declared
function_f =
    syntax.pointing []
    (syntax.function (syntax.identifier (word (codes "f") 1))
    (syntax.more_parameters (syntax.more_specifiers (syntax.basic basic.Int (at 3)) syntax.no_specifiers)
    (syntax.pointing [] (syntax.identifier (word (codes "x") 7))) syntax.no_parameters))

-- the level of the innermost scope
abbrev level_after : {A : Type 0} → Result (A × Typer) TypeError → Result ℕ TypeError
level_after (Ok p) = Ok p.1.names.level
level_after (Err why) = Err why

-- The scope of the parameters ends with them, if it is not kept.
scope-ends : level_after (derivations (at 1) function_f (beginning [])) ≡ Ok 0
scope-ends = refl

scope-is_kept : level_after (derivations (at 1) function_f (record (beginning []) { keeps = true })) ≡ Ok 1
scope-is_kept = refl
