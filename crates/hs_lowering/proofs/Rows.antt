-- The code of small expressions, each row computed: the operations with how many values are on the stack before each.
use Rattle.std.proofs.Common.{◌≡◌, ℕ, true, false, List, [], ◌∷◌, map, Some, None, refl}
use Rattle.std.specs.Prelude.{codes}
use Rattle.hs_code.specs.declared.function_code.Placed.{Placed}
use Rattle.hs_code.specs.declared.op.Access.TheVariants as access
use Rattle.hs_code.specs.declared.op.Binary.TheVariants as binary
use Rattle.hs_code.specs.declared.op.Object.TheVariants as object
use Rattle.hs_code.specs.declared.op.Op.{Op}
use Rattle.hs_code.specs.declared.op.Op.TheVariants.{Num, Nil, Address, Get, Set, Load, Store, Drop, Dup, Tuck, Conv, Unary, Binary, IsNil, Compare, Difference, Offset, Step, Jump, Zero, Shift, Routine, Call}
use Rattle.hs_code.specs.declared.op.Unary.TheVariants as unary
use Rattle.hs_lowering.specs.Lowering.{right_code}
use Rattle.hs_meaning.specs.Settings.{Setting}
use Rattle.hs_table.specs.declared.role.Role.{Role}
use Rattle.hs_table.specs.declared.role.Role.TheVariants as role
use Rattle.hs_tokens.specs.declared.token.Origin.TheVariants as origin
use Rattle.hs_tree.specs.Trees as tree
use Rattle.hs_tree.specs.Trees.{RightValue, LeftValue, RightValues}
use Rattle.hs_tree.specs.declared.class.Class.TheVariants as class
use Rattle.hs_tree.specs.declared.function.BoundRoutine.{BoundRoutine}
use Rattle.hs_tree.specs.declared.head.Head.{Head}
use Rattle.hs_tree.specs.declared.head.Variable.TheVariants as name
use Rattle.hs_tree.specs.declared.head.VariableDecl.{VariableDecl}
use Rattle.hs_tree.specs.declared.operators.Arithmetic.TheVariants as arithmetic
use Rattle.hs_tree.specs.declared.operators.Comparison.TheVariants as comparison
use Rattle.hs_tree.specs.declared.operators.Unary.TheVariants as sign
use Rattle.hs_types.specs.Rows.{integer_id, char_pointer_id, char_handle_id}
use Rattle.hs_types.specs.TypeTables.{basic_types}
use Rattle.hs_types.specs.declared.integer.Integer.TheVariants as kind
use Rattle.hs_types.specs.declared.row.TypeId.{TypeId}

-- ---- expressions

abbrev pub char : TypeId
char = integer_id kind.Char

abbrev pub int : TypeId
int = integer_id kind.Int

abbrev pub long : TypeId
long = integer_id kind.Long

abbrev pub head : ℕ → TypeId → Head
head col id = record { at = record { pos = record { file = 0; line = 9; col = col }; origin = origin.Plain }; type_id = id }

-- `char **h, **g; char *p; int i; int o;`, where the address of o is taken somewhere
abbrev pub variable : List ℕ → TypeId → VariableDecl
variable text id = record { name = text; at = (head 1 id).at; type_id = id; taken = false }

abbrev pub variables : List VariableDecl
variables =
    variable (codes "h") char_handle_id
    ∷ variable (codes "g") char_handle_id
    ∷ variable (codes "p") char_pointer_id
    ∷ variable (codes "i") int
    ∷ record (variable (codes "o") int) { taken = true }
    ∷ []

abbrev pub local : TypeId → ℕ → LeftValue
local id place = tree.variable (head 1 id) (name.Local place)

abbrev pub get : TypeId → ℕ → RightValue
get id place = tree.load (head 2 id) (local id place)

abbrev pub num : ℕ → RightValue
num bits = tree.number (head 3 int) bits

-- `*p`
abbrev pub target : LeftValue
target = tree.target (head 4 char) (get char_pointer_id 2)

abbrev pub one : RightValue → RightValues
one e = tree.more_values e tree.no_values

-- routine 0 moves, routine 1 does not
abbrev pub routine : List ℕ → Role → BoundRoutine
routine text its = record { routine = record { name = text; role = its; moves = false; purges = false; fills = 0; size = 0 }; prototype = None }

abbrev pub routines : List BoundRoutine
routines =
    record (routine (codes "NewHandle") role.NewHandle) {
      routine = record { name = codes "NewHandle"; role = role.NewHandle; moves = true; purges = false; fills = 0; size = 0 };
    }
    ∷ routine (codes "putchar") role.Putchar
    ∷ []

-- the classes are char * and char **
abbrev pub setting : Setting
setting =
    record {
      types = basic_types;
      globals = record { variable = variable (codes "q") char_pointer_id; size = 4; parts = [] } ∷ [];
      literals = [];
      routines = routines;
      same = record { structs = []; types = [] };
      taken = [];
      classes = class.Pointer char_pointer_id ∷ class.Pointer char_handle_id ∷ [];
    }

-- ---- their code

abbrev pub short : Placed → ℕ × Op
short its = (its.places, its.op)

-- from operation 0 on, with nothing on the stack
abbrev code_of : RightValue → List (ℕ × Op)
code_of e = map short (right_code setting variables 7 e 0 0)

-- g = NewHandle(4)
assigned_handle : code_of (tree.assign (head 5 char_handle_id) (local char_handle_id 1)
    (tree.call_routine (head 6 char_handle_id) 0 (one (tree.convert_number (head 7 long) kind.Long (num 4)))))
    ≡ (0, Num 4) ∷ (1, Conv kind.Long) ∷ (1, Shift 0) ∷ (1, Routine 0) ∷ (1, Set (name.Local 1)) ∷ []
assigned_handle = refl

-- putchar(*p)
printed_character : code_of (tree.call_routine (head 6 int) 1 (one (tree.convert_number (head 7 int) kind.Int (tree.load (head 8 char) target))))
    ≡ (0, Get (name.Local 2)) ∷ (1, Load (access.Number kind.Char)) ∷ (1, Conv kind.Int) ∷ (1, Routine 1) ∷ []
printed_character = refl

-- the position of an operation is that of its expression, and the piece is the same for all
positions : right_code setting variables 7 (tree.not (head 6 int) (get int 3)) 40 2
    ≡ record { op = Get (name.Local 3); at = record { file = 0; line = 9; col = 2 }; piece = 7; places = 2 }
    ∷ record { op = Unary unary.Not; at = record { file = 0; line = 9; col = 6 }; piece = 7; places = 3 }
    ∷ []
positions = refl

-- o, of which the address is taken
memory : code_of (get int 4) ≡ (0, Address (object.Variable (name.Local 4))) ∷ (1, Load (access.Number kind.Int)) ∷ []
memory = refl

-- q, a slot of the program, and **h, through the class of char *
slot_of_program : code_of (tree.load (head 2 char_pointer_id) (tree.variable (head 1 char_pointer_id) (name.Global 0))) ≡ (0, Get (name.Global 0)) ∷ []
slot_of_program = refl

class_of_pointer : code_of (tree.load (head 2 char_pointer_id) (tree.target (head 1 char_pointer_id) (get char_handle_id 0)))
    ≡ (0, Get (name.Local 0)) ∷ (1, Load (access.Pointer 0)) ∷ []
class_of_pointer = refl

-- &o, "..", &s.f and p->f
addresses : code_of (tree.address (head 2 char_pointer_id) (local int 4)) ≡ (0, Address (object.Variable (name.Local 4))) ∷ []
addresses = refl

string : code_of (tree.decay (head 2 char_pointer_id) (tree.literal (head 1 char) 3)) ≡ (0, Address (object.Literal 3)) ∷ []
string = refl

member : code_of (tree.address (head 2 char_pointer_id) (tree.member (head 5 int) (record { of = 0; place = 0 }) 0 (local int 4)))
    ≡ (0, Address (object.Variable (name.Local 4))) ∷ (1, Offset 0) ∷ []
member = refl

arrow : code_of (tree.load (head 2 int) (tree.arrow (head 5 int) (record { of = 0; place = 1 }) 2 (get char_pointer_id 2)))
    ≡ (0, Get (name.Local 2)) ∷ (1, Offset 2) ∷ (1, Load (access.Number kind.Int)) ∷ []
arrow = refl

-- p[i] and i[p]
element : code_of (tree.load (head 2 char) (tree.element (head 5 char) 1 true (get char_pointer_id 2) (get int 3)))
    ≡ (0, Get (name.Local 2)) ∷ (1, Get (name.Local 3)) ∷ (2, Step (record { size = 1; backward = false }) true) ∷ (1, Load (access.Number kind.Char)) ∷ []
element = refl

-- i - 2, i < 2, -i
subtraction : code_of (tree.arithmetic (head 5 int) arithmetic.Subtract kind.Int (get int 3) (num 2))
    ≡ (0, Get (name.Local 3)) ∷ (1, Num 2) ∷ (2, Binary (binary.Arithmetic arithmetic.Subtract) kind.Int) ∷ []
subtraction = refl

less : code_of (tree.comparison (head 5 int) comparison.Less kind.Int (get int 3) (num 2))
    ≡ (0, Get (name.Local 3)) ∷ (1, Num 2) ∷ (2, Binary (binary.Comparison comparison.Less) kind.Int) ∷ []
less = refl

minus : code_of (tree.unary (head 5 int) sign.Minus kind.Int (get int 3)) ≡ (0, Get (name.Local 3)) ∷ (1, Unary (unary.Sign sign.Minus)) ∷ []
minus = refl

-- p == 0, p != 0, p < q, p - q, p - i
is_nil : code_of (tree.is_nil (head 5 int) true (get char_pointer_id 2)) ≡ (0, Get (name.Local 2)) ∷ (1, IsNil) ∷ []
is_nil = refl

is_not_nil : code_of (tree.is_nil (head 5 int) false (get char_pointer_id 2)) ≡ (0, Get (name.Local 2)) ∷ (1, IsNil) ∷ (1, Unary unary.Not) ∷ []
is_not_nil = refl

compared : code_of (tree.compare_pointers (head 5 int) comparison.Less (get char_pointer_id 2) (tree.nil (head 6 char_pointer_id)))
    ≡ (0, Get (name.Local 2)) ∷ (1, Nil) ∷ (2, Compare comparison.Less) ∷ []
compared = refl

difference : code_of (tree.difference (head 5 long) 1 (get char_pointer_id 2) (get char_pointer_id 2))
    ≡ (0, Get (name.Local 2)) ∷ (1, Get (name.Local 2)) ∷ (2, Difference 1) ∷ []
difference = refl

back : code_of (tree.step (head 5 char_pointer_id) (record { size = 1; backward = true }) true (get char_pointer_id 2) (get int 3))
    ≡ (0, Get (name.Local 2)) ∷ (1, Get (name.Local 3)) ∷ (2, Step (record { size = 1; backward = true }) true) ∷ []
back = refl

-- (char *)h
cast : code_of (tree.cast (head 5 char_pointer_id) (tree.convert_pointer (head 5 char_pointer_id) (get char_handle_id 0))) ≡ (0, Get (name.Local 0)) ∷ []
cast = refl

-- *p = i
stored : code_of (tree.assign (head 5 char) target (tree.convert_number (head 6 char) kind.Char (get int 3)))
    ≡ (0, Get (name.Local 2)) ∷ (1, Get (name.Local 3)) ∷ (2, Conv kind.Char) ∷ (2, Store (access.Number kind.Char)) ∷ []
stored = refl

-- i += 2 and *p += 2
slot_update : code_of (tree.update (head 5 int) arithmetic.Add kind.Int kind.Int (local int 3) (num 2))
    ≡ (0, Get (name.Local 3)) ∷ (1, Num 2) ∷ (2, Binary (binary.Arithmetic arithmetic.Add) kind.Int) ∷ (1, Conv kind.Int) ∷ (1, Set (name.Local 3)) ∷ []
slot_update = refl

memory_update : code_of (tree.update (head 5 char) arithmetic.Add kind.Int kind.Char target (num 2))
    ≡ (0, Get (name.Local 2)) ∷ (1, Dup) ∷ (2, Load (access.Number kind.Char)) ∷ (2, Num 2) ∷ (3, Binary (binary.Arithmetic arithmetic.Add) kind.Int)
    ∷ (2, Conv kind.Char) ∷ (2, Store (access.Number kind.Char)) ∷ []
memory_update = refl

-- p += i and *h += i
slot_advance : code_of (tree.advance (head 5 char_pointer_id) (record { size = 1; backward = false }) (local char_pointer_id 2) (get int 3))
    ≡ (0, Get (name.Local 2)) ∷ (1, Get (name.Local 3)) ∷ (2, Step (record { size = 1; backward = false }) true) ∷ (1, Set (name.Local 2)) ∷ []
slot_advance = refl

memory_advance : code_of (tree.advance (head 5 char_pointer_id) (record { size = 1; backward = false })
    (tree.target (head 4 char_pointer_id) (get char_handle_id 0)) (get int 3))
    ≡ (0, Get (name.Local 0)) ∷ (1, Dup) ∷ (2, Load (access.Pointer 0)) ∷ (2, Get (name.Local 3)) ∷ (3, Step (record { size = 1; backward = false }) true)
    ∷ (2, Store (access.Pointer 0)) ∷ []
memory_advance = refl

-- i++ and (*p)--
slot_step : code_of (tree.post_update (head 5 int) arithmetic.Add kind.Int kind.Int (local int 3))
    ≡ (0, Get (name.Local 3)) ∷ (1, Dup) ∷ (2, Num 1) ∷ (3, Binary (binary.Arithmetic arithmetic.Add) kind.Int) ∷ (2, Conv kind.Int)
    ∷ (2, Set (name.Local 3)) ∷ (2, Drop) ∷ []
slot_step = refl

memory_step : code_of (tree.post_update (head 5 char) arithmetic.Subtract kind.Int kind.Char target)
    ≡ (0, Get (name.Local 2)) ∷ (1, Dup) ∷ (2, Load (access.Number kind.Char)) ∷ (2, Tuck) ∷ (3, Num 1)
    ∷ (4, Binary (binary.Arithmetic arithmetic.Subtract) kind.Int) ∷ (3, Conv kind.Char) ∷ (3, Store (access.Number kind.Char)) ∷ (2, Drop) ∷ []
memory_step = refl

-- p++ and (*h)++
pointer_step : code_of (tree.post_advance (head 5 char_pointer_id) (record { size = 1; backward = false }) (local char_pointer_id 2))
    ≡ (0, Get (name.Local 2)) ∷ (1, Dup) ∷ (2, Num 1) ∷ (3, Step (record { size = 1; backward = false }) true) ∷ (2, Set (name.Local 2)) ∷ (2, Drop) ∷ []
pointer_step = refl

pointer_step_in_memory : code_of (tree.post_advance (head 5 char_pointer_id) (record { size = 1; backward = false })
    (tree.target (head 4 char_pointer_id) (get char_handle_id 0)))
    ≡ (0, Get (name.Local 0)) ∷ (1, Dup) ∷ (2, Load (access.Pointer 0)) ∷ (2, Tuck) ∷ (3, Num 1)
    ∷ (4, Step (record { size = 1; backward = false }) true) ∷ (3, Store (access.Pointer 0)) ∷ (2, Drop) ∷ []
pointer_step_in_memory = refl

-- i && 2
both : code_of (tree.and (head 5 int) (get int 3) (num 2))
    ≡ (0, Get (name.Local 3)) ∷ (1, Zero 6) ∷ (0, Num 2) ∷ (1, Zero 6) ∷ (0, Num 1) ∷ (1, Jump 7) ∷ (0, Num 0) ∷ []
both = refl

-- i || 2
either : code_of (tree.or (head 5 int) (get int 3) (num 2))
    ≡ (0, Get (name.Local 3)) ∷ (1, Zero 4) ∷ (0, Num 1) ∷ (1, Jump 9) ∷ (0, Num 2) ∷ (1, Zero 8) ∷ (0, Num 1) ∷ (1, Jump 9) ∷ (0, Num 0) ∷ []
either = refl

-- i ? 2 : 3, and then + 1
conditional : code_of (tree.arithmetic (head 4 int) arithmetic.Add kind.Int (tree.conditional (head 5 int) (get int 3) (num 2) (num 3)) (num 1))
    ≡ (0, Get (name.Local 3)) ∷ (1, Zero 4) ∷ (0, Num 2) ∷ (1, Jump 5) ∷ (0, Num 3) ∷ (1, Num 1)
    ∷ (2, Binary (binary.Arithmetic arithmetic.Add) kind.Int) ∷ []
conditional = refl

-- 1, 2, i
comma : code_of (tree.comma (head 5 int) (tree.more_values (num 1) (one (num 2))) (get int 3))
    ≡ (0, Num 1) ∷ (1, Drop) ∷ (0, Num 2) ∷ (1, Drop) ∷ (0, Get (name.Local 3)) ∷ []
comma = refl

-- a call of function 2 with two arguments, bound to a routine that moves, to one that does not, and to none
moving_call : code_of (tree.call (head 5 int) 2 (Some 0) (tree.more_values (num 1) (one (num 2)))) ≡ (0, Num 1) ∷ (1, Num 2) ∷ (2, Shift 0) ∷ (2, Call 2) ∷ []
moving_call = refl

plain_call : code_of (tree.call (head 5 int) 2 (Some 1) (one (num 1))) ≡ (0, Num 1) ∷ (1, Call 2) ∷ []
plain_call = refl

call : code_of (tree.call (head 5 int) 2 None tree.no_values) ≡ (0, Call 2) ∷ []
call = refl
