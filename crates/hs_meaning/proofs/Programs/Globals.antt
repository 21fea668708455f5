-- Objects of static storage duration: slots and arrays with constants, string literals, and address constants.
use Rattle.std.proofs.Common.{ℕ, pos, List, [], ◌∷◌, Some, None, refl, arith}
use Rattle.std.specs.Prelude.{true, false, codes}
use Rattle.hs_meaning.proofs.Programs.Forms.{as_pointer, address, as_kind, invoked, of_ints, function_with, body_with, taken_variable, decay, loaded, through}
use Rattle.hs_meaning.proofs.Programs.Forms.{element, id, more_types, field, struct_of, counted}
use Rattle.hs_meaning.proofs.Programs.Row.{Run, run, ◌comes_to◌}
use Rattle.hs_meaning.proofs.Programs.Terms.{char, int, global, num, at_pointer, done_by, return, function, variable, program_with, no_input, finished}
use Rattle.hs_meaning.proofs.Programs.Terms.{stopped, head}
use Rattle.hs_meaning.specs.declared.outcome.Stop.TheVariants as stop
use Rattle.hs_tree.specs.Objects.{IsScalarAt, itself, in_array, is_field}
use Rattle.hs_tree.specs.Trees.{RightValue, LeftValue, TypedFunction}
use Rattle.hs_tree.specs.Trees as tree
use Rattle.hs_tree.specs.declared.constant.Base.TheVariants as base
use Rattle.hs_tree.specs.declared.constant.Constant.{Constant}
use Rattle.hs_tree.specs.declared.constant.Constant.TheVariants as constant
use Rattle.hs_tree.specs.declared.constant.Part.{Part}
use Rattle.hs_tree.specs.declared.globals.Global.{Global}
use Rattle.hs_tree.specs.declared.head.VariableDecl.{VariableDecl}
use Rattle.hs_tree.specs.declared.operators.Arithmetic.TheVariants.{Add, Multiply}
use Rattle.hs_types.specs.Layouts.{integer_layout, word_layout}
use Rattle.hs_types.specs.Rows.{char_pointer_id}
use Rattle.hs_types.specs.TypeTables.{TypeTable}
use Rattle.hs_types.specs.declared.integer.Integer.TheVariants as kind
use Rattle.hs_types.specs.declared.row.Row.TheVariants as row
use Rattle.hs_types.specs.declared.row.TypeId.{TypeId}

-- type 12 is int[3], 13 is int *, 14 is struct S { char c; char *p; }, 15 is char[3], and 16 is struct S *
abbrev pub types : TypeTable
types =
    more_types (row.Array int 3 (record { size = 12; even = true; characters = false }) ∷ row.Pointer int ∷ row.Struct 0
    ∷ row.Array char 3 (record { size = 3; even = true; characters = true }) ∷ row.Pointer (id 14) ∷ [])
    (struct_of (field (codes "c") char (integer_layout kind.Char) 0 ∷ field (codes "p") char_pointer_id word_layout 2 ∷ []) ∷ [])

abbrev part : ℕ → TypeId → Constant → Part
part offset its value = record { offset = offset; type_id = its; field = None; value = value }

-- the field of struct S of that place
abbrev field_part : ℕ → ℕ → TypeId → Constant → Part
field_part place offset its value = record { offset = offset; type_id = its; field = Some (record { of = 0; place = place }); value = value }

-- where its parts are: of an int, of the array, of pointers, and of the struct
pub of_int : IsScalarAt types int 0 int None
of_int = itself int refl

pub first_of_array : IsScalarAt types (id 12) 0 int None
first_of_array = in_array (id 12) int int 3 0 0 (record { size = 12; even = true; characters = false }) None refl (omega arith) (itself int refl)

second_of_array : IsScalarAt types (id 12) 4 int None
second_of_array = in_array (id 12) int int 3 1 0 (record { size = 12; even = true; characters = false }) None refl (omega arith) (itself int refl)

of_int_pointer : IsScalarAt types (id 13) 0 (id 13) None
of_int_pointer = itself (id 13) refl

of_char_pointer : IsScalarAt types char_pointer_id 0 char_pointer_id None
of_char_pointer = itself char_pointer_id refl

pub first_of_struct : IsScalarAt types (id 14) 0 char (Some (record { of = 0; place = 0 }))
first_of_struct = is_field (id 14) char (record { of = 0; place = 0 }) 0 refl (refl, refl) refl

second_of_struct : IsScalarAt types (id 14) 2 char_pointer_id (Some (record { of = 0; place = 1 }))
second_of_struct = is_field (id 14) char_pointer_id (record { of = 0; place = 1 }) 2 refl (refl, refl) refl

ruleset parts_lie = (of_int, first_of_array, second_of_array, of_int_pointer, of_char_pointer, first_of_struct, second_of_struct)

abbrev object : VariableDecl → ℕ → List Part → Global
object variable size parts = record { variable = variable; size = size; parts = parts }

-- int n = 7, m; int a[3] = { 1, 2 }; char *p; int *q = a + 1; char *r = "AB"; struct S s = { 65, "AB" + 1 };
-- the program takes the address of `r`, so `n`, `m`, `p` and `q` are slots; the literals are the objects after those of variables
abbrev objects : List Global
objects =
    object (variable (codes "n") int) 4 (part 0 int (constant.Number 7) ∷ [])
    ∷ object (variable (codes "m") int) 4 []
    ∷ object (variable (codes "a") (id 12)) 12 (part 0 int (constant.Number 1) ∷ part 4 int (constant.Number 2) ∷ [])
    ∷ object (variable (codes "p") char_pointer_id) 4 []
    ∷ object (variable (codes "q") (id 13)) 4 (part 0 (id 13) (constant.Address (base.Global 2) (pos 4)) ∷ [])
    ∷ object (taken_variable (codes "r") char_pointer_id) 4 (part 0 char_pointer_id (constant.Address (base.Literal 0) (pos 0)) ∷ [])
    ∷ object (variable (codes "s") (id 14)) 6
    (field_part 0 0 char (constant.Number 65) ∷ field_part 1 2 char_pointer_id (constant.Address (base.Literal 1) (pos 1)) ∷ [])
    ∷ []

-- the run of these functions, the first of which is `main`; the third literal is "CD"
abbrev run_of : List TypedFunction → Run
run_of functions =
    run (record (program_with types objects functions) { literals = (65 ∷ 66 ∷ 0 ∷ []) ∷ (65 ∷ 66 ∷ 0 ∷ []) ∷ (67 ∷ 68 ∷ 0 ∷ []) ∷ [] }) no_input [] 2

-- return e;
abbrev gives : RightValue → Run
gives e = run_of (function [] (return 6 e ∷ []) ∷ [])

-- the value of a variable, and of a character as an int
abbrev value : ℕ → TypeId → ℕ → RightValue
value col its place = loaded 6 col its (global 6 col its place)

abbrev character : ℕ → LeftValue → RightValue
character col e = as_kind 6 5 kind.Int (loaded 6 col char e)

-- return n;
slot_with_constant : gives (value 12 int 0) comes_to finished [] (pos 7)
slot_with_constant = (grind (arith, parts_lie), refl)

-- return m;
slot_without : gives (value 12 int 1) comes_to finished [] (pos 0)
slot_without = (grind (arith, parts_lie), refl)

-- return p == 0;
pointer_without : gives (tree.is_nil (head 6 14 int) true (value 12 char_pointer_id 3)) comes_to finished [] (pos 1)
pointer_without = (grind (arith, parts_lie), refl)

-- a[n]
abbrev item : ℕ → ℕ → RightValue
item col n = loaded 6 col int (element 6 col int 4 (decay 6 12 (id 13) (global 6 12 (id 12) 2)) (num 6 14 n))

-- return a[0] + a[1]; the constants
array_with_constants : gives (of_ints 6 17 Add (item 13 0) (item 20 1)) comes_to finished [] (pos 3)
array_with_constants = (grind (arith, parts_lie), refl)

-- return a[2]; what they leave out is 0
rest_of_array : gives (item 13 2) comes_to finished [] (pos 0)
rest_of_array = (grind (arith, parts_lie), refl)

-- return *q;
address_in_slot : gives (at_pointer 6 12 int (value 13 (id 13) 4)) comes_to finished [] (pos 2)
address_in_slot = (grind (arith, parts_lie), refl)

-- return *r; the program has &r; elsewhere
address_in_object : gives (character 12 (through 6 12 char (value 13 char_pointer_id 5))) comes_to finished [] (pos 65)
address_in_object = (grind (arith, parts_lie), refl)

-- s.c and s.p
abbrev c_of_s : RightValue
c_of_s = character 14 (tree.member (head 6 14 char) (record { of = 0; place = 0 }) 0 (global 6 13 (id 14) 6))

abbrev p_of_s : RightValue
p_of_s = loaded 6 21 char_pointer_id (tree.member (head 6 21 char_pointer_id) (record { of = 0; place = 1 }) 2 (global 6 20 (id 14) 6))

-- return s.c + *s.p;
struct_with_constants : gives (of_ints 6 16 Add c_of_s (character 19 (through 6 19 char p_of_s))) comes_to finished [] (pos 131)
struct_with_constants = (grind (arith, parts_lie), refl)

-- "CD"[n]
abbrev letter : ℕ → RightValue
letter n = character 16 (element 6 16 char 1 (decay 6 12 char_pointer_id (tree.literal (head 6 12 (id 15)) 2)) (num 6 17 n))

-- return "CD"[1];
literal : gives (letter 1) comes_to finished [] (pos 68)
literal = (grind (arith, parts_lie), refl)

-- return "CD"[2]; its byte 0
end_of_literal : gives (letter 2) comes_to finished [] (pos 0)
end_of_literal = (grind (arith, parts_lie), refl)

-- return "CD"[3];
past_the_literal : gives (letter 3) comes_to stopped [] stop.Range 6 16
past_the_literal = (grind (arith, parts_lie), refl)

-- int f(void) { m++; return m; }   int main(void) { return f() * 10 + f(); } an object of the program keeps its value between calls
kept_between_calls : run_of
    (function [] (return 6 (of_ints 6 21 Add
    (of_ints 6 16 Multiply (invoked 6 12 int 1 tree.no_values) (num 6 18 10)) (invoked 6 23 int 1 tree.no_values)) ∷ [])
    ∷ function_with (codes "f") int 0 [] (body_with []
    (done_by 10 (counted 10 6 Add (global 10 5 int 1)) ∷ return 11 (loaded 11 12 int (global 11 12 int 1)) ∷ [])) ∷ [])
    comes_to finished [] (pos 12)
kept_between_calls = (grind (arith, parts_lie), refl)

-- return ((char *)&s)[1]; a byte between two members is 0
between_members : run (program_with types (object (taken_variable (codes "s") (id 14)) 6 [] ∷ [])
    (function [] (return 6 (as_kind 6 5 kind.Int (loaded 6 25 char (element 6 25 char 1 (tree.cast (head 6 13 char_pointer_id)
    (as_pointer 6 13 char_pointer_id (address 6 21 (id 16) (global 6 22 (id 14) 0)))) (num 6 26 1)))) ∷ []) ∷ [])) no_input [] 0
    comes_to finished [] (pos 0)
between_members = (grind (arith, parts_lie), refl)
