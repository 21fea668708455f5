-- What automatic variables start with.
use Rattle.std.proofs.Common.{ℕ, pos, List, [], ◌∷◌, Some, None, refl, arith}
use Rattle.std.specs.Prelude.{true, codes}
use Rattle.hs_meaning.proofs.Programs.Forms.{as_pointer, as_kind, calls, counted, compared, of_ints, function_with, body_with, starts, taken_variable}
use Rattle.hs_meaning.proofs.Programs.Forms.{address, decay, loaded, element, id}
use Rattle.hs_meaning.proofs.Programs.Globals.{types, of_int, first_of_array, first_of_struct}
use Rattle.hs_meaning.proofs.Programs.Row.{Run, run, ◌comes_to◌}
use Rattle.hs_meaning.proofs.Programs.Terms.{char, int, get, put, local, num, one, done_by, return, new_handle, variable, program_with, no_input, finished}
use Rattle.hs_meaning.proofs.Programs.Terms.{stopped, head, at, statements}
use Rattle.hs_meaning.specs.declared.outcome.Stop.TheVariants as stop
use Rattle.hs_tree.specs.Trees.{LeftValue, TypedDeclaration, TypedStatement}
use Rattle.hs_tree.specs.Trees as tree
use Rattle.hs_tree.specs.declared.constant.Constant.{Constant}
use Rattle.hs_tree.specs.declared.constant.Constant.TheVariants as constant
use Rattle.hs_tree.specs.declared.constant.Part.{Part}
use Rattle.hs_tree.specs.declared.head.VariableDecl.{VariableDecl}
use Rattle.hs_tree.specs.declared.operators.Arithmetic.TheVariants.{Add}
use Rattle.hs_tree.specs.declared.operators.Comparison.TheVariants.{Less}
use Rattle.hs_types.specs.Rows.{char_pointer_id, char_handle_id}
use Rattle.hs_types.specs.declared.integer.Integer.TheVariants as kind
use Rattle.hs_types.specs.declared.row.TypeId.{TypeId}

-- with the types of `Globals.antt`: int a[3]; struct S s, t; int i, j, k; char **h; the program takes the addresses of `s` and `k`
abbrev variables : List VariableDecl
variables =
    variable (codes "a") (id 12) ∷ taken_variable (codes "s") (id 14) ∷ variable (codes "t") (id 14) ∷ variable (codes "i") int ∷ variable (codes "j") int
    ∷ taken_variable (codes "k") int ∷ variable (codes "h") char_handle_id ∷ []

ruleset parts_lie = (of_int, first_of_array, first_of_struct)

-- a `main` with these declarations and statements, with four turns
abbrev run_of : List TypedDeclaration → List TypedStatement → Run
run_of declarations its =
    run (program_with types [] (function_with (codes "main") int 0 variables (body_with declarations its) ∷ [])) no_input [] 4

abbrev part : ℕ → TypeId → Constant → Part
part offset its value = record { offset = offset; type_id = its; field = None; value = value }

-- int a[3] = { 5 };
abbrev array_starts : TypedDeclaration
array_starts = starts 4 0 (tree.parts (part 0 int (constant.Number 5) ∷ []))

-- a[n]
abbrev item : ℕ → LeftValue
item n = element 6 13 int 4 (decay 6 12 (id 13) (local 6 12 (id 12) 0)) (num 6 14 n)

-- int a[3] = { 5 }; return a[0];
first_element : run_of (array_starts ∷ []) (return 6 (loaded 6 13 int (item 0)) ∷ []) comes_to finished [] (pos 5)
first_element = (grind (arith, parts_lie), refl)

-- int a[3] = { 5 }; return a[2];
zero_element : run_of (array_starts ∷ []) (return 6 (loaded 6 13 int (item 2)) ∷ []) comes_to finished [] (pos 0)
zero_element = (grind (arith, parts_lie), refl)

-- struct S s = { 65 };
abbrev struct_starts : TypedDeclaration
struct_starts = starts 4 1 (tree.parts (record { offset = 0; type_id = char; field = Some (record { of = 0; place = 0 }); value = constant.Number 65 } ∷ []))

-- struct S s = { 65 }; return s.p == 0;
zero_pointer : run_of (struct_starts ∷ [])
    (return 6 (tree.is_nil (head 6 16 int) true (loaded 6 13 char_pointer_id
    (tree.member (head 6 13 char_pointer_id) (record { of = 0; place = 1 }) 2 (local 6 12 (id 14) 1)))) ∷ [])
    comes_to finished [] (pos 1)
zero_pointer = (grind (arith, parts_lie), refl)

-- struct S s = { 65 }; struct S t = s; return t.c;
struct_from_struct : run_of (struct_starts ∷ starts 5 2 (tree.value (loaded 5 14 (id 14) (local 5 14 (id 14) 1))) ∷ [])
    (return 6 (as_kind 6 5 kind.Int (loaded 6 13 char (tree.member (head 6 13 char) (record { of = 0; place = 0 }) 0 (local 6 12 (id 14) 2)))) ∷ [])
    comes_to finished [] (pos 65)
struct_from_struct = (grind (arith, parts_lie), refl)

-- int i = { 5 }; int j = i + 1; return j;
one_after_the_other : run_of (starts 4 3 (tree.parts (part 0 int (constant.Number 5) ∷ []))
    ∷ starts 5 4 (tree.value (of_ints 5 16 Add (get 5 14 int 3) (num 5 18 1))) ∷ []) (return 6 (get 6 12 int 4) ∷ [])
    comes_to finished [] (pos 6)
one_after_the_other = (grind (arith, parts_lie), refl)

-- int k = 7; &k; return k; an object
object_starts : run_of (starts 4 5 (tree.value (num 4 14 7)) ∷ []) (done_by 5 (address 5 5 (id 13) (local 5 6 int 5)) ∷ return 6 (get 6 12 int 5) ∷ [])
    comes_to finished [] (pos 7)
object_starts = (grind (arith, parts_lie), refl)

-- int j = i; the value is missing where it is read
undefined_value : run_of (starts 4 4 (tree.value (get 4 14 int 3)) ∷ []) [] comes_to stopped [] stop.Undefined 4 14
undefined_value = (grind (arith, parts_lie), refl)

-- char **h; h = NewHandle(4); { int k = HGetState(h); } a stop of the store is at the declared name
state_byte_in_object : run_of [] (done_by 5 (put 5 7 char_handle_id 6 (new_handle 5 9 4))
    ∷ tree.block (tree.compound (at 6 1) (starts 6 5 (tree.value (as_kind 6 14 kind.Int (calls 6 14 char 6 (one (get 6 24 char_handle_id 6))))) ∷ [])
    tree.no_statements (at 7 1)) ∷ [])
    comes_to stopped [] stop.BadByte 6 10
state_byte_in_object = (grind (arith, parts_lie), refl)

-- for (i = 0; i < 2; i++) { int j = 5; k = j; j = 9; } return k; each turn begins with the first value
each_turn : run_of [] (tree.for_ (at 5 5) (Some (put 5 12 int 3 (num 5 14 0))) (Some (compared 5 19 Less (get 5 17 int 3) (num 5 21 2)))
    (Some (counted 5 25 Add (local 5 24 int 3)))
    (tree.block (tree.compound (at 6 1) (starts 6 4 (tree.value (num 6 14 5)) ∷ [])
    (statements (done_by 7 (put 7 7 int 5 (get 7 9 int 4)) ∷ done_by 8 (put 8 7 int 4 (num 8 9 9)) ∷ [])) (at 9 1))) ∷ return 10 (get 10 12 int 5) ∷ [])
    comes_to finished [] (pos 5)
each_turn = (grind (arith, parts_lie), refl)

-- struct S s = { 65 }; return ((char *)&s)[1]; a byte between two members stays undefined
between_members : run_of (struct_starts ∷ [])
    (return 6 (as_kind 6 5 kind.Int (loaded 6 25 char (element 6 25 char 1
    (tree.cast (head 6 13 char_pointer_id) (as_pointer 6 13 char_pointer_id (address 6 21 (id 16) (local 6 22 (id 14) 1)))) (num 6 26 1)))) ∷ [])
    comes_to stopped [] stop.Undefined 6 25
between_members = (grind (arith, parts_lie), refl)
