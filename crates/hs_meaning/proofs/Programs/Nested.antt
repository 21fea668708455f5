-- Structs and arrays inside structs: where their scalars lie, and of which class their pointers are.
use Rattle.std.proofs.Common.{ℕ, pos, true, false, List, [], ◌∷◌, Some, None, refl, arith}
use Rattle.std.specs.Prelude.{codes}
use Rattle.hs_meaning.proofs.Programs.Forms.{as_kind, address, assigned, body_with, decay, element, field, function_with, id, loaded, more_types, starts}
use Rattle.hs_meaning.proofs.Programs.Forms.{struct_of, taken_variable, through}
use Rattle.hs_meaning.proofs.Programs.Row.{Run, run, ◌comes_to◌}
use Rattle.hs_meaning.proofs.Programs.Terms.{char, int, done_by, head, local, no_input, num, program_with, return, variable, finished, stopped}
use Rattle.hs_meaning.specs.declared.outcome.Stop.TheVariants as stop
use Rattle.hs_tree.specs.Objects.{IsScalarAt, itself, in_array, is_field, in_field}
use Rattle.hs_tree.specs.Trees.{LeftValue, TypedDeclaration, TypedStatement}
use Rattle.hs_tree.specs.Trees as tree
use Rattle.hs_tree.specs.declared.constant.Base.TheVariants as base
use Rattle.hs_tree.specs.declared.constant.Constant.TheVariants as constant
use Rattle.hs_tree.specs.declared.head.VariableDecl.{VariableDecl}
use Rattle.hs_types.specs.Layouts.{integer_layout, word_layout}
use Rattle.hs_types.specs.Rows.{char_pointer_id, char_handle_id}
use Rattle.hs_types.specs.TypeTables.{TypeTable}
use Rattle.hs_types.specs.declared.integer.Integer.TheVariants as kind
use Rattle.hs_types.specs.declared.layout.Layout.{Layout}
use Rattle.hs_types.specs.declared.row.FieldId.{FieldId}
use Rattle.hs_types.specs.declared.row.Row.TheVariants as row

-- what char *[2] takes
abbrev two_pointers : Layout
two_pointers = record { size = 8; even = true; characters = false }

-- type 12 is char *[2], 13 is struct In { char *p; }, 14 is struct Out { char c; struct In in; char *v[2]; }, and 15 is char[3]
abbrev types : TypeTable
types =
    more_types (row.Array char_pointer_id 2 two_pointers ∷ row.Struct 0 ∷ row.Struct 1
    ∷ row.Array char 3 (record { size = 3; even = true; characters = true }) ∷ [])
    (struct_of (field (codes "p") char_pointer_id word_layout 0 ∷ [])
    ∷ struct_of (field (codes "c") char (integer_layout kind.Char) 0 ∷ field (codes "in") (id 13) word_layout 2
    ∷ field (codes "v") (id 12) two_pointers 6 ∷ []) ∷ [])

-- struct Out o; char d; the program takes the address of `d`
abbrev variables : List VariableDecl
variables = variable (codes "o") (id 14) ∷ taken_variable (codes "d") char ∷ []

abbrev c_field : FieldId
c_field = record { of = 1; place = 0 }

abbrev p_field : FieldId
p_field = record { of = 0; place = 0 }

abbrev in_of : FieldId
in_of = record { of = 1; place = 1 }

abbrev v_field : FieldId
v_field = record { of = 1; place = 2 }

-- where the scalars are that have constants
c_lies : IsScalarAt types (id 14) 0 char (Some c_field)
c_lies = is_field (id 14) char c_field 0 refl (refl, refl) refl

p_lies : IsScalarAt types (id 14) 2 char_pointer_id (Some p_field)
p_lies =
    in_field (id 14) (id 13) char_pointer_id in_of 2 0 (Some p_field) refl (refl, refl) (grind (arith))
    (is_field (id 13) char_pointer_id p_field 0 refl (refl, refl) refl)

v_lies : IsScalarAt types (id 14) 10 char_pointer_id None
v_lies =
    in_field (id 14) (id 12) char_pointer_id v_field 6 4 None refl (refl, refl) (grind (arith))
    (in_array (id 12) char_pointer_id char_pointer_id 2 1 0 two_pointers None refl (omega arith) (itself char_pointer_id refl))

ruleset parts_lie = (c_lies, p_lies, v_lies)

-- struct Out o = { 65, { "AB" }, { 0, "AB" + 1 } };
abbrev o_starts : TypedDeclaration
o_starts =
    starts 4 0 (tree.parts (record { offset = 0; type_id = char; field = Some c_field; value = constant.Number 65 }
    ∷ record { offset = 2; type_id = char_pointer_id; field = Some p_field; value = constant.Address (base.Literal 0) (pos 0) }
    ∷ record { offset = 10; type_id = char_pointer_id; field = None; value = constant.Address (base.Literal 1) (pos 1) } ∷ []))

-- a `main` with this and the statements
abbrev run_of : List TypedStatement → Run
run_of its =
    run (record (program_with types [] (function_with (codes "main") int 0 variables (body_with (o_starts ∷ []) its) ∷ []))
    { literals = (65 ∷ 66 ∷ 0 ∷ []) ∷ (65 ∷ 66 ∷ 0 ∷ []) ∷ [] }) no_input [] 0

abbrev whole : LeftValue
whole = local 6 13 (id 14) 0

-- o.in.p
abbrev p_of_in : LeftValue
p_of_in = tree.member (head 6 17 char_pointer_id) p_field 0 (tree.member (head 6 14 (id 13)) in_of 2 whole)

-- o.v[n]
abbrev v_item : ℕ → LeftValue
v_item n = element 6 16 char_pointer_id 4 (decay 6 14 char_handle_id (tree.member (head 6 14 (id 12)) v_field 6 whole)) (num 6 17 n)

-- return *e;
abbrev reads : LeftValue → TypedStatement
reads e = return 6 (as_kind 6 5 kind.Int (loaded 6 12 char (through 6 12 char (loaded 6 17 char_pointer_id e))))

-- return *o.in.p;
field_of_field : run_of (reads p_of_in ∷ []) comes_to finished [] (pos 65)
field_of_field = (grind (arith, parts_lie), refl)

-- return *o.v[1];
element_of_field : run_of (reads (v_item 1) ∷ []) comes_to finished [] (pos 66)
element_of_field = (grind (arith, parts_lie), refl)

-- return o.v[0] == 0;
rest_of_field : run_of (return 6 (tree.is_nil (head 6 20 int) true (loaded 6 16 char_pointer_id (v_item 0))) ∷ []) comes_to finished [] (pos 1)
rest_of_field = (grind (arith, parts_lie), refl)

-- o.v[2] = &d; the object ends after v[1]
past_the_struct : run_of (done_by 6 (assigned 6 20 char_pointer_id (v_item 2) (address 6 22 char_pointer_id (local 6 23 char 1))) ∷ [])
    comes_to stopped [] stop.Range 6 20
past_the_struct = (grind (arith, parts_lie), refl)

-- d = 68; o.v[0] = &d; return *o.v[0]; a pointer in an array is of the class of its type
stored_in_array : run_of (done_by 5 (assigned 5 7 char (local 5 5 char 1) (as_kind 5 7 kind.Char (num 5 9 68)))
    ∷ done_by 6 (assigned 6 20 char_pointer_id (v_item 0) (address 6 22 char_pointer_id (local 6 23 char 1))) ∷ reads (v_item 0) ∷ [])
    comes_to finished [] (pos 68)
stored_in_array = (grind (arith, parts_lie), refl)
