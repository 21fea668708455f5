-- Plain routines: what they fill, and what they give. The routine here is named `Ask`, and moves nothing.
use Rattle.std.proofs.Common.{ℕ, pos, negsuc, true, false, List, [], ◌∷◌, ◌++◌, refl, arith}
use Rattle.std.specs.Fmt.{digits}
use Rattle.std.specs.Prelude.{codes}
use Rattle.hs_meaning.proofs.Programs.Forms.{as_kind, as_pointer, calls, of_ints, two, taken_variable, address, loaded, element, id, more_types, field}
use Rattle.hs_meaning.proofs.Programs.Forms.{struct_of, plain_routine, with_routine, nil, plus}
use Rattle.hs_meaning.proofs.Programs.Row.{Run, run, ◌comes_to◌}
use Rattle.hs_meaning.proofs.Programs.Terms.{at_pointer, char, int, long, get, put, num, one, local, done_by, return, function, variable, program_with}
use Rattle.hs_meaning.proofs.Programs.Terms.{new_handle, finished, stopped, head}
use Rattle.hs_meaning.specs.declared.outcome.Stop.TheVariants as stop
use Rattle.hs_tree.specs.Trees.{RightValue, RightValues, TypedStatement}
use Rattle.hs_tree.specs.Trees as tree
use Rattle.hs_tree.specs.declared.head.VariableDecl.{VariableDecl}
use Rattle.hs_tree.specs.declared.operators.Arithmetic.TheVariants.{Add}
use Rattle.hs_types.specs.Layouts.{integer_layout}
use Rattle.hs_types.specs.Rows.{void_id, integer_id, char_pointer_id, char_handle_id}
use Rattle.hs_types.specs.TypeTables.{TypeTable}
use Rattle.hs_types.specs.declared.integer.Integer.TheVariants as kind
use Rattle.hs_types.specs.declared.row.Row.TheVariants as row
use Rattle.hs_types.specs.declared.row.TypeId.{TypeId}

abbrev short : TypeId
short = integer_id kind.Short

-- type 12 is short *, 13 is struct R { short a, b, c; }, 14 is struct R *, 15 is struct R **, and 16 is void *
abbrev types : TypeTable
types =
    more_types (row.Pointer short ∷ row.Struct 0 ∷ row.Pointer (id 13) ∷ row.Pointer (id 14) ∷ row.Pointer void_id ∷ [])
    (struct_of (field (codes "a") short (integer_layout kind.Short) 0 ∷ field (codes "b") short (integer_layout kind.Short) 2
    ∷ field (codes "c") short (integer_layout kind.Short) 4 ∷ []) ∷ [])

-- short s; struct R r; char **h, *p; the program takes the addresses of `s` and `r`
abbrev variables : List VariableDecl
variables =
    taken_variable (codes "s") short ∷ taken_variable (codes "r") (id 13) ∷ variable (codes "h") char_handle_id ∷ variable (codes "p") char_pointer_id ∷ []

-- the run of these in `main`, with these answer words; the table says what `Ask` fills, and how large what it makes is
abbrev run_of : ℕ → ℕ → TypeId → List TypeId → List TypedStatement → List ℕ → Run
run_of fills size result parameters its words =
    run (with_routine (plain_routine (codes "Ask") false fills size result parameters) (program_with types [] (function variables its ∷ [])))
    (record { bytes = []; words = words; refused = [] }) [] 0

-- Ask(..)
abbrev asks : ℕ → ℕ → TypeId → RightValues → RightValue
asks line col result arguments = calls line col result 16 arguments

-- `Ask` and a line feed, which each call writes
abbrev asked : List ℕ
asked = codes "Ask" ++ 10 ∷ []

-- int Ask(void);   return Ask() + Ask(); each takes the next word
next_words : run_of 0 0 int [] (return 6 (of_ints 6 18 Add (asks 6 12 int tree.no_values) (asks 6 20 int tree.no_values)) ∷ []) (5 ∷ 7 ∷ [])
    comes_to finished (asked ++ asked) (pos 12)
next_words = (grind (arith), refl)

-- past the last word each word is 0
no_more_words : run_of 0 0 int [] (return 6 (of_ints 6 18 Add (asks 6 12 int tree.no_values) (asks 6 20 int tree.no_values)) ∷ []) (5 ∷ [])
    comes_to finished (asked ++ asked) (pos 5)
no_more_words = (grind (arith), refl)

-- char Ask(void);   return Ask(); the word 511 is -1 as a character
word_as_character : run_of 0 0 char [] (return 6 (as_kind 6 5 kind.Int (asks 6 12 char tree.no_values)) ∷ []) (511 ∷ []) comes_to finished asked (negsuc 0)
word_as_character = (grind (arith), refl)

-- int Ask(short *);   return Ask(&s) + s; half of the word 305419896, which is 0x12345678, is filled, and 1 is the result
half_a_word : run_of 1 0 int (id 12 ∷ []) (return 6 (of_ints 6 20 Add (asks 6 12 int (one (address 6 16 (id 12) (local 6 17 short 0))))
    (as_kind 6 20 kind.Int (get 6 22 short 0))) ∷ []) (305419896 ∷ 1 ∷ [])
    comes_to finished asked (pos 4661)
half_a_word = (grind (arith), refl)

-- r.c
abbrev c_of_r : ℕ → RightValue
c_of_r line = as_kind line 5 kind.Int (loaded line 13 short (tree.member (head line 13 short) (record { of = 0; place = 2 }) 4 (local line 12 (id 13) 1)))

-- void Ask(struct R *);   Ask(&r); return r.c; six bytes are a word and a half
word_and_a_half : run_of 1 0 void_id (id 14 ∷ []) (done_by 6 (asks 6 5 void_id (one (address 6 9 (id 14) (local 6 10 (id 13) 1)))) ∷ return 7 (c_of_r 7) ∷ [])
    (65538 ∷ 196612 ∷ [])
    comes_to finished asked (pos 3)
word_and_a_half = (grind (arith), refl)

-- void Ask(int, short *);   Ask(8, 0); the line is written before the target is filled
nil_is_not_filled : run_of 2 0 void_id (int ∷ id 12 ∷ []) (done_by 6 (asks 6 5 void_id (two (num 6 9 8) (nil 6 5 (id 12)))) ∷ []) []
    comes_to stopped (codes "Ask 8" ++ 10 ∷ []) stop.Nil 6 5
unfolding digits
nil_is_not_filled = (grind (arith), refl)

-- void Ask(short *);   Ask(&s + 1); the whole target is to be in range
past_the_target : run_of 1 0 void_id (id 12 ∷ [])
    (done_by 6 (asks 6 5 void_id (one (plus 6 12 (id 12) 2 (address 6 9 (id 12) (local 6 10 short 0)) (num 6 14 1)))) ∷ []) []
    comes_to stopped asked stop.Range 6 5
past_the_target = (grind (arith), refl)

-- void Ask(char **);   h = NewHandle(4); Ask(h); a handle is not filled
handle_is_not_filled : run_of 1 0 void_id (char_handle_id ∷ [])
    (done_by 6 (put 6 7 char_handle_id 2 (new_handle 6 9 4)) ∷ done_by 7 (asks 7 5 void_id (one (get 7 9 char_handle_id 2))) ∷ []) []
    comes_to stopped [] stop.BadPointer 7 5
handle_is_not_filled = (grind (arith), refl)

-- char *Ask(void);   return Ask() == 0;
abbrev asks_pointer : List TypedStatement
asks_pointer = return 6 (tree.is_nil (head 6 18 int) true (asks 6 12 char_pointer_id tree.no_values)) ∷ []

word_of_zero_is_nil : run_of 0 0 char_pointer_id [] asks_pointer (0 ∷ []) comes_to finished asked (pos 1)
word_of_zero_is_nil = (grind (arith), refl)

other_words_are_not : run_of 0 0 char_pointer_id [] asks_pointer (9 ∷ []) comes_to finished asked (pos 0)
other_words_are_not = (grind (arith), refl)

-- char *Ask(void);   return Ask()[n]; what is made has bytes that are 0
abbrev byte_of : ℕ → ℕ → Run
byte_of size n =
    run_of 0 size char_pointer_id []
    (return 6 (as_kind 6 5 kind.Int (loaded 6 17 char (element 6 17 char 1 (asks 6 12 char_pointer_id tree.no_values) (num 6 18 n)))) ∷ []) (9 ∷ [])

made_of_zeros : byte_of 0 0 comes_to finished asked (pos 0)
made_of_zeros = (grind (arith), refl)

as_large_as_the_target : byte_of 0 1 comes_to stopped asked stop.Range 6 17
as_large_as_the_target = (grind (arith), refl)

-- the table says `size = 3`
as_large_as_the_table_says : byte_of 3 2 comes_to finished asked (pos 0)
as_large_as_the_table_says = (grind (arith), refl)

-- GetHandleSize(Ask())
abbrev size_of_result : ℕ → TypeId → Run
size_of_result size result =
    run_of 0 size result []
    (return 6 (as_kind 6 5 kind.Int (calls 6 12 long 9 (one (as_pointer 6 12 char_handle_id (asks 6 26 result tree.no_values))))) ∷ []) (9 ∷ [])

-- struct R **Ask(void);   return GetHandleSize(Ask()); a handle of a new block of the size of struct R
new_block : size_of_result 0 (id 15) comes_to finished asked (pos 6)
new_block = (grind (arith), refl)

-- the table says `size = 9`
new_block_of_the_table : size_of_result 9 (id 15) comes_to finished asked (pos 9)
new_block_of_the_table = (grind (arith), refl)

-- void *Ask(void);   return GetHandleSize(Ask()); a pointer to an object, and no handle
new_object : size_of_result 0 (id 16) comes_to stopped asked stop.BadHandle 6 12
new_object = (grind (arith), refl)

-- char *Ask(void);   p = Ask(); DisposPtr(p); return *p; what is made may be disposed
disposed_object : run_of 0 0 char_pointer_id []
    (done_by 6 (put 6 7 char_pointer_id 3 (asks 6 9 char_pointer_id tree.no_values)) ∷ done_by 7 (calls 7 5 void_id 14 (one (get 7 15 char_pointer_id 3)))
    ∷ return 8 (as_kind 8 5 kind.Int (at_pointer 8 12 char (get 8 13 char_pointer_id 3))) ∷ []) (9 ∷ [])
    comes_to stopped asked stop.Gone 8 12
disposed_object = (grind (arith), refl)
