-- Plain routines: which arguments are used and when, how many answer words are taken, and what is made.
use Rattle.std.proofs.Common.{◌+◌, ℕ, pos, Bool, List, [], ◌∷◌, ◌++◌, refl, arith}
use Rattle.std.specs.Prelude.{true, false, codes}
use Rattle.hs_heap.specs.declared.decision.Decision.{Decision}
use Rattle.hs_meaning.proofs.Programs.Forms.{address, as_kind, as_pointer, assigned, calls, field, id, loaded, more_types, plain_routine, struct_of}
use Rattle.hs_meaning.proofs.Programs.Forms.{taken_variable, two, with_routine}
use Rattle.hs_meaning.proofs.Programs.Row.{Run, run, ◌comes_to◌}
use Rattle.hs_meaning.proofs.Programs.Terms.{at_pointer, char, done_by, everything, finished, function, get, head, int, local, long, long_num, new_handle}
use Rattle.hs_meaning.proofs.Programs.Terms.{nothing, num, one, program_with, put, return, stopped, variable}
use Rattle.hs_meaning.specs.declared.outcome.Stop.TheVariants as stop
use Rattle.hs_tree.specs.Trees.{RightValue, LeftValue, RightValues, TypedStatement}
use Rattle.hs_tree.specs.Trees as tree
use Rattle.hs_tree.specs.declared.head.VariableDecl.{VariableDecl}
use Rattle.hs_types.specs.Layouts.{integer_layout}
use Rattle.hs_types.specs.Rows.{void_id, integer_id, char_pointer_id, char_handle_id}
use Rattle.hs_types.specs.TypeTables.{TypeTable}
use Rattle.hs_types.specs.declared.integer.Integer.TheVariants as kind
use Rattle.hs_types.specs.declared.row.Row.TheVariants as row
use Rattle.hs_types.specs.declared.row.TypeId.{TypeId}

abbrev short : TypeId
short = integer_id kind.Short

-- type 12 is short *, 13 is struct R { short a, b, c; }, 14 is struct R *, 15 is void *, and 16 is void **
abbrev types : TypeTable
types =
    more_types (row.Pointer short ∷ row.Struct 0 ∷ row.Pointer (id 13) ∷ row.Pointer void_id ∷ row.Pointer (id 15) ∷ [])
    (struct_of (field (codes "a") short (integer_layout kind.Short) 0 ∷ field (codes "b") short (integer_layout kind.Short) 2
    ∷ field (codes "c") short (integer_layout kind.Short) 4 ∷ []) ∷ [])

-- struct R r; char **h, **g, *p, *q; the program takes the addresses of `r` and of its field `a`
abbrev variables : List VariableDecl
variables =
    taken_variable (codes "r") (id 13) ∷ variable (codes "h") char_handle_id ∷ variable (codes "g") char_handle_id
    ∷ variable (codes "p") char_pointer_id ∷ variable (codes "q") char_pointer_id ∷ []

-- the run of these in `main`, with these answer words; the table says what `Ask` fills, and whether it moves
abbrev run_of : Bool → ℕ → TypeId → List TypeId → List TypedStatement → List ℕ → List Decision → Run
run_of moves fills result parameters its words schedule =
    run (with_routine (plain_routine (codes "Ask") moves fills 0 result parameters)
    (record (program_with types [] (function variables its ∷ [])) { taken = record { of = 0; place = 0 } ∷ [] }))
    (record { bytes = []; words = words; refused = [] }) schedule 0

-- Ask(..)
abbrev asks : ℕ → ℕ → TypeId → RightValues → RightValue
asks line col result arguments = calls line col result 16 arguments

-- `Ask` and a line feed, which each call writes
abbrev asked : List ℕ
asked = codes "Ask" ++ 10 ∷ []

abbrev pointer : ℕ → ℕ → ℕ → RightValue
pointer line col place = get line col char_pointer_id place

-- ---- arguments

-- void Ask(char *);   p = NewPtr(3); DisposPtr(p); Ask(p); nothing is written
gone_argument : run_of false 0 void_id (char_pointer_id ∷ [])
    (done_by 6 (put 6 7 char_pointer_id 3 (calls 6 9 char_pointer_id 13 (one (long_num 6 16 3))))
    ∷ done_by 7 (calls 7 5 void_id 14 (one (pointer 7 15 3))) ∷ done_by 8 (asks 8 5 void_id (one (pointer 8 9 3))) ∷ []) [] []
    comes_to stopped [] stop.Gone 8 5
gone_argument = (grind (arith), refl)

-- h = NewHandle(4); p = *h; g = NewHandle(4); q = *g; EmptyHandle(h); DisposeHandle(g);
abbrev old_and_disposed : List TypedStatement
old_and_disposed =
    done_by 6 (put 6 7 char_handle_id 1 (new_handle 6 9 4))
    ∷ done_by 7 (put 7 7 char_pointer_id 3 (at_pointer 7 9 char_pointer_id (get 7 10 char_handle_id 1)))
    ∷ done_by 8 (put 8 7 char_handle_id 2 (new_handle 8 9 4))
    ∷ done_by 9 (put 9 7 char_pointer_id 4 (at_pointer 9 9 char_pointer_id (get 9 10 char_handle_id 2)))
    ∷ done_by 10 (calls 10 5 void_id 11 (one (get 10 17 char_handle_id 1)))
    ∷ done_by 11 (calls 11 5 void_id 8 (one (get 11 19 char_handle_id 2))) ∷ []

-- void Ask(char *, char *);   .. Ask(p, q); pointers are used from the left
from_the_left : run_of false 0 void_id (char_pointer_id ∷ char_pointer_id ∷ [])
    (old_and_disposed ++ done_by 12 (asks 12 5 void_id (two (pointer 12 9 3) (pointer 12 12 4))) ∷ []) [] []
    comes_to stopped [] stop.Old 12 5
from_the_left = (grind (arith), refl)

-- void Ask(char *);   h = NewHandle(4); Ask(*h); return 0;
abbrev master_as_argument : List TypedStatement
master_as_argument =
    done_by 6 (put 6 7 char_handle_id 1 (new_handle 6 9 4))
    ∷ done_by 7 (asks 7 5 void_id (one (at_pointer 7 9 char_pointer_id (get 7 10 char_handle_id 1)))) ∷ return 8 (num 8 12 0) ∷ []

master_stays : run_of true 0 void_id (char_pointer_id ∷ []) master_as_argument [] [] comes_to finished asked (pos 0)
master_stays = (grind (arith), refl)

-- the master pointer is read before the decision, and used after it
master_moves : run_of true 0 void_id (char_pointer_id ∷ []) master_as_argument [] (nothing ∷ everything ∷ []) comes_to stopped [] stop.Stale 7 5
master_moves = (grind (arith), refl)

-- ---- answer words

-- a field of `r`, as an object and as an int
abbrev field_of_r : ℕ → ℕ → ℕ → LeftValue
field_of_r line col place = tree.member (head line col short) (record { of = 0; place = place }) (place + place) (local line 9 (id 13) 0)

abbrev value : ℕ → ℕ → ℕ → RightValue
value line col place = as_kind line col kind.Int (loaded line col short (field_of_r line col place))

abbrev address_of_r : ℕ → ℕ → RightValue
address_of_r line col = address line col (id 14) (local line (col + 1) (id 13) 0)

-- void Ask(struct R *);   Ask(&r); return r.c; past the last word each word is 0
fills_with_zero : run_of false 1 void_id (id 14 ∷ []) (done_by 6 (asks 6 5 void_id (one (address_of_r 6 9))) ∷ return 7 (value 7 13 2) ∷ []) (65538 ∷ []) []
    comes_to finished asked (pos 0)
fills_with_zero = (grind (arith), refl)

-- int Ask(struct R *);   return Ask(&r); six bytes take two words, and the result is the third
third_word : run_of false 1 int (id 14 ∷ []) (return 6 (asks 6 12 int (one (address_of_r 6 16))) ∷ []) (1 ∷ 2 ∷ 7 ∷ []) [] comes_to finished asked (pos 7)
third_word = (grind (arith), refl)

-- void Ask(short *);   r.b = 5; Ask(&r.a); return r.b; two bytes are filled and no more
next_field_stays : run_of false 1 void_id (id 12 ∷ []) (done_by 6 (assigned 6 9 short (field_of_r 6 6 1) (as_kind 6 9 kind.Short (num 6 11 5)))
    ∷ done_by 7 (asks 7 5 void_id (one (address 7 9 (id 12) (field_of_r 7 11 0)))) ∷ return 8 (value 8 13 1) ∷ []) (65538 ∷ []) []
    comes_to finished asked (pos 5)
next_field_stays = (grind (arith), refl)

-- void Ask(short *);   Ask(&r.a); Ask(&r.a); return r.a; a routine that gives nothing takes no word for it
no_word_for_nothing : run_of false 1 void_id (id 12 ∷ []) (done_by 6 (asks 6 5 void_id (one (address 6 9 (id 12) (field_of_r 6 11 0))))
    ∷ done_by 7 (asks 7 5 void_id (one (address 7 9 (id 12) (field_of_r 7 11 0)))) ∷ return 8 (value 8 13 0) ∷ []) (65536 ∷ 131072 ∷ []) []
    comes_to finished (asked ++ asked) (pos 2)
no_word_for_nothing = (grind (arith), refl)

-- char *Ask(void);   Ask(); return Ask() == 0; a pointer takes a word
word_for_pointer : run_of false 0 char_pointer_id [] (done_by 6 (asks 6 5 char_pointer_id tree.no_values)
    ∷ return 7 (tree.is_nil (head 7 18 int) true (asks 7 12 char_pointer_id tree.no_values)) ∷ []) (9 ∷ 0 ∷ []) []
    comes_to finished (asked ++ asked) (pos 1)
word_for_pointer = (grind (arith), refl)

-- ---- what is made

-- char **Ask(void);   return **Ask(); a block of bytes that are 0
block_of_zeros : run_of false 0 char_handle_id [] (return 6 (as_kind 6 5 kind.Int (at_pointer 6 12 char
    (at_pointer 6 13 char_pointer_id (asks 6 14 char_handle_id tree.no_values)))) ∷ []) (9 ∷ []) []
    comes_to finished asked (pos 0)
block_of_zeros = (grind (arith), refl)

-- void *Ask(void);   return *(char *)Ask(); one byte, since the target has no size
object_of_void : run_of false 0 (id 15) [] (return 6 (as_kind 6 5 kind.Int (at_pointer 6 12 char (tree.cast (head 6 13 char_pointer_id)
    (as_pointer 6 13 char_pointer_id (asks 6 21 (id 15) tree.no_values))))) ∷ []) (9 ∷ []) []
    comes_to finished asked (pos 0)
object_of_void = (grind (arith), refl)

-- void **Ask(void);   return GetHandleSize(Ask());
block_of_void : run_of false 0 (id 16) []
    (return 6 (as_kind 6 5 kind.Int (calls 6 12 long 9 (one (as_pointer 6 12 char_handle_id (asks 6 26 (id 16) tree.no_values))))) ∷ []) (9 ∷ []) []
    comes_to finished asked (pos 1)
block_of_void = (grind (arith), refl)
