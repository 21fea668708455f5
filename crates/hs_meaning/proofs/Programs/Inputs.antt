-- What a run is given from outside: characters, and allocations that are refused or too large.
use Rattle.std.proofs.Common.{ℕ, pos, negsuc, List, [], ◌∷◌, ◌++◌, refl, arith}
use Rattle.std.specs.Prelude.{false, true, codes}
use Rattle.hs_meaning.proofs.Programs.Forms.{as_kind, calls, of_ints, two, compared, minus, nil, plain_routine, with_routine}
use Rattle.hs_meaning.proofs.Programs.Row.{Run, run, ◌comes_to◌}
use Rattle.hs_meaning.proofs.Programs.Terms.{char, routine, int, long, get, put, num, one, done_by, return, putchar, new_handle, variable, program, finished}
use Rattle.hs_meaning.proofs.Programs.Terms.{head}
use Rattle.hs_table.specs.declared.role.Role.TheVariants as role
use Rattle.hs_tree.specs.Trees.{RightValue, TypedProgram, TypedStatement}
use Rattle.hs_tree.specs.Trees as tree
use Rattle.hs_tree.specs.declared.operators.Arithmetic.TheVariants.{Add}
use Rattle.hs_tree.specs.declared.operators.Comparison.TheVariants.{Equal}
use Rattle.hs_types.specs.Rows.{void_id, char_pointer_id, char_handle_id}
use Rattle.hs_types.specs.declared.integer.Integer.TheVariants as kind

-- char **h, *p; and these in `main`; each may also call char *Ask(void), which is a plain routine
abbrev in_main : List TypedStatement → TypedProgram
in_main its =
    with_routine (plain_routine (codes "Ask") false 0 0 char_pointer_id [])
    (program (variable (codes "h") char_handle_id ∷ variable (codes "p") char_pointer_id ∷ []) its)

-- with those characters, and with those allocations refused
abbrev reads : List TypedStatement → List ℕ → Run
reads its bytes = run (in_main its) (record { bytes = bytes; words = 1 ∷ []; refused = [] }) [] 0

abbrev refuses : List TypedStatement → List ℕ → Run
refuses its refused = run (in_main its) (record { bytes = []; words = 1 ∷ []; refused = refused }) [] 0

-- getchar()
abbrev next : ℕ → ℕ → RightValue
next line col = calls line col int 4 tree.no_values

-- return getchar() + getchar(); the second is -1 if there is one character only
abbrev two_characters : List TypedStatement
two_characters = return 6 (of_ints 6 22 Add (next 6 12) (next 6 24)) ∷ []

both_are_there : reads two_characters (65 ∷ 66 ∷ 67 ∷ []) comes_to finished [] (pos 131)
both_are_there = (grind (arith), refl)

one_is_there : reads two_characters (65 ∷ []) comes_to finished [] (pos 64)
one_is_there = (grind (arith), refl)

none_is_there : reads two_characters [] comes_to finished [] (negsuc 1)
none_is_there = (grind (arith), refl)

-- return getchar() == -1; the character 255 is not the end
highest_character : reads (return 6 (compared 6 22 Equal (next 6 12) (minus 6 25 (num 6 26 1))) ∷ []) (255 ∷ []) comes_to finished [] (pos 0)
highest_character = (grind (arith), refl)

-- return putchar(321); the low byte, which it also gives
low_byte : reads (return 6 (putchar 6 12 (num 6 20 321)) ∷ []) [] comes_to finished (65 ∷ []) (pos 65)
low_byte = (grind (arith), refl)

-- return putchar(-1);
end_is_put : reads (return 6 (putchar 6 12 (minus 6 20 (num 6 21 1))) ∷ []) [] comes_to finished (255 ∷ []) (pos 255)
end_is_put = (grind (arith), refl)

-- h = NewHandle(4);
abbrev made : ℕ → TypedStatement
made line = done_by line (put line 7 char_handle_id 0 (new_handle line 9 4))

abbrev handle : ℕ → ℕ → RightValue
handle line col = get line col char_handle_id 0

-- return h == 0;
abbrev tests : TypedStatement
tests = return 12 (tree.is_nil (head 12 14 int) true (handle 12 12))

-- SetHandleSize(e, n); with its name in column 5
abbrev resizes : ℕ → RightValue → RightValue → TypedStatement
resizes line e n = done_by line (calls line 5 void_id 10 (two e (as_kind line 5 kind.Long n)))

-- return GetHandleSize(h);
abbrev sized : TypedStatement
sized = return 12 (as_kind 12 5 kind.Int (calls 12 12 long 9 (one (handle 12 26))))

-- h = NewHandle(4); SetHandleSize(h, 9); return GetHandleSize(h);
is_resized : refuses (made 6 ∷ resizes 7 (handle 7 19) (num 7 22 9) ∷ sized ∷ []) [] comes_to finished [] (pos 9)
is_resized = (grind (arith), refl)

-- the second allocation is refused
stays_as_it_was : refuses (made 6 ∷ resizes 7 (handle 7 19) (num 7 22 9) ∷ sized ∷ []) (2 ∷ []) comes_to finished [] (pos 4)
stays_as_it_was = (grind (arith), refl)

-- h = NewHandle(4); SetHandleSize(h, -1); return GetHandleSize(h);
negative_resize : refuses (made 6 ∷ resizes 7 (handle 7 19) (minus 7 22 (num 7 23 1)) ∷ sized ∷ []) [] comes_to finished [] (pos 4)
negative_resize = (grind (arith), refl)

-- SetHandleSize(0, 9); h = NewHandle(4); return h == 0; a call that does nothing takes a number too
abbrev resizes_nil : List TypedStatement
resizes_nil = resizes 6 (nil 6 5 char_handle_id) (num 6 22 9) ∷ made 7 ∷ tests ∷ []

second_is_refused : refuses resizes_nil (2 ∷ []) comes_to finished [] (pos 1)
second_is_refused = (grind (arith), refl)

first_is_refused : refuses resizes_nil (1 ∷ []) comes_to finished [] (pos 0)
first_is_refused = (grind (arith), refl)

-- Ask(); h = NewHandle(4); return h == 0; what a plain routine makes takes no number
plain_takes_no_number : refuses (done_by 6 (calls 6 5 char_pointer_id 16 tree.no_values) ∷ made 7 ∷ tests ∷ []) (1 ∷ [])
    comes_to finished (codes "Ask" ++ 10 ∷ []) (pos 1)
plain_takes_no_number = (grind (arith), refl)

-- return NewPtr(n) == 0;
abbrev asks_for : RightValue → Run
asks_for n = refuses (return 6 (tree.is_nil (head 6 22 int) true (calls 6 12 char_pointer_id 13 (one (as_kind 6 12 kind.Long n)))) ∷ []) []

small_object : asks_for (num 6 19 4) comes_to finished [] (pos 0)
small_object = (grind (arith), refl)

object_of_no_bytes : asks_for (num 6 19 0) comes_to finished [] (pos 0)
object_of_no_bytes = (grind (arith), refl)

negative_object : asks_for (minus 6 19 (num 6 20 1)) comes_to finished [] (pos 1)
negative_object = (grind (arith), refl)

object_without_room : asks_for (num 6 19 16777217) comes_to finished [] (pos 1)
object_without_room = (grind (arith), refl)

-- h = NewHandle(16777217); return h == 0;
block_without_room : refuses (done_by 6 (put 6 7 char_handle_id 0 (new_handle 6 9 16777217)) ∷ tests ∷ []) [] comes_to finished [] (pos 1)
block_without_room = (grind (arith), refl)

-- char getchar(void);   return getchar(); the result is of the declared type
abbrev as_character : List ℕ → Run
as_character bytes =
    run (with_routine (routine (codes "getchar") role.Getchar false char [])
    (program [] (return 6 (as_kind 6 5 kind.Int (calls 6 12 char 16 tree.no_values)) ∷ [])))
    (record { bytes = bytes; words = []; refused = [] }) [] 0

negative_character : as_character (200 ∷ []) comes_to finished [] (negsuc 55)
negative_character = (grind (arith), refl)

no_character : as_character [] comes_to finished [] (negsuc 0)
no_character = (grind (arith), refl)
