-- State bytes of HGetState: they are kept and put back, and used as numbers nowhere.
use Rattle.std.proofs.Common.{ℕ, pos, List, [], ◌∷◌, ◌++◌, refl, arith}
use Rattle.std.specs.Prelude.{true, codes}
use Rattle.hs_heap.specs.declared.decision.Decision.{Decision}
use Rattle.hs_meaning.proofs.Programs.Forms.{switch, forward, invoked, function_with, body_with, as_kind, calls, two, address, id, more_types, taken_variable}
use Rattle.hs_meaning.proofs.Programs.Forms.{of_ints}
use Rattle.hs_meaning.proofs.Programs.Frame.{variables, made, written, printed}
use Rattle.hs_meaning.proofs.Programs.Row.{Run, run, ◌comes_to◌}
use Rattle.hs_meaning.proofs.Programs.Terms.{head, nothing, new_handle, at_pointer, char, int, get, put, num, one, local, done_by, return, function, variable}
use Rattle.hs_meaning.proofs.Programs.Terms.{program_with, no_input, lock, unlock, putchar, everything, finished, stopped, at}
use Rattle.hs_meaning.specs.declared.outcome.Stop.TheVariants as stop
use Rattle.hs_tree.specs.Trees.{RightValue, TypedStatement}
use Rattle.hs_tree.specs.Trees as tree
use Rattle.hs_tree.specs.declared.head.VariableDecl.{VariableDecl}
use Rattle.hs_tree.specs.declared.operators.Arithmetic.TheVariants.{Add}
use Rattle.hs_types.specs.Rows.{void_id, char_pointer_id, char_handle_id}
use Rattle.hs_types.specs.TypeTables.{TypeTable}
use Rattle.hs_types.specs.declared.integer.Integer.TheVariants as kind
use Rattle.hs_types.specs.declared.row.Row.TheVariants as row

-- type 12 is int *
abbrev types : TypeTable
types = more_types (row.Pointer int ∷ []) []

-- char **h, **g, *p, s; int i; char c; int n; the program takes the addresses of `c` and `n`
abbrev all_variables : List VariableDecl
all_variables = variables ++ variable (codes "s") char ∷ variable (codes "i") int ∷ taken_variable (codes "c") char ∷ taken_variable (codes "n") int ∷ []

-- h = NewHandle(4); and then these
abbrev run_of : List TypedStatement → List Decision → Run
run_of its schedule = run (program_with types [] (function all_variables (made ∷ its) ∷ [])) no_input schedule 0

abbrev handle : ℕ → ℕ → RightValue
handle line col = get line col char_handle_id 0

-- HGetState(h)
abbrev state : ℕ → ℕ → RightValue
state line col = calls line col char 6 (one (handle line 20))

-- HSetState(h, e);
abbrev sets : ℕ → RightValue → TypedStatement
sets line e = done_by line (calls line 5 void_id 7 (two (handle line 15) e))

-- s = HGetState(h);
abbrev keeps : ℕ → TypedStatement
keeps line = done_by line (put line 7 char 3 (state line 9))

-- HLock(h); s = HGetState(h); HUnlock(h);
abbrev locked_before : List TypedStatement
locked_before = done_by 6 (lock 6 (handle 6 11)) ∷ keeps 6 ∷ done_by 6 (unlock 6 (handle 6 13)) ∷ []

-- .. **h = 65; p = *h; g = NewHandle(4); putchar(*p); return 0;
moves_without_lock : run_of (locked_before ++ written ++ printed) (everything ∷ everything ∷ []) comes_to stopped [] stop.Stale 11 13
moves_without_lock = (grind (arith), refl)

-- the same after HSetState(h, s);
lock_is_put_back : run_of (locked_before ++ sets 6 (get 6 18 char 3) ∷ written ++ printed) (everything ∷ everything ∷ []) comes_to finished (65 ∷ []) (pos 0)
lock_is_put_back = (grind (arith), refl)

-- s = HGetState(h); HLock(h); HSetState(h, s); and the same again: the block was not locked
no_lock_is_put_back : run_of (keeps 6 ∷ done_by 6 (lock 6 (handle 6 11)) ∷ sets 6 (get 6 18 char 3) ∷ written ++ printed) (everything ∷ everything ∷ [])
    comes_to stopped [] stop.Stale 11 13
no_lock_is_put_back = (grind (arith), refl)

-- s = HGetState(h); return s + 1;
sum_of_state : run_of (keeps 7 ∷ return 8 (of_ints 8 14 Add (as_kind 8 14 kind.Int (get 8 12 char 3)) (num 8 16 1)) ∷ []) []
    comes_to stopped [] stop.BadByte 8 14
sum_of_state = (grind (arith), refl)

-- HSetState(h, 1);
number_as_state : run_of (sets 7 (as_kind 7 5 kind.Char (num 7 18 1)) ∷ []) [] comes_to stopped [] stop.BadByte 7 5
number_as_state = (grind (arith), refl)

-- DisposeHandle(h); HSetState(h, 1); the number is tested first
number_before_disposed : run_of (done_by 7 (calls 7 5 void_id 8 (one (handle 7 19))) ∷ sets 8 (as_kind 8 5 kind.Char (num 8 18 1)) ∷ []) []
    comes_to stopped [] stop.BadByte 8 5
number_before_disposed = (grind (arith), refl)

-- return HGetState(h);
value_of_main : run_of (return 7 (as_kind 7 5 kind.Int (state 7 12)) ∷ []) [] comes_to stopped [] stop.BadByte 7 5
value_of_main = (grind (arith), refl)

-- if (HGetState(h)) return 1;
condition_of_state : run_of (tree.if_ (at 7 5) (state 7 9) (return 8 (num 8 14 1)) ∷ []) [] comes_to stopped [] stop.BadByte 7 5
condition_of_state = (grind (arith), refl)

-- putchar(HGetState(h));
character_of_state : run_of (done_by 7 (putchar 7 5 (as_kind 7 5 kind.Int (state 7 13))) ∷ []) [] comes_to stopped [] stop.BadByte 7 5
character_of_state = (grind (arith), refl)

-- i = HGetState(h); HSetState(h, i); return 0; a slot of any type keeps it
kept_in_int : run_of (done_by 7 (put 7 7 int 4 (as_kind 7 7 kind.Int (state 7 9)))
    ∷ sets 8 (as_kind 8 5 kind.Char (get 8 18 int 4)) ∷ return 9 (num 9 12 0) ∷ []) []
    comes_to finished [] (pos 0)
kept_in_int = (grind (arith), refl)

-- &c; c = HGetState(h); HSetState(h, c); return 0; an object of one byte
kept_in_character : run_of (done_by 7 (address 7 5 char_pointer_id (local 7 6 char 5)) ∷ done_by 8 (put 8 7 char 5 (state 8 9))
    ∷ sets 9 (get 9 18 char 5) ∷ return 10 (num 10 12 0) ∷ []) []
    comes_to finished [] (pos 0)
kept_in_character = (grind (arith), refl)

-- &n; n = HGetState(h); an object of four
stored_in_int : run_of (done_by 7 (address 7 5 (id 12) (local 7 6 int 6)) ∷ done_by 8 (put 8 7 int 6 (as_kind 8 7 kind.Int (state 8 9))) ∷ []) []
    comes_to stopped [] stop.BadByte 8 7
stored_in_int = (grind (arith), refl)

-- s = HGetState(h); HPurge(h); HSetState(h, s); **h = 65; p = *h; g = NewHandle(4); the block may not be purged; p = *h; putchar(*p); return 0;
purge_is_put_back : run_of (keeps 6 ∷ done_by 6 (calls 6 5 void_id 5 (one (handle 6 12))) ∷ sets 6 (get 6 18 char 3) ∷ written
    ++ done_by 9 (put 9 7 char_handle_id 1 (new_handle 9 9 4)) ∷ done_by 9 (put 9 7 char_pointer_id 2 (at_pointer 9 9 char_pointer_id (handle 9 10))) ∷ printed)
    (nothing ∷ everything ∷ []) comes_to finished (65 ∷ []) (pos 0)
purge_is_put_back = (grind (arith), refl)

-- char f(char x) { return x; }   HSetState(h, f(HGetState(h))); return 0; a call passes it on
passed_on : run (program_with types []
    (function all_variables (made ∷ sets 7 (invoked 7 18 char 1 (one (state 7 20))) ∷ return 8 (num 8 12 0) ∷ [])
    ∷ function_with (codes "f") char 1 (variable (codes "x") char ∷ []) (body_with [] (return 20 (get 20 12 char 0) ∷ [])) ∷ [])) no_input [] 1
    comes_to finished [] (pos 0)
passed_on = (grind (arith), refl)

-- int f(int x) { &x; return 0; }   return f(HGetState(h)); the parameter is an object of four bytes
state_as_parameter : run (program_with types []
    (function all_variables (made ∷ return 7 (invoked 7 12 int 1 (one (as_kind 7 12 kind.Int (state 7 14)))) ∷ [])
    ∷ function_with (codes "f") int 1 (taken_variable (codes "x") int ∷ [])
    (body_with [] (done_by 20 (address 20 5 (id 12) (local 20 6 int 0)) ∷ return 21 (num 21 12 0) ∷ [])) ∷ [])) no_input [] 1
    comes_to stopped [] stop.BadByte 7 12
state_as_parameter = (grind (arith), refl)

-- switch (HGetState(h)) { }
switch_of_state : run_of (switch 7 (as_kind 7 5 kind.Int (state 7 13)) tree.no_statements ∷ []) [] comes_to stopped [] stop.BadByte 7 5
switch_of_state = (grind (arith), refl)

-- return !HGetState(h);
not_of_state : run_of (return 7 (tree.not (head 7 12 int) (state 7 13)) ∷ []) [] comes_to stopped [] stop.BadByte 7 12
not_of_state = (grind (arith), refl)

-- p = p + HGetState(h); the number is tested before the pointer, which is NIL
step_by_state : run_of (done_by 6 (put 6 7 char_pointer_id 2 (tree.nil (head 6 7 char_pointer_id)))
    ∷ done_by 7 (put 7 7 char_pointer_id 2 (tree.step (head 7 11 char_pointer_id) (forward 1) true (get 7 9 char_pointer_id 2) (state 7 13))) ∷ []) []
    comes_to stopped [] stop.BadByte 7 11
step_by_state = (grind (arith), refl)

-- NewHandle(HGetState(h));
size_of_state : run_of (done_by 7 (calls 7 5 char_handle_id 0 (one (as_kind 7 5 kind.Long (state 7 15)))) ∷ []) [] comes_to stopped [] stop.BadByte 7 5
size_of_state = (grind (arith), refl)
