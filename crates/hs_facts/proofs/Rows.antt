-- Rows of the table of changes, each with its opposite, in a function of this kind:
--     Handle g;
--     void f(Handle x, Handle y, char b) { .. }
-- An operation is worked out on the facts that hold before it, which are a list here, with the stack as deep as the row needs it.
use Rattle.std.proofs.Common.{◌≡◌, ◌<◌, ◌⊎◌, ℕ, true, false, arith, sym, ◌∙◌, List, [], ◌∷◌, Some, inl, inr, refl}
use Rattle.std.specs.Prelude.{codes}
use Rattle.hs_base.specs.declared.pos.Pos.{Pos}
use Rattle.hs_code.specs.Stacks.{Scope}
use Rattle.hs_code.specs.declared.function_code.FunctionCode.{FunctionCode}
use Rattle.hs_code.specs.declared.function_code.Placed.{Placed}
use Rattle.hs_code.specs.declared.op.Access.TheVariants as access
use Rattle.hs_code.specs.declared.op.Op.{Op}
use Rattle.hs_code.specs.declared.op.Op.TheVariants as op
use Rattle.hs_facts.specs.Changes.{Gives, Impact}
use Rattle.hs_facts.specs.Effects.{WholeCode, Leads, itself, through, Assigns, HasEffect, unlocks}
use Rattle.hs_facts.specs.MustFacts.{MustFact, on_stack, in_slot, With, Saved, Kept, Locked, Live, Distinct, New}
use Rattle.hs_facts.specs.Names.{names_of, taken}
use Rattle.hs_table.specs.declared.role.Role.{Role}
use Rattle.hs_table.specs.declared.role.Role.TheVariants as role
use Rattle.hs_tokens.specs.declared.token.Origin.TheVariants as origin
use Rattle.hs_tree.specs.declared.function.BoundRoutine.{BoundRoutine}
use Rattle.hs_tree.specs.declared.head.Variable.{Variable}
use Rattle.hs_tree.specs.declared.head.Variable.TheVariants as name
use Rattle.hs_tree.specs.declared.head.VariableDecl.{VariableDecl}
use Rattle.hs_types.specs.Rows.{integer_id, char_handle_id}
use Rattle.hs_types.specs.TypeTables.{basic_types}
use Rattle.hs_types.specs.declared.integer.Integer.TheVariants as kind
use Rattle.hs_types.specs.declared.row.TypeId.{TypeId}

-- ---- the function

abbrev char : TypeId
char = integer_id kind.Char

abbrev spot : Pos
spot = record { file = 0; line = 1; col = 1 }

abbrev variable : TypeId → VariableDecl
variable id = record { name = codes "it"; at = record { pos = spot; origin = origin.Plain }; type_id = id; taken = false }

-- a routine that takes those and gives that
abbrev routine : Role → List TypeId → TypeId → BoundRoutine
routine its parameters result =
    record {
      routine = record { name = codes "It"; role = its; moves = false; purges = false; fills = 0; size = 0 };
      prototype = Some (record { result = result; parameters = parameters });
    }

abbrev scope : Scope
scope =
    record {
      types = basic_types;
      globals = record { variable = variable char_handle_id; size = 4; parts = [] } ∷ [];
      variables = variable char_handle_id ∷ variable char_handle_id ∷ variable char ∷ [];
      result = char;
      functions = record { parameters = []; result = char } ∷ record { parameters = char_handle_id ∷ []; result = char } ∷ [];
      routines =
          routine role.Lock (char_handle_id ∷ []) char
          ∷ routine role.Unlock (char_handle_id ∷ []) char
          ∷ routine role.GetState (char_handle_id ∷ []) char
          ∷ routine role.SetState (char_handle_id ∷ char ∷ []) char
          ∷ routine role.DisposeHandle (char_handle_id ∷ []) char
          ∷ routine role.NewHandle (char ∷ []) char_handle_id
          ∷ routine role.Plain [] char_handle_id
          ∷ routine role.Plain [] char
          ∷ [];
    }

abbrev lock : Op
lock = op.Routine 0

abbrev unlock : Op
unlock = op.Routine 1

abbrev get_state : Op
get_state = op.Routine 2

abbrev set_state : Op
set_state = op.Routine 3

abbrev dispose : Op
dispose = op.Routine 4

abbrev x : Variable
x = name.Local 0

abbrev y : Variable
y = name.Local 1

abbrev b : Variable
b = name.Local 2

abbrev g : Variable
g = name.Global 0

abbrev placed : Op → Placed
placed its = record { op = its; at = spot; piece = 0; places = 0 }

-- it mentions g
abbrev code : FunctionCode
code = record { ops = placed (op.Get g) ∷ []; cases = [] }

-- the parameters that are handles, and the global that is mentioned
the_names : names_of scope code ≡ x ∷ y ∷ g ∷ []
the_names = refl

-- a global that is not mentioned is no name
other_names : names_of scope (record { ops = []; cases = [] }) ≡ x ∷ y ∷ []
other_names = refl

how_many : taken scope set_state ≡ 2
how_many = refl

-- ---- what holds before an operation

abbrev Among : List MustFact → MustFact → Type 0
Among [] fact = ⊥
Among (it ∷ rest) fact = (fact ≡ it) ⊎ Among rest fact

-- function 0 assigns g, function 1 unlocks and disposes
abbrev impact : Impact
impact = record { assigns = λ f h. (f ≡ 0) × (h ≡ 0); unlocks = λ f. f ≡ 1; disposes = λ f. f ≡ 1 }

abbrev After : List MustFact → Op → ℕ → MustFact → Type 0
After facts its depth fact = Gives scope code impact (Among facts) its depth fact

-- ---- Get

a_name_is_on_top : After [] (op.Get x) 0 (With 0 x)
a_name_is_on_top = inr (refl, refl)

not_another_one : After [] (op.Get x) 0 (With 0 y) → ⊥
not_another_one (inl h) = absurd h.1
not_another_one (inr h) = absurd (let same : y ≡ x = h.1 in cc)

a_byte_is_read : After (Saved (in_slot b) x ∷ Kept (in_slot b) y ∷ []) (op.Get b) 1 (Saved (on_stack 1) x)
a_byte_is_read = inr (refl, inl refl)

what_it_keeps_too : After (Saved (in_slot b) x ∷ Kept (in_slot b) y ∷ []) (op.Get b) 1 (Kept (on_stack 1) y)
what_it_keeps_too = inr (refl, inr (inl refl))

-- ---- Set of a name

it_has_the_top : After [] (op.Set x) 1 (With 0 x)
it_has_the_top = inr (refl, refl)

-- x = y: what is known of y is known of x
a_lock_comes : After (With 0 y ∷ Locked y ∷ []) (op.Set x) 1 (Locked x)
a_lock_comes = inr (refl, (y, inl refl, inr (inl refl)))

a_kept_lock_comes : After (With 0 y ∷ Kept (in_slot b) y ∷ []) (op.Set x) 1 (Kept (in_slot b) x)
a_kept_lock_comes = inr (refl, refl, (y, inl refl, inr (inl refl)))

apart_as_y_was : After (With 0 y ∷ Distinct y g ∷ []) (op.Set x) 1 (Distinct x g)
apart_as_y_was = inr (inl (refl, inr (y, inl refl, inr (inl refl))))

-- what was known of x itself ends
a_lock_ends : After (Locked x ∷ []) (op.Set x) 1 (Locked x) → ⊥
a_lock_ends (inl h) = absurd (let free : false ≡ true = h.0.1 in cc)
a_lock_ends (inr h) = by_name h.1.1
  where
    by_name : Among (Locked x ∷ []) (With 0 h.1.0) → ⊥
    by_name (inl same) = absurd cc
    by_name (inr none) = absurd none

apart_ends : After (Distinct x y ∷ []) (op.Set x) 1 (Distinct x y) → ⊥
apart_ends (inl h) = absurd (let free : false ≡ true = h.0.1 in cc)
apart_ends (inr (inl h)) = by_top h.1
  where
    by_top : Among (Distinct x y ∷ []) (New 0) ⊎ ((z : Variable) × Among (Distinct x y ∷ []) (With 0 z) × Among (Distinct x y ∷ []) (Distinct z y)) → ⊥
    by_top (inl (inl same)) = absurd cc
    by_top (inl (inr none)) = absurd none
    by_top (inr (z, inr none, rest)) = absurd none
    by_top (inr (z, inl same, rest)) = absurd cc
apart_ends (inr (inr h)) = absurd (let same : y ≡ x = h.0 in cc)

-- x = NewHandle(4)
a_new_handle_is_live : After (New 0 ∷ []) (op.Set x) 1 (Live x)
a_new_handle_is_live = inr (refl, inl (inl refl))

and_apart_from_all : After (New 0 ∷ []) (op.Set x) 1 (Distinct y x)
and_apart_from_all = inr (inr (refl, inl (inl refl)))

no_longer_new : After (New 0 ∷ []) (op.Set x) 1 (New 0) → ⊥
no_longer_new (inl h) = absurd (let other : false ≡ true = h.0.2 in cc)
no_longer_new (inr none) = absurd none

-- ---- Set of another slot

a_byte_is_kept : After (Saved (on_stack 0) x ∷ []) (op.Set b) 1 (Saved (in_slot b) x)
a_byte_is_kept = inr (refl, inl refl)

the_byte_before_is_lost : After (Saved (in_slot b) x ∷ []) (op.Set b) 1 (Saved (in_slot b) x) → ⊥
the_byte_before_is_lost (inl h) = absurd (let free : false ≡ true = h.0.1 in cc)
the_byte_before_is_lost (inr (same, inl other)) = absurd cc
the_byte_before_is_lost (inr (same, inr none)) = absurd none

-- ---- Load, Dup, Tuck, Conv

a_loaded_handle_is_live : After (With 0 x ∷ []) (op.Load (access.Pointer 0)) 1 (Live x)
a_loaded_handle_is_live = inr (inl refl)

its_place_has_another_value : After (With 0 x ∷ []) (op.Load (access.Pointer 0)) 1 (With 0 x) → ⊥
its_place_has_another_value (inl h) = absurd (let none : 0 < 0 = h.0 in omega arith)
its_place_has_another_value (inr none) = absurd none

a_copy_has_the_name : After (With 0 x ∷ []) op.Dup 1 (With 1 x)
a_copy_has_the_name = inr (refl, inl refl)

a_copy_is_not_new : After (New 0 ∷ []) op.Dup 1 (New 0) → ⊥
a_copy_is_not_new (inl h) = absurd (let other : false ≡ true = h.0.1 in cc)
a_copy_is_not_new (inr none) = absurd none

tucked_below : After (With 1 x ∷ With 0 y ∷ []) op.Tuck 2 (With 0 x)
tucked_below = inr (inl (refl, inl refl))

moved_up : After (With 1 x ∷ With 0 y ∷ []) op.Tuck 2 (With 1 y)
moved_up = inr (inr (inl (refl, inr (inl refl))))

a_byte_stays_one : After (Saved (on_stack 0) x ∷ []) (op.Conv kind.Char) 1 (Saved (on_stack 0) x)
a_byte_stays_one = inr (refl, inl refl)

-- ---- routines

a_lock_is_known : After (With 0 x ∷ []) lock 1 (Locked x)
a_lock_is_known = inr (inr (inl (inl refl)))

a_used_handle_is_live : After (With 0 x ∷ []) lock 1 (Live x)
a_used_handle_is_live = inr (inl (inl refl))

-- the byte of y is put back on y, so x stays locked
kept_by_another_byte : After (With 0 x ∷ Saved (in_slot b) y ∷ Distinct x y ∷ []) lock 1 (Kept (in_slot b) x)
kept_by_another_byte = inr (inr (inl (inl refl, tt, (y, inr (inl refl), (x, inl refl, inr (inr (inl refl)))))))

-- its own byte was read before the lock
not_by_its_own : After (With 0 x ∷ Saved (in_slot b) x ∷ []) lock 1 (Kept (in_slot b) x) → ⊥
not_by_its_own (inl (stays, inl same)) = absurd cc
not_by_its_own (inl (stays, inr (inl same))) = absurd cc
not_by_its_own (inl (stays, inr (inr none))) = absurd none
not_by_its_own (inr (inl none)) = absurd none
not_by_its_own (inr (inr (inr none))) = absurd none
not_by_its_own (inr (inr (inl h))) = by_name h.2.2
  where
    by_name : (z : Variable) × Among (With 0 x ∷ Saved (in_slot b) x ∷ []) (With 0 z) × Among (With 0 x ∷ Saved (in_slot b) x ∷ []) (Distinct z h.2.0) → ⊥
    by_name (z, named, inl same) = absurd cc
    by_name (z, named, inr (inl same)) = absurd cc
    by_name (z, named, inr (inr none)) = absurd none

a_lock_that_is_apart_stays : After (With 0 x ∷ Locked y ∷ Distinct x y ∷ []) unlock 1 (Locked y)
a_lock_that_is_apart_stays = inl ((tt, (x, inl refl, inr (inr (inl refl)))), inr (inl refl))

any_other_ends : After (With 0 x ∷ Locked y ∷ []) unlock 1 (Locked y) → ⊥
any_other_ends (inl ((under, (z, named, inl same)), is)) = absurd cc
any_other_ends (inl ((under, (z, named, inr (inl same))), is)) = absurd cc
any_other_ends (inl ((under, (z, named, inr (inr none))), is)) = absurd none
any_other_ends (inr (inl none)) = absurd none
any_other_ends (inr (inr (inl none))) = absurd none
any_other_ends (inr (inr (inr none))) = absurd none

-- the state of x is put back, which kept the lock of y
a_restore_keeps : After (With 0 x ∷ Saved (on_stack 1) x ∷ Kept (on_stack 1) y ∷ Locked y ∷ []) set_state 2 (Locked y)
a_restore_keeps = inl ((tt, inr ((x, inl refl, inr (inl refl)), inr (inr (inl refl)))), inr (inr (inr (inl refl))))

abbrev before : List MustFact
before = With 0 x ∷ Saved (on_stack 1) y ∷ Kept (on_stack 1) y ∷ Locked y ∷ []

-- the byte of another handle is no restore
no_restore_ends : After before set_state 2 (Locked y) → ⊥
no_restore_ends (inl ((under, stays), is)) = by_case stays
  where
    named_x : (z : Variable) → Among before (With 0 z) → z ≡ x
    named_x z (inl same) = cc
    named_x z (inr (inl same)) = absurd cc
    named_x z (inr (inr (inl same))) = absurd cc
    named_x z (inr (inr (inr (inl same)))) = absurd cc
    named_x z (inr (inr (inr (inr none)))) = absurd none

    saved_y : (z : Variable) → Among before (Saved (on_stack 1) z) → z ≡ y
    saved_y z (inl same) = absurd cc
    saved_y z (inr (inl same)) = cc
    saved_y z (inr (inr (inl same))) = absurd cc
    saved_y z (inr (inr (inr (inl same)))) = absurd cc
    saved_y z (inr (inr (inr (inr none)))) = absurd none

    not_apart : (z : Variable) → Among before (Distinct z y) → ⊥
    not_apart z (inl same) = absurd cc
    not_apart z (inr (inl same)) = absurd cc
    not_apart z (inr (inr (inl same))) = absurd cc
    not_apart z (inr (inr (inr (inl same)))) = absurd cc
    not_apart z (inr (inr (inr (inr none)))) = none

    different : x ≡ y → ⊥
    different same = absurd cc

    by_case : ((z : Variable) × Among before (With 0 z) × Among before (Distinct z y))
        ⊎ (((z : Variable) × Among before (With 0 z) × Among before (Saved (on_stack 1) z)) × Among before (Kept (on_stack 1) y)) → ⊥
    by_case (inl h) = not_apart h.0 h.2
    by_case (inr h) = different (sym (named_x h.0.0 h.0.1) ∙ saved_y h.0.0 h.0.2)
no_restore_ends (inr (inl none)) = absurd none
no_restore_ends (inr (inr (inl none))) = absurd none
no_restore_ends (inr (inr (inr none))) = absurd none

-- y may be the handle that is disposed
live_ends : After (With 0 x ∷ Live y ∷ []) dispose 1 (Live y) → ⊥
live_ends (inl ((under, (z, named, inl same)), is)) = absurd cc
live_ends (inl ((under, (z, named, inr (inl same))), is)) = absurd cc
live_ends (inl ((under, (z, named, inr (inr none))), is)) = absurd none
live_ends (inr (inl none)) = absurd none
live_ends (inr (inr (inl none))) = absurd none
live_ends (inr (inr (inr none))) = absurd none

live_stays_apart : After (With 0 x ∷ Live y ∷ Distinct x y ∷ []) dispose 1 (Live y)
live_stays_apart = inl ((tt, (x, inl refl, inr (inr (inl refl)))), inr (inl refl))

a_disposed_handle_is_not_live : After (With 0 x ∷ []) dispose 1 (Live x) → ⊥
a_disposed_handle_is_not_live (inl (stays, inl same)) = absurd cc
a_disposed_handle_is_not_live (inl (stays, inr none)) = absurd none
a_disposed_handle_is_not_live (inr (inl none)) = absurd none
a_disposed_handle_is_not_live (inr (inr (inl none))) = absurd none
a_disposed_handle_is_not_live (inr (inr (inr none))) = absurd none

its_byte : After (With 0 x ∷ Locked y ∷ []) get_state 1 (Saved (on_stack 0) x)
its_byte = inr (inr (inl (refl, inl refl)))

keeps_what_is_locked : After (With 0 x ∷ Locked y ∷ []) get_state 1 (Kept (on_stack 0) y)
keeps_what_is_locked = inr (inr (inl (refl, inr (inl refl))))

a_handle_is_made : After [] (op.Routine 5) 1 (New 0)
a_handle_is_made = inr (inr (inr refl))

by_its_type : After [] (op.Routine 6) 1 (New 1)
by_its_type = inr (inr (inr refl))

none_is_made : After [] (op.Routine 7) 1 (New 1) → ⊥
none_is_made (inl h) = h.1
none_is_made (inr (inl none)) = absurd none
none_is_made (inr (inr (inl none))) = absurd none
none_is_made (inr (inr (inr none))) = absurd none

-- ---- calls

-- f of g assigns it
facts_of_g_end : After (Locked g ∷ []) (op.Call 0) 0 (Locked g) → ⊥
facts_of_g_end (inl h) = absurd (let free : false ≡ true = h.0.2 0 (refl, refl) in cc)
facts_of_g_end (inr none) = absurd none

others_stay : After (Locked x ∷ []) (op.Call 0) 0 (Locked x)
others_stay = inl ((tt, (λ is. absurd (let same : 0 ≡ 1 = is in omega arith)), λ h assigned. refl), inl refl)

all_locks_end : After (With 0 y ∷ Locked x ∷ Distinct x y ∷ []) (op.Call 1) 1 (Locked x) → ⊥
all_locks_end (inl h) = h.0.1 refl
all_locks_end (inr none) = absurd none

all_kept_end : After (Kept (in_slot b) x ∷ []) (op.Call 1) 1 (Kept (in_slot b) x) → ⊥
all_kept_end (inl h) = h.0.1 refl
all_kept_end (inr none) = absurd none

none_is_live : After (Live x ∷ []) (op.Call 1) 1 (Live x) → ⊥
none_is_live (inl h) = h.0.1 refl
none_is_live (inr none) = absurd none

-- ---- effects, in a program whose first function calls one that calls one that unlocks and assigns a global

-- an operation with so many values before it
abbrev with_places : ℕ → Op → Placed
with_places places its = record { op = its; at = spot; piece = 0; places = places }

abbrev one : Op → FunctionCode
one its = record { ops = with_places 0 its ∷ []; cases = [] }

abbrev whole : WholeCode
whole = record {
  program = record {
    types = basic_types;
    globals = [];
    literals = [];
    functions = [];
    routines = scope.routines;
    same = record { structs = []; types = [] };
    taken = [];
    main = 0;
  };
  classes = [];
  functions = one (op.Call 1) ∷ one (op.Call 2) ∷ record { ops = with_places 1 unlock ∷ with_places 1 (op.Set (name.Global 0)) ∷ []; cases = [] } ∷ [];
}

chain : Leads whole 0 2
chain =
    through 0 1 2 (record { at = 0; its = with_places 0 (op.Call 1); there = refl; calls = refl })
    (through 1 2 2 (record { at = 0; its = with_places 0 (op.Call 2); there = refl; calls = refl }) (itself 2))

it_unlocks : HasEffect whole 0 unlocks
it_unlocks = record { last = 2; leads = chain; at = 0; its = with_places 1 unlock; there = refl; so = inl refl }

it_assigns : Assigns whole 0 0
it_assigns = record { last = 2; leads = chain; at = 1; its = with_places 1 (op.Set (name.Global 0)); there = refl; so = refl }
