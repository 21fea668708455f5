-- What the program takes the address of is marked in it at the end of all units.
--     any_inserted, any_still         a key that is put in is there, and stays there
--     place_taken, field_taken        what is noted is among the places and the fields that the program takes the address of
--     ended_marked                    the object of such a place is marked
--     all_marked                      the law
use Rattle.std.proofs.Common.{◌≡◌, ◌+◌, ℕ, zero, suc, Bool, true, false, List, [], ◌∷◌, ◌++◌, slice_get, IsTrue, is_some, refl, sym, ap, ◌∙◌, if◌then◌else◌, arith}
use Rattle.std.proofs.lemmas.Bool.Decides.{nat_tests}
use Rattle.std.specs.List.{AllByRecursion, list_any}
use Rattle.std.specs.Prelude.{nat_eq, ◌||◌}
use Rattle.indexmap.specs.IndexSet.{insert_key}
use Rattle.hs_base.specs.Tests.{or_true}
use Rattle.hs_fitting.specs.Claims.{IsMarkedIn}
use Rattle.hs_linkage.specs.declared.translator.StaticObject.{StaticObject}
use Rattle.hs_linkage.specs.declared.translator.Translator.{Translator}
use Rattle.hs_tree.specs.Classes.{same_field, is_taken_anywhere}
use Rattle.hs_tree.specs.Fitting.{is_taken_variable, variable_of_global}
use Rattle.hs_tree.specs.Representatives.{field_for}
use Rattle.hs_tree.specs.Trees.{TypedFunction, TypedProgram}
use Rattle.hs_tree.specs.declared.globals.Global.{Global}
use Rattle.hs_tree.specs.declared.head.Variable.TheVariants as variable
use Rattle.hs_tree.specs.declared.representatives.Representatives.{Representatives}
use Rattle.hs_typer.specs.declared.typer.Taken.{Taken}
use Rattle.hs_typer.specs.declared.typer.Taken.TheVariants as taken
use Rattle.hs_types.specs.TypeTables.{TypeTable}
use Rattle.hs_types.specs.declared.row.FieldId.{FieldId}
use Rattle.hs_ends.specs.Ends.{with_taken_global, taken_globals, with_taken_field, taken_fields}
use Rattle.hs_typing.specs.Finishing.{AreEnded, program_at_end, objects_ended}

-- ---- keys that are put in

module _ {A : Type 0} (test : A → Bool) where
  -- the first one meets the test, or another one does
  any_either : (a b c : Bool) → (b ≡ true → c ≡ true) → (a || b) ≡ true → (a || c) ≡ true
  any_either true b c so is = refl
  any_either false b c so is = so is

  -- if one of a list meets the test, one of a longer list does
  any_longer : (xs ys : List A) → list_any test xs ≡ true → list_any test (xs ++ ys) ≡ true
  any_longer [] ys is = absurd cc
  any_longer (x ∷ xs) ys is = any_either (test x) (list_any test xs) (list_any test (xs ++ ys)) (any_longer xs ys) is

  -- if the last one meets the test, one of the list does
  any_last : (xs : List A) (x : A) → test x ≡ true → list_any test (xs ++ x ∷ []) ≡ true
  any_last [] x is = ap (λ here. here || false) is
  any_last (y ∷ xs) x is = ap (λ rest. test y || rest) (any_last xs x is) ∙ or_true (test y)

  -- what is there stays
  any_if : (b : Bool) (xs : List A) (x : A) → list_any test xs ≡ true → list_any test (if b then xs else xs ++ x ∷ []) ≡ true
  any_if true xs x is = is
  any_if false xs x is = any_longer xs (x ∷ []) is

  -- if one more is put in
  pub any_still : (eq : A → A → Bool) (xs : List A) (x : A) → list_any test xs ≡ true → list_any test (insert_key eq xs x) ≡ true
  any_still eq xs x is = any_if (list_any (eq x) xs) xs x is

-- and what is put in is there
inserted_if : {A : Type 0} → (test : A → Bool) (b : Bool) (xs : List A) (x : A) → list_any test xs ≡ b → test x ≡ true
    → list_any test (if b then xs else xs ++ x ∷ []) ≡ true
inserted_if test true xs x there same = there
inserted_if test false xs x there same = any_last test xs x same

-- whether it was there or not
pub any_inserted : {A : Type 0} → (eq : A → A → Bool) (xs : List A) (x : A) → eq x x ≡ true → list_any (eq x) (insert_key eq xs x) ≡ true
any_inserted eq xs x same = inserted_if (eq x) (list_any (eq x) xs) xs x refl same

-- equal numbers, and fields
same_number : (n : ℕ) → nat_eq n n ≡ true
same_number n = grind (arith, nat_tests)

-- the struct and the place
itself_field : (field : FieldId) → same_field field field ≡ true
itself_field field = grind (arith, nat_tests)

-- ---- the places of objects

-- a place stays
place_once : (done : List ℕ) (it : Taken) (place : ℕ) → list_any (nat_eq place) done ≡ true
    → list_any (nat_eq place) (with_taken_global done it) ≡ true
place_once done (taken.Variable (variable.Global other)) place is = any_still (nat_eq place) nat_eq done other is
place_once done (taken.Variable (variable.Local other)) place is = is
place_once done (taken.Field field) place is = is

-- after all that follow
place_stays : (done : List ℕ) (its : List Taken) (place : ℕ) → list_any (nat_eq place) done ≡ true
    → list_any (nat_eq place) (taken_globals done its) ≡ true
place_stays done [] place is = is
place_stays done (it ∷ rest) place is = place_stays (with_taken_global done it) rest place (place_once done it place is)

-- the place of an object is among them
abbrev pub IsPlaceTaken : List ℕ → Taken → Type 0
IsPlaceTaken marks (taken.Variable (variable.Global place)) = list_any (nat_eq place) marks ≡ true
IsPlaceTaken marks (taken.Variable (variable.Local place)) = Unit {0}
IsPlaceTaken marks (taken.Field field) = Unit {0}

-- once it is put in
place_first : (done : List ℕ) (it : Taken) (rest : List Taken) → IsPlaceTaken (taken_globals (with_taken_global done it) rest) it
place_first done (taken.Variable (variable.Global place)) rest =
    place_stays (insert_key nat_eq done place) rest place (any_inserted nat_eq done place (same_number place))
place_first done (taken.Variable (variable.Local place)) rest = tt
place_first done (taken.Field field) rest = tt

-- all of them
pub place_taken : (done : List ℕ) (its : List Taken) → AllByRecursion (IsPlaceTaken (taken_globals done its)) its
place_taken done [] = tt
place_taken done (it ∷ rest) = (place_first done it rest, place_taken (with_taken_global done it) rest)

-- ---- the fields

-- what stands for a field is among them
abbrev pub IsFieldIn : Representatives → List FieldId → Taken → Type 0
IsFieldIn same fields (taken.Variable variable) = Unit {0}
IsFieldIn same fields (taken.Field field) = is_taken_anywhere same fields field ≡ true

module _ (same : Representatives) where
  -- a field stays
  field_once : (done : List FieldId) (it : Taken) (field : FieldId) → list_any (same_field field) done ≡ true
      → list_any (same_field field) (with_taken_field same done it) ≡ true
  field_once done (taken.Variable variable) field is = is
  field_once done (taken.Field other) field is = any_still (same_field field) same_field done (field_for same other) is

  -- after all that follow
  field_stays : (done : List FieldId) (its : List Taken) (field : FieldId) → list_any (same_field field) done ≡ true
      → list_any (same_field field) (taken_fields same done its) ≡ true
  field_stays done [] field is = is
  field_stays done (it ∷ rest) field is = field_stays (with_taken_field same done it) rest field (field_once done it field is)

  -- once it is put in
  field_first : (done : List FieldId) (it : Taken) (rest : List Taken)
      → IsFieldIn same (taken_fields same (with_taken_field same done it) rest) it
  field_first done (taken.Variable variable) rest = tt
  field_first done (taken.Field field) rest =
      field_stays (insert_key same_field done (field_for same field)) rest (field_for same field)
      (any_inserted same_field done (field_for same field) (itself_field (field_for same field)))

  -- all of them
  pub field_taken : (done : List FieldId) (its : List Taken) → AllByRecursion (IsFieldIn same (taken_fields same done its)) its
  field_taken done [] = tt
  field_taken done (it ∷ rest) = (field_first done it rest, field_taken (with_taken_field same done it) rest)

-- ---- the program

-- the object of a place is marked if the place is taken
pub ended_marked : (types : TypeTable) (marks : List ℕ) (from : ℕ) (its : List StaticObject) (ended : List Global) (place : ℕ)
    → AreEnded types marks from its ended → list_any (nat_eq (from + place)) marks ≡ true
    → IsTrue (is_some (variable_of_global (slice_get ended place))) → IsTrue (is_taken_variable (variable_of_global (slice_get ended place)))
ended_marked types marks from [] [] place are is there = absurd cc
ended_marked types marks from [] (one ∷ rest) place are is there = absurd are
ended_marked types marks from (it ∷ its) [] place are is there = absurd are
ended_marked types marks from (it ∷ its) (one ∷ rest) zero are is there =
    let here : from + zero ≡ from = omega arith in
    are.0.mark ∙ ap (λ at. list_any (nat_eq at) marks) (sym here) ∙ is
ended_marked types marks from (it ∷ its) (one ∷ rest) (suc place) are is there =
    let next : suc from + place ≡ from + suc place = omega arith in
    ended_marked types marks (suc from) its rest place are.1 (ap (λ at. list_any (nat_eq at) marks) next ∙ is) there

module _ (m : Translator) (functions : List TypedFunction) (main : ℕ) where
  -- which types are one
  abbrev same_at_end : Representatives
  same_at_end = (program_at_end m functions main).same

  -- one address
  one_marked : (it : Taken) → IsPlaceTaken (taken_globals [] m.typer.taken) it → IsFieldIn same_at_end (taken_fields same_at_end [] m.typer.taken) it
      → IsMarkedIn (program_at_end m functions main) it
  one_marked (taken.Variable (variable.Global place)) is field = λ there.
      let program : TypedProgram = program_at_end m functions main in
      let here : 0 + place ≡ place = omega arith in
      ended_marked program.types (taken_globals [] m.typer.taken) 0 m.objects program.globals place (objects_ended m functions main)
      (ap (λ at. list_any (nat_eq at) (taken_globals [] m.typer.taken)) here ∙ is) there
  one_marked (taken.Variable (variable.Local place)) is field = tt
  one_marked (taken.Field its) is field = field

  -- each of them
  each_marked : (its : List Taken) → AllByRecursion (IsPlaceTaken (taken_globals [] m.typer.taken)) its
      → AllByRecursion (IsFieldIn same_at_end (taken_fields same_at_end [] m.typer.taken)) its
      → AllByRecursion (IsMarkedIn (program_at_end m functions main)) its
  each_marked [] places fields = tt
  each_marked (it ∷ rest) places fields = (one_marked it places.0 fields.0, each_marked rest places.1 fields.1)

  -- What the address is taken of is marked.
  pub all_marked : AllByRecursion (IsMarkedIn (program_at_end m functions main)) m.typer.taken
  all_marked = each_marked m.typer.taken (place_taken [] m.typer.taken) (field_taken same_at_end [] m.typer.taken)
