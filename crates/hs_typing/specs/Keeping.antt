-- The program that units come to is as each program keeps itself: each fact of `Fitting.antt` of hs_tree is so of it.
--     IsSoOfEach          what is so of each expression of a body
--     typed_fits          the law
use Rattle.std.proofs.Common.{◌≡◌, ℕ, zero, suc, Bool, true, false, ◌||◌, List, [], ◌∷◌, length, slice_get, Option, Some, None, Result, Ok, Err, IsTrue, refl, sym, ap, subst, ◌∙◌, if◌then◌else◌, arith}
use Rattle.std.specs.Prelude.{◌==◌, codes}
use Rattle.std.specs.Cmp.Lexicographic.{same_text}
use Rattle.std.proofs.lemmas.Bool.Decides.{nat_tests}
use Rattle.std.specs.List.{AllByRecursion}
use Rattle.hs_base.specs.Tests.{true_false, or_true, both_tests}
use Rattle.hs_base.specs.Options.{some_same}
use Rattle.hs_base.specs.Entries.{all_so}
use Rattle.hs_expressions.specs.Binding.{IsBoundNode}
use Rattle.hs_expressions.specs.Binding.Keeping.{IsBound}
use Rattle.hs_fitting.specs.Bodies.{first_same, rest_same}
use Rattle.hs_fitting.specs.Claims.{no_claims, Endures}
use Rattle.hs_fitting.specs.Exact.{AreJoined}
use Rattle.hs_fitting.specs.Found.{place_found}
use Rattle.hs_fitting.specs.Fulfilling.{stands_at_end, routines_one, claims_fulfilled, claims_signed}
use Rattle.hs_fitting.specs.Functions.{functions_stand}
use Rattle.hs_fitting.specs.Names.{names_of, defined_names, functions_are_named}
use Rattle.hs_fitting.specs.Phrases.{IsRightPhrase}
use Rattle.hs_fitting.specs.ProgramWalks.{Came, Coming, program_comes}
use Rattle.hs_fitting.specs.Splitting.{right_so, expressions_so, block_so}
use Rattle.hs_fitting.specs.Units.{all_stay}
use Rattle.hs_fitting.specs.UnitWalks.{IsRightFunction}
use Rattle.hs_fitting.specs.Works.{Given}
use Rattle.hs_functions.specs.Units.{units_of}
use Rattle.hs_linkage.specs.Definitions.{same_name, all_definitions, is_definition_of}
use Rattle.hs_linkage.specs.Works.{before_units}
use Rattle.hs_linkage.specs.declared.definitions.Definition.{Definition}
use Rattle.hs_linkage.specs.declared.translator.Translator.{Translator}
use Rattle.hs_operands.specs.Laws.{Holds, IsTyped}
use Rattle.hs_operands.specs.Laws.Stays.{is_void-stays, number_kind-stays}
use Rattle.hs_syntax.specs.Trees.{ExternalDeclaration}
use Rattle.hs_table.specs.declared.routine.Routine.{Routine}
use Rattle.hs_tree.specs.Fitting.{InRange, HasOperands, HasResult, NamesField, FitsFunction, FitsRoutine, IsMarked, FitsPhrase, IsMainOf, Fits, block_may_stand}
use Rattle.hs_tree.specs.Inside.{Node, EachRight, EachBlock, EachExpression}
use Rattle.hs_tree.specs.Kinds.{is_number, is_void, number_kind}
use Rattle.hs_tree.specs.Trees.{TypedFunction, TypedProgram}
use Rattle.hs_typer.specs.declared.type_error.TypeError.{TypeError}
use Rattle.hs_types.specs.TypeTables.{TypeTable, IsRight, Grows}
use Rattle.hs_ends.specs.Ends.{passes}
use Rattle.hs_typing.specs.Finishing.{program_at_end, finished_types}
use Rattle.hs_typing.specs.Globals.{all_globals}
use Rattle.hs_typing.specs.Joined.{joined_at_end}
use Rattle.hs_typing.specs.Programs.{main_number, may_be_main, parts_of, assembled, usable_main, with_main, ended, typed}
use Rattle.hs_typing.specs.Prototypes.{routines_count, all_roles, lasting}
use Rattle.hs_typing.specs.declared.program.ProgramError.{ProgramError}

-- ---- facts of each expression, statement and declaration

module _ (program : TypedProgram) (all : List TypedFunction) (are : AllByRecursion (IsRightFunction program) all) where
  -- of what the program names
  bound_each : (holds : TypedFunction → Node → Type 0)
      → ((function : TypedFunction) (node : Node) → IsBoundNode program function node → holds function node)
      → AllByRecursion (λ function. EachBlock (EachExpression (EachRight (holds function))) function.body) all
  bound_each holds so =
      all_so (IsRightFunction program) (λ function. EachBlock (EachExpression (EachRight (holds function))) function.body)
      (λ function is. block_so (IsRightPhrase program function) (EachExpression (EachRight (holds function)))
      (λ it is. expressions_so (IsBound program function) (EachRight (holds function))
      (λ e is. right_so (IsBoundNode program function) (holds function) (λ node is. so function node is) e is) it is.2) function.body is) all are

  -- of its types
  typed_each : (holds : TypedFunction → Node → Type 0) → ((function : TypedFunction) (node : Node) → Holds program function node → holds function node)
      → AllByRecursion (λ function. EachBlock (EachExpression (EachRight (holds function))) function.body) all
  typed_each holds so =
      all_so (IsRightFunction program) (λ function. EachBlock (EachExpression (EachRight (holds function))) function.body)
      (λ function is. block_so (IsRightPhrase program function) (EachExpression (EachRight (holds function)))
      (λ it is. expressions_so (IsTyped program function) (EachRight (holds function))
      (λ e is. right_so (Holds program function) (holds function) (λ node is. so function node is) e is) it is.1) function.body is) all are

  -- of each statement and declaration itself
  phrase_each : AllByRecursion (λ function. EachBlock (FitsPhrase program function) function.body) all
  phrase_each =
      all_so (IsRightFunction program) (λ function. EachBlock (FitsPhrase program function) function.body)
      (λ function is. block_so (IsRightPhrase program function) (FitsPhrase program function) (λ it is. is.0) function.body is) all are

-- ---- `main`

none_there : (a : ℕ) → (a == zero) ≡ true → a ≡ zero
none_there a is = grind (arith, nat_tests, is)

-- the name of the function of a number is that of its definition
same_named : (its : List TypedFunction) (definitions : List Definition) (number : ℕ) (it : TypedFunction) (one : Definition)
    → names_of its ≡ defined_names definitions → slice_get its number ≡ Some it → slice_get definitions number ≡ Some one → it.name ≡ one.name
same_named [] definitions number it one same at there = absurd cc
same_named (f ∷ its) [] number it one same at there = absurd cc
same_named (f ∷ its) (d ∷ definitions) zero it one same at there =
    ap (λ f. f.name) (sym (some_same f it at)) ∙ first_same f.name d.name (names_of its) (defined_names definitions) same
    ∙ ap (λ d. d.name) (some_same d one there)
same_named (f ∷ its) (d ∷ definitions) (suc number) it one same at there =
    same_named its definitions number it one (rest_same f.name d.name (names_of its) (defined_names definitions) same) at there

-- a number or nothing stays so
gives_by : (old new : TypeTable) (id : _) → Grows old new → (a b : Bool) → is_number old id ≡ a → is_void old id ≡ b → (a || b) ≡ true
    → IsTrue (is_number new id || is_void new id)
gives_by old new id grows true b number nothing is = rw (number_stays (number_kind old id) refl number) refl
  where
    number_stays : (o : Option _) → number_kind old id ≡ o → Rattle.std.specs.Prelude.is_some o ≡ true → is_number new id ≡ true
    number_stays None same is = absurd cc
    number_stays (Some kind) same is = ap Rattle.std.specs.Prelude.is_some (number_kind-stays old new grows id kind same)
gives_by old new id grows false true number nothing is = rw (is_void-stays old new grows id nothing) (or_true (is_number new id))
gives_by old new id grows false false number nothing is = absurd cc

-- ---- the program

some_one : {A : Type 0} → (o : Option A) (P : Option A → Bool) → P None ≡ false → P o ≡ true → (it : A) × (o ≡ Some it)
some_one None P none is = absurd (true_false (P None) is none)
some_one (Some it) P none is = (it, refl)

module _ (table : List Routine) (units : List (List ExternalDeclaration)) (all : List TypedFunction) (m : Translator) (number : ℕ)
    (is_main : main_number m.definitions ≡ Some number) (may : may_be_main m.typer.types (slice_get all number) ≡ true)
    (coming : (program : TypedProgram) → IsRight program.types → TypedFunction → Grows m.typer.types program.types
    → Came program units units no_claims (before_units table (all_definitions 0 units)) [] all m)
    (named : names_of all ≡ defined_names (all_definitions 0 units))
    (stand : AllByRecursion (λ it. IsTrue (block_may_stand false false false it.body)) all)
    (sound : IsRight (program_at_end m all number).types) where
  abbrev at_end : TypedProgram
  at_end = program_at_end m all number

  -- `main` is there
  main_there : (it : TypedFunction) × (slice_get all number ≡ Some it)
  main_there = some_one (slice_get all number) (may_be_main m.typer.types) refl may

  grows : Grows m.typer.types at_end.types
  grows = finished_types m all number

  came : Came at_end units units no_claims (before_units table (all_definitions 0 units)) [] all m
  came = coming at_end sound main_there.0 grows

  -- one struct stands for two of one brace
  joined : AreJoined at_end m
  joined = joined_at_end m all number came.claims.base (stands_at_end at_end units came.claims m all came.between grows).traced

  endures : Endures at_end came.claims m
  endures =
      lasting m all number came.claims (stands_at_end at_end units came.claims m all came.between grows).calls
      (claims_signed at_end units came.claims m all came.between grows)
      (routines_one at_end units came.claims m all came.between grows joined)
      (claims_fulfilled at_end units came.claims m all came.between grows joined (length m.typer.table) refl refl (routines_count m all number))

  rights : AllByRecursion (IsRightFunction at_end) all
  rights = came.gives endures tt

  main_fits : IsMainOf at_end.types (slice_get all number)
  main_fits = subst (IsMainOf at_end.types) (sym main_there.1) (name, none_there main_there.0.parameters tests.0, gives)
    where
      tests : ((main_there.0.parameters == zero) ≡ true) × ((is_number m.typer.types main_there.0.result || is_void m.typer.types main_there.0.result) ≡ true)
      tests =
          both_tests (main_there.0.parameters == zero) (is_number m.typer.types main_there.0.result || is_void m.typer.types main_there.0.result)
          (subst (λ o. may_be_main m.typer.types o ≡ true) main_there.1 may)

      gives : IsTrue (is_number at_end.types main_there.0.result || is_void at_end.types main_there.0.result)
      gives =
          gives_by m.typer.types at_end.types main_there.0.result grows (is_number m.typer.types main_there.0.result)
          (is_void m.typer.types main_there.0.result) refl refl tests.1

      one : (it : Definition) × (slice_get m.definitions number ≡ Some it)
      one = Rattle.hs_fitting.specs.Found.place_there (is_definition_of false 0 (codes "main")) m.definitions number is_main

      found : same_name one.0.name (codes "main") ≡ true
      found =
          (both_tests (same_name one.0.name (codes "main")) _
          (place_found (is_definition_of false 0 (codes "main")) m.definitions number one.0 is_main one.1)).0

      name : main_there.0.name ≡ codes "main"
      name =
          same_named all (all_definitions 0 units) number main_there.0 one.0 named main_there.1
          (subst (λ all. slice_get all number ≡ Some one.0) came.between.definitions one.1)
          ∙ same_text one.0.name (codes "main") (sym found)

  program_fits : Fits at_end
  program_fits =
      record {
        ranges = bound_each at_end all rights (InRange at_end) (λ function node is. is.0);
        operands = typed_each at_end all rights (λ function. HasOperands at_end.types) (λ function node is. is.0);
        results = typed_each at_end all rights (HasResult at_end) (λ function node is. is.1);
        fields = typed_each at_end all rights (λ function. NamesField at_end.types) (λ function node is. is.2);
        calls = bound_each at_end all rights (λ function. FitsFunction at_end) (λ function node is. is.1);
        routine_calls = bound_each at_end all rights (λ function. FitsRoutine at_end) (λ function node is. is.2);
        roles = all_roles m all number came.claims (stands_at_end at_end units came.claims m all came.between grows).calls
            (claims_signed at_end units came.claims m all came.between grows);
        taken = bound_each at_end all rights (IsMarked at_end) (λ function node is. is.3);
        statements = phrase_each at_end all rights;
        places = stand;
        functions = all_stay m.typer.types at_end.types all grows came.between.fit;
        globals = all_globals m all number came.claims (stands_at_end at_end units came.claims m all came.between grows).objects endures;
        main = main_fits;
      }

-- ---- of an answer

ok_ok : (a b : TypedProgram) → ◌≡◌ {A = Result TypedProgram ProgramError} (Ok a) (Ok b) → a ≡ b
ok_ok a b same = cc

module _ (table : List Routine) (units : List (List ExternalDeclaration)) (program : TypedProgram) (sound : IsRight program.types) where
  within_fits : (its : TypedProgram) (b : Bool) (why : ProgramError) → (IsRight its.types → Fits its)
      → (if b then Err why else Ok its) ≡ Ok program → Fits program
  within_fits its true why fits same = absurd cc
  within_fits its false why fits same =
      let one = ok_ok its program same in subst Fits one (fits (subst (λ its. IsRight its.types) (sym one) sound))

  number_fits : (all : List TypedFunction) (m : Translator) → units_of [] units (before_units table (all_definitions 0 units)) ≡ Ok (all, m)
      → (number : ℕ) → main_number m.definitions ≡ Some number → may_be_main m.typer.types (slice_get all number) ≡ true
      → with_main all m (Some number) ≡ Ok program → Fits program
  number_fits all m came number found may same =
      within_fits (assembled (parts_of m) all number)
      (passes (assembled (parts_of m) all number).globals (assembled (parts_of m) all number).literals) _
      (λ sound. program_fits table units all m number found may
      (λ program sound anyone grows. (subst (Coming program units units no_claims (before_units table (all_definitions 0 units)) []) came
      (program_comes program sound anyone table units)) grows)
      (subst (Given (λ its. names_of its ≡ defined_names (all_definitions 0 units))) came (functions_are_named table units))
      (subst (Given (AllByRecursion (λ it. IsTrue (block_may_stand false false false it.body)))) came (functions_stand table units)) sound) same

  main_fits_by : (all : List TypedFunction) (m : Translator) → units_of [] units (before_units table (all_definitions 0 units)) ≡ Ok (all, m)
      → (number : ℕ) → main_number m.definitions ≡ Some number → (b : Bool) → may_be_main m.typer.types (slice_get all number) ≡ b
      → with_main all m (if b then Some number else None) ≡ Ok program → Fits program
  main_fits_by all m came number found true may same = number_fits all m came number found may same
  main_fits_by all m came number found false may same = absurd cc

  main_fits_if : (all : List TypedFunction) (m : Translator) → units_of [] units (before_units table (all_definitions 0 units)) ≡ Ok (all, m)
      → (o : Option ℕ) → main_number m.definitions ≡ o → with_main all m (usable_main m.typer.types all o) ≡ Ok program → Fits program
  main_fits_if all m came None found same = absurd cc
  main_fits_if all m came (Some number) found same =
      main_fits_by all m came number found (may_be_main m.typer.types (slice_get all number)) refl same

  ended_fits : (given : Result (List TypedFunction × Translator) TypeError)
      → units_of [] units (before_units table (all_definitions 0 units)) ≡ given → ended given ≡ Ok program → Fits program
  ended_fits (Ok p) came same = main_fits_if p.0 p.1 came (main_number p.1.definitions) refl same
  ended_fits (Err why) came same = absurd cc

-- The program that units come to is as each program keeps itself.
pub typed_fits : (table : List Routine) (units : List (List ExternalDeclaration)) (program : TypedProgram) → IsRight program.types
    → typed table units ≡ Ok program → Fits program
typed_fits table units program sound same =
    ended_fits table units program sound (units_of [] units (before_units table (all_definitions 0 units))) refl same
