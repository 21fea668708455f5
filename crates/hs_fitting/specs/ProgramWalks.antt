-- All units of a program, in the program that they come to: every function is as the program keeps it (X3.159-1989 3.7).
--     Between program units before its m done      between two units
--     Came program units before its m done all n   from there to a later such place
--     units_right                                  all units
use Rattle.std.proofs.Common.{◌≡◌, ◌≤◌, ◌<◌, inr, ℕ, suc, ◌+◌, Bool, true, false, List, [], ◌∷◌, ◌++◌, length, slice_get, Option, Some, None, Result, Ok, Err, refl, sym, ap, subst, ◌∙◌, arith}
use Rattle.std.specs.Prelude.{◌==◌}
use Rattle.std.proofs.lemmas.List.{append_assoc, append-nil, length-append}
use Rattle.std.proofs.lemmas.Bool.Decides.{nat_tests}
use Rattle.std.proofs.lemmas.Option.{slice_get_within}
use Rattle.std.specs.List.{AllByRecursion}
use Rattle.hs_base.specs.Tests.{true_false}
use Rattle.hs_base.specs.Entries.{all_so, all_by_both}
use Rattle.hs_expressions.specs.Binding.{IsNotedCall}
use Rattle.hs_expressions.specs.Laws.{IsScoped}
use Rattle.hs_expressions.specs.Laws.Reached.{prefix_then}
use Rattle.hs_fitting.specs.Answers.{none_some}
use Rattle.hs_fitting.specs.BlockWalks.{block_declared_walks}
use Rattle.hs_expressions.specs.Laws.Traced.{IsTracedAt, TracesTo}
use Rattle.hs_fitting.specs.Accounts.{accounted_traced, accounted_noted}
use Rattle.hs_fitting.specs.Closing.{AreAllClosed, pairs_ended}
use Rattle.hs_fitting.specs.Entities.{IsAmong, all_by_among}
use Rattle.hs_fitting.specs.Links.{refers_later}
use Rattle.hs_fitting.specs.Claims.{Claims, no_claims, IsAccounted, IsFulfilled, RefersTo, IsMarkedIn, ObjectsStay, IsBoundAs, IsExternal, IsSigned, IsRoutineDeclared, IsRegisteredAs, IsMet, IsMetAs, Endures, IsObjectRight, Stands}
use Rattle.hs_fitting.specs.Done.{AreDone, none_done}
use Rattle.hs_fitting.specs.FileLocals.{file_declared_locals}
use Rattle.hs_fitting.specs.FileWalks.{file_declared_walks}
use Rattle.hs_fitting.specs.Lasting.{all_of_prefix}
use Rattle.hs_fitting.specs.Names.{names_of, defined_names, AreNamed, unit_named}
use Rattle.hs_fitting.specs.Passes.{AreWhole, Passes}
use Rattle.hs_fitting.specs.Positions.{no_links, unit_internal, unit_counts}
use Rattle.hs_fitting.specs.Rightness.{right_later}
use Rattle.hs_fitting.specs.UnitEnds.{signed_ended, unit_before}
use Rattle.hs_fitting.specs.Units.{AllFit, unit_fits, units_fit}
use Rattle.hs_fitting.specs.UnitWalks.{IsRightFunction, GoneRight, GoingRight, externals_right}
use Rattle.hs_fitting.specs.Works.{Given}
use Rattle.hs_functions.specs.Units.{externals, unit_ended, unit_of, units_of}
use Rattle.hs_linkage.specs.Definitions.{is_internal, definitions_in, all_definitions}
use Rattle.hs_linkage.specs.Externals.{unfit}
use Rattle.hs_fitting.specs.Lateness.{all_fit}
use Rattle.hs_linkage.specs.Linkage.{unless_late, first_late}
use Rattle.hs_linkage.specs.Works.{before_units, work_with, ◌>>◌, pass}
use Rattle.hs_linkage.specs.declared.definitions.Definition.{Definition}
use Rattle.hs_linkage.specs.declared.late.Late.{Late}
use Rattle.hs_linkage.specs.declared.translator.Translator.{Translator}
use Rattle.hs_syntax.specs.Trees.{ExternalDeclaration}
use Rattle.hs_table.specs.declared.routine.Routine.{Routine}
use Rattle.hs_tree.specs.Fitting.{FitsDefinition}
use Rattle.hs_tree.specs.Trees.{TypedFunction, TypedProgram}
use Rattle.hs_typer.specs.declared.type_error.TypeError.{TypeError}
use Rattle.hs_typer.specs.declared.typer.Entity.{Entity}
use Rattle.hs_typer.specs.declared.typer.Entity.TheVariants as entity
use Rattle.hs_types.specs.Growing.{grows_then}
use Rattle.hs_types.specs.TypeTables.{IsRight, Grows}
use Rattle.hs_types.specs.declared.row.TypeId.{TypeId}

-- ---- between two units

-- Behind the units `before`, and in front of the next one.
pub record Between (program : TypedProgram) (units before : List (List ExternalDeclaration)) (its : Claims) (m : Translator)
    (done : List TypedFunction) : Type 0 where
  pub scoped : IsScoped m.typer
  pub counts : m.typer.counts ≡ true
  pub outside : m.locals ≡ []
  pub fit : AllByRecursion (FitsDefinition m.typer.types) done
  pub definitions : m.definitions ≡ all_definitions 0 units
  pub unit : m.typer.origins.unit ≡ length before
  pub count : length done ≡ length (all_definitions 0 before)
  pub stands : (here : List ℕ → Bool) → ((number : ℕ) (it : Definition) → slice_get m.definitions number ≡ Some it
      → (it.unit == m.typer.origins.unit) ≡ true → it.internal ≡ here it.name) → Stands program here its [] m
  pub functions : AreDone program its m done
  pub past : (number : ℕ) (id : TypeId) (it : Definition) → its.functions number ≡ Some id → slice_get m.definitions number ≡ Some it
      → it.internal ≡ true → it.unit < length before
  pub signed : AllByRecursion (IsSigned program.types) m.routines
  pub externals : AreAllClosed program.types its.base m.typer m.externals
  pub routines : AreAllClosed program.types its.base m.typer m.routines

-- from one such place to a later one
pub record Came (program : TypedProgram) (units before : List (List ExternalDeclaration)) (its : Claims) (m : Translator) (done all : List TypedFunction)
    (n : Translator) : Type 0 where
  pub claims : Claims
  pub claimed : (number : ℕ) (id : TypeId) → its.functions number ≡ Some id → claims.functions number ≡ Some id
  pub routines : (number : ℕ) (id : TypeId) → its.routines number ≡ Some id → claims.routines number ≡ Some id
  pub entities : (it : Entity) → IsAmong it its.entities → IsAmong it claims.entities
  pub objects : ObjectsStay program.types m.objects n.objects
  pub between : Between program units before claims n all
  pub gives : Endures program claims n → AllByRecursion (IsRightFunction program) done → AllByRecursion (IsRightFunction program) all

-- of an answer
abbrev pub Coming : TypedProgram → List (List ExternalDeclaration) → List (List ExternalDeclaration) → Claims → Translator → List TypedFunction
    → Result (List TypedFunction × Translator) TypeError → Type 0
Coming program units before its m done (Ok p) = Grows p.1.typer.types program.types → Came program units before its m done p.0 p.1
Coming program units before its m done (Err why) = Unit {0}

-- ---- the end of a unit

-- where the next one begins
abbrev ended_at : Translator → Translator
ended_at m =
    record m {
      typer = record m.typer {
        names = record { declarations = []; level = 0 };
        tags = record { declarations = []; level = 0 };
        origins = record m.typer.origins { unit = suc m.typer.origins.unit; times = [] };
        begun = [];
        tentatives = [];
      };
      links = record { declarations = []; level = 0 };
      internals = [];
    }

-- what is claimed there, where all structs are of earlier units
abbrev pub ended_claims : Claims → Translator → Claims
ended_claims its m = record its { base = length m.typer.types.structs }

-- what is known of the program there
endures_ended : (program : TypedProgram) (its : Claims) (m : Translator) → Endures program (ended_claims its m) (ended_at m) → Endures program its m
endures_ended program its m endures =
    record {
      types = endures.types;
      literals = endures.literals;
      calls = endures.calls;
      taken = endures.taken;
      claims = record { entities = endures.claims.entities; routines = endures.claims.routines };
      objects = endures.objects;
    }

-- a name with external linkage is bound as in every unit
bound_ended : (m : Translator) (name : List ℕ) (it : Entity) → IsBoundAs false m.typer.origins.unit m.definitions m.typer.table name it
    → IsBoundAs false (suc m.typer.origins.unit) m.definitions m.typer.table name it
bound_ended m name (entity.Constant bits) is = tt
bound_ended m name (entity.Variable variable id) is = tt
bound_ended m name (entity.Function id to) is = is
bound_ended m name (entity.Typedef id) is = is

no_more : (a : ℕ) → a ≤ a
no_more a = omega arith

none_past : (a b c : ℕ) → a < b → b ≡ c → c ≤ a → ⊥
none_past a b c less same from = omega (arith, less, same, from)

not_below : (a b : ℕ) → (a == suc b) ≡ true → a < suc b → ⊥
not_below a b is less = grind (arith, nat_tests, is, less)

module _ (program : TypedProgram) (here : List ℕ → Bool) (its : Claims) (m : Translator) (stands : Stands program here its [] m)
    (past : (number : ℕ) (id : TypeId) (it : Definition) → its.functions number ≡ Some id → slice_get m.definitions number ≡ Some it
    → it.internal ≡ true → it.unit < suc m.typer.origins.unit)
    (signed : AllByRecursion (IsSigned program.types) m.routines) (grows : Grows m.typer.types program.types)
    (external : unfit m.typer.types m.typer.origins m.externals m.externals ≡ None)
    (checked : unfit m.typer.types m.typer.origins m.routines m.routines ≡ None) where
  -- what names refer to
  refers_ended : (it : Entity) → RefersTo program.types its m.objects it → RefersTo program.types (ended_claims its m) m.objects it
  refers_ended =
      refers_later program.types its (ended_claims its m) m.objects m.objects
      (record { functions = λ number id is. is; routines = λ number id is. is; entities = λ it is. is }) (λ place category at. at)

  -- origins of structs
  origins_ended : IsTracedAt (length m.typer.types.structs) (ended_at m).typer
  origins_ended =
      record {
        counted = stands.traced.counted;
        there = no_more (length m.typer.types.structs);
        begun = stands.traced.begun;
        units = λ number it at from. absurd (none_past number (length m.typer.origins.structs) (length m.typer.types.structs)
            (slice_get_within m.typer.origins.structs number it at) stands.traced.counted from);
        owned = tt;
      }

  braces_ended : TracesTo its.base m.typer (ended_at m).typer
  braces_ended = record { braces = λ number brace has. has; closed = λ number less. refl }

  -- types of functions
  accounted_ended : (it : Entity) → IsAccounted program.types its m it → IsAccounted program.types (ended_claims its m) (ended_at m) it
  accounted_ended it is =
      accounted_noted program.types its (ended_claims its m) (record m { typer = (ended_at m).typer }) (ended_at m) refl refl
      (λ number id is. is) (λ it is. is) (λ it is. is) it
      (accounted_traced program.types its m (ended_at m).typer braces_ended it is)

  -- what all declarations agree in
  pub externals_ended : AreAllClosed program.types (length m.typer.types.structs) (ended_at m).typer m.externals
  externals_ended = pairs_ended program.types its.base m.typer (ended_at m).typer grows stands.traced refl refl m.externals external stands.closed.0

  pub routines_ended : AreAllClosed program.types (length m.typer.types.structs) (ended_at m).typer m.routines
  routines_ended = pairs_ended program.types its.base m.typer (ended_at m).typer grows stands.traced refl refl m.routines checked stands.closed.1

  registered_ended : (number : ℕ) (id : TypeId) (it : Definition) → its.functions number ≡ Some id → slice_get m.definitions number ≡ Some it
      → (b : Bool) → it.internal ≡ b → IsRegisteredAs b m it → IsRegisteredAs b (ended_at m) it
  registered_ended number id it claimed at true is registered =
      λ same. absurd (not_below it.unit m.typer.origins.unit same (past number id it claimed at is))
  registered_ended number id it claimed at false is registered = registered

  pub stands_next : (next : List ℕ → Bool) → ((number : ℕ) (it : Definition) → slice_get m.definitions number ≡ Some it
      → (it.unit == suc m.typer.origins.unit) ≡ true → it.internal ≡ next it.name) → Stands program next (ended_claims its m) [] (ended_at m)
  stands_next next internal =
      record {
        names = tt;
        locals = tt;
        links = tt;
        externals = all_so (IsExternal program.types its m) (IsExternal program.types (ended_claims its m) (ended_at m))
            (λ it is. record {
              refers = refers_ended it.entity is.refers;
              bound = bound_ended m it.name it.entity is.bound;
              global = is.global;
              typed = is.typed;
            })
            m.externals stands.externals;
        routines = all_by_both (IsRoutineDeclared program.types its m) (IsSigned program.types)
            (IsRoutineDeclared program.types (ended_claims its m) (ended_at m))
            (λ it is signed. record {
              refers = refers_ended it.entity is.refers;
              routine = is.routine;
              typed = is.typed;
              signed = inr signed;
            }) m.routines stands.routines signed;
        calls = stands.calls;
        right = stands.right;
        objects = all_so (IsObjectRight program its m) (IsObjectRight program (ended_claims its m) (ended_at m))
            (λ it is. record {
              category = is.category;
              undefined = is.undefined;
              filled = λ endures. is.filled (endures_ended program its m endures);
            }) m.objects stands.objects;
        functions_met = λ number id it claimed at. registered_ended number id it claimed at it.internal refl (stands.functions_met number id it claimed at);
        routines_met = stands.routines_met;
        functions_there = stands.functions_there;
        routines_there = stands.routines_there;
        internal = internal;
        traced = origins_ended;
        typedefs = tt;
        accounted = all_so (IsAccounted program.types its m) (IsAccounted program.types (ended_claims its m) (ended_at m)) accounted_ended its.entities
            stands.accounted;
        closed = (
          λ x y among among' older older'. externals_ended x y among among',
          λ x y among among' older older'. routines_ended x y among among',
        );
      }

-- ---- a unit

-- numbers
below_next : (a b : ℕ) → a < b → a < suc b
below_next a b is = omega (arith, is)

same_number : (a b : ℕ) → (a == b) ≡ true → a < suc b
same_number a b is = grind (arith, nat_tests, is)

module _ (program : TypedProgram) (sound : IsRight program.types) (anyone : TypedFunction) (units before : List (List ExternalDeclaration))
    (unit : List ExternalDeclaration) (after : List (List ExternalDeclaration)) (are_units : units ≡ before ++ unit ∷ after) (its : Claims)
    (m : Translator) (done : List TypedFunction) (between : Between program units before its m done) where
  -- before its end
  module _ (all : List TypedFunction) (n : Translator) (gone : GoneRight program (is_internal unit) its m done all n)
      (named : AreNamed done (defined_names (definitions_in (length before) unit unit)) all)
      (fits : Passes m (ended_at n) × AllByRecursion (FitsDefinition n.typer.types) all) (grows : Grows n.typer.types program.types)
      (checked : unfit n.typer.types n.typer.origins n.routines n.routines ≡ None)
      (external : unfit n.typer.types n.typer.origins n.externals n.externals ≡ None) where
    unit_here : n.typer.origins.unit ≡ length before
    unit_here = gone.unit ∙ between.unit

    counted : length all ≡ length (all_definitions 0 (before ++ unit ∷ []))
    counted =
        sym (length_map all) ∙ ap length named
        ∙ length-append (names_of done) (defined_names (definitions_in (length before) unit unit))
        ∙ both (length (names_of done)) (length done) (length (defined_names (definitions_in (length before) unit unit)))
        (length (definitions_in (length before) unit unit)) (length_map done) (length_defined (definitions_in (length before) unit unit))
        ∙ ap (λ n. n + length (definitions_in (length before) unit unit)) between.count
        ∙ sym (unit_counts before unit)
      where
        both : (a b c d : ℕ) → a ≡ b → c ≡ d → a + c ≡ b + d
        both a b c d is is' = omega (arith, is, is')

        length_map : (its : List TypedFunction) → length (names_of its) ≡ length its
        length_map [] = refl
        length_map (it ∷ its) = ap suc (length_map its)

        length_defined : (its : List Definition) → length (defined_names its) ≡ length its
        length_defined [] = refl
        length_defined (it ∷ its) = ap suc (length_defined its)

    next_length : length (before ++ unit ∷ []) ≡ suc (length before)
    next_length = length-append before (unit ∷ []) ∙ one_more (length before)
      where
        one_more : (a : ℕ) → a + 1 ≡ suc a
        one_more a = omega arith

    all_there : n.definitions ≡ all_definitions 0 units
    all_there = gone.definitions ∙ between.definitions

    -- functions with internal linkage that are claimed are of this unit or one before it
    past_here : (number : ℕ) (id : TypeId) (it : Definition) → gone.claims.functions number ≡ Some id → slice_get n.definitions number ≡ Some it
        → it.internal ≡ true → it.unit < suc (length before)
    past_here number id it claimed at internal = by_claim (its.functions number) refl
      where
        there : slice_get m.definitions number ≡ Some it
        there = subst (λ all. slice_get all number ≡ Some it) gone.definitions at

        met_if : (b : Bool) → (it.unit == m.typer.origins.unit) ≡ b → b ≡ false → IsMet m it
        met_if b is fails = subst (λ c. IsMetAs c m it) (sym internal) (λ same. absurd (true_false b (sym is ∙ same) fails))

        by_unit : its.functions number ≡ None → (b : Bool) → (it.unit == m.typer.origins.unit) ≡ b → it.unit < suc (length before)
        by_unit free true is = subst (λ n. it.unit < suc n) between.unit (same_number it.unit m.typer.origins.unit is)
        by_unit free false is = absurd (gone.proceeds.fresh number id it claimed free there (met_if false is refl))

        by_claim : (o : Option TypeId) → its.functions number ≡ o → it.unit < suc (length before)
        by_claim None free = by_unit free (it.unit == m.typer.origins.unit) refl
        by_claim (Some first) is = below_next it.unit (length before) (between.past number first it is there internal)

    past_unit : (number : ℕ) (id : TypeId) (it : Definition) → gone.claims.functions number ≡ Some id → slice_get n.definitions number ≡ Some it
        → it.internal ≡ true → it.unit < suc n.typer.origins.unit
    past_unit number id it claimed at internal =
        subst (λ unit. it.unit < suc unit) (sym unit_here) (past_here number id it claimed at internal)

    signed_here : AllByRecursion (IsSigned program.types) n.routines
    signed_here = signed_ended program gone.claims n grows gone.stands.routines checked

    -- no function of a later unit is done
    met_here : (one : Definition) (number : ℕ) (f : TypedFunction) → slice_get all number ≡ Some f → slice_get n.definitions number ≡ Some one
        → (b : Bool) → one.internal ≡ b → IsMetAs b n one → IsMetAs b (ended_at n) one
    met_here one number f at there true is met = λ same. absurd (not_below one.unit n.typer.origins.unit same below)
      where
        less : number < length (all_definitions 0 (before ++ unit ∷ []))
        less = subst (λ count. number < count) counted (slice_get_within all number f at)

        below : one.unit < suc n.typer.origins.unit
        below =
            subst (λ unit. one.unit < suc unit) (sym unit_here)
            (subst (λ count. one.unit < count) next_length
            (unit_before units (before ++ unit ∷ []) after (are_units ∙ sym (append_assoc before (unit ∷ []) after)) number one less
            (subst (λ all. slice_get all number ≡ Some one) all_there there)))
    met_here one number f at there false is met = met

    done_here : AreDone program (ended_claims gone.claims n) (ended_at n) all
    done_here =
        record {
          exact = gone.functions.exact;
          met = λ number it one at there. met_here one number it at there one.internal refl (gone.functions.met number it one at there);
        }

    came : Came program units (before ++ unit ∷ []) its m done all (ended_at n)
    came =
        record {
          claims = ended_claims gone.claims n;
          claimed = gone.proceeds.functions;
          routines = gone.proceeds.routines;
          entities = gone.proceeds.entities;
          objects = gone.proceeds.objects;
          between = record {
            scoped = record { names = tt; tags = tt; closed = fits.0.scoped.closed };
            counts = fits.0.counts ∙ between.counts;
            outside = gone.outside;
            fit = fits.1;
            definitions = all_there;
            unit = ap suc unit_here ∙ sym next_length;
            count = counted;
            stands = stands_next program (is_internal unit) gone.claims n gone.stands past_unit signed_here grows external checked;
            functions = done_here;
            past = λ number id it claimed at internal. subst (λ count. it.unit < count) (sym next_length) (past_here number id it claimed at internal);
            signed = signed_here;
            externals = externals_ended program (is_internal unit) gone.claims n gone.stands past_unit signed_here grows external checked;
            routines = routines_ended program (is_internal unit) gone.claims n gone.stands past_unit signed_here grows external checked;
          };
          gives = λ endures are. gone.gives (endures_ended program gone.claims n endures) are;
        }

  -- ---- its answer

  after_checked : (all : List TypedFunction) (n : Translator) → GoingRight program (is_internal unit) its m done (Ok (all, n)) → (o : Option Late)
      → first_late n ≡ o
      → AllFit m (work_with {A = Unit {0}} {B = List TypedFunction} (λ again. unit_ended >> pass all) (unless_late o n))
      → Given (AreNamed done (defined_names (definitions_in (length before) unit unit)))
      (work_with {A = Unit {0}} {B = List TypedFunction} (λ again. unit_ended >> pass all) (unless_late o n))
      → Coming program units (before ++ unit ∷ []) its m done
      (work_with {A = Unit {0}} {B = List TypedFunction} (λ again. unit_ended >> pass all) (unless_late o n))
  after_checked all n going None same fits named =
      let fit = all_fit n same in λ grows. came all n (going grows) named fits grows fit.1 fit.0
  after_checked all n going (Some it) same fits named = tt

  after_externals : (given : Result (List TypedFunction × Translator) TypeError) → GoingRight program (is_internal unit) its m done given
      → AllFit m (work_with (λ all. Rattle.hs_linkage.specs.Linkage.rechecked >> (unit_ended >> pass all)) given)
      → Given (AreNamed done (defined_names (definitions_in (length before) unit unit)))
      (work_with (λ all. Rattle.hs_linkage.specs.Linkage.rechecked >> (unit_ended >> pass all)) given)
      → Coming program units (before ++ unit ∷ []) its m done
      (work_with (λ all. Rattle.hs_linkage.specs.Linkage.rechecked >> (unit_ended >> pass all)) given)
  after_externals (Ok q) going fits named = after_checked q.0 q.1 going (first_late q.1) refl fits named
  after_externals (Err why) going fits named = tt

  pub unit_right : Coming program units (before ++ unit ∷ []) its m done (unit_of done unit m)
  unit_right =
      after_externals (externals done unit m)
      (externals_right program sound anyone (λ here function. block_declared_walks {here = here} {function = function} sound)
      (λ here. file_declared_walks {here = here} {function = anyone} sound) file_declared_locals units before unit after are_units [] unit refl its m done
      between.scoped between.counts between.outside between.fit
      (between.stands (is_internal unit) (λ number it at same. unit_internal units before unit after are_units number it
      (subst (λ all. slice_get all number ≡ Some it) between.definitions at) (subst (λ count. (it.unit == count) ≡ true) between.unit same)))
      (no_links m) between.functions between.definitions between.unit (between.count ∙ none_more (length (all_definitions 0 before))))
      (unit_fits done unit m between.scoped (subst (AreWhole m.typer.types) (sym between.outside) tt) between.fit)
      ((unit_named (length before) unit done).given m)
    where
      none_more : (a : ℕ) → a ≡ a + 0
      none_more a = omega arith

-- ---- all units

-- one after the other
came_then : (program : TypedProgram) (units before later : List (List ExternalDeclaration)) (its : Claims) (m n p : Translator)
    (done some all : List TypedFunction) (first : Came program units before its m done some n) → Passes n p
    → Came program units later first.claims n some all p → Came program units later its m done all p
came_then program units before later its m n p done some all first passes second =
    record {
      claims = second.claims;
      claimed = λ number id is. second.claimed number id (first.claimed number id is);
      routines = λ number id is. second.routines number id (first.routines number id is);
      entities = λ it is. second.entities it (first.entities it is);
      objects = λ place is at. second.objects place is (first.objects place is at);
      between = second.between;
      gives = λ endures are. second.gives endures (first.gives (endures_onward endures) are);
    }
  where
    endures_onward : Endures program second.claims p → Endures program first.claims n
    endures_onward endures =
        record {
          types = grows_then n.typer.types p.typer.types program.types passes.types endures.types;
          literals = prefix_then n.typer.literals p.typer.literals program.literals passes.literals endures.literals;
          calls = all_of_prefix (IsNotedCall program program.types) n.typer.calls p.typer.calls passes.calls endures.calls;
          taken = all_of_prefix (IsMarkedIn program) n.typer.taken p.typer.taken passes.taken endures.taken;
          claims = record {
            entities = all_by_among (IsFulfilled program) first.claims.entities second.claims.entities second.entities endures.claims.entities;
            routines = λ number id is. endures.claims.routines number id (second.routines number id is);
          };
          objects = λ place is at. endures.objects place is (second.objects place is at);
        }

module _ (program : TypedProgram) (sound : IsRight program.types) (anyone : TypedFunction) (units : List (List ExternalDeclaration)) where
  next_units : (before rest : List (List ExternalDeclaration)) (unit : List ExternalDeclaration) (its : Claims) (m : Translator)
      (done : List TypedFunction) (given : Result (List TypedFunction × Translator) TypeError) → AllFit m given
      → Coming program units (before ++ unit ∷ []) its m done given
      → ((claims : Claims) (all : List TypedFunction) (n : Translator) → Between program units (before ++ unit ∷ []) claims n all
      → Coming program units units claims n all (units_of all rest n))
      → Coming program units units its m done (work_with (λ all. units_of all rest) given)
  next_units before rest unit its m done (Err why) fits coming others = tt
  next_units before rest unit its m done (Ok p) fits coming others =
      behind (units_of p.0 rest p.1) (units_fit rest p.0 p.1 fits.0.scoped fits.0.whole fits.1)
      (λ one. others one.claims p.0 p.1 one.between)
    where
      behind : (given : Result (List TypedFunction × Translator) TypeError) → AllFit p.1 given
          → ((one : Came program units (before ++ unit ∷ []) its m done p.0 p.1) → Coming program units units one.claims p.1 p.0 given)
          → Coming program units units its m done given
      behind (Ok q) all going = λ grows.
          let one = coming (grows_then p.1.typer.types q.1.typer.types program.types all.0.types grows) in
          came_then program units (before ++ unit ∷ []) units its m p.1 q.1 done p.0 q.0 one all.0 (going one grows)
      behind (Err why) all going = tt

  pub units_right : (before rest : List (List ExternalDeclaration)) → units ≡ before ++ rest → (its : Claims) (m : Translator) (done : List TypedFunction)
      → Between program units before its m done → Coming program units units its m done (units_of done rest m)
  units_right before [] are its m done between = λ grows.
      record {
        claims = its;
        claimed = λ number id is. is;
        routines = λ number id is. is;
        entities = λ it is. is;
        objects = λ place is at. at;
        between = subst (λ before. Between program units before its m done) (sym (are ∙ append-nil before)) between;
        gives = λ endures are. are;
      }
  units_right before (unit ∷ rest) are its m done between =
      next_units before rest unit its m done (unit_of done unit m)
      (unit_fits done unit m between.scoped (subst (AreWhole m.typer.types) (sym between.outside) tt) between.fit)
      (unit_right program sound anyone units before unit rest are its m done between)
      (λ claims all n next. units_right (before ++ unit ∷ []) rest (are ∙ sym (append_assoc before (unit ∷ []) rest)) claims n all next)

-- ---- from the beginning

none_before : (a : ℕ) → 0 ≤ a
none_before a = omega arith

-- before the first unit
pub begins : (program : TypedProgram) (table : List Routine) (units : List (List ExternalDeclaration))
    → Between program units [] no_claims (before_units table (all_definitions 0 units)) []
begins program table units =
    record {
      scoped = record { names = tt; tags = tt; closed = refl };
      counts = refl;
      outside = refl;
      fit = tt;
      definitions = refl;
      unit = refl;
      count = refl;
      stands = λ here internal. record {
        names = tt;
        locals = tt;
        links = tt;
        externals = tt;
        routines = tt;
        calls = tt;
        right = right_later table;
        objects = tt;
        functions_met = λ number id it claimed at. absurd (none_some id claimed);
        routines_met = λ number id it claimed at. absurd (none_some id claimed);
        functions_there = λ number id claimed. absurd (none_some id claimed);
        routines_there = λ number id claimed. absurd (none_some id claimed);
        internal = internal;
        traced = record {
          counted = refl;
          there = none_before 0;
          begun = λ number it brace at known. absurd cc;
          units = λ number it at from. absurd cc;
          owned = tt;
        };
        typedefs = tt;
        accounted = tt;
        closed = (λ x y among. absurd among, λ x y among. absurd among);
      };
      functions = none_done program no_claims (before_units table (all_definitions 0 units));
      past = λ number id it claimed at internal. absurd (none_some id claimed);
      signed = tt;
      externals = λ x y among. absurd among;
      routines = λ x y among. absurd among;
    }

-- Whatever the units come to, it goes on to the program as the program keeps it.
pub program_comes : (program : TypedProgram) → IsRight program.types → TypedFunction → (table : List Routine) (units : List (List ExternalDeclaration))
    → Coming program units units no_claims (before_units table (all_definitions 0 units)) []
    (units_of [] units (before_units table (all_definitions 0 units)))
program_comes program sound anyone table units =
    units_right program sound anyone units [] units refl no_claims (before_units table (all_definitions 0 units)) [] (begins program table units)
