-- A place of the text whose program is known: what was noted until then is the program's, whatever function it is of.
--     endures_before, endures_moves          what was noted at a place before it is the program's, too
--     continues_of                           a function from its parameters to its end, in such a program
use Rattle.std.proofs.Common.{◌≡◌, ℕ, zero, suc, ◌+◌, Bool, true, false, ◌||◌, List, [], ◌∷◌, ◌++◌, length, drop, slice_get, IsTrue, is_some, refl, sym, ap, subst, ◌∙◌}
use Rattle.std.specs.Prelude.{◌==◌}
use Rattle.std.specs.List.{AllByRecursion, list_any}
use Rattle.std.proofs.lemmas.Bool.Decides.{nat_tests}
use Rattle.std.proofs.lemmas.List.{append-nil}
use Rattle.std.proofs.Common.{arith}
use Rattle.hs_base.specs.Tests.{or_true}
use Rattle.hs_fitting.specs.Entities.{all_by_among}
use Rattle.hs_expressions.specs.Binding.{IsNotedCall, IsNotedAddress}
use Rattle.hs_expressions.specs.Binding.Keeping.{all_before, all_behind}
use Rattle.hs_expressions.specs.Laws.{IsPrefix}
use Rattle.hs_expressions.specs.Laws.Reached.{Reaches, prefix_then}
use Rattle.hs_fitting.specs.Claims.{IsFulfilled, Claims, Endures, IsMarkedIn, Proceeds}
use Rattle.hs_fitting.specs.Moves.{Moves}
use Rattle.hs_fitting.specs.Passes.{Passes, marked_types}
use Rattle.hs_fitting.specs.Walk.{Continues}
use Rattle.hs_linkage.specs.Objects.{is_of_local, marked}
use Rattle.hs_linkage.specs.declared.translator.Translator.{Translator}
use Rattle.hs_names.specs.Scopes.{Scoped}
use Rattle.hs_tree.specs.Fitting.{types_of, is_taken_variable}
use Rattle.hs_tree.specs.Trees.{TypedFunction, TypedProgram}
use Rattle.hs_tree.specs.declared.head.Variable.TheVariants as variable
use Rattle.hs_tree.specs.declared.head.VariableDecl.{VariableDecl}
use Rattle.hs_typer.specs.declared.typer.Entity.{Entity}
use Rattle.hs_typer.specs.declared.typer.Tag.{Tag}
use Rattle.hs_typer.specs.declared.typer.Taken.{Taken}
use Rattle.hs_typer.specs.declared.typer.Taken.TheVariants as taken
use Rattle.hs_typer.specs.declared.typer.Typer.{Typer}
use Rattle.hs_types.specs.Growing.{grows_then}

-- of a list that is longer
pub all_of_prefix : {A : Type 0} → (holds : A → Type 0) (old new : List A) → IsPrefix old new → AllByRecursion holds new → AllByRecursion holds old
all_of_prefix holds old new more are = all_before holds old more.0 (subst (AllByRecursion holds) more.1 are)

-- the places before it
pub endures_before : (program : TypedProgram) (its later : Claims) (m n : Translator) → Passes m n → Proceeds program.types its m later n
    → Endures program later n → Endures program its m
endures_before program its later m n passes proceeds endures =
    record {
      types = grows_then m.typer.types n.typer.types program.types passes.types endures.types;
      literals = prefix_then m.typer.literals n.typer.literals program.literals passes.literals endures.literals;
      calls = all_of_prefix (IsNotedCall program program.types) m.typer.calls n.typer.calls passes.calls endures.calls;
      taken = all_of_prefix (IsMarkedIn program) m.typer.taken n.typer.taken passes.taken endures.taken;
      claims = record {
        entities = all_by_among (IsFulfilled program) its.entities later.entities proceeds.entities endures.claims.entities;
        routines = λ number id is. endures.claims.routines number id (proceeds.routines number id is);
      };
      objects = λ place is at. endures.objects place is (proceeds.objects place is at);
    }

-- before a step of typing, and before others scopes
pub endures_typer : (program : TypedProgram) (its : Claims) (m : Translator) (new : Typer) (allowed : Entity → Type 0) → Reaches allowed m.typer new
    → Endures program its (record m { typer = new }) → Endures program its m
endures_typer program its m new allowed reached endures =
    record {
      types = grows_then m.typer.types new.types program.types reached.types endures.types;
      literals = prefix_then m.typer.literals new.literals program.literals reached.literals endures.literals;
      calls = all_of_prefix (IsNotedCall program program.types) m.typer.calls new.calls reached.calls endures.calls;
      taken = all_of_prefix (IsMarkedIn program) m.typer.taken new.taken reached.taken endures.taken;
      claims = endures.claims;
      objects = endures.objects;
    }

pub endures_scopes : (program : TypedProgram) (its : Claims) (m : Translator) (names : Scoped Entity) (tags : Scoped Tag)
    → Endures program its (record m { typer = record m.typer { names = names; tags = tags } }) → Endures program its m
endures_scopes program its m names tags endures =
    record {
      types = endures.types;
      literals = endures.literals;
      calls = endures.calls;
      taken = endures.taken;
      claims = endures.claims;
      objects = endures.objects;
    }

pub endures_moves : (program : TypedProgram) (its later : Claims) (m n : Translator) → Moves m n → Proceeds program.types its m later n
    → Endures program later n → Endures program its m
endures_moves program its later m n moves proceeds endures =
    record {
      types = grows_then m.typer.types n.typer.types program.types moves.typer.types endures.types;
      literals = prefix_then m.typer.literals n.typer.literals program.literals moves.typer.literals endures.literals;
      calls = all_of_prefix (IsNotedCall program program.types) m.typer.calls n.typer.calls moves.typer.calls endures.calls;
      taken = all_of_prefix (IsMarkedIn program) m.typer.taken n.typer.taken moves.typer.taken endures.taken;
      claims = record {
        entities = all_by_among (IsFulfilled program) its.entities later.entities proceeds.entities endures.claims.entities;
        routines = λ number id is. endures.claims.routines number id (proceeds.routines number id is);
      };
      objects = λ place is at. endures.objects place is (proceeds.objects place is at);
    }

-- ---- automatic variables

-- its place counts from the first one
pub is_place : (n : ℕ) → (n == n) ≡ true
is_place n = same (n == n) refl
  where
    same : (b : Bool) → (n == n) ≡ b → b ≡ true
    same true is = refl
    same false is = absurd (grind (arith, nat_tests, is))

-- a variable that is among those from that place on is marked
marked_there : (its : List Taken) (first place : ℕ) (locals : List VariableDecl) → list_any (is_of_local (first + place)) its ≡ true
    → IsTrue (is_some (slice_get (marked its first locals) place)) → IsTrue (is_taken_variable (slice_get (marked its first locals) place))
marked_there its first place [] is there = absurd cc
marked_there its first zero (it ∷ rest) is there =
    subst (λ n. IsTrue (it.taken || list_any (is_of_local n) its)) (add_none first) (subst (λ b. IsTrue (it.taken || b)) (sym is) (or_true it.taken))
  where
    add_none : (n : ℕ) → n + zero ≡ n
    add_none n = omega arith
marked_there its first (suc place) (it ∷ rest) is there =
    marked_there its (suc first) place rest (subst (λ n. list_any (is_of_local n) its ≡ true) (one_on first place) is) there
  where
    one_on : (n m : ℕ) → n + suc m ≡ suc n + m
    one_on n m = omega arith

-- it is among these
AreAmong : List Taken → List Taken → Type 0
AreAmong all its = AllByRecursion (λ it. (place : ℕ) → it ≡ taken.Variable (variable.Local place) → list_any (is_of_local place) all ≡ true) its

among_more : (first : Taken) (all its : List Taken) → AreAmong all its → AreAmong (first ∷ all) its
unfolding AreAmong
among_more first all [] are = tt
among_more first all (it ∷ its) are = (λ place is. more (is_of_local place first) (are.0 place is), among_more first all its are.1)
  where
    more : (b : Bool) {c : Bool} → c ≡ true → (b || c) ≡ true
    more true is = refl
    more false is = is

all_among : (its : List Taken) → AreAmong its its
unfolding AreAmong
all_among [] = tt
all_among (it ∷ its) = (λ place is. first place it is, among_more it its its (all_among its))
  where
    first : (place : ℕ) (it : Taken) → it ≡ taken.Variable (variable.Local place) → (is_of_local place it || list_any (is_of_local place) its) ≡ true
    first place it is = rw (is, is_place place) refl

-- ---- a function of that program

-- what follows the first ones
behind_all : {A : Type 0} → (xs ys : List A) → drop (length xs) (xs ++ ys) ≡ ys
behind_all [] ys = refl
behind_all (x ∷ xs) ys = behind_all xs ys

module _ (program : TypedProgram) (function : TypedFunction) where
  -- an address that the body takes
  noted_of : (all : List Taken) (locals : List VariableDecl) → function.variables ≡ marked all zero locals → (it : Taken) → IsMarkedIn program it
      → ((place : ℕ) → it ≡ taken.Variable (variable.Local place) → list_any (is_of_local place) all ≡ true) → IsNotedAddress program function it
  noted_of all locals same (taken.Variable (variable.Global place)) is among = is
  noted_of all locals same (taken.Variable (variable.Local place)) is among = λ there.
      subst (λ its. IsTrue (is_taken_variable (slice_get its place))) (sym same)
      (marked_there all zero place locals (subst (λ n. list_any (is_of_local n) all ≡ true) (none_add place) (among place refl))
      (subst (λ its. IsTrue (is_some (slice_get its place))) same there))
    where
      none_add : (n : ℕ) → n ≡ zero + n
      none_add n = omega arith
  noted_of all locals same (taken.Field field) is among = is

  all_noted : (all : List Taken) (locals : List VariableDecl) → function.variables ≡ marked all zero locals → (its : List Taken)
      → AllByRecursion (IsMarkedIn program) its → AreAmong all its → AllByRecursion (IsNotedAddress program function) its
  unfolding AreAmong
  all_noted all locals same [] are among = tt
  all_noted all locals same (it ∷ its) are among = (noted_of all locals same it are.0 among.0, all_noted all locals same its are.1 among.1)

  -- what the body adds to a list, whose rest is the program's
  added_holds : {A : Type 0} → (holds : A → Type 0) (old new : List A) → AllByRecursion holds new → (more : List A) → new ≡ old ++ more
      → AllByRecursion holds more
  added_holds holds old new are more same = all_behind holds old more (subst (AllByRecursion holds) same are)

  -- From the place after its parameters to its end.
  pub continues_of : (its : Claims) (m n : Translator) → Moves m n → Endures program its n
      → function.variables ≡ marked (drop (length m.typer.taken) n.typer.taken) zero n.locals → Continues program function its m n
  continues_of its m n moves endures same =
      record {
        noted = record {
          types = endures.types;
          literals = endures.literals;
          calls = added_holds (IsNotedCall program program.types) m.typer.calls n.typer.calls endures.calls;
          taken = λ more is. all_noted more n.locals
              (same ∙ ap (λ its. marked (drop (length m.typer.taken) its) zero n.locals) is
              ∙ ap (λ its. marked its zero n.locals) (behind_all m.typer.taken more))
              more (added_holds (IsMarkedIn program) m.typer.taken n.typer.taken endures.taken more is) (all_among more);
        };
        locals = (
          [],
          sym (append-nil (types_of n.locals) ∙ sym (marked_types (drop (length m.typer.taken) n.typer.taken) zero n.locals)
              ∙ sym (ap types_of same)) ∙ refl,
        );
        claims = endures.claims;
        objects = endures.objects;
      }
