-- From one external declaration to a later one: types keep their numbers, and what was noted stays.
--     AreWhole types its           the variables are of complete types
--     Passes old new               from one external declaration to a later one
--     passes_self, passes_then, passes_moves      by no step, by one after another, and by steps in the same scopes
use Rattle.std.proofs.Common.{◌≡◌, ℕ, suc, ◌+◌, ◌≤◌, List, [], ◌∷◌, length, IsTrue, refl, sym, ap, subst, ◌∙◌, arith}
use Rattle.std.proofs.lemmas.List.{length-append}
use Rattle.std.specs.List.{AllByRecursion}
use Rattle.hs_base.specs.Entries.{all_appended, all_so}
use Rattle.hs_expressions.specs.Laws.Reached.{prefix_self, prefix_then}
use Rattle.hs_expressions.specs.Laws.{IsPrefix, IsScoped}
use Rattle.hs_fitting.specs.Moves.{IsWhole, HasLocals, Moves, whole_stays}
use Rattle.hs_linkage.specs.Objects.{marked}
use Rattle.hs_linkage.specs.declared.translator.Translator.{Translator}
use Rattle.hs_tree.specs.Fitting.{types_of, count_types}
use Rattle.hs_tree.specs.declared.head.VariableDecl.{VariableDecl}
use Rattle.hs_typer.specs.declared.typer.Taken.{Taken}
use Rattle.hs_types.specs.Growing.{grows_self, grows_then}
use Rattle.hs_types.specs.TypeTables.{TypeTable, Grows, is_complete}

-- ---- variables of complete types

abbrev pub AreWhole : TypeTable → List VariableDecl → Type 0
AreWhole types its = AllByRecursion (IsWhole types) (types_of its)

-- they stay so, with others
pub whole_with : (old new : TypeTable) (first second : List VariableDecl) → Grows old new → AreWhole old first → HasLocals new first second
    → AreWhole new second
whole_with old new first second grows are has =
    subst (AllByRecursion (IsWhole new)) (sym has.are)
    (all_appended (IsWhole new) (types_of first) has.more
    (all_so (IsWhole old) (IsWhole new) (λ id is. whole_stays old new id grows is) (types_of first) are) has.whole)

-- one by one
pub each_whole : (types : TypeTable) (its : List VariableDecl) → AreWhole types its → AllByRecursion (λ it. IsTrue (is_complete types it.type_id)) its
each_whole types [] are = tt
each_whole types (it ∷ its) are = (are.0, each_whole types its are.1)

-- marks change no type
pub marked_types : (taken : List Taken) (place : ℕ) (its : List VariableDecl) → types_of (marked taken place its) ≡ types_of its
marked_types taken place [] = refl
marked_types taken place (it ∷ its) = ap (λ rest. it.type_id ∷ rest) (marked_types taken (suc place) its)

-- there are no fewer
pub no_fewer : (types : TypeTable) (first second : List VariableDecl) → HasLocals types first second → length first ≤ length second
no_fewer types first second has =
    let counted : length second ≡ length first + length has.more
    = sym (count_types second) ∙ ap length has.are ∙ length-append (types_of first) has.more ∙ ap (λ n. n + length has.more) (count_types first) in
    at_most (length first) (length second) (length has.more) counted
  where
    at_most : (a b c : ℕ) → b ≡ a + c → a ≤ b
    at_most a b c same = omega (arith, same)

-- ---- from one external declaration to a later one

-- Types keep their numbers, what was noted stays, and no declaration is of a scope inside the innermost one.
pub record Passes (old new : Translator) : Type 0 where
  pub types : Grows old.typer.types new.typer.types
  pub literals : IsPrefix old.typer.literals new.typer.literals
  pub taken : IsPrefix old.typer.taken new.typer.taken
  pub calls : IsPrefix old.typer.calls new.typer.calls
  pub table : new.typer.table ≡ old.typer.table
  pub counts : new.typer.counts ≡ old.typer.counts
  pub scoped : IsScoped new.typer
  pub definitions : new.definitions ≡ old.definitions
  pub whole : AreWhole new.typer.types new.locals

-- nothing happens
pub passes_self : (m : Translator) → IsScoped m.typer → AreWhole m.typer.types m.locals → Passes m m
passes_self m scoped are =
    record {
      types = grows_self m.typer.types;
      literals = prefix_self m.typer.literals;
      taken = prefix_self m.typer.taken;
      calls = prefix_self m.typer.calls;
      table = refl;
      counts = refl;
      scoped = scoped;
      definitions = refl;
      whole = are;
    }

-- one after the other
pub passes_then : (first second third : Translator) → Passes first second → Passes second third → Passes first third
passes_then first second third before after =
    record {
      types = grows_then first.typer.types second.typer.types third.typer.types before.types after.types;
      literals = prefix_then first.typer.literals second.typer.literals third.typer.literals before.literals after.literals;
      taken = prefix_then first.typer.taken second.typer.taken third.typer.taken before.taken after.taken;
      calls = prefix_then first.typer.calls second.typer.calls third.typer.calls before.calls after.calls;
      table = after.table ∙ before.table;
      counts = after.counts ∙ before.counts;
      scoped = after.scoped;
      definitions = after.definitions ∙ before.definitions;
      whole = after.whole;
    }

-- by steps in the same scopes
pub passes_moves : (m new : Translator) → AreWhole m.typer.types m.locals → Moves m new → Passes m new
passes_moves m new are moves =
    record {
      types = moves.typer.types;
      literals = moves.typer.literals;
      taken = moves.typer.taken;
      calls = moves.typer.calls;
      table = moves.typer.table;
      counts = moves.typer.counts;
      scoped = moves.scoped;
      definitions = moves.definitions;
      whole = whole_with m.typer.types new.typer.types m.locals new.locals moves.typer.types are moves.locals;
    }
