-- What is known of a program moves on: types keep their numbers, and what was noted stays.
--     Moves old new                  from one place of the text to a later one with the same scopes around it
--     moves_self, moves_then         by no step, and by one after another
--     any_reaches                    with names of any sort
--     moves_typer                    by a step of typing
use Rattle.std.proofs.Common.{◌≡◌, List, [], ◌++◌, IsTrue, refl, sym, ap, ◌∙◌}
use Rattle.std.specs.List.{AllByRecursion}
use Rattle.std.proofs.lemmas.List.{append_assoc, append-nil}
use Rattle.hs_base.specs.Options.{some_there}
use Rattle.hs_base.specs.Entries.{all_appended, all_so}
use Rattle.hs_expressions.specs.Laws.{IsScoped}
use Rattle.hs_expressions.specs.Laws.Always.{Anything}
use Rattle.hs_expressions.specs.Laws.Reached.{Reaches, reaches_self, reaches_then, reaches_wider, scoped_after}
use Rattle.hs_linkage.specs.declared.translator.Translator.{Translator}
use Rattle.hs_tree.specs.Fitting.{types_of}
use Rattle.hs_tree.specs.declared.head.VariableDecl.{VariableDecl}
use Rattle.hs_typer.specs.declared.typer.Entity.{Entity}
use Rattle.hs_typer.specs.declared.typer.Typer.{Typer}
use Rattle.hs_types.specs.Growing.{layout_stays}
use Rattle.hs_types.specs.TypeTables.{TypeTable, Grows, layout_of, is_complete}
use Rattle.hs_types.specs.declared.row.TypeId.{TypeId}

-- a type that can be of an object
abbrev pub IsWhole : TypeTable → TypeId → Type 0
IsWhole types id = IsTrue (is_complete types id)

-- which stays so
pub whole_stays : (old new : TypeTable) (id : TypeId) → Grows old new → IsWhole old id → IsWhole new id
whole_stays old new id grows is =
    let had = some_there (layout_of old id) is in rw (layout_stays old new id had.0 grows had.1) refl

-- the variables of the function are those that it had, and more of complete types
pub record HasLocals (types : TypeTable) (old new : List VariableDecl) : Type 0 where
  pub more : List TypeId
  pub are : types_of new ≡ types_of old ++ more
  pub whole : AllByRecursion (IsWhole types) more

-- From one place of the text to a later one with the same scopes around it.
pub record Moves (old new : Translator) : Type 0 where
  pub typer : Reaches Anything old.typer new.typer
  pub scoped : IsScoped new.typer
  pub definitions : new.definitions ≡ old.definitions
  pub locals : HasLocals new.typer.types old.locals new.locals

-- no variable more
pub same_locals : (types : TypeTable) (its : List VariableDecl) → HasLocals types its its
same_locals types its = record { more = []; are = sym (append-nil (types_of its)); whole = tt }

-- some, and others
pub locals_then : (types later : TypeTable) (first second third : List VariableDecl) → Grows types later → HasLocals types first second
    → HasLocals later second third → HasLocals later first third
locals_then types later first second third grows before after =
    record {
      more = before.more ++ after.more;
      are = after.are ∙ ap (λ its. its ++ after.more) before.are ∙ append_assoc (types_of first) before.more after.more;
      whole = all_appended (IsWhole later) before.more after.more
          (all_so (IsWhole types) (IsWhole later) (λ id is. whole_stays types later id grows is) before.more before.whole) after.whole;
    }

-- names of an allowed sort are names of any sort
pub any_reaches : (allowed : Entity → Type 0) (old new : Typer) → Reaches allowed old new → Reaches Anything old new
any_reaches allowed old new reached = reaches_wider allowed Anything (λ it is. tt) old new reached

-- by no step
pub moves_self : (m : Translator) → IsScoped m.typer → Moves m m
moves_self m scoped =
    record { typer = reaches_self Anything m.typer; scoped = scoped; definitions = refl; locals = same_locals m.typer.types m.locals }

-- by one step after another
pub moves_then : (first second third : Translator) → Moves first second → Moves second third → Moves first third
moves_then first second third before after =
    record {
      typer = reaches_then Anything first.typer second.typer third.typer before.typer after.typer;
      scoped = after.scoped;
      definitions = after.definitions ∙ before.definitions;
      locals = locals_then second.typer.types third.typer.types first.locals second.locals third.locals after.typer.types before.locals after.locals;
    }

-- by a step of typing
pub moves_typer : (m : Translator) (new : Typer) → IsScoped m.typer → Reaches Anything m.typer new → Moves m (record m { typer = new })
moves_typer m new scoped reached =
    record {
      typer = reached;
      scoped = scoped_after Anything m.typer new reached scoped;
      definitions = refl;
      locals = same_locals new.types m.locals;
    }
