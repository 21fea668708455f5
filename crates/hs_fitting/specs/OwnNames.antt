-- Tags and typedef names of this unit (X3.159-1989 3.5, and own).
--     IsOwnName base types it       the name of a type, an object of static storage duration or a function is of this unit by its type
--     OwnAt base s                  tags and typedef names are of this unit, and origins are as they should be
--     own_after                     so it is after a step that declares constants alone
--     then_owning                   steps, one after another
use Rattle.std.proofs.Common.{◌≡◌, ℕ, slice_get, Some, Result, Ok, Err, sym, subst}
use Rattle.std.specs.List.{AllByRecursion}
use Rattle.hs_base.specs.Entries.{all_appended, all_so}
use Rattle.hs_expressions.specs.Laws.{IsConstant, IsScoped}
use Rattle.hs_expressions.specs.Laws.Always.{Reaching}
use Rattle.hs_expressions.specs.Laws.Reached.{IsAllowedAt, Reaches, scoped_after}
use Rattle.hs_expressions.specs.Laws.Traced.{IsTracedAt}
use Rattle.hs_fitting.specs.Owned.{IsOwn, own_later}
use Rattle.hs_tree.specs.declared.head.Variable.TheVariants as variable
use Rattle.hs_typer.specs.Steps.{Step, then_with, kept}
use Rattle.hs_typer.specs.declared.type_error.TypeError.{TypeError}
use Rattle.hs_typer.specs.declared.typer.Entity.{Entity}
use Rattle.hs_typer.specs.declared.typer.Entity.TheVariants as entity
use Rattle.hs_typer.specs.declared.typer.Typer.{Typer}
use Rattle.hs_types.specs.Rows.{basic_rows}
use Rattle.hs_types.specs.TypeTables.{TypeTable, Grows}
use Rattle.hs_types.specs.declared.row.Row.{Row}

module _ (base : ℕ) where
  -- the name of a type, an object of static storage duration or a function is of this unit by its type
  abbrev pub IsOwnName : TypeTable → Entity → Type 0
  IsOwnName types (entity.Constant bits) = Unit {0}
  IsOwnName types (entity.Variable (variable.Global place) id) = IsOwn base types id
  IsOwnName types (entity.Variable (variable.Local place) id) = Unit {0}
  IsOwnName types (entity.Function id its) = IsOwn base types id
  IsOwnName types (entity.Typedef id) = IsOwn base types id

  -- as the table grows
  pub name_later : (old new : TypeTable) → Grows old new → (it : Entity) → IsOwnName old it → IsOwnName new it
  name_later old new grows (entity.Constant bits) is = tt
  name_later old new grows (entity.Variable (variable.Global place) id) is = own_later base old new grows id is
  name_later old new grows (entity.Variable (variable.Local place) id) is = tt
  name_later old new grows (entity.Function id its) is = own_later base old new grows id is
  name_later old new grows (entity.Typedef id) is = own_later base old new grows id is

  -- Tags and typedef names are of this unit; and the types with fixed numbers are there.
  pub record OwnAt (s : Typer) : Type 0 where
    pub traced : IsTracedAt base s
    pub names : AllByRecursion (λ it. IsOwnName s.types it.entity) s.names.declarations
    pub fixed : (place : ℕ) (its : Row) → slice_get basic_rows place ≡ Some its → slice_get s.types.rows place ≡ Some its

  -- a constant is no typedef name
  constant_own : (types : TypeTable) (it : Entity) → IsConstant it → IsOwnName types it
  constant_own types (entity.Constant bits) is = tt
  constant_own types (entity.Variable its id) is = absurd is
  constant_own types (entity.Function id its) is = absurd is
  constant_own types (entity.Typedef id) is = absurd is

  -- after a step that declares constants alone
  pub own_after : (s new : Typer) → Reaches IsConstant s new → OwnAt s → OwnAt new
  own_after s new reached own =
      record {
        traced = (reached.traced base own.traced).0;
        names = subst (λ its. AllByRecursion (λ it. IsOwnName new.types it.entity) its.declarations) (sym reached.names.2)
            (all_appended (λ it. IsOwnName new.types it.entity) reached.names.0 s.names.declarations
            (all_so (IsAllowedAt IsConstant s.names.level) (λ it. IsOwnName new.types it.entity) (λ it is. constant_own new.types it.entity is.1)
            reached.names.0 reached.names.1)
            (all_so (λ it. IsOwnName s.types it.entity) (λ it. IsOwnName new.types it.entity)
            (λ it is. name_later s.types new.types reached.types it.entity is) s.names.declarations own.names));
        fixed = λ place its at. reached.types.rows place its (own.fixed place its at);
      }

  -- ---- steps

  -- a fact of what is given, by the types that are known then
  abbrev pub Owning : {A : Type 0} → (TypeTable → A → Type 0) → Result (A × Typer) TypeError → Type 0
  Owning holds (Ok p) = holds p.1.types p.0
  Owning holds (Err why) = Unit {0}

  -- a fact of an answer
  abbrev pub Met : {A : Type 0} → (A → Type 0) → Result A TypeError → Type 0
  Met holds (Ok it) = holds it
  Met holds (Err why) = Unit {0}

  -- from every place of the text
  pub record Owns {A : Type 0} (holds : TypeTable → A → Type 0) (step : Step A) : Type 0 where
    pub gives : (s : Typer) → IsScoped s → OwnAt s → Owning holds (step s)

  -- one step after another
  pub then_owning : {A B : Type 0} → (holds : TypeTable → A → Type 0) (holds' : TypeTable → B → Type 0) (next : A → Step B) (s : Typer)
      (given : Result (A × Typer) TypeError) → IsScoped s → OwnAt s → Reaching IsConstant s given → Owning holds given
      → ((it : A) (mid : Typer) → Grows s.types mid.types → IsScoped mid → OwnAt mid → holds mid.types it → Owning holds' (next it mid))
      → Owning holds' (then_with next given)
  then_owning holds holds' next s (Ok p) scoped own reached before after =
      after p.0 p.1 reached.types (scoped_after IsConstant s p.1 reached scoped) (own_after s p.1 reached own) before
  then_owning holds holds' next s (Err why) scoped own reached before after = tt

  -- no fact is wanted
  pub any_owning : {A : Type 0} → (given : Result (A × Typer) TypeError) → Owning {A = A} (λ types it. Unit {0}) given
  any_owning (Ok p) = tt
  any_owning (Err why) = tt

  -- what is looked up changes nothing
  pub looked : {A : Type 0} → (holds : TypeTable → A → Type 0) (s : Typer) (given : Result A TypeError) → Met (holds s.types) given
      → Owning holds (kept s given)
  looked holds s (Ok it) is = is
  looked holds s (Err why) is = tt
