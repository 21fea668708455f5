-- A scope that ends: the names before it mean what they did, and refer to what is claimed then.
--     refers_later, local_later       what a name refers to at a later place of the text
--     scoped_walks                    a step in a scope of its own
use Rattle.std.proofs.Common.{◌≡◌, ℕ, suc, Bool, List, Option, Some, None, Result, Ok, Err, refl, sym, subst}
use Rattle.std.specs.List.{AllByRecursion}
use Rattle.hs_base.specs.Entries.{all_so}
use Rattle.hs_names.specs.Scopes.{Declared}
use Rattle.hs_typer.specs.declared.typer.Typer.{Typer}
use Rattle.hs_fitting.specs.Owning.{IsOwnName, name_later}
use Rattle.hs_fitting.specs.Noting.{all_outside}
use Rattle.hs_expressions.specs.Laws.Traced.{IsOwnTag, TracedTo, traces_self, traced_same, traced_tags}
use Rattle.hs_expressions.specs.Expressions.{enter, leave}
use Rattle.hs_expressions.specs.Laws.{IsPrefix, IsScoped}
use Rattle.hs_expressions.specs.Laws.Always.{Anything}
use Rattle.hs_expressions.specs.Laws.Reached.{IsAllowedAt, left_entered}
use Rattle.hs_fitting.specs.Claims.{Claims, IsClaimed, IsClaimedAs, RefersTo, IsVariableIn, Stands, Proceeds}
use Rattle.hs_fitting.specs.Lasting.{endures_scopes}
use Rattle.hs_fitting.specs.Known.{variable_among, stands_typer, proceeds_typer}
use Rattle.hs_fitting.specs.Moves.{Moves}
use Rattle.hs_fitting.specs.Moving.{Moving}
use Rattle.hs_fitting.specs.Stating.{entered_scoped, scoped_moved}
use Rattle.hs_fitting.specs.Walk.{Anywhere, Continues, Nothing, Walked, Walking, Walks, proceeds_then}
use Rattle.hs_linkage.specs.Works.{Work}
use Rattle.hs_linkage.specs.declared.translator.Translator.{Translator}
use Rattle.hs_operand_types.specs.declared.operand.Bound.{Bound}
use Rattle.hs_operand_types.specs.declared.operand.Bound.TheVariants as bound
use Rattle.hs_statements.specs.Statements.{entered, without_scope, ended, scoped}
use Rattle.hs_tree.specs.Fitting.{types_of}
use Rattle.hs_tree.specs.Kinds.{category_of}
use Rattle.hs_tree.specs.Trees.{TypedFunction, TypedProgram}
use Rattle.hs_tree.specs.declared.head.Variable.TheVariants as variable
use Rattle.hs_tree.specs.declared.head.VariableDecl.{VariableDecl}
use Rattle.hs_typer.specs.declared.type_error.TypeError.{TypeError}
use Rattle.hs_typer.specs.declared.typer.Entity.{Entity}
use Rattle.hs_typer.specs.declared.typer.Entity.TheVariants as entity
use Rattle.hs_types.specs.TypeTables.{TypeTable, Grows}
use Rattle.hs_types.specs.Growing.{grows_self}
use Rattle.hs_types.specs.declared.row.TypeId.{TypeId}

-- ---- what a name refers to, later

module _ (types : TypeTable) where
  -- a claim stays
  claimed_later : (id : TypeId) (old new : Option TypeId) → ((first : TypeId) → old ≡ Some first → new ≡ Some first) → IsClaimed types old id
      → IsClaimed types new id
  claimed_later id None new keeps is = absurd is
  claimed_later id (Some first) new keeps is = subst (λ given. IsClaimed types given id) (sym (keeps first refl)) is

  -- what calls are bound to
  bound_later : (its : Claims) (m : Translator) (later : Claims) (n : Translator) (id : TypeId) (to : Bound) → Proceeds types its m later n
      → IsClaimedAs types its id to → IsClaimedAs types later id to
  bound_later its m later n id (bound.Function number) proceeds is = (
    claimed_later id (its.functions number) (later.functions number) (proceeds.functions number) is.0,
    proceeds.entities (entity.Function id (bound.Function number)) is.1,
  )
  bound_later its m later n id (bound.Routine number) proceeds is = (
    claimed_later id (its.routines number) (later.routines number) (proceeds.routines number) is.0,
    proceeds.entities (entity.Function id (bound.Routine number)) is.1,
  )
  bound_later its m later n id bound.Nothing proceeds is = tt

  -- what is claimed at a later place of the text
  pub refers_later : (its : Claims) (m : Translator) (later : Claims) (n : Translator) (it : Entity) → Proceeds types its m later n
      → RefersTo types its m.objects it → RefersTo types later n.objects it
  refers_later its m later n (entity.Constant bits) proceeds is = tt
  refers_later its m later n (entity.Variable (variable.Global place) id) proceeds is = proceeds.objects place (category_of types id) is
  refers_later its m later n (entity.Variable (variable.Local place) id) proceeds is = tt
  refers_later its m later n (entity.Function id to) proceeds is = bound_later its m later n id to proceeds is
  refers_later its m later n (entity.Typedef id) proceeds is = tt

  -- the variables of the function stay
  pub local_later : (old new : List VariableDecl) (it : Entity) → IsPrefix (types_of old) (types_of new) → IsVariableIn types old it
      → IsVariableIn types new it
  local_later old new (entity.Constant bits) before is = tt
  local_later old new (entity.Variable (variable.Global place) id) before is = tt
  local_later old new (entity.Variable (variable.Local place) id) before is = variable_among types (types_of old) (types_of new) place id before is
  local_later old new (entity.Function id to) before is = tt
  local_later old new (entity.Typedef id) before is = tt

-- ---- a scope

-- where a scope ends, the tags are some of those before
pub leave_traced : (s : Typer) → TracedTo s (leave s)
leave_traced s base is = (
  traced_tags base s.types.structs s.origins s.tags.declarations (leave s).tags.declarations is
      (all_outside (λ it. IsOwnTag base it.entity) s.tags.level s.tags.declarations is.owned),
  traces_self base s.types.structs s.origins,
)

-- typedef names of this unit stay so
pub typedefs_later : (base later : ℕ) (old new : TypeTable) → later ≡ base → Grows old new → (its : List (Declared Entity))
    → AllByRecursion (λ it. IsOwnName base old it.entity) its → AllByRecursion (λ it. IsOwnName later new it.entity) its
typedefs_later base later old new same grows its are =
    subst (λ n. AllByRecursion (λ it. IsOwnName n new it.entity) its) (sym same)
    (all_so (λ it. IsOwnName base old it.entity) (λ it. IsOwnName base new it.entity) (λ it is. name_later base old new grows it.entity is) its are)

module _ (here : List ℕ → Bool) (program : TypedProgram) (function : TypedFunction) where
  -- where a scope begins
  stands_entered : (its : Claims) (m : Translator) → Stands program here its m.locals m → Stands program here its m.locals (entered m)
  stands_entered its m stands = stands_typer program here its m (enter m.typer) refl refl m.locals m.locals
      (grows_self m.typer.types) (traced_same m.typer (enter m.typer) refl refl refl) stands.typedefs stands.names stands.locals stands.calls
      stands.right
      (endures_scopes program its m (enter m.typer).names (enter m.typer).tags) stands

  -- where it has ended, the names are those before it
  names_left : (its : Claims) (m : Translator) (later : Claims) (n : Translator) → IsScoped m.typer → Moves (entered m) n
      → (leave n.typer).names ≡ m.typer.names
  names_left its m later n scoped moves =
      left_entered (IsAllowedAt Anything (suc m.typer.names.level)) m.typer.names n.typer.names (λ it holds. holds.0) moves.typer.names scoped.names

  -- so what was claimed before it stands
  stands_left : (its : Claims) (m : Translator) (later : Claims) (n : Translator) → IsScoped m.typer → Stands program here its m.locals m
      → Moves (entered m) n → Proceeds program.types its m later n → Stands program here later n.locals n
      → Stands program here later n.locals (without_scope n)
  stands_left its m later n scoped stands moves proceeds after =
      stands_typer program here later n (leave n.typer) refl refl n.locals n.locals (grows_self n.typer.types) (leave_traced n.typer)
      (subst (λ scopes. AllByRecursion (λ it. IsOwnName later.base n.typer.types it.entity) scopes.declarations)
      (sym (names_left its m later n scoped moves))
      (typedefs_later its.base later.base m.typer.types n.typer.types proceeds.base moves.typer.types m.typer.names.declarations stands.typedefs))
      (subst (λ scopes. AllByRecursion (λ it. RefersTo program.types later n.objects it.entity) scopes.declarations)
      (sym (names_left its m later n scoped moves))
      (all_so (λ it. RefersTo program.types its m.objects it.entity) (λ it. RefersTo program.types later n.objects it.entity)
      (λ it is. refers_later program.types its m later n it.entity proceeds is) m.typer.names.declarations stands.names))
      (subst (λ scopes. AllByRecursion (λ it. IsVariableIn program.types n.locals it.entity) scopes.declarations)
      (sym (names_left its m later n scoped moves))
      (all_so (λ it. IsVariableIn program.types m.locals it.entity) (λ it. IsVariableIn program.types n.locals it.entity)
      (λ it is. local_later program.types m.locals n.locals it.entity (moves.locals.more, moves.locals.are) is) m.typer.names.declarations
      stands.locals)) after.calls after.right (endures_scopes program later n (leave n.typer).names (leave n.typer).tags) after

  -- a program that continues the place after it continues that before its end
  continues_left : (later : Claims) (m n : Translator) → Continues program function later m (without_scope n)
      → Continues program function later (entered m) n
  continues_left later m n continues =
      record {
        noted = record {
          types = continues.noted.types;
          literals = continues.noted.literals;
          calls = continues.noted.calls;
          taken = continues.noted.taken;
        };
        locals = continues.locals;
        claims = continues.claims;
        objects = continues.objects;
      }

  -- from one place of the text
  scoped_walked : {A : Type 0} → (holds : A → Type 0) (its : Claims) (m : Translator) (given : Result (A × Translator) TypeError) → IsScoped m.typer
      → Stands program here its m.locals m → Moving (entered m) given → Walking here program function its (entered m) Nothing holds given
      → Walking here program function its m Nothing holds (ended given)
  scoped_walked holds its m (Ok p) scoped stands moves walking = λ grows.
      let walked : Walked here program function its (entered m) Nothing holds p = walking grows in
      let inside : Proceeds program.types its m walked.claims p.1
      = proceeds_then program.types its its walked.claims m (entered m) p.1 refl
      (proceeds_typer program here its m (enter m.typer) refl refl) walked.proceeds in
      record {
        claims = walked.claims;
        proceeds = proceeds_then program.types its walked.claims walked.claims m p.1 (without_scope p.1) moves.definitions inside
            (proceeds_typer program here walked.claims p.1 (leave p.1.typer) refl refl);
        stands = stands_left its m walked.claims p.1 scoped stands moves inside walked.stands;
        known = tt;
        gives = λ continues. walked.gives (continues_left walked.claims m p.1 continues);
      }
  scoped_walked holds its m (Err why) scoped stands moves walking = tt

-- A step in a scope of its own.
pub scoped_walks : {here : List ℕ → Bool} → {program : TypedProgram} → {function : TypedFunction} → {A : Type 0} → {holds : A → Type 0}
    → (work : Work A) → Walks here program function Anywhere work Nothing holds → Walks here program function Anywhere (scoped work) Nothing holds
scoped_walks {here = here} {program = program} {function = function} {holds = holds} work walks =
    record {
      moved = scoped_moved work walks.moved;
      from = λ its m scoped counts stands met. scoped_walked here program function holds its m (work (entered m)) scoped stands
          (walks.moved.from (entered m) (entered_scoped m.typer scoped))
          (walks.from its (entered m) (entered_scoped m.typer scoped) counts (stands_entered here program function its m stands) tt);
    }
