-- A function that is defined, in the program that it goes on to (X3.159-1989 3.7.1).
--     defined_right         from the place at which the scope of its parameters is open
use Rattle.std.proofs.Common.{◌≡◌, ℕ, suc, Bool, true, false, not, ◌||◌, List, [], ◌++◌, length, slice_get, Option, Some, None, Result, Ok, Err, refl, sym, ap, subst, ◌∙◌, if◌then◌else◌}
use Rattle.std.specs.Prelude.{◌==◌}
use Rattle.std.specs.List.{AllByRecursion}
use Rattle.hs_base.specs.Entries.{all_appended, all_so}
use Rattle.hs_base.specs.Options.{is_there}
use Rattle.hs_declarations.specs.Declarations.{block_declared}
use Rattle.hs_expressions.specs.Binding.{IsSignature}
use Rattle.hs_expressions.specs.Expressions.{enter}
use Rattle.hs_expressions.specs.Laws.{HasMore, IsConstant, IsScoped}
use Rattle.hs_expressions.specs.Laws.Always.{Anything}
use Rattle.hs_expressions.specs.Laws.Reached.{IsAllowedAt}
use Rattle.hs_fitting.specs.Bodies.{DefiningRight, IsBehind, body_right, proceeds_still, stands_locals, stands_variables}
use Rattle.hs_fitting.specs.Claims.{Claims, RefersTo, IsVariableIn, IsMet, IsCallClaimed, Endures, Stands, Proceeds}
use Rattle.hs_fitting.specs.Defining.{parameters_in_moved}
use Rattle.hs_fitting.specs.Done.{AreDone}
use Rattle.hs_fitting.specs.Given.{HasParameters, parameters_given}
use Rattle.hs_fitting.specs.HasLinks.{HasLink, MayBeStatic}
use Rattle.hs_fitting.specs.Heading.{typed_variables, typed_types, named_among, named_met}
use Rattle.hs_fitting.specs.Inner.{Inner, inner_moves, inner_named, named_inside, with_name, with_name_outside}
use Rattle.hs_fitting.specs.Known.{stands_typer, own_here, names_after, constant_refers, constant_local}
use Rattle.hs_fitting.specs.Lasting.{endures_typer, endures_scopes}
use Rattle.hs_fitting.specs.Leaving.{local_later, typedefs_later}
use Rattle.hs_fitting.specs.Linking.{Linking, MayMake, link_stands, linking_global}
use Rattle.hs_fitting.specs.Links.{global_in}
use Rattle.hs_fitting.specs.Owned.{IsOwn}
use Rattle.hs_fitting.specs.Owning.{IsOwnName, name_later, own_after}
use Rattle.hs_expressions.specs.Laws.Traced.{TracedTo, traced_then, traced_same}
use Rattle.hs_fitting.specs.Listed.{list_stays}
use Rattle.hs_fitting.specs.Moves.{Moves, same_locals}
use Rattle.hs_fitting.specs.Moving.{Moving}
use Rattle.hs_fitting.specs.Parameters.{IsParameterName, OpenedAs}
use Rattle.hs_fitting.specs.Phrases.{IsRightItem}
use Rattle.hs_fitting.specs.Prototypes.{AreAsMany}
use Rattle.hs_fitting.specs.Rightness.{AreRight}
use Rattle.hs_fitting.specs.Stating.{body_moved}
use Rattle.hs_fitting.specs.Declaring.{link_moved}
use Rattle.hs_fitting.specs.Walk.{Anywhere, Nothing, Walks, proceeds_then}
use Rattle.hs_functions.specs.Functions.{is_only, parameters_in, counts, finished, defined_with, is_of_other}
use Rattle.hs_functions.specs.Opening.{named_outside}
use Rattle.hs_linkage.specs.Linkage.{clash_of, is_function, link}
use Rattle.hs_linkage.specs.Works.{work_with, ◌>>=◌, ◌>>◌, typing}
use Rattle.hs_linkage.specs.declared.definitions.Definition.{Definition}
use Rattle.hs_linkage.specs.declared.translator.Translator.{Translator}
use Rattle.hs_names.specs.Scopes.{find, declared as declared_in, entered, declared_outside}
use Rattle.hs_statements.specs.Statements.{body_of}
use Rattle.hs_syntax.specs.Trees.{Declaration, Compound, Parameters}
use Rattle.hs_syntax.specs.declared.word.Word.{Word}
use Rattle.hs_tokens.specs.declared.place.Place.{Place}
use Rattle.hs_tree.specs.Fitting.{types_of}
use Rattle.hs_tree.specs.Kinds.{is_void, is_readable}
use Rattle.hs_tree.specs.Trees.{TypedBlock, TypedFunction, TypedProgram}
use Rattle.hs_tree.specs.declared.head.Variable.TheVariants as variable
use Rattle.hs_tree.specs.declared.head.VariableDecl.{VariableDecl}
use Rattle.hs_typer.specs.declared.type_error.TypeError.{TypeError}
use Rattle.hs_typer.specs.declared.type_error.TypeError.TheVariants.{Untyped}
use Rattle.hs_typer.specs.declared.typer.Entity.{Entity}
use Rattle.hs_typer.specs.declared.typer.Entity.TheVariants as entity
use Rattle.hs_typer.specs.declared.typer.Typer.{Typer}
use Rattle.hs_types.specs.Growing.{grows_self, grows_then}
use Rattle.hs_types.specs.TypeTables.{TypeTable, IsRight, Grows, row_of}
use Rattle.hs_types.specs.declared.row.ListId.{ListId}
use Rattle.hs_types.specs.declared.row.Row.{Row}
use Rattle.hs_types.specs.declared.row.Row.TheVariants as row
use Rattle.hs_types.specs.declared.row.TypeId.{TypeId}

-- ---- names in the scope of the parameters

module _ (program : TypedProgram) (here : List ℕ → Bool) (its : Claims) (m : Translator) (id : TypeId) (new : Typer) (opened : OpenedAs m.typer new id)
    (stands : Stands program here its [] m) where
  -- a parameter refers to nothing that is claimed
  parameter_refers : (it : Entity) → IsParameterName opened.ids it → RefersTo program.types its m.objects it
  parameter_refers (entity.Constant bits) is = tt
  parameter_refers (entity.Variable (variable.Global place) id) is = absurd is
  parameter_refers (entity.Variable (variable.Local place) id) is = tt
  parameter_refers (entity.Function id to) is = absurd is
  parameter_refers (entity.Typedef id) is = absurd is

  -- it is a variable of its type
  parameter_variable : (variables : List VariableDecl) → types_of variables ≡ opened.ids → (it : Entity) → IsParameterName opened.ids it
      → IsVariableIn program.types variables it
  parameter_variable variables same (entity.Constant bits) is = tt
  parameter_variable variables same (entity.Variable (variable.Global place) id) is = absurd is
  parameter_variable variables same (entity.Variable (variable.Local place) id) is =
      at_place (slice_get (types_of variables) place) (ap (λ its. slice_get its place) same ∙ is)
    where
      at_place : (o : Option TypeId) → o ≡ Some id → Rattle.hs_fitting.specs.Claims.IsVariableAt program.types o id
      at_place None is = absurd cc
      at_place (Some other) is = let one : other ≡ id = cc in (ap (Rattle.hs_tree.specs.Kinds.category_of program.types) one, λ whole. one)
  parameter_variable variables same (entity.Function id to) is = absurd is
  parameter_variable variables same (entity.Typedef id) is = absurd is

  -- the names around it
  pub around_refer : AllByRecursion (λ it. RefersTo program.types its m.objects it.entity) opened.mid.names.declarations
  around_refer =
      names_after program.types (RefersTo program.types its m.objects) (constant_refers program.types its m) m.typer opened.mid opened.around stands.names

  pub around_outside : m.locals ≡ [] → AllByRecursion (λ it. IsVariableIn program.types [] it.entity) opened.mid.names.declarations
  around_outside none =
      names_after program.types (IsVariableIn program.types [])
      (λ it is. subst (λ its. IsVariableIn program.types its it) none (constant_local program.types m it is)) m.typer opened.mid opened.around stands.locals

  -- all names
  named_opened : (holds : Entity → Type 0) → ((it : Entity) → IsParameterName opened.ids it → holds it)
      → AllByRecursion (λ it. holds it.entity) opened.mid.names.declarations → AllByRecursion (λ it. holds it.entity) new.names.declarations
  named_opened holds so are =
      subst (λ scopes. AllByRecursion (λ it. holds it.entity) scopes.declarations) (sym opened.names.2)
      (all_appended (λ it. holds it.entity) opened.names.0 opened.mid.names.declarations
      (all_so (λ it. (it.level ≡ suc opened.mid.names.level) × IsParameterName opened.ids it.entity) (λ it. holds it.entity)
      (λ it is. so it.entity is.1) opened.names.0 opened.names.1) are)

  outside_variable : (variables : List VariableDecl) (it : Entity) → IsVariableIn program.types [] it → IsVariableIn program.types variables it
  outside_variable variables it is = local_later program.types [] variables it (types_of variables, refl) is

  -- typedef names are of this unit
  pub around_own : AllByRecursion (λ it. IsOwnName its.base opened.mid.types it.entity) opened.mid.names.declarations
  around_own = (own_after its.base m.typer opened.mid opened.around (own_here program here its [] m stands)).names

  pub parameter_plain : (base : ℕ) (types : TypeTable) (it : Entity) → IsParameterName opened.ids it → IsOwnName base types it
  parameter_plain base types (entity.Constant bits) is = tt
  parameter_plain base types (entity.Variable (variable.Global place) id) is = absurd is
  parameter_plain base types (entity.Variable (variable.Local place) id) is = tt
  parameter_plain base types (entity.Function id to) is = absurd is
  parameter_plain base types (entity.Typedef id) is = absurd is

  typedefs_opened : AllByRecursion (λ it. IsOwnName its.base new.types it.entity) new.names.declarations
  typedefs_opened =
      named_opened (IsOwnName its.base new.types) (parameter_plain its.base new.types)
      (typedefs_later its.base its.base opened.mid.types new.types refl opened.inside.types opened.mid.names.declarations around_own)

  -- origins are known as before
  traced_opened : TracedTo m.typer new
  traced_opened =
      traced_then m.typer opened.mid new opened.around.traced
      (traced_then opened.mid (enter opened.mid) new (traced_same opened.mid (enter opened.mid) refl refl refl) opened.inside.traced)

  endures_opened : Endures program its (record m { typer = new }) → Endures program its m
  endures_opened endures =
      endures_typer program its m opened.mid IsConstant opened.around
      (endures_scopes program its (record m { typer = opened.mid }) (enter opened.mid).names (enter opened.mid).tags
      (endures_typer program its (record m { typer = enter opened.mid }) new Anything opened.inside endures))

  -- and what is claimed, with variables of these types
  pub stands_opened : (variables : List VariableDecl) → types_of variables ≡ opened.ids → m.locals ≡ []
      → AllByRecursion (IsCallClaimed program.types its m.typer.table) new.calls → AreRight new.types
      → Stands program here its variables (record m { typer = new })
  stands_opened variables same none calls right =
      stands_typer program here its m new (opened.inside.unit ∙ opened.around.unit) (opened.inside.table ∙ opened.around.table) [] variables
      (grows_then m.typer.types opened.mid.types new.types opened.around.types opened.inside.types) traced_opened typedefs_opened
      (named_opened (RefersTo program.types its m.objects) parameter_refers around_refer)
      (named_opened (IsVariableIn program.types variables) (parameter_variable variables same)
      (all_so (λ it. IsVariableIn program.types [] it.entity) (λ it. IsVariableIn program.types variables it.entity)
      (λ it is. outside_variable variables it.entity is) opened.mid.names.declarations (around_outside none)))
      (subst (λ table. AllByRecursion (IsCallClaimed program.types its table) new.calls) (sym (opened.inside.table ∙ opened.around.table)) calls)
      right endures_opened stands

-- ---- the definition

-- an answer whose types have grown from these
abbrev GrowsGiven : TypeTable → Result (TypedFunction × Translator) TypeError → Type 0
GrowsGiven types (Ok p) = Grows types p.1.typer.types
GrowsGiven types (Err why) = Unit {0}

module _ (program : TypedProgram) (here : List ℕ → Bool) (sound : IsRight program.types)
    (declared : (function : TypedFunction) (other : Place) (it : Declaration)
    → Walks here program function Anywhere (block_declared other it) Nothing (λ its. AllByRecursion (IsRightItem program function) its))
    (its : Claims) (m : Translator) (scoped : IsScoped m.typer) (counts_here : m.typer.counts ≡ true) (none : m.locals ≡ [])
    (stands : Stands program here its [] m) (done : List TypedFunction) (are : AreDone program its m done) (one : Definition)
    (at : slice_get m.definitions (length done) ≡ Some one) (unit : (one.unit == m.typer.origins.unit) ≡ true) (word : Word)
    (named : one.name ≡ word.text) (id : TypeId) (gives : TypeId) (list : ListId) (body : Compound) (them : Parameters) (new : Typer)
    (opened : OpenedAs m.typer new id) (many : AreAsMany opened.ids them) (is_row : row_of new.types id ≡ Some (row.Function gives list))
    (calls : Grows new.types program.types → AllByRecursion (IsCallClaimed program.types its m.typer.table) new.calls) (right : AreRight new.types)
    (owned : IsOwn its.base new.types id) where
  -- the place at which that scope is open
  abbrev here_opened : Translator
  here_opened = record m { typer = new }

  -- its answers have grown
  grown_right : (types : TypeTable) (given : Result (TypedFunction × Translator) TypeError) → GrowsGiven types given
      → (Grows types program.types → DefiningRight program here its m done given) → DefiningRight program here its m done given
  grown_right types (Ok p) grows so = λ grown. so (grows_then types p.1.typer.types program.types grows grown) grown
  grown_right types (Err why) grows so = tt

  inner_opened : Inner m opened.mid here_opened
  inner_opened =
      record {
        around = Rattle.hs_fitting.specs.Moves.any_reaches IsConstant m.typer opened.mid opened.around;
        inside = opened.inside;
        closed = opened.outer;
        scoped = opened.scoped;
        definitions = refl;
        locals = same_locals new.types m.locals;
      }

  module _ (static : Bool) (inside : MayBeStatic here static word here_opened) (p : Entity × Translator)
      (linked : link static word id here_opened ≡ Ok p) (moves : Moves here_opened p.1) (only : is_of_other (length done) p.0 ≡ false) where
    -- with its name
    abbrev here_named : Translator
    here_named = with_name_outside word.text p.0 p.1

    inner_linked : Inner m opened.mid p.1
    inner_linked = inner_moves m opened.mid here_opened p.1 inner_opened moves

    inner_here : Inner m (with_name word.text p.0 opened.mid) here_named
    inner_here = inner_named word.text p.0 m opened.mid p.1 inner_linked

    module _ (grows : Grows p.1.typer.types program.types) where
      grown : Grows new.types program.types
      grown = grows_then new.types p.1.typer.types program.types moves.typer.types grows

      abbrev variables : List VariableDecl
      variables = typed_variables word opened.ids

      -- a function is no object
      make : MayMake program here_opened id
      make = λ fails. absurd (is_not (row_of new.types id) is_row fails)
        where
          is_not : (o : Option Row) → o ≡ Some (row.Function gives list) → Rattle.hs_typer.specs.Declarators.is_function_row o ≡ false → ⊥
          is_not o is fails = absurd (true_is (subst (λ o. Rattle.hs_typer.specs.Declarators.is_function_row o ≡ false) is fails))
            where
              true_is : true ≡ false → ⊥
              true_is same = cc

      linking : Linking program here its variables here_opened word id p
      linking =
          link_stands program here static word id its variables here_opened grown inside make owned
          (stands_opened program here its m id new opened stands variables (typed_types word opened.ids) none (calls grown) right) p linked

      -- the names then
      named_all : (holds : Entity → Type 0) → holds p.0 → AllByRecursion (λ it. holds it.entity) p.1.typer.names.declarations
          → ((it : Entity) → IsParameterName opened.ids it → holds it) → AllByRecursion (λ it. holds it.entity) opened.mid.names.declarations
          → AllByRecursion (λ it. holds it.entity) here_named.typer.names.declarations
      named_all holds own all so outer =
          let before : p.1.typer.names ≡ new.names = ap (λ typer. typer.names) linking.typer in
          let inside_names : HasMore (IsAllowedAt Anything (suc opened.mid.names.level)) (entered opened.mid.names) new.names = (
            opened.names.0,
            all_so (λ it. (it.level ≡ suc opened.mid.names.level) × IsParameterName opened.ids it.entity)
                (IsAllowedAt Anything (suc opened.mid.names.level)) (λ it is. (is.0, tt)) opened.names.0 opened.names.1,
            opened.names.2,
          ) in
          subst (λ scopes. AllByRecursion (λ it. holds it.entity) (declared_outside word.text p.0 scopes).declarations) (sym before)
          (subst (λ scopes. AllByRecursion (λ it. holds it.entity) scopes.declarations)
          (sym (named_inside word.text p.0 opened.mid.names new.names opened.outer.names inside_names).2)
          (all_appended (λ it. holds it.entity) opened.names.0 (declared_in word.text p.0 opened.mid.names).declarations
          (all_so (λ it. (it.level ≡ suc opened.mid.names.level) × IsParameterName opened.ids it.entity) (λ it. holds it.entity)
          (λ it is. so it.entity is.1) opened.names.0 opened.names.1) (own, outer)))

      -- refer to what is claimed
      refers_then : (it : Entity) → RefersTo program.types its m.objects it → RefersTo program.types linking.claims p.1.objects it
      refers_then it is = Rattle.hs_fitting.specs.Leaving.refers_later program.types its here_opened linking.claims p.1 it linking.proceeds is

      grows_named : Grows opened.mid.types p.1.typer.types
      grows_named = grows_then opened.mid.types new.types p.1.typer.types opened.inside.types moves.typer.types

      typedefs_named : AllByRecursion (λ it. IsOwnName linking.claims.base p.1.typer.types it.entity) here_named.typer.names.declarations
      typedefs_named =
          named_all (IsOwnName linking.claims.base p.1.typer.types) (subst (λ known. IsOwnName linking.claims.base known.types p.0) (sym linking.typer) linking.plain) linking.stands.typedefs
          (parameter_plain program here its m id new opened stands linking.claims.base p.1.typer.types)
          (typedefs_later its.base linking.claims.base opened.mid.types p.1.typer.types linking.proceeds.base grows_named
          opened.mid.names.declarations (around_own program here its m id new opened stands))

      stands_named : Stands program here linking.claims variables here_named
      stands_named =
          stands_typer program here linking.claims p.1 here_named.typer refl refl variables variables (grows_self p.1.typer.types)
          (traced_same p.1.typer here_named.typer refl refl refl) typedefs_named
          (named_all (RefersTo program.types linking.claims p.1.objects) linking.refers linking.stands.names
          (λ it is. refers_then it (parameter_refers program here its m id new opened stands it is))
          (all_so (λ it. RefersTo program.types its m.objects it.entity) (λ it. RefersTo program.types linking.claims p.1.objects it.entity)
          (λ it is. refers_then it.entity is) opened.mid.names.declarations (around_refer program here its m id new opened stands)))
          (named_all (IsVariableIn program.types variables) (global_in program.types variables p.0
          (linking_global program here its variables here_opened word id p linking))
          linking.stands.locals (parameter_variable program here its m id new opened stands variables (typed_types word opened.ids))
          (all_so (λ it. IsVariableIn program.types [] it.entity) (λ it. IsVariableIn program.types variables it.entity)
          (λ it is. outside_variable program here its m id new opened stands variables it.entity is) opened.mid.names.declarations
          (around_outside program here its m id new opened stands none)))
          linking.stands.calls linking.stands.right
          (endures_scopes program linking.claims p.1 here_named.typer.names p.1.typer.tags) linking.stands

      -- after its parameters
      module _ (c : Translator) (given_here : Moves here_named c) (has : HasParameters here_named opened.ids c) where
        -- they are the only variables
        locals_then : types_of c.locals ≡ opened.ids
        locals_then =
            ap (λ n. types_of n.locals) has.1
            ∙ ap (λ its. types_of (its ++ has.0)) (linking.locals ∙ none)
            ∙ has.2

        stands_then : Stands program here linking.claims c.locals c
        stands_then =
            stands_variables program here linking.claims variables c c.locals (typed_types word opened.ids ∙ sym locals_then)
            (subst (λ n. Stands program here linking.claims variables n) (sym has.1)
            (stands_locals program here linking.claims variables here_named (here_named.locals ++ has.0) stands_named))

        proceeds_named : Proceeds program.types its m linking.claims here_named
        proceeds_named =
            proceeds_then program.types its linking.claims linking.claims m p.1 here_named linking.definitions
            (proceeds_then program.types its its linking.claims m here_opened p.1 refl
            (proceeds_still program.types its m here_opened refl refl refl (opened.inside.unit ∙ opened.around.unit)) linking.proceeds)
            (proceeds_still program.types linking.claims p.1 here_named refl refl refl refl)

        proceeds_here : Proceeds program.types its m linking.claims c
        proceeds_here =
            subst (λ n. Proceeds program.types its m linking.claims n) (sym has.1)
            (proceeds_then program.types its linking.claims linking.claims m here_named (record here_named { locals = here_named.locals ++ has.0 })
            linking.definitions proceeds_named
            (proceeds_still program.types linking.claims here_named (record here_named { locals = here_named.locals ++ has.0 }) refl refl refl refl))

        objects_here : c.objects ≡ p.1.objects
        objects_here = ap (λ n. n.objects) has.1

        at_linked : slice_get p.1.definitions (length done) ≡ Some one
        at_linked = subst (λ all. slice_get all (length done) ≡ Some one) (sym linking.definitions) at

        unit_linked : (one.unit == p.1.typer.origins.unit) ≡ true
        unit_linked =
            subst (λ number. (one.unit == number) ≡ true) (sym (moves.typer.unit ∙ opened.inside.unit ∙ opened.around.unit)) unit

        signature_here : IsSignature program.types id opened.ids gives
        signature_here = (
          list,
          grown.rows id.number (row.Function gives list) is_row,
          list_stays new.types program.types grown list opened.ids (opened.list gives list is_row),
        )

        is_function_here : is_function new.types id ≡ true
        is_function_here = ap Rattle.hs_typer.specs.Declarators.is_function_row is_row

        behind : IsBehind program here its m done one id opened.ids gives word opened.mid p.0 linking.claims c
        behind =
            record {
              inner = inner_moves m (with_name word.text p.0 opened.mid) here_named c inner_here given_here;
              counts = given_here.typer.counts ∙ inner_here.inside.counts ∙ inner_here.around.counts ∙ counts_here;
              proceeds = proceeds_here;
              stands = stands_then;
              refers = subst (λ objects. RefersTo program.types linking.claims objects p.0) (sym objects_here) linking.refers;
              global = linking_global program here its variables here_opened word id p linking;
              names = around_refer program here its m id new opened stands;
              outside = around_outside program here its m id new opened stands none;
              types = locals_then;
              signature = signature_here;
              plain = name_later linking.claims.base p.1.typer.types c.typer.types given_here.typer.types p.0
                  (subst (λ known. IsOwnName linking.claims.base known.types p.0) (sym linking.typer) linking.plain);
              typedefs = typedefs_later its.base linking.claims.base opened.mid.types c.typer.types linking.proceeds.base
                  (grows_then opened.mid.types p.1.typer.types c.typer.types grows_named given_here.typer.types) opened.mid.names.declarations
                  (around_own program here its m id new opened stands);
              among = named_among program here its variables here_opened word id p linking (length done) one at_linked named unit_linked is_function_here
                  only;
              met = subst (λ n. IsMet n one) (sym has.1)
                  ((proceeds_still program.types linking.claims p.1 (record here_named { locals = here_named.locals ++ has.0 }) refl refl refl refl).met one
                  (named_met program here its variables here_opened word id p linking (length done) one at_linked named unit_linked));
              linked = subst (λ n. HasLink one.name n) (sym has.1)
                  (subst (λ name. HasLink name p.1) (sym named) (is_there (find word.text p.1.links) linking.linked linking.found));
            }

        -- the rest of the definition
        rest_right : DefiningRight program here its m done
            (work_with (λ made. finished word.text word.place gives (length c.locals) (length c.typer.taken) made) (body_of gives body c))
        rest_right = body_right program here sound declared its m stands done are one at id opened.ids gives word body opened.mid p.0 linking.claims c behind

    -- ---- after each step

    body_grows : (types : TypeTable) (count before : ℕ) (c : Translator) → Grows types c.typer.types → (given : Result (TypedBlock × Translator) TypeError)
        → Moving c given → GrowsGiven types (work_with (λ made. finished word.text word.place gives count before made) given)
    body_grows types count before c grows (Ok q) given_moves = grows_then types c.typer.types q.1.typer.types grows given_moves.typer.types
    body_grows types count before c grows (Err why) given_moves = tt

    after_parameters : (given : Result (Unit {0} × Translator) TypeError) → parameters_in word.place them list here_named ≡ given
        → Moving here_named given
        → DefiningRight program here its m done (work_with {A = Unit {0}} {B = TypedFunction}
        (λ ready. counts >>= (λ sizes. body_of gives body >>= (λ made. finished word.text word.place gives sizes.0 sizes.1 made))) given)
    after_parameters (Ok r) same given_moves =
        grown_right p.1.typer.types
        (work_with (λ made. finished word.text word.place gives (length r.1.locals) (length r.1.typer.taken) made) (body_of gives body r.1))
        (body_grows p.1.typer.types (length r.1.locals) (length r.1.typer.taken) r.1 given_moves.typer.types (body_of gives body r.1)
        ((body_moved gives body).from r.1 given_moves.scoped))
        (λ grows. rest_right grows r.1 given_moves
        (parameters_given word.place them list opened.ids here_named r.1
        (list_stays new.types p.1.typer.types moves.typer.types list opened.ids (opened.list gives list is_row)) many same))
    after_parameters (Err why) same given_moves = tt

    after_named : DefiningRight program here its m done
        ((typing (named_outside word p.0) >> (parameters_in word.place them list
        >> (counts >>= (λ sizes. body_of gives body >>= (λ made. finished word.text word.place gives sizes.0 sizes.1 made))))) p.1)
    after_named =
        after_parameters (parameters_in word.place them list here_named) refl ((parameters_in_moved word.place them list).from here_named inner_here.scoped)

  module _ (static : Bool) (inside : MayBeStatic here static word here_opened) where
    after_only : (p : Entity × Translator) → link static word id here_opened ≡ Ok p → Moves here_opened p.1 → (b : Bool) → is_of_other (length done) p.0 ≡ b
        → DefiningRight program here its m done (work_with {A = Unit {0}} {B = TypedFunction}
        (λ ready. typing (named_outside word p.0) >> (parameters_in word.place them list
        >> (counts >>= (λ sizes. body_of gives body >>= (λ made. finished word.text word.place gives sizes.0 sizes.1 made)))))
        (if b then Err (clash_of word) else Ok (tt, p.1)))
    after_only p linked moves true other = tt
    after_only p linked moves false only = after_named static inside p linked moves only

    after_link : (given : Result (Entity × Translator) TypeError) → link static word id here_opened ≡ given → Moving here_opened given
        → DefiningRight program here its m done (work_with
        (λ it. is_only (length done) word it >> (typing (named_outside word it) >> (parameters_in word.place them list
        >> (counts >>= (λ sizes. body_of gives body >>= (λ made. finished word.text word.place gives sizes.0 sizes.1 made)))))) given)
    after_link (Ok p) same moves = after_only p same moves (is_of_other (length done) p.0) refl
    after_link (Err why) same moves = tt

    -- with the types that the program has
    pub with_right : DefiningRight program here its m done (defined_with (length done) static word them id body gives list here_opened)
    with_right = may (is_void new.types gives || is_readable new.types gives)
      where
        may : (b : Bool) → DefiningRight program here its m done (work_with {A = Unit {0}} {B = TypedFunction}
            (λ ready. link static word id >>= (λ it. is_only (length done) word it >> (typing (named_outside word it) >> (parameters_in word.place them list
            >> (counts >>= (λ sizes. body_of gives body >>= (λ made. finished word.text word.place gives sizes.0 sizes.1 made)))))))
            (if not b then Err (Untyped word.place) else Ok (tt, here_opened)))
        may true = after_link (link static word id here_opened) refl ((link_moved static word id).from here_opened opened.scoped)
        may false = tt
