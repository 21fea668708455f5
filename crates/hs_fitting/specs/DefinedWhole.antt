-- A function definition, in the program that it goes on to (X3.159-1989 3.7.1).
--     definition_right       each function is as the program keeps it, and all names refer to what was claimed
use Rattle.std.proofs.Common.{◌≡◌, ℕ, Bool, true, false, List, [], length, slice_get, Option, Some, None, Result, Ok, Err, refl, sym, ap, subst, ◌∙◌, if◌then◌else◌}
use Rattle.std.specs.Prelude.{◌==◌}
use Rattle.std.specs.List.{AllByRecursion}
use Rattle.hs_declarations.specs.Declarations.{block_declared, is_static, is_typedef_word}
use Rattle.hs_declarations.specs.Fronts.{front, storage_place}
use Rattle.hs_declarations.specs.declared.fronts.Front.{Front}
use Rattle.hs_expressions.specs.Expressions.{first_place}
use Rattle.hs_expressions.specs.Laws.{IsConstant, IsScoped}
use Rattle.hs_expressions.specs.Laws.Always.{Reaching}
use Rattle.hs_expressions.specs.Laws.Reached.{Reaches, scoped_after}
use Rattle.hs_fitting.specs.Bodies.{DefinedRight, DefiningRight}
use Rattle.hs_fitting.specs.Claims.{IsOfClaim, Claims, IsVariableIn, IsCallClaimed, RefersTo, Stands, Proceeds}
use Rattle.hs_fitting.specs.Declaring.{front_always}
use Rattle.hs_fitting.specs.Defined.{with_right}
use Rattle.hs_fitting.specs.Defining.{FitsGiven, said_fits}
use Rattle.hs_fitting.specs.Done.{AreDone, done_later}
use Rattle.hs_fitting.specs.HasLinks.{MayBeItem}
use Rattle.hs_fitting.specs.Known.{stands_typer, own_here, proceeds_typer, names_after, names_allow, constant_refers, constant_local}
use Rattle.hs_fitting.specs.Lasting.{endures_typer}
use Rattle.hs_fitting.specs.Noting.{Noted, Noting}
use Rattle.hs_fitting.specs.NotingDeclaring.{front_notes, opened_noting}
use Rattle.hs_fitting.specs.Opened.{FormedAt, opened_formed, opened_own}
use Rattle.hs_fitting.specs.Owned.{IsOwn}
use Rattle.hs_fitting.specs.Owning.{Owning, own_after, front_own}
use Rattle.hs_fitting.specs.Parameters.{OpensFor, opens_for}
use Rattle.hs_fitting.specs.Phrases.{IsRightItem}
use Rattle.hs_fitting.specs.Rightness.{AreRight}
use Rattle.hs_fitting.specs.Storage.{front_static}
use Rattle.hs_fitting.specs.Walk.{Anywhere, Nothing, Walks, proceeds_then}
use Rattle.hs_functions.specs.Functions.{parameters_of, defined_of, defined_as, defined_by, defined_said, brace_of, defined}
use Rattle.hs_functions.specs.Opening.{opened_type}
use Rattle.hs_linkage.specs.Definitions.{has_static, text_of}
use Rattle.hs_linkage.specs.Linkage.{is_barred}
use Rattle.hs_linkage.specs.Works.{work_with, ◌>>=◌, typing, with_typer}
use Rattle.hs_linkage.specs.declared.definitions.Definition.{Definition}
use Rattle.hs_linkage.specs.declared.translator.Translator.{Translator}
use Rattle.hs_syntax.specs.Trees.{Declaration, Declared, Compound, Parameters, Specification}
use Rattle.hs_syntax.specs.declared.word.Word.{Word}
use Rattle.hs_tokens.specs.declared.place.Place.{Place}
use Rattle.hs_tree.specs.Trees.{TypedFunction, TypedProgram}
use Rattle.hs_typer.specs.Declarators.{word_of}
use Rattle.hs_typer.specs.declared.type_error.TypeError.{TypeError}
use Rattle.hs_typer.specs.declared.type_error.TypeError.TheVariants.{Untyped}
use Rattle.hs_typer.specs.declared.typer.Typer.{Typer}
use Rattle.hs_types.specs.Growing.{grows_then}
use Rattle.hs_types.specs.TypeTables.{IsRight, Grows, row_of}
use Rattle.hs_types.specs.declared.row.Row.{Row}
use Rattle.hs_types.specs.declared.row.Row.TheVariants as row
use Rattle.hs_types.specs.declared.row.TypeId.{TypeId}

-- ---- from an earlier place

defining_behind : (program : TypedProgram) (here : List ℕ → Bool) (its : Claims) (m n : Translator) (done : List TypedFunction)
    → n.definitions ≡ m.definitions → n.typer.origins.unit ≡ m.typer.origins.unit → Proceeds program.types its m its n →
    (given : Result (TypedFunction × Translator) TypeError)
    → DefiningRight program here its n done given → DefiningRight program here its m done given
defining_behind program here its m n done same unit proceeds (Ok p) right = λ grows.
    let is : DefinedRight program here its n done p = right grows in
    record {
      claims = is.claims;
      proceeds = proceeds_then program.types its its is.claims m n p.1 same proceeds is.proceeds;
      stands = is.stands;
      outside = is.outside;
      definitions = is.definitions ∙ same;
      unit = is.unit ∙ unit;
      functions = is.functions;
      linked = λ one at. is.linked one (subst (λ all. slice_get all (length done) ≡ Some one) (sym same) at);
      gives = is.gives;
    }
defining_behind program here its m n done same unit proceeds (Err why) right = tt

-- what fits has grown
grown_fits : (program : TypedProgram) (here : List ℕ → Bool) (its : Claims) (m n : Translator) (done : List TypedFunction)
    (given : Result (TypedFunction × Translator) TypeError) → FitsGiven n given
    → (Grows n.typer.types program.types → DefiningRight program here its m done given) → DefiningRight program here its m done given
grown_fits program here its m n done (Ok p) fits so = λ grows. so (grows_then n.typer.types p.1.typer.types program.types fits.0.types grows) grows
grown_fits program here its m n done (Err why) fits so = tt

-- ---- the definition

module _ (program : TypedProgram) (here : List ℕ → Bool) (sound : IsRight program.types)
    (declared : (function : TypedFunction) (other : Place) (it : Declaration)
    → Walks here program function Anywhere (block_declared other it) Nothing (λ its. AllByRecursion (IsRightItem program function) its))
    (its : Claims) (done : List TypedFunction) (one : Definition) (it : Declared) (body : Compound) (named : one.name ≡ text_of (word_of it)) where
  module _ (m : Translator) (scoped : IsScoped m.typer) (counts_here : m.typer.counts ≡ true) (none : m.locals ≡ [])
      (stands : Stands program here its [] m) (are : AreDone program its m done) (at : slice_get m.definitions (length done) ≡ Some one)
      (unit : (one.unit == m.typer.origins.unit) ≡ true) (static : Bool) where
    -- by the type
    module _ (inside : MayBeItem here static (word_of it) m) (word : Word)
        (is_word : word_of it ≡ Some word) (them : Parameters) where
      named_so : one.name ≡ word.text
      named_so = named ∙ ap text_of is_word

      of_right : (id : TypeId) (new : Typer) → OpensFor m.typer them (Ok (id, new))
          → Noted (IsOfClaim program.types its) program.types (λ it. Unit {0}) m.typer (id, new) → IsOwn its.base new.types id → (o : Option Row)
          → row_of new.types id ≡ o
          → DefiningRight program here its m done (defined_of (length done) static word them id body o (record m { typer = new }))
      of_right id new opens noted own None same = tt
      of_right id new opens noted own (Some row.Void) same = tt
      of_right id new opens noted own (Some (row.Integer kind)) same = tt
      of_right id new opens noted own (Some (row.Pointer of)) same = tt
      of_right id new opens noted own (Some (row.Enumeration tag)) same = tt
      of_right id new opens noted own (Some (row.Struct tag)) same = tt
      of_right id new opens noted own (Some (row.Array of size layout)) same = tt
      of_right id new opens noted own (Some (row.OpenArray of)) same = tt
      of_right id new opens noted own (Some (row.Function gives list)) same =
          with_right program here sound declared its m scoped counts_here none stands done are one at unit word named_so id gives list body them new
          opens.opened_scope opens.many same (λ grows. noted.calls grows stands.calls) (noted.right stands.right) own static (inside word is_word)

      opened_right : (of : TypeId) → IsOwn its.base m.typer.types of → (given : Result (TypeId × Typer) TypeError) → OpensFor m.typer them given
          → FormedAt its.base of given
          → Noting (IsOfClaim program.types its) program.types (λ it. Unit {0}) m.typer given
          → DefiningRight program here its m done (work_with (λ id. defined_as (length done) static word them body id) (with_typer m given))
      opened_right of own (Ok p) opens formed noted =
          of_right p.0 p.1 opens noted
          (opened_own its.base of p.0 m.typer p.1 opens.opened_scope formed (own_here program here its [] m stands) own) (row_of p.1.types p.0) refl
      opened_right of own (Err why) opens formed noted = tt

    -- by its name and its parameters
    by_right : (place : Place) (said : Front) → IsOwn its.base m.typer.types said.type_id → (static ≡ is_static said.storage)
        → MayBeItem here static (word_of it) m → (word : Option Word) → word_of it ≡ word
        → (them : Option Parameters) → parameters_of it ≡ them
        → DefiningRight program here its m done (defined_by (length done) place said it body word them m)
    by_right place said own is_so inside None is_word them same = tt
    by_right place said own is_so inside (Some word) is_word None same = tt
    by_right place said own is_so inside (Some word) is_word (Some them) same =
        may (is_barred word m)
      where
        opened_so : DefiningRight program here its m done
            (work_with (λ id. defined_as (length done) static word them body id) (with_typer m (opened_type place said.type_id it them m.typer)))
        opened_so =
            opened_right inside word is_word them said.type_id own (opened_type place said.type_id it them m.typer)
            (opens_for place said.type_id it them same m.typer scoped) (opened_formed its.base said.type_id place it them m.typer)
            (opened_noting (IsOfClaim program.types its) program.types place said.type_id it them m.typer (names_allow program here its [] m stands))

        may : (b : Bool) → DefiningRight program here its m done (work_with {A = Unit {0}} {B = TypedFunction}
            (λ ready. typing (opened_type place said.type_id it them) >>= (λ id. defined_as (length done) (is_static said.storage) word them body id))
            (if b then Err (Untyped word.place) else Ok (tt, m)))
        may true = tt
        may false =
            subst (λ b. DefiningRight program here its m done
            (work_with (λ id. defined_as (length done) b word them body id) (with_typer m (opened_type place said.type_id it them m.typer)))) is_so opened_so

    -- and by its storage word
    said_right : (place stored : Place) (said : Front) → IsOwn its.base m.typer.types said.type_id → (static ≡ is_static said.storage)
        → MayBeItem here static (word_of it) m
        → DefiningRight program here its m done (defined_said (length done) place stored it body said m)
    said_right place stored said own is_so inside = may (is_typedef_word said.storage)
      where
        may : (b : Bool) → DefiningRight program here its m done (work_with {A = Unit {0}} {B = TypedFunction}
            (λ ready. defined_by (length done) place said it body (word_of it) (parameters_of it)) (if b then Err (Untyped stored) else Ok (tt, m)))
        may true = tt
        may false = by_right place said own is_so inside (word_of it) refl (parameters_of it) refl

  module _ (m : Translator) (scoped : IsScoped m.typer) (counts_here : m.typer.counts ≡ true) (none : m.locals ≡ [])
      (stands : Stands program here its [] m) (are : AreDone program its m done) (at : slice_get m.definitions (length done) ≡ Some one)
      (unit : (one.unit == m.typer.origins.unit) ≡ true) (words : Specification)
      (inside : MayBeItem here (has_static words) (word_of it) m) where
    -- what stands after its specifiers
    stands_front : (new : Typer) → Reaches IsConstant m.typer new → AllByRecursion (IsCallClaimed program.types its m.typer.table) new.calls
        → AreRight new.types → Stands program here its [] (record m { typer = new })
    stands_front new reached calls right =
        stands_typer program here its m new reached.unit reached.table [] [] reached.types reached.traced
        (own_after its.base m.typer new reached (own_here program here its [] m stands)).names
        (names_after program.types (RefersTo program.types its m.objects) (constant_refers program.types its m) m.typer new reached stands.names)
        (names_after program.types (IsVariableIn program.types []) (constant_local program.types (record m { locals = [] })) m.typer new reached
        stands.locals)
        (subst (λ table. AllByRecursion (IsCallClaimed program.types its table) new.calls) (sym reached.table) calls) right
        (endures_typer program its m new IsConstant reached) stands

    after_front : (place stored : Place) (given : Result (Front × Typer) TypeError) → front place words m.typer ≡ given
        → Reaching IsConstant m.typer given → Noting (IsOfClaim program.types its) program.types (λ it. Unit {0}) m.typer given
        → DefiningRight program here its m done (work_with (λ said. defined_said (length done) place stored it body said) (with_typer m given))
    after_front place stored (Ok p) same reached noted =
        let after : Translator = record m { typer = p.1 } in
        let inner = scoped_after IsConstant m.typer p.1 reached scoped in
        grown_fits program here its m after done (defined_said (length done) place stored it body p.0 after)
        (said_fits after (subst (λ locals. Rattle.hs_fitting.specs.Passes.AreWhole p.1.types locals) (sym none) tt) inner
        (length done) place stored it body p.0)
        (λ grows. let stood : Stands program here its [] after = stands_front p.1 reached (noted.calls grows stands.calls) (noted.right stands.right) in
        let proceeds : Proceeds program.types its m its after = proceeds_typer program here its m p.1 reached.unit reached.table in
        defining_behind program here its m after done refl reached.unit proceeds (defined_said (length done) place stored it body p.0 after)
        (said_right after inner (reached.counts ∙ counts_here) none stood (done_later program here its its [] m after refl proceeds done stood are) at
        (subst (λ number. (one.unit == number) ≡ true) (sym reached.unit) unit) (is_static p.0.storage) place stored p.0
        (subst (Owning its.base (λ types said. IsOwn its.base types said.type_id)) same
        (front_own its.base place words m.typer scoped (own_here program here its [] m stands))) refl
        (λ word is_word static none. inside word is_word (front_static place words m.typer p.1 p.0 same static) none)))
    after_front place stored (Err why) same reached noted = tt

    -- A definition.
    pub definition_right : DefiningRight program here its m done (defined (length done) words it body m)
    definition_right =
        let place = first_place (brace_of body) words in
        after_front place (storage_place place words) (front place words m.typer) refl ((front_always place words).from m.typer scoped)
        ((front_notes (IsOfClaim program.types its) program.types place words).gives m.typer (names_allow program here its [] m stands))
