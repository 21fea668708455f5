-- A translation unit, in the program that it goes on to: its functions are as the program keeps them, and all names refer to what was claimed
-- (X3.159-1989 3.7).
--     IsRightFunction program it         the expressions, statements and declarations of its body meet the facts
--     externals_right                    the external declarations of a unit
use Rattle.std.proofs.Common.{◌≡◌, ℕ, suc, ◌+◌, Bool, true, List, [], ◌∷◌, ◌++◌, length, slice_get, Option, Some, None, Result, Ok, Err, refl, sym, ap, subst, ◌∙◌, arith}
use Rattle.std.specs.Prelude.{◌==◌}
use Rattle.std.proofs.lemmas.List.{append_assoc}
use Rattle.std.specs.List.{AllByRecursion}
use Rattle.hs_base.specs.Entries.{all_appended}
use Rattle.hs_base.specs.Tests.{true_false}
use Rattle.hs_declarations.specs.Declarations.{block_declared, file_declared}
use Rattle.hs_expressions.specs.Laws.{IsScoped}
use Rattle.hs_fitting.specs.Answers.{accepted}
use Rattle.hs_fitting.specs.Bodies.{DefinedRight, DefiningRight}
use Rattle.hs_fitting.specs.Claims.{Claims, Endures, Stands, Proceeds}
use Rattle.hs_fitting.specs.DefinedWhole.{definition_right}
use Rattle.hs_fitting.specs.Done.{AreDone, done_later}
use Rattle.hs_fitting.specs.HasLinks.{HasLink, MayBeItems, AreItemsLinked}
use Rattle.hs_fitting.specs.Lasting.{endures_before, is_place}
use Rattle.hs_fitting.specs.Moving.{Moving}
use Rattle.hs_fitting.specs.Passes.{AreWhole, Passes}
use Rattle.hs_fitting.specs.Phrases.{IsRightPhrase, IsRightItem}
use Rattle.hs_fitting.specs.Positions.{definition_at, function_counts, declaration_counts, LinksOf, AreLinked, links_with, declaration_links, function_links, declaration_static, function_static, no_place}
use Rattle.hs_fitting.specs.Units.{AllFit, IfFits, external_fits, externals_fit, with_fits_more, all_stay}
use Rattle.hs_fitting.specs.Walk.{Anywhere, Nothing, Walked, Walking, Walks, proceeds_self, proceeds_then}
use Rattle.hs_functions.specs.Functions.{defined}
use Rattle.hs_functions.specs.Units.{declared_if, place_of_declaration, external, with_function, externals}
use Rattle.hs_linkage.specs.Definitions.{has_static, declares_with, is_internal, text_of, definition_of, definitions_in, all_definitions}
use Rattle.hs_linkage.specs.Works.{work_with, pass}
use Rattle.hs_linkage.specs.declared.definitions.Definition.{Definition}
use Rattle.hs_linkage.specs.declared.translator.Translator.{Translator}
use Rattle.hs_syntax.specs.Trees as syntax
use Rattle.hs_syntax.specs.Trees.{Compound, Declaration, Declared, ExternalDeclaration, Specification}
use Rattle.hs_tokens.specs.declared.place.Place.{Place}
use Rattle.hs_tree.specs.Fitting.{FitsDefinition}
use Rattle.hs_tree.specs.Inside.{EachBlock}
use Rattle.hs_tree.specs.Trees.{TypedFunction, TypedProgram}
use Rattle.hs_typer.specs.Declarators.{word_of}
use Rattle.hs_typer.specs.declared.type_error.TypeError.{TypeError}
use Rattle.hs_types.specs.Growing.{grows_then}
use Rattle.hs_types.specs.TypeTables.{IsRight, Grows}

-- the expressions, statements and declarations of its body meet the facts
abbrev pub IsRightFunction : TypedProgram → TypedFunction → Type 0
IsRightFunction program it = EachBlock (IsRightPhrase program it) it.body

-- ---- what external declarations give

-- the functions, and what is known then
pub record GoneRight (program : TypedProgram) (here : List ℕ → Bool) (its : Claims) (m : Translator) (done : List TypedFunction)
    (all : List TypedFunction) (n : Translator) : Type 0 where
  pub claims : Claims
  pub proceeds : Proceeds program.types its m claims n
  pub stands : Stands program here claims [] n
  pub outside : n.locals ≡ []
  pub definitions : n.definitions ≡ m.definitions
  pub unit : n.typer.origins.unit ≡ m.typer.origins.unit
  pub functions : AreDone program claims n all
  pub gives : Endures program claims n → AllByRecursion (IsRightFunction program) done → AllByRecursion (IsRightFunction program) all

-- one after the other
gone_then : (program : TypedProgram) (here : List ℕ → Bool) (its : Claims) (m n p : Translator) (done some all : List TypedFunction)
    (first : GoneRight program here its m done some n) → Passes n p → GoneRight program here first.claims n some all p
    → GoneRight program here its m done all p
gone_then program here its m n p done some all first passes second =
    record {
      claims = second.claims;
      proceeds = proceeds_then program.types its first.claims second.claims m n p first.definitions first.proceeds second.proceeds;
      stands = second.stands;
      outside = second.outside;
      definitions = second.definitions ∙ first.definitions;
      unit = second.unit ∙ first.unit;
      functions = second.functions;
      gives = λ endures are. second.gives endures
          (first.gives (endures_before program first.claims second.claims n p passes second.proceeds endures) are);
    }

-- of an answer to one of them, which gives the names that it declares links
abbrev OneRight : TypedProgram → (List ℕ → Bool) → Claims → Translator → List TypedFunction → ExternalDeclaration
    → Result (Option TypedFunction × Translator) TypeError → Type 0
OneRight program here its m done it (Ok p) =
    Grows p.1.typer.types program.types → GoneRight program here its m done (with_function done p.0) p.1 × LinksOf it p.1
OneRight program here its m done it (Err why) = Unit {0}

abbrev pub GoingRight : TypedProgram → (List ℕ → Bool) → Claims → Translator → List TypedFunction → Result (List TypedFunction × Translator) TypeError
    → Type 0
GoingRight program here its m done (Ok p) = Grows p.1.typer.types program.types → GoneRight program here its m done p.0 p.1
GoingRight program here its m done (Err why) = Unit {0}

-- a function
some_right : (program : TypedProgram) (here : List ℕ → Bool) (its : Claims) (m : Translator) (done : List TypedFunction) (words : Specification)
    (it : Declared) (body : Compound) (one : Definition) → slice_get m.definitions (length done) ≡ Some one → one.name ≡ text_of (word_of it)
    → (given : Result (TypedFunction × Translator) TypeError) → DefiningRight program here its m done given
    → OneRight program here its m done (syntax.function_definition words it body) (work_with (λ its. pass (Some its)) given)
some_right program here its m done words it body one at named (Ok p) right = λ grows.
    let is : DefinedRight program here its m done p = right grows in (
      record {
        claims = is.claims;
        proceeds = is.proceeds;
        stands = is.stands;
        outside = is.outside;
        definitions = is.definitions;
        unit = is.unit;
        functions = is.functions;
        gives = λ endures are. all_appended (IsRightFunction program) done (p.0 ∷ []) are (is.gives endures, tt);
      },
      function_links words it body p.1 (subst (λ name. HasLink name p.1) named (is.linked one at)),
    )
some_right program here its m done words it body one at named (Err why) right = tt

-- if the specifiers are of objects and functions, the names of the declarators have links
abbrev AreDeclared : Declaration → Translator → Type 0
AreDeclared it m = declares_with it.specifiers ≡ true → AreItemsLinked it.items m

module _ (program : TypedProgram) (sound : IsRight program.types) (anyone : TypedFunction)
    (declared : (here : List ℕ → Bool) (function : TypedFunction) (other : Place) (it : Declaration)
    → Walks here program function Anywhere (block_declared other it) Nothing (λ its. AllByRecursion (IsRightItem program function) its))
    (file_walks : (here : List ℕ → Bool) (other : Place) (it : Declaration)
    → Walks here program anyone (λ its m. MayBeItems here (has_static it.specifiers) it.items m) (file_declared other it)
    (λ its m done. AreDeclared it m) (λ done. Unit {0}))
    (file_locals : (other : Place) (it : Declaration) (m : Translator) (p : Unit {0} × Translator) → file_declared other it m ≡ Ok p
    → (p.1.locals ≡ m.locals) × (p.1.definitions ≡ m.definitions))
    (units before : List (List ExternalDeclaration)) (unit : List ExternalDeclaration) (after : List (List ExternalDeclaration))
    (are_units : units ≡ before ++ unit ∷ after) where
  -- what has internal linkage in the unit
  abbrev here : List ℕ → Bool
  here = is_internal unit

  -- something else than a function
  none_right : (its : Claims) (m : Translator) (done : List TypedFunction) → m.locals ≡ [] → AreDone program its m done → (it : Declaration)
      → (given : Result (Unit {0} × Translator) TypeError) → Moving m given
      → ((p : Unit {0} × Translator) → given ≡ Ok p → p.1.locals ≡ m.locals)
      → Walking here program anyone its m (λ its m done. AreDeclared it m) (λ it. Unit {0}) given
      → OneRight program here its m done (syntax.declaration it)
      (work_with {A = Unit {0}} {B = Option TypedFunction} (λ ready. pass None) given)
  none_right its m done none are it (Ok p) moves locals walking = λ grows.
      let walked : Walked here program anyone its m (λ its m done. AreDeclared it m) (λ it. Unit {0}) p = walking grows in
      let stood : Stands program here walked.claims [] p.1
      = subst (λ its. Stands program here walked.claims its p.1) (locals p refl ∙ none) walked.stands in (
        record {
          claims = walked.claims;
          proceeds = walked.proceeds;
          stands = stood;
          outside = locals p refl ∙ none;
          definitions = moves.definitions;
          unit = moves.typer.unit;
          functions = done_later program here its walked.claims [] m p.1 moves.definitions walked.proceeds done stood are;
          gives = λ endures are. are;
        },
        declaration_links it p.1 walked.known,
      )
  none_right its m done none are it (Err why) moves locals walking = tt

  -- if it has a place
  declared_right : (its : Claims) (m : Translator) (done : List TypedFunction) → IsScoped m.typer → m.typer.counts ≡ true → m.locals ≡ []
      → Stands program here its [] m → AreDone program its m done → (it : Declaration) → MayBeItems here (has_static it.specifiers) it.items m
      → (place : Option Place) → place_of_declaration it ≡ place
      → OneRight program here its m done (syntax.declaration it)
      (work_with {A = Unit {0}} {B = Option TypedFunction} (λ ready. pass None) (declared_if place it m))
  declared_right its m done scoped counts none stands are it inside None placed = λ grows. (
    record {
      claims = its;
      proceeds = proceeds_self program.types its m;
      stands = stands;
      outside = none;
      definitions = refl;
      unit = refl;
      functions = are;
      gives = λ endures are. are;
    },
    declaration_links it m (λ declares. absurd (true_false (declares_with it.specifiers) declares (no_place it placed))),
  )
  declared_right its m done scoped counts none stands are it inside (Some place) placed =
      let walks = file_walks here place it in
      none_right its m done none are it (file_declared place it m) (walks.moved.from m scoped) (λ p same. (file_locals place it m p same).0)
      (walks.from its m scoped counts (subst (λ its'. Stands program here its its' m) (sym none) stands) inside)

  -- one external declaration; those before it are `first`
  external_right : (first rest : List ExternalDeclaration) (it : ExternalDeclaration) → unit ≡ first ++ it ∷ rest → (its : Claims) (m : Translator)
      (done : List TypedFunction) → IsScoped m.typer → m.typer.counts ≡ true → m.locals ≡ [] → Stands program here its [] m → AreLinked first m
      → AreDone program its m done → m.definitions ≡ all_definitions 0 units → m.typer.origins.unit ≡ length before
      → length done ≡ length (all_definitions 0 before) + length (definitions_in (length before) unit first)
      → OneRight program here its m done it (external (length done) it m)
  external_right first rest (syntax.function_definition words it body) is_unit its m done scoped counts none stands linked are all number count =
      let one : Definition = definition_of (length before) unit (text_of (word_of it)) in
      let at_number : slice_get m.definitions (length done) ≡ Some one
      = subst (λ all. slice_get all (length done) ≡ Some one) (sym all)
      (subst (λ n. slice_get (all_definitions 0 units) n ≡ Some one) (sym count)
      (definition_at units before unit after are_units first rest words it body is_unit)) in
      some_right program here its m done words it body one at_number refl (defined (length done) words it body m)
      (definition_right program here sound (declared here) its done one it body refl m scoped counts none stands are at_number
      (subst (λ n. (length before == n) ≡ true) (sym number) (is_place (length before))) words
      (function_static unit first rest words it body m is_unit linked))
  external_right first rest (syntax.declaration it) is_unit its m done scoped counts none stands linked are all number count =
      declared_right its m done scoped counts none stands are it (declaration_static unit first rest it m is_unit linked) (place_of_declaration it) refl

  -- how many functions there are then
  with_counts : (first rest : List ExternalDeclaration) (it : ExternalDeclaration) (done : List TypedFunction) (p : Option TypedFunction × Translator)
      (m : Translator) → external (length done) it m ≡ Ok p
      → length done ≡ length (all_definitions 0 before) + length (definitions_in (length before) unit first)
      → length (with_function done p.0) ≡ length (all_definitions 0 before) + length (definitions_in (length before) unit (first ++ it ∷ []))
  with_counts first rest (syntax.function_definition words it body) done p m same count =
      given_some (defined (length done) words it body m) same
    where
      one_more : (f : TypedFunction) → length (done ++ f ∷ [])
          ≡ length (all_definitions 0 before) + length (definitions_in (length before) unit (first ++ syntax.function_definition words it body ∷ []))
      one_more f =
          Rattle.std.proofs.lemmas.List.length-append done (f ∷ [])
          ∙ up (length done) (length (all_definitions 0 before)) (length (definitions_in (length before) unit first))
          (length (definitions_in (length before) unit (first ++ syntax.function_definition words it body ∷ []))) count
          (function_counts (length before) unit first words it body)
        where
          up : (a b c d : ℕ) → a ≡ b + c → d ≡ suc c → a + 1 ≡ b + d
          up a b c d is is' = omega (arith, is, is')

      given_some : (given : Result (TypedFunction × Translator) TypeError) → work_with (λ its. pass (Some its)) given ≡ Ok p
          → length (with_function done p.0)
          ≡ length (all_definitions 0 before) + length (definitions_in (length before) unit (first ++ syntax.function_definition words it body ∷ []))
      given_some (Ok q) same = subst (λ p. length (with_function done p.0)
          ≡ length (all_definitions 0 before) + length (definitions_in (length before) unit (first ++ syntax.function_definition words it body ∷ [])))
          (accepted (Some q.0, q.1) p same) (one_more q.0)
      given_some (Err why) same = absurd cc
  with_counts first rest (syntax.declaration it) done p m same count = given_none (declared_if (place_of_declaration it) it m) same
    where
      as_many : length done ≡ length (all_definitions 0 before) + length (definitions_in (length before) unit (first ++ syntax.declaration it ∷ []))
      as_many = count ∙ ap (λ n. length (all_definitions 0 before) + n) (sym (declaration_counts (length before) unit first it))

      given_none : (given : Result (Unit {0} × Translator) TypeError) → work_with {A = Unit {0}} {B = Option TypedFunction} (λ ready. pass None) given ≡ Ok p
          → length (with_function done p.0)
          ≡ length (all_definitions 0 before) + length (definitions_in (length before) unit (first ++ syntax.declaration it ∷ []))
      given_none (Ok q) same = subst (λ p. length (with_function done p.0)
          ≡ length (all_definitions 0 before) + length (definitions_in (length before) unit (first ++ syntax.declaration it ∷ [])))
          (accepted (None, q.1) p same) as_many
      given_none (Err why) same = absurd cc

  -- ---- all external declarations of the unit

  -- one of them, and the others
  next_right : (first rest : List ExternalDeclaration) (it : ExternalDeclaration) (its : Claims) (m : Translator) (done : List TypedFunction)
      (given : Result (Option TypedFunction × Translator) TypeError) → AllByRecursion (FitsDefinition m.typer.types) done → IfFits m given
      → OneRight program here its m done it given
      → ((p : Option TypedFunction × Translator) → given ≡ Ok p → (claims : Claims) → IsScoped p.1.typer → p.1.typer.counts ≡ true → p.1.locals ≡ []
      → AllByRecursion (FitsDefinition p.1.typer.types) (with_function done p.0)
      → Stands program here claims [] p.1 → Proceeds program.types its m claims p.1 → LinksOf it p.1
      → AreDone program claims p.1 (with_function done p.0) → p.1.definitions ≡ m.definitions
      → p.1.typer.origins.unit ≡ m.typer.origins.unit
      → GoingRight program here claims p.1 (with_function done p.0) (externals (with_function done p.0) rest p.1))
      → m.typer.counts ≡ true
      → GoingRight program here its m done (work_with (λ next. externals (with_function done next) rest) given)
  next_right first rest it its m done (Err why) fit fits right others counts = tt
  next_right first rest it its m done (Ok p) fit fits right others counts =
      behind (externals (with_function done p.0) rest p.1)
      (externals_fit rest (with_function done p.0) p.1 fits.0.scoped fits.0.whole fit_then)
      (λ one links. others p refl one.claims fits.0.scoped (fits.0.counts ∙ counts) one.outside fit_then one.stands one.proceeds links one.functions
      one.definitions one.unit)
    where
      fit_then : AllByRecursion (FitsDefinition p.1.typer.types) (with_function done p.0)
      fit_then = with_fits_more p.1.typer.types done p.0 (all_stay m.typer.types p.1.typer.types done fits.0.types fit) fits.1

      behind : (given : Result (List TypedFunction × Translator) TypeError) → AllFit p.1 given
          → ((one : GoneRight program here its m done (with_function done p.0) p.1) → LinksOf it p.1
          → GoingRight program here one.claims p.1 (with_function done p.0) given) → GoingRight program here its m done given
      behind (Ok q) all going = λ grows.
          let one = right (grows_then p.1.typer.types q.1.typer.types program.types all.0.types grows) in
          gone_then program here its m p.1 q.1 done (with_function done p.0) q.0 one.0 all.0 (going one.0 one.1 grows)
      behind (Err why) all going = tt

  -- in their order
  pub externals_right : (first rest : List ExternalDeclaration) → unit ≡ first ++ rest → (its : Claims) (m : Translator) (done : List TypedFunction)
      → IsScoped m.typer → m.typer.counts ≡ true → m.locals ≡ [] → AllByRecursion (FitsDefinition m.typer.types) done
      → Stands program here its [] m → AreLinked first m → AreDone program its m done → m.definitions ≡ all_definitions 0 units
      → m.typer.origins.unit ≡ length before
      → length done ≡ length (all_definitions 0 before) + length (definitions_in (length before) unit first)
      → GoingRight program here its m done (externals done rest m)
  externals_right first [] is_unit its m done scoped counts none fit stands linked are all number count = λ grows.
      record {
        claims = its;
        proceeds = proceeds_self program.types its m;
        stands = stands;
        outside = none;
        definitions = refl;
        unit = refl;
        functions = are;
        gives = λ endures are. are;
      }
  externals_right first (it ∷ rest) is_unit its m done scoped counts none fit stands linked are all number count =
      next_right first rest it its m done (external (length done) it m) fit
      (external_fits (length done) it m scoped (subst (AreWhole m.typer.types) (sym none) tt))
      (external_right first rest it is_unit its m done scoped counts none stands linked are all number count)
      (λ p same claims scoped' counts' none' fit' stands' proceeds' links' are' definitions' unit'.
      externals_right (first ++ it ∷ []) rest (is_unit ∙ sym (append_assoc first (it ∷ []) rest)) claims p.1 (with_function done p.0) scoped' counts' none' fit'
      stands' (links_with program.types its claims m p.1 first it proceeds' unit' linked links') are' (definitions' ∙ all) (unit' ∙ number)
      (with_counts first rest it done p m same count))
      counts
