-- Declarations of file scope refer to what was claimed, and start objects with what fits them (X3.159-1989 3.5 and 3.7.2).
--     then_plain, any_typing          steps of which no fact is wanted
--     given_walks                     facts that do not change
--     file_declared_walks             a declaration of file scope
use Rattle.std.proofs.Common.{◌≡◌, ℕ, Bool, true, false, not, ◌&&◌, ◌||◌, List, [], ◌∷◌, ◌++◌, slice_get, Option, Some, None, Ok, is_none, refl, sym, ap, subst, ◌∙◌, if◌then◌else◌}
use Rattle.std.specs.List.{AllByRecursion}
use Rattle.hs_base.specs.Options.{some_same}
use Rattle.hs_base.specs.Tests.{true_false, not_false}
use Rattle.hs_base.specs.Entries.{all_appended}
use Rattle.hs_declarations.specs.Declarations.{is_object, can_start, is_first, object_started, started_as, object_with_start, may_be_tentative, is_internal_link, keeps_linkage, awaits_body, tentative_of, tentative, file_object, function_declared, file_entity, is_static, is_typedef_word, file_item_as, file_item, file_items, typedef_as, typedef_item, typedef_types, typedef_named, typedefs_named, typedef_items, file_items_as, file_declared_at, file_declared}
use Rattle.hs_declarations.specs.Fronts.{front, item_type, lone_tag, place_of_start}
use Rattle.hs_declarations.specs.declared.fronts.Front.{Front}
use Rattle.hs_expressions.specs.Expressions.{first_place}
use Rattle.hs_expressions.specs.Laws.{IsConstant, IsScoped}
use Rattle.hs_fitting.specs.BlockWalks.{either_known_walks, nothing_named_walks, function_declared_walks, object_walks}
use Rattle.hs_fitting.specs.Claims.{Claims, Endures, Proceeds, Stands, category_at}
use Rattle.hs_fitting.specs.Declaring.{tentative_moved}
use Rattle.hs_fitting.specs.Initialised.{initialised_walks}
use Rattle.hs_fitting.specs.Known.{own_here, typing_fully, typing_walks}
use Rattle.hs_fitting.specs.Lasting.{endures_moves}
use Rattle.hs_fitting.specs.HasLinks.{HasLink, MayBeStatic, MayBeItem, IsItemLinked, MayBeItems, AreItemsLinked, static_linked, item_kept, items_kept, item_linked_kept, items_so}
use Rattle.hs_fitting.specs.LinkedNames.{IsReferred, kept_walks, with_link, with_static, define_object_walks, named_walks, linked_walks, completed_link_walks}
use Rattle.hs_fitting.specs.Moves.{Moves}
use Rattle.hs_fitting.specs.Moving.{Moved}
use Rattle.hs_fitting.specs.Noting.{Notes}
use Rattle.hs_fitting.specs.NotingCalm.{note_tentative_notes}
use Rattle.hs_fitting.specs.NotingDeclaring.{front_notes}
use Rattle.hs_fitting.specs.OwnWalks.{OwnId, own_kept, own_over, item_own_walks, initialised_also}
use Rattle.hs_fitting.specs.Owned.{IsOwn}
use Rattle.hs_fitting.specs.Owning.{Owning, front_own}
use Rattle.hs_fitting.specs.Storage.{front_static, front_typedef}
use Rattle.hs_fitting.specs.Walk.{Anywhere, Nothing, Walking, Walks, stays_walked, passes_walks, stops_walks, unless_walks, then_walks, so_walks}
use Rattle.hs_fitting.specs.Whole.{MayStart}
use Rattle.hs_initialisers.specs.Initialisers.{initialised}
use Rattle.hs_linkage.specs.Definitions.{storage_word, or_storage, storage_of, says_typedef, has_static, declares_with}
use Rattle.hs_linkage.specs.Linkage.{is_function, linked, completed_link, clash_of}
use Rattle.hs_linkage.specs.Objects.{is_defined}
use Rattle.hs_linkage.specs.Works.{Work, ◌>>=◌, typing}
use Rattle.hs_linkage.specs.declared.translator.Translator.{Translator}
use Rattle.hs_operand_types.specs.Types.{is_open}
use Rattle.hs_syntax.specs.Trees as syntax
use Rattle.hs_syntax.specs.Trees.{Declaring, Declaration, Initialising, Specification}
use Rattle.hs_syntax.specs.declared.word.Word.{Word}
use Rattle.hs_tokens.specs.declared.place.Place.{Place}
use Rattle.hs_tree.specs.Kinds.{of_function, category_of}
use Rattle.hs_tree.specs.Objects.{FitsParts}
use Rattle.hs_tree.specs.Trees.{TypedFunction, TypedProgram}
use Rattle.hs_tree.specs.declared.constant.Part.{Part}
use Rattle.hs_names.specs.Scopes.{find}
use Rattle.hs_syntax.specs.declared.operators.Storage.{Storage}
use Rattle.hs_tree.specs.declared.head.Variable.TheVariants as variable
use Rattle.hs_typer.specs.Declarators.{word_of}
use Rattle.hs_typer.specs.Declaring.{note_tentative}
use Rattle.hs_typer.specs.declared.marks.Tentative.{Tentative}
use Rattle.hs_typer.specs.Steps.{Step}
use Rattle.hs_typer.specs.declared.type_error.TypeError.TheVariants.{Untyped}
use Rattle.hs_typer.specs.declared.typer.Entity.{Entity}
use Rattle.hs_typer.specs.declared.typer.Entity.TheVariants as entity
use Rattle.hs_types.specs.TypeTables.{TypeTable, IsRight, is_complete}
use Rattle.hs_types.specs.declared.row.TypeId.{TypeId}

-- ---- facts

-- no function has that type
abbrev pub IsNoFunction : TypeTable → TypeId → Type 0
IsNoFunction types id = category_of types id ≡ Some of_function → ⊥

-- an object of that category
abbrev pub IsObjectAt : TypeTable → ℕ → TypeId → Translator → Type 0
IsObjectAt types place id m = category_at types (slice_get m.objects place) ≡ Some (category_of types id)

-- an object, and what it starts with
abbrev IsStartedAt : TypedProgram → ℕ → TypeId → List Part → Claims → Translator → Type 0
IsStartedAt program place id parts its m = IsObjectAt program.types place id m × (Endures program its m → FitsParts program id parts)

-- an object that may get an initialiser
abbrev IsReady : TypedProgram → ℕ → TypeId → Claims → Translator → Type 0
IsReady program place id its m =
    MayStart m.typer.types id × (IsObjectAt program.types place id m × IsNoFunction program.types id) × OwnId id its m

-- An object that is linked, by its name: a declaration with a type that is no function type refers to it.
abbrev IsObjectLinked : TypedProgram → Word → TypeId → Entity → Claims → Translator → Type 0
IsObjectLinked program word id it its m = IsReferred program.types word id it its m × IsNoFunction program.types id

-- types of this unit
abbrev AllOwn : List TypeId → Claims → Translator → Type 0
AllOwn ids its m = AllByRecursion (λ id. OwnId id its m) ids

-- which they stay
all_own_kept : (types : TypeTable) (ids : List TypeId) (its later : Claims) (m n : Translator) → Proceeds types its m later n → Moves m n
    → AllOwn ids its m → AllOwn ids later n
all_own_kept types [] its later m n proceeds moves are = tt
all_own_kept types (id ∷ rest) its later m n proceeds moves are =
    (own_kept types id its later m n proceeds moves are.0, all_own_kept types rest its later m n proceeds moves are.1)

-- which stays so
started_kept : (program : TypedProgram) (place : ℕ) (id : TypeId) (parts : List Part) (its later : Claims) (m n : Translator)
    → Proceeds program.types its m later n → Moves m n → IsStartedAt program place id parts its m → IsStartedAt program place id parts later n
started_kept program place id parts its later m n proceeds moves is =
    (proceeds.objects place (category_of program.types id) is.0, λ endures. is.1 (endures_moves program its later m n moves proceeds endures))

-- ---- steps

module _ {here : List ℕ → Bool} {program : TypedProgram} {function : TypedFunction} where
  -- one after another, with no fact of what is given
  pub then_plain : {A B : Type 0} → {pre : Claims → Translator → Type 0} → {after : Claims → Translator → A → Type 0}
      → {after' : Claims → Translator → B → Type 0} → {next : A → Work B} → (first : Work A)
      → Walks here program function pre first after (λ it. Unit {0})
      → ((it : A) → Walks here program function (λ its m. after its m it) (next it) after' (λ made. Unit {0}))
      → Walks here program function pre (first >>= next) after' (λ made. Unit {0})
  then_plain {after = after} {after' = after'} first is are =
      then_walks {after = after} {after' = after'} {holds = λ it. Unit {0}} first is
      (λ it. so_walks (λ its m met. met) (λ its m made met. met) (λ made met before. tt) (are it))

  -- a step of typing of which no fact is wanted
  pub any_typing : {A : Type 0} → {pre : Claims → Translator → Type 0} → (step : Step A)
      → ((Q : ℕ → TypeId → Type 0) → Notes Q program.types IsConstant (λ it. Unit {0}) step)
      → Walks here program function pre (typing step) Nothing (λ it. Unit {0})
  any_typing step notes = typing_walks step notes (λ s scoped counts knows binds p given noted. tt)

  -- with a fact that does not depend on the place
  pub given_walks : {A : Type 0} → {pre : Claims → Translator → Type 0} → {after : Claims → Translator → A → Type 0} → {holds : A → Type 0}
      → {work : Work A} → (P : Type 0)
      → Moved work → (P → Walks here program function pre work after holds)
      → Walks here program function (λ its m. P × pre its m) work after holds
  given_walks P moved walks =
      record { moved = moved; from = λ its m scoped counts stands met. (walks met.0).from its m scoped counts stands met.1 }

module _ {here : List ℕ → Bool} {program : TypedProgram} {function : TypedFunction} (sound : IsRight program.types) where
  -- ---- the definition of an object

  -- its initialiser
  started_walks : (word : Word) (id : TypeId) (it : Initialising) (place : ℕ)
      → Walks here program function
      (λ its m. MayStart m.typer.types id × (IsObjectAt program.types place id m × IsNoFunction program.types id))
      (typing (initialised word.place id it))
      (λ its m p. IsStartedAt program place p.0 p.1 its m × IsNoFunction program.types p.0) (λ p. Unit {0})
  started_walks word id it place =
      so_walks (λ its m is. is)
      (λ its m p is. ((is.1.0 ∙ ap Some (sym is.0.1), is.0.0), λ same. is.1.1 (sym is.0.1 ∙ same))) (λ p is. is)
      (kept_walks (λ its m. IsObjectAt program.types place id m × IsNoFunction program.types id)
      (λ its later m n proceeds moves is. (proceeds.objects place (category_of program.types id) is.0, is.1))
      (initialised_walks sound word.place id it))

  -- its name with the last type
  completed_walks : (static : Bool) (word : Word) (id : TypeId) (parts : List Part) (place : ℕ)
      → Walks here program function
      (λ its m. ((IsStartedAt program place id parts its m × IsNoFunction program.types id) × OwnId id its m) × HasLink word.text m)
      (completed_link static word id) (λ its m again. IsStartedAt program place id parts its m) (λ again. Unit {0})
  completed_walks static word id parts place =
      so_walks (λ its m is. (((λ other. is.0.0.1, is.0.1), static_linked here static word m is.1), is.0.0.0)) (λ its m again is. is.1) (λ again is. is)
      (kept_walks (λ its m. IsStartedAt program place id parts its m)
      (λ its later m n proceeds moves is. started_kept program place id parts its later m n proceeds moves is)
      (completed_link_walks static word id))

  -- the whole definition
  object_started_walks : (static : Bool) (word : Word) (it : Initialising) (place : ℕ) (id : TypeId)
      → Walks here program function
      (λ its m. ((IsObjectAt program.types place id m × IsNoFunction program.types id) × OwnId id its m) × HasLink word.text m)
      (object_started static word it place id) Nothing (λ done. Unit {0})
  object_started_walks static word it place id =
      then_plain {after = λ its m done. IsReady program place id its m × HasLink word.text m} (can_start word id)
      (unless_walks (Untyped word.place) (λ m. not (is_complete m.typer.types id || is_open m.typer.types id))
      (λ its m met failed. ((not_false (is_complete m.typer.types id || is_open m.typer.types id) failed, met.0.0, met.0.1), met.1)))
      (λ may. then_plain {after = λ its m done. IsReady program place id its m × HasLink word.text m} (is_first word place)
      (unless_walks (clash_of word) (λ m. is_defined (slice_get m.objects place)) (λ its m met failed. met))
      (λ first. then_plain (typing (initialised word.place id it))
      (with_link word.text
      (so_walks (λ its m is. ((is.0, is.1), (is.0, is.2))) (λ its m p is. is) (λ p is. is)
      (initialised_also word.place id it (started_walks word id it place))))
      (λ p. then_plain (completed_link static word p.0) (completed_walks static word p.0 p.1 place)
      (λ again. define_object_walks place p.0 p.1))))

  -- its name keeps its link
  object_kept_walks : (static : Bool) (word : Word) (it : Initialising) (place : ℕ) (id : TypeId)
      → Walks here program function
      (λ its m. ((IsObjectAt program.types place id m × IsNoFunction program.types id) × OwnId id its m) × HasLink word.text m)
      (object_started static word it place id) (λ its m done. HasLink word.text m) (λ done. Unit {0})
  object_kept_walks static word it place id =
      so_walks (λ its m is. (is, is.1)) (λ its m done is. is.1) (λ done is. is)
      (with_link word.text (object_started_walks static word it place id))

  -- the object that the name is linked to
  started_as_walks : (static : Bool) (word : Word) (it : Initialising) (id : TypeId) (entity : Entity)
      → Walks here program function (λ its m. IsObjectLinked program word id entity its m) (started_as static word it entity)
      (λ its m done. HasLink word.text m) (λ done. Unit {0})
  started_as_walks static word it id (entity.Constant bits) = passes_walks tt (λ its m met. met.0.4) tt
  started_as_walks static word it id (entity.Variable (variable.Global place) old) =
      so_walks (λ its m is.
      let same : category_of program.types old ≡ category_of program.types id
      = some_same (category_of program.types old) (category_of program.types id) (sym is.0.0 ∙ is.0.1) in
      (((is.0.0, λ other. is.1 (sym same ∙ other)), is.0.3), is.0.4)) (λ its m done is. is) (λ done is. is)
      (object_kept_walks static word it place old)
  started_as_walks static word it id (entity.Variable (variable.Local place) old) = passes_walks tt (λ its m met. met.0.4) tt
  started_as_walks static word it id (entity.Function old to) = passes_walks tt (λ its m met. met.0.4) tt
  started_as_walks static word it id (entity.Typedef old) = passes_walks tt (λ its m met. met.0.4) tt

  -- if it has an initialiser
  with_start_walks : (static : Bool) (word : Word) (it : Option Initialising) (id : TypeId) (entity : Entity)
      → Walks here program function (λ its m. IsObjectLinked program word id entity its m) (object_with_start static word it entity)
      (λ its m done. HasLink word.text m) (λ done. Unit {0})
  with_start_walks static word None id its = passes_walks tt (λ its m met. met.0.4) tt
  with_start_walks static word (Some it) id its = started_as_walks static word it id its

  -- its name
  object_linked_walks : (static : Bool) (word : Word) (id : TypeId)
      → Walks here program function
      (λ its m. (IsNoFunction program.types id × OwnId id its m) × MayBeStatic here static word m) (linked static word id)
      (λ its m it. IsObjectLinked program word id it its m) (λ it. Unit {0})
  object_linked_walks static word id =
      so_walks (λ its m is. (((λ other. is.0.0, is.0.1), is.1), is.0.0)) (λ its m it is. is) (λ it is. is)
      (kept_walks (λ its m. IsNoFunction program.types id) (λ its later m n proceeds moves is. is) (linked_walks static word id))

  -- an object whose type is not complete is noted
  noted_walks : (id : TypeId) (entry : Tentative)
      → Walks here program function (λ its m. IsNoFunction program.types id × OwnId id its m) (typing (note_tentative entry))
      (λ its m done. IsNoFunction program.types id × OwnId id its m) (λ done. Unit {0})
  noted_walks id entry =
      so_walks (λ its m is. (tt, is)) (λ its m done is. is.1) (λ done is. is)
      (kept_walks (λ its m. IsNoFunction program.types id × OwnId id its m)
      (λ its later m n proceeds moves is. (is.0, own_kept program.types id its later m n proceeds moves is.1))
      (any_typing {pre = Anywhere} (note_tentative entry) (λ Q. note_tentative_notes Q program.types entry)))

  tentative_walks : (storage : Option Storage) (word : Word) (id : TypeId) (it : Option Initialising)
      → Walks here program function (λ its m. IsNoFunction program.types id × OwnId id its m) (tentative storage word id it)
      (λ its m done. IsNoFunction program.types id × OwnId id its m) (λ done. Unit {0})
  tentative_walks storage word id it =
      record {
        moved = tentative_moved storage word id it;
        from = λ its m scoped counts stands met. by_test (awaits_body storage id it m) its m scoped counts stands met;
      }
    where
      by_test : (b : Bool) (its : Claims) (m : Translator) → IsScoped m.typer → m.typer.counts ≡ true → Stands program here its m.locals m
          → IsNoFunction program.types id × OwnId id its m
          → Walking {A = Unit {0}} here program function its m (λ its m done. IsNoFunction program.types id × OwnId id its m) (λ done. Unit {0})
          (if b then typing (note_tentative (tentative_of word id m)) m else Ok (tt, m))
      by_test true its m scoped counts stands met = (noted_walks id (tentative_of word id m)).from its m scoped counts stands met
      by_test false its m scoped counts stands met =
          stays_walked here program function (λ its m done. IsNoFunction program.types id × OwnId id its m) (λ done. Unit {0}) tt its m stands met tt

  -- an object of file scope
  file_object_walks : (storage : Option Storage) (word : Word) (id : TypeId) (it : Option Initialising)
      → Walks here program function (λ its m. OwnId id its m × MayBeStatic here (is_static storage) word m) (file_object storage word id it)
      (λ its m done. HasLink word.text m) (λ done. Unit {0})
  file_object_walks storage word id it =
      then_plain (is_object word id) (with_static (is_static storage) word (own_over id (object_walks {pre = Anywhere} word id)))
      (λ may. then_plain
      {after = λ its m done. (IsNoFunction program.types id × OwnId id its m) × MayBeStatic here (is_static storage) word m}
      (may_be_tentative (is_static storage) word id it)
      (unless_walks (Untyped word.place) (λ m. is_static storage && is_none it && not (is_complete m.typer.types id)) (λ its m met failed. met))
      (λ whole. then_plain
      {after = λ its m done. (IsNoFunction program.types id × OwnId id its m) × MayBeStatic here (is_static storage) word m}
      (keeps_linkage storage word)
      (unless_walks (Untyped word.place) (λ m. is_none storage && is_internal_link (find word.text m.links)) (λ its m met failed. met))
      (λ keeps. then_plain (tentative storage word id it) (with_static (is_static storage) word (tentative_walks storage word id it))
      (λ noted. then_plain (linked (is_static storage) word id) (object_linked_walks (is_static storage) word id)
      (λ its. with_start_walks (is_static storage) word it id its)))))

  -- ---- declarators

  -- by its type
  file_entity_walks : (storage : Option Storage) (word : Word) (id : TypeId) (it : Option Initialising)
      → Walks here program function (λ its m. OwnId id its m × MayBeStatic here (is_static storage) word m) (file_entity storage word id it)
      (λ its m done. HasLink word.text m) (λ done. Unit {0})
  file_entity_walks storage word id it =
      either_known_walks (λ m. is_function m.typer.types id) (function_declared (is_static storage) word id it) (file_object storage word id it)
      (so_walks (λ its m is. ((λ other. absurd (true_false (is_function m.typer.types id) is.1 other), is.0.0), is.0.1)) (λ its m done is. is)
      (λ done is. is) (function_declared_walks (is_static storage) word id it))
      (so_walks (λ its m is. is.0) (λ its m done is. is) (λ done is. is) (file_object_walks storage word id it))

  -- a declarator names something
  file_item_as_walks : (storage : Option Storage) (at : Place) (o : Option Word) (id : TypeId) (it : Option Initialising)
      → Walks here program function (λ its m. OwnId id its m × MayBeItem here (is_static storage) o m) (file_item_as storage at o id it)
      (λ its m done. IsItemLinked o m) (λ done. Unit {0})
  file_item_as_walks storage at None id it = stops_walks (Untyped at)
  file_item_as_walks storage at (Some word) id it =
      so_walks (λ its m is. (is.0, is.1 word refl)) (λ its m done has other same. subst (λ word. HasLink word.text m) (some_same word other same) has)
      (λ done is. is) (file_entity_walks storage word id it)

  -- one declarator
  file_item_walks : (storage : Option Storage) (at : Place) (base : TypeId) (it : Declaring)
      → Walks here program function (λ its m. OwnId base its m × MayBeItem here (is_static storage) (word_of it.declarator) m)
      (file_item storage at base it) (λ its m done. IsItemLinked (word_of it.declarator) m) (λ done. Unit {0})
  file_item_walks storage at base it =
      then_plain (typing (item_type at base it.declarator))
      (kept_walks (λ its m. MayBeItem here (is_static storage) (word_of it.declarator) m)
      (λ its later m n proceeds moves is.
      item_kept program.types here (is_static storage) (word_of it.declarator) its later m n proceeds moves is)
      (item_own_walks at base it.declarator))
      (λ id. file_item_as_walks storage at (word_of it.declarator) id it.initialiser)

  -- those of a declaration
  file_items_walks : (storage : Option Storage) (at : Place) (base : TypeId) (items : List Declaring)
      → Walks here program function (λ its m. OwnId base its m × MayBeItems here (is_static storage) items m) (file_items storage at base items)
      (λ its m done. AreItemsLinked items m) (λ done. Unit {0})
  file_items_walks storage at base [] = passes_walks tt (λ its m met. tt) tt
  file_items_walks storage at base (it ∷ rest) =
      then_plain (file_item storage at base it)
      (so_walks (λ its m is. ((is.0, is.1.0), (is.0, is.1.1))) (λ its m done is. is) (λ done is. is)
      (kept_walks (λ its m. OwnId base its m × MayBeItems here (is_static storage) rest m)
      (λ its later m n proceeds moves is. (
        own_kept program.types base its later m n proceeds moves is.0,
        items_kept program.types here (is_static storage) rest its later m n proceeds moves is.1,
      )) (file_item_walks storage at base it)))
      (λ done. so_walks (λ its m is. (is.1, is.0)) (λ its m done is. (is.1, is.0)) (λ done is. is)
      (kept_walks (λ its m. IsItemLinked (word_of it.declarator) m)
      (λ its later m n proceeds moves is. item_linked_kept program.types (word_of it.declarator) its later m n proceeds moves is)
      (file_items_walks storage at base rest)))

  -- ---- typedef names

  -- the type of one
  typedef_as_walks : (at : Place) (o : Option Word) (id : TypeId) (it : Option Initialising)
      → Walks here program function (λ its m. OwnId id its m) (typedef_as at o id it) (λ its m id. OwnId id its m) (λ id. Unit {0})
  typedef_as_walks at None id it = stops_walks (Untyped at)
  typedef_as_walks at (Some word) id None = passes_walks id (λ its m met. met) tt
  typedef_as_walks at (Some word) id (Some it) = stops_walks (Untyped (place_of_start it))

  -- of a declarator
  typedef_item_walks : (at : Place) (base : TypeId) (it : Declaring)
      → Walks here program function (λ its m. OwnId base its m) (typedef_item at base it) (λ its m id. OwnId id its m) (λ id. Unit {0})
  typedef_item_walks at base it =
      then_walks {after = λ its m id. OwnId id its m} {holds = λ id. Unit {0}} (typing (item_type at base it.declarator))
      (item_own_walks at base it.declarator)
      (λ id. so_walks (λ its m met. met) (λ its m made met. met) (λ made met before. tt) (typedef_as_walks at (word_of it.declarator) id it.initialiser))

  -- of all of them
  typedef_types_walks : (at : Place) (base : TypeId) (done : List TypeId) (its : List Declaring)
      → Walks here program function (λ its m. OwnId base its m × AllOwn done its m) (typedef_types at base done its) (λ its m ids. AllOwn ids its m)
      (λ ids. Unit {0})
  typedef_types_walks at base done [] = passes_walks done (λ its m met. met.1) tt
  typedef_types_walks at base done (it ∷ rest) =
      then_walks {after = λ its m id. OwnId id its m × (OwnId base its m × AllOwn done its m)} {holds = λ id. Unit {0}} (typedef_item at base it)
      (so_walks (λ its m is. (is.0, is)) (λ its m id is. is) (λ id is. is)
      (kept_walks (λ its m. OwnId base its m × AllOwn done its m)
      (λ its later m n proceeds moves is.
      (own_kept program.types base its later m n proceeds moves is.0, all_own_kept program.types done its later m n proceeds moves is.1))
      (typedef_item_walks at base it)))
      (λ id. so_walks (λ its m is. (is.1.0, all_appended (λ id. OwnId id its m) done (id ∷ []) is.1.1 (is.0, tt))) (λ its m ids is. is)
      (λ ids is before. tt) (typedef_types_walks at base (done ++ id ∷ []) rest))

  -- a name, which refers to nothing
  typedef_named_walks : (o : Option Word) (id : TypeId)
      → Walks here program function (λ its m. OwnId id its m) (typedef_named o id) Nothing (λ done. Unit {0})
  typedef_named_walks None id = passes_walks tt (λ its m met. tt) tt
  typedef_named_walks (Some word) id =
      so_walks (λ its m own. (tt, tt, own)) (λ its m done is. is) (λ done is. is) (named_walks word (entity.Typedef id))

  -- each with its type
  typedefs_named_walks : (its : List Declaring) (ids : List TypeId)
      → Walks here program function (λ its m. AllOwn ids its m) (typedefs_named its ids) Nothing (λ done. Unit {0})
  typedefs_named_walks [] ids = passes_walks tt (λ its m met. tt) tt
  typedefs_named_walks (it ∷ rest) [] = passes_walks tt (λ its m met. tt) tt
  typedefs_named_walks (it ∷ rest) (id ∷ ids) =
      then_plain {after = λ its m done. AllOwn ids its m} (typedef_named (word_of it.declarator) id)
      (so_walks (λ its m are. are) (λ its m done is. is.1) (λ done is. is)
      (kept_walks (AllOwn ids) (λ its later m n proceeds moves are. all_own_kept program.types ids its later m n proceeds moves are)
      (typedef_named_walks (word_of it.declarator) id)))
      (λ done. typedefs_named_walks rest ids)

  -- by the storage word
  items_by_walks : (b : Bool) (at : Place) (items : List Declaring) (said : Front)
      → Walks here program function (λ its m. OwnId said.type_id its m × MayBeItems here (is_static said.storage) items m)
      (if b then typedef_items at said.type_id items else file_items said.storage at said.type_id items)
      (λ its m done. b ≡ false → AreItemsLinked items m) (λ done. Unit {0})
  items_by_walks true at items said =
      so_walks (λ its m is. is) (λ its m done is plain. absurd cc) (λ done is. is)
      (then_plain {after' = Nothing} (typedef_types at said.type_id [] items)
      (so_walks (λ its m is. (is.0, tt)) (λ its m ids is. is) (λ ids is. is) (typedef_types_walks at said.type_id [] items))
      (λ ids. typedefs_named_walks items ids))
  items_by_walks false at items said =
      so_walks (λ its m is. is) (λ its m done are plain. are) (λ done is. is) (file_items_walks said.storage at said.type_id items)

  -- by what the specifiers say
  items_as_walks : (at : Place) (items : List Declaring) (said : Front)
      → Walks here program function (λ its m. OwnId said.type_id its m × MayBeItems here (is_static said.storage) items m) (file_items_as at items said)
      (λ its m done. is_typedef_word said.storage ≡ false → AreItemsLinked items m) (λ done. Unit {0})
  items_as_walks at items said = items_by_walks (is_typedef_word said.storage) at items said

-- specifiers of objects and functions do not say `typedef`
declares_plain : (words : Specification) → declares_with words ≡ true → says_typedef (storage_of words) ≡ false
declares_plain syntax.no_specifiers is = absurd cc
declares_plain (syntax.more_specifiers it rest) is = not_true (says_typedef (or_storage (storage_word it) (storage_of rest))) is
  where
    not_true : (b : Bool) → not b ≡ true → b ≡ false
    not_true true is = absurd cc
    not_true false is = refl

-- the storage word that is said is the one among the specifiers
abbrev IsSaid : Specification → Front → Type 0
IsSaid words said =
    (is_static said.storage ≡ true → has_static words ≡ true) × (is_typedef_word said.storage ≡ says_typedef (storage_of words))

module _ {here : List ℕ → Bool} {program : TypedProgram} {function : TypedFunction} (sound : IsRight program.types) where
  -- what the specifiers say
  front_walks : (at : Place) (words : Specification)
      → Walks here program function Anywhere (typing (front at words)) (λ its m said. IsSaid words said × OwnId said.type_id its m)
      (λ said. Unit {0})
  front_walks at words =
      typing_fully (front at words) (λ Q. front_notes Q program.types at words)
      (λ its m scoped counts stands met p given reached grows. (
        (front_static at words m.typer p.1 p.0 given, front_typedef at words m.typer p.1 p.0 given),
        subst (Owning its.base (λ types said. IsOwn its.base types said.type_id)) given
            (front_own its.base at words m.typer scoped (own_here program here its m.locals m stands)),
      ))
      (λ its m scoped counts stands met knows binds p given noted. tt)

  -- what follows them
  fronted_walks : (at : Place) (words : Specification) (items : List Declaring) (said : Front)
      → Walks here program function (λ its m. IsSaid words said × (OwnId said.type_id its m × MayBeItems here (has_static words) items m))
      (file_items_as at items said) (λ its m done. declares_with words ≡ true → AreItemsLinked items m) (λ done. Unit {0})
  fronted_walks at words items said =
      given_walks (IsSaid words said)
      (items_as_walks {here = here} {program = program} {function = function} sound at items said).moved
      (λ so. so_walks
      (λ its m is. (is.0, items_so here (has_static words) (is_static said.storage) items m so.0 is.1))
      (λ its m done are declares. are (so.1 ∙ declares_plain words declares)) (λ done is. is) (items_as_walks sound at items said))

  -- with or without declarators
  file_declared_at_walks : (at : Place) (words : Specification) (items : List Declaring)
      → Walks here program function (λ its m. MayBeItems here (has_static words) items m) (file_declared_at at words items)
      (λ its m done. declares_with words ≡ true → AreItemsLinked items m) (λ done. Unit {0})
  file_declared_at_walks at words [] =
      so_walks (λ its m is. tt) (λ its m done is declares. tt) (λ done is. is) (nothing_named_walks false at words (lone_tag words))
  file_declared_at_walks at words (it ∷ rest) =
      then_plain (typing (front at words))
      (so_walks (λ its m are. (tt, are)) (λ its m said is. (is.0.0, (is.0.1, is.1))) (λ said is. is)
      (kept_walks (λ its m. MayBeItems here (has_static words) (it ∷ rest) m)
      (λ its later m n proceeds moves are. items_kept program.types here (has_static words) (it ∷ rest) its later m n proceeds moves are)
      (front_walks at words))) (λ said. fronted_walks at words (it ∷ rest) said)

  -- A declaration of file scope refers to what was claimed, and starts objects with what fits them. The names that it declares have links then.
  pub file_declared_walks : (other : Place) (it : Declaration)
      → Walks here program function (λ its m. MayBeItems here (has_static it.specifiers) it.items m) (file_declared other it)
      (λ its m done. declares_with it.specifiers ≡ true → AreItemsLinked it.items m) (λ done. Unit {0})
  file_declared_walks other it = file_declared_at_walks (first_place other it.specifiers) it.specifiers it.items
