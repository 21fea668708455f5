-- Declarations of blocks refer to what was claimed, and start variables with what fits them, as the program goes on (X3.159-1989 3.5 and 3.6.2).
--     either_known_walks              both ways of a test, each of which knows how it went
--     nothing_named_walks             specifiers without a declarator
--     function_declared_walks         a function that is declared
--     object_walks                    an object is of no type of functions
--     static_local_walks, extern_object_walks      objects of static storage duration that a block declares
--     block_declared_walks            a declaration of a block
use Rattle.std.proofs.Common.{◌≡◌, ℕ, Bool, true, false, not, ◌&&◌, ◌||◌, List, [], ◌∷◌, Option, Some, None, refl, sym, ap, subst, ◌∙◌, if◌then◌else◌}
use Rattle.std.specs.List.{AllByRecursion}
use Rattle.hs_base.specs.Tests.{true_false, not_false}
use Rattle.hs_base.specs.Entries.{all_appended}
use Rattle.hs_declarations.specs.Declarations.{is_object, can_start, object_place, is_static, is_typedef_word, with_inline_words, function_declared, nothing_named, static_started, static_local, not_started, extern_object, block_object, block_function, block_entity, block_item_as, block_item, with_given, block_items, block_items_as, block_declared_at, block_declared}
use Rattle.hs_declarations.specs.Fronts.{front, item_type, tag_alone, tag_alone_as, lone_tag, declares_any, storage_place, place_of_start}
use Rattle.hs_declarations.specs.declared.fronts.Front.{Front}
use Rattle.hs_expressions.specs.Expressions.{first_place}
use Rattle.hs_expressions.specs.Laws.{IsConstant, IsScoped}
use Rattle.hs_fitting.specs.Answers.{false_true}
use Rattle.hs_fitting.specs.Automatic.{IsRightItemIf, unless_grown_walks, automatic_walks}
use Rattle.hs_fitting.specs.Claims.{Claims, RefersTo, IsVariableIn, Stands, Proceeds}
use Rattle.hs_fitting.specs.Declaring.{either_moved, new_object_moved, tag_always}
use Rattle.hs_fitting.specs.Initialised.{initialised_walks}
use Rattle.hs_fitting.specs.Known.{typing_walks}
use Rattle.hs_fitting.specs.HasLinks.{HasLink}
use Rattle.hs_fitting.specs.LinkedNames.{IsObject, MayLinkAs, with_link, refers_kept, kept_walks, placed_object_walks, define_object_walks, named_walks, renamed_walks, linked_walks}
use Rattle.hs_fitting.specs.Making.{designates_makes}
use Rattle.hs_fitting.specs.Noting.{NamesAllow, Noting, Notes, same_noted}
use Rattle.hs_fitting.specs.NotingCalm.{begun_struct_notes}
use Rattle.hs_fitting.specs.NotingDeclaring.{front_notes}
use Rattle.hs_fitting.specs.NotingInitialising.{inline_words_notes}
use Rattle.hs_fitting.specs.Moves.{Moves}
use Rattle.hs_fitting.specs.OwnWalks.{OwnId, own_kept, with_own, own_over, own_through, item_own_walks, front_own_walks, initialised_also}
use Rattle.hs_fitting.specs.Owned.{IsOwn}
use Rattle.hs_fitting.specs.Owning.{IsOwnName}
use Rattle.hs_fitting.specs.Phrases.{IsRightItem}
use Rattle.hs_fitting.specs.Walk.{Anywhere, Nothing, Walking, Walks, passes_walks, stops_walks, unless_walks, then_walks, so_walks}
use Rattle.hs_fitting.specs.Whole.{MayStart}
use Rattle.hs_initialisers.specs.Initialisers.{initialised}
use Rattle.hs_initialisers.specs.InlineWords.{inline_words}
use Rattle.hs_linkage.specs.Linkage.{is_function, linked, new_object, define_object}
use Rattle.hs_linkage.specs.Works.{Work, typing, unless}
use Rattle.hs_linkage.specs.declared.translator.Translator.{Translator}
use Rattle.hs_names.specs.Scopes.{find_here}
use Rattle.hs_operand_types.specs.Types.{designates, is_open}
use Rattle.hs_syntax.specs.Trees.{Declaring, Declaration, Initialising, Specification}
use Rattle.hs_syntax.specs.declared.operators.Storage.{Storage}
use Rattle.hs_syntax.specs.declared.operators.Storage.TheVariants as storage
use Rattle.hs_syntax.specs.declared.word.Word.{Word}
use Rattle.hs_tokens.specs.declared.place.Place.{Place}
use Rattle.hs_tree.specs.Kinds.{of_function, category_of}
use Rattle.hs_tree.specs.Trees.{TypedItem, TypedFunction, TypedProgram}
use Rattle.hs_tree.specs.declared.head.Variable.TheVariants as variable
use Rattle.hs_tree.specs.declared.head.VariableDecl.{VariableDecl}
use Rattle.hs_typer.specs.Declarators.{declare, word_of}
use Rattle.hs_typer.specs.Specifiers.{begun_struct_as}
use Rattle.hs_typer.specs.declared.type_error.TypeError.TheVariants.{Untyped}
use Rattle.hs_typer.specs.declared.typer.Entity.{Entity}
use Rattle.hs_typer.specs.declared.typer.Entity.TheVariants as entity
use Rattle.hs_typer.specs.declared.typer.Tag.{Tag}
use Rattle.hs_typer.specs.declared.typer.Tag.TheVariants as tag
use Rattle.hs_typer.specs.declared.typer.Typer.{Typer}
use Rattle.hs_types.specs.TypeTables.{TypeTable, is_complete, IsRight}
use Rattle.hs_types.specs.declared.row.TypeId.{TypeId}

-- ---- variables that are given values

-- with one more, if it is given a value
given_right : (program : TypedProgram) (function : TypedFunction) (done : List TypedItem) (next : Option TypedItem)
    → IsRightItemIf program function next → AllByRecursion (IsRightItem program function) done
    → AllByRecursion (IsRightItem program function) (with_given done next)
given_right program function done None is are = are
given_right program function done (Some it) is are = all_appended (IsRightItem program function) done (it ∷ []) are (is, tt)

-- ---- objects of static storage duration

-- a name refers to the object of that place, by a type of this unit
abbrev IsOwnObject : TypedProgram → ℕ → TypeId → Claims → Translator → Type 0
IsOwnObject program place id its m = RefersTo program.types its m.objects (entity.Variable (variable.Global place) id) × OwnId id its m

-- which stays so
object_kept : (program : TypedProgram) (place : ℕ) (id : TypeId) (its more : Claims) (m n : Translator) → Proceeds program.types its m more n → Moves m n
    → IsOwnObject program place id its m → IsOwnObject program place id more n
object_kept program place id its more m n proceeds moves is =
    (refers_kept program (entity.Variable (variable.Global place) id) its more m n proceeds is.0, own_kept program.types id its more m n proceeds moves is.1)

-- ---- both ways of a test

module _ {here : List ℕ → Bool} {program : TypedProgram} {function : TypedFunction} where
  -- Each of them knows how it went.
  pub either_known_walks : {A : Type 0} → {pre : Claims → Translator → Type 0} → {after : Claims → Translator → A → Type 0} → {holds : A → Type 0}
      → (test : Translator → Bool) (one other : Work A) → Walks here program function (λ its m. pre its m × (test m ≡ true)) one after holds
      → Walks here program function (λ its m. pre its m × (test m ≡ false)) other after holds
      → Walks here program function pre (λ m. if test m then one m else other m) after holds
  either_known_walks {pre = pre} {after = after} {holds = holds} test one other is is' =
      record {
        moved = either_moved test one other is.moved is'.moved;
        from = λ its m scoped counts stands met. both (test m) its m scoped counts stands met refl;
      }
    where
      both : (b : Bool) (its : Claims) (m : Translator) → IsScoped m.typer → m.typer.counts ≡ true → Stands program here its m.locals m → pre its m
          → test m ≡ b → Walking here program function its m after holds (if b then one m else other m)
      both true its m scoped counts stands met went = is.from its m scoped counts stands (met, went)
      both false its m scoped counts stands met went = is'.from its m scoped counts stands (met, went)

-- ---- specifiers without a declarator

module _ (Q : ℕ → TypeId → Type 0) (final : TypeTable) where
  -- what a tag alone notes of calls
  tag_noting : (word : Word) (s : Typer) (o : Option Tag) → find_here word.text s.tags ≡ o → NamesAllow Q s
      → Noting Q final (λ it. Unit {0}) s (tag_alone_as word o s)
  tag_noting word s None is names =
      let begun = subst (λ o. Noting Q final (λ it. Unit {0}) s (begun_struct_as word o s)) is ((begun_struct_notes Q final (Some word)).gives s names) in
      record { names = begun.names; fact = tt; table = begun.table; types = begun.types; right = begun.right; calls = begun.calls }
  tag_noting word s (Some (tag.Struct number)) is names = same_noted Q final (λ it. Unit {0}) s tt names tt
  tag_noting word s (Some (tag.Enumeration number)) is names = tt

  -- from every place of the text
  tag_notes : (word : Word) → Notes Q final IsConstant (λ it. Unit {0}) (tag_alone word)
  tag_notes word = record { always = tag_always word; gives = λ s names. tag_noting word s (find_here word.text s.tags) refl names }

module _ {here : List ℕ → Bool} {program : TypedProgram} {function : TypedFunction} where
  -- `struct tag;`, or others
  pub nothing_named_walks : (inside : Bool) (at : Place) (its : Specification) (word : Option Word)
      → Walks here program function Anywhere (nothing_named inside at its word) Nothing (λ done. Unit {0})
  nothing_named_walks inside at its None =
      then_walks {after = Nothing} {holds = λ said. Unit {0}} (typing (front at its))
      (typing_walks (front at its) (λ Q. front_notes Q program.types at its) (λ s scoped counts knows binds p given noted. tt))
      (λ said. then_walks {after = Nothing} {holds = λ done. Unit {0}}
      (unless (Untyped (storage_place at its)) (λ m. inside && is_typedef_word said.storage))
      (unless_walks {pre = Anywhere} (Untyped (storage_place at its)) (λ m. inside && is_typedef_word said.storage) (λ its m met failed. tt))
      (λ plain. so_walks {holds = λ done. Unit {0}} (λ its m met. met) (λ its m done is. tt) (λ done is a b. tt)
      (unless_walks {pre = Anywhere} {after = Nothing} (Untyped at) (λ m. not (declares_any its)) (λ its m met failed. tt))))
  nothing_named_walks inside at its (Some word) =
      typing_walks (tag_alone word) (λ Q. tag_notes Q program.types word) (λ s scoped counts knows binds p given noted. tt)

  -- ---- functions

  -- the words of an inline trap
  words_walks : (it : Option Initialising) → Walks here program function Anywhere (with_inline_words it) Nothing (λ done. Unit {0})
  words_walks None = passes_walks tt (λ its m met. tt) tt
  words_walks (Some it) =
      typing_walks (inline_words it) (λ Q. inline_words_notes Q program.types it) (λ s scoped counts knows binds p given noted. tt)

  -- a function that is declared, at any level
  pub function_declared_walks : (static : Bool) (word : Word) (id : TypeId) (it : Option Initialising)
      → Walks here program function (MayLinkAs here program static word id) (function_declared static word id it)
      (λ its m done. HasLink word.text m) (λ done. Unit {0})
  function_declared_walks static word id it =
      then_walks {holds = λ its. Unit {0}} (linked static word id) (linked_walks static word id)
      (λ its. so_walks {holds = λ done. Unit {0}} (λ its m is. (tt, is.4)) (λ its m done is. is.1) (λ done is before. tt)
      (with_link word.text (words_walks it)))

  -- ---- objects

  -- a step that keeps what a name refers to
  referring_walks : {A : Type 0} → {pre : Claims → Translator → Type 0} → {after : Claims → Translator → A → Type 0} → {holds : A → Type 0}
      → {work : Work A} → (it : Entity) → Walks here program function pre work after holds
      → Walks here program function (λ its m. pre its m × RefersTo program.types its m.objects it) work
      (λ its m made. after its m made × RefersTo program.types its m.objects it) holds
  referring_walks it walks =
      kept_walks (λ its m. RefersTo program.types its m.objects it)
      (λ its more m n proceeds moves is. refers_kept program it its more m n proceeds is) walks

  -- a type that an object can have is not a function type in the program
  pub object_walks : {pre : Claims → Translator → Type 0} → (word : Word) (id : TypeId)
      → Walks here program function pre (is_object word id) (λ its m done. category_of program.types id ≡ Some of_function → ⊥) (λ done. Unit {0})
  object_walks word id =
      unless_grown_walks (Untyped word.place) (λ m. not (designates m.typer.types id))
      (λ its m met failed grows. designates_makes m.typer.types program.types id grows (not_false (designates m.typer.types id) failed))

  -- an object that a block declares with `extern` has no initialiser there
  not_started_walks : {pre : Claims → Translator → Type 0} → (it : Option Initialising)
      → Walks here program function pre (not_started it) (λ its m done. pre its m) (λ done. Unit {0})
  not_started_walks None = passes_walks tt (λ its m met. met) tt
  not_started_walks (Some it) = stops_walks (Untyped (place_of_start it))

  -- an object with linkage
  pub extern_object_walks : (word : Word) (id : TypeId) (it : Option Initialising)
      → Walks here program function (λ its m. OwnId id its m) (extern_object word id it) Nothing (IsRightItemIf program function)
  extern_object_walks word id it =
      then_walks (is_object word id) (own_over id (object_walks {pre = Anywhere} word id))
      (λ may. then_walks {holds = λ its. Unit {0}} (linked false word id)
      (so_walks (λ its m is. ((λ other. is.0, is.1), λ static. absurd (false_true static))) (λ its m made is. tt) (λ made is. is)
      (linked_walks false word id))
      (λ its. then_walks {holds = λ done. Unit {0}} (not_started it) (not_started_walks {pre = Anywhere} it)
      (λ none. passes_walks None (λ its m is. tt) (λ a b c. tt))))

  -- an object without linkage is a new one
  fresh_walks : (word : Word) (id : TypeId)
      → Walks here program function (λ its m. category_of program.types id ≡ Some of_function → ⊥) (new_object word id)
      (λ its m it. RefersTo program.types its m.objects it × IsObject id it) (λ it. Unit {0})
  fresh_walks word id =
      record {
        moved = new_object_moved word id;
        from = λ its m scoped counts stands no_function.
            (placed_object_walks {pre = Anywhere} word id no_function).from its m scoped counts stands tt;
      }

  -- its name
  object_named_walks : (word : Word) (id : TypeId) (it : Entity)
      → Walks here program function (λ its m. (RefersTo program.types its m.objects it × IsObject id it) × OwnId id its m) (typing (declare word it))
      (λ its m done. (RefersTo program.types its m.objects it × IsObject id it) × OwnId id its m) (λ done. Unit {0})
  object_named_walks word id it =
      so_walks (λ its m is. ((is.0.0, no_local m.locals is.0.1, own_named its.base m.typer.types is.0.1 is.1), is)) (λ its m done is. is.1) (λ done is. is)
      (kept_walks (λ its m. (RefersTo program.types its m.objects it × IsObject id it) × OwnId id its m)
      (λ its more m n proceeds moves is.
      ((refers_kept program it its more m n proceeds is.0.0, is.0.1), own_kept program.types id its more m n proceeds moves is.1)) (named_walks word it))
    where
      no_local : (locals : List VariableDecl) → IsObject id it → IsVariableIn program.types locals it
      no_local locals is = subst (IsVariableIn program.types locals) (sym is.1) tt

      own_named : (base : ℕ) (types : TypeTable) → IsObject id it → IsOwn base types id → IsOwnName base types it
      own_named base types is own = subst (IsOwnName base types) (sym is.1) own

  module _ (sound : IsRight program.types) where
    -- its initialiser
    placed_started_walks : (word : Word) (id : TypeId) (place : ℕ) (it : Option Initialising)
        → Walks here program function (IsOwnObject program place id) (static_started word id (Some place) it) Nothing (λ done. Unit {0})
    placed_started_walks word id place None =
        unless_walks (Untyped word.place) (λ m. not (is_complete m.typer.types id)) (λ its m met failed. tt)
    placed_started_walks word id place (Some it) =
        then_walks {holds = λ done. Unit {0}} (can_start word id)
        (unless_walks {after = λ its m done. MayStart m.typer.types id × IsOwnObject program place id its m} (Untyped word.place)
        (λ m. not (is_complete m.typer.types id || is_open m.typer.types id))
        (λ its m met failed. (not_false (is_complete m.typer.types id || is_open m.typer.types id) failed, met)))
        (λ may. then_walks {holds = λ p. Unit {0}} (typing (initialised word.place id it))
        (so_walks (λ its m is. ((is.0, is.1.0), (is.0, is.1.1))) (λ its m p is. is) (λ p is. is)
        (initialised_also word.place id it (referring_walks (entity.Variable (variable.Global place) id) (initialised_walks sound word.place id it))))
        (λ p. then_walks {after = λ its m done. IsOwnObject program place p.0 its m} {holds = λ done. Unit {0}} (define_object place p.0 p.1)
        (so_walks (λ its m is. ((is.0.1 ∙ ap Some (sym is.0.0.1), is.0.0.0), (is.0.1 ∙ ap Some (sym is.0.0.1), is.1))) (λ its m done is. is.1) (λ done is. is)
        (kept_walks (IsOwnObject program place p.0) (object_kept program place p.0) (define_object_walks place p.0 p.1)))
        (λ done. so_walks {holds = λ done. Unit {0}} (λ its m is. (is.0, tt, is.1)) (λ its m made is. tt) (λ made is a b c. tt)
        (renamed_walks word (entity.Variable (variable.Global place) p.0)))))

    -- of the object that the declaration made
    static_started_walks : (word : Word) (id : TypeId) (its : Entity) (it : Option Initialising)
        → Walks here program function (λ c m. (RefersTo program.types c m.objects its × IsObject id its) × OwnId id c m)
        (static_started word id (object_place its) it) Nothing (λ done. Unit {0})
    static_started_walks word id (entity.Variable (variable.Global place) other) it =
        so_walks (λ c m is.
        (subst (λ type. RefersTo program.types c m.objects (entity.Variable (variable.Global place) type)) (type_same is.0.1.0 is.0.1.1) is.0.0, is.1))
        (λ c m done is. is) (λ done is. is) (placed_started_walks word id place it)
      where
        type_same : (n : ℕ) → entity.Variable (variable.Global place) other ≡ entity.Variable (variable.Global n) id → other ≡ id
        type_same n same = cc
    static_started_walks word id (entity.Constant bits) it = passes_walks tt (λ c m is. tt) tt
    static_started_walks word id (entity.Variable (variable.Local place) other) it = passes_walks tt (λ c m is. tt) tt
    static_started_walks word id (entity.Function other to) it = passes_walks tt (λ c m is. tt) tt
    static_started_walks word id (entity.Typedef other) it = passes_walks tt (λ c m is. tt) tt

    -- an object of static storage duration without linkage
    pub static_local_walks : (word : Word) (id : TypeId) (it : Option Initialising)
        → Walks here program function (λ its m. OwnId id its m) (static_local word id it) Nothing (IsRightItemIf program function)
    static_local_walks word id it =
        then_walks (is_object word id) (own_over id (object_walks {pre = Anywhere} word id))
        (λ may. then_walks {holds = λ its. Unit {0}} (new_object word id) (with_own id (fresh_walks word id))
        (λ its. then_walks {holds = λ done. Unit {0}} (typing (declare word its)) (object_named_walks word id its)
        (λ named. then_walks {holds = λ done. Unit {0}} (static_started word id (object_place its) it) (static_started_walks word id its it)
        (λ done. passes_walks None (λ c m is. tt) (λ a b c d. tt)))))

    -- ---- declarations

    -- by the storage word
    block_object_walks : (storage : Option Storage) (word : Word) (id : TypeId) (it : Option Initialising)
        → Walks here program function (λ its m. OwnId id its m) (block_object storage word id it) Nothing (IsRightItemIf program function)
    block_object_walks None word id it =
        so_walks (λ its m own. tt) (λ its m made is. is) (λ made is. is) (automatic_walks sound word id it)
    block_object_walks (Some storage.Typedef) word id it =
        so_walks (λ its m own. tt) (λ its m made is. is) (λ made is. is) (automatic_walks sound word id it)
    block_object_walks (Some storage.Extern) word id it = extern_object_walks word id it
    block_object_walks (Some storage.Static) word id it = static_local_walks word id it

    -- a function that a block declares
    block_function_walks : (stored : Place) (storage : Option Storage) (word : Word) (id : TypeId) (it : Option Initialising)
        → Walks here program function (λ its m. OwnId id its m × (is_function m.typer.types id ≡ true)) (block_function stored storage word id it) Nothing
        (IsRightItemIf program function)
    block_function_walks stored storage word id it =
        then_walks {after = λ its m done. MayLinkAs here program false word id its m} {holds = λ done. Unit {0}}
        (unless (Untyped stored) (λ m. is_static storage))
        (unless_walks (Untyped stored) (λ m. is_static storage)
        (λ its m met failed.
        ((λ other. absurd (true_false (is_function m.typer.types id) met.1 other), met.0), λ static. absurd (true_false false static refl))))
        (λ may. then_walks {holds = λ done. Unit {0}} (function_declared false word id it)
        (function_declared_walks false word id it)
        (λ done. passes_walks None (λ its m is. tt) (λ a b. tt)))

    -- by its type
    block_entity_walks : (stored : Place) (storage : Option Storage) (word : Word) (id : TypeId) (it : Option Initialising)
        → Walks here program function (λ its m. OwnId id its m) (block_entity stored storage word id it) Nothing (IsRightItemIf program function)
    block_entity_walks stored storage word id it =
        either_known_walks (λ m. is_function m.typer.types id) (block_function stored storage word id it) (block_object storage word id it)
        (block_function_walks stored storage word id it)
        (so_walks (λ its m met. met.0) (λ its m made is. is) (λ made is. is) (block_object_walks storage word id it))

    -- a declarator names something
    block_item_as_walks : (at stored : Place) (storage : Option Storage) (word : Option Word) (id : TypeId) (it : Option Initialising)
        → Walks here program function (λ its m. OwnId id its m) (block_item_as at stored storage word id it) Nothing (IsRightItemIf program function)
    block_item_as_walks at stored storage None id it = stops_walks (Untyped at)
    block_item_as_walks at stored storage (Some word) id it = block_entity_walks stored storage word id it

    -- one declarator of a block
    block_item_walks : (at stored : Place) (said : Front) (it : Declaring)
        → Walks here program function (λ its m. OwnId said.type_id its m) (block_item at stored said it) Nothing (IsRightItemIf program function)
    block_item_walks at stored said it =
        then_walks {after = λ its m id. OwnId id its m} {holds = λ id. Unit {0}} (typing (item_type at said.type_id it.declarator))
        (item_own_walks at said.type_id it.declarator)
        (λ id. so_walks {holds = IsRightItemIf program function} (λ its m met. met) (λ its m made is. tt) (λ made is before. is)
        (block_item_as_walks at stored said.storage (word_of it.declarator) id it.initialiser))

    -- those of a declaration, in their order
    block_items_walks : (at stored : Place) (said : Front) (done : List TypedItem) (its : List Declaring)
        → Walks here program function (λ its m. OwnId said.type_id its m) (block_items at stored said done its) Nothing
        (λ made. AllByRecursion (IsRightItem program function) done → AllByRecursion (IsRightItem program function) made)
    block_items_walks at stored said done [] = passes_walks done (λ its m met. tt) (λ are. are)
    block_items_walks at stored said done (it ∷ rest) =
        then_walks (block_item at stored said it) (own_through said.type_id (block_item_walks at stored said it))
        (λ next. so_walks (λ its m met. met) (λ its m made met. tt) (λ made so is are. so (given_right program function done next is are))
        (block_items_walks at stored said (with_given done next) rest))

    -- no typedef
    block_items_as_walks : (at stored : Place) (its : List Declaring) (said : Front)
        → Walks here program function (λ its m. OwnId said.type_id its m) (block_items_as at stored its said) Nothing
        (λ made. AllByRecursion (IsRightItem program function) made)
    block_items_as_walks at stored its said =
        then_walks {after = λ its m done. OwnId said.type_id its m} {holds = λ done. Unit {0}} (unless (Untyped stored) (λ m. is_typedef_word said.storage))
        (unless_walks (Untyped stored) (λ m. is_typedef_word said.storage) (λ its m met failed. met))
        (λ may. so_walks (λ its m met. met) (λ its m made met. tt) (λ made so before. so tt) (block_items_walks at stored said [] its))

    -- with or without declarators
    block_declared_at_walks : (at : Place) (words : Specification) (its : List Declaring)
        → Walks here program function Anywhere (block_declared_at at words its) Nothing (λ made. AllByRecursion (IsRightItem program function) made)
    block_declared_at_walks at words [] =
        then_walks (nothing_named true at words (lone_tag words)) (nothing_named_walks true at words (lone_tag words))
        (λ done. passes_walks [] (λ its m met. tt) (λ before. tt))
    block_declared_at_walks at words (it ∷ rest) =
        then_walks {after = λ its m said. OwnId said.type_id its m} {holds = λ said. Unit {0}} (typing (front at words)) (front_own_walks at words)
        (λ said. so_walks {holds = λ made. AllByRecursion (IsRightItem program function) made} (λ its m met. met) (λ its m made met. tt)
        (λ made are before. are) (block_items_as_walks at (storage_place at words) (it ∷ rest) said))

-- A declaration of a block: all names refer to what was claimed, and what it gives its variables fits them.
pub block_declared_walks : {here : List ℕ → Bool} → {program : TypedProgram} → {function : TypedFunction} → (sound : IsRight program.types)
    → (other : Place) (it : Declaration)
    → Walks here program function Anywhere (block_declared other it) Nothing (λ its. AllByRecursion (IsRightItem program function) its)
block_declared_walks sound other it = block_declared_at_walks sound (first_place other it.specifiers) it.specifiers it.items
