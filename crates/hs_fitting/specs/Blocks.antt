-- Declarations of blocks move on what is known of a program, and the variables that they make are of complete types.
--     parameter_moves                 a named parameter of a function definition
--     block_declared_moved            a declaration of a block
use Rattle.std.proofs.Common.{◌≡◌, ℕ, Bool, true, false, not, ◌||◌, List, [], ◌∷◌, ◌++◌, length, slice_get, slice_set, Option, Some, None, Result, Ok, Err, if◌then◌else◌, refl, ap, ◌∙◌}
use Rattle.hs_declarations.specs.Declarations.{is_object, can_start, object_place, is_static, is_typedef_word, function_declared, nothing_named, local_typed, given, local_started, automatic, static_started, static_local, not_started, extern_object, block_object, block_function, block_entity, block_item_as, block_item, with_given, block_items, block_items_as, block_declared_at, block_declared}
use Rattle.hs_declarations.specs.Fronts.{front, item_type, lone_tag, storage_place, place_of_start}
use Rattle.hs_declarations.specs.declared.fronts.Front.{Front}
use Rattle.hs_expressions.specs.Expressions.{first_place}
use Rattle.hs_expressions.specs.Laws.{IsConstant, IsScoped}
use Rattle.hs_expressions.specs.Laws.Always.{Anything, Reaching}
use Rattle.hs_expressions.specs.Laws.Leaves.{declare_always}
use Rattle.hs_expressions.specs.Laws.Reached.{Reaches, reaches_then, scoped_after}
use Rattle.hs_fitting.specs.Declaring.{either_moved, declare_moved, renamed_moved, renamed_always, new_object_moved, linked_moved, define_object_moved, function_declared_moved, item_moved, front_moved, nothing_named_moved}
use Rattle.hs_fitting.specs.Initialising.{initialised_always, starting_always}
use Rattle.hs_fitting.specs.Moves.{any_reaches, IsWhole, Moves}
use Rattle.hs_fitting.specs.Moving.{Moving, Moved, passes_moved, stops_moved, unless_moved, then_moved, typing_moved}
use Rattle.hs_fitting.specs.Whole.{WholeGiven, starting_whole}
use Rattle.hs_initialisers.specs.Initialisers.{initialised, starting}
use Rattle.hs_linkage.specs.Linkage.{is_function, linked, new_object, define_object, renamed}
use Rattle.hs_linkage.specs.Objects.{local_as}
use Rattle.hs_linkage.specs.Works.{work_with, ◌>>=◌, ◌>>◌, pass, typing, with_typer, unless}
use Rattle.hs_linkage.specs.declared.translator.Translator.{Translator}
use Rattle.hs_operand_types.specs.Types.{is_open}
use Rattle.hs_syntax.specs.Trees.{Declaring, Declaration, Initialising, Specification}
use Rattle.hs_syntax.specs.declared.operators.Storage.{Storage}
use Rattle.hs_syntax.specs.declared.operators.Storage.TheVariants as storage
use Rattle.hs_syntax.specs.declared.word.Word.{Word}
use Rattle.hs_tokens.specs.declared.place.Place.{Place}
use Rattle.hs_tree.specs.Fitting.{types_of}
use Rattle.hs_tree.specs.Trees.{Starting, TypedItem}
use Rattle.hs_tree.specs.declared.head.Variable.TheVariants as variable
use Rattle.hs_tree.specs.declared.head.VariableDecl.{VariableDecl}
use Rattle.hs_typer.specs.Declarators.{declare, word_of}
use Rattle.hs_typer.specs.declared.type_error.TypeError.{TypeError}
use Rattle.hs_typer.specs.declared.type_error.TypeError.TheVariants.{Untyped}
use Rattle.hs_typer.specs.declared.typer.Entity.TheVariants as entity
use Rattle.hs_typer.specs.declared.typer.Typer.{Typer}
use Rattle.hs_types.specs.TypeTables.{is_complete}
use Rattle.hs_types.specs.declared.row.TypeId.{TypeId}

-- ---- one variable more

-- it is the last one
pub types_with : (its : List VariableDecl) (it : VariableDecl) → types_of (its ++ it ∷ []) ≡ types_of its ++ it.type_id ∷ []
types_with [] it = refl
types_with (other ∷ its) it = ap (λ rest. other.type_id ∷ rest) (types_with its it)

-- with another type
at_last : (its : List VariableDecl) (it : VariableDecl) → slice_get (its ++ it ∷ []) (length its) ≡ Some it
at_last [] it = refl
at_last (other ∷ its) it = at_last its it

set_last : (its : List VariableDecl) (it new : VariableDecl) → slice_set (its ++ it ∷ []) (length its) new ≡ its ++ new ∷ []
set_last [] it new = refl
set_last (other ∷ its) it new = ap (λ rest. other ∷ rest) (set_last its it new)

pub typed_last : (id : TypeId) (its : List VariableDecl) (it : VariableDecl)
    → local_as id (slice_get (its ++ it ∷ []) (length its)) (its ++ it ∷ []) (length its) ≡ its ++ record it { type_id = id } ∷ []
typed_last id its it =
    ap (λ found. local_as id found (its ++ it ∷ []) (length its)) (at_last its it) ∙ set_last its it (record it { type_id = id })

-- what is known moves on
pub local_moves : (m : Translator) (typer : Typer) (locals : List VariableDecl) (id : TypeId) → IsScoped m.typer → Reaches Anything m.typer typer
    → IsWhole typer.types id → types_of locals ≡ types_of m.locals ++ id ∷ [] → Moves m (record m { typer = typer; locals = locals })
local_moves m typer locals id scoped reached whole are =
    record {
      typer = reached;
      scoped = scoped_after Anything m.typer typer reached scoped;
      definitions = refl;
      locals = record { more = id ∷ []; are = are; whole = (whole, tt) };
    }

-- the variable of a word
abbrev pub local_of : Word → TypeId → VariableDecl
local_of word id = record { name = word.text; at = word.place; type_id = id; taken = false }

-- with it
abbrev with_local : Word → TypeId → Typer → Translator → Translator
with_local word id typer m = record m { typer = typer; locals = m.locals ++ local_of word id ∷ [] }

module _ (m : Translator) (word : Word) (id : TypeId) (scoped : IsScoped m.typer) where
  -- ---- with one

  -- the variable has the type that its initialiser gives it
  retyped : (its : TypeId) (start : Starting) (typer : Typer) → Reaches Anything m.typer typer → IsWhole typer.types its
      → Moving m ((local_typed (length m.locals) its >> (typing (renamed word (entity.Variable (variable.Local (length m.locals)) its))
      >> pass (Some (given (length m.locals) word start)))) (with_local word id typer m))
  retyped its start typer reached whole =
      local_moves m _ _ its scoped
      (reaches_then Anything m.typer typer _ reached
      ((renamed_always word (entity.Variable (variable.Local (length m.locals)) its)).from typer (scoped_after Anything m.typer typer reached scoped)))
      whole (ap types_of (typed_last its m.locals (local_of word id)) ∙ types_with m.locals (local_of word its))

  after_start : (typer : Typer) (given_start : Result ((TypeId × Starting) × Typer) TypeError) → Reaches Anything m.typer typer
      → Reaching IsConstant typer given_start → WholeGiven given_start
      → Moving m (work_with (λ its. local_typed (length m.locals) its.0
      >> (typing (renamed word (entity.Variable (variable.Local (length m.locals)) its.0)) >> pass (Some (given (length m.locals) word its.1))))
      (with_typer (with_local word id typer m) given_start))
  after_start typer (Ok p) reached more whole =
      retyped p.0.0 p.0.1 p.1 (reaches_then Anything m.typer typer p.1 reached (any_reaches IsConstant typer p.1 more)) whole
  after_start typer (Err why) reached more whole = tt

  with_start : (typer : Typer) (it : Initialising) (b : Bool) → (is_complete typer.types id || is_open typer.types id) ≡ b → Reaches Anything m.typer typer
      → Moving m (work_with {A = Unit {0}} {B = Option TypedItem} (λ may. typing (starting word.place id it)
      >>= (λ its. local_typed (length m.locals) its.0
      >> (typing (renamed word (entity.Variable (variable.Local (length m.locals)) its.0)) >> pass (Some (given (length m.locals) word its.1)))))
      (if not b then Err (Untyped word.place) else Ok (tt, with_local word id typer m)))
  with_start typer it true may reached =
      let inside = scoped_after Anything m.typer typer reached scoped in
      after_start typer (starting word.place id it typer) reached ((starting_always word.place id it).from typer inside)
      (starting_whole word.place id it typer inside may)
  with_start typer it false fails reached = tt

  started : (typer : Typer) (it : Option Initialising) → Reaches Anything m.typer typer
      → Moving m (local_started word id (length m.locals) it (with_local word id typer m))
  started typer None reached = without_start (is_complete typer.types id) refl
    where
      without_start : (b : Bool) → is_complete typer.types id ≡ b
          → Moving m (work_with {A = Unit {0}} {B = Option TypedItem} (λ whole. pass None)
          (if not b then Err (Untyped word.place) else Ok (tt, with_local word id typer m)))
      without_start true whole = local_moves m typer _ id scoped reached whole (types_with m.locals (local_of word id))
      without_start false fails = tt
  started typer (Some it) reached = with_start typer it (is_complete typer.types id || is_open typer.types id) refl reached

  -- ---- and its name

  named_local : (it : Option Initialising) (given_name : Result (Unit {0} × Typer) TypeError) → Reaching Anything m.typer given_name
      → Moving m (work_with (λ named. local_started word id (length m.locals) it)
      (with_typer (record m { locals = m.locals ++ local_of word id ∷ [] }) given_name))
  named_local it (Ok p) reached = started p.1 it reached
  named_local it (Err why) reached = tt

-- an object of automatic storage duration
automatic_moved : (word : Word) (id : TypeId) (it : Option Initialising) → Moved (automatic word id it)
automatic_moved word id it =
    then_moved (is_object word id) (unless_moved _ _)
    (λ may. record {
      from = λ m scoped. named_local m word id scoped it (declare word (entity.Variable (variable.Local (length m.locals)) id) m.typer)
          ((declare_always word (entity.Variable (variable.Local (length m.locals)) id) tt).from m.typer scoped);
    })

-- ---- the others

static_started_moved : (word : Word) (id : TypeId) (place : Option ℕ) (it : Option Initialising) → Moved (static_started word id place it)
static_started_moved word id None it = passes_moved tt
static_started_moved word id (Some place) None = unless_moved _ _
static_started_moved word id (Some place) (Some it) =
    then_moved (can_start word id) (unless_moved _ _)
    (λ may. then_moved (typing (initialised word.place id it)) (typing_moved IsConstant _ (initialised_always word.place id it))
    (λ its. then_moved (define_object place its.0 its.1) (define_object_moved place its.0 its.1)
    (λ done. renamed_moved word (entity.Variable (variable.Global place) its.0))))

static_local_moved : (word : Word) (id : TypeId) (it : Option Initialising) → Moved (static_local word id it)
static_local_moved word id it =
    then_moved (is_object word id) (unless_moved _ _)
    (λ may. then_moved (new_object word id) (new_object_moved word id)
    (λ its. then_moved (typing (declare word its)) (declare_moved word its)
    (λ named. then_moved (static_started word id (object_place its) it) (static_started_moved word id (object_place its) it)
    (λ done. passes_moved None))))

not_started_moved : (it : Option Initialising) → Moved (not_started it)
not_started_moved None = passes_moved tt
not_started_moved (Some it) = stops_moved (Untyped (place_of_start it))

extern_object_moved : (word : Word) (id : TypeId) (it : Option Initialising) → Moved (extern_object word id it)
extern_object_moved word id it =
    then_moved (is_object word id) (unless_moved _ _)
    (λ may. then_moved (linked false word id) (linked_moved false word id)
    (λ its. then_moved (not_started it) (not_started_moved it) (λ none. passes_moved None)))

block_object_moved : (storage : Option Storage) (word : Word) (id : TypeId) (it : Option Initialising) → Moved (block_object storage word id it)
block_object_moved None word id it = automatic_moved word id it
block_object_moved (Some storage.Typedef) word id it = automatic_moved word id it
block_object_moved (Some storage.Extern) word id it = extern_object_moved word id it
block_object_moved (Some storage.Static) word id it = static_local_moved word id it

block_function_moved : (stored : Place) (storage : Option Storage) (word : Word) (id : TypeId) (it : Option Initialising)
    → Moved (block_function stored storage word id it)
block_function_moved stored storage word id it =
    then_moved (unless (Untyped stored) (λ m. is_static storage)) (unless_moved _ _)
    (λ may. then_moved (function_declared false word id it) (function_declared_moved false word id it) (λ done. passes_moved None))

block_entity_moved : (stored : Place) (storage : Option Storage) (word : Word) (id : TypeId) (it : Option Initialising)
    → Moved (block_entity stored storage word id it)
block_entity_moved stored storage word id it =
    either_moved (λ m. is_function m.typer.types id) (block_function stored storage word id it) (block_object storage word id it)
    (block_function_moved stored storage word id it) (block_object_moved storage word id it)

block_item_as_moved : (at stored : Place) (storage : Option Storage) (word : Option Word) (id : TypeId) (it : Option Initialising)
    → Moved (block_item_as at stored storage word id it)
block_item_as_moved at stored storage None id it = stops_moved (Untyped at)
block_item_as_moved at stored storage (Some word) id it = block_entity_moved stored storage word id it

block_item_moved : (at stored : Place) (said : Front) (it : Declaring) → Moved (block_item at stored said it)
block_item_moved at stored said it =
    then_moved (typing (item_type at said.type_id it.declarator)) (item_moved at said.type_id it.declarator)
    (λ id. block_item_as_moved at stored said.storage (word_of it.declarator) id it.initialiser)

block_items_moved : (at stored : Place) (said : Front) (done : List TypedItem) (its : List Declaring) → Moved (block_items at stored said done its)
block_items_moved at stored said done [] = passes_moved done
block_items_moved at stored said done (it ∷ rest) =
    then_moved (block_item at stored said it) (block_item_moved at stored said it)
    (λ next. block_items_moved at stored said (with_given done next) rest)

items_as_moved : (at stored : Place) (its : List Declaring) (said : Front) → Moved (block_items_as at stored its said)
items_as_moved at stored its said =
    then_moved (unless (Untyped stored) (λ m. is_typedef_word said.storage)) (unless_moved _ _) (λ may. block_items_moved at stored said [] its)

declared_at_moved : (at : Place) (words : Specification) (its : List Declaring) → Moved (block_declared_at at words its)
declared_at_moved at words [] =
    then_moved (nothing_named true at words (lone_tag words)) (nothing_named_moved true at words (lone_tag words)) (λ done. passes_moved [])
declared_at_moved at words (it ∷ rest) =
    then_moved (typing (front at words)) (front_moved at words) (items_as_moved at (storage_place at words) (it ∷ rest))

-- a declaration of a block
pub block_declared_moved : (other : Place) (it : Declaration) → Moved (block_declared other it)
block_declared_moved other it = declared_at_moved (first_place other it.specifiers) it.specifiers it.items
