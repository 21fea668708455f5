-- Function definitions move on what is known, and each function has its parameters among its variables, which are of complete types, and
-- gives nothing or a value that can be read (X3.159-1989 3.7.1).
--     Gives types id               nothing, or a value that can be read
--     FitsGiven m given            what a definition gives, from m
--     defined_fits                 a function definition
use Rattle.std.proofs.Common.{◌≡◌, ℕ, ◌≤◌, Bool, true, false, not, ◌||◌, [], ◌∷◌, ◌++◌, length, drop, slice_get, Option, Some, None, Result, Ok, Err, refl, sym, ap, subst, ◌∙◌, if◌then◌else◌}
use Rattle.std.specs.List.{AllByRecursion}
use Rattle.hs_base.specs.Tests.{or_true}
use Rattle.hs_declarations.specs.Declarations.{is_static, is_typedef_word, new_local}
use Rattle.hs_declarations.specs.Fronts.{front, storage_place}
use Rattle.hs_declarations.specs.declared.fronts.Front.{Front}
use Rattle.hs_expressions.specs.Expressions.{enter, first_place}
use Rattle.hs_expressions.specs.Laws.Always.{Anything}
use Rattle.hs_expressions.specs.Laws.Reached.{Reaches, reaches_self}
use Rattle.hs_expressions.specs.Laws.{IsScoped}
use Rattle.hs_fitting.specs.Blocks.{local_moves, local_of, types_with}
use Rattle.hs_fitting.specs.Declaring.{front_moved, link_moved}
use Rattle.hs_fitting.specs.Inner.{Inner, inner_moves, inner_named, inner_left, inner_closed}
use Rattle.hs_fitting.specs.KeptOpening.{Begun, opened_begins}
use Rattle.hs_fitting.specs.Moves.{IsWhole, HasLocals, same_locals}
use Rattle.hs_fitting.specs.Moving.{Moving, Moved, passes_moved, stops_moved, then_moved}
use Rattle.hs_fitting.specs.Passes.{AreWhole, Passes, each_whole, marked_types, no_fewer, passes_moves, passes_then, whole_with}
use Rattle.hs_fitting.specs.Stating.{body_moved}
use Rattle.hs_functions.specs.Functions.{is_only, named_parameter, first_type, next_type, parameter_in, parameters_in, counts, finished, defined_with, defined_of, defined_as, defined_by, defined_said, brace_of, defined, parameters_of, is_of_other}
use Rattle.hs_functions.specs.Opening.{opened_type, named_outside}
use Rattle.hs_linkage.specs.Linkage.{clash_of, is_barred, link}
use Rattle.hs_linkage.specs.Objects.{marked}
use Rattle.hs_linkage.specs.Works.{work_with, ◌>>=◌, ◌>>◌, pass, typing, with_typer}
use Rattle.hs_linkage.specs.declared.translator.Translator.{Translator}
use Rattle.hs_operands.specs.Laws.Stays.{is_void-stays, is_readable-stays}
use Rattle.hs_statements.specs.Statements.{body_of}
use Rattle.hs_syntax.specs.Trees as syntax
use Rattle.hs_syntax.specs.Trees.{Declared, Parameters, Specification, Compound}
use Rattle.hs_syntax.specs.declared.word.Word.{Word}
use Rattle.hs_tokens.specs.declared.place.Place.{Place}
use Rattle.hs_tree.specs.Fitting.{FitsDefinition, count_types}
use Rattle.hs_tree.specs.Kinds.{is_void, is_readable}
use Rattle.hs_tree.specs.Trees.{TypedBlock, TypedFunction}
use Rattle.hs_typer.specs.Declarators.{word_of}
use Rattle.hs_typer.specs.declared.type_error.TypeError.TheVariants.{Untyped}
use Rattle.hs_typer.specs.declared.type_error.TypeError.{TypeError}
use Rattle.hs_typer.specs.declared.typer.Entity.{Entity}
use Rattle.hs_typer.specs.declared.typer.Typer.{Typer}
use Rattle.hs_types.specs.TypeTables.{TypeTable, Grows, is_complete}
use Rattle.hs_types.specs.declared.row.ListId.{ListId}
use Rattle.hs_types.specs.declared.row.Parameters.TheVariants.{Empty, More}
use Rattle.hs_types.specs.declared.row.Parameters.{Parameters as Listed}
use Rattle.hs_types.specs.declared.row.Row.TheVariants as row
use Rattle.hs_types.specs.declared.row.Row.{Row}
use Rattle.hs_types.specs.declared.row.TypeId.{TypeId}

-- ---- parameters

named_parameter_moved : (first : Place) (word : Option Word) (id : TypeId) → Moved (named_parameter first word id)
named_parameter_moved first None id = stops_moved (Untyped first)
named_parameter_moved first (Some word) id = record { from = λ m scoped. named_if m scoped (is_complete m.typer.types id) refl }
  where
    named_if : (m : Translator) → IsScoped m.typer → (b : Bool) → is_complete m.typer.types id ≡ b
        → Moving m (work_with {A = Unit {0}} {B = Unit {0}} (λ may. new_local word id >>= (λ place. pass tt))
        (if not b then Err (Untyped word.place) else Ok (tt, m)))
    named_if m scoped true whole =
        local_moves m m.typer (m.locals ++ local_of word id ∷ []) id scoped (reaches_self Anything m.typer) whole (types_with m.locals (local_of word id))
    named_if m scoped false fails = tt

first_type_moved : (first : Place) (it : Option Listed) → Moved (first_type first it)
first_type_moved first None = stops_moved (Untyped first)
first_type_moved first (Some Empty) = stops_moved (Untyped first)
first_type_moved first (Some (More id others)) = passes_moved (id, others)

next_type_moved : (first : Place) (list : ListId) → Moved (next_type first list)
next_type_moved first list = record { from = λ m scoped. (first_type_moved first (slice_get m.typer.types.lists list.number)).from m scoped }

parameter_in_moved : (first : Place) (it : Declared) (list : ListId) → Moved (parameter_in first it list)
parameter_in_moved first it list =
    then_moved (next_type first list) (next_type_moved first list)
    (λ its. then_moved (named_parameter first (word_of it) its.0) (named_parameter_moved first (word_of it) its.0) (λ done. passes_moved its.1))

pub parameters_in_moved : (at : Place) (its : Parameters) (list : ListId) → Moved (parameters_in at its list)
parameters_in_moved at syntax.no_parameters list = passes_moved tt
parameters_in_moved at (syntax.more_parameters words it rest) list =
    then_moved (parameter_in (first_place at words) it list) (parameter_in_moved (first_place at words) it list)
    (λ others. parameters_in_moved at rest others)

-- ---- a function definition

-- a function gives nothing, or a value that can be read
abbrev Gives : TypeTable → TypeId → Type 0
Gives types id = (is_void types id || is_readable types id) ≡ true

gives_by : (old new : TypeTable) (id : TypeId) → Grows old new → (a b : Bool) → is_void old id ≡ a → is_readable old id ≡ b → (a || b) ≡ true
    → Gives new id
gives_by old new id grows true b is too either = rw (is_void-stays old new grows id is) refl
gives_by old new id grows false true is too either = rw (is_readable-stays old new grows id too) (or_true (is_void new id))
gives_by old new id grows false false is too either = absurd cc

pub gives_stays : (old new : TypeTable) (id : TypeId) → Grows old new → Gives old id → Gives new id
gives_stays old new id grows gives = gives_by old new id grows (is_void old id) (is_readable old id) refl refl gives

-- what a definition gives
abbrev pub FitsGiven : Translator → Result (TypedFunction × Translator) TypeError → Type 0
FitsGiven m (Ok p) = Passes m p.1 × FitsDefinition p.1.typer.types p.0
FitsGiven m (Err why) = Unit {0}

module _ (m : Translator) (are : AreWhole m.typer.types m.locals) (word : Word) (its : TypeId) (body : Compound) where
  -- after its body
  done_fits : (mid : Typer) (c new : Translator) (before : ℕ) (made : TypedBlock) → Inner m mid new → HasLocals new.typer.types c.locals new.locals
      → Gives new.typer.types its → FitsGiven m (finished word.text word.place its (length c.locals) before made new)
  done_fits mid c new before made inner has gives =
      let left = inner_left m mid new inner in
      let variables = marked (drop before new.typer.taken) 0 new.locals in
      let whole = whole_with m.typer.types new.typer.types m.locals new.locals left.types are inner.locals in
      let same = marked_types (drop before new.typer.taken) 0 new.locals in (
        record {
          types = left.types;
          literals = left.literals;
          taken = left.taken;
          calls = left.calls;
          table = left.table;
          counts = left.counts;
          scoped = inner_closed m mid new inner;
          definitions = inner.definitions;
          whole = tt;
        },
        (
          subst (λ n. length c.locals ≤ n) (sym (sym (count_types variables) ∙ ap length same ∙ count_types new.locals))
              (no_fewer new.typer.types c.locals new.locals has),
          each_whole new.typer.types variables (subst (AllByRecursion (IsWhole new.typer.types)) (sym same) whole),
          gives,
        ),
      )

  after_body : (mid : Typer) (c : Translator) → Inner m mid c → Gives c.typer.types its → (given : Result (TypedBlock × Translator) TypeError)
      → Moving c given
      → FitsGiven m (work_with (λ made. finished word.text word.place its (length c.locals) (length c.typer.taken) made) given)
  after_body mid c inner gives (Ok p) moves =
      done_fits mid c p.1 (length c.typer.taken) p.0 (inner_moves m mid c p.1 inner moves) moves.locals
      (gives_stays c.typer.types p.1.typer.types its moves.typer.types gives)
  after_body mid c inner gives (Err why) moves = tt

  after_parameters : (mid : Typer) (n : Translator) → Inner m mid n → Gives n.typer.types its → (given : Result (Unit {0} × Translator) TypeError)
      → Moving n given
      → FitsGiven m (work_with {A = Unit {0}} {B = TypedFunction}
      (λ declared. counts >>= (λ done. body_of its body >>= (λ made. finished word.text word.place its done.0 done.1 made))) given)
  after_parameters mid n inner gives (Ok p) moves =
      after_body mid p.1 (inner_moves m mid n p.1 inner moves) (gives_stays n.typer.types p.1.typer.types its moves.typer.types gives)
      (body_of its body p.1) ((body_moved its body).from p.1 moves.scoped)
  after_parameters mid n inner gives (Err why) moves = tt

  after_named : (number : ℕ) (them : Parameters) (list : ListId) (entity : Entity) (mid : Typer) (n : Translator) → Inner m mid n → Gives n.typer.types its
      → FitsGiven m ((typing (named_outside word entity) >> (parameters_in word.place them list
      >> (counts >>= (λ done. body_of its body >>= (λ made. finished word.text word.place its done.0 done.1 made))))) n)
  after_named number them list entity mid n inner gives =
      let named = inner_named word.text entity m mid n inner in
      after_parameters _ _ named gives (parameters_in word.place them list _) ((parameters_in_moved word.place them list).from _ named.scoped)

  after_only : (number : ℕ) (them : Parameters) (list : ListId) (entity : Entity) (mid : Typer) (n : Translator) (b : Bool) → Inner m mid n
      → Gives n.typer.types its
      → FitsGiven m (work_with {A = Unit {0}} {B = TypedFunction} (λ only. typing (named_outside word entity) >> (parameters_in word.place them list
      >> (counts >>= (λ done. body_of its body >>= (λ made. finished word.text word.place its done.0 done.1 made)))))
      (if b then Err (clash_of word) else Ok (tt, n)))
  after_only number them list entity mid n true inner gives = tt
  after_only number them list entity mid n false inner gives = after_named number them list entity mid n inner gives

  after_link : (number : ℕ) (them : Parameters) (list : ListId) (mid : Typer) (n : Translator) → Inner m mid n → Gives n.typer.types its
      → (given : Result (Entity × Translator) TypeError) → Moving n given
      → FitsGiven m (work_with (λ entity. is_only number word entity >> (typing (named_outside word entity) >> (parameters_in word.place them list
      >> (counts >>= (λ done. body_of its body >>= (λ made. finished word.text word.place its done.0 done.1 made)))))) given)
  after_link number them list mid n inner gives (Ok p) moves =
      after_only number them list p.0 mid p.1 (is_of_other number p.0) (inner_moves m mid n p.1 inner moves)
      (gives_stays n.typer.types p.1.typer.types its moves.typer.types gives)
  after_link number them list mid n inner gives (Err why) moves = tt

  -- by its type, inside the scope of its parameters
  with_fits : (number : ℕ) (static : Bool) (them : Parameters) (id : TypeId) (list : ListId) (mid : Typer) (n : Translator) → Inner m mid n
      → FitsGiven m (defined_with number static word them id body its list n)
  with_fits number static them id list mid n inner = may (is_void n.typer.types its || is_readable n.typer.types its) refl
    where
      may : (b : Bool) → (is_void n.typer.types its || is_readable n.typer.types its) ≡ b
          → FitsGiven m (work_with {A = Unit {0}} {B = TypedFunction} (λ may. link static word id
          >>= (λ entity. is_only number word entity >> (typing (named_outside word entity) >> (parameters_in word.place them list
          >> (counts >>= (λ done. body_of its body >>= (λ made. finished word.text word.place its done.0 done.1 made)))))))
          (if not b then Err (Untyped word.place) else Ok (tt, n)))
      may true gives = after_link number them list mid n inner gives (link static word id n) ((link_moved static word id).from n inner.scoped)
      may false fails = tt

module _ (m : Translator) (are : AreWhole m.typer.types m.locals) (scoped : IsScoped m.typer) where
  of_fits : (number : ℕ) (static : Bool) (word : Word) (them : Parameters) (id : TypeId) (body : Compound) (it : Option Row) (mid : Typer)
      (n : Translator) → Inner m mid n → FitsGiven m (defined_of number static word them id body it n)
  of_fits number static word them id body None mid n inner = tt
  of_fits number static word them id body (Some row.Void) mid n inner = tt
  of_fits number static word them id body (Some (row.Integer kind)) mid n inner = tt
  of_fits number static word them id body (Some (row.Pointer of)) mid n inner = tt
  of_fits number static word them id body (Some (row.Enumeration tag)) mid n inner = tt
  of_fits number static word them id body (Some (row.Struct tag)) mid n inner = tt
  of_fits number static word them id body (Some (row.Array of length layout)) mid n inner = tt
  of_fits number static word them id body (Some (row.OpenArray of)) mid n inner = tt
  of_fits number static word them id body (Some (row.Function its list)) mid n inner =
      with_fits m are word its body number static them id list mid n inner

  -- the scope of the parameters is open
  opened_inner : (new : Typer) (mid : Typer) → Reaches Anything m.typer mid → Reaches Anything (enter mid) new → IsScoped mid → IsScoped new
      → Inner m mid (record m { typer = new })
  opened_inner new mid around inside closed is =
      record { around = around; inside = inside; closed = closed; scoped = is; definitions = refl; locals = same_locals new.types m.locals }

  opened_fits : (number : ℕ) (static : Bool) (word : Word) (them : Parameters) (body : Compound) (given : Result (TypeId × Typer) TypeError)
      → Begun m.typer given → FitsGiven m (work_with (λ id. defined_as number static word them body id) (with_typer m given))
  opened_fits number static word them body (Ok p) begun =
      of_fits number static word them p.0 body _ begun.0 (record m { typer = p.1 }) (opened_inner p.1 begun.0 begun.1 begun.2 begun.3 begun.4)
  opened_fits number static word them body (Err why) begun = tt

  by_fits : (number : ℕ) (at : Place) (said : Front) (it : Declared) (body : Compound) (word : Option Word) (them : Option Parameters)
      → parameters_of it ≡ them → FitsGiven m (defined_by number at said it body word them m)
  by_fits number at said it body None them same = tt
  by_fits number at said it body (Some word) None same = tt
  by_fits number at said it body (Some word) (Some them) same =
      named_if (is_barred word m)
    where
      named_if : (b : Bool)
          → FitsGiven m (work_with {A = Unit {0}} {B = TypedFunction} (λ may. typing (opened_type at said.type_id it them)
          >>= (λ id. defined_as number (is_static said.storage) word them body id)) (if b then Err (Untyped word.place) else Ok (tt, m)))
      named_if true = tt
      named_if false =
          opened_fits number (is_static said.storage) word them body (opened_type at said.type_id it them m.typer)
          (opened_begins at said.type_id it them same m.typer scoped)

  pub said_fits : (number : ℕ) (at stored : Place) (it : Declared) (body : Compound) (said : Front)
      → FitsGiven m (defined_said number at stored it body said m)
  said_fits number at stored it body said = stored_if (is_typedef_word said.storage)
    where
      stored_if : (b : Bool)
          → FitsGiven m (work_with {A = Unit {0}} {B = TypedFunction} (λ may. defined_by number at said it body (word_of it) (parameters_of it))
          (if b then Err (Untyped stored) else Ok (tt, m)))
      stored_if true = tt
      stored_if false = by_fits number at said it body (word_of it) (parameters_of it) refl

-- from a place before it
fits_behind : (first second : Translator) (given : Result (TypedFunction × Translator) TypeError) → Passes first second → FitsGiven second given
    → FitsGiven first given
fits_behind first second (Ok p) before after = (passes_then first second p.1 before after.0, after.1)
fits_behind first second (Err why) before after = tt

said_after : (m : Translator) → AreWhole m.typer.types m.locals → (number : ℕ) (at stored : Place) (it : Declared) (body : Compound)
    (given : Result (Front × Translator) TypeError) → Moving m given
    → FitsGiven m (work_with (λ said. defined_said number at stored it body said) given)
said_after m are number at stored it body (Ok p) moves =
    let passes = passes_moves m p.1 are moves in
    fits_behind m p.1 (defined_said number at stored it body p.0 p.1) passes (said_fits p.1 passes.whole passes.scoped number at stored it body p.0)
said_after m are number at stored it body (Err why) moves = tt

-- a function definition
pub defined_fits : (number : ℕ) (words : Specification) (it : Declared) (body : Compound) (m : Translator) → IsScoped m.typer
    → AreWhole m.typer.types m.locals → FitsGiven m (defined number words it body m)
defined_fits number words it body m scoped are =
    let at = first_place (brace_of body) words in
    said_after m are number at (storage_place at words) it body (typing (front at words) m) ((front_moved at words).from m scoped)
