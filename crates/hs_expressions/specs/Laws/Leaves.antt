-- The steps that change what is known: strings, addresses, calls, tags, bodies, constants and parameters.
use Rattle.std.proofs.Common.{◌≡◌, ℕ, Bool, true, false, List, [], ◌∷◌, ◌++◌, Option, Some, None, Result, Ok, Err, refl, if◌then◌else◌}
use Rattle.std.specs.Prelude.{slice_get, length, is_some, ◌||◌, ◌&&◌, not}
use Rattle.hs_typer.specs.Declarators.{parameter_type, listed, word_of, place_of, is_typedef, declare}
use Rattle.hs_typer.specs.Declaring.{note_tentative, list_of, declare_parameter, parameter}
use Rattle.hs_expressions.specs.Laws.{IsConstant, IsTagAt}
use Rattle.hs_expressions.specs.Laws.Always.{Reaching, Always, Anything, gives_always, refuses_always, of_types_always, on_types_always, then_always, and_always}
use Rattle.hs_expressions.specs.Laws.Grown.{Growing, GrowsTo, plain_self, plain_row, arrayed_grows, enumerated_grows, listed_grows, parameter_type_grows}
use Rattle.hs_expressions.specs.Laws.Braces.{firsts_traced, enumeration_first, enumeration_later}
use Rattle.hs_expressions.specs.Laws.Origins.{traced_struct}
use Rattle.hs_expressions.specs.Laws.Reached.{IsAllowedAt, prefix_self, prefix_if, more_self, more_one, reaches_self, reaches_begun, reaches_tentatives, reaches_bodies, reaches_types, reaches_named, reaches_names, reaches_noted, reaches_further}
use Rattle.hs_expressions.specs.Laws.Traced.{traced_tags}
use Rattle.hs_expressions.specs.Operations.{taken_by, address_as, addressed, prefix_object, stepped, bound_call, call_with, call_operand}
use Rattle.hs_typer.specs.Origins.{with_struct_origin, with_enumeration_origin, brace_of, kept_for, times_at, first_at, first_name, is_plain, begun_nowhere, joined, met, closed, tags_agree}
use Rattle.hs_typer.specs.Primaries.{string_bytes, string_in, string_as, string_of}
use Rattle.hs_expressions.specs.Roles.{fits_role}
use Rattle.hs_typer.specs.Specifiers.{struct_type, enumeration_type, is_outermost, new_struct, new_tagged_struct, tagged_struct_as, tagged_struct, has_open_body, begun_struct_as, begun_struct, body_opened, opened_struct, new_enumeration, new_tagged_enumeration, begun_enumeration_as, begun_enumeration, with_body_in, enumeration_with_body, completed_enumeration, enumerator}
use Rattle.hs_typer.specs.Steps.{lifted}
use Rattle.hs_typer.specs.Tags.{new_origin}
use Rattle.hs_typer.specs.declared.declarators.Derivation.{Derivation}
use Rattle.hs_typer.specs.declared.marks.Tentative.{Tentative}
use Rattle.hs_typer.specs.declared.origins.Brace.{Brace}
use Rattle.hs_typer.specs.declared.origins.Origins.{Origins}
use Rattle.hs_typer.specs.declared.type_error.TypeError.{TypeError}
use Rattle.hs_typer.specs.declared.type_error.TypeError.TheVariants.{Untyped, Clash}
use Rattle.hs_typer.specs.declared.typer.Entity.{Entity}
use Rattle.hs_typer.specs.declared.typer.Entity.TheVariants as entity
use Rattle.hs_typer.specs.declared.typer.Tag.{Tag}
use Rattle.hs_typer.specs.declared.typer.Tag.TheVariants as tag
use Rattle.hs_typer.specs.declared.typer.Typer.{Typer}
use Rattle.hs_names.specs.Scopes.{find, find_here, declared}
use Rattle.hs_operands.specs.Assignments.{called}
use Rattle.hs_operands.specs.Calls.{call_of, call_routine_of}
use Rattle.hs_operands.specs.Objects.{object_of}
use Rattle.hs_operand_types.specs.Operands as operand
use Rattle.hs_operand_types.specs.Operands.{TypedOperand, head_of_operand}
use Rattle.hs_operand_types.specs.declared.operand.Bound.{Bound}
use Rattle.hs_operand_types.specs.declared.operand.Bound.TheVariants as bound
use Rattle.hs_operand_types.specs.declared.operand.Designator.{Designator}
use Rattle.hs_syntax.specs.Trees.{Declared}
use Rattle.hs_syntax.specs.declared.operators.PrefixOperator.{PrefixOperator}
use Rattle.hs_syntax.specs.declared.operators.PrefixOperator.TheVariants as prefix
use Rattle.hs_syntax.specs.declared.word.Word.{Word}
use Rattle.hs_tokens.specs.declared.place.Place.{Place}
use Rattle.hs_tree.specs.Trees.{RightValue, LeftValue, type_of_left}
use Rattle.hs_tree.specs.declared.head.Variable.TheVariants as variable
use Rattle.hs_tree.specs.declared.operators.Arithmetic.TheVariants as arithmetic
use Rattle.hs_types.specs.Growing.{grows_self}
use Rattle.hs_types.specs.Rows.{integer_id}
use Rattle.hs_types.specs.TypeTables.{TypeTable, with_row, arrayed, awaits_body, enumerated, with_struct, with_enumeration, with_constants}
use Rattle.hs_types.specs.declared.body.Enumerator.{Enumerator}
use Rattle.hs_types.specs.declared.integer.Integer.TheVariants as kind
use Rattle.hs_types.specs.declared.row.Row.TheVariants as row
use Rattle.hs_types.specs.declared.row.TypeId.{TypeId}
use Rattle.hs_types.specs.declared.types.TypeEnd.{TypeEnd}
use Rattle.hs_types.specs.declared.types.TypeEnd.TheVariants as end
use Rattle.hs_types.specs.TableLaws.{grows_struct, grows_enumeration}

-- a body begins in the unit where it stands
pub met_unit : (at : Place) (it : Tag) (brace : Brace) (o : Origins) → (met at it brace o).unit ≡ o.unit
met_unit at (tag.Struct number) brace o = refl
met_unit at (tag.Enumeration number) brace o = refl

-- the structs are those that there were
abbrev HasStructs : {E : Type 0} → TypeTable → Result TypeTable E → Type 0
HasStructs types (Ok new) = new.structs ≡ types.structs
HasStructs types (Err why) = Unit {0}

enumerated_structs : (number : ℕ) (its : List Enumerator) (types : TypeTable) → HasStructs types (enumerated number its types)
enumerated_structs number its types = by_test (awaits_body (slice_get types.enumerations number))
  where
    by_test : (b : Bool) → HasStructs {E = TypeEnd} types (if b then Ok (with_constants number its types) else Err end.Redefined)
    by_test true = refl
    by_test false = tt

module _ (allowed : Entity → Type 0) where
  -- an answer under a test
  if_reaches : {A : Type 0} → (b : Bool) (s : Typer) (here there : Result (A × Typer) TypeError) → Reaching allowed s here → Reaching allowed s there
      → Reaching allowed s (if b then here else there)
  if_reaches true s here there is is' = is
  if_reaches false s here there is is' = is'

  -- a string
  string_in_reaches : (s : Typer) (at : Place) (bytes : List ℕ) (given : Result (TypeId × TypeTable) TypeEnd) → Growing s.types given
      → Reaching allowed s (string_in s at bytes given)
  string_in_reaches s at bytes (Ok p) grows =
      reaches_noted allowed s p.1 (if s.counts then s.literals ++ bytes ∷ [] else s.literals) s.taken s.calls grows
      (prefix_if s.counts s.literals (bytes ∷ [])) (prefix_self s.taken) (prefix_self s.calls)
  string_in_reaches s at bytes (Err why) grows = tt

  string_as_reaches : (s : Typer) (at : Place) (o : Option (List ℕ)) → Reaching allowed s (string_as at o s)
  string_as_reaches s at None = tt
  string_as_reaches s at (Some bytes) =
      string_in_reaches s at bytes (arrayed (integer_id kind.Char) (length bytes) s.types) (arrayed_grows (integer_id kind.Char) (length bytes) s.types)

  -- an address, which is noted if it counts
  address_reaches : (s : Typer) (at : Place) (given : Result LeftValue TypeError) → Reaching allowed s (address_as at given s)
  address_reaches s at (Ok it) =
      reaches_noted allowed s (with_row (row.Pointer (type_of_left it)) s.types) s.literals
      (if s.counts then s.taken ++ taken_by it else s.taken) s.calls (plain_row (row.Pointer (type_of_left it)) s.types)
      (prefix_self s.literals) (prefix_if s.counts s.taken (taken_by it)) (prefix_self s.calls)
  address_reaches s at (Err why) = tt

  -- a call
  routine_reaches : (b : Bool) (it : Designator) (number : ℕ) (made : TypedOperand) (s : Typer)
      → Reaching allowed s (
      if b
      then Ok (made, record s { calls = s.calls ++ record { routine = number; type_id = it.head.type_id } ∷ [] })
      else Err (Clash it.head.at it.name)
      )
  routine_reaches true it number made s =
      reaches_noted allowed s s.types s.literals s.taken (s.calls ++ record { routine = number; type_id = it.head.type_id } ∷ [])
      (plain_self s.types) (prefix_self s.literals) (prefix_self s.taken) (record { routine = number; type_id = it.head.type_id } ∷ [], refl)
  routine_reaches false it number made s = tt

  bound_reaches : (its : Bound) (it : Designator) (p : TypeId × List RightValue) (s : Typer) → Reaching allowed s (bound_call its it p s)
  bound_reaches (bound.Function number) it p s = reaches_self allowed s
  bound_reaches (bound.Routine number) it p s =
      routine_reaches (fits_role s.types s.table number it.head.type_id) it number
      (operand.value (call_routine_of it.head.at number p)) s
  bound_reaches bound.Nothing it p s = tt

  pub tagged_struct_reaches : (word : Word) (s : Typer) → Reaching allowed s (new_tagged_struct word s)
  tagged_struct_reaches word s =
      reaches_named allowed s (with_struct s.types) s.names (declared word.text (tag.Struct (length s.types.structs)) s.tags)
      (with_struct_origin (is_outermost s) (Some word.text) s.origins) (grows_struct s.types) (more_self (IsAllowedAt allowed s.names.level) s.names)
      (more_one (IsTagAt s.tags.level) word.text (tag.Struct (length s.types.structs)) s.tags refl) refl
      (λ base is. traced_struct base s.types.structs s.origins s.tags.declarations
      (declared word.text (tag.Struct (length s.types.structs)) s.tags).declarations
      (new_origin (is_outermost s) (Some word.text) s.origins.unit) refl refl (λ there own. (there, own)) is)

  tagged_enumeration_reaches : (word : Word) (s : Typer) → Reaching allowed s (new_tagged_enumeration word s)
  tagged_enumeration_reaches word s =
      reaches_named allowed s (with_enumeration s.types) s.names (declared word.text (tag.Enumeration (length s.types.enumerations)) s.tags)
      (with_enumeration_origin s.origins) (grows_enumeration s.types) (more_self (IsAllowedAt allowed s.names.level) s.names)
      (more_one (IsTagAt s.tags.level) word.text (tag.Enumeration (length s.types.enumerations)) s.tags refl) refl
      (λ base is.
      let one = firsts_traced base s.types.structs s.origins (with_enumeration_origin s.origins) s.tags.declarations refl refl (λ other old. old) is in (
        traced_tags base s.types.structs (with_enumeration_origin s.origins) s.tags.declarations
            (declared word.text (tag.Enumeration (length s.types.enumerations)) s.tags).declarations one.0 (tt, one.0.owned),
        one.1,
      ))

  -- a struct that a tag names
  tagged_reaches : (word : Word) (o : Option Tag) (s : Typer) → Reaching allowed s (tagged_struct_as word o s)
  tagged_reaches word None s = tagged_struct_reaches word s
  tagged_reaches word (Some (tag.Struct number)) s = reaches_self allowed s
  tagged_reaches word (Some (tag.Enumeration number)) s = tt

  -- a struct whose body begins
  begun_reaches : (word : Word) (o : Option Tag) (s : Typer) → Reaching allowed s (begun_struct_as word o s)
  begun_reaches word None s = tagged_struct_reaches word s
  begun_reaches word (Some (tag.Struct number)) s =
      if_reaches (awaits_body (slice_get s.types.structs number) && not (has_open_body number s)) s (Ok (number, s)) (Err (Untyped word.place))
      (reaches_self allowed s) tt
  begun_reaches word (Some (tag.Enumeration number)) s = tt

  -- an enumeration whose body begins
  begun_enumeration_reaches : (word : Word) (o : Option Tag) (s : Typer) → Reaching allowed s (begun_enumeration_as word o s)
  begun_enumeration_reaches word None s = tagged_enumeration_reaches word s
  begun_enumeration_reaches word (Some its) s = tt

  -- the constants of an enumeration
  body_reaches : (s : Typer) (first : Place) (word : Option Word) (given : Result TypeTable TypeEnd) → GrowsTo s.types given
      → HasStructs s.types given → Reaching allowed s (with_body_in s first word given)
  body_reaches s first word (Ok types) grows same = reaches_types allowed s types (grows, same)
  body_reaches s first word (Err why) grows same = tt

  -- at their brace
  constants_joined_reaches : (at : Place) (number : ℕ) (brace : Brace) (o : Option Tag) (s : Typer) → kept_for brace s.origins.firsts ≡ o
      → Reaching allowed s (joined at (tag.Enumeration number) brace o s)
  constants_joined_reaches at number brace None s free =
      reaches_further allowed s s s.types (first_at brace (tag.Enumeration number) (met at (tag.Enumeration number) brace s.origins))
      (reaches_self allowed s) (grows_self s.types) (met_unit at (tag.Enumeration number) brace s.origins)
      (λ base is. enumeration_first base s.types.structs s.origins s.tags.declarations at brace is number free)
  constants_joined_reaches at number brace (Some first) s kept =
      if_reaches {A = Unit {0}} (tags_agree s.types (met at (tag.Enumeration number) brace s.origins) first (tag.Enumeration number)) s
      (Ok (tt, record s { origins = met at (tag.Enumeration number) brace s.origins })) (Err (Clash at (first_name s.types (tag.Enumeration number))))
      (reaches_further allowed s s s.types (met at (tag.Enumeration number) brace s.origins) (reaches_self allowed s) (grows_self s.types)
      (met_unit at (tag.Enumeration number) brace s.origins)
      (λ base is. enumeration_later base s.types.structs s.origins s.tags.declarations at brace is number)) tt

  constants_closed_reaches : (at : Place) (number : ℕ) (s : Typer) → Reaching allowed s (closed at (tag.Enumeration number) s)
  constants_closed_reaches at number s =
      if_reaches {A = Unit {0}} (is_plain at.origin) s
      (joined at (tag.Enumeration number) (brace_of at (times_at at s.origins)) (kept_for (brace_of at (times_at at s.origins)) s.origins.firsts) s)
      (Ok (tt, record s { origins = begun_nowhere (tag.Enumeration number) s.origins }))
      (constants_joined_reaches at number (brace_of at (times_at at s.origins))
      (kept_for (brace_of at (times_at at s.origins)) s.origins.firsts) s refl) (reaches_self allowed s)

  -- a name of an allowed sort
  declared_reaches : (nothing : Unit {0}) (word : Word) (it : Entity) → allowed it → (b : Bool) (s : Typer)
      → Reaching allowed s (
      if b then Err (Untyped word.place) else Ok (nothing, record s { names = declared word.text it s.names })
      )
  declared_reaches nothing word it fits true s = tt
  declared_reaches nothing word it fits false s =
      reaches_names allowed s (declared word.text it s.names)
      (more_one (IsAllowedAt allowed s.names.level) word.text it s.names (refl, fits))

module _ {allowed : Entity → Type 0} where
  pub string_always : (first : Word) (others : List Word) → Always allowed (string_of first others)
  string_always first others = record { from = λ s scoped. string_as_reaches allowed s first.place (string_bytes first others) }

  pub addressed_always : (at : Place) (it : TypedOperand) → Always allowed (addressed at it)
  addressed_always at it = record { from = λ s scoped. address_reaches allowed s at (lifted (object_of at it)) }

  pub prefix_object_always : (op : PrefixOperator) (at : Place) (it : TypedOperand) → Always allowed (prefix_object op at it)
  prefix_object_always prefix.Increment at it = of_types_always (λ types. stepped types at arithmetic.Add it)
  prefix_object_always prefix.Decrement at it = of_types_always (λ types. stepped types at arithmetic.Subtract it)
  prefix_object_always prefix.Address at it = addressed_always at it
  prefix_object_always prefix.Dereference at it = addressed_always at it
  prefix_object_always prefix.Plus at it = addressed_always at it
  prefix_object_always prefix.Minus at it = addressed_always at it
  prefix_object_always prefix.Complement at it = addressed_always at it
  prefix_object_always prefix.Not at it = addressed_always at it

  pub call_with_always : (it : Designator) (p : TypeId × List RightValue) → Always allowed (call_with it p)
  call_with_always it p =
      record {
        from = λ s scoped. if_reaches allowed s.counts s (bound_call it.bound it p s) (Ok (operand.value (call_of it.head.at 0 p), s))
            (bound_reaches allowed it.bound it p s) (reaches_self allowed s);
      }

  pub call_operand_always : (it : TypedOperand) (arguments : List RightValue) → Always allowed (call_operand it arguments)
  call_operand_always (operand.value e) arguments = refuses_always (Untyped (head_of_operand (operand.value e)).at)
  call_operand_always (operand.object it) arguments = refuses_always (Untyped (head_of_operand (operand.object it)).at)
  call_operand_always (operand.function it) arguments =
      then_always (of_types_always (λ types. lifted (called types it.head.at it.head.type_id arguments))) (λ its. call_with_always it its)

  -- the types of structs and enumerations
  pub struct_type_always : (number : ℕ) → Always allowed (struct_type number)
  struct_type_always number =
      record { from = λ s scoped. reaches_types allowed s (with_row (row.Struct number) s.types) (plain_row (row.Struct number) s.types) }

  pub enumeration_type_always : (number : ℕ) → Always allowed (enumeration_type number)
  enumeration_type_always number =
      record {
        from = λ s scoped. reaches_types allowed s (with_row (row.Enumeration number) s.types) (plain_row (row.Enumeration number) s.types);
      }

  -- a new one, with a tag or without
  new_struct_always : Always allowed new_struct
  new_struct_always =
      record {
        from = λ s scoped. reaches_named allowed s (with_struct s.types) s.names s.tags (with_struct_origin false None s.origins) (grows_struct s.types)
            (more_self (IsAllowedAt allowed s.names.level) s.names) (more_self (IsTagAt s.tags.level) s.tags) refl
            (λ base is. traced_struct base s.types.structs s.origins s.tags.declarations s.tags.declarations
            (new_origin false None s.origins.unit) refl refl (λ there own. own) is);
      }

  new_enumeration_always : Always allowed new_enumeration
  new_enumeration_always =
      record {
        from = λ s scoped. reaches_named allowed s (with_enumeration s.types) s.names s.tags (with_enumeration_origin s.origins)
            (grows_enumeration s.types) (more_self (IsAllowedAt allowed s.names.level) s.names) (more_self (IsTagAt s.tags.level) s.tags) refl
            (λ base is. firsts_traced base s.types.structs s.origins (with_enumeration_origin s.origins) s.tags.declarations refl refl
            (λ other old. old) is);
      }

  pub tagged_struct_always : (word : Word) → Always allowed (tagged_struct word)
  tagged_struct_always word = record { from = λ s scoped. tagged_reaches allowed word (find word.text s.tags) s }

  pub begun_struct_always : (o : Option Word) → Always allowed (begun_struct o)
  begun_struct_always None = new_struct_always
  begun_struct_always (Some word) = record { from = λ s scoped. begun_reaches allowed word (find_here word.text s.tags) s }

  pub opened_struct_always : (o : Option Word) → Always allowed (opened_struct o)
  opened_struct_always o = then_always (begun_struct_always o) (λ number. opens number)
    where
      opens : (number : ℕ) → Always allowed (body_opened number)
      opens number = record {
        from = λ s scoped. reaches_begun allowed s (record s { open_bodies = s.open_bodies ++ number ∷ [] }) (s.begun ++ number ∷ [])
            (reaches_bodies allowed s s (s.open_bodies ++ number ∷ []) (reaches_self allowed s));
      }

  pub begun_enumeration_always : (o : Option Word) → Always allowed (begun_enumeration o)
  begun_enumeration_always None = new_enumeration_always
  begun_enumeration_always (Some word) = record { from = λ s scoped. begun_enumeration_reaches allowed word (find_here word.text s.tags) s }

  closed_always : (at : Place) (number : ℕ) → Always allowed (closed at (tag.Enumeration number))
  closed_always at number = record { from = λ s scoped. constants_closed_reaches allowed at number s }

  enumeration_always : (first : Place) (word : Option Word) (number : ℕ) (its : List Enumerator)
      → Always allowed (enumeration_with_body first word number its)
  enumeration_always first word number its =
      record {
        from = λ s scoped. body_reaches allowed s first word (enumerated number its s.types) (enumerated_grows number its s.types)
            (enumerated_structs number its s.types);
      }

  pub completed_enumeration_always : (first : Place) (word : Option Word) (brace : Place) (number : ℕ) (its : List Enumerator)
      → Always allowed (completed_enumeration first word brace number its)
  completed_enumeration_always first word brace number its =
      and_always (enumeration_always first word number its) (closed_always brace number)

  -- an object whose type is not complete
  pub note_tentative_always : (it : Tentative) → Always allowed (note_tentative it)
  note_tentative_always it =
      record { from = λ s scoped. reaches_tentatives allowed s s (s.tentatives ++ it ∷ []) (reaches_self allowed s) }

  -- a list of parameter types
  pub list_of_always : (ids : List TypeId) → Always allowed (list_of ids)
  list_of_always ids = on_types_always (λ types. Ok (listed ids types)) (λ types. listed_grows ids types)

  pub declare_always : (word : Word) (it : Entity) → allowed it → Always allowed (declare word it)
  declare_always word it fits =
      record {
        from = λ s scoped.
            declared_reaches allowed tt word it fits (is_typedef (find word.text s.names) || is_some (find_here word.text s.names)) s;
      }

-- a constant
pub enumerator_always : (done : List Enumerator) (word : Word) (o : Option ℕ) → Always IsConstant (enumerator done word o)
enumerator_always done word None = refuses_always (Untyped word.place)
enumerator_always done word (Some bits) =
    and_always (declare_always word (entity.Constant bits) tt) (gives_always (done ++ record { name = word.text; bits = bits } ∷ []))

-- a parameter
declare_parameter_always : (o : Option Word) (place : ℕ) (id : TypeId) → Always Anything (declare_parameter o place id)
declare_parameter_always None place id = gives_always tt
declare_parameter_always (Some word) place id = declare_always word (entity.Variable (variable.Local place) id) tt

pub parameter_always : (first : Place) (its : List Derivation) (id : TypeId) (it : Declared) (place : ℕ)
    → Always Anything (parameter first its id it place)
parameter_always first its id it place =
    then_always
    (on_types_always (parameter_type (place_of first it) its id) (λ types. parameter_type_grows (place_of first it) its id types))
    (λ made. and_always (declare_parameter_always (word_of it) place made) (gives_always made))
