-- What typing notes of calls: the steps that note none.
--     struct_type_notes, tagged_struct_notes, ..     structs and enumerations
--     string_notes, addressed_notes                  strings and addresses
use Rattle.std.proofs.Common.{◌≡◌, ℕ, Bool, true, false, List, Option, Some, None, Result, Ok, Err, refl, sym, subst, ◌∙◌, if◌then◌else◌}
use Rattle.std.specs.List.{AllByRecursion}
use Rattle.std.specs.Prelude.{◌&&◌, not, slice_get, length}
use Rattle.hs_expressions.specs.Laws.{IsConstant}
use Rattle.hs_expressions.specs.Laws.Always.{Always}
use Rattle.hs_expressions.specs.Laws.Grown.{Growing, GrowsTo, arrayed_grows, completed_grows, enumerated_grows}
use Rattle.hs_expressions.specs.Laws.Leaves.{string_always, addressed_always, note_tentative_always, struct_type_always, enumeration_type_always, tagged_struct_always, begun_struct_always, opened_struct_always, begun_enumeration_always, completed_enumeration_always}
use Rattle.hs_expressions.specs.Operations.{address_as, addressed}
use Rattle.hs_fitting.specs.Noting.{AllowsName, NamesAllow, IsOperandOf, AreCallsOf, Noting, Notes}
use Rattle.hs_fitting.specs.Rightness.{AreRight, Righting, RightsTo, right_row, right_struct, right_enumeration, right_self, arrayed_rights, completed_rights, enumerated_rights}
use Rattle.hs_names.specs.Scopes.{find, find_here}
use Rattle.hs_operands.specs.Objects.{object_of}
use Rattle.hs_operand_types.specs.Operands.{TypedOperand}
use Rattle.hs_syntax.specs.declared.word.Word.{Word}
use Rattle.hs_tokens.specs.declared.place.Place.{Place}
use Rattle.hs_tree.specs.Trees.{LeftValue, type_of_left}
use Rattle.hs_typer.specs.Declaring.{note_tentative}
use Rattle.hs_typer.specs.Origins.{brace_of, kept_for, times_at, first_name, is_plain, begun_nowhere, joined, met, closed, tags_agree}
use Rattle.hs_typer.specs.Primaries.{string_bytes, string_in, string_as, string_of}
use Rattle.hs_typer.specs.Specifiers.{struct_type, enumeration_type, tagged_struct_as, tagged_struct, has_open_body, begun_struct_as, begun_struct, body_opened, opened_struct, body_closed, begun_enumeration_as, begun_enumeration, with_body_in, struct_with_body, completed_struct, enumeration_with_body, completed_enumeration}
use Rattle.hs_typer.specs.Steps.{Step, then_with, lifted}
use Rattle.hs_typer.specs.declared.marks.Tentative.{Tentative}
use Rattle.hs_typer.specs.declared.origins.Brace.{Brace}
use Rattle.hs_typer.specs.declared.type_error.TypeError.{TypeError}
use Rattle.hs_typer.specs.declared.type_error.TypeError.TheVariants.{Untyped, Clash}
use Rattle.hs_typer.specs.declared.typer.Tag.{Tag}
use Rattle.hs_typer.specs.declared.typer.Tag.TheVariants as tag
use Rattle.hs_typer.specs.declared.typer.Typer.{Typer}
use Rattle.hs_types.specs.Growing.{grows_self, grows_then}
use Rattle.hs_types.specs.Rows.{integer_id}
use Rattle.hs_types.specs.TypeTables.{TypeTable, arrayed, awaits_body, completed, enumerated, Grows}
use Rattle.hs_types.specs.declared.body.Enumerator.{Enumerator}
use Rattle.hs_types.specs.declared.body.Member.{Member}
use Rattle.hs_types.specs.declared.integer.Integer.TheVariants as kind
use Rattle.hs_types.specs.declared.row.Row.TheVariants as row
use Rattle.hs_types.specs.declared.row.TypeId.{TypeId}
use Rattle.hs_types.specs.declared.types.TypeEnd.{TypeEnd}
use Rattle.hs_types.specs.TableLaws.{grows_row, grows_struct, grows_enumeration}

-- The names, the routines and the calls after the answer, if it is one, are those before; the table of types grows and stays right; and the
-- answer meets the fact.
abbrev Calm : {A : Type 0} → (A → Type 0) → Typer → Result (A × Typer) TypeError → Type 0
Calm holds s (Ok p) =
    (p.1.names ≡ s.names) × (p.1.table ≡ s.table) × (p.1.calls ≡ s.calls) × Grows s.types p.1.types × (AreRight s.types → AreRight p.1.types) × holds p.0
Calm holds s (Err why) = Unit {0}

-- both ways of a test
if_calm : {A : Type 0} → (holds : A → Type 0) (b : Bool) (s : Typer) (here there : Result (A × Typer) TypeError) → Calm holds s here
    → Calm holds s there → Calm holds s (if b then here else there)
if_calm holds true s here there is is' = is
if_calm holds false s here there is is' = is'

-- one step after another
calm_behind : {A B : Type 0} → (holds : A → Type 0) (holds' : B → Type 0) (s : Typer) (p : A × Typer) (given : Result (B × Typer) TypeError)
    → Calm holds s (Ok p) → Calm holds' p.1 given → Calm holds' s given
calm_behind holds holds' s p (Ok q) before after = (
  after.0 ∙ before.0,
  after.1 ∙ before.1,
  after.2 ∙ before.2,
  grows_then s.types p.1.types q.1.types before.3 after.3,
  λ right. after.4 (before.4 right),
  after.5,
)
calm_behind holds holds' s p (Err why) before after = tt

-- with the step that comes after an answer
then_calm : {A B : Type 0} → (holds : A → Type 0) (holds' : B → Type 0) (next : A → Step B) (s : Typer) (given : Result (A × Typer) TypeError)
    → Calm holds s given → ((it : A) (mid : Typer) → Calm holds' mid (next it mid)) → Calm holds' s (then_with next given)
then_calm holds holds' next s (Ok p) is after = calm_behind holds holds' s p (next p.0 p.1) is (after p.0 p.1)
then_calm holds holds' next s (Err why) is after = tt

-- a struct that a tag names
tagged_calm : (word : Word) (o : Option Tag) (s : Typer) → Calm (λ it. Unit {0}) s (tagged_struct_as word o s)
tagged_calm word None s = (refl, refl, refl, grows_struct s.types, right_struct s.types, tt)
tagged_calm word (Some (tag.Struct number)) s = (refl, refl, refl, grows_self s.types, right_self s.types, tt)
tagged_calm word (Some (tag.Enumeration number)) s = tt

-- a struct whose body begins
begun_calm : (word : Word) (o : Option Tag) (s : Typer) → Calm (λ it. Unit {0}) s (begun_struct_as word o s)
begun_calm word None s = (refl, refl, refl, grows_struct s.types, right_struct s.types, tt)
begun_calm word (Some (tag.Struct number)) s =
    if_calm (λ it. Unit {0}) (awaits_body (slice_get s.types.structs number) && not (has_open_body number s)) s (Ok (number, s))
    (Err (Untyped word.place)) (refl, refl, refl, grows_self s.types, right_self s.types, tt) tt
begun_calm word (Some (tag.Enumeration number)) s = tt

-- with or without a tag
begun_struct_calm : (o : Option Word) (s : Typer) → Calm (λ it. Unit {0}) s (begun_struct o s)
begun_struct_calm None s = (refl, refl, refl, grows_struct s.types, right_struct s.types, tt)
begun_struct_calm (Some word) s = begun_calm word (find_here word.text s.tags) s

-- with its body open
opened_struct_calm : (o : Option Word) (s : Typer) → Calm (λ it. Unit {0}) s (opened_struct o s)
opened_struct_calm o s =
    then_calm (λ it. Unit {0}) (λ it. Unit {0}) body_opened s (begun_struct o s) (begun_struct_calm o s)
    (λ number mid. (refl, refl, refl, grows_self mid.types, right_self mid.types, tt))

-- and an enumeration
begun_constants_calm : (word : Word) (o : Option Tag) (s : Typer) → Calm (λ it. Unit {0}) s (begun_enumeration_as word o s)
begun_constants_calm word None s = (refl, refl, refl, grows_enumeration s.types, right_enumeration s.types, tt)
begun_constants_calm word (Some its) s = tt

-- with or without a tag
begun_enumeration_calm : (o : Option Word) (s : Typer) → Calm (λ it. Unit {0}) s (begun_enumeration o s)
begun_enumeration_calm None s = (refl, refl, refl, grows_enumeration s.types, right_enumeration s.types, tt)
begun_enumeration_calm (Some word) s = begun_constants_calm word (find_here word.text s.tags) s

-- a body, which may be one with another
body_calm : (s : Typer) (first : Place) (word : Option Word) (given : Result TypeTable TypeEnd) → GrowsTo s.types given
    → RightsTo s.types given → Calm (λ it. Unit {0}) s (with_body_in s first word given)
body_calm s first word (Ok types) grows rights = (refl, refl, refl, grows, rights, tt)
body_calm s first word (Err why) grows rights = tt

-- the first body at its brace, or one with the first
joined_calm : (at : Place) (it : Tag) (brace : Brace) (o : Option Tag) (s : Typer) → Calm (λ it. Unit {0}) s (joined at it brace o s)
joined_calm at it brace None s = (refl, refl, refl, grows_self s.types, right_self s.types, tt)
joined_calm at it brace (Some first) s =
    if_calm (λ it. Unit {0}) (tags_agree s.types (met at it brace s.origins) first it) s (Ok (tt, record s { origins = met at it brace s.origins }))
    (Err (Clash at (first_name s.types it))) (refl, refl, refl, grows_self s.types, right_self s.types, tt) tt

-- a body that is complete
closed_calm : (at : Place) (it : Tag) (s : Typer) → Calm (λ it. Unit {0}) s (closed at it s)
closed_calm at it s =
    if_calm (λ it. Unit {0}) (is_plain at.origin) s
    (joined at it (brace_of at (times_at at s.origins)) (kept_for (brace_of at (times_at at s.origins)) s.origins.firsts) s)
    (Ok (tt, record s { origins = begun_nowhere it s.origins }))
    (joined_calm at it (brace_of at (times_at at s.origins)) (kept_for (brace_of at (times_at at s.origins)) s.origins.firsts) s)
    (refl, refl, refl, grows_self s.types, right_self s.types, tt)

-- which is open no more
closing_calm : {A : Type 0} → (s : Typer) (given : Result (A × Typer) TypeError) → Calm (λ it. Unit {0}) (body_closed s) given
    → Calm (λ it. Unit {0}) s given
closing_calm s (Ok p) is = is
closing_calm s (Err why) is = tt

-- of a struct
completed_struct_calm : (first : Place) (word : Option Word) (brace : Place) (number : ℕ) (members : List Member) (s : Typer)
    → Calm (λ it. Unit {0}) s (completed_struct first word brace number members s)
completed_struct_calm first word brace number members s =
    closing_calm s (completed_struct first word brace number members s)
    (then_calm (λ it. Unit {0}) (λ it. Unit {0}) (λ it. closed brace (tag.Struct number)) (body_closed s)
    (struct_with_body first word number members (body_closed s))
    (body_calm (body_closed s) first word (completed number members s.types) (completed_grows number members s.types)
    (completed_rights number members s.types)) (λ it mid. closed_calm brace (tag.Struct number) mid))

-- and of an enumeration
completed_enumeration_calm : (first : Place) (word : Option Word) (brace : Place) (number : ℕ) (its : List Enumerator) (s : Typer)
    → Calm (λ it. Unit {0}) s (completed_enumeration first word brace number its s)
completed_enumeration_calm first word brace number its s =
    then_calm (λ it. Unit {0}) (λ it. Unit {0}) (λ it. closed brace (tag.Enumeration number)) s (enumeration_with_body first word number its s)
    (body_calm s first word (enumerated number its s.types) (enumerated_grows number its s.types) (enumerated_rights number its s.types))
    (λ it mid. closed_calm brace (tag.Enumeration number) mid)

module _ (Q : ℕ → TypeId → Type 0) (final : TypeTable) where
  -- ---- the laws of these steps
  calm_noting : {A : Type 0} → (holds : A → Type 0) (s : Typer) (given : Result (A × Typer) TypeError) → NamesAllow Q s → Calm holds s given
      → Noting Q final holds s given
  calm_noting holds s (Ok p) names calm =
      record {
        names = subst (λ its. AllByRecursion (λ it. AllowsName Q it.entity) its.declarations) (sym calm.0) names;
        fact = calm.5;
        table = calm.1;
        types = calm.3;
        right = calm.4;
        calls = λ grows are. subst (AreCallsOf Q s.table final) (sym calm.2) are;
      }
  calm_noting holds s (Err why) names calm = tt

  -- of such a step
  calm_notes : {A : Type 0} → (holds : A → Type 0) (step : Step A) → Always IsConstant step → ((s : Typer) → Calm holds s (step s))
      → Notes Q final IsConstant holds step
  calm_notes holds step is calm = record { always = is; gives = λ s names. calm_noting holds s (step s) names (calm s) }

  -- an object whose type is not complete
  pub note_tentative_notes : (it : Tentative) → Notes Q final IsConstant (λ it. Unit {0}) (note_tentative it)
  note_tentative_notes it =
      calm_notes (λ it. Unit {0}) (note_tentative it) (note_tentative_always it)
      (λ s. (refl, refl, refl, grows_self s.types, right_self s.types, tt))

  -- the type of a struct
  pub struct_type_notes : (number : ℕ) → Notes Q final IsConstant (λ it. Unit {0}) (struct_type number)
  struct_type_notes number = calm_notes (λ it. Unit {0}) (struct_type number) (struct_type_always number)
      (λ s. (refl, refl, refl, grows_row (row.Struct number) s.types, right_row (row.Struct number) s.types tt tt, tt))

  -- and of an enumeration
  pub enumeration_type_notes : (number : ℕ) → Notes Q final IsConstant (λ it. Unit {0}) (enumeration_type number)
  enumeration_type_notes number =
      calm_notes (λ it. Unit {0}) (enumeration_type number) (enumeration_type_always number)
      (λ s. (refl, refl, refl, grows_row (row.Enumeration number) s.types, right_row (row.Enumeration number) s.types tt tt, tt))

  -- the struct that a tag names
  pub tagged_struct_notes : (word : Word) → Notes Q final IsConstant (λ it. Unit {0}) (tagged_struct word)
  tagged_struct_notes word =
      calm_notes (λ it. Unit {0}) (tagged_struct word) (tagged_struct_always word) (λ s. tagged_calm word (find word.text s.tags) s)

  -- a struct whose body begins
  pub begun_struct_notes : (o : Option Word) → Notes Q final IsConstant (λ it. Unit {0}) (begun_struct o)
  begun_struct_notes o = calm_notes (λ it. Unit {0}) (begun_struct o) (begun_struct_always o) (begun_struct_calm o)

  -- with its body open
  pub opened_struct_notes : (o : Option Word) → Notes Q final IsConstant (λ it. Unit {0}) (opened_struct o)
  opened_struct_notes o = calm_notes (λ it. Unit {0}) (opened_struct o) (opened_struct_always o) (opened_struct_calm o)

  -- and an enumeration
  pub begun_enumeration_notes : (o : Option Word) → Notes Q final IsConstant (λ it. Unit {0}) (begun_enumeration o)
  begun_enumeration_notes o = calm_notes (λ it. Unit {0}) (begun_enumeration o) (begun_enumeration_always o) (begun_enumeration_calm o)

  -- a struct with its body
  pub completed_struct_noting : (first : Place) (word : Option Word) (brace : Place) (number : ℕ) (members : List Member) (s : Typer)
      → NamesAllow Q s → Noting Q final (λ it. Unit {0}) s (completed_struct first word brace number members s)
  completed_struct_noting first word brace number members s names =
      calm_noting (λ it. Unit {0}) s (completed_struct first word brace number members s) names
      (completed_struct_calm first word brace number members s)

  -- an enumeration with its constants
  pub completed_enumeration_notes : (first : Place) (word : Option Word) (brace : Place) (number : ℕ) (its : List Enumerator)
      → Notes Q final IsConstant (λ it. Unit {0}) (completed_enumeration first word brace number its)
  completed_enumeration_notes first word brace number its =
      calm_notes (λ it. Unit {0}) (completed_enumeration first word brace number its)
      (completed_enumeration_always first word brace number its) (completed_enumeration_calm first word brace number its)

  -- a string, which is an object
  string_in_calm : (s : Typer) (at : Place) (bytes : List ℕ) (given : Result (TypeId × TypeTable) TypeEnd) → Growing s.types given
      → Righting s.types given → Calm (IsOperandOf Q) s (string_in s at bytes given)
  string_in_calm s at bytes (Ok p) grows rights = (refl, refl, refl, grows.0, rights, tt)
  string_in_calm s at bytes (Err why) grows rights = tt

  -- if it has bytes
  string_as_calm : (at : Place) (o : Option (List ℕ)) (s : Typer) → Calm (IsOperandOf Q) s (string_as at o s)
  string_as_calm at None s = tt
  string_as_calm at (Some bytes) s =
      string_in_calm s at bytes (arrayed (integer_id kind.Char) (length bytes) s.types)
      (arrayed_grows (integer_id kind.Char) (length bytes) s.types) (arrayed_rights (integer_id kind.Char) (length bytes) s.types)

  -- by its text
  pub string_notes : (first : Word) (others : List Word) → Notes Q final IsConstant (IsOperandOf Q) (string_of first others)
  string_notes first others =
      calm_notes (IsOperandOf Q) (string_of first others) (string_always first others) (string_as_calm first.place (string_bytes first others))

  -- an address, which is a value
  address_calm : (at : Place) (given : Result LeftValue TypeError) (s : Typer) → Calm (IsOperandOf Q) s (address_as at given s)
  address_calm at (Ok it) s =
      (refl, refl, refl, grows_row (row.Pointer (type_of_left it)) s.types, right_row (row.Pointer (type_of_left it)) s.types tt tt, tt)
  address_calm at (Err why) s = tt

  -- of an operand
  pub addressed_notes : (at : Place) (it : TypedOperand) → Notes Q final IsConstant (IsOperandOf Q) (addressed at it)
  addressed_notes at it =
      calm_notes (IsOperandOf Q) (addressed at it) (addressed_always at it) (address_calm at (lifted (object_of at it)))
