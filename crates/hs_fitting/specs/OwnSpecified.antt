-- The types that words, typedef names and tags name are of this unit (X3.159-1989 3.5.2, and own).
--     stored, typedef_own, tagged_own, struct_body_own      by each specifier
--     from_own                      what all specifiers name
use Rattle.std.proofs.Common.{◌≡◌, ◌≤◌, ℕ, Bool, true, false, List, [], ◌∷◌, Option, Some, None, Result, Ok, Err, refl, subst, if◌then◌else◌}
use Rattle.std.specs.Cmp.Lexicographic.{pointwise}
use Rattle.std.specs.List.{AllByRecursion}
use Rattle.std.specs.Prelude.{nat_eq, is_some, not, ◌||◌}
use Rattle.hs_base.specs.Options.{some_same}
use Rattle.hs_expressions.specs.Laws.Bodies.{Owning as IsBegun, opened_owned}
use Rattle.hs_expressions.specs.Laws.Traced.{IsOwnTag}
use Rattle.hs_fitting.specs.Owned.{IsOwn, own_later, plain_type, struct_type}
use Rattle.hs_names.specs.Scopes.{Declared, newest, entity_of, find}
use Rattle.hs_operands.specs.Laws.Added.{row_found}
use Rattle.hs_syntax.specs.declared.operators.Storage.{Storage}
use Rattle.hs_syntax.specs.declared.word.Word.{Word}
use Rattle.hs_tokens.specs.declared.place.Place.{Place}
use Rattle.hs_typer.specs.Specifiers as specifying
use Rattle.hs_typer.specs.Specifiers.{with_type, with_storage, type_from, typedef_of}
use Rattle.hs_typer.specs.Steps.{Step, then_with, ◌>>=◌, ◌>>◌, give, mapped}
use Rattle.hs_typer.specs.declared.specifiers.Specifiers.{Specifiers}
use Rattle.hs_typer.specs.declared.specifiers.Words.{Words}
use Rattle.hs_typer.specs.declared.type_error.TypeError.{TypeError}
use Rattle.hs_typer.specs.declared.type_error.TypeError.TheVariants.{Untyped}
use Rattle.hs_typer.specs.declared.typer.Entity.{Entity}
use Rattle.hs_typer.specs.declared.typer.Entity.TheVariants as entity
use Rattle.hs_typer.specs.declared.typer.Tag.{Tag}
use Rattle.hs_typer.specs.declared.typer.Tag.TheVariants as tag
use Rattle.hs_typer.specs.declared.typer.Typer.{Typer}
use Rattle.hs_types.specs.Rows.{void_id, integer_id}
use Rattle.hs_types.specs.TypeTables.{TypeTable, Grows, with_row, id_of}
use Rattle.hs_types.specs.declared.body.Member.{Member}
use Rattle.hs_types.specs.declared.integer.Integer.{Integer}
use Rattle.hs_types.specs.declared.integer.Integer.TheVariants as kind
use Rattle.hs_types.specs.declared.row.Row.TheVariants as row
use Rattle.hs_types.specs.declared.row.TypeId.{TypeId}
use Rattle.hs_fitting.specs.OwnNames.{IsOwnName, OwnAt, Owning, Met, Owns}

module _ (base : ℕ) where
  -- the type, if there is one
  abbrev IsOwnIf : TypeTable → Option TypeId → Type 0
  IsOwnIf types None = Unit {0}
  IsOwnIf types (Some id) = IsOwn base types id

  -- the type that specifiers have named so far
  abbrev pub OwnSpecifiers : TypeTable → Specifiers → Type 0
  OwnSpecifiers types its = IsOwnIf types its.type_id

  -- as the table grows
  if_later : (old new : TypeTable) → Grows old new → (o : Option TypeId) → IsOwnIf old o → IsOwnIf new o
  if_later old new grows None is = tt
  if_later old new grows (Some id) is = own_later base old new grows id is

  -- a storage word
  pub stored : (types : TypeTable) (is_stored : Bool) (word : Storage) (at : Place) (done : Specifiers) → OwnSpecifiers types done
      → Met base (OwnSpecifiers types) (with_storage is_stored word at done)
  stored types true word at done is = by_storage done.storage
    where
      by_storage : (o : Option Storage) → Met base (OwnSpecifiers types)
          (if not (is_some o) then Ok (record done { storage = Some word }) else Err (Untyped at))
      by_storage None = is
      by_storage (Some other) = tt
  stored types false word at done is = tt

  -- a typedef name
  pub found_own : (types : TypeTable) (name : List ℕ) (its : List (Declared Entity)) → AllByRecursion (λ it. IsOwnName base types it.entity) its
      → (it : Entity) → entity_of (newest name its) ≡ Some it → IsOwnName base types it
  found_own types name [] own it found = absurd cc
  found_own types name (first ∷ older) own it found = by_name (pointwise nat_eq first.name name) found (found_own types name older own.1 it)
    where
      by_name : (b : Bool) → entity_of (if b then Some first else newest name older) ≡ Some it
          → (entity_of (newest name older) ≡ Some it → IsOwnName base types it) → IsOwnName base types it
      by_name true same behind = subst (IsOwnName base types) (some_same first.entity it same) own.0
      by_name false same behind = behind same

  -- by what the name means
  pub typedef_own : (types : TypeTable) (word : Word) (done : Specifiers) (o : Option Entity) → ((it : Entity) → o ≡ Some it → IsOwnName base types it)
      → Met base (OwnSpecifiers types) (mapped (λ id. with_type id done) (typedef_of word o))
  typedef_own types word done None own = tt
  typedef_own types word done (Some (entity.Constant bits)) own = tt
  typedef_own types word done (Some (entity.Variable its id)) own = tt
  typedef_own types word done (Some (entity.Function id its)) own = tt
  typedef_own types word done (Some (entity.Typedef id)) own = own (entity.Typedef id) refl

  -- a tag
  abbrev IsOwnTagIf : Option Tag → Type 0
  IsOwnTagIf None = Unit {0}
  IsOwnTagIf (Some it) = IsOwnTag base it

  -- by its name
  tag_own : (name : List ℕ) (its : List (Declared Tag)) → AllByRecursion (λ it. IsOwnTag base it.entity) its → IsOwnTagIf (entity_of (newest name its))
  tag_own name [] own = tt
  tag_own name (first ∷ older) own = by_name (pointwise nat_eq first.name name) (tag_own name older own.1)
    where
      by_name : (b : Bool) → IsOwnTagIf (entity_of (newest name older)) → IsOwnTagIf (entity_of (if b then Some first else newest name older))
      by_name true behind = own.0
      by_name false behind = behind

  -- a struct that a tag names, which may be new
  pub tagged_own : (word : Word) → Owns base (λ types number. base ≤ number) (specifying.tagged_struct word)
  tagged_own word = record { gives = λ s scoped own. by_tag s own (find word.text s.tags) (tag_own word.text s.tags.declarations own.traced.owned) }
    where
      by_tag : (s : Typer) → OwnAt base s → (o : Option Tag) → IsOwnTagIf o → Owning base (λ types number. base ≤ number) (specifying.tagged_struct_as word o s)
      by_tag s own None is = own.traced.there
      by_tag s own (Some (tag.Struct number)) is = is
      by_tag s own (Some (tag.Enumeration number)) is = tt

  -- the type of a struct
  pub struct_own : (number : ℕ) (done : Specifiers) (s : Typer) → base ≤ number
      → Owning base OwnSpecifiers ((specifying.struct_type number >>= (λ id. give (with_type id done))) s)
  struct_own number done s own =
      struct_type base (with_row (row.Struct number) s.types) (id_of (row.Struct number) s.types) number own (row_found (row.Struct number) s.types)

  -- what begins is of this unit, and what follows is not looked at
  pub struct_body_own : (word : Option Word) (first : Place) (brace : Place) (members : Step (List Member)) (done : Specifiers) (s : Typer)
      → OwnAt base s
      → Owning base OwnSpecifiers
      ((specifying.opened_struct word >>= (λ number. members >>= (λ its. specifying.completed_struct first word brace number its
      >> (specifying.struct_type number >>= (λ id. give (with_type id done)))))) s)
  struct_body_own word first brace members done s own = begun (specifying.opened_struct word s) (opened_owned word s)
    where
      last : (number : ℕ) → base ≤ number → (given : Result (Unit {0} × Typer) TypeError)
          → Owning base OwnSpecifiers (then_with (λ it. specifying.struct_type number >>= (λ id. give (with_type id done))) given)
      last number is (Ok p) = struct_own number done p.1 is
      last number is (Err why) = tt

      inner : (number : ℕ) → base ≤ number → (given : Result (List Member × Typer) TypeError)
          → Owning base OwnSpecifiers (then_with (λ its. specifying.completed_struct first word brace number its
          >> (specifying.struct_type number >>= (λ id. give (with_type id done)))) given)
      inner number is (Ok p) = last number is (specifying.completed_struct first word brace number p.0 p.1)
      inner number is (Err why) = tt

      begun : (given : Result (ℕ × Typer) TypeError) → IsBegun s given
          → Owning base OwnSpecifiers (then_with (λ number. members >>= (λ its. specifying.completed_struct first word brace number its
          >> (specifying.struct_type number >>= (λ id. give (with_type id done))))) given)
      begun (Ok p) owned = inner p.0 (owned base own.traced) (members p.1)
      begun (Err why) owned = tt

  -- ---- basic types

  -- with a fixed number
  integer_own : (s : Typer) → OwnAt base s → (its : Integer) → IsOwn base s.types (integer_id its)
  integer_own s own kind.Char = plain_type base s.types (integer_id kind.Char) (row.Integer kind.Char)
      (own.fixed (integer_id kind.Char).number (row.Integer kind.Char) refl) tt
  integer_own s own kind.SignedChar =
      plain_type base s.types (integer_id kind.SignedChar) (row.Integer kind.SignedChar)
      (own.fixed (integer_id kind.SignedChar).number (row.Integer kind.SignedChar) refl) tt
  integer_own s own kind.UnsignedChar =
      plain_type base s.types (integer_id kind.UnsignedChar) (row.Integer kind.UnsignedChar)
      (own.fixed (integer_id kind.UnsignedChar).number (row.Integer kind.UnsignedChar) refl) tt
  integer_own s own kind.Short = plain_type base s.types (integer_id kind.Short) (row.Integer kind.Short)
      (own.fixed (integer_id kind.Short).number (row.Integer kind.Short) refl) tt
  integer_own s own kind.UnsignedShort =
      plain_type base s.types (integer_id kind.UnsignedShort) (row.Integer kind.UnsignedShort)
      (own.fixed (integer_id kind.UnsignedShort).number (row.Integer kind.UnsignedShort) refl) tt
  integer_own s own kind.Int = plain_type base s.types (integer_id kind.Int) (row.Integer kind.Int)
      (own.fixed (integer_id kind.Int).number (row.Integer kind.Int) refl) tt
  integer_own s own kind.UnsignedInt =
      plain_type base s.types (integer_id kind.UnsignedInt) (row.Integer kind.UnsignedInt)
      (own.fixed (integer_id kind.UnsignedInt).number (row.Integer kind.UnsignedInt) refl) tt
  integer_own s own kind.Long = plain_type base s.types (integer_id kind.Long) (row.Integer kind.Long)
      (own.fixed (integer_id kind.Long).number (row.Integer kind.Long) refl) tt
  integer_own s own kind.UnsignedLong =
      plain_type base s.types (integer_id kind.UnsignedLong) (row.Integer kind.UnsignedLong)
      (own.fixed (integer_id kind.UnsignedLong).number (row.Integer kind.UnsignedLong) refl) tt

  -- void
  void_own : (s : Typer) → OwnAt base s → IsOwn base s.types void_id
  void_own s own = plain_type base s.types void_id row.Void (own.fixed 0 row.Void refl) tt

  -- by a test
  if_own : (types : TypeTable) (b : Bool) (here there : Option TypeId) → IsOwnIf types here → IsOwnIf types there
      → IsOwnIf types (if b then here else there)
  if_own types true here there is is' = is
  if_own types false here there is is' = is'

  -- what words name
  words_own : (s : Typer) → OwnAt base s → (its : Words) → IsOwnIf s.types (specifying.basic_of its)
  words_own s own its =
      if_own s.types its.again None _ tt
      (if_own s.types its.void (if specifying.has_others its then None else Some void_id) _
      (if_own s.types (specifying.has_others its) None (Some void_id) tt (void_own s own)) integers)
    where
      integers : IsOwnIf s.types (specifying.integer_of its)
      integers =
          if_own s.types _ None _ tt
          (if_own s.types its.char _ _
          (if_own s.types _ None _ tt
          (if_own s.types its.signed (Some (integer_id kind.SignedChar)) _ (integer_own s own kind.SignedChar)
          (if_own s.types its.unsigned (Some (integer_id kind.UnsignedChar)) (Some (integer_id kind.Char)) (integer_own s own kind.UnsignedChar)
          (integer_own s own kind.Char))))
          (if_own s.types its.short _ _
          (if_own s.types its.long None _ tt
          (if_own s.types its.unsigned (Some (integer_id kind.UnsignedShort)) (Some (integer_id kind.Short)) (integer_own s own kind.UnsignedShort)
          (integer_own s own kind.Short)))
          (if_own s.types its.long _ _
          (if_own s.types its.unsigned (Some (integer_id kind.UnsignedLong)) (Some (integer_id kind.Long)) (integer_own s own kind.UnsignedLong)
          (integer_own s own kind.Long))
          (if_own s.types its.unsigned (Some (integer_id kind.UnsignedInt)) (Some (integer_id kind.Int)) (integer_own s own kind.UnsignedInt)
          (integer_own s own kind.Int)))))

  -- if there is one
  or_own : (types : TypeTable) (first : Place) (o : Option TypeId) → IsOwnIf types o → Met base (IsOwn base types) (specifying.type_or first o)
  or_own types first None is = tt
  or_own types first (Some id) is = is

  -- words, or a type that is named
  with_own : (s : Typer) → OwnAt base s → (first : Place) (its : Words) (o : Option TypeId) → IsOwnIf s.types o
      → Met base (IsOwn base s.types) (specifying.type_with first its o)
  with_own s own first its None is = or_own s.types first (specifying.basic_of its) (words_own s own its)
  with_own s own first its (Some id) is = by_words (its.void || specifying.has_others its)
    where
      by_words : (b : Bool) → Met base (IsOwn base s.types) (if b then Err (Untyped first) else Ok id)
      by_words true = tt
      by_words false = is

  -- what all specifiers name
  pub from_own : (s : Typer) → OwnAt base s → (first : Place) (its : Specifiers) → OwnSpecifiers s.types its → Met base (IsOwn base s.types)
      (type_from first its)
  from_own s own first its is = by_again its.again
    where
      by_again : (b : Bool) → Met base (IsOwn base s.types) (if b then Err (Untyped first) else specifying.type_with first its.words its.type_id)
      by_again true = tt
      by_again false = with_own s own first its.words its.type_id is
