-- Names, numbers, characters and strings are well typed.
use Rattle.std.proofs.Common.{◌≡◌, ℕ, Bool, true, false, List, [], ◌∷◌, ◌++◌, Option, Some, None, Result, Ok, Err, refl, ap, sym, subst, ◌∙◌, nat_eq, if◌then◌else◌}
use Rattle.std.specs.Prelude.{slice_get, length, is_some}
use Rattle.std.specs.Cmp.Lexicographic.{pointwise}
use Rattle.std.specs.List.{AllByRecursion}
use Rattle.hs_constants.specs.declared.number.Number.{Number}
use Rattle.hs_expressions.specs.Laws.{IsPrefix, IsKnown, Knows}
use Rattle.hs_expressions.specs.Laws.Keeping.{Giving, Keeps}
use Rattle.hs_expressions.specs.Laws.Leaves.{string_always}
use Rattle.hs_typer.specs.Primaries.{number, named_as, named, is_wide, number_type, number_as, number_of, character_as, character_of, string_bytes, string_in, string_as, string_of}
use Rattle.hs_constants.specs.Characters.{character_value}
use Rattle.hs_constants.specs.Numbers.{number_value}
use Rattle.hs_typer.specs.declared.type_error.TypeError.{TypeError}
use Rattle.hs_typer.specs.declared.typer.Entity.{Entity}
use Rattle.hs_typer.specs.declared.typer.Entity.TheVariants as entity
use Rattle.hs_typer.specs.declared.typer.Typer.{Typer}
use Rattle.hs_names.specs.Scopes.{Declared, newest, entity_of, find}
use Rattle.hs_operand_types.specs.Conversions.{head_at}
use Rattle.hs_operands.specs.Laws.{IsTypedOperand}
use Rattle.hs_operands.specs.Laws.Added.{row_found}
use Rattle.hs_operands.specs.Laws.Numbers.{integer_number}
use Rattle.hs_operand_types.specs.Operands as operand
use Rattle.hs_operand_types.specs.Operands.{TypedOperand}
use Rattle.hs_syntax.specs.declared.word.Word.{Word}
use Rattle.hs_tokens.specs.declared.place.Place.{Place}
use Rattle.hs_tree.specs.Fitting.{IsLiteral, size_of_bytes}
use Rattle.hs_tree.specs.Kinds.{element_of_row, length_of_row}
use Rattle.hs_tree.specs.Objects.{number_in}
use Rattle.hs_tree.specs.Trees as tree
use Rattle.hs_tree.specs.Trees.{TypedFunction, TypedProgram}
use Rattle.hs_types.specs.Integers.{converted}
use Rattle.hs_types.specs.Layouts.{array_layout}
use Rattle.hs_types.specs.Rows.{integer_id}
use Rattle.hs_types.specs.TypeTables.{TypeTable, row_of, layout_of, row_of_layout, row_of_element, with_result, arrayed, IsRight, Grows}
use Rattle.hs_types.specs.declared.integer.Integer.{Integer}
use Rattle.hs_types.specs.declared.integer.Integer.TheVariants as kind
use Rattle.hs_types.specs.declared.layout.Layout.{Layout}
use Rattle.hs_types.specs.declared.row.Row.TheVariants as row
use Rattle.hs_types.specs.declared.row.TypeId.{TypeId}
use Rattle.hs_types.specs.declared.types.TypeEnd.{TypeEnd}

-- the type has all bits of 32
abbrev IsWhole : Integer → Type 0
IsWhole its = (bits : ℕ) → converted its bits ≡ bits

whole_if : (b : Bool) (its other : Integer) → IsWhole its → IsWhole other → IsWhole (if b then its else other)
whole_if true its other is is' = is
whole_if false its other is is' = is'

-- as those of constants have
number_type_whole : (it : Number) → IsWhole (number_type it)
number_type_whole it =
    whole_if it.unsigned (if it.long then kind.UnsignedLong else kind.UnsignedInt)
    (if it.long then (if is_wide it.value then kind.UnsignedLong else kind.Long)
    else if is_wide it.value then (if it.decimal then kind.UnsignedLong else kind.UnsignedInt)
    else kind.Int) (whole_if it.long kind.UnsignedLong kind.UnsignedInt (λ bits. refl) (λ bits. refl))
    (whole_if it.long (if is_wide it.value then kind.UnsignedLong else kind.Long)
    (if is_wide it.value then (if it.decimal then kind.UnsignedLong else kind.UnsignedInt) else kind.Int)
    (whole_if (is_wide it.value) kind.UnsignedLong kind.Long (λ bits. refl) (λ bits. refl))
    (whole_if (is_wide it.value) (if it.decimal then kind.UnsignedLong else kind.UnsignedInt) kind.Int
    (whole_if it.decimal kind.UnsignedLong kind.UnsignedInt (λ bits. refl) (λ bits. refl)) (λ bits. refl)))

-- the last of a list
pub last_at : {A : Type 0} → (xs : List A) (x : A) (more : List A) → slice_get ((xs ++ x ∷ []) ++ more) (length xs) ≡ Some x
last_at [] x more = refl
last_at (y ∷ xs) x more = last_at xs x more

-- the array that is given has its row in the table
abbrev IsArrayed : TypeId → ℕ → Result (TypeId × TypeTable) TypeEnd → Type 0
IsArrayed of count (Ok p) = (layout : Layout) × (row_of p.1 p.0 ≡ Some (row.Array of count layout))
IsArrayed of count (Err why) = Unit {0}

arrayed_is : (of : TypeId) (count : ℕ) (types : TypeTable) → IsArrayed of count (arrayed of count types)
arrayed_is of count types = of_element (layout_of types of)
  where
    of_layout : (o : Option Layout) → IsArrayed of count (with_result types (row_of_layout of count o))
    of_layout None = tt
    of_layout (Some layout) = (layout, row_found (row.Array of count layout) types)

    of_element : (o : Option Layout) → IsArrayed of count (with_result types (row_of_element of count o))
    of_element None = tt
    of_element (Some element) = of_layout (array_layout count element)

-- an answer that is an operand
abbrev answer : TypedOperand → Result TypedOperand TypeError
answer made = Ok made

module _ (program : TypedProgram) (function : TypedFunction) where
  -- what is found is known
  abbrev IsKnownIf : Option Entity → Type 0
  IsKnownIf None = Unit {0}
  IsKnownIf (Some it) = IsKnown program function it

  known_if : (b : Bool) (it : Declared Entity) (o : Option (Declared Entity)) → IsKnown program function it.entity → IsKnownIf (entity_of o)
      → IsKnownIf (entity_of (if b then Some it else o))
  known_if true it o is is' = is
  known_if false it o is is' = is'

  found_known : (name : List ℕ) (its : List (Declared Entity)) → AllByRecursion (λ it. IsKnown program function it.entity) its
      → IsKnownIf (entity_of (newest name its))
  found_known name [] knows = tt
  found_known name (it ∷ older) knows =
      known_if (pointwise nat_eq it.name name) it (newest name older) knows.0 (found_known name older knows.1)

  -- what is given is well typed
  operand_given : (made it : TypedOperand) → IsTypedOperand program function made → answer made ≡ Ok it → IsTypedOperand program function it
  operand_given made it is given = let same : made ≡ it = cc in subst (IsTypedOperand program function) same is

module _ (program : TypedProgram) (function : TypedFunction) (sound : IsRight program.types) where
  -- a number of such a type
  number_typed : (at : Place) (its : Integer) (bits : ℕ) → IsWhole its → IsTypedOperand program function (number at its bits)
  number_typed at its bits whole = (tt, ap (number_in bits) (integer_number program.types its sound) ∙ ap Some (whole bits), tt)

  -- a name
  named_as_typed : (word : Word) (o : Option Entity) (it : TypedOperand) → IsKnownIf program function o → named_as word o ≡ Ok it
      → IsTypedOperand program function it
  named_as_typed word None it known given = absurd cc
  named_as_typed word (Some (entity.Constant bits)) it known given =
      operand_given program function (number word.place kind.Int bits) it (number_typed word.place kind.Int bits (λ bits. refl)) given
  named_as_typed word (Some (entity.Variable variable id)) it known given =
      operand_given program function (operand.object (tree.variable (head_at word.place id) variable)) it (tt, known, tt) given
  named_as_typed word (Some (entity.Function id bound)) it known given =
      operand_given program function (operand.function (record { head = head_at word.place id; name = word.text; bound = bound })) it tt given
  named_as_typed word (Some (entity.Typedef id)) it known given = absurd cc

  pub named_typed : (s : Typer) (word : Word) (it : TypedOperand) → Knows program function s → named s.names word ≡ Ok it
      → IsTypedOperand program function it
  named_typed s word it knows given =
      named_as_typed word (find word.text s.names) it (found_known program function word.text s.names.declarations knows) given

  -- numbers and characters
  number_as_typed : (at : Place) (o : Option Number) (it : TypedOperand) → number_as at o ≡ Ok it → IsTypedOperand program function it
  number_as_typed at None it given = absurd cc
  number_as_typed at (Some its) it given =
      operand_given program function (number at (number_type its) its.value) it (number_typed at (number_type its) its.value (number_type_whole its)) given

  pub number_of_typed : (word : Word) (it : TypedOperand) → number_of word ≡ Ok it → IsTypedOperand program function it
  number_of_typed word it given = number_as_typed word.place (number_value word.text) it given

  character_as_typed : (at : Place) (o : Option ℕ) (it : TypedOperand) → character_as at o ≡ Ok it → IsTypedOperand program function it
  character_as_typed at None it given = absurd cc
  character_as_typed at (Some bits) it given =
      operand_given program function (number at kind.Int bits) it (number_typed at kind.Int bits (λ bits. refl)) given

  pub character_of_typed : (word : Word) (it : TypedOperand) → character_of word ≡ Ok it → IsTypedOperand program function it
  character_of_typed word it given = character_as_typed word.place (character_value word.text) it given

  -- The bytes of a string are the next of the program.
  literal_there : (b : Bool) (old : List (List ℕ)) (bytes : List ℕ) → b ≡ true
      → IsPrefix (if b then old ++ bytes ∷ [] else old) program.literals → slice_get program.literals (length old) ≡ Some bytes
  literal_there true old bytes counts more = ap (λ its. slice_get its (length old)) more.1 ∙ last_at old bytes more.0
  literal_there false old bytes counts more = absurd cc

  literal_typed : (types : TypeTable) (place : ℕ) (bytes : List ℕ) (id : TypeId) (layout : Layout)
      → row_of types id ≡ Some (row.Array (integer_id kind.Char) (length bytes) layout) → Grows types program.types
      → slice_get program.literals place ≡ Some bytes → IsLiteral program place id
  literal_typed types place bytes id layout is grows there =
      let at : row_of program.types id ≡ Some (row.Array (integer_id kind.Char) (length bytes) layout)
      = grows.rows id.number (row.Array (integer_id kind.Char) (length bytes) layout) is in
      (ap element_of_row at, ap size_of_bytes there ∙ sym (ap length_of_row at), ap (λ its. is_some (length_of_row its)) at)

  string_in_typed : (s : Typer) (at : Place) (bytes : List ℕ) (given : Result (TypeId × TypeTable) TypeEnd) → s.counts ≡ true
      → IsArrayed (integer_id kind.Char) (length bytes) given
      → Giving program (IsTypedOperand program function) (string_in s at bytes given)
  string_in_typed s at bytes (Ok p) counts is =
      λ grows more.
      (tt, literal_typed p.1 (length s.literals) bytes p.0 is.0 is.1 grows (literal_there s.counts s.literals bytes counts more), tt)
  string_in_typed s at bytes (Err why) counts is = tt

  string_as_typed : (s : Typer) (at : Place) (o : Option (List ℕ)) → s.counts ≡ true
      → Giving program (IsTypedOperand program function) (string_as at o s)
  string_as_typed s at None counts = tt
  string_as_typed s at (Some bytes) counts =
      string_in_typed s at bytes (arrayed (integer_id kind.Char) (length bytes) s.types) counts
      (arrayed_is (integer_id kind.Char) (length bytes) s.types)

  -- a string
  pub string_keeps : (first : Word) (others : List Word) → Keeps program function (IsTypedOperand program function) (string_of first others)
  string_keeps first others =
      record {
        always = string_always first others;
        gives = λ s scoped counts knows. string_as_typed s first.place (string_bytes first others) counts;
      }
