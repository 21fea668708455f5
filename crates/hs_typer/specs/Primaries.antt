-- Names, constants and strings (X3.159-1989 3.1.3, 3.1.4 and 3.3.1).
--     named word             what a name designates
--     number_of word         an integer constant, of the type of 3.1.3.2
--     character_of word      a character constant, of type int
--     string_of first others     a string: its own bytes and those of its neighbours, and the byte 0
use Rattle.std.specs.Prelude.{ℕ, nat_le, Bool, List, [], ◌∷◌, ◌++◌, length, Option, Some, None, Result, Ok, Err, if◌then◌else◌}
use Rattle.hs_constants.specs.Characters.{character_value}
use Rattle.hs_constants.specs.Numbers.{number_value}
use Rattle.hs_constants.specs.Strings.{string_value}
use Rattle.hs_constants.specs.declared.number.Number.{Number}
use Rattle.hs_typer.specs.Steps.{Step}
use Rattle.hs_typer.specs.declared.type_error.TypeError.{TypeError}
use Rattle.hs_typer.specs.declared.type_error.TypeError.TheVariants.{Untyped, Undeclared}
use Rattle.hs_typer.specs.declared.typer.Entity.{Entity}
use Rattle.hs_typer.specs.declared.typer.Entity.TheVariants as entity
use Rattle.hs_typer.specs.declared.typer.Typer.{Typer}
use Rattle.hs_names.specs.Scopes.{Scoped, find}
use Rattle.hs_operand_types.specs.Conversions.{head_at}
use Rattle.hs_operand_types.specs.Operands as operand
use Rattle.hs_operand_types.specs.Operands.{TypedOperand}
use Rattle.hs_syntax.specs.declared.word.Word.{Word}
use Rattle.hs_tokens.specs.declared.place.Place.{Place}
use Rattle.hs_tree.specs.Trees as tree
use Rattle.hs_types.specs.Rows.{integer_id}
use Rattle.hs_types.specs.TypeTables.{TypeTable, arrayed}
use Rattle.hs_types.specs.declared.integer.Integer.{Integer}
use Rattle.hs_types.specs.declared.integer.Integer.TheVariants as kind
use Rattle.hs_types.specs.declared.row.TypeId.{TypeId}
use Rattle.hs_types.specs.declared.types.TypeEnd.{TypeEnd}

-- the refusal of a name that means nothing
abbrev pub undeclared : Word → TypeError
undeclared word = Undeclared word.place word.text

-- a number of an integer type
abbrev pub number : Place → Integer → ℕ → TypedOperand
number at its bits = operand.value (tree.number (head_at at (integer_id its)) bits)

-- 3.3.1: a typedef name is no expression
abbrev pub named_as : Word → Option Entity → Result TypedOperand TypeError
named_as word None = Err (undeclared word)
named_as word (Some (entity.Constant bits)) = Ok (number word.place kind.Int bits)
named_as word (Some (entity.Variable variable id)) = Ok (operand.object (tree.variable (head_at word.place id) variable))
named_as word (Some (entity.Function id bound)) =
    Ok (operand.function (record { head = head_at word.place id; name = word.text; bound = bound }))
named_as word (Some (entity.Typedef id)) = Err (Untyped word.place)

-- in the scopes of that place
abbrev pub named : Scoped Entity → Word → Result TypedOperand TypeError
named names word = named_as word (find word.text names)

-- 3.1.3.2: the first type of the list that has the value; int and long have 32 bits
abbrev pub is_wide : ℕ → Bool
is_wide value = nat_le 2147483648 value

-- by its suffix and its value
abbrev pub number_type : Number → Integer
number_type it =
    if it.unsigned then (if it.long then kind.UnsignedLong else kind.UnsignedInt)
    else if it.long then (if is_wide it.value then kind.UnsignedLong else kind.Long)
    else if is_wide it.value then (if it.decimal then kind.UnsignedLong else kind.UnsignedInt)
    else kind.Int

-- if it has a value
abbrev pub number_as : Place → Option Number → Result TypedOperand TypeError
number_as at None = Err (Untyped at)
number_as at (Some it) = Ok (number at (number_type it) it.value)

-- by its text
abbrev pub number_of : Word → Result TypedOperand TypeError
number_of word = number_as word.place (number_value word.text)

-- 3.1.3.4
abbrev pub character_as : Place → Option ℕ → Result TypedOperand TypeError
character_as at None = Err (Untyped at)
character_as at (Some bits) = Ok (number at kind.Int bits)

-- by its text
abbrev pub character_of : Word → Result TypedOperand TypeError
character_of word = character_as word.place (character_value word.text)

-- 3.1.4: the bytes of all literals, and the byte 0; `done` are those before
abbrev pub joined_with : List ℕ → Option (List ℕ) → Option (List ℕ)
joined_with done None = None
joined_with done (Some bytes) = Some (done ++ bytes)

-- those of the literals that are left, and the byte 0
abbrev pub joined_words : Option (List ℕ) → List Word → Option (List ℕ)
joined_words None words = None
joined_words (Some done) [] = Some (done ++ 0 ∷ [])
joined_words (Some done) (word ∷ words) = joined_words (joined_with done (string_value word.text)) words

-- of a string and its neighbours
abbrev pub string_bytes : Word → List Word → Option (List ℕ)
string_bytes first others = joined_words (string_value first.text) others

-- an array of characters; what is not evaluated makes no object
abbrev pub string_in : Typer → Place → List ℕ → Result (TypeId × TypeTable) TypeEnd → Result (TypedOperand × Typer) TypeError
string_in s at bytes (Err why) = Err (Untyped at)
string_in s at bytes (Ok p) =
    Ok (
      operand.object (tree.literal (head_at at p.0) (length s.literals)),
      record s { types = p.1; literals = if s.counts then s.literals ++ bytes ∷ [] else s.literals },
    )

-- if they have bytes
abbrev pub string_as : Place → Option (List ℕ) → Step TypedOperand
string_as at None s = Err (Untyped at)
string_as at (Some bytes) s = string_in s at bytes (arrayed (integer_id kind.Char) (length bytes) s.types)

-- by their texts
abbrev pub string_of : Word → List Word → Step TypedOperand
string_of first others = string_as first.place (string_bytes first others)
