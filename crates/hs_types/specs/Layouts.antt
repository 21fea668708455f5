-- What objects take in memory (own; X3.159-1989 3.1.2.5 and 3.5.2.1 leave it open). An object of two bytes or more is aligned to
-- 2, and so is a struct. A struct is as large as its members ask for, rounded up to 2 unless it holds characters alone.
--     array_layout length element       of an array, or none if it is larger than a type may be
--     offsets_from end members          where members lie, if the first is put at `end` or after it
--     end_from end members              where the last of them ends
--     struct_layout members             of a struct
use Rattle.std.specs.Prelude.{ℕ, ◌+◌, ◌*◌, ◌%◌, ◌==◌, nat_le, Bool, true, false, ◌&&◌, ◌||◌, if◌then◌else◌, List, [], ◌∷◌, Option, Some, None}
use Rattle.hs_types.specs.Integers.{integer_size}
use Rattle.hs_types.specs.declared.integer.Integer.{Integer}
use Rattle.hs_types.specs.declared.layout.Layout.{Layout}

-- the largest size of a type
abbrev pub most_bytes : ℕ
most_bytes = 16777216

-- an integer of one byte is a character
abbrev pub integer_layout : Integer → Layout
integer_layout kind =
    record { size = integer_size kind; even = nat_le 2 (integer_size kind); characters = integer_size kind == 1 }

-- pointers and enumerations
abbrev pub word_layout : Layout
word_layout = record { size = 4; even = true; characters = false }

-- An array is aligned as its elements are, and to 2 if it has two bytes or more.
abbrev pub array_layout : ℕ → Layout → Option Layout
array_layout length element =
    if nat_le (element.size * length) most_bytes
    then Some
    (record {
      size = element.size * length;
      even = element.even || nat_le 2 (element.size * length);
      characters = element.characters;
    })
    else None

-- the next even number, from this one on
abbrev pub rounded_up : ℕ → ℕ
rounded_up at = at + at % 2

-- where an object of that layout can lie, from there on
abbrev pub placed : ℕ → Layout → ℕ
placed at layout = if layout.even then rounded_up at else at

-- one member after the other, each as soon as its alignment allows
abbrev pub offsets_from : ℕ → List Layout → List ℕ
offsets_from end [] = []
offsets_from end (member ∷ members) = placed end member ∷ offsets_from (placed end member + member.size) members

-- where the last member ends
abbrev pub end_from : ℕ → List Layout → ℕ
end_from end [] = end
end_from end (member ∷ members) = end_from (placed end member + member.size) members

-- all of them hold characters alone
abbrev pub hold_characters : List Layout → Bool
hold_characters [] = true
hold_characters (member ∷ members) = member.characters && hold_characters members

-- rounded up to 2, unless it holds characters alone
abbrev pub struct_size : List Layout → ℕ
struct_size members = if hold_characters members then end_from 0 members else rounded_up (end_from 0 members)

-- a struct is aligned to 2
abbrev pub struct_layout : List Layout → Layout
struct_layout members = record { size = struct_size members; even = true; characters = hold_characters members }
