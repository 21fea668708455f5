-- What a token hides: the names that it is not replaced by (X3.159-1989 3.8.3.4, by hide sets, which are own).
--     HideSet                     a finite set of names, each a list of bytes
--     object_hides before name    what the tokens of an object-like replacement hide
--     call_hides before close name    what those of a function-like one hide
use Rattle.std.specs.Prelude.{ℕ, List}
use Rattle.std.specs.Ordering.{nat_cmp}
use Rattle.std.specs.Cmp.Lexicographic.{slice_cmp}
use Rattle.std.specs.FinSet as set

-- a set of names
abbrev pub HideSet : Type 0
HideSet = set.FinSet (slice_cmp nat_cmp)

-- what the name hid before, and the name
abbrev pub object_hides : HideSet → List ℕ → HideSet
object_hides before name = set.insert before name

-- what the name and the closing parenthesis both hid before, and the name
abbrev pub call_hides : HideSet → HideSet → List ℕ → HideSet
call_hides before close name = set.insert (set.intersection before close) name
