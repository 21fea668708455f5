-- The index of a list of names.
--     IsIndexOf keys names     a text is one of the keys if it is one of the names
use Rattle.std.specs.Prelude.{◌≡◌, ℕ, List, Vec, nat_eq}
use Rattle.std.specs.Global.{Global}
use Rattle.std.specs.Cmp.Lexicographic.{pointwise}
use Rattle.std.specs.List.{list_any}
use Rattle.hs_syntax.specs.Names.{is_among}

-- the text is one of the keys if it is one of the names
abbrev pub IsIndexOf : List (Vec ℕ Global) → List (List ℕ) → Type 0
IsIndexOf keys names = (text : List ℕ) → list_any (λ key. pointwise nat_eq text key.items) keys ≡ is_among names text
