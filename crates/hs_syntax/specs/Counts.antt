-- What numbers of deepeners say of the deepeners. Own to this project: a scan of the tokens counts the deepeners, and keeps no list
-- of them.
--     counts deepeners                 how many of each kind the deepeners are
--     Turns before now change      as the deepeners change on one level, so do the numbers
--     Follows before now change    the same of all levels
use Rattle.std.specs.Prelude.{◌≡◌, ◌+◌, ◌<◌, ℕ, List, [], ◌∷◌, Option, Some, None, map}
use Rattle.hs_syntax.specs.Nesting.{Levels, Deepener}
use Rattle.hs_syntax.specs.Nesting.Deepener.{do_, keyword, query, other}
use Rattle.hs_syntax.specs.declared.level.Level.{Level}
use Rattle.hs_syntax.specs.declared.deepener.Deepener.{Deepener as Kind}
use Rattle.hs_syntax.specs.declared.deepener.Deepener.TheVariants.{Do, Keyword, Query, Other}

-- the deepener that the code means
abbrev pub meaning : Kind → Deepener
meaning Do = do_
meaning Keyword = keyword
meaning Query = query
meaning Other = other

-- the same, of a deepener or none
abbrev pub meanings : Option Kind → Option Deepener
meanings None = None
meanings (Some kind) = Some (meaning kind)

-- one more deepener
abbrev pub with_deepener : Deepener → Level → Level
with_deepener do_ level = record level { dos = level.dos + 1 }
with_deepener keyword level = record level { keywords = level.keywords + 1 }
with_deepener query level = record level { queries = level.queries + 1 }
with_deepener other level = record level { others = level.others + 1 }

-- how many of each kind the deepeners are
abbrev pub counts : List Deepener → Level
counts [] = record { dos = 0; keywords = 0; queries = 0; others = 0 }
counts (deepener ∷ deepeners) = with_deepener deepener (counts deepeners)

-- the number of deepeners on a level
abbrev pub deepeners_on : Level → ℕ
deepeners_on level = level.dos + level.keywords + level.queries + level.others

-- the number of deepeners on all levels
abbrev pub all_deepeners : List Level → ℕ
all_deepeners [] = 0
all_deepeners (level ∷ levels) = deepeners_on level + all_deepeners levels

-- each level has a deepener
abbrev pub AllDeepened : List Level → Type 0
AllDeepened [] = Unit {0}
AllDeepened (level ∷ levels) = (0 < deepeners_on level) × AllDeepened levels

-- If the numbers are those of deepeners, they become those of the changed deepeners.
abbrev pub Turns : Level → Level → (List Deepener → List Deepener) → Type 0
Turns before now change = (deepeners : List Deepener) → before ≡ counts deepeners → now ≡ counts (change deepeners)

-- the same of all levels
abbrev pub Follows : List Level → List Level → (Levels → Levels) → Type 0
Follows before now change = (levels : Levels) → before ≡ map counts levels → now ≡ map counts (change levels)
