-- Which of two chains comes first: the shorter one, and of two with as many entries the one that is less at the first entries that differ (own).
--     IsBefore x y              the operation of x comes first, or at the same operation the fact
--     IsAlike x y               neither comes first
--     AtMost xs ys              as long, and not after it entry by entry
--     Best xs ys                shorter, or at most
-- Nodes that are alike differ in the fact with which their call was entered alone.
use Rattle.std.specs.Prelude.{◌≡◌, ◌<◌, ◌⊎◌, List, [], ◌∷◌, length}
use Rattle.hs_search.specs.declared.graph.Node.{Node}

-- the operation comes first, and at one operation the fact
abbrev pub IsBefore : Node → Node → Type 0
IsBefore x y = (x.at < y.at) ⊎ ((x.at ≡ y.at) × (x.fact < y.fact))

-- the same operation and the same fact
abbrev pub IsAlike : Node → Node → Type 0
IsAlike x y = (x.at ≡ y.at) × (x.fact ≡ y.fact)

-- as many entries, and the first that are not alike are less
pub data AtMost : List Node → List Node → Type 0 where
  both_end : AtMost [] []
  before : (x y : Node) (xs ys : List Node) → IsBefore x y → length xs ≡ length ys → AtMost (x ∷ xs) (y ∷ ys)
  alike : (x y : Node) (xs ys : List Node) → IsAlike x y → AtMost xs ys → AtMost (x ∷ xs) (y ∷ ys)

-- fewer entries, or as many and not after it
abbrev pub Best : List Node → List Node → Type 0
Best xs ys = (length xs < length ys) ⊎ AtMost xs ys
