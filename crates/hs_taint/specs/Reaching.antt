-- The pairs that are kept for each operation, and what makes them the facts that chains reach (own).
--     number_in reached f at        the number of an operation in the whole program
--     IsInRange reached f at        the operation is one of the program
--     pairs_in reached f at         the pairs at an operation
--     IsLength whole known f at p   the length of a pair is that of a shortest chain, or each chain is too long
--     AreExact whole known reached  the pairs are those in which chains end
--     IsSolved whole reached        the same, by what is known in the program
use Rattle.std.specs.Prelude.{◌≡◌, ◌<◌, ◌≤◌, ◌⊎◌, ℕ, ◌+◌, true, List, [], ◌∷◌, length, map, slice_index_or}
use Rattle.hs_chains.specs.Chains.{EndsIn, IsShortest}
use Rattle.hs_chains.specs.Knowledge.{IsKnowledge, Knowledge}
use Rattle.hs_facts.specs.Effects.{WholeCode}
use Rattle.hs_flow.specs.Among.{Among}
use Rattle.hs_flow.specs.declared.fact.Fact.{Fact}
use Rattle.hs_search.specs.Chains.{pairs_at}
use Rattle.hs_search.specs.Finding.{operations_of, pairs_of}
use Rattle.hs_search.specs.declared.found.Pair as found
use Rattle.hs_taint.specs.Coding.{fact_of}
use Rattle.hs_taint.specs.Points.{is_there}
use Rattle.hs_taint.specs.declared.reached.Pair.{Pair}
use Rattle.hs_taint.specs.declared.reached.Reached.{Reached}

-- ---- as they are kept

-- the number of an operation in the whole program
abbrev pub number_in : Reached → ℕ → ℕ → ℕ
number_in reached f at = slice_index_or reached.starts.items f 0 + at

-- there are such a function and such an operation
pub record IsInRange (reached : Reached) (f at : ℕ) : Type 0 where
  pub function : f < length reached.starts.items
  pub operation : number_in reached f at < operations_of reached.found

-- a pair of facts, from one of their numbers
abbrev pub pair_of : found.Pair → Pair
pair_of p = record { entry = fact_of p.node.entered; fact = fact_of p.node.fact; length = p.length }

-- the pairs at an operation
abbrev pub pairs_in : Reached → ℕ → ℕ → List Pair
pairs_in reached f at = map pair_of (pairs_at (number_in reached f at) (pairs_of reached.found))

-- all of them
abbrev pub all_pairs : Reached → List Pair
all_pairs reached = map pair_of (pairs_of reached.found)

-- ---- what they mean

-- no two of the pairs have the same facts
abbrev pub AreDifferent : List Pair → Type 0
AreDifferent [] = Unit {0}
AreDifferent (p ∷ rest) = ((q : Pair) → Among rest q → q.entry ≡ p.entry → q.fact ≡ p.fact → ⊥) × AreDifferent rest

-- the greatest length that a pair may have; every longer one is given as one more
abbrev pub most_steps : ℕ
most_steps = 1000000

-- how many pairs chains may reach at most
abbrev pub most_pairs : ℕ
most_pairs = 4000000

module _ (whole : WholeCode) (known : Knowledge) where
  -- each chain that ends in the pair is too long
  abbrev pub IsFar : ℕ → ℕ → Fact → Fact → Type 0
  IsFar f at entry fact = (n : ℕ) → EndsIn whole known n f at entry fact → most_steps < n

  -- the length is that of a shortest chain, or one more than the most if each chain is too long
  abbrev pub IsLength : ℕ → ℕ → Pair → Type 0
  IsLength f at p =
      ((p.length ≤ most_steps) × IsShortest whole known p.length f at p.entry p.fact)
      ⊎ ((p.length ≡ 1000001) × IsFar f at p.entry p.fact)

  -- the pair has those facts
  pub record IsPairOf (reached : Reached) (f at : ℕ) (entry fact : Fact) : Type 0 where
    pub pair : Pair
    pub among : Among (pairs_in reached f at) pair
    pub entry_is : pair.entry ≡ entry
    pub fact_is : pair.fact ≡ fact

  -- the pairs at each operation are those in which chains end, each once
  pub record AreExact (reached : Reached) : Type 0 where
    pub range : (f at : ℕ) → is_there whole.functions f at ≡ true → IsInRange reached f at
    pub ends : (f at : ℕ) (p : Pair) → is_there whole.functions f at ≡ true → Among (pairs_in reached f at) p
        → (n : ℕ) × EndsIn whole known n f at p.entry p.fact
    pub all : (n f at : ℕ) (entry fact : Fact) → is_there whole.functions f at ≡ true → EndsIn whole known n f at entry fact
        → IsPairOf reached f at entry fact
    pub once : (f at : ℕ) → is_there whole.functions f at ≡ true → AreDifferent (pairs_in reached f at)
    pub lengths : (f at : ℕ) (p : Pair) → is_there whole.functions f at ≡ true → Among (pairs_in reached f at) p → IsLength f at p
    pub few : length (all_pairs reached) ≤ most_pairs

-- the same by what is known in the program, of which there is one knowledge
pub record IsSolved (whole : WholeCode) (reached : Reached) : Type 0 where
  pub known : Knowledge
  pub is_known : IsKnowledge whole known
  pub exact : AreExact whole known reached
