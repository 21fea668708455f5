-- What is answered of the facts that chains reach (own).
--     PairAt                         a pair at an operation of a function
--     HasManyPairs whole known       chains end in more pairs than there may be
--     Finds whole known result       what a search for them comes to
--     Solves whole result            what `solve` answers
use Rattle.std.specs.Prelude.{◌≡◌, ◌<◌, ◌⊎◌, ℕ, true, List, [], ◌∷◌, length, Result, Ok, Err}
use Rattle.hs_base.specs.Limit.{number_of}
use Rattle.hs_base.specs.declared.limit.Limit.{Limit}
use Rattle.hs_base.specs.declared.limit.LimitKind.TheVariants as kind
use Rattle.hs_chains.specs.Chains.{EndsIn}
use Rattle.hs_chains.specs.Knowledge.{IsKnowledge, Knowledge}
use Rattle.hs_facts.specs.Effects.{WholeCode}
use Rattle.hs_flow.specs.Among.{Among}
use Rattle.hs_flow.specs.declared.fact.Fact.{Fact}
use Rattle.hs_search.specs.declared.reach.SearchEnd.{SearchEnd}
use Rattle.hs_search.specs.declared.reach.SearchEnd.TheVariants as search
use Rattle.hs_taint.specs.Hazarding.{HasLong, HasShort}
use Rattle.hs_taint.specs.Points.{is_there}
use Rattle.hs_taint.specs.Reaching.{AreExact, IsSolved, most_pairs}
use Rattle.hs_taint.specs.declared.reached.Reached.{Reached}
use Rattle.hs_taint.specs.declared.taint_end.TaintEnd.{TaintEnd}
use Rattle.hs_taint.specs.declared.taint_end.TaintEnd.TheVariants as end

-- a pair at an operation
pub record PairAt : Type 0 where
  pub function : ℕ
  pub at : ℕ
  pub entry : Fact
  pub fact : Fact

-- no two are the same
abbrev pub AreDistinct : List PairAt → Type 0
AreDistinct [] = Unit {0}
AreDistinct (p ∷ rest) = (¬ (Among rest p)) × AreDistinct rest

module _ (whole : WholeCode) (known : Knowledge) where
  -- some chain ends in the pair, at an operation that is there
  pub record IsEndOf (p : PairAt) : Type 0 where
    pub there : is_there whole.functions p.function p.at ≡ true
    pub length : ℕ
    pub ends : EndsIn whole known length p.function p.at p.entry p.fact

  -- chains end in more pairs than there may be
  pub record HasManyPairs : Type 0 where
    pub pairs : List PairAt
    pub more : most_pairs < length pairs
    pub distinct : AreDistinct pairs
    pub ends : (p : PairAt) → Among pairs p → IsEndOf p

  -- a search finds the pairs in which chains end, or there are too many
  abbrev pub Finds : Result Reached SearchEnd → Type 0
  Finds (Ok reached) = AreExact whole known reached
  Finds (Err search.Limit) = HasManyPairs
  Finds (Err search.NoMemory) = Unit {0}

-- the limit of pairs
abbrev pub pairs_limit : Limit
pairs_limit = record { kind = kind.Pairs; reached = number_of kind.Pairs }

-- and that of steps
abbrev pub steps_limit : Limit
steps_limit = record { kind = kind.PathSteps; reached = number_of kind.PathSteps }

-- chains end in too many pairs, by what is known in the program
pub record PassesPairs (whole : WholeCode) (limit : Limit) : Type 0 where
  pub limit_is : limit ≡ pairs_limit
  pub known : Knowledge
  pub is_known : IsKnowledge whole known
  pub many : HasManyPairs whole known

-- they do not, and each chain to some hazard is too long
pub record PassesSteps (whole : WholeCode) (limit : Limit) : Type 0 where
  pub limit_is : limit ≡ steps_limit
  pub reached : Reached
  pub solved : IsSolved whole reached
  pub long : HasLong whole

-- The pairs are found, and each hazard has a chain that is not too long; or one of the limits is passed, unless memory runs out.
abbrev pub Solves : WholeCode → Result Reached TaintEnd → Type 0
Solves whole (Ok reached) = IsSolved whole reached × HasShort whole
Solves whole (Err (end.Limit limit)) = PassesPairs whole limit ⊎ PassesSteps whole limit
Solves whole (Err end.NoMemory) = Unit {0}
