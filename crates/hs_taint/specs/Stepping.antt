-- What the code of a step keeps.
--     listed_fact fact              one fact or none
--     AreNames whole all            the handle names of each function
--     here_site here                the operation of the code's record
use Rattle.std.specs.Prelude.{◌≡◌, ℕ, List, [], ◌∷◌, Option, Some, None, slice_get}
use Rattle.std.specs.declared.alloc.Global.{Global}
use Rattle.std.specs.declared.vec.Vec.{Vec}
use Rattle.hs_facts.specs.Effects.{WholeCode}
use Rattle.hs_flow.specs.declared.fact.Fact.{Fact}
use Rattle.hs_must.specs.Answers.{names_in}
use Rattle.hs_tree.specs.declared.head.Variable.{Variable}

-- one or none
abbrev pub listed_fact : Option Fact → List Fact
listed_fact None = []
listed_fact (Some fact) = fact ∷ []

-- a row of names for each function
abbrev pub AreNames : WholeCode → List (Vec Variable Global) → Type 0
AreNames whole all = (f : ℕ) (its : Vec Variable Global) → slice_get all f ≡ Some its → its.items ≡ names_in whole f
