-- What `best_cut` answers if there is no cut.
--     IsEnd network end     the answer is right: an obstacle, and the least; or that memory ran out, which may always be
use Rattle.std.specs.Prelude.{⊤}
use Rattle.hs_cut.specs.declared.cut.CutEnd.{CutEnd}
use Rattle.hs_cut.specs.declared.cut.CutEnd.TheVariants.{NoCut, NoMemory}
use Rattle.hs_cut.specs.declared.network.Network.{Network}
use Rattle.hs_cut.specs.Walks.{IsLeastObstacle}

-- if there is no cut, the least obstacle; or, at any time, that memory ran out
abbrev pub IsEnd : Network → CutEnd → Type 0
IsEnd network (NoCut vertices) = IsLeastObstacle network vertices
IsEnd network NoMemory = ⊤
