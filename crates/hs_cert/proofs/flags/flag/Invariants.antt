use Rattle.std.proofs.Common.{◌≡◌, ℕ, pos, cond, take, get_or}
use Rattle.hs_cut.specs.Networks.{among}
use Rattle.hs_cert.proofs.flags.flag.Given as goal

abbrev pub invariant-loop-vertex : goal.invariant-loop-vertex
invariant-loop-vertex l = (vertex : ℕ) → get_or l.flags vertex (pos 0) ≡ cond (among (take l.vertex-index l.vertices) vertex) (pos 1) (pos 0)
