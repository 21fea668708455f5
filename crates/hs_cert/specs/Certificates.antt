-- Certificates (max-flow min-cut: Ford and Fulkerson, Maximal flow through a network, 1956), and what is wrong with one.
--     IsCertificate network c     what every certificate is: its numbers ascend and are vertices, each edge has a number
--                                 that is at most 2147483647 in size
--     IsWrong network inside flow wrong    the first of the six facts of `Fits` that fails, and where
use Rattle.std.specs.Prelude.{◌≡◌, ◌≢◌, ℕ, ℤ, pos, nat_abs, ◌<◌, ◌≤◌, not, ◌&&◌, List, length, nat_eq, nat_lt, Some, IsFalse}
use Rattle.std.specs.List.{All, position, zip}
use Rattle.std.specs.List.Sorted.{IsStrictlyIncreasing}
use Rattle.hs_cut.specs.declared.network.Network.{Network}
use Rattle.hs_cut.specs.Networks.{among, crosses, HasInside, HasNoOutside, CrossesSlots}
use Rattle.hs_cut.specs.Flows.{most, has_demand, net_out, AreOfSize, IsConserved, HasValue}
use Rattle.hs_cert.specs.declared.certificate.Certificate.{Certificate}
use Rattle.hs_cert.specs.declared.certificate.Wrong.{Wrong}
use Rattle.hs_cert.specs.declared.certificate.Wrong.TheVariants.{Inside, Outside, Slotless, Size, Conservation, Value}

-- The inside of a certificate: ascending numbers of vertices.
pub record IsInside (network : Network) (inside : List ℕ) : Type 0 where
  pub ascends : IsStrictlyIncreasing inside
  pub vertices : All (λ vertex. vertex < network.vertices) inside

-- Its inside is one, and each edge has a number that is not too large.
pub record IsCertificate (network : Network) (c : Certificate) : Type 0 where
  pub inside : IsInside network c.inside
  pub each : length c.flow ≡ length network.edges
  pub small : All (λ amount. nat_abs amount ≤ 2147483647) c.flow

-- the edge is no slot, and crosses
abbrev pub IsFirstSlotless : Network → List ℕ → ℕ → Type 0
IsFirstSlotless network inside at = position (λ edge. not edge.slot && crosses (among inside) edge) network.edges ≡ Some at

-- more flows over the edge than may
abbrev pub IsFirstTooLarge : Network → List ℤ → ℕ → Type 0
IsFirstTooLarge network flow at = position (λ it. nat_lt (most it.0) (nat_abs it.1)) (zip network.edges flow) ≡ Some at

-- the vertex has no demand, and what flows out is not what flows in; below it that is so at none
pub record IsFirstUnequal (network : Network) (flow : List ℤ) (vertex : ℕ) : Type 0 where
  pub below : vertex < network.vertices
  pub free : IsFalse (has_demand network vertex)
  pub unequal : net_out (nat_eq vertex) network.edges flow ≢ pos 0
  pub first : (other : ℕ) → other < vertex → IsFalse (has_demand network other) → net_out (nat_eq other) network.edges flow ≡ pos 0

-- the first of the facts that fails: those before it hold
abbrev pub IsWrong : Network → List ℕ → List ℤ → Wrong → Type 0
IsWrong network inside flow Inside = ¬ HasInside network (among inside)
IsWrong network inside flow Outside = HasInside network (among inside) × (¬ HasNoOutside network (among inside))
IsWrong network inside flow (Slotless at) = HasInside network (among inside) × HasNoOutside network (among inside)
    × IsFirstSlotless network inside at
IsWrong network inside flow (Size at) = HasInside network (among inside) × HasNoOutside network (among inside)
    × CrossesSlots network (among inside) × IsFirstTooLarge network flow at
IsWrong network inside flow (Conservation vertex) = HasInside network (among inside) × HasNoOutside network (among inside)
    × CrossesSlots network (among inside) × AreOfSize network flow × IsFirstUnequal network flow vertex
IsWrong network inside flow Value = HasInside network (among inside) × HasNoOutside network (among inside)
    × CrossesSlots network (among inside) × AreOfSize network flow × IsConserved network flow
    × (¬ HasValue network (among inside) flow)
