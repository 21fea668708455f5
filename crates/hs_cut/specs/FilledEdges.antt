-- If as much flows out of a set as edges cross it, each edge that crosses carries one unit out.
--     IsFilled side edge amount          the edge takes one out if it crosses, and nothing elsewhere
--     out_over-filled                    each edge is filled, if as much flows out as edges cross
--     carries_out, carries_in            what flows over an edge that leaves or enters, if as much flows out as edges cross
use Rattle.std.proofs.Common.{◌≡◌, ℕ, zero, suc, ◌+◌, ◌<◌, ◌≤◌, ℤ, pos, negsuc, ◌+ℤ◌, ◌-ℤ◌, ◌≤ℤ◌, nat_abs, Bool, true, false, cond, List, [], ◌∷◌, length, IsTrue, IsFalse, get_or, ap, ◌∙◌, arith, zip}
use mathlib.Core.Bool.{xor}
use Rattle.std.proofs.lemmas.Int.{ints}
use Rattle.std.proofs.lemmas.List.Elements.{All-head, All-tail}
use Rattle.hs_cut.specs.declared.network.CutEdge.{CutEdge}
use Rattle.hs_cut.specs.Networks.{Side, crosses, crossings}
use Rattle.hs_cut.specs.Flows.{out_over, net_out, most}
use Rattle.hs_cut.specs.NetOut.{AreSized, CrossSlots, out_over-crosses, net_out-crossings, crossings-cons}

-- two sums are equal, and no part of the one is larger: so the parts are equal
first_part : (one rest : ℤ) (a b : ℕ) → (one ≤ℤ pos a) → (rest ≤ℤ pos b) → one +ℤ rest ≡ pos (a + b) → one ≡ pos a
first_part one rest a b low short same = omega (arith, ints)

second_part : (one rest : ℤ) (a b : ℕ) → (one ≤ℤ pos a) → (rest ≤ℤ pos b) → one +ℤ rest ≡ pos (a + b) → rest ≡ pos b
second_part one rest a b low short same = omega (arith, ints)

-- the edge takes one out if it crosses, and nothing elsewhere
abbrev pub IsFilled : Side → CutEdge → ℤ → Type 0
IsFilled side edge amount = out_over side edge amount ≡ pos (cond (crosses side edge) 1 0)

-- if as much flows out as edges cross, each edge does
pub out_over-filled : (side : Side) (edges : List CutEdge) (flow : List ℤ) → AreSized edges flow → CrossSlots side edges
    → net_out side edges flow ≡ pos (crossings side edges) → (i : ℕ) (none : CutEdge) (default : ℤ) → i < length edges → i < length flow
    → IsFilled side (get_or edges i none) (get_or flow i default)
out_over-filled side [] flow sized slotless filled i none default low short = absurd (omega arith)
out_over-filled side (edge ∷ edges) [] sized slotless filled i none default low short = absurd (omega arith)
out_over-filled side (edge ∷ edges) (amount ∷ flow) sized slotless filled i none default low short =
    at i low short (out_over-filled side edges flow sized' slotless' others) where
      sized' : AreSized edges flow
      sized' = All-tail (λ it. nat_abs it.1 ≤ most it.0) (edge, amount) (zip edges flow) sized

      slotless' : CrossSlots side edges
      slotless' = All-tail (λ it. IsFalse it.slot → IsFalse (crosses side it)) edge edges slotless

      one : out_over side edge amount ≤ℤ pos (cond (crosses side edge) 1 0)
      one = out_over-crosses side edge amount (All-head (λ it. nat_abs it.1 ≤ most it.0) (edge, amount) (zip edges flow) sized)
          (All-head (λ it. IsFalse it.slot → IsFalse (crosses side it)) edge edges slotless)

      rest : net_out side edges flow ≤ℤ pos (crossings side edges)
      rest = net_out-crossings side edges flow sized' slotless'

      both : out_over side edge amount +ℤ net_out side edges flow ≡ pos (cond (crosses side edge) 1 0 + crossings side edges)
      both = filled ∙ ap pos (crossings-cons side edge edges)

      here : IsFilled side edge amount
      here = first_part (out_over side edge amount) (net_out side edges flow) (cond (crosses side edge) 1 0) (crossings side edges) one rest both

      others : net_out side edges flow ≡ pos (crossings side edges)
      others = second_part (out_over side edge amount) (net_out side edges flow) (cond (crosses side edge) 1 0) (crossings side edges) one rest both

      at : (k : ℕ) → k < length (edge ∷ edges) → k < length (amount ∷ flow)
          → ((i : ℕ) (none : CutEdge) (default : ℤ) → i < length edges → i < length flow
          → IsFilled side (get_or edges i none) (get_or flow i default))
          → IsFilled side (get_or (edge ∷ edges) k none) (get_or (amount ∷ flow) k default)
      at zero low short further = here
      at (suc k) low short further = further k none default (omega arith) (omega arith)

-- an edge out of the set
out-one : (one to : Bool) (amount : ℤ) → IsTrue one → IsFalse to
    → cond one amount (pos 0) -ℤ cond to amount (pos 0) ≡ pos (cond (xor one to) 1 0) → amount ≡ pos 1
unfolding xor
out-one true false amount is not' same = omega (arith, ints)
out-one true true amount is not' same = cc
out-one false to amount is not' same = cc

-- an edge into the set
in-one : (one to : Bool) (amount : ℤ) → IsFalse one → IsTrue to
    → cond one amount (pos 0) -ℤ cond to amount (pos 0) ≡ pos (cond (xor one to) 1 0) → amount ≡ negsuc 0
unfolding xor
in-one false true amount is not' same = omega (arith, ints)
in-one false false amount is not' same = cc
in-one true to amount is not' same = cc

-- one unit along an edge that leaves the set
pub carries_out : (side : Side) (edges : List CutEdge) (flow : List ℤ) → AreSized edges flow → CrossSlots side edges
    → net_out side edges flow ≡ pos (crossings side edges) → (i : ℕ) (none : CutEdge) (default : ℤ) → i < length edges → i < length flow
    → IsTrue (side (get_or edges i none).from) → IsFalse (side (get_or edges i none).to) → get_or flow i default ≡ pos 1
carries_out side edges flow sized slotless filled i none default low short from to =
    out-one (side (get_or edges i none).from) (side (get_or edges i none).to) (get_or flow i default) from to
    (out_over-filled side edges flow sized slotless filled i none default low short)

-- one unit against an edge that enters it
pub carries_in : (side : Side) (edges : List CutEdge) (flow : List ℤ) → AreSized edges flow → CrossSlots side edges
    → net_out side edges flow ≡ pos (crossings side edges) → (i : ℕ) (none : CutEdge) (default : ℤ) → i < length edges → i < length flow
    → IsFalse (side (get_or edges i none).from) → IsTrue (side (get_or edges i none).to) → get_or flow i default ≡ negsuc 0
carries_in side edges flow sized slotless filled i none default low short from to =
    in-one (side (get_or edges i none).from) (side (get_or edges i none).to) (get_or flow i default) from to
    (out_over-filled side edges flow sized slotless filled i none default low short)
