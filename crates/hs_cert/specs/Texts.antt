-- How a certificate is written (the form is own): a line of the vertices inside, a line for each edge over which something
-- flows, and a line of how many edges cross. Each line ends in LF; the last LF may be absent.
--     text_of network c         the text
--     IsTextOf network c text   the text, with its last LF or without it
use Rattle.std.specs.Prelude.{◌≡◌, ℕ, suc, ℤ, nat_abs, ◌⊎◌, List, [], ◌∷◌, ◌++◌, codes, if◌then◌else◌, nat_eq}
use Rattle.std.specs.Fmt.{decimal, signed_decimal}
use Rattle.std.specs.List.{flat_map}
use Rattle.hs_cut.specs.declared.network.Network.{Network}
use Rattle.hs_cut.specs.Networks.{among, crossings}
use Rattle.hs_cert.specs.declared.certificate.Certificate.{Certificate}

-- `inside`, and each vertex after a blank
abbrev pub inside_line : List ℕ → List ℕ
inside_line inside = codes "inside" ++ flat_map (λ vertex. 32 ∷ decimal vertex) inside ++ 10 ∷ []

-- `flow`, the number of the edge, and how much flows along it; no line if nothing flows
abbrev pub flow_line : ℕ → ℤ → List ℕ
flow_line edge amount = if nat_eq (nat_abs amount) 0 then [] else codes "flow " ++ decimal edge ++ 32 ∷ (signed_decimal amount ++ 10 ∷ [])

-- the lines of the edges from this one on
abbrev pub flow_lines : ℕ → List ℤ → List ℕ
flow_lines edge [] = []
flow_lines edge (amount ∷ flow) = flow_line edge amount ++ flow_lines (suc edge) flow

-- `crossings`, and their number
abbrev pub crossings_line : Network → List ℕ → List ℕ
crossings_line network inside = codes "crossings " ++ decimal (crossings (among inside) network.edges) ++ 10 ∷ []

-- the three, in this order
abbrev pub text_of : Network → Certificate → List ℕ
text_of network c = inside_line c.inside ++ flow_lines 0 c.flow ++ crossings_line network c.inside

-- the last LF may be absent
abbrev pub IsTextOf : Network → Certificate → List ℕ → Type 0
IsTextOf network c text = (text ≡ text_of network c) ⊎ (text ++ 10 ∷ [] ≡ text_of network c)
