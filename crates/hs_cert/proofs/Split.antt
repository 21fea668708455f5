-- The parts of a text.
use Rattle.std.proofs.Common.{◌≡◌, ℕ, List, [], ◌∷◌, ◌++◌, codes, ◌∙◌, append_assoc, inl, inr}
use Rattle.std.specs.Fmt.{decimal}
use Rattle.std.specs.List.{flat_map}
use Rattle.std.proofs.lemmas.List.{same_from_push}
use Rattle.hs_cut.specs.declared.network.Network.{Network}
use Rattle.hs_cut.specs.Networks.{among, crossings}
use Rattle.hs_cert.specs.declared.certificate.Certificate.{Certificate}
use Rattle.hs_cert.specs.Texts.{flow_lines, text_of, IsTextOf}
use Rattle.hs_cert.proofs.Words.{word}

-- the text up to the number of the crossings, and that with what follows
abbrev pub front : Certificate → List ℕ → List ℕ
front c tail = codes "inside" ++ (flat_map word c.inside ++ 10 ∷ (flow_lines 0 c.flow ++ (codes "crossings " ++ tail)))

grouped : (inside vertices lines crossings digits : List ℕ) → (inside ++ vertices ++ 10 ∷ []) ++ lines ++ (crossings ++ digits ++ 10 ∷ [])
    ≡ inside ++ (vertices ++ 10 ∷ (lines ++ (crossings ++ (digits ++ 10 ∷ []))))
grouped inside vertices lines crossings digits = simp append_assoc

ungrouped : (inside vertices lines crossings digits : List ℕ) → inside ++ (vertices ++ 10 ∷ (lines ++ (crossings ++ (digits ++ 10 ∷ []))))
    ≡ (inside ++ (vertices ++ 10 ∷ (lines ++ (crossings ++ digits)))) ++ 10 ∷ []
ungrouped inside vertices lines crossings digits = simp append_assoc

whole : (network : Network) (c : Certificate) → text_of network c ≡ front c (decimal (crossings (among c.inside) network.edges) ++ 10 ∷ [])
whole network c =
    grouped (codes "inside") (flat_map word c.inside) (flow_lines 0 c.flow) (codes "crossings ")
    (decimal (crossings (among c.inside) network.edges))

pushed : (c : Certificate) (digits : List ℕ) → front c (digits ++ 10 ∷ []) ≡ front c digits ++ 10 ∷ []
pushed c digits = ungrouped (codes "inside") (flat_map word c.inside) (flow_lines 0 c.flow) (codes "crossings ") digits

-- a text of a certificate begins with its lines
pub text_split : (network : Network) (c : Certificate) (text : List ℕ) → IsTextOf network c text → (tail : List ℕ) × (text ≡ front c tail)
text_split network c text (inl is) = (decimal (crossings (among c.inside) network.edges) ++ 10 ∷ [], is ∙ whole network c)
text_split network c text (inr is) =
    let digits = decimal (crossings (among c.inside) network.edges) in
    (digits, (same_from_push text (front c digits) 10 10 (is ∙ (whole network c ∙ pushed c digits))).0)
