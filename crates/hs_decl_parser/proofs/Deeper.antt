-- Tokens of phrases that are taken apart further.
--     deeper        the second of two phrases
--     deeper_one    if it is one token
--     onwards       all of them
use Rattle.std.proofs.Common.{◌≡◌, List, [], ◌∷◌, ◌++◌, ap, ◌∙◌}
use Rattle.hs_tokens.specs.declared.token.SourceToken.{SourceToken}

-- the second of two phrases is something else too
pub deeper : (one tokens two other : List SourceToken) → tokens ≡ one ++ two → two ≡ other → tokens ≡ one ++ other
deeper one tokens two other same also = same ∙ ap (λ its. one ++ its) also

-- it is one token
pub deeper_one : (one tokens two rest : List SourceToken) (source : SourceToken) → tokens ≡ one ++ (two ++ rest) → two ≡ source ∷ []
    → tokens ≡ one ++ (source ∷ rest)
deeper_one one tokens two rest source same also = same ∙ ap (λ its. one ++ (its ++ rest)) also

-- all of them are something else too
pub onwards : (tokens one other : List SourceToken) → tokens ≡ one → one ≡ other → tokens ≡ other
onwards tokens one other same also = same ∙ also
