-- The text of a fault, in the pieces in which the code writes it.
use Rattle.std.proofs.Common.{◌≡◌, ℕ, List, ◌∷◌, ◌++◌, ap, ◌∙◌, append_assoc}
use Rattle.std.specs.Prelude.{codes}

-- the pieces of the text of a fault, grouped otherwise
pub fault_is : (number word file line col : List ℕ)
    → ((codes "error " ++ number ++ 32 ∷ (word ++ codes " at ")) ++ file) ++ 58 ∷ (line ++ 58 ∷ col)
    ≡ codes "error " ++ number ++ 32 ∷ (word ++ codes " at " ++ (file ++ 58 ∷ (line ++ 58 ∷ col)))
fault_is number word file line col =
    append_assoc (codes "error " ++ number ++ 32 ∷ (word ++ codes " at ")) file (58 ∷ (line ++ 58 ∷ col))
    ∙ ap (λ (rest : List ℕ). codes "error " ++ rest) (append_assoc number (32 ∷ (word ++ codes " at ")) (file ++ 58 ∷ (line ++ 58 ∷ col)))
