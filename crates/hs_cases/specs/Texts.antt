-- Texts in two parts.
--     Divides text mark front rest      the parts of a text in front of a mark and after it, or the text and nothing
use Rattle.std.specs.Prelude.{◌≡◌, ◌≢◌, ℕ, List, [], ◌++◌, ◌⊎◌}

-- If the mark is in the text, the parts are what is in front of it and what is after it. If it is not, the first part is the text.
abbrev pub Divides : List ℕ → List ℕ → List ℕ → List ℕ → Type 0
Divides text mark front rest =
    (text ≡ front ++ (mark ++ rest)) ⊎ (((xs ys : List ℕ) → text ≢ xs ++ (mark ++ ys)) × (front ≡ text) × (rest ≡ []))
