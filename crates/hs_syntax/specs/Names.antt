-- Identifiers (X3.159-1989 3.1.2), and the words that are not: keywords (3.1.1), and `pascal`, a keyword of the
-- Macintosh's compilers.
use Rattle.std.specs.Prelude.{ℕ, Bool, not, ◌&&◌, List, [], ◌∷◌, codes}
use Rattle.std.specs.List.{list_any}
use Rattle.std.specs.Str.{bytes_eq}

-- the words that are no identifiers
unfoldable pub keywords : List (List ℕ)
keywords =
    codes "auto" ∷ codes "break" ∷ codes "case" ∷ codes "char" ∷ codes "const" ∷ codes "continue" ∷ codes "default"
    ∷ codes "do" ∷ codes "double" ∷ codes "else" ∷ codes "enum" ∷ codes "extern" ∷ codes "float" ∷ codes "for"
    ∷ codes "goto" ∷ codes "if" ∷ codes "int" ∷ codes "long" ∷ codes "register" ∷ codes "return" ∷ codes "short"
    ∷ codes "signed" ∷ codes "sizeof" ∷ codes "static" ∷ codes "struct" ∷ codes "switch" ∷ codes "typedef"
    ∷ codes "union" ∷ codes "unsigned" ∷ codes "void" ∷ codes "volatile" ∷ codes "while" ∷ codes "pascal" ∷ []

-- the text is one of these
abbrev pub is_among : List (List ℕ) → List ℕ → Bool
is_among words text = list_any (λ word. bytes_eq word text) words

-- the text of an identifier token is an identifier
abbrev pub is_name : List ℕ → Bool
is_name text = not (is_among keywords text)

-- a typedef name (3.5.6): an identifier that is known as one
abbrev pub is_type_name : List (List ℕ) → List ℕ → Bool
is_type_name known text = is_name text && is_among known text
