-- The names that a straight program may declare: identifiers (X3.159-1989 3.1.2) that are no keyword (3.1.1), not
-- `pascal` (a keyword of the Macintosh's compilers), not `main`, and no routine of the prelude.
use Rattle.std.specs.Prelude.{ℕ, Bool, not, ◌&&◌, List, [], ◌∷◌, codes}
use Rattle.std.specs.List.{list_any}
use Rattle.std.specs.Str.{bytes_eq}
pub use Rattle.hs_table.specs.Tables.{begins_with_letter, is_identifier}

-- what no variable is named
unfoldable pub reserved : List (List ℕ)
reserved =
    codes "auto" ∷ codes "break" ∷ codes "case" ∷ codes "char" ∷ codes "const" ∷ codes "continue" ∷ codes "default"
    ∷ codes "do" ∷ codes "double" ∷ codes "else" ∷ codes "enum" ∷ codes "extern" ∷ codes "float" ∷ codes "for"
    ∷ codes "goto" ∷ codes "if" ∷ codes "int" ∷ codes "long" ∷ codes "register" ∷ codes "return" ∷ codes "short"
    ∷ codes "signed" ∷ codes "sizeof" ∷ codes "static" ∷ codes "struct" ∷ codes "switch" ∷ codes "typedef"
    ∷ codes "union" ∷ codes "unsigned" ∷ codes "void" ∷ codes "volatile" ∷ codes "while"
    ∷ codes "pascal" ∷ codes "main" ∷ codes "NewHandle" ∷ codes "HLock" ∷ codes "HUnlock" ∷ codes "putchar" ∷ []

-- a name that may be declared
abbrev pub is_name : List ℕ → Bool
is_name text = is_identifier text && not (list_any (λ word. bytes_eq word text) reserved)
