-- Entries with commas between them.
--     after_comma                     a comma, and what it stands before
--     entries_end, entries_more       the last entry, and one with more after it
use Rattle.std.proofs.Common.{◌≡◌, false, List, [], ◌∷◌, ◌++◌, Some, None, ap, ◌∙◌, append_assoc}
use Rattle.std.specs.Prelude.{codes}
use Rattle.hs_base.specs.Options.{◌>>=◌}
use Rattle.hs_tokens.specs.declared.token.SourceToken.{SourceToken}
use Rattle.hs_tokens.specs.declared.token.TokenKind.TheVariants.{Punctuator}
use Rattle.hs_syntax.specs.Forms.{Form, ◌⨾◌, mark, IsOf}
use Rattle.hs_expr_parser.specs.Ahead.{is_mark_ahead, mark_at}
use Rattle.hs_expr_parser.specs.Recursion.{Read}
use Rattle.hs_expr_parser.specs.Reading.{going_on}
use Rattle.hs_expr_parser.specs.Laws.Apart.{with_text}
use Rattle.hs_expr_parser.specs.Laws.Enclosed.{Headed, headed}
use Rattle.hs_expr_parser.specs.Laws.FirstTokens.{mark_missing}
use Rattle.hs_expr_parser.specs.Laws.Primaries.{mark_reads}

-- a comma, and what it stands before
pub after_comma : (form : Form) (sources : List SourceToken) → IsOf (mark (codes ",") ⨾ form) sources → Headed Punctuator (codes ",") None form sources
after_comma form sources fits = headed Punctuator (codes ",") None form sources fits

-- what follows an entry
abbrev pub entries_then : {A : Type 0} → (List A → List SourceToken → Read (List A)) → List A → A × List SourceToken → Read (List A)
entries_then more earlier it = going_on (mark_at (codes ",") it.1) (λ comma rest. more (earlier ++ it.0 ∷ []) rest) (Some (earlier ++ it.0 ∷ [], it.1))

-- the last entry
pub entries_end : {A : Type 0} (more : List A → List SourceToken → Read (List A)) (read : Read A) (earlier : List A) (it : A) (rest : List SourceToken)
    → read ≡ Some (it, rest) → is_mark_ahead (codes ",") rest ≡ false → (read >>= entries_then more earlier) ≡ Some (earlier ++ it ∷ [], rest)
entries_end more read earlier it rest reads ends =
    ap (λ found. found >>= entries_then more earlier) reads
    ∙ ap (λ found. going_on found (λ comma others. more (earlier ++ it ∷ []) others) (Some (earlier ++ it ∷ [], rest))) (mark_missing (codes ",") rest ends)

-- an entry with more after it
pub entries_more : {A : Type 0} (more : List A → List SourceToken → Read (List A)) (read : Read A) (earlier its : List A) (it : A) (comma : SourceToken)
    (others rest : List SourceToken) → read ≡ Some (it, comma ∷ others) → comma ≡ with_text Punctuator (codes ",") comma
    → more (earlier ++ it ∷ []) others ≡ Some ((earlier ++ it ∷ []) ++ its, rest)
    → (read >>= entries_then more earlier) ≡ Some (earlier ++ it ∷ its, rest)
entries_more more read earlier its it comma others rest reads is on =
    ap (λ found. found >>= entries_then more earlier) reads
    ∙ ap (λ found. going_on found (λ comma left. more (earlier ++ it ∷ []) left) (Some (earlier ++ it ∷ [], comma ∷ others)))
    (mark_reads (codes ",") comma others is)
    ∙ on ∙ ap (λ all. Some (all, rest)) (append_assoc earlier (it ∷ []) its)
