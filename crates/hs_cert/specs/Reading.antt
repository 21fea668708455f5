-- Reading what stands in front of a text, from left to right. Each function gives what it read and the text after it; what
-- is no text of a certificate may be read as anything.
--     after word text           what follows the word, if the text begins with it
--     number_at most value text     the number whose first digits have this value; one above the most is cut
--     signed_at text            the same with a sign
--     line_at text              the line of an edge: its number, and what flows along it
--     ReadsWords limit text vertices behind, ReadsFlow text flow     what was read, if the text is that of a certificate
use Rattle.std.specs.Prelude.{◌≡◌, ℕ, ◌+◌, ◌*◌, ◌-◌, ◌^◌, ◌==◌, ◌<◌, ◌≤◌, min, ℤ, pos, neg_ℤ, nat_abs, List, [], ◌∷◌, ◌++◌, length, codes, Option, Some, None, if◌then◌else◌}
use Rattle.std.specs.Fmt.{decimal}
use Rattle.std.specs.List.{All, flat_map}
use Rattle.hs_base.specs.Text.{is_digit}
use Rattle.hs_base.specs.Options.{◌>>=◌}
use Rattle.hs_cert.specs.Texts.{flow_lines}

-- the most that the size of an amount is cut to
abbrev pub most_size : ℕ
most_size = 2147483648

-- the most that the number of an edge is cut to
abbrev pub most_edge : ℕ
most_edge = 2 ^ 64 - 1

-- what follows the word
abbrev pub after : List ℕ → List ℕ → Option (List ℕ)
after [] text = Some text
after (byte ∷ word) [] = None
after (byte ∷ word) (other ∷ text) = if other == byte then after word text else None

-- the number that the digits in front come to, cut to the most
abbrev pub number_at : ℕ → ℕ → List ℕ → ℕ × List ℕ
number_at most value [] = (value, [])
number_at most value (byte ∷ text) = if is_digit byte then number_at most (min (value * 10 + (byte - 48)) most) text else (value, byte ∷ text)

-- the number with a sign that stands in front
abbrev pub signed_at : List ℕ → ℤ × List ℕ
signed_at [] = (pos 0, [])
signed_at (byte ∷ text) =
    if byte == 45 then (neg_ℤ (pos (number_at most_size 0 text).0), (number_at most_size 0 text).1)
    else (pos (number_at most_size 0 (byte ∷ text)).0, (number_at most_size 0 (byte ∷ text)).1)

-- the line of an edge
unfoldable pub line_at : List ℕ → Option (ℕ × ℤ × List ℕ)
line_at text = do
  edge ← after (codes "flow ") text
  amount ← after (32 ∷ []) (number_at most_edge 0 edge).1
  rest ← after (10 ∷ []) (signed_at amount).1
  Some ((number_at most_edge 0 edge).0, (signed_at amount).0, rest)

-- If the text is vertices below the limit and the end of their line, these were read, and the end of the line stands next.
abbrev pub ReadsWords : ℕ → List ℕ → List ℕ → List ℕ → Type 0
ReadsWords limit text vertices behind = (inside rest : List ℕ) → All (λ vertex. vertex < limit) inside
    → text ≡ flat_map (λ vertex. 32 ∷ decimal vertex) inside ++ 10 ∷ rest → (vertices ≡ inside) × (behind ≡ 10 ∷ rest)

-- If the text is the lines of this flow and a line of crossings, this flow was read.
abbrev pub ReadsFlow : List ℕ → List ℤ → Type 0
ReadsFlow text flow = (other : List ℤ) (tail : List ℕ) → length other ≡ length flow → All (λ amount. nat_abs amount ≤ 2147483647) other
    → text ≡ flow_lines 0 other ++ (codes "crossings " ++ tail) → flow ≡ other
