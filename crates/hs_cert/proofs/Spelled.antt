-- The two loops of the reader: what is read so far and what is left are the whole.
use Rattle.std.proofs.Common.{◌≡◌, ℕ, zero, suc, ◌+◌, ◌^◌, ◌<◌, ◌≤◌, ℤ, pos, negsuc, false, List, [], ◌∷◌, ◌++◌, length, replicate, set, Some, None, codes, nat_eq, refl, sym, ap, ◌∙◌, append_assoc, append-nil, length-append, arith}
use Rattle.std.specs.Prelude.{nat_abs}
use Rattle.std.specs.Fmt.{decimal}
use Rattle.std.specs.List.{All, flat_map}
use Rattle.std.proofs.lemmas.Bool.Decides.{nat_tests}
use Rattle.std.proofs.lemmas.List.{set_at, length_push}
use Rattle.std.proofs.lemmas.List.Elements.{All-head, All-tail}
use Rattle.hs_cert.specs.Reading.{after, number_at, line_at}
use Rattle.hs_cert.specs.Texts.{flow_line, flow_lines}
use Rattle.hs_cert.proofs.Words.{word}
use Rattle.hs_cert.proofs.Numerals.{decimal_read, flow_line_read, no_line}

-- the vertices so far are the front of those of the line, and the others are left
pub record WordsLeft (limit : ℕ) (inside rest vertices now : List ℕ) : Type 0 where
  pub left : List ℕ
  pub all : vertices ++ left ≡ inside
  pub text : now ≡ flat_map word left ++ 10 ∷ rest
  pub small : All (λ vertex. vertex < limit) left

-- a number ends where a blank or the end of the line stands
words_stop : (most n : ℕ) (left rest : List ℕ) → number_at most n (flat_map word left ++ 10 ∷ rest) ≡ (n, flat_map word left ++ 10 ∷ rest)
words_stop most n [] rest = refl
words_stop most n (vertex ∷ left) rest = refl

-- one word more is read, and is one fewer that is left
pub words_step : (limit : ℕ) → limit < 2 ^ 64 → (inside rest vertices text digits : List ℕ)
    → WordsLeft limit inside rest vertices text → after (32 ∷ []) text ≡ Some digits
    → WordsLeft limit inside rest (vertices ++ (number_at limit 0 digits).0 ∷ []) (number_at limit 0 digits).1
words_step limit fits inside rest vertices text digits now begins = of_left now.left now.all now.text now.small
  where
    of_left : (left : List ℕ) → vertices ++ left ≡ inside → text ≡ flat_map word left ++ 10 ∷ rest → All (λ vertex. vertex < limit) left
        → WordsLeft limit inside rest (vertices ++ (number_at limit 0 digits).0 ∷ []) (number_at limit 0 digits).1
    of_left [] all is small = let none : after (32 ∷ []) text ≡ None = rw is refl in absurd (cc)
    of_left (vertex ∷ left) all is small =
        let some : after (32 ∷ []) text ≡ Some (decimal vertex ++ (flat_map word left ++ 10 ∷ rest)) =
        ap (after (32 ∷ [])) (is ∙ append_assoc (word vertex) (flat_map word left) (10 ∷ rest)) in
        let same : digits ≡ decimal vertex ++ (flat_map word left ++ 10 ∷ rest) = cc in
        let low : vertex < limit = All-head (λ (vertex : ℕ). vertex < limit) vertex left small in
        let number : number_at limit 0 digits ≡ (vertex, flat_map word left ++ 10 ∷ rest) =
        rw same (decimal_read vertex (omega arith) limit (flat_map word left ++ 10 ∷ rest) (omega arith) ∙ words_stop limit vertex left rest) in
        record {
          left = left;
          all = rw (number, append_assoc) all;
          text = ap (λ (x : ℕ × List ℕ). x.1) number;
          small = All-tail (λ (vertex : ℕ). vertex < limit) vertex left small;
        }

-- if no blank stands next, none is left
pub words_end : (limit : ℕ) (inside rest vertices text : List ℕ) → WordsLeft limit inside rest vertices text
    → after (32 ∷ []) text ≡ None → (vertices ≡ inside) × (text ≡ 10 ∷ rest)
words_end limit inside rest vertices text now ends = of_left now.left now.all now.text
  where
    of_left : (left : List ℕ) → vertices ++ left ≡ inside → text ≡ flat_map word left ++ 10 ∷ rest → (vertices ≡ inside) × (text ≡ 10 ∷ rest)
    of_left [] all is = (sym (append-nil vertices) ∙ all, is)
    of_left (vertex ∷ left) all is =
        let some : after (32 ∷ []) text ≡ Some (decimal vertex ++ (flat_map word left ++ 10 ∷ rest)) =
        ap (after (32 ∷ [])) (is ∙ append_assoc (word vertex) (flat_map word left) (10 ∷ rest)) in
        absurd (cc)

-- nothing flows
abbrev pub zeros : List ℤ → List ℤ
zeros [] = []
zeros (amount ∷ flow) = pos 0 ∷ zeros flow

-- the amounts so far are the front of the flow, with 0 after them, and the lines of the others are left
pub record LinesLeft (other : List ℤ) (tail : List ℕ) (amounts : List ℤ) (now : List ℕ) : Type 0 where
  pub done : List ℤ
  pub left : List ℤ
  pub at : ℕ
  pub here : length done ≡ at
  pub all : done ++ left ≡ other
  pub flow : amounts ≡ done ++ zeros left
  pub text : now ≡ flow_lines at left ++ (codes "crossings " ++ tail)
  pub small : All (λ amount. nat_abs amount ≤ 2147483647) left

-- at the start none is read
pub lines_start : (other : List ℤ) (tail text : List ℕ) (size : ℕ) → length other ≡ size
    → text ≡ flow_lines 0 other ++ (codes "crossings " ++ tail)
    → All (λ amount. nat_abs amount ≤ 2147483647) other → LinesLeft other tail (replicate size (pos 0)) text
lines_start other tail text size long is small = record {
  done = [];
  left = other;
  at = 0;
  here = refl;
  all = refl;
  flow = rw (← long) (none other);
  text = is;
  small = small;
}
  where
    none : (flow : List ℤ) → replicate (length flow) (pos 0) ≡ zeros flow
    none [] = refl
    none (amount ∷ flow) = ap (λ (rest : List ℤ). pos 0 ∷ rest) (none flow)

-- the line of an edge over which something flows stands next
next_line : (at : ℕ) (amount : ℤ) (left : List ℤ) (tail text : List ℕ) → at < 2 ^ 64 → nat_abs amount ≤ 2147483647
    → nat_eq (nat_abs amount) 0 ≡ false
    → text ≡ flow_lines at (amount ∷ left) ++ (codes "crossings " ++ tail)
    → line_at text ≡ Some (at, amount, flow_lines (suc at) left ++ (codes "crossings " ++ tail))
next_line at amount left tail text low small flows is =
    ap line_at (is ∙ append_assoc (flow_line at amount) (flow_lines (suc at) left) (codes "crossings " ++ tail))
    ∙ flow_line_read at amount (flow_lines (suc at) left ++ (codes "crossings " ++ tail)) low small flows

-- one line puts its amount after those so far, and the amounts before it are 0
taken : (other : List ℤ) (tail text : List ℕ) (flow : List ℤ) (line : ℕ × ℤ × List ℕ) (amount : ℤ) (left done : List ℤ) (at : ℕ)
    → length done ≡ at → at < 2 ^ 64
    → done ++ amount ∷ left ≡ other → flow ≡ done ++ pos 0 ∷ zeros left
    → text ≡ flow_lines at (amount ∷ left) ++ (codes "crossings " ++ tail)
    → All (λ amount. nat_abs amount ≤ 2147483647) (amount ∷ left) → nat_eq (nat_abs amount) 0 ≡ false → line_at text ≡ Some line
    → LinesLeft other tail (set flow line.0 line.1) line.2
taken other tail text flow line amount left done at here low all is_flow is_text small flows is_line =
    let next = next_line at amount left tail text low (All-head (λ (amount : ℤ). nat_abs amount ≤ 2147483647) amount left small) flows is_text in
    let same : line ≡ (at, amount, flow_lines (suc at) left ++ (codes "crossings " ++ tail)) = cc in
    rw same (record {
      done = done ++ amount ∷ [];
      left = left;
      at = suc at;
      here = omega (arith, length_push done amount);
      all = rw append_assoc all;
      flow = rw (is_flow, append_assoc) (set_at done (pos 0) (zeros left) amount at here);
      text = refl;
      small = All-tail (λ (amount : ℤ). nat_abs amount ≤ 2147483647) amount left small;
    })

-- by recursion on what is left: the line is that of the first edge over which something flows
step : (other : List ℤ) (tail text : List ℕ) (flow : List ℤ) (line : ℕ × ℤ × List ℕ) (left done : List ℤ) (at : ℕ) → length done ≡ at
    → at + length left < 2 ^ 64
    → done ++ left ≡ other → flow ≡ done ++ zeros left → text ≡ flow_lines at left ++ (codes "crossings " ++ tail)
    → All (λ amount. nat_abs amount ≤ 2147483647) left → line_at text ≡ Some line → LinesLeft other tail (set flow line.0 line.1) line.2
step other tail text flow line [] done at here low all is_flow is_text small is_line =
    let none : line_at text ≡ None = ap line_at is_text ∙ no_line tail in absurd (cc)
step other tail text flow line (pos zero ∷ left) done at here low all is_flow is_text small is_line =
    step other tail text flow line left (done ++ pos 0 ∷ []) (suc at) (omega (arith, length_push done (pos 0))) (omega arith)
    (rw append_assoc all) (rw append_assoc is_flow) is_text
    (All-tail (λ (amount : ℤ). nat_abs amount ≤ 2147483647) (pos 0) left small) is_line
step other tail text flow line (pos (suc n) ∷ left) done at here low all is_flow is_text small is_line =
    taken other tail text flow line (pos (suc n)) left done at here (omega arith) all is_flow is_text small (grind (arith, nat_tests)) is_line
step other tail text flow line (negsuc n ∷ left) done at here low all is_flow is_text small is_line =
    taken other tail text flow line (negsuc n) left done at here (omega arith) all is_flow is_text small (grind (arith, nat_tests)) is_line

-- one line more is read; what flows over the edges before its edge is 0
pub lines_step : (other : List ℤ) (tail text : List ℕ) (flow : List ℤ) (line : ℕ × ℤ × List ℕ) → length other < 2 ^ 64
    → LinesLeft other tail flow text
    → line_at text ≡ Some line → LinesLeft other tail (set flow line.0 line.1) line.2
lines_step other tail text flow line low now is_line =
    step other tail text flow line now.left now.done now.at now.here
    (let long = ap length now.all in omega (arith, length-append now.done now.left)) now.all now.flow now.text now.small is_line

-- the same, if no line stands next
finish : (other : List ℤ) (tail text : List ℕ) (flow left done : List ℤ) (at : ℕ) → length done ≡ at → at + length left < 2 ^ 64
    → done ++ left ≡ other → flow ≡ done ++ zeros left → text ≡ flow_lines at left ++ (codes "crossings " ++ tail)
    → All (λ amount. nat_abs amount ≤ 2147483647) left → line_at text ≡ None → flow ≡ other
finish other tail text flow [] done at here low all is_flow is_text small none = is_flow ∙ all
finish other tail text flow (pos zero ∷ left) done at here low all is_flow is_text small none =
    finish other tail text flow left (done ++ pos 0 ∷ []) (suc at) (omega (arith, length_push done (pos 0))) (omega arith)
    (rw append_assoc all) (rw append_assoc is_flow) is_text
    (All-tail (λ (amount : ℤ). nat_abs amount ≤ 2147483647) (pos 0) left small) none
finish other tail text flow (pos (suc n) ∷ left) done at here low all is_flow is_text small none =
    let next =
    next_line at (pos (suc n)) left tail text (omega arith)
    (All-head (λ (amount : ℤ). nat_abs amount ≤ 2147483647) (pos (suc n)) left small) (grind (arith, nat_tests)) is_text in
    absurd (cc)
finish other tail text flow (negsuc n ∷ left) done at here low all is_flow is_text small none =
    let next =
    next_line at (negsuc n) left tail text (omega arith) (All-head (λ (amount : ℤ). nat_abs amount ≤ 2147483647) (negsuc n) left small)
    (grind (arith, nat_tests)) is_text in
    absurd (cc)

-- if no line stands next, nothing flows over the edges that are left
pub lines_end : (other : List ℤ) (tail text : List ℕ) (flow : List ℤ) → length other < 2 ^ 64 → LinesLeft other tail flow text
    → line_at text ≡ None → flow ≡ other
lines_end other tail text flow low now none =
    finish other tail text flow now.left now.done now.at now.here
    (let long = ap length now.all in omega (arith, length-append now.done now.left)) now.all now.flow now.text now.small none
