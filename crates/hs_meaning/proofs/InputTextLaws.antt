-- What the readers of an input's text need of its definitions.
use Rattle.std.proofs.Common.{◌≡◌, ℕ, ◌==◌, ◌+◌, ◌-◌, ◌<◌, ◌≤◌, length, take, drop, get_or, Bool, false, List, [], ◌∷◌, ◌++◌, Option, Some, None, refl, arith, append_assoc, take_all, ap, sym, ◌∙◌}
use Rattle.std.specs.Prelude.{option_map}
use Rattle.std.proofs.lemmas.List.{drop_more}
use Rattle.std.proofs.lemmas.Iterator.{YieldsList}
use Rattle.std.proofs.lemmas.Iterator.Consumers.{YieldsList-at, YieldsList-turn, YieldsList-end}
use Rattle.std.proofs.lemmas.Iterator.Splits.{YieldsList-from_slice_split}
use Rattle.std.specs.Fn.{CalledAt}
use Rattle.std.specs.Iterator.{Yields}
use Rattle.std.specs.Slice.Iter.{split_rest, split_done, split_callee, split_steps}
use Rattle.std.specs.declared.slice.Split.{Split}
use denote.Param.Members.{Mut}
use denote.Ref.{Bor}
use Rattle.hs_base.specs.Options.{◌>>=◌}
use Rattle.hs_meaning.specs.declared.input.Input.{Input}
use Rattle.hs_meaning.specs.InputTexts.{hex_byte, hex_bytes, item_of, then_line, read_from, lines}

-- one byte more is read
pub hex_bytes-more : (bytes : List ℕ) (high low byte : ℕ) (rest : List ℕ) → hex_byte high low ≡ Some byte
    → option_map (λ more. bytes ++ more) (hex_bytes (high ∷ low ∷ rest)) ≡ option_map (λ more. (bytes ++ byte ∷ []) ++ more) (hex_bytes rest)
hex_bytes-more bytes high low byte rest is = rw is (by_cases (hex_bytes rest))
  where
    by_cases : (read : Option (List ℕ))
        → option_map (λ more. bytes ++ more) (read >>= (λ more. Some (byte ∷ more))) ≡ option_map (λ more. (bytes ++ byte ∷ []) ++ more) read
    by_cases None = refl
    by_cases (Some more) = simp append_assoc

-- the same of a text that has a pair of digits
pub hex_bytes-pair : (bytes text : List ℕ) (byte : ℕ) → 2 ≤ length text → hex_byte (get_or text 0 0) (get_or text 1 0) ≡ Some byte
    → option_map (λ more. bytes ++ more) (hex_bytes text) ≡ option_map (λ more. (bytes ++ byte ∷ []) ++ more) (hex_bytes (take (length text - 2) (drop 2 text)))
hex_bytes-pair bytes [] byte pair is = absurd (omega arith)
hex_bytes-pair bytes (odd ∷ []) byte pair is = absurd (omega arith)
hex_bytes-pair bytes (high ∷ low ∷ rest) byte pair is =
    hex_bytes-more bytes high low byte rest is
    ∙ ap (λ left. option_map (λ more. (bytes ++ byte ∷ []) ++ more) (hex_bytes left)) (sym (take_all (length (high ∷ low ∷ rest) - 2) rest (omega arith)))

-- one line more is read
pub read_from-more : (number : ℕ) (input : Input) (pieces : List (List ℕ)) (at : ℕ) (line : List ℕ) → at < length pieces → line ≡ get_or pieces at line
    → read_from number input (drop at pieces) ≡ then_line number input (item_of line) (λ more. read_from (number + 1) more (drop (at + 1) pieces))
read_from-more number input pieces at line below is =
    ap (read_from number input) (drop_more pieces at line below)
    ∙ ap (λ piece. then_line number input (item_of piece) (λ more. read_from (number + 1) more (drop (at + 1) pieces))) (sym is)

-- a `for` over the pieces of the text between line feeds, which `split` made, after those lines
module _ {F : Type 0} {g : Mut F (Bor ℕ × Unit {0}) Bool} {f : F} (text : List ℕ) (split s t u : Split ℕ F) (before : List (Bor (List ℕ)))
    (yielded : Yields (split_steps g) s before t) (same : s ≡ split) (rest : split_rest split ≡ text) (done : split_done split ≡ false)
    (closure : split_callee split ≡ f) (tells : (x : ℕ) (b : Bool) (q : F) → CalledAt g f x b q → (q ≡ f) × (b ≡ (x == 10))) where
  -- it gives the lines
  gives_lines : YieldsList (split_steps g) (λ line. line.now) s (lines text)
  gives_lines = YieldsList-at same (YieldsList-from_slice_split g (λ byte. byte == 10) text rest done closure tells)

  -- it is at the next line
  pub line_turn : {r : Option (Bor (List ℕ))} {line : Bor (List ℕ)} → r ≡ Some line → split_steps g t r u
      → (length before < length (lines text)) × (line.now ≡ get_or (lines text) (length before) line.now)
  line_turn {r = r} {line = line} is step = YieldsList-turn gives_lines before t yielded r u line is step

  -- at its end, it was at each line
  pub line_end : {r : Option (Bor (List ℕ))} → r ≡ None → split_steps g t r u → length before ≡ length (lines text)
  line_end {r = r} is step = (YieldsList-end gives_lines before t yielded r u is step).1
