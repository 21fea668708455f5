-- What the readers of a script's text need of its definitions.
use Rattle.std.proofs.Common.{◌≡◌, ℕ, suc, ◌==◌, ◌+◌, ◌-◌, ◌<◌, ◌≤◌, length, replicate, drop, get_or, Bool, false, List, [], ◌∷◌, ◌++◌, Option, Some, None, refl, arith, append_assoc, ap, sym, ◌∙◌}
use Rattle.std.specs.Prelude.{not, option_map, unwrap_or}
use Rattle.std.proofs.lemmas.Bool.Decides.{nat_tests}
use Rattle.std.proofs.lemmas.List.{drop_more}
use Rattle.std.proofs.lemmas.List.Sums.{prefix_len-le-length}
use Rattle.std.proofs.lemmas.Iterator.{YieldsList}
use Rattle.std.proofs.lemmas.Iterator.Consumers.{YieldsList-at, YieldsList-turn, YieldsList-end}
use Rattle.std.proofs.lemmas.Iterator.Splits.{YieldsList-from_slice_split}
use Rattle.std.specs.Fn.{CalledAt}
use Rattle.std.specs.Iterator.{Yields}
use Rattle.std.specs.List.{position, position_or_len, slice_split}
use Rattle.std.specs.Slice.Iter.{split_rest, split_done, split_callee, split_steps}
use Rattle.std.specs.declared.slice.Split.{Split}
use denote.Param.Members.{Mut}
use denote.Ref.{Bor}
use Rattle.hs_base.specs.Options.{◌>>=◌}
use Rattle.hs_meaning.specs.InputTexts.{number_in}
use Rattle.hs_movers.specs.ScriptTexts.{Read, added, item_of, numbers_in, read_from, then_line}

-- the place of a byte, or the end
pub place_or_end : {A : Type 0} (test : A → Bool) (items : List A) → unwrap_or (position test items) (length items) ≡ position_or_len test items
place_or_end test items = let inside = prefix_len-le-length (λ item. not (test item)) items in grind (arith, nat_tests)

-- it is not past the end
pub place_inside : {A : Type 0} (test : A → Bool) (items : List A) → position_or_len test items ≤ length items
place_inside test items = prefix_len-le-length (λ item. not (test item)) items

-- one more of so many
pub replicate_one : {A : Type 0} (count done : ℕ) (item : A) → done < count → replicate (count - done) item ≡ item ∷ replicate (count - (done + 1)) item
replicate_one count done item below =
    let left : count - done ≡ suc (count - (done + 1)) = omega arith in ap (λ (n : ℕ). replicate n item) left

-- one number more is read
pub numbers_in-more : (numbers : List ℕ) (pieces : List (List ℕ)) (at : ℕ) (piece : List ℕ) (number : ℕ) → at < length pieces → piece ≡ get_or pieces at piece
    → number_in 1 4294967295 piece ≡ Some number
    → option_map (λ more. numbers ++ more) (numbers_in (drop at pieces))
    ≡ option_map (λ more. (numbers ++ number ∷ []) ++ more) (numbers_in (drop (at + 1) pieces))
numbers_in-more numbers pieces at piece number below is reads =
    ap (λ left. option_map (λ more. numbers ++ more) (numbers_in left)) (drop_more pieces at piece below)
    ∙ rw (← is, reads) (by_cases (numbers_in (drop (at + 1) pieces)))
  where
    by_cases : (read : Option (List ℕ))
        → option_map (λ more. numbers ++ more) (read >>= (λ more. Some (number ∷ more))) ≡ option_map (λ more. (numbers ++ number ∷ []) ++ more) read
    by_cases None = refl
    by_cases (Some more) = simp append_assoc

-- a piece that is no number refuses those that are left
pub numbers_in-none : (pieces : List (List ℕ)) (at : ℕ) (piece : List ℕ) → at < length pieces → piece ≡ get_or pieces at piece
    → number_in 1 4294967295 piece ≡ None → numbers_in (drop at pieces) ≡ None
numbers_in-none pieces at piece below is none = ap numbers_in (drop_more pieces at piece below) ∙ rw (← is, none) refl

-- one line more is read
pub read_from-more : (number : ℕ) (read : Read) (pieces : List (List ℕ)) (at : ℕ) (line : List ℕ) → at < length pieces → line ≡ get_or pieces at line
    → read_from number read (drop at pieces)
    ≡ then_line number (item_of line >>= added read) (λ more. read_from (number + 1) more (drop (at + 1) pieces))
read_from-more number read pieces at line below is =
    ap (read_from number read) (drop_more pieces at line below)
    ∙ ap (λ piece. then_line number (item_of piece >>= added read) (λ more. read_from (number + 1) more (drop (at + 1) pieces))) (sym is)

-- a `for` over the pieces of the text between bytes of that value, which `split` made, after those pieces
module _ {F : Type 0} {g : Mut F (Bor ℕ × Unit {0}) Bool} {f : F} (stop : ℕ) (text : List ℕ) (split s t u : Split ℕ F) (before : List (Bor (List ℕ)))
    (yielded : Yields (split_steps g) s before t) (same : s ≡ split) (rest : split_rest split ≡ text) (done : split_done split ≡ false)
    (closure : split_callee split ≡ f) (tells : (x : ℕ) (b : Bool) (q : F) → CalledAt g f x b q → (q ≡ f) × (b ≡ (x == stop))) where
  abbrev pieces : List (List ℕ)
  pieces = slice_split (λ byte. byte == stop) text

  -- it gives the pieces
  gives_pieces : YieldsList (split_steps g) (λ piece. piece.now) s pieces
  gives_pieces = YieldsList-at same (YieldsList-from_slice_split g (λ byte. byte == stop) text rest done closure tells)

  -- it is at the next piece
  pub piece_turn : {r : Option (Bor (List ℕ))} {piece : Bor (List ℕ)} → r ≡ Some piece → split_steps g t r u
      → (length before < length pieces) × (piece.now ≡ get_or pieces (length before) piece.now)
  piece_turn {r = r} {piece = piece} is step = YieldsList-turn gives_pieces before t yielded r u piece is step

  -- at its end, it was at each piece
  pub piece_end : {r : Option (Bor (List ℕ))} → r ≡ None → split_steps g t r u → length before ≡ length pieces
  piece_end {r = r} is step = (YieldsList-end gives_pieces before t yielded r u is step).1
