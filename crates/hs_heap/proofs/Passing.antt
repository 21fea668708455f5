-- A pass over a list of numbers, one by one, changes the blocks that are named once each: a change that is made again does nothing, or the mark
-- of the block says that it was made.
use Rattle.std.proofs.Common.{◌≡◌, ◌≤◌, ◌<◌, ◌-◌, ◌+◌, ◌==◌, ℕ, zero, suc, Bool, true, false, ◌&&◌, ◌||◌, List, [], ◌∷◌, length, Option, Some, None, refl, sym, ap, subst, ◌∙◌, slice_get, slice_set, get_or, ◌⊎◌, inl, inr, if◌then◌else◌, true≢false, eqb-true, eq-eqb, arith}
use Rattle.std.specs.Prelude.{nat_le}
use Rattle.std.specs.List.{list_any}
use Rattle.std.proofs.lemmas.Bool.{ne_eqb, and_parts}
use Rattle.std.proofs.Math.Bool.{or-false, or-true}
use Rattle.std.proofs.lemmas.Bool.Decides.{nat_tests}
use Rattle.std.proofs.lemmas.List.{length-set, get_or-set_same, get_or-set_other}
use Rattle.std.proofs.lemmas.Option.{slice_get_past, slice_get_within, none-some, same_Some}
use Rattle.hs_heap.specs.Blocks.{Block}
use Rattle.hs_heap.specs.Shift.{is_loose}
use Rattle.hs_heap.specs.Passes.{purged, relocated, numbered, if_named, with_each, place_of, change_there, change_place, changed_at, has_mark, mark_place, marked_at, moved_at}
use Rattle.hs_heap.specs.declared.decision.Which.TheVariants.{These}

-- two changes, one after the other
pub numbered_twice : (f g : ℕ → Block → Block) (n : ℕ) (blocks : List Block)
    → numbered f n (numbered g n blocks) ≡ numbered (λ k block. f k (g k block)) n blocks
numbered_twice f g n [] = refl
numbered_twice f g n (block ∷ blocks) = ap (λ (its : List Block). f n (g n block) ∷ its) (numbered_twice f g (suc n) blocks)

-- changes that do the same to each block that is there
pub numbered_same : (f g : ℕ → Block → Block) (n : ℕ) (blocks : List Block)
    → ((place k : ℕ) (block : Block) → slice_get blocks place ≡ Some block → k ≡ n + place → f k block ≡ g k block)
    → numbered f n blocks ≡ numbered g n blocks
numbered_same f g n [] same = refl
numbered_same f g n (block ∷ blocks) same =
    rw (same 0 n block refl (omega arith))
    (ap (λ (its : List Block). g n block ∷ its)
    (numbered_same f g (suc n) blocks (λ place k it there is. same (suc place) k it there (omega (arith, is)))))

-- a pass that nothing permits
pub numbered_idle : (which : _) (f : Block → Block) (n : ℕ) (blocks : List Block) → numbered (if_named false which f) n blocks ≡ blocks
numbered_idle which f n [] = refl
numbered_idle which f n (block ∷ blocks) = ap (λ (its : List Block). block ∷ its) (numbered_idle which f (suc n) blocks)

-- a pass over no numbers
pub numbered_none : (f : Block → Block) (n : ℕ) (blocks : List Block) → numbered (if_named true (These []) f) n blocks ≡ blocks
numbered_none f n [] = refl
numbered_none f n (block ∷ blocks) = ap (λ (its : List Block). block ∷ its) (numbered_none f (suc n) blocks)

-- a pass leaves as many blocks
pub length_numbered : (f : ℕ → Block → Block) (n : ℕ) (blocks : List Block) → length (numbered f n blocks) ≡ length blocks
length_numbered f n [] = refl
length_numbered f n (block ∷ blocks) = ap suc (length_numbered f (suc n) blocks)

-- the change of the block of one number
abbrev at_number : ℕ → (Block → Block) → ℕ → Block → Block
at_number number f k block = if number == k then f block else block

-- no block after it has that number
numbered_past : (f : Block → Block) (number n : ℕ) (blocks : List Block) → number < n → numbered (at_number number f) n blocks ≡ blocks
numbered_past f number n [] less = refl
numbered_past f number n (block ∷ blocks) less =
    rw (ne_eqb number n (λ same. absurd (not_less number n less same)))
    (ap (λ (its : List Block). block ∷ its) (numbered_past f number (suc n) blocks (omega (arith, less))))
  where
    not_less : (a b : ℕ) → a < b → a ≡ b → ⊥
    not_less a b less same = omega (arith, less, same)

-- one block in front
behind : (f : Block → Block) (place : ℕ) (block : Block) (blocks : List Block) (found : Option Block)
    → change_there f (suc place) (block ∷ blocks) found ≡ block ∷ change_there f place blocks found
behind f place block blocks None = refl
behind f place block blocks (Some it) = refl

-- the block at a place has the number that many further
there_numbered : (f : Block → Block) (blocks : List Block) (place number n : ℕ) → number ≡ n + place
    → change_there f place blocks (slice_get blocks place) ≡ numbered (at_number number f) n blocks
there_numbered f [] place number n is = refl
there_numbered f (block ∷ blocks) zero number n is =
    rw (eq-eqb number n (omega (arith, is)))
    (ap (λ (its : List Block). f block ∷ its) (sym (numbered_past f number (suc n) blocks (omega (arith, is)))))
there_numbered f (block ∷ blocks) (suc place) number n is =
    behind f place block blocks (slice_get blocks place)
    ∙ ap (λ (its : List Block). block ∷ its) (there_numbered f blocks place number (suc n) (omega (arith, is)))
    ∙ rw (ne_eqb number n (further n place number is)) refl
  where
    further : (n place number : ℕ) → number ≡ n + suc place → number ≡ n → ⊥
    further n place number is same = omega (arith, is, same)

-- ---- the place of a number

-- a number from 1 on has the place before it
pub place_in : (place made : ℕ) → place < made → place_of (suc place) made ≡ Some place
place_in place made within = rw (both place made within) (ap Some (less place))
  where
    both : (place made : ℕ) → place < made → (nat_le 1 (suc place) && nat_le (suc place) made) ≡ true
    both place made within = grind (arith, nat_tests, within)

    less : (place : ℕ) → suc place - 1 ≡ place
    less place = omega arith

-- and if that is past the last block, it has none
place_out : (place made : ℕ) → made ≤ place → place_of (suc place) made ≡ None
place_out place made past = rw (not_both place made past) refl
  where
    not_both : (place made : ℕ) → made ≤ place → (nat_le 1 (suc place) && nat_le (suc place) made) ≡ false
    not_both place made past = grind (arith, nat_tests, past)

-- a change of one block, by its number
changed_numbered : (f : Block → Block) (number : ℕ) (blocks : List Block) → changed_at f number blocks ≡ numbered (at_number number f) 1 blocks
changed_numbered f zero blocks = sym (numbered_past f 0 1 blocks (omega arith))
changed_numbered f (suc place) blocks = go (le_total (length blocks) place)
  where
    le_total : (a b : ℕ) → (a ≤ b) ⊎ (b < a)
    le_total a b = grind arith

    go : (length blocks ≤ place) ⊎ (place < length blocks) → changed_at f (suc place) blocks ≡ numbered (at_number (suc place) f) 1 blocks
    go (inl past) =
        ap (change_place f blocks) (place_out place (length blocks) past)
        ∙ ap (change_there f place blocks) (sym (slice_get_past blocks place past))
        ∙ there_numbered f blocks place (suc place) 1 (omega arith)
    go (inr within) =
        ap (change_place f blocks) (place_in place (length blocks) within) ∙ there_numbered f blocks place (suc place) 1 (omega arith)

-- the number of a place
place_number : (number made place : ℕ) → place_of number made ≡ Some place → number ≡ suc place
place_number zero made place found = absurd (none-some place found)
place_number (suc at) made place found = go (below at made)
  where
    below : (a b : ℕ) → (b ≤ a) ⊎ (a < b)
    below a b = grind arith

    go : (made ≤ at) ⊎ (at < made) → suc at ≡ suc place
    go (inl outside) = absurd (none-some place (sym (place_out at made outside) ∙ found))
    go (inr within) = ap suc (same_Some at place (sym (place_in at made within) ∙ found))

-- a mark that is put somewhere
past_set : (marks : List ℕ) (there mark shift place : ℕ) → mark ≤ shift → ((at : ℕ) → get_or marks at 0 ≤ shift)
    → get_or (slice_set marks there mark) place 0 ≤ shift
past_set [] there mark shift place low past = past place
past_set (first ∷ marks) zero mark shift zero low past = low
past_set (first ∷ marks) zero mark shift (suc place) low past = past (suc place)
past_set (first ∷ marks) (suc there) mark shift zero low past = past zero
past_set (first ∷ marks) (suc there) mark shift (suc place) low past = past_set marks there mark shift place low (λ at. past (suc at))

-- ---- one number more

-- the number is among those that were done, or is this one
abbrev IsOneMore : ℕ → List ℕ → List ℕ → Type 0
IsOneMore number done more = (k : ℕ) → list_any (λ n. n == k) more ≡ (list_any (λ n. n == k) done || number == k)

module _ (f : Block → Block) (done more : List ℕ) (number : ℕ) (is : IsOneMore number done more) (blocks : List Block) where
  -- one block: it was changed if it was named, and it is changed if it is this one
  either : (block : Block) (named here : Bool) → ((named && here) ≡ true → f (f block) ≡ f block)
      → (if here then f (if named then f block else block) else (if named then f block else block))
      ≡ (if named || here then f block else block)
  either block true true again = again refl
  either block true false again = refl
  either block false true again = refl
  either block false false again = refl

  -- all blocks, if to change again the one that was named does nothing
  changed_more : ((place : ℕ) (block : Block) → place < length blocks → suc place ≡ number → list_any (λ n. n == number) done ≡ true
      → f (f block) ≡ f block)
      → changed_at f number (with_each true (These done) f blocks) ≡ with_each true (These more) f blocks
  changed_more again =
      changed_numbered f number (with_each true (These done) f blocks)
      ∙ numbered_twice (at_number number f) (if_named true (These done) f) 1 blocks
      ∙ numbered_same (λ k block. at_number number f k (if_named true (These done) f k block)) (if_named true (These more) f) 1 blocks
      (λ place k block found at. rw (is k) (either block (list_any (λ n. n == k) done) (number == k) (told place k block found at)))
    where
      told : (place k : ℕ) (block : Block) → slice_get blocks place ≡ Some block → k ≡ 1 + place
          → (list_any (λ n. n == k) done && number == k) ≡ true → f (f block) ≡ f block
      told place k block found at both =
          let parts = and_parts (list_any (λ n. n == k) done) (number == k) both
          in let same : number ≡ k = eqb-true number k parts.1
          in again place block (slice_get_within blocks place block found) (omega (arith, at, same))
          (subst (λ it. list_any (λ n. n == it) done ≡ true) (sym same) parts.0)

  -- a change that does nothing the second time
  pub one_more : ((block : Block) → f (f block) ≡ f block)
      → changed_at f number (with_each true (These done) f blocks) ≡ with_each true (These more) f blocks
  one_more again = changed_more (λ place block within at named. again block)

  -- the block of the number was not changed yet
  new_more : ((place : ℕ) → place < length blocks → suc place ≡ number → list_any (λ n. n == number) done ≡ false)
      → changed_at f number (with_each true (These done) f blocks) ≡ with_each true (These more) f blocks
  new_more unnamed = changed_more (λ place block within at named. absurd (true≢false (sym named ∙ unnamed place within at)))

  -- the number was among those that were done
  old_more : list_any (λ n. n == number) done ≡ true → with_each true (These done) f blocks ≡ with_each true (These more) f blocks
  old_more named =
      numbered_same (if_named true (These done) f) (if_named true (These more) f) 1 blocks
      (λ place k block found at. ap (λ (b : Bool). if b then f block else block) (same k (number == k) refl ∙ sym (is k)))
    where
      same : (k : ℕ) (here : Bool) → (number == k) ≡ here → list_any (λ n. n == k) done ≡ (list_any (λ n. n == k) done || number == k)
      same k true at =
          let there : list_any (λ n. n == k) done ≡ true = subst (λ it. list_any (λ n. n == it) done ≡ true) (eqb-true number k at) named
          in rw there refl
      same k false at = rw at (sym (or-false (list_any (λ n. n == k) done)))

-- to purge a block again does nothing
pub purged_twice : (block : Block) → purged (purged block) ≡ purged block
purged_twice block = go (is_loose block && block.purgeable) refl
  where
    go : (may : Bool) → (is_loose block && block.purgeable) ≡ may → purged (purged block) ≡ purged block
    go true is = rw is refl
    go false is = rw is (rw is refl)

-- ---- marks

-- the blocks of the numbers that were done have the mark of the shift, and no others have
pub record AreMarked (made shift : ℕ) (done marks : List ℕ) : Type 0 where
  pub long : made ≤ length marks
  pub past : (place : ℕ) → get_or marks place 0 ≤ shift
  pub told : (place : ℕ) → place < made → (get_or marks place 0 == shift) ≡ list_any (λ n. n == suc place) done

module _ (made shift : ℕ) (done more marks : List ℕ) (marked : AreMarked made shift done marks) where
  -- a block that has the mark was named
  marked_done : (number : ℕ) → has_mark shift marks (place_of number made) ≡ true → list_any (λ n. n == number) done ≡ true
  marked_done zero has = absurd (true≢false (sym has))
  marked_done (suc place) has = go (below place made)
    where
      below : (a b : ℕ) → (b ≤ a) ⊎ (a < b)
      below a b = grind arith

      go : (made ≤ place) ⊎ (place < made) → list_any (λ n. n == suc place) done ≡ true
      go (inl outside) = absurd (true≢false (sym has ∙ ap (has_mark shift marks) (place_out place made outside)))
      go (inr within) = sym (marked.told place within) ∙ ap (has_mark shift marks) (sym (place_in place made within)) ∙ has

  -- and one that has it not was not
  unmarked_new : (number : ℕ) → has_mark shift marks (place_of number made) ≡ false → (place : ℕ) → place < made → suc place ≡ number
      → list_any (λ n. n == number) done ≡ false
  unmarked_new number not_marked place within at =
      subst (λ it. list_any (λ n. n == it) done ≡ false) at
      (sym (marked.told place within) ∙ ap (has_mark shift marks) (sym (place_in place made within))
      ∙ subst (λ it. has_mark shift marks (place_of it made) ≡ false) (sym at) not_marked)

-- one number more, of a block that has the mark or has not
pub moved_more : (shift number : ℕ) (done more marks : List ℕ) (blocks : List Block) → IsOneMore number done more
    → AreMarked (length blocks) shift done marks
    → moved_at shift marks number (with_each true (These done) relocated blocks) ≡ with_each true (These more) relocated blocks
moved_more shift number done more marks blocks is marked =
    ap (λ n. if has_mark shift marks (place_of number n) then with_each true (These done) relocated blocks
    else changed_at relocated number (with_each true (These done) relocated blocks))
    (length_numbered (if_named true (These done) relocated) 1 blocks)
    ∙ go (has_mark shift marks (place_of number (length blocks))) refl
  where
    go : (has : Bool) → has_mark shift marks (place_of number (length blocks)) ≡ has
        → (if has then with_each true (These done) relocated blocks else changed_at relocated number (with_each true (These done) relocated blocks))
        ≡ with_each true (These more) relocated blocks
    go true has = old_more relocated done more number is blocks (marked_done (length blocks) shift done more marks marked number has)
    go false has = new_more relocated done more number is blocks (unmarked_new (length blocks) shift done more marks marked number has)

-- and the block has the mark then
pub marked_more : (shift number made : ℕ) (done more marks : List ℕ) → IsOneMore number done more → AreMarked made shift done marks
    → AreMarked made shift more (marked_at shift made number marks)
marked_more shift number made done more marks is marked = go (place_of number made) refl
  where
    out : (place : ℕ) → place < made → place_of number made ≡ None → (number == suc place) ≡ false
    out place within none_there =
        ne_eqb number (suc place)
        (λ same. absurd (none-some place (sym none_there ∙ ap (λ n. place_of n made) same ∙ place_in place made within)))

    at : (there place : ℕ) → place < made → place_of number made ≡ Some there → (number == suc place) ≡ (there == place)
    at there place within is_there = cases (number == suc place) refl
      where
        cases : (b : Bool) → (number == suc place) ≡ b → b ≡ (there == place)
        cases true same =
            sym (eq-eqb there place
            (sym (same_Some place there
            (sym (place_in place made within) ∙ ap (λ n. place_of n made) (sym (eqb-true number (suc place) same)) ∙ is_there))))
        cases false differs = sym (ne_eqb there place (λ same. differs_not same))
          where
            differs_not : there ≡ place → ⊥
            differs_not same = true≢false (sym (eq-eqb number (suc place) (place_number number made there is_there ∙ ap suc same)) ∙ differs)

    go : (found : Option ℕ) → place_of number made ≡ found → AreMarked made shift more (mark_place shift marks found)
    go None none_there = record {
      long = marked.long;
      past = marked.past;
      told = λ place within. marked.told place within
          ∙ sym (is (suc place) ∙ ap (λ (b : Bool). list_any (λ n. n == suc place) done || b) (out place within none_there)
          ∙ or-false (list_any (λ n. n == suc place) done));
    }
    go (Some there) is_there = record {
      long = subst (λ n. made ≤ n) (sym (length-set marks there shift)) marked.long;
      past = λ place. past_set marks there shift shift place (omega arith) marked.past;
      told = λ place within. set_told place within (there == place) refl;
    }
      where
        set_told : (place : ℕ) → place < made → (here : Bool) → (there == place) ≡ here
            → (get_or (slice_set marks there shift) place 0 == shift) ≡ list_any (λ n. n == suc place) more
        set_told place within true here =
            let same : there ≡ place = eqb-true there place here
            in let now : get_or (slice_set marks there shift) place 0 ≡ shift =
            subst (λ it. get_or (slice_set marks there shift) it 0 ≡ shift) same
            (get_or-set_same marks there shift 0 (let long = marked.long in omega (arith, long, within, same)))
            in eq-eqb (get_or (slice_set marks there shift) place 0) shift now
            ∙ sym (is (suc place) ∙ ap (λ (b : Bool). list_any (λ n. n == suc place) done || b) (at there place within is_there ∙ here)
            ∙ or-true (list_any (λ n. n == suc place) done))
        set_told place within false other =
            ap (λ n. n == shift) (get_or-set_other marks there place shift 0 (λ same. true≢false (sym (eq-eqb there place (sym same)) ∙ other)))
            ∙ marked.told place within
            ∙ sym (is (suc place) ∙ ap (λ (b : Bool). list_any (λ n. n == suc place) done || b) (at there place within is_there ∙ other)
            ∙ or-false (list_any (λ n. n == suc place) done))

-- before the first number
pub none_marked : (made shift : ℕ) (marks : List ℕ) → made ≤ length marks → ((place : ℕ) → get_or marks place 0 < shift) → AreMarked made shift [] marks
none_marked made shift marks long below =
    record {
      long = long;
      past = λ place. let low = below place in omega (arith, low);
      told = λ place within. ne_eqb (get_or marks place 0) shift (λ same. apart (get_or marks place 0) (below place) same);
    }
  where
    apart : (mark : ℕ) → mark < shift → mark ≡ shift → ⊥
    apart mark low same = absurd (omega (arith, low, same))
