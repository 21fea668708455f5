-- Code after code is a step after a step: laws of `Emitting.antt`.
--     passes                                  operations at the end, and then a step with them
--     after_ops ops its                       the number of what follows code is how many operations there are with it
--     operand_emitted, sequence_emitted       one piece of code after another
--     chosen_emitted, conjoined_emitted, or_emitted, answered_emitted    branches, with jumps whose targets are put in later
--     bind_same, bind_twice                   steps after steps
--     emits_of                                what an answer says of a step with code, it says of the code
use Rattle.std.proofs.Common.{◌≡◌, ◌≤◌, ◌<◌, ◌+◌, ℕ, suc, true, false, List, [], ◌∷◌, ◌++◌, length, Option, Some, None, refl, arith, sym, ◌∙◌, ap, ◌⊎◌, inl, inr, if◌then◌else◌}
use Rattle.std.specs.Prelude.{slice_set, Result, Ok, Err}
use Rattle.std.proofs.Math.Dec.{leb}
use Rattle.std.proofs.Math.Numerals.{add-one}
use Rattle.std.proofs.Math.Seq.{set-append_seam}
use Rattle.std.proofs.lemmas.Bool.Decides.{leb_tells}
use Rattle.std.proofs.lemmas.List.{append_assoc, length-append, length-set}
use Rattle.hs_code.specs.declared.function_code.Placed.{Placed}
use Rattle.hs_code.specs.declared.op.Op.TheVariants as op
use Rattle.hs_lowering.specs.Lowering.{Lowered, after, operand, sequence, only, placed, branches, chosen, both_hold, conjoined, answered}
use Rattle.hs_lowering.specs.Performing.{after_length}
use Rattle.hs_tree.specs.declared.head.Head.{Head}
use Rattle.hs_lower_expressions.specs.declared.emit_end.EmitEnd.{EmitEnd}
use Rattle.hs_lower_expressions.specs.declared.emit_end.EmitEnd.TheVariants.{Limit, NoMemory}
use Rattle.hs_lower_expressions.specs.Emits.{Emits, most_ops}
use Rattle.hs_lower_expressions.specs.Emitting.{limited, ◌>>=◌, emitted, Emitted, pushed, patched, turned, answered_there, both_ended, either_begun, either_ended}

pub passes : (a : List Placed) (next : List Placed → Option (List Placed)) (whole : List Placed)
    → length a ≤ length whole → (length a ≤ most_ops → limited whole ≡ next a) → limited whole ≡ (limited a >>= next)
passes a next whole within step = by (leb_tells (length a) most_ops)
  where
    too_long : ((leb (length whole) most_ops ≡ true) × (length whole ≤ most_ops)) ⊎ ((leb (length whole) most_ops ≡ false) × (most_ops < length whole))
        → most_ops < length a → limited whole ≡ None
    too_long (inl fits) long = absurd (omega arith)
    too_long (inr past) long = ap (λ it. if it then Some whole else None) past.0

    by : ((leb (length a) most_ops ≡ true) × (length a ≤ most_ops)) ⊎ ((leb (length a) most_ops ≡ false) × (most_ops < length a))
        → limited whole ≡ (limited a >>= next)
    by (inl fits) = step fits.1 ∙ sym (ap (λ it. (if it then Some a else None) >>= next) fits.0)
    by (inr past) = too_long (leb_tells (length whole) most_ops) past.1 ∙ sym (ap (λ it. (if it then Some a else None) >>= next) past.0)

-- two values more
pub two_more : (depth : ℕ) → (depth + 1) + 1 ≡ depth + 2
two_more depth = omega arith

pub after_ops : (ops its : List Placed) → after (length ops) its ≡ length (ops ++ its)
after_ops ops its = after_length (length ops) its ∙ sym (length-append ops its)

-- code, and then what depends on where it ends
pub then_emitted : (ops first : List Placed) (rest : ℕ → List Placed)
    → limited (ops ++ (first ++ rest (after (length ops) first))) ≡ (limited (ops ++ first) >>= (λ mid. limited (mid ++ rest (length mid))))
then_emitted ops first rest =
    let whole = ops ++ (first ++ rest (after (length ops) first)) in
    let parts : whole ≡ (ops ++ first) ++ rest (length (ops ++ first)) =
    ap (λ n. ops ++ (first ++ rest n)) (after_ops ops first) ∙ sym (append_assoc ops first _) in
    passes (ops ++ first) (λ mid. limited (mid ++ rest (length mid))) whole
    (omega (arith, length-append (ops ++ first) (rest (length (ops ++ first))), ap length parts)) (λ fits. ap limited parts)

pub operand_emitted : (first second : Lowered) (depth : ℕ) (ops : List Placed)
    → emitted (operand first second) depth ops ≡ (emitted first depth ops >>= (λ mid. emitted second (depth + 1) mid))
operand_emitted first second depth ops =
    then_emitted ops (first (length ops) depth) (λ n. second n (suc depth))
    ∙ ap (λ above. emitted first depth ops >>= (λ mid. emitted second above mid)) (sym (add-one depth))

pub sequence_emitted : (first second : Lowered) (depth : ℕ) (ops : List Placed)
    → emitted (sequence first second) depth ops ≡ (emitted first depth ops >>= (λ mid. emitted second depth mid))
sequence_emitted first second depth ops = then_emitted ops (first (length ops) depth) (λ n. second n depth)

-- ---- steps

pub bind_same : (x : Option (List Placed)) (f g : List Placed → Option (List Placed)) → ((ops : List Placed) → f ops ≡ g ops) → (x >>= f) ≡ (x >>= g)
bind_same None f g same = refl
bind_same (Some ops) f g same = same ops

pub bind_twice : (x : Option (List Placed)) (f g : List Placed → Option (List Placed)) → ((x >>= f) >>= g) ≡ (x >>= (λ ops. f ops >>= g))
bind_twice None f g = refl
bind_twice (Some ops) f g = refl

pub fits_limited : (its : List Placed) → length its ≤ most_ops → limited its ≡ Some its
fits_limited its within = by (leb_tells (length its) most_ops)
  where
    by : ((leb (length its) most_ops ≡ true) × (length its ≤ most_ops)) ⊎ ((leb (length its) most_ops ≡ false) × (most_ops < length its))
        → limited its ≡ Some its
    by (inl fits) = ap (λ it. if it then Some its else None) fits.0
    by (inr past) = absurd (omega arith)

-- ---- answers

-- What an answer says of a step with some code, it says of the code.
pub emits_of : {A : Type 0} (old new code : List Placed) (result : Result A EmitEnd) → Emitted (limited (old ++ code)) new result → Emits result old new code
emits_of old new code (Err NoMemory) is = tt
emits_of old new code (Ok it) is = by (leb_tells (length (old ++ code)) most_ops)
  where
    by : ((leb (length (old ++ code)) most_ops ≡ true) × (length (old ++ code) ≤ most_ops))
        ⊎ ((leb (length (old ++ code)) most_ops ≡ false) × (most_ops < length (old ++ code))) → new ≡ old ++ code
    by (inl fits) = let same : Some (old ++ code) ≡ Some new = sym (ap (λ it. if it then Some (old ++ code) else None) fits.0) ∙ is in cc
    by (inr past) = let same : None ≡ Some new = sym (ap (λ it. if it then Some (old ++ code) else None) past.0) ∙ is in absurd (cc)
emits_of old new code (Err Limit) is = by (leb_tells (length (old ++ code)) most_ops)
  where
    by : ((leb (length (old ++ code)) most_ops ≡ true) × (length (old ++ code) ≤ most_ops))
        ⊎ ((leb (length (old ++ code)) most_ops ≡ false) × (most_ops < length (old ++ code))) → most_ops < length old + length code
    by (inl fits) = let same : Some (old ++ code) ≡ None = sym (ap (λ it. if it then Some (old ++ code) else None) fits.0) ∙ is in absurd (cc)
    by (inr past) = omega (arith, length-append old code)

-- ---- patches

length_one : (ops : List Placed) (it : Placed) → length (ops ++ (it ∷ [])) ≡ suc (length ops)
length_one ops it = length-append ops (it ∷ []) ∙ omega arith

-- the operation after `ops` is replaced
patch_one : (ops rest : List Placed) (it new : Placed) → slice_set ((ops ++ (it ∷ [])) ++ rest) (length ops) new ≡ ops ++ (new ∷ rest)
patch_one ops rest it new = ap (λ all. slice_set all (length ops) new) (append_assoc ops (it ∷ []) rest) ∙ set-append_seam ops it rest new

-- both jumps of a choice are
patch_two : (ops first second : List Placed) (a a' b b' : Placed)
    → slice_set (slice_set (((ops ++ (a ∷ [])) ++ first) ++ (b ∷ [])) (length ops) a' ++ second) (length ((ops ++ (a ∷ [])) ++ first)) b'
    ≡ ops ++ (a' ∷ (first ++ (b' ∷ second)))
patch_two ops first second a a' b b' =
    let inner : slice_set (((ops ++ (a ∷ [])) ++ first) ++ (b ∷ [])) (length ops) a' ≡ (ops ++ (a' ∷ first)) ++ (b ∷ []) =
    ap (λ all. slice_set all (length ops) a') (append_assoc (ops ++ (a ∷ [])) first (b ∷ []))
    ∙ patch_one ops (first ++ (b ∷ [])) a a' ∙ sym (append_assoc ops (a' ∷ first) (b ∷ [])) in
    let long : length ((ops ++ (a ∷ [])) ++ first) ≡ length (ops ++ (a' ∷ first)) =
    omega (arith, length-append (ops ++ (a ∷ [])) first, length_one ops a, length-append ops (a' ∷ first)) in
    ap (λ all. slice_set (all ++ second) (length ((ops ++ (a ∷ [])) ++ first)) b') inner
    ∙ ap (λ n. slice_set (((ops ++ (a' ∷ first)) ++ (b ∷ [])) ++ second) n b') long
    ∙ patch_one (ops ++ (a' ∷ first)) second b b'
    ∙ append_assoc ops (a' ∷ first) (b' ∷ second)

-- ---- branches

module _ (piece : ℕ) (head : Head) (depth : ℕ) where
  -- the steps of a choice, after the test
  abbrev pub branched : Lowered → Lowered → List Placed → Option (List Placed)
  branched first second tested =
      pushed piece head (op.Zero 0) (depth + 1) tested
      >>= (λ opened. emitted first depth opened
      >>= (λ mid. turned piece head (length tested) depth mid
      >>= (λ between. emitted second depth between
      >>= (λ last. Some (patched piece head (length mid) (op.Jump (length last)) (depth + 1) last)))))

  pub branches_emitted : (first second : Lowered) (m : List Placed)
      → limited (m ++ branches piece head (length m) depth (first (suc (length m)) depth) second) ≡ branched first second m
  unfolding pushed turned
  branches_emitted first second m =
      let opened = m ++ (placed piece head (op.Zero 0) (depth + 1) ∷ []) in
      let mid = opened ++ first (length opened) depth in
      let jumped = mid ++ (placed piece head (op.Jump 0) (depth + 1) ∷ []) in
      let between = patched piece head (length m) (op.Zero (length jumped)) (depth + 1) jumped in
      let last = between ++ second (length between) depth in
      let final = patched piece head (length mid) (op.Jump (length last)) (depth + 1) last in
      let whole = m ++ branches piece head (length m) depth (first (suc (length m)) depth) second in
      let shape : ℕ → ℕ → ℕ → ℕ → ℕ → List Placed =
      λ from a at e above. m ++ (placed piece head (op.Zero a) above ∷ (first from depth ++ (placed piece head (op.Jump e) above ∷ second at depth))) in
      let one : suc (length m) ≡ length opened = sym (length_one m _) in
      let two : suc (after (suc (length m)) (first (suc (length m)) depth)) ≡ length jumped =
      ap (λ k. suc (after k (first k depth))) one ∙ ap (λ k. suc k) (after_ops opened (first (length opened) depth)) ∙ sym (length_one mid _) in
      let three : length jumped ≡ length between = sym (length-set jumped (length m) _) in
      let four : (z : ℕ) → z ≡ length between → after z (second z depth) ≡ length last =
      λ z is. ap (λ k. after k (second k depth)) is ∙ after_ops between (second (length between) depth) in
      let z = suc (after (suc (length m)) (first (suc (length m)) depth)) in
      let same : whole ≡ final =
      ap (λ above. shape (suc (length m)) z z (after z (second z depth)) above) (sym (add-one depth))
      ∙ ap (λ e. shape (suc (length m)) z z e (depth + 1)) (four z (two ∙ three))
      ∙ ap (λ at. shape (suc (length m)) z at (length last) (depth + 1)) (two ∙ three)
      ∙ ap (λ a. shape (suc (length m)) a (length between) (length last) (depth + 1)) two
      ∙ ap (λ from. shape from (length jumped) (length between) (length last) (depth + 1)) one
      ∙ sym (patch_two m (first (length opened) depth) (second (length between) depth) _ _ _ _) in
      let long : length whole ≡ length last = ap length same ∙ length-set last (length mid) _ in
      let step4 : length last ≤ most_ops → limited whole ≡ Some final =
      λ fits. ap limited same ∙ fits_limited final (omega (arith, length-set last (length mid) (placed piece head (op.Jump (length last)) (depth + 1)))) in
      let more : length last ≡ length between + length (second (length between) depth) = length-append between _ in
      let before : length jumped ≡ suc (length mid) = length_one mid _ in
      let begun : length mid ≡ length opened + length (first (length opened) depth) = length-append opened _ in
      let step3 : length jumped ≤ most_ops → limited whole ≡ (emitted second depth between
      >>= (λ last. Some (patched piece head (length mid) (op.Jump (length last)) (depth + 1) last))) =
      λ fits. passes last (λ last. Some (patched piece head (length mid) (op.Jump (length last)) (depth + 1) last)) whole (omega arith) step4 in
      let step2 : length mid ≤ most_ops → limited whole ≡ (turned piece head (length m) depth mid
      >>= (λ between. emitted second depth between >>= (λ last. Some (patched piece head (length mid) (op.Jump (length last)) (depth + 1) last)))) =
      λ fits. passes jumped (λ mid'. emitted second depth (patched piece head (length m) (op.Zero (length mid')) (depth + 1) mid')
      >>= (λ last. Some (patched piece head (length mid) (op.Jump (length last)) (depth + 1) last))) whole (omega arith) step3
      ∙ sym (bind_twice (limited jumped) _ _) in
      passes opened (λ opened. emitted first depth opened
      >>= (λ mid. turned piece head (length m) depth mid
      >>= (λ between. emitted second depth between
      >>= (λ last. Some (patched piece head (length mid) (op.Jump (length last)) (depth + 1) last))))) whole (omega arith)
      (λ fits. passes mid (λ mid. turned piece head (length m) depth mid
      >>= (λ between. emitted second depth between
      >>= (λ last. Some (patched piece head (length mid) (op.Jump (length last)) (depth + 1) last)))) whole (omega arith) step2)

  pub chosen_emitted : (test first second : Lowered) (ops : List Placed)
      → emitted (chosen piece head test first second) depth ops ≡ (emitted test depth ops >>= branched first second)
  chosen_emitted test first second ops =
      then_emitted ops (test (length ops) depth) (λ n. branches piece head n depth (first (suc n) depth) second)
      ∙ bind_same (emitted test depth ops) _ _ (branches_emitted first second)

  -- ---- numbers of a test

  -- 1 or 0, after the number that is tested
  abbrev tail : ℕ → ℕ → ℕ → List Placed
  tail zero_to jump_to above =
      placed piece head (op.Zero zero_to) above
      ∷ placed piece head (op.Num 1) depth
      ∷ placed piece head (op.Jump jump_to) above
      ∷ placed piece head (op.Num 0) depth
      ∷ []

  pub answered_there_emitted : (m : List Placed) → answered_there piece head depth m ≡ limited (m ++ tail (length m + 3) (length m + 4) (depth + 1))
  unfolding answered_there pushed
  answered_there_emitted m =
      let zero_it = placed piece head (op.Zero (length m + 3)) (depth + 1) in
      let one_it = placed piece head (op.Num 1) depth in
      let jump_it = placed piece head (op.Jump (length m + 4)) (depth + 1) in
      let last_it = placed piece head (op.Num 0) depth in
      let whole = m ++ (zero_it ∷ one_it ∷ jump_it ∷ last_it ∷ []) in
      let a = m ++ (zero_it ∷ []) in
      let b = a ++ (one_it ∷ []) in
      let d = b ++ (jump_it ∷ []) in
      let e = d ++ (last_it ∷ []) in
      let b-is : b ≡ m ++ (zero_it ∷ one_it ∷ []) = append_assoc m (zero_it ∷ []) (one_it ∷ []) in
      let d-is : d ≡ m ++ (zero_it ∷ one_it ∷ jump_it ∷ []) =
      ap (λ its. its ++ (jump_it ∷ [])) b-is ∙ append_assoc m (zero_it ∷ one_it ∷ []) (jump_it ∷ []) in
      let e-is : e ≡ whole = ap (λ its. its ++ (last_it ∷ [])) d-is ∙ append_assoc m (zero_it ∷ one_it ∷ jump_it ∷ []) (last_it ∷ []) in
      let a-long : length a ≡ suc (length m) = length_one m zero_it in
      let b-long : length b ≡ suc (length a) = length_one a one_it in
      let d-long : length d ≡ suc (length b) = length_one b jump_it in
      let e-long : length e ≡ suc (length d) = length_one d last_it in
      let long : length e ≡ length whole = ap length e-is in
      let next3 : List Placed → Option (List Placed) = λ between. limited (between ++ (last_it ∷ [])) in
      let next2 : List Placed → Option (List Placed) = λ one. limited (one ++ (jump_it ∷ [])) >>= next3 in
      let next1 : List Placed → Option (List Placed) = λ tested. limited (tested ++ (one_it ∷ [])) >>= next2 in
      sym (passes a next1 whole (omega arith)
      (λ fits. passes b next2 whole (omega arith) (λ fits. passes d next3 whole (omega arith) (λ fits. ap limited (sym e-is)))))

  pub either_begun_emitted : (m : List Placed)
      → either_begun piece head depth m
      ≡ limited (m ++ (placed piece head (op.Zero (length m + 3)) (depth + 1) ∷ placed piece head (op.Num 1) depth
      ∷ placed piece head (op.Jump 0) (depth + 1) ∷ []))
  unfolding either_begun pushed
  either_begun_emitted m =
      let zero_it = placed piece head (op.Zero (length m + 3)) (depth + 1) in
      let one_it = placed piece head (op.Num 1) depth in
      let jump_it = placed piece head (op.Jump 0) (depth + 1) in
      let whole = m ++ (zero_it ∷ one_it ∷ jump_it ∷ []) in
      let a = m ++ (zero_it ∷ []) in
      let b = a ++ (one_it ∷ []) in
      let d = b ++ (jump_it ∷ []) in
      let b-is : b ≡ m ++ (zero_it ∷ one_it ∷ []) = append_assoc m (zero_it ∷ []) (one_it ∷ []) in
      let d-is : d ≡ whole = ap (λ its. its ++ (jump_it ∷ [])) b-is ∙ append_assoc m (zero_it ∷ one_it ∷ []) (jump_it ∷ []) in
      let a-long : length a ≡ suc (length m) = length_one m zero_it in
      let b-long : length b ≡ suc (length a) = length_one a one_it in
      let d-long : length d ≡ suc (length b) = length_one b jump_it in
      let long : length d ≡ length whole = ap length d-is in
      let next2 : List Placed → Option (List Placed) = λ one. limited (one ++ (jump_it ∷ [])) in
      let next1 : List Placed → Option (List Placed) = λ tested. limited (tested ++ (one_it ∷ [])) >>= next2 in
      sym (passes a next1 whole (omega arith) (λ fits. passes b next2 whole (omega arith) (λ fits. ap limited (sym d-is))))

  pub answered_emitted : (test : Lowered) (ops : List Placed)
      → emitted (answered piece head test) depth ops ≡ (emitted test depth ops >>= (λ mid. answered_there piece head depth mid))
  answered_emitted test ops =
      let there : (m : List Placed)
      → limited (m ++ branches piece head (length m) depth (only piece head (op.Num 1) (suc (length m)) depth) (only piece head (op.Num 0)))
      ≡ answered_there piece head depth m =
      λ m. let three : suc (suc (suc (length m))) ≡ length m + 3 = omega arith in
      let four : suc (suc (suc (suc (length m)))) ≡ length m + 4 = omega arith in
      ap (λ above. limited (m ++ tail (suc (suc (suc (length m)))) (suc (suc (suc (suc (length m))))) above)) (sym (add-one depth))
      ∙ ap (λ z. limited (m ++ tail z (suc (suc (suc (suc (length m))))) (depth + 1))) three
      ∙ ap (λ e. limited (m ++ tail (length m + 3) e (depth + 1))) four
      ∙ sym (answered_there_emitted m) in
      then_emitted ops (test (length ops) depth) (λ n. branches piece head n depth (only piece head (op.Num 1) (suc n) depth) (only piece head (op.Num 0)))
      ∙ bind_same (emitted test depth ops) _ _ there

  -- the steps of `a || b`, after a
  abbrev pub eithers : Lowered → List Placed → Option (List Placed)
  eithers second tested =
      either_begun piece head depth tested
      >>= (λ mid. emitted second depth mid >>= (λ last. either_ended piece head (length tested + 2) depth last))

  pub either_emitted : (second : Lowered) (m : List Placed)
      → limited (m ++ branches piece head (length m) depth (only piece head (op.Num 1) (suc (length m)) depth) (answered piece head second)) ≡ eithers second m
  unfolding either_ended
  either_emitted second m =
      let zero_it = placed piece head (op.Zero (length m + 3)) (depth + 1) in
      let one_it = placed piece head (op.Num 1) depth in
      let jump_it : ℕ → Placed = λ e. placed piece head (op.Jump e) (depth + 1) in
      let begun = m ++ (zero_it ∷ one_it ∷ jump_it 0 ∷ []) in
      let z = suc (suc (suc (length m))) in
      let rest : ℕ → List Placed = λ at. answered piece head second at depth in
      let last = begun ++ rest (length begun) in
      let whole = m ++ branches piece head (length m) depth (only piece head (op.Num 1) (suc (length m)) depth) (answered piece head second) in
      let final = patched piece head (length m + 2) (op.Jump (length last)) (depth + 1) last in
      let shape : ℕ → ℕ → ℕ → ℕ → List Placed =
      λ a at e above. m ++ (placed piece head (op.Zero a) above ∷ one_it ∷ placed piece head (op.Jump e) above ∷ rest at) in
      let begun-long : length begun ≡ z = length-append m _ ∙ omega arith in
      let three : z ≡ length m + 3 = omega arith in
      let ends : (at : ℕ) → at ≡ length begun → after at (rest at) ≡ length last =
      λ at is. ap (λ k. after k (rest k)) is ∙ after_ops begun (rest (length begun)) in
      let front : begun ≡ (m ++ (zero_it ∷ one_it ∷ [])) ++ (jump_it 0 ∷ []) = sym (append_assoc m (zero_it ∷ one_it ∷ []) (jump_it 0 ∷ [])) in
      let place : length m + 2 ≡ length (m ++ (zero_it ∷ one_it ∷ [])) = sym (length-append m (zero_it ∷ one_it ∷ [])) in
      let final-is : final ≡ shape (length m + 3) (length begun) (length last) (depth + 1) =
      ap (λ its. slice_set (its ++ rest (length begun)) (length m + 2) (jump_it (length last))) front
      ∙ ap (λ n. slice_set (((m ++ (zero_it ∷ one_it ∷ [])) ++ (jump_it 0 ∷ [])) ++ rest (length begun)) n (jump_it (length last))) place
      ∙ patch_one (m ++ (zero_it ∷ one_it ∷ [])) (rest (length begun)) (jump_it 0) (jump_it (length last))
      ∙ append_assoc m (zero_it ∷ one_it ∷ []) (jump_it (length last) ∷ rest (length begun)) in
      let same : whole ≡ final =
      ap (λ above. shape z z (after z (rest z)) above) (sym (add-one depth))
      ∙ ap (λ e. shape z z e (depth + 1)) (ends z (sym begun-long))
      ∙ ap (λ at. shape z at (length last) (depth + 1)) (sym begun-long)
      ∙ ap (λ a. shape a (length begun) (length last) (depth + 1)) three
      ∙ sym final-is in
      let long : length whole ≡ length last = ap length same ∙ length-set last (length m + 2) _ in
      let more : length last ≡ length begun + length (rest (length begun)) = length-append begun _ in
      let patch : List Placed → Option (List Placed) = λ last. Some (patched piece head (length m + 2) (op.Jump (length last)) (depth + 1) last) in
      let steps : limited whole ≡ (limited begun >>= (λ mid. emitted (answered piece head second) depth mid >>= patch)) =
      passes begun (λ mid. emitted (answered piece head second) depth mid >>= patch) whole (omega arith)
      (λ fits. passes last patch whole (omega arith)
      (λ fits. ap limited same ∙ fits_limited final (omega (arith, length-set last (length m + 2) (jump_it (length last)))))) in
      steps
      ∙ ap (λ x. x >>= (λ mid. emitted (answered piece head second) depth mid >>= patch)) (sym (either_begun_emitted m))
      ∙ bind_same (either_begun piece head depth m) _ _ (λ mid. ap (λ x. x >>= patch) (answered_emitted second mid)
      ∙ bind_twice (emitted second depth mid) _ patch)

  pub or_emitted : (first second : Lowered) (ops : List Placed)
      → emitted (chosen piece head first (only piece head (op.Num 1)) (answered piece head second)) depth ops
      ≡ (emitted first depth ops >>= eithers second)
  or_emitted first second ops =
      then_emitted ops (first (length ops) depth) (λ n. branches piece head n depth (only piece head (op.Num 1) (suc n) depth) (answered piece head second))
      ∙ bind_same (emitted first depth ops) _ _ (either_emitted second)

  -- the steps of `a && b`, after a
  abbrev pub boths : Lowered → List Placed → Option (List Placed)
  boths second tested =
      pushed piece head (op.Zero 0) (depth + 1) tested
      >>= (λ opened. emitted second depth opened >>= (λ mid. both_ended piece head (length tested) depth mid))

  pub both_emitted : (second : Lowered) (m : List Placed)
      → limited (m ++ both_hold piece head (length m) depth (second (suc (length m)) depth)) ≡ boths second m
  unfolding pushed both_ended
  both_emitted second m =
      let zero_it : ℕ → Placed = λ to. placed piece head (op.Zero to) (depth + 1) in
      let opened = m ++ (zero_it 0 ∷ []) in
      let code : ℕ → List Placed = λ at. second at depth in
      let mid = opened ++ code (length opened) in
      let to = length mid + 3 in
      let end_of : List Placed = tail to (length mid + 4) (depth + 1) in
      let last = mid ++ end_of in
      let final = patched piece head (length m) (op.Zero to) (depth + 1) last in
      let whole = m ++ both_hold piece head (length m) depth (second (suc (length m)) depth) in
      let shape : ℕ → ℕ → ℕ → ℕ → List Placed =
      λ at z e above. m ++ (placed piece head (op.Zero z) above ∷ (code at ++ tail z e above)) in
      let one : suc (length m) ≡ length opened = sym (length_one m _) in
      let ends : after (suc (length m)) (code (suc (length m))) ≡ length mid = ap (λ k. after k (code k)) one ∙ after_ops opened (code (length opened)) in
      let three : suc (suc (suc (after (suc (length m)) (code (suc (length m)))))) ≡ to = ap (λ n. suc (suc (suc n))) ends ∙ omega arith in
      let four : suc (suc (suc (suc (after (suc (length m)) (code (suc (length m))))))) ≡ length mid + 4 =
      ap (λ n. suc (suc (suc (suc n)))) ends ∙ omega arith in
      let z = suc (suc (suc (after (suc (length m)) (code (suc (length m)))))) in
      let final-is : final ≡ shape (length opened) to (length mid + 4) (depth + 1) =
      ap (λ its. slice_set its (length m) (zero_it to)) (append_assoc opened (code (length opened)) end_of)
      ∙ patch_one m (code (length opened) ++ end_of) (zero_it 0) (zero_it to) in
      let same : whole ≡ final =
      ap (λ above. shape (suc (length m)) z (suc z) above) (sym (add-one depth))
      ∙ ap (λ e. shape (suc (length m)) z e (depth + 1)) four
      ∙ ap (λ a. shape (suc (length m)) a (length mid + 4) (depth + 1)) three
      ∙ ap (λ at. shape at to (length mid + 4) (depth + 1)) one
      ∙ sym final-is in
      let long : length whole ≡ length last = ap length same ∙ length-set last (length m) _ in
      let more : length last ≡ length mid + length end_of = length-append mid end_of in
      let begun : length mid ≡ length opened + length (code (length opened)) = length-append opened _ in
      let patch : List Placed → Option (List Placed) = λ last. Some (patched piece head (length m) (op.Zero to) (depth + 1) last) in
      let closing : limited last >>= patch ≡ (answered_there piece head depth mid >>= patch) = ap (λ x. x >>= patch) (sym (answered_there_emitted mid)) in
      let step2 : length mid ≤ most_ops → limited whole ≡ both_ended piece head (length m) depth mid =
      λ fits. passes last patch whole (omega arith)
      (λ fits. ap limited same ∙ fits_limited final (omega (arith, length-set last (length m) (zero_it to)))) ∙ closing in
      passes opened (λ opened. emitted second depth opened >>= (λ mid. both_ended piece head (length m) depth mid)) whole (omega arith)
      (λ fits. passes mid (λ mid. both_ended piece head (length m) depth mid) whole (omega arith) step2)

  pub conjoined_emitted : (first second : Lowered) (ops : List Placed)
      → emitted (conjoined piece head first second) depth ops ≡ (emitted first depth ops >>= boths second)
  conjoined_emitted first second ops =
      then_emitted ops (first (length ops) depth) (λ n. both_hold piece head n depth (second (suc n) depth))
      ∙ bind_same (emitted first depth ops) _ _ (both_emitted second)
