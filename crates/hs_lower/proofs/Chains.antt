-- Steps after steps: laws of `Writing.antt`.
--     bind_same, bind_twice, known       steps after steps
--     passes, ends                       operations at the end, and then a step with them
--     ops_then                           operations, and then those that depend on where they end
--     part_first, part_last              operations before a part, and after it
--     repieced                           the number of pieces matters to none of them
use Rattle.std.proofs.Common.{◌≡◌, ◌≤◌, ◌<◌, ℕ, suc, Bool, true, false, List, [], ◌∷◌, ◌++◌, length, map, drop, Option, Some, None, refl, arith, sym, ◌∙◌, ap, ◌⊎◌, inl, inr, append-nil, if◌then◌else◌}
use Rattle.std.specs.Prelude.{nat_le}
use Rattle.std.proofs.Math.Dec.{leb}
use Rattle.std.proofs.Math.Seq.{take-append_seam, drop-append_seam}
use Rattle.std.proofs.lemmas.Bool.Decides.{leb_tells}
use Rattle.std.proofs.lemmas.List.{append_assoc, length-append}
use Rattle.hs_code.specs.declared.function_code.Case.{Case}
use Rattle.hs_code.specs.declared.function_code.Placed.{Placed}
use Rattle.hs_lower_expressions.specs.Aims.{aimed, aimed_from}
use Rattle.hs_lower_expressions.specs.EmittingLaws.{after_ops}
use Rattle.hs_lower_expressions.specs.Emits.{most_ops}
use Rattle.hs_lowering.specs.Lowering.{after}
use Rattle.hs_lowering.specs.Statements.{Part, Targets, ◌then◌, of_ops}
use Rattle.hs_lower.specs.Aiming.{AimsAt}
use Rattle.hs_lower.specs.Writing.{fitting, ◌>>=◌, with_ops, with_part, with_pieces}
use Rattle.hs_lower.specs.declared.text.Text.{Text}

-- ---- steps

pub bind_same : (x : Option Text) (f g : Text → Option Text) → ((text : Text) → f text ≡ g text) → (x >>= f) ≡ (x >>= g)
bind_same None f g same = refl
bind_same (Some text) f g same = same text

pub bind_twice : (x : Option Text) (f g : Text → Option Text) → ((x >>= f) >>= g) ≡ (x >>= (λ text. f text >>= g))
bind_twice None f g = refl
bind_twice (Some text) f g = refl

-- not too many
pub fits : (text : Text) → length text.ops ≤ most_ops → fitting text ≡ Some text
fits text within = by (leb_tells (length text.ops) most_ops)
  where
    by : ((leb (length text.ops) most_ops ≡ true) × (length text.ops ≤ most_ops)) ⊎ ((leb (length text.ops) most_ops ≡ false) × (most_ops < length text.ops))
        → fitting text ≡ Some text
    by (inl few) = ap (λ b. if b then Some text else None) few.0
    by (inr past) = absurd (omega arith)

pub too_many : (text : Text) → most_ops < length text.ops → fitting text ≡ None
too_many text past = by (leb_tells (length text.ops) most_ops)
  where
    by : ((leb (length text.ops) most_ops ≡ true) × (length text.ops ≤ most_ops)) ⊎ ((leb (length text.ops) most_ops ≡ false) × (most_ops < length text.ops))
        → fitting text ≡ None
    by (inl few) = absurd (omega arith)
    by (inr many) = ap (λ b. if b then Some text else None) many.0

-- a front of the whole, and then a step with it
pub passes : (front : Text) (next : Text → Option Text) (whole : Text) → length front.ops ≤ length whole.ops
    → (length front.ops ≤ most_ops → next front ≡ fitting whole) → (fitting front >>= next) ≡ fitting whole
passes front next whole within step = by (leb_tells (length front.ops) most_ops)
  where
    by : ((leb (length front.ops) most_ops ≡ true) × (length front.ops ≤ most_ops))
        ⊎ ((leb (length front.ops) most_ops ≡ false) × (most_ops < length front.ops))
        → (fitting front >>= next) ≡ fitting whole
    by (inl few) = ap (λ x. x >>= next) (fits front few.1) ∙ step few.1
    by (inr many) = ap (λ x. x >>= next) (too_many front many.1) ∙ sym (too_many whole (omega arith))

-- all operations are there, and some of them are replaced
pub ends : (last : Text) (final : Text → Text) (whole : Text) → final last ≡ whole → length last.ops ≡ length whole.ops
    → (fitting last >>= (λ text. Some (final text))) ≡ fitting whole
ends last final whole same long =
    passes last (λ text. Some (final text)) whole (omega (arith, long))
    (λ few. ap Some same ∙ sym (fits whole (omega (arith, long, few))))

-- what follows is asked of that text alone
pub known : (text : Text) (f g : Text → Option Text) → f text ≡ g text → (fitting text >>= f) ≡ (fitting text >>= g)
known text f g same = by (nat_le (length text.ops) most_ops)
  where
    by : (b : Bool) → ((if b then Some text else None) >>= f) ≡ ((if b then Some text else None) >>= g)
    by true = same
    by false = refl

-- ---- operations and parts

pub longer : (its : ℕ → List Placed) (text : Text) → length text.ops ≤ length (with_ops its text).ops
longer its text = omega (arith, length-append text.ops (its (length text.ops)))

pub longer_part : (its : Part) (text : Text) → length text.ops ≤ length (with_part its text).ops
longer_part its text = omega (arith, length-append text.ops (its (length text.ops)).ops)

-- one after the other
abbrev pub then_ops : (ℕ → List Placed) → (ℕ → List Placed) → ℕ → List Placed
then_ops f g start = f start ++ g (after start (f start))

pub same_ops : (a b : List Placed) (cases : List Case) (pieces : ℕ) → a ≡ b
    → ◌≡◌ {A = Text} (record { ops = a; cases = cases; pieces = pieces }) (record { ops = b; cases = cases; pieces = pieces })
same_ops a b cases pieces same = ap (λ ops. record { ops = ops; cases = cases; pieces = pieces }) same

joined_ops : (f g : ℕ → List Placed) (ops : List Placed) → (ops ++ f (length ops)) ++ g (length (ops ++ f (length ops))) ≡ ops ++ then_ops f g (length ops)
joined_ops f g ops =
    append_assoc ops (f (length ops)) (g (length (ops ++ f (length ops))))
    ∙ ap (λ n. ops ++ (f (length ops) ++ g n)) (sym (after_ops ops (f (length ops))))

pub ops_then : (f g : ℕ → List Placed) (text : Text)
    → (fitting (with_ops f text) >>= (λ mid. fitting (with_ops g mid))) ≡ fitting (with_ops (then_ops f g) text)
ops_then f g text =
    passes (with_ops f text) (λ mid. fitting (with_ops g mid)) (with_ops (then_ops f g) text)
    (omega (arith, ap length (joined_ops f g text.ops), longer g (with_ops f text)))
    (λ few. ap fitting (same_ops _ _ text.cases text.pieces (joined_ops f g text.ops)))

-- the number of pieces may be set later
pub repieced : (text : Text) (pieces now : ℕ) (next : Text → Option Text)
    → (fitting (with_pieces pieces text) >>= (λ mid. next (with_pieces now mid))) ≡ (fitting (with_pieces now text) >>= next)
repieced text pieces now next = by (nat_le (length text.ops) most_ops)
  where
    by : (b : Bool) → ((if b then Some (with_pieces pieces text) else None) >>= (λ mid. next (with_pieces now mid)))
        ≡ ((if b then Some (with_pieces now text) else None) >>= next)
    by true = refl
    by false = refl

-- ---- ends

-- operations after operations, and then what depends on the text between them
pub then_final : (f g : ℕ → List Placed) (text : Text) (final : Text → Text → Text)
    → (fitting (with_ops f text) >>= (λ mid. fitting (with_ops g mid) >>= (λ last. Some (final mid last))))
    ≡ (fitting (with_ops (then_ops f g) text) >>= (λ last. Some (final (with_ops f text) last)))
then_final f g text final = by (leb_tells (length (with_ops f text).ops) most_ops)
  where
    same : with_ops g (with_ops f text) ≡ with_ops (then_ops f g) text
    same = same_ops _ _ text.cases text.pieces (joined_ops f g text.ops)

    long : length (with_ops f text).ops ≤ length (with_ops (then_ops f g) text).ops
    long = omega (arith, ap length (joined_ops f g text.ops), longer g (with_ops f text))

    by : ((leb (length (with_ops f text).ops) most_ops ≡ true) × (length (with_ops f text).ops ≤ most_ops))
        ⊎ ((leb (length (with_ops f text).ops) most_ops ≡ false) × (most_ops < length (with_ops f text).ops))
        → (fitting (with_ops f text) >>= (λ mid. fitting (with_ops g mid) >>= (λ last. Some (final mid last))))
        ≡ (fitting (with_ops (then_ops f g) text) >>= (λ last. Some (final (with_ops f text) last)))
    by (inl few) =
        ap (λ x. x >>= (λ mid. fitting (with_ops g mid) >>= (λ last. Some (final mid last)))) (fits (with_ops f text) few.1)
        ∙ ap (λ its. fitting its >>= (λ last. Some (final (with_ops f text) last))) same
    by (inr many) =
        ap (λ x. x >>= (λ mid. fitting (with_ops g mid) >>= (λ last. Some (final mid last)))) (too_many (with_ops f text) many.1)
        ∙ sym (ap (λ x. x >>= (λ last. Some (final (with_ops f text) last))) (too_many (with_ops (then_ops f g) text) (omega (arith, many.1, long))))

-- two operations at the end, and then what depends on where the second one stands
pub two_ends : (x y : Placed) (text : Text) (final : ℕ → Text → Text)
    → (fitting (with_ops (λ start. x ∷ []) text)
    >>= (λ turned. fitting (with_ops (λ start. y ∷ []) turned) >>= (λ last. Some (final (length turned.ops) last))))
    ≡ (fitting (with_ops (λ start. x ∷ y ∷ []) text) >>= (λ last. Some (final (suc (length text.ops)) last)))
two_ends x y text final =
    then_final (λ start. x ∷ []) (λ start. y ∷ []) text (λ turned last. final (length turned.ops) last)
    ∙ ap (λ n. fitting (with_ops (λ start. x ∷ y ∷ []) text) >>= (λ last. Some (final n last))) (length-append text.ops (x ∷ []) ∙ omega arith)

-- and operations before them
pub three_ends : (f : ℕ → List Placed) (x y : Placed) (text : Text) (final : ℕ → Text → Text)
    → (fitting (with_ops f text)
    >>= (λ stepped. fitting (with_ops (λ start. x ∷ []) stepped)
    >>= (λ turned. fitting (with_ops (λ start. y ∷ []) turned) >>= (λ last. Some (final (length turned.ops) last)))))
    ≡ (fitting (with_ops (then_ops f (λ start. x ∷ y ∷ [])) text) >>= (λ last. Some (final (suc (length (with_ops f text).ops)) last)))
three_ends f x y text final =
    bind_same (fitting (with_ops f text)) _ _ (λ stepped. two_ends x y stepped final)
    ∙ then_final f (λ start. x ∷ y ∷ []) text (λ stepped last. final (suc (length stepped.ops)) last)

-- operations, and a part after them
pub part_behind : (f : ℕ → List Placed) (its : Part) (text : Text)
    → (fitting (with_ops f text) >>= (λ mid. fitting (with_part its mid))) ≡ fitting (with_part ((λ start. of_ops (f start)) then its) text)
part_behind f its text =
    passes (with_ops f text) (λ mid. fitting (with_part its mid)) (with_part ((λ start. of_ops (f start)) then its) text)
    (omega (arith, ap length (joined_ops f (λ n. (its n).ops) text.ops), longer_part its (with_ops f text)))
    (λ few. ap fitting (same_ops _ _ _ text.pieces (joined_ops f (λ n. (its n).ops) text.ops)
    ∙ ap (λ n. with_cases_at (its n).cases) (sym (after_ops text.ops (f (length text.ops))))))
  where
    with_cases_at : List Case → Text
    with_cases_at cases =
        record { ops = text.ops ++ then_ops f (λ n. (its n).ops) (length text.ops); cases = text.cases ++ cases; pieces = text.pieces }

-- all operations are there, and are replaced by as many, if they are not too many
pub ends_if : (last : Text) (final : Text → Text) (whole : Text) → (length last.ops ≤ most_ops → final last ≡ whole) → length last.ops ≡ length whole.ops
    → (fitting last >>= (λ text. Some (final text))) ≡ fitting whole
ends_if last final whole same long =
    passes last (λ text. Some (final text)) whole (omega (arith, long))
    (λ few. ap Some (same few) ∙ sym (fits whole (omega (arith, long, few))))

-- a front, a part after it, and an end that replaces some operations
pub in_three : (front part last : Text) (next : Text → Option Text) (end_of : Text → Option Text) (final : Text → Text) (whole : Text)
    → next front ≡ fitting part → end_of part ≡ (fitting last >>= (λ text. Some (final text))) → (length last.ops ≤ most_ops → final last ≡ whole)
    → length last.ops ≡ length whole.ops → length front.ops ≤ length part.ops → length part.ops ≤ length last.ops
    → (fitting front >>= (λ text. next text >>= end_of)) ≡ fitting whole
in_three front part last next end_of final whole goes finishes same long before behind =
    passes front (λ text. next text >>= end_of) whole (omega (arith, long, before, behind))
    (λ few. ap (λ x. x >>= end_of) goes
    ∙ passes part end_of whole (omega (arith, long, behind)) (λ fewer. finishes ∙ ends_if last final whole same long))

-- ---- aims

-- the operations in front stay
pub aimed_behind : (targets : Targets) (front ops : List Placed) → aimed_from targets (length front) (front ++ ops) ≡ front ++ map (aimed targets) ops
aimed_behind targets front ops =
    ap (λ its. its ++ map (aimed targets) (drop (length front) (front ++ ops))) (take-append_seam front ops)
    ∙ ap (λ its. front ++ map (aimed targets) its) (drop-append_seam front ops)

-- a part that was written with unknown targets, after other operations
pub aimed_part : (targets : Targets) (unaimed : Part) (its : Part) (front ops : List Placed) → AimsAt targets unaimed its (length front)
    → ops ≡ front ++ (unaimed (length front)).ops → length ops ≤ most_ops → aimed_from targets (length front) ops ≡ front ++ (its (length front)).ops
aimed_part targets unaimed its front ops is same few =
    ap (aimed_from targets (length front)) same ∙ aimed_behind targets front (unaimed (length front)).ops
    ∙ ap (λ list. front ++ list) (sym (is.aims (omega (arith, few, ap length same, after_ops front (unaimed (length front)).ops))).0)

-- and as long as the part
pub aimed_length : (targets : Targets) (unaimed : Part) (its : Part) (front ops : List Placed) → AimsAt targets unaimed its (length front)
    → ops ≡ front ++ (unaimed (length front)).ops → length ops ≡ length (front ++ (its (length front)).ops)
aimed_length targets unaimed its front ops is same =
    ap length same ∙ sym (after_ops front (unaimed (length front)).ops) ∙ sym is.long ∙ after_ops front (its (length front)).ops

-- ---- loops

-- operations, a part, and operations after it
module _ (text : Text) (front back : ℕ → List Placed) (part : Part) where
  -- where the part begins and ends
  abbrev pub begins_at : ℕ
  begins_at = after (length text.ops) (front (length text.ops))

  abbrev pub ends_at : ℕ
  ends_at = after begins_at (part begins_at).ops

  -- the text with them
  abbrev pub with_front : Text
  with_front = with_ops front text

  abbrev pub with_middle : Text
  with_middle = with_part part with_front

  abbrev pub with_back : Text
  with_back = with_ops back with_middle

  begins : length with_front.ops ≡ begins_at
  begins = sym (after_ops text.ops (front (length text.ops)))

  pub part_ends : length with_middle.ops ≡ ends_at
  part_ends = sym (after_ops with_front.ops (part (length with_front.ops)).ops) ∙ ap (λ n. after n (part n).ops) begins

  -- a part that has all of them, before and after its jumps are aimed
  module _ (unaimed its : Part) (targets : Targets)
      (shape : (unaimed (length text.ops)).ops ≡ front (length text.ops) ++ ((part begins_at).ops ++ back ends_at))
      (cases : (unaimed (length text.ops)).cases ≡ (part begins_at).cases) (is : AimsAt targets unaimed its (length text.ops)) where
    written : with_back.ops ≡ text.ops ++ (unaimed (length text.ops)).ops
    written =
        ap (λ n. with_middle.ops ++ back n) part_ends
        ∙ append_assoc with_front.ops (part (length with_front.ops)).ops (back ends_at)
        ∙ append_assoc text.ops (front (length text.ops)) ((part (length with_front.ops)).ops ++ back ends_at)
        ∙ ap (λ n. text.ops ++ (front (length text.ops) ++ ((part n).ops ++ back ends_at))) begins
        ∙ ap (λ list. text.ops ++ list) (sym shape)

    pub loop_long : length with_back.ops ≡ length (text.ops ++ (its (length text.ops)).ops)
    loop_long = aimed_length targets unaimed its text.ops with_back.ops is written

    pub loop_ops : length with_back.ops ≤ most_ops → aimed_from targets (length text.ops) with_back.ops ≡ text.ops ++ (its (length text.ops)).ops
    loop_ops few = aimed_part targets unaimed its text.ops with_back.ops is written few

    pub loop_cases : length with_back.ops ≤ most_ops → with_back.cases ≡ text.cases ++ (its (length text.ops)).cases
    loop_cases few =
        ap (λ n. text.cases ++ (part n).cases) begins
        ∙ ap (λ list. text.cases ++ list)
        (sym ((is.aims (omega (arith, few, ap length written, after_ops text.ops (unaimed (length text.ops)).ops))).1 ∙ cases))

    -- the end of the loop
    pub loop_whole : (pieces : ℕ) → length with_back.ops ≤ most_ops
        → ◌≡◌ {A = Text} (record { ops = aimed_from targets (length text.ops) with_back.ops; cases = with_back.cases; pieces = pieces })
        (record { ops = text.ops ++ (its (length text.ops)).ops; cases = text.cases ++ (its (length text.ops)).cases; pieces = pieces })
    loop_whole pieces few =
        same_ops _ _ with_back.cases pieces (loop_ops few)
        ∙ ap (λ list. record { ops = text.ops ++ (its (length text.ops)).ops; cases = list; pieces = pieces }) (loop_cases few)

-- where there are too many operations already, all steps fail
pub already : (text front whole : Text) (next : Text → Option Text) → length text.ops ≤ length front.ops → length text.ops ≤ length whole.ops
    → (length text.ops ≤ most_ops → (fitting front >>= next) ≡ fitting whole) → (fitting front >>= next) ≡ fitting whole
already text front whole next before behind few = by (leb_tells (length text.ops) most_ops)
  where
    by : ((leb (length text.ops) most_ops ≡ true) × (length text.ops ≤ most_ops)) ⊎ ((leb (length text.ops) most_ops ≡ false) × (most_ops < length text.ops))
        → (fitting front >>= next) ≡ fitting whole
    by (inl fewer) = few fewer.1
    by (inr many) = ap (λ x. x >>= next) (too_many front (omega (arith, many.1, before))) ∙ sym (too_many whole (omega (arith, many.1, behind)))

-- ---- parts one after the other

-- a part that is operations alone
pub plain_part : (f : ℕ → List Placed) (text : Text) → fitting (with_part (λ start. of_ops (f start)) text) ≡ fitting (with_ops f text)
plain_part f text = ap (λ list. fitting (record { ops = text.ops ++ f (length text.ops); cases = list; pieces = text.pieces })) (append-nil text.cases)

pub parts_then : (f g : Part) (text : Text) → (fitting (with_part f text) >>= (λ mid. fitting (with_part g mid))) ≡ fitting (with_part (f then g) text)
parts_then f g text =
    passes (with_part f text) (λ mid. fitting (with_part g mid)) (with_part (f then g) text)
    (omega (arith, ap length (joined_ops (λ n. (f n).ops) (λ n. (g n).ops) text.ops), longer_part g (with_part f text)))
    (λ few. ap fitting (same_ops _ _ _ text.pieces (joined_ops (λ n. (f n).ops) (λ n. (g n).ops) text.ops)
    ∙ ap with_cases_at (append_assoc text.cases (f (length text.ops)).cases (g (length (text.ops ++ (f (length text.ops)).ops))).cases
    ∙ ap (λ n. text.cases ++ ((f (length text.ops)).cases ++ (g n).cases)) (sym (after_ops text.ops (f (length text.ops)).ops)))))
  where
    with_cases_at : List Case → Text
    with_cases_at cases = record { ops = text.ops ++ then_ops (λ n. (f n).ops) (λ n. (g n).ops) (length text.ops); cases = cases; pieces = text.pieces }

-- a step that gives a text gives that one
pub fit_is : (its text : Text) → fitting its ≡ Some text → its ≡ text
fit_is its text is = by (nat_le (length its.ops) most_ops) is
  where
    by : (b : Bool) → (if b then Some its else None) ≡ Some text → its ≡ text
    by true given = cc
    by false given = absurd (cc)
