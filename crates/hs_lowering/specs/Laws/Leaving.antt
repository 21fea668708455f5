-- Operations leave the kinds that they should (own).
--     Goes its fact kinds left     where these operations stand, control that comes to them with those kinds goes on after them with what `left`
--                                  says, or goes nowhere else, and each of them has its operands and notes how many values there are
--     Leaves its fact kinds        they leave one value more, whose kind meets the fact
--     only_goes, operand_goes, sequence_goes, chosen_goes, conjoined_goes    one operation, one after the other, and branches
use Rattle.std.proofs.Common.{◌≡◌, ◌⊎◌, inl, inr, ℕ, suc, List, [], ◌∷◌, length, slice_get, Some, refl, sym, ap, ◌∙◌, subst}
use Rattle.hs_code.specs.Following.{IsNext}
use Rattle.hs_code.specs.Stacks.{Scope, Kind, kinds_after}
use Rattle.hs_code.specs.Stacks as stacks
use Rattle.hs_code.specs.declared.function_code.Case.{Case}
use Rattle.hs_code.specs.declared.function_code.FunctionCode.{FunctionCode}
use Rattle.hs_code.specs.declared.function_code.Placed.{Placed}
use Rattle.hs_code.specs.declared.op.Op.{Op}
use Rattle.hs_code.specs.declared.op.Op.TheVariants as op
use Rattle.hs_lowering.specs.Laws.Jumps.{branches_end}
use Rattle.hs_lowering.specs.Lowering.{Lowered, after, operand, sequence, placed, only, on_one, on_two, branches, chosen, answered, both_hold, conjoined}
use Rattle.hs_lowering.specs.Performing.{Holds, holds_front, holds_back, after_append}
use Rattle.hs_lowering.specs.Stacked.{Stacked, step}
use Rattle.hs_tree.specs.declared.head.Head.{Head}

-- a kind is that one
abbrev pub Is : Kind → Kind → Type 0
Is wanted kind = kind ≡ wanted

-- control goes on to the next operation, and to no other
abbrev pub IsPlain : Op → Type 0
IsPlain its = (cases : List Case) (at next : ℕ) → IsNext its cases at next → next ≡ suc at

module _ (scope : Scope) (code : FunctionCode) where
  -- whatever kinds are below those that they take
  pub record Goes (its : Lowered) {A : Type 0} (fact : A → Type 0) (kinds : List Kind) (left : A → List Kind) : Type 0 where
    pub go : (count start depth : ℕ) → length kinds ≡ depth → Holds code start (its start depth)
        → ((a : A) → fact a → Stacked scope code count (after start (its start depth)) (left a)) → Stacked scope code count start kinds

  -- one value more
  abbrev pub Leaves : Lowered → (Kind → Type 0) → List Kind → Type 0
  Leaves its fact kinds = Goes its fact kinds (λ kind. kind ∷ kinds)

  -- what is left meets a weaker fact
  pub weaker : {its : Lowered} → {A : Type 0} → {fact fact' : A → Type 0} → {kinds : List Kind} → {left : A → List Kind}
      → ((a : A) → fact a → fact' a) → Goes its fact kinds left → Goes its fact' kinds left
  weaker so goes = record { go = λ count start depth long holds more. goes.go count start depth long holds (λ a is. more a (so a is)) }

  -- no operations
  pub nothing_goes : {A : Type 0} → {fact : A → Type 0} → {kinds : List Kind} → {left : A → List Kind} → (a : A) → fact a → left a ≡ kinds
      → Goes (λ start depth. []) fact kinds left
  nothing_goes a is same = record { go = λ count start depth long holds more. subst (Stacked scope code count start) same (more a is) }

  -- ---- one after the other

  module _ {A B : Type 0} {fact : A → Type 0} {fact' : B → Type 0} {kinds : List Kind} {mid : A → List Kind} {left : B → List Kind}
      (its rest : Lowered) where
    pub operand_goes : ((a : A) → length (mid a) ≡ suc (length kinds)) → Goes its fact kinds mid → ((a : A) → fact a → Goes rest fact' (mid a) left)
        → Goes (operand its rest) fact' kinds left
    operand_goes longer before behind =
        record {
          go = λ count start depth long holds more.
              before.go count start depth long (holds_front code start (its start depth) (rest (after start (its start depth)) (suc depth)) holds)
              (λ a is. (behind a is).go count (after start (its start depth)) (suc depth) (longer a ∙ ap suc long)
              (holds_back code start (its start depth) (rest (after start (its start depth)) (suc depth)) holds)
              (λ b fine. subst (λ n. Stacked scope code count n (left b))
              (after_append start (its start depth) (rest (after start (its start depth)) (suc depth))) (more b fine)));
        }

    pub sequence_goes : ((a : A) → length (mid a) ≡ length kinds) → Goes its fact kinds mid → ((a : A) → fact a → Goes rest fact' (mid a) left)
        → Goes (sequence its rest) fact' kinds left
    sequence_goes longer before behind =
        record {
          go = λ count start depth long holds more.
              before.go count start depth long (holds_front code start (its start depth) (rest (after start (its start depth)) depth) holds)
              (λ a is. (behind a is).go count (after start (its start depth)) depth (longer a ∙ long)
              (holds_back code start (its start depth) (rest (after start (its start depth)) depth) holds)
              (λ b fine. subst (λ n. Stacked scope code count n (left b))
              (after_append start (its start depth) (rest (after start (its start depth)) depth)) (more b fine)));
        }

  module _ (piece : ℕ) (head : Head) where
    -- ---- one operation

    pub only_goes : {A : Type 0} → {fact : A → Type 0} → (its : Op) (kinds : List Kind) (left : A → List Kind) (a : A) → fact a → IsPlain its
        → kinds_after scope its kinds ≡ Some (left a) → Goes (only piece head its) fact kinds left
    only_goes its kinds left a is plain operands =
        record {
          go = λ count start depth long holds more.
              step scope code count start (placed piece head its depth) kinds (left a) holds.0 (sym long) operands
              (λ next follows. subst (λ n. Stacked scope code count n (left a)) (sym (plain code.cases start next follows)) (more a is));
        }

    -- that leaves a value of a kind
    pub only_leaves : (its : Op) (kinds : List Kind) (kind : Kind) → IsPlain its → kinds_after scope its kinds ≡ Some (kind ∷ kinds)
        → Leaves (only piece head its) (Is kind) kinds
    only_leaves its kinds kind plain operands = only_goes its kinds (λ left. left ∷ kinds) kind refl plain operands

    -- on one operand: below its value the stack may have changed
    pub one_goes : (its : Op) (first : Lowered) (kinds base : List Kind) (taken kind : Kind) → length base ≡ length kinds → IsPlain its
        → kinds_after scope its (taken ∷ base) ≡ Some (kind ∷ base) → Goes first (Is taken) kinds (λ a. a ∷ base)
        → Goes (on_one piece head its first) (Is kind) kinds (λ a. a ∷ base)
    one_goes its first kinds base taken kind same plain operands goes =
        operand_goes first (only piece head its) (λ a. ap suc same) goes
        (λ a is. subst (λ a. Goes (only piece head its) (Is kind) (a ∷ base) (λ left. left ∷ base)) (sym is)
        (only_goes its (taken ∷ base) (λ left. left ∷ base) kind refl plain operands))

    pub one_leaves : (its : Op) (first : Lowered) (kinds : List Kind) (taken kind : Kind) → IsPlain its
        → kinds_after scope its (taken ∷ kinds) ≡ Some (kind ∷ kinds) → Leaves first (Is taken) kinds → Leaves (on_one piece head its first) (Is kind) kinds
    one_leaves its first kinds taken kind plain operands leaves = one_goes its first kinds kinds taken kind refl plain operands leaves

    -- on two operands
    pub two_goes : (its : Op) (first second : Lowered) (kinds base : List Kind) (low high kind : Kind) → length base ≡ length kinds → IsPlain its
        → kinds_after scope its (high ∷ low ∷ base) ≡ Some (kind ∷ base) → Goes first (Is low) kinds (λ a. a ∷ base)
        → Leaves second (Is high) (low ∷ base) → Goes (on_two piece head its first second) (Is kind) kinds (λ a. a ∷ base)
    two_goes its first second kinds base low high kind same plain operands goes also =
        operand_goes first (operand second (only piece head its)) (λ a. ap suc same) goes
        (λ a is. subst (λ a. Goes (operand second (only piece head its)) (Is kind) (a ∷ base) (λ left. left ∷ base)) (sym is)
        (operand_goes second (only piece head its) (λ b. refl) also
        (λ b so. subst (λ b. Goes (only piece head its) (Is kind) (b ∷ low ∷ base) (λ left. left ∷ base)) (sym so)
        (only_goes its (high ∷ low ∷ base) (λ left. left ∷ base) kind refl plain operands))))

    pub two_leaves : (its : Op) (first second : Lowered) (kinds : List Kind) (low high kind : Kind) → IsPlain its
        → kinds_after scope its (high ∷ low ∷ kinds) ≡ Some (kind ∷ kinds) → Leaves first (Is low) kinds → Leaves second (Is high) (low ∷ kinds)
        → Leaves (on_two piece head its first second) (Is kind) kinds
    two_leaves its first second kinds low high kind plain operands leaves also =
        two_goes its first second kinds kinds low high kind refl plain operands leaves also

    -- ---- branches

    -- a jump
    jumps : (count at depth target : ℕ) (kinds : List Kind) → length kinds ≡ depth → slice_get code.ops at ≡ Some (placed piece head (op.Jump target) depth)
        → Stacked scope code count target kinds → Stacked scope code count at kinds
    jumps count at depth target kinds long there rest =
        step scope code count at (placed piece head (op.Jump target) depth) kinds kinds there (sym long) refl
        (λ next follows. subst (λ n. Stacked scope code count n kinds) (sym follows) rest)

    -- a test, after its number
    tests : (count at depth target : ℕ) (kind : Kind) (kinds : List Kind) → length kinds ≡ depth → Is stacks.number kind
        → slice_get code.ops at ≡ Some (placed piece head (op.Zero target) (suc depth)) → Stacked scope code count (suc at) kinds
        → Stacked scope code count target kinds → Stacked scope code count at (kind ∷ kinds)
    tests count at depth target kind kinds long is there holds fails =
        subst (λ found. Stacked scope code count at (found ∷ kinds)) (sym is)
        (step scope code count at (placed piece head (op.Zero target) (suc depth)) (stacks.number ∷ kinds) kinds there (ap suc (sym long)) refl by)
      where
        by : (next : ℕ) → (next ≡ suc at) ⊎ (next ≡ target) → Stacked scope code count next kinds
        by next (inl so) = subst (λ n. Stacked scope code count n kinds) (sym so) holds
        by next (inr so) = subst (λ n. Stacked scope code count n kinds) (sym so) fails

    module _ {A : Type 0} {fact : A → Type 0} {kinds : List Kind} {left : A → List Kind} (first second : Lowered)
        (longer : (a : A) → length (left a) ≡ suc (length kinds)) (one : Goes first fact kinds left) (other : Goes second fact kinds left) where
      branched : (count at depth : ℕ) (kind : Kind) → length kinds ≡ depth → Is stacks.number kind
          → Holds code at (branches piece head at depth (first (suc at) depth) second)
          → ((a : A) → fact a → Stacked scope code count
          (after (suc (after (suc at) (first (suc at) depth))) (second (suc (after (suc at) (first (suc at) depth))) depth)) (left a))
          → Stacked scope code count at (kind ∷ kinds)
      branched count at depth kind long is holds more =
          tests count at depth (suc (after (suc at) (first (suc at) depth))) kind kinds long is holds.0
          (one.go count (suc at) depth long (holds_front code (suc at) (first (suc at) depth) (jump ∷ last) holds.1)
          (λ a fine. jumps count (after (suc at) (first (suc at) depth)) (suc depth) (after other_at last) (left a) (longer a ∙ ap suc long) back.0
          (more a fine)))
          (other.go count other_at depth long back.1 more)
        where
          other_at : ℕ
          other_at = suc (after (suc at) (first (suc at) depth))

          last : List Placed
          last = second other_at depth

          jump : Placed
          jump = placed piece head (op.Jump (after other_at last)) (suc depth)

          back : Holds code (after (suc at) (first (suc at) depth)) (jump ∷ last)
          back = holds_back code (suc at) (first (suc at) depth) (jump ∷ last) holds.1

    -- one of two, by a test
    pub chosen_goes : {A : Type 0} → {fact : A → Type 0} → {kinds : List Kind} → {left : A → List Kind} → (test first second : Lowered)
        → ((a : A) → length (left a) ≡ suc (length kinds)) → Leaves test (Is stacks.number) kinds → Goes first fact kinds left → Goes second fact kinds left
        → Goes (chosen piece head test first second) fact kinds left
    chosen_goes {kinds = kinds} {left = left} test first second longer tested one other =
        record {
          go = λ count start depth long holds more.
              tested.go count start depth long
              (holds_front code start (test start depth)
              (branches piece head (after start (test start depth)) depth (first (suc (after start (test start depth))) depth) second) holds)
              (λ kind is. branched first second longer one other count (after start (test start depth)) depth kind long is
              (holds_back code start (test start depth)
              (branches piece head (after start (test start depth)) depth (first (suc (after start (test start depth))) depth) second) holds)
              (λ a fine. subst (λ n. Stacked scope code count n (left a))
              (after_append start (test start depth)
              (branches piece head (after start (test start depth)) depth (first (suc (after start (test start depth))) depth) second)
              ∙ branches_end piece head (after start (test start depth)) depth (first (suc (after start (test start depth))) depth) second)
              (more a fine)));
        }

    -- 1 or 0
    pub answered_leaves : (test : Lowered) (kinds : List Kind) → Leaves test (Is stacks.number) kinds
        → Leaves (answered piece head test) (Is stacks.number) kinds
    answered_leaves test kinds tested =
        chosen_goes test (only piece head (op.Num 1)) (only piece head (op.Num 0)) (λ a. refl) tested
        (only_leaves (op.Num 1) kinds stacks.number (λ cases at next follows. follows) refl)
        (only_leaves (op.Num 0) kinds stacks.number (λ cases at next follows. follows) refl)

    -- `&&`, after its first operand
    both_held : (count at depth : ℕ) (kind : Kind) (kinds : List Kind) (second : Lowered) → length kinds ≡ depth → Is stacks.number kind
        → Leaves second (Is stacks.number) kinds → Holds code at (both_hold piece head at depth (second (suc at) depth))
        → Stacked scope code count (suc (suc (suc (suc (after (suc at) (second (suc at) depth)))))) (stacks.number ∷ kinds)
        → Stacked scope code count at (kind ∷ kinds)
    both_held count at depth kind kinds second long is leaves holds more =
        tests count at depth none kind kinds long is holds.0
        (leaves.go count (suc at) depth long (holds_front code (suc at) (second (suc at) depth) rest holds.1)
        (λ other so. tests count mid depth none other kinds long so back.0
        (numbered (suc mid) 1 back.1.0 (jumps count (suc (suc mid)) (suc depth) (suc none) (stacks.number ∷ kinds) (ap suc long) back.1.1.0 more)) zeroed))
        zeroed
      where
        mid : ℕ
        mid = after (suc at) (second (suc at) depth)

        none : ℕ
        none = suc (suc (suc mid))

        rest : List Placed
        rest =
            placed piece head (op.Zero none) (suc depth) ∷ placed piece head (op.Num 1) depth ∷ placed piece head (op.Jump (suc none)) (suc depth)
            ∷ placed piece head (op.Num 0) depth ∷ []

        back : Holds code mid rest
        back = holds_back code (suc at) (second (suc at) depth) rest holds.1

        numbered : (number bits : ℕ) → slice_get code.ops number ≡ Some (placed piece head (op.Num bits) depth)
            → Stacked scope code count (suc number) (stacks.number ∷ kinds) → Stacked scope code count number kinds
        numbered number bits there more' =
            step scope code count number (placed piece head (op.Num bits) depth) kinds (stacks.number ∷ kinds) there (sym long) refl
            (λ next follows. subst (λ n. Stacked scope code count n (stacks.number ∷ kinds)) (sym follows) more')

        zeroed : Stacked scope code count none kinds
        zeroed = numbered none 0 back.1.1.1.0 more

    pub conjoined_leaves : (first second : Lowered) (kinds : List Kind) → Leaves first (Is stacks.number) kinds → Leaves second (Is stacks.number) kinds
        → Leaves (conjoined piece head first second) (Is stacks.number) kinds
    conjoined_leaves first second kinds leaves also =
        record {
          go = λ count start depth long holds more.
              leaves.go count start depth long
              (holds_front code start (first start depth)
              (both_hold piece head (after start (first start depth)) depth (second (suc (after start (first start depth))) depth)) holds)
              (λ kind is. both_held count (after start (first start depth)) depth kind kinds second long is also
              (holds_back code start (first start depth)
              (both_hold piece head (after start (first start depth)) depth (second (suc (after start (first start depth))) depth)) holds)
              (subst (λ n. Stacked scope code count n (stacks.number ∷ kinds))
              (after_append start (first start depth)
              (both_hold piece head (after start (first start depth)) depth (second (suc (after start (first start depth))) depth))
              ∙ after_append (suc (after start (first start depth))) (second (suc (after start (first start depth))) depth) _)
              (more stacks.number refl)));
        }
