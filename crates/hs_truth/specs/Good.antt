-- What holds of each call of a run: its must facts are true, and of its caller it knows what it has left as it was (own).
--     is_old, none_within           blocks and effects
--     Good here machine ws          the fact of a call; of each call that waits it holds as of its call
--     CallsClosed                   a function that calls another one has its effects
use Rattle.std.proofs.Common.{true≢false, ◌≡◌, ℕ, suc, Bool, true, false, not, ◌||◌, List, [], ◌∷◌, length, slice_get, Option, Some, None, refl, sym, ap, ◌∙◌}
use Rattle.std.proofs.lemmas.Option.{none-some}
use Rattle.hs_calls.specs.Calls.{is_present_if, Here, Wait, IsWait, is_fixed, fixed_in}
use Rattle.hs_code_run.specs.Codes.{CodeProgram, scope_of}
use Rattle.hs_facts.specs.Changes.{Impact}
use Rattle.hs_heap.specs.Blocks.{Block}
use Rattle.hs_heap.specs.Memory.{block_at}
use Rattle.hs_hiding.specs.Holding.{Lacking, IsMade, IsPresent, IsAlive, LackingOutside}
use Rattle.hs_meaning.specs.Machine.{Machine}
use Rattle.hs_sound_heap.specs.Since.{May, IsWithin}
use Rattle.hs_truth.specs.Linked.{IsLinked, since_of, Without}
use Rattle.hs_truth.specs.Truth.{TrueFrom}

-- ---- blocks

-- it did not get new cells
abbrev pub is_old : Option Block → Option Block → Bool
is_old before after = is_present_if before || not (is_present_if after)

-- what more effects lack, fewer lack
pub none_within : (a b : Bool) → (a ≡ true → b ≡ true) → b ≡ false → a ≡ false
none_within true b is none = absurd (true≢false (sym (is refl) ∙ none))
none_within false b is none = refl

pub there_after : (before after : Machine) → after.blocks ≡ before.blocks → (n : ℕ) → IsPresent after n → IsPresent before n
there_after before after same n p = record { block = p.block; there = ap (λ bs. block_at bs n) (sym same) ∙ p.there; present = p.present }

pub exists_same : (before after : Machine) → after.blocks ≡ before.blocks → (n : ℕ) → IsMade after n → IsMade before n
exists_same before after same n e = record { block = e.block; there = ap (λ bs. block_at bs n) (sym same) ∙ e.there }

pub alive_same : (before after : Machine) → after.blocks ≡ before.blocks → (n : ℕ) → IsAlive before n → IsAlive after n
alive_same before after same n a = record { block = a.block; there = ap (λ bs. block_at bs n) same ∙ a.there; alive = a.alive }

pub fixed_same : (before after : Machine) → after.blocks ≡ before.blocks → (n : ℕ) → fixed_in before n ≡ true → fixed_in after n ≡ true
fixed_same before after same n is = ap (λ bs. is_fixed (block_at bs n)) same ∙ is

pub outside_of : (n : ℕ) (machine : Machine) → Lacking n machine → LackingOutside n machine
outside_of n machine are = record { globals = are.globals; blocks = are.blocks; objects = are.objects }

-- the block with the next number is not there yet

past : {A : Type 0} → (xs : List A) → slice_get xs (length xs) ≡ None
past [] = refl
past (x ∷ xs) = past xs

pub no_next_block : (machine : Machine) → IsMade machine (suc (length machine.blocks)) → ⊥
no_next_block machine e = none-some e.block (sym (past machine.blocks) ∙ e.there)

-- ---- the part

module _ (program : CodeProgram) (may : ℕ → May) (sets : ℕ → ℕ → Bool) (impact : Impact) where
  -- The fact of a call: its must facts are true from some round on, and of the call that waits for it it knows what it has left as it was.
  pub record Good (here : Here) (machine : Machine) (ws : List Wait) : Type 0 where
    pub found : slice_get program.functions here.fn ≡ Some here.function
    pub lasts : (n : ℕ) → here.lasting n ≡ true → fixed_in machine n ≡ true
    -- a handle is of a block that is there
    pub known : (n : ℕ) → (IsMade machine n → ⊥) → Without n here machine
    pub linked : IsLinked may sets here machine ws
    pub round : ℕ
    pub facts : TrueFrom (scope_of program here.function) here.function.code impact (since_of may sets here.fn ws) round here machine

  -- effects are closed under calls
  pub record CallsClosed : Type 0 where
    pub effects : (w : Wait) → IsWait program w → slice_get program.functions w.here.fn ≡ Some w.here.function → IsWithin (may w.called) (may w.here.fn)
    pub globals : (w : Wait) → IsWait program w → slice_get program.functions w.here.fn ≡ Some w.here.function → (g : ℕ) → sets w.here.fn g ≡ false
        → sets w.called g ≡ false
