-- How many uses are stale, by the rule as a recursion.
use Rattle.std.specs.Prelude.{◌≡◌, ℕ, suc, ◌<◌, Bool, true, false, List, [], ◌∷◌, ◌++◌, reverse, length, drop, count_by, slice_index_or}
use Rattle.std.specs.List.{list_any}
use Rattle.hs_base.specs.declared.pos.Pos.{Pos}
use Rattle.hs_tree.specs.declared.straight.tree.Step.{Step}
use Rattle.hs_tree.specs.declared.straight.tree.Step.TheVariants as step
use Rattle.hs_tree.specs.Straight.Fine.{assigns}
use Rattle.hs_meaning.specs.Straight.StaleUses.{Use}
use Rattle.hs_meaning.specs.Straight.Along.{is_stale_after}

-- how many of the pointers are stale after the steps done
abbrev pub stale_pointers : List Step → List ℕ → ℕ
stale_pointers done pointers = count_by (λ pointer. is_stale_after pointer done) pointers

-- how many of the uses are stale
abbrev pub stale_uses : List Use → ℕ
stale_uses uses = count_by (λ use_of. is_stale_after use_of.pointer use_of.done) uses

-- A pointer that the last of the steps `taken` took from the handle, and that no step of `since` assigns, is stale after
-- them exactly if the answer is true. The steps stand in the order of the text.
abbrev pub GoesStale : ℕ → List Step → List Step → Bool → Type 0
GoesStale handle taken since answer =
    (pointer : ℕ) (pos : Pos) (before : List Step)
    → taken ≡ before ++ step.Derive pos pointer handle ∷ []
    → list_any (assigns pointer) since ≡ false
    → answer ≡ is_stale_after pointer (reverse (taken ++ since))

-- the step at that place assigns the variable, and none after it does
abbrev pub IsLastAssignment : ℕ → List Step → ℕ → Type 0
IsLastAssignment variable done place =
    (place < length done)
    × ((other : Step) → assigns variable (slice_index_or done place other) ≡ true)
    × (list_any (assigns variable) (drop (suc place) done) ≡ false)
