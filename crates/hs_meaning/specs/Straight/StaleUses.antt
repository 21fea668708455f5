-- The stale uses of a straight tree (own).
-- A use is `*p` for a pointer p, on either side. A use in a step is stale if the last step before that assigns p is
-- `p = *h`, and between the two a step calls NewHandle for which one of these holds: a step between `p = *h` and it
-- assigns h; or the last step before it that assigns h, locks h or unlocks h is no HLock.
-- Lists of steps that were done are newest first.
--     uses steps              each use: the steps done before it, and its pointer
--     IsStaleUse use          it is stale
--     HasStaleUses tree n     the tree has n of them
use Rattle.std.specs.Prelude.{◌≡◌, ℕ, suc, ◌==◌, Bool, true, false, ◌||◌, List, [], ◌∷◌, ◌++◌, map, find, IsTrue, ◌⊎◌, Option, Some, None}
use Rattle.std.specs.List.{list_any}
use Rattle.hs_base.specs.declared.pos.Pos.{Pos}
use Rattle.hs_tree.specs.declared.straight.tree.Expr.{Expr}
use Rattle.hs_tree.specs.declared.straight.tree.Expr.TheVariants as expr
use Rattle.hs_tree.specs.declared.straight.tree.Step.{Step}
use Rattle.hs_tree.specs.declared.straight.tree.Step.TheVariants as step
use Rattle.hs_tree.specs.declared.straight.tree.Straight.{Straight}
use Rattle.hs_tree.specs.Straight.Fine.{assigns}

-- a use, by the steps done before its step, newest first, and its pointer
pub record Use : Type 0 where
  pub done : List Step
  pub pointer : ℕ

-- the pointers that an expression reads through
abbrev pub expr_uses : Expr → List ℕ
expr_uses (expr.Letter pos letter) = []
expr_uses (expr.Load pos pointer) = pointer ∷ []
expr_uses (expr.Number value) = []

-- the pointers that a step uses, in the order of the text
abbrev pub step_uses : Step → List ℕ
step_uses (step.NewHandle handle size) = []
step_uses (step.HLock pos handle) = []
step_uses (step.HUnlock pos handle) = []
step_uses (step.Derive pos pointer handle) = []
step_uses (step.Set letter value) = expr_uses value
step_uses (step.Store pos pointer value) = pointer ∷ expr_uses value
step_uses (step.Putchar value) = expr_uses value

-- the uses in the steps, after the steps done
abbrev pub uses_after : List Step → List Step → List Use
uses_after done [] = []
uses_after done (step ∷ steps) = map (λ pointer. record { done = done; pointer = pointer }) (step_uses step) ++ uses_after (step ∷ done) steps

-- the uses in all steps
abbrev pub uses : List Step → List Use
uses steps = uses_after [] steps

-- the step calls NewHandle, the one routine that may move
abbrev pub calls_new_handle : Step → Bool
calls_new_handle (step.NewHandle handle size) = true
calls_new_handle (step.HLock pos handle) = false
calls_new_handle (step.HUnlock pos handle) = false
calls_new_handle (step.Derive pos pointer handle) = false
calls_new_handle (step.Set letter value) = false
calls_new_handle (step.Store pos pointer value) = false
calls_new_handle (step.Putchar value) = false

-- the step is an HLock of the handle
abbrev pub locks : ℕ → Step → Bool
locks variable (step.HLock pos handle) = handle == variable
locks variable (step.NewHandle handle size) = false
locks variable (step.HUnlock pos handle) = false
locks variable (step.Derive pos pointer handle) = false
locks variable (step.Set letter value) = false
locks variable (step.Store pos pointer value) = false
locks variable (step.Putchar value) = false

-- the step is an HUnlock of the handle
abbrev pub unlocks : ℕ → Step → Bool
unlocks variable (step.HUnlock pos handle) = handle == variable
unlocks variable (step.NewHandle handle size) = false
unlocks variable (step.HLock pos handle) = false
unlocks variable (step.Derive pos pointer handle) = false
unlocks variable (step.Set letter value) = false
unlocks variable (step.Store pos pointer value) = false
unlocks variable (step.Putchar value) = false

-- the step assigns, locks or unlocks the handle
abbrev pub concerns : ℕ → Step → Bool
concerns handle step = assigns handle step || locks handle step || unlocks handle step

-- the step is there, and is an HLock of the handle
abbrev pub is_lock_of : ℕ → Option Step → Bool
is_lock_of handle None = false
is_lock_of handle (Some step) = locks handle step

-- of the steps done, the last one that assigns, locks or unlocks the handle is an HLock
abbrev pub is_locked_after : ℕ → List Step → Bool
is_locked_after handle done = is_lock_of handle (find (concerns handle) done)

-- why a use is stale: `p = *h`, a call of NewHandle since, and what it says of h
pub record IsStaleUse (use_of : Use) : Type 0 where
  pub pos : Pos
  pub handle : ℕ
  -- what was done after the call, between `p = *h` and the call, and before `p = *h`
  pub since : List Step
  pub call : Step
  pub between : List Step
  pub earlier : List Step
  pub is_done : use_of.done ≡ since ++ call ∷ (between ++ step.Derive pos use_of.pointer handle ∷ earlier)
  -- `p = *h` is the last step before that assigns p
  pub is_last : list_any (assigns use_of.pointer) (since ++ call ∷ between) ≡ false
  pub calls : IsTrue (calls_new_handle call)
  -- h was assigned anew before the call, or was not locked at it
  pub is_unsafe : IsTrue (list_any (assigns handle) between) ⊎ (is_locked_after handle (between ++ step.Derive pos use_of.pointer handle ∷ earlier) ≡ false)

-- just n of the items have P
abbrev pub IsCountOf : {A : Type 0} → (A → Type 0) → List A → ℕ → Type 0
IsCountOf P [] n = n ≡ 0
IsCountOf P (x ∷ xs) n = ((m : ℕ) × P x × IsCountOf P xs m × (n ≡ suc m)) ⊎ ((P x → ⊥) × IsCountOf P xs n)

-- the tree has n stale uses
abbrev pub HasStaleUses : Straight → ℕ → Type 0
HasStaleUses tree n = IsCountOf IsStaleUse (uses tree.steps) n
