-- What the steps done say of a pointer, step by step: the rule of stale uses as a recursion. Lists of steps are newest
-- first. The law is that a use is stale (`IsStaleUse`) exactly if `is_stale_after` says so.
--     derived_after pointer done       where the pointer was taken from, and what happened to it since
--     is_stale_after pointer done      it is stale now
use Rattle.std.specs.Prelude.{ℕ, Bool, true, false, not, ◌&&◌, ◌||◌, List, [], ◌∷◌, Option, Some, None, if◌then◌else◌}
use Rattle.hs_tree.specs.declared.straight.tree.Step.{Step}
use Rattle.hs_tree.specs.declared.straight.tree.Step.TheVariants as step
use Rattle.hs_tree.specs.Straight.Fine.{assigns}
use Rattle.hs_meaning.specs.Straight.StaleUses.{calls_new_handle, is_locked_after}

-- what is known of a pointer that was last assigned by `p = *h`
pub record Derivation : Type 0 where
  pub handle : ℕ
  -- the handle was not assigned since
  pub is_same : Bool
  pub is_stale : Bool

-- what the step says of the pointer that it assigns
abbrev pub derived_by : Step → Option Derivation
derived_by (step.Derive pos pointer handle) = Some (record { handle = handle; is_same = true; is_stale = false })
derived_by (step.NewHandle handle size) = None
derived_by (step.HLock pos handle) = None
derived_by (step.HUnlock pos handle) = None
derived_by (step.Set letter value) = None
derived_by (step.Store pos pointer value) = None
derived_by (step.Putchar value) = None

-- what a step that assigns the pointer not, after the steps done, leaves of what is known
abbrev pub kept_by : List Step → Step → Derivation → Derivation
kept_by done step derivation =
    record {
      handle = derivation.handle;
      is_same = derivation.is_same && not (assigns derivation.handle step);
      is_stale = derivation.is_stale || (calls_new_handle step && not (derivation.is_same && is_locked_after derivation.handle done));
    }

-- what is known, if anything is
abbrev pub kept_if : List Step → Step → Option Derivation → Option Derivation
kept_if done step None = None
kept_if done step (Some derivation) = Some (kept_by done step derivation)

-- what is known of the pointer after the steps
abbrev pub derived_after : ℕ → List Step → Option Derivation
derived_after pointer [] = None
derived_after pointer (step ∷ done) = if assigns pointer step then derived_by step else kept_if done step (derived_after pointer done)

-- a pointer of which nothing is known is not stale
abbrev pub is_stale_derivation : Option Derivation → Bool
is_stale_derivation None = false
is_stale_derivation (Some derivation) = derivation.is_stale

-- the pointer is stale after the steps
abbrev pub is_stale_after : ℕ → List Step → Bool
is_stale_after pointer done = is_stale_derivation (derived_after pointer done)
