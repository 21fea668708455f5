-- Effects are closed under calls.
--     Does-called                what a called function does, its caller does
--     Does-cases                 what a function does, it does itself, or a function that it calls does
--     unless_restore             a set_state that is no restore unlocks and marks
use Rattle.std.proofs.Common.{inl, inr, refl, subst, sym}
use Rattle.std.specs.Prelude.{◌≡◌, ◌⊎◌, ℕ, true, slice_get, Some}
use Rattle.hs_code.specs.declared.function_code.Placed.{Placed}
use Rattle.hs_code.specs.declared.op.Op.{Op}
use Rattle.hs_code.specs.declared.op.Op.TheVariants as op
use Rattle.hs_facts.specs.Effects.{WholeCode, Calls, Leads, itself, through, Does, placed_in, IsRestoreAt, Effect, HasEffect, OpHas, change_has, unlocks, marks}
use Rattle.hs_facts.specs.Names.{role_in}
use Rattle.hs_table.specs.declared.role.Role.TheVariants as role

module _ (whole : WholeCode) (IsSo : ℕ → ℕ → Op → Type 0) where
  pub Does-called : (f g : ℕ) → Calls whole f g → Does whole g IsSo → Does whole f IsSo
  Does-called f g calls does = record {
    last = does.last;
    leads = through f g does.last calls does.leads;
    at = does.at;
    its = does.its;
    there = does.there;
    so = does.so;
  }

  -- one of its own operations is so
  pub record DoesItself (f : ℕ) : Type 0 where
    pub at : ℕ
    pub its : Placed
    pub there : placed_in whole f at ≡ Some its
    pub so : IsSo f at its.op

  pub Does-itself : (f : ℕ) → DoesItself f → Does whole f IsSo
  Does-itself f own = record { last = f; leads = itself f; at = own.at; its = own.its; there = own.there; so = own.so }

  by_chain : (f last : ℕ) → Leads whole f last → DoesItself last → DoesItself f ⊎ ((g : ℕ) × Calls whole f g × Does whole g IsSo)
  by_chain f last (itself it) own = inl own
  by_chain f last (through it g end calls leads) own =
      inr (g, calls, record { last = end; leads = leads; at = own.at; its = own.its; there = own.there; so = own.so })

  pub Does-cases : (f : ℕ) → Does whole f IsSo → DoesItself f ⊎ ((g : ℕ) × Calls whole f g × Does whole g IsSo)
  Does-cases f does = by_chain f does.last does.leads (record { at = does.at; its = does.its; there = does.there; so = does.so })

-- each effect that a change of state has
changes : (whole : WholeCode) (f at : ℕ) (its : Placed) (place : ℕ) (effect : Effect) → placed_in whole f at ≡ Some its → its.op ≡ op.Routine place
    → role_in (slice_get whole.program.routines place) ≡ Some role.SetState → ¬ (IsRestoreAt whole f at)
    → change_has (Some role.SetState) effect ≡ true → HasEffect whole f effect
changes whole f at its place effect there routine sets_state other has = record {
  last = f;
  leads = itself f;
  at = at;
  its = its;
  there = there;
  so =
      subst (λ it. OpHas whole.program.routines (IsRestoreAt whole f at) it effect) (sym routine)
      (inr (subst (λ it. change_has it effect ≡ true) (sym sets_state) has, other));
}

pub unless_restore : (whole : WholeCode) (f at : ℕ) (its : Placed) (place : ℕ) → placed_in whole f at ≡ Some its → its.op ≡ op.Routine place
    → role_in (slice_get whole.program.routines place) ≡ Some role.SetState → ¬ (IsRestoreAt whole f at)
    → HasEffect whole f unlocks × HasEffect whole f marks
unless_restore whole f at its place there routine sets_state other =
    (changes whole f at its place unlocks there routine sets_state other refl, changes whole f at its place marks there routine sets_state other refl)
