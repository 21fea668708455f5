-- The effects of a function are those to which chains of calls lead.
use Rattle.std.proofs.Common.{◌≡◌, ◌<◌, ◌≤◌, ◌↔◌, inl, inr, ℕ, Bool, true, List, arith, refl, sym, subst}
use Rattle.std.specs.Bool.{Decides}
use Rattle.std.specs.declared.alloc.Global.{Global}
use Rattle.std.specs.declared.vec.Vec.{Vec}
use Rattle.hs_code.specs.declared.op.Op.{Op}
use Rattle.hs_code.specs.declared.op.Op.TheVariants as op
use Rattle.hs_effects.proofs.Flags.{flag_has, has_flag}
use Rattle.hs_effects.proofs.Leading.{gets_does, does_gets}
use Rattle.hs_effects.specs.Calling.{AreCallers, Gets}
use Rattle.hs_effects.specs.Effecting.{AreRestores, HasNumber, number_of, restored}
use Rattle.hs_effects.specs.Owning.{Owns}
use Rattle.hs_effects.specs.Working.{IsIn}
use Rattle.hs_facts.specs.Effects.{WholeCode, Does, Effect, HasEffect, IsRestoreAt, OpHas, moves, purges, unlocks, marks, bits, disposes}
use Rattle.hs_rows.specs.Sets.{Sets, has, width}
use Rattle.hs_tree.specs.declared.function.BoundRoutine.{BoundRoutine}

-- an effect is known by its number
same_effect : (one other : Effect) → number_of one ≡ number_of other → one ≡ other
same_effect moves moves same = refl
same_effect moves purges same = absurd (let none : 0 ≡ 1 = same in omega arith)
same_effect moves unlocks same = absurd (let none : 0 ≡ 2 = same in omega arith)
same_effect moves marks same = absurd (let none : 0 ≡ 3 = same in omega arith)
same_effect moves bits same = absurd (let none : 0 ≡ 4 = same in omega arith)
same_effect moves disposes same = absurd (let none : 0 ≡ 5 = same in omega arith)
same_effect purges moves same = absurd (let none : 1 ≡ 0 = same in omega arith)
same_effect purges purges same = refl
same_effect purges unlocks same = absurd (let none : 1 ≡ 2 = same in omega arith)
same_effect purges marks same = absurd (let none : 1 ≡ 3 = same in omega arith)
same_effect purges bits same = absurd (let none : 1 ≡ 4 = same in omega arith)
same_effect purges disposes same = absurd (let none : 1 ≡ 5 = same in omega arith)
same_effect unlocks moves same = absurd (let none : 2 ≡ 0 = same in omega arith)
same_effect unlocks purges same = absurd (let none : 2 ≡ 1 = same in omega arith)
same_effect unlocks unlocks same = refl
same_effect unlocks marks same = absurd (let none : 2 ≡ 3 = same in omega arith)
same_effect unlocks bits same = absurd (let none : 2 ≡ 4 = same in omega arith)
same_effect unlocks disposes same = absurd (let none : 2 ≡ 5 = same in omega arith)
same_effect marks moves same = absurd (let none : 3 ≡ 0 = same in omega arith)
same_effect marks purges same = absurd (let none : 3 ≡ 1 = same in omega arith)
same_effect marks unlocks same = absurd (let none : 3 ≡ 2 = same in omega arith)
same_effect marks marks same = refl
same_effect marks bits same = absurd (let none : 3 ≡ 4 = same in omega arith)
same_effect marks disposes same = absurd (let none : 3 ≡ 5 = same in omega arith)
same_effect bits moves same = absurd (let none : 4 ≡ 0 = same in omega arith)
same_effect bits purges same = absurd (let none : 4 ≡ 1 = same in omega arith)
same_effect bits unlocks same = absurd (let none : 4 ≡ 2 = same in omega arith)
same_effect bits marks same = absurd (let none : 4 ≡ 3 = same in omega arith)
same_effect bits bits same = refl
same_effect bits disposes same = absurd (let none : 4 ≡ 5 = same in omega arith)
same_effect disposes moves same = absurd (let none : 5 ≡ 0 = same in omega arith)
same_effect disposes purges same = absurd (let none : 5 ≡ 1 = same in omega arith)
same_effect disposes unlocks same = absurd (let none : 5 ≡ 2 = same in omega arith)
same_effect disposes marks same = absurd (let none : 5 ≡ 3 = same in omega arith)
same_effect disposes bits same = absurd (let none : 5 ≡ 4 = same in omega arith)
same_effect disposes disposes same = refl

pub small_number : (effect : Effect) (n : ℕ) → 6 ≤ n → number_of effect < n
small_number moves n enough = omega arith
small_number purges n enough = omega arith
small_number unlocks n enough = omega arith
small_number marks n enough = omega arith
small_number bits n enough = omega arith
small_number disposes n enough = omega arith

-- an operation has the same effects if it is the same restore
by_restores : (routines : List BoundRoutine) (One Other : Type 0) → (Other → One) → (its : Op) (effect : Effect) → OpHas routines One its effect
    → OpHas routines Other its effect
by_restores routines One Other to (op.Num word) effect is = is
by_restores routines One Other to op.Nil effect is = is
by_restores routines One Other to (op.Address its) effect is = is
by_restores routines One Other to (op.Get v) effect is = is
by_restores routines One Other to (op.Set v) effect is = is
by_restores routines One Other to (op.Load its) effect is = is
by_restores routines One Other to (op.Store its) effect is = is
by_restores routines One Other to op.Drop effect is = is
by_restores routines One Other to op.Dup effect is = is
by_restores routines One Other to op.Tuck effect is = is
by_restores routines One Other to (op.Conv kind) effect is = is
by_restores routines One Other to (op.Unary its) effect is = is
by_restores routines One Other to (op.Binary its kind) effect is = is
by_restores routines One Other to op.IsNil effect is = is
by_restores routines One Other to (op.Compare its) effect is = is
by_restores routines One Other to (op.Difference size) effect is = is
by_restores routines One Other to (op.Offset bytes) effect is = is
by_restores routines One Other to (op.Step stride pointer_first) effect is = is
by_restores routines One Other to (op.Jump target) effect is = is
by_restores routines One Other to (op.Zero target) effect is = is
by_restores routines One Other to (op.Choose goal) effect is = is
by_restores routines One Other to (op.Shift place) effect is = is
by_restores routines One Other to (op.Routine place) effect (inl is) = inl is
by_restores routines One Other to (op.Routine place) effect (inr is) = inr (is.0, λ other. is.1 (to other))
by_restores routines One Other to (op.Call f) effect is = is
by_restores routines One Other to op.Return effect is = is
by_restores routines One Other to op.Turn effect is = is
by_restores routines One Other to op.Mark effect is = is
by_restores routines One Other to (op.Pick target) effect is = is
by_restores routines One Other to (op.Bring place) effect is = is

module _ (whole : WholeCode) (restores : List (Vec Bool Global)) (are : AreRestores whole restores) where
  abbrev Numbers : ℕ → ℕ → Op → ℕ → Type 0
  Numbers = HasNumber whole.program.routines restores

  to_effect : (f : ℕ) (effect : Effect) → Does whole f (λ last at its. Numbers last at its (number_of effect)) → HasEffect whole f effect
  to_effect f effect does =
      let same : does.so.0 ≡ effect = same_effect does.so.0 effect (sym does.so.1) in
      record {
        last = does.last;
        leads = does.leads;
        at = does.at;
        its = does.its;
        there = does.there;
        so =
            subst (OpHas whole.program.routines (IsRestoreAt whole does.last does.at) does.its.op) same
            (by_restores whole.program.routines (restored restores does.last does.at ≡ true) (IsRestoreAt whole does.last does.at)
            (are does.last does.at).1 does.its.op does.so.0
            (flag_has whole.program.routines (restored restores does.last does.at) does.its.op does.so.0 does.so.2));
      }

  from_effect : (f : ℕ) (effect : Effect) → HasEffect whole f effect → Does whole f (λ last at its. Numbers last at its (number_of effect))
  from_effect f effect does =
      record {
        last = does.last;
        leads = does.leads;
        at = does.at;
        its = does.its;
        there = does.there;
        so = (
          effect,
          refl,
          has_flag whole.program.routines (restored restores does.last does.at) does.its.op effect
              (by_restores whole.program.routines (IsRestoreAt whole does.last does.at) (restored restores does.last does.at ≡ true)
              (are does.last does.at).0 does.its.op effect does.so),
        );
      }

  pub effects_exactly : (callers : List (Vec ℕ Global)) (own closed : Sets) → AreCallers whole callers
      → ((f b : ℕ) → IsIn own f b ↔ Owns Numbers whole f b) → ((f b : ℕ) → IsIn closed f b ↔ Gets callers (IsIn own) f b)
      → (f : ℕ) (effect : Effect) → f < closed.count → number_of effect < width closed
      → Decides (has closed f (number_of effect)) (HasEffect whole f effect)
  effects_exactly callers own closed right owns gets f effect below within = (
    (λ is. to_effect f effect (gets_does Numbers whole callers (IsIn own) right owns f (number_of effect)
        ((gets f (number_of effect)).0 (below, within, is)))),
    (λ does. ((gets f (number_of effect)).1
        (does_gets Numbers whole callers (IsIn own) right owns f (number_of effect) (from_effect f effect does))).2),
  )
