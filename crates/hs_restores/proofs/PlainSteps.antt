-- Operations that only take values.
use Rattle.std.proofs.Common.{◌≡◌, ℕ, ◌-◌, List, refl}
use Rattle.hs_code.specs.Stacks.{Scope}
use Rattle.hs_code.specs.declared.op.Op.{Op}
use Rattle.hs_code.specs.declared.op.Op.TheVariants as op
use Rattle.hs_fact_rows.specs.declared.step.Step.TheVariants as step
use Rattle.hs_facts.specs.Names.{taken}
use Rattle.hs_restores.specs.Stepping.{step_by}
use Rattle.hs_tree.specs.declared.head.Variable.{Variable}
use Rattle.hs_types.specs.declared.integer.Integer.{Integer}

module _ (scope : Scope) (names part slots : List Variable) (depth : ℕ) where
  -- any operation but those that move or name values
  pub plain_step : (its : Op) → ((v : Variable) → its ≡ op.Get v → ⊥) → ((v : Variable) → its ≡ op.Set v → ⊥) → (its ≡ op.Dup → ⊥)
      → (its ≡ op.Tuck → ⊥) → ((kind : Integer) → its ≡ op.Conv kind → ⊥) → ((place : ℕ) → its ≡ op.Routine place → ⊥)
      → ((f : ℕ) → its ≡ op.Call f → ⊥) → ((place : ℕ) → its ≡ op.Bring place → ⊥)
      → step_by scope names part slots its depth ≡ step.Pop (depth - taken scope its)
  plain_step (op.Num bits) a b c d e f g h = refl
  plain_step op.Nil a b c d e f g h = refl
  plain_step (op.Address its) a b c d e f g h = refl
  plain_step (op.Get v) a b c d e f g h = absurd (a v refl)
  plain_step (op.Set v) a b c d e f g h = absurd (b v refl)
  plain_step (op.Load its) a b c d e f g h = refl
  plain_step (op.Store its) a b c d e f g h = refl
  plain_step op.Drop a b c d e f g h = refl
  plain_step op.Dup a b c d e f g h = absurd (c refl)
  plain_step op.Tuck a b c d e f g h = absurd (d refl)
  plain_step (op.Conv kind) a b c d e f g h = absurd (e kind refl)
  plain_step (op.Unary its) a b c d e f g h = refl
  plain_step (op.Binary its kind) a b c d e f g h = refl
  plain_step op.IsNil a b c d e f g h = refl
  plain_step (op.Compare its) a b c d e f g h = refl
  plain_step (op.Difference size) a b c d e f g h = refl
  plain_step (op.Offset bytes) a b c d e f g h = refl
  plain_step (op.Step stride pointer_first) a b c d e f g h = refl
  plain_step (op.Jump target) a b c d e f g h = refl
  plain_step (op.Zero target) a b c d e f g h = refl
  plain_step (op.Choose goal) a b c d e f g h = refl
  plain_step (op.Shift place) a b c d e f g h = refl
  plain_step (op.Routine place) a b c d e f g h = absurd (f place refl)
  plain_step (op.Call place) a b c d e f g h = absurd (g place refl)
  plain_step op.Return a b c d e f g h = refl
  plain_step op.Turn a b c d e f g h = refl
  plain_step op.Mark a b c d e f g h = refl
  plain_step (op.Pick target) a b c d e f g h = refl
  plain_step (op.Bring place) a b c d e f g h = absurd (h place refl)
