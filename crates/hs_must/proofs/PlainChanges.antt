-- Operations that only take values.
use Rattle.std.proofs.Common.{◌≡◌, ℕ, ◌-◌, Bool, List, refl}
use Rattle.hs_code.specs.Stacks.{Scope}
use Rattle.hs_code.specs.declared.op.Access.{Access}
use Rattle.hs_code.specs.declared.op.Op.{Op}
use Rattle.hs_code.specs.declared.op.Op.TheVariants as op
use Rattle.hs_facts.specs.Names.{taken}
use Rattle.hs_lock_rows.specs.declared.change.Change.TheVariants as change
use Rattle.hs_must.specs.Changing.{change_by}
use Rattle.hs_tree.specs.declared.head.Variable.{Variable}
use Rattle.hs_types.specs.declared.integer.Integer.{Integer}

module _ (scope : Scope) (names slots : List Variable) (unlocks disposes : ℕ → Bool) (depth : ℕ) where
  -- any operation but those that move, name or use values
  pub plain_change : (its : Op) → ((v : Variable) → its ≡ op.Get v → ⊥) → ((v : Variable) → its ≡ op.Set v → ⊥)
      → ((access : Access) → its ≡ op.Load access → ⊥) → (its ≡ op.Dup → ⊥)
      → (its ≡ op.Tuck → ⊥) → ((kind : Integer) → its ≡ op.Conv kind → ⊥) → ((place : ℕ) → its ≡ op.Bring place → ⊥)
      → ((place : ℕ) → its ≡ op.Routine place → ⊥) → ((f : ℕ) → its ≡ op.Call f → ⊥)
      → change_by scope names slots unlocks disposes its depth ≡ change.Pop (depth - taken scope its)
  plain_change (op.Num bits) a b i c d e h f g = refl
  plain_change op.Nil a b i c d e h f g = refl
  plain_change (op.Address its) a b i c d e h f g = refl
  plain_change (op.Get v) a b i c d e h f g = absurd (a v refl)
  plain_change (op.Set v) a b i c d e h f g = absurd (b v refl)
  plain_change (op.Load its) a b i c d e h f g = absurd (i its refl)
  plain_change (op.Store its) a b i c d e h f g = refl
  plain_change op.Drop a b i c d e h f g = refl
  plain_change op.Dup a b i c d e h f g = absurd (c refl)
  plain_change op.Tuck a b i c d e h f g = absurd (d refl)
  plain_change (op.Conv kind) a b i c d e h f g = absurd (e kind refl)
  plain_change (op.Unary its) a b i c d e h f g = refl
  plain_change (op.Binary its kind) a b i c d e h f g = refl
  plain_change op.IsNil a b i c d e h f g = refl
  plain_change (op.Compare its) a b i c d e h f g = refl
  plain_change (op.Difference size) a b i c d e h f g = refl
  plain_change (op.Offset bytes) a b i c d e h f g = refl
  plain_change (op.Step stride pointer_first) a b i c d e h f g = refl
  plain_change (op.Jump target) a b i c d e h f g = refl
  plain_change (op.Zero target) a b i c d e h f g = refl
  plain_change (op.Choose goal) a b i c d e h f g = refl
  plain_change (op.Shift place) a b i c d e h f g = refl
  plain_change (op.Routine place) a b i c d e h f g = absurd (f place refl)
  plain_change (op.Call place) a b i c d e h f g = absurd (g place refl)
  plain_change op.Return a b i c d e h f g = refl
  plain_change op.Turn a b i c d e h f g = refl
  plain_change op.Mark a b i c d e h f g = refl
  plain_change (op.Pick target) a b i c d e h f g = refl
  plain_change (op.Bring place) a b i c d e h f g = absurd (h place refl)
