-- Operations that call a function or set a global.
use Rattle.std.proofs.Common.{◌≡◌, ℕ, Some}
use Rattle.hs_code.specs.declared.op.Op.{Op}
use Rattle.hs_code.specs.declared.op.Op.TheVariants as op
use Rattle.hs_effects.specs.Calling.{callee_of}
use Rattle.hs_effects.specs.Owning.{assigned_by}
use Rattle.hs_tree.specs.declared.head.Variable.TheVariants as name

same_call : (a b : ℕ) → Some a ≡ Some b → op.Call a ≡ op.Call b
same_call a b same = cc

same_set : (a b : ℕ) → Some a ≡ Some b → op.Set (name.Global a) ≡ op.Set (name.Global b)
same_set a b same = cc

pub is_call : (its : Op) (g : ℕ) → callee_of its ≡ Some g → its ≡ op.Call g
is_call (op.Num bits) g is = absurd cc
is_call op.Nil g is = absurd cc
is_call (op.Address its) g is = absurd cc
is_call (op.Get v) g is = absurd cc
is_call (op.Set v) g is = absurd cc
is_call (op.Load its) g is = absurd cc
is_call (op.Store its) g is = absurd cc
is_call op.Drop g is = absurd cc
is_call op.Dup g is = absurd cc
is_call op.Tuck g is = absurd cc
is_call (op.Conv kind) g is = absurd cc
is_call (op.Unary its) g is = absurd cc
is_call (op.Binary its kind) g is = absurd cc
is_call op.IsNil g is = absurd cc
is_call (op.Compare its) g is = absurd cc
is_call (op.Difference size) g is = absurd cc
is_call (op.Offset bytes) g is = absurd cc
is_call (op.Step stride pointer_first) g is = absurd cc
is_call (op.Jump target) g is = absurd cc
is_call (op.Zero target) g is = absurd cc
is_call (op.Choose goal) g is = absurd cc
is_call (op.Shift place) g is = absurd cc
is_call (op.Routine place) g is = absurd cc
is_call (op.Call it) g is = same_call it g is
is_call op.Return g is = absurd cc
is_call op.Turn g is = absurd cc
is_call op.Mark g is = absurd cc
is_call (op.Pick target) g is = absurd cc
is_call (op.Bring place) g is = absurd cc

pub is_set : (its : Op) (g : ℕ) → assigned_by its ≡ Some g → its ≡ op.Set (name.Global g)
is_set (op.Num bits) g is = absurd cc
is_set op.Nil g is = absurd cc
is_set (op.Address its) g is = absurd cc
is_set (op.Get v) g is = absurd cc
is_set (op.Set (name.Global it)) g is = same_set it g is
is_set (op.Set (name.Local it)) g is = absurd cc
is_set (op.Load its) g is = absurd cc
is_set (op.Store its) g is = absurd cc
is_set op.Drop g is = absurd cc
is_set op.Dup g is = absurd cc
is_set op.Tuck g is = absurd cc
is_set (op.Conv kind) g is = absurd cc
is_set (op.Unary its) g is = absurd cc
is_set (op.Binary its kind) g is = absurd cc
is_set op.IsNil g is = absurd cc
is_set (op.Compare its) g is = absurd cc
is_set (op.Difference size) g is = absurd cc
is_set (op.Offset bytes) g is = absurd cc
is_set (op.Step stride pointer_first) g is = absurd cc
is_set (op.Jump target) g is = absurd cc
is_set (op.Zero target) g is = absurd cc
is_set (op.Choose goal) g is = absurd cc
is_set (op.Shift place) g is = absurd cc
is_set (op.Routine place) g is = absurd cc
is_set (op.Call it) g is = absurd cc
is_set op.Return g is = absurd cc
is_set op.Turn g is = absurd cc
is_set op.Mark g is = absurd cc
is_set (op.Pick target) g is = absurd cc
is_set (op.Bring place) g is = absurd cc
