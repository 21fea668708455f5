-- What the machine does at a role that takes a handle: the argument is NIL, or one block is changed (own).
--     taken_handle         a role that does not stop
--     changed_one          the block that it changed
use Rattle.std.proofs.Common.{◌≡◌, ◌⊎◌, inl, inr, ℕ, zero, suc, ◌-◌, List, [], ◌∷◌, slice_get, slice_set, Option, Some, None, Result, Ok, Err, refl, sym, ap, ◌∙◌, arith}
use Rattle.std.proofs.lemmas.Option.{none-some}
use Rattle.hs_base.specs.Entries.{set_there}
use Rattle.hs_heap.specs.Blocks.{Block}
use Rattle.hs_heap.specs.Memory.{block_at, put_block}
use Rattle.hs_heap.specs.declared.cell.Pointer.TheVariants.{Nil, Fixed, Handle, Spot}
use Rattle.hs_heap.specs.declared.stop.HeapStop.{HeapStop}
use Rattle.hs_hiding.specs.Disposing.{other_block}
use Rattle.hs_hiding.specs.Holding.{value_of, Cells}
use Rattle.hs_hiding.specs.Roles.{LeavesCells, changed_lacks}
use Rattle.hs_lowering.specs.Laws.Variables.{SameVariables}
use Rattle.hs_meaning.specs.Handles.{handle_stop, handle_stop_in, with_result, changed_in, changed_by}
use Rattle.hs_meaning.specs.Machine.{Machine, value_of_slot}
use Rattle.hs_meaning.specs.Roles.{handle_stops}
use Rattle.hs_meaning.specs.Stops.{first_stop, heap_stop}
use Rattle.hs_meaning.specs.Values.{Value, number, pointer, state, structure}
use Rattle.hs_meaning.specs.declared.outcome.Stop.{Stop}
use Rattle.hs_role_truth.specs.Handled.{OneBlock}
use Rattle.hs_tree.specs.declared.head.Variable.{Variable}
use Rattle.hs_tree.specs.declared.head.Variable.TheVariants as name

-- the block of the handle, before and after
pub record Taken (A : Type 0) (role : Block → Result A HeapStop) (v : Value) (machine : Machine) : Type 0 where
  pub n : ℕ
  pub before : Block
  pub new : A
  pub handle : v ≡ pointer (Handle n)
  pub there : block_at machine.blocks n ≡ Some before
  pub acts : role before ≡ Ok new

stop_is : (why : Option Stop) → first_stop (why ∷ []) ≡ None → why ≡ None
stop_is None is = refl
stop_is (Some why) is = is

-- it does not stop: NIL, or a block on which the role acts
pub taken_handle : (A : Type 0) (role : Block → Result A HeapStop) (v : Value) (machine : Machine) → first_stop (handle_stops role v machine) ≡ None
    → (v ≡ pointer Nil) ⊎ Taken A role v machine
taken_handle A role (number bits) machine is = absurd cc
taken_handle A role (state byte) machine is = absurd cc
taken_handle A role (structure cells) machine is = absurd cc
taken_handle A role (pointer Nil) machine is = inl refl
taken_handle A role (pointer (Fixed object at)) machine is = absurd cc
taken_handle A role (pointer (Spot s)) machine is = absurd cc
taken_handle A role (pointer (Handle k)) machine is =
    by_block (block_at machine.blocks k) refl (stop_is (handle_stop role (Handle k) machine) is)
  where
    by_role : (b : Block) → block_at machine.blocks k ≡ Some b → (r : Result A HeapStop) → role b ≡ r → heap_stop r ≡ None
        → (pointer (Handle k) ≡ pointer Nil) ⊎ Taken A role (pointer (Handle k)) machine
    by_role b there (Ok new) acts none = inr (record { n = k; before = b; new = new; handle = refl; there = there; acts = acts })
    by_role b there (Err why) acts none = absurd cc

    by_block : (found : Option Block) → block_at machine.blocks k ≡ found → handle_stop_in role found ≡ None
        → (pointer (Handle k) ≡ pointer Nil) ⊎ Taken A role (pointer (Handle k)) machine
    by_block None there none = absurd cc
    by_block (Some b) there none = by_role b there (role b) refl none

one_less : (a : ℕ) → suc a - 1 ≡ a
one_less a = omega arith

put_there : (blocks : List Block) (n : ℕ) (before new : Block) → block_at blocks n ≡ Some before → block_at (put_block blocks n new) n ≡ Some new
put_there blocks zero before new there = absurd (none-some before there)
put_there blocks (suc k) before new there =
    ap (λ i. slice_get (slice_set blocks i new) k) (one_less k) ∙ set_there blocks k before new there

-- the machine after it
module _ (role : Block → Result Block HeapStop) (machine : Machine) (n : ℕ) (before new : Block) (there : block_at machine.blocks n ≡ Some before)
    (acts : role before ≡ Ok new) (leaves : (k : ℕ) (block : Block) → Cells k block.cells → LeavesCells k (role block)) where
  -- the machine after the role
  abbrev pub after : Machine
  after = changed_by role (Handle n) machine

  blocks_are : after.blocks ≡ put_block machine.blocks n new
  blocks_are = ap (λ found. (changed_in role n found machine).blocks) there ∙ ap (λ r. (with_result n r machine).blocks) acts

  changed_variables : SameVariables machine after
  changed_variables = by_block (block_at machine.blocks n)
    where
      by_result : (r : Result Block HeapStop) → SameVariables machine (with_result n r machine)
      by_result (Ok new) = (refl, refl)
      by_result (Err why) = (refl, refl)

      by_block : (found : Option Block) → SameVariables machine (changed_in role n found machine)
      by_block None = (refl, refl)
      by_block (Some b) = by_result (role b)

  value_same : (x : Variable) → value_of after x ≡ value_of machine x
  value_same (name.Global g) = ap (λ gs. value_of_slot (slice_get gs g)) (changed_variables.0)
  value_same (name.Local i) = ap (λ gs. value_of_slot (slice_get gs i)) (changed_variables.1)

  pub changed_one : OneBlock machine after n before new
  changed_one =
      record {
        there = there;
        now = ap (λ bs. block_at bs n) blocks_are ∙ put_there machine.blocks n before new there;
        others = λ k other. ap (λ bs. block_at bs k) blocks_are ∙ other_block k machine.blocks n before new there (λ so. other (sym so));
        values = value_same;
        lacks = λ k are. changed_lacks k role (Handle n) machine (leaves k) are;
      }
