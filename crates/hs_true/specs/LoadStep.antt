-- The step of a load: a handle whose master pointer is read is live (own).
--     load_goes
use Rattle.std.proofs.Common.{◌≡◌, ◌<◌, ◌-◌, ℕ, suc, Bool, true, false, List, [], ◌∷◌, length, Option, Some, None, refl, sym, ap, ◌∙◌, subst, arith, slice_get, pos}
use Rattle.hs_calls.specs.Calls.{Here, Wait, point_of}
use Rattle.hs_calls.specs.Stacks.{RanTo, Stays}
use Rattle.hs_code.specs.Following.{IsNext}
use Rattle.hs_code.specs.Stacks.{Scope}
use Rattle.hs_code.specs.declared.function_code.Placed.{Placed}
use Rattle.hs_code.specs.declared.op.Access as code_access
use Rattle.hs_code.specs.declared.op.Op.TheVariants as op
use Rattle.hs_code_run.specs.Codes.{CodeProgram, scope_of, Point}
use Rattle.hs_code_run.specs.Steps.{taken, below, access_of, operates}
use Rattle.hs_facts.specs.Changes as changes
use Rattle.hs_facts.specs.Changes.{Impact, UsedIf}
use Rattle.hs_facts.specs.MustFacts.{MustFact, With, Saved, Kept, Locked, Live, Distinct, New, Under}
use Rattle.hs_heap.specs.Blocks.{Block, master_of, standing, by_standing, is_disposed}
use Rattle.hs_heap.specs.Memory.{block_at}
use Rattle.hs_heap.specs.declared.cell.Pointer.{Pointer}
use Rattle.hs_heap.specs.declared.cell.Pointer.TheVariants.{Nil, Handle, Fixed, Spot}
use Rattle.hs_heap.specs.declared.cell.Spot as spot
use Rattle.hs_heap.specs.declared.presence.Presence.{Presence}
use Rattle.hs_heap.specs.declared.presence.Presence.TheVariants as presence
use Rattle.hs_hiding.specs.Blocks.{alive_since}
use Rattle.hs_hiding.specs.Holding.{value_of, IsAlive}
use Rattle.hs_meaning.specs.Accesses.{loaded, master_in, master_pointer}
use Rattle.hs_meaning.specs.Machine.{Machine, done}
use Rattle.hs_meaning.specs.Operations as operation
use Rattle.hs_meaning.specs.Operations.{operate}
use Rattle.hs_meaning.specs.Steps.{State}
use Rattle.hs_meaning.specs.Stops.{first_stop, heap_stop}
use Rattle.hs_meaning.specs.Values.{Value, number, pointer, state, structure, Access, of_number, of_pointer, of_struct}
use Rattle.hs_meaning.specs.declared.outcome.Outcome.{Outcome}
use Rattle.hs_meaning.specs.declared.outcome.Stop.{Stop}
use Rattle.hs_sound_heap.specs.Roles.{nothing}
use Rattle.hs_sound_heap.specs.Since.{May, Since}
use Rattle.hs_tree.specs.declared.head.Variable.{Variable}
use Rattle.hs_truth.specs.Bare.{of_op}
use Rattle.hs_truth.specs.Good.{Good}
use Rattle.hs_truth.specs.Linked.{since_of}
use Rattle.hs_truth.specs.Owing.{operates_good}
use Rattle.hs_truth.specs.Places.{at_place, the_top}
use Rattle.hs_truth.specs.Quiet.{live_true}
use Rattle.hs_truth.specs.Truth.{SoundAt, LiveValue}
use Rattle.hs_truth.specs.Values.{done_since, new_after, done_of, values_after, next_value, globals_after, places_after}

-- ---- a load of a master pointer

not_disposed : (k : ℕ) (block : Block) → heap_stop (master_of k block) ≡ None → is_disposed block.presence ≡ false
not_disposed k block is = by_presence block.presence is
  where
    by_presence : (it : Presence)
        → heap_stop {A = Option spot.Spot}
        (by_standing (Some (record { block = k; life = block.life; epoch = block.epoch; offset = pos 0 })) None (standing it)) ≡ None
        → is_disposed it ≡ false
    by_presence presence.Present is = refl
    by_presence presence.Emptied is = refl
    by_presence presence.Purged is = refl
    by_presence presence.Disposed is = absurd cc

-- a handle through which a pointer is loaded is not disposed of
loaded_alive : (access : Access) (p : Pointer) (machine : Machine) (v : Value) (after : Machine) → loaded access p machine ≡ done v after → (n : ℕ)
    → p ≡ Handle n → IsAlive machine n
loaded_alive access Nil machine v after ran n is = absurd cc
loaded_alive access (Fixed object at) machine v after ran n is = absurd cc
loaded_alive access (Spot its) machine v after ran n is = absurd cc
loaded_alive (of_number kind) (Handle k) machine v after ran n is = absurd cc
loaded_alive (of_struct size) (Handle k) machine v after ran n is = absurd cc
loaded_alive (of_pointer class) (Handle k) machine v after ran n is =
    subst (IsAlive machine) (same_handle k n is) (by_block (block_at machine.blocks k) refl ran)
  where
    same_handle : (a b : ℕ) → Handle a ≡ Handle b → a ≡ b
    same_handle a b so = cc

    first_none : (why : Option Stop) → first_stop (why ∷ []) ≡ None → why ≡ None
    first_none None so = refl
    first_none (Some why) so = so

    by_block : (found : Option Block) → block_at machine.blocks k ≡ found → master_in k machine found ≡ done v after → IsAlive machine k
    by_block None there so = absurd cc
    by_block (Some b) there so =
        record {
          block = b;
          there = there;
          alive = not_disposed k b (first_none (heap_stop (master_of k b))
              (done_of (heap_stop (master_of k b) ∷ []) (pointer (master_pointer (master_of k b))) machine machine v after so).0);
        }

module _ (program : CodeProgram) (may : ℕ → May) (sets : ℕ → ℕ → Bool) (impact : Impact) (E : Outcome → State → Type 0)
    (ends : (outcome : Outcome) (s : State) → E outcome s) (here : Here) (ws : List Wait) (choices : List Bool) (its : Placed) (s : State)
    (good : Good program may sets impact here s.machine ws) (there : slice_get here.function.code.ops here.at ≡ Some its)
    (deep : its.places ≡ length here.stack) where
  -- the point of the operation
  abbrev point : Point
  point = point_of here ws choices

  -- what facts of the function depend on
  abbrev scope : Scope
  scope = scope_of program here.function

  -- what a purgeable bit shows of the begin of the call
  abbrev marked_by : ℕ → Type 0
  marked_by = since_of may sets here.fn ws

  -- the call goes on
  abbrev GoesOn : Point → State → Type 0
  GoesOn = Stays program (Good program may sets impact) E here s.machine ws

  top_of : (u : Value) (rest : List Value) → here.stack ≡ u ∷ rest → its.places - 1 ≡ length rest
  top_of u rest so = ap (λ n. n - 1) (deep ∙ ap length so) ∙ one_less (length rest)
    where
      one_less : (a : ℕ) → suc a - 1 ≡ a
      one_less a = omega arith

  -- the handle that a name of the top has is not disposed of
  operand_alive : (its : Access) (u v : Value) (after : Machine) → operate program.setting (operation.load its) (u ∷ []) s.machine ≡ done v after
      → (n : ℕ) → u ≡ pointer (Handle n) → IsAlive s.machine n
  operand_alive its (pointer p) v after ran n is = loaded_alive its p s.machine v after ran n (same_pointer p (Handle n) is)
    where
      same_pointer : (a b : Pointer) → ◌≡◌ {A = Value} (pointer a) (pointer b) → a ≡ b
      same_pointer a b so = cc
  operand_alive its (number bits) v after ran n is = absurd cc
  operand_alive its (state byte) v after ran n is = absurd cc
  operand_alive its (structure cells) v after ran n is = absurd cc

  load_sound : (access : code_access.Access) → its.op ≡ op.Load access → (u : Value) (rest : List Value) → here.stack ≡ u ∷ rest → (v : Value)
      (after : Machine) → (ran : operate program.setting (operation.load (access_of access)) (taken 1 here.stack) s.machine ≡ done v after)
      → SoundAt scope here.function.code impact marked_by its here s.machine
      (next_value program may sets impact here ws its (operation.load (access_of access)) 1 s.machine good v after ran) after
  load_sound access is u rest so v after ran R names are =
      of_op program may sets impact here ws its s.machine good there R (op.Load access)
      (next_value program may sets impact here ws its (operation.load (access_of access)) 1 s.machine good v after ran) after is
      (live_true scope here.function.code R (changes.Stays scope here.function.code impact R (op.Load access) its.places)
      (changes.Brings scope here.function.code impact R (op.Load access) its.places) (length (below 1 here.stack)) here s.machine after marked_by are
      (suc here.at) (v ∷ below 1 here.stack) good.lasts values nothing since refl refl
      (λ fact keep. subst (λ k. Under k fact) first_is keep)
      (λ i low. places_after program may sets impact here ws its (operation.load (access_of access)) 1 s.machine good v after ran i low)
      (λ i n keep it. new_after program may sets impact here ws its (operation.load (access_of access)) 1 s.machine good v after ran i n
      (subst (λ k. i < k) first_is keep) it) lives)
    where
      first_is : its.places - 1 ≡ length (below 1 here.stack)
      first_is = top_of u rest so ∙ ap (λ stack. length (below 1 stack)) (sym so)

      values : (x : Variable) → value_of after x ≡ value_of s.machine x
      values = values_after program may sets impact here ws its (operation.load (access_of access)) 1 s.machine good v after ran refl

      since : Since nothing s.machine.blocks after.blocks
      since = done_since program may sets impact here ws its (operation.load (access_of access)) 1 s.machine good v after ran nothing tt

      top_value : at_place (its.places - 1) here.stack ≡ Some u
      top_value = ap (at_place (its.places - 1)) so ∙ the_top (its.places - 1) u rest (top_of u rest so)

      live : (x : Variable) → R (With (its.places - 1) x)
          → LiveValue (next_value program may sets impact here ws its (operation.load (access_of access)) 1 s.machine good v after ran) after x
      live x named = by_value (are.says (With (its.places - 1) x) named)
        where
          by_value : (w : Value) × (at_place (its.places - 1) here.stack ≡ Some w) × (value_of s.machine x ≡ Some w)
              → LiveValue (next_value program may sets impact here ws its (operation.load (access_of access)) 1 s.machine good v after ran) after x
          by_value old =
              record {
                value = u;
                holds = values x ∙ old.2 ∙ sym old.1 ∙ top_value;
                alive = λ n handle.
                    alive_since nothing s.machine after n since refl
                    (operand_alive (access_of access) u v after
                    (ap (λ stack. operate program.setting (operation.load (access_of access)) (taken 1 stack) s.machine) (sym so) ∙ ran) n handle);
              }

      lives : (fact : MustFact) → UsedIf R true (its.places - 1) fact
          → (x : Variable) × (fact ≡ Live x)
          × LiveValue (next_value program may sets impact here ws its (operation.load (access_of access)) 1 s.machine good v after ran) after x
      lives (Live x) it = (x, refl, live x it)
      lives (With i x) it = absurd it
      lives (Saved b x) it = absurd it
      lives (Kept b x) it = absurd it
      lives (Locked x) it = absurd it
      lives (Distinct x y) it = absurd it
      lives (New i) it = absurd it

  pub load_goes : (access : code_access.Access) → its.op ≡ op.Load access → (u : Value) (rest : List Value) → here.stack ≡ u ∷ rest
      → RanTo E GoesOn (operates program its.at point 1 (operation.load (access_of access)) s)
  load_goes access is u rest so =
      operates_good program may sets impact here ws its (operation.load (access_of access)) 1 s.machine good there
      (subst (λ o. IsNext o here.function.code.cases here.at (suc here.at)) (sym is) refl) E ends choices its.at s refl tt
      (λ v after ran. (
        globals_after program may sets impact here ws its (operation.load (access_of access)) 1 s.machine good v after ran refl,
        load_sound access is u rest so v after ran,
      ))
