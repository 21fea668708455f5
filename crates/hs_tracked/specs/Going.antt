-- Chains along an operation of a call, and what stays tracked by an operation that changes no variable, moves nothing and marks nothing (own).
--     IsAt here its               the operation that is next in the call, as the analysis knows it
--     leads                       a rule of the flow carries each chain on
--     Leaves                      the operation leaves blocks and variables as they were
--     stays_at                    the facts of a slot that the operation does not take: the row `stays`
--     goes_tracked                all that is tracked still is, if the places of the new stack and the cells are
use Rattle.std.proofs.Common.{◌≡◌, ◌<◌, ◌-◌, ℕ, zero, suc, Bool, true, false, List, [], ◌∷◌, length, slice_get, Option, Some, refl, sym, ap, ◌∙◌, subst, arith}
use Rattle.std.proofs.lemmas.Option.{none-some}
use Rattle.std.specs.List.{AllByRecursion}
use Rattle.hs_calls.specs.Calls.{Here, Wait, moved}
use Rattle.hs_chains.specs.Chains.{FollowsIn, FollowsOf, goes as goes_along}
use Rattle.hs_chains.specs.Knowledge.{Knowledge}
use Rattle.hs_code.specs.Following.{IsNext, IsNextOf}
use Rattle.hs_code.specs.Stacks.{Scope}
use Rattle.hs_code.specs.declared.function_code.Placed.{Placed}
use Rattle.hs_code.specs.declared.op.Op.{Op}
use Rattle.hs_facts.specs.Effects.{WholeCode, ops_in}
use Rattle.hs_facts.specs.Names.{taken}
use Rattle.hs_flow.specs.Among.{Among}
use Rattle.hs_flow.specs.Given.{Given}
use Rattle.hs_flow.specs.Laws.Coming as rows
use Rattle.hs_flow.specs.Laws.Staying.{LeavesSlots, is_below_of}
use Rattle.hs_flow.specs.Next.{at_slot, next_of}
use Rattle.hs_flow.specs.Programs.{scope_at}
use Rattle.hs_flow.specs.Slots.{is_below}
use Rattle.hs_flow.specs.declared.fact.Fact.{Fact}
use Rattle.hs_flow.specs.declared.fact.FactStatus.{FactStatus}
use Rattle.hs_flow.specs.declared.fact.FactStatus.TheVariants as status
use Rattle.hs_flow.specs.declared.fact.Slot as flow_slot
use Rattle.hs_flow.specs.declared.fact.Slot.TheVariants as slot
use Rattle.hs_heap.specs.Blocks.{Block}
use Rattle.hs_heap.specs.Memory.{block_at}
use Rattle.hs_hiding.specs.Holding.{value_of}
use Rattle.hs_meaning.specs.Machine.{Machine}
use Rattle.hs_meaning.specs.Values.{Value}
use Rattle.hs_must.specs.Answers.{names_in}
use Rattle.hs_sound_heap.specs.Since.{May, Since, IsThere}
use Rattle.hs_tracked.specs.Passing.{Brings, Passes, ClassesPass, PlacesPass, Undisturbed, IsQuiet, goes_on, pass_value, pass_places, pass_blocks, pass_objects, quiet_passes}
use Rattle.hs_tracked.specs.Tracking.{MeansHere, TrackedCells, TrackedPlaces, AreTracked}
use Rattle.hs_tree.specs.declared.head.Variable.{Variable}

-- The operation is there in the code of the function. What the analysis knows there is as many values as are on the stack, and the names of the function.
pub record IsAt (whole : WholeCode) (known : Knowledge) (here : Here) (its : Placed) : Type 0 where
  pub found : slice_get whole.functions here.fn ≡ Some here.function.code
  pub there : slice_get here.function.code.ops here.at ≡ Some its
  pub deep : (known.at here.fn here.at).places ≡ length here.stack
  pub names : (known.at here.fn here.at).names ≡ names_in whole here.fn

module _ (whole : WholeCode) (known : Knowledge) (here : Here) (machine : Machine) (ws : List Wait) (its : Placed) (is_at : IsAt whole known here its)
    (form : Op) (is : its.op ≡ form) (at : ℕ) (stack : List Value) (lasting : ℕ → Bool) (goes : IsNext form here.function.code.cases here.at at)
    (after : Machine) where
  -- the call after the operation
  abbrev pub next : Here
  next = moved here at stack lasting

  -- what the kinds of its operations depend on
  abbrev pub scope : Scope
  scope = scope_at whole here.fn

  -- what is known at the operation
  abbrev pub given : Given
  given = known.at here.fn here.at

  -- the facts after the operation
  abbrev pub After : FactStatus → flow_slot.Slot → List Fact
  After its of = next_of scope (length whole.classes) given form (at_slot its of)

  follows : FollowsIn whole here.fn here.at at
  follows =
      subst (λ code. FollowsOf code here.at at) (sym is_at.found)
      (subst (λ placed. IsNextOf placed here.function.code.cases here.at at) (sym is_at.there)
      (subst (λ o. IsNext o here.function.code.cases here.at at) (sym is) goes))

  -- what is among the facts after the operation carries each chain on
  pub leads : (of to : flow_slot.Slot) (old new : FactStatus) → Among (After old of) (at_slot new to)
      → Brings whole known here next machine after ws of to old new
  leads of to old new has n calls chain =
      goes_along n _ _ calls chain
      (record {
        its = its;
        there = ap (λ code. slice_get (ops_in code) here.at) is_at.found ∙ is_at.there;
        follows = follows;
        same = refl;
        has = subst (λ o. Among (next_of scope (length whole.classes) given o (at_slot old of)) (at_slot new to)) (sym is) has;
      })

  -- ---- slots that stay

  module _ (leaves_slots : LeavesSlots form) where
    -- a slot that the operation does not take
    pub stays_at : (of : flow_slot.Slot) → is_below (given.places - taken scope form) of ≡ true → (its : FactStatus)
        → Brings whole known here next machine after ws of of its its
    stays_at of low its = leads of of its its (rows.stays scope (length whole.classes) given form its of leaves_slots low)

  -- ---- blocks and variables that stay

  -- Blocks are where they were, and marked and purged only if they were. Variables have their values. What lasted still does.
  pub record Leaves : Type 0 where
    pub blocks : (n : ℕ) (block : Block) → block_at machine.blocks n ≡ Some block
        → Undisturbed whole known here next machine after ws block (block_at after.blocks n)
    pub values : (x : Variable) → value_of after x ≡ value_of machine x
    pub lasts : (n : ℕ) → here.lasting n ≡ true → lasting n ≡ true

  -- so it is, if the operation neither moves nor marks
  pub leaves_since : (may : May) → may.moves ≡ false → may.marks ≡ false → Since may machine.blocks after.blocks
      → ((x : Variable) → value_of after x ≡ value_of machine x) → ((n : ℕ) → here.lasting n ≡ true → lasting n ≡ true) → Leaves
  leaves_since may moves marks since values lasts = record { blocks = by_number; values = values; lasts = lasts }
    where
      by_there : (block : Block) (found : Option Block) → IsThere may block found → Undisturbed whole known here next machine after ws block found
      by_there block found its =
          record {
            block = its.block;
            there = its.there;
            epoch = its.since.epoch moves;
            marked = λ so. its.since.purgeable marks so;
            gone = λ so. its.since.unpurged moves so;
          }

      by_number : (n : ℕ) (block : Block) → block_at machine.blocks n ≡ Some block
          → Undisturbed whole known here next machine after ws block (block_at after.blocks n)
      by_number zero block there = absurd (none-some block there)
      by_number (suc i) block there = by_there block (slice_get after.blocks i) (since i block there)

  means_still : Leaves → (its : FactStatus) (n : ℕ) → MeansHere whole its here machine n → MeansHere whole its next after n
  means_still leaves (status.Fresh h) n means = (means.0, means.1, leaves.values means.0 ∙ means.2)
  means_still leaves status.Held n means = leaves.lasts n means
  means_still leaves status.Outer n means = tt
  means_still leaves status.Loose n means = tt
  means_still leaves other n means = absurd means

  pub quiet : Leaves → IsQuiet whole known here next machine after ws (λ its. its)
  quiet leaves =
      record {
        blocks = leaves.blocks;
        plain = (refl, refl, refl, refl);
        means = λ its n block there means. means_still leaves its n means;
        backed = λ its n calls backed. backed;
      }

  module _ (leaves : Leaves) where
    -- a value goes where each of its statuses goes
    pub value_goes : (of to : flow_slot.Slot) → ((its : FactStatus) → Among (After its of) (at_slot its to)) → (v : Value)
        → Passes whole known here next machine after ws of to v
    value_goes of to rule v =
        quiet_passes whole known here next machine after ws (λ its. its) (quiet leaves) of to (λ its. leads of to its its (rule its)) v

    module _ (leaves_slots : LeavesSlots form) where
      pub slot_passes : (of : flow_slot.Slot) → is_below (given.places - taken scope form) of ≡ true → (v : Value)
          → Passes whole known here next machine after ws of of v
      slot_passes of low v =
          quiet_passes whole known here next machine after ws (λ its. its) (quiet leaves) of of (stays_at leaves_slots of low) v

      pub classes : ClassesPass whole known here next machine after ws
      classes class v = slot_passes (slot.Class class) refl v

      places_pass : (rest : List Value) → ((i : ℕ) → i < length rest → is_below (given.places - taken scope form) (slot.Place i) ≡ true)
          → PlacesPass whole known here next machine after ws classes rest
      places_pass [] low = tt
      places_pass (v ∷ rest) low =
          (slot_passes (slot.Place (length rest)) (low (length rest) (omega arith)) v, places_pass rest (λ i is. low i (omega (arith, is))))

      -- the values below what it takes
      pub rest_stays : (rest : List Value) → given.places - taken scope form ≡ length rest → TrackedPlaces whole known here machine ws rest
          → TrackedPlaces whole known next after ws rest
      rest_stays rest so are =
          pass_places whole known here next machine after ws classes rest
          (places_pass rest (λ i low. is_below_of (given.places - taken scope form) i (subst (λ n. i < n) (sym so) low))) are

      -- all that is tracked still is
      pub goes_tracked : AreTracked whole known here machine ws → TrackedPlaces whole known next after ws stack
          → (AllByRecursion (λ block. TrackedCells whole known next after ws block.cells) machine.blocks
          → AllByRecursion (λ block. TrackedCells whole known next after ws block.cells) after.blocks)
          → (AllByRecursion (λ object. TrackedCells whole known next after ws object.cells) machine.objects
          → AllByRecursion (λ object. TrackedCells whole known next after ws object.cells) after.objects)
          → AreTracked whole known next after ws
      goes_tracked are places blocks objects =
          record {
            reached = goes_on whole known here next machine after ws slot.Nothing slot.Nothing status.Reached status.Reached
                (stays_at leaves_slots slot.Nothing refl status.Reached) are.reached;
            places = places;
            variables = λ x v holds.
                pass_value whole known here next machine after ws classes (slot.Variable x) (slot.Variable x) v (slot_passes (slot.Variable x) refl v)
                (are.variables x v (sym (leaves.values x) ∙ holds));
            blocks = blocks (pass_blocks whole known here next machine after ws classes machine.blocks are.blocks);
            objects = objects (pass_objects whole known here next machine after ws classes machine.objects are.objects);
          }
