-- What a function gets when it is called: arguments, globals, and what is in memory (own).
--     Gets of to         what is in the one slot of the caller is in the other of the function
--     enter_value        the rows `enter_held`, `enter_outer`, `enter_loose`, `enter_stays`
--     enter_reached      control is in the function
--     argument_gets      an argument for a parameter that is a slot: the row `entered_argument`
use Rattle.std.proofs.Common.{◌≡◌, ◌<◌, inl, inr, ℕ, suc, ◌+◌, ◌-◌, Bool, true, false, List, [], ◌∷◌, length, slice_get, Option, Some, refl, ap, ◌∙◌, arith}
use Rattle.hs_calls.specs.Calls.{Here, Wait, beginning}
use Rattle.hs_chains.specs.Chains.{enters as chain_in}
use Rattle.hs_chains.specs.Knowledge.{Knowledge}
use Rattle.hs_code.specs.declared.function_code.Placed.{Placed}
use Rattle.hs_code.specs.declared.op.Op.TheVariants as op
use Rattle.hs_code_run.specs.Codes.{CodeFunction}
use Rattle.hs_facts.specs.Effects.{WholeCode, ops_in}
use Rattle.hs_flow.specs.Calls.{at_some, base_of, enter_of, entered, to_parameter}
use Rattle.hs_flow.specs.Given.{Given}
use Rattle.hs_flow.specs.Laws.Calling as rows
use Rattle.hs_flow.specs.Next.{at_slot}
use Rattle.hs_flow.specs.Programs.{parameters_of}
use Rattle.hs_flow.specs.declared.fact.FactStatus.{FactStatus}
use Rattle.hs_flow.specs.declared.fact.FactStatus.TheVariants as status
use Rattle.hs_flow.specs.declared.fact.Slot as flow_slot
use Rattle.hs_flow.specs.declared.fact.Slot.TheVariants as slot
use Rattle.hs_heap.specs.Memory.{block_at}
use Rattle.hs_heap.specs.declared.cell.Cell.{Cell}
use Rattle.hs_heap.specs.declared.cell.Cell.TheVariants.{Undefined, Byte, State, Part}
use Rattle.hs_heap.specs.declared.cell.Pointer.{Pointer}
use Rattle.hs_heap.specs.declared.cell.Pointer.TheVariants.{Nil, Fixed, Handle, Spot}
use Rattle.hs_heap.specs.declared.cell.Spot as spot
use Rattle.hs_meaning.specs.Machine.{Machine}
use Rattle.hs_meaning.specs.Values.{Value, number, pointer, state, structure}
use Rattle.hs_must.specs.Answers.{names_in}
use Rattle.hs_tracked.specs.Going.{IsAt}
use Rattle.hs_tracked.specs.Right.{AreRight, named_fixed}
use Rattle.hs_tracked.specs.Tracking.{mark_of, NameHolds, MeansHere, Backed, HasChain, Current, TrackedSpot, TrackedHandle, TrackedPointer, TrackedCell, TrackedCells, Tracked}

module _ (whole : WholeCode) (known : Knowledge) (here : Here) (machine : Machine) (ws : List Wait) (its : Placed) (is_at : IsAt whole known here its)
    (fn : ℕ) (function : CodeFunction) (calls : its.op ≡ op.Call fn) (of_function : fn < length whole.functions)
    (right : AreRight whole known here machine) (after : Machine) (blocks : after.blocks ≡ machine.blocks) where
  -- what is known at the call
  abbrev facts : Given
  facts = known.at here.fn here.at

  -- where arguments go
  abbrev parameters : List (Option flow_slot.Slot)
  parameters = parameters_of whole fn

  -- the call that waits
  abbrev pub waiting : Wait
  waiting = record { here = here; machine = machine; called = fn; callee = function }

  -- the call that begins
  abbrev pub begin : Here
  begin = beginning fn function machine

  -- the slot of the function that gets what is in that one
  abbrev pub Gets : flow_slot.Slot → flow_slot.Slot → Type 0
  Gets of to = entered parameters facts of ≡ Some to

  module _ (of to : flow_slot.Slot) (gets : Gets of to) where
    -- each chain goes into the function, with the status that its fact has there
    abbrev into : (old new : FactStatus) → enter_of parameters facts (at_slot old of) ≡ at_some new (entered parameters facts of)
        → HasChain whole known here ws of old → HasChain whole known begin (waiting ∷ ws) to new
    into old new enters has =
        record {
          length = suc has.length;
          calls = mark_of here (at_slot old of) ∷ has.calls;
          chain = chain_in has.length _ _ has.calls has.chain
              (record {
                call = record {
                  its = its;
                  there = ap (λ code. slice_get (ops_in code) here.at) is_at.found ∙ is_at.there;
                  calls = calls;
                  of_function = of_function;
                };
                first = refl;
                has = enters ∙ ap (at_some new) gets;
              });
          same = (refl, refl, has.same);
        }

    module _ (its' : spot.Spot) (current : Current whole known here machine ws of its') where
      with_status : (new : FactStatus) (has : HasChain whole known begin (waiting ∷ ws) to new) → MeansHere whole new begin after its'.block
          → Backed whole new has.calls (waiting ∷ ws) its'.block → Current whole known begin after (waiting ∷ ws) to its'
      with_status new has means backed =
          record {
            block = current.block;
            there = ap (λ bs. block_at bs its'.block) blocks ∙ current.there;
            current = current.current;
            alive = current.alive;
            status = new;
            has = has;
            means = means;
            backed = backed;
          }

      by_lock : (h : ℕ) (has : HasChain whole known here ws of (status.Fresh h)) → NameHolds (names_in whole here.fn) machine h its'.block
          → Backed whole (status.Fresh h) has.calls ws its'.block → (z : Bool) → facts.locked h ≡ z
          → Current whole known begin after (waiting ∷ ws) to its'
      by_lock h has holds backed true locked =
          with_status status.Held (into (status.Fresh h) status.Held (rows.enter_held parameters facts h of locked) has)
          (named_fixed whole known here machine right h its'.block locked holds) (holds, backed)
      by_lock h has holds backed false locked =
          with_status status.Outer (into (status.Fresh h) status.Outer (rows.enter_outer parameters facts h of locked) has) tt (holds, backed)

      by_status : (old : FactStatus) (has : HasChain whole known here ws of old) → MeansHere whole old here machine its'.block
          → Backed whole old has.calls ws its'.block → Current whole known begin after (waiting ∷ ws) to its'
      by_status (status.Fresh h) has means backed = by_lock h has means backed (facts.locked h) refl
      by_status status.Held has means backed =
          with_status status.Held (into status.Held status.Held (rows.enter_stays parameters facts status.Held of tt) has) (right.lasts its'.block means)
          (means, backed)
      by_status status.Outer has means backed =
          with_status status.Outer (into status.Outer status.Outer (rows.enter_stays parameters facts status.Outer of tt) has) tt (means, backed)
      by_status status.Loose has means backed =
          with_status status.Outer (into status.Loose status.Outer (rows.enter_loose parameters facts of) has) tt (means, backed)
      by_status other has means backed = absurd means

    enter_spot : (its' : spot.Spot) → TrackedSpot whole known here machine ws of its' → TrackedSpot whole known begin after (waiting ∷ ws) to its'
    enter_spot its' (inl stale) = inl (into status.Stale status.Stale (rows.enter_stays parameters facts status.Stale of tt) stale)
    enter_spot its' (inr current) = inr (by_status its' current current.status current.has current.means current.backed)

    enter_handle : (n : ℕ) → TrackedHandle whole known here machine ws of n → TrackedHandle whole known begin after (waiting ∷ ws) to n
    enter_handle n h =
        record {
          block = h.block;
          there = ap (λ bs. block_at bs n) blocks ∙ h.there;
          is = into status.IsHandle status.IsHandle (rows.enter_stays parameters facts status.IsHandle of tt) h.is;
          marked = λ so. into status.Purgeable status.Purgeable (rows.enter_stays parameters facts status.Purgeable of tt) (h.marked so);
          gone = λ so. into status.Hollow status.Hollow (rows.enter_stays parameters facts status.Hollow of tt) (h.gone so);
        }

    pub enter_pointer : (p : Pointer) → TrackedPointer whole known here machine ws of p → TrackedPointer whole known begin after (waiting ∷ ws) to p
    enter_pointer Nil are = tt
    enter_pointer (Fixed object at) are = tt
    enter_pointer (Handle n) are = enter_handle n are
    enter_pointer (Spot its') are = enter_spot its' are

  -- ---- values

  enter_cell : (cell : Cell) → TrackedCell whole known here machine ws cell → TrackedCell whole known begin after (waiting ∷ ws) cell
  enter_cell Undefined are = tt
  enter_cell (Byte byte) are = tt
  enter_cell (State byte) are = tt
  enter_cell (Part at p class) are = enter_pointer (slot.Class class) (slot.Class class) refl p are

  -- what is in memory
  pub enter_cells : (cells : List Cell) → TrackedCells whole known here machine ws cells → TrackedCells whole known begin after (waiting ∷ ws) cells
  enter_cells [] are = tt
  enter_cells (cell ∷ cells) are = (enter_cell cell are.0, enter_cells cells are.1)

  -- A value that the function gets.
  pub enter_value : (of to : flow_slot.Slot) → Gets of to → (v : Value) → Tracked whole known here machine ws of v
      → Tracked whole known begin after (waiting ∷ ws) to v
  enter_value of to gets (number bits) are = tt
  enter_value of to gets (pointer p) are = enter_pointer of to gets p are
  enter_value of to gets (state byte) are = tt
  enter_value of to gets (structure cells) are = enter_cells cells are

  -- Control is in the function.
  pub enter_reached : HasChain whole known here ws slot.Nothing status.Reached → HasChain whole known begin (waiting ∷ ws) slot.Nothing status.Reached
  enter_reached has =
      into slot.Nothing slot.Nothing refl status.Reached status.Reached (rows.enter_stays parameters facts status.Reached slot.Nothing tt) has

  -- An argument goes where its parameter is.
  pub argument_gets : (place : ℕ) (to : flow_slot.Slot) → to_parameter (slice_get parameters place) ≡ Some to
      → Gets (slot.Place (base_of parameters facts + place)) to
  argument_gets place to there =
      rows.entered_argument parameters facts (base_of parameters facts + place) (omega arith)
      ∙ ap (λ i. to_parameter (slice_get parameters i)) (back (base_of parameters facts) place) ∙ there
    where
      back : (a b : ℕ) → a + b - a ≡ b
      back a b = omega arith
