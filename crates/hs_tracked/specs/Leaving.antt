-- What a call leaves to its caller: the result, globals, and what is in memory (own).
--     Exits of exit to       a return and then its call bring what is in the one slot to the other
--     leave_value            the rows `return_answers`, `return_stays`; `leave_stays`, `leave_fresh`, `leave_held`, `leave_outer`
use Rattle.std.proofs.Common.{◌≡◌, ◌<◌, inl, inr, ℕ, suc, true, false, ◌&&◌, List, [], ◌∷◌, length, slice_get, Some, refl, ap, ◌∙◌, subst}
use Rattle.hs_calls.specs.Calls.{Here, Wait, resumed}
use Rattle.hs_chains.specs.Chains.{Chain, Spot as Mark, leaves as chain_out}
use Rattle.hs_chains.specs.Knowledge.{Knowledge}
use Rattle.hs_code.specs.declared.function_code.Placed.{Placed}
use Rattle.hs_code.specs.declared.op.Op.TheVariants as op
use Rattle.hs_facts.specs.Effects.{WholeCode, ops_in}
use Rattle.hs_flow.specs.Among.{Among}
use Rattle.hs_flow.specs.Calls.{Callee, assigned, at_some, back, back_outer, left, leave_of}
use Rattle.hs_flow.specs.Given.{Given}
use Rattle.hs_flow.specs.Next.{at_slot}
use Rattle.hs_flow.specs.Programs.{next_in}
use Rattle.hs_flow.specs.declared.fact.Fact.{Fact}
use Rattle.hs_flow.specs.declared.fact.FactStatus.{FactStatus}
use Rattle.hs_flow.specs.declared.fact.FactStatus.TheVariants as status
use Rattle.hs_flow.specs.declared.fact.Slot as flow_slot
use Rattle.hs_flow.specs.declared.fact.Slot.TheVariants as slot
use Rattle.hs_heap.specs.Memory.{block_at}
use Rattle.hs_heap.specs.declared.cell.Cell.{Cell}
use Rattle.hs_heap.specs.declared.cell.Cell.TheVariants.{Undefined, Byte, State, Part}
use Rattle.hs_heap.specs.declared.cell.Pointer.{Pointer}
use Rattle.hs_heap.specs.declared.cell.Pointer.TheVariants.{Nil, Fixed, Handle, Spot}
use Rattle.hs_heap.specs.declared.cell.Spot as spot
use Rattle.hs_hiding.specs.Holding.{value_of}
use Rattle.hs_meaning.specs.Machine.{Machine}
use Rattle.hs_meaning.specs.Values.{Value, number, pointer, state, structure}
use Rattle.hs_tracked.specs.Going.{IsAt}
use Rattle.hs_tracked.specs.Over.{outer_backed, means_named, backed_named}
use Rattle.hs_tracked.specs.Passing.{loose_backed}
use Rattle.hs_tracked.specs.Tracking.{mark_of, AreCalls, MeansHere, Backed, HasChain, Current, TrackedSpot, TrackedHandle, TrackedPointer, TrackedCell, TrackedCells, Tracked}
use Rattle.hs_tree.specs.declared.head.Variable.{Variable}

-- a call by its function, its operation and its fact
mark_is : (here : Here) (c : Mark) → c.function ≡ here.fn → c.at ≡ here.at → c ≡ mark_of here c.fact
mark_is here c function at =
    ap (λ f. record { function = f; at = c.at; fact = c.fact }) function ∙ ap (λ a. record { function = here.fn; at = a; fact = c.fact }) at

module _ (whole : WholeCode) (known : Knowledge) (here : Here) (machine : Machine) (w : Wait) (ws : List Wait) (after : Machine) (value : Value)
    (return its : Placed) (is_at : IsAt whole known here return) (returns : return.op ≡ op.Return) (called_at : IsAt whole known w.here its)
    (calls : its.op ≡ op.Call here.fn) (of_function : here.fn < length whole.functions) (blocks : after.blocks ≡ machine.blocks)
    (values : (x : Variable) → assigned (known.of here.fn) x ≡ false → value_of after x ≡ value_of w.machine x) where
  -- what is known at the call
  abbrev facts : Given
  facts = known.at w.here.fn w.here.at

  -- and of the function that returns
  abbrev callee : Callee
  callee = known.of here.fn

  -- the call of the caller goes on
  abbrev pub next : Here
  next = resumed w value here.lasting

  -- What is in the slot at the return is in `exit` between the return and its call, and then in the other slot.
  pub record Exits (of exit to : flow_slot.Slot) : Type 0 where
    pub exits : (old : FactStatus) → Among (next_in whole here.fn (known.at here.fn here.at) op.Return (at_slot old of)) (at_slot old exit)
    pub left : left callee facts exit ≡ Some to

  module _ (of exit to : flow_slot.Slot) (slots : Exits of exit to) where
    -- ---- chains

    -- each chain goes on after the call on top, with the status that the caller's fact and the fact of the return give
    abbrev out : (old new : FactStatus) (n : ℕ) (c : Mark) (inside : List Mark) → Chain whole known n (mark_of here (at_slot old of)) (c ∷ inside)
        → AreCalls (c ∷ inside) (w ∷ ws) → leave_of callee facts c.fact (at_slot old exit) ≡ at_some new (left callee facts exit)
        → HasChain whole known next ws to new
    out old new n c inside chain same leaves =
        record {
          length = suc n;
          calls = inside;
          chain = chain_out n (mark_of w.here c.fact) _ _ inside
              (subst (λ m. Chain whole known n (mark_of here (at_slot old of)) (m ∷ inside)) (mark_is w.here c same.0 same.1) chain)
              (record {
                call = record {
                  its = its;
                  there = ap (λ code. slice_get (ops_in code) w.here.at) called_at.found ∙ called_at.there;
                  calls = calls;
                  of_function = of_function;
                };
                its = return;
                there = ap (λ code. slice_get (ops_in code) here.at) is_at.found ∙ is_at.there;
                returns = returns;
                exit = at_slot old exit;
                exits = slots.exits old;
                next = refl;
                same = refl;
                has = leaves ∙ ap (at_some new) slots.left;
              });
          same = same.2;
        }

    -- a status that leaves as itself
    out_same : (old : FactStatus) → ((fact : Fact) → leave_of callee facts fact (at_slot old exit) ≡ at_some old (left callee facts exit))
        → HasChain whole known here (w ∷ ws) of old → HasChain whole known next ws to old
    out_same old leaves has = by_calls has.calls has.chain has.same
      where
        by_calls : (inside : List Mark) → Chain whole known has.length (mark_of here (at_slot old of)) inside → AreCalls inside (w ∷ ws)
            → HasChain whole known next ws to old
        by_calls [] chain same = absurd same
        by_calls (c ∷ inside) chain same = out old old has.length c inside chain same (leaves c.fact)

    -- ---- what the caller's status says when it is back

    means_back : (caller : FactStatus) (n : ℕ) → here.lasting n ≡ true → MeansHere whole caller w.here w.machine n
        → MeansHere whole (back callee facts caller) next after n
    means_back (status.Fresh h) n lasting means = means_named whole known callee w ws called_at.names after values h n next.lasting means
    means_back status.Held n lasting means = ap (λ z. z && here.lasting n) means ∙ lasting
    means_back status.Outer n lasting means = tt
    means_back status.Loose n lasting means = tt
    means_back other n lasting means = absurd means

    means_outer : (caller : FactStatus) (n : ℕ) → MeansHere whole caller w.here w.machine n → MeansHere whole (back_outer callee facts caller) next after n
    means_outer (status.Fresh h) n means = means_named whole known callee w ws called_at.names after values h n next.lasting means
    means_outer status.Held n means = tt
    means_outer status.Outer n means = tt
    means_outer status.Loose n means = tt
    means_outer other n means = absurd means

    backed_back : (caller : FactStatus) (n : ℕ) (inside : List Mark) → Backed whole caller inside ws n
        → Backed whole (back callee facts caller) inside ws n
    backed_back (status.Fresh h) n inside backed = backed_named whole known callee w ws called_at.names after values h n inside
    backed_back other n inside backed = backed

    backed_outer : (caller : FactStatus) (n : ℕ) (inside : List Mark) → Backed whole caller inside ws n
        → Backed whole (back_outer callee facts caller) inside ws n
    backed_outer (status.Fresh h) n inside backed = backed_named whole known callee w ws called_at.names after values h n inside
    backed_outer status.Held n inside backed = outer_backed whole inside ws n backed
    backed_outer other n inside backed = backed

    -- ---- a pointer

    module _ (its' : spot.Spot) (current : Current whole known here machine (w ∷ ws) of its') where
      with_status : (new : FactStatus) (has : HasChain whole known next ws to new) → MeansHere whole new next after its'.block
          → Backed whole new has.calls ws its'.block → Current whole known next after ws to its'
      with_status new has means backed =
          record {
            block = current.block;
            there = ap (λ bs. block_at bs its'.block) blocks ∙ current.there;
            current = current.current;
            alive = current.alive;
            status = new;
            has = has;
            means = means;
            backed = backed;
          }

      by_status : (old : FactStatus) (n : ℕ) (c : Mark) (inside : List Mark) → Chain whole known n (mark_of here (at_slot old of)) (c ∷ inside)
          → AreCalls (c ∷ inside) (w ∷ ws) → MeansHere whole old here machine its'.block → Backed whole old (c ∷ inside) (w ∷ ws) its'.block
          → Current whole known next after ws to its'
      by_status (status.Fresh h) n c inside chain same means backed =
          with_status status.Loose (out (status.Fresh h) status.Loose n c inside chain same refl) tt (loose_backed whole inside ws its'.block)
      by_status status.Held n c inside chain same means backed =
          with_status (back callee facts c.fact.status) (out status.Held (back callee facts c.fact.status) n c inside chain same refl)
          (means_back c.fact.status its'.block means backed.0) (backed_back c.fact.status its'.block inside backed.1)
      by_status status.Outer n c inside chain same means backed =
          with_status (back_outer callee facts c.fact.status) (out status.Outer (back_outer callee facts c.fact.status) n c inside chain same refl)
          (means_outer c.fact.status its'.block backed.0) (backed_outer c.fact.status its'.block inside backed.1)
      by_status status.Loose n c inside chain same means backed =
          with_status status.Loose (out status.Loose status.Loose n c inside chain same refl) tt (loose_backed whole inside ws its'.block)
      by_status other n c inside chain same means backed = absurd means

      by_calls : (inside : List Mark) → Chain whole known current.has.length (mark_of here (at_slot current.status of)) inside → AreCalls inside (w ∷ ws)
          → Backed whole current.status inside (w ∷ ws) its'.block → Current whole known next after ws to its'
      by_calls [] chain same backed = absurd same
      by_calls (c ∷ inside) chain same backed = by_status current.status current.has.length c inside chain same current.means backed

    leave_spot : (its' : spot.Spot) → TrackedSpot whole known here machine (w ∷ ws) of its' → TrackedSpot whole known next after ws to its'
    leave_spot its' (inl stale) = inl (out_same status.Stale (λ fact. refl) stale)
    leave_spot its' (inr current) = inr (by_calls its' current current.has.calls current.has.chain current.has.same current.backed)

    -- ---- a handle

    leave_handle : (n : ℕ) → TrackedHandle whole known here machine (w ∷ ws) of n → TrackedHandle whole known next after ws to n
    leave_handle n h =
        record {
          block = h.block;
          there = ap (λ bs. block_at bs n) blocks ∙ h.there;
          is = out_same status.IsHandle (λ fact. refl) h.is;
          marked = λ so. out_same status.Purgeable (λ fact. refl) (h.marked so);
          gone = λ so. out_same status.Hollow (λ fact. refl) (h.gone so);
        }

    leave_pointer : (p : Pointer) → TrackedPointer whole known here machine (w ∷ ws) of p → TrackedPointer whole known next after ws to p
    leave_pointer Nil are = tt
    leave_pointer (Fixed object at) are = tt
    leave_pointer (Handle n) are = leave_handle n are
    leave_pointer (Spot its') are = leave_spot its' are

  -- ---- values

  module _ (classes : (class : ℕ) → Exits (slot.Class class) (slot.Class class) (slot.Class class)) where
    leave_cell : (cell : Cell) → TrackedCell whole known here machine (w ∷ ws) cell → TrackedCell whole known next after ws cell
    leave_cell Undefined are = tt
    leave_cell (Byte byte) are = tt
    leave_cell (State byte) are = tt
    leave_cell (Part at p class) are = leave_pointer (slot.Class class) (slot.Class class) (slot.Class class) (classes class) p are

    pub leave_cells : (cells : List Cell) → TrackedCells whole known here machine (w ∷ ws) cells → TrackedCells whole known next after ws cells
    leave_cells [] are = tt
    leave_cells (cell ∷ cells) are = (leave_cell cell are.0, leave_cells cells are.1)

    -- A value of the function that the caller gets.
    pub leave_value : (of exit to : flow_slot.Slot) → Exits of exit to → (v : Value) → Tracked whole known here machine (w ∷ ws) of v
        → Tracked whole known next after ws to v
    leave_value of exit to slots (number bits) are = tt
    leave_value of exit to slots (pointer p) are = leave_pointer of exit to slots p are
    leave_value of exit to slots (state byte) are = tt
    leave_value of exit to slots (structure cells) are = leave_cells cells are
