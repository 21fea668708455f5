-- A return: the caller has what it left over the call, and what the function leaves to it (own).
--     IsReturn      a return of a function to the call that waits for it
--     returned      all that the caller has is tracked
--     all_returned  and so is all that the calls have that wait below it
use Rattle.std.proofs.Common.{◌≡◌, ◌<◌, ℕ, zero, suc, ◌-◌, nat_lt, true, false, List, [], ◌∷◌, length, slice_get, Some, refl, sym, ap, ◌∙◌, subst, arith}
use Rattle.std.proofs.lemmas.Bool.Decides.{nat_tests}
use Rattle.std.specs.List.{AllByRecursion}
use Rattle.hs_calls.specs.Calls.{Here, Wait, resumed, fixed_in}
use Rattle.hs_chains.specs.Knowledge.{Knowledge}
use Rattle.hs_code.specs.declared.function_code.Placed.{Placed}
use Rattle.hs_code.specs.declared.op.Op.TheVariants as op
use Rattle.hs_code_run.specs.Codes.{CodeProgram}
use Rattle.hs_code_run.specs.Steps.{below}
use Rattle.hs_facts.specs.Effects.{WholeCode}
use Rattle.hs_flow.specs.Calls.{Callee, assigned, base_of, goes_over}
use Rattle.hs_flow.specs.Given.{Given}
use Rattle.hs_flow.specs.Laws.Coming as rows
use Rattle.hs_flow.specs.Programs.{scope_at}
use Rattle.hs_flow.specs.declared.fact.Slot.TheVariants as slot
use Rattle.hs_heap.specs.Blocks.{Block}
use Rattle.hs_heap.specs.declared.cell.Cell.{Cell}
use Rattle.hs_hiding.specs.Calls.{closed_same}
use Rattle.hs_hiding.specs.Holding.{value_of}
use Rattle.hs_meaning.specs.Frames.{closed}
use Rattle.hs_meaning.specs.Machine.{Machine, Object, value_of_slot}
use Rattle.hs_meaning.specs.Values.{Value}
use Rattle.hs_sound_heap.specs.Since.{Since}
use Rattle.hs_tracked.specs.Cells.{each_block, each_object, objects_ended}
use Rattle.hs_tracked.specs.Going.{IsAt}
use Rattle.hs_tracked.specs.Leaving.{Exits, leave_cells, leave_value}
use Rattle.hs_tracked.specs.Over.{does, over_value, over_reached}
use Rattle.hs_tracked.specs.Right.{AreRight}
use Rattle.hs_tracked.specs.Tracking.{TrackedCell, TrackedCells, TrackedPlaces, Tracked, AreTracked, AreAllTracked}
use Rattle.hs_tree.specs.declared.head.Variable.{Variable}
use Rattle.hs_tree.specs.declared.head.Variable.TheVariants as name
use Rattle.hs_truth.specs.Places.{at_place, below_place, place_low, the_top, under_top}

-- A return of a function to the call that waits for it. Since the call, blocks are as the function may have left them, and so are globals; what could
-- not move is known to have lasted, if the function unlocks nothing. The caller has as many values left as the function did not take.
pub record IsReturn (whole : WholeCode) (known : Knowledge) (here : Here) (machine : Machine) (w : Wait) (return its : Placed) : Type 0 where
  pub is_at : IsAt whole known here return
  pub returns : return.op ≡ op.Return
  pub same : here.fn ≡ w.called
  pub called_at : IsAt whole known w.here its
  pub calls : its.op ≡ op.Call w.called
  pub of_function : w.called < length whole.functions
  pub right : AreRight whole known w.here w.machine
  pub since : Since (does (known.of w.called)) w.machine.blocks machine.blocks
  pub through : (known.of w.called).unlocks ≡ false → (n : ℕ) → fixed_in w.machine n ≡ true → here.lasting n ≡ true
  pub globals : (g : ℕ) → (known.of w.called).assigns g ≡ false → slice_get machine.globals g ≡ slice_get w.machine.globals g
  pub deep : base_of (known.of w.called).parameters (known.at w.here.fn w.here.at) ≡ length (below w.callee.parameters w.here.stack)

module _ (whole : WholeCode) (known : Knowledge) (here : Here) (machine : Machine) (w : Wait) (ws : List Wait) (return its : Placed)
    (is : IsReturn whole known here machine w return its) (value : Value) (rest : List Value) (so : here.stack ≡ value ∷ rest) where
  -- what is known at the call
  abbrev facts : Given
  facts = known.at w.here.fn w.here.at

  -- and of the function
  abbrev callee : Callee
  callee = known.of w.called

  -- the machine after the return
  abbrev pub after : Machine
  after = closed w.machine.locals machine

  -- the call of the caller goes on
  abbrev pub next : Here
  next = resumed w value here.lasting

  same_blocks : after.blocks ≡ machine.blocks
  same_blocks = (closed_same w.machine.locals machine).blocks

  -- variables of the caller, and globals that the function does not assign
  pub values : (x : Variable) → assigned callee x ≡ false → value_of after x ≡ value_of w.machine x
  values (name.Local l) none = refl
  values (name.Global g) none =
      ap value_of_slot (ap (λ gs. slice_get gs g) (closed_same w.machine.locals machine).globals ∙ is.globals g none)

  values_of : (x : Variable) → assigned (known.of here.fn) x ≡ false → value_of after x ≡ value_of w.machine x
  values_of x none = values x (ap (λ fn. assigned (known.of fn) x) (sym is.same) ∙ none)

  calls_here : its.op ≡ op.Call here.fn
  calls_here = is.calls ∙ ap op.Call (sym is.same)

  there_here : here.fn < length whole.functions
  there_here = subst (λ fn. fn < length whole.functions) (sym is.same) is.of_function

  -- ---- what the function leaves

  class_exits : (class : ℕ) → Exits whole known here machine w ws after value return its is.is_at is.returns is.called_at calls_here there_here same_blocks
      values_of (slot.Class class) (slot.Class class) (slot.Class class)
  class_exits class =
      record {
        exits = λ status. rows.return_stays (scope_at whole here.fn) (length whole.classes) (known.at here.fn here.at) status (slot.Class class) tt;
        left = refl;
      }

  global_exits : (g : ℕ) → Exits whole known here machine w ws after value return its is.is_at is.returns is.called_at calls_here there_here same_blocks
      values_of (slot.Variable (name.Global g)) (slot.Variable (name.Global g)) (slot.Variable (name.Global g))
  global_exits g =
      record {
        exits = λ status. rows.return_stays (scope_at whole here.fn) (length whole.classes) (known.at here.fn here.at) status
            (slot.Variable (name.Global g)) tt;
        left = refl;
      }

  result_exits : Exits whole known here machine w ws after value return its is.is_at is.returns is.called_at calls_here there_here same_blocks values_of
      (slot.Place ((known.at here.fn here.at).places - 1)) slot.Answer (slot.Place (base_of (known.of here.fn).parameters facts))
  result_exits =
      record {
        exits = rows.return_answers (scope_at whole here.fn) (length whole.classes) (known.at here.fn here.at);
        left = refl;
      }

  cells : (its' : List Cell) → TrackedCells whole known here machine (w ∷ ws) its'
      → TrackedCells whole known next after ws its'
  cells =
      leave_cells whole known here machine w ws after value return its is.is_at is.returns is.called_at calls_here there_here same_blocks values_of class_exits

  left_blocks : (blocks : List Block) → AllByRecursion (λ block. TrackedCells whole known here machine (w ∷ ws) block.cells) blocks
      → AllByRecursion (λ block. TrackedCells whole known next after ws block.cells) blocks
  left_blocks =
      each_block (TrackedCell whole known here machine (w ∷ ws)) (TrackedCell whole known next after ws) cells

  left_objects : (objects : List Object) → AllByRecursion (λ object. TrackedCells whole known here machine (w ∷ ws) object.cells) objects
      → AllByRecursion (λ object. TrackedCells whole known next after ws object.cells) objects
  left_objects =
      each_object (TrackedCell whole known here machine (w ∷ ws)) (TrackedCell whole known next after ws) cells

  -- ---- what the caller has left

  pub since_after : Since (does callee) w.machine.blocks after.blocks
  since_after = subst (Since (does callee) w.machine.blocks) (sym same_blocks) is.since

  places_below : (k : ℕ) (stack : List Value) → TrackedPlaces whole known w.here w.machine ws stack
      → TrackedPlaces whole known w.here w.machine ws (below k stack)
  places_below zero stack are = are
  places_below (suc k) [] are = tt
  places_below (suc k) (v ∷ stack) are = places_below k stack are.1

  over_places : (stack : List Value) → ((i : ℕ) (v : Value) → at_place i stack ≡ Some v → at_place i w.here.stack ≡ Some v)
      → ((i : ℕ) → i < length stack → goes_over callee facts (slot.Place i) ≡ true) → TrackedPlaces whole known w.here w.machine ws stack
      → TrackedPlaces whole known next after ws stack
  over_places [] same low are = tt
  over_places (v ∷ stack) same low are = (
    over_value whole known w ws after value here.lasting its is.called_at is.calls is.of_function is.right since_after is.through values
        (slot.Place (length stack)) (low (length stack) (omega arith)) v (same (length stack) v (the_top (length stack) v stack refl)) are.0,
    over_places stack (λ i u has. same i u (under_top i v stack (place_low i stack u has) ∙ has)) (λ i under. low i (omega (arith, under))) are.1,
  )

  -- ---- the law

  pub returned : AreTracked whole known here machine (w ∷ ws) → AreTracked whole known w.here w.machine ws → AreTracked whole known next after ws
  returned are waiting =
      record {
        reached = over_reached whole known w ws after value here.lasting its is.called_at is.calls is.of_function is.right since_after is.through values
            waiting.reached;
        places = (result, over_places (below w.callee.parameters w.here.stack) same low (places_below w.callee.parameters w.here.stack waiting.places));
        variables = by_variable;
        blocks = subst (AllByRecursion (λ block. TrackedCells whole known next after ws block.cells)) (sym same_blocks) (left_blocks machine.blocks are.blocks);
        objects = objects_ended (TrackedCell whole known next after ws) machine.locals machine (left_objects machine.objects are.objects);
      }
    where
      top : (known.at here.fn here.at).places - 1 ≡ length rest
      top = less (length rest) ((known.at here.fn here.at).places) (is.is_at.deep ∙ ap length so)
        where
          less : (a b : ℕ) → b ≡ suc a → b - 1 ≡ a
          less a b is = omega (arith, is)

      base : base_of (known.of here.fn).parameters facts ≡ length (below w.callee.parameters w.here.stack)
      base = ap (λ fn. base_of (known.of fn).parameters facts) is.same ∙ is.deep

      result : Tracked whole known next after ws (slot.Place (length (below w.callee.parameters w.here.stack))) value
      result =
          subst (λ i. Tracked whole known next after ws (slot.Place i) value) base
          (leave_value whole known here machine w ws after value return its is.is_at is.returns is.called_at calls_here there_here same_blocks values_of
          class_exits (slot.Place ((known.at here.fn here.at).places - 1)) slot.Answer (slot.Place (base_of (known.of here.fn).parameters facts)) result_exits
          value (subst (λ i. Tracked whole known here machine (w ∷ ws) (slot.Place i) value) (sym top)
          (subst (TrackedPlaces whole known here machine (w ∷ ws)) so are.places).0))

      same : (i : ℕ) (v : Value) → at_place i (below w.callee.parameters w.here.stack) ≡ Some v → at_place i w.here.stack ≡ Some v
      same i v has =
          sym (below_place i w.callee.parameters w.here.stack (place_low i (below w.callee.parameters w.here.stack) v has)) ∙ has

      low : (i : ℕ) → i < length (below w.callee.parameters w.here.stack) → goes_over callee facts (slot.Place i) ≡ true
      low i under = test i (base_of callee.parameters facts) (subst (λ n. i < n) (sym is.deep) under)
        where
          test : (a b : ℕ) → a < b → nat_lt a b ≡ true
          test a b less = grind (less, arith, nat_tests)

      by_variable : (x : Variable) (v : Value) → value_of after x ≡ Some v → Tracked whole known next after ws (slot.Variable x) v
      by_variable (name.Local l) v holds =
          over_value whole known w ws after value here.lasting its is.called_at is.calls is.of_function is.right since_after is.through values
          (slot.Variable (name.Local l)) refl v holds (waiting.variables (name.Local l) v holds)
      by_variable (name.Global g) v holds =
          leave_value whole known here machine w ws after value return its is.is_at is.returns is.called_at calls_here there_here same_blocks values_of
          class_exits (slot.Variable (name.Global g)) (slot.Variable (name.Global g)) (slot.Variable (name.Global g)) (global_exits g) v
          (are.variables (name.Global g) v
          (sym (ap value_of_slot (ap (λ gs. slice_get gs g) (closed_same w.machine.locals machine).globals)) ∙ holds))

  -- The call of the caller goes on, and each call that waits below it is as it was.
  pub all_returned : (program : CodeProgram) → AreAllTracked whole known program here machine (w ∷ ws) → AreAllTracked whole known program next after ws
  all_returned program all = by_waiting ws all.2 (returned all.0 (first ws all.2))
    where
      first : (vs : List Wait) → AreAllTracked whole known program w.here w.machine vs → AreTracked whole known w.here w.machine vs
      first [] all = all
      first (v ∷ vs) all = all.0

      by_waiting : (vs : List Wait) → AreAllTracked whole known program w.here w.machine vs → AreTracked whole known next after vs
          → AreAllTracked whole known program next after vs
      by_waiting [] all are = are
      by_waiting (v ∷ vs) all are = (are, all.1, all.2)
