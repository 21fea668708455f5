-- The step of a routine: all that the call has stays tracked, and so do its state bytes (own).
--     tracked_below       the values below some
--     points_same         a pointer to a pointer
--     gives               what the routine leaves in memory, and what it gives
--     routine_tracked     the law
-- The words below are those of `Acting`, over the same operation.
use Rattle.std.proofs.Common.{◌≡◌, ◌<◌, ◌⊎◌, inl, inr, ℕ, zero, suc, ◌-◌, Bool, true, false, ◌&&◌, List, [], ◌∷◌, length, slice_get, Option, Some, None, refl, sym, ap, ◌∙◌, subst, true≢false}
use Rattle.std.proofs.lemmas.Option.{same_Some}
use Rattle.hs_calls.specs.Calls.{Here, Wait, moved, steady_in}
use Rattle.hs_chains.specs.Knowledge.{Knowledge, IsGiven as IsKnown}
use Rattle.hs_code.specs.Stacks.{Scope, routine_signature, signature_of}
use Rattle.hs_code.specs.declared.function_code.Placed.{Placed}
use Rattle.hs_code.specs.declared.op.Op.TheVariants as op
use Rattle.hs_code_run.specs.Codes.{CodeProgram, code_program, scope_of}
use Rattle.hs_code_run.specs.Steps.{taken, below, holds}
use Rattle.hs_facts.specs.Changes.{Impact, IsRestore}
use Rattle.hs_facts.specs.Effects.{WholeCode}
use Rattle.hs_facts.specs.MustFacts.{on_stack}
use Rattle.hs_facts.specs.Names.{gives_handle, is_pointer_in, makes_by, makes_handle, role_at, taken as taken_by}
use Rattle.hs_flow.specs.Given.{Given}
use Rattle.hs_flow.specs.Next.{reads_state, sets_state}
use Rattle.hs_flow.specs.Programs.{scope_at}
use Rattle.hs_flow.specs.declared.fact.Slot.TheVariants as slot
use Rattle.hs_heap.specs.declared.cell.Cell.{Cell}
use Rattle.hs_heap.specs.declared.cell.Cell.TheVariants.{Undefined, Byte}
use Rattle.hs_heap.specs.declared.cell.Pointer.TheVariants.{Nil, Fixed, Handle, Spot}
use Rattle.hs_hiding.specs.Holding.{OnDone}
use Rattle.hs_meaning.specs.Machine.{Machine, done}
use Rattle.hs_meaning.specs.Operations.{as_kind, called_by, is_plain}
use Rattle.hs_meaning.specs.Plain as filling
use Rattle.hs_meaning.specs.Plain.{plain}
use Rattle.hs_meaning.specs.Roles.{role_machine, role_stops, role_value}
use Rattle.hs_meaning.specs.Steps.{State}
use Rattle.hs_meaning.specs.Stops.{first_stop}
use Rattle.hs_meaning.specs.Values.{Value, number, pointer, state, structure}
use Rattle.hs_meaning.specs.declared.outcome.Outcome.{Outcome}
use Rattle.hs_role_truth.specs.RoleFacts.{Runs, called_runs}
use Rattle.hs_sound_heap.specs.Since.{May}
use Rattle.hs_table.specs.declared.role.Role.{Role}
use Rattle.hs_table.specs.declared.role.Role.TheVariants as role
use Rattle.hs_tracked.specs.Acting.{Before, ItActs, ItRestores, acts, base_is, done_as, reads, restores, role_is, values}
use Rattle.hs_tracked.specs.Bytes.{AreBytesTracked, AreKept, IsRead}
use Rattle.hs_tracked.specs.Calling.{made_value, routine}
use Rattle.hs_tracked.specs.Going.{IsAt}
use Rattle.hs_tracked.specs.Making.{Gets, HasAll, HasNoFacts, IsFresh, IsGiven, MakesHandle, kind_given, plain_gives, role_gives}
use Rattle.hs_tracked.specs.Reading.{bytes_routine, read_tracked}
use Rattle.hs_tracked.specs.Restorable.{AreListed, FitKinds, IsValueListed}
use Rattle.hs_tracked.specs.Restoring.{restored}
use Rattle.hs_tracked.specs.Right.{AreRight}
use Rattle.hs_tracked.specs.Tracking.{TrackedCell, Tracked, TrackedPlaces, AreTracked}
use Rattle.hs_tree.specs.Kinds.{number_kind, pointed}
use Rattle.hs_tree.specs.declared.function.BoundRoutine.{BoundRoutine}
use Rattle.hs_tree.specs.declared.function.Prototype.{Prototype}
use Rattle.hs_truth.specs.Good.{Good}
use Rattle.hs_truth.specs.Places.{all_below, at_place, below_place, place_low, the_top, under_top}
use Rattle.hs_types.specs.TypeTables.{TypeTable}
use Rattle.hs_types.specs.declared.row.TypeId.{TypeId}

-- the values below some are tracked as they were
pub tracked_below : (whole : WholeCode) (known : Knowledge) (here : Here) (machine : Machine) (ws : List Wait) (k : ℕ) (stack : List Value)
    → TrackedPlaces whole known here machine ws stack → TrackedPlaces whole known here machine ws (below k stack)
tracked_below whole known here machine ws zero stack are = are
tracked_below whole known here machine ws (suc k) [] are = are
tracked_below whole known here machine ws (suc k) (v ∷ stack) are = tracked_below whole known here machine ws k stack are.1

-- a pointer to a pointer, by the type of its target
points_same : (types : TypeTable) (target : Option TypeId) → filling.points_to_pointer types target ≡ is_pointer_in types target
points_same types None = refl
points_same types (Some id) = refl

module _ (whole : WholeCode) (known : Knowledge) (may : ℕ → May) (sets : ℕ → ℕ → Bool) (impact : Impact) (E : Outcome → State → Type 0)
    (ends : (outcome : Outcome) (s : State) → E outcome s) (here : Here) (ws : List Wait) (choices : List Bool) (its : Placed) (s : State)
    (good : Good (code_program whole.program whole.functions) may sets impact here s.machine ws) (deep : its.places ≡ length here.stack)
    (is_at : IsAt whole known here its) (right : AreRight whole known here s.machine) (p : ℕ) (is : its.op ≡ op.Routine p) (it : BoundRoutine)
    (found : slice_get whole.program.routines p ≡ Some it) (prototype : Prototype) (proto : it.prototype ≡ Some prototype)
    (held : holds (length prototype.parameters) here.stack ≡ true) (v : Value) (after : Machine)
    (ran : Runs (code_program whole.program whole.functions) may sets impact E ends here ws choices its s good is_at.there deep p is it found prototype proto
    held v after) where
  -- the program with its code
  abbrev program : CodeProgram
  program = code_program whole.program whole.functions

  -- what the kinds of the operations depend on
  abbrev kinds : Scope
  kinds = scope_at whole here.fn

  -- what is known at the operation
  abbrev facts : Given
  facts = known.at here.fn here.at

  -- how many arguments it takes
  abbrev count : ℕ
  count = length prototype.parameters

  -- the values below them
  abbrev rest : List Value
  rest = below count here.stack

  -- what lasts after it
  abbrev lasting_now : ℕ → Bool
  lasting_now = λ k. here.lasting k && steady_in s.machine after k

  -- the call after it
  abbrev pub next : Here
  next = moved here (suc here.at) (v ∷ rest) lasting_now

  -- the place of the first argument, as the analysis knows it
  abbrev base : ℕ
  base = facts.places - taken_by kinds (op.Routine p)

  first_is_base : base ≡ length rest
  first_is_base =
      base_is whole known may sets impact E ends here ws choices its s good deep is_at right p is it found prototype proto held v after ran

  first_of : its.places - taken_by kinds (op.Routine p) ≡ length rest
  first_of = ap (λ n. n - taken_by kinds (op.Routine p)) (deep ∙ sym is_at.deep) ∙ first_is_base

  -- its role, as the analysis knows it
  abbrev its_role : (r : Role) → it.routine.role ≡ r → role_at kinds p ≡ Some r
  its_role = role_is whole known may sets impact E ends here ws choices its s good deep is_at right p is it found prototype proto held v after ran

  -- ---- what it gives

  module _ (P : Cell → Type 0) (undefined : P Undefined) (byte : (b : ℕ) → P (Byte b)) (all : HasAll P undefined byte s.machine) where
    -- the machine after it has such cells, and the value is one that the routine may give
    abbrev pub ItGives : Type 0
    ItGives = Gets P undefined byte (makes_handle kinds p ≡ true) v after

    with_makes : (Makes : Type 0) → (Makes → makes_handle kinds p ≡ true) → Gets P undefined byte Makes v after → ItGives
    with_makes Makes each got = (by_value got.0, got.1)
      where
        by_value : IsGiven Makes v after → IsGiven (makes_handle kinds p ≡ true) v after
        by_value (inl plain_) = inl plain_
        by_value (inr made) = inr (each made.0, made.1)

    of_plain : it.routine.role ≡ role.Plain → ItGives
    of_plain so =
        with_makes (MakesHandle P undefined byte program.setting.types (pointed program.setting.types prototype.result)) makes
        (subst (OnDone (Gets P undefined byte (MakesHandle P undefined byte program.setting.types (pointed program.setting.types prototype.result)))) runs
        (plain_gives P undefined byte program.setting.types it.routine prototype (taken count here.stack) s.machine all))
      where
        runs : plain program.setting.types it.routine prototype (taken count here.stack) s.machine ≡ done v after
        runs =
            ap (λ z. called_by z program.setting.types it.routine prototype (taken count here.stack) s.machine) (sym (ap is_plain so))
            ∙ called_runs program may sets impact E ends here ws choices its s good is_at.there deep p is it found prototype proto held v after ran

        makes : MakesHandle P undefined byte program.setting.types (pointed program.setting.types prototype.result) → makes_handle kinds p ≡ true
        makes points =
            ap (λ r. makes_by r (gives_handle kinds.types (routine_signature (slice_get kinds.routines p)))) (its_role role.Plain so)
            ∙ ap (λ f. gives_handle kinds.types (routine_signature f)) found ∙ ap (λ q. gives_handle kinds.types (signature_of q)) proto
            ∙ sym (points_same program.setting.types (pointed program.setting.types prototype.result)) ∙ points

    of_role : (r : Role) → it.routine.role ≡ r → is_plain r ≡ false → ItGives
    of_role r so other =
        with_makes (r ≡ role.NewHandle) makes
        (subst (λ u. Gets P undefined byte (r ≡ role.NewHandle) u after) ran_so.1
        (subst (λ m. Gets P undefined byte (r ≡ role.NewHandle) (as_kind (number_kind program.setting.types prototype.result)
        (role_value r (taken count here.stack) s.machine)) m) ran_so.2 as_declared))
      where
        ran_so : (first_stop (role_stops r (taken count here.stack) s.machine) ≡ None)
            × (as_kind (number_kind program.setting.types prototype.result) (role_value r (taken count here.stack) s.machine) ≡ v)
            × (role_machine r (taken count here.stack) s.machine ≡ after)
        ran_so =
            done_as whole known may sets impact E ends here ws choices its s good deep is_at right p is it found prototype proto held v after ran r so other

        gives_so : Gets P undefined byte (r ≡ role.NewHandle) (role_value r (taken count here.stack) s.machine)
            (role_machine r (taken count here.stack) s.machine)
        gives_so = role_gives P undefined byte r (taken count here.stack) s.machine all

        as_declared : Gets P undefined byte (r ≡ role.NewHandle) (as_kind (number_kind program.setting.types prototype.result)
            (role_value r (taken count here.stack) s.machine)) (role_machine r (taken count here.stack) s.machine)
        as_declared = (
          kind_given P undefined byte (r ≡ role.NewHandle) (number_kind program.setting.types prototype.result)
              (role_value r (taken count here.stack) s.machine) (role_machine r (taken count here.stack) s.machine) gives_so.0,
          gives_so.1,
        )

        makes : r ≡ role.NewHandle → makes_handle kinds p ≡ true
        makes new =
            ap (λ r. makes_by r (gives_handle kinds.types (routine_signature (slice_get kinds.routines p)))) (its_role role.NewHandle (so ∙ new))

    pub gives : ItGives
    gives = by_kind (is_plain it.routine.role) refl
      where
        is_plain_role : (r : Role) → is_plain r ≡ true → r ≡ role.Plain
        is_plain_role role.Plain is_so = refl
        is_plain_role other is_so = absurd (true≢false (sym is_so))

        by_kind : (z : Bool) → is_plain it.routine.role ≡ z → ItGives
        by_kind true so = of_plain (is_plain_role it.routine.role so)
        by_kind false so = of_role it.routine.role refl so

  -- ---- all that the call has

  module _ (given : IsKnown whole here.fn here.at (known.at here.fn here.at))
      (put_back : sets_state (role_at kinds p) ≡ true → facts.restores ≡ true
      → IsRestore (Before whole known may sets impact E ends here ws choices its s good deep is_at right p is it found prototype proto held v after ran)
      (its.places - taken_by (scope_of program here.function) (op.Routine p))
      (suc (its.places - taken_by (scope_of program here.function) (op.Routine p)))) (fit : FitKinds kinds (length whole.classes) base s.machine)
      (listed : AreListed (length whole.classes) here s.machine) (are : AreTracked whole known here s.machine ws)
      (bytes : AreBytesTracked whole known here s.machine ws) where
    -- what is in memory then
    abbrev Memory : Machine → Type 0
    Memory m = HasAll (TrackedCell whole known next after ws) tt (λ b. tt) m

    in_memory : Memory s.machine → Memory after
    in_memory memory = (gives (TrackedCell whole known next after ws) tt (λ b. tt) memory).1

    rest_places : TrackedPlaces whole known here s.machine ws rest
    rest_places = tracked_below whole known here s.machine ws count here.stack are.places

    rest_same : (i : ℕ) (u : Value) → at_place i rest ≡ Some u → at_place i here.stack ≡ Some u
    rest_same i u has = sym (below_place i count here.stack (place_low i rest u has)) ∙ has

    -- ---- the value

    no_facts : (w : Value) → HasNoFacts w → Tracked whole known next after ws (slot.Place (length rest)) w
    no_facts (number bits) is = tt
    no_facts (pointer Nil) is = tt
    no_facts (pointer (Fixed object at)) is = tt
    no_facts (pointer (Handle n)) is = absurd is
    no_facts (pointer (Spot its')) is = absurd is
    no_facts (state byte) is = tt
    no_facts (structure cells) is = absurd is

    made : makes_handle kinds p ≡ true → IsFresh v after → Tracked whole known next after ws (slot.Place (length rest)) v
    made makes fresh =
        subst (Tracked whole known next after ws (slot.Place (length rest))) (sym fresh.handle)
        (subst (λ n. Tracked whole known next after ws (slot.Place n) (pointer (Handle fresh.n))) first_is_base
        (made_value whole known here s.machine after ws its is_at right lasting_now (v ∷ rest) p is makes are.reached fresh.n fresh.block fresh.there
        fresh.unmarked fresh.alive))

    -- from memory as it was, seen from the call after it
    result : Memory s.machine → Tracked whole known next after ws (slot.Place (length rest)) v
    result memory = by_given (gives (TrackedCell whole known next after ws) tt (λ b. tt) memory).0
      where
        by_given : IsGiven (makes_handle kinds p ≡ true) v after → Tracked whole known next after ws (slot.Place (length rest)) v
        by_given (inl is) = no_facts v is
        by_given (inr fresh) = made fresh.0 fresh.1

    -- ---- by whether it is a restore

    of_acts : ItActs whole known may sets impact E ends here ws choices its s good deep is_at right p is it found prototype proto held v after ran
        → AreTracked whole known next after ws
    of_acts it_acts =
        routine whole known here s.machine after ws its is_at right lasting_now (v ∷ rest) p is it_acts rest first_is_base rest_same v refl result rest_places
        in_memory are

    of_restore : ItRestores whole known may sets impact E ends here ws choices its s good deep is_at right p is it found prototype proto held v after ran given
        → AreTracked whole known next after ws
    of_restore it_restores =
        restored whole known here s.machine after ws its is_at right lasting_now (v ∷ rest) p is given deep it_restores bytes rest
        (λ i u has. (subst (λ n. i < n) (sym first_is_base) (place_low i rest u has), rest_same i u has))
        (all_below (IsValueListed (length whole.classes)) count here.stack listed.stack) v refl result rest_places in_memory fit listed are

    tracked : AreTracked whole known next after ws
    tracked = by_sets (sets_state (role_at kinds p)) refl
      where
        by_either : ItActs whole known may sets impact E ends here ws choices its s good deep is_at right p is it found prototype proto held v after ran
            ⊎ ItRestores whole known may sets impact E ends here ws choices its s good deep is_at right p is it found prototype proto held v after ran given
            → AreTracked whole known next after ws
        by_either (inl it_acts) = of_acts it_acts
        by_either (inr it_restores) = of_restore it_restores

        by_restores : sets_state (role_at kinds p) ≡ true → (z : Bool) → facts.restores ≡ z → AreTracked whole known next after ws
        by_restores one true so =
            by_either (restores whole known may sets impact E ends here ws choices its s good deep is_at right p is it found prototype proto held v after ran
            given one so (put_back one so))
        by_restores one false so =
            of_acts (acts whole known may sets impact E ends here ws choices its s good deep is_at right p is it found prototype proto held v after ran
            (λ sets_one. so))

        by_sets : (z : Bool) → sets_state (role_at kinds p) ≡ z → AreTracked whole known next after ws
        by_sets true one = by_restores one facts.restores refl
        by_sets false none =
            of_acts (acts whole known may sets impact E ends here ws choices its s good deep is_at right p is it found prototype proto held v after ran
            (λ sets_one. absurd (true≢false (sym sets_one ∙ none))))

    -- ---- its state bytes

    kept : AreKept whole known here s.machine ws its is_at deep lasting_now (op.Routine p) is (suc here.at) (v ∷ rest) refl after
        (its.places - taken_by kinds (op.Routine p))
    kept =
        record {
          places = λ i low.
              under_top i v rest (subst (λ n. i < n) first_of low) ∙ below_place i count here.stack (subst (λ n. i < n) first_of low);
          values = values whole known may sets impact E ends here ws choices its s good deep is_at right p is it found prototype proto held v after ran;
        }

    is_get_state : (r : Role) → it.routine.role ≡ r → reads_state (role_at kinds p) ≡ true → r ≡ role.GetState
    is_get_state r so is_read = by_role r (sym (ap reads_state (its_role r so)) ∙ is_read)
      where
        by_role : (r : Role) → reads_state (Some r) ≡ true → r ≡ role.GetState
        by_role role.GetState is_so = refl
        by_role other is_so = absurd (true≢false (sym is_so))

    read_now : reads_state (role_at kinds p) ≡ true
        → IsRead whole known here s.machine ws its is_at deep lasting_now (op.Routine p) is (suc here.at) (v ∷ rest) refl after
        (on_stack (its.places - taken_by kinds (op.Routine p)))
    read_now is_read =
        read_tracked whole known here s.machine ws its is_at deep lasting_now p is (v ∷ rest) after is_read are
        (λ byte on_top marked.
        reads whole known may sets impact E ends here ws choices its s good deep is_at right p is it found prototype proto held v after ran
        (is_get_state it.routine.role refl is_read) byte
        (same_Some v (state byte) (sym (the_top (its.places - taken_by kinds (op.Routine p)) v rest first_of) ∙ on_top)) marked)

    bytes_now : AreBytesTracked whole known next after ws
    bytes_now = bytes_routine whole known here s.machine ws its is_at deep lasting_now p is (v ∷ rest) after kept read_now bytes

    -- All stays tracked, whatever the routine is.
    pub routine_tracked : AreTracked whole known next after ws × AreBytesTracked whole known next after ws
    routine_tracked = (tracked, bytes_now)
