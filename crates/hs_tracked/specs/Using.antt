-- An operation that tests a stale pointer, or a handle of a purged block, is a hazard (own).
--     IsHazardAt f at             the operation is a hazard, of one kind or of the other
--     IsUsable kind p machine     the pointer is not stale; or its block is not purged, if it is a handle
--     usable_or                   a value of the stack that is tracked is usable, or the operation that uses it is a hazard
--     uses_or_hazard              so it is of all operands that the next operation of a call tests
use Rattle.std.proofs.Common.{◌≡◌, ◌⊎◌, inl, inr, ℕ, suc, ◌+◌, ◌-◌, ◌==◌, nat_lt, Bool, true, false, not, ◌&&◌, ◌||◌, List, [], ◌∷◌, length, map, reverse, slice_get, Some, refl, sym, ap, ◌∙◌, subst, arith, true≢false}
use Rattle.std.proofs.lemmas.Bool.Decides.{nat_tests}
use Rattle.std.proofs.lemmas.List.{length-map, length-reverse}
use Rattle.hs_calls.specs.Calls.{Here, Wait}
use Rattle.hs_chains.specs.Hazards.{Hazard, Kind, Moved, Purged, bad, is_pointer_argument, is_used, is_used_by, parameters_in}
use Rattle.hs_chains.specs.Knowledge.{IsKnowledge, Knowledge}
use Rattle.hs_code.specs.Stacks as kinds_of
use Rattle.hs_code.specs.Stacks.{Scope, kind_of, routine_signature, signature_of}
use Rattle.hs_code.specs.declared.function_code.Placed.{Placed}
use Rattle.hs_code.specs.declared.op.Access as code_access
use Rattle.hs_code.specs.declared.op.Access.TheVariants as access
use Rattle.hs_code.specs.declared.op.Binary.TheVariants as binary
use Rattle.hs_code.specs.declared.op.Op.TheVariants as op
use Rattle.hs_code.specs.declared.op.Op.{Op}
use Rattle.hs_code.specs.declared.op.Unary.TheVariants as unary
use Rattle.hs_code_run.specs.Codes.{CodeProgram, code_program}
use Rattle.hs_code_run.specs.Steps.{arguments_of, below, holds, routine_arguments, taken}
use Rattle.hs_facts.specs.Effects.{WholeCode, ops_in}
use Rattle.hs_facts.specs.Names.{is_pointer_in, parameter_count, role_at, role_in, taken as taken_by, takes_handle}
use Rattle.hs_flow.specs.Programs.{scope_at}
use Rattle.hs_flow.specs.declared.fact.Slot.TheVariants as slot
use Rattle.hs_heap.specs.declared.cell.Pointer.TheVariants.{Nil, Fixed, Handle, Spot}
use Rattle.hs_heap.specs.declared.cell.Pointer.{Pointer}
use Rattle.hs_kinds.specs.Kinds.{AreOfKinds, IsOfKind}
use Rattle.hs_kinds.specs.Operands.{HasThem}
use Rattle.hs_meaning.specs.Machine.{Machine}
use Rattle.hs_meaning.specs.Values.{Value, number, pointer, pointer_in, state, structure}
use Rattle.hs_sound_heap.specs.Since.{is_purged}
use Rattle.hs_still.specs.Steps.{ArgumentsUsed, OpUses}
use Rattle.hs_still.specs.Tests.{AllUsed, CallUses, RoutineUses}
use Rattle.hs_still.specs.Uses.{Current, Unpurged, current_there, unpurged_there}
use Rattle.hs_table.specs.declared.role.Role.TheVariants as role
use Rattle.hs_table.specs.declared.role.Role.{Role}
use Rattle.hs_tracked.specs.Arguments.{TrackedFrom, taken_tracked}
use Rattle.hs_tracked.specs.Going.{IsAt}
use Rattle.hs_tracked.specs.Tracking.{HasChain, Tracked, TrackedHandle, TrackedPlaces, TrackedPointer, TrackedSpot, AreTracked}
use Rattle.hs_tree.specs.Kinds.{is_pointer, is_struct_row}
use Rattle.hs_tree.specs.declared.function.BoundRoutine.{BoundRoutine}
use Rattle.hs_tree.specs.declared.function.Prototype.{Prototype}
use Rattle.hs_truth.specs.Places.{below_length}
use Rattle.hs_types.specs.TypeTables.{row_of}
use Rattle.hs_types.specs.declared.row.TypeId.{TypeId}
use mathlib.Core.List.{reverse-reverse}

-- the operation is a hazard
abbrev pub IsHazardAt : WholeCode → ℕ → ℕ → Type 0
IsHazardAt whole f at = (kind : Kind) × Hazard whole f at kind

-- what a use of that kind asks of a pointer
abbrev pub IsUsable : Kind → Pointer → Machine → Type 0
IsUsable Moved p machine = Current p machine
IsUsable Purged p machine = Unpurged p machine

-- both, or a hazard
both_or : (A B H : Type 0) → A ⊎ H → B ⊎ H → (A × B) ⊎ H
both_or A B H (inl a) (inl b) = inl (a, b)
both_or A B H (inl a) (inr hazard) = inr hazard
both_or A B H (inr hazard) b = inr hazard

then_or : (A B H : Type 0) → (A → B) → A ⊎ H → B ⊎ H
then_or A B H next (inl a) = inl (next a)
then_or A B H next (inr hazard) = inr hazard

is_same : (a b : ℕ) → a ≡ b → (a == b) ≡ true
is_same a b same = grind (same, nat_tests, arith)

right_is : (a b : Bool) → b ≡ true → (a || b) ≡ true
right_is true b is = refl
right_is false b is = is

left_is : (a b : Bool) → a ≡ true → (a || b) ≡ true
left_is a b is = ap (λ z. z || b) is

module _ (whole : WholeCode) (known : Knowledge) (knowledge : IsKnowledge whole known) (here : Here) (machine : Machine) (ws : List Wait) (its : Placed)
    (is_at : IsAt whole known here its) (deep : its.places ≡ length here.stack) (are : AreTracked whole known here machine ws) where
  -- the program with its code
  abbrev program : CodeProgram
  program = code_program whole.program whole.functions

  -- what the kinds of the operations depend on
  abbrev scope : Scope
  scope = scope_at whole here.fn

  -- the operation is a hazard
  abbrev IsHazard : Type 0
  IsHazard = IsHazardAt whole here.fn here.at

  -- the operation uses the value of the place so
  abbrev Uses : Op → Kind → ℕ → Type 0
  Uses form kind place = is_used scope form its.places kind place ≡ true

  module _ (form : Op) (is : its.op ≡ form) where
    -- ---- one value

    hazard : (kind : Kind) (place : ℕ) → Uses form kind place → HasChain whole known here ws (slot.Place place) (bad kind) → IsHazard
    hazard kind place uses has = (
      kind,
      record {
        known = known;
        is_known = knowledge;
        reaches = record {
          its = its;
          there = ap (λ code. slice_get (ops_in code) here.at) is_at.found ∙ is_at.there;
          place = place;
          used = subst (λ o. is_used scope o its.places kind place ≡ true) (sym is) uses;
          length = has.length;
          stack = has.calls;
          chain = has.chain;
        };
      },
    )

    spot_or : (place : ℕ) → Uses form Moved place → (s : _) → TrackedSpot whole known here machine ws (slot.Place place) s
        → Current (Spot s) machine ⊎ IsHazard
    spot_or place uses s (inl stale) = inr (hazard Moved place uses stale)
    spot_or place uses s (inr c) = inl (current_there s machine c.block c.there c.current c.alive)

    handle_or : (place : ℕ) → Uses form Purged place → (n : ℕ) → TrackedHandle whole known here machine ws (slot.Place place) n
        → Unpurged (Handle n) machine ⊎ IsHazard
    handle_or place uses n h = by_bit (is_purged h.block.presence) refl
      where
        by_bit : (z : Bool) → is_purged h.block.presence ≡ z → Unpurged (Handle n) machine ⊎ IsHazard
        by_bit true gone = inr (hazard Purged place uses (h.gone gone))
        by_bit false alive = inl (unpurged_there n machine h.block h.there alive)

    pointer_or : (kind : Kind) (place : ℕ) → Uses form kind place → (p : Pointer) → TrackedPointer whole known here machine ws (slot.Place place) p
        → IsUsable kind p machine ⊎ IsHazard
    pointer_or Moved place uses Nil tracked = inl tt
    pointer_or Moved place uses (Fixed object at) tracked = inl tt
    pointer_or Moved place uses (Handle n) tracked = inl tt
    pointer_or Moved place uses (Spot s) tracked = spot_or place uses s tracked
    pointer_or Purged place uses Nil tracked = inl tt
    pointer_or Purged place uses (Fixed object at) tracked = inl tt
    pointer_or Purged place uses (Handle n) tracked = handle_or place uses n tracked
    pointer_or Purged place uses (Spot s) tracked = inl tt

    nil_usable : (kind : Kind) → IsUsable kind Nil machine
    nil_usable Moved = tt
    nil_usable Purged = tt

    -- A value of the stack that the operation uses.
    usable_or : (kind : Kind) (place : ℕ) → Uses form kind place → (v : Value) → Tracked whole known here machine ws (slot.Place place) v
        → IsUsable kind (pointer_in v) machine ⊎ IsHazard
    usable_or kind place uses (number bits) tracked = inl (nil_usable kind)
    usable_or kind place uses (pointer p) tracked = pointer_or kind place uses p tracked
    usable_or kind place uses (state byte) tracked = inl (nil_usable kind)
    usable_or kind place uses (structure cells) tracked = inl (nil_usable kind)

  -- ---- operations of one or two values

  places_of : (stack : List Value) → here.stack ≡ stack → TrackedPlaces whole known here machine ws stack
  places_of stack so = subst (TrackedPlaces whole known here machine ws) so are.places

  top_is : (v : Value) (rest : List Value) → here.stack ≡ v ∷ rest → (suc (length rest) == its.places) ≡ true
  top_is v rest so = is_same (suc (length rest)) its.places (sym (deep ∙ ap length so))

  under_is : (v u : Value) (rest : List Value) → here.stack ≡ v ∷ u ∷ rest → (suc (suc (length rest)) == its.places) ≡ true
  under_is v u rest so = is_same (suc (suc (length rest))) its.places (sym (deep ∙ ap length so))

  load_or : (reached : code_access.Access) → its.op ≡ op.Load reached → (stack : List Value) → here.stack ≡ stack
      → OpUses program (op.Load reached) stack machine ⊎ IsHazard
  load_or reached is [] so = inl tt
  load_or reached is (number bits ∷ rest) so = inl tt
  load_or reached is (state byte ∷ rest) so = inl tt
  load_or reached is (structure cells ∷ rest) so = inl tt
  load_or (access.Number kind) is (pointer p ∷ rest) so =
      usable_or (op.Load (access.Number kind)) is Moved (length rest) (top_is (pointer p) rest so) (pointer p) (places_of (pointer p ∷ rest) so).0
  load_or (access.Struct size) is (pointer p ∷ rest) so =
      usable_or (op.Load (access.Struct size)) is Moved (length rest) (top_is (pointer p) rest so) (pointer p) (places_of (pointer p ∷ rest) so).0
  load_or (access.Pointer class) is (pointer p ∷ rest) so =
      both_or (Current p machine) (Unpurged p machine) IsHazard
      (usable_or (op.Load (access.Pointer class)) is Moved (length rest) (top_is (pointer p) rest so) (pointer p) (places_of (pointer p ∷ rest) so).0)
      (usable_or (op.Load (access.Pointer class)) is Purged (length rest) (top_is (pointer p) rest so) (pointer p) (places_of (pointer p ∷ rest) so).0)

  store_or : (reached : code_access.Access) → its.op ≡ op.Store reached → (stack : List Value) → here.stack ≡ stack
      → OpUses program (op.Store reached) stack machine ⊎ IsHazard
  store_or reached is [] so = inl tt
  store_or reached is (v ∷ []) so = by_value v
    where
      by_value : (u : Value) → OpUses program (op.Store reached) (u ∷ []) machine ⊎ IsHazard
      by_value (number bits) = inl tt
      by_value (pointer p) = inl tt
      by_value (state byte) = inl tt
      by_value (structure cells) = inl tt
  store_or reached is (v ∷ number bits ∷ rest) so = inl tt
  store_or reached is (v ∷ state byte ∷ rest) so = inl tt
  store_or reached is (v ∷ structure cells ∷ rest) so = inl tt
  store_or reached is (v ∷ pointer p ∷ rest) so =
      usable_or (op.Store reached) is Moved (length rest) (under_is v (pointer p) rest so) (pointer p) (places_of (v ∷ pointer p ∷ rest) so).1.0

  compare_or : (c : _) → its.op ≡ op.Compare c → (stack : List Value) → here.stack ≡ stack → OpUses program (op.Compare c) stack machine ⊎ IsHazard
  compare_or c is [] so = inl tt
  compare_or c is (v ∷ []) so = inl tt
  compare_or c is (v ∷ u ∷ rest) so =
      both_or (Current (pointer_in u) machine) (Current (pointer_in v) machine) IsHazard
      (usable_or (op.Compare c) is Moved (length rest) (right_is _ _ (under_is v u rest so)) u (places_of (v ∷ u ∷ rest) so).1.0)
      (usable_or (op.Compare c) is Moved (suc (length rest)) (left_is _ _ (top_is v (u ∷ rest) so)) v (places_of (v ∷ u ∷ rest) so).0)

  difference_or : (size : ℕ) → its.op ≡ op.Difference size → (stack : List Value) → here.stack ≡ stack
      → OpUses program (op.Difference size) stack machine ⊎ IsHazard
  difference_or size is [] so = inl tt
  difference_or size is (v ∷ []) so = inl tt
  difference_or size is (v ∷ u ∷ rest) so =
      both_or (Current (pointer_in u) machine) (Current (pointer_in v) machine) IsHazard
      (usable_or (op.Difference size) is Moved (length rest) (right_is _ _ (under_is v u rest so)) u (places_of (v ∷ u ∷ rest) so).1.0)
      (usable_or (op.Difference size) is Moved (suc (length rest)) (left_is _ _ (top_is v (u ∷ rest) so)) v (places_of (v ∷ u ∷ rest) so).0)

  -- ---- routines

  module _ (p : ℕ) (is : its.op ≡ op.Routine p) (it : BoundRoutine) (found : slice_get whole.program.routines p ≡ Some it) (prototype : Prototype)
      (proto : it.prototype ≡ Some prototype)
      (them : HasThem (reverse (map (kind_of whole.program.types) prototype.parameters)) here.stack) where
    -- how many arguments it takes
    abbrev count : ℕ
    count = length prototype.parameters

    -- the place of the first one
    abbrev base : ℕ
    base = its.places - taken_by scope (op.Routine p)

    many : length (reverse (map (kind_of whole.program.types) prototype.parameters)) ≡ count
    many =
        length-reverse (map (kind_of whole.program.types) prototype.parameters)
        ∙ length-map prototype.parameters (kind_of whole.program.types)

    held : holds count here.stack ≡ true
    held = subst (λ n. holds n here.stack ≡ true) many them.holds

    of_kinds : AreOfKinds (map (kind_of whole.program.types) prototype.parameters) (taken count here.stack)
    of_kinds =
        subst (λ n. AreOfKinds (map (kind_of whole.program.types) prototype.parameters) (taken n here.stack)) many
        (subst (λ ks. AreOfKinds ks (taken (length (reverse (map (kind_of whole.program.types) prototype.parameters))) here.stack))
        (reverse-reverse (map (kind_of whole.program.types) prototype.parameters)) them.are)

    parameters_are : parameters_in (routine_signature (slice_get scope.routines p)) ≡ prototype.parameters
    parameters_are =
        ap (λ f. parameters_in (routine_signature f)) found ∙ ap (λ q. parameters_in (signature_of q)) proto

    base_is : base ≡ length (below count here.stack)
    base_is =
        ap (λ k. its.places - k)
        (ap (λ f. parameter_count (routine_signature f)) found ∙ ap (λ q. parameter_count (signature_of q)) proto)
        ∙ ap (λ n. n - count) deep ∙ below_length count here.stack held

    role_is : role_at scope p ≡ Some it.routine.role
    role_is = ap role_in found

    -- the values from a place of the stack on are tracked
    abbrev FromPlace : ℕ → List Value → Type 0
    FromPlace = TrackedFrom whole known here machine ws

    arguments : FromPlace base (taken count here.stack)
    arguments = subst (λ n. FromPlace n (taken count here.stack)) (sym base_is) (taken_tracked whole known here machine ws count here.stack [] are.places tt)

    -- ---- pointers among the arguments

    -- what all arguments are
    abbrev AllUsable : Kind → List Value → Type 0
    AllUsable kind [] = Unit {0}
    AllUsable kind (v ∷ values) = IsUsable kind (pointer_in v) machine × AllUsable kind values

    -- the role uses each pointer for that
    abbrev UsesPointers : Kind → Type 0
    UsesPointers kind = (first : Bool) → is_used_by (role_at scope p) kind true first ≡ true

    of_pointer : (id : TypeId) (q : Pointer) → IsOfKind (kind_of whole.program.types id) (pointer q) → is_pointer whole.program.types id ≡ true
    of_pointer id q of = by_kind (is_pointer whole.program.types id) (is_struct_row (row_of whole.program.types id)) of
      where
        by_kind : (z struct : Bool) → IsOfKind (kinds_of.kind_by z struct) (pointer q) → z ≡ true
        by_kind true struct is_so = refl
        by_kind false true is_so = absurd is_so
        by_kind false false is_so = absurd is_so

    pointer_used : (kind : Kind) → UsesPointers kind → (i : ℕ) (id : TypeId) → slice_get prototype.parameters i ≡ Some id
        → is_pointer whole.program.types id ≡ true → Uses (op.Routine p) kind (base + i)
    pointer_used kind uses i id there points =
        ap (λ z. is_used_by (role_at scope p) kind z ((base + i) == base)) is_argument ∙ uses ((base + i) == base)
      where
        not_low : (a b : ℕ) → nat_lt (a + b) a ≡ false
        not_low a b = grind (nat_tests, arith)

        back : (a b : ℕ) → a + b - a ≡ b
        back a b = omega arith

        is_argument : is_pointer_argument scope.types (parameters_in (routine_signature (slice_get scope.routines p))) base (base + i) ≡ true
        is_argument =
            ap (λ z. not z && is_pointer_in scope.types (slice_get (parameters_in (routine_signature (slice_get scope.routines p))) (base + i - base)))
            (not_low base i)
            ∙ ap (λ n. is_pointer_in scope.types (slice_get (parameters_in (routine_signature (slice_get scope.routines p))) n)) (back base i)
            ∙ ap (λ ps. is_pointer_in scope.types (slice_get ps i)) parameters_are ∙ ap (is_pointer_in scope.types) there ∙ points

    one_usable : (kind : Kind) → UsesPointers kind → (i : ℕ) (id : TypeId) → slice_get prototype.parameters i ≡ Some id → (v : Value)
        → IsOfKind (kind_of whole.program.types id) v → Tracked whole known here machine ws (slot.Place (base + i)) v
        → IsUsable kind (pointer_in v) machine ⊎ IsHazard
    one_usable kind uses i id there (number bits) of tracked = inl (nil_usable (op.Routine p) is kind)
    one_usable kind uses i id there (state byte) of tracked = inl (nil_usable (op.Routine p) is kind)
    one_usable kind uses i id there (structure cells) of tracked = inl (nil_usable (op.Routine p) is kind)
    one_usable kind uses i id there (pointer q) of tracked =
        usable_or (op.Routine p) is kind (base + i) (pointer_used kind uses i id there (of_pointer id q of)) (pointer q) tracked

    each_usable : (kind : Kind) → UsesPointers kind → (i : ℕ) (ids : List TypeId) (values : List Value)
        → ((j : ℕ) (id : TypeId) → slice_get ids j ≡ Some id → slice_get prototype.parameters (i + j) ≡ Some id)
        → AreOfKinds (map (kind_of whole.program.types) ids) values → FromPlace (base + i) values → AllUsable kind values ⊎ IsHazard
    each_usable kind uses i [] [] there of tracked = inl tt
    each_usable kind uses i [] (v ∷ values) there of tracked = absurd of
    each_usable kind uses i (id ∷ ids) [] there of tracked = inl tt
    each_usable kind uses i (id ∷ ids) (v ∷ values) there of tracked =
        both_or (IsUsable kind (pointer_in v) machine) (AllUsable kind values) IsHazard
        (one_usable kind uses i id (subst (λ n. slice_get prototype.parameters n ≡ Some id) (at_first i) (there 0 id refl)) v of.0 tracked.0)
        (each_usable kind uses (suc i) ids values
        (λ j one at. subst (λ n. slice_get prototype.parameters n ≡ Some one) (one_on i j) (there (suc j) one at)) of.1
        (subst (λ n. FromPlace n values) (next_place base i) tracked.1))
      where
        at_first : (n : ℕ) → n + 0 ≡ n
        at_first n = omega arith

        one_on : (n j : ℕ) → n + suc j ≡ suc n + j
        one_on n j = omega arith

        next_place : (a b : ℕ) → suc (a + b) ≡ a + suc b
        next_place a b = omega arith

    all_usable : (kind : Kind) → UsesPointers kind → AllUsable kind (taken count here.stack) ⊎ IsHazard
    all_usable kind uses =
        each_usable kind uses 0 prototype.parameters (taken count here.stack)
        (λ j id at. subst (λ n. slice_get prototype.parameters n ≡ Some id) (from_zero j) at) of_kinds
        (subst (λ n. FromPlace n (taken count here.stack)) (no_more base) arguments)
      where
        from_zero : (n : ℕ) → n ≡ 0 + n
        from_zero n = omega arith

        no_more : (n : ℕ) → n ≡ n + 0
        no_more n = omega arith

    -- ---- by the role

    all_used : (values : List Value) → AllUsable Moved values → AllUsable Purged values → AllUsed values machine
    all_used [] moved purged = tt
    all_used (v ∷ values) moved purged = ((moved.0, purged.0), all_used values moved.1 purged.1)

    -- the handle of a role that takes one
    first_or : (r : Role) → it.routine.role ≡ r → ((z : Bool) → is_used_by (Some r) Purged z true ≡ true) → (v : Value)
        → Tracked whole known here machine ws (slot.Place base) v → Unpurged (pointer_in v) machine ⊎ IsHazard
    first_or r so each v tracked =
        usable_or (op.Routine p) is Purged base
        (ap (λ z. is_used_by (role_at scope p) Purged
        (is_pointer_argument scope.types (parameters_in (routine_signature (slice_get scope.routines p))) base base) z) (is_same base base refl)
        ∙ ap (λ o. is_used_by o Purged
        (is_pointer_argument scope.types (parameters_in (routine_signature (slice_get scope.routines p))) base base) true)
        (role_is ∙ ap (λ x. Some x) so)
        ∙ each (is_pointer_argument scope.types (parameters_in (routine_signature (slice_get scope.routines p))) base base)) v tracked

    handle_role : (r : Role) → takes_handle (Some r) ≡ true → it.routine.role ≡ r → (values : List Value) → FromPlace base values
        → CallUses r values machine ⊎ IsHazard
    handle_role role.DisposeHandle takes so [] tracked = inl tt
    handle_role role.DisposeHandle takes so (v ∷ []) tracked = first_or role.DisposeHandle so (λ z. refl) v tracked.0
    handle_role role.DisposeHandle takes so (v ∷ u ∷ values) tracked = inl tt
    handle_role role.GetSize takes so [] tracked = inl tt
    handle_role role.GetSize takes so (v ∷ []) tracked = first_or role.GetSize so (λ z. refl) v tracked.0
    handle_role role.GetSize takes so (v ∷ u ∷ values) tracked = inl tt
    handle_role role.SetSize takes so [] tracked = inl tt
    handle_role role.SetSize takes so (v ∷ []) tracked = inl tt
    handle_role role.SetSize takes so (v ∷ u ∷ []) tracked = first_or role.SetSize so (λ z. refl) v tracked.0
    handle_role role.SetSize takes so (v ∷ u ∷ w ∷ values) tracked = inl tt
    handle_role role.Lock takes so [] tracked = inl tt
    handle_role role.Lock takes so (v ∷ []) tracked = first_or role.Lock so (λ z. refl) v tracked.0
    handle_role role.Lock takes so (v ∷ u ∷ values) tracked = inl tt
    handle_role role.Unlock takes so [] tracked = inl tt
    handle_role role.Unlock takes so (v ∷ []) tracked = first_or role.Unlock so (λ z. refl) v tracked.0
    handle_role role.Unlock takes so (v ∷ u ∷ values) tracked = inl tt
    handle_role role.Purge takes so [] tracked = inl tt
    handle_role role.Purge takes so (v ∷ []) tracked = first_or role.Purge so (λ z. refl) v tracked.0
    handle_role role.Purge takes so (v ∷ u ∷ values) tracked = inl tt
    handle_role role.NoPurge takes so [] tracked = inl tt
    handle_role role.NoPurge takes so (v ∷ []) tracked = first_or role.NoPurge so (λ z. refl) v tracked.0
    handle_role role.NoPurge takes so (v ∷ u ∷ values) tracked = inl tt
    handle_role role.GetState takes so [] tracked = inl tt
    handle_role role.GetState takes so (v ∷ []) tracked = first_or role.GetState so (λ z. refl) v tracked.0
    handle_role role.GetState takes so (v ∷ u ∷ values) tracked = inl tt
    handle_role role.SetState takes so [] tracked = inl tt
    handle_role role.SetState takes so (v ∷ []) tracked = inl tt
    handle_role role.SetState takes so (v ∷ u ∷ []) tracked = first_or role.SetState so (λ z. refl) v tracked.0
    handle_role role.SetState takes so (v ∷ u ∷ w ∷ values) tracked = inl tt
    handle_role role.Empty takes so [] tracked = inl tt
    handle_role role.Empty takes so (v ∷ []) tracked = first_or role.Empty so (λ z. refl) v tracked.0
    handle_role role.Empty takes so (v ∷ u ∷ values) tracked = inl tt
    handle_role role.Realloc takes so [] tracked = inl tt
    handle_role role.Realloc takes so (v ∷ []) tracked = inl tt
    handle_role role.Realloc takes so (v ∷ u ∷ []) tracked = first_or role.Realloc so (λ z. refl) v tracked.0
    handle_role role.Realloc takes so (v ∷ u ∷ w ∷ values) tracked = inl tt
    handle_role r takes so values tracked = absurd (true≢false (sym takes))

    -- both pointers of BlockMove
    both_moved : (values : List Value) → AllUsable Moved values → CallUses role.BlockMove values machine
    both_moved [] usable = tt
    both_moved (a ∷ []) usable = tt
    both_moved (a ∷ b ∷ []) usable = tt
    both_moved (a ∷ b ∷ c ∷ []) usable = (usable.0, usable.1.0)
    both_moved (a ∷ b ∷ c ∷ d ∷ values) usable = tt

    role_so : (r : Role) → it.routine.role ≡ r → role_at scope p ≡ Some r
    role_so r so = role_is ∙ ap (λ x. Some x) so

    role_or : (r : Role) → it.routine.role ≡ r → CallUses r (taken count here.stack) machine ⊎ IsHazard
    role_or role.Plain so =
        then_or (AllUsable Moved (taken count here.stack) × AllUsable Purged (taken count here.stack)) (AllUsed (taken count here.stack) machine) IsHazard
        (λ usable. all_used (taken count here.stack) usable.0 usable.1)
        (both_or (AllUsable Moved (taken count here.stack)) (AllUsable Purged (taken count here.stack)) IsHazard
        (all_usable Moved (λ first. ap (λ o. is_used_by o Moved true first) (role_so role.Plain so)))
        (all_usable Purged (λ first. ap (λ o. is_used_by o Purged true first) (role_so role.Plain so))))
    role_or role.BlockMove so =
        then_or (AllUsable Moved (taken count here.stack)) (CallUses role.BlockMove (taken count here.stack) machine) IsHazard
        (both_moved (taken count here.stack)) (all_usable Moved (λ first. ap (λ o. is_used_by o Moved true first) (role_so role.BlockMove so)))
    role_or role.NewHandle so = inl tt
    role_or role.NewPtr so = inl tt
    role_or role.DisposePtr so = inl tt
    role_or role.Getchar so = inl tt
    role_or role.Putchar so = inl tt
    role_or r so = handle_role r refl so (taken count here.stack) arguments

    routine_or : OpUses program (op.Routine p) here.stack machine ⊎ IsHazard
    routine_or =
        subst (λ n. ArgumentsUsed program p n here.stack machine ⊎ IsHazard) (sym (ap routine_arguments found ∙ ap arguments_of proto))
        (subst (λ f. RoutineUses f (taken count here.stack) machine ⊎ IsHazard) (sym found) (role_or it.routine.role refl))

  -- ---- all of them

  -- what kinds say of a routine: it is there and declared, and finds its arguments
  abbrev pub HasArguments : ℕ → Type 0
  HasArguments p =
      (it : BoundRoutine) × (prototype : Prototype) × (slice_get whole.program.routines p ≡ Some it) × (it.prototype ≡ Some prototype)
      × HasThem (reverse (map (kind_of whole.program.types) prototype.parameters)) here.stack

  by_op : (routines : (p : ℕ) → its.op ≡ op.Routine p → HasArguments p) (o : Op) → its.op ≡ o → OpUses program o here.stack machine ⊎ IsHazard
  by_op routines (op.Load reached) is = load_or reached is here.stack refl
  by_op routines (op.Store reached) is = store_or reached is here.stack refl
  by_op routines (op.Compare c) is = compare_or c is here.stack refl
  by_op routines (op.Difference size) is = difference_or size is here.stack refl
  by_op routines (op.Routine p) is = on (routines p is)
    where
      on : HasArguments p → OpUses program (op.Routine p) here.stack machine ⊎ IsHazard
      on has = routine_or p is has.0 has.2 has.1 has.3 has.4
  by_op routines (op.Unary (unary.Sign o)) is = inl tt
  by_op routines (op.Unary unary.Not) is = inl tt
  by_op routines (op.Binary (binary.Arithmetic o) kind) is = inl tt
  by_op routines (op.Binary (binary.Comparison o) kind) is = inl tt
  by_op routines (op.Step stride pointer_first) is = inl tt
  by_op routines o is = inl tt

  -- No operand that the operation tests is stale or purged, or the operation is a hazard.
  pub uses_or_hazard : ((p : ℕ) → its.op ≡ op.Routine p → HasArguments p) → OpUses program its.op here.stack machine ⊎ IsHazard
  uses_or_hazard routines = by_op routines its.op refl
