-- State bytes at routines and over calls (own).
--     tracked_place         what is tracked of a value on the stack
--     bytes_routine         the rows `routine_stays`; and a byte that is read
--     read_tracked          the row `routine_reads`: the state of a purgeable block is read
--     bytes_over            the row `over_stays`
use Rattle.std.proofs.Common.{◌≡◌, ◌<◌, ◌⊎◌, inl, inr, ℕ, suc, ◌-◌, nat_lt, ◌==◌, Bool, true, false, not, ◌&&◌, List, [], ◌∷◌, length, Option, Some, refl, sym, ap, ◌∙◌, subst, arith, true≢false, if◌then◌else◌}
use Rattle.std.proofs.lemmas.Bool.{and_parts}
use Rattle.std.proofs.lemmas.Bool.Decides.{nat_tests}
use Rattle.std.proofs.lemmas.Option.{none-some, same_Some}
use Rattle.hs_calls.specs.Calls.{Here, Wait, moved, resumed, fixed_in}
use Rattle.hs_chains.specs.Knowledge.{Knowledge, IsCallee}
use Rattle.hs_code.specs.Stacks.{Scope}
use Rattle.hs_code.specs.declared.function_code.FunctionCode.{FunctionCode}
use Rattle.hs_code.specs.declared.function_code.Placed.{Placed}
use Rattle.hs_code.specs.declared.op.Op.TheVariants as op
use Rattle.hs_code_run.specs.Steps.{below}
use Rattle.hs_facts.specs.Changes.{UsedIf, MadeIf, BroughtByRole}
use Rattle.hs_facts.specs.Effects.{WholeCode, Assigns}
use Rattle.hs_facts.specs.MustFacts.{MustFact, Saved, Keeper, on_stack, in_slot, KeeperUnder, free_of}
use Rattle.hs_facts.specs.Names.{same_variable, taken, role_at, uses_handle, makes_handle}
use Rattle.hs_flow.specs.Calls.{Callee, assigned, goes_over}
use Rattle.hs_flow.specs.Among.{Among}
use Rattle.hs_flow.specs.Given.{Given}
use Rattle.hs_flow.specs.Laws.Calling as call_rows
use Rattle.hs_flow.specs.Laws.Coming as rows
use Rattle.hs_flow.specs.Laws.Parameters.{parameters_taken}
use Rattle.hs_flow.specs.Next.{at_slot, next_of, reads_state}
use Rattle.hs_flow.specs.Programs.{scope_at}
use Rattle.hs_flow.specs.Slots.{is_below}
use Rattle.hs_flow.specs.declared.fact.FactStatus.TheVariants as status
use Rattle.hs_flow.specs.declared.fact.Slot as flow_slot
use Rattle.hs_flow.specs.declared.fact.Slot.TheVariants as slot
use Rattle.hs_heap.specs.Blocks.{Block}
use Rattle.hs_heap.specs.Memory.{block_at}
use Rattle.hs_heap.specs.declared.cell.Pointer.TheVariants.{Handle}
use Rattle.hs_hiding.specs.Holding.{value_of}
use Rattle.hs_meaning.specs.Machine.{Machine}
use Rattle.hs_meaning.specs.Values.{Value, pointer, state}
use Rattle.hs_sound_heap.specs.Since.{Since, is_marked}
use Rattle.hs_table.specs.declared.role.Role.{Role}
use Rattle.hs_table.specs.declared.role.Role.TheVariants as role
use Rattle.hs_tracked.specs.Bytes.{AreBytesTracked, AreKept, GivesIn, IsAccounted, IsRead, bytes_go, comes_below, has_mark, low_slot, slot_of}
use Rattle.hs_tracked.specs.Going.{IsAt, leads}
use Rattle.hs_tracked.specs.Over.{does, leads_over}
use Rattle.hs_tracked.specs.Passing.{Brings, goes_on}
use Rattle.hs_tracked.specs.Right.{AreRight}
use Rattle.hs_tracked.specs.Tracking.{HasChain, TrackedHandle, Tracked, TrackedPlaces, AreTracked}
use Rattle.hs_tree.specs.declared.head.Variable.{Variable}
use Rattle.hs_tree.specs.declared.head.Variable.TheVariants as name
use Rattle.hs_true.specs.Setting.{itself}
use Rattle.hs_truth.specs.Places.{at_place, under_top, below_place}

-- What is tracked of a value on the stack.
pub tracked_place : (whole : WholeCode) (known : Knowledge) (here : Here) (machine : Machine) (ws : List Wait) (i : ℕ) (v : Value) (stack : List Value)
    → TrackedPlaces whole known here machine ws stack → at_place i stack ≡ Some v → Tracked whole known here machine ws (slot.Place i) v
tracked_place whole known here machine ws i v [] are is = absurd (none-some v is)
tracked_place whole known here machine ws i v (u ∷ rest) are is =
    by_test (i == length rest) refl is (λ so. tracked_place whole known here machine ws i v rest are.1 so)
  where
    same : (a b : ℕ) → (a == b) ≡ true → b ≡ a
    same a b so = grind (so, nat_tests, arith)

    by_test : (z : Bool) → (i == length rest) ≡ z → (if z then Some u else at_place i rest) ≡ Some v
        → (at_place i rest ≡ Some v → Tracked whole known here machine ws (slot.Place i) v) → Tracked whole known here machine ws (slot.Place i) v
    by_test true so it each =
        subst (λ k. Tracked whole known here machine ws (slot.Place k) v) (same i (length rest) so)
        (subst (Tracked whole known here machine ws (slot.Place (length rest))) (same_Some u v it) are.0)
    by_test false so it each = each it

-- ---- what a routine says of bytes

module _ (R : MustFact → Type 0) (place : ℕ) (b : Keeper) (x : Variable) where
  never_used : (z : Bool) → UsedIf R z place (Saved b x) → ⊥
  never_used true it = it
  never_used false it = it

  never_made : (z : Bool) → MadeIf z place (Saved b x) → ⊥
  never_made true it = it
  never_made false it = it

  -- only HGetState gives one
  comes_read : (its : Option Role) → BroughtByRole R its place (Saved b x) → (reads_state its ≡ true) × (b ≡ on_stack place)
  comes_read (Some role.GetState) it = (refl, by_keeper b it)
    where
      by_keeper : (b : Keeper) → BroughtByRole R (Some role.GetState) place (Saved b x) → b ≡ on_stack place
      by_keeper (on_stack i) it = ap on_stack it.0
      by_keeper (in_slot v) it = absurd it
  comes_read other it = absurd it

module _ (whole : WholeCode) (known : Knowledge) (here : Here) (machine : Machine) (ws : List Wait) (its : Placed) (is_at : IsAt whole known here its)
    (deep : its.places ≡ length here.stack) (lasting : ℕ → Bool) (number : ℕ) (is : its.op ≡ op.Routine number) (stack : List Value) (after : Machine) where
  -- what is known at the operation
  abbrev facts : Given
  facts = known.at here.fn here.at

  -- what the kinds of the operations depend on
  abbrev kinds : Scope
  kinds = scope_at whole here.fn

  -- the place of the first argument
  abbrev pub first : ℕ
  first = its.places - taken kinds (op.Routine number)

  -- the role of the routine
  abbrev its_role : Option Role
  its_role = role_at kinds number

  -- the call after it
  abbrev pub next : Here
  next = moved here (suc here.at) stack lasting

  places_are : facts.places ≡ its.places
  places_are = is_at.deep ∙ sym deep

  -- the fact was there, below the arguments, or it is that of the byte that was read
  old_or_read : (code : FunctionCode) (R : MustFact → Type 0) (x : Variable) (b : Keeper)
      → GivesIn whole known here machine ws its is_at deep lasting (op.Routine number) is (suc here.at) stack refl after code R (Saved b x)
      → (KeeperUnder first b × R (Saved b x)) ⊎ ((reads_state its_role ≡ true) × (b ≡ on_stack first))
  old_or_read code R x b (inl old) = inl (old.0.0, old.1)
  old_or_read code R x b (inr (inl it)) = absurd (never_used R first b x (uses_handle its_role) it)
  old_or_read code R x b (inr (inr (inl it))) = inr (comes_read R first b x its_role it)
  old_or_read code R x b (inr (inr (inr it))) = absurd (never_made R first b x (makes_handle kinds number) it)

  -- A routine, whatever its role is. A byte that it reads is as it is given.
  pub bytes_routine : AreKept whole known here machine ws its is_at deep lasting (op.Routine number) is (suc here.at) stack refl after first
      → (reads_state its_role ≡ true
      → IsRead whole known here machine ws its is_at deep lasting (op.Routine number) is (suc here.at) stack refl after (on_stack first))
      → AreBytesTracked whole known here machine ws → AreBytesTracked whole known next after ws
  bytes_routine kept read are =
      bytes_go whole known here machine ws its is_at deep lasting (op.Routine number) is (suc here.at) stack refl after each are
    where
      old_of : (code : FunctionCode) (R : MustFact → Type 0) (x : Variable) (b : Keeper) → (b ≡ on_stack first → ⊥)
          → (KeeperUnder first b × R (Saved b x)) ⊎ ((reads_state its_role ≡ true) × (b ≡ on_stack first)) → R (Saved b x)
      old_of code R x b other (inl old) = old.1
      old_of code R x b other (inr it) = absurd (other it.1)

      stays : (b : Keeper) → KeeperUnder first b → (b ≡ on_stack first → ⊥)
          → IsAccounted whole known here machine ws its is_at deep lasting (op.Routine number) is (suc here.at) stack refl after b
      stays b low other =
          inl (
            b,
            comes_below whole known here machine ws its is_at deep lasting (op.Routine number) is (suc here.at) stack refl after first kept b low
                (λ code R x given. old_of code R x b other (old_or_read code R x b given))
                (leads whole known here machine ws its is_at (op.Routine number) is (suc here.at) stack lasting refl after (slot_of b) (slot_of b)
                status.SavedPurgeable status.SavedPurgeable
                (rows.routine_stays kinds (length whole.classes) facts number status.SavedPurgeable (slot_of b) tt
                (ap (λ n. is_below (n - taken kinds (op.Routine number)) (slot_of b)) places_are ∙ low_slot first b low))),
          )

      never : (i : ℕ) → (i < first → ⊥) → (reads_state its_role ≡ true → on_stack i ≡ on_stack first → ⊥) → (R : MustFact → Type 0) (x : Variable)
          → ((i < first) × R (Saved (on_stack i) x)) ⊎ ((reads_state its_role ≡ true) × (on_stack i ≡ on_stack first)) → ⊥
      never i high other R x (inl old) = high old.0
      never i high other R x (inr it) = other it.0 it.1

      same_number : (a b : ℕ) → on_stack a ≡ on_stack b → a ≡ b
      same_number a b so = cc

      not_slot : (v : Variable) (i : ℕ) → in_slot v ≡ on_stack i → ⊥
      not_slot v i so = cc

      at_first : (i : ℕ) → i ≡ first → (z : Bool) → reads_state its_role ≡ z
          → IsAccounted whole known here machine ws its is_at deep lasting (op.Routine number) is (suc here.at) stack refl after (on_stack i)
      at_first i at true reads =
          subst (λ k. IsAccounted whole known here machine ws its is_at deep lasting (op.Routine number) is (suc here.at) stack refl after (on_stack k))
          (sym at) (inr (inr (read reads)))
      at_first i at false reads =
          inr (inl (λ code R x given.
          never i (λ low. omega (low, at, arith)) (λ so same. true≢false (sym so ∙ reads)) R x (old_or_read code R x (on_stack i) given)))

      by_same : (i : ℕ) → nat_lt i first ≡ false → (z : Bool) → (i == first) ≡ z
          → IsAccounted whole known here machine ws its is_at deep lasting (op.Routine number) is (suc here.at) stack refl after (on_stack i)
      by_same i high true at = at_first i (grind (at, nat_tests, arith)) (reads_state its_role) refl
      by_same i high false at =
          inr (inl (λ code R x given.
          never i (λ low. absurd (grind (low, high, nat_tests, arith)))
          (λ so same. apart_of i first at (same_number i first same)) R x (old_or_read code R x (on_stack i) given)))
        where
          apart_of : (a b : ℕ) → (a == b) ≡ false → a ≡ b → ⊥
          apart_of a b test same = absurd (grind (test, same, nat_tests, arith))

      by_low : (i : ℕ) (z : Bool) → nat_lt i first ≡ z
          → IsAccounted whole known here machine ws its is_at deep lasting (op.Routine number) is (suc here.at) stack refl after (on_stack i)
      by_low i true low = stays (on_stack i) (is_less i first low) (λ so. not_same i first (is_less i first low) (same_number i first so))
        where
          is_less : (a b : ℕ) → nat_lt a b ≡ true → a < b
          is_less a b so = grind (so, nat_tests, arith)

          not_same : (a b : ℕ) → a < b → a ≡ b → ⊥
          not_same a b less same = omega (less, same, arith)
      by_low i false high = by_same i high (i == first) refl

      each : (b : Keeper)
          → IsAccounted whole known here machine ws its is_at deep lasting (op.Routine number) is (suc here.at) stack refl after b
      each (on_stack i) = by_low i (nat_lt i first) refl
      each (in_slot v) = stays (in_slot v) tt (not_slot v first)

  -- HGetState: if the byte has the purgeable bit, it is of a handle of a purgeable block.
  pub read_tracked : reads_state its_role ≡ true → AreTracked whole known here machine ws
      → ((byte : ℕ) → at_place first stack ≡ Some (state byte) → has_mark byte ≡ true
      → (n : ℕ) × (at_place first here.stack ≡ Some (pointer (Handle n))) × ((block : Block) → block_at machine.blocks n ≡ Some block
      → is_marked block ≡ true))
      → IsRead whole known here machine ws its is_at deep lasting (op.Routine number) is (suc here.at) stack refl after (on_stack first)
  read_tracked reads are read byte held marked = by_handle (read byte held marked)
    where
      rule : Among (next_of kinds (length whole.classes) facts (op.Routine number) (at_slot status.Purgeable (slot.Place first)))
          (at_slot status.SavedPurgeable (slot.Place first))
      rule =
          subst (λ n. Among (next_of kinds (length whole.classes) facts (op.Routine number)
          (at_slot status.Purgeable (slot.Place (n - taken kinds (op.Routine number)))))
          (at_slot status.SavedPurgeable (slot.Place (n - taken kinds (op.Routine number))))) places_are
          (rows.routine_reads kinds (length whole.classes) facts number reads)

      by_handle : (n : ℕ) × (at_place first here.stack ≡ Some (pointer (Handle n)))
          × ((block : Block) → block_at machine.blocks n ≡ Some block → is_marked block ≡ true)
          → HasChain whole known next ws (slot.Place first) status.SavedPurgeable
      by_handle it = by_tracked (tracked_place whole known here machine ws first (pointer (Handle it.0)) here.stack are.places it.1)
        where
          by_tracked : TrackedHandle whole known here machine ws (slot.Place first) it.0
              → HasChain whole known next ws (slot.Place first) status.SavedPurgeable
          by_tracked h =
              goes_on whole known here next machine after ws (slot.Place first) (slot.Place first) status.Purgeable status.SavedPurgeable
              (leads whole known here machine ws its is_at (op.Routine number) is (suc here.at) stack lasting refl after (slot.Place first) (slot.Place first)
              status.Purgeable status.SavedPurgeable rule) (h.marked (it.2 h.block h.there))

-- ---- over a call

module _ (whole : WholeCode) (known : Knowledge) (w : Wait) (ws : List Wait) (after : Machine) (value : Value) (lasting : ℕ → Bool) (its : Placed)
    (is_at : IsAt whole known w.here its) (calls : its.op ≡ op.Call w.called) (of_function : w.called < length whole.functions)
    (right : AreRight whole known w.here w.machine) (since : Since (does (known.of w.called)) w.machine.blocks after.blocks)
    (through : (known.of w.called).unlocks ≡ false → (n : ℕ) → fixed_in w.machine n ≡ true → lasting n ≡ true)
    (values : (x : Variable) → assigned (known.of w.called) x ≡ false → value_of after x ≡ value_of w.machine x)
    (deep : its.places ≡ length w.here.stack) (is_callee : IsCallee whole w.called (known.of w.called))
    (low : its.places - taken (scope_at whole w.here.fn) (op.Call w.called) ≡ length (below w.callee.parameters w.here.stack)) where
  -- and of the function
  abbrev callee : Callee
  callee = known.of w.called

  -- the stack of the caller
  abbrev caller_stack : List Value
  caller_stack = value ∷ below w.callee.parameters w.here.stack

  -- what lasted in both
  abbrev both_last : ℕ → Bool
  both_last = λ n. w.here.lasting n && lasting n

  -- the place of the first argument
  abbrev bottom : ℕ
  bottom = its.places - taken (scope_at whole w.here.fn) (op.Call w.called)

  -- what the call says of a byte
  abbrev Account : Keeper → Type 1
  Account = IsAccounted whole known w.here w.machine ws its is_at deep both_last (op.Call w.called) calls (suc w.here.at) caller_stack refl after

  bottom_is : (known.at w.here.fn w.here.at).places - length callee.parameters ≡ bottom
  bottom_is =
      ap (λ n. n - length callee.parameters) (is_at.deep ∙ sym deep)
      ∙ ap (λ k. its.places - k) (ap length is_callee.parameters ∙ parameters_taken whole w.called w.here.fn)

  goes_below : (i : ℕ) → i < bottom → goes_over callee (known.at w.here.fn w.here.at) (slot.Place i) ≡ true
  goes_below i less = is_less i ((known.at w.here.fn w.here.at).places - length callee.parameters) (subst (λ n. i < n) (sym bottom_is) less)
    where
      is_less : (a b : ℕ) → a < b → nat_lt a b ≡ true
      is_less a b so = grind (so, nat_tests, arith)

  over_slot : (of : flow_slot.Slot) → goes_over callee (known.at w.here.fn w.here.at) of ≡ true
      → Brings whole known w.here (resumed w value lasting) w.machine after ws of of status.SavedPurgeable status.SavedPurgeable
  over_slot of goes =
      leads_over whole known w ws after value lasting its is_at calls of_function right since through values of status.SavedPurgeable status.SavedPurgeable
      (call_rows.over_stays callee (known.at w.here.fn w.here.at) of goes status.SavedPurgeable tt)

  kept_of : (U P : Type 0) → (U × P) ⊎ ⊥ → U × P
  kept_of U P (inl old) = old
  kept_of U P (inr new) = absurd new

  on_place : (i : ℕ) (z : Bool) → nat_lt i bottom ≡ z → Account (on_stack i)
  on_place i true less =
      inl (
        on_stack i,
        record {
          gives = λ code R x given. (kept_of _ _ given).1;
          held = λ byte held.
              sym (under_top i value (below w.callee.parameters w.here.stack) (subst (λ n. i < n) low (is_less i bottom less))
              ∙ below_place i w.callee.parameters w.here.stack (subst (λ n. i < n) low (is_less i bottom less))) ∙ held;
          brings = over_slot (slot.Place i) (goes_below i (is_less i bottom less));
        },
      )
    where
      is_less : (a b : ℕ) → nat_lt a b ≡ true → a < b
      is_less a b so = grind (so, nat_tests, arith)
  on_place i false high = inr (inl (λ code R x given. too_high (kept_of _ _ given).0.0))
    where
      too_high : i < bottom → ⊥
      too_high less = absurd (grind (less, high, nat_tests, arith))

  -- a variable of the caller, or a global that the function does not assign
  on_variable : (v : Variable) (z : Bool) → assigned callee v ≡ z → Account (in_slot v)
  on_variable v false spared =
      inl (
        in_slot v,
        record {
          gives = λ code R x given. (kept_of _ _ given).1;
          held = λ byte held. sym (values v spared) ∙ held;
          brings = over_slot (slot.Variable v) (ap not spared);
        },
      )
  on_variable (name.Local i) true assigns = absurd (true≢false (sym assigns))
  on_variable (name.Global g) true assigns = inr (inl (λ code R x given. assigned_not x ((kept_of _ _ given).0.2 g does_assign)))
    where
      does_assign : Assigns whole w.called g
      does_assign = ((is_callee.assigns g).0 assigns).1

      assigned_not : (x : Variable) → free_of (name.Global g) (Saved (in_slot (name.Global g)) x) ≡ true → ⊥
      assigned_not x free =
          true≢false (sym (and_parts (not (same_variable (name.Global g) (name.Global g))) (not (same_variable x (name.Global g))) free).0
          ∙ ap not (itself (name.Global g)))

  each_over : (b : Keeper) → Account b
  each_over (on_stack i) = on_place i (nat_lt i bottom) refl
  each_over (in_slot v) = on_variable v (assigned callee v) refl

  -- The bytes of the caller, when the function has returned.
  pub bytes_over : AreBytesTracked whole known w.here w.machine ws → AreBytesTracked whole known (resumed w value lasting) after ws
  bytes_over are =
      bytes_go whole known w.here w.machine ws its is_at deep both_last (op.Call w.called) calls (suc w.here.at) caller_stack refl after each_over are
