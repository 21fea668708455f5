-- State bytes that HGetState gave, as far as must facts know from which handle: they are tracked too (own).
--     has_mark byte              the byte is of a purgeable block
--     slot_of keeper             the slot where a byte is kept
--     AreBytesTracked            a chain brings SavedPurgeable to each slot with such a byte
--     gives, back                a must fact after an operation comes from must facts before it
--     CameFrom, bytes_go         each byte was in a slot before, and the fact of that slot goes where the byte is
--     bytes_stay                 operations that give no fact about bytes: the row `stays`
--     bytes_begun                in a function that begins nothing is known of bytes
-- Only a byte that is known to be of the handle in a name is tracked: any other one is never put back as a restore. So a byte in memory needs no row.
use Rattle.std.proofs.Common.{◌≡◌, ◌<◌, ◌⊎◌, inl, inr, ℕ, zero, suc, ◌-◌, ◌%◌, nat_le, nat_lt, Bool, true, false, List, length, slice_get, Some, refl, sym, ap, ◌∙◌, subst, arith}
use Rattle.std.proofs.lemmas.Bool.Decides.{nat_tests}
use Rattle.std.proofs.lemmas.Option.{same_Some}
use Rattle.hs_calls.specs.Calls.{Here, Wait, moved}
use Rattle.hs_chains.specs.Knowledge.{Knowledge}
use Rattle.hs_code.specs.Codes.{scope_of}
use Rattle.hs_code.specs.Following.{IsNext}
use Rattle.hs_code.specs.Stacks.{Scope}
use Rattle.hs_code.specs.declared.function_code.FunctionCode.{FunctionCode}
use Rattle.hs_code.specs.declared.function_code.Placed.{Placed}
use Rattle.hs_code.specs.declared.op.Op.{Op}
use Rattle.hs_code.specs.declared.op.Op.TheVariants as op
use Rattle.hs_facts.specs.Changes.{Impact, Gives}
use Rattle.hs_facts.specs.Effects.{WholeCode, HoldsAt, impact_of}
use Rattle.hs_facts.specs.MustFacts.{MustFact, Saved, Keeper, on_stack, in_slot, KeeperUnder}
use Rattle.hs_facts.specs.Names.{taken}
use Rattle.hs_facts.specs.Rounds.{HoldsIn}
use Rattle.hs_flow.specs.Laws.Programs.{scope_there}
use Rattle.hs_flow.specs.Laws.Staying.{LeavesSlots, is_below_of}
use Rattle.hs_flow.specs.Programs.{scope_at}
use Rattle.hs_flow.specs.Slots.{is_below}
use Rattle.hs_flow.specs.declared.fact.FactStatus.TheVariants as status
use Rattle.hs_flow.specs.declared.fact.Slot as flow_slot
use Rattle.hs_flow.specs.declared.fact.Slot.TheVariants as slot
use Rattle.hs_hiding.specs.Holding.{value_of}
use Rattle.hs_meaning.specs.Machine.{Machine}
use Rattle.hs_meaning.specs.Values.{Value, state}
use Rattle.hs_tracked.specs.Going.{IsAt, stays_at}
use Rattle.hs_tracked.specs.Passing.{Brings, goes_on}
use Rattle.hs_tracked.specs.Tracking.{HasChain}
use Rattle.hs_tree.specs.declared.head.Variable.{Variable}
use Rattle.hs_truth.specs.Places.{at_place}
use Rattle.hs_truth.specs.Truth.{kept_in}

-- the byte was read from a purgeable block, and makes the block on which it is put purgeable
abbrev pub has_mark : ℕ → Bool
has_mark byte = nat_le 64 (byte % 128)

-- the slot where a byte is kept
abbrev pub slot_of : Keeper → flow_slot.Slot
slot_of (on_stack i) = slot.Place i
slot_of (in_slot b) = slot.Variable b

-- A byte that is known to be of the handle in a name, and that is of a purgeable block: a chain brings SavedPurgeable to its slot.
pub record AreBytesTracked (whole : WholeCode) (known : Knowledge) (here : Here) (machine : Machine) (ws : List Wait) : Type 0 where
  pub each : (b : Keeper) (x : Variable) (byte : ℕ) → kept_in here machine b ≡ Some (state byte) → HoldsAt whole here.fn here.at (Saved b x)
      → has_mark byte ≡ true → HasChain whole known here ws (slot_of b) status.SavedPurgeable

-- Before the first operation of a function nothing is known of bytes.
pub bytes_begun : (whole : WholeCode) (known : Knowledge) (here : Here) (machine : Machine) (ws : List Wait) → here.at ≡ 0
    → AreBytesTracked whole known here machine ws
bytes_begun whole known here machine ws first =
    record { each = λ b x byte held holds marked. absurd ((holds.holds zero).1 first) }

-- ---- must facts about bytes

-- a slot that is below a place
pub low_slot : (depth : ℕ) (b : Keeper) → KeeperUnder depth b → is_below depth (slot_of b) ≡ true
low_slot depth (on_stack i) low = is_below_of depth i low
low_slot depth (in_slot b) low = refl

-- an operation that gives no new fact about a byte
abbrev pub BringsNoByte : Op → Type 0
BringsNoByte (op.Get v) = ⊥
BringsNoByte (op.Set v) = ⊥
BringsNoByte op.Dup = ⊥
BringsNoByte op.Tuck = ⊥
BringsNoByte (op.Conv kind) = ⊥
BringsNoByte (op.Bring place) = ⊥
BringsNoByte (op.Routine place) = ⊥
BringsNoByte (op.Call f) = ⊥
BringsNoByte op.Return = ⊥
BringsNoByte _ = Unit {0}

module _ (scope : Scope) (code : FunctionCode) (impact : Impact) (R : MustFact → Type 0) (depth : ℕ) (b : Keeper) (x : Variable) where
  -- such a fact was there, of a slot that the operation does not take
  abbrev pub WasThere : Op → Type 0
  WasThere its = KeeperUnder (depth - taken scope its) b × R (Saved b x)

  was_there : (its : Op) → BringsNoByte its → Gives scope code impact R its depth (Saved b x) → WasThere its
  was_there (op.Num bits) bare (inl old) = (old.0, old.1)
  was_there (op.Num bits) bare (inr new) = absurd new
  was_there op.Nil bare (inl old) = (old.0, old.1)
  was_there op.Nil bare (inr new) = absurd new
  was_there (op.Address object) bare (inl old) = (old.0, old.1)
  was_there (op.Address object) bare (inr new) = absurd new
  was_there (op.Load access) bare (inl old) = (old.0, old.1)
  was_there (op.Load access) bare (inr new) = absurd new
  was_there (op.Store access) bare (inl old) = (old.0, old.1)
  was_there (op.Store access) bare (inr new) = absurd new
  was_there op.Drop bare (inl old) = (old.0, old.1)
  was_there op.Drop bare (inr new) = absurd new
  was_there (op.Unary unary) bare (inl old) = (old.0, old.1)
  was_there (op.Unary unary) bare (inr new) = absurd new
  was_there (op.Binary binary kind) bare (inl old) = (old.0, old.1)
  was_there (op.Binary binary kind) bare (inr new) = absurd new
  was_there op.IsNil bare (inl old) = (old.0, old.1)
  was_there op.IsNil bare (inr new) = absurd new
  was_there (op.Compare comparison) bare (inl old) = (old.0, old.1)
  was_there (op.Compare comparison) bare (inr new) = absurd new
  was_there (op.Difference size) bare (inl old) = (old.0, old.1)
  was_there (op.Difference size) bare (inr new) = absurd new
  was_there (op.Offset bytes) bare (inl old) = (old.0, old.1)
  was_there (op.Offset bytes) bare (inr new) = absurd new
  was_there (op.Step stride pointer_first) bare (inl old) = (old.0, old.1)
  was_there (op.Step stride pointer_first) bare (inr new) = absurd new
  was_there (op.Jump target) bare (inl old) = (old.0, old.1)
  was_there (op.Jump target) bare (inr new) = absurd new
  was_there (op.Zero target) bare (inl old) = (old.0, old.1)
  was_there (op.Zero target) bare (inr new) = absurd new
  was_there (op.Choose goal) bare (inl old) = (old.0, old.1)
  was_there (op.Choose goal) bare (inr new) = absurd new
  was_there (op.Shift place) bare (inl old) = (old.0, old.1)
  was_there (op.Shift place) bare (inr new) = absurd new
  was_there op.Turn bare (inl old) = (old.0, old.1)
  was_there op.Turn bare (inr new) = absurd new
  was_there op.Mark bare (inl old) = (old.0, old.1)
  was_there op.Mark bare (inr new) = absurd new
  was_there (op.Pick target) bare (inl old) = (old.0, old.1)
  was_there (op.Pick target) bare (inr new) = absurd new
  was_there (op.Get v) bare it = absurd bare
  was_there (op.Set v) bare it = absurd bare
  was_there op.Dup bare it = absurd bare
  was_there op.Tuck bare it = absurd bare
  was_there (op.Conv kind) bare it = absurd bare
  was_there (op.Bring place) bare it = absurd bare
  was_there (op.Routine place) bare it = absurd bare
  was_there (op.Call f) bare it = absurd bare
  was_there op.Return bare it = absurd bare

-- ---- an operation

module _ (whole : WholeCode) (known : Knowledge) (here : Here) (machine : Machine) (ws : List Wait) (its : Placed) (is_at : IsAt whole known here its)
    (deep : its.places ≡ length here.stack) (lasting : ℕ → Bool) (form : Op) (is : its.op ≡ form) (at : ℕ) (stack : List Value)
    (goes : IsNext form here.function.code.cases here.at at) (after : Machine) where
  -- the call after it
  abbrev pub next : Here
  next = moved here at stack lasting

  -- what the kinds of its operations depend on
  abbrev kinds : Scope
  kinds = scope_at whole here.fn

  -- as many values as are on the stack
  pub known_deep : (known.at here.fn here.at).places ≡ its.places
  known_deep = is_at.deep ∙ sym deep

  -- the operation gives the fact from the facts R
  abbrev pub GivesIn : FunctionCode → (MustFact → Type 0) → MustFact → Type 0
  GivesIn code R fact = Gives kinds code (impact_of whole) R form its.places fact

  module _ (fact : MustFact) (holds : HoldsAt whole here.fn at fact) where
    -- the must facts before it, in a round
    abbrev pub Before : ℕ → MustFact → Type 0
    Before round = HoldsIn (scope_of whole.program holds.function) holds.code (impact_of whole) round here.at

    same_code : here.function.code ≡ holds.code
    same_code = same_Some here.function.code holds.code (sym is_at.found ∙ holds.its_code)

    -- the operation gives the fact that holds after it, in each round
    pub gives : (round : ℕ) → GivesIn holds.code (Before round) fact
    gives round =
        subst (λ scope. Gives scope holds.code (impact_of whole) (Before round) form its.places fact)
        (sym (scope_there whole here.fn holds.function holds.of_function))
        (subst (λ o. Gives (scope_of whole.program holds.function) holds.code (impact_of whole) (Before round) o its.places fact) is
        ((holds.holds (suc round)).2 here.at its (subst (λ code. slice_get code.ops here.at ≡ Some its) same_code is_at.there)
        (subst (λ code. IsNext its.op code.cases here.at at) same_code
        (subst (λ o. IsNext o here.function.code.cases here.at at) (sym is) goes))))

    -- a fact that holds before it in all rounds
    pub back : (old : MustFact) → ((round : ℕ) → Before round old) → HoldsAt whole here.fn here.at old
    back old all =
        record { function = holds.function; of_function = holds.of_function; code = holds.code; its_code = holds.its_code; holds = all }

  -- ---- bytes

  -- What is known of a byte after the operation was known of it before, in that slot, and goes from there to where it is now.
  pub record ComesFrom (b from : Keeper) : Type 1 where
    pub gives : (code : FunctionCode) (R : MustFact → Type 0) (x : Variable) → GivesIn code R (Saved b x) → R (Saved from x)
    pub held : (byte : ℕ) → kept_in next after b ≡ Some (state byte) → kept_in here machine from ≡ Some (state byte)
    pub brings : Brings whole known here next machine after ws (slot_of from) (slot_of b) status.SavedPurgeable status.SavedPurgeable

  -- or nothing is known of it
  abbrev pub IsUnknown : Keeper → Type 1
  IsUnknown b = (code : FunctionCode) (R : MustFact → Type 0) (x : Variable) → GivesIn code R (Saved b x) → ⊥

  -- or the operation reads it
  abbrev pub IsRead : Keeper → Type 0
  IsRead b = (byte : ℕ) → kept_in next after b ≡ Some (state byte) → has_mark byte ≡ true → HasChain whole known next ws (slot_of b) status.SavedPurgeable

  -- one of these
  abbrev pub IsAccounted : Keeper → Type 1
  IsAccounted b = ((from : Keeper) × ComesFrom b from) ⊎ IsUnknown b ⊎ IsRead b

  -- All bytes stay tracked, if it is so of each.
  pub bytes_go : ((b : Keeper) → IsAccounted b) → AreBytesTracked whole known here machine ws
      → AreBytesTracked whole known next after ws
  bytes_go each are = record { each = λ b x byte held holds marked. by_case b x byte held holds marked (each b) }
    where
      by_case : (b : Keeper) (x : Variable) (byte : ℕ) → kept_in next after b ≡ Some (state byte) → HoldsAt whole here.fn at (Saved b x)
          → has_mark byte ≡ true → IsAccounted b → HasChain whole known next ws (slot_of b) status.SavedPurgeable
      by_case b x byte held holds marked (inl came) =
          goes_on whole known here next machine after ws (slot_of came.0) (slot_of b) status.SavedPurgeable status.SavedPurgeable came.1.brings
          (are.each came.0 x byte (came.1.held byte held)
          (back (Saved b x) holds (Saved came.0 x)
          (λ round. came.1.gives holds.code (Before (Saved b x) holds round) x (gives (Saved b x) holds round))) marked)
      by_case b x byte held holds marked (inr (inl unknown)) =
          absurd (unknown holds.code (Before (Saved b x) holds zero) x (gives (Saved b x) holds zero))
      by_case b x byte held holds marked (inr (inr read)) = read byte held marked

  -- ---- operations that give no fact about bytes

  -- the values below a place of the stack, and those of variables, are as they were
  pub record AreKept (low : ℕ) : Type 0 where
    pub places : (i : ℕ) → i < low → at_place i stack ≡ at_place i here.stack
    pub values : (v : Variable) → value_of after v ≡ value_of machine v

  -- a slot below that place
  pub comes_below : (low : ℕ) → AreKept low → (b : Keeper) → KeeperUnder low b
      → ((code : FunctionCode) (R : MustFact → Type 0) (x : Variable) → GivesIn code R (Saved b x) → R (Saved b x))
      → Brings whole known here next machine after ws (slot_of b) (slot_of b) status.SavedPurgeable status.SavedPurgeable → ComesFrom b b
  comes_below low are b is_low facts brings =
      record { gives = facts; held = λ byte held. sym (kept_below b is_low) ∙ held; brings = brings }
    where
      kept_below : (b : Keeper) → KeeperUnder low b → kept_in next after b ≡ kept_in here machine b
      kept_below (on_stack i) is_low = are.places i is_low
      kept_below (in_slot b) is_low = are.values b

  -- by whether it is below
  pub each_below : (low : ℕ) → ((b : Keeper) → KeeperUnder low b → ComesFrom b b) → ((b : Keeper) → (KeeperUnder low b → ⊥) → IsUnknown b)
      → (b : Keeper) → IsAccounted b
  each_below low down up (in_slot b) = inl (in_slot b, down (in_slot b) tt)
  each_below low down up (on_stack i) = by_test (nat_lt i low) refl
    where
      by_test : (z : Bool) → nat_lt i low ≡ z → IsAccounted (on_stack i)
      by_test true so = inl (on_stack i, down (on_stack i) (grind (so, nat_tests, arith)))
      by_test false so = inr (inl (up (on_stack i) (λ under. absurd (grind (so, under, nat_tests, arith)))))

  pub bytes_stay : BringsNoByte form → LeavesSlots form → AreKept (its.places - taken kinds form) → AreBytesTracked whole known here machine ws
      → AreBytesTracked whole known next after ws
  bytes_stay bare leaves_slots kept are =
      bytes_go
      (each_below (its.places - taken kinds form)
      (λ b low.
      comes_below (its.places - taken kinds form) kept b low
      (λ code R x given. (was_there kinds code (impact_of whole) R its.places b x form bare given).1)
      (stays_at whole known here machine ws its is_at form is at stack lasting goes after leaves_slots (slot_of b)
      (ap (λ n. is_below (n - taken kinds form) (slot_of b)) known_deep ∙ low_slot (its.places - taken kinds form) b low) status.SavedPurgeable))
      (λ b high code R x given. high (was_there kinds code (impact_of whole) R its.places b x form bare given).0)) are
