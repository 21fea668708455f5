-- Steps keep the numbers in facts small: lists, and where values are.
--     SmallSlots, SmallFacts         each of them fits
--     SmallOp                        the numbers in an operation fit
--     after_small                    and so do those of the slots after it
use Rattle.std.proofs.Common.{◌<◌, inl, inr, ℕ, ◌-◌, ◌==◌, nat_lt, Bool, true, false, if◌then◌else◌, List, [], ◌∷◌, ◌++◌, sym, subst, arith}
use Rattle.hs_code.specs.Stacks.{Scope}
use Rattle.hs_code.specs.declared.op.Access.TheVariants as access
use Rattle.hs_code.specs.declared.op.Op.{Op}
use Rattle.hs_code.specs.declared.op.Op.TheVariants as op
use Rattle.hs_facts.specs.Names.{taken}
use Rattle.hs_flow.specs.Among.{Among}
use Rattle.hs_flow.specs.Next.{also_if, at_each}
use Rattle.hs_flow.specs.Slots.{below, brought_to, dup_slots, get_slots, is_below, is_place, is_variable, is_class, load_slots, placed_at, returned, set_slots, slot_if, slots_after, store_slots, tuck_slots, value_slots}
use Rattle.hs_flow.specs.declared.fact.Fact.{Fact}
use Rattle.hs_flow.specs.declared.fact.FactStatus.{FactStatus}
use Rattle.hs_flow.specs.declared.fact.Slot.{Slot}
use Rattle.hs_flow.specs.declared.fact.Slot.TheVariants as slot
use Rattle.hs_taint.specs.Coding.{IsSmall, IsSmallStatus, number_of, numbers}
use Rattle.hs_tree.specs.declared.head.Variable.{Variable}
use Rattle.hs_tree.specs.declared.head.Variable.TheVariants as name

-- ---- lists

-- the number of the slot fits
abbrev pub IsSmallSlot : Slot → Type 0
IsSmallSlot of = number_of of < numbers

-- each of the slots
abbrev pub SmallSlots : List Slot → Type 0
SmallSlots [] = Unit {0}
SmallSlots (of ∷ rest) = IsSmallSlot of × SmallSlots rest

-- each of the facts
abbrev pub SmallFacts : List Fact → Type 0
SmallFacts [] = Unit {0}
SmallFacts (fact ∷ rest) = IsSmall fact × SmallFacts rest

pub small_among : (facts : List Fact) (fact : Fact) → SmallFacts facts → Among facts fact → IsSmall fact
small_among [] fact small is = absurd is
small_among (it ∷ rest) fact small (inl is) = subst IsSmall (sym is) small.0
small_among (it ∷ rest) fact small (inr is) = small_among rest fact small.1 is

pub slots_append : (xs ys : List Slot) → SmallSlots xs → SmallSlots ys → SmallSlots (xs ++ ys)
slots_append [] ys small more = more
slots_append (of ∷ rest) ys small more = (small.0, slots_append rest ys small.1 more)

pub facts_append : (xs ys : List Fact) → SmallFacts xs → SmallFacts ys → SmallFacts (xs ++ ys)
facts_append [] ys small more = more
facts_append (fact ∷ rest) ys small more = (small.0, facts_append rest ys small.1 more)

pub slots_if : (b : Bool) (of : Slot) → IsSmallSlot of → SmallSlots (slot_if b of)
slots_if true of small = (small, tt)
slots_if false of small = tt

slots_either : (b : Bool) (xs ys : List Slot) → SmallSlots xs → SmallSlots ys → SmallSlots (if b then xs else ys)
slots_either true xs ys small more = small
slots_either false xs ys small more = more

pub facts_either : (b : Bool) (xs ys : List Fact) → SmallFacts xs → SmallFacts ys → SmallFacts (if b then xs else ys)
facts_either true xs ys small more = small
facts_either false xs ys small more = more

pub facts_also : (b : Bool) (its : FactStatus) (of : Slot) → IsSmallStatus its → IsSmallSlot of → SmallFacts (also_if b its of)
facts_also true its of small number = (record { number = number; status = small }, tt)
facts_also false its of small number = tt

pub facts_each : (its : FactStatus) (slots : List Slot) → IsSmallStatus its → SmallSlots slots → SmallFacts (at_each its slots)
facts_each its [] small fit = tt
facts_each its (of ∷ rest) small fit = (record { number = fit.0; status = small }, facts_each its rest small fit.1)

-- ---- where values are

-- the variable or the class that gets a value
abbrev pub SmallOp : Op → Type 0
SmallOp (op.Set v) = IsSmallSlot (slot.Variable v)
SmallOp (op.Store (access.Pointer class)) = class < numbers
SmallOp _ = Unit {0}

pub below_small : (base : ℕ) (of : Slot) → IsSmallSlot of → SmallSlots (below base of)
below_small base of small = slots_if (is_below base of) of small

placed_small : (from : ℕ) (to : List Slot) (base : ℕ) (of : Slot) → SmallSlots to → IsSmallSlot of → SmallSlots (placed_at from to base of)
placed_small from to base of small number = slots_either (is_place from of) to (below base of) small (below_small base of number)

brought_small : (from top : ℕ) (of : Slot) → top < numbers → IsSmallSlot of → SmallSlots (brought_to from top of)
brought_small from top (slot.Place place) top_is small =
    slots_either (place == from) (slot.Place top ∷ []) (if nat_lt from place then slot.Place (place - 1) ∷ [] else slot.Place place ∷ []) (top_is, tt)
    (slots_either (nat_lt from place) (slot.Place (place - 1) ∷ []) (slot.Place place ∷ []) (omega (arith), tt) (small, tt))
brought_small from top slot.Nothing top_is small = (small, tt)
brought_small from top slot.Answer top_is small = (small, tt)
brought_small from top (slot.Variable v) top_is small = (small, tt)
brought_small from top (slot.Class class) top_is small = (small, tt)

pub answer_small : number_of slot.Answer < numbers
answer_small = omega (arith)

returned_small : (top : ℕ) (of : Slot) → IsSmallSlot of → SmallSlots (returned top of)
returned_small top slot.Nothing small = (small, tt)
returned_small top slot.Answer small = tt
returned_small top (slot.Variable (name.Global place)) small = (small, tt)
returned_small top (slot.Variable (name.Local place)) small = tt
returned_small top (slot.Place place) small = slots_if (place == top) slot.Answer answer_small
returned_small top (slot.Class class) small = (small, tt)

module _ (scope : Scope) (depth : ℕ) (of : Slot) (deep : depth < numbers) (small : IsSmallSlot of) where
  top_small : depth - 1 < numbers
  top_small = omega (arith)

  low_small : depth - 2 < numbers
  low_small = omega (arith)

  get_small : (v : Variable) → SmallSlots (get_slots v depth of)
  get_small v = slots_append (below depth of) (slot_if (is_variable v of) (slot.Place depth)) (below_small depth of small)
      (slots_if (is_variable v of) (slot.Place depth) deep)

  set_small : (v : Variable) → IsSmallSlot (slot.Variable v) → SmallSlots (set_slots v depth of)
  set_small v is =
      slots_either (is_variable v of) [] (below depth of ++ slot_if (is_place (depth - 1) of) (slot.Variable v)) tt
      (slots_append (below depth of) (slot_if (is_place (depth - 1) of) (slot.Variable v)) (below_small depth of small)
      (slots_if (is_place (depth - 1) of) (slot.Variable v) is))

  load_small : (class : ℕ) → SmallSlots (load_slots class (depth - 1) of)
  load_small class =
      slots_append (below (depth - 1) of) (slot_if (is_class class of) (slot.Place (depth - 1))) (below_small (depth - 1) of small)
      (slots_if (is_class class of) (slot.Place (depth - 1)) top_small)

  store_small : (class : ℕ) → class < numbers → SmallSlots (store_slots class depth of)
  store_small class is = placed_small (depth - 1) (slot.Place (depth - 2) ∷ slot.Class class ∷ []) (depth - 2) of (low_small, (is, tt)) small

  value_small : SmallSlots (value_slots depth of)
  value_small = placed_small (depth - 1) (slot.Place (depth - 2) ∷ []) (depth - 2) of (low_small, tt) small

  dup_small : SmallSlots (dup_slots depth of)
  dup_small = slots_append (below depth of) (slot_if (is_place (depth - 1) of) (slot.Place depth)) (below_small depth of small)
      (slots_if (is_place (depth - 1) of) (slot.Place depth) deep)

  tuck_small : SmallSlots (tuck_slots depth of)
  tuck_small =
      slots_either (is_place (depth - 2) of) (slot.Place (depth - 1) ∷ [])
      (placed_at (depth - 1) (slot.Place (depth - 2) ∷ slot.Place depth ∷ []) (depth - 2) of) (top_small, tt)
      (placed_small (depth - 1) (slot.Place (depth - 2) ∷ slot.Place depth ∷ []) (depth - 2) of (low_small, (deep, tt)) small)

  taken_small : (its : Op) → SmallSlots (below (depth - taken scope its) of)
  taken_small its = below_small (depth - taken scope its) of small

  pub after_small : (its : Op) → SmallOp its → SmallSlots (slots_after scope its depth of)
  after_small (op.Get v) is = get_small v
  after_small (op.Set v) is = set_small v is
  after_small (op.Load (access.Pointer class)) is = load_small class
  after_small (op.Load (access.Number kind)) is = taken_small (op.Load (access.Number kind))
  after_small (op.Load (access.Struct size)) is = taken_small (op.Load (access.Struct size))
  after_small (op.Store (access.Pointer class)) is = store_small class is
  after_small (op.Store (access.Number kind)) is = value_small
  after_small (op.Store (access.Struct size)) is = value_small
  after_small op.Dup is = dup_small
  after_small op.Tuck is = tuck_small
  after_small (op.Conv kind) is = below_small depth of small
  after_small (op.Bring place) is = brought_small (depth - place) (depth - 1) of top_small small
  after_small op.Return is = returned_small (depth - 1) of small
  after_small (op.Num bits) is = taken_small (op.Num bits)
  after_small op.Nil is = taken_small op.Nil
  after_small (op.Address its) is = taken_small (op.Address its)
  after_small op.Drop is = taken_small op.Drop
  after_small (op.Unary its) is = taken_small (op.Unary its)
  after_small (op.Binary its kind) is = taken_small (op.Binary its kind)
  after_small op.IsNil is = taken_small op.IsNil
  after_small (op.Compare its) is = taken_small (op.Compare its)
  after_small (op.Difference size) is = taken_small (op.Difference size)
  after_small (op.Offset bytes) is = taken_small (op.Offset bytes)
  after_small (op.Step stride pointer_first) is = taken_small (op.Step stride pointer_first)
  after_small (op.Jump target) is = taken_small (op.Jump target)
  after_small (op.Zero target) is = taken_small (op.Zero target)
  after_small (op.Choose goal) is = taken_small (op.Choose goal)
  after_small (op.Shift place) is = taken_small (op.Shift place)
  after_small (op.Routine place) is = taken_small (op.Routine place)
  after_small (op.Call place) is = taken_small (op.Call place)
  after_small op.Turn is = taken_small op.Turn
  after_small op.Mark is = taken_small op.Mark
  after_small (op.Pick target) is = taken_small (op.Pick target)
