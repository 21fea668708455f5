-- The facts over, into and out of a call fit, if the facts before do, and so do those of a program.
--     over_small, enter_small, leave_small       at a call
--     IsSmallProgram whole known                 the numbers of a program fit
--     step_small, parameters_small               so those of the facts in it do
use Rattle.hs_chains.specs.Knowledge.{Knowledge}
use Rattle.hs_code.specs.declared.function_code.Placed.{Placed}
use Rattle.hs_facts.specs.Effects.{WholeCode, placed_in}
use Rattle.hs_flow.specs.Calls.{Callee, at_some, back, back_outer, base_of, enter_of, entered, entering, fresh_or_loose, goes_over, held_if, leave_of, leaving, left, over_of, passed, to_parameter, assigns_name, is_kept, is_slot_kept}
use Rattle.hs_flow.specs.Given.{Given}
use Rattle.hs_flow.specs.Next.{also_if}
use Rattle.hs_flow.specs.Programs.{class_slot, next_in, object_slot, parameter_slots, parameters_in, parameters_of, same_class, scope_at, variables_in}
use Rattle.hs_flow.specs.Slots.{below}
use Rattle.hs_flow.specs.declared.fact.Fact.{Fact}
use Rattle.hs_flow.specs.declared.fact.FactStatus.TheVariants as status
use Rattle.hs_flow.specs.declared.fact.FactStatus.{FactStatus}
use Rattle.hs_flow.specs.declared.fact.Slot.TheVariants as slot
use Rattle.hs_flow.specs.declared.fact.Slot.{Slot}
use Rattle.hs_taint.specs.Coding.{IsSmall, IsSmallStatus, names, numbers}
use Rattle.hs_taint.specs.Laws.Small.{IsSmallSlot, SmallFacts, SmallOp, facts_also, facts_append, facts_either}
use Rattle.hs_taint.specs.Laws.SmallSteps.{IsSmallScope, next_small}
use Rattle.hs_tree.specs.Classes.{is_slot}
use Rattle.hs_tree.specs.Kinds.{is_pointer}
use Rattle.hs_tree.specs.Representatives.{type_for}
use Rattle.hs_tree.specs.Trees.{TypedFunction}
use Rattle.hs_tree.specs.declared.class.Class.TheVariants as class
use Rattle.hs_tree.specs.declared.class.Class.{Class}
use Rattle.hs_tree.specs.declared.head.Variable.TheVariants as name
use Rattle.hs_tree.specs.declared.head.VariableDecl.{VariableDecl}
use Rattle.hs_tree.specs.declared.representatives.Representatives.{Representatives}
use Rattle.hs_types.specs.TypeTables.{TypeTable}
use Rattle.hs_types.specs.declared.row.TypeId.{TypeId}
use Rattle.std.proofs.Common.{◌≡◌, ◌<◌, ◌≤◌, ℕ, zero, suc, ◌+◌, ◌-◌, nat_lt, Bool, true, false, not, ◌&&◌, if◌then◌else◌, List, [], ◌∷◌, length, slice_get, take, Option, Some, None, subst, refl, arith}
use Rattle.std.proofs.lemmas.List.Quantifiers.{position-Some}
use Rattle.std.specs.List.{position}

-- ---- options

-- the slot fits, if there is one
abbrev pub SmallIf : Option Slot → Type 0
SmallIf None = Unit {0}
SmallIf (Some of) = IsSmallSlot of

-- the fact fits, if there is one
abbrev pub SmallFactIf : Option Fact → Type 0
SmallFactIf None = Unit {0}
SmallFactIf (Some fact) = IsSmall fact

-- and of each parameter
abbrev pub SmallParameters : List (Option Slot) → Type 0
SmallParameters [] = Unit {0}
SmallParameters (it ∷ rest) = SmallIf it × SmallParameters rest

pub small_some : (o : Option Fact) (fact : Fact) → SmallFactIf o → o ≡ Some fact → IsSmall fact
small_some o fact small is = subst SmallFactIf is small

at_some_small : (its : FactStatus) (o : Option Slot) → IsSmallStatus its → SmallIf o → SmallFactIf (at_some its o)
at_some_small its None small fit = tt
at_some_small its (Some of) small fit = record { number = fit; status = small }

parameter_small : (parameters : List (Option Slot)) (k : ℕ) → SmallParameters parameters → SmallIf (to_parameter (slice_get parameters k))
parameter_small [] k small = tt
parameter_small (it ∷ rest) zero small = small.0
parameter_small (it ∷ rest) (suc k) small = parameter_small rest k small.1

if_either : (b : Bool) (x y : Option Slot) → SmallIf x → SmallIf y → SmallIf (if b then x else y)
if_either true x y small more = small
if_either false x y small more = more

-- ---- over

fresh_small : (b : Bool) (h : ℕ) → h < names → IsSmallStatus (fresh_or_loose b h)
fresh_small true h small = tt
fresh_small false h small = small

held_if_small : (b : Bool) → IsSmallStatus (held_if b)
held_if_small true = tt
held_if_small false = tt

module _ (callee : Callee) (given : Given) where
  passed_small : (its : FactStatus) (of : Slot) → IsSmallStatus its → IsSmallSlot of → SmallFacts (passed callee given its of)
  passed_small status.IsHandle of small number = (
    record { number = number; status = tt },
    facts_append (also_if callee.marks status.Purgeable of)
        (also_if (callee.marks && callee.purges && not (is_slot_kept callee given of)) status.Hollow of)
        (facts_also callee.marks status.Purgeable of tt number)
        (facts_also (callee.marks && callee.purges && not (is_slot_kept callee given of)) status.Hollow of tt number),
  )
  passed_small status.Purgeable of small number =
      (record { number = number; status = tt }, facts_also (callee.purges && not (is_slot_kept callee given of)) status.Hollow of tt number)
  passed_small (status.Fresh h) of small number = (
    record { number = number; status = fresh_small (assigns_name callee given h) h small },
    facts_also (callee.moves && not (is_kept callee given h)) status.Stale of tt number,
  )
  passed_small status.Held of small number =
      (record { number = number; status = held_if_small (not callee.unlocks) }, facts_also (callee.moves && callee.unlocks) status.Stale of tt number)
  passed_small status.Outer of small number = (record { number = number; status = tt }, facts_also callee.moves status.Stale of tt number)
  passed_small status.Loose of small number = (record { number = number; status = tt }, facts_also callee.moves status.Stale of tt number)
  passed_small status.Stale of small number = (record { number = number; status = tt }, tt)
  passed_small status.Hollow of small number = (record { number = number; status = tt }, tt)
  passed_small status.SavedPurgeable of small number = (record { number = number; status = tt }, tt)
  passed_small status.Reached of small number = (record { number = number; status = tt }, tt)

  pub over_small : (fact : Fact) → IsSmall fact → SmallFacts (over_of callee given fact)
  over_small fact small =
      facts_either (goes_over callee given fact.slot) (passed callee given fact.status fact.slot) []
      (passed_small fact.status fact.slot small.status small.number) tt

-- ---- enter

module _ (parameters : List (Option Slot)) (given : Given) (fit : SmallParameters parameters) where
  entered_small : (of : Slot) → IsSmallSlot of → SmallIf (entered parameters given of)
  entered_small slot.Nothing small = small
  entered_small slot.Answer small = tt
  entered_small (slot.Variable (name.Global place)) small = small
  entered_small (slot.Variable (name.Local place)) small = tt
  entered_small (slot.Place place) small =
      if_either (nat_lt place (base_of parameters given)) None (to_parameter (slice_get parameters (place - base_of parameters given))) tt
      (parameter_small parameters (place - base_of parameters given) fit)
  entered_small (slot.Class class) small = small

  entering_small : (its : FactStatus) (of : Slot) → IsSmallStatus its → IsSmallSlot of → SmallFactIf (entering parameters given its of)
  entering_small (status.Fresh h) of small number =
      at_some_small (held_if (given.locked h)) (entered parameters given of) (held_if_small (given.locked h)) (entered_small of number)
  entering_small status.Loose of small number = at_some_small status.Outer (entered parameters given of) tt (entered_small of number)
  entering_small status.SavedPurgeable of small number = tt
  entering_small status.Reached of small number = at_some_small status.Reached (entered parameters given of) tt (entered_small of number)
  entering_small status.IsHandle of small number = at_some_small status.IsHandle (entered parameters given of) tt (entered_small of number)
  entering_small status.Purgeable of small number = at_some_small status.Purgeable (entered parameters given of) tt (entered_small of number)
  entering_small status.Hollow of small number = at_some_small status.Hollow (entered parameters given of) tt (entered_small of number)
  entering_small status.Held of small number = at_some_small status.Held (entered parameters given of) tt (entered_small of number)
  entering_small status.Outer of small number = at_some_small status.Outer (entered parameters given of) tt (entered_small of number)
  entering_small status.Stale of small number = at_some_small status.Stale (entered parameters given of) tt (entered_small of number)

  pub enter_small : (fact : Fact) → IsSmall fact → SmallFactIf (enter_of parameters given fact)
  enter_small fact small = entering_small fact.status fact.slot small.status small.number

-- ---- leave

module _ (callee : Callee) (given : Given) (deep : given.places < numbers) where
  left_small : (of : Slot) → IsSmallSlot of → SmallIf (left callee given of)
  left_small slot.Nothing small = small
  left_small slot.Answer small = omega (arith)
  left_small (slot.Variable (name.Global place)) small = small
  left_small (slot.Variable (name.Local place)) small = tt
  left_small (slot.Place place) small = tt
  left_small (slot.Class class) small = small

  back_small : (its : FactStatus) → IsSmallStatus its → IsSmallStatus (back callee given its)
  back_small (status.Fresh h) small = fresh_small (assigns_name callee given h) h small
  back_small status.Stale small = tt
  back_small status.Hollow small = tt
  back_small status.Loose small = tt
  back_small status.Outer small = tt
  back_small status.Held small = tt
  back_small status.SavedPurgeable small = tt
  back_small status.Purgeable small = tt
  back_small status.IsHandle small = tt
  back_small status.Reached small = tt

  back_outer_small : (its : FactStatus) → IsSmallStatus its → IsSmallStatus (back_outer callee given its)
  back_outer_small (status.Fresh h) small = fresh_small (assigns_name callee given h) h small
  back_outer_small status.Stale small = tt
  back_outer_small status.Hollow small = tt
  back_outer_small status.Loose small = tt
  back_outer_small status.Outer small = tt
  back_outer_small status.Held small = tt
  back_outer_small status.SavedPurgeable small = tt
  back_outer_small status.Purgeable small = tt
  back_outer_small status.IsHandle small = tt
  back_outer_small status.Reached small = tt

  leaving_small : (caller its : FactStatus) (of : Slot) → IsSmallStatus caller → IsSmallStatus its → IsSmallSlot of
      → SmallFactIf (leaving callee given caller its of)
  leaving_small caller (status.Fresh h) of was small number = at_some_small status.Loose (left callee given of) tt (left_small of number)
  leaving_small caller status.Held of was small number =
      at_some_small (back callee given caller) (left callee given of) (back_small caller was) (left_small of number)
  leaving_small caller status.Outer of was small number =
      at_some_small (back_outer callee given caller) (left callee given of) (back_outer_small caller was) (left_small of number)
  leaving_small caller status.SavedPurgeable of was small number = tt
  leaving_small caller status.Reached of was small number = at_some_small status.Reached (left callee given of) tt (left_small of number)
  leaving_small caller status.IsHandle of was small number = at_some_small status.IsHandle (left callee given of) tt (left_small of number)
  leaving_small caller status.Purgeable of was small number = at_some_small status.Purgeable (left callee given of) tt (left_small of number)
  leaving_small caller status.Hollow of was small number = at_some_small status.Hollow (left callee given of) tt (left_small of number)
  leaving_small caller status.Loose of was small number = at_some_small status.Loose (left callee given of) tt (left_small of number)
  leaving_small caller status.Stale of was small number = at_some_small status.Stale (left callee given of) tt (left_small of number)

  pub leave_small : (caller exit : Fact) → IsSmall caller → IsSmall exit → SmallFactIf (leave_of callee given caller exit)
  leave_small caller exit was small = leaving_small caller.status exit.status exit.slot was.status small.status small.number

-- ---- parameters

class_slot_small : (o : Option ℕ) → ((k : ℕ) → o ≡ Some k → k < numbers) → SmallIf (class_slot o)
class_slot_small None below = tt
class_slot_small (Some k) below = below k refl

position_below : {A : Type 0} (test : A → Bool) (all : List A) (k : ℕ) → position test all ≡ Some k → k < length all
position_below test [] k is = absurd (cc)
position_below test (it ∷ rest) k is = (position-Some test (it ∷ rest) k it is).0

take_below : {A : Type 0} (count : ℕ) (all : List A) → length (take count all) ≤ length all
take_below zero all = omega (arith)
take_below (suc count) [] = omega (arith)
take_below (suc count) (it ∷ rest) = let below = take_below count rest in omega (arith)

module _ (types : TypeTable) (same : Representatives) (classes : List Class) (few : length classes ≤ numbers) where
  object_small : (id : TypeId) → SmallIf (object_slot types same classes id)
  object_small id =
      if_either (is_pointer types id) (class_slot (position (same_class (class.Pointer (type_for same id))) classes)) None
      (class_slot_small (position (same_class (class.Pointer (type_for same id))) classes)
      (λ k is. let below = position_below (same_class (class.Pointer (type_for same id))) classes k is in omega (arith))) tt

  slots_small : (place : ℕ) (its : List VariableDecl) → place + length its ≤ numbers → SmallParameters (parameter_slots types same classes place its)
  slots_small place [] fit = tt
  slots_small place (it ∷ rest) fit = (
    if_either (is_slot types it) (Some (slot.Variable (name.Local place))) (object_slot types same classes it.type_id) (omega (arith))
        (object_small it.type_id),
    slots_small (suc place) rest (omega (arith)),
  )

parameters_below : (o : Option TypedFunction) → length (variables_in o) ≤ numbers → length (parameters_in o) ≤ numbers
parameters_below None few = omega (arith)
parameters_below (Some its) few = let below = take_below its.parameters its.variables in omega (arith)

-- ---- a program

-- The numbers of a program fit: of variables, classes and operands, and of the names of each function.
pub record IsSmallProgram (whole : WholeCode) (known : Knowledge) : Type 0 where
  pub globals : length whole.program.globals ≤ numbers
  pub locals : (f : ℕ) → length (variables_in (slice_get whole.program.functions f)) ≤ numbers
  pub classes : length whole.classes ≤ numbers
  pub places : (f at : ℕ) → (known.at f at).places < numbers
  pub named : (f at : ℕ) → length (known.at f at).names ≤ names
  pub ops : (f at : ℕ) (its : Placed) → placed_in whole f at ≡ Some its → SmallOp its.op

module _ (whole : WholeCode) (known : Knowledge) (fits : IsSmallProgram whole known) where
  pub parameters_small : (f : ℕ) → SmallParameters (parameters_of whole f)
  parameters_small f =
      let few = parameters_below (slice_get whole.program.functions f) (fits.locals f) in
      slots_small whole.program.types whole.program.same whole.classes fits.classes 0 (parameters_in (slice_get whole.program.functions f)) (omega (arith))

  scope_small : (f : ℕ) → IsSmallScope (scope_at whole f) (length whole.classes)
  scope_small f = record { globals = fits.globals; locals = fits.locals f; classes_fit = fits.classes }

  pub step_small : (f at : ℕ) (its : Placed) (fact : Fact) → placed_in whole f at ≡ Some its → IsSmall fact
      → SmallFacts (next_in whole f (known.at f at) its.op fact)
  step_small f at its fact there small =
      next_small (scope_at whole f) (length whole.classes) (known.at f at) (scope_small f) (fits.places f at) (fits.named f at) fact small its.op
      (fits.ops f at its there)
