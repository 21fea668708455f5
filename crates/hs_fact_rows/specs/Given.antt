-- What an operation gives of the facts With and Saved, in numbers (own). A set of facts is a test of them.
--     given gone step facts       the facts that are there after a step, from those before it
use Rattle.std.specs.Prelude.{◌≡◌, ◌<◌, ◌≤◌, ◌^◌, ℕ, suc, ◌-◌, ◌==◌, Bool, true, false, not, ◌&&◌, ◌||◌, if◌then◌else◌, nat_lt, List, slice_get, Option, Some, None}
use Rattle.hs_fact_rows.specs.Cells.{Cell, with_at, saved_at, saved_in, IsIn, number, total, with_field}
use Rattle.hs_fact_rows.specs.declared.plan.Plan.{Plan}
use Rattle.hs_fact_rows.specs.declared.step.Step.{Step}
use Rattle.hs_fact_rows.specs.declared.step.Step.TheVariants as step
use Rattle.hs_tree.specs.declared.head.Variable.{Variable}
use Rattle.hs_tree.specs.declared.head.Variable.TheVariants as name
use Rattle.hs_rows.specs.Sets.{Sets, has, width, SameSize, KeepsRows}

-- a set of facts, and a set of names
abbrev pub Facts : Type 0
Facts = Cell → Bool

abbrev pub Names : Type 0
Names = ℕ → Bool

-- ---- parts of a step: whether a fact is there after it, from whether it was before

-- its places are below that one
abbrev pub below : ℕ → Cell → Bool
below depth (with_at place i) = nat_lt place depth
below depth (saved_at place i) = nat_lt place depth
below depth (saved_in slot i) = true

-- only what is below that place stays
abbrev pub popped : ℕ → Cell → Bool → Bool
popped base cell before = below base cell && before

-- all about these names ends
abbrev pub name_of : Cell → ℕ
name_of (with_at place i) = i
name_of (saved_at place i) = i
name_of (saved_in slot i) = i

abbrev pub without : Names → Cell → Bool → Bool
without names cell before = not (names (name_of cell)) && before

-- that place has these names, and a byte of these
abbrev pub placed : ℕ → Names → Names → Cell → Bool → Bool
placed place with_names saved_names (with_at at i) before = if at == place then with_names i else before
placed place with_names saved_names (saved_at at i) before = if at == place then saved_names i else before
placed place with_names saved_names (saved_in slot i) before = before

-- that place has the name too
abbrev pub named : ℕ → ℕ → Cell → Bool → Bool
named place name (with_at at i) before = ((at == place) && (i == name)) || before
named place name (saved_at at i) before = before
named place name (saved_in slot i) before = before

-- these slots have a byte of these names
abbrev pub slotted : Names → Names → Cell → Bool → Bool
slotted slots saved_names (with_at at i) before = before
slotted slots saved_names (saved_at at i) before = before
slotted slots saved_names (saved_in at i) before = if slots at then saved_names i else before

-- the names of a place, and those of its byte, if there are so many values
abbrev pub with_of : Facts → ℕ → ℕ → Names
with_of facts depth place i = nat_lt place depth && facts (with_at place i)

abbrev pub saved_of : Facts → ℕ → ℕ → Names
saved_of facts depth place i = nat_lt place depth && facts (saved_at place i)

-- no name, and that one
abbrev pub no_name : Names
no_name i = false

abbrev pub one_name : ℕ → Names
one_name name i = i == name

-- ---- steps

-- the value of a place goes to another one, and all from the base on ends
abbrev pub copied : ℕ → ℕ → ℕ → Facts → Cell → Bool → Bool
copied depth from to facts = placed to (with_of facts depth from) (saved_of facts depth from)

-- A place below the top gets the value above it, and the top that of the base.
abbrev pub brought : ℕ → ℕ → Facts → Cell → Bool → Bool
brought depth base facts (with_at at i) before =
    if at == depth - 1 then with_of facts depth base i else (if nat_lt at base then before else with_of facts depth (suc at) i)
brought depth base facts (saved_at at i) before =
    if at == depth - 1 then saved_of facts depth base i else (if nat_lt at base then before else saved_of facts depth (suc at) i)
brought depth base facts (saved_in slot i) before = before

-- The facts after a step. Calls of a function end what is about these names and slots.
abbrev pub given : (ℕ → Names) → (ℕ → Names) → Step → Facts → Facts
given names slots (step.Pop base) facts cell = popped base cell (facts cell)
given names slots (step.Get to slot name) facts cell = placed to (one_name name) (λ i. facts (saved_in slot i)) cell (popped to cell (facts cell))
given names slots (step.SetName depth name slot) facts cell =
    named (depth - 1) name cell (slotted (one_name slot) no_name cell (without (one_name name) cell (popped depth cell (facts cell))))
given names slots (step.SetSlot depth slot) facts cell =
    slotted (one_name slot) (saved_of facts depth (depth - 1)) cell (popped depth cell (facts cell))
given names slots (step.Dup depth) facts cell = copied depth (depth - 1) depth facts cell (popped depth cell (facts cell))
given names slots (step.Tuck depth) facts cell =
    copied depth (depth - 1) depth facts cell (copied depth (depth - 2) (depth - 1) facts cell
    (copied depth (depth - 1) (depth - 2) facts cell (popped (depth - 2) cell (facts cell))))
given names slots (step.Conv depth) facts cell =
    placed (depth - 1) no_name (saved_of facts depth (depth - 1)) cell (popped (depth - 1) cell (facts cell))
given names slots (step.Bring depth base) facts cell = brought depth base facts cell (popped base cell (facts cell))
given names slots (step.ReadState depth base) facts cell = placed base no_name (with_of facts depth base) cell (popped base cell (facts cell))
given names slots (step.Call base f) facts cell = slotted (slots f) no_name cell (without (names f) cell (popped base cell (facts cell)))

-- ---- calls

-- the variable is a global that is assigned
abbrev pub gone_of : (ℕ → Bool) → Option Variable → Bool
gone_of assigned None = false
gone_of assigned (Some (name.Global g)) = assigned g
gone_of assigned (Some (name.Local place)) = false

-- and so is the one of that number
abbrev pub gone : (ℕ → Bool) → List Variable → Names
gone assigned list i = gone_of assigned (slice_get list i)

-- by what each function assigns
abbrev pub given_by : (ℕ → ℕ → Bool) → List Variable → List Variable → Step → Facts → Facts
given_by assigned names slots = given (λ f. gone (assigned f) names) (λ f. gone (assigned f) slots)

-- ---- rows

module _ (plan : Plan) where
  -- the facts of a row
  abbrev pub facts_in : Sets → ℕ → Facts
  facts_in sets row cell = has sets row (number plan cell)

  -- the row is there and has room for the facts, whose numbers are numbers of the machine
  pub record IsFit (sets : Sets) (row : ℕ) : Type 0 where
    pub names : plan.names ≤ 64
    pub fields : with_field plan plan.places < 2 ^ 64
    pub numbers : total plan < 2 ^ 64
    pub room : total plan ≤ width sets
    pub there : row < sets.count

  -- the numbers of a step are those of the plan
  abbrev pub FitsStep : Step → Type 0
  FitsStep (step.Pop base) = Unit {0}
  FitsStep (step.Get to slot name) = slot ≤ plan.slots
  FitsStep (step.SetName depth name slot) = slot ≤ plan.slots
  FitsStep (step.SetSlot depth slot) = (depth ≤ plan.places) × (slot ≤ plan.slots)
  FitsStep (step.Dup depth) = depth ≤ plan.places
  FitsStep (step.Tuck depth) = depth ≤ plan.places
  FitsStep (step.Conv depth) = depth ≤ plan.places
  FitsStep (step.Bring depth base) = depth ≤ plan.places
  FitsStep (step.ReadState depth base) = depth ≤ plan.places
  FitsStep (step.Call base f) = Unit {0}

  -- a row is changed, fact by fact, and no other
  pub record Turns (row : ℕ) (value : Cell → Bool → Bool) (old new : Sets) : Type 0 where
    pub facts : (cell : Cell) → IsIn plan cell → facts_in new row cell ≡ value cell (facts_in old row cell)
    pub others : KeepsRows row old new
    pub size : SameSize old new

  -- a row is made from another one
  pub record Makes (row from : ℕ) (value : Facts → Facts) (old new : Sets) : Type 0 where
    pub facts : (cell : Cell) → IsIn plan cell → facts_in new row cell ≡ value (facts_in old from) cell
    pub others : KeepsRows row old new
    pub size : SameSize old new
