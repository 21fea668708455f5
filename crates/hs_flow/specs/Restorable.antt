-- Which slots may have a handle of a block whose state is put back (own).
--     pointer_globals, pointer_locals        the variables among them
--     places_below, classes_below            the places and the classes
--     restorable scope classes base          the slots of pointers: variables of the program and of the function, places below the arguments, classes
--     purgeable_of given argument slots      those that are not apart from the argument may have a handle of a purgeable block
use Rattle.std.specs.Prelude.{ℕ, zero, suc, Bool, ◌&&◌, List, [], ◌∷◌, ◌++◌, if◌then◌else◌}
use Rattle.hs_code.specs.Stacks.{Scope}
use Rattle.hs_flow.specs.Given.{Given, apart}
use Rattle.hs_flow.specs.Slots.{slot_if}
use Rattle.hs_flow.specs.declared.fact.Fact.{Fact}
use Rattle.hs_flow.specs.declared.fact.FactStatus.TheVariants as status
use Rattle.hs_flow.specs.declared.fact.Slot.{Slot}
use Rattle.hs_flow.specs.declared.fact.Slot.TheVariants as slot
use Rattle.hs_tree.specs.Classes.{is_slot}
use Rattle.hs_tree.specs.Kinds.{is_pointer}
use Rattle.hs_tree.specs.declared.globals.Global.{Global}
use Rattle.hs_tree.specs.declared.head.Variable.TheVariants as name
use Rattle.hs_tree.specs.declared.head.VariableDecl.{VariableDecl}
use Rattle.hs_types.specs.TypeTables.{TypeTable}

-- a slot of a pointer type
abbrev pub is_pointer_slot : TypeTable → VariableDecl → Bool
is_pointer_slot types variable = is_slot types variable && is_pointer types variable.type_id

-- those among the variables of the program from that place on
abbrev pub pointer_globals : TypeTable → ℕ → List Global → List Slot
pointer_globals types place [] = []
pointer_globals types place (it ∷ rest) =
    slot_if (is_pointer_slot types it.variable) (slot.Variable (name.Global place)) ++ pointer_globals types (suc place) rest

-- and among those of the function
abbrev pub pointer_locals : TypeTable → ℕ → List VariableDecl → List Slot
pointer_locals types place [] = []
pointer_locals types place (it ∷ rest) =
    slot_if (is_pointer_slot types it) (slot.Variable (name.Local place)) ++ pointer_locals types (suc place) rest

-- the places below that one
abbrev pub places_below : ℕ → List Slot
places_below zero = []
places_below (suc place) = places_below place ++ slot.Place place ∷ []

-- so many classes
abbrev pub classes_below : ℕ → List Slot
classes_below zero = []
classes_below (suc class) = classes_below class ++ slot.Class class ∷ []

-- every slot that may have a handle, apart from the arguments
abbrev pub restorable : Scope → ℕ → ℕ → List Slot
restorable scope classes base =
    pointer_globals scope.types 0 scope.globals
    ++ (pointer_locals scope.types 0 scope.variables ++ (places_below base ++ classes_below classes))

-- one slot may have a handle of a purgeable block, unless it is apart from the argument
abbrev pub purgeable_at : Given → Slot → Slot → List Fact
purgeable_at given argument of = if apart given of argument then [] else record { slot = of; status = status.Purgeable } ∷ []

-- and each of these
abbrev pub purgeable_of : Given → Slot → List Slot → List Fact
purgeable_of given argument [] = []
purgeable_of given argument (of ∷ rest) = purgeable_at given argument of ++ purgeable_of given argument rest
