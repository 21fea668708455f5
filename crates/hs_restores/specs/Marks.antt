-- Variables by marks (own): a mark for each variable of a function, and one for each global. Those that are marked are listed and numbered.
--     is_marked marks place            the variable of that place is marked
--     listed locals globals            the variables that are marked: the locals by place, and then the globals by place
--     numbered first marks             the number of each one that is marked, from that one on
--     number_of its len v              the number of a variable, or the length of the list
--     handle_locals types variables    marks the handle names among the locals
--     handle_globals types ops 0 globals      and among the globals
--     one_names place_by ops place     an operation names that place
--     is_changed scope code assigned v a slot that the function sets, or that it may assign under calls
use Rattle.std.specs.Prelude.{ℕ, suc, set, Bool, true, false, ◌==◌, ◌&&◌, ◌||◌, nat_lt, List, [], ◌∷◌, ◌++◌, length, slice_get, Option, Some, None}
use Rattle.hs_code.specs.Stacks.{Scope}
use Rattle.hs_code.specs.declared.function_code.FunctionCode.{FunctionCode}
use Rattle.hs_code.specs.declared.function_code.Placed.{Placed}
use Rattle.hs_code.specs.declared.op.Op.{Op}
use Rattle.hs_code.specs.declared.op.Op.TheVariants as op
use Rattle.hs_facts.specs.Names.{is_handle, mentions, named_if}
use Rattle.hs_restores.specs.declared.numbers.Whose.{Whose}
use Rattle.hs_restores.specs.declared.numbers.Whose.TheVariants as whose
use Rattle.hs_tree.specs.declared.globals.Global.{Global}
use Rattle.hs_tree.specs.declared.head.Variable.{Variable}
use Rattle.hs_tree.specs.declared.head.Variable.TheVariants as name
use Rattle.hs_tree.specs.declared.head.VariableDecl.{VariableDecl}
use Rattle.hs_types.specs.TypeTables.{TypeTable}

-- ---- lists

-- a mark that is there
abbrev pub is_set : Option Bool → Bool
is_set None = false
is_set (Some it) = it

-- the variable of that place is marked
abbrev pub is_marked : List Bool → ℕ → Bool
is_marked marks place = is_set (slice_get marks place)

-- a variable of the function or of the program
abbrev pub variable_of : Whose → ℕ → Variable
variable_of whose.Local place = name.Local place
variable_of whose.Global place = name.Global place

-- those that are marked, from that place on
abbrev pub listed_from : Whose → ℕ → List Bool → List Variable
listed_from its place [] = []
listed_from its place (mark ∷ rest) = named_if mark (variable_of its place) (listed_from its (suc place) rest)

-- the locals that are marked, and then the globals
abbrev pub listed : List Bool → List Bool → List Variable
listed locals globals = listed_from whose.Local 0 locals ++ listed_from whose.Global 0 globals

-- ---- numbers

-- how many variables there are after that one
abbrev pub next_number : Bool → ℕ → ℕ
next_number true number = suc number
next_number false number = number

-- the number of one that is marked
abbrev pub number_if : Bool → ℕ → Option ℕ
number_if true number = Some number
number_if false number = None

-- a table: the number of each variable that is marked, from that number on
abbrev pub numbered : ℕ → List Bool → List (Option ℕ)
numbered first [] = []
numbered first (mark ∷ rest) = number_if mark first ∷ numbered (next_number mark first) rest

-- a number that is there, or the other one
abbrev pub number_or : ℕ → Option (Option ℕ) → ℕ
number_or other None = other
number_or other (Some None) = other
number_or other (Some (Some number)) = number

-- by the tables of the locals and of the globals
abbrev pub number_of : List (Option ℕ) → List (Option ℕ) → ℕ → Variable → ℕ
number_of locals globals len (name.Local place) = number_or len (slice_get locals place)
number_of locals globals len (name.Global place) = number_or len (slice_get globals place)

-- ---- handle names

-- the locals that may have a handle
abbrev pub handle_locals : TypeTable → List VariableDecl → List Bool
handle_locals types [] = []
handle_locals types (it ∷ rest) = is_handle types (Some it) ∷ handle_locals types rest

-- the globals from that place on that may have a handle, if the operations mention them
abbrev pub handle_globals : TypeTable → List Placed → ℕ → List Global → List Bool
handle_globals types ops place [] = []
handle_globals types ops place (it ∷ rest) =
    (is_handle types (Some it.variable) && mentions ops place) ∷ handle_globals types ops (suc place) rest

-- ---- globals that are mentioned

-- the global that an operation gets or sets
abbrev pub touched_by : Op → Option ℕ
touched_by (op.Get (name.Global place)) = Some place
touched_by (op.Set (name.Global place)) = Some place
touched_by _ = None

-- that place is marked, if it is there
abbrev pub with_mark : List Bool → Option ℕ → List Bool
with_mark marks None = marks
with_mark marks (Some place) = set marks place true

-- it is that place
abbrev pub hits : ℕ → Option ℕ → Bool
hits place None = false
hits place (Some it) = it == place

module _ (place_by : Op → Option ℕ) where
  -- one of the operations names that place
  abbrev pub one_names : List Placed → ℕ → Bool
  one_names [] place = false
  one_names (its ∷ rest) place = hits place (place_by its.op) || one_names rest place

  -- one operation more
  abbrev pub with_op : List Bool → Placed → List Bool
  with_op marks its = with_mark marks (place_by its.op)

-- ---- slots

-- the local that an operation sets
abbrev pub local_set_by : Op → Option ℕ
local_set_by (op.Set (name.Local place)) = Some place
local_set_by _ = None

-- marks the globals from that place on that a function may assign
abbrev pub assigned_globals : (ℕ → Bool) → ℕ → List Global → List Bool
assigned_globals assigned place [] = []
assigned_globals assigned place (it ∷ rest) = assigned place ∷ assigned_globals assigned (suc place) rest

-- a local that an operation sets, or a global that the function may assign
abbrev pub is_changed : Scope → FunctionCode → (ℕ → Bool) → Variable → Bool
is_changed scope code assigned (name.Local place) = nat_lt place (length scope.variables) && one_names local_set_by code.ops place
is_changed scope code assigned (name.Global place) = nat_lt place (length scope.globals) && assigned place
