-- The callers of functions, as lists.
--     whole_of code                a program with its code, as the definitions of effects see it
--     callers_from rows f          the callers of f
--     AreCallers whole rows        they are those of the program
--     Gets rows Own f b            the function f has b itself, or calls a function that gets it
use Rattle.std.specs.List.{Contains}
use Rattle.std.specs.Prelude.{◌≡◌, ◌<◌, ◌⊎◌, ◌↔◌, ℕ, List, [], length, Option, Some, None, slice_get}
use Rattle.std.specs.declared.alloc.Global.{Global}
use Rattle.std.specs.declared.vec.Vec.{Vec}
use Rattle.hs_code.specs.Codes.{view_program}
use Rattle.hs_code.specs.declared.code.Code.{Code}
use Rattle.hs_code.specs.declared.function_code.Placed.{Placed}
use Rattle.hs_code.specs.declared.op.Op.{Op}
use Rattle.hs_code.specs.declared.op.Op.TheVariants as op
use Rattle.hs_facts.specs.Effects.{WholeCode, Calls, ops_in}

-- the program of the code, its classes, and the code of its functions
abbrev pub whole_of : Code → WholeCode
whole_of code = record { program = view_program code.program.now; classes = code.classes.items; functions = code.functions.items }

-- the callers of a row
abbrev pub row_items : Option (Vec ℕ Global) → List ℕ
row_items None = []
row_items (Some row) = row.items

-- of the function of that number
abbrev pub callers_from : List (Vec ℕ Global) → ℕ → List ℕ
callers_from rows f = row_items (slice_get rows f)

-- the function that an operation calls
abbrev pub callee_of : Op → Option ℕ
callee_of (op.Call g) = Some g
callee_of _ = None

-- the operation of that number calls g
abbrev pub IsCallIn : List Placed → ℕ → ℕ → Type 0
IsCallIn ops at g = (its : Placed) × (slice_get ops at ≡ Some its) × (callee_of its.op ≡ Some g)

-- one function has one caller more
pub record CallerPut (callee caller : ℕ) (old new : List (Vec ℕ Global)) : Type 0 where
  pub each : length new ≡ length old
  pub kept : (f c : ℕ) → Contains (callers_from old f) c → Contains (callers_from new f) c
  pub comes : Contains (callers_from new callee) caller
  pub back : (f c : ℕ) → Contains (callers_from new f) c → Contains (callers_from old f) c ⊎ ((f ≡ callee) × (c ≡ caller))

-- the operations of a function up to that number are among the callers
pub record CallsPut (ops : List Placed) (caller count : ℕ) (old new : List (Vec ℕ Global)) : Type 0 where
  pub each : length new ≡ length old
  pub kept : (f c : ℕ) → Contains (callers_from old f) c → Contains (callers_from new f) c
  pub comes : (at g : ℕ) → at < count → IsCallIn ops at g → Contains (callers_from new g) caller
  pub back : (f c : ℕ) → Contains (callers_from new f) c → Contains (callers_from old f) c ⊎ ((c ≡ caller) × ((at : ℕ) × IsCallIn ops at f))

-- and those of the functions up to that number
pub record AllCallsPut (whole : WholeCode) (count : ℕ) (rows : List (Vec ℕ Global)) : Type 0 where
  pub each : length rows ≡ length whole.functions
  pub comes : (c at g : ℕ) → c < count → IsCallIn (ops_in (slice_get whole.functions c)) at g → Contains (callers_from rows g) c
  pub back : (f c : ℕ) → Contains (callers_from rows f) c → (at : ℕ) × IsCallIn (ops_in (slice_get whole.functions c)) at f

-- exactly the functions that call it
abbrev pub AreCallers : WholeCode → List (Vec ℕ Global) → Type 0
AreCallers whole rows = (f c : ℕ) → Contains (callers_from rows f) c ↔ Calls whole c f

-- numbers go from a function to its callers
pub data Gets (rows : List (Vec ℕ Global)) (Own : ℕ → ℕ → Type 0) : ℕ → ℕ → Type 0 where
  itself : (f b : ℕ) → Own f b → Gets rows Own f b
  called : (c f b : ℕ) → Contains (callers_from rows f) c → Gets rows Own f b → Gets rows Own c b
