-- The calls of a run, by the functions that they are of (own). A point of a run has the code of a function and no number of it, and two functions may
-- have one code; and of a call that waits it has the variables and the values that are left, and not the machine as of the call.
--     Here, Wait                    the call that goes on, and one that waits, as it was when it called
--     waiting_of, point_of          what of them a point of the run has
--     beginning, resumed            a call that begins, and one to which a function has returned
--     IsWait program w              it waits at a call of that function
--     steady_in, lasts_to           what a step may leave of a block that could not move ever since the call began
use Rattle.std.specs.Prelude.{◌≡◌, ℕ, suc, Bool, false, not, ◌&&◌, ◌||◌, List, [], ◌∷◌, map, slice_get, Option, Some, None}
use Rattle.hs_code.specs.declared.function_code.Placed.{Placed}
use Rattle.hs_code.specs.declared.op.Op.TheVariants as op
use Rattle.hs_code_run.specs.Codes.{CodeFunction, CodeProgram, Waiting, Point}
use Rattle.hs_code_run.specs.Steps.{taken, below}
use Rattle.hs_heap.specs.Blocks.{Block}
use Rattle.hs_heap.specs.Memory.{block_at}
use Rattle.hs_heap.specs.Shift.{is_loose, is_present}
use Rattle.hs_meaning.specs.Machine.{Machine}
use Rattle.hs_meaning.specs.Values.{Value}

-- ---- calls

-- The call that goes on: its function, the operation that is next, and the values on its stack.
pub record Here : Type 0 where
  pub fn : ℕ
  pub function : CodeFunction
  pub at : ℕ
  pub stack : List Value
  -- the blocks that could not move ever since the call began
  pub lasting : ℕ → Bool

-- A call that waits, as it was when it called: its arguments are still on its stack, and the machine is that of the call.
pub record Wait : Type 0 where
  pub here : Here
  pub machine : Machine
  pub called : ℕ
  pub callee : CodeFunction

-- what a point has of it
abbrev pub waiting_of : Wait → Waiting
waiting_of w =
    record {
      frame = record { code = w.here.function.code; at = suc w.here.at; stack = below w.callee.parameters w.here.stack };
      locals = w.machine.locals;
      arguments = taken w.callee.parameters w.here.stack;
    }

-- the point where the one goes on and the others wait
abbrev pub point_of : Here → List Wait → List Bool → Point
point_of here ws choices =
    record { frame = record { code = here.function.code; at = here.at; stack = here.stack }; waiting = map waiting_of ws; choices = choices }

-- it waits at a call of that function
pub record IsWait (program : CodeProgram) (w : Wait) : Type 0 where
  pub its : Placed
  pub there : slice_get w.here.function.code.ops w.here.at ≡ Some its
  pub calls : its.op ≡ op.Call w.called
  pub callee : slice_get program.functions w.called ≡ Some w.callee

-- ---- blocks that cannot move

-- a block that is there and not loose: locked, or not present
abbrev pub is_fixed : Option Block → Bool
is_fixed None = false
is_fixed (Some block) = not (is_loose block)

-- in that machine, by its number
abbrev pub fixed_in : Machine → ℕ → Bool
fixed_in machine n = is_fixed (block_at machine.blocks n)

-- it has its cells
abbrev pub is_present_if : Option Block → Bool
is_present_if None = false
is_present_if (Some block) = is_present block.presence

-- in that machine, by its number
abbrev pub present_in : Machine → ℕ → Bool
present_in machine n = is_present_if (block_at machine.blocks n)

-- It cannot move after a step, and has got no new cells by it: so a block that lasts and is present was present when the call began.
abbrev pub steady_in : Machine → Machine → ℕ → Bool
steady_in before after n = fixed_in after n && (present_in before n || not (present_in after n))

-- the blocks that could not move ever since the call began, after a step from that machine to another one
abbrev pub lasts_to : Here → Machine → Machine → ℕ → Bool
lasts_to here before after = λ n. here.lasting n && steady_in before after n

-- ---- how calls go on

-- elsewhere in the same call
abbrev pub moved : Here → ℕ → List Value → (ℕ → Bool) → Here
moved here at stack lasting = record { fn = here.fn; function = here.function; at = at; stack = stack; lasting = lasting }

-- a call that begins
abbrev pub beginning : ℕ → CodeFunction → Machine → Here
beginning fn function machine = record { fn = fn; function = function; at = 0; stack = []; lasting = fixed_in machine }

-- with what the function gave, and what lasted in it
abbrev pub resumed : Wait → Value → (ℕ → Bool) → Here
resumed w value lasting =
    moved w.here (suc w.here.at) (value ∷ below w.callee.parameters w.here.stack) (λ n. w.here.lasting n && lasting n)
