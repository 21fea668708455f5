-- Where the code stands, in the words of the definition. It keeps its own stack: an invocation waits there while one of its
-- arguments is expanded.
--     frame_outcome names macros frame            what comes of the tokens done and those ahead
--     call_outcome names macros before call left  what comes of an invocation after those
--     resumed names macros calls outcome          what comes of all, if that comes of the innermost
--     with_sources front replaced                 what comes after the tokens that all gave already
--     IsStep whole later result                   the result decides what the whole comes to
--     weights names calls, weight frame           how many steps are left at most
use Rattle.std.specs.Prelude.{◌≡◌, ℕ, ◌+◌, List, [], ◌∷◌, ◌++◌, length, Result, Ok, Err}
use Rattle.hs_tokens.specs.declared.token.SourceToken.{SourceToken}
use Rattle.hs_macros.specs.Arguments.{Hidden}
use Rattle.hs_macros.specs.Definitions.{Definitions}
use Rattle.hs_macros.specs.Refusals.{IsRefusal}
use Rattle.hs_macros.specs.Replacement.{Expansion, Outcome, Replaced, with_front, and_then, called, expanded}
use Rattle.hs_macros.specs.Loads.{load}
use Rattle.hs_macros.specs.Stacks.{done, ahead, ready, waiting, invocation}
use Rattle.hs_macros.specs.declared.budget.Budget.{Budget}
use Rattle.hs_macros.specs.declared.call.Call.{Call}
use Rattle.hs_macros.specs.declared.error.MacroError.{MacroError}
use Rattle.hs_macros.specs.declared.frame.Frame.{Frame}
use Rattle.hs_macros.specs.declared.frame.Suspended.{Suspended}

-- the tokens that all gave already come first
abbrev pub with_sources : List SourceToken → Result Replaced MacroError → Result Replaced MacroError
with_sources front (Err error) = Err error
with_sources front (Ok later) = Ok (record { tokens = front ++ later.tokens; left = later.left })

-- A step goes on to what comes to the same, or it gives the refusal that all comes to. Want of memory alone is free.
abbrev pub IsStep : Outcome → (Frame → Outcome) → Result Frame MacroError → Type 0
IsStep whole later (Ok frame) = later frame ≡ whole
IsStep whole later (Err error) = IsRefusal whole error

-- the tokens ahead, and those that may still be put in place
abbrev pub weight : Frame → ℕ
weight frame = length frame.tokens.items + frame.left.tokens

module _ (names : List (List ℕ)) where
  -- the tokens that are done, and what comes of those ahead
  abbrev pub frame_outcome : Definitions → Frame → Outcome
  frame_outcome macros frame = with_front (done names frame.before.items) (expanded macros frame.left (ahead names frame.tokens.items))

  -- the tokens before an invocation, and what comes of it
  abbrev pub call_outcome : Definitions → List Hidden → Call → Budget → Outcome
  call_outcome macros before call left =
      with_front before (called (expanded macros) (invocation names call) (ready names call.ready.items) (waiting names call.waiting.items) left)

  -- what comes of an invocation when the argument for which it waits is expanded
  abbrev pub after_argument : Definitions → Suspended → Expansion → Outcome
  after_argument macros suspended argument =
      with_front (done names suspended.before.items) (called (expanded macros) (invocation names suspended.call)
      (ready names suspended.call.ready.items ++ record { parameter = suspended.parameter.now.name; tokens = argument.tokens } ∷ [])
      (waiting names suspended.call.waiting.items) argument.left)

  -- the invocations that wait, the innermost last
  abbrev pub resumed : Definitions → List Suspended → Outcome → Outcome
  resumed macros [] outcome = outcome
  resumed macros (suspended ∷ calls) outcome = and_then (resumed macros calls outcome) (after_argument macros suspended)

  -- what an invocation that waits holds, and itself
  abbrev pub weight_of : Suspended → ℕ
  weight_of suspended = load (waiting names suspended.call.waiting.items) + length suspended.call.behind.items + 1

  -- all of them
  abbrev pub weights : List Suspended → ℕ
  weights [] = 0
  weights (suspended ∷ calls) = weight_of suspended + weights calls
