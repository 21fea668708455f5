-- What the code's parts stand for, in the words of the definition. If tokens are still ahead, the next one is the last
-- of its list, so that it is taken and put without moving the others. What a token hides is kept as numbers of macros, whose
-- names are those of the table.
--     hidden names pending                the token
--     done names tokens, ahead names tokens     tokens in order, and tokens that are still ahead
--     collected given argument found      the arguments so far and those that are found, with what is after them
--     seen names found behind             what was found between the parentheses of an invocation
use Rattle.std.specs.Prelude.{ℕ, List, [], ◌∷◌, ◌++◌, map, reverse, Option, Some, None, Result, Ok, Err, Vec, ◌≡◌, ◌⊎◌, ◌-◌, nat_lt, if◌then◌else◌}
use Rattle.std.specs.Borrow.{Bor}
use Rattle.std.specs.declared.alloc.Global.{Global}
use Rattle.hs_base.specs.declared.pos.Pos.{Pos}
use Rattle.hs_macros.specs.Arguments.{Hidden, Arguments, Argument}
use Rattle.std.specs.FinSet as set
use Rattle.hs_macros.specs.Numbers.{Entries, Numbers, names_in, definitions_in, IsNumber, named}
use Rattle.hs_macros.specs.Replacement.{Invocation, stays, wrong, invoked, found_form, found}
use Rattle.hs_macros.specs.Replacement as spec
use Rattle.hs_macros.specs.declared.pending.Pending.{Pending}
use Rattle.hs_macros.specs.declared.arguments.Between.{Between}
use Rattle.hs_macros.specs.declared.arguments.Supplied.{Supplied}
use Rattle.hs_macros.specs.declared.error.MacroError.{MacroError}
use Rattle.hs_macros.specs.declared.error.MacroError.TheVariants.{ArgCount, NoMemory}
use Rattle.hs_macros.specs.declared.call.Call.{Call}
use Rattle.hs_macros.specs.declared.slot.Parameter.{Parameter}
use Rattle.hs_macros.specs.declared.table.Numbered.{Numbered}
use Rattle.hs_macros.specs.Slots.{tokens_of, Fits}
use Rattle.hs_macros.specs.declared.placing.Joined.{Joined}
use Rattle.hs_macros.specs.declared.call.Found.{Found}
use Rattle.hs_macros.specs.declared.call.Found.TheVariants.{Stays, Invoked}

-- the arguments of an invocation, and what follows them
pub record Collected : Type 0 where
  pub given : List (List Hidden)
  pub close : Hidden
  pub behind : List Hidden

-- the arguments before, the first tokens of the next one, and what is found from there
abbrev pub collected : List (List Hidden) → List Hidden → Option Arguments → Option Collected
collected given argument None = None
collected given argument (Some found) =
    Some (record { given = given ++ (argument ++ found.first) ∷ found.others; close = found.close; behind = found.behind })

-- more arguments after those that were paired
abbrev pub with_later : Option (List Argument) → List Argument → Option (List Argument)
with_later None later = None
with_later (Some arguments) later = Some (arguments ++ later)

-- what is left of the room for tokens, if they fit
abbrev pub room_after : ℕ → ℕ → Option ℕ
room_after room count = if nat_lt room count then None else Some (room - count)

module _ (names : List (List ℕ)) where
  -- a token on its way
  abbrev pub hidden : Pending → Hidden
  hidden pending = record { token = record pending.token.now { pos = pending.pos }; origin = pending.origin; hides = named names pending.hides.value }

  -- tokens in order
  abbrev pub done : List Pending → List Hidden
  done tokens = map hidden tokens

  -- tokens, the next one last
  abbrev pub ahead : List Pending → List Hidden
  ahead tokens = map hidden (reverse tokens)

  -- what was found, and what follows it
  abbrev pub seen : Option Between → List Hidden → Option Collected
  seen None behind = None
  seen (Some between) behind =
      Some (record { given = map (λ argument. done argument.items) between.given.items; close = hidden between.close; behind = behind })

  -- an argument with its parameter
  abbrev pub argument : Supplied → Argument
  argument supplied = record { parameter = supplied.parameter.now.name; tokens = done supplied.tokens.items }

  -- arguments in order
  abbrev pub ready : List Supplied → List Argument
  ready arguments = map argument arguments

  -- arguments, the next one last
  abbrev pub waiting : List Supplied → List Argument
  waiting arguments = map argument (reverse arguments)

  -- the paired arguments, the next one last
  abbrev pub seen_waiting : Option (Vec Supplied Global) → Option (List Argument)
  seen_waiting None = None
  seen_waiting (Some arguments) = Some (waiting arguments.items)

  -- the invocation of a call
  abbrev pub invocation : Call → Invocation
  invocation call = record { body = tokens_of call.body.now; pos = call.pos; hides = named names call.hides.value; behind = ahead call.behind.items }

  -- What is said of what begins at a token at that place, with the tokens after it.
  abbrev pub IsFound : spec.Found → Pos → List Hidden → Result Found MacroError → Type 0
  IsFound found pos rest (Ok (Stays tokens)) = (found ≡ stays) × (ahead tokens.items ≡ rest)
  IsFound found pos rest (Ok (Invoked call)) = (found ≡ invoked (invocation call) (waiting call.waiting.items)) × (call.ready.items ≡ [])
  IsFound found pos rest (Err error) = (error ≡ NoMemory) ⊎ ((found ≡ wrong) × (error ≡ ArgCount pos))

  -- the same of a function-like macro whose opening parenthesis was found
  abbrev pub IsCalled : spec.Found → Pos → Result Call MacroError → Type 0
  IsCalled found pos (Ok call) = (found ≡ invoked (invocation call) (waiting call.waiting.items)) × (call.ready.items ≡ [])
  IsCalled found pos (Err error) = (error ≡ NoMemory) ⊎ ((found ≡ wrong) × (error ≡ ArgCount pos))

  -- the argument, if there is one
  abbrev pub seen_argument : Option (Bor (List Pending)) → Option (List Hidden)
  seen_argument None = None
  seen_argument (Some tokens) = Some (done tokens.now)

-- the parameters of the arguments, in order
abbrev pub parameters_in : List Supplied → List Parameter
parameters_in arguments = map (λ argument. argument.parameter.now) arguments

-- the same if the next argument is last
abbrev pub parameters_ahead : List Supplied → List Parameter
parameters_ahead arguments = map (λ argument. argument.parameter.now) (reverse arguments)

-- the tokens of a call's macro and its parameters fit each other
abbrev pub IsKnown : Call → Type 0
IsKnown call = Fits (parameters_in call.ready.items ++ parameters_ahead call.waiting.items) call.body.now

-- the same of what begins at a token
abbrev pub IsFit : Found → Type 0
IsFit (Stays tokens) = Unit {0}
IsFit (Invoked call) = IsKnown call

-- the parameters of a call, if the argument of this one is neither ready nor waiting
abbrev pub parameters_around : Call → Bor Parameter → List Parameter
parameters_around call parameter = parameters_in call.ready.items ++ parameter.now ∷ parameters_ahead call.waiting.items

-- What is said of the definition that may replace a token: the form of the macro decides what begins at the token, whatever
-- follows it, and its number is that of the name. If there is no such definition, the token stays.
abbrev pub IsReplacing : Entries → Pending → Option Numbered → Type 0
IsReplacing entries token None = (rest : List Hidden) → found (definitions_in entries) (hidden (names_in entries) token) rest ≡ stays
IsReplacing entries token (Some numbered) =
    ((rest : List Hidden) → found (definitions_in entries) (hidden (names_in entries) token) rest
    ≡ found_form (hidden (names_in entries) token) rest numbered.definition.now.body numbered.definition.now.parameters)
    × IsNumber (names_in entries) token.token.now.text numbered.number

-- what the tokens that hid the same before hide when they replace an invocation that hides these
abbrev pub IsJoined : Numbers → Joined → Type 0
IsJoined hides joined = joined.both.value ≡ set.union joined.own.now hides
