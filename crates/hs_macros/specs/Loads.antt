-- How many tokens an invocation holds: no more than what follows its name. So each step of an expansion has less to do.
--     load arguments          how many tokens the arguments have, and one more for each
--     held call arguments     the same with what follows the invocation
--     held_of_found           an invocation holds no more than what follows its name
use Rattle.std.proofs.Common.{◌≡◌, ℕ, suc, ◌+◌, ◌≤◌, Bool, true, false, List, [], ◌∷◌, length, Option, Some, None, refl, arith, if◌then◌else◌}
use Rattle.std.specs.Prelude.{codes}
use Rattle.std.specs.FinMap as finite
use Rattle.hs_tokens.specs.declared.token.Token.{Token}
use Rattle.hs_tokens.specs.Marks.{is_mark}
use Rattle.hs_macros.specs.Definitions.{Definitions}
use Rattle.hs_macros.specs.Arguments.{Hidden, Arguments, with_token, with_comma, closed, role_of, arguments_at, arguments_from, Argument, with_argument, paired, bound}
use Rattle.hs_macros.specs.Replacement.{Invocation, Found, stays, invoked, object, call, found_bound, found_call, found_form, found_defined, found}
use Rattle.hs_macros.specs.declared.arguments.Role.{Role}
use Rattle.hs_macros.specs.declared.arguments.Role.TheVariants.{Ends, Separates, Inside}
use Rattle.hs_macros.specs.declared.definition.Definition.{Definition}

-- how many tokens the arguments have, and one more for each
abbrev pub load : List Argument → ℕ
load [] = 0
load (argument ∷ arguments) = length argument.tokens + 1 + load arguments

-- the same before they have parameters
abbrev load_of : List (List Hidden) → ℕ
load_of [] = 0
load_of (tokens ∷ given) = length tokens + 1 + load_of given

-- how many tokens the arguments of a found parenthesis have, with their ends, and what follows
abbrev extent : Arguments → ℕ
extent between = load_of (between.first ∷ between.others) + length between.behind

-- a token more makes it longer by one
extent_token : (token : Hidden) (count : ℕ) (rest : Option Arguments) (between : Arguments)
    → ((inner : Arguments) → rest ≡ Some inner → extent inner ≡ count) → with_token token rest ≡ Some between → extent between ≡ suc count
extent_token token count None between inner is = absurd cc
extent_token token count (Some found) between inner is =
    let same : record found { first = token ∷ found.first } ≡ between = cc in
    rw (← same) (omega (arith, inner found refl))

-- and so does a comma
extent_comma : (count : ℕ) (rest : Option Arguments) (between : Arguments)
    → ((inner : Arguments) → rest ≡ Some inner → extent inner ≡ count) → with_comma rest ≡ Some between → extent between ≡ suc count
extent_comma count None between inner is = absurd cc
extent_comma count (Some found) between inner is =
    let same : record found { first = []; others = found.first ∷ found.others } ≡ between = cc in
    rw (← same) (omega (arith, inner found refl))

-- the closing parenthesis is the end of the last argument
extent_closed : (token : Hidden) (rest : List Hidden) (between : Arguments)
    → ◌≡◌ {A = Option Arguments} (Some (closed token rest)) (Some between) → extent between ≡ suc (length rest)
extent_closed token rest between is =
    let same : closed token rest ≡ between = cc in
    rw (← same) (omega arith)

-- by what the token does
extent_at : (token : Hidden) (rest : List Hidden) (later : ℕ → Option Arguments) (role : Role) (between : Arguments)
    → ((depth : ℕ) (inner : Arguments) → later depth ≡ Some inner → extent inner ≡ length rest)
    → arguments_at token rest later role ≡ Some between → extent between ≡ suc (length rest)
extent_at token rest later Ends between inner is = extent_closed token rest between is
extent_at token rest later Separates between inner is = extent_comma (length rest) (later 0) between (inner 0) is
extent_at token rest later (Inside depth) between inner is = extent_token token (length rest) (later depth) between (inner depth) is

-- the arguments, their ends and what follows are what follows the opening parenthesis
extent_of_arguments : (depth : ℕ) (tokens : List Hidden) (between : Arguments) → arguments_from depth tokens ≡ Some between → extent between ≡ length tokens
extent_of_arguments depth [] between is = absurd cc
extent_of_arguments depth (token ∷ rest) between is =
    extent_at token rest (λ depth'. arguments_from depth' rest) (role_of depth token.token) between
    (λ depth' inner same. extent_of_arguments depth' rest inner same) is

-- one more argument with its parameter
load_more : (name : List ℕ) (tokens : List Hidden) (count : ℕ) (later : Option (List Argument)) (arguments : List Argument)
    → ((others : List Argument) → later ≡ Some others → load others ≡ count)
    → with_argument (record { parameter = name; tokens = tokens }) later ≡ Some arguments
    → load arguments ≡ length tokens + 1 + count
load_more name tokens count None arguments inner is = absurd cc
load_more name tokens count (Some others) arguments inner is =
    let same : record { parameter = name; tokens = tokens } ∷ others ≡ arguments = cc in
    rw (← same) (omega (arith, inner others refl))

-- parameters add nothing to the arguments
load_paired : (names : List (List ℕ)) (given : List (List Hidden)) (arguments : List Argument)
    → paired names given ≡ Some arguments → load arguments ≡ load_of given
load_paired [] [] arguments is = let none : [] ≡ arguments = cc in rw (← none) refl
load_paired [] (tokens ∷ given) arguments is = absurd cc
load_paired (name ∷ names) [] arguments is = absurd cc
load_paired (name ∷ names) (tokens ∷ given) arguments is =
    load_more name tokens (load_of given) (paired names given) arguments (load_paired names given) is

-- nor do none
load_bound : (names : List (List ℕ)) (given : List (List Hidden)) (arguments : List Argument)
    → bound names given ≡ Some arguments → load arguments ≤ load_of given
load_bound [] [] arguments is = omega (arith, load_paired [] [] arguments is)
load_bound [] ([] ∷ []) arguments is = let none : [] ≡ arguments = cc in rw (← none) (omega arith)
load_bound [] ([] ∷ tokens ∷ given) arguments is = absurd cc
load_bound [] ((token ∷ tokens) ∷ given) arguments is = absurd cc
load_bound (name ∷ names) given arguments is = omega (arith, load_paired (name ∷ names) given arguments is)

-- what an invocation holds: its arguments, and what follows it
abbrev pub held : Invocation → List Argument → ℕ
held call arguments = load arguments + length call.behind

-- this invocation holds no more than so many tokens
abbrev pub HoldsAtMost : ℕ → Found → Type 0
HoldsAtMost count found = (it : Invocation) (arguments : List Argument) → found ≡ invoked it arguments → held it arguments ≤ count

-- by whether there are as many arguments as parameters
bound_holds : (name : Hidden) (body : List Token) (names : List (List ℕ)) (between : Arguments) (arguments : Option (List Argument))
    → bound names (between.first ∷ between.others) ≡ arguments → HoldsAtMost (extent between) (found_bound name body between arguments)
bound_holds name body names between None is it given same = absurd cc
bound_holds name body names between (Some arguments) is it given same =
    let found : call name body between ≡ it = cc in
    let pairs : arguments ≡ given = cc in
    rw (← found, ← pairs) (omega (arith, load_bound names (between.first ∷ between.others) arguments is))

-- by whether a parenthesis closes the arguments
call_holds : (name : Hidden) (body : List Token) (names : List (List ℕ)) (rest : List Hidden) (between : Option Arguments)
    → arguments_from 0 rest ≡ between → HoldsAtMost (length rest) (found_call name body names between)
call_holds name body names rest None is it given same = absurd cc
call_holds name body names rest (Some between) is it given same =
    omega (arith, bound_holds name body names between (bound names (between.first ∷ between.others)) refl it given same, extent_of_arguments 0 rest between is)

-- by whether a parenthesis opens them
opened_holds : (opens : Bool) (name : Hidden) (body : List Token) (names : List (List ℕ)) (rest : List Hidden)
    → HoldsAtMost (length rest) (if opens then found_call name body names (arguments_from 0 rest) else stays)
opened_holds true name body names rest it given same = call_holds name body names rest (arguments_from 0 rest) refl it given same
opened_holds false name body names rest it given same = absurd cc

-- by the form of the macro
form_holds : (name : Hidden) (rest : List Hidden) (body : List Token) (names : Option (List (List ℕ)))
    → HoldsAtMost (length rest) (found_form name rest body names)
form_holds name rest body None it given same =
    let found : object name body rest ≡ it = cc in
    let pairs : [] ≡ given = cc in
    rw (← found, ← pairs) (omega arith)
form_holds name [] body (Some names) it given same = absurd cc
form_holds name (next ∷ rest) body (Some names) it given same =
    omega (arith, opened_holds (is_mark (codes "(") next.token) name body names rest it given same)

-- by whether the name has a definition
defined_holds : (name : Hidden) (rest : List Hidden) (definition : Option Definition) → HoldsAtMost (length rest) (found_defined name rest definition)
defined_holds name rest None it given same = absurd cc
defined_holds name rest (Some definition) it given same = form_holds name rest definition.body definition.parameters it given same

-- by whether the token may be replaced
open_holds : (open_to : Bool) (name : Hidden) (rest : List Hidden) (definition : Option Definition)
    → HoldsAtMost (length rest) (if open_to then found_defined name rest definition else stays)
open_holds true name rest definition it given same = defined_holds name rest definition it given same
open_holds false name rest definition it given same = absurd cc

-- an invocation holds no more than follows its name
pub held_of_found : (macros : Definitions) (token : Hidden) (rest : List Hidden) → HoldsAtMost (length rest) (found macros token rest)
held_of_found macros token rest = open_holds _ token rest (finite.get macros token.token.text)
