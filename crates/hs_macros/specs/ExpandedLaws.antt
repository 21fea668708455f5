-- The equations of an expansion, without a count of steps: what it is of no tokens, and of a token and those after it.
--     spent_tokens                       a replacement takes its tokens from what is left
--     expanded-none, expanded-token      the equations
use Rattle.std.proofs.Common.{◌≡◌, ℕ, zero, suc, ◌+◌, ◌-◌, ◌<◌, ◌≤◌, Bool, true, false, List, [], ◌∷◌, ◌++◌, length, Result, Ok, Err, refl, ap, ◌∙◌, arith, length-append, if◌then◌else◌}
use Rattle.std.specs.Prelude.{nat_lt, ◌==◌}
use Rattle.std.proofs.lemmas.Bool.Decides.{nat_tests}
use Rattle.hs_base.specs.declared.limit.LimitKind.TheVariants.{Replacements, Tokens}
use Rattle.hs_macros.specs.Definitions.{Definitions}
use Rattle.hs_macros.specs.Arguments.{Hidden, Argument}
use Rattle.hs_macros.specs.Loads.{load, HoldsAtMost, held_of_found}
use Rattle.hs_macros.specs.Replacement.{Invocation, Found, stays, wrong, invoked, found, is_used, placed, spent, passed, Expansion, Outcome, with_front, and_then, placed_again, called, expanded_at, expanded_within, expanded}
use Rattle.hs_macros.specs.declared.budget.Budget.{Budget}
use Rattle.hs_macros.specs.declared.error.MacroError.{MacroError}

-- by the tests of the two limits
spent_by : (none_left too_many : Bool) (left after : Budget) (count : ℕ) → (too_many ≡ false → count ≤ left.tokens)
    → (if none_left then Err (passed Replacements) else if too_many then Err (passed Tokens)
    else Ok (record { replacements = left.replacements - 1; tokens = left.tokens - count })) ≡ Ok after
    → after.tokens + count ≡ left.tokens
spent_by true too_many left after count fits is = absurd cc
spent_by false true left after count fits is = absurd cc
spent_by false false left after count fits is =
    let same : record { replacements = left.replacements - 1; tokens = left.tokens - count } ≡ after = cc in
    rw (← same) (omega (arith, fits refl))

-- a replacement takes its tokens from what is left
pub spent_tokens : (left after : Budget) (count : ℕ) → spent left count ≡ Ok after → after.tokens + count ≡ left.tokens
spent_tokens left after count is =
    spent_by (left.replacements == 0) (nat_lt left.tokens count) left after count (λ fits. grind (arith, nat_tests)) is

-- a way to expand the tokens that are left to look at
abbrev Way : Type 0
Way = Budget → List Hidden → Outcome

-- it leaves no more than it had
abbrev Falls : Way → Type 0
Falls way = (left : Budget) (tokens : List Hidden) (done : Expansion) → way left tokens ≡ Ok done → done.left.tokens ≤ left.tokens

-- two ways agree if there are fewer than so many tokens, with those left
abbrev Agree : Way → Way → ℕ → Type 0
Agree way other size = (left : Budget) (tokens : List Hidden) → length tokens + left.tokens < size → way left tokens ≡ other left tokens

-- tokens in place leave no more, with what follows them
placed_falls : (way : Way) (falls : Falls way) (call : Invocation) (tokens : List Hidden) (left : Budget) (after : Result Budget MacroError) (done : Expansion)
    → spent left (length tokens) ≡ after → placed_again way call tokens after ≡ Ok done → done.left.tokens ≤ left.tokens
placed_falls way falls call tokens left (Err error) done is same = absurd cc
placed_falls way falls call tokens left (Ok after) done is same =
    omega (arith, falls after (tokens ++ call.behind) done same, spent_tokens left after (length tokens) is)

-- nor does one expansion after the other
then_falls : (way : Way) (falls : Falls way) (left : Budget) (tokens : List Hidden) (first : Outcome) (next : Expansion → Outcome) (done : Expansion)
    → way left tokens ≡ first → ((between : Expansion) → next between ≡ Ok done → done.left.tokens ≤ between.left.tokens)
    → and_then first next ≡ Ok done → done.left.tokens ≤ left.tokens
then_falls way falls left tokens (Err error) next done is later same = absurd cc
then_falls way falls left tokens (Ok between) next done is later same = omega (arith, falls left tokens between is, later between same)

-- nor an invocation, with its arguments
called_falls : (way : Way) (falls : Falls way) (call : Invocation) (ready waiting : List Argument) (left : Budget) (done : Expansion)
    → called way call ready waiting left ≡ Ok done → done.left.tokens ≤ left.tokens
called_falls way falls call ready [] left done same =
    placed_falls way falls call (placed call ready) left (spent left (length (placed call ready))) done refl same
called_falls way falls call ready (argument ∷ waiting) left done same =
    elim (is_used argument.parameter call.body) as (λ used. (if used then and_then (way left argument.tokens)
    (λ between. called way call (ready ++ record { parameter = argument.parameter; tokens = between.tokens } ∷ []) waiting between.left)
    else called way call (ready ++ argument ∷ []) waiting left) ≡ Ok done → done.left.tokens ≤ left.tokens) [
      | true ↦ then_falls way falls left argument.tokens (way left argument.tokens) _ done refl
          (λ between. called_falls way falls call (ready ++ record { parameter = argument.parameter; tokens = between.tokens } ∷ []) waiting between.left done)
      | false ↦ called_falls way falls call (ready ++ argument ∷ []) waiting left done
    ] same

-- tokens in front take nothing
front_falls : (front : List Hidden) (left : Budget) (later : Outcome) (done : Expansion)
    → ((after : Expansion) → later ≡ Ok after → after.left.tokens ≤ left.tokens) → with_front front later ≡ Ok done → done.left.tokens ≤ left.tokens
front_falls front left (Err error) done falls same = absurd cc
front_falls front left (Ok after) done falls same =
    let it : record { tokens = front ++ after.tokens; left = after.left } ≡ done = cc in
    rw (← it) (falls after refl)

-- whatever begins at the next token leaves no more
at_falls : (way : Way) (falls : Falls way) (left : Budget) (token : Hidden) (rest : List Hidden) (found : Found) (done : Expansion)
    → expanded_at way left token rest found ≡ Ok done → done.left.tokens ≤ left.tokens
at_falls way falls left token rest stays done same = front_falls (token ∷ []) left (way left rest) done (falls left rest) same
at_falls way falls left token rest wrong done same = absurd cc
at_falls way falls left token rest (invoked call arguments) done same = called_falls way falls call [] arguments left done same

-- so an expansion leaves no more, in any number of steps
within_falls : (steps : ℕ) (macros : Definitions) → Falls (expanded_within steps macros)
within_falls zero macros left tokens done same = let it : record { tokens = []; left = left } ≡ done = cc in rw (← it) (omega arith)
within_falls (suc steps) macros left [] done same = let it : record { tokens = []; left = left } ≡ done = cc in rw (← it) (omega arith)
within_falls (suc steps) macros left (token ∷ rest) done same =
    at_falls (expanded_within steps macros) (within_falls steps macros) left token rest (found macros token rest) done same

-- the two ways agree on tokens in place
placed_agree : (way other : Way) (size : ℕ) (agree : Agree way other size) (call : Invocation) (tokens : List Hidden) (left : Budget)
    (after : Result Budget MacroError) → spent left (length tokens) ≡ after → length call.behind + left.tokens < size
    → placed_again way call tokens after ≡ placed_again other call tokens after
placed_agree way other size agree call tokens left (Err error) is fits = refl
placed_agree way other size agree call tokens left (Ok after) is fits =
    agree after (tokens ++ call.behind) (omega (arith, length-append tokens call.behind, spent_tokens left after (length tokens) is))

-- what comes after the same expansion is the same
then_agree : (first : Outcome) (next later : Expansion → Outcome) → ((done : Expansion) → first ≡ Ok done → next done ≡ later done)
    → and_then first next ≡ and_then first later
then_agree (Err error) next later same = refl
then_agree (Ok done) next later same = same done refl

-- and with its arguments
called_agree : (way other : Way) (size : ℕ) (agree : Agree way other size) (falls : Falls other) (call : Invocation)
    (ready waiting : List Argument) (left : Budget)
    → load waiting + length call.behind + left.tokens < size → called way call ready waiting left ≡ called other call ready waiting left
called_agree way other size agree falls call ready [] left fits =
    placed_agree way other size agree call (placed call ready) left (spent left (length (placed call ready))) refl (omega arith)
called_agree way other size agree falls call ready (argument ∷ waiting) left fits =
    let next : Expansion → Outcome =
    λ done. called way call (ready ++ record { parameter = argument.parameter; tokens = done.tokens } ∷ []) waiting done.left in
    let later : Expansion → Outcome =
    λ done. called other call (ready ++ record { parameter = argument.parameter; tokens = done.tokens } ∷ []) waiting done.left in
    let first : way left argument.tokens ≡ other left argument.tokens = agree left argument.tokens (omega arith) in
    let expanded : and_then (way left argument.tokens) next ≡ and_then (other left argument.tokens) later =
    ap (λ (outcome : Outcome). and_then outcome next) first
    ∙ then_agree (other left argument.tokens) next later (λ done is. called_agree way other size agree falls call
    (ready ++ record { parameter = argument.parameter; tokens = done.tokens } ∷ []) waiting done.left
    (omega (arith, falls left argument.tokens done is))) in
    let skipped : called way call (ready ++ argument ∷ []) waiting left ≡ called other call (ready ++ argument ∷ []) waiting left =
    called_agree way other size agree falls call (ready ++ argument ∷ []) waiting left (omega arith) in
    elim (is_used argument.parameter call.body) as (λ used.
    (if used then and_then (way left argument.tokens) next else called way call (ready ++ argument ∷ []) waiting left)
    ≡ (if used then and_then (other left argument.tokens) later else called other call (ready ++ argument ∷ []) waiting left)) [
      | true ↦ expanded
      | false ↦ skipped
    ]

-- whatever begins at the next token
at_agree : (way other : Way) (size : ℕ) (agree : Agree way other size) (falls : Falls other) (left : Budget)
    (token : Hidden) (rest : List Hidden) (found : Found)
    → HoldsAtMost (length rest) found → length rest + left.tokens < size
    → expanded_at way left token rest found ≡ expanded_at other left token rest found
at_agree way other size agree falls left token rest stays holds fits = ap (λ (outcome : Outcome). with_front (token ∷ []) outcome) (agree left rest fits)
at_agree way other size agree falls left token rest wrong holds fits = refl
at_agree way other size agree falls left token rest (invoked call arguments) holds fits =
    called_agree way other size agree falls call [] arguments left (omega (arith, holds call arguments refl))

-- more steps than enough change nothing
steps_enough : (steps more : ℕ) (macros : Definitions) (left : Budget) (tokens : List Hidden)
    → length tokens + left.tokens ≤ steps → length tokens + left.tokens ≤ more
    → expanded_within steps macros left tokens ≡ expanded_within more macros left tokens
steps_enough zero zero macros left tokens few enough = refl
steps_enough zero (suc more) macros left [] few enough = refl
steps_enough zero (suc more) macros left (token ∷ rest) few enough = absurd (omega arith)
steps_enough (suc steps) zero macros left [] few enough = refl
steps_enough (suc steps) zero macros left (token ∷ rest) few enough = absurd (omega arith)
steps_enough (suc steps) (suc more) macros left [] few enough = refl
steps_enough (suc steps) (suc more) macros left (token ∷ rest) few enough =
    at_agree (expanded_within steps macros) (expanded_within more macros) (suc (length rest) + left.tokens)
    (λ left' tokens' fits. steps_enough steps more macros left' tokens' (omega arith) (omega arith))
    (within_falls more macros) left token rest (found macros token rest) (held_of_found macros token rest) (omega arith)

-- no tokens take no steps
none_within : (steps : ℕ) (macros : Definitions) (left : Budget) → expanded_within steps macros left [] ≡ Ok (record { tokens = []; left = left })
none_within zero macros left = refl
none_within (suc steps) macros left = refl

-- no tokens
pub expanded-none : (macros : Definitions) (left : Budget) → expanded macros left [] ≡ Ok (record { tokens = []; left = left })
unfolding expanded
expanded-none macros left = none_within (0 + left.tokens) macros left

-- an expansion leaves no more than it had
expanded_falls : (macros : Definitions) → Falls (expanded macros)
unfolding expanded
expanded_falls macros left tokens = within_falls (length tokens + left.tokens) macros left tokens

-- a token, and those after it
pub expanded-token : (macros : Definitions) (left : Budget) (token : Hidden) (rest : List Hidden)
    → expanded macros left (token ∷ rest) ≡ expanded_at (expanded macros) left token rest (found macros token rest)
unfolding expanded
expanded-token macros left token rest =
    let count : suc (length rest) + left.tokens ≡ suc (length rest + left.tokens) = omega arith in
    ap (λ (steps : ℕ). expanded_within steps macros left (token ∷ rest)) count
    ∙ at_agree (expanded_within (length rest + left.tokens) macros) (expanded macros) (suc (length rest + left.tokens))
    (λ left' tokens' fits. steps_enough (length rest + left.tokens) (length tokens' + left'.tokens) macros left' tokens' (omega arith) (omega arith))
    (expanded_falls macros) left token rest (found macros token rest) (held_of_found macros token rest) (omega arith)
