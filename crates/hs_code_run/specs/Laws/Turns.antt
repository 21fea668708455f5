-- A code run that is not spent stays the same with more turns.
--     points_same              points with equal values are one
--     stays_with_more_turns    the law
use Rattle.std.proofs.Common.{◌≡◌, ℕ, Bool, List, [], ◌∷◌, refl, sym, ap, ◌∙◌, subst}
use Rattle.hs_code.specs.declared.function_code.FunctionCode.{FunctionCode}
use Rattle.hs_code_run.specs.Beside.{IsWaitingAlike, Waitings, Points}
use Rattle.hs_code_run.specs.Beside.Steps.{stepped_alike}
use Rattle.hs_code_run.specs.Codes.{CodeProgram, Waiting, Point}
use Rattle.hs_code_run.specs.Runs.{Comes, halted, onward}
use Rattle.hs_code_run.specs.Steps.{stepped}
use Rattle.hs_meaning.specs.Beside.{Alike}
use Rattle.hs_meaning.specs.Laws.Paces.{Pace, at_pace, lists_same}
use Rattle.hs_meaning.specs.Laws.Turns as turns
use Rattle.hs_meaning.specs.Laws.Turns.{later, MoreTurns, IsKept}
use Rattle.hs_meaning.specs.Machine.{Binding}
use Rattle.hs_meaning.specs.Steps.{State, Ran, went, over}
use Rattle.hs_meaning.specs.Values.{Value}
use Rattle.hs_meaning.specs.declared.outcome.Outcome.{Outcome}
use Rattle.hs_meaning.specs.declared.outcome.Outcome.TheVariants.{Finished, Stopped, TurnsSpent}

-- ---- equal values

module _ (pace : Pace) where
  -- a call that waits, of its parts
  waiting_of : FunctionCode → ℕ → List Value → List Binding → List Value → Waiting
  waiting_of code at stack locals arguments =
      record { frame = record { code = code; at = at; stack = stack }; locals = locals; arguments = arguments }

  waiting_same : (a b : Waiting) → IsWaitingAlike (at_pace pace) a b → a ≡ b
  unfolding waiting_of
  waiting_same a b is =
      ap (λ code. waiting_of code a.frame.at a.frame.stack a.locals a.arguments) is.code
      ∙ ap (λ at. waiting_of b.frame.code at a.frame.stack a.locals a.arguments) is.at
      ∙ ap (λ stack. waiting_of b.frame.code b.frame.at stack a.locals a.arguments) (lists_same pace a.frame.stack b.frame.stack is.stack)
      ∙ ap (λ locals. waiting_of b.frame.code b.frame.at b.frame.stack locals a.arguments) is.locals
      ∙ ap (λ arguments. waiting_of b.frame.code b.frame.at b.frame.stack b.locals arguments) (lists_same pace a.arguments b.arguments is.arguments)

  waitings_same : (a b : List Waiting) → Waitings (at_pace pace) a b → a ≡ b
  waitings_same [] [] is = refl
  waitings_same [] (b ∷ others) is = absurd is
  waitings_same (a ∷ rest) [] is = absurd is
  waitings_same (a ∷ rest) (b ∷ others) is = ap (λ w. w ∷ rest) (waiting_same a b is.0) ∙ ap (λ ws. b ∷ ws) (waitings_same rest others is.1)

  point_of : FunctionCode → ℕ → List Value → List Waiting → List Bool → Point
  point_of code at stack waiting choices = record { frame = record { code = code; at = at; stack = stack }; waiting = waiting; choices = choices }

  -- points with equal values are one
  pub points_same : (a b : Point) → Points (at_pace pace) a b → a ≡ b
  unfolding point_of
  points_same a b is =
      ap (λ code. point_of code a.frame.at a.frame.stack a.waiting a.choices) is.code
      ∙ ap (λ at. point_of b.frame.code at a.frame.stack a.waiting a.choices) is.at
      ∙ ap (λ stack. point_of b.frame.code b.frame.at stack a.waiting a.choices) (lists_same pace a.frame.stack b.frame.stack is.stack)
      ∙ ap (λ waiting. point_of b.frame.code b.frame.at b.frame.stack waiting a.choices) (waitings_same a.waiting b.waiting is.waiting)
      ∙ ap (λ choices. point_of b.frame.code b.frame.at b.frame.stack b.waiting choices) is.choices

  waits_itself : (a : List Waiting) → Waitings (at_pace pace) a a
  waits_itself [] = tt
  waits_itself (a ∷ rest) =
      (record { code = refl; at = refl; stack = itself_of a.frame.stack; locals = refl; arguments = itself_of a.arguments }, waits_itself rest)
    where
      itself_of : (values : List Value) → Rattle.hs_meaning.specs.Beside.Lists (at_pace pace) values values
      itself_of [] = tt
      itself_of (v ∷ values) = (refl, itself_of values)

  -- and a point corresponds to itself
  pub point_itself : (a : Point) → Points (at_pace pace) a a
  point_itself a = record { code = refl; at = refl; stack = itself_of a.frame.stack; waiting = waits_itself a.waiting; choices = refl }
    where
      itself_of : (values : List Value) → Rattle.hs_meaning.specs.Beside.Lists (at_pace pace) values values
      itself_of [] = tt
      itself_of (v ∷ values) = (refl, itself_of values)

-- ---- the law

module _ (program : CodeProgram) (more : ℕ) where
  kept_end : (outcome : Outcome) (s : State) (r : Ran Point) → IsKept more outcome s r → ¬ (outcome ≡ TurnsSpent) → r ≡ over outcome (later more s)
  kept_end TurnsSpent s r is unspent = absurd (unspent refl)
  kept_end (Finished value) s r is unspent = is
  kept_end (Stopped why at) s r is unspent = is

  -- from what a step comes to with more turns
  from_alike : (point next : Point) (s t after : State) (outcome : Outcome) (r : Ran Point) → stepped program point (later more s) ≡ r
      → Alike (at_pace (MoreTurns more)) (Points (at_pace (MoreTurns more))) (went next t) r
      → Comes program next (later more t) outcome (later more after) → Comes program point (later more s) outcome (later more after)
  from_alike point next s t after outcome (went other u) step is rest =
      onward point other (later more s) u (later more after) outcome step
      (subst (λ x. Comes program other x outcome (later more after)) (sym is.1)
      (subst (λ p. Comes program p (later more t) outcome (later more after)) (points_same (MoreTurns more) next other is.0) rest))
  from_alike point next s t after outcome (over ended u) step is rest = absurd is

  alike_step : (point : Point) (s : State)
      → Alike (at_pace (MoreTurns more)) (Points (at_pace (MoreTurns more))) (stepped program point s) (stepped program point (later more s))
  alike_step point s =
      (stepped_alike (at_pace (MoreTurns more)) program (turns.leaves more program.setting) (turns.turn_alike more) point point
      (point_itself (MoreTurns more) point)).go s (later more s) refl

  pub stays_with_more_turns : (point : Point) (s after : State) (outcome : Outcome) → ¬ (outcome ≡ TurnsSpent) → Comes program point s outcome after
      → Comes program point (later more s) outcome (later more after)
  stays_with_more_turns point s after outcome unspent (halted _ _ _ _ is) =
      halted point (later more s) (later more after) outcome
      (kept_end outcome after (stepped program point (later more s))
      (subst (λ r. Alike (at_pace (MoreTurns more)) (Points (at_pace (MoreTurns more))) r (stepped program point (later more s))) is (alike_step point s))
      unspent)
  stays_with_more_turns point s after outcome unspent (onward _ next _ t _ _ is rest) =
      from_alike point next s t after outcome (stepped program point (later more s)) refl
      (subst (λ r. Alike (at_pace (MoreTurns more)) (Points (at_pace (MoreTurns more))) r (stepped program point (later more s))) is (alike_step point s))
      (stays_with_more_turns next t after outcome unspent rest)
