-- Two runs that correspond in each operation and job correspond in each call, and in the whole.
--     called_follows          the call of a function, without its turn
--     main_follows            the call of `main`
--     agains_within           jobs inside one another
--     runs_follow             the whole run
use Rattle.std.proofs.Common.{◌≡◌, ℕ, zero, suc, ℤ, pos, List, [], ◌∷◌, slice_get, Option, Some, None, refl, ap}
use Rattle.hs_base.specs.declared.pos.Pos.{Pos}
use Rattle.hs_meaning.specs.Beside.{Relation, Follows, gives, thens, Units, Same, Lists, Flows, Leaves, Agains}
use Rattle.hs_meaning.specs.Beside.Statements as statements
use Rattle.hs_meaning.specs.Evaluation.{Flow, onward, breaks, continues, returned, Job}
use Rattle.hs_meaning.specs.Numbers.{signed}
use Rattle.hs_meaning.specs.Runs.{called, finished, main_called, again_within}
use Rattle.hs_meaning.specs.Statements.{opening_of}
use Rattle.hs_meaning.specs.Steps.{Step, ends, turn}
use Rattle.hs_meaning.specs.Values.{Value}
use Rattle.hs_meaning.specs.declared.outcome.Outcome.TheVariants.{TurnsSpent}
use Rattle.hs_meaning.specs.Settings.{Setting}
use Rattle.hs_tree.specs.Trees.{TypedFunction}

module _ (R : Relation) (setting : Setting) (leaves : Leaves R setting) (again other : Job → Step Flow) (agains : Agains R again other) where
  pub called_follows : (at : Pos) (a b : List Value) (function : Option TypedFunction) → Lists R a b
      → Follows R (Flows R) (called setting again at a function) (called setting other at b function)
  called_follows at a b None is = record { go = λ s t corresponds. leaves.fails {A = Flow} at s t corresponds }
  called_follows at a b (Some function) is =
      thens (leaves.owned at) (λ c d owned. thens (leaves.opens at function.parameters function.variables a b is) (λ m n so.
      thens (statements.body_follows R setting leaves again other agains function) (λ v w flow.
      thens (leaves.closes_to at c d owned) (λ m n so. gives flow))))

  finished_follows : (a b : Flow) → Flows R a b → Follows R Same (finished a) (finished b)
  finished_follows onward onward is = gives refl
  finished_follows onward breaks is = absurd is
  finished_follows onward continues is = absurd is
  finished_follows onward (returned w at') is = absurd is
  finished_follows breaks onward is = absurd is
  finished_follows breaks breaks is = gives refl
  finished_follows breaks continues is = absurd is
  finished_follows breaks (returned w at') is = absurd is
  finished_follows continues onward is = absurd is
  finished_follows continues breaks is = absurd is
  finished_follows continues continues is = gives refl
  finished_follows continues (returned w at') is = absurd is
  finished_follows (returned v at) onward is = absurd is
  finished_follows (returned v at) breaks is = absurd is
  finished_follows (returned v at) continues is = absurd is
  finished_follows (returned v at) (returned w at') is =
      Rattle.std.proofs.Common.subst (λ p. Follows R Same (finished (returned v at)) (finished (returned w p))) is.1
      (thens (leaves.used_as at v w is.0) (λ m n same. gives (ap signed same)))

  pub main_follows : (function : Option TypedFunction) → Follows R Same (main_called setting again function) (main_called setting other function)
  main_follows None = gives refl
  main_follows (Some function) = thens (called_follows (opening_of function.body) [] [] (Some function) tt) (λ a b is. finished_follows a b is)

-- ---- jobs inside one another

-- two runs of one program that correspond in each operation and turn
module _ (R : Relation) (setting : Setting) (leaves : Leaves R setting) (functions : List TypedFunction) (turn_follows : Follows R Units turn turn)
    (spent : Follows R (Flows R) (ends TurnsSpent) (ends TurnsSpent)) where
  -- correspond in each job
  pub agains_within : (fuel : ℕ) → Agains R (again_within setting functions fuel) (again_within setting functions fuel)
  agains_within zero = record { turns = λ function it. spent; calls = λ place at a b is. spent }
  agains_within (suc fuel) =
      record {
        turns = λ function it. thens turn_follows (λ m n so.
            statements.next_turn_follows R setting leaves (again_within setting functions fuel) (again_within setting functions fuel)
            (agains_within fuel) function it);
        calls = λ place at a b is. thens turn_follows (λ m n so.
            called_follows R setting leaves (again_within setting functions fuel) (again_within setting functions fuel) (agains_within fuel) at a b
            (slice_get functions place) is);
      }

  -- and in the whole
  pub runs_follow : (fuel : ℕ) (function : Option TypedFunction)
      → Follows R Same (main_called setting (again_within setting functions fuel) function)
      (main_called setting (again_within setting functions fuel) function)
  runs_follow fuel function =
      main_follows R setting leaves (again_within setting functions fuel) (again_within setting functions fuel) (agains_within fuel) function
