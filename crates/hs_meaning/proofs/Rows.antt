-- The definitions on worked examples: each line computes.
use Rattle.std.proofs.Common.{◌≡◌, ℕ, pos, true, List, [], ◌∷◌, refl}
use Rattle.std.specs.Prelude.{codes}
use Rattle.hs_base.specs.declared.pos.Pos.{Pos}
use Rattle.hs_tree.specs.declared.straight.tree.Kind.TheVariants.{Handle, Pointer}
use Rattle.hs_tree.specs.declared.straight.tree.Variable.{Variable}
use Rattle.hs_tree.specs.declared.straight.tree.Expr.TheVariants as expr
use Rattle.hs_tree.specs.declared.straight.tree.Step.{Step}
use Rattle.hs_tree.specs.declared.straight.tree.Step.TheVariants as step
use Rattle.hs_tree.specs.Straight.Fine.{is_fine}
use Rattle.hs_tree.specs.Straight.Names.{reserved}
use Rattle.hs_meaning.specs.Straight.Run.{run_from, start}
use Rattle.hs_heap.specs.declared.decision.Decision.{Decision}
use Rattle.hs_heap.specs.declared.decision.Which.TheVariants.{All}
use Rattle.hs_meaning.specs.declared.input.Input.{Input}
use Rattle.hs_meaning.specs.declared.outcome.Stop.TheVariants as stop
use Rattle.hs_meaning.specs.declared.outcome.Outcome.TheVariants.{Finished, Stopped}

place : ℕ → Pos
place column = record { file = 0; line = 3; col = column }

variables : List Variable
variables = record { kind = Handle; name = codes "h" } ∷ record { kind = Handle; name = codes "g" } ∷ record { kind = Pointer; name = codes "p" } ∷ []

-- h = NewHandle(4); p = *h; *p = 65; g = NewHandle(4); putchar(*p);
steps : List Step
steps =
    step.NewHandle 0 4
    ∷ step.Derive (place 69) 2 0
    ∷ step.Store (place 76) 2 (expr.Number 65)
    ∷ step.NewHandle 1 4
    ∷ step.Putchar (expr.Load (place 108) 2)
    ∷ []

tree_is_fine : is_fine variables steps ≡ true
unfolding variables steps reserved
tree_is_fine = refl

nothing : Input
nothing = record { bytes = []; words = []; refused = [] }

moves_all : Decision
moves_all = record { moves = All; purges = All }

still_output : run_from nothing (start []) steps ≡ record { output = 65 ∷ []; outcome = Finished (pos 0) }
unfolding steps nothing place
still_output = refl

moving_stop : run_from nothing (start (moves_all ∷ moves_all ∷ [])) steps ≡ record { output = []; outcome = Stopped stop.Stale (place 108) }
unfolding steps nothing moves_all place
moving_stop = refl
