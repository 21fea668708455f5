use Rattle.std.proofs.Common.{rules}
use mathlib.Core.Logic.{∥∥₁_elim}
use mathlib.Core.List.{is_set}
use Rattle.std.proofs.Math.Bool.{Bool-set}
use Rattle.std.proofs.Math.Nat.{ℕ_set}
use Rattle.hs_tree.proofs.Mains.{main-some, main-is}
use Rattle.hs_tree.proofs.program.Program.main_function.Goals as goal

-- the program keeps that `main` is one of its functions
pub unreachable-requires : goal.unreachable-requires
unreachable-requires c =
    ∥∥₁_elim c.args.self.now.fits (λ x y. absurd x)
    (λ fits. main-some c.args.self.now.types c.args.self.now.functions.items c.args.self.now.main fits.main (search (rules, c.function.ensures, c.in-None.is)))

-- and what it is
pub returns-clause-is_main : goal.returns-clause-is_main
returns-clause-is_main c =
    ∥∥₁_elim c.args.self.now.fits (hlevel (is_set, ℕ_set, Bool-set))
    (λ fits. main-is c.args.self.now.types c.args.self.now.functions.items c.args.self.now.main c.in-Some.function.now fits.main
    (search (rules, c.function.ensures, c.in-Some.is)))
