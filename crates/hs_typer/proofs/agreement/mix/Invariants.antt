use Rattle.std.proofs.Common.{◌≡◌}
use Rattle.hs_typer.specs.Origins.{mix_within, mix}
use Rattle.hs_typer.proofs.agreement.mix.Given as goal

-- two types are mixed inside exactly if the whole types do
abbrev pub invariant-inside : goal.invariant-inside
invariant-inside l = mix_within l.more l.fn.types l.inside.left l.inside.right ≡ mix l.fn.types l.fn.a l.fn.b

abbrev pub decreases-inside : goal.decreases-inside
decreases-inside l = l.more
