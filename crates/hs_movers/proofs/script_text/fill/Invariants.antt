use Rattle.std.proofs.Common.{◌≡◌, ◌-◌, ◌++◌, replicate}
use Rattle.hs_movers.specs.Movers.{no_block}
use Rattle.hs_movers.proofs.script_text.fill.Given as goal

abbrev pub invariant-missing : goal.invariant-missing
invariant-missing l = l.decisions.items ++ replicate (l.missing - l._added) no_block ≡ l.fn.decisions.items ++ replicate l.missing no_block
