use Rattle.std.proofs.Common.{◌≡◌}
use Rattle.hs_typer.specs.Declarators.{word_of, word_of_direct}
use Rattle.hs_syntax.specs.Views.{view_declarator, view_direct}
use Rattle.hs_typer.proofs.declarators.word_of.Given as goal

-- what is left names the word
abbrev pub invariant-direct : goal.invariant-direct
invariant-direct l = word_of_direct (view_direct l.direct) ≡ word_of (view_declarator l.fn.declarator)
