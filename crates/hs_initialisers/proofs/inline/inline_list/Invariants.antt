use Rattle.std.proofs.Common.{◌≡◌, map, drop}
use Rattle.hs_initialisers.specs.InlineWords.{inline_list}
use Rattle.hs_syntax.specs.StatementViews.{initialisers_from}
use Rattle.hs_syntax.specs.Views.{view_initialiser}
use Rattle.hs_initialisers.proofs.inline.inline_list.Given as goal

-- the words that are left decide
abbrev pub invariant-its : goal.invariant-its
invariant-its l =
    inline_list (initialisers_from (map view_initialiser (drop l.it-index l.its))) l.typer
    ≡ inline_list (initialisers_from (map view_initialiser l.its)) l.fn.typer
