use Rattle.std.proofs.Common.{List, map, arith}
use Rattle.std.specs.Prelude.{codes}
use Rattle.hs_syntax.specs.Forms.{mark, mark_at}
use Rattle.hs_syntax.specs.Grammar.{initialisers_form}
use Rattle.hs_syntax.specs.Parts.{comma_form}
use Rattle.hs_syntax.specs.StatementViews.{initialisers_from}
use Rattle.hs_syntax.specs.Views.{view_initialiser}
use Rattle.hs_syntax.specs.declared.decl.Initialiser.{Initialiser}
use Rattle.hs_syntax.specs.StatementLaws.{initialisers_seen}
use Rattle.hs_spell.proofs.Written.{after, comma_on}
use Rattle.hs_spell.proofs.WrittenDeclarations.{initialisers_on}
use Rattle.hs_spell.proofs.declarations.+spell_initialiser.Goals as goal

-- an initialiser and its comma are written
pub initialisers-loop-it-preserved : goal.initialisers-loop-it-preserved
initialisers-loop-it-preserved t c = (
  omega arith,
  λ known.
      comma_on (λ (its : List Initialiser). (initialisers_form known (initialisers_from (map view_initialiser its))).pieces)
      c.args.its.now c.loop-it.it-index c.it-item.result _ (omega arith) c.it-item.is
      c.loop-it.left c.loop-it.tokens.items c.initialiser.new.tokens.items c.comma.new.tokens.items _ c.loop-it.invariant.0 (c.loop-it.invariant.1 known)
      (initialisers_on known c.it-item.result _) (c.in_ok-initialiser.ensures known) c.in_ok-comma.ensures,
)

-- the initialisers of a list in braces are the list
pub initialiser-returns-in_ok-comma-in-List : goal.initialiser-returns-in_ok-comma-in-List
initialiser-returns-in_ok-comma-in-List t c known =
    rw (c.in-List.is, initialisers_seen c.in-List.values, ← c.deref.ensures.value)
    (after _ _ c.mark_at.new.tokens.items _ (mark_at c.in-List.at (codes "{")).pieces _ c.in_ok-mark_at-in-List.ensures
    (after _ _ c.initialisers.new.tokens.items _ (initialisers_form known (initialisers_from (map view_initialiser c.deref.result.now))).pieces _
    (c.in_ok-initialisers-in-List.ensures known)
    (after _ _ c.comma.new.tokens.items _ (comma_form c.in-List.stands).pieces (mark (codes "}")).pieces c.in_ok-comma-in-List.ensures c.mark.ensures)))
