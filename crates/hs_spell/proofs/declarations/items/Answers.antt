use Rattle.std.proofs.Common.{List, map, arith}
use Rattle.hs_syntax.specs.Grammar.{items_form}
use Rattle.hs_syntax.specs.Views.{view_item}
use Rattle.hs_syntax.specs.declared.decl.Item.{Item}
use Rattle.hs_spell.proofs.Written.{comma_on}
use Rattle.hs_spell.proofs.WrittenDeclarations.{items_on}
use Rattle.hs_spell.proofs.declarations.items.Goals as goal

-- an item and its comma are written
pub loop-it-preserved : goal.loop-it-preserved
loop-it-preserved c = (
  omega arith,
  λ known.
      comma_on (λ (its : List Item). (items_form known (map view_item its)).pieces)
      c.args.its.now c.loop-it.it-index c.it-item.result _ (omega arith) c.it-item.is
      c.loop-it.left c.loop-it.tokens.items c.item.new.tokens.items c.comma.new.tokens.items _ c.loop-it.invariant.0 (c.loop-it.invariant.1 known)
      (items_on known c.it-item.result _) (c.in_ok-item.ensures known) c.in_ok-comma.ensures,
)
