use Rattle.std.proofs.Common.{inr, ap, sym, ◌∙◌}
use Rattle.hs_search.proofs.Listing.{some_is}
use Rattle.hs_search.specs.declared.lists.Item.{Item}
use Rattle.hs_search.specs.declared.reach.Reach.{Reach}
use Rattle.hs_search.proofs.reach.settle.Goals as goal

-- the offer comes first, and replaces the row
pub returns-then-precedes-clause-settled : goal.returns-then-precedes-clause-settled
returns-then-precedes-clause-settled c =
    let row = c.requires.row in
    inr (
      record {
        row = row;
        long = ap (λ (i : Item Reach). i.value.length) (some_is (sym row.there ∙ c.item.ensures)) ∙ c.is_tie.ensures.tie c.if-is_tie.true;
        more = c.replace.ensures.items row.it row.there;
      },
      c.precedes.ensures.first c.if-precedes.true row.it row.there,
    )
