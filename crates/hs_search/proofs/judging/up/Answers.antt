use Rattle.hs_search.proofs.Comparing.{follows_read}
use Rattle.hs_search.specs.Rivals.{with_offer}
use Rattle.hs_search.proofs.judging.up.Goals as goal

pub returns : goal.returns
returns c =
    follows_read (with_offer c.args.rows.now.items.items c.args.offer) c.args.number c.row_at.result c.requires.some c.row_at.ensures
