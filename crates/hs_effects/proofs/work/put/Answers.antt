use Rattle.std.proofs.Common.{sym, ◌∙◌}
use Rattle.hs_effects.proofs.Growing.{put_new, put_old}
use Rattle.hs_effects.proofs.work.put.Goals as goal
use Rattle.hs_effects.proofs.Bools.{not_true, not_false}

-- the number was not there, and waits
pub returns-in_ok-push : goal.returns-in_ok-push
returns-in_ok-push c = record {
  grows =
      put_new c.args.function c.args.number c.args.work.now c.put.new.self c.requires.function_in_range c.requires.number_in_range
      c.put.ensures.there c.put.ensures.others c.put.ensures.size c.push.new.self
      (not_true (sym c.put.ensures.added ∙ c.if-put.true)) c.in_ok-push.ensures.items;
}

-- it was there
pub returns-else-put : goal.returns-else-put
returns-else-put c = record {
  grows =
      put_old c.args.function c.args.number c.args.work.now c.put.new.self c.requires.function_in_range c.requires.number_in_range
      c.put.ensures.there c.put.ensures.others c.put.ensures.size
      (not_false (sym c.put.ensures.added ∙ c.if-put.false));
}
