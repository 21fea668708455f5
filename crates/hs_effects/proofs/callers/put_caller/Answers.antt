use Rattle.hs_effects.proofs.CallersPut.{caller_put}
use Rattle.hs_effects.proofs.callers.put_caller.Goals as goal

-- the row that is written has one caller more
pub returns : goal.returns
returns c = record {
  put =
      caller_put c.args.rows.now.items c.args.callee c.args.caller c.index_mut.result.now c.push.new.self c.requires.known
      c.index_mut.ensures.value c.in_ok-push.ensures.items;
}
