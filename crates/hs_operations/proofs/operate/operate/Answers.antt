-- What each operation does is what its function does.
use Rattle.hs_state.specs.Settings.{setting_here}
use Rattle.hs_operations.proofs.operate.operate.Goals as goal

pub returns-in-Set-clause-does : goal.returns-in-Set-clause-does
returns-in-Set-clause-does c = rw c.in-Set.is (c.set.ensures.does (setting_here c.args.setting.now))

pub returns-in-Store-clause-does : goal.returns-in-Store-clause-does
returns-in-Store-clause-does c = rw c.in-Store.is (c.store.ensures.does (setting_here c.args.setting.now))
