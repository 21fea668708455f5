use Rattle.std.proofs.Common.{◌≡◌, true, false, rules, ◌∙◌}
use Rattle.hs_flow.proofs.Least.{least_here, least_on}
use Rattle.hs_flow.proofs.naming.least_name.Goals as goal

-- the name is the first
pub returns-then-names_slot : goal.returns-then-names_slot
returns-then-names_slot g c =
    let is : (g.A.Around.given c.args.around.now).with c.args.place c.names.h ≡ true = search rules in
    least_here c.names-names.result.now ((g.A.Around.given c.args.around.now).with c.args.place) c.names.h c.names-test.true is ∙ c.names.invariant

-- it is not
pub names-preserved : goal.names-preserved
names-preserved g c =
    let is : (g.A.Around.given c.args.around.now).with c.args.place c.names.h ≡ false = search rules in
    least_on c.names-names.result.now ((g.A.Around.given c.args.around.now).with c.args.place) c.names.h c.names-test.true is ∙ c.names.invariant
