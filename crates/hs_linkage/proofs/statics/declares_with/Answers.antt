use Rattle.std.proofs.Common.{rules}
use Rattle.hs_linkage.proofs.Linkages.{declares_there}
use Rattle.hs_linkage.proofs.statics.declares_with.Goals as goal

-- there is a specifier, and it is not `typedef`
pub returns-in-Some-Extern-2 : goal.returns-in-Some-Extern-2
returns-in-Some-Extern-2 c = search (rules, declares_there c.args.its.now)
