use Rattle.std.proofs.Common.{◌≤◌, ap, arith, rules}
use Rattle.hs_taint.specs.Laws.Sizes.{variables_at}
use Rattle.hs_taint.specs.Sizes.{most_variables}
use Rattle.hs_taint.proofs.building.room_in.Goals as goal

-- all of them fit
pub returns-clause-numbered : goal.returns-clause-numbered
returns-clause-numbered c f =
    let few : c.most_variables.result ≤ 4294967295 = search rules in
    let own = variables_at 0 c.args.code.now.program.now.functions.items f in
    let most = c.most_variables.ensures in
    let same = ap (most_variables 0) c.as_slice.ensures.value in
    record { globals = search rules; locals = omega (arith, few, own, most, same); classes = search rules }
