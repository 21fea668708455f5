use Rattle.hs_kinds.specs.RoleProgress.{role_typed}
use Rattle.hs_kinds.proofs.laws.a_role_stops_for_no_argument_of_another_sort.Goals as goal

pub returns : goal.returns
returns c = role_typed
