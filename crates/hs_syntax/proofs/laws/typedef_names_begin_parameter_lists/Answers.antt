use Rattle.hs_syntax.proofs.Lawful.{types_begin_parameters}
use Rattle.hs_syntax.proofs.laws.typedef_names_begin_parameter_lists.Goals as goal

pub returns : goal.returns
returns c = types_begin_parameters
