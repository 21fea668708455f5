-- The put is as the sink says.
use Rattle.std.proofs.Common.{refl, Ok, Err}
use Rattle.hs_command.proofs.command.put.Goals as goal

pub returns-in-Ok : goal.returns-in-Ok
returns-in-Ok g c = record { put = Ok tt; is_put = c.in-Ok.ensures; is_status = refl }

pub returns-in-Err : goal.returns-in-Err
returns-in-Err g c = record { put = Err c.in-Err.field-0; is_put = c.in-Err.ensures; is_status = refl }
