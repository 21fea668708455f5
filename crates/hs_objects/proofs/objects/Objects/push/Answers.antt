use Rattle.std.proofs.Common.{rules, ◌≡◌, ◌+◌}
use Rattle.hs_objects.proofs.Counting.{counted_push}
use Rattle.hs_objects.proofs.objects.Objects.push.Goals as goal

-- one object more
pub invariant_of-self-2 : goal.invariant_of-self-2
invariant_of-self-2 c =
    let calls : c.in_ok-of_calls.of_calls ≡ c.self.inside.of_calls + c.bytes_of_call.result = search rules
    in let routines : c.in_ok-of_routines.of_routines ≡ c.self.inside.of_routines + c.bytes_of_routine.result = search rules
    in rw (calls, routines, c.bytes_of_call.ensures, c.bytes_of_routine.ensures)
    (counted_push _ _ _ _ _ c.self.invariant c.in_ok-push.ensures.items)
