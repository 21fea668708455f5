use Rattle.std.proofs.Common.{rules, arith}
use Rattle.hs_meaning.specs.Machine.{is_automatic, is_allocated}
use Rattle.hs_objects.proofs.Counting.{bytes_of-le-bytes_where, counted_ended}
use Rattle.hs_objects.proofs.objects.Objects.end.Goals as goal

-- the bytes of the object are counted
pub overflow_sub-self : goal.overflow_sub-self
overflow_sub-self c =
    let counted = bytes_of-le-bytes_where is_automatic c.self.inside.items.items c.args.place _ _ (search rules) c.in-Some.ensures.value
    in let bytes = c.bytes_of_call-of_calls.ensures
    in let all = c.self.invariant.calls
    in omega arith

pub overflow_sub-self-in-Some : goal.overflow_sub-self-in-Some
overflow_sub-self-in-Some c =
    let counted = bytes_of-le-bytes_where is_allocated c.self.inside.items.items c.args.place _ _ (search rules) c.in-Some.ensures.value
    in let bytes = c.bytes_of_routine-of_routines.ensures
    in let all = c.self.invariant.routines
    in omega arith

-- and they no longer are once it has ended
pub invariant_of-self : goal.invariant_of-self
invariant_of-self c =
    rw (c.bytes_of_call-of_calls.ensures, c.bytes_of_routine-of_routines.ensures, c.end.ensures)
    (counted_ended _ _ _ _ _ _ c.self.invariant (search rules) c.in-Some.ensures.value)
