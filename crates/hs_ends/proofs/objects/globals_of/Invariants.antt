use Rattle.std.proofs.Common.{◌≡◌, []}
use Rattle.hs_ends.specs.Ends.{globals_of}
use Rattle.hs_ends.proofs.objects.globals_of.Given as goal

-- the objects that are left come after those so far
abbrev pub invariant-its : goal.invariant-its
invariant-its l =
    globals_of l.marks.keys l.place l.done.items l.it-iterator.rest.items l.types ≡ globals_of l.marks.keys 0 [] l.fn.its.items l.fn.types
