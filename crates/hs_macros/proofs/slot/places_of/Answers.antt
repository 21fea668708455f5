use Rattle.std.proofs.Common.{◌≡◌, ◌-◌, [], ◌∷◌, length, length-append, ap, arith}
use Rattle.hs_macros.proofs.Slotted.{place_of-step}
use Rattle.hs_macros.proofs.slot.places_of.Goals as goal

-- the last of the names that are left is put with its place
pub loop-name-preserved : goal.loop-name-preserved
loop-name-preserved c =
    let fewer : c.loop-name.place - 1 ≡ length c.next.new.self.iter.rest.now =
    omega (arith, c.loop-name.invariant.many, ap length c.in-Some.ensures.steps, length-append c.next.new.self.iter.rest.now (c.in-Some.name.now ∷ [])) in
    record {
      many = fewer;
      known = λ name. place_of-step name c.loop-name.name-iterator.iter.rest.now c.next.new.self.iter.rest.now c.in-Some.name.now (c.loop-name.place - 1)
          _ _ _ c.in-Some.ensures.steps fewer (c.in_ok-insert.ensures.updates.0 (record { ref_ptr = (0, 0); now = name })) (c.loop-name.invariant.known name);
    }
