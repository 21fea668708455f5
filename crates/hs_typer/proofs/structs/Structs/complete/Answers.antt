use Rattle.std.proofs.Common.{rules, ◌≡◌, slice_get, false, true, sym, subst}
use Rattle.hs_typer.specs.Tags.{name_in, bytes_if, whole_at, IsByTag, PutsLeast}
use Rattle.hs_typer.proofs.Tagged.{whole_kept}
use Rattle.hs_typer.proofs.structs.Structs.complete.Goals as goal

-- the struct may be the first one of its tag that has its body
pub invariant_of-self-2 : goal.invariant_of-self-2
invariant_of-self-2 c =
    let its = c.self.inside.log.items in
    let name : bytes_if c.in_ok-name.name ≡ name_in (slice_get its c.args.number) = search rules in
    let puts : PutsLeast (name_in (slice_get its c.args.number)) c.args.number c.self.inside.whole c.put_least.new.names =
    subst (λ name. PutsLeast name c.args.number c.self.inside.whole c.put_least.new.names) name c.in_ok-put_least.ensures.put in
    let set : c.set_whole.new.log.items ≡ whole_at c.args.brace (slice_get its c.args.number) its c.args.number = search rules in
    subst (λ all. IsByTag false all c.self.inside.any × IsByTag true all c.put_least.new.names) (sym set)
    (whole_kept its c.args.number c.args.brace c.self.inside.any c.self.inside.whole c.put_least.new.names c.self.invariant.0 c.self.invariant.1 puts)
