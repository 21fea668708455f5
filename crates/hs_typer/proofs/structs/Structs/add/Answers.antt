use Rattle.std.proofs.Common.{rules, ◌≡◌, ◌++◌, ◌∷◌, [], false, true, length, sym, subst}
use Rattle.hs_typer.specs.Tags.{new_origin, outer_name, bytes_if, PutsFirst, IsByTag}
use Rattle.hs_typer.proofs.Tagged.{added_first, added_whole}
use Rattle.hs_typer.proofs.structs.Structs.add.Goals as goal

-- the new struct is the first one of its tag, unless there is one, and has no body
pub invariant_of-self-in-Ok : goal.invariant_of-self-in-Ok
invariant_of-self-in-Ok c =
    let its = c.self.inside.log.items in
    let pushed : c.push.new.self.items ≡ its ++ new_origin c.args.outer c.args.tag c.args.unit ∷ [] = search rules in
    let counted : c.len-count.result ≡ length its = search rules in
    let name : bytes_if c.in_ok-name.name ≡ outer_name c.args.outer c.args.tag = search rules in
    let puts : PutsFirst (outer_name c.args.outer c.args.tag) c.len-count.result c.self.inside.any c.put_first.new.names =
    subst (λ name. PutsFirst name c.len-count.result c.self.inside.any c.put_first.new.names) name c.in-Ok.ensures.put in
    subst (λ all. IsByTag false all c.put_first.new.names × IsByTag true all c.self.inside.whole) (sym pushed) (
      added_first its c.args.outer c.args.tag c.args.unit c.len-count.result c.self.inside.any c.put_first.new.names counted c.self.invariant.0 puts,
      added_whole its c.args.outer c.args.tag c.args.unit c.self.inside.whole c.self.invariant.1,
    )
