use Rattle.std.proofs.Common.{rules, ◌≡◌, ◌++◌, ◌∷◌, [], subst}
use Rattle.hs_typer.specs.Specifiers.{member_as}
use Rattle.hs_index.specs.Index.{Puts}
use Rattle.hs_typer.proofs.Named.{named_with}
use Rattle.hs_typer.proofs.members.Members.with.Goals as goal

-- the new name is in the index
pub invariant_of-result : goal.invariant_of-result
invariant_of-result c =
    let key : c.in_ok-to_vec.field-0.items ≡ c.args.name.now = search rules in
    let items : c.push.new.self.items ≡ c.self.inside.vec.items ++ member_as c.args.name.now c.args.type_id ∷ [] = search rules in
    let puts : Puts c.in_ok-to_vec.field-0.items 0 c.self.inside.index c.put.new.self = search rules in
    rw items
    (named_with c.self.inside.index c.put.new.self c.self.inside.vec.items c.args.name.now c.args.type_id c.self.invariant
    (subst (λ text. Puts text 0 c.self.inside.index c.put.new.self) key puts))
