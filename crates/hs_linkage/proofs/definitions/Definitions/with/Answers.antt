use Rattle.std.proofs.Common.{rules, ◌≡◌, ◌++◌, ◌∷◌, [], length, subst}
use Rattle.hs_linkage.specs.Indexes.{own_names, Holds, PutsFirst, defined_as}
use Rattle.hs_linkage.proofs.Indexed.{indexed-with}
use Rattle.hs_linkage.proofs.definitions.Definitions.with.Goals as goal

-- the new definition is in the indexes
pub invariant_of-result : goal.invariant_of-result
invariant_of-result c =
    let counted : c.len-count.result ≡ length c.self.inside.vec.items = search rules in
    let items : c.push.new.self.items ≡ c.self.inside.vec.items ++ defined_as c.args.name.now c.args.unit c.args.internal ∷ [] = search rules in
    rw items
    (indexed-with c.args.internal c.self.inside.externals c.in_ok-externals.externals c.self.inside.units.items c.in_ok-units.units.items
    c.self.inside.vec.items c.args.name.now c.args.unit c.self.invariant
    (subst (λ number. Holds c.args.internal c.args.name.now number c.self.inside.externals c.in_ok-externals.externals) counted
    c.in_ok-externals.ensures)
    (subst
    (λ number. PutsFirst c.args.name.now number (own_names c.args.unit c.self.inside.units.items) (own_names c.args.unit c.in_ok-units.units.items))
    counted c.in_ok-units.ensures.own)
    c.in_ok-units.ensures.others)
