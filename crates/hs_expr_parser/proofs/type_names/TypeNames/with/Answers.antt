use Rattle.std.proofs.Common.{rules, ◌≡◌, ◌++◌, ◌∷◌, []}
use Rattle.hs_expr_parser.proofs.Indexed.{IsIndexOf-with}
use Rattle.hs_expr_parser.proofs.type_names.TypeNames.with.Goals as goal

-- the index took the name if it had it not
pub invariant_of-result : goal.invariant_of-result
invariant_of-result c =
    let key : c.in_ok-to_vec.field-0.items ≡ c.args.name.now = search rules in
    let name : c.in_ok-to_vec-2.field-0.items ≡ c.args.name.now = search rules in
    let names : c.push.new.self.items ≡ c.self.inside.names.items ++ c.in_ok-to_vec.field-0.items ∷ [] = search rules in
    rw (c.in_ok-insert.ensures.keys, names)
    (IsIndexOf-with c.self.inside.index.keys c.self.inside.names.items c.in_ok-to_vec.field-0 c.self.invariant)
