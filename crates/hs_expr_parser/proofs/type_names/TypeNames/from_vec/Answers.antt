use Rattle.std.proofs.Common.{rules, ◌≡◌, ℕ, ◌<◌, ◌+◌, ◌++◌, ◌∷◌, [], List, length, take, ap, sym, ◌∙◌, arith}
use Rattle.std.proofs.lemmas.List.{take_more}
use Rattle.hs_expr_parser.proofs.Indexed.{IsIndexOf-with}
use Rattle.hs_expr_parser.proofs.type_names.TypeNames.from_vec.Goals as goal

-- the index takes one more name, if it has it not
pub names-preserved : goal.names-preserved
names-preserved c =
    let its = c.deref-name-items.result.now in
    let before = take c.names.name-index its in
    let within : c.names.name-index < length its = omega (arith, c.names-test.true) in
    let key : c.in_ok-to_vec.field-0.items ≡ c.name-item.result = search rules in
    let names : take (c.names.name-index + 1) its ≡ before ++ c.in_ok-to_vec.field-0.items ∷ [] =
    take_more its c.names.name-index c.name-item.result within
    ∙ ap (λ (it : List ℕ). before ++ it ∷ []) (sym c.name-item.is ∙ sym key) in
    rw (c.in_ok-insert.ensures.keys, names) (IsIndexOf-with c.names.index.keys before c.in_ok-to_vec.field-0 c.names.invariant)
