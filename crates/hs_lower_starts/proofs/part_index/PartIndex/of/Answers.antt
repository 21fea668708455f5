use Rattle.std.proofs.Common.{◌≡◌, ◌++◌, ◌∷◌, [], None, ap, sym, ◌∙◌, arith}
use Rattle.std.proofs.lemmas.Grind.{common_steps}
use Rattle.hs_lower_starts.specs.PartIndex.{constant_at, part_onto}
use Rattle.hs_lower_starts.proofs.Indexing.{onto_none, onto_last}
use Rattle.hs_lower_starts.proofs.part_index.PartIndex.of.Goals as goal

-- all constants are in front of an empty index
pub parts-init : goal.parts-init
parts-init c its =
    let all : c.into_iter-part-iterator.result.iter.rest.now ≡ c.args.parts.now = grind (arith, common_steps) in
    let empty : constant_at its c.new.result.entries ≡ None = ap (constant_at its) c.new.ensures.empty in
    ap (λ list. part_onto its list (constant_at its c.new.result.entries)) all
    ∙ ap (part_onto its c.args.parts.now) empty
    ∙ onto_none its c.args.parts.now

-- the last one of those that are left is in the index
pub parts-preserved : goal.parts-preserved
parts-preserved c its =
    let left : c.parts.part-iterator.iter.rest.now ≡ c.next.new.self.iter.rest.now ++ c.in-Some.part.now ∷ [] = grind (arith, common_steps) in
    ap (part_onto its c.next.new.self.iter.rest.now) (c.in_ok-index.ensures its)
    ∙ sym (onto_last its c.next.new.self.iter.rest.now c.in-Some.part.now (constant_at its c.parts.index.map.entries))
    ∙ ap (λ list. part_onto its list (constant_at its c.parts.index.map.entries)) (sym left)
    ∙ c.parts.invariant its
