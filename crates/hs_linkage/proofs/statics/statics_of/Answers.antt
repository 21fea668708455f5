use Rattle.std.proofs.Common.{rules, ◌≡◌, ◌+◌, ◌∷◌, map, drop, get_or, ap, sym, ◌∙◌}
use Rattle.std.proofs.lemmas.List.{drop_more}
use Rattle.hs_index.specs.Index.{at}
use Rattle.hs_linkage.specs.Definitions.{declares, is_static}
use Rattle.hs_linkage.specs.Indexes.{linkage_number, or_first, number_if, linkage_of}
use Rattle.hs_linkage.proofs.Linkages.{or_first-assoc}
use Rattle.hs_syntax.specs.Views.{view_external}
use Rattle.hs_linkage.proofs.statics.statics_of.Goals as goal

-- those of one more external declaration
pub its-preserved : goal.its-preserved
its-preserved c name =
    let its = c.args.its.now in
    let one = c.it-item.result in
    let rest = linkage_of name (map view_external (drop (c.its.it-index + 1) its)) in
    let here : get_or its c.its.it-index one ≡ one = search rules in
    let next : drop c.its.it-index its ≡ one ∷ drop (c.its.it-index + 1) its =
    drop_more its c.its.it-index one (search rules) ∙ ap (λ first. first ∷ drop (c.its.it-index + 1) its) here in
    ap (λ found. or_first found rest) (c.in_ok-all.ensures name)
    ∙ or_first-assoc (at name c.its.all)
    (number_if (declares name (view_external one)) (linkage_number (is_static (view_external one)))) rest
    ∙ ap (λ its. or_first (at name c.its.all) (linkage_of name (map view_external its))) (sym next)
    ∙ c.its.invariant name
