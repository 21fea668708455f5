use Rattle.std.proofs.Common.{rules, ◌≡◌, ◌+◌, ◌∷◌, map, drop, get_or, ap, sym, ◌∙◌}
use Rattle.std.proofs.lemmas.List.{drop_more}
use Rattle.hs_index.specs.Index.{at}
use Rattle.hs_linkage.specs.Definitions.{is_named, is_among}
use Rattle.hs_linkage.specs.Indexes.{or_first, number_if}
use Rattle.hs_linkage.proofs.Linkages.{or_first-assoc, number_if-either}
use Rattle.hs_syntax.specs.Views.{view_declarator, view_item}
use Rattle.hs_typer.specs.Declarators.{word_of}
use Rattle.hs_linkage.proofs.statics.with_items.Goals as goal

-- one more name
pub its-preserved : goal.its-preserved
its-preserved c name =
    let its = c.args.its.now in
    let item = c.it-item.result in
    let old = at name c.its.all in
    let named = is_named name (word_of (view_declarator item.declarator)) in
    let rest = is_among name (map view_item (drop (c.its.it-index + 1) its)) in
    let here : get_or its c.its.it-index item ≡ item = search rules in
    let next : drop c.its.it-index its ≡ item ∷ drop (c.its.it-index + 1) its =
    drop_more its c.its.it-index item (search rules) ∙ ap (λ first. first ∷ drop (c.its.it-index + 1) its) here in
    ap (λ found. or_first found (number_if rest c.args.number))
    (c.in_ok-all.ensures name ∙ ap (λ word. or_first old (number_if (is_named name word) c.args.number)) c.word_of.ensures)
    ∙ or_first-assoc old (number_if named c.args.number) (number_if rest c.args.number)
    ∙ ap (or_first old) (number_if-either named rest c.args.number)
    ∙ ap (λ its. or_first old (number_if (is_among name (map view_item its)) c.args.number)) (sym next)
    ∙ c.its.invariant name
