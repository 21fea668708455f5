use Rattle.std.proofs.Common.{rules, ◌≡◌, ◌+◌, ◌∷◌, [], drop, get_or, ap, sym, ◌∙◌}
use Rattle.std.proofs.lemmas.List.{drop_more, drop_all}
use Rattle.hs_linkage.specs.Objects.{marked}
use Rattle.hs_linkage.proofs.Marked.{marked_next, marked_none}
use Rattle.hs_tree.specs.declared.head.Variable.TheVariants as variable
use Rattle.hs_typer.specs.declared.typer.Taken.{Taken}
use Rattle.hs_typer.specs.declared.typer.Taken.TheVariants as taken
use Rattle.hs_linkage.proofs.objects.Locals.marked.Goals as goal

-- one more address
pub its-preserved : goal.its-preserved
its-preserved c =
    let its = c.args.its.now in
    let item : Taken = get_or its c.its.it-index (taken.Variable (variable.Global 0)) in
    let next : drop c.its.it-index its ≡ item ∷ drop (c.its.it-index + 1) its =
    drop_more its c.its.it-index (taken.Variable (variable.Global 0)) (search rules) in
    ap (marked (drop (c.its.it-index + 1) its) 0) c.mark.ensures ∙ sym (marked_next item (drop (c.its.it-index + 1) its) 0 c.its.all)
    ∙ ap (λ its. marked its 0 c.its.all) (sym next) ∙ c.its.invariant

-- no address is left
pub returns : goal.returns
returns c =
    let gone : drop c.its.it-index c.args.its.now ≡ [] = drop_all c.its.it-index c.args.its.now (search rules) in
    c.from_vec.ensures ∙ c.all.view_is ∙ sym (marked_none 0 c.its.all) ∙ ap (λ its. marked its 0 c.its.all) (sym gone) ∙ c.its.invariant
