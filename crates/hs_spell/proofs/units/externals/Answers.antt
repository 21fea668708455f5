use Rattle.std.proofs.Common.{◌≡◌, ◌+◌, List, [], ◌∷◌, ◌++◌, append-nil, map, drop, refl, sym, ap, ◌∙◌, arith}
use Rattle.std.proofs.lemmas.List.{drop_more, drop_all}
use Rattle.hs_spell.specs.Spelling.{token_of}
use Rattle.hs_syntax.specs.Grammar.{external_form, unit_form}
use Rattle.hs_syntax.specs.Phrases.{made_by}
use Rattle.hs_syntax.specs.Views.{view_external}
use Rattle.hs_syntax.specs.declared.unit.External.{External}
use Rattle.hs_spell.proofs.Written.{next}
use Rattle.hs_spell.proofs.units.externals.Goals as goal

-- nothing is written
pub loop-it-init : goal.loop-it-init
loop-it-init c known = (known, refl)

-- an external declaration is written, and makes its typedef names known
pub loop-it-preserved : goal.loop-it-preserved
loop-it-preserved c known =
    let it = c.it-item.result in
    let all = c.args.its.now in
    let i = c.loop-it.it-index in
    let before = c.loop-it.invariant known in
    let here : drop i all ≡ it ∷ drop (i + 1) all =
    drop_more all i it (omega arith) ∙ ap (λ (first : External). first ∷ drop (i + 1) all) (sym c.it-item.is) in (
      before.0 ++ made_by (view_external it),
      next c.loop-it.tokens.items c.external.new.tokens.items _ _ (external_form before.0 (view_external it)).pieces _ before.1
          (ap (λ its. (unit_form before.0 (map view_external its)).pieces) here) (c.in_ok-external.ensures before.0),
    )

-- nothing is left
pub returns : goal.returns
returns c known =
    let last = c.loop-it.invariant known in
    let none : drop c.loop-it.it-index c.args.its.now ≡ [] = drop_all c.loop-it.it-index c.args.its.now (omega arith) in
    sym (append-nil c.loop-it.tokens.items)
    ∙ ap (λ (its : List External). c.loop-it.tokens.items ++ map token_of (unit_form last.0 (map view_external its)).pieces) (sym none) ∙ last.1
