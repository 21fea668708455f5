-- One unit more, or the first that is not in the grammar.
use Rattle.std.proofs.Common.{◌≡◌, List, [], ◌∷◌, ◌++◌, get_or, map, subst, ap, ◌∙◌, Err, rules}
use Rattle.hs_tokens.specs.declared.token.SourceToken.{SourceToken}
use Rattle.hs_syntax.specs.Grammar.{IsUnit}
use Rattle.hs_syntax.specs.Nesting.{IsShallow}
use Rattle.hs_syntax.specs.Views.{view_unit}
use Rattle.hs_decl_parser.specs.Units.{IsRefusedAt}
use Rattle.hs_source.proofs.Units.{AreTrees-more, IsFirst-at}
use Rattle.hs_source.proofs.source.parsed.Goals as goal

-- it nests too deeply
pub returns-in-Err-Limit : goal.returns-in-Err-Limit
returns-in-Err-Limit c =
    let item : c.items.result.now ≡ get_or c.args.units.now c.units.tokens-index c.tokens-item.result = c.items.ensures ∙ c.tokens-item.is in
    let limit = c.in-Err-Limit.ensures.limit c.in-Err-Limit.limit (ap Err c.in-Err-Limit.field-0-is) in (
      IsFirst-at (λ tokens. IsShallow tokens → ⊥) c.args.units.now c.units.tokens-index c.tokens-item.result c.units-test.true
          (map view_unit c.units.trees.items) c.units.invariant
          (subst (λ (tokens : List SourceToken). IsShallow tokens → ⊥) item limit.1),
      c.in-Err-Limit.limit-is ∙ limit.0,
    )

-- an external declaration is wrong
pub returns-in-Err-Syntax : goal.returns-in-Err-Syntax
returns-in-Err-Syntax c =
    let item : c.items.result.now ≡ get_or c.args.units.now c.units.tokens-index c.tokens-item.result = c.items.ensures ∙ c.tokens-item.is in
    let refused = c.in-Err-Syntax.ensures.syntax c.in-Err-Syntax.pos (ap Err c.in-Err-Syntax.field-0-is) in
    rw c.in-Err-Syntax.pos-is
    (IsFirst-at (λ tokens. IsRefusedAt tokens c.in-Err-Syntax.pos) c.args.units.now c.units.tokens-index c.tokens-item.result
    c.units-test.true (map view_unit c.units.trees.items) c.units.invariant
    (subst (λ (tokens : List SourceToken). IsRefusedAt tokens c.in-Err-Syntax.pos) item refused))

-- the tokens are a unit
pub units-preserved : goal.units-preserved
units-preserved c =
    let item : c.items.result.now ≡ get_or c.args.units.now c.units.tokens-index c.tokens-item.result = c.items.ensures ∙ c.tokens-item.is in
    let found = c.in-Ok.ensures.found in
    let pushed : c.push.new.self.items ≡ c.units.trees.items ++ c.in-Ok.tree ∷ [] = search rules in
    rw pushed
    (AreTrees-more c.args.units.now c.units.tokens-index c.tokens-item.result c.units.trees.items c.in-Ok.tree c.units-test.true c.units.invariant
    (subst IsShallow item found.0) (subst (λ (tokens : List SourceToken). IsUnit tokens (view_unit c.in-Ok.tree)) item found.1))
