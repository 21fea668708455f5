use Rattle.std.proofs.Common.{◌≡◌, [], ◌∷◌, ◌++◌, List, Some, None, map, ap, sym, ◌∙◌, subst}
use Rattle.std.proofs.lemmas.List.{map-append}
use Rattle.hs_base.specs.declared.pos.Pos.{Pos}
use Rattle.hs_tokens.specs.declared.token.SourceToken.{SourceToken}
use Rattle.hs_syntax.specs.Phrases.{made_by}
use Rattle.hs_syntax.specs.Trees.{ExternalDeclaration, TranslationUnit}
use Rattle.hs_syntax.specs.Views.{view_external}
use Rattle.hs_decl_parser.specs.Steps.{external_at}
use Rattle.hs_decl_parser.specs.Units.{names_of, IsStuck}
use Rattle.hs_decl_parser.proofs.Exact.{Parsed, more_parsed, stuck_parsed, names_more}
use Rattle.hs_expr_parser.specs.Laws.Fails.{fails_none}
use Rattle.hs_decl_parser.proofs.Failing.{same_place}
use Rattle.hs_decl_parser.proofs.units.externals.Goals as goal

-- one more
pub externals-preserved : goal.externals-preserved
externals-preserved c =
    let its : TranslationUnit = map view_external c.externals.its.items in
    let it : ExternalDeclaration = view_external c.in-Ok.it in
    let items : map view_external c.push.new.self.items ≡ its ++ it ∷ [] =
    ap (map view_external) c.in_ok-push-in-Ok.ensures.items ∙ map-append view_external c.externals.its.items (c.in-Ok.it ∷ []) in
    let read : external_at (names_of its) c.externals.rest.now ≡ Some (it, c.in-Ok.left.now) =
    sym (ap (λ known. external_at known c.externals.rest.now) c.externals.invariant.1) ∙ c.in-Ok.ensures.read in (
      subst (λ (all : TranslationUnit). Parsed c.args.tokens.now all c.in-Ok.left.now) (sym items)
          (more_parsed c.args.tokens.now its c.externals.rest.now it c.in-Ok.left.now c.externals.invariant.0 read),
      c.in_ok-known-in-Ok.ensures ∙ ap (λ known. known ++ made_by it) c.externals.invariant.1 ∙ sym (names_more its it) ∙ ap names_of (sym items),
    )

-- none follows
pub returns-in-Err-NotExpr-clause-stuck : goal.returns-in-Err-NotExpr-clause-stuck
returns-in-Err-NotExpr-clause-stuck c = λ pos is.
    let its : TranslationUnit = map view_external c.externals.its.items in
    let none : external_at c.externals.known c.externals.rest.now ≡ None =
    fails_none c.in-Err-NotExpr.field-0 (external_at c.externals.known c.externals.rest.now) c.in-Err-NotExpr.field-0-is c.in-Err-NotExpr.ensures.read in
    let here : external_at (names_of its) (c.in-Some.source.now ∷ c.in-Some.field-0-1.now) ≡ None =
    sym (λ i. external_at (c.externals.invariant.1 i) (c.in-Some.ensures.found i)) ∙ none in
    let parsed : Parsed c.args.tokens.now its (c.in-Some.source.now ∷ c.in-Some.field-0-1.now) =
    subst (λ (rest : List SourceToken). Parsed c.args.tokens.now its rest) c.in-Some.ensures.found c.externals.invariant.0 in
    subst (λ (pos : Pos). IsStuck c.args.tokens.now pos) (same_place c.in-Some.source.now.token.pos pos is)
    (stuck_parsed c.args.tokens.now its c.in-Some.source.now c.in-Some.field-0-1.now parsed here)
