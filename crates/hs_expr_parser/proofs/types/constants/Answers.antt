use Rattle.std.proofs.Common.{◌≡◌, [], map, ◌∷◌, ◌++◌, ap, sym, ◌∙◌, arith}
use Rattle.std.proofs.lemmas.List.{map-append}
use Rattle.hs_syntax.specs.RowViews.{view_constant}
use Rattle.hs_expr_parser.proofs.Stepping.{constants_on, constants_goes}
use Rattle.hs_expr_parser.proofs.types.constants.Goals as goal

-- one more
pub constants-preserved : goal.constants-preserved
constants-preserved g c =
    let items : map view_constant c.push-in-Some.new.self.items ≡ map view_constant c.constants.its.items ++ view_constant c.in_ok-it.it ∷ [] =
    ap (map view_constant) c.in_ok-push-2.ensures.items ∙ map-append view_constant c.constants.its.items (c.in_ok-it.it ∷ []) in (
      ap (λ its. constants_on c.args.known.now its c.in_ok-it.left.now) items
          ∙ sym (constants_goes c.args.known.now (map view_constant c.constants.its.items) c.constants.rest.now c.in-Some.field-0-0 c.in-Some.next.now
          (view_constant c.in_ok-it.it) c.in_ok-it.left.now
          c.in-Some.ensures.read (sym c.is_mark_ahead.ensures ∙ c.if-is_mark_ahead.false) c.in_ok-it.ensures.read)
          ∙ c.constants.invariant.0,
      omega (arith, c.in_ok-it.ensures.shorter, c.in-Some.ensures.shorter, c.constants.invariant.1),
    )
