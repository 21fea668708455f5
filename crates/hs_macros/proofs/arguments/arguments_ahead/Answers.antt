use Rattle.std.proofs.Common.{[], ◌∷◌, ◌++◌, map, ap, sym, ◌∙◌, arith}
use Rattle.hs_macros.proofs.Collecting.{row, separated, inside, depth_grows}
use Rattle.hs_macros.proofs.arguments.arguments_ahead.Goals as goal

-- the comma ends the argument
pub tokens-preserved-in-Separates-1 : goal.tokens-preserved-in-Separates-1
tokens-preserved-in-Separates-1 c = record {
  same =
      λ names. separated names c.tokens.given.items c.push-in-Separates.new.self.items c.tokens.argument c.replace.new.dest c.tokens.depth c.tokens.tokens.items
      c.pop.new.self.items c.in-Some.token _ c.in-Some.ensures.items
      (c.in_ok-push-in-Separates.ensures.items ∙ ap (λ last. c.tokens.given.items ++ last ∷ []) c.replace.ensures.value)
      (ap (λ vec. vec.items) c.replace.ensures.after ∙ c.new.ensures.items) (sym c.in-Separates.ensures) (c.tokens.invariant.same names);
  few = omega (arith, c.in-Some.ensures.len, c.tokens.invariant.few);
}

-- the token goes into the argument
pub tokens-preserved : goal.tokens-preserved
tokens-preserved c = record {
  same =
      λ names. inside names
      (map (row names) c.tokens.given.items) c.tokens.argument.items c.push-in-Inside.new.self.items c.tokens.depth c.in-Inside.behind c.tokens.tokens.items
      c.pop.new.self.items c.in-Some.token _ c.in-Some.ensures.items c.in_ok-push-in-Inside.ensures.items (sym c.in-Inside.ensures)
      (c.tokens.invariant.same names);
  few = omega (
    arith,
    c.in-Some.ensures.len,
    c.tokens.invariant.few,
    depth_grows c.tokens.depth c.in-Inside.behind c.in-Some.token.token.now (sym c.in-Inside.ensures),
  );
}
