use Rattle.std.proofs.Common.{ap, ◌∙◌}
use Rattle.std.specs.Cmp.Lexicographic.{pointwise}
use Rattle.std.proofs.lemmas.List.{map-id}
use Rattle.hs_macros.specs.Definitions.{is_same_token}
use Rattle.hs_macros.specs.Slots.{tokens_of}
use Rattle.hs_macros.proofs.Pairs.{pointwise-zip-map}
use Rattle.hs_macros.proofs.definition.is_same_body.Goals as goal

-- of one length, and each pair is the same
pub returns-then-old-new : goal.returns-then-old-new
returns-then-old-new c =
    c.agree_in_tokens.ensures
    ∙ pointwise-zip-map is_same_token (λ slot. slot.token) (λ token. token) c.args.old.now c.args.new.now c.if-old-new.true
    ∙ ap (pointwise is_same_token (tokens_of c.args.old.now)) (map-id c.args.new.now)
