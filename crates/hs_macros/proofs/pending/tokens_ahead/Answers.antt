use Rattle.std.proofs.Common.{◌≡◌, ap, ◌∙◌}
use Rattle.hs_macros.specs.HideSets.{HideSet}
use Rattle.hs_macros.specs.Numbers.{named}
use Rattle.hs_macros.specs.Replacement.{plain}
use Rattle.hs_macros.specs.Stacks.{hidden}
use Rattle.hs_macros.proofs.Collecting.{put_next}
use Rattle.hs_macros.proofs.Naming.{named-empty}
use Rattle.hs_macros.proofs.pending.tokens_ahead.Goals as goal

-- the last token that is left is put, and hides nothing
pub loop-token-preserved : goal.loop-token-preserved
loop-token-preserved c names =
    let nothing = ap (named names) (c.in_ok-none.ensures.ok ∙ c.new.ensures) ∙ named-empty names in
    let token : hidden names c.in_ok-plain.field-0 ≡ plain c.in-Some.token.now =
    c.in_ok-plain.ensures names ∙ ap (λ (hides' : HideSet). record (plain c.in-Some.token.now) { hides = hides' }) nothing in
    put_next names plain c.loop-token.token-iterator.iter.rest.now c.next.new.self.iter.rest.now c.in-Some.token.now c.loop-token.tokens.items
    c.push.new.self.items c.in_ok-plain.field-0 _ c.in-Some.ensures.steps c.in_ok-push.ensures.items token (c.loop-token.invariant names)
