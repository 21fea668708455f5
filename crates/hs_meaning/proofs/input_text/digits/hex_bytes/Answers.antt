-- The digits are a pair, and those after it.
use Rattle.std.proofs.Common.{◌≡◌, Some, get_or, ◌∙◌, sym}
use Rattle.hs_meaning.specs.InputTexts.{hex_byte}
use Rattle.hs_meaning.proofs.InputTextLaws.{hex_bytes-pair}
use Rattle.hs_meaning.proofs.input_text.digits.hex_bytes.Goals as goal

pub pairs-preserved : goal.pairs-preserved
pairs-preserved c =
    let byte : hex_byte (get_or c.pairs.rest.now 0 0) (get_or c.pairs.rest.now 1 0) ≡ Some c.in-Some.byte = sym c.hex_byte.ensures ∙ c.in-Some.is in
    let next = hex_bytes-pair c.pairs.bytes.items c.pairs.rest.now c.in-Some.byte c.in-len2-up.len_at_least byte in
    rw c.in_ok-push.ensures.items (sym next ∙ c.pairs.invariant)
