use Rattle.std.proofs.Common.{length, ap, arith, length-drop}
use Rattle.std.proofs.lemmas.List.{take_rest}
use Rattle.hs_constants.proofs.Values.{escaped}
use Rattle.hs_constants.proofs.characters.character_ahead.Goals as goal

-- an escape
pub returns : goal.returns
returns c =
    let after = c.in_ok-byte.after.now in
    let found = c.escape_ahead-escape in
    let content = c.in_ok-byte.ensures.cases.0 in
    let character = escaped c.in_ok-byte.byte.now c.args.content.now after found.result.len found.result.value content c.if-byte-ne92.false
    found.ensures.len found.ensures.value in
    rw (take_rest after found.result.len) (character, omega (arith, ap length content, length-drop found.result.len after))
