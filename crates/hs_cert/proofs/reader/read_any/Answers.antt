-- A text of a certificate is read as that certificate.
use Rattle.std.proofs.Common.{◌≡◌, [], ◌∷◌, ◌++◌, Some, true, codes, length, ap, ◌∙◌, refl, sym}
use Rattle.std.specs.List.{flat_map}
use Rattle.std.specs.Option.{is_some}
use Rattle.hs_cert.specs.Reading.{after}
use Rattle.hs_cert.specs.Texts.{flow_lines}
use Rattle.hs_cert.proofs.Words.{word}
use Rattle.hs_cert.proofs.Fronts.{gives_some}
use Rattle.hs_cert.proofs.Split.{text_split}
use Rattle.hs_cert.proofs.reader.read_any.Goals as goal

pub returns-in_err-lines-clause-refused : goal.returns-in_err-lines-clause-refused
returns-in_err-lines-clause-refused c = λ bad other certificate is.
    let split = text_split c.args.network.now other c.args.text.now is in
    let lines = flow_lines 0 other.flow ++ (codes "crossings " ++ split.0) in
    let begins : after (codes "inside") c.args.text.now ≡ Some (flat_map word other.inside ++ 10 ∷ lines) = ap (after (codes "inside")) split.1 in
    let told : after (codes "inside") c.args.text.now ≡ Some c.in_ok-behind.behind.now = rw c.in_ok-behind.ensures.ok_part at c.after.ensures in
    let behind : c.in_ok-behind.behind.now ≡ flat_map word other.inside ++ 10 ∷ lines = cc in
    let words = c.in_ok-words.ensures other.inside lines certificate.inside.vertices behind in
    let ends : after (10 ∷ []) c.in_ok-words.words.rest.now ≡ Some lines = ap (after (10 ∷ [])) words.1 in
    let some : is_some c.after-2.result ≡ true = gives_some c.after-2.result lines (rw ends at c.after-2.ensures) in
    let none = c.in_err-lines.ensures.variant in
    cc

pub returns-clause-only : goal.returns-clause-only
returns-clause-only c = λ other certificate is.
    let split = text_split c.args.network.now other c.args.text.now is in
    let lines = flow_lines 0 other.flow ++ (codes "crossings " ++ split.0) in
    let begins : after (codes "inside") c.args.text.now ≡ Some (flat_map word other.inside ++ 10 ∷ lines) = ap (after (codes "inside")) split.1 in
    let told : after (codes "inside") c.args.text.now ≡ Some c.in_ok-behind.behind.now = rw c.in_ok-behind.ensures.ok_part at c.after.ensures in
    let behind : c.in_ok-behind.behind.now ≡ flat_map word other.inside ++ 10 ∷ lines = cc in
    let words = c.in_ok-words.ensures other.inside lines certificate.inside.vertices behind in
    let ends : after (10 ∷ []) c.in_ok-words.words.rest.now ≡ Some lines = ap (after (10 ∷ [])) words.1 in
    let next : after (10 ∷ []) c.in_ok-words.words.rest.now ≡ Some c.in_ok-lines.lines.now = rw c.in_ok-lines.ensures.ok_part at c.after-2.ensures in
    let left : c.in_ok-lines.lines.now ≡ lines = cc in
    let each : length other.flow ≡ length c.in_ok-flow.flow.items = certificate.each ∙ sym (c.in_ok-flow.ensures.each ∙ ap length c.items.ensures) in
    let flow = c.in_ok-flow.ensures.read other.flow split.0 each certificate.small left in
    rw (c.from_vec.ensures, c.from_vec-2.ensures, words.0, flow) refl
