use Rattle.std.proofs.Common.{◌≡◌, ap, rules, ◌∙◌}
use Rattle.hs_effects.proofs.Flagged.{by_row, flagged, word, word_of}
use Rattle.hs_effects.specs.Answers.{in_set}
use Rattle.hs_rows.specs.Sets.{has}
use Rattle.hs_effects.proofs.table.EffectTable.of.Goals as goal

-- each flag is its test
pub returns : goal.returns
returns c effect =
    let moves : c.has.result ≡ has c.args.self.now.effects c.args.f 0 = search rules in
    let purges : c.has-2.result ≡ has c.args.self.now.effects c.args.f 1 = search rules in
    let unlocks : c.has-3.result ≡ has c.args.self.now.effects c.args.f 2 = search rules in
    let marks : c.has-4.result ≡ has c.args.self.now.effects c.args.f 3 = search rules in
    let bits : c.has-5.result ≡ has c.args.self.now.effects c.args.f 4 = search rules in
    let disposes : c.has-6.result ≡ has c.args.self.now.effects c.args.f 5 = search rules in
    let set : c.from_bits_retain.result.0 ≡ word c.has.result c.has-2.result c.has-3.result c.has-4.result c.has-5.result c.has-6.result =
    c.from_bits_retain.ensures tt
    ∙ word_of c.word_if-moves.result c.word_if-purges.result c.word_if-unlocks.result c.word_if-marks.result c.word_if-bits.result
    c.word_if-disposes.result c.has.result c.has-2.result c.has-3.result c.has-4.result c.has-5.result c.has-6.result
    c.word_if-moves.ensures c.word_if-purges.ensures c.word_if-unlocks.ensures c.word_if-marks.ensures c.word_if-bits.ensures
    c.word_if-disposes.ensures in
    ap (λ it. in_set it effect) set ∙ flagged effect c.has.result c.has-2.result c.has-3.result c.has-4.result c.has-5.result c.has-6.result
    ∙ by_row c.args.self.now.effects c.args.f c.has.result c.has-2.result c.has-3.result c.has-4.result c.has-5.result c.has-6.result
    moves purges unlocks marks bits disposes effect
