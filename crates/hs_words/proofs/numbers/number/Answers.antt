use Rattle.std.proofs.Common.{◌≡◌, ◌∙◌, true, rules}
use Rattle.hs_words.specs.Words.{is_number}
use Rattle.hs_words.proofs.Digits.{reads_number}
use Rattle.hs_words.proofs.numbers.number.Goals as goal

pub returns-then-is_number : goal.returns-then-is_number
returns-then-is_number c =
    let is : is_number c.args.text.now ≡ true = search rules in
    rw is (c.ok.ensures.value ∙ reads_number c.args.text.now c.from_str_radix.result is c.from_str_radix.ensures.value)
