-- the first number, and the others each after a comma
use Rattle.std.proofs.Common.{◌≡◌, ◌++◌, ap, ◌∙◌}
use Rattle.std.specs.Fmt.{decimal}
use Rattle.hs_movers.proofs.Lists.{joined_whole}
use Rattle.hs_movers.proofs.script_text.printer.print_numbers.Goals as goal

pub returns-clause-text : goal.returns-clause-text
returns-clause-text c =
    let first : c.extend_from_slice.new.self.items ≡ c.args.text.now.items ++ decimal c.in-Some.first.now =
    c.in_ok-extend_from_slice.ensures.items ∙ ap (λ digits. c.args.text.now.items ++ digits) (c.as_bytes.ensures.value ∙ c.format.ensures.text) in
    joined_whole c.loop-number.text.items c.args.text.now.items c.args.numbers.now c.in-Some.rest.now c.in-Some.first.now c.loop-number.number-index
    c.in-Some.ensures.cases.0 c.loop-number-test.false (rw first at c.loop-number.invariant)
