use Rattle.std.proofs.Common.{arith, sym}
use Rattle.hs_restores.specs.Laws.Windows.{part_number, part_other}
use Rattle.hs_restores.proofs.stepping.number_in.Goals.{else-number-window-via-then-number-window+else-number-window-2, else-number-window-via-else-number-window}
use Rattle.hs_restores.proofs.stepping.number_in.Goals as goal

-- it is there
pub returns-then-number-window-2 : goal.returns-then-number-window-2
returns-then-number-window-2 c =
    let low = c.if-number-window.true in
    let high = c.if-number-window-2.true in
    let is = c.find-number.ensures in
    rw is (sym (part_number c.args.window.names.now c.args.window.from c.args.window.count c.args.variable c.requires.fits (omega (arith, low, is))
    (omega (arith, low, high, is))))

-- it is before the window, or after it
pub returns-else-number-window : goal.returns-else-number-window
returns-else-number-window c =
    let is = c.find-number.ensures in
    sym (part_other c.args.window.names.now c.args.window.from c.args.window.count c.requires.distinct c.requires.fits c.args.variable
    (λ low high. elim c.else-number-window.branch [
      | else-number-window-via-then-number-window+else-number-window-2 w ↦ let past = w.if-number-window-2.false in omega (arith, past, is, low, high)
      | else-number-window-via-else-number-window w ↦ let under = w.if-number-window.false in omega (arith, under, is, low)
    ]))
