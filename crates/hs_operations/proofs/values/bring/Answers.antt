-- A value that is brought to the top.
use Rattle.std.proofs.Common.{◌≡◌, ◌-◌, ◌<◌, ◌≤◌, ℕ, zero, length, reverse, Some, slice_get, sym, ap, ◌∙◌, subst, arith}
use Rattle.hs_code_run.specs.Steps.{brought}
use Rattle.hs_layers.specs.Layers.{brought as brought_in}
use Rattle.hs_operations.proofs.Bringing.{brings, brings_none, item_there}
use Rattle.hs_operations.proofs.values.bring.Goals as goal
use Rattle.hs_operations.proofs.values.bring.Goals.{else-place-gt0-via-then-place-gt0+else-place-count, else-place-gt0-via-else-place-gt0}

pub returns-then-place-count-clause-top : goal.returns-then-place-count-clause-top
returns-then-place-count-clause-top c =
    let list = c.args.stack.now.top in
    let count : length c.items-count.result.now ≡ length list = ap length c.items-count.ensures in
    let within : c.args.place ≤ length list = omega arith in
    let inside : length list - c.args.place < length list = omega arith in
    let found = item_there (length list - c.args.place) list inside in
    let there = subst (λ (n : ℕ). slice_get list (n - c.args.place) ≡ Some found.0) (sym count) found.1 in
    ap reverse (c.bring.ensures.top found.0 there)
    ∙ subst (λ (n : ℕ). reverse (brought_in (n - c.args.place) found.0 list) ≡ brought c.args.place (reverse list)) (sym count)
    (brings c.args.place list found.0 c.if-place-gt0.true within found.1)

pub returns-else-place-gt0-clause-top : goal.returns-else-place-gt0-clause-top
returns-else-place-gt0-clause-top c =
    let list = c.args.stack.now.top in
    elim c.else-place-gt0.branch [
      | else-place-gt0-via-then-place-gt0+else-place-count w ↦
          let past : length list < c.args.place = rw (← c.items-count.ensures) w.if-place-count.false in
          sym (brings_none c.args.place list past)
      | else-place-gt0-via-else-place-gt0 w ↦
          let none : c.args.place ≡ zero = omega arith in
          sym (ap (λ (n : ℕ). brought n (reverse list)) none)
    ]
