use Rattle.std.proofs.Common.{◌≡◌, map, ap, sym, ◌∙◌, List}
use Rattle.std.specs.FinSet as set
use Rattle.hs_macros.specs.Numbers.{named}
use Rattle.hs_macros.specs.Replacement.{invoked}
use Rattle.hs_macros.specs.Slots.{names_of, tokens_of}
use Rattle.hs_macros.specs.Stacks.{hidden, ahead, waiting}
use Rattle.hs_macros.specs.declared.pending.Pending.{Pending}
use Rattle.hs_macros.proofs.Collecting.{row}
use Rattle.hs_macros.proofs.Calls.{hides_call, invoked_by}
use Rattle.hs_macros.proofs.call.function_call.Goals as goal
use Rattle.hs_macros.proofs.call.function_call.Goals.{then-len-capacity, else-len-capacity}

-- the arguments are those between the parentheses, and the numbers that are hidden name what the definition hides
pub returns-clause-called : goal.returns-clause-called
returns-clause-called c names is =
    let between' = rw c.in-Some.is at (c.in_ok-between.ensures names) in
    let pairs = rw c.in-Some-2.is at (c.in_ok-waiting.ensures.waiting names) in
    let hides = hides_call names c.args.name.now.hides.value c.in-Some.between.close.hides.value _ c.args.name.now.token.now.text c.args.number is
    (c.in_ok-new.ensures.ok ∙ c.in_ok-hides.ensures
    ∙ (λ i. set.insert (set.intersection (c.deref.ensures i) (c.deref-2.ensures i)) c.args.number)) in
    let same : c.if-len-capacity.behind.items ≡ c.arguments_ahead.new.tokens.items = elim c.if-len-capacity.branch [
      | then-len-capacity w ↦ ap (λ vec. vec.items) w.behind-is ∙ w.shrink_to_fit.ensures.items
      | else-len-capacity w ↦ ap (λ vec. vec.items) w.behind-is
    ] in (
      invoked_by (hidden names c.args.name.now) (tokens_of c.args.body.now) (names_of c.args.parameters.now) (ahead names c.args.tokens.items)
          (ahead names c.arguments_ahead.new.tokens.items) (map (row names) c.in-Some.between.given.items) (hidden names c.in-Some.between.close)
          (waiting names c.in-Some-2.waiting.items) (named names c.in_ok-new.field-0.value) between' pairs hides
          ∙ ap (λ (behind : List Pending). invoked (record {
            body = tokens_of c.args.body.now;
            pos = c.args.name.now.pos;
            hides = named names c.in_ok-new.field-0.value;
            behind = ahead names behind;
          }) (waiting names c.in-Some-2.waiting.items)) (sym same),
      c.new-2.ensures.items,
    )
