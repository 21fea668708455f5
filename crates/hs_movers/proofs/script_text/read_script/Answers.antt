-- Each line is the next piece of the text. Its item is added; a line without one refuses the text, and so does one that comes too late.
use Rattle.std.proofs.Common.{◌≡◌, ◌==◌, ◌+◌, ◌++◌, ◌∷◌, [], None, Some, Ok, drop, length, length-append, refl, ap, sym, ◌∙◌, arith, rules, tests}
use Rattle.std.proofs.lemmas.List.{drop_all}
use Rattle.std.proofs.lemmas.List.Splits.{length-slice_split}
use Rattle.hs_meaning.specs.InputTexts.{lines}
use Rattle.hs_movers.specs.ScriptTexts.{added, item_of}
use Rattle.hs_movers.proofs.ScriptTextLaws.{read_from-more, piece_turn, piece_end}
use Rattle.hs_movers.proofs.script_text.read_script.Goals as goal

pub overflow_add-number : goal.overflow_add-number
overflow_add-number c =
    let made = c.split-line-items.ensures in
    let turn = piece_turn 10 c.args.text.now _ _ _ _ c.lines.yielded c.lines.yielded_by c.into_iter-line-iterator.ensures.into_iter_gives made.rest made.done
    made.closure (λ x b q called. search (rules, tests, called)) c.in-Some.is c.next.ensures.steps in
    omega (arith, turn.0, length-slice_split (λ byte. byte == 10) c.args.text.now)

pub returns-in_default : goal.returns-in_default
returns-in_default c =
    let made = c.split-line-items.ensures in
    let turn = piece_turn 10 c.args.text.now _ _ _ _ c.lines.yielded c.lines.yielded_by c.into_iter-line-iterator.ensures.into_iter_gives made.rest made.done
    made.closure (λ x b q called. search (rules, tests, called)) c.in-Some.is c.next.ensures.steps in
    let next = read_from-more (c.lines.number + 1) c.lines.gathered (lines c.args.text.now) (length c.lines.yielded) c.in-Some.line.now turn.0 turn.1 in
    let none : item_of c.in-Some.line.now ≡ None = sym c.in_ok-item.ensures ∙ c.in_default.is in
    sym c.lines.invariant.read ∙ next ∙ rw none refl

pub returns-in_default-2 : goal.returns-in_default-2
returns-in_default-2 c =
    let made = c.split-line-items.ensures in
    let turn = piece_turn 10 c.args.text.now _ _ _ _ c.lines.yielded c.lines.yielded_by c.into_iter-line-iterator.ensures.into_iter_gives made.rest made.done
    made.closure (λ x b q called. search (rules, tests, called)) c.in-Some.is c.next.ensures.steps in
    let next = read_from-more (c.lines.number + 1) c.lines.gathered (lines c.args.text.now) (length c.lines.yielded) c.in-Some.line.now turn.0 turn.1 in
    let item : item_of c.in-Some.line.now ≡ Some c.in-Some-2.item = sym c.in_ok-item.ensures ∙ c.in-Some-2.is in
    let late : added c.lines.gathered c.in-Some-2.item ≡ None = sym c.in_ok-more.ensures ∙ c.in_default-2.is in
    sym c.lines.invariant.read ∙ rw (item, late) at next

pub lines-preserved : goal.lines-preserved
lines-preserved c =
    let made = c.split-line-items.ensures in
    let turn = piece_turn 10 c.args.text.now _ _ _ _ c.lines.yielded c.lines.yielded_by c.into_iter-line-iterator.ensures.into_iter_gives made.rest made.done
    made.closure (λ x b q called. search (rules, tests, called)) c.in-Some.is c.next.ensures.steps in
    let next = read_from-more (c.lines.number + 1) c.lines.gathered (lines c.args.text.now) (length c.lines.yielded) c.in-Some.line.now turn.0 turn.1 in
    let item : item_of c.in-Some.line.now ≡ Some c.in-Some-2.item = sym c.in_ok-item.ensures ∙ c.in-Some-2.is in
    let more : added c.lines.gathered c.in-Some-2.item ≡ Some c.in-Some-3.more = sym c.in_ok-more.ensures ∙ c.in-Some-3.is in
    let one_more : length (c.lines.yielded ++ c.in-Some.line ∷ []) ≡ length c.lines.yielded + 1 = length-append c.lines.yielded (c.in-Some.line ∷ []) in
    record {
      number = rw one_more (ap (λ n. n + 1) c.lines.invariant.number);
      read = rw one_more (sym (rw (item, more) at next) ∙ c.lines.invariant.read);
    }

pub returns : goal.returns
returns c =
    let made = c.split-line-items.ensures in
    let all = piece_end 10 c.args.text.now _ _ _ _ c.lines.yielded c.lines.yielded_by c.into_iter-line-iterator.ensures.into_iter_gives made.rest made.done
    made.closure (λ x b q called. search (rules, tests, called)) c.in-None.is c.next.ensures.steps in
    let left : drop (length c.lines.yielded) (lines c.args.text.now) ≡ [] = drop_all (length c.lines.yielded) (lines c.args.text.now) (omega arith) in
    sym (rw left at c.lines.invariant.read) ∙ ap Ok (sym c.into_script.ensures)
