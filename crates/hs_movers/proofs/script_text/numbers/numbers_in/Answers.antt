-- Each piece is a number, and the last number ends the list.
use Rattle.std.proofs.Common.{◌≡◌, ◌+◌, ◌++◌, ◌∷◌, [], None, Some, drop, length, length-append, append-nil, ap, sym, ◌∙◌, arith, rules, tests}
use Rattle.std.specs.Prelude.{◌==◌}
use Rattle.std.specs.List.{slice_split}
use Rattle.std.proofs.lemmas.List.{drop_all}
use Rattle.hs_meaning.specs.InputTexts.{number_in}
use Rattle.hs_movers.proofs.ScriptTextLaws.{numbers_in-more, numbers_in-none, piece_turn, piece_end}
use Rattle.hs_movers.proofs.script_text.numbers.numbers_in.Goals as goal

pub returns-in_default : goal.returns-in_default
returns-in_default c =
    let made = c.split-piece-items.ensures in
    let turn = piece_turn 44 c.args.text.now _ _ _ _ c.pieces.yielded c.pieces.yielded_by c.into_iter-piece-iterator.ensures.into_iter_gives made.rest made.done
    made.closure (λ x b q called. search (rules, tests, called)) c.in-Some.is c.next.ensures.steps in
    let none : number_in 1 4294967295 c.in-Some.piece.now ≡ None = sym c.count_in.ensures ∙ c.in_default.is in
    let refused = numbers_in-none (slice_split (λ byte. byte == 44) c.args.text.now) (length c.pieces.yielded) c.in-Some.piece.now turn.0 turn.1 none in
    rw refused at c.pieces.invariant

pub pieces-preserved : goal.pieces-preserved
pieces-preserved c =
    let made = c.split-piece-items.ensures in
    let turn = piece_turn 44 c.args.text.now _ _ _ _ c.pieces.yielded c.pieces.yielded_by c.into_iter-piece-iterator.ensures.into_iter_gives made.rest made.done
    made.closure (λ x b q called. search (rules, tests, called)) c.in-Some.is c.next.ensures.steps in
    let number : number_in 1 4294967295 c.in-Some.piece.now ≡ Some c.in-Some-count_in.number = sym c.count_in.ensures ∙ c.in-Some-count_in.is in
    let next =
    numbers_in-more c.pieces.numbers.items (slice_split (λ byte. byte == 44) c.args.text.now) (length c.pieces.yielded) c.in-Some.piece.now
    c.in-Some-count_in.number turn.0 turn.1 number in
    let one_more : length (c.pieces.yielded ++ c.in-Some.piece ∷ []) ≡ length c.pieces.yielded + 1 = length-append c.pieces.yielded (c.in-Some.piece ∷ []) in
    rw (one_more, c.in_ok-push.ensures.items) (sym next ∙ c.pieces.invariant)

pub returns : goal.returns
returns c =
    let made = c.split-piece-items.ensures in
    let all = piece_end 44 c.args.text.now _ _ _ _ c.pieces.yielded c.pieces.yielded_by c.into_iter-piece-iterator.ensures.into_iter_gives made.rest made.done
    made.closure (λ x b q called. search (rules, tests, called)) c.in-None.is c.next.ensures.steps in
    let pieces = slice_split (λ byte. byte == 44) c.args.text.now in
    let left : drop (length c.pieces.yielded) pieces ≡ [] = drop_all (length c.pieces.yielded) pieces (omega arith) in
    ap Some (c.from_vec.ensures ∙ sym (append-nil c.pieces.numbers.items)) ∙ rw left at c.pieces.invariant
