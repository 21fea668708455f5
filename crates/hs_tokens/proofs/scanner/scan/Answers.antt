use Rattle.std.proofs.Common.{◌≡◌, ℕ, ◌-◌, ◌^◌, drop, sym, ap, ◌∙◌, inl, inr, rules, arith}
use Rattle.hs_tokens.specs.Forms.{form_len}
use Rattle.hs_tokens.specs.Scan.{scanned, scan_part}
use Rattle.hs_tokens.specs.Ahead.{ahead, placed_at, form}
use Rattle.hs_tokens.proofs.Parts.{to_come, joined, joined_start, part_next, token_next, token_full, refused_next, scan_done}
use Rattle.hs_tokens.proofs.Shared.{part_behind, part_at}
use Rattle.hs_tokens.proofs.scanner.scan.Goals.{in-Blank, in-LineEnd, in-Token+else-len-room+in_ok-text-in-Token+in_ok-push-in-Token}
use Rattle.hs_tokens.proofs.scanner.scan.Goals as goal

pub parts-init : goal.parts-init
parts-init c = record {
  same = rw c.new-tokens.ensures.items (joined_start c.args.file c.args.text.now (ahead c.start-rest.result) c.start-rest.ensures);
  count = omega (arith, c.new-tokens.ensures.len);
  place = search rules;
  short = search rules;
}

-- the token that finds no room
pub returns-then-len-room-clause-error : goal.returns-then-len-room-clause-error
returns-then-len-room-clause-error c =
    inr (token_full c.args.file c.args.text.now c.parts.tokens.items (placed_at c.in-Some.step) (ahead c.parts.rest) (ahead c.in-Some.step.after)
    c.parts.first c.parts.spaced c.parts.invariant.same c.in-Some.ensures.0
    c.args.room c.in-Token.kind c.in-Token.len c.passed.result c.in-Token.ensures (omega (arith, c.parts.tokens.ok.0))
    c.passed.ensures.kind c.passed.ensures.reached)

pub returns-in-Refused-clause-error : goal.returns-in-Refused-clause-error
returns-in-Refused-clause-error c =
    inr (refused_next c.args.file c.args.text.now c.parts.tokens.items (placed_at c.in-Some.step) (ahead c.parts.rest) (ahead c.in-Some.step.after)
    c.parts.first c.parts.spaced c.parts.invariant.same c.in-Some.ensures.0
    c.args.room c.in-Refused.error c.in-Refused.ensures (omega (arith, c.parts.tokens.ok.0)))

-- the part at the front leaves what the definition says of its form
pub parts-preserved : goal.parts-preserved
parts-preserved c =
    let after = ahead c.in-Some.step.after in
    let behind = ahead c.behind-rest.result in
    let part = c.part_ahead-part.result in
    let skip : part ≡ c.match-part.part → c.saturating_sub-others.result ≡ form_len (form part) - 1 =
    λ same. c.saturating_sub-others.ensures ∙ ap (λ (n : ℕ). n - 1) (c.part_len.ensures ∙ ap (λ p. form_len (form p)) (sym same)) in
    let next : part ≡ c.match-part.part
    → joined c.parts.tokens.items (scan_part c.parts.first c.parts.spaced (ahead c.parts.rest) (form part) (λ first spaced. to_come behind first spaced))
    ≡ scanned c.args.file c.args.text.now =
    λ same. part_next c.args.file c.args.text.now c.parts.tokens.items (placed_at c.in-Some.step) (ahead c.parts.rest) after
    c.parts.first c.parts.spaced c.parts.invariant.same c.in-Some.ensures.0 behind (form part) c.part_ahead-part.ensures
    (c.behind-rest.ensures.ahead ∙ ap (λ (n : ℕ). drop n after) (skip same)) in
    record {
      same = elim c.match-part.branch [
        | in-Blank w ↦ rw (w.tokens-is, w.first-is, w.spaced-is) (elim w.in-Blank.is [
          | inl is ↦ rw is at (next (sym w.part-is))
          | inr some ↦ rw some.1 at (next (sym w.part-is))
        ])
        | in-LineEnd w ↦ rw (w.tokens-is, w.first-is, w.spaced-is) (rw w.in-LineEnd.is at (next (sym w.part-is)))
        | in-Token+else-len-room+in_ok-text-in-Token+in_ok-push-in-Token w ↦
            let same : part ≡ c.match-part.part = w.in-Token.is ∙ sym w.part-is in
            let is_skip : c.saturating_sub-others.result ≡ w.in-Token.len - 1 = skip same ∙ ap (λ p. form_len (form p) - 1) w.in-Token.is in
            rw (w.tokens-is, w.first-is, w.spaced-is, w.in_ok-push-in-Token.ensures.items)
            (token_next c.args.file c.args.text.now c.parts.tokens.items (placed_at c.in-Some.step) (ahead c.parts.rest) after
            c.parts.first c.parts.spaced c.parts.invariant.same c.in-Some.ensures.0
            behind w.in-Token.kind w.in-Token.len w.in_ok-text-in-Token.text w.in-Token.ensures
            (c.behind-rest.ensures.ahead ∙ ap (λ (n : ℕ). drop n after) is_skip)
            (w.in_ok-text-in-Token.ensures ∙ part_at c.in_ok-bytes.bytes.value c.parts.start w.in-Token.len (ahead c.parts.rest) c.parts.invariant.place))
      ];
      count = elim c.match-part.branch [
        | in-Blank w ↦ rw w.tokens-is c.parts.invariant.count
        | in-LineEnd w ↦ rw w.tokens-is c.parts.invariant.count
        | in-Token+else-len-room+in_ok-text-in-Token+in_ok-push-in-Token w ↦ rw w.tokens-is (omega (arith, w.in_ok-push-in-Token.ensures.len))
      ];
      place = rw c.saturating_add-start.ensures
          (part_behind c.in_ok-bytes.bytes.value c.parts.start c.saturating_sub-others.result (2 ^ 64 - 1) (placed_at c.in-Some.step)
          (ahead c.parts.rest) after behind c.parts.invariant.place c.in-Some.ensures.0 c.behind-rest.ensures.ahead (omega (arith, c.parts.invariant.short)));
      short = c.parts.invariant.short;
    }

pub returns-clause-tokens : goal.returns-clause-tokens
returns-clause-tokens c =
    scan_done c.args.file c.args.room c.args.text.now c.parts.tokens.items (ahead c.parts.rest) c.parts.first c.parts.spaced
    c.parts.invariant.same c.in_default.ensures (omega (arith, c.parts.tokens.ok.0))
