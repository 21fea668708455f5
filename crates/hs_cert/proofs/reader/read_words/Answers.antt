-- One number more; at the end none is left.
use Rattle.std.proofs.Common.{◌≡◌, [], ◌∷◌, List, ℕ, Some, length, ap, arith}
use Rattle.hs_cert.specs.Reading.{after, number_at}
use Rattle.hs_cert.proofs.Numerals.{after_shorter, number_shorter}
use Rattle.hs_cert.proofs.Spelled.{words_step, words_end}
use Rattle.hs_cert.proofs.reader.read_words.Goals as goal

pub words-smaller : goal.words-smaller
words-smaller c =
    let begins : after (32 ∷ []) c.words.rest.now ≡ Some c.in-Some.digits.now = c.in-Some.ensures in
    let number : (c.number-vertex.result.0, c.number-vertex.result.1.now) ≡ number_at c.args.limit 0 c.in-Some.digits.now =
    rw c.from.ensures at c.number-vertex.ensures.value in
    let behind = ap (λ (x : ℕ × List ℕ). length x.1) number in
    omega (arith, after_shorter (32 ∷ []) c.words.rest.now c.in-Some.digits.now begins, number_shorter c.args.limit 0 c.in-Some.digits.now)

pub words-preserved : goal.words-preserved
words-preserved c = λ inside rest small is.
    let begins : after (32 ∷ []) c.words.rest.now ≡ Some c.in-Some.digits.now = c.in-Some.ensures in
    let number : (c.number-vertex.result.0, c.number-vertex.result.1.now) ≡ number_at c.args.limit 0 c.in-Some.digits.now =
    rw c.from.ensures at c.number-vertex.ensures.value in
    let next =
    words_step c.args.limit (let fits = c.ranges.limit in omega arith) inside rest c.words.vertices.items c.words.rest.now
    c.in-Some.digits.now (c.words.invariant inside rest small is) begins in
    let items = c.in_ok-push.ensures.items in
    rw items (rw (← number) at next)

pub returns : goal.returns
returns c = λ inside rest small is.
    words_end c.args.limit inside rest c.words.vertices.items c.words.rest.now (c.words.invariant inside rest small is) c.in_default.ensures
