use Rattle.std.proofs.Common.{rules, ◌≡◌, ◌/◌, ◌+◌, subst, sym, replicate, List, ℕ, false}
use Rattle.hs_rows.proofs.Changes.{none_there}
use Rattle.hs_rows.specs.Sets.{has}
use Rattle.hs_rows.proofs.rows.Rows.new.Goals as goal

-- each word is 0
pub returns-clause-empty : goal.returns-clause-empty
returns-clause-empty c row bit =
    let zeros : c.in_ok-words.words.items ≡ replicate c.in-Some.count 0 = c.in_ok-words.ensures.items_if_clones_equal (λ y h. search rules) in
    subst (λ (words : List ℕ). has (record { count = c.args.rows; per = c.args.numbers / 64 + 1; words = words }) row bit ≡ false) (sym zeros)
    (none_there c.args.rows (c.args.numbers / 64 + 1) c.in-Some.count row bit)
