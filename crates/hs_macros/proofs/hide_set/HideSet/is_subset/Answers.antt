use Rattle.std.proofs.Common.{◌≡◌, sym, ap, ◌∙◌}
use Rattle.std.specs.FinSet as set
use Rattle.hs_macros.proofs.Rising.{set_of}
use Rattle.hs_macros.proofs.Subsets.{Decides-Equal, Decides-Greater, Decides-Less, Decides-no_own, Decides-no_others}
use Rattle.hs_macros.proofs.hide_set.HideSet.is_subset.Goals as goal

-- both rows are whole
pub rows-init : goal.rows-init
rows-init c =
    let own : set_of c.as_slice-own.result.now ≡ c.args.self.now = ap set_of c.as_slice-own.ensures ∙ c.self.view_is in
    let others : set_of c.as_slice-others.result.now ≡ c.args.other.now = ap set_of c.as_slice-others.ensures ∙ c.other.view_is in
    record {
      own_rises = rw c.as_slice-own.ensures c.self.invariant;
      others_rise = rw c.as_slice-others.ensures c.other.invariant;
      same = λ i. set.is_subset (own i) (others i);
    }

-- both have the number
pub rows-preserved-in-Equal : goal.rows-preserved-in-Equal
rows-preserved-in-Equal c =
    Decides-Equal c.rows.own.now c.rows.others.now c.args.self.now c.args.other.now
    (c.in-len1-up.len_at_least, c.in-len1-up-others.len_at_least, sym c.cmp.ensures ∙ c.in-Equal.is) c.rows.invariant

-- only the other has the number
pub rows-preserved : goal.rows-preserved
rows-preserved c =
    Decides-Greater c.rows.own.now c.rows.others.now c.args.self.now c.args.other.now
    (c.in-len1-up.len_at_least, c.in-len1-up-others.len_at_least, sym c.cmp.ensures ∙ c.in-Greater.is) c.rows.invariant

-- the other lacks the number
pub returns-in-Less : goal.returns-in-Less
returns-in-Less c =
    Decides-Less c.rows.own.now c.rows.others.now c.args.self.now c.args.other.now
    (c.in-len1-up.len_at_least, c.in-len1-up-others.len_at_least, sym c.cmp.ensures ∙ c.in-Less.is) c.rows.invariant

-- it has no more numbers
pub returns-in_default-others : goal.returns-in_default-others
returns-in_default-others c =
    Decides-no_others c.rows.own.now c.rows.others.now c.args.self.now c.args.other.now c.in-len1-up.len_at_least c.in_default-others.len_below c.rows.invariant

-- each number was found
pub returns : goal.returns
returns c = Decides-no_own c.rows.own.now c.rows.others.now c.args.self.now c.args.other.now c.in_default.len_below c.rows.invariant
