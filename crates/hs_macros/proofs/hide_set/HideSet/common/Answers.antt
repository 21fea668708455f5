use Rattle.std.proofs.Common.{◌<◌, length, sym, ap, ◌∙◌, inl, inr, ◌⊎◌}
use Rattle.hs_macros.proofs.Rising.{set_of}
use Rattle.hs_macros.proofs.Rows.{IsRising-front}
use Rattle.hs_macros.proofs.Found.{FindsBoth-start, FindsBoth-Less, FindsBoth-Greater, FindsBoth-Equal, FindsBoth-end}
use Rattle.hs_macros.proofs.hide_set.HideSet.common.Goals as goal
use Rattle.hs_macros.proofs.hide_set.HideSet.common.Goals.{in_default, in-len1-up+in_default-others}

-- both rows are whole
pub rows-init : goal.rows-init
rows-init c =
    FindsBoth-start c.new-numbers.result.items c.as_slice-own.result.now c.as_slice-others.result.now c.args.self.now c.args.other.now
    c.new-numbers.ensures.items
    (ap set_of c.as_slice-own.ensures ∙ c.self.view_is) (ap set_of c.as_slice-others.ensures ∙ c.other.view_is)
    (rw c.as_slice-own.ensures c.self.invariant) (rw c.as_slice-others.ensures c.other.invariant)

-- only this one has the number
pub rows-preserved-in-Less : goal.rows-preserved-in-Less
rows-preserved-in-Less c =
    FindsBoth-Less c.rows.numbers.items c.rows.own.now c.rows.others.now c.args.self.now c.args.other.now
    (c.in-len1-up.len_at_least, c.in-len1-up-others.len_at_least, sym c.cmp.ensures ∙ c.in-Less.is) c.rows.invariant

-- only the other has the number
pub rows-preserved-in-Greater : goal.rows-preserved-in-Greater
rows-preserved-in-Greater c =
    FindsBoth-Greater c.rows.numbers.items c.rows.own.now c.rows.others.now c.args.self.now c.args.other.now
    (c.in-len1-up.len_at_least, c.in-len1-up-others.len_at_least, sym c.cmp.ensures ∙ c.in-Greater.is) c.rows.invariant

-- both have the number
pub rows-preserved : goal.rows-preserved
rows-preserved c =
    FindsBoth-Equal c.rows.numbers.items c.push.new.self.items c.rows.own.now c.rows.others.now c.args.self.now c.args.other.now
    (c.in-len1-up.len_at_least, c.in-len1-up-others.len_at_least, sym c.cmp.ensures ∙ c.in-Equal.is) c.in_ok-push-in-Equal.ensures.ok c.rows.invariant

-- the numbers that were found rise
pub invariant_of-result : goal.invariant_of-result
invariant_of-result c = IsRising-front (c.rows.numbers.items) (c.rows.own.now) c.rows.invariant.own_rises

-- one of the rows has no more numbers
pub returns : goal.returns
returns c =
    let ended : (length c.rows.own.now < 1) ⊎ (length c.rows.others.now < 1) = elim c.if-own-lt1.branch [
      | in_default w ↦ inl w.in_default.len_below
      | in-len1-up+in_default-others w ↦ inr w.in_default-others.len_below
    ] in
    FindsBoth-end c.rows.numbers.items c.rows.own.now c.rows.others.now c.args.self.now c.args.other.now ended c.rows.invariant
