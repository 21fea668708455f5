use Rattle.std.proofs.Common.{ℕ, List, ◌++◌, ◌<◌, length, sym, ap, ◌∙◌, inl, inr, ◌⊎◌}
use Rattle.hs_macros.proofs.Rising.{set_of}
use Rattle.hs_macros.proofs.Found.{FindsEither-start, FindsEither-Less, FindsEither-Greater, FindsEither-Equal, FindsEither-rises, FindsEither-end}
use Rattle.hs_macros.proofs.hide_set.HideSet.merged.Goals as goal
use Rattle.hs_macros.proofs.hide_set.HideSet.merged.Goals.{in_default, in-len1-up+in_default-others}

-- both rows are whole
pub rows-init : goal.rows-init
rows-init c =
    FindsEither-start c.new-numbers.result.items c.as_slice-own.result.now c.as_slice-others.result.now c.args.self.now c.args.other.now
    c.new-numbers.ensures.items
    (ap set_of c.as_slice-own.ensures ∙ c.self.view_is) (ap set_of c.as_slice-others.ensures ∙ c.other.view_is)
    (rw c.as_slice-own.ensures c.self.invariant) (rw c.as_slice-others.ensures c.other.invariant)

-- only this one has the number
pub rows-preserved-in-Less : goal.rows-preserved-in-Less
rows-preserved-in-Less c =
    FindsEither-Less c.rows.numbers.items c.push.new.self.items c.rows.own.now c.rows.others.now c.args.self.now c.args.other.now
    (c.in-len1-up.len_at_least, c.in-len1-up-others.len_at_least, sym c.cmp.ensures ∙ c.in-Less.is) c.in_ok-push-in-Less.ensures.ok c.rows.invariant

-- only the other has the number
pub rows-preserved-in-Greater : goal.rows-preserved-in-Greater
rows-preserved-in-Greater c =
    FindsEither-Greater c.rows.numbers.items c.push-in-Greater.new.self.items c.rows.own.now c.rows.others.now c.args.self.now c.args.other.now
    (c.in-len1-up.len_at_least, c.in-len1-up-others.len_at_least, sym c.cmp.ensures ∙ c.in-Greater.is) c.in_ok-push-in-Greater.ensures.ok c.rows.invariant

-- both have the number
pub rows-preserved : goal.rows-preserved
rows-preserved c =
    FindsEither-Equal c.rows.numbers.items c.push-in-Equal.new.self.items c.rows.own.now c.rows.others.now c.args.self.now c.args.other.now
    (c.in-len1-up.len_at_least, c.in-len1-up-others.len_at_least, sym c.cmp.ensures ∙ c.in-Equal.is) c.in_ok-push-in-Equal.ensures.ok c.rows.invariant

-- the numbers that were found rise, with what is left of one row
pub invariant_of-result : goal.invariant_of-result
invariant_of-result c =
    let ended : (length c.rows.own.now < 1) ⊎ (length c.rows.others.now < 1) = elim c.if-own-lt1.branch [
      | in_default w ↦ inl w.in_default.len_below
      | in-len1-up+in_default-others w ↦ inr w.in_default-others.len_below
    ] in
    rw (c.in_ok-extend_from_slice-2.ensures.ok, c.in_ok-extend_from_slice.ensures.ok)
    (FindsEither-rises c.rows.numbers.items c.rows.own.now c.rows.others.now c.args.self.now c.args.other.now ended c.rows.invariant)

-- and they are all
pub returns : goal.returns
returns c =
    ap set_of (c.in_ok-extend_from_slice-2.ensures.ok ∙ ap (λ (numbers : List ℕ). numbers ++ c.rows.others.now) c.in_ok-extend_from_slice.ensures.ok)
    ∙ FindsEither-end c.rows.numbers.items c.rows.own.now c.rows.others.now c.args.self.now c.args.other.now c.rows.invariant
