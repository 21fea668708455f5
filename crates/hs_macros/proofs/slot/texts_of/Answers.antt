use Rattle.std.proofs.Common.{ℕ, true, false, cond, List, Bor, sym, ap, ◌∙◌}
use Rattle.std.specs.HashSet.{contains_by}
use Rattle.std.specs.Str.{bytes_eq}
use Rattle.hs_macros.proofs.Slotted.{is_in-step}
use Rattle.hs_macros.proofs.slot.texts_of.Goals as goal
use Rattle.hs_macros.proofs.slot.texts_of.Goals.{then-is_identifier+in_ok-insert, else-is_identifier}

-- the text of an identifier is put
pub tokens-preserved : goal.tokens-preserved
tokens-preserved c name = elim c.if-is_identifier.branch [
  | then-is_identifier+in_ok-insert w ↦ is_in-step name c.args.tokens.now c.tokens.token-index c.token-item.result true
      (contains_by (λ (other : Bor (List ℕ)). bytes_eq name other.now) c.tokens.texts) _ c.tokens-test.true c.token-item.is
      (sym c.is_identifier.ensures ∙ w.if-is_identifier.true)
      (ap (contains_by (λ (other : Bor (List ℕ)). bytes_eq name other.now)) w.texts-is
      ∙ w.in_ok-insert.ensures.updates.0 (record { ref_ptr = (0, 0); now = name })
      ∙ ap (λ (text : List ℕ). cond (bytes_eq text name) true (contains_by (λ (other : Bor (List ℕ)). bytes_eq name other.now) c.tokens.texts)) w.items.ensures)
      (c.tokens.invariant name)
  | else-is_identifier w ↦ is_in-step name c.args.tokens.now c.tokens.token-index c.token-item.result false
      (contains_by (λ (other : Bor (List ℕ)). bytes_eq name other.now) c.tokens.texts) _ c.tokens-test.true c.token-item.is
      (sym c.is_identifier.ensures ∙ w.if-is_identifier.false)
      (ap (contains_by (λ (other : Bor (List ℕ)). bytes_eq name other.now)) w.texts-is) (c.tokens.invariant name)
]
