-- The reading and the grammar agree: what is read has the value that it means, and that alone.
--     found_of, only_of, none_of     what a value that was read says of the grammar
--     wrong_token                    a token that is wrong leaves no value
use Rattle.std.proofs.Common.{◌≡◌, ℕ, suc, ◌<◌, ◌≤◌, List, [], ◌∷◌, length, drop, drop-cons, get_or, Option, Some, None, sym, ap, ◌∙◌}
use Rattle.std.specs.Prelude.{IfSome, IfNone}
use Rattle.std.proofs.lemmas.List.{drop_all}
use Rattle.hs_tokens.specs.declared.token.Token.{Token}
use Rattle.hs_tokens.specs.declared.token.SourceToken.{SourceToken}
use Rattle.hs_constants.specs.Conditions.{Means}
use Rattle.hs_constants.specs.Reading.{Reading, before, step, steps, ended_at, ended, tokens_of, condition_value}
use Rattle.hs_constants.specs.declared.value.Value.{Value}
use Rattle.hs_constants.specs.declared.condition.Stage.{Stage}
use Rattle.hs_constants.specs.declared.waiting.Waiting.{Waiting}
use Rattle.hs_constants.proofs.Complete.{value_is, steps-None}
use Rattle.hs_constants.proofs.Sound.{means_of}

-- a value that was read is one that the tokens mean
pub found_of : (tokens : List Token) (value : Option Value) → value ≡ condition_value tokens → IfSome value (Means 0 tokens)
found_of tokens None is = tt
found_of tokens (Some value) is = means_of tokens value (sym is)

-- and no other
pub only_of : (tokens : List Token) (value : Option Value) → value ≡ condition_value tokens
    → IfSome value (λ value. (other : Value) → Means 0 tokens other → other ≡ value)
only_of tokens None is = tt
only_of tokens (Some value) is = λ other means. let same : Some value ≡ Some other = is ∙ value_is tokens other means in cc

-- if none was read, they mean none
pub none_of : (tokens : List Token) (value : Option Value) → value ≡ condition_value tokens → IfNone value ((other : Value) → Means 0 tokens other → ⊥)
none_of tokens None is = λ other means. let same : None ≡ Some other = is ∙ value_is tokens other means in cc
none_of tokens (Some value) is = tt

-- the reading has come to a place, with so many tokens after it
module _ (tokens : List SourceToken) (index : ℕ) (place : Stage) (waiting : List Waiting)
    (so_far : steps (Some (record { waiting = waiting; place = place })) (tokens_of (drop index tokens)) ≡ steps (Some (before [])) (tokens_of tokens)) where
  -- the next token is wrong: there is no value
  pub wrong_token : (source : SourceToken) → index < length tokens → source ≡ get_or tokens index source → step place waiting source.token ≡ None
      → None ≡ condition_value (tokens_of tokens)
  wrong_token source within is wrong =
      let ahead : drop index tokens ≡ source ∷ drop (suc index) tokens =
      drop-cons tokens index source within ∙ ap (λ (next : SourceToken). next ∷ drop (suc index) tokens) (sym is) in
      ap ended (
      sym (steps-None (tokens_of (drop (suc index) tokens)))
      ∙ ap (λ (next : Option Reading). steps next (tokens_of (drop (suc index) tokens))) (sym wrong)
      ∙ ap (λ (left : List SourceToken). steps (Some (record { waiting = waiting; place = place })) (tokens_of left)) (sym ahead)
      ∙ so_far)

  -- no token is left: what waits decides
  pub at_end : length tokens ≤ index → ended_at place waiting ≡ condition_value (tokens_of tokens)
  at_end past =
      ap ended (
      ap (λ (left : List SourceToken). steps (Some (record { waiting = waiting; place = place })) (tokens_of left)) (sym (drop_all index tokens past))
      ∙ so_far)
