-- What contracts see of a definition.
--     Form     its parameters, if it is function-like, and its tokens
use Rattle.std.specs.Prelude.{ℕ, List, Option}
use Rattle.hs_tokens.specs.declared.token.Token.{Token}

-- the parameters of a function-like macro, in order, or nothing for an object-like one; and the tokens that replace the name
pub record Form : Type 0 where
  pub parameters : Option (List (List ℕ))
  pub body : List Token
