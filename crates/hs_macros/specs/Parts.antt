-- What is said of the parts that a definition lends.
--     IsParts definition parts     they are the definition's, and fit each other
use Rattle.std.specs.Prelude.{◌≡◌, List, [], Option, Some, None}
use Rattle.std.specs.Borrow.{Bor}
use Rattle.std.specs.Option.{option_map}
use Rattle.hs_macros.specs.Slots.{names_of, tokens_of, Fits}
use Rattle.hs_macros.specs.declared.definition.Definition.{Definition}
use Rattle.hs_macros.specs.declared.definition.Parts.{Parts}
use Rattle.hs_macros.specs.declared.slot.Parameter.{Parameter}

-- the parameters that are lent, none of an object-like macro
abbrev pub lent : Option (Bor (List Parameter)) → List Parameter
lent None = []
lent (Some parameters) = parameters.now

-- the parts are those of the definition, and fit each other
pub record IsParts (definition : Definition) (parts : Parts) : Type 0 where
  pub parameters : definition.parameters ≡ option_map (λ all. names_of all.now) parts.parameters
  pub body : definition.body ≡ tokens_of parts.body.now
  pub fits : Fits (lent parts.parameters) parts.body.now
