-- What is written after a list of tokens.
use Rattle.std.specs.Prelude.{◌≡◌, List, ◌++◌, map, Result, OnOk}
use Rattle.hs_base.specs.declared.errors.NoMemory.{NoMemory}
use Rattle.hs_tokens.specs.declared.token.Token.{Token}
use Rattle.hs_syntax.specs.Forms.{Form}
use Rattle.hs_spell.specs.Spelling.{token_of}

-- if there was memory, the tokens of the phrase follow the old ones
abbrev pub Appends : Result (Unit {0}) NoMemory → List Token → List Token → Form → Type 0
Appends result old new form = OnOk result (new ≡ old ++ map token_of form.pieces)
