-- The test of kinds is their equality: for the crates above, whose proofs take tokens apart.
use Rattle.std.proofs.Common.{◌≡◌, true, refl}
use Rattle.hs_tokens.specs.declared.token.TokenKind.{TokenKind}
use Rattle.hs_tokens.specs.declared.token.TokenKind.TheVariants.{Identifier, Number, Character, Literal, Punctuator}
use Rattle.hs_tokens.specs.Marks.{is_same_kind}

-- kinds that pass the test are one
pub kind_is : (kind other : TokenKind) → is_same_kind kind other ≡ true → kind ≡ other
kind_is Identifier Identifier same = refl
kind_is Number Number same = refl
kind_is Character Character same = refl
kind_is Literal Literal same = refl
kind_is Punctuator Punctuator same = refl
kind_is _ _ same = absurd cc
