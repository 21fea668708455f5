-- The definition on texts of the standard and of this project: each line computes.
use Rattle.std.proofs.Common.{◌≡◌, ℕ, List, [], ◌∷◌, map, refl, Some, Option}
use Rattle.std.specs.Prelude.{codes}
use Rattle.hs_base.specs.declared.pos.Pos.{Pos}
use Rattle.hs_tokens.specs.Forms.{punctuators}
use Rattle.hs_tokens.specs.Scan.{scanned}
use Rattle.hs_tokens.specs.declared.scan_error.ScanError.{ScanError}
use Rattle.hs_tokens.specs.declared.scan_error.ScanError.TheVariants.{BadByte, OpenComment, OpenString}

abbrev texts : List ℕ → List (List ℕ)
texts text = map (λ token. token.text) (scanned 0 text).tokens

abbrev refusal : List ℕ → Option ScanError
refusal text = (scanned 0 text).refusal

abbrev place : ℕ → ℕ → Pos
place line col = record { file = 0; line = line; col = col }

-- X3.159-1989 3.1, the example
munch : texts (codes "x+++++y") ≡ codes "x" ∷ codes "++" ∷ codes "++" ∷ codes "+" ∷ codes "y" ∷ []
unfolding punctuators
munch = refl

number : texts (codes "0x1e+1 .5.e-2x 1 .") ≡ codes "0x1e+1" ∷ codes ".5.e-2x" ∷ codes "1" ∷ codes "." ∷ []
unfolding punctuators
number = refl

comments : texts (codes "a/*b*/c/**/d /*/*/ \"/*\" '\"'") ≡ codes "a" ∷ codes "c" ∷ codes "d" ∷ codes "\"/*\"" ∷ codes "'\"'" ∷ []
unfolding punctuators
comments = refl

splices : texts (codes "ab\\\ncd \"x\\\ny\"") ≡ codes "abcd" ∷ codes "\"xy\"" ∷ []
unfolding punctuators
splices = refl

open_comment : refusal (codes "a\n /* x") ≡ Some (OpenComment (place 2 2))
unfolding punctuators
open_comment = refl

open_string : refusal (codes "a \"x\n\"") ≡ Some (OpenString (place 1 3))
unfolding punctuators
open_string = refl

bad_escape : refusal (codes "\"a\\q\"") ≡ Some (BadByte (place 1 3))
unfolding punctuators
bad_escape = refl

five_bytes : refusal (codes "'abcde'") ≡ Some (BadByte (place 1 1))
unfolding punctuators
five_bytes = refl

four_bytes : texts (codes "'\\377\\x41yz' '\\''") ≡ codes "'\\377\\x41yz'" ∷ codes "'\\''" ∷ []
unfolding punctuators
four_bytes = refl

no_bytes : refusal (codes "x ''") ≡ Some (OpenString (place 1 3))
unfolding punctuators
no_bytes = refl

last_backslash : refusal (codes "a\\") ≡ Some (BadByte (place 1 2))
unfolding punctuators
last_backslash = refl

above_a_byte : refusal (codes "'\\400'") ≡ Some (BadByte (place 1 2))
unfolding punctuators
above_a_byte = refl
