-- The tokens of a text, or the first place at which it is refused (X3.159-1989 2.1.1.2 phase 3).
--     parts_of bytes             the parts of a text: white space, comments and tokens
--     scan_parts parts           their tokens up to the first refusal, and that refusal
--     scanned file text          the same of a text
--     scan_of file room text     the tokens, or the first error, if there is room for so many tokens
use Rattle.std.specs.Prelude.{ℕ, nat_lt, Bool, true, false, List, [], ◌∷◌, length, take, Option, Some, None, Result, Ok, Err, if◌then◌else◌}
use Rattle.hs_base.specs.declared.limit.LimitKind.TheVariants.{Scanned}
use Rattle.hs_base.specs.Limit.{number_of}
use Rattle.hs_tokens.specs.Lines.{Placed, logical}
use Rattle.hs_tokens.specs.Forms.{bytes_of, cuts, Form, blank, line_end, comment, token, refused, form_of, form_len, place_of}
use Rattle.hs_tokens.specs.declared.token.Token.{Token}
use Rattle.hs_tokens.specs.declared.token.TokenKind.{TokenKind}
use Rattle.hs_tokens.specs.declared.scan_error.ScanError.{ScanError}
use Rattle.hs_tokens.specs.declared.scan_error.ScanError.TheVariants as error

-- the tokens before the first refusal, and the refusal
pub record Scan : Type 0 where
  pub tokens : List Token
  pub refusal : Option ScanError

-- the token comes first
abbrev pub with_token : Token → Scan → Scan
with_token first scan = record { tokens = first ∷ scan.tokens; refusal = scan.refusal }

-- the token of so many bytes at the front
abbrev pub token_at : TokenKind → ℕ → List Placed → Bool → Bool → Token
token_at kind len bytes first spaced = record {
  kind = kind;
  text = bytes_of (take len bytes);
  pos = place_of (record { file = 0; line = 0; col = 0 }) bytes;
  first = first;
  spaced = spaced;
}

-- `first`: no token stands before on the line. `spaced`: white space stands directly before.
abbrev pub scan_part : Bool → Bool → List Placed → Form → (Bool → Bool → Scan) → Scan
scan_part first spaced part blank later = later first true
scan_part first spaced part (comment len) later = later first true
scan_part first spaced part line_end later = later true true
scan_part first spaced part (token kind len) later = with_token (token_at kind len part first spaced) (later false false)
scan_part first spaced part (refused error) later = record { tokens = []; refusal = Some error }

-- part by part, up to the first refusal
abbrev pub scan_parts : List (List Placed) → Bool → Bool → Scan
scan_parts [] first spaced = record { tokens = []; refusal = None }
scan_parts (part ∷ parts) first spaced = scan_part first spaced part (form_of part) (λ first' spaced'. scan_parts parts first' spaced')

-- the parts of a text: white space, comments and tokens, one after another
abbrev pub parts_of : List Placed → List (List Placed)
parts_of bytes = cuts (λ rest. form_len (form_of rest)) 0 bytes

-- the tokens of a text and its first refusal
abbrev pub scanned : ℕ → List ℕ → Scan
scanned file text = scan_parts (parts_of (logical file text)) true false

-- the tokens, if nothing is refused
abbrev pub result_of : List Token → Option ScanError → Result (List Token) ScanError
result_of tokens None = Ok tokens
result_of tokens (Some error) = Err error

-- a token that finds no room comes before whatever is refused after it
abbrev pub scan_of : ℕ → ℕ → List ℕ → Result (List Token) ScanError
scan_of file room text =
    if nat_lt room (length (scanned file text).tokens) then Err (error.Limit (record { kind = Scanned; reached = number_of Scanned }))
    else result_of (scanned file text).tokens (scanned file text).refusal
