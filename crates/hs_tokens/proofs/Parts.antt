-- The scan, part by part: what is left decides the same as the whole text, with the tokens so far in front.
use Rattle.std.proofs.Common.{◌≡◌, ℕ, suc, ◌+◌, ◌-◌, ◌≤◌, Bool, true, false, List, [], ◌∷◌, ◌++◌, length, take, drop, Option, Some, None, Ok, Err, refl, sym, ap, ◌∙◌, append_assoc, length-append, arith}
use Rattle.std.specs.Prelude.{nat_lt}
use Rattle.std.proofs.lemmas.Bool.Decides.{nat_tests}
use Rattle.std.proofs.lemmas.List.{append-nil}
use Rattle.hs_base.specs.declared.limit.LimitKind.TheVariants.{Scanned}
use Rattle.hs_base.specs.declared.limit.Limit.{Limit}
use Rattle.hs_base.specs.declared.limit.LimitKind.{LimitKind}
use Rattle.hs_base.specs.Limit.{number_of}
use Rattle.hs_base.specs.declared.pos.Pos.{Pos}
use Rattle.hs_tokens.specs.Lines.{Placed, logical}
use Rattle.hs_tokens.specs.Forms.{Form, bytes_of, place_of, form_of, form_len, token, refused}
use Rattle.hs_tokens.specs.Scan.{Scan, with_token, scan_part, scan_parts, parts_of, scanned, scan_of, result_of, token_at}
use Rattle.hs_tokens.specs.declared.token.Token.{Token}
use Rattle.hs_tokens.specs.declared.token.TokenKind.{TokenKind}
use Rattle.hs_tokens.specs.declared.scan_error.ScanError.{ScanError}
use Rattle.hs_tokens.specs.declared.scan_error.ScanError.TheVariants as error
use Rattle.hs_tokens.proofs.Escapes.{cuts-skip}

-- the scan of what is ahead
unfoldable pub to_come : List Placed → Bool → Bool → Scan
to_come bytes first spaced = scan_parts (parts_of bytes) first spaced

-- the tokens so far in front
abbrev pub joined : List Token → Scan → Scan
joined done scan = record { tokens = done ++ scan.tokens; refusal = scan.refusal }

-- the part at the front
parts_next : (placed : Placed) (bytes after behind : List Placed) → bytes ≡ placed ∷ after
    → behind ≡ drop (form_len (form_of bytes) - 1) after → parts_of bytes ≡ bytes ∷ parts_of behind
parts_next placed bytes after behind ahead is_behind =
    let len : List Placed → ℕ = λ rest. form_len (form_of rest) in
    rw is_behind (rw ahead (ap (λ parts. (placed ∷ after) ∷ parts) (cuts-skip len (len (placed ∷ after) - 1) after)))

to_come_next : (placed : Placed) (bytes after behind : List Placed) (form : Form) (first spaced : Bool) → bytes ≡ placed ∷ after
    → form ≡ form_of bytes → behind ≡ drop (form_len form - 1) after
    → to_come bytes first spaced ≡ scan_part first spaced bytes form (λ first' spaced'. to_come behind first' spaced')
unfolding to_come
to_come_next placed bytes after behind form first spaced ahead is_form is_behind =
    let parts : parts_of bytes ≡ bytes ∷ parts_of behind = parts_next placed bytes after behind ahead (rw is_form at is_behind) in
    let later : Bool → Bool → Scan = λ first' spaced'. scan_parts (parts_of behind) first' spaced' in
    ap (λ (ps : List (List Placed)). scan_parts ps first spaced) parts ∙ ap (λ (f : Form). scan_part first spaced bytes f later) (sym is_form)

-- nothing is ahead
to_come_none : (bytes : List Placed) (first spaced : Bool) → bytes ≡ [] → to_come bytes first spaced ≡ record { tokens = []; refusal = None }
unfolding to_come
to_come_none bytes first spaced ahead = rw ahead refl

-- the whole text is ahead
pub joined_start : (file : ℕ) (text : List ℕ) (bytes : List Placed) → bytes ≡ logical file text → joined [] (to_come bytes true false) ≡ scanned file text
unfolding to_come
joined_start file text bytes ahead = rw ahead refl

-- the first token to come is the last so far
joined_token : (done : List Token) (last : Token) (later : Scan) → joined done (with_token last later) ≡ joined (done ++ last ∷ []) later
joined_token done last later =
    ap (λ (tokens : List Token). record { tokens = tokens; refusal = later.refusal }) (sym (append_assoc done (last ∷ []) later.tokens))

-- a token of these parts
abbrev pub placed_token : TokenKind → List ℕ → Pos → Bool → Bool → Token
placed_token kind text pos first spaced = record { kind = kind; text = text; pos = pos; first = first; spaced = spaced }

-- the token at the front
token_is : (placed : Placed) (bytes after : List Placed) (kind : TokenKind) (len : ℕ) (first spaced : Bool) (text : List ℕ) → bytes ≡ placed ∷ after
    → text ≡ bytes_of (take len bytes) → placed_token kind text placed.pos first spaced ≡ token_at kind len bytes first spaced
token_is placed bytes after kind len first spaced text ahead is_text =
    let place : placed.pos ≡ place_of (record { file = 0; line = 0; col = 0 }) bytes = sym (ap (place_of (record { file = 0; line = 0; col = 0 })) ahead) in
    ap (λ (t : List ℕ). placed_token kind t placed.pos first spaced) is_text
    ∙ ap (λ (pos : Pos). placed_token kind (bytes_of (take len bytes)) pos first spaced) place

limit_of : (limit : Limit) → limit.kind ≡ Scanned → limit.reached ≡ number_of Scanned → record { kind = Scanned; reached = number_of Scanned } ≡ limit
limit_of limit is_kind is_reached =
    let of_kind : LimitKind → Limit = λ kind. record { kind = kind; reached = number_of Scanned } in
    let of_reached : ℕ → Limit = λ reached. record { kind = limit.kind; reached = reached } in
    ap of_kind (sym is_kind) ∙ ap of_reached (sym is_reached)

-- the answer if one more token comes than there is room for, and if what comes has room
module _ (file room : ℕ) (text : List ℕ) (done : List Token) where
  scan_full : (last : Token) (later : Scan) → joined done (with_token last later) ≡ scanned file text → length done ≡ room
      → scan_of file room text ≡ Err (error.Limit (record { kind = Scanned; reached = number_of Scanned }))
  scan_full last later so_far full =
      let count : length done + suc (length later.tokens) ≡ length (scanned file text).tokens =
      sym (length-append done (last ∷ later.tokens)) ∙ ap (λ (s : Scan). length s.tokens) so_far in
      let over : nat_lt room (length (scanned file text).tokens) ≡ true = grind (arith, nat_tests) in
      rw over refl

  scan_fits : (refusal : Option ScanError) → joined done (record { tokens = []; refusal = refusal }) ≡ scanned file text
      → length done ≤ room → scan_of file room text ≡ result_of done refusal
  scan_fits refusal so_far fits =
      let tokens : (scanned file text).tokens ≡ done = sym (ap (λ (s : Scan). s.tokens) so_far) ∙ append-nil done in
      let same : (scanned file text).refusal ≡ refusal = sym (ap (λ (s : Scan). s.refusal) so_far) in
      let count : length (scanned file text).tokens ≤ room = rw tokens fits in
      let under : nat_lt room (length (scanned file text).tokens) ≡ false = grind (arith, nat_tests) in
      rw (under, tokens, same) refl

  -- the answer if nothing is ahead
  pub scan_done : (bytes : List Placed) (first spaced : Bool) → joined done (to_come bytes first spaced) ≡ scanned file text → bytes ≡ []
      → length done ≤ room → scan_of file room text ≡ Ok done
  scan_done bytes first spaced so_far ahead fits = scan_fits None (sym (ap (joined done) (to_come_none bytes first spaced ahead)) ∙ so_far) fits

module _ (file : ℕ) (text : List ℕ) (done : List Token) (placed : Placed) (bytes after : List Placed) (first spaced : Bool)
    (so_far : joined done (to_come bytes first spaced) ≡ scanned file text) (ahead : bytes ≡ placed ∷ after) where
  -- one part on
  pub part_next : (behind : List Placed) (form : Form) → form ≡ form_of bytes → behind ≡ drop (form_len form - 1) after
      → joined done (scan_part first spaced bytes form (λ first' spaced'. to_come behind first' spaced')) ≡ scanned file text
  part_next behind form is_form is_behind =
      sym (ap (joined done) (to_come_next placed bytes after behind form first spaced ahead is_form is_behind)) ∙ so_far

  -- one token on
  pub token_next : (behind : List Placed) (kind : TokenKind) (len : ℕ) (spelling : List ℕ) → token kind len ≡ form_of bytes
      → behind ≡ drop (len - 1) after → spelling ≡ bytes_of (take len bytes)
      → joined (done ++ placed_token kind spelling placed.pos first spaced ∷ []) (to_come behind false false) ≡ scanned file text
  token_next behind kind len spelling is_form is_behind is_spelling =
      let later : Scan = to_come behind false false in
      ap (λ (last : Token). joined (done ++ last ∷ []) later) (token_is placed bytes after kind len first spaced spelling ahead is_spelling)
      ∙ sym (joined_token done (token_at kind len bytes first spaced) later) ∙ part_next behind (token kind len) is_form is_behind

  -- a token without room
  pub token_full : (room : ℕ) (kind : TokenKind) (len : ℕ) (passed : Limit) → token kind len ≡ form_of bytes → length done ≡ room
      → passed.kind ≡ Scanned → passed.reached ≡ number_of Scanned → scan_of file room text ≡ Err (error.Limit passed)
  token_full room kind len passed is_form full is_kind is_reached =
      let behind : List Placed = drop (len - 1) after in
      let next = part_next behind (token kind len) is_form refl in
      scan_full file room text done (token_at kind len bytes first spaced) (to_come behind false false) next full
      ∙ ap (λ (limit : Limit). Err (error.Limit limit)) (limit_of passed is_kind is_reached)

  -- a refusal
  pub refused_next : (room : ℕ) (why : ScanError) → refused why ≡ form_of bytes → length done ≤ room → scan_of file room text ≡ Err why
  refused_next room why is_form fits = scan_fits file room text done (Some why) (part_next after (refused why) is_form refl) fits
