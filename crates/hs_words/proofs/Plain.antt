-- Names that do not begin with `-` are read as they stand.
use Rattle.std.proofs.Common.{◌≡◌, ◌≤◌, ℕ, suc, false, List, [], ◌∷◌, ◌++◌, length, Some, None, refl, sym, ap, ap₂, ◌∙◌, arith, append_assoc, append-nil}
use Rattle.std.specs.Prelude.{is_some, unwrap_or, codes, ◌==◌, nat_lt}
use Rattle.std.proofs.Common.{le-ltb}
use Rattle.std.proofs.lemmas.Bool.{or_parts}
use Rattle.std.proofs.lemmas.Bool.Decides.{nat_tests}
use Rattle.std.specs.List.{fold, list_any}
use Rattle.std.specs.Str.{bytes_eq}
use Rattle.clap.specs.Lexer.{strip_byte, usize_max}
use Rattle.clap.specs.Walk.{Held, Step, Text, Waiting, idle, positional, value, Walk, all_of, finished, nothing_held, settled, walked, word_met}
use Rattle.clap.specs.Simple.{Shape, built, entered}
use Rattle.clap.specs.Faults.{check_fault, defaults_fault, entered_fault, turn_fault, walk_fault, word_fault, step_fault, settle_fault}
use Rattle.clap.specs.Kinds.{Kinds, or_else, range_kinds, values_kinds}
use Rattle.clap.specs.declared.builder.value_parser.ValueParser.TheVariants as vp
use Rattle.hs_words.specs.Words.{check_command, begins_with_hyphen, TakesPlainNames}

-- the command as it is built
abbrev shape : Shape
shape = (built check_command).top

-- nothing is taken off a plain word
no_hyphen : (word : List ℕ) → begins_with_hyphen word ≡ false → strip_byte 45 word ≡ None
no_hyphen [] plain = refl
no_hyphen (byte ∷ rest) plain = rw plain refl

no_dashes : (word : List ℕ) → begins_with_hyphen word ≡ false → bytes_eq word (45 ∷ 45 ∷ []) ≡ false
no_dashes [] plain = refl
no_dashes (byte ∷ rest) plain = rw plain refl

-- where names are read so far
abbrev reads : List Text → Held
reads [] = nothing_held
reads (name ∷ names) = record { rows = []; pending = Some (codes "FILE", name ∷ names); skip = 0 }

-- what waits then
abbrev waits : List Text → Waiting
waits [] = idle
waits (name ∷ names) = positional

-- a plain word is a value
met : (names : List Text) (word : Text) → begins_with_hyphen word ≡ false
    → word_met shape.rules [] false (waits names) 1 word (reads names) ≡ (reads names, value)
met [] word plain = rw (no_dashes word plain, no_hyphen word plain, no_hyphen word plain) refl
met (name ∷ names) word plain = rw (no_dashes word plain, no_hyphen word plain, no_hyphen word plain) refl

-- where the walk stands between the names
abbrev stands : List Text → Walk
stands names = record { held = reads names; waiting = waits names; position = 1; is_trailing = false; stopped = None }

-- one more name
one_more : (names : List Text) (word : Text) → begins_with_hyphen word ≡ false → walked shape.rules [] (stands names) word ≡ stands (names ++ word ∷ [])
unfolding walked
one_more [] word plain = rw (met [] word plain) refl
one_more (name ∷ names) word plain = rw (met (name ∷ names) word plain) refl

-- it is no flag that is refused
no_flag : (names : List Text) (word : Text) → begins_with_hyphen word ≡ false → word_fault shape [] false (waits names) word (reads names) ≡ []
no_flag [] word plain = rw (no_dashes word plain, no_hyphen word plain, no_hyphen word plain) refl
no_flag (name ∷ names) word plain = rw (no_dashes word plain, no_hyphen word plain, no_hyphen word plain) refl

-- and the argument takes it
taken : (names : List Text) → step_fault shape 1 (reads names) value ≡ []
taken [] = refl
taken (name ∷ names) = refl

-- it is no fault
no_fault : (names : List Text) (word : Text) → begins_with_hyphen word ≡ false → turn_fault shape [] (stands names) word ≡ []
no_fault names word plain =
    ap (λ (it : Held × Step). or_else (word_fault shape [] false (waits names) word (reads names)) (step_fault shape 1 it.0 it.1)) (met names word plain)
    ∙ ap (λ (kinds : Kinds). or_else kinds (step_fault shape 1 (reads names) value)) (no_flag names word plain)
    ∙ taken names

-- the walk over the names
walk_reads : (names words : List Text) → list_any begins_with_hyphen words ≡ false
    → (fold (walked shape.rules []) (stands names) words ≡ stands (names ++ words)) × (walk_fault shape [] (stands names) words ≡ [])
unfolding walk_fault
walk_reads names [] plain = (ap stands (sym (append-nil names)), refl)
walk_reads names (word ∷ words) plain =
    let each = or_parts (begins_with_hyphen word) (list_any begins_with_hyphen words) plain in
    let later = walk_reads (names ++ word ∷ []) words each.1 in (
      ap (λ (it : Walk). fold (walked shape.rules []) it words) (one_more names word each.0) ∙ later.0 ∙ ap stands (append_assoc names (word ∷ []) words),
      ap (λ (kinds : Kinds). or_else kinds (walk_fault shape [] (walked shape.rules [] (stands names) word) words)) (no_fault names word each.0)
          ∙ ap (λ (it : Walk). walk_fault shape [] it words) (one_more names word each.0) ∙ later.1,
    )

-- any text is a value
texts_pass : (texts : List Text) → values_kinds false vp.String texts ≡ []
texts_pass [] = refl
texts_pass (text ∷ texts) = texts_pass texts

-- the values are not too many
in_range : (more : ℕ) → suc more ≤ usize_max → range_kinds 1 usize_max (suc more) ≡ []
in_range more few =
    let some : (suc more == 0) ≡ false = grind (arith, nat_tests) in
    let enough : nat_lt (suc more) 1 ≡ false = le-ltb (suc more) 1 (omega arith) in
    let within : nat_lt usize_max (suc more) ≡ false = le-ltb usize_max (suc more) few in
    rw (some, enough, within) refl

-- the names are taken at the end of the words
ended : (name : Text) (names : List Text) → length (name ∷ names) ≤ usize_max
    → settle_fault shape.rules shape.args_override_self (reads (name ∷ names)) ≡ []
ended name names few =
    ap (λ (kinds : Kinds). or_else kinds (values_kinds false vp.String (name ∷ names))) (in_range (length names) few) ∙ texts_pass names

-- the faults of the words, by the walk over them
abbrev faults : Walk → Kinds → Kinds
faults end on_the_way =
    or_else on_the_way
    (or_else (entered_fault (built check_command) end.stopped)
    (or_else (settle_fault shape.rules shape.args_override_self end.held)
    (or_else (defaults_fault (settled shape.rules end.held).rows shape.rules)
    (check_fault shape (finished shape.rules end.held) (is_some (entered (built check_command) end.stopped))))))

-- what is read, by the walk
abbrev names_at : Walk → List Text
names_at end = unwrap_or (all_of (codes "FILE") (finished shape.rules end.held)) []

-- plain names are no fault, and are what is read
pub takes_plain : TakesPlainNames
unfolding defaults_fault
takes_plain [] plain = absurd (omega (arith, plain.0))
takes_plain (name ∷ names) plain =
    let walk_is = walk_reads [] (name ∷ names) plain.2 in
    record {
      command = refl;
      taken = ap₂ faults walk_is.0 walk_is.1
          ∙ ap (λ (kinds : Kinds). or_else kinds
          (or_else (defaults_fault (settled shape.rules (reads (name ∷ names))).rows shape.rules)
          (check_fault shape (finished shape.rules (reads (name ∷ names))) false)))
          (ended name names plain.1);
      read = sym (ap names_at walk_is.0);
    }
