-- The values are those of the row of FILE.
use Rattle.std.proofs.Common.{◌≡◌, Some, None, List, [], codes, sym, ap, map, ℕ, Option, ◌∙◌}
use Rattle.std.specs.Prelude.{unwrap_or, option_map}
use Rattle.std.specs.String.{string_bytes}
use Rattle.std.specs.Borrow.{Bor}
use Rattle.std.proofs.lemmas.Result.{IfOk-weaker}
use Rattle.clap.specs.Words.{all_of, found_of, rows_of}
use Rattle.hs_words.proofs.Building.{values_are}
use Rattle.hs_words.proofs.values.names_of.Goals as goal

-- the texts after the references
abbrev texts_of : Bor (List (Bor (List ℕ))) → List (List ℕ)
texts_of values = map (λ value. value.now) values.now

pub returns-in-Some : goal.returns-in-Some
returns-in-Some c =
    let rows = values_are (found_of c.args.matches.now) (codes "FILE") c.get_raw.result texts_of c.get_raw.ensures in
    let read : Some (texts_of c.in-Some.values) ≡ all_of (codes "FILE") (rows_of (found_of c.args.matches.now)) =
    ap (option_map texts_of) (sym c.in-Some.is) ∙ rows in
    IfOk-weaker c.copies.result _ _ (λ names is. is ∙ ap (λ (all : Option (List (List ℕ))). unwrap_or all []) read) c.copies.ensures

pub returns-in-None : goal.returns-in-None
returns-in-None c =
    let rows = values_are (found_of c.args.matches.now) (codes "FILE") c.get_raw.result texts_of c.get_raw.ensures in
    let read : None ≡ all_of (codes "FILE") (rows_of (found_of c.args.matches.now)) = ap (option_map texts_of) (sym c.in-None.is) ∙ rows in
    ap (map string_bytes) c.new.ensures.items ∙ ap (λ (all : Option (List (List ℕ))). unwrap_or all []) read
