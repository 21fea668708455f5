use Rattle.std.proofs.Common.{◌≡◌, ℕ, List, ◌∷◌, ◌++◌, ap, codes, rules, ◌∙◌}
use Rattle.std.specs.Fmt.{decimal}
use Rattle.hs_report.specs.Faults.{number_of, word_of}
use Rattle.hs_report.proofs.Pieces.{fault_is}
use Rattle.hs_report.proofs.report.Refusal.placed.Goals as goal

-- the front of the text, the name of the file and the back, one after another
pub returns : goal.returns
returns c =
    let front : c.in_ok-text.text.items
    ≡ codes "error " ++ decimal (number_of c.args.self.now.fault) ++ 32 ∷ (word_of c.args.self.now.fault ++ codes " at ") =
    search rules in
    let named : c.extend_from_slice.new.self.items ≡ c.in_ok-text.text.items ++ c.args.self.now.file = search rules in
    let whole : c.extend_from_slice-2.new.self.items
    ≡ c.extend_from_slice.new.self.items ++ 58 ∷ (decimal c.args.self.now.pos.line ++ 58 ∷ decimal c.args.self.now.pos.col) =
    search rules in
    whole ∙ ap (λ (text : List ℕ). text ++ 58 ∷ (decimal c.args.self.now.pos.line ++ 58 ∷ decimal c.args.self.now.pos.col))
    (named ∙ ap (λ (text : List ℕ). text ++ c.args.self.now.file) front)
    ∙ fault_is (decimal (number_of c.args.self.now.fault)) (word_of c.args.self.now.fault) c.args.self.now.file
    (decimal c.args.self.now.pos.line) (decimal c.args.self.now.pos.col)
