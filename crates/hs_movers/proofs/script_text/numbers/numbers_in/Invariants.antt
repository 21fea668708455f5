use Rattle.std.proofs.Common.{◌≡◌, ◌==◌, ◌++◌, drop, length}
use Rattle.std.specs.Prelude.{option_map}
use Rattle.std.specs.List.{slice_split}
use Rattle.hs_movers.specs.ScriptTexts.{numbers_in}
use Rattle.hs_movers.proofs.script_text.numbers.numbers_in.Given as goal

abbrev pub invariant-pieces : goal.invariant-pieces
invariant-pieces l =
    option_map (λ more. l.numbers.items ++ more) (numbers_in (drop (length l.yielded) (slice_split (λ byte. byte == 44) l.text)))
    ≡ numbers_in (slice_split (λ byte. byte == 44) l.text)
