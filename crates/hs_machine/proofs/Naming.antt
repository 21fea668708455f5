-- What is recorded names blocks, and never the number of none.
use Rattle.std.proofs.Common.{◌≡◌, ◌≤◌, ◌==◌, not, length, List, [], ◌∷◌, ◌++◌, Option, sym, ◌∙◌, subst, arith}
use Rattle.std.specs.List.{All as Each}
use Rattle.std.proofs.lemmas.Bool.Decides.{nat_tests}
use Rattle.std.proofs.lemmas.List.{append-nil}
use Rattle.std.proofs.lemmas.List.Elements.{All-nil, All-push, filter_passes}
use Rattle.hs_heap.specs.declared.decision.Decision.{Decision}
use Rattle.hs_heap.specs.declared.decision.Which.{Which}
use Rattle.hs_heap.specs.declared.decision.Which.TheVariants.{All, These}
use Rattle.hs_machine.specs.Advancing.{TellsBy}
use Rattle.hs_machine.specs.Recording.{NamesBlocks, length_in_size, named, size_of}
use Rattle.hs_movers.specs.ScriptTexts.{HasNoZero, IsPrintable}
use Rattle.hs_movers.specs.declared.script.Script.{Script}

-- what is named, without 0
no_zero : (which : Which) → HasNoZero (named which)
no_zero All = tt
no_zero (These numbers) =
    λ place other within. let passes = filter_passes (λ number. not (number == 0)) numbers place other within in grind (arith, nat_tests, passes)

-- no decisions
pub names_none : NamesBlocks []
names_none = record { moves = All-nil (λ d. HasNoZero d.moves); purges = All-nil (λ d. HasNoZero d.purges) }

-- none, or one
pub names_more : (told later : Option (List Decision)) (script taken after : List Decision) → NamesBlocks script → TellsBy told taken later
    → after ≡ script ++ taken → NamesBlocks after
names_more told later script [] after names tells is = subst (λ (l : List Decision). NamesBlocks l) (sym (is ∙ append-nil script)) names
names_more told later script (taken ∷ []) after names tells is =
    let moves = subst (λ (d : Decision). HasNoZero d.moves) (sym tells.is) (no_zero tells.given.moves) in
    let purges = subst (λ (d : Decision). HasNoZero d.purges) (sym tells.is) (no_zero tells.given.purges) in
    subst (λ (l : List Decision). NamesBlocks l) (sym is)
    (record {
      moves = All-push (λ d. HasNoZero d.moves) script taken names.moves moves;
      purges = All-push (λ d. HasNoZero d.purges) script taken names.purges purges;
    })
names_more told later script (taken ∷ (second ∷ rest)) after names tells is = absurd tells

-- such a script can be printed, if it is not too long
pub printable : (script : Script) (decisions : List Decision) → script.decisions ≡ decisions → NamesBlocks decisions → size_of decisions ≤ 4000000
    → IsPrintable script
printable script decisions is names few =
    record {
      few = subst (λ (l : List Decision). length l ≤ 4000000) (sym is) (omega (arith, length_in_size decisions));
      moves = subst (λ (l : List Decision). Each (λ d. HasNoZero d.moves) l) (sym is) names.moves;
      purges = subst (λ (l : List Decision). Each (λ d. HasNoZero d.purges) l) (sym is) names.purges;
    }
