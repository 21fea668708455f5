-- What a mover told, decision by decision.
--     TellsSo told script now        it told the script, and now tells the rest
use Rattle.std.proofs.Common.{◌≡◌, ℕ, zero, suc, List, [], ◌∷◌, ◌++◌, length, drop, Option, Some, None, refl, sym, ap, ◌∙◌, subst, arith}
use Rattle.std.proofs.lemmas.List.{append-nil, drop_all, length_push}
use Rattle.hs_heap.specs.declared.decision.Decision.{Decision}
use Rattle.hs_machine.specs.Advancing.{Gives, TellsBy}
use Rattle.hs_machine.specs.Recording.{IsTold, recorded, told_front}
use Rattle.hs_movers.specs.Movers.{Decides, no_block}

-- of a mover that tells nothing, nothing is known
abbrev pub TellsSo : Option (List Decision) → List Decision → Option (List Decision) → Type 0
TellsSo None script now = Unit {0}
TellsSo (Some told) script now = (script ≡ told_front (length script) told) × (now ≡ Some (drop (length script) told))

-- before the first decision
pub tells_all : (told : Option (List Decision)) → TellsSo told [] told
tells_all None = tt
tells_all (Some told) = (refl, refl)

-- so the script is what the mover told
pub tells_script : (told now : Option (List Decision)) (script : List Decision) → TellsSo told script now → IsTold told script
tells_script None now script so = tt
tells_script (Some told) now script so = so.0

-- one more of those told, which is the first of the rest, or names no block
front_more : (count : ℕ) (told : List Decision) (given : Decision) (later : Option (List Decision)) → Decides (Some (drop count told)) given later
    → (told_front (suc count) told ≡ told_front count told ++ recorded given ∷ []) × (later ≡ Some (drop (suc count) told))
front_more zero [] given later decides = (ap (λ (d : Decision). recorded d ∷ []) (sym decides.0), decides.1)
front_more zero (first ∷ told) given later decides = (ap (λ (d : Decision). recorded d ∷ []) (sym decides.0), decides.1)
front_more (suc count) [] given later decides =
    let past : drop count [] ≡ [] = drop_all count [] (omega arith) in
    let more = front_more count [] given later (subst (λ (l : List Decision). Decides (Some l) given later) (sym past) decides) in
    (ap (λ (l : List Decision). no_block ∷ l) more.0, decides.1)
front_more (suc count) (first ∷ told) given later decides =
    let more = front_more count told given later decides in
    (ap (λ (l : List Decision). recorded first ∷ l) more.0, more.1)

-- one decision more
pub tells_one : (told now later : Option (List Decision)) (script : List Decision) (taken : Decision) → TellsSo told script now → Gives now taken later
    → TellsSo told (script ++ taken ∷ []) later
tells_one None now later script taken so gives = tt
tells_one (Some told) now later script taken so gives =
    let first = subst (λ (t : Option (List Decision)). Decides t gives.given later) so.1 gives.decides in
    let front = front_more (length script) told gives.given later first in
    let longer : length (script ++ taken ∷ []) ≡ suc (length script) = omega (arith, length_push script taken) in (
      ap (λ (l : List Decision). l ++ taken ∷ []) so.0
          ∙ ap (λ (d : Decision). told_front (length script) told ++ d ∷ []) gives.is
          ∙ sym front.0
          ∙ ap (λ (n : ℕ). told_front n told) (sym longer),
      front.1 ∙ ap (λ (n : ℕ). Some (drop n told)) (sym longer),
    )

-- none, or one
pub tells_more : (told now later : Option (List Decision)) (script taken after : List Decision) → TellsSo told script now → TellsBy now taken later
    → after ≡ script ++ taken → TellsSo told after later
tells_more told now later script [] after so tells is =
    subst (λ (l : List Decision). TellsSo told l later) (sym (is ∙ append-nil script))
    (subst (λ (t : Option (List Decision)). TellsSo told script t) (sym tells) so)
tells_more told now later script (taken ∷ []) after so tells is =
    subst (λ (l : List Decision). TellsSo told l later) (sym is) (tells_one told now later script taken so tells)
tells_more told now later script (taken ∷ (second ∷ rest)) after so tells is = absurd tells
