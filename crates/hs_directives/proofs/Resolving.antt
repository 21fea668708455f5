-- The tokens of a condition without `defined`, one by one.
use Rattle.std.proofs.Common.{◌≡◌, ℕ, zero, suc, Bool, true, false, List, [], ◌∷◌, ◌++◌, drop, Option, Some, None, refl, sym, ap, ◌∙◌, append_assoc}
use Rattle.std.specs.Prelude.{is_some, if◌then◌else◌}
use Rattle.std.specs.FinMap as finite
use Rattle.hs_tokens.specs.declared.token.Token.{Token}
use Rattle.hs_macros.specs.Definitions.{Definitions}
use Rattle.hs_directives.specs.Conditions.{Operand, operand_of, asks, answer, in_front, resolved_operand, resolved_after, resolved}
use Rattle.hs_directives.specs.Ahead.{behind_front, seen_operand}
use Rattle.hs_directives.specs.declared.condition.Asked.{Asked}

-- one more token
behind_front-push : (front : List Token) (token : Token) (others : Option (List Token))
    → behind_front (front ++ token ∷ []) others ≡ behind_front front (in_front token others)
behind_front-push front token None = refl
behind_front-push front token (Some tokens) = ap (λ (all : List Token). Some all) (append_assoc front (token ∷ []) tokens)

-- tokens that belong to a name are skipped
pub resolved_after-drop : (macros : Definitions) (skip : ℕ) (tokens : List Token) → resolved_after macros skip tokens ≡ resolved macros (drop skip tokens)
resolved_after-drop macros zero tokens = refl
resolved_after-drop macros (suc skip) [] = refl
resolved_after-drop macros (suc skip) (token ∷ rest) = resolved_after-drop macros skip rest

-- the next token is another one
pub other_next : (macros : Definitions) (front more : List Token) (tokens : List Token) (token : Token) (rest : List Token) (all : Option (List Token))
    → tokens ≡ token ∷ rest → more ≡ front ++ token ∷ [] → asks token ≡ false
    → behind_front front (resolved macros tokens) ≡ all → behind_front more (resolved macros rest) ≡ all
other_next macros front more tokens token rest all split pushed other same =
    ap (λ (front' : List Token). behind_front front' (resolved macros rest)) pushed
    ∙ behind_front-push front token (resolved macros rest)
    ∙ ap (behind_front front) (sym (
    ap (resolved macros) split
    ∙ ap (λ (answer' : Bool). if answer' then resolved_operand macros token (operand_of rest) (λ skip. resolved_after macros skip rest)
    else in_front token (resolved_after macros 0 rest)) other))
    ∙ same

-- or it is `defined`, with a name
pub defined_next : (macros : Definitions) (front more : List Token) (tokens : List Token) (token : Token) (rest behind : List Token) (asked : Asked)
    (put : Token) (holds : Bool) (all : Option (List Token))
    → tokens ≡ token ∷ rest → more ≡ front ++ put ∷ [] → asks token ≡ true → seen_operand (Some asked) ≡ operand_of rest
    → put ≡ answer token holds → holds ≡ is_some (finite.get macros asked.name.now) → behind ≡ drop asked.len rest
    → behind_front front (resolved macros tokens) ≡ all → behind_front more (resolved macros behind) ≡ all
defined_next macros front more tokens token rest behind asked put holds all split pushed word name is answered past same =
    let here : resolved macros tokens ≡ in_front put (resolved macros behind) =
    ap (resolved macros) split
    ∙ ap (λ (answer' : Bool). if answer' then resolved_operand macros token (operand_of rest) (λ skip. resolved_after macros skip rest)
    else in_front token (resolved_after macros 0 rest)) word
    ∙ ap (λ (operand : Option Operand). resolved_operand macros token operand (λ skip. resolved_after macros skip rest)) (sym name)
    ∙ ap (λ (answer' : Bool). in_front (answer token answer') (resolved_after macros asked.len rest)) (sym answered)
    ∙ ap (λ (first : Token). in_front first (resolved_after macros asked.len rest)) (sym is)
    ∙ ap (in_front put) (resolved_after-drop macros asked.len rest ∙ ap (resolved macros) (sym past)) in
    ap (λ (front' : List Token). behind_front front' (resolved macros behind)) pushed
    ∙ behind_front-push front put (resolved macros behind)
    ∙ ap (behind_front front) (sym here)
    ∙ same
