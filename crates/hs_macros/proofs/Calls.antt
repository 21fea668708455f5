-- What begins at a token, in steps that follow the code.
--     found_by                 by three tests: an identifier, hidden, defined
--     hides_object, hides_call what a replacement hides, if the name has this number
--     invoked_by               an invocation whose arguments were found
use Rattle.std.proofs.Common.{◌≡◌, ℕ, Bool, true, false, not, ◌&&◌, List, [], ◌∷◌, Option, Some, None, refl, sym, ap, ◌∙◌, if◌then◌else◌}
use Rattle.std.specs.FinSet as set
use Rattle.std.specs.FinMap as finite
use Rattle.hs_tokens.specs.declared.token.Token.{Token}
use Rattle.hs_tokens.specs.Marks.{is_identifier}
use Rattle.hs_macros.specs.HideSets.{HideSet, object_hides, call_hides}
use Rattle.hs_macros.specs.Definitions.{Definitions}
use Rattle.hs_macros.specs.Arguments.{Hidden, Arguments, Argument, arguments_from, bound}
use Rattle.hs_macros.specs.Numbers.{Numbers, IsNumber, named}
use Rattle.hs_macros.specs.Replacement.{stays, invoked, found_bound, found_call, found_defined, found}
use Rattle.hs_macros.specs.Stacks.{Collected, collected}
use Rattle.hs_macros.specs.declared.definition.Definition.{Definition}
use Rattle.hs_macros.proofs.Naming.{named-insert, named-intersection}

-- by whether the token is an identifier, whether it hides itself, and the definition
pub found_by : (macros : Definitions) (token : Hidden) (rest : List Hidden) (identifier hides : Bool) (definition : Option Definition)
    → is_identifier token.token ≡ identifier → set.contains token.hides token.token.text ≡ hides → finite.get macros token.token.text ≡ definition
    → found macros token rest ≡ (if identifier && not hides then found_defined token rest definition else stays)
found_by macros token rest identifier hides definition first second third =
    λ i. if first i && not (second i) then found_defined token rest (third i) else stays

-- a token that hides its name stays
pub hides_itself : (macros : Definitions) (token : Hidden) (rest : List Hidden) → set.contains token.hides token.token.text ≡ true
    → found macros token rest ≡ stays
hides_itself macros token rest second = found_by macros token rest _ true _ refl second refl ∙ never (is_identifier token.token)
  where
    -- it is never replaced
    never : (identifier : Bool)
        → (if identifier && false then found_defined token rest (finite.get macros token.token.text) else stays) ≡ stays
    never true = refl
    never false = refl

-- what an object-like replacement hides, if the name has this number
pub hides_object : (names : List (List ℕ)) (before after : Numbers) (name : List ℕ) (number : ℕ) → IsNumber names name number
    → after ≡ set.insert before number → named names after ≡ object_hides (named names before) name
hides_object names before after name number is hides = ap (named names) hides ∙ named-insert names before name number is

-- what a function-like one hides
pub hides_call : (names : List (List ℕ)) (before close after : Numbers) (name : List ℕ) (number : ℕ) → IsNumber names name number
    → after ≡ set.insert (set.intersection before close) number
    → named names after ≡ call_hides (named names before) (named names close) name
hides_call names before close after name number is hides =
    ap (named names) hides
    ∙ named-insert names (set.intersection before close) name number is
    ∙ ap (λ (held : HideSet). set.insert held name) (named-intersection names before close)

-- the arguments that were found are those of the invocation
pub invoked_by : (name : Hidden) (body : List Token) (parameters : List (List ℕ)) (tokens behind : List Hidden) (given : List (List Hidden)) (close : Hidden)
    (arguments : List Argument) (hides : HideSet)
    → Some (record { given = given; close = close; behind = behind }) ≡ collected [] [] (arguments_from 0 tokens)
    → Some arguments ≡ bound parameters given → hides ≡ call_hides name.hides close.hides name.token.text
    → found_call name body parameters (arguments_from 0 tokens)
    ≡ invoked (record { body = body; pos = name.token.pos; hides = hides; behind = behind }) arguments
invoked_by name body parameters tokens behind given close arguments hides are pairs hides_is =
    by (arguments_from 0 tokens) are
  where
    by : (between : Option Arguments) → Some (record { given = given; close = close; behind = behind }) ≡ collected [] [] between
        → found_call name body parameters between ≡ invoked (record { body = body; pos = name.token.pos; hides = hides; behind = behind }) arguments
    by None is = absurd cc
    by (Some between) is =
        let same : record { given = given; close = close; behind = behind }
        ≡ record { given = between.first ∷ between.others; close = between.close; behind = between.behind } = cc in
        let closes : close ≡ between.close = ap (λ (all : Collected). all.close) same in
        let rests : behind ≡ between.behind = ap (λ (all : Collected). all.behind) same in
        let bounds : bound parameters (between.first ∷ between.others) ≡ Some arguments =
        sym (pairs ∙ ap (λ (all : Collected). bound parameters all.given) same) in
        ap (found_bound name body between) bounds
        ∙ (λ i. invoked (record {
          body = body;
          pos = name.token.pos;
          hides = sym (hides_is ∙ ap (λ (last : Hidden). call_hides name.hides last.hides name.token.text) closes) i;
          behind = sym rests i;
        }) arguments)
