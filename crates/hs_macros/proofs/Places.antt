-- What a token of a macro knows of its parameter.
--     placed_index, placed_last     from all tokens to one of them
--     marked_at                     from all parameters to one of them
--     at_past, at_index             the argument at a place, if there is one
--     argument_by                   the argument at the place is the one that is looked for by name
--     around, next_ready, none_waits    the parameters of a call, as its arguments become ready
use Rattle.std.proofs.Common.{◌≡◌, ℕ, zero, suc, ◌<◌, ◌≤◌, Bool, true, false, List, [], ◌∷◌, ◌++◌, length, get_or, slice_get, Option, Some, None, refl, sym, ap, subst, ◌∙◌, append_assoc, arith, if◌then◌else◌}
use Rattle.std.specs.List.{flat_map}
use Rattle.std.specs.Option.{option_map}
use Rattle.std.specs.Str.{bytes_eq}
use Rattle.std.proofs.lemmas.List.{get_or-map, append-nil, map-append, reverse-append}
use Rattle.hs_tokens.specs.declared.token.Token.{Token}
use Rattle.hs_tokens.specs.Marks.{is_identifier}
use Rattle.hs_macros.specs.Arguments.{Hidden}
use Rattle.hs_macros.specs.Replacement.{argument_of, argument_for}
use Rattle.hs_macros.specs.Slots.{names_of, tokens_of, place_of, place_in, is_in, ArePlaced, AreMarked, Fits}
use Rattle.hs_macros.specs.Stacks.{done, ready, parameters_in, parameters_ahead}
use Rattle.hs_macros.specs.declared.arguments.Supplied.{Supplied}
use Rattle.hs_macros.specs.declared.slot.Parameter.{Parameter}
use Rattle.hs_macros.specs.declared.slot.Slot.{Slot}

-- the token at an index knows its parameter
pub placed_index : (names : List (List ℕ)) (body : List Slot) (index : ℕ) (slot : Slot) → ArePlaced names body → index < length body
    → slot ≡ get_or body index slot → slot.parameter ≡ place_in names slot.token
placed_index names body index slot placed within is =
    ap (λ (slot' : Slot). slot'.parameter) is
    ∙ sym (get_or-map (λ (slot' : Slot). slot'.parameter) body index slot None within)
    ∙ ap (λ (places : List (Option ℕ)). get_or places index None) placed
    ∙ get_or-map (λ (slot' : Slot). place_in names slot'.token) body index slot None within
    ∙ ap (λ (slot' : Slot). place_in names slot'.token) (sym is)

-- the last token does, and so do those before it
pub placed_last : (names : List (List ℕ)) (rest : List Slot) (slot : Slot) → ArePlaced names (rest ++ slot ∷ [])
    → (slot.parameter ≡ place_in names slot.token) × ArePlaced names rest
placed_last names [] slot placed = (cc, refl)
placed_last names (first ∷ rest) slot placed =
    let head : first.parameter ≡ place_in names first.token = cc in
    let tail : ArePlaced names (rest ++ slot ∷ []) = cc in
    let later = placed_last names rest slot tail in
    (later.0, λ i. head i ∷ later.1 i)

-- a parameter knows whether it is named
pub marked_at : (front : List Parameter) (parameter : Parameter) (behind : List Parameter) (tokens : List Token)
    → AreMarked (front ++ parameter ∷ behind) tokens → parameter.used ≡ is_in parameter.name tokens
marked_at [] parameter behind tokens marked = cc
marked_at (first ∷ front) parameter behind tokens marked =
    let tail : AreMarked (front ++ parameter ∷ behind) tokens = cc in
    marked_at front parameter behind tokens tail

-- what stands for the tokens of a macro, seen with what they know
pub flat_map-tokens_of : {A : Type 0} (f : Token → List A) (body : List Slot) → flat_map f (tokens_of body) ≡ flat_map (λ (slot : Slot). f slot.token) body
flat_map-tokens_of f [] = refl
flat_map-tokens_of f (slot ∷ body) = ap (λ later. f slot.token ++ later) (flat_map-tokens_of f body)

-- the next argument is neither ready nor waiting
pub around : (ready rest waiting : List Supplied) (argument : Supplied) (body : List Slot) → waiting ≡ rest ++ argument ∷ []
    → Fits (parameters_in ready ++ parameters_ahead waiting) body → Fits (parameters_in ready ++ argument.parameter.now ∷ parameters_ahead rest) body
around ready rest waiting argument body popped fits =
    subst (λ (parameters : List Parameter). Fits parameters body)
    (ap (λ (arguments : List Supplied). parameters_in ready ++ parameters_ahead arguments) popped
    ∙ ap (λ (arguments : List Supplied). parameters_in ready ++ parameters_in arguments) (reverse-append rest (argument ∷ []))) fits

-- it is ready
pub next_ready : (ready more rest : List Supplied) (argument : Supplied) (body : List Slot) → more ≡ ready ++ argument ∷ []
    → Fits (parameters_in ready ++ argument.parameter.now ∷ parameters_ahead rest) body → Fits (parameters_in more ++ parameters_ahead rest) body
next_ready ready more rest argument body pushed fits =
    subst (λ (parameters : List Parameter). Fits parameters body)
    (sym (ap (λ (arguments : List Supplied). parameters_in arguments ++ parameters_ahead rest) pushed
    ∙ ap (λ (front : List Parameter). front ++ parameters_ahead rest) (map-append (λ (supplied : Supplied). supplied.parameter.now) ready (argument ∷ []))
    ∙ append_assoc (parameters_in ready) (argument.parameter.now ∷ []) (parameters_ahead rest))) fits

-- no argument waits
pub none_waits : (ready waiting : List Supplied) (body : List Slot) → waiting ≡ [] → Fits (parameters_in ready ++ parameters_ahead waiting) body
    → ArePlaced (names_of (parameters_in ready)) body
none_waits ready waiting body none fits =
    (subst (λ (parameters : List Parameter). Fits parameters body)
    (ap (λ (arguments : List Supplied). parameters_in ready ++ parameters_ahead arguments) none ∙ append-nil (parameters_in ready)) fits).0

module _ (names : List (List ℕ)) where
  -- the argument at the place
  abbrev pub at_place : List Supplied → Option ℕ → Option (List Hidden)
  at_place arguments None = None
  at_place arguments (Some index) = option_map (λ supplied. done names supplied.tokens.items) (slice_get arguments index)

  -- no argument is past the end
  pub at_past : (arguments : List Supplied) (index : ℕ) → length arguments ≤ index → at_place arguments (Some index) ≡ None
  at_past [] index past = refl
  at_past (first ∷ arguments) zero past = absurd (omega arith)
  at_past (first ∷ arguments) (suc index) past =
      let behind : length arguments ≤ index = omega arith in at_past arguments index behind

  -- the argument at an index
  pub at_index : (arguments : List Supplied) (index : ℕ) (d : Supplied) → index < length arguments
      → at_place arguments (Some index) ≡ Some (done names (get_or arguments index d).tokens.items)
  at_index [] index d within = absurd (omega arith)
  at_index (first ∷ arguments) zero d within = refl
  at_index (first ∷ arguments) (suc index) d within =
      let behind : index < length arguments = omega arith in at_index arguments index d behind

  -- one place further on
  at_next : (first : Supplied) (arguments : List Supplied) (place : Option ℕ) → at_place (first ∷ arguments) (option_map suc place) ≡ at_place arguments place
  at_next first arguments None = refl
  at_next first arguments (Some index) = refl

  -- the first argument of that name
  argument_of_place : (name : List ℕ) (arguments : List Supplied)
      → argument_of name (ready names arguments) ≡ at_place arguments (place_of name (names_of (parameters_in arguments)))
  argument_of_place name [] = refl
  argument_of_place name (first ∷ arguments) =
      by (bytes_eq name first.parameter.now.name) (argument_of_place name arguments)
    where
      by : (same : Bool)
          → argument_of name (ready names arguments) ≡ at_place arguments (place_of name (names_of (parameters_in arguments)))
          → (if same then Some (done names first.tokens.items) else argument_of name (ready names arguments))
          ≡ at_place (first ∷ arguments) (if same then Some 0 else option_map suc (place_of name (names_of (parameters_in arguments))))
      by true later = refl
      by false later = later ∙ sym (at_next first arguments (place_of name (names_of (parameters_in arguments))))

  -- the argument that a token stands for is the one at its place
  pub argument_by : (token : Token) (arguments : List Supplied) (place : Option ℕ) → place ≡ place_in (names_of (parameters_in arguments)) token
      → argument_for token (ready names arguments) ≡ at_place arguments place
  argument_by token arguments place is = by (is_identifier token) ∙ ap (at_place arguments) (sym is)
    where
      by : (identifier : Bool)
          → (if identifier then argument_of token.text (ready names arguments) else None)
          ≡ at_place arguments (if identifier then place_of token.text (names_of (parameters_in arguments)) else None)
      by true = argument_of_place token.text arguments
      by false = refl
