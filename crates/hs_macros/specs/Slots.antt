-- What a definition knows of its parameters and its tokens, so that no use of the macro looks for a name.
--     names_of parameters, tokens_of body     the names, and the tokens
--     place_in names token                    the parameter that the token names, by its index
--     is_in name tokens                       some token names the parameter
--     HasPlaces names places, HasTexts tokens texts     what a map and a set know of them
--     Fits parameters body                    each token knows its parameter, and each parameter whether it is named
use Rattle.std.specs.Prelude.{◌≡◌, ℕ, suc, Bool, ◌&&◌, List, [], ◌∷◌, map, Option, Some, None, Vec, if◌then◌else◌}
use Rattle.std.specs.List.{list_any}
use Rattle.std.specs.Option.{option_map}
use Rattle.std.specs.Borrow.{Bor}
use Rattle.std.specs.HashMap.{HashMap, get_by}
use Rattle.std.specs.HashSet.{HashSet, contains_by}
use Rattle.std.specs.Str.{bytes_eq}
use Rattle.std.specs.declared.alloc.Global.{Global}
use Rattle.hs_tokens.specs.declared.token.Token.{Token}
use Rattle.hs_tokens.specs.Marks.{is_identifier}
use Rattle.hs_macros.specs.Forms.{Form}
use Rattle.hs_macros.specs.declared.slot.Parameter.{Parameter}
use Rattle.hs_macros.specs.declared.slot.Slot.{Slot}

-- the names of the parameters
abbrev pub names_of : List Parameter → List (List ℕ)
names_of parameters = map (λ parameter. parameter.name) parameters

-- the tokens of the macro
abbrev pub tokens_of : List Slot → List Token
tokens_of body = map (λ slot. slot.token) body

-- the index of the first such name
abbrev pub place_of : List ℕ → List (List ℕ) → Option ℕ
place_of name [] = None
place_of name (first ∷ names) = if bytes_eq name first then Some 0 else option_map suc (place_of name names)

-- the index of the parameter that the token names, if it names one
abbrev pub place_in : List (List ℕ) → Token → Option ℕ
place_in names token = if is_identifier token then place_of token.text names else None

-- some token names the parameter
abbrev pub is_in : List ℕ → List Token → Bool
is_in name tokens = list_any (λ token. is_identifier token && bytes_eq token.text name) tokens

-- the map has the index of each name
abbrev pub HasPlaces : {S : Type 0} → List (List ℕ) → HashMap (Bor (List ℕ)) ℕ S → Type 0
HasPlaces names places = (name : List ℕ) → get_by (λ other. bytes_eq name other.now) places ≡ place_of name names

-- the set has the texts of the identifiers among the tokens
abbrev pub HasTexts : {S : Type 0} → List Token → HashSet (Bor (List ℕ)) S → Type 0
HasTexts tokens texts = (name : List ℕ) → contains_by (λ other. bytes_eq name other.now) texts ≡ is_in name tokens

-- each token knows which parameter it names
abbrev pub ArePlaced : List (List ℕ) → List Slot → Type 0
ArePlaced names body = map (λ slot. slot.parameter) body ≡ map (λ slot. place_in names slot.token) body

-- each parameter knows whether some token names it
abbrev pub AreMarked : List Parameter → List Token → Type 0
AreMarked parameters tokens = map (λ parameter. parameter.used) parameters ≡ map (λ parameter. is_in parameter.name tokens) parameters

-- both
abbrev pub Fits : List Parameter → List Slot → Type 0
Fits parameters body = ArePlaced (names_of parameters) body × AreMarked parameters (tokens_of body)

-- the parameters, none of an object-like macro
abbrev pub all_of : Option (Vec Parameter Global) → List Parameter
all_of None = []
all_of (Some parameters) = parameters.items

-- what contracts see of the parameters and the tokens
abbrev pub form_of : Option (Vec Parameter Global) → List Slot → Form
form_of parameters body = record { parameters = option_map (λ all. names_of all.items) parameters; body = tokens_of body }
