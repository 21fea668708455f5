-- The arguments so far: what is left of the tokens decides the rest.
--     collected_token, collected_comma     a token, and a comma, at the front
--     ahead-push, done-push                the next token ahead, and the last that is done
--     put_next, put_one, put_many          tokens that are put from the last one on
--     paired_step, none_left               the last parameter with the last argument, or without one
-- `table` has the names of all macros, in the order of their numbers.
use Rattle.std.proofs.Common.{◌≡◌, ℕ, ◌+◌, ◌-◌, ◌≤◌, Bool, true, false, List, [], ◌∷◌, ◌++◌, map, Option, Some, None, Vec, Global, refl, sym, ap, ◌∙◌, append_assoc, if◌then◌else◌, arith}
use Rattle.std.specs.Prelude.{◌==◌, ◌&&◌, codes}
use Rattle.std.specs.List.{flat_map}
use Rattle.std.proofs.lemmas.Grind.{flat_map-append}
use Rattle.std.proofs.lemmas.List.{append-nil, map-append, reverse-append}
use Rattle.hs_tokens.specs.Marks.{is_mark}
use Rattle.hs_tokens.specs.declared.token.Token.{Token}
use Rattle.hs_macros.specs.Arguments.{Hidden, Arguments, with_token, with_comma, role_of, arguments_at, arguments_from, Argument, with_argument, paired}
use Rattle.hs_macros.specs.Stacks.{parameters_in, parameters_ahead, Collected, collected, hidden, ahead, done, argument, waiting, with_later}
use Rattle.hs_macros.specs.declared.pending.Pending.{Pending}
use Rattle.hs_macros.specs.declared.arguments.Supplied.{Supplied}
use Rattle.hs_macros.specs.declared.slot.Parameter.{Parameter}
use Rattle.hs_macros.specs.declared.arguments.Role.TheVariants.{Ends, Separates, Inside}

-- a token goes into the next argument
pub collected_token : (given : List (List Hidden)) (argument : List Hidden) (token : Hidden) (found : Option Arguments)
    → collected given argument (with_token token found) ≡ collected given (argument ++ token ∷ []) found
collected_token given argument token None = refl
collected_token given argument token (Some found) =
    ap (λ (first : List Hidden). Some (record { given = given ++ first ∷ found.others; close = found.close; behind = found.behind }))
    (sym (append_assoc argument (token ∷ []) found.first))

-- a comma ends it
pub collected_comma : (given : List (List Hidden)) (argument : List Hidden) (found : Option Arguments)
    → collected given argument (with_comma found) ≡ collected (given ++ argument ∷ []) [] found
collected_comma given argument None = refl
collected_comma given argument (Some found) =
    let ended : given ++ (argument ++ []) ∷ found.first ∷ found.others ≡ (given ++ argument ∷ []) ++ found.first ∷ found.others =
    ap (λ (last : List Hidden). given ++ last ∷ found.first ∷ found.others) (append-nil argument)
    ∙ sym (append_assoc given (argument ∷ []) (found.first ∷ found.others)) in
    ap (λ (all : List (List Hidden)). Some (record { given = all; close = found.close; behind = found.behind })) ended

-- by four tests
depth_by : (opens closes outermost separates : Bool) (depth further : ℕ)
    → (if opens then Inside (depth + 1) else if closes then (if outermost then Ends else Inside (depth - 1)) else if separates then Separates else Inside depth)
    ≡ Inside further → further ≤ depth + 1
depth_by true closes outermost separates depth further is = let same : depth + 1 ≡ further = cc in omega arith
depth_by false true true separates depth further is = absurd cc
depth_by false true false separates depth further is = let same : depth - 1 ≡ further = cc in omega arith
depth_by false false outermost true depth further is = absurd cc
depth_by false false outermost false depth further is = let same : depth ≡ further = cc in omega arith

-- a token opens one parenthesis at most
pub depth_grows : (depth further : ℕ) (token : Token) → role_of depth token ≡ Inside further → further ≤ depth + 1
depth_grows depth further token is =
    depth_by (is_mark (codes "(") token) (is_mark (codes ")") token) (depth == 0) (is_mark (codes ",") token && (depth == 0)) depth further is

-- the last parameter with the last argument
paired-push : (names : List (List ℕ)) (given : List (List Hidden)) (name : List ℕ) (tokens : List Hidden) (later : List Argument)
    → with_later (paired (names ++ name ∷ []) (given ++ tokens ∷ [])) later
    ≡ with_later (paired names given) (record { parameter = name; tokens = tokens } ∷ later)
paired-push [] [] name tokens later = refl
paired-push [] (other ∷ []) name tokens later = refl
paired-push [] (other ∷ second ∷ given) name tokens later = refl
paired-push (first ∷ []) [] name tokens later = refl
paired-push (first ∷ second ∷ names) [] name tokens later = refl
paired-push (first ∷ names) (other ∷ given) name tokens later =
    in_front (record { parameter = first; tokens = other }) (paired (names ++ name ∷ []) (given ++ tokens ∷ [])) (paired names given) later
    (record { parameter = name; tokens = tokens } ∷ later) (paired-push names given name tokens later)
  where
    -- an argument in front changes nothing
    in_front : (argument : Argument) (all some : Option (List Argument)) (later more : List Argument)
        → with_later all later ≡ with_later some more → with_later (with_argument argument all) later ≡ with_later (with_argument argument some) more
    in_front argument None None later more same = refl
    in_front argument None (Some some) later more same = absurd cc
    in_front argument (Some all) None later more same = absurd cc
    in_front argument (Some all) (Some some) later more same =
        let behind : all ++ later ≡ some ++ more = cc in ap (λ (arguments : List Argument). Some (argument ∷ arguments)) behind

-- a name without an argument
paired_short : (others : List (List ℕ)) (name : List ℕ) → paired (others ++ name ∷ []) [] ≡ None
paired_short [] name = refl
paired_short (first ∷ others) name = refl

-- the last parameter goes in front of those that have an argument
pub parameters_step : (left others : List Parameter) (parameter : Parameter) (later more : List Supplied) (supplied : Supplied) (all : List Parameter)
    → left ≡ others ++ parameter ∷ [] → more ≡ later ++ supplied ∷ [] → supplied.parameter.now ≡ parameter
    → left ++ parameters_ahead later ≡ all → others ++ parameters_ahead more ≡ all
parameters_step left others parameter later more supplied all split pushed named same =
    ap (λ (arguments : List Supplied). others ++ parameters_ahead arguments) pushed
    ∙ ap (λ (arguments : List Supplied). others ++ parameters_in arguments) (reverse-append later (supplied ∷ []))
    ∙ ap (λ (first : Parameter). others ++ first ∷ parameters_ahead later) named
    ∙ sym (append_assoc others (parameter ∷ []) (parameters_ahead later))
    ∙ ap (λ (front : List Parameter). front ++ parameters_ahead later) (sym split)
    ∙ same

module _ (table : List (List ℕ)) where
  -- the last token of the list is the next one ahead
  pub ahead-push : (tokens : List Pending) (token : Pending) → ahead table (tokens ++ token ∷ []) ≡ hidden table token ∷ ahead table tokens
  ahead-push tokens token = ap (λ (pending : List Pending). map (hidden table) pending) (reverse-append tokens (token ∷ []))

  -- and comes last of those that are done
  pub done-push : (tokens : List Pending) (token : Pending) → done table (tokens ++ token ∷ []) ≡ done table tokens ++ hidden table token ∷ []
  done-push tokens token = map-append (hidden table) tokens (token ∷ [])

  -- a token that is put next, of the last item that is left
  pub put_next : {X : Type 0} (view : X → Hidden) (left rest : List X) (item : X) (tokens more : List Pending) (token : Pending) (all : List Hidden)
      → left ≡ rest ++ item ∷ [] → more ≡ tokens ++ token ∷ [] → hidden table token ≡ view item
      → map view left ++ ahead table tokens ≡ all → map view rest ++ ahead table more ≡ all
  put_next view left rest item tokens more token all taken pushed is same =
      ap (λ (pending : List Pending). map view rest ++ ahead table pending) pushed
      ∙ ap (λ (pending : List Hidden). map view rest ++ pending) (ahead-push tokens token)
      ∙ ap (λ (first : Hidden). map view rest ++ first ∷ ahead table tokens) is
      ∙ sym (append_assoc (map view rest) (view item ∷ []) (ahead table tokens))
      ∙ ap (λ (front : List Hidden). front ++ ahead table tokens) (sym (ap (map view) taken ∙ map-append view rest (item ∷ [])))
      ∙ same

  -- the same if each item stands for several tokens, and this one for one
  pub put_one : {X : Type 0} (view : X → List Hidden) (left rest : List X) (item : X) (tokens more : List Pending) (token : Pending) (all : List Hidden)
      → left ≡ rest ++ item ∷ [] → more ≡ tokens ++ token ∷ [] → view item ≡ hidden table token ∷ []
      → flat_map view left ++ ahead table tokens ≡ all → flat_map view rest ++ ahead table more ≡ all
  put_one view left rest item tokens more token all taken pushed is same =
      ap (λ (pending : List Pending). flat_map view rest ++ ahead table pending) pushed
      ∙ ap (λ (pending : List Hidden). flat_map view rest ++ pending) (ahead-push tokens token)
      ∙ sym (append_assoc (flat_map view rest) (hidden table token ∷ []) (ahead table tokens))
      ∙ ap (λ (front : List Hidden). (flat_map view rest ++ (front ++ [])) ++ ahead table tokens) (sym is)
      ∙ ap (λ (front : List Hidden). front ++ ahead table tokens) (sym (ap (flat_map view) taken ∙ flat_map-append view rest (item ∷ [])))
      ∙ same

  -- the same if it stands for these
  pub put_many : {X : Type 0} (view : X → List Hidden) (left rest : List X) (item : X) (tokens more : List Pending) (front : List Hidden) (all : List Hidden)
      → left ≡ rest ++ item ∷ [] → ahead table more ≡ front ++ ahead table tokens → view item ≡ front
      → flat_map view left ++ ahead table tokens ≡ all → flat_map view rest ++ ahead table more ≡ all
  put_many view left rest item tokens more front all taken put is same =
      ap (λ (pending : List Hidden). flat_map view rest ++ pending) put
      ∙ sym (append_assoc (flat_map view rest) front (ahead table tokens))
      ∙ ap (λ (front' : List Hidden). (flat_map view rest ++ front') ++ ahead table tokens) (sym is ∙ sym (append-nil (view item)))
      ∙ ap (λ (front' : List Hidden). front' ++ ahead table tokens) (sym (ap (flat_map view) taken ∙ flat_map-append view rest (item ∷ [])))
      ∙ same

  -- an argument in the definition's words
  abbrev pub row : Vec Pending Global → List Hidden
  row argument = done table argument.items

  -- the comma at the front ends the argument
  pub separated : (given more : List (Vec Pending Global)) (argument blank : Vec Pending Global) (depth : ℕ) (tokens behind : List Pending) (token : Pending)
      (all : Option Collected) → tokens ≡ behind ++ token ∷ [] → more ≡ given ++ argument ∷ [] → blank.items ≡ [] → role_of depth token.token.now ≡ Separates
      → collected (map row given) (row argument) (arguments_from depth (ahead table tokens)) ≡ all
      → collected (map row more) (row blank) (arguments_from 0 (ahead table behind)) ≡ all
  separated given more argument blank depth tokens behind token all taken pushed empty is same =
      let later : ℕ → Option Arguments = λ depth'. arguments_from depth' (ahead table behind) in
      let here : arguments_from depth (ahead table tokens) ≡ with_comma (arguments_from 0 (ahead table behind)) =
      ap (λ (pending : List Pending). arguments_from depth (ahead table pending)) taken
      ∙ ap (arguments_from depth) (ahead-push behind token)
      ∙ ap (arguments_at (hidden table token) (ahead table behind) later) is in
      let rows : map row more ≡ map row given ++ row argument ∷ [] = ap (map row) pushed ∙ map-append row given (argument ∷ []) in
      ap (λ (tokens' : List Pending). collected (map row more) (done table tokens') (arguments_from 0 (ahead table behind))) empty
      ∙ ap (λ (given' : List (List Hidden)). collected given' [] (arguments_from 0 (ahead table behind))) rows
      ∙ sym (collected_comma (map row given) (row argument) (arguments_from 0 (ahead table behind)))
      ∙ ap (collected (map row given) (row argument)) (sym here)
      ∙ same

  -- the token at the front goes into the argument
  pub inside : (given : List (List Hidden)) (argument more : List Pending) (depth further : ℕ) (tokens behind : List Pending) (token : Pending)
      (all : Option Collected) → tokens ≡ behind ++ token ∷ [] → more ≡ argument ++ token ∷ [] → role_of depth token.token.now ≡ Inside further
      → collected given (done table argument) (arguments_from depth (ahead table tokens)) ≡ all
      → collected given (done table more) (arguments_from further (ahead table behind)) ≡ all
  inside given argument more depth further tokens behind token all taken pushed is same =
      let later : ℕ → Option Arguments = λ depth'. arguments_from depth' (ahead table behind) in
      let here : arguments_from depth (ahead table tokens) ≡ with_token (hidden table token) (arguments_from further (ahead table behind)) =
      ap (λ (pending : List Pending). arguments_from depth (ahead table pending)) taken
      ∙ ap (arguments_from depth) (ahead-push behind token)
      ∙ ap (arguments_at (hidden table token) (ahead table behind) later) is in
      let longer : done table more ≡ done table argument ++ hidden table token ∷ [] = ap (done table) pushed ∙ done-push argument token in
      ap (λ (argument' : List Hidden). collected given argument' (arguments_from further (ahead table behind))) longer
      ∙ sym (collected_token given (done table argument) (hidden table token) (arguments_from further (ahead table behind)))
      ∙ ap (collected given (done table argument)) (sym here)
      ∙ same

  -- the last name with the last tokens
  pub paired_step : (names others : List (List ℕ)) (name : List ℕ) (given rest : List (Vec Pending Global)) (tokens : Vec Pending Global)
      (later more : List Supplied) (supplied : Supplied) (all : Option (List Argument))
      → names ≡ others ++ name ∷ [] → given ≡ rest ++ tokens ∷ [] → more ≡ later ++ supplied ∷ []
      → supplied.parameter.now.name ≡ name → supplied.tokens ≡ tokens
      → with_later (paired names (map row given)) (waiting table later) ≡ all → with_later (paired others (map row rest)) (waiting table more) ≡ all
  paired_step names others name given rest tokens later more supplied all split popped pushed named taken same =
      let pair : argument table supplied ≡ record { parameter = name; tokens = row tokens } =
      (λ i. record { parameter = named i; tokens = row (taken i) }) in
      let next : waiting table more ≡ record { parameter = name; tokens = row tokens } ∷ waiting table later =
      ap (waiting table) pushed ∙ ap (map (argument table)) (reverse-append later (supplied ∷ []))
      ∙ ap (λ (first : Argument). first ∷ waiting table later) pair in
      ap (with_later (paired others (map row rest))) next
      ∙ sym (paired-push others (map row rest) name (row tokens) (waiting table later))
      ∙ ap (λ (given' : List (List Hidden)). with_later (paired (others ++ name ∷ []) given') (waiting table later))
      (sym (ap (map row) popped ∙ map-append row rest (tokens ∷ [])))
      ∙ ap (λ (names' : List (List ℕ)). with_later (paired names' (map row given)) (waiting table later)) (sym split)
      ∙ same

  -- so there are fewer arguments than parameters
  pub none_left : (names others : List (List ℕ)) (name : List ℕ) (given : List (Vec Pending Global)) (later : List Argument) (all : Option (List Argument))
      → names ≡ others ++ name ∷ [] → given ≡ [] → with_later (paired names (map row given)) later ≡ all → None ≡ all
  none_left names others name given later all split none same =
      ap (λ (arguments : Option (List Argument)). with_later arguments later)
      (sym (ap (λ (names' : List (List ℕ)). paired names' []) split ∙ paired_short others name))
      ∙ ap (λ (given' : List (Vec Pending Global)). with_later (paired names (map row given')) later) (sym none)
      ∙ same
