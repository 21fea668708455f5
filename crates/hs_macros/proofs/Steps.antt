-- One step of the code's stack: what is left comes to the same as all, and less is left.
--     resumed-push, resumed-Err       one more invocation waits;  a refusal comes to a refusal
--     begins, places, refuses         an argument is begun;  the tokens are put in place, or pass a limit
--     ends                            an argument is expanded
--     next_ahead, refused_all         the next token;  what refuses what is left
--     all_done                        nothing is left
use Rattle.std.proofs.Common.{◌≡◌, ℕ, ◌+◌, ◌≤◌, Bool, true, false, List, [], ◌∷◌, ◌++◌, map, reverse, length, Result, Ok, Err, Vec, Global, Bor, refl, sym, ap, subst, ◌∙◌, inl, inr, ◌⊎◌, append_assoc, arith, length-append, if◌then◌else◌}
use Rattle.std.proofs.lemmas.List.{append-nil, map-append, reverse-append, reverse-reverse, length-map, length-reverse}
use Rattle.hs_tokens.specs.declared.token.SourceToken.{SourceToken}
use Rattle.hs_macros.specs.Arguments.{Hidden, Argument}
use Rattle.hs_macros.specs.Definitions.{Definitions}
use Rattle.hs_macros.specs.Refusals.{IsRefusal}
use Rattle.hs_macros.specs.Replacement.{Invocation, Found, stays, wrong, invoked, found, is_used, placed, spent, Expansion, Outcome, with_front, and_then, placed_again, called, expanded_at, expanded, Replaced, replaced_by}
use Rattle.hs_macros.specs.Loads.{load, held_of_found}
use Rattle.hs_macros.specs.ExpandedLaws.{spent_tokens, expanded-none, expanded-token}
use Rattle.hs_macros.specs.Slots.{names_of, tokens_of, ArePlaced, AreMarked}
use Rattle.hs_macros.specs.Stacks.{parameters_around, hidden, done, ahead, argument, ready, waiting, invocation}
use Rattle.hs_macros.specs.Frames.{frame_outcome, call_outcome, after_argument, resumed, with_sources, IsStep, weight_of, weights, weight}
use Rattle.hs_macros.specs.declared.arguments.Supplied.{Supplied}
use Rattle.hs_macros.specs.declared.budget.Budget.{Budget}
use Rattle.hs_macros.specs.declared.call.Call.{Call}
use Rattle.hs_macros.specs.declared.error.MacroError.{MacroError}
use Rattle.hs_macros.specs.declared.error.MacroError.TheVariants.{ArgCount, NoMemory}
use Rattle.hs_macros.specs.declared.frame.Frame.{Frame}
use Rattle.hs_macros.specs.declared.frame.Suspended.{Suspended}
use Rattle.hs_macros.specs.declared.pending.Pending.{Pending}
use Rattle.hs_macros.specs.declared.slot.Parameter.{Parameter}

-- no tokens in front change nothing
front_none : (outcome : Outcome) → with_front [] outcome ≡ outcome
front_none (Err error) = refl
front_none (Ok expansion) = refl

-- tokens in front of a sequence stand in front of what comes last
front_then : (front : List Hidden) (first : Outcome) (next : Expansion → Outcome)
    → with_front front (and_then first next) ≡ and_then first (λ between. with_front front (next between))
front_then front (Err error) next = refl
front_then front (Ok between) next = refl

-- tokens in front of tokens
pub front_front : (front more : List Hidden) (outcome : Outcome) → with_front (front ++ more) outcome ≡ with_front front (with_front more outcome)
front_front front more (Err error) = refl
front_front front more (Ok expansion) =
    ap (λ (tokens : List Hidden). Ok (record { tokens = tokens; left = expansion.left })) (append_assoc front more expansion.tokens)

-- an argument that the macro uses, and the others
used_first : (macros : Definitions) (call : Invocation) (ready' later : List Argument) (first : Argument) (left : Budget)
    → is_used first.parameter call.body ≡ true
    → called (expanded macros) call ready' (first ∷ later) left
    ≡ and_then (expanded macros left first.tokens)
    (λ done'. called (expanded macros) call (ready' ++ record { parameter = first.parameter; tokens = done'.tokens } ∷ []) later done'.left)
used_first macros call ready' later first left used =
    let expands : Outcome = and_then (expanded macros left first.tokens)
    (λ done'. called (expanded macros) call (ready' ++ record { parameter = first.parameter; tokens = done'.tokens } ∷ []) later done'.left) in
    let skips : Outcome = called (expanded macros) call (ready' ++ first ∷ []) later left in
    ap (λ (answer : Bool). if answer then expands else skips) used

-- an argument that the macro does not use is ready as it is
unused_first : (macros : Definitions) (call : Invocation) (ready' later : List Argument) (first : Argument) (left : Budget)
    → is_used first.parameter call.body ≡ false
    → called (expanded macros) call ready' (first ∷ later) left ≡ called (expanded macros) call (ready' ++ first ∷ []) later left
unused_first macros call ready' later first left unused =
    let expands : Outcome = and_then (expanded macros left first.tokens)
    (λ done'. called (expanded macros) call (ready' ++ record { parameter = first.parameter; tokens = done'.tokens } ∷ []) later done'.left) in
    let skips : Outcome = called (expanded macros) call (ready' ++ first ∷ []) later left in
    ap (λ (answer : Bool). if answer then expands else skips) unused

-- no tokens are ahead: those that are done are all
pub whole_done : (macros : Definitions) (before : List Hidden) (left : Budget)
    → with_front before (expanded macros left []) ≡ Ok (record { tokens = before; left = left })
whole_done macros before left =
    ap (with_front before) (expanded-none macros left)
    ∙ ap (λ (tokens : List Hidden). Ok (record { tokens = tokens; left = left })) (append-nil before)

-- what comes to the same as the whole decides the whole
pub step_of : (whole other : Outcome) (later : Frame → Outcome) (result : Result Frame MacroError)
    → whole ≡ other → IsStep whole later result → IsStep other later result
step_of whole other later result same step = subst (λ (outcome : Outcome). IsStep outcome later result) same step

-- what refuses what is left refuses all
pub refused_all : (sources : List SourceToken) (outcome : Outcome) (all : Result Replaced MacroError) (error : MacroError)
    → with_sources sources (replaced_by outcome) ≡ all → IsRefusal outcome error → IsRefusal all error
refused_all sources outcome all error comes (inl memory) = inl memory
refused_all sources outcome all error comes (inr refusal) = inr (sym comes ∙ ap (λ (outcome' : Outcome). with_sources sources (replaced_by outcome')) refusal)

module _ (names : List (List ℕ)) where
  -- one more invocation waits: it gets what the innermost comes to
  pub resumed-push : (macros : Definitions) (calls : List Suspended) (last : Suspended) (outcome : Outcome)
      → resumed names macros (calls ++ last ∷ []) outcome ≡ resumed names macros calls (and_then outcome (after_argument names macros last))
  resumed-push macros [] last outcome = refl
  resumed-push macros (first ∷ calls) last outcome =
      ap (λ (inner : Outcome). and_then inner (after_argument names macros first)) (resumed-push macros calls last outcome)

  -- a refusal comes to a refusal
  pub resumed-Err : (macros : Definitions) (calls : List Suspended) (error : MacroError) → resumed names macros calls (Err error) ≡ Err error
  resumed-Err macros [] error = refl
  resumed-Err macros (first ∷ calls) error = ap (λ (inner : Outcome). and_then inner (after_argument names macros first)) (resumed-Err macros calls error)

  -- one more invocation that waits weighs more by itself
  pub weights-push : (calls : List Suspended) (last : Suspended) → weights names (calls ++ last ∷ []) ≡ weights names calls + weight_of names last
  weights-push [] last = omega arith
  weights-push (first ∷ calls) last = omega (arith, weights-push calls last)

  -- the next argument is the last of those that wait
  waiting-push : (rest : List Supplied) (last : Supplied) → waiting names (rest ++ last ∷ []) ≡ argument names last ∷ waiting names rest
  waiting-push rest last = ap (map (argument names)) (reverse-append rest (last ∷ []))

  -- as many tokens as the list has
  length-ahead : (tokens : List Pending) → length (ahead names tokens) ≡ length tokens
  length-ahead tokens = length-map (reverse tokens) (hidden names) ∙ length-reverse tokens

  -- the next argument is begun
  pub begins : (macros : Definitions) (calls more : List Suspended) (before tokens blank : Vec Pending Global) (call : Call) (rest : Vec Supplied Global)
      (next : Supplied) (left : Budget)
      (placed : ArePlaced (names_of (parameters_around (record call { waiting = rest }) next.parameter)) call.body.now)
      (marked : AreMarked (parameters_around (record call { waiting = rest }) next.parameter) (tokens_of call.body.now))
      → call.waiting.items ≡ rest.items ++ next ∷ [] → is_used next.parameter.now.name (tokens_of call.body.now) ≡ true
      → blank.items ≡ [] → tokens.items ≡ reverse next.tokens.items
      → more ≡ calls ++ record { before = before; call = record call { waiting = rest }; parameter = next.parameter; placed = placed; marked = marked } ∷ []
      → resumed names macros more (frame_outcome names macros (record { before = blank; tokens = tokens; left = left }))
      ≡ resumed names macros calls (call_outcome names macros (done names before.items) call left)
  begins macros calls more before tokens blank call rest next left placed marked popped used empty turned pushed =
      let last : Suspended = record { before = before; call = record call { waiting = rest }; parameter = next.parameter; placed = placed; marked = marked } in
      let tokens_ahead : ahead names tokens.items ≡ done names next.tokens.items =
      ap (ahead names) turned ∙ ap (done names) (reverse-reverse next.tokens.items) in
      let begun : frame_outcome names macros (record { before = blank; tokens = tokens; left = left }) ≡ expanded macros left (done names next.tokens.items) =
      ap (λ (front : List Pending). with_front (done names front) (expanded macros left (ahead names tokens.items))) empty
      ∙ front_none (expanded macros left (ahead names tokens.items))
      ∙ ap (expanded macros left) tokens_ahead in
      let later : Expansion → Outcome = λ done'. called (expanded macros) (invocation names call)
      (ready names call.ready.items ++ record { parameter = next.parameter.now.name; tokens = done'.tokens } ∷ []) (waiting names rest.items) done'.left in
      let whole : call_outcome names macros (done names before.items) call left
      ≡ and_then (expanded macros left (done names next.tokens.items)) (after_argument names macros last) =
      ap (λ (arguments : List Argument). with_front (done names before.items)
      (called (expanded macros) (invocation names call) (ready names call.ready.items) arguments left))
      (ap (waiting names) popped ∙ waiting-push rest.items next)
      ∙ ap (with_front (done names before.items))
      (used_first macros (invocation names call) (ready names call.ready.items) (waiting names rest.items) (argument names next) left used)
      ∙ front_then (done names before.items) (expanded macros left (done names next.tokens.items)) later in
      ap (λ (all : List Suspended). resumed names macros all (frame_outcome names macros (record { before = blank; tokens = tokens; left = left }))) pushed
      ∙ resumed-push macros calls last (frame_outcome names macros (record { before = blank; tokens = tokens; left = left }))
      ∙ ap (resumed names macros calls) (ap (λ (outcome : Outcome). and_then outcome (after_argument names macros last)) begun ∙ sym whole)

  -- an argument that the macro does not use changes nothing of what comes of the invocation
  pub skips : (macros : Definitions) (before : List Hidden) (call : Call) (rest ready' : Vec Supplied Global) (next : Supplied) (left : Budget)
      → call.waiting.items ≡ rest.items ++ next ∷ [] → ready'.items ≡ call.ready.items ++ next ∷ []
      → is_used next.parameter.now.name (tokens_of call.body.now) ≡ false
      → call_outcome names macros before (record call { waiting = rest; ready = ready' }) left ≡ call_outcome names macros before call left
  skips macros before call rest ready' next left popped pushed unused =
      ap (λ (arguments : List Argument). with_front before (called (expanded macros) (invocation names call) arguments (waiting names rest.items) left))
      (ap (ready names) pushed ∙ map-append (argument names) call.ready.items (next ∷ []))
      ∙ ap (with_front before)
      (sym (unused_first macros (invocation names call) (ready names call.ready.items) (waiting names rest.items) (argument names next) left unused))
      ∙ ap (λ (arguments : List Argument). with_front before (called (expanded macros) (invocation names call) (ready names call.ready.items) arguments left))
      (sym (ap (waiting names) popped ∙ waiting-push rest.items next))

  -- and is less to do
  pub skips_falls : (waits rest : List Supplied) (next : Supplied) → waits ≡ rest ++ next ∷ [] → load (waiting names rest) ≤ load (waiting names waits)
  skips_falls waits rest next popped = omega (arith, ap load (ap (waiting names) popped ∙ waiting-push rest next))

  -- what an argument that is begun leaves to do
  pub begins_falls : (calls more : List Suspended) (before tokens blank : Vec Pending Global) (call : Call) (rest : Vec Supplied Global)
      (next : Supplied) (left : Budget)
      (placed : ArePlaced (names_of (parameters_around (record call { waiting = rest }) next.parameter)) call.body.now)
      (marked : AreMarked (parameters_around (record call { waiting = rest }) next.parameter) (tokens_of call.body.now))
      → call.waiting.items ≡ rest.items ++ next ∷ [] → tokens.items ≡ reverse next.tokens.items
      → more ≡ calls ++ record { before = before; call = record call { waiting = rest }; parameter = next.parameter; placed = placed; marked = marked } ∷ []
      → weights names more + weight (record { before = blank; tokens = tokens; left = left })
      ≤ weights names calls + load (waiting names call.waiting.items) + length call.behind.items + left.tokens
  begins_falls calls more before tokens blank call rest next left placed marked popped turned pushed =
      let last : Suspended = record { before = before; call = record call { waiting = rest }; parameter = next.parameter; placed = placed; marked = marked } in
      let heavier : weights names more ≡ weights names calls + weight_of names last = ap (weights names) pushed ∙ weights-push calls last in
      let held : load (waiting names call.waiting.items) ≡ length (done names next.tokens.items) + 1 + load (waiting names rest.items) =
      ap load (ap (waiting names) popped ∙ waiting-push rest.items next) in
      let many : length tokens.items ≡ length next.tokens.items = ap length turned ∙ length-reverse next.tokens.items in
      omega (arith, heavier, held, many, length-map next.tokens.items (hidden names))

  -- no argument waits: the tokens are put in place
  last_placed : (macros : Definitions) (before : List Hidden) (call : Call) (left : Budget) (answer : Result Budget MacroError) → call.waiting.items ≡ []
      → answer ≡ spent left (length (placed (invocation names call) (ready names call.ready.items)))
      → call_outcome names macros before call left
      ≡ with_front before (placed_again (expanded macros) (invocation names call) (placed (invocation names call) (ready names call.ready.items)) answer)
  last_placed macros before call left answer none is =
      ap (λ (arguments : List Supplied). with_front before
      (called (expanded macros) (invocation names call) (ready names call.ready.items) (waiting names arguments) left)) none
      ∙ ap (λ (after : Result Budget MacroError). with_front before
      (placed_again (expanded macros) (invocation names call) (placed (invocation names call) (ready names call.ready.items)) after)) (sym is)

  -- what the macro puts in place comes to what comes of the invocation
  pub places : (macros : Definitions) (calls : List Suspended) (before tokens : Vec Pending Global) (call : Call) (left after : Budget)
      → call.waiting.items ≡ [] → Ok after ≡ spent left (length (placed (invocation names call) (ready names call.ready.items)))
      → ahead names tokens.items ≡ placed (invocation names call) (ready names call.ready.items) ++ ahead names call.behind.items
      → resumed names macros calls (frame_outcome names macros (record { before = before; tokens = tokens; left = after }))
      ≡ resumed names macros calls (call_outcome names macros (done names before.items) call left)
  places macros calls before tokens call left after none is put =
      ap (resumed names macros calls)
      (ap (λ (tokens' : List Hidden). with_front (done names before.items) (expanded macros after tokens')) put
      ∙ sym (last_placed macros (done names before.items) call left (Ok after) none is))

  -- with so much less that may be put in place
  pub places_falls : (tokens : Vec Pending Global) (call : Call) (left after : Budget)
      → Ok after ≡ spent left (length (placed (invocation names call) (ready names call.ready.items)))
      → ahead names tokens.items ≡ placed (invocation names call) (ready names call.ready.items) ++ ahead names call.behind.items
      → length tokens.items + after.tokens ≡ length call.behind.items + left.tokens
  places_falls tokens call left after is put =
      omega (
        arith,
        length-ahead tokens.items,
        ap length put,
        length-append (placed (invocation names call) (ready names call.ready.items)) (ahead names call.behind.items),
        length-ahead call.behind.items,
        spent_tokens left after (length (placed (invocation names call) (ready names call.ready.items))) (sym is),
      )

  -- or they pass a limit
  pub refuses : (macros : Definitions) (calls : List Suspended) (before : List Hidden) (call : Call) (left : Budget) (error : MacroError)
      → call.waiting.items ≡ [] → Err error ≡ spent left (length (placed (invocation names call) (ready names call.ready.items)))
      → resumed names macros calls (call_outcome names macros before call left) ≡ Err error
  refuses macros calls before call left error none is =
      ap (resumed names macros calls) (last_placed macros before call left (Err error) none is) ∙ resumed-Err macros calls error

  -- the same invocation with the same arguments waiting
  pub same_waiting : (macros : Definitions) (before : List Hidden) (call : Call) (rest : Vec Supplied Global) (left : Budget) → rest.items ≡ call.waiting.items
      → call_outcome names macros before (record call { waiting = rest }) left ≡ call_outcome names macros before call left
  same_waiting macros before call rest left same =
      ap (λ (arguments : List Supplied). with_front before
      (called (expanded macros) (invocation names call) (ready names call.ready.items) (waiting names arguments) left)) same

  -- a token that stays is done
  pub stays_done : (macros : Definitions) (before more : List Pending) (token : Pending) (rest : List Hidden) (left : Budget)
      → more ≡ before ++ token ∷ []
      → with_front (done names more) (expanded macros left rest)
      ≡ with_front (done names before) (with_front (hidden names token ∷ []) (expanded macros left rest))
  stays_done macros before more token rest left pushed =
      ap (λ (front : List Hidden). with_front front (expanded macros left rest)) (ap (done names) pushed ∙ map-append (hidden names) before (token ∷ []))
      ∙ front_front (done names before) (hidden names token ∷ []) (expanded macros left rest)

  -- what begins at the next token, with those after it
  pub whole_at : (macros : Definitions) (before : List Hidden) (token : Pending) (rest : List Hidden) (left : Budget) (what : Found)
      → found macros (hidden names token) rest ≡ what
      → with_front before (expanded macros left (hidden names token ∷ rest))
      ≡ with_front before (expanded_at (expanded macros) left (hidden names token) rest what)
  whole_at macros before token rest left what is =
      ap (with_front before) (expanded-token macros left (hidden names token) rest
      ∙ ap (λ (found' : Found). expanded_at (expanded macros) left (hidden names token) rest found') is)

  -- an argument that is expanded is ready
  pub ends : (macros : Definitions) (calls all : List Suspended) (before argument' : Vec Pending Global) (call : Call) (ready' : Vec Supplied Global)
      (parameter : Bor Parameter) (left : Budget)
      (placed : ArePlaced (names_of (parameters_around call parameter)) call.body.now)
      (marked : AreMarked (parameters_around call parameter) (tokens_of call.body.now))
      → all ≡ calls ++ record { before = before; call = call; parameter = parameter; placed = placed; marked = marked } ∷ []
      → ready'.items ≡ call.ready.items ++ record { parameter = parameter; tokens = argument' } ∷ []
      → resumed names macros calls (call_outcome names macros (done names before.items) (record call { ready = ready' }) left)
      ≡ resumed names macros all (with_front (done names argument'.items) (expanded macros left []))
  ends macros calls all before argument' call ready' parameter left placed marked popped pushed =
      let waits : Suspended = record { before = before; call = call; parameter = parameter; placed = placed; marked = marked } in
      let arguments : ready names ready'.items ≡ ready names call.ready.items
      ++ record { parameter = parameter.now.name; tokens = done names argument'.items } ∷ [] =
      ap (ready names) pushed ∙ map-append (argument names) call.ready.items (record { parameter = parameter; tokens = argument' } ∷ []) in
      sym (
      ap (λ (calls' : List Suspended). resumed names macros calls' (with_front (done names argument'.items) (expanded macros left []))) popped
      ∙ resumed-push macros calls waits (with_front (done names argument'.items) (expanded macros left []))
      ∙ ap (λ (outcome : Outcome). resumed names macros calls (and_then outcome (after_argument names macros waits)))
      (whole_done macros (done names argument'.items) left)
      ∙ ap (λ (all' : List Argument). resumed names macros calls
      (with_front (done names before.items) (called (expanded macros) (invocation names call) all' (waiting names call.waiting.items) left)))
      (sym arguments))

  -- the invocation that begins at the token
  pub whole_invoked : (macros : Definitions) (calls : List Suspended) (before : List Hidden) (token : Pending) (rest : List Hidden) (left : Budget)
      (call : Call)
      → (found macros (hidden names token) rest ≡ invoked (invocation names call) (waiting names call.waiting.items)) × (call.ready.items ≡ [])
      → resumed names macros calls (call_outcome names macros before call left)
      ≡ resumed names macros calls (with_front before (expanded macros left (hidden names token ∷ rest)))
  whole_invoked macros calls before token rest left call (is, fresh) =
      ap (resumed names macros calls) (
      ap (λ (arguments : List Supplied). with_front before
      (called (expanded macros) (invocation names call) (ready names arguments) (waiting names call.waiting.items) left)) fresh
      ∙ sym (whole_at macros before token rest left (invoked (invocation names call) (waiting names call.waiting.items)) is))

  -- a wrong one refuses the whole, at the token
  pub whole_refused : (macros : Definitions) (calls : List Suspended) (before : List Hidden) (token : Pending) (rest : List Hidden) (left : Budget)
      (error : MacroError)
      → (error ≡ NoMemory) ⊎ ((found macros (hidden names token) rest ≡ wrong) × (error ≡ ArgCount token.pos))
      → (error ≡ NoMemory) ⊎ (resumed names macros calls (with_front before (expanded macros left (hidden names token ∷ rest))) ≡ Err error)
  whole_refused macros calls before token rest left error (inl refused) = inl refused
  whole_refused macros calls before token rest left error (inr (is, named)) = inr (
      ap (resumed names macros calls) (whole_at macros before token rest left wrong is)
      ∙ resumed-Err macros calls (ArgCount token.pos)
      ∙ ap (λ (error' : MacroError). Err error') (sym named))

  -- what an invocation holds followed its name
  pub held_behind : (macros : Definitions) (token : Pending) (tokens : List Pending) (call : Call)
      → (found macros (hidden names token) (ahead names tokens) ≡ invoked (invocation names call) (waiting names call.waiting.items)) × (call.ready.items ≡ [])
      → load (waiting names call.waiting.items) + length call.behind.items ≤ length tokens
  held_behind macros token tokens call (is, fresh) =
      omega (
        arith,
        held_of_found macros (hidden names token) (ahead names tokens) (invocation names call) (waiting names call.waiting.items) is,
        length-ahead call.behind.items,
        length-ahead tokens,
      )

  -- no tokens are ahead of the frame
  pub frame_done : (macros : Definitions) (calls : List Suspended) (frame : Frame) → frame.tokens.items ≡ []
      → resumed names macros calls (with_front (done names frame.before.items) (expanded macros frame.left []))
      ≡ resumed names macros calls (frame_outcome names macros frame)
  frame_done macros calls frame none =
      ap (λ (tokens : List Pending). resumed names macros calls (with_front (done names frame.before.items) (expanded macros frame.left (ahead names tokens))))
      (sym none)

  -- the token stays, and the others are still ahead
  pub whole_stays : (macros : Definitions) (before : List Hidden) (token : Pending) (tokens rest : List Hidden) (left : Budget)
      → (found macros (hidden names token) rest ≡ stays) × (tokens ≡ rest)
      → with_front before (with_front (hidden names token ∷ []) (expanded macros left tokens))
      ≡ with_front before (expanded macros left (hidden names token ∷ rest))
  whole_stays macros before token tokens rest left (is, same) =
      ap (λ (tokens' : List Hidden). with_front before (with_front (hidden names token ∷ []) (expanded macros left tokens'))) same
      ∙ sym (whole_at macros before token rest left stays is)

  -- nothing waits, and nothing is done or ahead: what all gave already is all
  pub all_done : (macros : Definitions) (sources : List SourceToken) (calls : List Suspended) (frame : Frame)
      → calls ≡ [] → frame.before.items ≡ [] → frame.tokens.items ≡ []
      → with_sources sources (replaced_by (resumed names macros calls (frame_outcome names macros frame))) ≡ Ok (record { tokens = sources; left = frame.left })
  all_done macros sources calls frame none given empty =
      ap (λ (calls' : List Suspended). with_sources sources (replaced_by (resumed names macros calls' (frame_outcome names macros frame)))) none
      ∙ ap (λ (front : List Pending). with_sources sources
      (replaced_by (with_front (done names front) (expanded macros frame.left (ahead names frame.tokens.items))))) given
      ∙ ap (λ (tokens : List Pending). with_sources sources (replaced_by (with_front [] (expanded macros frame.left (ahead names tokens))))) empty
      ∙ ap (λ (outcome : Outcome). with_sources sources (replaced_by outcome)) (whole_done macros [] frame.left)
      ∙ ap (λ (tokens : List SourceToken). Ok (record { tokens = tokens; left = frame.left })) (append-nil sources)

  -- the next token, in front of those after it
  pub next_ahead : (macros : Definitions) (sources : List SourceToken) (calls : List Suspended) (frame : Frame) (rest : List Pending) (token : Pending)
      → frame.tokens.items ≡ rest ++ token ∷ []
      → with_sources sources
      (replaced_by (resumed names macros calls
      (with_front (done names frame.before.items) (expanded macros frame.left (hidden names token ∷ ahead names rest)))))
      ≡ with_sources sources (replaced_by (resumed names macros calls (frame_outcome names macros frame)))
  next_ahead macros sources calls frame rest token popped =
      ap (λ (tokens : List Hidden). with_sources sources (replaced_by (resumed names macros calls
      (with_front (done names frame.before.items) (expanded macros frame.left tokens)))))
      (sym (ap (ahead names) popped ∙ ap (map (hidden names)) (reverse-append rest (token ∷ []))))
