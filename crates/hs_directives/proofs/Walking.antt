-- The pieces of a file, one after another, over the listings that have the files that were read.
use Rattle.std.proofs.Common.{◌≡◌, ℕ, ◌-◌, zero, suc, Bool, true, List, drop, [], ◌∷◌, ◌++◌, Option, Some, Result, Ok, Err, refl, sym, ap, subst, ◌∙◌, inl, inr, arith, append_assoc}
use Rattle.std.specs.Prelude.{if◌then◌else◌}
use native.Mathlib.Numerals.{unary_clauses}
use Rattle.hs_base.specs.Files.{Listing, Counts, NeverFall}
use Rattle.hs_directives.specs.Outcomes.{Gives}
use Rattle.hs_base.specs.declared.pos.Pos.{Pos}
use Rattle.hs_tokens.specs.declared.token.Token.{Token}
use Rattle.std.specs.Borrow.{Bor}
use Rattle.hs_directives.specs.declared.pieces.Part.{Part}
use Rattle.hs_directives.specs.declared.pieces.Part.TheVariants.{Run, Directive}
use Rattle.hs_directives.specs.Pieces.{Piece, run, directive, pieces, keyword_of}
use Rattle.hs_directives.specs.Sections.{is_active}
use Rattle.hs_directives.specs.Includes.{include_name, Named}
use Rattle.hs_directives.specs.declared.keyword.Keyword.{Keyword}
use Rattle.hs_directives.specs.declared.keyword.Keyword.TheVariants.{Include}
use Rattle.hs_directives.specs.Readings.{Agrees, Grows, IsReading, entry_of, entry_by, entry, entered_by}
use Rattle.hs_directives.specs.States.{and_then, Found, found_file}
use Rattle.hs_directives.specs.Directives.{Turn, with_sections, with_left, place_of}
use Rattle.hs_directives.specs.Preprocessing.{included_file, include_named, reached_done, run_done, directive_done, walked, entered}
use Rattle.hs_directives.specs.Ahead.{turn_of, piece_of, piece_outcome, IsInclusionOf}
use Rattle.hs_directives.specs.declared.error.ReadError.{ReadError}
use Rattle.hs_directives.specs.declared.section.Section.{Section}
use Rattle.hs_directives.specs.declared.state.File.{File}
use Rattle.hs_directives.specs.declared.state.State.{State}
use Rattle.hs_directives.proofs.Reading.{grows_none, Agrees-front}

-- the same sections, if a state is given
pub gives_with_sections : (sections : List Section) (state : State) (outcome : Result State ReadError) (result : Result Unit ReadError)
    → Gives (λ _. state) outcome result → Gives (λ _. turn_of sections state) (with_sections sections outcome) result
gives_with_sections sections state outcome (Ok _) gives = ap (with_sections sections) gives
gives_with_sections sections state outcome (Err error) (inl want, none) = (inl want, none)
gives_with_sections sections state outcome (Err error) (inr is, none) = (inr (ap (with_sections sections) is), none)

-- more, and more again
pub grows_on : (old mid new : List File) → Grows old mid → Grows mid new → Grows old new
grows_on old mid new first second = record {
  more = first.more ++ second.more;
  longer = second.longer ∙ ap (λ (files : List File). files ++ second.more) first.longer ∙ append_assoc old first.more second.more;
  own_agrees = λ own. second.own_agrees (first.own_agrees own);
}

-- How far something has come: its outcome is that of what is left to do, of any listing that has the files so far.
pub record Reached {B : Type 0} (old new : List File) (outcome rest : Listing → Result B ReadError) : Type 0 where
  pub grows : Grows old new
  pub same : (listing : Listing) → Agrees listing new → outcome listing ≡ rest listing

-- no count falls
pub never_falls : (counts : Counts) → NeverFall counts counts
never_falls counts = record { misses = omega arith; faults = omega arith }

pub never_falls_on : (before mid now : Counts) → NeverFall before mid → NeverFall mid now → NeverFall before now
never_falls_on before mid now first second = record { misses = omega (arith, first.misses, second.misses); faults = omega (arith, first.faults, second.faults) }

-- nothing is done
pub reached_none : {B : Type 0} (files : List File) (outcome : Listing → Result B ReadError) → Reached files files outcome outcome
reached_none files outcome = record { grows = grows_none files; same = λ listing agrees. refl }

-- what is left to do, in other words
pub reached_as : {B : Type 0} (old new : List File) (outcome rest rest' : Listing → Result B ReadError)
    → Reached old new outcome rest → ((listing : Listing) → rest listing ≡ rest' listing) → Reached old new outcome rest'
reached_as old new outcome rest rest' reached equal =
    record { grows = reached.grows; same = λ listing agrees. reached.same listing agrees ∙ equal listing }

-- one more step
pub reached_on : {A C B : Type 0} (old between new : List File)
    (outcome : Listing → Result B ReadError) (view : A → C) (first : Listing → Result C ReadError) (next : Listing → C → Result B ReadError) (value : A)
    → Reached old between outcome (λ listing. and_then (first listing) (next listing))
    → IsReading between new view first (Ok value)
    → Reached old new outcome (λ listing. next listing (view value))
reached_on old between new outcome view first next value reached reading = record {
  grows = grows_on old between new reached.grows reading.0;
  same = λ listing agrees.
      reached.same listing (Agrees-front listing between reading.0.more (subst (Agrees listing) reading.0.longer agrees))
      ∙ ap (λ done. and_then done (next listing)) (reading.1 listing agrees);
}

-- one after another, and then a third
pub and_then_on : {A B C : Type 0} (first : Result A ReadError) (second : A → Result B ReadError) (third : B → Result C ReadError)
    → and_then (and_then first second) third ≡ and_then first (λ value. and_then (second value) third)
and_then_on (Ok value) second third = refl
and_then_on (Err error) second third = refl

-- the same sections, and then more
with_sections_then : {B : Type 0} (sections : List Section) (outcome : Result State ReadError) (next : Turn → Result B ReadError)
    → and_then (with_sections sections outcome) next ≡ and_then outcome (λ state. next (turn_of sections state))
with_sections_then sections (Ok state) next = refl
with_sections_then sections (Err error) next = refl

-- a piece, and those after it
pub walked_piece : (enter : Option Pos → Token → List ℕ → State → Result State ReadError) (outer : Option Pos) (piece : Piece) (rest : List Piece)
    (sections : List Section) (state : State)
    → walked enter outer (piece ∷ rest) sections state
    ≡ and_then (piece_outcome enter outer piece sections state) (λ turn. walked enter outer rest turn.sections turn.state)
walked_piece enter outer (run tokens) rest sections state =
    sym (with_sections_then sections (run_done enter tokens sections state) (λ turn. walked enter outer rest turn.sections turn.state))
walked_piece enter outer (directive hash line) rest sections state = refl

-- a file that is entered
entered_named : (levels : ℕ) (listing : Listing) (outer : Option Pos) (hash : Token) (state : State) (named : Result Named ReadError)
    → include_named (entered levels listing) outer hash state named
    ≡ and_then (entry_by levels listing hash state named)
    (λ it. walked (entered (levels - 1) listing) (Some (place_of outer hash.pos)) (pieces it.tokens) [] it.state)
entered_named levels listing outer hash state (Err error) = refl
entered_named zero listing outer hash state (Ok it) = refl
entered_named (suc levels) listing outer hash state (Ok it) =
    simp unary_clauses (by (with_left state it.left) (found_file listing it.name (with_left state it.left).progress)) where
      by : (state' : State) (found : Result Found ReadError)
          → and_then found
          (λ file. walked (entered levels listing) (Some (place_of outer hash.pos)) (pieces file.tokens) [] (record state' { progress = included_file file }))
          ≡ and_then (and_then found (λ file. Ok (entry_of state' file)))
          (λ it'. walked (entered levels listing) (Some (place_of outer hash.pos)) (pieces it'.tokens) [] it'.state)
      by state' (Ok file) = refl
      by state' (Err error) = refl

-- an `#include` that is reached, and what follows it
pub walked_inclusion : (levels : ℕ) (listing : Listing) (outer : Option Pos) (hash : Token) (line : List Token) (rest : List Piece)
    (sections : List Section) (state : State)
    → keyword_of line ≡ Include → is_active sections ≡ true
    → walked (entered levels listing) outer (directive hash line ∷ rest) sections state
    ≡ and_then (entry levels listing hash (drop 1 line) state) (λ it.
    and_then (walked (entered (levels - 1) listing) (Some (place_of outer hash.pos)) (pieces it.tokens) [] it.state) (λ state'.
    walked (entered levels listing) outer rest sections state'))
walked_inclusion levels listing outer hash line rest sections state word active =
    ap (λ (keyword : Keyword). and_then (directive_done (entered levels listing) outer keyword hash (drop 1 line) sections state)
    (λ turn. walked (entered levels listing) outer rest turn.sections turn.state)) word
    ∙ ap (λ (active' : Bool).
    and_then
    (if active'
    then with_sections sections (reached_done (entered levels listing) outer Include hash (drop 1 line) state)
    else Ok (record { sections = sections; state = state }))
    (λ turn. walked (entered levels listing) outer rest turn.sections turn.state)) active
    ∙ with_sections_then sections (reached_done (entered levels listing) outer Include hash (drop 1 line) state)
    (λ turn. walked (entered levels listing) outer rest turn.sections turn.state)
    ∙ ap (λ done. and_then done (λ state'. walked (entered levels listing) outer rest sections state'))
    (entered_named levels listing outer hash state (include_name state.unit.macros state.progress.left hash.pos (drop 1 line)))
    ∙ and_then_on (entry levels listing hash (drop 1 line) state)
    (λ it. walked (entered (levels - 1) listing) (Some (place_of outer hash.pos)) (pieces it.tokens) [] it.state)
    (λ state'. walked (entered levels listing) outer rest sections state')

-- the same of a part that includes a file
inclusion_is : (levels : ℕ) (listing : Listing) (outer : Option Pos) (part : Part) (it : Bor Token × Bor (List Token)) (rest : List Piece)
    (sections : List Section) (state : State)
    → IsInclusionOf part sections (Some it)
    → walked (entered levels listing) outer (piece_of part ∷ rest) sections state
    ≡ and_then (entry levels listing it.0.now it.1.now state) (λ entered'.
    and_then (walked (entered (levels - 1) listing) (Some (place_of outer it.0.now.pos)) (pieces entered'.tokens) [] entered'.state) (λ state'.
    walked (entered levels listing) outer rest sections state'))
inclusion_is levels listing outer (Run tokens) it rest sections state is = absurd cc
inclusion_is levels listing outer (Directive hash line) it rest sections state is =
    rw (is.1, is.2) (walked_inclusion levels listing outer hash.now line.now rest sections state is.0.0 is.0.1)

-- what the walk of a file comes to
abbrev pub walk_of : ℕ → Option Pos → List Token → List Section → State → Listing → Result State ReadError
walk_of levels outer tokens sections state listing = walked (entered levels listing) outer (pieces tokens) sections state

-- a walk that has come so far
module _ (old new : List File) (outcome : Listing → Result State ReadError) (levels : ℕ) (outer : Option Pos) (part : Part) (rest behind : List Token)
    (sections : List Section) (state : State)
    (reached : Reached old new outcome (walk_of levels outer rest sections state)) (ahead : pieces rest ≡ piece_of part ∷ pieces behind) where
  -- what is left to do if a file is included
  pub reached_inclusion : (it : Bor Token × Bor (List Token)) → IsInclusionOf part sections (Some it)
      → Reached old new outcome (λ listing. and_then (entry levels listing it.0.now it.1.now state) (λ entered'.
      and_then (walked (entered (levels - 1) listing) (Some (place_of outer it.0.now.pos)) (pieces entered'.tokens) [] entered'.state) (λ state'.
      walked (entered levels listing) outer (pieces behind) sections state')))
  reached_inclusion it is =
      reached_as old new outcome _ _ reached (λ listing.
      ap (λ (parts : List Piece). walked (entered levels listing) outer parts sections state) ahead
      ∙ inclusion_is levels listing outer part it (pieces behind) sections state is)

  -- and if none is
  pub reached_piece :
      Reached old new outcome (λ listing. and_then (piece_outcome (entered levels listing) outer (piece_of part) sections state) (λ turn.
      walked (entered levels listing) outer (pieces behind) turn.sections turn.state))
  reached_piece =
      reached_as old new outcome _ _ reached (λ listing.
      ap (λ (parts : List Piece). walked (entered levels listing) outer parts sections state) ahead
      ∙ walked_piece (entered levels listing) outer (piece_of part) (pieces behind) sections state)

  -- a piece was done
  pub walk_piece : (new' : List File) (sections' : List Section) (state' : State) → new' ≡ new
      → ((enter : Option Pos → Token → List ℕ → State → Result State ReadError)
      → piece_outcome enter outer (piece_of part) sections state ≡ Ok (turn_of sections' state'))
      → Reached old new' outcome (walk_of levels outer behind sections' state')
  walk_piece new' sections' state' stay gives =
      rw stay (record {
        grows = reached_piece.grows;
        same = λ listing agrees. reached_piece.same listing agrees
            ∙ ap (λ done. and_then done (λ turn. walked (entered levels listing) outer (pieces behind) turn.sections turn.state))
            (gives (entered levels listing));
      })

  -- a file was entered
  pub walk_entry : (it : Bor Token × Bor (List Token)) → IsInclusionOf part sections (Some it)
      → (new' : List File) (state' : State) (tokens : List Token) (place : Pos) → place ≡ place_of outer it.0.now.pos
      → IsReading {A = List Token} new new' (entered_by state') (λ listing. entry levels listing it.0.now it.1.now state) (Ok tokens)
      → Reached old new' outcome (λ listing.
      and_then (walk_of (levels - 1) (Some place) tokens [] state' listing) (λ state''. walk_of levels outer behind sections state'' listing))
  walk_entry it is new' state' tokens place there reading =
      rw there (reached_on {A = List Token} old new new' outcome (entered_by state')
      (λ listing. entry levels listing it.0.now it.1.now state)
      (λ listing entered'. and_then (walk_of (levels - 1) (Some (place_of outer it.0.now.pos)) entered'.tokens [] entered'.state listing)
      (λ state''. walk_of levels outer behind sections state'' listing)) tokens
      (reached_inclusion it is) reading)

-- an included file was walked
pub walk_inner : (old new new' : List File) (outcome : Listing → Result State ReadError) (last : State)
    (inner : Listing → Result State ReadError) (levels : ℕ) (outer : Option Pos) (behind : List Token) (sections : List Section)
    → Reached old new outcome (λ listing. and_then (inner listing) (λ state. walk_of levels outer behind sections state listing))
    → IsReading {A = Unit {0}} new new' (λ _. last) inner (Ok tt)
    → Reached old new' outcome (walk_of levels outer behind sections last)
walk_inner old new new' outcome last inner levels outer behind sections reached reading =
    reached_on {A = Unit {0}} old new new' outcome (λ _. last) inner
    (λ listing state. walk_of levels outer behind sections state listing) tt reached reading
