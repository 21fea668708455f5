-- The text of a script is read as that script.
use Rattle.std.proofs.Common.{◌≡◌, ℕ, suc, zero, ◌+◌, ◌-◌, ◌^◌, ◌<◌, ◌≤◌, ◌==◌, Bool, true, false, nat_lt, List, [], ◌∷◌, ◌++◌, length, drop, get_or, Some, Ok, codes, refl, ap, sym, ◌∙◌, append_assoc, append-nil, arith}
use Rattle.std.specs.Fmt.{decimal}
use Rattle.std.specs.List.{All as Each}
use Rattle.std.proofs.lemmas.Bool.Decides.{nat_tests}
use Rattle.std.proofs.lemmas.List.{drop_more, length_push}
use Rattle.std.proofs.lemmas.List.Elements.{All-head, All-tail}
use Rattle.std.proofs.lemmas.List.Splits.{slice_split_at}
use Rattle.hs_heap.specs.declared.decision.Decision.{Decision}
use Rattle.hs_heap.specs.declared.decision.Which.{Which}
use Rattle.hs_heap.specs.declared.decision.Which.TheVariants.{All, These}
use Rattle.hs_meaning.specs.InputTexts.{lines}
use Rattle.hs_movers.specs.declared.script.Script.{Script}
use Rattle.hs_movers.specs.ScriptTexts.{HasNoZero, IsPrintable, Read, added, decision_line, decision_lines, or_none, part_text, read_from, reading, seed_line, text_of}
use Rattle.hs_movers.specs.declared.script_text.line.Item.TheVariants.{Numbered}
use Rattle.hs_movers.specs.ScriptRanges.{AllInRange, InRange}
use Rattle.hs_movers.proofs.Lines.{IsWritable, decision_tells, line_lacks, line_read, seed_lacks, seed_read}
use Rattle.hs_movers.proofs.Pieces.{Lacks}

-- the next line
pub next_line : (at : ℕ) (decisions : List Decision) (decision : Decision) → at < length decisions → decision ≡ get_or decisions at decision
    → decision_lines (at + 1) (drop at decisions) ≡ decision_line (at + 1) decision ++ decision_lines (at + 1 + 1) (drop (at + 1) decisions)
next_line at decisions decision below is =
    let number : suc (at + 1) ≡ at + 1 + 1 = omega arith in
    ap (decision_lines (at + 1)) (drop_more decisions at decision below)
    ∙ ap (λ (here : Decision). decision_line (at + 1) here ++ decision_lines (suc (at + 1)) (drop (at + 1) decisions)) (sym is)
    ∙ ap (λ (n : ℕ). decision_line (at + 1) decision ++ decision_lines n (drop (at + 1) decisions)) number

-- a decision of which the text can be read
abbrev IsReadable : Decision → Type 0
IsReadable decision = IsWritable decision.moves × IsWritable decision.purges

-- what is read so far
abbrev so_far : ℕ → List Decision → Bool → Read
so_far seed decisions begun = record { script = record { seed = seed; decisions = decisions }; begun = begun }

-- the first line
first_line : (line rest : List ℕ) → Lacks 10 line → lines ((line ++ 10 ∷ []) ++ rest) ≡ line ∷ lines rest
first_line line rest lacks = ap lines (append_assoc line (10 ∷ []) rest) ∙ slice_split_at (λ byte. byte == 10) line 10 rest lacks refl

-- the next decision is added
next_added : (seed : ℕ) (done : List Decision) (begun : Bool) (decision : Decision)
    → added (so_far seed done begun) (Numbered (suc (length done)) decision) ≡ Some (so_far seed (done ++ decision ∷ []) true)
next_added seed done begun decision =
    let later : nat_lt (length done) (suc (length done)) ≡ true = grind (arith, nat_tests) in
    let none : suc (length done) - length done - 1 ≡ 0 = omega arith in
    rw (later, none) (ap (λ (front : List Decision). Some (so_far seed (front ++ decision ∷ []) true)) (append-nil done))

-- the lines of decisions
lines_read : (line seed : ℕ) (done : List Decision) (begun : Bool) (decisions : List Decision) → length done + length decisions ≤ 4000000
    → Each IsReadable decisions
    → read_from line (so_far seed done begun) (lines (decision_lines (suc (length done)) decisions))
    ≡ Ok (record { seed = seed; decisions = done ++ decisions })
lines_read line seed done begun [] few each = ap (λ (decisions : List Decision). Ok (record { seed = seed; decisions = decisions })) (sym (append-nil done))
lines_read line seed done begun (decision ∷ rest) few each =
    let is = All-head IsReadable decision rest each in
    let text = or_none (part_text (codes "move") decision.moves ++ part_text (codes "purge") decision.purges) in
    let tells = decision_tells decision.moves decision.purges is.0 is.1 in
    let number = suc (length done) in
    let most : number ≤ 4000000 = omega arith in
    let split = first_line (decimal number ++ 58 ∷ text) (decision_lines (suc number) rest) (line_lacks number text most tells.no_feed) in
    let read = line_read number text decision (omega arith) most tells in
    let count : length (done ++ decision ∷ []) ≡ suc (length done) = omega (arith, length_push done decision) in
    let more = lines_read (line + 1) seed (done ++ decision ∷ []) true rest (omega arith) (All-tail IsReadable decision rest each) in
    let whole : (done ++ decision ∷ []) ++ rest ≡ done ++ decision ∷ rest = append_assoc done (decision ∷ []) rest in
    rw (split, read, next_added seed done begun decision) (rw (count, whole) at more)

-- what is written with the ranges of the types can be read
writable : (which : Which) → HasNoZero which → InRange which → IsWritable which
writable All named fits = tt
writable (These numbers) named fits = λ k d below. (named k d below, fits k d below)

readable : (script : Script) → IsPrintable script → AllInRange script.decisions → Each IsReadable script.decisions
readable script printable fits =
    λ k d below. let is = fits k d below in (writable _ (printable.moves k d below) is.moves, writable _ (printable.purges k d below) is.purges)

-- with the seed
seeded_read : (seed : ℕ) (decisions : List Decision) → seed < 2 ^ 64 → length decisions ≤ 4000000 → Each IsReadable decisions
    → reading (seed_line seed ++ decision_lines 1 decisions) ≡ Ok (record { seed = seed; decisions = decisions })
seeded_read zero decisions low few each = lines_read 1 0 [] false decisions (omega arith) each
seeded_read (suc less) decisions low few each =
    let split = first_line (codes "seed " ++ decimal (suc less)) (decision_lines 1 decisions) (seed_lacks (suc less) low) in
    rw (split, seed_read (suc less) low) (lines_read 2 (suc less) [] true decisions (omega arith) each)

-- the law
pub read_back : (script : Script) → IsPrintable script → AllInRange script.decisions → script.seed < 2 ^ 64 → reading (text_of script) ≡ Ok script
read_back script printable fits low =
    let few = printable.few in seeded_read script.seed script.decisions low (omega arith) (readable script printable fits)
