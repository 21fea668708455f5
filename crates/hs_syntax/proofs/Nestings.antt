-- What a count of the deepeners says of the tokens that are left.
--     stays_shallow levels tokens      from these levels on, the nesting is at most 256 at each token
--     Stands rows left tokens          the rows count levels from which what is left decides of all tokens
--     stands_behind, too_deep          a token that leaves the nesting at most 256, and one that does not
use Rattle.std.proofs.Common.{◌≡◌, ◌<◌, ◌≤◌, Bool, true, false, List, [], ◌∷◌, map, sym, ap, ◌∙◌, arith}
use Rattle.std.specs.Prelude.{nat_le, ◌&&◌}
use Rattle.std.specs.List.{list_all}
use Rattle.std.proofs.lemmas.Bool.{false≢true, le-leb, lt-leb}
use Rattle.hs_base.specs.Limit.{number_of}
use Rattle.hs_base.specs.declared.limit.LimitKind.TheVariants.{Depth}
use Rattle.hs_tokens.specs.declared.token.SourceToken.{SourceToken}
use Rattle.hs_syntax.specs.declared.level.Level.{Level}
use Rattle.hs_syntax.specs.Counts.{counts, all_deepeners, Follows}
use Rattle.hs_syntax.specs.Nesting.{Levels, after, count, nestings}
use Rattle.hs_syntax.proofs.Counting.{all_deepeners_counts}

-- the nesting is at most 256 at each of the tokens, from these levels on
abbrev pub stays_shallow : Levels → List SourceToken → Bool
stays_shallow levels tokens = list_all (λ nesting. nat_le nesting (number_of Depth)) (nestings levels tokens)

-- The rows are the numbers of levels, from which the tokens that are left decide of all.
abbrev pub Stands : List Level → List SourceToken → List SourceToken → Type 0
Stands rows left tokens =
    (levels : Levels) × (rows ≡ map counts levels) × (stays_shallow levels left ≡ stays_shallow ([] ∷ []) tokens)

-- what the nesting at the first token says
first_decides : (levels : Levels) (source : SourceToken) (rest : List SourceToken) (answer : Bool)
    → nat_le (count (after levels source rest)) 256 ≡ answer
    → stays_shallow levels (source ∷ rest) ≡ (answer && stays_shallow (after levels source rest) rest)
first_decides levels source rest answer is = ap (λ (first : Bool). first && stays_shallow (after levels source rest) rest) is

-- After a token that leaves the nesting at most 256, the rest decides.
pub stands_behind : (rows now : List Level) (left rest tokens : List SourceToken) (source : SourceToken) → Stands rows left tokens
    → left ≡ source ∷ rest → Follows rows now (λ levels. after levels source rest) → all_deepeners now ≤ 256 → Stands now rest tokens
stands_behind rows now left rest tokens source stands split follows within =
    let levels = stands.0 in
    let behind = after levels source rest in
    let same = follows levels stands.1 in
    let nesting : count behind ≤ 256 = omega (arith, all_deepeners_counts behind, ap all_deepeners same) in
    let first = first_decides levels source rest true (le-leb _ _ nesting) in
    (behind, same, sym first ∙ sym (ap (stays_shallow levels) split) ∙ stands.2)

-- At a token that leaves it above 256, the tokens are not shallow.
pub too_deep : (rows now : List Level) (left rest tokens : List SourceToken) (source : SourceToken) → Stands rows left tokens
    → left ≡ source ∷ rest → Follows rows now (λ levels. after levels source rest) → 256 < all_deepeners now
    → stays_shallow ([] ∷ []) tokens ≡ true → ⊥
too_deep rows now left rest tokens source stands split follows above shallow =
    let levels = stands.0 in
    let behind = after levels source rest in
    let nesting : 256 < count behind = omega (arith, all_deepeners_counts behind, ap all_deepeners (follows levels stands.1)) in
    let first = first_decides levels source rest false (lt-leb _ _ nesting) in
    false≢true (sym first ∙ sym (ap (stays_shallow levels) split) ∙ stands.2 ∙ shallow)
