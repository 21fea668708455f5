-- How many values operations leave on a stack, by how many kinds they leave.
use Rattle.std.proofs.Common.{◌≡◌, ℕ, zero, suc, pred, Bool, true, false, List, [], ◌∷◌, length, Option, Some, None, refl, ap, sym, ◌∙◌}
use Rattle.hs_code.specs.Stacks as stacks
use Rattle.hs_code.specs.Stacks.{Kind, same_kind, if_same, without, above, turned}
use Rattle.hs_code_run.specs.Steps.{below, picked, on_top, under, brought}
use Rattle.hs_meaning.specs.Values.{Value}

-- the kinds that there are, or else those
abbrev kinds_or : List Kind → Option (List Kind) → List Kind
kinds_or other None = other
kinds_or other (Some kinds) = kinds

-- kinds that are one list are as many
pub as_many : (a after : List Kind) (count : ℕ) → Some a ≡ Some after → count ≡ length a → count ≡ length after
as_many a after count is so = so ∙ ap (λ its. length (kinds_or a its)) is

-- below those that are taken
pub below_as_many : (wanted kinds after : List Kind) (stack : List Value) → without wanted kinds ≡ Some after → length stack ≡ length kinds
    → length (below (length wanted) stack) ≡ length after
below_as_many [] kinds after stack is so = as_many kinds after (length stack) is so
below_as_many (kind ∷ wanted) [] after stack is so = absurd cc
below_as_many (kind ∷ wanted) (top ∷ kinds) after [] is so = absurd cc
below_as_many (kind ∷ wanted) (top ∷ kinds) after (value ∷ stack) is so =
    by_kind (same_kind kind top) (λ rest. below_as_many wanted kinds after stack rest (ap pred so)) is
  where
    by_kind : (b : Bool) → (without wanted kinds ≡ Some after → length (below (length wanted) stack) ≡ length after)
        → if_same b (without wanted kinds) ≡ Some after → length (below (length wanted) stack) ≡ length after
    by_kind true others is = others is
    by_kind false others is = absurd cc

-- and one more is left
pub turned_as_many : (wanted : List Kind) (kind : Kind) (kinds after : List Kind) (stack : List Value) → turned wanted kind kinds ≡ Some after
    → length stack ≡ length kinds → suc (length (below (length wanted) stack)) ≡ length after
turned_as_many wanted kind kinds after stack is so = by_rest (without wanted kinds) refl is
  where
    by_rest : (rest : Option (List Kind)) → without wanted kinds ≡ rest → above kind rest ≡ Some after
        → suc (length (below (length wanted) stack)) ≡ length after
    by_rest None w is = absurd cc
    by_rest (Some rest) w is = as_many (kind ∷ rest) after (suc (length (below (length wanted) stack))) is
        (ap suc (below_as_many wanted kinds rest stack w so))

-- ---- one value on top

-- what was picked, and the others
abbrev Picks : List Value → Option (Value × List Value) → Type 0
Picks stack None = Unit {0}
Picks stack (Some its) = suc (length its.1) ≡ length stack

under_picks : (value : Value) (stack : List Value) (its : Option (Value × List Value)) → Picks stack its → Picks (value ∷ stack) (under value its)
under_picks value stack None is = tt
under_picks value stack (Some its) is = ap suc is

picked_picks : (place : ℕ) (stack : List Value) → Picks stack (picked place stack)
picked_picks place [] = tt
picked_picks zero (value ∷ stack) = refl
picked_picks (suc place) (value ∷ stack) = under_picks value stack (picked place stack) (picked_picks place stack)

-- a stack keeps its values
pub brought_as_many : (place : ℕ) (stack : List Value) → length (brought place stack) ≡ length stack
brought_as_many zero stack = refl
brought_as_many (suc place) stack = by_pick (picked place stack) (picked_picks place stack)
  where
    by_pick : (its : Option (Value × List Value)) → Picks stack its → length (on_top stack its) ≡ length stack
    by_pick None is = refl
    by_pick (Some its) is = is

-- the same of kinds
abbrev PicksKinds : List Kind → Option (Kind × List Kind) → Type 0
PicksKinds kinds None = Unit {0}
PicksKinds kinds (Some its) = suc (length its.1) ≡ length kinds

under_picks_kinds : (kind : Kind) (kinds : List Kind) (its : Option (Kind × List Kind)) → PicksKinds kinds its
    → PicksKinds (kind ∷ kinds) (stacks.under kind its)
under_picks_kinds kind kinds None is = tt
under_picks_kinds kind kinds (Some its) is = ap suc is

picked_kinds : (place : ℕ) (kinds : List Kind) → PicksKinds kinds (stacks.picked place kinds)
picked_kinds place [] = tt
picked_kinds zero (kind ∷ kinds) = refl
picked_kinds (suc place) (kind ∷ kinds) = under_picks_kinds kind kinds (stacks.picked place kinds) (picked_kinds place kinds)

pub kinds_as_many : (place : ℕ) (kinds after : List Kind) → stacks.brought (stacks.picked place kinds) ≡ Some after → length kinds ≡ length after
kinds_as_many place kinds after is = by_pick (stacks.picked place kinds) (picked_kinds place kinds) is
  where
    by_pick : (its : Option (Kind × List Kind)) → PicksKinds kinds its → stacks.brought its ≡ Some after → length kinds ≡ length after
    by_pick None picks is = absurd cc
    by_pick (Some its) picks is = as_many (its.0 ∷ its.1) after (length kinds) is (sym picks)
