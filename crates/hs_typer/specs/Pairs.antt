-- Two types or two lists at once, as the comparison of types goes through them.
--     IsInside a b it, AreApart a b      what is inside two types, and that nothing is inside both
--     both_end a b                       two lists of parameters are at their end
--     both_more a b                      the first of each of two lists, and the others
use Rattle.std.specs.Prelude.{◌≡◌, Bool, true, false, Option, Some, None}
use Rattle.hs_operand_types.specs.Types.{inside_both, both_are}
use Rattle.hs_typer.specs.declared.agreement.Firsts.{Firsts}
use Rattle.hs_typer.specs.declared.agreement.Pair.{Pair}
use Rattle.hs_types.specs.declared.row.Parameters.{Parameters}
use Rattle.hs_types.specs.declared.row.Parameters.TheVariants.{Empty, More}
use Rattle.hs_types.specs.declared.row.Row.{Row}
use Rattle.hs_types.specs.declared.row.TypeId.{TypeId}

-- a test of what is inside both is one of these two types
abbrev pub IsInside : Option Row → Option Row → Pair → Type 0
IsInside a b it = (test : TypeId → TypeId → Bool) → both_are test (inside_both a b) ≡ test it.left it.right

-- it fails, if nothing is inside both
abbrev pub AreApart : Option Row → Option Row → Type 0
AreApart a b = (test : TypeId → TypeId → Bool) → both_are test (inside_both a b) ≡ false

-- two lists without parameters
abbrev pub both_end : Option Parameters → Option Parameters → Bool
both_end (Some Empty) (Some Empty) = true
both_end _ _ = false

-- two lists with parameters
abbrev pub both_more : Option Parameters → Option Parameters → Option Firsts
both_more (Some (More a others)) (Some (More b others')) =
    Some (record { left = a; right = b; left_others = others; right_others = others' })
both_more _ _ = None
