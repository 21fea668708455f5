-- Worked rows of origins on the definition, by computation: a struct of two units.
use Rattle.std.proofs.Common.{◌≡◌, ℕ, true, false, Bool, List, [], ◌∷◌, Some, Result, Ok, Err, refl}
use Rattle.std.specs.Prelude.{codes}
use Rattle.hs_tokens.specs.declared.place.Place.{Place}
use Rattle.hs_tokens.specs.declared.token.Origin.TheVariants.{Plain}
use Rattle.hs_syntax.specs.declared.word.Word.{Word}
use Rattle.hs_typer.specs.Origins.{agree}
use Rattle.hs_typer.specs.Specifiers.{struct_type, new_tagged_struct, member_as, completed_struct}
use Rattle.hs_typer.specs.Steps.{Step, ◌>>=◌, ◌>>◌, give, look, beginning}
use Rattle.hs_typer.specs.declared.type_error.TypeError.{TypeError}
use Rattle.hs_typer.specs.declared.type_error.TypeError.TheVariants.{Clash}
use Rattle.hs_typer.specs.declared.typer.Typer.{Typer}
use Rattle.hs_types.specs.Rows.{integer_id}
use Rattle.hs_types.specs.declared.integer.Integer.TheVariants as kind

-- a place of a header, by its column
abbrev at : ℕ → Place
at column = record { pos = record { file = 1; line = 1; col = column }; origin = Plain }

-- the tag of `struct S { int a; };`
abbrev tagged : Word
tagged = record { text = codes "S"; place = at 8 }

-- in the unit of that number
abbrev in_unit : ℕ → Step (Unit {0})
in_unit number s = Ok (tt, record s { origins = record s.origins { unit = number; times = [] } })

-- `struct S;`
abbrev declared_in : ℕ → Step (Unit {0})
declared_in number = in_unit number >> (new_tagged_struct tagged >> give tt)

-- `struct S { int a; };`, with that name for `a`
abbrev defined_in : ℕ → List ℕ → Step (Unit {0})
defined_in number name =
    in_unit number >> (new_tagged_struct tagged >>=
    (λ its. completed_struct (at 1) (Some tagged) (at 10) its (member_as name (integer_id kind.Int) ∷ [])))

-- whether the first two structs agree
abbrev both_agree : Step Bool
both_agree = struct_type 0 >>= (λ a. struct_type 1 >>= (λ b. look (λ s. Ok (agree s.types s.origins a b))))

-- the answer alone
abbrev answer : {A : Type 0} → Result (A × Typer) TypeError → Result A TypeError
answer (Ok p) = Ok p.0
answer (Err why) = Err why

-- a header that two units include
one_body-is_one_type : answer ((defined_in 1 (codes "a") >> (defined_in 2 (codes "a") >> both_agree)) (beginning [])) ≡ Ok true
one_body-is_one_type = refl

-- with another member in the second unit
other_body-is_clash : answer ((defined_in 1 (codes "a") >> (defined_in 2 (codes "b") >> both_agree)) (beginning [])) ≡ Err (Clash (at 10) (codes "b"))
other_body-is_clash = refl

-- the tag alone, in two units and twice in one
tags-agree : answer ((declared_in 1 >> (declared_in 2 >> both_agree)) (beginning [])) ≡ Ok true
tags-agree = refl

tags-of_one_unit : answer ((declared_in 1 >> (declared_in 1 >> both_agree)) (beginning [])) ≡ Ok false
tags-of_one_unit = refl

-- the tag alone, and with its body in another unit
tag-and_body : answer ((defined_in 1 (codes "a") >> (declared_in 2 >> both_agree)) (beginning [])) ≡ Ok true
tag-and_body = refl
