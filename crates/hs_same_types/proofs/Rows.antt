-- Worked examples: two units that include one header, tags without bodies, tags of blocks, an enumeration.
use Rattle.std.proofs.Common.{◌≡◌, ℕ, Bool, true, false, List, [], ◌∷◌, Option, Some, None, refl}
use Rattle.std.specs.Prelude.{codes, map}
use Rattle.hs_same_types.specs.Representatives.{structs_of, types_of}
use Rattle.hs_typer.specs.declared.origins.Brace.{Brace}
use Rattle.hs_typer.specs.declared.origins.Origin.{Origin}
use Rattle.hs_typer.specs.declared.origins.Origins.{Origins}
use Rattle.hs_typer.specs.declared.typer.Tag.TheVariants as tag
use Rattle.hs_types.specs.declared.integer.Integer.TheVariants as kind
use Rattle.hs_types.specs.declared.row.Row.{Row}
use Rattle.hs_types.specs.declared.row.Row.TheVariants.{Integer, Pointer, Enumeration, Struct}
use Rattle.hs_types.specs.declared.row.TypeId.{TypeId}

-- the `{` of the struct of the header
abbrev brace : Brace
brace = record { file = 1; line = 1; col = 10; time = 0 }

-- a struct of a unit, with its tag at file scope
abbrev origin : List ℕ → ℕ → Bool → Option Brace → Origin
origin name unit whole its = record { tag = Some name; unit = unit; outer = true; whole = whole; brace = its }

-- and one with its tag in a block
abbrev local : List ℕ → ℕ → Bool → Option Brace → Origin
local name unit whole its = record { tag = Some name; unit = unit; outer = false; whole = whole; brace = its }

abbrev origins : List Origin → Origins
origins its = record { unit = 1; times = []; firsts = (brace, tag.Struct 0) ∷ []; structs = its; enumerations = [] }

-- `struct S {..}` of the header in two units, and `struct T;` in the second. The first struct of the header stands for both, and the tag for itself.
abbrev header : List Origin
header = origin (codes "S") 0 true (Some brace) ∷ origin (codes "S") 1 true (Some brace) ∷ origin (codes "T") 1 false None ∷ []

header_is_one : structs_of (origins header) [] header ≡ 0 ∷ 0 ∷ 2 ∷ []
header_is_one = refl

-- `struct S;` and `struct T;` in the first unit, and a body of `S` in the second
abbrev opaque_tag : List Origin
opaque_tag = origin (codes "S") 0 false None ∷ origin (codes "T") 0 false None ∷ origin (codes "S") 1 true None ∷ []

tag_goes_with_its_body : structs_of (origins opaque_tag) [] opaque_tag ≡ 2 ∷ 1 ∷ 2 ∷ []
tag_goes_with_its_body = refl

-- a tag that no unit completes
abbrev opaque_everywhere : List Origin
opaque_everywhere = origin (codes "S") 0 false None ∷ origin (codes "S") 1 false None ∷ []

first_tag_stands : structs_of (origins opaque_everywhere) [] opaque_everywhere ≡ 0 ∷ 0 ∷ []
first_tag_stands = refl

-- a struct of that tag in a block is another type, also if it comes first
abbrev local_first : List Origin
local_first =
    local (codes "S") 0 true None
    ∷ local (codes "S") 0 false None
    ∷ origin (codes "S") 0 false None
    ∷ origin (codes "S") 1 true None
    ∷ []

local_tag_stands_for_itself : structs_of (origins local_first) [] local_first ≡ 0 ∷ 1 ∷ 3 ∷ 3 ∷ []
local_tag_stands_for_itself = refl

-- `struct S` of the header in a block of the first unit, and at file scope of the second: a tag of the third unit goes with the first of them
abbrev header_in_block : List Origin
header_in_block = local (codes "S") 0 true (Some brace) ∷ origin (codes "S") 1 true (Some brace) ∷ origin (codes "S") 2 false None ∷ []

tag_goes_with_the_first_at_its_brace : structs_of (origins header_in_block) [] header_in_block ≡ 0 ∷ 0 ∷ 0 ∷ []
tag_goes_with_the_first_at_its_brace = refl

abbrev id : ℕ → TypeId
id number = record { number = number }

-- `struct S`, `struct S *` in two units; then `struct S **`, `enum E`, `int` and the pointers to both
abbrev rows : List Row
rows =
    Struct 0
    ∷ Pointer (id 0)
    ∷ Struct 1
    ∷ Pointer (id 2)
    ∷ Pointer (id 3)
    ∷ Enumeration 0
    ∷ Pointer (id 5)
    ∷ Integer kind.Int
    ∷ Pointer (id 7)
    ∷ []

types_are_one : types_of (0 ∷ 0 ∷ []) [] [] rows ≡ map id (0 ∷ 1 ∷ 0 ∷ 1 ∷ 4 ∷ 5 ∷ 6 ∷ 5 ∷ 6 ∷ [])
types_are_one = refl
