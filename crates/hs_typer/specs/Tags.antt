-- Structs by their tags (X3.159-1989 3.5.2.3): the first struct of each tag of file scope, and how it is kept by the tag.
--     new_origin outer tag unit         a struct that has no body yet
--     whole_at brace it its number      the struct of that number has its body
--     tagged whole name number its      the first struct of that tag at file scope, or the first one that has its body
--     IsByTag whole its tags            the index has the first of these structs for each tag, or the first one that has its body
--     outer_name outer tag              the name of a tag, if that is of file scope
--     PutsFirst name number old new     the index has that struct for the name, unless it had one
--     PutsLeast name number old new     it has that struct for the name, unless it had an earlier one
use Rattle.std.specs.Prelude.{◌≡◌, ℕ, suc, nat_le, Bool, true, false, not, ◌&&◌, ◌||◌, List, [], ◌∷◌, nat_eq, slice_set, Option, Some, None, Vec, if◌then◌else◌}
use Rattle.std.specs.Global.{Global}
use Rattle.std.specs.Cmp.Lexicographic.{pointwise}
use Rattle.hs_base.specs.Options.{or_else}
use Rattle.hs_index.specs.Index.{at}
use Rattle.hs_typer.specs.declared.origins.Brace.{Brace}
use Rattle.hs_typer.specs.declared.origins.Origin.{Origin}

-- a struct without its body; `outer` is true if it has a tag of file scope
abbrev pub new_origin : Bool → Option (List ℕ) → ℕ → Origin
new_origin outer its unit = record { tag = its; unit = unit; outer = outer; whole = false; brace = None }

-- a struct with its body, which begins at that brace, if it begins in a file
abbrev pub whole_at : Option Brace → Option Origin → List Origin → ℕ → List Origin
whole_at brace None its number = its
whole_at brace (Some it) its number = slice_set its number (record it { whole = true; brace = brace })

-- two tags that are there, and the same
abbrev pub are_one_tag : Option (List ℕ) → Option (List ℕ) → Bool
are_one_tag None second = false
are_one_tag (Some a) None = false
are_one_tag (Some a) (Some b) = pointwise nat_eq a b

-- a struct that has this tag at file scope, and its body if that is asked for
abbrev pub is_tagged : Bool → List ℕ → Origin → Bool
is_tagged whole name it = it.outer && are_one_tag it.tag (Some name) && (not whole || it.whole)

-- the first of these structs; `number` is that of the first one in the list
abbrev pub tagged : Bool → List ℕ → ℕ → List Origin → Option ℕ
tagged whole name number [] = None
tagged whole name number (it ∷ rest) = if is_tagged whole name it then Some number else tagged whole name (suc number) rest

-- ---- by the tag

-- names with their places
abbrev pub Places : Type 0
Places = List (List ℕ × ℕ)

-- the first struct of each tag, or the first one that has its body
abbrev pub IsByTag : Bool → List Origin → Places → Type 0
IsByTag whole its tags = (name : List ℕ) → at name tags ≡ tagged whole name 0 its

-- a tag of file scope
abbrev pub outer_name : Bool → Option (List ℕ) → Option (List ℕ)
outer_name outer tag = if outer then tag else None

-- of the struct that is there
abbrev pub name_in : Option Origin → Option (List ℕ)
name_in None = None
name_in (Some it) = outer_name it.outer it.tag

-- the bytes of a name, if there is one
abbrev pub bytes_if : Option (Vec ℕ Global) → Option (List ℕ)
bytes_if None = None
bytes_if (Some its) = Some its.items

-- a name is put, unless it is there already
abbrev pub PutsFirst : Option (List ℕ) → ℕ → Places → Places → Type 0
PutsFirst None number old new = new ≡ old
PutsFirst (Some name) number old new = (text : List ℕ) → at text new ≡ or_else (at text old) (if pointwise nat_eq name text then Some number else None)

-- the lesser of two numbers, if the first is there
abbrev pub least : Option ℕ → ℕ → ℕ
least None number = number
least (Some old) number = if nat_le old number then old else number

-- a place that is there, and is no later
abbrev pub is_at_most : Option ℕ → ℕ → Bool
is_at_most None number = false
is_at_most (Some old) number = nat_le old number

-- a name is put, unless it is there with an earlier struct
abbrev pub PutsLeast : Option (List ℕ) → ℕ → Places → Places → Type 0
PutsLeast None number old new = new ≡ old
PutsLeast (Some name) number old new =
    (text : List ℕ) → at text new ≡ (if pointwise nat_eq name text then Some (least (at text old) number) else at text old)
