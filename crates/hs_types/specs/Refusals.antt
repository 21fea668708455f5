-- What the refusal of a type says: it is that of the definition, or memory ran out.
use Rattle.std.specs.Prelude.{◌≡◌, Option, None, Result, Err}
use Rattle.hs_types.specs.declared.types.TypeEnd.{TypeEnd}
use Rattle.hs_types.specs.declared.types.TypeEnd.TheVariants.{Incomplete, TooLarge, Redefined, NoMemory}

abbrev pub no_memory : TypeEnd
no_memory = NoMemory

abbrev pub IsRefusal : {A : Type 0} → Result A TypeEnd → TypeEnd → Type 0
IsRefusal given NoMemory = Unit {0}
IsRefusal given Incomplete = given ≡ Err Incomplete
IsRefusal given TooLarge = given ≡ Err TooLarge
IsRefusal given Redefined = given ≡ Err Redefined

-- the members have no layouts, as one of them is incomplete
abbrev pub IsUnmeasured : {A : Type 0} → Option A → TypeEnd → Type 0
IsUnmeasured given NoMemory = Unit {0}
IsUnmeasured given Incomplete = given ≡ None
IsUnmeasured given TooLarge = ⊥
IsUnmeasured given Redefined = ⊥
