-- What an error says: that memory ran out, which may always be, or the definition's refusal.
use Rattle.std.specs.Prelude.{◌≡◌, ◌⊎◌, Result, Err}
use Rattle.hs_macros.specs.declared.error.MacroError.{MacroError}
use Rattle.hs_macros.specs.declared.error.MacroError.TheVariants.{NoMemory}

-- memory was refused, or the outcome is this refusal
abbrev pub IsRefusal : {A : Type 0} → Result A MacroError → MacroError → Type 0
IsRefusal outcome error = (error ≡ NoMemory) ⊎ (outcome ≡ Err error)
