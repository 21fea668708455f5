-- Of which kinds values are (own).
--     IsOfKind kind value             the value is of that kind; a state byte is one of numbers
--     AreOfKinds kinds values         one by one, as many
--     FitsBinding types variable its  a slot holds a value of the kind of its type; what is no slot is an object
--     FitBindings                     one by one, as many
use Rattle.std.proofs.Common.{◌≡◌, ℕ, zero, suc, true, false, List, [], ◌∷◌, length, slice_get, slice_set, Option, Some, None, refl, ap}
use Rattle.hs_code.specs.Stacks.{Kind, kind_of}
use Rattle.hs_code.specs.Stacks as kind
use Rattle.hs_meaning.specs.Machine.{Binding, slot, object_at}
use Rattle.hs_meaning.specs.Values.{Value, number, pointer, state, structure}
use Rattle.hs_tree.specs.Classes.{is_slot}
use Rattle.hs_tree.specs.declared.head.VariableDecl.{VariableDecl}
use Rattle.hs_types.specs.TypeTables.{TypeTable}

-- a state byte is of the kind of numbers
abbrev pub IsOfKind : Kind → Value → Type 0
IsOfKind kind.number (number bits) = Unit {0}
IsOfKind kind.number (pointer its) = ⊥
IsOfKind kind.number (state byte) = Unit {0}
IsOfKind kind.number (structure cells) = ⊥
IsOfKind kind.pointer (number bits) = ⊥
IsOfKind kind.pointer (pointer its) = Unit {0}
IsOfKind kind.pointer (state byte) = ⊥
IsOfKind kind.pointer (structure cells) = ⊥
IsOfKind kind.structure (number bits) = ⊥
IsOfKind kind.structure (pointer its) = ⊥
IsOfKind kind.structure (state byte) = ⊥
IsOfKind kind.structure (structure cells) = Unit {0}

-- as many, one by one
abbrev pub AreOfKinds : List Kind → List Value → Type 0
AreOfKinds [] [] = Unit {0}
AreOfKinds [] (value ∷ values) = ⊥
AreOfKinds (kind ∷ kinds) [] = ⊥
AreOfKinds (kind ∷ kinds) (value ∷ values) = IsOfKind kind value × AreOfKinds kinds values

-- what a variable of the function or the program is
abbrev pub FitsBinding : TypeTable → VariableDecl → Binding → Type 0
FitsBinding types variable (slot None) = is_slot types variable ≡ true
FitsBinding types variable (slot (Some value)) = (is_slot types variable ≡ true) × IsOfKind (kind_of types variable.type_id) value
FitsBinding types variable (object_at place) = is_slot types variable ≡ false

-- as many, one by one
abbrev pub FitBindings : TypeTable → List VariableDecl → List Binding → Type 0
FitBindings types [] [] = Unit {0}
FitBindings types [] (its ∷ rest) = ⊥
FitBindings types (variable ∷ variables) [] = ⊥
FitBindings types (variable ∷ variables) (its ∷ rest) = FitsBinding types variable its × FitBindings types variables rest

-- as many values as kinds
pub kinds_count : (kinds : List Kind) (values : List Value) → AreOfKinds kinds values → length values ≡ length kinds
kinds_count [] [] are = refl
kinds_count [] (value ∷ values) are = absurd are
kinds_count (kind ∷ kinds) [] are = absurd are
kinds_count (kind ∷ kinds) (value ∷ values) are = ap suc (kinds_count kinds values are.1)

-- of what is there
abbrev pub FitsThere : TypeTable → Option VariableDecl → Option Binding → Type 0
FitsThere types None None = Unit {0}
FitsThere types None (Some its) = ⊥
FitsThere types (Some variable) None = ⊥
FitsThere types (Some variable) (Some its) = FitsBinding types variable its

module _ (types : TypeTable) where
  -- both are there, or none is
  pub binding_there : (variables : List VariableDecl) (its : List Binding) (place : ℕ) → FitBindings types variables its
      → FitsThere types (slice_get variables place) (slice_get its place)
  binding_there [] [] place fit = tt
  binding_there [] (one ∷ its) place fit = absurd fit
  binding_there (variable ∷ variables) [] place fit = absurd fit
  binding_there (variable ∷ variables) (one ∷ its) zero fit = fit.0
  binding_there (variable ∷ variables) (one ∷ its) (suc place) fit = binding_there variables its place fit.1

  -- of a variable that may be there
  abbrev pub Takes : Option VariableDecl → Value → Type 0
  Takes None value = Unit {0}
  Takes (Some variable) value = (is_slot types variable ≡ true) × IsOfKind (kind_of types variable.type_id) value

  -- a slot is given a value
  pub set_fits : (variables : List VariableDecl) (its : List Binding) (place : ℕ) (value : Value) → FitBindings types variables its
      → Takes (slice_get variables place) value → FitBindings types variables (slice_set its place (slot (Some value)))
  set_fits [] [] place value fit is = tt
  set_fits [] (one ∷ its) place value fit is = absurd fit
  set_fits (variable ∷ variables) [] place value fit is = absurd fit
  set_fits (variable ∷ variables) (one ∷ its) zero value fit is = (is, fit.1)
  set_fits (variable ∷ variables) (one ∷ its) (suc place) value fit is = (fit.0, set_fits variables its place value fit.1 is)
