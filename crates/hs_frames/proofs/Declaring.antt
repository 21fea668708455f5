-- One variable more of a call.
use Rattle.std.proofs.Common.{◌≡◌, ℕ, suc, ◌+◌, ◌<◌, Bool, true, false, List, [], ◌∷◌, ◌++◌, length, drop, get_or, None, sym, ap, ◌∙◌, if◌then◌else◌, append_assoc, length-append, arith}
use Rattle.std.proofs.lemmas.Grind.{common_steps}
use Rattle.std.proofs.lemmas.List.{append-nil, drop_more}
use Rattle.hs_meaning.specs.Machine.{Object, Binding, slot, object_at}
use Rattle.hs_meaning.specs.Objects.{bindings, objects_for}
use Rattle.hs_tree.specs.Classes.{is_slot}
use Rattle.hs_tree.specs.declared.head.VariableDecl.{VariableDecl}
use Rattle.hs_types.specs.TypeTables.{TypeTable}

-- its object, if it has one, comes before those of the others
pub objects_more : (types : TypeTable) (before : List Object) (variable : VariableDecl) (rest : List VariableDecl)
    → (before ++ objects_for types (variable ∷ [])) ++ objects_for types rest ≡ before ++ objects_for types (variable ∷ rest)
objects_more types before variable rest = by_slot (objects_for types rest) (is_slot types variable) _
  where
    by_slot : (others : List Object) (b : Bool) (made : Object)
        → (before ++ (if b then [] else made ∷ [])) ++ others ≡ before ++ (if b then others else made ∷ others)
    by_slot others true made = grind (arith, common_steps)
    by_slot others false made = grind (arith, common_steps)

-- and the others have the numbers after it
pub bindings_more : (types : TypeTable) (before : List Binding) (objects : List Object) (variable : VariableDecl) (rest : List VariableDecl)
    → (before ++ bindings types (length objects) (variable ∷ [])) ++ bindings types (length (objects ++ objects_for types (variable ∷ []))) rest
    ≡ before ++ bindings types (length objects) (variable ∷ rest)
bindings_more types before objects variable rest = by_slot (is_slot types variable) _
  where
    one_more : (made : Object) → length (objects ++ made ∷ []) ≡ suc (length objects)
    one_more made = omega (arith, length-append objects (made ∷ []))

    by_slot : (b : Bool) (made : Object)
        → (before ++ (if b then slot None ∷ [] else object_at (length objects) ∷ []))
        ++ bindings types (length (objects ++ (if b then [] else made ∷ []))) rest
        ≡ before
        ++ (if b then slot None ∷ bindings types (length objects) rest
        else object_at (length objects) ∷ bindings types (suc (length objects)) rest)
    by_slot true made = rw (append-nil objects) (append_assoc before (slot None ∷ []) (bindings types (length objects) rest))
    by_slot false made = rw (one_more made) (append_assoc before (object_at (length objects) ∷ []) (bindings types (suc (length objects)) rest))

module _ (types : TypeTable) (variables : List VariableDecl) (index : ℕ) (variable : VariableDecl) where
  -- the variable, and those after it
  next : index < length variables → variable ≡ get_or variables index variable → variable ∷ drop (index + 1) variables ≡ drop index variables
  next there is = ap (λ it. it ∷ drop (index + 1) variables) is ∙ sym (drop_more variables index variable there)

  -- its object was made
  pub objects_next : (before made all : List Object) → index < length variables → variable ≡ get_or variables index variable
      → made ≡ before ++ objects_for types (variable ∷ []) → before ++ objects_for types (drop index variables) ≡ all
      → made ++ objects_for types (drop (index + 1) variables) ≡ all
  objects_next before made all there is makes so_far =
      ap (λ its. its ++ objects_for types (drop (index + 1) variables)) makes
      ∙ objects_more types before variable (drop (index + 1) variables)
      ∙ ap (λ its. before ++ objects_for types its) (next there is)
      ∙ so_far

  -- and its binding
  pub bindings_next : (objects made : List Object) (before after all : List Binding) (binding : Binding) → index < length variables
      → variable ≡ get_or variables index variable → made ≡ objects ++ objects_for types (variable ∷ [])
      → binding ∷ [] ≡ bindings types (length objects) (variable ∷ []) → after ≡ before ++ binding ∷ []
      → before ++ bindings types (length objects) (drop index variables) ≡ all
      → after ++ bindings types (length made) (drop (index + 1) variables) ≡ all
  bindings_next objects made before after all binding there is makes binds puts so_far =
      ap (λ its. after ++ bindings types (length its) (drop (index + 1) variables)) makes
      ∙ ap (λ its. its ++ bindings types (length (objects ++ objects_for types (variable ∷ []))) (drop (index + 1) variables))
      (puts ∙ ap (λ its. before ++ its) binds)
      ∙ bindings_more types before objects variable (drop (index + 1) variables)
      ∙ ap (λ its. before ++ bindings types (length objects) its) (next there is)
      ∙ so_far
