-- A declaration, or its definition, gives an object a type (X3.159-1989 3.1.2.6 and 3.7.2).
--     typed_stay, defined_stay            it keeps its category
--     typed_right, defined_right          and starts with constants for its scalars
use Rattle.std.proofs.Common.{◌≡◌, ℕ, zero, suc, Bool, true, false, ◌||◌, List, [], ◌∷◌, slice_get, slice_set, Option, Some, None, refl, sym, ap, subst, ◌∙◌, if◌then◌else◌}
use Rattle.std.specs.List.{AllByRecursion}
use Rattle.hs_base.specs.Options.{some_same}
use Rattle.hs_base.specs.Entries.{all_at}
use Rattle.hs_base.specs.Tests.{not_first}
use Rattle.hs_fitting.specs.Claims.{Claims, ObjectsStay, Endures, IsObjectRight, category_at}
use Rattle.hs_fitting.specs.Links.{objects_self}
use Rattle.hs_linkage.specs.Objects.{object_as, object_with}
use Rattle.hs_linkage.specs.declared.translator.StaticObject.{StaticObject}
use Rattle.hs_linkage.specs.declared.translator.Translator.{Translator}
use Rattle.hs_tree.specs.Kinds.{of_function, category_of}
use Rattle.hs_tree.specs.Objects.{FitsParts}
use Rattle.hs_tree.specs.Trees.{TypedProgram}
use Rattle.hs_tree.specs.declared.constant.Part.{Part}
use Rattle.hs_types.specs.TypeTables.{TypeTable, is_complete}
use Rattle.hs_types.specs.declared.row.TypeId.{TypeId}

-- ---- objects of the same category

module _ (types : TypeTable) where
  -- one that is replaced
  set_stay : (objects : List StaticObject) (place : ℕ) (old new : StaticObject) → slice_get objects place ≡ Some old
      → category_at types (Some old) ≡ category_at types (Some new) → ObjectsStay types objects (slice_set objects place new)
  set_stay [] place old new at same number its is = absurd cc
  set_stay (it ∷ rest) zero old new at same zero its is = sym same ∙ ap (category_at types) (sym at) ∙ is
  set_stay (it ∷ rest) zero old new at same (suc number) its is = is
  set_stay (it ∷ rest) (suc place) old new at same zero its is = is
  set_stay (it ∷ rest) (suc place) old new at same (suc number) its is = set_stay rest place old new at same number its is

  -- by a declaration
  typed_if : (id : TypeId) (objects : List StaticObject) (place : ℕ) (it : StaticObject) (b : Bool) → slice_get objects place ≡ Some it
      → category_at types (Some it) ≡ Some (category_of types id)
      → ObjectsStay types objects (if b then objects else slice_set objects place (record it { variable = record it.variable { type_id = id } }))
  typed_if id objects place it true at same = objects_self types objects
  typed_if id objects place it false at same =
      set_stay objects place it (record it { variable = record it.variable { type_id = id } }) at same

  -- by what is known of it
  pub typed_stay : (known : TypeTable) (id : TypeId) (objects : List StaticObject) (place : ℕ) (o : Option StaticObject) → slice_get objects place ≡ o
      → category_at types o ≡ Some (category_of types id) → ObjectsStay types objects (object_as known id o objects place)
  typed_stay known id objects place None at same = objects_self types objects
  typed_stay known id objects place (Some it) at same =
      typed_if id objects place it (it.defined || is_complete known it.variable.type_id) at same

  -- by its definition
  pub defined_stay : (id : TypeId) (parts : List Part) (objects : List StaticObject) (place : ℕ) (o : Option StaticObject)
      → slice_get objects place ≡ o → category_at types o ≡ Some (category_of types id)
      → ObjectsStay types objects (object_with id parts o objects place)
  defined_stay id parts objects place None at same = objects_self types objects
  defined_stay id parts objects place (Some it) at same =
      set_stay objects place it (record { variable = record it.variable { type_id = id }; parts = parts; defined = true }) at same

-- ---- objects that are right

-- what is so of all, and of one that is replaced
all_set : {A : Type 0} → (holds : A → Type 0) (its : List A) (place : ℕ) (new : A) → AllByRecursion holds its → holds new
    → AllByRecursion holds (slice_set its place new)
all_set holds [] place new are is = tt
all_set holds (it ∷ rest) zero new are is = (is, are.1)
all_set holds (it ∷ rest) (suc place) new are is = (are.0, all_set holds rest place new are.1 is)

module _ (program : TypedProgram) (its : Claims) (m : Translator) where
  -- an object of the category of another one is no function
  no_function : (id : TypeId) (it : StaticObject) → IsObjectRight program its m it
      → category_at program.types (Some it) ≡ Some (category_of program.types id) → category_of program.types id ≡ Some of_function → ⊥
  no_function id it is same kind = is.category (some_same (category_of program.types it.variable.type_id) (category_of program.types id) same ∙ kind)

  -- a declaration gives another type only to an object without an initialiser
  right_if : (id : TypeId) (objects : List StaticObject) (place : ℕ) (it : StaticObject) (complete b : Bool) → (it.defined || complete) ≡ b
      → slice_get objects place ≡ Some it → category_at program.types (Some it) ≡ Some (category_of program.types id)
      → AllByRecursion (IsObjectRight program its m) objects
      → AllByRecursion (IsObjectRight program its m)
      (if b then objects else slice_set objects place (record it { variable = record it.variable { type_id = id } }))
  right_if id objects place it complete true test at same are = are
  right_if id objects place it complete false test at same are =
      let is : IsObjectRight program its m it = all_at (IsObjectRight program its m) objects place it are at in
      let empty : it.parts ≡ [] = is.undefined (not_first it.defined complete test) in
      all_set (IsObjectRight program its m) objects place (record it { variable = record it.variable { type_id = id } }) are
      (record {
        category = no_function id it is same;
        undefined = λ undefined. empty;
        filled = λ endures. subst (FitsParts program id) (sym empty) (tt, refl);
      })

  -- by what is known of it
  pub typed_right : (known : TypeTable) (id : TypeId) (objects : List StaticObject) (place : ℕ) (o : Option StaticObject) → slice_get objects place ≡ o
      → category_at program.types o ≡ Some (category_of program.types id) → AllByRecursion (IsObjectRight program its m) objects
      → AllByRecursion (IsObjectRight program its m) (object_as known id o objects place)
  typed_right known id objects place None at same are = are
  typed_right known id objects place (Some it) at same are =
      right_if id objects place it (is_complete known it.variable.type_id) (it.defined || is_complete known it.variable.type_id) refl at same are

  -- its definition gives it parts that fit
  pub defined_right : (id : TypeId) (parts : List Part) (objects : List StaticObject) (place : ℕ) (o : Option StaticObject)
      → slice_get objects place ≡ o → category_at program.types o ≡ Some (category_of program.types id)
      → (Endures program its m → FitsParts program id parts) → AllByRecursion (IsObjectRight program its m) objects
      → AllByRecursion (IsObjectRight program its m) (object_with id parts o objects place)
  defined_right id parts objects place None at same fits are = are
  defined_right id parts objects place (Some it) at same fits are =
      let is : IsObjectRight program its m it = all_at (IsObjectRight program its m) objects place it are at in
      all_set (IsObjectRight program its m) objects place
      (record { variable = record it.variable { type_id = id }; parts = parts; defined = true }) are
      (record { category = no_function id it is same; undefined = λ undefined. absurd cc; filled = fits })
