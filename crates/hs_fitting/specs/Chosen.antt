-- What a declaration with linkage refers to (X3.159-1989 3.1.2.2 and 3.1.2.6).
--     IsChosen types here its m word id it objects      what `link` is about to note for a name: it is new, or refers to what was claimed
--     chosen_made                                 what is so of the objects, and of a new one, is so of those that there are then
--     link_as_chosen                              so it is
--     new_object_refers, new_object_stay          an object is new, and the others stay
--     newest_shape                                what fits all declarations of its name has the shape of the newest one
use Rattle.std.proofs.Common.{◌≡◌, ◌⊎◌, inl, inr, ℕ, zero, suc, Bool, true, false, not, ◌&&◌, List, [], ◌∷◌, ◌++◌, length, slice_get, Option, Some, None, refl, sym, ap, subst, ◌∙◌, if◌then◌else◌}
use Rattle.std.specs.List.{AllByRecursion}
use Rattle.hs_base.specs.Tests.{true_false, not_false}
use Rattle.hs_base.specs.Options.{some_same}
use Rattle.hs_base.specs.Entries.{all_appended}
use Rattle.hs_fitting.specs.Outcomes.{Gives, gives_unless}
use Rattle.hs_operand_types.specs.Types.{is_open}
use Rattle.hs_operand_types.specs.declared.operand.Bound.TheVariants as binding
use Rattle.hs_names.specs.Scopes.{Declared, find}
use Rattle.hs_fitting.specs.Agreeing.{agree_strict}
use Rattle.hs_fitting.specs.Claims.{Claims, ObjectsStay, RefersAs, RefersTo, IsVariableIn, IsBoundIn, IsLink, IsExternal, IsInternalLink, Stands, category_at, IsTypedIn}
use Rattle.hs_fitting.specs.Entities.{IsAmong, all_agree_each, all_agree_shapes, newest_has}
use Rattle.hs_fitting.specs.Found.{same_texts, link_found}
use Rattle.hs_fitting.specs.HasLinks.{MayBeStatic}
use Rattle.hs_fitting.specs.Links.{HasShape, objects_self, refers_as, refers_typed, global_typed, bound_typed, declared_again}
use Rattle.hs_fitting.specs.Making.{function_category, IsFunction, agrees_typed, declared_function, function_typed}
use Rattle.hs_fitting.specs.Owned.{IsOwn, own_later}
use Rattle.hs_fitting.specs.OwnNames.{IsOwnName}
use Rattle.hs_fitting.specs.OwnSpecified.{found_own}
use Rattle.hs_fitting.specs.Strict.{SameBy, AreStrict, same_self, same_turned, same_then, strict_self, strict_then}
use Rattle.hs_fitting.specs.Shapes.{SameShape, agree_shape, composite_shape, shape_self, shape_turned, shape_then}
use Rattle.hs_linkage.specs.Definitions.{same_name}
use Rattle.hs_linkage.specs.Externals.{type_of_entity, agrees_in, newest_external}
use Rattle.hs_linkage.specs.Linkage.{bound_to, with_type_id, composite_of, seen_type, type_seen, declarations_of, agrees, agrees_if, agrees_with_all, clash_of, linked_as, external_as, first_link, next_link, link_as, zero_object, new_function, new_object, is_function}
use Rattle.hs_linkage.specs.Works.{work_with, pass}
use Rattle.hs_linkage.specs.declared.externals.External.{External}
use Rattle.hs_linkage.specs.declared.translator.Linked.{Linked}
use Rattle.hs_linkage.specs.declared.translator.StaticObject.{StaticObject}
use Rattle.hs_linkage.specs.declared.translator.Translator.{Translator}
use Rattle.hs_syntax.specs.declared.word.Word.{Word}
use Rattle.hs_tree.specs.Trees.{TypedProgram}
use Rattle.hs_tree.specs.contracts.head.VariablePartialEq.TheImpl as variable_eq
use Rattle.hs_tree.specs.declared.head.Variable.TheVariants as variable
use Rattle.hs_tree.specs.declared.head.VariableDecl.{VariableDecl}
use Rattle.hs_typer.specs.declared.origins.Origins.{Origins}
use Rattle.hs_typer.specs.declared.type_error.TypeError.TheVariants.{Untyped}
use Rattle.hs_typer.specs.declared.typer.Entity.{Entity}
use Rattle.hs_typer.specs.declared.typer.Entity.TheVariants as entity
use Rattle.hs_types.specs.Growing.{grows_self}
use Rattle.hs_types.specs.TypeTables.{TypeTable, Grows}
use Rattle.hs_types.specs.declared.row.TypeId.{TypeId}

-- ---- what a name is linked to

-- both with its type and with that of the declaration it refers to what was claimed
pub record AreReferring (types : TypeTable) (its : Claims) (objects : List StaticObject) (id : TypeId) (it : Entity) : Type 0 where
  pub own : RefersAs types its objects it
  pub typed : RefersAs types its objects (with_type_id id it)

-- a function that no declaration has named before
pub record IsNew (m : Translator) (word : Word) (id : TypeId) (it : Linked) : Type 0 where
  pub function : it.entity ≡ entity.Function id (bound_to it.internal m.typer.origins.unit word.text m.definitions m.typer.table)
  pub unlinked : find word.text m.links ≡ None
  pub undeclared : it.internal ≡ false → newest_external word.text m.externals ≡ None

-- one more object, whose type is not a function type
abbrev pub IsOneMore : Translator → Word → TypeId → List StaticObject → Type 0
IsOneMore m word id objects = (is_function m.typer.types id ≡ false) × (objects ≡ m.objects ++ zero_object word id ∷ [])

-- a type that was declared before, of the same structs
abbrev pub IsOlder : TypeTable → Claims → Translator → TypeId → ℕ → Type 0
IsOlder types its m made number =
    (old : TypeId) × IsAmong (entity.Function old (binding.Function number)) its.entities × SameBy (AreStrict m.typer.origins types) types made old

-- What is noted for a name, where the objects are these then.
pub record IsChosen (types : TypeTable) (here : List ℕ → Bool) (its : Claims) (m : Translator) (word : Word) (id : TypeId) (it : Linked)
    (objects : List StaticObject) : Type 0 where
  pub stay : ObjectsStay types m.objects objects
  pub internal : it.internal ≡ true → here word.text ≡ true
  pub bound : IsBoundIn m it.internal word.text it.entity
  pub global : IsVariableIn types [] it.entity
  pub kept : IsInternalLink (find word.text m.links) → it.internal ≡ true
  pub refers : IsNew m word id it ⊎ AreReferring types its objects id it.entity
  pub made : (objects ≡ m.objects) ⊎ IsOneMore m word id objects
  pub kind : is_function m.typer.types id ≡ true → IsFunction it.entity
  pub typed : IsTypedIn m.typer.types it.entity
  pub declared : IsTypedIn m.typer.types (with_type_id id it.entity)
  pub own : (made : TypeId) → type_of_entity it.entity ≡ Some made → IsOwn its.base m.typer.types made
  pub strict : (made : TypeId) → type_of_entity it.entity ≡ Some made → SameBy (AreStrict m.typer.origins types) types id made
  pub older : it.internal ≡ true → (made : TypeId) (number : ℕ) → it.entity ≡ entity.Function made (binding.Function number)
      → IsNew m word id it ⊎ IsOlder types its m made number

-- of an answer, after which only the objects are others
abbrev pub Choosing : TypeTable → (List ℕ → Bool) → Claims → Translator → Word → TypeId → Linked × Translator → Type 0
Choosing types here its m word id p = IsChosen types here its m word id p.0 p.1.objects × (p.1 ≡ record m { objects = p.1.objects })

-- What is so of the objects, and of a new one if one is made, is so of all of them.
pub chosen_made : (types : TypeTable) (here : List ℕ → Bool) (its : Claims) (m : Translator) (word : Word) (id : TypeId) (it : Linked)
    (objects : List StaticObject) → IsChosen types here its m word id it objects → (holds : StaticObject → Type 0) → AllByRecursion holds m.objects
    → (is_function m.typer.types id ≡ false → holds (zero_object word id)) → AllByRecursion holds objects
chosen_made types here its m word id it objects chosen holds are new = by_either chosen.made
  where
    by_either : (objects ≡ m.objects) ⊎ IsOneMore m word id objects → AllByRecursion holds objects
    by_either (inl same) = subst (AllByRecursion holds) (sym same) are
    by_either (inr more) =
        subst (AllByRecursion holds) (sym more.1) (all_appended holds m.objects (zero_object word id ∷ []) are (new more.0, tt))

-- no link is not internal
no_internal : (o : Option Linked) → o ≡ None → IsInternalLink o → ⊥
no_internal None same is = is
no_internal (Some it) same is = absurd cc

-- a function with another type of its shape
typed_again : (types : TypeTable) (id : TypeId) (it : Entity) → IsTypedIn types it → HasShape types it id → IsTypedIn types (with_type_id id it)
typed_again types id (entity.Constant bits) is shape = tt
typed_again types id (entity.Variable its old) is shape = tt
typed_again types id (entity.Function old to) is shape = sym (shape old refl).category ∙ is
typed_again types id (entity.Typedef old) is shape = tt

-- the type that a name is given
typed_made : (id made : TypeId) (it : Entity) → type_of_entity (with_type_id id it) ≡ Some made → id ≡ made
typed_made id made (entity.Constant bits) is = absurd cc
typed_made id made (entity.Variable its old) is = some_same id made is
typed_made id made (entity.Function old to) is = some_same id made is
typed_made id made (entity.Typedef old) is = absurd cc

-- with its own type
strict_same : (o : Origins) (types : TypeTable) (id made : TypeId) → id ≡ made → SameBy (AreStrict o types) types id made
strict_same o types id made same =
    subst (SameBy (AreStrict o types) types id) same (same_self (AreStrict o types) types (strict_self o types) id)

module _ (types : TypeTable) (here : List ℕ → Bool) (its : Claims) (m : Translator) (word : Word) (id : TypeId) where
  -- ---- a new one in the unit

  -- one object more
  appended_stay : (old more : List StaticObject) → ObjectsStay types old (old ++ more)
  appended_stay [] more place kind is = absurd cc
  appended_stay (it ∷ old) more zero kind is = is
  appended_stay (it ∷ old) more (suc place) kind is = appended_stay old more place kind is

  -- what is at its place
  last_object : (old : List StaticObject) (it : StaticObject) → slice_get (old ++ it ∷ []) (length old) ≡ Some it
  last_object [] it = refl
  last_object (other ∷ old) it = last_object old it

  -- so its name refers to it
  pub new_object_refers : RefersAs types its (m.objects ++ zero_object word id ∷ []) (entity.Variable (variable.Global (length m.objects)) id)
  new_object_refers = ap (category_at types) (last_object m.objects (zero_object word id))

  -- and the others stay
  pub new_object_stay : ObjectsStay types m.objects (m.objects ++ zero_object word id ∷ [])
  new_object_stay = appended_stay m.objects (zero_object word id ∷ [])

  -- a function or an object
  new_chosen : IsOwn its.base m.typer.types id → (internal : Bool) → (internal ≡ true → here word.text ≡ true) → find word.text m.links ≡ None
      → (internal ≡ false → newest_external word.text m.externals ≡ None) → (b : Bool) → is_function m.typer.types id ≡ b
      → Gives (Choosing types here its m word id)
      (work_with (λ it. pass (linked_as internal it)) (if b then new_function internal word id m else new_object word id m))
  new_chosen own internal inside unlinked undeclared true same = (
    record {
      stay = objects_self types m.objects;
      internal = inside;
      bound = refl;
      global = tt;
      kept = λ is. absurd (no_internal (find word.text m.links) unlinked is);
      refers = inl (record { function = refl; unlinked = unlinked; undeclared = undeclared });
      made = inl refl;
      kind = λ is. (id, (bound_to internal m.typer.origins.unit word.text m.definitions m.typer.table, refl));
      typed = function_category m.typer.types m.typer.types id (grows_self m.typer.types) same;
      declared = function_category m.typer.types m.typer.types id (grows_self m.typer.types) same;
      own = λ made is. subst (IsOwn its.base m.typer.types) (some_same id made is) own;
      strict = λ made is. strict_same m.typer.origins types id made (some_same id made is);
      older = λ is made number same. inl (record { function = refl; unlinked = unlinked; undeclared = undeclared });
    },
    refl,
  )
  new_chosen own internal inside unlinked undeclared false same = (
    record {
      stay = new_object_stay;
      internal = inside;
      bound = tt;
      global = tt;
      kept = λ is. absurd (no_internal (find word.text m.links) unlinked is);
      refers = inr (record { own = new_object_refers; typed = new_object_refers });
      made = inr (same, refl);
      kind = λ is. absurd (true_false (is_function m.typer.types id) is same);
      typed = tt;
      declared = tt;
      own = λ made is. subst (IsOwn its.base m.typer.types) (some_same id made is) own;
      strict = λ made is. strict_same m.typer.origins types id made (some_same id made is);
      older = λ is made number same. absurd cc;
    },
    refl,
  )

module _ (program : TypedProgram) (here : List ℕ → Bool) (its : Claims) (variables : List VariableDecl) (m : Translator) (word : Word) (id : TypeId)
    (grows : Grows m.typer.types program.types) (stands : Stands program here its variables m) (own_id : IsOwn its.base m.typer.types id) where
  -- ---- the first declaration in the unit

  -- the shapes of the newest declaration of a name
  pub newest_shape : (all : List External) (it : Entity) → agrees_with_all m word.text id all ≡ true → newest_external word.text all ≡ Some it
      → HasShape program.types it id
  newest_shape all it agree found =
      let one = newest_has
      (λ it. same_name it.name word.text ≡ true → (other : TypeId) → type_of_entity it.entity ≡ Some other → SameShape program.types other id)
      word.text all it (all_agree_shapes m.typer.types program.types m.typer.origins word.text id all grows agree) found in
      subst (λ it. HasShape program.types it id) one.3 (one.1 one.2)

  -- by the types that are known
  newest_here : (all : List External) (it : Entity) → agrees_with_all m word.text id all ≡ true → newest_external word.text all ≡ Some it
      → HasShape m.typer.types it id
  newest_here all it agree found =
      let one = newest_has
      (λ it. same_name it.name word.text ≡ true → (other : TypeId) → type_of_entity it.entity ≡ Some other → SameShape m.typer.types other id)
      word.text all it (all_agree_shapes m.typer.types m.typer.types m.typer.origins word.text id all (grows_self m.typer.types) agree) found in
      subst (λ it. HasShape m.typer.types it id) one.3 (one.1 one.2)

  -- and that it has a type
  newest_typed : (all : List External) (it : Entity) → agrees_with_all m word.text id all ≡ true → newest_external word.text all ≡ Some it
      → (other : TypeId) × (type_of_entity it ≡ Some other)
  newest_typed all it agree found =
      let one = newest_has (λ it. same_name it.name word.text ≡ true → agrees_in m.typer.types m.typer.origins id (type_of_entity it.entity) ≡ true)
      word.text all it (all_agree_each m.typer.types m.typer.origins word.text id all agree) found in
      subst (λ it. (other : TypeId) × (type_of_entity it ≡ Some other)) one.3
      (agrees_typed m.typer.types m.typer.origins id (type_of_entity one.0.entity) (one.1 one.2))

  -- a function that is declared once more
  function_again : (it : Entity) (made : TypeId) → RefersAs program.types its m.objects it → IsVariableIn program.types [] it
      → (other : TypeId) × (type_of_entity it ≡ Some other) → HasShape program.types it id → is_function m.typer.types id ≡ true
      → IsFunction (with_type_id made it)
  function_again it made refers global typed shape is =
      function_typed made it
      (declared_function program its m id it stands.objects refers global typed shape
      (function_category m.typer.types program.types id grows is))

  -- what another unit declared
  external_chosen : (it : Entity) → agrees_with_all m word.text id m.externals ≡ true → newest_external word.text m.externals ≡ Some it
      → find word.text m.links ≡ None → IsChosen program.types here its m word id (linked_as false (with_type_id id it)) m.objects
  external_chosen it agree found unlinked =
      let one = newest_has (IsExternal program.types its m) word.text m.externals it stands.externals found in
      let old : RefersAs program.types its m.objects it
      = subst (RefersAs program.types its m.objects) one.3 (refers_as program.types its m.objects one.0.entity one.1.refers) in
      let global : IsVariableIn program.types [] it = subst (IsVariableIn program.types []) one.3 one.1.global in
      let refers : RefersAs program.types its m.objects (with_type_id id it)
      = refers_typed program.types its m.objects id it old (newest_shape m.externals it agree found) in
      record {
        stay = objects_self program.types m.objects;
        internal = λ is. absurd cc;
        bound = bound_typed false m.typer.origins.unit m.definitions m.typer.table word.text id it
            (subst (λ name. IsBoundIn m false name it) (same_texts one.0.name word.text one.2)
            (subst (IsBoundIn m false one.0.name) one.3 one.1.bound));
        global = global_typed program.types id it global;
        kept = λ is. absurd (no_internal (find word.text m.links) unlinked is);
        refers = inr (record { own = refers; typed = subst (RefersAs program.types its m.objects) (sym (declared_again id id it)) refers });
        made = inl refl;
        kind = λ is. function_again it id old global (newest_typed m.externals it agree found) (newest_shape m.externals it agree found) is;
        typed = typed_again m.typer.types id it (subst (IsTypedIn m.typer.types) one.3 one.1.typed) (newest_here m.externals it agree found);
        declared = subst (IsTypedIn m.typer.types) (sym (declared_again id id it))
            (typed_again m.typer.types id it (subst (IsTypedIn m.typer.types) one.3 one.1.typed) (newest_here m.externals it agree found));
        own = λ made is. subst (IsOwn its.base m.typer.types) (typed_made id made it is) own_id;
        strict = λ made is. strict_same m.typer.origins program.types id made (typed_made id made it is);
        older = λ is. absurd cc;
      }

  -- if another unit declared it
  external_by : agrees_with_all m word.text id m.externals ≡ true → find word.text m.links ≡ None → (found : Option Entity)
      → newest_external word.text m.externals ≡ found
      → Gives (Choosing program.types here its m word id) (work_with (λ it. pass (linked_as false it)) (external_as word id found m))
  external_by agree unlinked None same =
      new_chosen program.types here its m word id own_id false (λ is. absurd cc) unlinked (λ is. same) (is_function m.typer.types id) refl
  external_by agree unlinked (Some it) same = (external_chosen it agree same unlinked, refl)

  -- with either linkage
  first_chosen : (static : Bool) → (static ≡ true → here word.text ≡ true) → find word.text m.links ≡ None
      → Gives (Choosing program.types here its m word id) (first_link static word id m)
  first_chosen true inside unlinked =
      new_chosen program.types here its m word id own_id true inside unlinked (λ is. absurd cc) (is_function m.typer.types id) refl
  first_chosen false inside unlinked =
      gives_unless _ _ (clash_of word) m (not (agrees_with_all m word.text id m.externals))
      (λ fits. external_by (not_false (agrees_with_all m word.text id m.externals) fits) unlinked (newest_external word.text m.externals) refl)

  -- ---- once more

  -- by the type that was declared
  known_shape : (known : Option TypeId) → agrees m id known ≡ true → (other : TypeId) → known ≡ Some other → SameShape program.types other id
  known_shape None fits other is = absurd cc
  known_shape (Some old) fits other is =
      subst (λ its. SameShape program.types its id) (some_same old other is) (agree_shape m.typer.types program.types m.typer.origins old id grows fits)

  -- by the types that are known
  known_here : (known : Option TypeId) → agrees m id known ≡ true → (other : TypeId) → known ≡ Some other → SameShape m.typer.types other id
  known_here None fits other is = absurd cc
  known_here (Some old) fits other is =
      subst (λ its. SameShape m.typer.types its id) (some_same old other is)
      (agree_shape m.typer.types m.typer.types m.typer.origins old id (grows_self m.typer.types) fits)

  -- the type that this declaration and the visible ones make together
  together_shape : (types : TypeTable) → Grows m.typer.types types → (seen : Option TypeId) → agrees_if m id seen ≡ true
      → SameShape types id (composite_of m.typer.types seen id)
  together_shape types grows None fits = shape_self types id
  together_shape types grows (Some old) fits =
      shape_turned types (composite_of m.typer.types (Some old) id) id
      (composite_shape types m.typer.types old id (agree_shape m.typer.types types m.typer.origins old id grows fits)).1

  -- of this unit, both have the same structs
  old_strict : (old : TypeId) → IsOwn its.base m.typer.types old → agrees m id (Some old) ≡ true
      → SameBy (AreStrict m.typer.origins program.types) program.types old id
  old_strict old own fits =
      agree_strict its.base m.typer program.types grows stands.traced old id (own_later its.base m.typer.types program.types grows old own)
      (own_later its.base m.typer.types program.types grows id own_id) fits

  -- a type of this unit, of the same structs
  abbrev IsTogether : TypeId → Type 0
  IsTogether made = IsOwn its.base m.typer.types made × SameBy (AreStrict m.typer.origins program.types) program.types id made

  -- and so has the type that both make together
  either_strict : (b : Bool) (old : TypeId) → IsOwn its.base m.typer.types old → agrees m id (Some old) ≡ true → IsTogether (if b then id else old)
  either_strict true old own fits = (own_id, strict_same m.typer.origins program.types id id refl)
  either_strict false old own fits =
      (own, same_turned (AreStrict m.typer.origins program.types) program.types old id (old_strict old own fits))

  -- with the visible ones
  together_strict : (seen : Option TypeId) → ((old : TypeId) → seen ≡ Some old → IsOwn its.base m.typer.types old) → agrees_if m id seen ≡ true
      → IsTogether (composite_of m.typer.types seen id)
  together_strict None own fits = (own_id, strict_same m.typer.origins program.types id id refl)
  together_strict (Some old) own fits = either_strict (is_open m.typer.types old) old (own old refl) fits

  -- the type that is seen, if it is
  seen_same : (b : Bool) (x old : TypeId) → (if b then Some x else None) ≡ Some old → x ≡ old
  seen_same true x old is = some_same x old is
  seen_same false x old is = absurd cc

  -- it is of this unit
  seen_own : (seen it : Entity) → IsOwnName its.base m.typer.types seen → IsVariableIn program.types [] it → (old : TypeId)
      → seen_type (Some seen) it ≡ Some old → IsOwn its.base m.typer.types old
  seen_own (entity.Constant bits) it own global old is = absurd cc
  seen_own (entity.Variable (variable.Global place) x) (entity.Constant bits) own global old is = absurd cc
  seen_own (entity.Variable (variable.Global place) x) (entity.Variable one y) own global old is =
      subst (IsOwn its.base m.typer.types) (seen_same ((variable_eq.ghosts).eq (variable.Global place) one) x old is) own
  seen_own (entity.Variable (variable.Global place) x) (entity.Function y to) own global old is = absurd cc
  seen_own (entity.Variable (variable.Global place) x) (entity.Typedef y) own global old is = absurd cc
  seen_own (entity.Variable (variable.Local place) x) (entity.Constant bits) own global old is = absurd cc
  seen_own (entity.Variable (variable.Local place) x) (entity.Variable (variable.Global number) y) own global old is = absurd cc
  seen_own (entity.Variable (variable.Local place) x) (entity.Variable (variable.Local number) y) own global old is = absurd global
  seen_own (entity.Variable (variable.Local place) x) (entity.Function y to) own global old is = absurd cc
  seen_own (entity.Variable (variable.Local place) x) (entity.Typedef y) own global old is = absurd cc
  seen_own (entity.Function x to) (entity.Constant bits) own global old is = absurd cc
  seen_own (entity.Function x to) (entity.Variable one y) own global old is = absurd cc
  seen_own (entity.Function x to) (entity.Function y to') own global old is = subst (IsOwn its.base m.typer.types) (some_same x old is) own
  seen_own (entity.Function x to) (entity.Typedef y) own global old is = absurd cc
  seen_own (entity.Typedef x) it own global old is = absurd cc

  -- of what the name means where it stands
  seen_here : (it : Entity) → IsVariableIn program.types [] it → (old : TypeId) → type_seen m word it ≡ Some old → IsOwn its.base m.typer.types old
  seen_here it global old is = by_name (find word.text m.typer.names) refl is
    where
      by_name : (seen : Option Entity) → find word.text m.typer.names ≡ seen → seen_type seen it ≡ Some old → IsOwn its.base m.typer.types old
      by_name None found is = absurd cc
      by_name (Some seen) found is =
          seen_own seen it (found_own its.base m.typer.types word.text m.typer.names.declarations stands.typedefs seen found) global old is

  -- a function that was declared before
  older_function : (it : Entity) → RefersTo program.types its m.objects it
      → ((old : TypeId) → type_of_entity it ≡ Some old → IsOwn its.base m.typer.types old) → agrees m id (type_of_entity it) ≡ true → (new : TypeId)
      → SameBy (AreStrict m.typer.origins program.types) program.types id new → (made : TypeId) (number : ℕ)
      → with_type_id new it ≡ entity.Function made (binding.Function number) → IsOlder program.types its m made number
  older_function (entity.Constant bits) refers own fits new together made number same = absurd cc
  older_function (entity.Variable one old) refers own fits new together made number same = absurd cc
  older_function (entity.Function old (binding.Function place)) refers own fits new together made number same =
      let types_same : new ≡ made = cc in
      let places : place ≡ number = cc in
      let strict : SameBy (AreStrict m.typer.origins program.types) program.types new old
      = same_then (AreStrict m.typer.origins program.types) program.types (strict_then m.typer.origins program.types) new id old
      (same_turned (AreStrict m.typer.origins program.types) program.types id new together)
      (same_turned (AreStrict m.typer.origins program.types) program.types old id (old_strict old (own old refl) fits)) in (
        old,
        subst (λ n. IsAmong (entity.Function old (binding.Function n)) its.entities) places refers.1,
        subst (λ made. SameBy (AreStrict m.typer.origins program.types) program.types made old) types_same strict,
      )
  older_function (entity.Function old (binding.Routine place)) refers own fits new together made number same = absurd cc
  older_function (entity.Function old binding.Nothing) refers own fits new together made number same = absurd cc
  older_function (entity.Typedef old) refers own fits new together made number same = absurd cc

  -- a link is of a type of this unit
  link_own : (one : Declared Linked) → IsLink program.types here its m one → (it : Linked) → one.entity ≡ it → (old : TypeId)
      → type_of_entity it.entity ≡ Some old → IsOwn its.base m.typer.types old
  link_own one is it same old known = is.own old (ap (λ it. type_of_entity it.entity) same ∙ known)

  -- it is what it was
  again_chosen : (it : Linked) → find word.text m.links ≡ Some it → agrees m id (type_of_entity it.entity) ≡ true
      → agrees_if m id (type_seen m word it.entity) ≡ true
      → IsChosen program.types here its m word id
      (linked_as it.internal (with_type_id (composite_of m.typer.types (type_seen m word it.entity) id) it.entity)) m.objects
  again_chosen it found fits sees =
      let one = link_found (IsLink program.types here its m) word.text m.links.declarations it stands.links found in
      let made : TypeId = composite_of m.typer.types (type_seen m word it.entity) id in
      let old : RefersAs program.types its m.objects it.entity
      = subst (λ it. RefersAs program.types its m.objects it.entity) one.3 (refers_as program.types its m.objects one.0.entity.entity one.1.refers) in
      let global : IsVariableIn program.types [] it.entity = subst (λ it. IsVariableIn program.types [] it.entity) one.3 one.1.global in
      let typed : IsTypedIn m.typer.types it.entity = subst (λ it. IsTypedIn m.typer.types it.entity) one.3 one.1.typed in
      let together : IsTogether made = together_strict (type_seen m word it.entity) (seen_here it.entity global) sees in
      record {
        stay = objects_self program.types m.objects;
        internal = subst (λ name. it.internal ≡ true → here name ≡ true) one.2
            (subst (λ it. it.internal ≡ true → here one.0.name ≡ true) one.3 one.1.internal);
        bound = bound_typed it.internal m.typer.origins.unit m.definitions m.typer.table word.text made it.entity
            (subst (λ name. IsBoundIn m it.internal name it.entity) one.2
            (subst (λ it. IsBoundIn m it.internal one.0.name it.entity) one.3 one.1.bound));
        global = global_typed program.types made it.entity global;
        kept = λ is. subst IsInternalLink found is;
        refers = inr (record {
          own = refers_typed program.types its m.objects made it.entity old
              (λ other is. shape_then program.types other id made (known_shape (type_of_entity it.entity) fits other is)
              (together_shape program.types grows (type_seen m word it.entity) sees));
          typed = subst (RefersAs program.types its m.objects) (sym (declared_again id made it.entity))
              (refers_typed program.types its m.objects id it.entity old (known_shape (type_of_entity it.entity) fits));
        });
        made = inl refl;
        kind = λ is. function_again it.entity made old global (agrees_typed m.typer.types m.typer.origins id (type_of_entity it.entity) fits)
            (known_shape (type_of_entity it.entity) fits) is;
        typed = typed_again m.typer.types made it.entity typed
            (λ other is. shape_then m.typer.types other id made (known_here (type_of_entity it.entity) fits other is)
            (together_shape m.typer.types (grows_self m.typer.types) (type_seen m word it.entity) sees));
        declared = subst (IsTypedIn m.typer.types) (sym (declared_again id made it.entity))
            (typed_again m.typer.types id it.entity typed (known_here (type_of_entity it.entity) fits));
        own = λ other is. subst (IsOwn its.base m.typer.types) (typed_made made other it.entity is) together.0;
        strict = λ other is. subst (SameBy (AreStrict m.typer.origins program.types) program.types id) (typed_made made other it.entity is) together.1;
        older = λ is other number same. inr
            (older_function it.entity (subst (λ it. RefersTo program.types its m.objects it.entity) one.3 one.1.refers)
            (link_own one.0 one.1 it one.3) fits made together.1 other number same);
      }

  -- after the tests
  next_chosen : (static : Bool) (it : Linked) → find word.text m.links ≡ Some it
      → Gives (Choosing program.types here its m word id) (next_link static word id it m)
  next_chosen static it found =
      gives_unless _ _ (Untyped word.place) m (static && not it.internal)
      (λ a. gives_unless _ _ (clash_of word) m (not (agrees_with_all m word.text id (declarations_of it.internal m)))
      (λ b. gives_unless _ _ (clash_of word) m (not (agrees m id (type_of_entity it.entity)))
      (λ fits. gives_unless _ _ (clash_of word) m (not (agrees_if m id (type_seen m word it.entity)))
      (λ sees. (
        again_chosen it found (not_false (agrees m id (type_of_entity it.entity)) fits)
            (not_false (agrees_if m id (type_seen m word it.entity)) sees),
        refl,
      )))))

  -- what the name was linked to in the unit
  pub link_as_chosen : (static : Bool) → MayBeStatic here static word m → (found : Option Linked) → find word.text m.links ≡ found
      → Gives (Choosing program.types here its m word id) (link_as static word id found m)
  link_as_chosen static inside None same = first_chosen static (λ is. inside is same) same
  link_as_chosen static inside (Some it) same = next_chosen static it same
