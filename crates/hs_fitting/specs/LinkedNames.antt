-- Names that are declared, with linkage or without, keep referring to what was claimed, as the program goes on (X3.159-1989 3.1.2.2 and 3.7).
--     with_link, with_static              a name keeps its link
--     kept_walks, refers_kept             a fact that stays from one place of the text to a later one, such as what a name refers to
--     placed_object_walks, new_object_walks, object_typed_walks, define_object_walks      objects
--     named_walks, renamed_walks          names
--     IsLinkedTo its m word id it, link_walks, linked_walks, completed_link_walks      names with linkage
use Rattle.std.proofs.Common.{◌≡◌, ℕ, Bool, true, false, ◌||◌, List, [], ◌∷◌, ◌++◌, length, slice_get, Some, Result, Ok, Err, IsTrue, is_some, refl, sym, subst}
use Rattle.hs_base.specs.Entries.{all_appended}
use Rattle.hs_base.specs.Options.{is_there}
use Rattle.hs_fitting.specs.Changing.{objects_walked, name_walked, declare_walked, typed_walked, kept_walked}
use Rattle.hs_fitting.specs.Chosen.{new_object_refers, new_object_stay}
use Rattle.hs_fitting.specs.Claims.{Claims, RefersTo, IsVariableIn, IsBoundIn, Endures, IsObjectRight, Stands, Proceeds, category_at}
use Rattle.hs_fitting.specs.Declaring.{declare_moved, renamed_moved, new_object_moved, link_moved, define_object_moved, object_typed_moved}
use Rattle.hs_fitting.specs.HasLinks.{HasLink, MayBeStatic, link_kept, static_kept}
use Rattle.hs_fitting.specs.Linking.{MayMake, Linking, link_stands, linking_global}
use Rattle.hs_fitting.specs.Links.{refers_later, global_in}
use Rattle.hs_fitting.specs.Making.{IsFunction, zero_right}
use Rattle.hs_fitting.specs.Moves.{Moves}
use Rattle.hs_fitting.specs.Moving.{Moving}
use Rattle.hs_fitting.specs.Owned.{IsOwn}
use Rattle.hs_fitting.specs.Owning.{IsOwnName, name_later}
use Rattle.hs_fitting.specs.Setting.{defined_stay, defined_right}
use Rattle.hs_fitting.specs.Walk.{Nothing, Walking, Walks, passes_walks, unless_walks, then_walks, so_walks}
use Rattle.hs_linkage.specs.Externals.{newest_external}
use Rattle.hs_linkage.specs.Linkage.{with_type_id, may_name, zero_object, new_object, link, object_typed, renamed, linked, completed_link, define_object, is_function}
use Rattle.hs_linkage.specs.Objects.{object_with}
use Rattle.hs_linkage.specs.Works.{Work, typing}
use Rattle.hs_linkage.specs.declared.translator.Linked.{Linked}
use Rattle.hs_linkage.specs.declared.translator.Translator.{Translator}
use Rattle.hs_names.specs.Scopes.{find, find_here}
use Rattle.hs_syntax.specs.declared.word.Word.{Word}
use Rattle.hs_tree.specs.Kinds.{of_function, category_of}
use Rattle.hs_tree.specs.Objects.{FitsParts}
use Rattle.hs_tree.specs.Trees.{TypedFunction, TypedProgram}
use Rattle.hs_tree.specs.declared.constant.Part.{Part}
use Rattle.hs_tree.specs.declared.head.Variable.TheVariants as variable
use Rattle.hs_typer.specs.Declarators.{is_typedef, declare}
use Rattle.hs_typer.specs.declared.type_error.TypeError.{TypeError}
use Rattle.hs_typer.specs.declared.type_error.TypeError.TheVariants.{Untyped}
use Rattle.hs_typer.specs.declared.typer.Entity.{Entity}
use Rattle.hs_typer.specs.declared.typer.Entity.TheVariants as entity
use Rattle.hs_types.specs.Growing.{grows_then}
use Rattle.hs_types.specs.TypeTables.{TypeTable}
use Rattle.hs_types.specs.declared.row.TypeId.{TypeId}

-- ---- steps

-- the name of an object of static storage duration
abbrev pub IsObject : TypeId → Entity → Type 0
IsObject id it = (place : ℕ) × (it ≡ entity.Variable (variable.Global place) id)

-- a name keeps referring to what was claimed
pub refers_kept : (program : TypedProgram) (it : Entity) (its more : Claims) (m n : Translator) → Proceeds program.types its m more n
    → RefersTo program.types its m.objects it → RefersTo program.types more n.objects it
refers_kept program it its more m n proceeds is =
    refers_later program.types its more m.objects n.objects
    (record { functions = proceeds.functions; routines = proceeds.routines; entities = proceeds.entities })
    proceeds.objects it is

module _ {here : List ℕ → Bool} {program : TypedProgram} {function : TypedFunction} where
  -- a fact that stays
  pub kept_walks : {A : Type 0} → {pre : Claims → Translator → Type 0} → {after : Claims → Translator → A → Type 0} → {holds : A → Type 0}
      → {work : Work A} → (keeps : Claims → Translator → Type 0)
      → ((its more : Claims) (m n : Translator) → Proceeds program.types its m more n → Moves m n → keeps its m → keeps more n)
      → Walks here program function pre work after holds
      → Walks here program function (λ its m. pre its m × keeps its m) work (λ its m it. after its m it × keeps its m) holds
  kept_walks {after = after} {holds = holds} {work = work} keeps stays walks =
      record {
        moved = walks.moved;
        from = λ its m scoped counts stands met. kept_walked here program function after holds keeps its m stays met.1 (work m)
            (walks.moved.from m scoped) (walks.from its m scoped counts stands met.0);
      }

  -- a name keeps its link
  pub with_link : {A : Type 0} → {pre : Claims → Translator → Type 0} → {after : Claims → Translator → A → Type 0} → {holds : A → Type 0}
      → {work : Work A} → (name : List ℕ) → Walks here program function pre work after holds
      → Walks here program function (λ its m. pre its m × HasLink name m) work (λ its m it. after its m it × HasLink name m) holds
  with_link name walks =
      kept_walks (λ its m. HasLink name m) (λ its more m n proceeds moves has. link_kept program.types name its more m n proceeds moves has) walks

  -- and the linkage that a declaration may give it
  pub with_static : {A : Type 0} → {pre : Claims → Translator → Type 0} → {after : Claims → Translator → A → Type 0} → {holds : A → Type 0}
      → {work : Work A} → (static : Bool) (word : Word) → Walks here program function pre work after holds
      → Walks here program function (λ its m. pre its m × MayBeStatic here static word m) work
      (λ its m it. after its m it × MayBeStatic here static word m) holds
  with_static static word walks =
      kept_walks (λ its m. MayBeStatic here static word m)
      (λ its more m n proceeds moves may. static_kept program.types here static word its more m n proceeds moves may) walks

  -- an object is new
  pub placed_object_walks : {pre : Claims → Translator → Type 0} → (word : Word) (id : TypeId)
      → (category_of program.types id ≡ Some of_function → ⊥)
      → Walks here program function pre (new_object word id) (λ its m it. RefersTo program.types its m.objects it × IsObject id it) (λ it. Unit {0})
  placed_object_walks word id object =
      record {
        moved = new_object_moved word id;
        from = λ its m scoped counts stands met. objects_walked here program function
            (λ its m it. RefersTo program.types its m.objects it × IsObject id it) its m
            (m.objects ++ zero_object word id ∷ []) (entity.Variable (variable.Global (length m.objects)) id)
            (new_object_stay program.types here its m word id)
            (all_appended (IsObjectRight program its m) m.objects (zero_object word id ∷ []) stands.objects
            (zero_right program its m word id object, tt)) stands
            (new_object_refers program.types here its m word id, (length m.objects, refl));
      }

  -- its name refers to it
  pub new_object_walks : {pre : Claims → Translator → Type 0} → (word : Word) (id : TypeId)
      → (category_of program.types id ≡ Some of_function → ⊥)
      → Walks here program function pre (new_object word id) (λ its m it. RefersTo program.types its m.objects it) (λ it. Unit {0})
  new_object_walks word id object =
      so_walks (λ its m is. is) (λ its m it is. is.0) (λ it is. tt) (placed_object_walks word id object)

  -- a declaration gives it a type
  pub object_typed_walks : (it : Entity)
      → Walks here program function (λ its m. RefersTo program.types its m.objects it) (object_typed it)
      (λ its m done. RefersTo program.types its m.objects it) (λ done. Unit {0})
  object_typed_walks it =
      record { moved = object_typed_moved it; from = λ its m scoped counts stands met. typed_walked here program function its m it stands met }

  -- its definition gives it a type, and parts that fit
  pub define_object_walks : (place : ℕ) (id : TypeId) (parts : List Part)
      → Walks here program function
      (λ its m. (category_at program.types (slice_get m.objects place) ≡ Some (category_of program.types id))
      × (Endures program its m → FitsParts program id parts))
      (define_object place id parts) Nothing (λ done. Unit {0})
  define_object_walks place id parts =
      record {
        moved = define_object_moved place id parts;
        from = λ its m scoped counts stands met. objects_walked here program function Nothing its m
            (object_with id parts (slice_get m.objects place) m.objects place) tt
            (defined_stay program.types id parts m.objects place (slice_get m.objects place) refl met.0)
            (defined_right program its m id parts m.objects place (slice_get m.objects place) refl met.0 met.1 stands.objects) stands tt;
      }

  -- one name more
  pub named_walks : (word : Word) (it : Entity)
      → Walks here program function
      (λ its m. RefersTo program.types its m.objects it × IsVariableIn program.types m.locals it × IsOwnName its.base m.typer.types it)
      (typing (declare word it)) Nothing (λ done. Unit {0})
  named_walks word it =
      record {
        moved = declare_moved word it;
        from = λ its m scoped counts stands met. declare_walked here program function its m word it
            (is_typedef (find word.text m.typer.names) || is_some (find_here word.text m.typer.names)) stands met.0 met.1 met.2;
      }

  -- without a test
  pub renamed_walks : (word : Word) (it : Entity)
      → Walks here program function
      (λ its m. RefersTo program.types its m.objects it × IsVariableIn program.types m.locals it × IsOwnName its.base m.typer.types it)
      (typing (renamed word it)) Nothing (λ done. Unit {0})
  renamed_walks word it =
      record {
        moved = renamed_moved word it;
        from = λ its m scoped counts stands met. name_walked here program function its m word it stands met.0 met.1 met.2;
      }

-- ---- names with linkage

-- of a type of this unit
abbrev pub IsPlainName : Entity → Claims → Translator → Type 0
IsPlainName it its m = IsOwnName its.base m.typer.types it

-- which stays so
plain_kept : (program : TypedProgram) (it : Entity) (its more : Claims) (m n : Translator) → Proceeds program.types its m more n → Moves m n
    → IsPlainName it its m → IsPlainName it more n
plain_kept program it its more m n proceeds moves is =
    subst (λ base. IsOwnName base n.typer.types it) (sym proceeds.base) (name_later its.base m.typer.types n.typer.types moves.typer.types it is)

-- of a type of this unit
abbrev pub MayLink : TypedProgram → Claims → Translator → TypeId → Type 0
MayLink program its m id = MayMake program m id × IsOwn its.base m.typer.types id

-- and with that linkage
abbrev pub MayLinkAs : (List ℕ → Bool) → TypedProgram → Bool → Word → TypeId → Claims → Translator → Type 0
MayLinkAs here program static word id its m = MayLink program its m id × MayBeStatic here static word m

-- What a declaration with linkage gives, and what is known then: the name is linked to what was claimed, also with the type of this declaration.
pub record IsLinkedTo (types : TypeTable) (here : List ℕ → Bool) (its : Claims) (m : Translator) (word : Word) (id : TypeId) (it : Entity) : Type 0 where
  pub refers : RefersTo types its m.objects it
  pub declared : RefersTo types its m.objects (with_type_id id it)
  pub linked : Linked
  pub found : find word.text m.links ≡ Some linked
  pub entity : linked.entity ≡ it
  pub bound : IsBoundIn m linked.internal word.text it
  pub internal : linked.internal ≡ true → here word.text ≡ true
  pub external : linked.internal ≡ false → IsTrue (is_some (newest_external word.text m.externals))
  pub global : IsVariableIn types [] it
  pub kind : is_function m.typer.types id ≡ true → IsFunction it
  pub plain : IsPlainName it its m

-- it and its name refer to what was claimed, it is no automatic variable, and the name has a link
abbrev pub IsReferred : TypeTable → Word → TypeId → Entity → Claims → Translator → Type 0
IsReferred types word id it its m =
    RefersTo types its m.objects it × RefersTo types its m.objects (with_type_id id it) × IsVariableIn types [] it × IsPlainName it its m
    × HasLink word.text m

-- which stays so
referred_kept : (program : TypedProgram) (word : Word) (id : TypeId) (it : Entity) (its more : Claims) (m n : Translator) → Proceeds program.types its m more n
    → Moves m n → IsReferred program.types word id it its m → IsReferred program.types word id it more n
referred_kept program word id it its more m n proceeds moves is = (
  refers_kept program it its more m n proceeds is.0,
  refers_kept program (with_type_id id it) its more m n proceeds is.1,
  is.2,
  plain_kept program it its more m n proceeds moves is.3,
  link_kept program.types word.text its more m n proceeds moves is.4,
)

-- of an answer of `link`
link_walked : (here : List ℕ → Bool) (program : TypedProgram) (function : TypedFunction) (static : Bool) (word : Word) (id : TypeId) (its : Claims)
    (m : Translator) → MayLinkAs here program static word id its m → Stands program here its m.locals m
    → (given : Result (Entity × Translator) TypeError) → link static word id m ≡ given → Moving m given
    → Walking here program function its m (λ its m it. IsLinkedTo program.types here its m word id it) (λ it. Unit {0}) given
link_walked here program function static word id its m may stands (Ok p) same moves = λ grows.
    let linking : Linking program here its m.locals m word id p
    = link_stands program here static word id its m.locals m
    (grows_then m.typer.types p.1.typer.types program.types moves.typer.types grows) may.1 may.0.0 may.0.1 stands p same in
    record {
      claims = linking.claims;
      proceeds = linking.proceeds;
      stands = subst (λ variables. Stands program here linking.claims variables p.1) (sym linking.locals) linking.stands;
      known = record {
        refers = linking.refers;
        declared = linking.declared;
        linked = linking.linked;
        found = linking.found;
        entity = linking.entity;
        bound = linking.bound;
        internal = linking.internal;
        external = linking.external;
        global = linking_global program here its m.locals m word id p linking;
        kind = λ is. linking.kind (subst (λ known. is_function known.types id ≡ true) linking.typer is);
        plain = subst (λ known. IsOwnName linking.claims.base known.types p.0) (sym linking.typer) linking.plain;
      };
      gives = λ continues. tt;
    }
link_walked here program function static word id its m may stands (Err why) same moves = tt

module _ {here : List ℕ → Bool} {program : TypedProgram} {function : TypedFunction} where
  -- a step that keeps what a name refers to
  referred_walks : {A : Type 0} → {pre : Claims → Translator → Type 0} → {after : Claims → Translator → A → Type 0} → {holds : A → Type 0}
      → {work : Work A} → (word : Word) (id : TypeId) (it : Entity)
      → ((its : Claims) (m : Translator) → IsReferred program.types word id it its m → pre its m)
      → Walks here program function pre work after holds
      → Walks here program function (λ its m. IsReferred program.types word id it its m) work
      (λ its m done. IsReferred program.types word id it its m) holds
  referred_walks word id it met walks =
      so_walks (λ its m is. (met its m is, is)) (λ its m done is. is.1) (λ done is. is)
      (kept_walks (λ its m. IsReferred program.types word id it its m)
      (λ its more m n proceeds moves is. referred_kept program word id it its more m n proceeds moves is) walks)

  -- the object or the function that a name refers to
  pub link_walks : (static : Bool) (word : Word) (id : TypeId)
      → Walks here program function (MayLinkAs here program static word id) (link static word id)
      (λ its m it. IsLinkedTo program.types here its m word id it) (λ it. Unit {0})
  link_walks static word id =
      record {
        moved = link_moved static word id;
        from = λ its m scoped counts stands met. link_walked here program function static word id its m met stands (link static word id m) refl
            ((link_moved static word id).from m scoped);
      }

  -- it is known what the entity refers to
  link_refers_walks : (static : Bool) (word : Word) (id : TypeId)
      → Walks here program function (MayLinkAs here program static word id) (link static word id) (λ its m it. IsReferred program.types word id it its m)
      (λ it. Unit {0})
  link_refers_walks static word id =
      so_walks (λ its m is. is) (λ its m it is. (is.refers, is.declared, is.global, is.plain, is_there (find word.text m.links) is.linked is.found))
      (λ it is. tt) (link_walks static word id)

  -- the name means it from here on
  again_walks : (word : Word) (id : TypeId) (it : Entity)
      → Walks here program function (λ its m. IsReferred program.types word id it its m) (typing (renamed word it))
      (λ its m done. IsReferred program.types word id it its m) (λ done. Unit {0})
  again_walks word id it =
      referred_walks word id it (λ its m is. (is.0, global_in program.types m.locals it is.2, is.3)) (renamed_walks word it)

  -- a declaration with linkage
  pub linked_walks : (static : Bool) (word : Word) (id : TypeId)
      → Walks here program function (MayLinkAs here program static word id) (linked static word id)
      (λ its m it. IsReferred program.types word id it its m) (λ it. Unit {0})
  linked_walks static word id =
      then_walks {after = λ its m done. MayLinkAs here program static word id its m} {holds = λ done. Unit {0}} (may_name word)
      (unless_walks (Untyped word.place) _ (λ its m may failed. may))
      (λ may. then_walks {holds = λ it. Unit {0}} (link static word id) (link_refers_walks static word id)
      (λ it. then_walks (object_typed it) (referred_walks word id it (λ its m is. is.0) (object_typed_walks it))
      (λ done. then_walks (typing (renamed word it)) (again_walks word id it)
      (λ named. passes_walks it (λ its m is. is) (λ a b c d. tt)))))

  -- after its initialiser
  pub completed_link_walks : (static : Bool) (word : Word) (id : TypeId)
      → Walks here program function (MayLinkAs here program static word id) (completed_link static word id)
      (λ its m it. IsReferred program.types word id it its m) (λ it. Unit {0})
  completed_link_walks static word id =
      then_walks (link static word id) (link_refers_walks static word id)
      (λ it. then_walks (typing (renamed word it)) (again_walks word id it)
      (λ named. passes_walks it (λ its m is. is) (λ a b. tt)))
