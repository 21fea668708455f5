-- Names that have a link in their unit (X3.159-1989 3.1.2.2): the first declaration gives the link, and it stays until the end of the unit.
--     HasLink name m                  the name has a link; link_stays, link_kept: at a later place of the unit
--     MayBeStatic here static word m  `static` gives the name internal linkage, if it has no link yet; static_kept, static_linked
--     MayBeItems, AreItemsLinked      so it is of the declarators of a declaration
use Rattle.std.proofs.Common.{◌≡◌, ℕ, Bool, true, List, Option, Some, None, IsTrue, is_some, refl, sym, subst}
use Rattle.std.specs.Prelude.{◌==◌}
use Rattle.std.specs.List.{AllByRecursion}
use Rattle.hs_base.specs.Entries.{all_so}
use Rattle.hs_base.specs.Options.{is_there}
use Rattle.hs_fitting.specs.Claims.{Claims, Proceeds}
use Rattle.hs_fitting.specs.Lasting.{is_place}
use Rattle.hs_fitting.specs.Moves.{Moves}
use Rattle.hs_linkage.specs.declared.definitions.Definition.{Definition}
use Rattle.hs_linkage.specs.declared.translator.Linked.{Linked}
use Rattle.hs_linkage.specs.declared.translator.Translator.{Translator}
use Rattle.hs_names.specs.Scopes.{find}
use Rattle.hs_syntax.specs.Trees.{Declaring}
use Rattle.hs_syntax.specs.declared.word.Word.{Word}
use Rattle.hs_typer.specs.Declarators.{word_of}
use Rattle.hs_types.specs.TypeTables.{TypeTable}

-- the name has a link in the unit
abbrev pub HasLink : List ℕ → Translator → Type 0
HasLink name m = IsTrue (is_some (find name m.links))

-- no link is not one
pub no_link : (o : Option Linked) → o ≡ None → IsTrue (is_some o) → ⊥
no_link None same is = absurd cc
no_link (Some it) same is = absurd cc

-- a definition of that name in that unit, with internal linkage: what is so of all definitions is so of it
abbrev defined_in : List ℕ → ℕ → Definition
defined_in name unit = record { name = name; unit = unit; internal = true }

-- The name keeps its link to the end of the unit.
pub link_stays : (types : TypeTable) (name : List ℕ) (its later : Claims) (m n : Translator) → Proceeds types its m later n
    → n.typer.origins.unit ≡ m.typer.origins.unit → HasLink name m → HasLink name n
link_stays types name its later m n proceeds same has =
    proceeds.met (defined_in name m.typer.origins.unit) (λ here. has)
    (subst (λ unit. (m.typer.origins.unit == unit) ≡ true) (sym same) (is_place m.typer.origins.unit))

-- in steps
pub link_kept : (types : TypeTable) (name : List ℕ) (its later : Claims) (m n : Translator) → Proceeds types its m later n → Moves m n
    → HasLink name m → HasLink name n
link_kept types name its later m n proceeds moves has = link_stays types name its later m n proceeds moves.typer.unit has

-- `static` gives the name internal linkage, if it has no link yet
abbrev pub MayBeStatic : (List ℕ → Bool) → Bool → Word → Translator → Type 0
MayBeStatic here static word m = static ≡ true → find word.text m.links ≡ None → here word.text ≡ true

-- it has one
pub static_linked : (here : List ℕ → Bool) (static : Bool) (word : Word) (m : Translator) → HasLink word.text m → MayBeStatic here static word m
static_linked here static word m has is none = absurd (no_link (find word.text m.links) none has)

-- at a later place of the unit
pub static_kept : (types : TypeTable) (here : List ℕ → Bool) (static : Bool) (word : Word) (its later : Claims) (m n : Translator)
    → Proceeds types its m later n → Moves m n → MayBeStatic here static word m → MayBeStatic here static word n
static_kept types here static word its later m n proceeds moves may is none = may is (none_before (find word.text m.links) refl)
  where
    none_before : (o : Option Linked) → find word.text m.links ≡ o → find word.text m.links ≡ None
    none_before None same = same
    none_before (Some it) same =
        absurd (no_link (find word.text n.links) none
        (link_kept types word.text its later m n proceeds moves (is_there (find word.text m.links) it same)))

-- ---- declarators

-- the linkage that `static` may give the name of a declarator
abbrev pub MayBeItem : (List ℕ → Bool) → Bool → Option Word → Translator → Type 0
MayBeItem here static o m = (word : Word) → o ≡ Some word → MayBeStatic here static word m

-- the name has a link
abbrev pub IsItemLinked : Option Word → Translator → Type 0
IsItemLinked o m = (word : Word) → o ≡ Some word → HasLink word.text m

-- and those of all declarators of a declaration
abbrev pub MayBeItems : (List ℕ → Bool) → Bool → List Declaring → Translator → Type 0
MayBeItems here static its m = AllByRecursion (λ item. MayBeItem here static (word_of item.declarator) m) its

-- all their names have links
abbrev pub AreItemsLinked : List Declaring → Translator → Type 0
AreItemsLinked its m = AllByRecursion (λ item. IsItemLinked (word_of item.declarator) m) its

-- at a later place of the unit
pub item_kept : (types : TypeTable) (here : List ℕ → Bool) (static : Bool) (o : Option Word) (its later : Claims) (m n : Translator)
    → Proceeds types its m later n → Moves m n → MayBeItem here static o m → MayBeItem here static o n
item_kept types here static o its later m n proceeds moves may word is =
    static_kept types here static word its later m n proceeds moves (may word is)

pub items_kept : (types : TypeTable) (here : List ℕ → Bool) (static : Bool) (items : List Declaring) (its later : Claims) (m n : Translator)
    → Proceeds types its m later n → Moves m n → MayBeItems here static items m → MayBeItems here static items n
items_kept types here static items its later m n proceeds moves may =
    all_so (λ item. MayBeItem here static (word_of item.declarator) m) (λ item. MayBeItem here static (word_of item.declarator) n)
    (λ item is. item_kept types here static (word_of item.declarator) its later m n proceeds moves is) items may

pub item_linked_kept : (types : TypeTable) (o : Option Word) (its later : Claims) (m n : Translator) → Proceeds types its m later n → Moves m n
    → IsItemLinked o m → IsItemLinked o n
item_linked_kept types o its later m n proceeds moves has word is = link_kept types word.text its later m n proceeds moves (has word is)

-- with a storage word that is `static` only if that one is
pub items_so : (here : List ℕ → Bool) (static said : Bool) (items : List Declaring) (m : Translator) → (said ≡ true → static ≡ true)
    → MayBeItems here static items m → MayBeItems here said items m
items_so here static said items m so may =
    all_so (λ item. MayBeItem here static (word_of item.declarator) m) (λ item. MayBeItem here said (word_of item.declarator) m)
    (λ item is word named yes_said. is word named (so yes_said)) items may
