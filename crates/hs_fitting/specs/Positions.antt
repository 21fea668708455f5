-- Which definition has which number, and which names have internal linkage in a unit (X3.159-1989 3.1.2.2 and 3.7).
--     unit_internal             a definition of a unit has the linkage that its name has there
--     definition_at             the number of a function definition is that of the definitions before it
--     function_counts, declaration_counts, unit_counts      the numbers go on, from one external declaration and from one unit to the next
--     declaration_static, function_static                   a name whose first declaration has `static` has internal linkage in the unit
--     AreLinked its m, LinksOf it m      each name that external declarations declare has a link; no_links, links_with,
--     declaration_links, function_links, no_place
use Rattle.std.proofs.Common.{◌≡◌, ◌⊎◌, inl, inr, ◌≤◌, ℕ, suc, ◌+◌, Bool, true, false, not, ◌||◌, List, [], ◌∷◌, ◌++◌, length, slice_get, Option, Some, None, refl, sym, ap, subst, ◌∙◌, arith, if◌then◌else◌}
use Rattle.std.proofs.lemmas.Bool.{or_left, or_right}
use Rattle.std.proofs.lemmas.Bool.Decides.{nat_tests}
use Rattle.std.proofs.lemmas.List.{append_assoc, append-nil, length-append}
use Rattle.std.proofs.lemmas.List.Folds.{list_any-append}
use Rattle.std.specs.Cmp.Lexicographic.{nat_list_eq_equiv}
use Rattle.std.specs.List.{AllByRecursion, list_any}
use Rattle.std.specs.Prelude.{◌==◌}
use Rattle.hs_base.specs.Tests.{or_false, not_first, either_test, both_true, both_tests}
use Rattle.hs_base.specs.Entries.{all_appended, all_so, all_at}
use Rattle.hs_fitting.specs.Claims.{Claims, Proceeds}
use Rattle.hs_fitting.specs.Found.{same_texts}
use Rattle.hs_fitting.specs.HasLinks.{HasLink, MayBeItem, IsItemLinked, MayBeItems, AreItemsLinked, no_link, link_stays}
use Rattle.hs_functions.specs.Units.{first_name, or_place, place_of_declaration}
use Rattle.hs_linkage.specs.Definitions.{storage_word, or_storage, storage_of, says_static, says_typedef, has_static, declares_with, is_named, is_among, declares, is_static, is_internal, text_of, definition_of, definitions_in, all_definitions}
use Rattle.hs_linkage.specs.declared.definitions.Definition.{Definition}
use Rattle.hs_linkage.specs.declared.translator.Translator.{Translator}
use Rattle.hs_names.specs.Scopes.{find}
use Rattle.hs_syntax.specs.Positions.{first_of_specifiers}
use Rattle.hs_syntax.specs.Trees as syntax
use Rattle.hs_syntax.specs.Trees.{Compound, Declaration, Declared, Declaring, ExternalDeclaration, Specification}
use Rattle.hs_syntax.specs.declared.operators.Storage.{Storage}
use Rattle.hs_syntax.specs.declared.operators.Storage.TheVariants as storage
use Rattle.hs_syntax.specs.declared.word.Word.{Word}
use Rattle.hs_typer.specs.Declarators.{word_of}
use Rattle.hs_types.specs.TypeTables.{TypeTable}

-- ---- lists

-- an entry after others
behind_at : {A : Type 0} → (xs : List A) (x : A) (more : List A) → slice_get (xs ++ x ∷ more) (length xs) ≡ Some x
behind_at [] x more = refl
behind_at (y ∷ xs) x more = behind_at xs x more

-- ---- the unit of a definition, and its linkage

-- a definition of the unit with that number
abbrev IsOf : ℕ → List ExternalDeclaration → Definition → Type 0
IsOf number unit it = (it.unit ≡ number) × (it.internal ≡ is_internal unit it.name)

-- all that an external declaration, and the others, define are of their unit
are_of : (number : ℕ) (unit its : List ExternalDeclaration) → AllByRecursion (IsOf number unit) (definitions_in number unit its)
are_of number unit [] = tt
are_of number unit (syntax.function_definition words it body ∷ rest) = ((refl, refl), are_of number unit rest)
are_of number unit (syntax.declaration it ∷ rest) = are_of number unit rest

-- those of units from a number on
are_from : (number : ℕ) (units : List (List ExternalDeclaration)) → AllByRecursion (λ it. number ≤ it.unit) (all_definitions number units)
are_from number [] = tt
are_from number (unit ∷ units) =
    all_appended (λ it. number ≤ it.unit) (definitions_in number unit unit) (all_definitions (suc number) units)
    (all_so (IsOf number unit) (λ it. number ≤ it.unit) (λ it is. here it.unit is.0) (definitions_in number unit unit) (are_of number unit unit))
    (all_so (λ it. suc number ≤ it.unit) (λ it. number ≤ it.unit) (λ it is. later it.unit is) (all_definitions (suc number) units)
    (are_from (suc number) units))
  where
    here : (n : ℕ) → n ≡ number → number ≤ n
    here n is = omega (arith, is)

    later : (n : ℕ) → suc number ≤ n → number ≤ n
    later n is = omega (arith, is)

-- a definition of the unit at a place has the linkage that its name has there
abbrev IsOfPlace : ℕ → List ExternalDeclaration → Definition → Type 0
IsOfPlace number unit it = it.unit ≡ number → it.internal ≡ is_internal unit it.name

-- all definitions, of which those of other units have other numbers
are_of_place : (number : ℕ) (before : List (List ExternalDeclaration)) (unit : List ExternalDeclaration) (after : List (List ExternalDeclaration))
    → AllByRecursion (IsOfPlace (length before + number) unit) (all_definitions number (before ++ unit ∷ after))
are_of_place number [] unit after =
    all_appended (IsOfPlace (0 + number) unit) (definitions_in number unit unit) (all_definitions (suc number) after)
    (all_so (IsOf number unit) (IsOfPlace (0 + number) unit) (λ it is of. is.1) (definitions_in number unit unit) (are_of number unit unit))
    (all_so (λ it. suc number ≤ it.unit) (IsOfPlace (0 + number) unit) (λ it is of. absurd (other it.unit is of))
    (all_definitions (suc number) after) (are_from (suc number) after))
  where
    other : (n : ℕ) → suc number ≤ n → n ≡ 0 + number → ⊥
    other n is of = omega (arith, is, of)
are_of_place number (one ∷ before) unit after =
    all_appended (IsOfPlace (suc (length before) + number) unit) (definitions_in number one one)
    (all_definitions (suc number) (before ++ unit ∷ after))
    (all_so (IsOf number one) (IsOfPlace (suc (length before) + number) unit) (λ it is of. absurd (other it.unit (length before) is.0 of))
    (definitions_in number one one) (are_of number one one))
    (subst (λ n. AllByRecursion (IsOfPlace n unit) (all_definitions (suc number) (before ++ unit ∷ after))) (next (length before))
    (are_of_place (suc number) before unit after))
  where
    other : (n places : ℕ) → n ≡ number → n ≡ suc places + number → ⊥
    other n places is of = omega (arith, is, of)

    next : (places : ℕ) → places + suc number ≡ suc places + number
    next places = omega arith

-- numbers that are tested to be the same
same_number : (a b : ℕ) → (a == b) ≡ true → a ≡ b + 0
same_number a b is = grind (arith, nat_tests, is)

-- A definition of a unit has the linkage that its name has there.
pub unit_internal : (units before : List (List ExternalDeclaration)) (unit : List ExternalDeclaration) (after : List (List ExternalDeclaration))
    → units ≡ before ++ unit ∷ after → (number : ℕ) (it : Definition) → slice_get (all_definitions 0 units) number ≡ Some it
    → (it.unit == length before) ≡ true → it.internal ≡ is_internal unit it.name
unit_internal units before unit after same number it at is =
    all_at (IsOfPlace (length before + 0) unit) (all_definitions 0 (before ++ unit ∷ after)) number it (are_of_place 0 before unit after)
    (subst (λ its. slice_get (all_definitions 0 its) number ≡ Some it) same at) (same_number it.unit (length before) is)

-- ---- numbers of definitions

-- the definitions of two parts of a unit
in_appended : (number : ℕ) (unit first rest : List ExternalDeclaration)
    → definitions_in number unit (first ++ rest) ≡ definitions_in number unit first ++ definitions_in number unit rest
in_appended number unit [] rest = refl
in_appended number unit (syntax.function_definition words it body ∷ first) rest =
    ap (λ its. definition_of number unit (text_of (word_of it)) ∷ its) (in_appended number unit first rest)
in_appended number unit (syntax.declaration it ∷ first) rest = in_appended number unit first rest

-- and of two lists of units
pub all_of_appended : (number : ℕ) (before rest : List (List ExternalDeclaration))
    → all_definitions number (before ++ rest) ≡ all_definitions number before ++ all_definitions (length before + number) rest
all_of_appended number [] rest = ap (λ n. all_definitions n rest) start
  where
    start : number ≡ 0 + number
    start = omega arith
all_of_appended number (one ∷ before) rest =
    ap (λ its. definitions_in number one one ++ its)
    (all_of_appended (suc number) before rest
    ∙ ap (λ n. all_definitions (suc number) before ++ all_definitions n rest) (next (length before)))
    ∙ sym (append_assoc (definitions_in number one one) (all_definitions (suc number) before) (all_definitions (suc (length before) + number) rest))
  where
    next : (places : ℕ) → places + suc number ≡ suc places + number
    next places = omega arith

-- units are counted from 0
no_more : (n : ℕ) → n + 0 ≡ n
no_more n = omega arith

-- of all units
from_first : (before rest : List (List ExternalDeclaration))
    → all_definitions 0 (before ++ rest) ≡ all_definitions 0 before ++ all_definitions (length before) rest
from_first before rest = all_of_appended 0 before rest ∙ ap (λ n. all_definitions 0 before ++ all_definitions n rest) (no_more (length before))

-- the definitions of all units, of which one defines a function
all_around : (before : List (List ExternalDeclaration)) (unit : List ExternalDeclaration) (after : List (List ExternalDeclaration))
    (first rest : List ExternalDeclaration) (words : Specification) (it : Declared) (body : Compound)
    → unit ≡ first ++ syntax.function_definition words it body ∷ rest
    → all_definitions 0 (before ++ unit ∷ after)
    ≡ (all_definitions 0 before ++ definitions_in (length before) unit first)
    ++ definition_of (length before) unit (text_of (word_of it))
    ∷ (definitions_in (length before) unit rest ++ all_definitions (suc (length before)) after)
all_around before unit after first rest words it body is =
    from_first before (unit ∷ after)
    ∙ ap (λ its. all_definitions 0 before ++ its)
    (ap (λ its. its ++ all_definitions (suc (length before)) after)
    (ap (definitions_in (length before) unit) is
    ∙ in_appended (length before) unit first (syntax.function_definition words it body ∷ rest))
    ∙ append_assoc (definitions_in (length before) unit first)
    (definition_of (length before) unit (text_of (word_of it)) ∷ definitions_in (length before) unit rest)
    (all_definitions (suc (length before)) after))
    ∙ sym (append_assoc (all_definitions 0 before) (definitions_in (length before) unit first)
    (definition_of (length before) unit (text_of (word_of it))
    ∷ (definitions_in (length before) unit rest ++ all_definitions (suc (length before)) after)))

-- the one whose number is that of those before it
at_sum : (all one two more : List Definition) (x : Definition) → all ≡ (one ++ two) ++ x ∷ more → slice_get all (length one + length two) ≡ Some x
at_sum all one two more x is =
    subst (λ n. slice_get all n ≡ Some x) (length-append one two)
    (subst (λ its. slice_get its (length (one ++ two)) ≡ Some x) (sym is) (behind_at (one ++ two) x more))

-- A function is defined under the number of definitions before it.
pub definition_at : (units before : List (List ExternalDeclaration)) (unit : List ExternalDeclaration) (after : List (List ExternalDeclaration))
    → units ≡ before ++ unit ∷ after → (first rest : List ExternalDeclaration) (words : Specification) (it : Declared) (body : Compound)
    → unit ≡ first ++ syntax.function_definition words it body ∷ rest
    → slice_get (all_definitions 0 units) (length (all_definitions 0 before) + length (definitions_in (length before) unit first))
    ≡ Some (definition_of (length before) unit (text_of (word_of it)))
definition_at units before unit after same first rest words it body is =
    at_sum (all_definitions 0 units) (all_definitions 0 before) (definitions_in (length before) unit first)
    (definitions_in (length before) unit rest ++ all_definitions (suc (length before)) after)
    (definition_of (length before) unit (text_of (word_of it)))
    (ap (all_definitions 0) same ∙ all_around before unit after first rest words it body is)

-- one more
length_more : (xs : List Definition) (x : Definition) → length (xs ++ x ∷ []) ≡ suc (length xs)
length_more [] x = refl
length_more (y ∷ xs) x = ap suc (length_more xs x)

-- a function definition counts
pub function_counts : (number : ℕ) (unit first : List ExternalDeclaration) (words : Specification) (it : Declared) (body : Compound)
    → length (definitions_in number unit (first ++ syntax.function_definition words it body ∷ [])) ≡ suc (length (definitions_in number unit first))
function_counts number unit first words it body =
    ap length (in_appended number unit first (syntax.function_definition words it body ∷ []))
    ∙ length_more (definitions_in number unit first) (definition_of number unit (text_of (word_of it)))

-- and a declaration does not
pub declaration_counts : (number : ℕ) (unit first : List ExternalDeclaration) (it : Declaration)
    → length (definitions_in number unit (first ++ syntax.declaration it ∷ [])) ≡ length (definitions_in number unit first)
declaration_counts number unit first it =
    ap length (in_appended number unit first (syntax.declaration it ∷ []) ∙ append-nil (definitions_in number unit first))

-- a unit counts as many as it defines
pub unit_counts : (before : List (List ExternalDeclaration)) (unit : List ExternalDeclaration)
    → length (all_definitions 0 (before ++ unit ∷ []))
    ≡ length (all_definitions 0 before) + length (definitions_in (length before) unit unit)
unit_counts before unit =
    ap length (from_first before (unit ∷ []) ∙ ap (λ its. all_definitions 0 before ++ its) (append-nil (definitions_in (length before) unit unit)))
    ∙ length-append (all_definitions 0 before) (definitions_in (length before) unit unit)

-- ---- names with internal linkage

-- the name of a declarator is the name of its word
named_so : (o : Option Word) (word : Word) → o ≡ Some word → is_named word.text o ≡ true
named_so o word is = subst (λ o. is_named word.text o ≡ true) (sym is) (nat_list_eq_equiv.refl word.text)

-- the first external declaration that declares the name gives its linkage
first_gives : (name : List ℕ) (first rest : List ExternalDeclaration) (it : ExternalDeclaration) → list_any (declares name) first ≡ false
    → declares name it ≡ true → is_internal (first ++ it ∷ rest) name ≡ is_static it
first_gives name [] rest it none is = ap (λ b. if b then is_static it else is_internal rest name) is
first_gives name (one ∷ first) rest it none is =
    ap (λ b. if b then is_static one else is_internal (first ++ it ∷ rest) name) (not_first (declares name one) (list_any (declares name) first) none)
    ∙ first_gives name first rest it (not_second (declares name one) (list_any (declares name) first) none) is
  where
    not_second : (a b : Bool) → (a || b) ≡ false → b ≡ false
    not_second true b is = absurd cc
    not_second false b is = is

-- with `static` it is internal
first_static : (name : List ℕ) (unit first rest : List ExternalDeclaration) (it : ExternalDeclaration) → unit ≡ first ++ it ∷ rest
    → list_any (declares name) first ≡ false → declares name it ≡ true → is_static it ≡ true → is_internal unit name ≡ true
first_static name unit first rest it same none is static =
    ap (λ its. is_internal its name) same ∙ first_gives name first rest it none is ∙ static

-- ---- names that have links

-- each name that it declares has one
abbrev pub LinksOf : ExternalDeclaration → Translator → Type 0
LinksOf it m = (name : List ℕ) → declares name it ≡ true → HasLink name m

-- and each name that these declare
abbrev pub AreLinked : List ExternalDeclaration → Translator → Type 0
AreLinked its m = (name : List ℕ) → list_any (declares name) its ≡ true → HasLink name m

-- before the first one
pub no_links : (m : Translator) → AreLinked [] m
no_links m name is = absurd cc

-- with one more
pub links_with : (types : TypeTable) (its later : Claims) (m n : Translator) (first : List ExternalDeclaration) (it : ExternalDeclaration)
    → Proceeds types its m later n → n.typer.origins.unit ≡ m.typer.origins.unit → AreLinked first m → LinksOf it n
    → AreLinked (first ++ it ∷ []) n
links_with types its later m n first it proceeds same are new name is =
    by_either (either_test (list_any (declares name) first) (declares name it || false) (sym (list_any-append (declares name) first (it ∷ [])) ∙ is))
  where
    by_either : (list_any (declares name) first ≡ true) ⊎ ((declares name it || false) ≡ true) → HasLink name n
    by_either (inl older) = link_stays types name its later m n proceeds same (are name older)
    by_either (inr last) = new name (or_false (declares name it) last)

-- what a declarator names
named_link : (name : List ℕ) (o : Option Word) (m : Translator) → is_named name o ≡ true → IsItemLinked o m → HasLink name m
named_link name None m is has = absurd cc
named_link name (Some word) m is has = subst (λ name. HasLink name m) (same_texts word.text name is) (has word refl)

-- one of several declarators
among_link : (name : List ℕ) (items : List Declaring) (m : Translator) → is_among name items ≡ true → AreItemsLinked items m → HasLink name m
among_link name [] m is are = absurd cc
among_link name (it ∷ rest) m is are =
    by_either (either_test (is_named name (word_of it.declarator)) (is_among name rest) is) (λ others. among_link name rest m others are.1)
  where
    by_either : (is_named name (word_of it.declarator) ≡ true) ⊎ (is_among name rest ≡ true)
        → (is_among name rest ≡ true → HasLink name m) → HasLink name m
    by_either (inl first) others = named_link name (word_of it.declarator) m first are.0
    by_either (inr other) others = others other

-- So a declaration gives the names that it declares links, if its declarators do.
pub declaration_links : (it : Declaration) (m : Translator) → (declares_with it.specifiers ≡ true → AreItemsLinked it.items m)
    → LinksOf (syntax.declaration it) m
declaration_links it m are name is =
    let both = both_tests (declares_with it.specifiers) (is_among name it.items) is in among_link name it.items m both.1 (are both.0)

-- and a function definition its name
pub function_links : (words : Specification) (it : Declared) (body : Compound) (m : Translator) → HasLink (text_of (word_of it)) m
    → LinksOf (syntax.function_definition words it body) m
function_links words it body m has name is =
    named_link name (word_of it) m is (λ word named. subst (λ o. HasLink (text_of o) m) named has)

-- ---- what may be static

-- a name that earlier external declarations declare has a link, and of any other one this is the first
by_links : (name : List ℕ) (unit first rest : List ExternalDeclaration) (it : ExternalDeclaration) (m : Translator) → unit ≡ first ++ it ∷ rest
    → AreLinked first m → declares name it ≡ true → is_static it ≡ true → find name m.links ≡ None → is_internal unit name ≡ true
by_links name unit first rest it m same are is static none = by_test (list_any (declares name) first) refl
  where
    by_test : (b : Bool) → list_any (declares name) first ≡ b → is_internal unit name ≡ true
    by_test true older = absurd (no_link (find name m.links) none (are name older))
    by_test false new = first_static name unit first rest it same new is static

-- 3.1.2.2: a function that is defined with `static`
pub function_static : (unit first rest : List ExternalDeclaration) (words : Specification) (it : Declared) (body : Compound) (m : Translator)
    → unit ≡ first ++ syntax.function_definition words it body ∷ rest → AreLinked first m
    → MayBeItem (is_internal unit) (has_static words) (word_of it) m
function_static unit first rest words it body m same are word is static none =
    by_links word.text unit first rest (syntax.function_definition words it body) m same are (named_so (word_of it) word is) static none

-- one entry of a list meets the test
any_around : {A : Type 0} → (test : A → Bool) (all first : List A) (x : A) (rest : List A) → all ≡ first ++ x ∷ rest → test x ≡ true
    → list_any test all ≡ true
any_around test all first x rest same is =
    ap (list_any test) same
    ∙ list_any-append test first (x ∷ rest)
    ∙ or_right (list_any test first) (test x || list_any test rest) (or_left (test x) (list_any test rest) is)

-- a declarator is among all of them
names_among : (done its : List Declaring) (all : List Declaring) → all ≡ done ++ its
    → AllByRecursion (λ item. (word : Word) → word_of item.declarator ≡ Some word → is_among word.text all ≡ true) its
names_among done [] all same = tt
names_among done (it ∷ its) all same = (
  λ word is. any_around (λ item. is_named word.text (word_of item.declarator)) all done it its same (named_so (word_of it.declarator) word is),
  names_among (done ++ it ∷ []) its all (same ∙ sym (append_assoc done (it ∷ []) its)),
)

-- specifiers with `static` are of objects and functions
static_declares : (words : Specification) → has_static words ≡ true → declares_with words ≡ true
static_declares syntax.no_specifiers is = absurd cc
static_declares (syntax.more_specifiers it rest) is = by_word (or_storage (storage_word it) (storage_of rest)) is
  where
    by_word : (o : Option Storage) → says_static o ≡ true → not (says_typedef o) ≡ true
    by_word None is = absurd cc
    by_word (Some storage.Typedef) is = absurd cc
    by_word (Some storage.Extern) is = refl
    by_word (Some storage.Static) is = refl

-- 3.1.2.2: what a declaration with `static` declares
pub declaration_static : (unit first rest : List ExternalDeclaration) (it : Declaration) (m : Translator)
    → unit ≡ first ++ syntax.declaration it ∷ rest → AreLinked first m → MayBeItems (is_internal unit) (has_static it.specifiers) it.items m
declaration_static unit first rest it m same are =
    all_so (λ item. (word : Word) → word_of item.declarator ≡ Some word → is_among word.text it.items ≡ true)
    (λ item. MayBeItem (is_internal unit) (has_static it.specifiers) (word_of item.declarator) m)
    (λ item named word is static none. by_links word.text unit first rest (syntax.declaration it) m same are
    (both_true (declares_with it.specifiers) (is_among word.text it.items) (static_declares it.specifiers static) (named word is)) static none)
    it.items (names_among [] it.items it.items refl)

-- A declaration that has no place declares nothing: it has no specifiers.
pub no_place : (it : Declaration) → place_of_declaration it ≡ None → declares_with it.specifiers ≡ false
no_place it none = by_words it.specifiers none
  where
    by_words : (words : Specification) → or_place (first_of_specifiers words) (first_name it.items) ≡ None → declares_with words ≡ false
    by_words syntax.no_specifiers is = refl
    by_words (syntax.more_specifiers one rest) is = absurd cc
