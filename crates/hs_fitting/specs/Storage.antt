-- The storage word that specifiers are found to say is one of their words (X3.159-1989 3.5.1).
--     front_storage             what is said is the storage word among the specifiers
--     front_static              if `static` is said, it is among them
--     front_typedef             `typedef` is said where it is among them
use Rattle.std.proofs.Common.{◌≡◌, Bool, true, false, ◌&&◌, not, [], Option, Some, None, is_some, Result, Ok, Err, refl, sym, ap, subst, ◌∙◌, if◌then◌else◌}
use Rattle.hs_declarations.specs.Declarations.{is_static, is_typedef_word}
use Rattle.hs_declarations.specs.Fronts.{front}
use Rattle.hs_declarations.specs.declared.fronts.Front.{Front}
use Rattle.hs_expressions.specs.Expressions.{specified, specifier, members_of, constants_of}
use Rattle.hs_linkage.specs.Definitions.{storage_word, or_storage, storage_of, says_static, says_typedef, has_static}
use Rattle.hs_names.specs.Scopes.{find}
use Rattle.hs_syntax.specs.Trees as syntax
use Rattle.hs_syntax.specs.Trees.{Specified, Specification}
use Rattle.hs_syntax.specs.declared.operators.Storage.{Storage}
use Rattle.hs_syntax.specs.declared.operators.Storage.TheVariants as storage
use Rattle.hs_tokens.specs.declared.place.Place.{Place}
use Rattle.hs_typer.specs.Specifiers.{no_specifiers, with_basic, with_type, with_storage, type_from, typedef_of, struct_type, enumeration_type, tagged_struct, opened_struct, tagged_enumeration, begun_enumeration, completed_struct, completed_enumeration}
use Rattle.hs_typer.specs.Steps.{Step, then_with, ◌>>=◌, kept, mapped, look, give}
use Rattle.hs_typer.specs.declared.specifiers.Specifiers.{Specifiers}
use Rattle.hs_typer.specs.declared.type_error.TypeError.{TypeError}
use Rattle.hs_typer.specs.declared.type_error.TypeError.TheVariants.{Untyped}
use Rattle.hs_typer.specs.declared.typer.Typer.{Typer}
use Rattle.hs_types.specs.declared.row.TypeId.{TypeId}

-- ---- what a step of typing gives

-- of what is given, if nothing is refused
abbrev Given : {A : Type 0} → (A → Type 0) → Result (A × Typer) TypeError → Type 0
Given holds (Ok p) = holds p.0
Given holds (Err why) = Unit {0}

-- from every place of the text
record Always {A : Type 0} (holds : A → Type 0) (step : Step A) : Type 0 where
  given : (s : Typer) → Given holds (step s)

-- what a look at what is known gives
abbrev Looked : {A : Type 0} → (A → Type 0) → Result A TypeError → Type 0
Looked holds (Ok it) = holds it
Looked holds (Err why) = Unit {0}

-- one step after another
given_with : {A B : Type 0} → (P : A → Type 0) (Q : B → Type 0) (next : A → Step B) (given : Result (A × Typer) TypeError) → Given P given
    → ((it : A) → P it → Always Q (next it)) → Given Q (then_with next given)
given_with P Q next (Ok p) is after = (after p.0 is).given p.1
given_with P Q next (Err why) is after = tt

-- nothing is asked of the first one
given_next : {A B : Type 0} → (Q : B → Type 0) (next : A → Step B) (given : Result (A × Typer) TypeError)
    → ((it : A) → Always Q (next it)) → Given Q (then_with next given)
given_next Q next (Ok p) after = (after p.0).given p.1
given_next Q next (Err why) after = tt

-- nothing changes
given_kept : {A : Type 0} → (P : A → Type 0) (s : Typer) (given : Result A TypeError) → Looked P given → Given P (kept s given)
given_kept P s (Ok it) is = is
given_kept P s (Err why) is = tt

-- what is made of an answer
looked_mapped : {A B : Type 0} → (P : B → Type 0) (f : A → B) (given : Result A TypeError) → ((it : A) → P (f it)) → Looked P (mapped f given)
looked_mapped P f (Ok it) is = is it
looked_mapped P f (Err why) is = tt

-- the step that changes nothing
gives : {A : Type 0} → (P : A → Type 0) (it : A) → P it → Always P (give it)
gives P it is = record { given = λ s. is }

-- a look at what is known
looks : {A : Type 0} → (P : A → Type 0) (f : Typer → Result A TypeError) → ((s : Typer) → Looked P (f s)) → Always P (look f)
looks P f are = record { given = λ s. given_kept P s (f s) (are s) }

-- one step after another
then_always : {A B : Type 0} → (P : A → Type 0) (Q : B → Type 0) (first : Step A) (next : A → Step B) → Always P first
    → ((it : A) → P it → Always Q (next it)) → Always Q (first >>= next)
then_always P Q first next before after = record { given = λ s. given_with P Q next (first s) (before.given s) after }

-- nothing is asked of the first one
next_always : {A B : Type 0} → {Q : B → Type 0} → {next : A → Step B} → (first : Step A) → ((it : A) → Always Q (next it))
    → Always Q (first >>= next)
next_always {Q = Q} {next = next} first after = record { given = λ s. given_next Q next (first s) after }

-- ---- storage words

-- what is said is what was said before, or else the word among these
abbrev Says : Option Storage → Option Storage → Specifiers → Type 0
Says before among its = its.storage ≡ or_storage before among

-- with nothing else
or_none : (o : Option Storage) → o ≡ or_storage o None
or_none None = refl
or_none (Some word) = refl

-- a storage word, if there is no storage word before it
stored_by : (stored : Bool) (before : Option Storage) (word : Storage) (at : Place) (done : Specifiers)
    → Looked (Says before (Some word)) (if stored && not (is_some before) then Ok (record done { storage = Some word }) else Err (Untyped at))
stored_by true None word at done = refl
stored_by true (Some other) word at done = tt
stored_by false before word at done = tt

-- by what is said already
stored_says : (stored : Bool) (word : Storage) (at : Place) (done : Specifiers)
    → Looked (Says done.storage (Some word)) (with_storage stored word at done)
stored_says stored word at done = stored_by stored done.storage word at done

-- a type adds no storage word
type_says : (id : TypeId) (done : Specifiers) → Says done.storage None (with_type id done)
type_says id done = or_none done.storage

-- one specifier
specifier_says : (stored : Bool) (first : Place) (done : Specifiers) (it : Specified)
    → Always (Says done.storage (storage_word it)) (specifier stored first done it)
specifier_says stored first done (syntax.storage word at) =
    looks (Says done.storage (Some word)) (λ s. with_storage stored word at done)
    (λ s. stored_says stored word at done)
specifier_says stored first done (syntax.dropped word at) = gives (Says done.storage None) done (or_none done.storage)
specifier_says stored first done (syntax.basic word at) =
    gives (Says done.storage None) (with_basic word done) (or_none done.storage)
specifier_says stored first done (syntax.named word) =
    looks (Says done.storage None) (λ s. mapped (λ id. with_type id done) (typedef_of word (find word.text s.names)))
    (λ s. looked_mapped (Says done.storage None) (λ id. with_type id done) (typedef_of word (find word.text s.names))
    (λ id. type_says id done))
specifier_says stored first done (syntax.struct_tag at word) =
    next_always (tagged_struct word)
    (λ number. next_always (struct_type number)
    (λ id. gives (Says done.storage None) (with_type id done) (type_says id done)))
specifier_says stored first done (syntax.struct_body at word brace members) =
    next_always (opened_struct word)
    (λ number. next_always (members_of at [] members)
    (λ its. next_always (completed_struct first word brace number its)
    (λ over. next_always (struct_type number)
    (λ id. gives (Says done.storage None) (with_type id done) (type_says id done)))))
specifier_says stored first done (syntax.enum_tag at word) =
    next_always (look (λ s. tagged_enumeration word (find word.text s.tags)))
    (λ number. next_always (enumeration_type number)
    (λ id. gives (Says done.storage None) (with_type id done) (type_says id done)))
specifier_says stored first done (syntax.enum_body at word brace constants comma) =
    next_always (begun_enumeration word)
    (λ number. next_always (constants_of [] (Some 0) constants)
    (λ its. next_always (completed_enumeration first word brace number its)
    (λ over. next_always (enumeration_type number)
    (λ id. gives (Says done.storage None) (with_type id done) (type_says id done)))))

-- three words
or_assoc : (a b c : Option Storage) → or_storage (or_storage a b) c ≡ or_storage a (or_storage b c)
or_assoc None b c = refl
or_assoc (Some word) b c = refl

-- what one specifier says, and then the others
says_then : (before one others : Option Storage) (mid its : Specifiers) → Says before one mid → Says mid.storage others its
    → Says before (or_storage one others) its
says_then before one others mid its is after = after ∙ ap (λ o. or_storage o others) is ∙ or_assoc before one others

-- a step whose answers have one fact has what follows from it
so_given : {A : Type 0} → (P Q : A → Type 0) → ((it : A) → P it → Q it) → (given : Result (A × Typer) TypeError) → Given P given → Given Q given
so_given P Q so (Ok p) is = so p.0 is
so_given P Q so (Err why) is = tt

-- from every place of the text
so_always : {A : Type 0} → (P Q : A → Type 0) (step : Step A) → ((it : A) → P it → Q it) → Always P step → Always Q step
so_always P Q step so is = record { given = λ s. so_given P Q so (step s) (is.given s) }

-- all of them
specified_says : (stored : Bool) (first : Place) (done : Specifiers) (words : Specification)
    → Always (Says done.storage (storage_of words)) (specified stored first done words)
specified_says stored first done syntax.no_specifiers = gives (Says done.storage None) done (or_none done.storage)
specified_says stored first done (syntax.more_specifiers it rest) =
    then_always (Says done.storage (storage_word it)) (Says done.storage (or_storage (storage_word it) (storage_of rest)))
    (specifier stored first done it) (λ next. specified stored first next rest) (specifier_says stored first done it)
    (λ next is. so_always (Says next.storage (storage_of rest)) (Says done.storage (or_storage (storage_word it) (storage_of rest)))
    (specified stored first next rest) (λ its after. says_then done.storage (storage_word it) (storage_of rest) next its is after)
    (specified_says stored first next rest))

-- ---- the front of a declaration

-- the storage word among the specifiers is said
abbrev Fronts : Specification → Front → Type 0
Fronts words said = said.storage ≡ storage_of words

-- from every place of the text
front_says : (at : Place) (words : Specification) → Always (Fronts words) (front at words)
front_says at words =
    then_always (Says None (storage_of words)) (Fronts words) (specified true at no_specifiers words) _ (specified_says true at no_specifiers words)
    (λ said is. next_always (look (λ s. type_from at said)) (λ id. gives (Fronts words) (record { storage = said.storage; type_id = id }) is))

-- What is said is the storage word among the specifiers.
pub front_storage : (at : Place) (words : Specification) (s new : Typer) (said : Front) → front at words s ≡ Ok (said, new)
    → said.storage ≡ storage_of words
front_storage at words s new said is = subst (Given (Fronts words)) is ((front_says at words).given s)

-- the words of both definitions
static_said : (o : Option Storage) → is_static o ≡ says_static o
static_said None = refl
static_said (Some storage.Typedef) = refl
static_said (Some storage.Extern) = refl
static_said (Some storage.Static) = refl

typedef_said : (o : Option Storage) → is_typedef_word o ≡ says_typedef o
typedef_said None = refl
typedef_said (Some storage.Typedef) = refl
typedef_said (Some storage.Extern) = refl
typedef_said (Some storage.Static) = refl

-- If `static` is said, it is among them.
pub front_static : (at : Place) (words : Specification) (s new : Typer) (said : Front) → front at words s ≡ Ok (said, new)
    → is_static said.storage ≡ true → has_static words ≡ true
front_static at words s new said is static = ap says_static (sym (front_storage at words s new said is)) ∙ sym (static_said said.storage) ∙ static

-- `typedef` is said where it is among them.
pub front_typedef : (at : Place) (words : Specification) (s new : Typer) (said : Front) → front at words s ≡ Ok (said, new)
    → is_typedef_word said.storage ≡ says_typedef (storage_of words)
front_typedef at words s new said is = typedef_said said.storage ∙ ap says_typedef (front_storage at words s new said is)
