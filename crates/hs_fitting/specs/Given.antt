-- The parameters of a function that is being defined are its first variables, of the types that its type lists (X3.159-1989 3.7.1).
--     HasParameters m ids n          what is known after them
--     parameters_given               by `parameters_in`
use Rattle.std.proofs.Common.{◌≡◌, Bool, true, false, not, List, [], ◌∷◌, ◌++◌, slice_get, Option, Some, None, Result, Ok, Err, refl, sym, ap, subst, ◌∙◌, if◌then◌else◌}
use Rattle.std.proofs.lemmas.List.{append_assoc, append-nil}
use Rattle.hs_declarations.specs.Declarations.{new_local}
use Rattle.hs_expressions.specs.Binding.{IsList}
use Rattle.hs_expressions.specs.Expressions.{first_place}
use Rattle.hs_fitting.specs.Blocks.{local_of}
use Rattle.hs_fitting.specs.Prototypes.{AreAsMany}
use Rattle.hs_functions.specs.Functions.{named_parameter, first_type, parameters_in}
use Rattle.hs_linkage.specs.Works.{work_with, ◌>>=◌, pass}
use Rattle.hs_linkage.specs.declared.translator.Translator.{Translator}
use Rattle.hs_syntax.specs.Trees as syntax
use Rattle.hs_syntax.specs.Trees.{Declared, Parameters}
use Rattle.hs_syntax.specs.declared.word.Word.{Word}
use Rattle.hs_tokens.specs.declared.place.Place.{Place}
use Rattle.hs_tree.specs.Fitting.{types_of}
use Rattle.hs_tree.specs.declared.head.VariableDecl.{VariableDecl}
use Rattle.hs_typer.specs.Declarators.{word_of}
use Rattle.hs_typer.specs.declared.type_error.TypeError.{TypeError}
use Rattle.hs_typer.specs.declared.type_error.TypeError.TheVariants.{Untyped}
use Rattle.hs_types.specs.TypeTables.{is_complete}
use Rattle.hs_types.specs.declared.row.ListId.{ListId}
use Rattle.hs_types.specs.declared.row.Parameters.{Parameters as Listed}
use Rattle.hs_types.specs.declared.row.Parameters.TheVariants.{Empty, More}
use Rattle.hs_types.specs.declared.row.TypeId.{TypeId}

-- with more variables, of these types
abbrev pub HasParameters : Translator → List TypeId → Translator → Type 0
HasParameters m ids n = (more : List VariableDecl) × (n ≡ record m { locals = m.locals ++ more }) × (types_of more ≡ ids)

-- of an answer
abbrev Giving : Translator → List TypeId → Result (Unit {0} × Translator) TypeError → Type 0
Giving m ids (Ok p) = HasParameters m ids p.1
Giving m ids (Err why) = Unit {0}

-- with one variable, and those that follow
more_locals : (m n : Translator) (it : VariableDecl) (ids : List TypeId)
    → HasParameters (record m { locals = m.locals ++ it ∷ [] }) ids n → HasParameters m (it.type_id ∷ ids) n
more_locals m n it ids has = (
  it ∷ has.0,
  has.1 ∙ ap (λ its. record m { locals = its }) (append_assoc m.locals (it ∷ []) has.0),
  ap (λ its. it.type_id ∷ its) has.2,
)

giving_more : (m : Translator) (it : VariableDecl) (ids : List TypeId) (given : Result (Unit {0} × Translator) TypeError)
    → Giving (record m { locals = m.locals ++ it ∷ [] }) ids given → Giving m (it.type_id ∷ ids) given
giving_more m it ids (Ok p) has = more_locals m p.1 it ids has
giving_more m it ids (Err why) has = tt

-- after one that has a name
named_given : (at : Place) (rest : Parameters) (m : Translator) (word : Word) (id : TypeId) (others : ListId) (ids : List TypeId) (b : Bool)
    → ((n : Translator) → n.typer ≡ m.typer → Giving n ids (parameters_in at rest others n))
    → Giving m (id ∷ ids) (work_with (λ its. parameters_in at rest its)
    (work_with {A = Unit {0}} {B = ListId} (λ done. pass others)
    (work_with {A = Unit {0}} {B = Unit {0}} (λ may. new_local word id >>= (λ place. pass tt)) (if not b then Err (Untyped word.place) else Ok (tt, m)))))
named_given at rest m word id others ids true next =
    giving_more m (local_of word id) ids (parameters_in at rest others (record m { locals = m.locals ++ local_of word id ∷ [] }))
    (next (record m { locals = m.locals ++ local_of word id ∷ [] }) refl)
named_given at rest m word id others ids false next = tt

-- if it has one
word_given : (at first : Place) (rest : Parameters) (m : Translator) (word : Option Word) (id : TypeId) (others : ListId) (ids : List TypeId)
    → ((n : Translator) → n.typer ≡ m.typer → Giving n ids (parameters_in at rest others n))
    → Giving m (id ∷ ids) (work_with (λ its. parameters_in at rest its)
    (work_with {A = Unit {0}} {B = ListId} (λ done. pass others) (named_parameter first word id m)))
word_given at first rest m None id others ids next = tt
word_given at first rest m (Some word) id others ids next = named_given at rest m word id others ids (is_complete m.typer.types id) next

-- of the type that is listed next
listed_given : (at first : Place) (rest : Parameters) (it : Declared) (m : Translator) (id : TypeId) (others : ListId) (ids : List TypeId)
    (o : Option Listed) → o ≡ Some (More id others) → ((n : Translator) → n.typer ≡ m.typer → Giving n ids (parameters_in at rest others n))
    → Giving m (id ∷ ids) (work_with (λ its. parameters_in at rest its)
    (work_with (λ its. named_parameter first (word_of it) its.0 >>= (λ done. pass its.1)) (first_type first o m)))
listed_given at first rest it m id others ids None is next = absurd cc
listed_given at first rest it m id others ids (Some Empty) is next = absurd cc
listed_given at first rest it m id others ids (Some (More its tail)) is next =
    subst (λ p. Giving m (id ∷ ids) (work_with (λ its. parameters_in at rest its) ((named_parameter first (word_of it) p.0 >>= (λ done. pass p.1)) m)))
    (sym (same_more its id tail others is)) (word_given at first rest m (word_of it) id others ids next)
  where
    same_more : (a b : TypeId) (x y : ListId) → Some (More a x) ≡ Some (More b y) → ◌≡◌ {A = TypeId × ListId} (a, x) (b, y)
    same_more a b x y same = cc

parameters_giving : (at : Place) (its : Parameters) (list : ListId) (ids : List TypeId) (m : Translator) → IsList m.typer.types list ids
    → AreAsMany ids its → Giving m ids (parameters_in at its list m)
parameters_giving at syntax.no_parameters list [] m is many = ([], ap (λ its. record m { locals = its }) (sym (append-nil m.locals)), refl)
parameters_giving at syntax.no_parameters list (id ∷ ids) m is many = absurd many
parameters_giving at (syntax.more_parameters words it rest) list [] m is many = absurd many
parameters_giving at (syntax.more_parameters words it rest) list (id ∷ ids) m is many =
    listed_given at (first_place at words) rest it m id is.0 ids (slice_get m.typer.types.lists list.number) is.1
    (λ n same. parameters_giving at rest is.0 ids n (subst (λ typer. IsList typer.types is.0 ids) (sym same) is.2) many)

-- The parameters are the variables.
pub parameters_given : (at : Place) (its : Parameters) (list : ListId) (ids : List TypeId) (m n : Translator) → IsList m.typer.types list ids
    → AreAsMany ids its → parameters_in at its list m ≡ Ok (tt, n) → HasParameters m ids n
parameters_given at its list ids m n is many given = subst (Giving m ids) given (parameters_giving at its list ids m is many)
