-- The body of a function that is being defined, in the program that it goes on to: what is typed in it meets the facts, and afterwards all names
-- refer to what was claimed (X3.159-1989 3.7.1).
--     stands_locals, stands_variables, proceeds_still       names are what they were
--     IsBehind its m done one id result mid entity claims c        after the parameters of the function
--     DefinedRight its m done p          what a definition gives, and what is known then
--     body_right                         the rest of the definition
use Rattle.std.proofs.Common.{◌≡◌, ℕ, suc, Bool, true, false, List, [], ◌∷◌, ◌++◌, length, drop, slice_get, Some, Result, Ok, Err, IsTrue, is_some, refl, sym, ap, subst, ◌∙◌}
use Rattle.std.specs.Prelude.{◌==◌, take}
use Rattle.std.proofs.lemmas.List.{append-nil}
use Rattle.std.specs.List.{AllByRecursion}
use Rattle.hs_base.specs.Options.{one_there, some_none}
use Rattle.hs_base.specs.Entries.{all_so}
use Rattle.hs_typer.specs.declared.typer.Entity.TheVariants as meaning
use Rattle.hs_operand_types.specs.declared.operand.Bound.TheVariants as bound
use Rattle.hs_fitting.specs.Owning.{IsOwnName, name_later}
use Rattle.hs_fitting.specs.LinkedNames.{IsPlainName}
use Rattle.hs_fitting.specs.Entities.{IsAmong}
use Rattle.hs_fitting.specs.Accounts.{all_accounted}
use Rattle.hs_declarations.specs.Declarations.{block_declared}
use Rattle.hs_expressions.specs.Binding.{IsSignature}
use Rattle.hs_expressions.specs.Expressions.{leave}
use Rattle.hs_expressions.specs.Laws.Always.{Anything}
use Rattle.hs_expressions.specs.Laws.Reached.{IsAllowedAt, left_entered}
use Rattle.hs_fitting.specs.Claims.{Claims, RefersTo, IsVariableIn, IsLink, IsExternal, IsRoutineDeclared, IsMet, IsMetAs, IsRegisteredAs, category_at, Endures, IsObjectRight, Stands, Proceeds}
use Rattle.hs_fitting.specs.Done.{IsExactly, AreDone, claimed_before, done_later, done_with}
use Rattle.hs_fitting.specs.HasLinks.{HasLink, link_kept}
use Rattle.hs_fitting.specs.Inner.{Inner, inner_moves, with_name}
use Rattle.hs_fitting.specs.Known.{stands_typer}
use Rattle.hs_fitting.specs.Lasting.{continues_of, endures_scopes}
use Rattle.hs_fitting.specs.Leaving.{leave_traced, typedefs_later, refers_later, local_later}
use Rattle.hs_fitting.specs.Moves.{Moves}
use Rattle.hs_fitting.specs.Moving.{Moving}
use Rattle.hs_fitting.specs.Passes.{marked_types}
use Rattle.hs_fitting.specs.Phrases.{IsRightPhrase, IsRightItem, body_walks}
use Rattle.hs_fitting.specs.Stating.{body_moved}
use Rattle.hs_fitting.specs.Walk.{Anywhere, Nothing, Walked, Walking, Walks, proceeds_then}
use Rattle.hs_functions.specs.Functions.{finished}
use Rattle.hs_linkage.specs.Externals.{newest_external}
use Rattle.hs_linkage.specs.Objects.{marked}
use Rattle.hs_linkage.specs.Works.{work_with}
use Rattle.hs_linkage.specs.declared.definitions.Definition.{Definition}
use Rattle.hs_linkage.specs.declared.translator.Translator.{Translator}
use Rattle.hs_names.specs.Scopes.{find, left}
use Rattle.hs_statements.specs.Statements.{body_of, without_scope}
use Rattle.hs_syntax.specs.Trees.{Declaration, Compound}
use Rattle.hs_syntax.specs.declared.word.Word.{Word}
use Rattle.hs_tokens.specs.declared.place.Place.{Place}
use Rattle.hs_tree.specs.Fitting.{types_of, count_types}
use Rattle.hs_tree.specs.Inside.{EachBlock}
use Rattle.hs_tree.specs.Trees.{TypedBlock, TypedFunction, TypedProgram}
use Rattle.hs_tree.specs.declared.head.VariableDecl.{VariableDecl}
use Rattle.hs_typer.specs.declared.type_error.TypeError.{TypeError}
use Rattle.hs_typer.specs.declared.typer.Entity.{Entity}
use Rattle.hs_typer.specs.declared.typer.Typer.{Typer}
use Rattle.hs_types.specs.TypeTables.{TypeTable, IsRight, Grows}
use Rattle.hs_types.specs.Growing.{grows_self}
use Rattle.hs_types.specs.declared.row.TypeId.{TypeId}

-- ---- names are what they were

module _ (program : TypedProgram) (here : List ℕ → Bool) (its : Claims) (variables : List VariableDecl) (m : Translator) where
  -- with other automatic variables
  endures_locals : (locals : List VariableDecl) → Endures program its (record m { locals = locals }) → Endures program its m
  endures_locals locals endures =
      record {
        types = endures.types;
        literals = endures.literals;
        calls = endures.calls;
        taken = endures.taken;
        claims = endures.claims;
        objects = endures.objects;
      }

  registered_locals : (locals : List VariableDecl) (internal : Bool) (it : Definition) → IsRegisteredAs internal m it
      → IsRegisteredAs internal (record m { locals = locals }) it
  registered_locals locals true it is = is
  registered_locals locals false it is = is

  pub stands_locals : (locals : List VariableDecl) → Stands program here its variables m → Stands program here its variables (record m { locals = locals })
  stands_locals locals stands =
      record {
        names = stands.names;
        locals = stands.locals;
        links = all_so (IsLink program.types here its m) (IsLink program.types here its (record m { locals = locals }))
            (λ it is. record { refers = is.refers; bound = is.bound; internal = is.internal; global = is.global; typed = is.typed; own = is.own })
            m.links.declarations stands.links;
        externals = all_so (IsExternal program.types its m) (IsExternal program.types its (record m { locals = locals }))
            (λ it is. record { refers = is.refers; bound = is.bound; global = is.global; typed = is.typed }) m.externals stands.externals;
        routines = all_so (IsRoutineDeclared program.types its m) (IsRoutineDeclared program.types its (record m { locals = locals }))
            (λ it is. record { refers = is.refers; routine = is.routine; typed = is.typed; signed = is.signed }) m.routines stands.routines;
        calls = stands.calls;
        right = stands.right;
        objects = all_so (IsObjectRight program its m) (IsObjectRight program its (record m { locals = locals }))
            (λ it is. record {
              category = is.category;
              undefined = is.undefined;
              filled = λ endures. is.filled (endures_locals locals endures);
            }) m.objects stands.objects;
        functions_met = λ number id it claimed at. registered_locals locals it.internal it (stands.functions_met number id it claimed at);
        routines_met = stands.routines_met;
        functions_there = stands.functions_there;
        routines_there = stands.routines_there;
        internal = stands.internal;
        traced = stands.traced;
        typedefs = stands.typedefs;
        accounted = all_accounted program.types its m (record m { locals = locals }) refl refl refl refl its.entities stands.accounted;
        closed = stands.closed;
      }

  -- by variables of the same types
  pub stands_variables : (others : List VariableDecl) → types_of variables ≡ types_of others → Stands program here its variables m
      → Stands program here its others m
  stands_variables others same stands =
      record {
        names = stands.names;
        locals = all_so (λ it. IsVariableIn program.types variables it.entity) (λ it. IsVariableIn program.types others it.entity)
            (λ it is. local_later program.types variables others it.entity ([], sym same ∙ sym (append-nil (types_of variables))) is)
            m.typer.names.declarations stands.locals;
        links = stands.links;
        externals = stands.externals;
        routines = stands.routines;
        calls = stands.calls;
        right = stands.right;
        objects = stands.objects;
        functions_met = stands.functions_met;
        routines_met = stands.routines_met;
        functions_there = stands.functions_there;
        routines_there = stands.routines_there;
        internal = stands.internal;
        traced = stands.traced;
        typedefs = stands.typedefs;
        accounted = stands.accounted;
        closed = stands.closed;
      }

-- nothing that claims depend on has changed
module _ (types : TypeTable) (its : Claims) (m n : Translator) (objects : n.objects ≡ m.objects) (links : n.links ≡ m.links)
    (externals : n.externals ≡ m.externals) (unit : n.typer.origins.unit ≡ m.typer.origins.unit) where
  met_still : (internal : Bool) (it : Definition) → IsMetAs internal m it → IsMetAs internal n it
  met_still true it is = λ same.
      subst (λ all. IsTrue (is_some (find it.name all))) (sym links) (is (subst (λ number. (it.unit == number) ≡ true) unit same))
  met_still false it is = subst (λ all. IsTrue (is_some (newest_external it.name all))) (sym externals) is

  pub proceeds_still : Proceeds types its m its n
  proceeds_still =
      record {
        functions = λ number id is. is;
        routines = λ number id is. is;
        entities = λ it is. is;
        base = refl;
        objects = λ place is at. subst (λ all. category_at types (slice_get all place) ≡ Some is) (sym objects) at;
        met = λ it is. met_still it.internal it is;
        fresh = λ number id it claimed none at met. some_none (its.functions number) id claimed none;
      }

-- ---- the body

-- what a definition gives, as one more function, and what is known then
pub record DefinedRight (program : TypedProgram) (here : List ℕ → Bool) (its : Claims) (m : Translator) (done : List TypedFunction)
    (p : TypedFunction × Translator) : Type 0 where
  pub claims : Claims
  pub proceeds : Proceeds program.types its m claims p.1
  pub stands : Stands program here claims [] p.1
  pub outside : p.1.locals ≡ []
  pub definitions : p.1.definitions ≡ m.definitions
  pub unit : p.1.typer.origins.unit ≡ m.typer.origins.unit
  pub functions : AreDone program claims p.1 (done ++ p.0 ∷ [])
  pub linked : (one : Definition) → slice_get m.definitions (length done) ≡ Some one → HasLink one.name p.1
  pub gives : Endures program claims p.1 → EachBlock (IsRightPhrase program p.0) p.0.body

-- of an answer
abbrev pub DefiningRight : TypedProgram → (List ℕ → Bool) → Claims → Translator → List TypedFunction → Result (TypedFunction × Translator) TypeError
    → Type 0
DefiningRight program here its m done (Ok p) = Grows p.1.typer.types program.types → DefinedRight program here its m done p
DefiningRight program here its m done (Err why) = Unit {0}

-- after the parameters of a function of that type and those parameters
pub record IsBehind (program : TypedProgram) (here : List ℕ → Bool) (its : Claims) (m : Translator) (done : List TypedFunction) (one : Definition)
    (id : TypeId) (ids : List TypeId) (gives : TypeId) (word : Word) (mid : Typer) (entity : Entity) (claims : Claims) (c : Translator) : Type 0 where
  pub inner : Inner m (with_name word.text entity mid) c
  pub counts : c.typer.counts ≡ true
  pub proceeds : Proceeds program.types its m claims c
  pub stands : Stands program here claims c.locals c
  pub refers : RefersTo program.types claims c.objects entity
  pub global : IsVariableIn program.types [] entity
  pub names : AllByRecursion (λ it. RefersTo program.types its m.objects it.entity) mid.names.declarations
  pub outside : AllByRecursion (λ it. IsVariableIn program.types [] it.entity) mid.names.declarations
  pub types : types_of c.locals ≡ ids
  pub signature : IsSignature program.types id ids gives
  pub plain : IsPlainName entity claims c
  pub typedefs : AllByRecursion (λ it. IsOwnName claims.base c.typer.types it.entity) mid.names.declarations
  pub among : (first : TypeId) → claims.functions (length done) ≡ Some first
      → IsAmong (meaning.Function id (bound.Function (length done))) claims.entities
  pub met : IsMet c one
  pub linked : HasLink one.name c

-- the first ones, and the others, of two lists that are the same
pub first_same : {A : Type 0} → (a b : A) (xs ys : List A) → (a ∷ xs) ≡ (b ∷ ys) → a ≡ b
first_same a b xs ys same = cc

pub rest_same : {A : Type 0} → (a b : A) (xs ys : List A) → (a ∷ xs) ≡ (b ∷ ys) → xs ≡ ys
rest_same a b xs ys same = cc

-- as many variables have the types of the first ones
taken_types : (its : List VariableDecl) (ids more : List TypeId) → types_of its ≡ ids ++ more → types_of (take (length ids) its) ≡ ids
taken_types its [] more same = refl
taken_types [] (id ∷ ids) more same = absurd cc
taken_types (it ∷ its) (id ∷ ids) more same =
    ap (λ a. a ∷ types_of (take (length ids) its)) (first_same it.type_id id (types_of its) (ids ++ more) same)
    ∙ ap (λ rest. id ∷ rest) (taken_types its ids more (rest_same it.type_id id (types_of its) (ids ++ more) same))

module _ (program : TypedProgram) (here : List ℕ → Bool) (sound : IsRight program.types)
    (declared : (function : TypedFunction) (other : Place) (it : Declaration)
    → Walks here program function Anywhere (block_declared other it) Nothing (λ its. AllByRecursion (IsRightItem program function) its))
    (its : Claims) (m : Translator) (stands : Stands program here its [] m) (done : List TypedFunction) (are : AreDone program its m done)
    (one : Definition) (at : slice_get m.definitions (length done) ≡ Some one) (id : TypeId) (ids : List TypeId) (gives : TypeId) (word : Word)
    (body : Compound) where
  -- the function
  abbrev function_of : Translator → ℕ → ℕ → TypedBlock → TypedFunction
  function_of n count before it =
      record {
        name = word.text;
        at = word.place;
        result = gives;
        parameters = count;
        variables = marked (drop before n.typer.taken) 0 n.locals;
        body = it;
      }

  module _ (mid : Typer) (entity : Entity) (claims : Claims) (c : Translator)
      (behind : IsBehind program here its m done one id ids gives word mid entity claims c) where
    -- its end
    abbrev end_of : Translator → Translator
    end_of n = record (without_scope n) { locals = [] }

    module _ (made : TypedBlock) (n : Translator) (moves : Moves c n)
        (walked : Walked here program (function_of n (length c.locals) (length c.typer.taken) made) claims c Nothing
        (EachBlock (IsRightPhrase program (function_of n (length c.locals) (length c.typer.taken) made))) (made, n)) where
      -- from its beginning
      whole : Proceeds program.types its m walked.claims n
      whole = proceeds_then program.types its claims walked.claims m c n behind.inner.definitions behind.proceeds walked.proceeds

      inner : Inner m (with_name word.text entity mid) n
      inner = inner_moves m (with_name word.text entity mid) c n behind.inner moves

      -- the names are those around it, and its own
      names_left : left n.typer.names ≡ (with_name word.text entity mid).names
      names_left =
          left_entered (IsAllowedAt Anything (suc (with_name word.text entity mid).names.level)) (with_name word.text entity mid).names n.typer.names
          (λ it holds. holds.0) inner.inside.names inner.closed.names

      -- which refer to what was claimed
      refers_left : AllByRecursion (λ it. RefersTo program.types walked.claims n.objects it.entity) (left n.typer.names).declarations
      refers_left =
          subst (λ scopes. AllByRecursion (λ it. RefersTo program.types walked.claims n.objects it.entity) scopes.declarations) (sym names_left) (
            refers_later program.types claims c walked.claims n entity walked.proceeds behind.refers,
            all_so (λ it. RefersTo program.types its m.objects it.entity) (λ it. RefersTo program.types walked.claims n.objects it.entity)
                (λ it is. refers_later program.types its m walked.claims n it.entity whole is) mid.names.declarations behind.names,
          )

      outside_left : AllByRecursion (λ it. IsVariableIn program.types [] it.entity) (left n.typer.names).declarations
      outside_left =
          subst (λ scopes. AllByRecursion (λ it. IsVariableIn program.types [] it.entity) scopes.declarations) (sym names_left)
          (behind.global, behind.outside)

      -- typedef names of this unit
      typedefs_left : AllByRecursion (λ it. IsOwnName walked.claims.base n.typer.types it.entity) (left n.typer.names).declarations
      typedefs_left =
          subst (λ scopes. AllByRecursion (λ it. IsOwnName walked.claims.base n.typer.types it.entity) scopes.declarations) (sym names_left) (
            subst (λ base. IsOwnName base n.typer.types entity) (sym walked.proceeds.base)
                (name_later claims.base c.typer.types n.typer.types moves.typer.types entity behind.plain),
            typedefs_later claims.base walked.claims.base c.typer.types n.typer.types walked.proceeds.base moves.typer.types mid.names.declarations
                behind.typedefs,
          )

      stands_end : Stands program here walked.claims [] (end_of n)
      stands_end =
          stands_locals program here walked.claims [] (without_scope n) []
          (stands_typer program here walked.claims n (leave n.typer) refl refl n.locals []
          (grows_self n.typer.types) (leave_traced n.typer) typedefs_left refers_left outside_left walked.stands.calls walked.stands.right
          (endures_scopes program walked.claims n (leave n.typer).names (leave n.typer).tags) walked.stands)

      proceeds_end : Proceeds program.types its m walked.claims (end_of n)
      proceeds_end =
          proceeds_then program.types its walked.claims walked.claims m n (end_of n) inner.definitions whole
          (proceeds_still program.types walked.claims n (end_of n) refl refl refl refl)

      -- the types of its parameters
      parameter_types : types_of (take (length c.locals) (marked (drop (length c.typer.taken) n.typer.taken) 0 n.locals)) ≡ ids
      parameter_types =
          subst (λ count. types_of (take count (marked (drop (length c.typer.taken) n.typer.taken) 0 n.locals)) ≡ ids) (sym count)
          (taken_types (marked (drop (length c.typer.taken) n.typer.taken) 0 n.locals) ids moves.locals.more
          (marked_types (drop (length c.typer.taken) n.typer.taken) 0 n.locals ∙ moves.locals.are ∙ ap (λ its. its ++ moves.locals.more) behind.types))
        where
          count : length c.locals ≡ length ids
          count = sym (count_types c.locals) ∙ ap length behind.types

      -- it has the results and the parameters of its type
      exact_here : (first : TypeId) → walked.claims.functions (length done) ≡ Some first
          → IsExactly program walked.claims (length done) (function_of n (length c.locals) (length c.typer.taken) made)
      exact_here first claimed =
          let before : claims.functions (length done) ≡ Some first
          = claimed_before program here claims walked.claims n.locals c n moves.definitions walked.proceeds walked.stands (length done) first claimed
          (λ other there. subst (IsMet c) (one_at other there) behind.met) in (
            id,
            walked.proceeds.entities (meaning.Function id (bound.Function (length done))) (behind.among first before),
            subst (λ types. IsSignature program.types id types gives) (sym parameter_types) behind.signature,
          )
        where
          one_at : (other : Definition) → slice_get c.definitions (length done) ≡ Some other → one ≡ other
          one_at other there =
              one_there (slice_get m.definitions (length done)) one other at
              (subst (λ all. slice_get all (length done) ≡ Some other) behind.inner.definitions there)

      -- what the definition gives
      body_defined : DefinedRight program here its m done (function_of n (length c.locals) (length c.typer.taken) made, end_of n)
      body_defined =
          record {
            claims = walked.claims;
            proceeds = proceeds_end;
            stands = stands_end;
            outside = refl;
            definitions = inner.definitions;
            unit = inner.inside.unit ∙ inner.around.unit;
            functions = done_with program walked.claims (end_of n) done (function_of n (length c.locals) (length c.typer.taken) made)
                (done_later program here its walked.claims [] m (end_of n) inner.definitions proceeds_end done stands_end are)
                exact_here
                (λ other there. subst (IsMet (end_of n)) (one_end other there)
                ((proceeds_still program.types walked.claims n (end_of n) refl refl refl refl).met one (walked.proceeds.met one behind.met)));
            linked = λ other there. subst (λ one. HasLink one.name (end_of n))
                (one_there (slice_get m.definitions (length done)) one other at there)
                (link_kept program.types one.name claims walked.claims c n walked.proceeds moves behind.linked);
            gives = λ endures. walked.gives
                (continues_of program (function_of n (length c.locals) (length c.typer.taken) made) walked.claims c n moves
                (endures_scopes program walked.claims n (leave n.typer).names (leave n.typer).tags
                (endures_locals program here walked.claims [] (without_scope n) [] endures)) refl);
          }
        where
          one_end : (other : Definition) → slice_get n.definitions (length done) ≡ Some other → one ≡ other
          one_end other there =
              one_there (slice_get m.definitions (length done)) one other at
              (subst (λ all. slice_get all (length done) ≡ Some other) inner.definitions there)

    -- the answer of the body
    after_body : (given : Result (TypedBlock × Translator) TypeError) → Moving c given
        → ((function : TypedFunction) → gives ≡ function.result
        → Walking here program function claims c Nothing (EachBlock (IsRightPhrase program function)) given)
        → DefiningRight program here its m done
        (work_with (λ made. finished word.text word.place gives (length c.locals) (length c.typer.taken) made) given)
    after_body (Ok p) moves walking = λ grows.
        body_defined p.0 p.1 moves (walking (function_of p.1 (length c.locals) (length c.typer.taken) p.0) refl grows)
    after_body (Err why) moves walking = tt

    -- the rest of the definition
    pub body_right : DefiningRight program here its m done
        (work_with (λ made. finished word.text word.place gives (length c.locals) (length c.typer.taken) made) (body_of gives body c))
    body_right =
        after_body (body_of gives body c) ((body_moved gives body).from c behind.inner.scoped)
        (λ function same. (body_walks here program function sound (declared function) gives body same).from claims c behind.inner.scoped behind.counts
        behind.stands tt)
