-- A step of typing a program, as it goes on to the whole program: names keep referring to what was claimed, and what is given meets a fact.
--     Continues program function its m new      what is noted from m to new, and what is claimed then, is the program's
--     Walks here program function pre work after holds
--         from every place of the text that meets pre, what is given meets after there, and in a program that continues it, holds
--     then_walks, ..                             steps one after another
use Rattle.std.proofs.Common.{◌≡◌, ℕ, Bool, true, false, List, slice_get, Option, Some, None, Result, Ok, Err, refl, sym, subst, ◌∙◌, if◌then◌else◌}
use Rattle.hs_base.specs.Options.{some_none}
use Rattle.hs_expressions.specs.Binding.Keeping.{IsNoted, noted_first, noted_second}
use Rattle.hs_expressions.specs.Laws.{IsPrefix, IsScoped}
use Rattle.hs_expressions.specs.Laws.Always.{Anything}
use Rattle.hs_expressions.specs.Laws.Reached.{prefix_then}
use Rattle.hs_fitting.specs.Claims.{Claims, IsFulfilled, AreFulfilled, AreObjects, IsMet, Stands, Proceeds}
use Rattle.hs_fitting.specs.Declaring.{either_moved}
use Rattle.hs_fitting.specs.Entities.{all_by_among}
use Rattle.hs_fitting.specs.Moves.{Moves}
use Rattle.hs_fitting.specs.Moving.{Moved, Moving, passes_moved, stops_moved, knowing_moved, unless_moved, then_moved}
use Rattle.hs_linkage.specs.Works.{Work, work_with, ◌>>=◌, pass, stop, knowing, same_work, unless}
use Rattle.hs_linkage.specs.declared.definitions.Definition.{Definition}
use Rattle.hs_linkage.specs.declared.translator.Translator.{Translator}
use Rattle.hs_tree.specs.Fitting.{types_of}
use Rattle.hs_tree.specs.Trees.{TypedFunction, TypedProgram}
use Rattle.hs_typer.specs.declared.type_error.TypeError.{TypeError}
use Rattle.hs_types.specs.Growing.{grows_then}
use Rattle.hs_types.specs.TypeTables.{TypeTable, Grows}
use Rattle.hs_types.specs.declared.row.TypeId.{TypeId}

-- What is noted from m to new, and what is claimed then, is the program's; the variables until then are the function's.
pub record Continues (program : TypedProgram) (function : TypedFunction) (its : Claims) (m new : Translator) : Type 0 where
  pub noted : IsNoted program function program.types m.typer new.typer
  pub locals : IsPrefix (types_of new.locals) (types_of function.variables)
  pub claims : AreFulfilled program its
  pub objects : AreObjects program new.objects

-- ---- one place after another

module _ (types : TypeTable) where
  -- nothing happens
  pub proceeds_self : (its : Claims) (m : Translator) → Proceeds types its m its m
  proceeds_self its m =
      record {
        functions = λ number id is. is;
        routines = λ number id is. is;
        entities = λ it is. is;
        base = refl;
        objects = λ place is same. same;
        met = λ it is. is;
        fresh = λ number id it claimed none at met. some_none (its.functions number) id claimed none;
      }

  -- a new claim is made by one step or by the other
  fresh_then : (its mid later : Claims) (m n : Translator) → n.definitions ≡ m.definitions → Proceeds types its m mid n
      → ((number : ℕ) (id : TypeId) (it : Definition) → later.functions number ≡ Some id → mid.functions number ≡ None
      → slice_get n.definitions number ≡ Some it → IsMet n it → ⊥)
      → (number : ℕ) (id : TypeId) (it : Definition) → later.functions number ≡ Some id → its.functions number ≡ None
      → slice_get m.definitions number ≡ Some it → IsMet m it → ⊥
  fresh_then its mid later m n same before after number id it claimed none at met = by_mid (mid.functions number) refl
    where
      by_mid : (o : Option TypeId) → mid.functions number ≡ o → ⊥
      by_mid None is = after number id it claimed is (subst (λ all. slice_get all number ≡ Some it) (sym same) at) (before.met it met)
      by_mid (Some other) is = before.fresh number other it is none at met

  pub proceeds_then : (its mid later : Claims) (m n p : Translator) → n.definitions ≡ m.definitions → Proceeds types its m mid n
      → Proceeds types mid n later p → Proceeds types its m later p
  proceeds_then its mid later m n p same before after =
      record {
        functions = λ number id is. after.functions number id (before.functions number id is);
        routines = λ number id is. after.routines number id (before.routines number id is);
        entities = λ it is. after.entities it (before.entities it is);
        base = after.base ∙ before.base;
        objects = λ place is at. after.objects place is (before.objects place is at);
        met = λ it is. after.met it (before.met it is);
        fresh = fresh_then its mid later m n same before after.fresh;
      }

module _ (program : TypedProgram) (function : TypedFunction) where
  -- a program that continues both steps continues each of them
  pub continues_first : (its later : Claims) (m n p : Translator) → Moves n p → Proceeds program.types its n later p
      → Continues program function later m p → Continues program function its m n
  continues_first its later m n p moves proceeds continues =
      record {
        noted = noted_first program function program.types Anything m.typer n.typer p.typer moves.typer continues.noted;
        locals = prefix_then (types_of n.locals) (types_of p.locals) (types_of function.variables) (moves.locals.more, moves.locals.are) continues.locals;
        claims = record {
          entities = all_by_among (IsFulfilled program) its.entities later.entities proceeds.entities continues.claims.entities;
          routines = λ number id is. continues.claims.routines number id (proceeds.routines number id is);
        };
        objects = λ place is at. continues.objects place is (proceeds.objects place is at);
      }

  pub continues_second : (later : Claims) (m n p : Translator) → Moves m n → Continues program function later m p → Continues program function later n p
  continues_second later m n p moves continues =
      record {
        noted = noted_second program function program.types Anything m.typer n.typer p.typer moves.typer continues.noted;
        locals = continues.locals;
        claims = continues.claims;
        objects = continues.objects;
      }

-- ---- steps

-- no fact
abbrev pub Anywhere : Claims → Translator → Type 0
Anywhere its m = Unit {0}

abbrev pub Nothing : {A : Type 0} → Claims → Translator → A → Type 0
Nothing its m it = Unit {0}

-- of what a step gives
pub record Walked {A : Type 0} (here : List ℕ → Bool) (program : TypedProgram) (function : TypedFunction) (its : Claims) (m : Translator)
    (after : Claims → Translator → A → Type 0) (holds : A → Type 0) (p : A × Translator) : Type 0 where
  pub claims : Claims
  pub proceeds : Proceeds program.types its m claims p.1
  pub stands : Stands program here claims p.1.locals p.1
  pub known : after claims p.1 p.0
  pub gives : Continues program function claims m p.1 → holds p.0

abbrev pub Walking : {A : Type 0} → (List ℕ → Bool) → TypedProgram → TypedFunction → Claims → Translator → (Claims → Translator → A → Type 0)
    → (A → Type 0) → Result (A × Translator) TypeError → Type 0
Walking here program function its m after holds (Ok p) = Grows p.1.typer.types program.types → Walked here program function its m after holds p
Walking here program function its m after holds (Err why) = Unit {0}

-- from every place of the text that meets a fact
pub record Walks {A : Type 0} (here : List ℕ → Bool) (program : TypedProgram) (function : TypedFunction) (pre : Claims → Translator → Type 0) (work : Work A)
    (after : Claims → Translator → A → Type 0) (holds : A → Type 0) : Type 0 where
  pub moved : Moved work
  pub from : (its : Claims) (m : Translator) → IsScoped m.typer → m.typer.counts ≡ true → Stands program here its m.locals m → pre its m
      → Walking here program function its m after holds (work m)

module _ (here : List ℕ → Bool) (program : TypedProgram) (function : TypedFunction) where
  -- nothing changes
  pub stays_walked : {A : Type 0} → (after : Claims → Translator → A → Type 0) (holds : A → Type 0) (it : A) (its : Claims) (m : Translator)
      → Stands program here its m.locals m → after its m it → holds it → Walking here program function its m after holds (Ok (it, m))
  stays_walked after holds it its m stands known is = λ grows.
      record { claims = its; proceeds = proceeds_self program.types its m; stands = stands; known = known; gives = λ continues. is }

  -- by what is known
  same_walked : {A : Type 0} → (after : Claims → Translator → A → Type 0) (holds : A → Type 0) (its : Claims) (m : Translator)
      → Stands program here its m.locals m → (given : Result A TypeError)
      → ((it : A) → given ≡ Ok it → Grows m.typer.types program.types → after its m it × holds it)
      → Walking here program function its m after holds (same_work m given)
  same_walked after holds its m stands (Ok it) are =
      λ grows. stays_walked after holds it its m stands (are it refl grows).0 (are it refl grows).1 grows
  same_walked after holds its m stands (Err why) are = tt

  -- a test of what is known: where it fails, it is known to
  unless_walked : (after : Claims → Translator → Unit {0} → Type 0) (its : Claims) (m : Translator) (why : TypeError) (b : Bool)
      → Stands program here its m.locals m → (b ≡ false → after its m tt)
      → Walking here program function its m after (λ it. Unit {0}) (if b then Err why else Ok (tt, m))
  unless_walked after its m why true stands known = tt
  unless_walked after its m why false stands known = stays_walked after (λ it. Unit {0}) tt its m stands (known refl) tt

  -- one step after another: what the first one gives is known in the second one, and its fact may be used there
  behind_walked : {A B : Type 0} → (after : Claims → Translator → A → Type 0) (after' : Claims → Translator → B → Type 0) (holds : A → Type 0)
      (holds' : B → Type 0) (its : Claims) (m : Translator) (p : A × Translator) (given : Result (B × Translator) TypeError) → Moves m p.1
      → Moving p.1 given → (Grows p.1.typer.types program.types → Walked here program function its m after holds p)
      → ((mid : Claims) → Stands program here mid p.1.locals p.1 → after mid p.1 p.0
      → Walking here program function mid p.1 after' (λ it. holds p.0 → holds' it) given)
      → Walking here program function its m after' holds' given
  behind_walked after after' holds holds' its m p (Ok q) moves further before next = λ grows.
      let grown : Grows p.1.typer.types program.types
      = grows_then p.1.typer.types q.1.typer.types program.types further.typer.types grows in
      let first : Walked here program function its m after holds p = before grown in
      let second : Walked here program function first.claims p.1 after' (λ it. holds p.0 → holds' it) q
      = next first.claims first.stands first.known grows in
      record {
        claims = second.claims;
        proceeds = proceeds_then program.types its first.claims second.claims m p.1 q.1 moves.definitions first.proceeds second.proceeds;
        stands = second.stands;
        known = second.known;
        gives = λ continues. second.gives (continues_second program function second.claims m p.1 q.1 moves continues)
            (first.gives (continues_first program function first.claims second.claims m p.1 q.1 further second.proceeds continues));
      }
  behind_walked after after' holds holds' its m p (Err why) moves further before next = tt

  next_walked : {A B : Type 0} → (after : Claims → Translator → A → Type 0) (after' : Claims → Translator → B → Type 0) (holds : A → Type 0)
      (holds' : B → Type 0) (its : Claims) (m : Translator) (next : A → Work B) (given : Result (A × Translator) TypeError)
      → m.typer.counts ≡ true → Moving m given → Walking here program function its m after holds given
      → ((it : A) → Walks here program function (λ its m. after its m it) (next it) after' (λ made. holds it → holds' made))
      → Walking here program function its m after' holds' (work_with next given)
  next_walked after after' holds holds' its m next (Ok p) counts moves walking walks =
      behind_walked after after' holds holds' its m p (next p.0 p.1) moves ((walks p.0).moved.from p.1 moves.scoped) walking
      (λ mid stands known. (walks p.0).from mid p.1 moves.scoped (moves.typer.counts ∙ counts) stands known)
  next_walked after after' holds holds' its m next (Err why) counts moves walking walks = tt

  -- a fact that follows
  so_walked : {A : Type 0} → (after after' : Claims → Translator → A → Type 0) (holds holds' : A → Type 0) (its : Claims) (m : Translator)
      → ((its : Claims) (m : Translator) (it : A) → after its m it → after' its m it) → ((it : A) → holds it → holds' it)
      → (given : Result (A × Translator) TypeError) → Walking here program function its m after holds given
      → Walking here program function its m after' holds' given
  so_walked after after' holds holds' its m known so (Ok p) walking = λ grows.
      let walked : Walked here program function its m after holds p = walking grows in
      record {
        claims = walked.claims;
        proceeds = walked.proceeds;
        stands = walked.stands;
        known = known walked.claims p.1 p.0 walked.known;
        gives = λ continues. so p.0 (walked.gives continues);
      }
  so_walked after after' holds holds' its m known so (Err why) walking = tt

module _ {here : List ℕ → Bool} {program : TypedProgram} {function : TypedFunction} where
  pub passes_walks : {A : Type 0} → {pre : Claims → Translator → Type 0} → {after : Claims → Translator → A → Type 0} → {holds : A → Type 0} → (it : A)
      → ((its : Claims) (m : Translator) → pre its m → after its m it) → holds it → Walks here program function pre (pass it) after holds
  passes_walks {after = after} {holds = holds} it known is =
      record {
        moved = passes_moved it;
        from = λ its m scoped counts stands met. stays_walked here program function after holds it its m stands
            (known its m met) is;
      }

  pub stops_walks : {A : Type 0} → {pre : Claims → Translator → Type 0} → {after : Claims → Translator → A → Type 0} → {holds : A → Type 0}
      → (why : TypeError) → Walks here program function pre (stop why) after holds
  stops_walks why = record { moved = stops_moved why; from = λ its m scoped counts stands met. tt }

  pub knowing_walks : {A : Type 0} → {pre : Claims → Translator → Type 0} → {after : Claims → Translator → A → Type 0} → {holds : A → Type 0}
      → (f : Translator → Result A TypeError)
      → ((its : Claims) (m : Translator) → pre its m → (it : A) → f m ≡ Ok it → Grows m.typer.types program.types → after its m it × holds it)
      → Walks here program function pre (knowing f) after holds
  knowing_walks {after = after} {holds = holds} f are =
      record {
        moved = knowing_moved f;
        from = λ its m scoped counts stands met. same_walked here program function after holds its m stands (f m)
            (are its m met);
      }

  pub unless_walks : {pre : Claims → Translator → Type 0} → {after : Claims → Translator → Unit {0} → Type 0} → (why : TypeError)
      (test : Translator → Bool) → ((its : Claims) (m : Translator) → pre its m → test m ≡ false → after its m tt)
      → Walks here program function pre (unless why test) after (λ it. Unit {0})
  unless_walks {after = after} why test known =
      record {
        moved = unless_moved why test;
        from = λ its m scoped counts stands met. unless_walked here program function after its m why (test m) stands (known its m met);
      }

  pub then_walks : {A B : Type 0} → {pre : Claims → Translator → Type 0} → {after : Claims → Translator → A → Type 0}
      → {after' : Claims → Translator → B → Type 0} → {holds : A → Type 0} → {holds' : B → Type 0} → {next : A → Work B} → (first : Work A)
      → Walks here program function pre first after holds
      → ((it : A) → Walks here program function (λ its m. after its m it) (next it) after' (λ made. holds it → holds' made))
      → Walks here program function pre (first >>= next) after' holds'
  then_walks {after = after} {after' = after'} {holds = holds} {holds' = holds'} {next = next} first before walks =
      record {
        moved = then_moved first before.moved (λ it. (walks it).moved);
        from = λ its m scoped counts stands met. next_walked here program function after after' holds holds' its m next (first m) counts
            (before.moved.from m scoped)
            (before.from its m scoped counts stands met) walks;
      }

  pub so_walks : {A : Type 0} → {pre pre' : Claims → Translator → Type 0} → {after after' : Claims → Translator → A → Type 0}
      → {holds holds' : A → Type 0} → {work : Work A} → ((its : Claims) (m : Translator) → pre' its m → pre its m)
      → ((its : Claims) (m : Translator) (it : A) → after its m it → after' its m it) → ((it : A) → holds it → holds' it)
      → Walks here program function pre work after holds → Walks here program function pre' work after' holds'
  so_walks {after = after} {after' = after'} {holds = holds} {holds' = holds'} {work = work} met known so walks =
      record {
        moved = walks.moved;
        from = λ its m scoped counts stands is. so_walked here program function after after' holds holds' its m known so (work m)
            (walks.from its m scoped counts stands (met its m is));
      }

  -- both ways of a test on what is known
  pub either_walks : {A : Type 0} → {pre : Claims → Translator → Type 0} → {after : Claims → Translator → A → Type 0} → {holds : A → Type 0}
      → (test : Translator → Bool) (one other : Work A) → Walks here program function pre one after holds
      → Walks here program function pre other after holds → Walks here program function pre (λ m. if test m then one m else other m) after holds
  either_walks {pre = pre} {after = after} {holds = holds} test one other is is' =
      record {
        moved = either_moved test one other is.moved is'.moved;
        from = λ its m scoped counts stands met. both (test m) its m scoped counts stands met;
      }
    where
      both : (b : Bool) (its : Claims) (m : Translator) → IsScoped m.typer → m.typer.counts ≡ true → Stands program here its m.locals m → pre its m
          → Walking here program function its m after holds (if b then one m else other m)
      both true its m scoped counts stands met = is.from its m scoped counts stands met
      both false its m scoped counts stands met = is'.from its m scoped counts stands met
