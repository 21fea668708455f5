-- Facts of what a step of typing a program gives, whatever is known before it.
--     Always work holds        the fact is so of whatever the step gives
--     any_always, passes_always, stops_always         one step
--     then_always, next_always, tested_always         one after another
--     scoped_always            in a scope of its own
use Rattle.std.proofs.Common.{◌≡◌, Bool, true, false, Result, Ok, Err, refl}
use Rattle.hs_linkage.specs.Works.{Work, work_with, ◌>>=◌, ◌>>◌, pass, stop, unless}
use Rattle.hs_linkage.specs.declared.translator.Translator.{Translator}
use Rattle.hs_statements.specs.Statements.{ended, entered, scoped}
use Rattle.hs_typer.specs.declared.type_error.TypeError.{TypeError}

-- of what is given, if nothing is refused
abbrev pub Given : {A : Type 0} → (A → Type 0) → Result (A × Translator) TypeError → Type 0
Given holds (Ok p) = holds p.0
Given holds (Err why) = Unit {0}

-- from every place of the text
pub record Always {A : Type 0} (work : Work A) (holds : A → Type 0) : Type 0 where
  pub given : (m : Translator) → Given holds (work m)

-- if something else is so
abbrev pub AlwaysIf : {A : Type 0} → Work A → Type 0 → (A → Type 0) → Type 0
AlwaysIf work P holds = P → Always work holds

-- no fact
abbrev pub Anything : {A : Type 0} → A → Type 0
Anything it = Unit {0}

given_any : {A : Type 0} → (given : Result (A × Translator) TypeError) → Given Anything given
given_any (Ok p) = tt
given_any (Err why) = tt

given_with : {A B : Type 0} → (P : A → Type 0) (Q : B → Type 0) (next : A → Work B) (given : Result (A × Translator) TypeError) → Given P given
    → ((it : A) → P it → Always (next it) Q) → Given Q (work_with next given)
given_with P Q next (Ok p) is after = (after p.0 is).given p.1
given_with P Q next (Err why) is after = tt

-- what any step gives
pub any_always : {A : Type 0} → (work : Work A) → Always work Anything
any_always work = record { given = λ m. given_any (work m) }

pub passes_always : {A : Type 0} → (holds : A → Type 0) (it : A) → holds it → Always (pass it) holds
passes_always holds it is = record { given = λ m. is }

pub stops_always : {A : Type 0} → (holds : A → Type 0) (why : TypeError) → Always (stop why) holds
stops_always holds why = record { given = λ m. tt }

-- what the first one gives has a fact, from which that of the second one follows
pub then_always : {A B : Type 0} → {P : A → Type 0} → {Q : B → Type 0} → {first : Work A} → {next : A → Work B} → Always first P
    → ((it : A) → P it → Always (next it) Q) → Always (first >>= next) Q
then_always {P = P} {Q = Q} {first = first} {next = next} before after =
    record { given = λ m. given_with P Q next (first m) (before.given m) after }

-- nothing is asked of the first one
pub next_always : {A B : Type 0} → {Q : B → Type 0} → {next : A → Work B} → (first : Work A) → ((it : A) → Always (next it) Q)
    → Always (first >>= next) Q
next_always first after = then_always (any_always first) (λ it is. after it)

-- a test of what does not depend on the place, and what follows
given_tested : {B : Type 0} → (Q : B → Type 0) (why : TypeError) (b : Bool) (work : Work B) (m : Translator) → (b ≡ false → Always work Q)
    → Given Q ((unless why (λ it. b) >> work) m)
given_tested Q why true work m after = tt
given_tested Q why false work m after = (after refl).given m

pub tested_always : {B : Type 0} → {Q : B → Type 0} → {work : Work B} → (why : TypeError) (b : Bool) → (b ≡ false → Always work Q)
    → Always (unless why (λ it. b) >> work) Q
tested_always {Q = Q} {work = work} why b after = record { given = λ m. given_tested Q why b work m after }

given_ended : {A : Type 0} → (P : A → Type 0) (given : Result (A × Translator) TypeError) → Given P given → Given P (ended given)
given_ended P (Ok p) is = is
given_ended P (Err why) is = tt

-- in a scope of its own
pub scoped_always : {A : Type 0} → {P : A → Type 0} → {work : Work A} → Always work P → Always (scoped work) P
scoped_always {P = P} {work = work} is = record { given = λ m. given_ended P (work (entered m)) (is.given (entered m)) }
