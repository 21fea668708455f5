-- Facts of an answer: what is given and known then, if nothing is refused.
--     Gives holds given               an answer, if it is one, has a fact
--     gives_then, gives_unless        one step after another, and after a test that fails
use Rattle.std.proofs.Common.{◌≡◌, Bool, true, false, Result, Ok, Err, refl, if◌then◌else◌}
use Rattle.hs_linkage.specs.Works.{Work, work_with}
use Rattle.hs_linkage.specs.declared.translator.Translator.{Translator}
use Rattle.hs_typer.specs.declared.type_error.TypeError.{TypeError}

-- an answer, if it is one, has a fact
abbrev pub Gives : {A : Type 0} → (A × Translator → Type 0) → Result (A × Translator) TypeError → Type 0
Gives holds (Ok p) = holds p
Gives holds (Err why) = Unit {0}

-- one step after another
pub gives_then : {A B : Type 0} → (holds : A × Translator → Type 0) (holds' : B × Translator → Type 0) (next : A → Work B)
    (given : Result (A × Translator) TypeError) → Gives holds given → ((p : A × Translator) → holds p → Gives holds' (next p.0 p.1))
    → Gives holds' (work_with next given)
gives_then holds holds' next (Ok p) is after = after p is
gives_then holds holds' next (Err why) is after = tt

-- after a test that fails
pub gives_unless : {B : Type 0} → (holds : B × Translator → Type 0) (next : Unit {0} → Work B) (why : TypeError) (m : Translator) (b : Bool)
    → (b ≡ false → Gives holds (next tt m)) → Gives holds (work_with next (if b then Err why else Ok (tt, m)))
gives_unless holds next why m true after = tt
gives_unless holds next why m false after = after refl
