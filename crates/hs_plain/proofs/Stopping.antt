-- The stops of arguments, one after the other.
use Rattle.std.proofs.Common.{◌≡◌, ◌<◌, refl, ap, sym, ◌∙◌, ℕ, suc, ◌+◌, ◌==◌, List, [], ◌∷◌, ◌++◌, length, drop, get_or, Option, Some, None, Ok, Err, add-one, drop-cons}
use Rattle.hs_meaning.specs.Machine.{Machine}
use Rattle.hs_meaning.specs.Plain.{pointer_used, pointers_used}
use Rattle.hs_meaning.specs.Stops.{Stops}
use Rattle.hs_meaning.specs.Values.{Value}
use Rattle.hs_meaning.specs.declared.outcome.Stop.{Stop}
use Rattle.hs_values.specs.Answers.{or_first, or_stop}

-- a stop of the first ones is one of all
pub stops_in_first : {A : Type 0} (it : A) (first second : Stops) (why : Stop) → or_first first it ≡ Err why → or_first (first ++ second) it ≡ Err why
stops_in_first it [] second why is = absurd cc
stops_in_first it (Some stop ∷ first) second why is = is
stops_in_first it (None ∷ first) second why is = stops_in_first it first second why is

-- if there is no stop among them, the second ones count
pub stops_in_second : {A : Type 0} (it : A) (first second : Stops) → or_first first it ≡ Ok it → or_first (first ++ second) it ≡ or_first second it
stops_in_second it [] second is = refl
stops_in_second it (Some stop ∷ first) second is = absurd cc
stops_in_second it (None ∷ first) second is = stops_in_second it first second is

-- the first one passes
pub stops_later : {A : Type 0} (it : A) (stop : Option Stop) (rest : Stops) → or_stop stop it ≡ Ok it → or_first (stop ∷ rest) it ≡ or_first rest it
stops_later it None rest is = refl
stops_later it (Some stop) rest is = absurd cc

-- what is left of the pointers
pub pointers_left : (fills place : ℕ) (values : List Value) (machine : Machine) (at : ℕ) (value : Value) → at < length values
    → value ≡ get_or values at value
    → pointers_used fills place (drop at values) machine
    ≡ pointer_used (place == fills) value machine ∷ pointers_used fills (place + 1) (drop (at + 1) values) machine
pointers_left fills place values machine at value inside is =
    simp add-one
    (ap (λ its. pointers_used fills place its machine) (drop-cons values at value inside ∙ ap (λ it. it ∷ drop (suc at) values) (sym is)))
