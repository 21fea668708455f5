-- Stages that read files one after another, where the first that fails ends them. Own to this project.
--     Then first next reads result     the first stage, and then the next one, of what the first gave
--     no_more, then_on                 a stage that fails, and one after another
use Rattle.std.specs.Prelude.{◌≡◌, ◌⊎◌, List, ◌++◌, Result, Ok, Err}
use Rattle.std.proofs.Common.{refl, inl, inr}
use Rattle.hs_base.specs.Files.{Read}
use Rattle.hs_base.specs.Reads.{MadeReads, Leads_append}

-- If the first stage gives something, the next one follows, with the reads after those of the first; if not, its error is the answer.
abbrev pub Then : {A B E : Type 0} → (List Read → Result A E → Type 0) → (A → List Read → Result B E → Type 0)
    → List Read → Result B E → Type 0
Then {A} first next reads (Ok it) =
    (front rest : List Read) × (given : A) × (reads ≡ front ++ rest) × first front (Ok given) × next given rest (Ok it)
Then {A} first next reads (Err error) =
    first reads (Err error)
    ⊎ ((front rest : List Read) × (given : A) × (reads ≡ front ++ rest) × first front (Ok given) × next given rest (Err error))

module _ {F A B E : Type 0} (leads : F → Read → F → Type 0) (first : List Read → Result A E → Type 0)
    (next : A → List Read → Result B E → Type 0) where
  -- the first stage fails
  pub no_more : (one last : F) (error : E) → MadeReads leads one last (λ reads. first reads (Err error))
      → MadeReads leads one last (λ reads. Then first next reads (Err error))
  no_more one last error made = (made.0, made.1, inl made.2)

  -- it gives something, and the next one follows
  pub then_on : (one mid last : F) (given : A) (result : Result B E) → MadeReads leads one mid (λ reads. first reads (Ok given))
      → MadeReads leads mid last (λ reads. next given reads result) → MadeReads leads one last (λ reads. Then first next reads result)
  then_on one mid last given (Ok it) made later = (
    made.0 ++ later.0,
    Leads_append leads one mid last made.0 later.0 made.1 later.1,
    (made.0, later.0, given, refl, made.2, later.2),
  )
  then_on one mid last given (Err error) made later = (
    made.0 ++ later.0,
    Leads_append leads one mid last made.0 later.0 made.1 later.1,
    inr (made.0, later.0, given, refl, made.2, later.2),
  )
