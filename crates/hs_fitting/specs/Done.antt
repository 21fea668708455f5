-- The functions that were defined so far, by the claims: each that is claimed has the signature of a type that was declared for it, and no claim for it
-- is made later (X3.159-1989 3.7.1).
--     AreDone program its m done         so it is of these functions
--     done_later                         at a later place of the text
--     done_with                          with one more
use Rattle.std.proofs.Common.{◌≡◌, ℕ, zero, suc, Bool, List, [], ◌∷◌, ◌++◌, length, slice_get, Option, Some, None, refl, ap, subst, ◌∙◌}
use Rattle.std.specs.Prelude.{take}
use Rattle.hs_base.specs.Options.{some_same, one_there, some_there}
use Rattle.hs_expressions.specs.Binding.{IsSignature}
use Rattle.hs_fitting.specs.Claims.{Claims, IsMet, Stands, Proceeds}
use Rattle.hs_fitting.specs.Entities.{IsAmong}
use Rattle.hs_linkage.specs.declared.definitions.Definition.{Definition}
use Rattle.hs_linkage.specs.declared.translator.Translator.{Translator}
use Rattle.hs_operand_types.specs.declared.operand.Bound.TheVariants as bound
use Rattle.hs_tree.specs.Fitting.{types_of}
use Rattle.hs_tree.specs.Trees.{TypedFunction, TypedProgram}
use Rattle.hs_typer.specs.declared.typer.Entity.{Entity}
use Rattle.hs_typer.specs.declared.typer.Entity.TheVariants as entity
use Rattle.hs_tree.specs.declared.head.VariableDecl.{VariableDecl}
use Rattle.hs_types.specs.declared.row.TypeId.{TypeId}

-- the function has the results and the parameters of one of the types that were declared for it
abbrev pub IsExactly : TypedProgram → Claims → ℕ → TypedFunction → Type 0
IsExactly program its number it =
    (id : TypeId) × IsAmong (entity.Function id (bound.Function number)) its.entities
    × IsSignature program.types id (types_of (take it.parameters it.variables)) it.result

-- at a later place of the text
pub exactly_later : (program : TypedProgram) (its later : Claims) → ((it : Entity) → IsAmong it its.entities → IsAmong it later.entities)
    → (number : ℕ) (it : TypedFunction) → IsExactly program its number it → IsExactly program later number it
exactly_later program its later stay number it is = (is.0, stay (entity.Function is.0 (bound.Function number)) is.1, is.2)

-- of the functions that were defined, by their numbers
pub record AreDone (program : TypedProgram) (its : Claims) (m : Translator) (done : List TypedFunction) : Type 0 where
  pub exact : (number : ℕ) (id : TypeId) (it : TypedFunction) → slice_get done number ≡ Some it → its.functions number ≡ Some id
      → IsExactly program its number it
  pub met : (number : ℕ) (it : TypedFunction) (one : Definition) → slice_get done number ≡ Some it → slice_get m.definitions number ≡ Some one
      → IsMet m one

-- before the first one
pub none_done : (program : TypedProgram) (its : Claims) (m : Translator) → AreDone program its m []
none_done program its m = record { exact = λ number id it at claimed. absurd cc; met = λ number it one at. absurd cc }

module _ (program : TypedProgram) (here : List ℕ → Bool) (its later : Claims) (variables : List VariableDecl) (m n : Translator)
    (same : n.definitions ≡ m.definitions) (proceeds : Proceeds program.types its m later n) where
  -- a function that was met and is claimed later was claimed
  pub claimed_before : Stands program here later variables n → (number : ℕ) (id : TypeId) → later.functions number ≡ Some id
      → ((one : Definition) → slice_get m.definitions number ≡ Some one → IsMet m one) → its.functions number ≡ Some id
  claimed_before stands number id claimed met = by_claim (its.functions number) refl
    where
      one : (it : Definition) × (slice_get n.definitions number ≡ Some it)
      one = some_there (slice_get n.definitions number) (stands.functions_there number id claimed)

      there : slice_get m.definitions number ≡ Some one.0
      there = subst (λ all. slice_get all number ≡ Some one.0) same one.1

      by_claim : (o : Option TypeId) → its.functions number ≡ o → its.functions number ≡ Some id
      by_claim None free = absurd (proceeds.fresh number id one.0 claimed free there (met one.0 there))
      by_claim (Some first) is = is ∙ ap Some (one_there (later.functions number) first id (proceeds.functions number first is) claimed)

  -- at a later place of the text
  pub done_later : (done : List TypedFunction) → Stands program here later variables n → AreDone program its m done → AreDone program later n done
  done_later done stands are =
      record {
        exact = λ number id it at claimed. exactly_later program its later proceeds.entities number it
            (are.exact number id it at (claimed_before stands number id claimed (λ one there. are.met number it one at there)));
        met = λ number it one at there. proceeds.met one (are.met number it one at (subst (λ all. slice_get all number ≡ Some one) same there));
      }

-- ---- one more

-- what is at a place of a list with one more
either_at : {A : Type 0} → (P : ℕ → A → Type 0) (done : List A) (last : A) → ((number : ℕ) (it : A) → slice_get done number ≡ Some it → P number it)
    → P (length done) last → (number : ℕ) (it : A) → slice_get (done ++ last ∷ []) number ≡ Some it → P number it
either_at P [] last older new zero it at = subst (P zero) (some_same last it at) new
either_at P [] last older new (suc number) it at = absurd cc
either_at P (first ∷ done) last older new zero it at = older zero it at
either_at P (first ∷ done) last older new (suc number) it at =
    either_at (λ n it. P (suc n) it) done last (λ n it is. older (suc n) it is) new number it at

-- with one more
pub done_with : (program : TypedProgram) (its : Claims) (m : Translator) (done : List TypedFunction) (last : TypedFunction)
    → AreDone program its m done → ((id : TypeId) → its.functions (length done) ≡ Some id → IsExactly program its (length done) last)
    → ((one : Definition) → slice_get m.definitions (length done) ≡ Some one → IsMet m one) → AreDone program its m (done ++ last ∷ [])
done_with program its m done last are exact met =
    record {
      exact = λ number id it at claimed. either_at (λ number it. (id : TypeId) → its.functions number ≡ Some id → IsExactly program its number it)
          done last (λ number it at id claimed. are.exact number id it at claimed) exact number it at id claimed;
      met = λ number it one at there. either_at
          (λ number it. (one : Definition) → slice_get m.definitions number ≡ Some one → IsMet m one) done last
          (λ number it at one there. are.met number it one at there) met number it at one there;
    }
