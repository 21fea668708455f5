-- Two types that declarations gave one function are one in the program, by what is known of their structs at the end of all units (X3.159-1989
-- 3.1.2.6, and own).
--     AreJoined program m           structs of one brace have one representative, and no struct has got a body since then
--     chain_one                     two types between which there are declarations that agree
--     signature_one                 the same of the results and parameters of functions
use Rattle.std.proofs.Common.{◌≡◌, ◌⊎◌, inl, inr, ℕ, List, [], ◌∷◌, sym, ap, subst, ◌∙◌}
use Rattle.hs_expressions.specs.Binding.{AllBy, IsLikeBy, IsSignature}
use Rattle.hs_expressions.specs.Laws.Traced.{HasBodyIn, HasBrace, IsTracedAt}
use Rattle.hs_fitting.specs.Sameness.{HasBody, one_intro}
use Rattle.hs_fitting.specs.Strict.{SameBy, AreOneIn, AreStrict, AreApart, AreClosed, in_then, in_turned, struct_alike}
use Rattle.hs_linkage.specs.declared.translator.Translator.{Translator}
use Rattle.hs_tree.specs.Representatives.{struct_for}
use Rattle.hs_tree.specs.Sameness.{AreOne}
use Rattle.hs_tree.specs.Trees.{TypedProgram}
use Rattle.hs_typer.specs.declared.origins.Brace.{Brace}
use Rattle.hs_types.specs.declared.row.TypeId.{TypeId}

-- What a program says of structs whose origins are known: those that have their bodies had them then, and for two of one brace one of them stands.
pub record AreJoined (program : TypedProgram) (m : Translator) : Type 0 where
  pub bodies : (number : ℕ) → HasBody program.types number → HasBodyIn m.typer.types.structs number
  pub joined : (number other : ℕ) (brace : Brace) → HasBrace m.typer.origins number brace → HasBrace m.typer.origins other brace
      → HasBody program.types number → HasBody program.types other → struct_for program.same number ≡ struct_for program.same other

-- one relation after another, for each pair
all_across : (first second both : TypeId → TypeId → Type 0) → ((a b c : TypeId) → first a b → second b c → both a c)
    → (ids others thirds : List TypeId) → AllBy first ids others → AllBy second others thirds → AllBy both ids thirds
all_across first second both so [] [] [] are are' = tt
all_across first second both so [] [] (third ∷ thirds) are are' = absurd are'
all_across first second both so [] (other ∷ others) thirds are are' = absurd are
all_across first second both so (id ∷ ids) [] thirds are are' = absurd are
all_across first second both so (id ∷ ids) (other ∷ others) [] are are' = absurd are'
all_across first second both so (id ∷ ids) (other ∷ others) (third ∷ thirds) are are' =
    (so id other third are.0 are'.0, all_across first second both so ids others thirds are.1 are'.1)

module _ (program : TypedProgram) (base : ℕ) (m : Translator) (traced : IsTracedAt base m.typer) (joined : AreJoined program m) where
  -- two types of one struct, and two that are of one or are not both complete
  abbrev pub Strict : TypeId → TypeId → Type 0
  Strict = AreStrict m.typer.origins program.types

  -- and two that are of one, or are not both complete
  abbrev pub Closed : TypeId → TypeId → Type 0
  Closed = AreClosed base m.typer.types.structs m.typer.origins program.types

  -- what is one in the program
  abbrev One : TypeId → TypeId → Type 0
  One = AreOne program.same program.types

  -- a struct that is one with a struct that has its body has its body
  body_across : (x y : ℕ) → AreOneIn m.typer.origins x y → HasBodyIn m.typer.types.structs x → HasBodyIn m.typer.types.structs y
  body_across x y (inl same) has = subst (HasBodyIn m.typer.types.structs) same has
  body_across x y (inr shared) has = (traced.begun y shared.2.0 shared.0 shared.2.1 shared.2.2).0

  -- one struct stands for both
  one_struct : (x y : ℕ) → AreOneIn m.typer.origins x y → HasBody program.types x → HasBody program.types y
      → struct_for program.same x ≡ struct_for program.same y
  one_struct x y (inl same) has has' = ap (struct_for program.same) same
  one_struct x y (inr shared) has has' = joined.joined x y shared.0 shared.1 shared.2 has has'

  -- also if there are two others between them
  through : (x k l y : ℕ) → AreOneIn m.typer.origins x k → AreOneIn m.typer.origins k l ⊎ AreApart base m.typer.types.structs k l
      → AreOneIn m.typer.origins l y → HasBody program.types x → HasBody program.types y → struct_for program.same x ≡ struct_for program.same y
  through x k l y first (inl same) last has has' =
      one_struct x y (in_then m.typer.origins x l y (in_then m.typer.origins x k l first same) last) has has'
  through x k l y first (inr apart) last has has' =
      absurd
      (apart.2 (body_across x k first (joined.bodies x has)) (body_across y l (in_turned m.typer.origins l y last) (joined.bodies y has')))

  -- Two types between which there are declarations that agree are one.
  pub chain_one : (a b c d : TypeId) → Strict a b → Closed b c → Strict c d → One a d
  chain_one a b c d first mid last =
      one_intro program.same program.types a d (first.alike ∙ mid.alike ∙ last.alike)
      (λ x y at at' has has'.
      let k = struct_alike program.types a b x first.alike at in
      let l = struct_alike program.types d c y (sym last.alike) at' in
      through x k.0 l.0 y (first.structs x k.0 at k.1) (mid.apart k.0 l.0 k.1 l.1) (last.structs l.0 y l.1 at') has has')

  -- the first two of them
  abbrev Half : TypeId → TypeId → Type 0
  Half a c = (b : TypeId) × Strict a b × Closed b c

  -- The types of functions between whose types there are declarations that agree are one, by their results and parameters.
  pub signature_one : (a b c d : TypeId) → SameBy Strict program.types a b → SameBy Closed program.types b c → SameBy Strict program.types d c
      → (ids : List TypeId) (gives : TypeId) → IsSignature program.types d ids gives → IsLikeBy One program.types a ids gives
  signature_one a b c d first mid last ids gives is =
      let third : IsLikeBy Strict program.types c ids gives = last.there ids gives is in
      let second : IsLikeBy Closed program.types b third.0 third.1.0 = mid.back third.0 third.1.0 third.1.1 in
      let here : IsLikeBy Strict program.types a second.0 second.1.0 = first.back second.0 second.1.0 second.1.1 in (
        here.0,
        (
          here.1.0,
          here.1.1,
          all_across Half Strict One (λ a c d half last. chain_one a half.0 c d half.1 half.2 last) here.0 third.0 ids
              (all_across Strict Closed Half (λ a b c first mid. (b, first, mid)) here.0 second.0 third.0 here.1.2 second.1.2) third.1.2,
          chain_one here.1.0 second.1.0 third.1.0 gives here.1.3 second.1.3 third.1.3,
        ),
      )
