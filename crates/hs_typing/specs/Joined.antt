-- Structs of one brace are one in the program (X3.159-1989 3.1.2.6, and own).
--     structs_at              what stands for the struct of a number
--     first_stands            the first one of its brace, for a struct that has a brace
--     joined_at_end           so one struct stands for two of one brace, and no struct has got a body since all units were typed
use Rattle.std.proofs.Common.{◌≡◌, ℕ, zero, suc, ◌+◌, true, List, [], ◌∷◌, ◌++◌, length, slice_get, Some, is_some, sym, ap, subst, ◌∙◌, arith}
use Rattle.std.proofs.lemmas.List.{length-append}
use Rattle.hs_base.specs.Entries.{entry_stays, last_there}
use Rattle.hs_expressions.specs.Laws.Traced.{HasFirst, IsTracedAt}
use Rattle.hs_fitting.specs.Exact.{AreJoined}
use Rattle.hs_linkage.specs.declared.translator.Translator.{Translator}
use Rattle.hs_same_types.specs.Representatives.{structs_of, representatives}
use Rattle.hs_tree.specs.Representatives.{or_itself, struct_for}
use Rattle.hs_tree.specs.Trees.{TypedFunction}
use Rattle.hs_typer.specs.Origins.{kept_for, struct_in, stands_by, stands_as, stands_for}
use Rattle.hs_typer.specs.declared.origins.Brace.{Brace}
use Rattle.hs_typer.specs.declared.origins.Origin.{Origin}
use Rattle.hs_typer.specs.declared.origins.Origins.{Origins}
use Rattle.hs_typer.specs.declared.typer.Tag.TheVariants as tag
use Rattle.hs_types.specs.TypeTables.{TypeTable, body_in}
use Rattle.hs_ends.specs.Ends.{taken_globals}
use Rattle.hs_typing.specs.Finishing.{program_at_end, globals_add}

-- ---- what stands for each struct

-- numbers
none_more : (a : ℕ) → a ≡ a + 0
none_more a = omega arith

-- nothing is before the first one
after_none : (a : ℕ) → 0 + a ≡ a
after_none a = omega arith

-- one place further
one_further : (a b c : ℕ) → a ≡ b + 1 → a + c ≡ b + suc c
one_further a b c is = omega (arith, is)

module _ (types : TypeTable) (o : Origins) where
  -- those that are done stay
  done_stay : (done : List ℕ) (its : List Origin) (number first : ℕ) → slice_get done number ≡ Some first
      → slice_get (structs_of o done its) number ≡ Some first
  done_stay done [] number first at = at
  done_stay done (it ∷ rest) number first at =
      done_stay (done ++ stands_for o (length done) ∷ []) rest number first
      (entry_stays done (stands_for o (length done) ∷ []) number first at)

  -- the struct of that number, after those that are done
  pub structs_at : (done : List ℕ) (its : List Origin) (number : ℕ) (it : Origin) → slice_get its number ≡ Some it
      → slice_get (structs_of o done its) (length done + number) ≡ Some (stands_for o (length done + number))
  structs_at done [] number it at = absurd cc
  structs_at done (first ∷ rest) zero it at =
      subst (λ n. slice_get (structs_of o done (first ∷ rest)) n ≡ Some (stands_for o n)) (none_more (length done))
      (done_stay (done ++ stands_for o (length done) ∷ []) rest (length done) (stands_for o (length done))
      (last_there done (stands_for o (length done))))
  structs_at done (first ∷ rest) (suc number) it at =
      let all : List ℕ = done ++ stands_for o (length done) ∷ [] in
      subst (λ n. slice_get (structs_of o all rest) n ≡ Some (stands_for o n))
      (one_further (length all) (length done) number (length-append done (stands_for o (length done) ∷ [])))
      (structs_at all rest number it at)

  -- What stands for a struct, by where it comes from.
  pub stands_at : (number : ℕ) (it : Origin) → slice_get o.structs number ≡ Some it
      → struct_for (representatives types o) number ≡ stands_for o number
  stands_at number it at =
      ap (or_itself number)
      (subst (λ n. slice_get (structs_of o [] o.structs) n ≡ Some (stands_for o n)) (after_none number) (structs_at [] o.structs number it at))

  -- The first one of its brace stands for a struct.
  pub first_stands : (number first : ℕ) (it : Origin) (brace : Brace) → slice_get o.structs number ≡ Some it → it.brace ≡ Some brace
      → kept_for brace o.firsts ≡ Some (tag.Struct first) → struct_for (representatives types o) number ≡ first
  first_stands number first it brace at known kept =
      stands_at number it at
      ∙ ap (stands_as o number) at
      ∙ ap (stands_by o number it) known
      ∙ ap (λ o. or_itself number (struct_in o)) kept

-- ---- the program

module _ (m : Translator) (functions : List TypedFunction) (main : ℕ) (base : ℕ) (traced : IsTracedAt base m.typer) where
  -- no struct has got a body since
  same_structs : (program_at_end m functions main).types.structs ≡ m.typer.types.structs
  same_structs = (globals_add (taken_globals [] m.typer.taken) 0 [] m.objects m.typer.types).structs

  -- One struct stands for two of one brace.
  pub joined_at_end : AreJoined (program_at_end m functions main) m
  joined_at_end =
      record {
        bodies = λ number has. subst (λ its. is_some (body_in (slice_get its number)) ≡ true) same_structs has;
        joined = λ number other brace is is' has has'.
            let first : HasFirst m.typer.origins brace = (traced.begun number is.0 brace is.1 is.2).1 in
            first_stands (program_at_end m functions main).types m.typer.origins number first.0 is.0 brace is.1 is.2 first.1
            ∙ sym (first_stands (program_at_end m functions main).types m.typer.origins other first.0 is'.0 brace is'.1 is'.2 first.1);
      }
