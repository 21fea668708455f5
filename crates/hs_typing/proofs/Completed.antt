-- The program of what the units leave, if what was held while it was made is what it was.
use Rattle.std.proofs.Common.{◌≡◌, ℕ, map, Result, Ok, Err, sym, ap, subst, ◌∙◌}
use Rattle.std.specs.Prelude.{IfOk, IfErr, Vec}
use Rattle.std.specs.Global.{Global}
use Rattle.hs_base.specs.declared.errors.NoMemory.{NoMemory}
use Rattle.hs_linkage.specs.declared.translator.Translator.{Translator}
use Rattle.hs_tree.specs.Views.{view_function}
use Rattle.hs_tree.specs.declared.function.Function.{Function}
use Rattle.hs_typing.specs.Programs.{parts_of, assembled, within, view_typed, IsTyped}
use Rattle.hs_typing.specs.declared.program.Ends.{Ends}
use Rattle.hs_typing.specs.declared.program.ProgramError.{ProgramError}
use Rattle.hs_typing.specs.declared.program.Typed.{Typed}

abbrev Held : Type 0
Held = (Translator × Vec Function Global) × Ends

-- what was held came back with what was made
same_held : (one other : Held) → ◌≡◌ {A = Result Held NoMemory} (Ok one) (Ok other) → one ≡ other
same_held one other same = cc

module _ (m new all : Translator) (its functions : Vec Function Global) (ends : Ends) (whole : Result Held NoMemory) (it : Typed) (number : ℕ)
    (result : Result Typed ProgramError) where
  -- the parts that were assembled are what the units left
  pub completed_is : (given : Result Ends NoMemory)
      → IfOk given (λ e. parts_of m ≡ (new.typer.types, e.globals, new.typer.literals, e.routines, e.same, e.taken))
      → IfOk given (λ e. whole ≡ Ok ((new, its), e)) → IfErr given (λ e. whole ≡ Err e) → whole ≡ Ok ((all, functions), ends)
      → view_typed it ≡ assembled (all.typer.types, ends.globals, all.typer.literals, ends.routines, ends.same, ends.taken)
      (map view_function functions.items) number
      → IsTyped (within (view_typed it)) result → IsTyped (within (assembled (parts_of m) (map view_function its.items) number)) result
  completed_is (Ok e) left both fails is viewed typed =
      let held : ((all, functions), ends) ≡ ((new, its), e) = same_held ((all, functions), ends) ((new, its), e) (sym is ∙ both) in
      subst (λ program. IsTyped (within program) result)
      (viewed
      ∙ ap {A = Held}
      (λ t. assembled (t.0.0.typer.types, t.1.globals, t.0.0.typer.literals, t.1.routines, t.1.same, t.1.taken) (map view_function t.0.1.items) number)
      held ∙ ap (λ parts. assembled parts (map view_function its.items) number) (sym left))
      typed
  completed_is (Err why) left both fails is viewed typed = absurd (stopped (sym fails ∙ is))
    where
      stopped : ◌≡◌ {A = Result Held NoMemory} (Err why) (Ok ((all, functions), ends)) → ⊥
      stopped same = cc
