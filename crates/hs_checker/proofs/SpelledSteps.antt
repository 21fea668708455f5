-- Steps that are spelled are read again.
use Rattle.std.proofs.Common.{◌≡◌, ℕ, ◌≤◌, true, false, leb, List, [], ◌∷◌, ◌++◌, Option, Some, None, refl, subst, ◌∙◌, append_assoc, arith}
use Rattle.std.specs.Prelude.{codes, slice_get}
use Rattle.std.specs.Fmt.{decimal}
use Rattle.std.specs.Str.{bytes_eq}
use Rattle.std.proofs.lemmas.Bool.{and_parts, leb-true}
use Rattle.hs_base.specs.declared.pos.Pos.{Pos}
use Rattle.hs_tokens.specs.declared.token.SourceToken.{SourceToken}
use Rattle.hs_tree.specs.declared.straight.tree.Kind.{Kind}
use Rattle.hs_tree.specs.declared.straight.tree.Kind.TheVariants.{Handle, Pointer, Letter}
use Rattle.hs_tree.specs.declared.straight.tree.Variable.{Variable}
use Rattle.hs_tree.specs.declared.straight.tree.Expr.{Expr}
use Rattle.hs_tree.specs.declared.straight.tree.Step.{Step}
use Rattle.hs_tree.specs.declared.straight.tree.Step.TheVariants as step
use Rattle.hs_tree.specs.Straight.Names.{reserved, is_name}
use Rattle.hs_tree.specs.Straight.Fine.{has_kind, kind_eq, is_declared, is_readable, was_assigned, is_fine_expr, is_fine_step, are_fine_names}
use Rattle.hs_checker.specs.Straight.Grammar.{Piece, word, placed, name_of, expr_spelling, step_spelling, ended, Spells}
use Rattle.hs_checker.specs.Straight.Reading.{is_at, handle_at, lock_at, unlock_at, putchar_at, store_at, new_handle_at, derive_at, set_at, source_at, assign_at, form_at, step_at}
use Rattle.hs_checker.proofs.Marks.{placed_again, word_again, at_first}
use Rattle.hs_checker.proofs.Names.{variable_again, name_is, not_text}
use Rattle.hs_checker.proofs.Numbers.{read_number_again}
use Rattle.hs_checker.proofs.Exprs.{expr_again}

-- a variable has one kind
one_kind : (kind other : Kind) (found : Option Variable) → kind_eq kind other ≡ false → has_kind kind found ≡ true → has_kind other found ≡ false
one_kind kind other None apart has = refl
one_kind kind other (Some variable) apart has = kinds_differ variable.kind kind other apart has
  where
    kinds_differ : (is kind other : Kind) → kind_eq kind other ≡ false → kind_eq is kind ≡ true → kind_eq is other ≡ false
    kinds_differ Handle Handle other apart same = apart
    kinds_differ Pointer Pointer other apart same = apart
    kinds_differ Letter Letter other apart same = apart
    kinds_differ Handle Pointer other apart same = absurd cc
    kinds_differ Handle Letter other apart same = absurd cc
    kinds_differ Pointer Handle other apart same = absurd cc
    kinds_differ Pointer Letter other apart same = absurd cc
    kinds_differ Letter Handle other apart same = absurd cc
    kinds_differ Letter Pointer other apart same = absurd cc

-- the first tests of a form, if its first token is a name
abbrev AreOther : List SourceToken → Type 0
AreOther tokens = (is_at (codes "*") tokens ≡ false) × (is_at (codes "HLock") tokens ≡ false) × (is_at (codes "HUnlock") tokens ≡ false)
    × (is_at (codes "putchar") tokens ≡ false)

module _ (variables : List Variable) (named : are_fine_names [] variables ≡ true) where
  handle_again : (handle : ℕ) (pieces : List Piece) (tokens : List SourceToken) → is_declared Handle variables handle ≡ true
      → Spells (word (codes "(") ∷ word (name_of variables handle) ∷ word (codes ")") ∷ pieces) tokens
      → (rest : List SourceToken) × (handle_at variables tokens ≡ Some (handle, rest)) × Spells pieces rest
  unfolding handle_at
  handle_again handle pieces tokens is spelled =
      let left = word_again (codes "(") (word (name_of variables handle) ∷ word (codes ")") ∷ pieces) tokens spelled in
      let name = variable_again variables Handle handle (word (codes ")") ∷ pieces) left.0.1 named is left.2 in
      let right = word_again (codes ")") pieces name.0 name.2 in
      (right.0.1, rw (left.1, name.1, right.1) refl, right.2)

  -- a name is no word that no name may be
  name_test : (kind : Kind) (number : ℕ) (pieces : List Piece) (tokens : List SourceToken) (text : List ℕ) → is_declared kind variables number ≡ true
      → is_name text ≡ false
      → Spells (word (name_of variables number) ∷ pieces) tokens → is_at text tokens ≡ false
  name_test kind number pieces tokens text is no_name spelled =
      at_first text (word (name_of variables number)) pieces tokens spelled
      ∙ not_text (name_of variables number) text (name_is variables kind number named is) no_name

  are_other : (kind : Kind) (number : ℕ) (pieces : List Piece) (tokens : List SourceToken) → is_declared kind variables number ≡ true
      → Spells (word (name_of variables number) ∷ pieces) tokens → AreOther tokens
  unfolding reserved
  are_other kind number pieces tokens is spelled = (
    name_test kind number pieces tokens (codes "*") is refl spelled,
    name_test kind number pieces tokens (codes "HLock") is refl spelled,
    name_test kind number pieces tokens (codes "HUnlock") is refl spelled,
    name_test kind number pieces tokens (codes "putchar") is refl spelled,
  )

  -- an assignment is read again if what follows its `=` is
  assign_again : (kind : Kind) (number : ℕ) (form : Step) (behind pieces : List Piece) (tokens : List SourceToken) → is_declared kind variables number ≡ true
      → ((sources : List SourceToken) → Spells behind sources
      → (rest : List SourceToken) × (source_at variables number sources ≡ Some (form, rest)) × Spells pieces rest)
      → Spells (word (name_of variables number) ∷ word (codes "=") ∷ behind) tokens
      → (rest : List SourceToken) × (form_at variables tokens ≡ Some (form, rest)) × Spells pieces rest
  unfolding form_at assign_at
  assign_again kind number form behind pieces tokens is reads spelled =
      let tests = are_other kind number (word (codes "=") ∷ behind) tokens is spelled in
      let name = variable_again variables kind number (word (codes "=") ∷ behind) tokens named is spelled in
      let sign = word_again (codes "=") behind name.0 name.2 in
      let source = reads sign.0.1 sign.2 in
      (source.0, rw (tests.0, tests.1, tests.2, tests.3, name.1, sign.1, source.1) refl, source.2)

  new_handle_again : (handle size : ℕ) (pieces : List Piece) (tokens : List SourceToken) → is_declared Handle variables handle ≡ true → size ≤ 32767
      → Spells (word (codes "NewHandle") ∷ word (codes "(") ∷ word (decimal size) ∷ word (codes ")") ∷ pieces) tokens
      → (rest : List SourceToken) × (source_at variables handle tokens ≡ Some (step.NewHandle handle size, rest)) × Spells pieces rest
  unfolding source_at new_handle_at
  new_handle_again handle size pieces tokens is low spelled =
      let name = word_again (codes "NewHandle") (word (codes "(") ∷ word (decimal size) ∷ word (codes ")") ∷ pieces) tokens spelled in
      let left = word_again (codes "(") (word (decimal size) ∷ word (codes ")") ∷ pieces) name.0.1 name.2 in
      let number = read_number_again 32767 size (word (codes ")") ∷ pieces) left.0.1 (omega arith) low left.2 in
      let right = word_again (codes ")") pieces number.0 number.2 in
      (right.0.1, rw (is, name.1, left.1, number.1, right.1) refl, right.2)

  derive_again : (pos : Pos) (pointer handle : ℕ) (pieces : List Piece) (tokens : List SourceToken) → is_declared Pointer variables pointer ≡ true
      → is_declared Handle variables handle ≡ true
      → Spells (placed pos (codes "*") ∷ word (name_of variables handle) ∷ pieces) tokens
      → (rest : List SourceToken) × (source_at variables pointer tokens ≡ Some (step.Derive pos pointer handle, rest)) × Spells pieces rest
  unfolding source_at derive_at
  derive_again pos pointer handle pieces tokens is also spelled =
      let no_handle : is_declared Handle variables pointer ≡ false = one_kind Pointer Handle (slice_get variables pointer) refl is in
      let star = placed_again pos (codes "*") (word (name_of variables handle) ∷ pieces) tokens spelled in
      let name = variable_again variables Handle handle pieces star.0 named also star.2 in
      (name.0, rw (no_handle, is, star.1, name.1) refl, name.2)

  set_again : (done : List Step) (letter : ℕ) (value : Expr) (pieces : List Piece) (tokens : List SourceToken) → is_declared Letter variables letter ≡ true
      → is_fine_expr variables done value ≡ true
      → Spells (expr_spelling variables value ++ pieces) tokens
      → (rest : List SourceToken) × (source_at variables letter tokens ≡ Some (step.Set letter value, rest)) × Spells pieces rest
  unfolding source_at set_at
  set_again done letter value pieces tokens is fine spelled =
      let no_handle : is_declared Handle variables letter ≡ false = one_kind Letter Handle (slice_get variables letter) refl is in
      let no_pointer : is_declared Pointer variables letter ≡ false = one_kind Letter Pointer (slice_get variables letter) refl is in
      let read = expr_again variables named done value pieces tokens fine spelled in
      (read.0, rw (no_handle, no_pointer, read.1) refl, read.2)

  -- by its form: the tests before it fail, and its own reads it
  form_again : (done : List Step) (form : Step) (pieces : List Piece) (tokens : List SourceToken) → is_fine_step variables done form ≡ true
      → Spells (step_spelling variables form ++ pieces) tokens
      → (rest : List SourceToken) × (form_at variables tokens ≡ Some (form, rest)) × Spells pieces rest
  unfolding form_at lock_at unlock_at putchar_at store_at
  form_again done (step.NewHandle handle size) pieces tokens fine spelled =
      let parts = and_parts (is_declared Handle variables handle) (leb size 32767) fine in
      let behind = word (codes "NewHandle") ∷ word (codes "(") ∷ word (decimal size) ∷ word (codes ")") ∷ pieces in
      assign_again Handle handle (step.NewHandle handle size) behind pieces tokens parts.0
      (λ sources s. new_handle_again handle size pieces sources parts.0 (leb-true size 32767 parts.1) s) spelled
  form_again done (step.HLock pos handle) pieces tokens fine spelled =
      let is = (and_parts (is_declared Handle variables handle) (was_assigned handle done) fine).0 in
      let behind = word (codes "(") ∷ word (name_of variables handle) ∷ word (codes ")") ∷ pieces in
      let star : is_at (codes "*") tokens ≡ false = at_first (codes "*") (placed pos (codes "HLock")) behind tokens spelled in
      let here : is_at (codes "HLock") tokens ≡ true = at_first (codes "HLock") (placed pos (codes "HLock")) behind tokens spelled in
      let name = placed_again pos (codes "HLock") behind tokens spelled in
      let argument = handle_again handle pieces name.0 is name.2 in
      (argument.0, rw (star, here, name.1, argument.1) refl, argument.2)
  form_again done (step.HUnlock pos handle) pieces tokens fine spelled =
      let is = (and_parts (is_declared Handle variables handle) (was_assigned handle done) fine).0 in
      let behind = word (codes "(") ∷ word (name_of variables handle) ∷ word (codes ")") ∷ pieces in
      let star : is_at (codes "*") tokens ≡ false = at_first (codes "*") (placed pos (codes "HUnlock")) behind tokens spelled in
      let lock : is_at (codes "HLock") tokens ≡ false = at_first (codes "HLock") (placed pos (codes "HUnlock")) behind tokens spelled in
      let here : is_at (codes "HUnlock") tokens ≡ true = at_first (codes "HUnlock") (placed pos (codes "HUnlock")) behind tokens spelled in
      let name = placed_again pos (codes "HUnlock") behind tokens spelled in
      let argument = handle_again handle pieces name.0 is name.2 in
      (argument.0, rw (star, lock, here, name.1, argument.1) refl, argument.2)
  form_again done (step.Derive pos pointer handle) pieces tokens fine spelled =
      let parts = and_parts (is_declared Pointer variables pointer) (is_readable Handle variables done handle) fine in
      let also = (and_parts (is_declared Handle variables handle) (was_assigned handle done) parts.1).0 in
      let behind = placed pos (codes "*") ∷ word (name_of variables handle) ∷ pieces in
      assign_again Pointer pointer (step.Derive pos pointer handle) behind pieces tokens parts.0
      (λ sources s. derive_again pos pointer handle pieces sources parts.0 also s) spelled
  form_again done (step.Set letter value) pieces tokens fine spelled =
      let parts = and_parts (is_declared Letter variables letter) (is_fine_expr variables done value) fine in
      assign_again Letter letter (step.Set letter value) (expr_spelling variables value ++ pieces) pieces tokens parts.0
      (λ sources s. set_again done letter value pieces sources parts.0 parts.1 s) spelled
  form_again done (step.Store pos pointer value) pieces tokens fine spelled =
      let parts = and_parts (is_readable Pointer variables done pointer) (is_fine_expr variables done value) fine in
      let is = (and_parts (is_declared Pointer variables pointer) (was_assigned pointer done) parts.0).0 in
      let behind = expr_spelling variables value ++ pieces in
      let here : is_at (codes "*") tokens ≡ true =
      at_first (codes "*") (word (codes "*")) (word (name_of variables pointer) ∷ placed pos (codes "=") ∷ behind) tokens spelled in
      let star = word_again (codes "*") (word (name_of variables pointer) ∷ placed pos (codes "=") ∷ behind) tokens spelled in
      let name = variable_again variables Pointer pointer (placed pos (codes "=") ∷ behind) star.0.1 named is star.2 in
      let sign = placed_again pos (codes "=") behind name.0 name.2 in
      let read = expr_again variables named done value pieces sign.0 parts.1 sign.2 in
      (read.0, rw (here, star.1, name.1, sign.1, read.1) refl, read.2)
  form_again done (step.Putchar value) pieces tokens fine spelled =
      let inner = (expr_spelling variables value ++ word (codes ")") ∷ []) ++ pieces in
      let star : is_at (codes "*") tokens ≡ false = at_first (codes "*") (word (codes "putchar")) (word (codes "(") ∷ inner) tokens spelled in
      let lock : is_at (codes "HLock") tokens ≡ false = at_first (codes "HLock") (word (codes "putchar")) (word (codes "(") ∷ inner) tokens spelled in
      let unlock : is_at (codes "HUnlock") tokens ≡ false = at_first (codes "HUnlock") (word (codes "putchar")) (word (codes "(") ∷ inner) tokens spelled in
      let here : is_at (codes "putchar") tokens ≡ true = at_first (codes "putchar") (word (codes "putchar")) (word (codes "(") ∷ inner) tokens spelled in
      let name = word_again (codes "putchar") (word (codes "(") ∷ inner) tokens spelled in
      let left = word_again (codes "(") inner name.0.1 name.2 in
      let grouped : Spells (expr_spelling variables value ++ (word (codes ")") ∷ pieces)) left.0.1 =
      subst (λ (p : List Piece). Spells p left.0.1) (append_assoc (expr_spelling variables value) (word (codes ")") ∷ []) pieces) left.2 in
      let read = expr_again variables named done value (word (codes ")") ∷ pieces) left.0.1 fine grouped in
      let right = word_again (codes ")") pieces read.0 read.2 in
      (right.0.1, rw (star, lock, unlock, here, name.1, left.1, read.1, right.1) refl, right.2)

  -- a spelled step that may stand there is read again
  pub step_again : (done : List Step) (form : Step) (pieces : List Piece) (tokens : List SourceToken) → is_fine_step variables done form ≡ true
      → Spells (ended (step_spelling variables form) ++ pieces) tokens
      → (rest : List SourceToken) × (step_at variables done tokens ≡ Some (form, rest)) × Spells pieces rest
  unfolding step_at
  step_again done form pieces tokens fine spelled =
      let grouped : Spells (step_spelling variables form ++ (word (codes ";") ∷ pieces)) tokens =
      subst (λ (p : List Piece). Spells p tokens) (append_assoc (step_spelling variables form) (word (codes ";") ∷ []) pieces) spelled in
      let read = form_again done form (word (codes ";") ∷ pieces) tokens fine grouped in
      let mark = word_again (codes ";") pieces read.0 read.2 in
      (mark.0.1, rw (read.1, mark.1, fine) refl, mark.2)

  -- no step begins with a word that is neither a name nor begins a form
  pub step_begins : (done : List Step) (form : Step) (pieces : List Piece) (tokens : List SourceToken) (text : List ℕ) → is_fine_step variables done form ≡ true
      → is_name text ≡ false → bytes_eq (codes "*") text ≡ false → bytes_eq (codes "HLock") text ≡ false → bytes_eq (codes "HUnlock") text ≡ false
      → bytes_eq (codes "putchar") text ≡ false
      → Spells (step_spelling variables form ++ pieces) tokens → is_at text tokens ≡ false
  step_begins done (step.NewHandle handle size) pieces tokens text fine no_name no_star no_lock no_unlock no_putchar spelled =
      name_test Handle handle (word (codes "=") ∷ word (codes "NewHandle") ∷ word (codes "(") ∷ word (decimal size) ∷ word (codes ")") ∷ pieces)
      tokens text (and_parts (is_declared Handle variables handle) (leb size 32767) fine).0 no_name spelled
  step_begins done (step.HLock pos handle) pieces tokens text fine no_name no_star no_lock no_unlock no_putchar spelled =
      at_first text (placed pos (codes "HLock")) (word (codes "(") ∷ word (name_of variables handle) ∷ word (codes ")") ∷ pieces) tokens spelled ∙ no_lock
  step_begins done (step.HUnlock pos handle) pieces tokens text fine no_name no_star no_lock no_unlock no_putchar spelled =
      at_first text (placed pos (codes "HUnlock")) (word (codes "(") ∷ word (name_of variables handle) ∷ word (codes ")") ∷ pieces) tokens spelled ∙ no_unlock
  step_begins done (step.Derive pos pointer handle) pieces tokens text fine no_name no_star no_lock no_unlock no_putchar spelled =
      name_test Pointer pointer (word (codes "=") ∷ placed pos (codes "*") ∷ word (name_of variables handle) ∷ pieces) tokens text
      (and_parts (is_declared Pointer variables pointer) (is_readable Handle variables done handle) fine).0 no_name spelled
  step_begins done (step.Set letter value) pieces tokens text fine no_name no_star no_lock no_unlock no_putchar spelled =
      name_test Letter letter (word (codes "=") ∷ (expr_spelling variables value ++ pieces)) tokens text
      (and_parts (is_declared Letter variables letter) (is_fine_expr variables done value) fine).0 no_name spelled
  step_begins done (step.Store pos pointer value) pieces tokens text fine no_name no_star no_lock no_unlock no_putchar spelled =
      at_first text (word (codes "*")) (word (name_of variables pointer) ∷ placed pos (codes "=") ∷ (expr_spelling variables value ++ pieces)) tokens
      spelled ∙ no_star
  step_begins done (step.Putchar value) pieces tokens text fine no_name no_star no_lock no_unlock no_putchar spelled =
      at_first text (word (codes "putchar")) (word (codes "(") ∷ ((expr_spelling variables value ++ word (codes ")") ∷ []) ++ pieces)) tokens spelled
      ∙ no_putchar
