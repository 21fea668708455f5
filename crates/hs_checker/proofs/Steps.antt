-- Steps that are read are spelled so.
use Rattle.std.proofs.Common.{◌≡◌, ℕ, true, cond, List, [], ◌∷◌, ◌++◌, Some, None, subst, inl, inr, append_assoc, arith}
use Rattle.std.specs.Prelude.{codes}
use Rattle.std.specs.Fmt.{decimal}
use Rattle.std.proofs.lemmas.Option.{cond_some}
use Rattle.hs_base.specs.Options.{◌>>=◌, bind_some}
use Rattle.hs_tokens.specs.declared.token.SourceToken.{SourceToken}
use Rattle.hs_tree.specs.declared.straight.tree.Kind.TheVariants.{Handle, Pointer}
use Rattle.hs_tree.specs.declared.straight.tree.Variable.{Variable}
use Rattle.hs_tree.specs.declared.straight.tree.Step.{Step}
use Rattle.hs_tree.specs.declared.straight.tree.Step.TheVariants as step
use Rattle.hs_tree.specs.Straight.Fine.{is_declared, is_fine_step}
use Rattle.hs_checker.specs.Straight.Grammar.{Piece, word, placed, name_of, expr_spelling, step_spelling, ended, Spells}
use Rattle.hs_checker.specs.Straight.Reading.{mark_at, is_at, number_at, variable_at, expr_at, handle_at, lock_at, unlock_at, putchar_at, store_at, new_handle_at, derive_at, set_at, source_at, assign_at, form_at, step_at}
use Rattle.hs_checker.proofs.Marks.{some_is, chosen, placed_takes, word_takes}
use Rattle.hs_checker.proofs.Names.{variable_takes}
use Rattle.hs_checker.proofs.Numbers.{number_takes}
use Rattle.hs_checker.proofs.Exprs.{expr_takes}

-- the step is spelled so at the front of the tokens, whatever follows it
abbrev IsForm : List Variable → List SourceToken → (Step × List SourceToken) → Type 0
IsForm variables tokens x = (pieces : List Piece) → Spells pieces x.1 → Spells (step_spelling variables x.0 ++ pieces) tokens

handle_takes : (variables : List Variable) (tokens : List SourceToken) (x : ℕ × List SourceToken) (pieces : List Piece) → handle_at variables tokens ≡ Some x
    → Spells pieces x.1
    → Spells (word (codes "(") ∷ word (name_of variables x.0) ∷ word (codes ")") ∷ pieces) tokens
unfolding handle_at
handle_takes variables tokens x pieces e after =
    let a = bind_some (mark_at (codes "(") tokens) (λ left. variable_at variables left.1 >>= λ handle. mark_at (codes ")") handle.1 >>= λ right. Some
    (handle.0, right.1)) x e in
    let b = bind_some (variable_at variables a.0.1) (λ handle. mark_at (codes ")") handle.1 >>= λ right. Some (handle.0, right.1)) x a.2 in
    let d = bind_some (mark_at (codes ")") b.0.1) (λ right. Some (b.0.0, right.1)) x b.2 in
    let made : ℕ × List SourceToken = (b.0.0, d.0.1) in
    let P : (ℕ × List SourceToken) → Type 0 =
    λ y. Spells pieces y.1 → Spells (word (codes "(") ∷ word (name_of variables y.0) ∷ word (codes ")") ∷ pieces) tokens in
    let last : Spells pieces d.0.1 → Spells (word (codes ")") ∷ pieces) b.0.1 = λ s. word_takes (codes ")") b.0.1 d.0 pieces d.1 s in
    let name : Spells pieces d.0.1 → Spells (word (name_of variables b.0.0) ∷ word (codes ")") ∷ pieces) a.0.1 =
    λ s. variable_takes variables a.0.1 b.0 (word (codes ")") ∷ pieces) b.1 (last s) in
    subst P (some_is made x d.2) (λ s. word_takes (codes "(") tokens a.0 (word (name_of variables b.0.0) ∷ word (codes ")") ∷ pieces) a.1 (name s)) after

lock_takes : (variables : List Variable) (tokens : List SourceToken) (x : Step × List SourceToken) → lock_at variables tokens ≡ Some x
    → IsForm variables tokens x
unfolding lock_at
lock_takes variables tokens x e =
    let a = bind_some (mark_at (codes "HLock") tokens) (λ name. handle_at variables name.1 >>= λ handle. Some (step.HLock name.0 handle.0, handle.1)) x e in
    let b = bind_some (handle_at variables a.0.1) (λ handle. Some (step.HLock a.0.0 handle.0, handle.1)) x a.2 in
    let made : Step × List SourceToken = (step.HLock a.0.0 b.0.0, b.0.1) in
    let taken : IsForm variables tokens made =
    λ pieces s. placed_takes (codes "HLock") tokens a.0 (word (codes "(") ∷ word (name_of variables b.0.0) ∷ word (codes ")") ∷ pieces) a.1
    (handle_takes variables a.0.1 b.0 pieces b.1 s) in
    subst (IsForm variables tokens) (some_is made x b.2) taken

unlock_takes : (variables : List Variable) (tokens : List SourceToken) (x : Step × List SourceToken)
    → unlock_at variables tokens ≡ Some x → IsForm variables tokens x
unfolding unlock_at
unlock_takes variables tokens x e =
    let a = bind_some (mark_at (codes "HUnlock") tokens) (λ name. handle_at variables name.1 >>= λ handle. Some (step.HUnlock name.0 handle.0, handle.1)) x e in
    let b = bind_some (handle_at variables a.0.1) (λ handle. Some (step.HUnlock a.0.0 handle.0, handle.1)) x a.2 in
    let made : Step × List SourceToken = (step.HUnlock a.0.0 b.0.0, b.0.1) in
    let taken : IsForm variables tokens made =
    λ pieces s. placed_takes (codes "HUnlock") tokens a.0 (word (codes "(") ∷ word (name_of variables b.0.0) ∷ word (codes ")") ∷ pieces) a.1
    (handle_takes variables a.0.1 b.0 pieces b.1 s) in
    subst (IsForm variables tokens) (some_is made x b.2) taken

putchar_takes : (variables : List Variable) (tokens : List SourceToken) (x : Step × List SourceToken)
    → putchar_at variables tokens ≡ Some x → IsForm variables tokens x
unfolding putchar_at
putchar_takes variables tokens x e =
    let a = bind_some (mark_at (codes "putchar") tokens)
    (λ name. mark_at (codes "(") name.1 >>= λ left. expr_at variables left.1 >>= λ value. mark_at (codes ")") value.1 >>= λ right. Some
    (step.Putchar value.0, right.1)) x e in
    let b = bind_some (mark_at (codes "(") a.0.1) (λ left. expr_at variables left.1 >>= λ value. mark_at (codes ")") value.1 >>= λ right. Some
    (step.Putchar value.0, right.1)) x a.2 in
    let d = bind_some (expr_at variables b.0.1) (λ value. mark_at (codes ")") value.1 >>= λ right. Some (step.Putchar value.0, right.1)) x b.2 in
    let f = bind_some (mark_at (codes ")") d.0.1) (λ right. Some (step.Putchar d.0.0, right.1)) x d.2 in
    let made : Step × List SourceToken = (step.Putchar d.0.0, f.0.1) in
    let value = expr_spelling variables d.0.0 in
    let taken : IsForm variables tokens made = λ pieces s.
    let last : Spells (word (codes ")") ∷ pieces) d.0.1 = word_takes (codes ")") d.0.1 f.0 pieces f.1 s in
    let inner : Spells (value ++ (word (codes ")") ∷ pieces)) b.0.1 = expr_takes variables b.0.1 d.0 d.1 (word (codes ")") ∷ pieces) last in
    let grouped : Spells ((value ++ word (codes ")") ∷ []) ++ pieces) b.0.1 = rw (append_assoc value (word (codes ")") ∷ []) pieces) inner in
    word_takes (codes "putchar") tokens a.0 (word (codes "(") ∷ ((value ++ word (codes ")") ∷ []) ++ pieces)) a.1
    (word_takes (codes "(") a.0.1 b.0 ((value ++ word (codes ")") ∷ []) ++ pieces) b.1 grouped) in
    subst (IsForm variables tokens) (some_is made x f.2) taken

store_takes : (variables : List Variable) (tokens : List SourceToken) (x : Step × List SourceToken) → store_at variables tokens ≡ Some x
    → IsForm variables tokens x
unfolding store_at
store_takes variables tokens x e =
    let a = bind_some (mark_at (codes "*") tokens)
    (λ star. variable_at variables star.1 >>= λ pointer. mark_at (codes "=") pointer.1 >>= λ sign. expr_at variables sign.1 >>= λ value. Some
    (step.Store sign.0 pointer.0 value.0, value.1)) x e in
    let b = bind_some (variable_at variables a.0.1)
    (λ pointer. mark_at (codes "=") pointer.1 >>= λ sign. expr_at variables sign.1 >>= λ value. Some
    (step.Store sign.0 pointer.0 value.0, value.1)) x a.2 in
    let d = bind_some (mark_at (codes "=") b.0.1) (λ sign. expr_at variables sign.1 >>= λ value. Some (step.Store sign.0 b.0.0 value.0, value.1)) x b.2 in
    let f = bind_some (expr_at variables d.0.1) (λ value. Some (step.Store d.0.0 b.0.0 value.0, value.1)) x d.2 in
    let made : Step × List SourceToken = (step.Store d.0.0 b.0.0 f.0.0, f.0.1) in
    let taken : IsForm variables tokens made = λ pieces s.
    let value = expr_spelling variables f.0.0 ++ pieces in
    let sign : Spells (placed d.0.0 (codes "=") ∷ value) b.0.1 = placed_takes (codes "=") b.0.1 d.0 value d.1 (expr_takes variables d.0.1 f.0 f.1 pieces s) in
    let name : Spells (word (name_of variables b.0.0) ∷ placed d.0.0 (codes "=") ∷ value) a.0.1 =
    variable_takes variables a.0.1 b.0 (placed d.0.0 (codes "=") ∷ value) b.1 sign in
    word_takes (codes "*") tokens a.0 (word (name_of variables b.0.0) ∷ placed d.0.0 (codes "=") ∷ value) a.1 name in
    subst (IsForm variables tokens) (some_is made x f.2) taken

-- what follows the `=` of an assignment, and the name and the `=` before it
abbrev IsSource : List Variable → ℕ → List SourceToken → (Step × List SourceToken) → Type 0
IsSource variables number tokens x = (pieces : List Piece) (before : List SourceToken)
    → Spells pieces x.1
    → ((behind : List Piece) → Spells behind tokens → Spells (word (name_of variables number) ∷ word (codes "=") ∷ behind) before)
    → Spells (step_spelling variables x.0 ++ pieces) before

new_handle_takes : (variables : List Variable) (handle : ℕ) (tokens : List SourceToken) (x : Step × List SourceToken) → new_handle_at handle tokens ≡ Some x
    → IsSource variables handle tokens x
unfolding new_handle_at
new_handle_takes variables handle tokens x e =
    let a = bind_some (mark_at (codes "NewHandle") tokens)
    (λ name. mark_at (codes "(") name.1 >>= λ left. number_at 32767 left.1 >>= λ size. mark_at (codes ")") size.1 >>= λ right. Some
    (step.NewHandle handle size.0, right.1)) x e in
    let b = bind_some (mark_at (codes "(") a.0.1) (λ left. number_at 32767 left.1 >>= λ size. mark_at (codes ")") size.1 >>= λ right. Some
    (step.NewHandle handle size.0, right.1)) x a.2 in
    let d = bind_some (number_at 32767 b.0.1) (λ size. mark_at (codes ")") size.1 >>= λ right. Some (step.NewHandle handle size.0, right.1)) x b.2 in
    let f = bind_some (mark_at (codes ")") d.0.1) (λ right. Some (step.NewHandle handle d.0.0, right.1)) x d.2 in
    let made : Step × List SourceToken = (step.NewHandle handle d.0.0, f.0.1) in
    let taken : IsSource variables handle tokens made = λ pieces before s target.
    let last : Spells (word (codes ")") ∷ pieces) d.0.1 = word_takes (codes ")") d.0.1 f.0 pieces f.1 s in
    let size : Spells (word (decimal d.0.0) ∷ word (codes ")") ∷ pieces) b.0.1 = number_takes 32767 b.0.1 d.0 (word (codes ")") ∷ pieces)
    (omega arith) d.1 last in
    let left : Spells (word (codes "(") ∷ word (decimal d.0.0) ∷ word (codes ")") ∷ pieces) a.0.1 =
    word_takes (codes "(") a.0.1 b.0 (word (decimal d.0.0) ∷ word (codes ")") ∷ pieces) b.1 size in
    target (word (codes "NewHandle") ∷ word (codes "(") ∷ word (decimal d.0.0) ∷ word (codes ")") ∷ pieces)
    (word_takes (codes "NewHandle") tokens a.0 (word (codes "(") ∷ word (decimal d.0.0) ∷ word (codes ")") ∷ pieces) a.1 left) in
    subst (IsSource variables handle tokens) (some_is made x f.2) taken

derive_takes : (variables : List Variable) (pointer : ℕ) (tokens : List SourceToken) (x : Step × List SourceToken) → derive_at variables pointer tokens ≡ Some x
    → IsSource variables pointer tokens x
unfolding derive_at
derive_takes variables pointer tokens x e =
    let a = bind_some (mark_at (codes "*") tokens)
    (λ star. variable_at variables star.1 >>= λ handle. Some (step.Derive star.0 pointer handle.0, handle.1)) x e in
    let b = bind_some (variable_at variables a.0.1) (λ handle. Some (step.Derive a.0.0 pointer handle.0, handle.1)) x a.2 in
    let made : Step × List SourceToken = (step.Derive a.0.0 pointer b.0.0, b.0.1) in
    let taken : IsSource variables pointer tokens made = λ pieces before s target.
    target (placed a.0.0 (codes "*") ∷ word (name_of variables b.0.0) ∷ pieces)
    (placed_takes (codes "*") tokens a.0 (word (name_of variables b.0.0) ∷ pieces) a.1 (variable_takes variables a.0.1 b.0 pieces b.1 s)) in
    subst (IsSource variables pointer tokens) (some_is made x b.2) taken

set_takes : (variables : List Variable) (letter : ℕ) (tokens : List SourceToken) (x : Step × List SourceToken) → set_at variables letter tokens ≡ Some x
    → IsSource variables letter tokens x
unfolding set_at
set_takes variables letter tokens x e =
    let a = bind_some (expr_at variables tokens) (λ value. Some (step.Set letter value.0, value.1)) x e in
    let made : Step × List SourceToken = (step.Set letter a.0.0, a.0.1) in
    let taken : IsSource variables letter tokens made =
    λ pieces before s target. target (expr_spelling variables a.0.0 ++ pieces) (expr_takes variables tokens a.0 a.1 pieces s) in
    subst (IsSource variables letter tokens) (some_is made x a.2) taken

source_takes : (variables : List Variable) (number : ℕ) (tokens : List SourceToken) (x : Step × List SourceToken) → source_at variables number tokens ≡ Some x
    → IsSource variables number tokens x
unfolding source_at
source_takes variables number tokens x e =
    elim (chosen (is_declared Handle variables number) (new_handle_at number tokens)
    (cond (is_declared Pointer variables number) (derive_at variables number tokens) (set_at variables number tokens)) (Some x) e) [
      | inl first ↦ new_handle_takes variables number tokens x first.1
      | inr other ↦ elim (chosen (is_declared Pointer variables number) (derive_at variables number tokens) (set_at variables number tokens) (Some x) other.1) [
        | inl second ↦ derive_takes variables number tokens x second.1
        | inr third ↦ set_takes variables number tokens x third.1
      ]
    ]

assign_takes : (variables : List Variable) (tokens : List SourceToken) (x : Step × List SourceToken)
    → assign_at variables tokens ≡ Some x → IsForm variables tokens x
unfolding assign_at
assign_takes variables tokens x e =
    let a = bind_some (variable_at variables tokens) (λ target. mark_at (codes "=") target.1 >>= λ sign. source_at variables target.0 sign.1) x e in
    let b = bind_some (mark_at (codes "=") a.0.1) (λ sign. source_at variables a.0.0 sign.1) x a.2 in
    λ pieces s. source_takes variables a.0.0 b.0.1 x b.2 pieces tokens s
    (λ behind spelled. variable_takes variables tokens a.0 (word (codes "=") ∷ behind) a.1 (word_takes (codes "=") a.0.1 b.0 behind b.1 spelled))

-- a step that is read is spelled so: by its form
pub form_takes : (variables : List Variable) (tokens : List SourceToken) (x : Step × List SourceToken)
    → form_at variables tokens ≡ Some x → IsForm variables tokens x
unfolding form_at
form_takes variables tokens x e =
    let later = cond (is_at (codes "HLock") tokens) (lock_at variables tokens)
    (cond (is_at (codes "HUnlock") tokens) (unlock_at variables tokens)
    (cond (is_at (codes "putchar") tokens) (putchar_at variables tokens) (assign_at variables tokens))) in
    elim (chosen (is_at (codes "*") tokens) (store_at variables tokens) later (Some x) e) [
      | inl first ↦ store_takes variables tokens x first.1
      | inr a ↦ elim (chosen (is_at (codes "HLock") tokens) (lock_at variables tokens)
          (cond (is_at (codes "HUnlock") tokens) (unlock_at variables tokens)
          (cond (is_at (codes "putchar") tokens) (putchar_at variables tokens) (assign_at variables tokens))) (Some x) a.1) [
            | inl second ↦ lock_takes variables tokens x second.1
            | inr b ↦ elim (chosen (is_at (codes "HUnlock") tokens) (unlock_at variables tokens)
                (cond (is_at (codes "putchar") tokens) (putchar_at variables tokens) (assign_at variables tokens)) (Some x) b.1) [
                  | inl third ↦ unlock_takes variables tokens x third.1
                  | inr d ↦ elim (chosen (is_at (codes "putchar") tokens) (putchar_at variables tokens) (assign_at variables tokens) (Some x) d.1) [
                    | inl fourth ↦ putchar_takes variables tokens x fourth.1
                    | inr f ↦ assign_takes variables tokens x f.1
                  ]
                ]
          ]
    ]

-- a step is spelled so, with its semicolon, and may stand after those done
pub record IsStep (variables : List Variable) (done : List Step) (tokens : List SourceToken) (x : Step × List SourceToken) : Type 0 where
  pub fine : is_fine_step variables done x.0 ≡ true
  pub spelled : (pieces : List Piece) → Spells pieces x.1 → Spells (ended (step_spelling variables x.0) ++ pieces) tokens

-- the same with its semicolon, and it may stand there
pub step_takes : (variables : List Variable) (done : List Step) (tokens : List SourceToken) (x : Step × List SourceToken)
    → step_at variables done tokens ≡ Some x → IsStep variables done tokens x
unfolding step_at
step_takes variables done tokens x e =
    let a = bind_some (form_at variables tokens)
    (λ form. mark_at (codes ";") form.1 >>= λ mark. cond (is_fine_step variables done form.0) (Some (form.0, mark.1)) None) x e in
    let b = bind_some (mark_at (codes ";") a.0.1) (λ mark. cond (is_fine_step variables done a.0.0) (Some (a.0.0, mark.1)) None) x a.2 in
    let made : Step × List SourceToken = (a.0.0, b.0.1) in
    let test = cond_some (is_fine_step variables done a.0.0) made x b.2 in
    let taken : IsStep variables done tokens made = record {
      fine = test.0;
      spelled = λ pieces s. rw (append_assoc (step_spelling variables a.0.0) (word (codes ";") ∷ []) pieces)
          (form_takes variables tokens a.0 a.1 (word (codes ";") ∷ pieces) (word_takes (codes ";") a.0.1 b.0 pieces b.1 s));
    } in
    subst (IsStep variables done tokens) test.1 taken
