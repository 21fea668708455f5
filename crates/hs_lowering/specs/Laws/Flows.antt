-- Steps after which control goes one of several ways: how the code follows the meaning (own).
--     goes_by targets end_ flow t outcome after     what the run comes to from where the flow leads: after the code, to a target, or to the caller
--     PerformsTo first start                        the code from that operation does what the step does, with nothing on the stack
--     thens_to, silent, next_statement, ..          one after the other
use Rattle.std.proofs.Common.{◌≡◌, ℕ, suc, Bool, List, [], ◌∷◌, slice_get, Some, refl, sym, ap, ◌∙◌, subst}
use Rattle.hs_base.specs.declared.pos.Pos.{Pos}
use Rattle.hs_code.specs.declared.function_code.FunctionCode.{FunctionCode}
use Rattle.hs_code.specs.declared.op.Op.TheVariants as op
use Rattle.hs_code_run.specs.Codes.{CodeProgram, Waiting, Point}
use Rattle.hs_code_run.specs.Runs.{Comes, halted, onward as goes_onward, ComesFrom}
use Rattle.hs_code_run.specs.Steps.{stepped, stepped_at, returned_to}
use Rattle.hs_lowering.specs.Lowering.{after}
use Rattle.hs_lowering.specs.Performing.{IsAt, Leads, Performs, at_point}
use Rattle.hs_lowering.specs.Statements.{Targets, placed_at}
use Rattle.hs_meaning.specs.Evaluation.{Flow, onward, breaks, continues, returned}
use Rattle.hs_meaning.specs.Statements as meaning
use Rattle.hs_meaning.specs.Steps.{State, Ran, went, over, Step, ◌>>=◌, then_with, give}
use Rattle.hs_meaning.specs.Values.{Value}
use Rattle.hs_meaning.specs.declared.outcome.Outcome.{Outcome}
use Rattle.hs_tree.specs.declared.head.VariableDecl.{VariableDecl}

-- from what a step has come to, if it is the next one
pub comes_stepped : (program : CodeProgram) (point : Point) (s : State) (r : Ran Point) → stepped program point s ≡ r → (outcome : Outcome) (after : State)
    → ComesFrom program r outcome after → Comes program point s outcome after
comes_stepped program point s (went next t) is outcome after comes = goes_onward point next s t after outcome is comes
comes_stepped program point s (over ended t) is outcome after comes =
    subst (λ o. Comes program point s o after) comes.0 (subst (λ u. Comes program point s ended u) comes.1 (halted point s t ended is))

module _ (program : CodeProgram) (variables : List VariableDecl) (bound : ℕ) (code : FunctionCode) (waiting : List Waiting) (choices : List Bool) where
  -- nothing is on the stack there
  abbrev pub bare_point : ℕ → Point
  bare_point at = at_point program variables bound code waiting choices at []

  -- where a flow leads: `return` ends the call
  abbrev pub goes_by : Targets → ℕ → Flow → State → Outcome → State → Type 0
  goes_by targets end_ onward t outcome after = Comes program (bare_point end_) t outcome after
  goes_by targets end_ breaks t outcome after = Comes program (bare_point targets.breaks) t outcome after
  goes_by targets end_ continues t outcome after = Comes program (bare_point targets.continues) t outcome after
  goes_by targets end_ (returned value at) t outcome after = ComesFrom program (returned_to program at (bare_point 0) value waiting t) outcome after

  -- ways to go on from what a step gives
  abbrev pub Goes : Type 0 → Type 1
  Goes A = A → State → Outcome → State → Type 0

  -- what the step has come to, and what the run comes to from the point
  abbrev pub LeadsTo : {A : Type 0} → Goes A → Point → State → Ran A → Type 0
  LeadsTo goes point s (went a t) =
      IsAt program variables bound t × ((outcome : Outcome) (end_ : State) → goes a t outcome end_ → Comes program point s outcome end_)
  LeadsTo goes point s (over outcome end_) = Comes program point s outcome end_

  -- from all states of the call
  pub record PerformsTo {A : Type 0} (first : Step A) (point : Point) (goes : Goes A) : Type 0 where
    pub go : (s : State) → IsAt program variables bound s → LeadsTo goes point s (first s)

  -- after a step that goes on in one way
  pub thens_to : {A B : Type 0} → {fact : A → Type 0} → {first : Step A} → {f : A → Step B} → {point : Point} → {mid : A → Point} → {goes : Goes B}
      → Performs program variables bound code waiting choices fact first point mid → ((a : A) → fact a → PerformsTo (f a) (mid a) goes)
      → PerformsTo (first >>= f) point goes
  thens_to {A = A} {B = B} {fact = fact} {first = first} {f = f} {point = point} {mid = mid} {goes = goes} before rest =
      record { go = λ s at. by s (first s) (before.go s at) }
    where
      carried : (s : State) (a : A) (t : State)
          → ((outcome : Outcome) (end_ : State) → Comes program (mid a) t outcome end_ → Comes program point s outcome end_) → (r : Ran B)
          → LeadsTo goes (mid a) t r → LeadsTo goes point s r
      carried s a t leads (went b u) is = (is.0, λ outcome end_ comes. leads outcome end_ (is.1 outcome end_ comes))
      carried s a t leads (over outcome end_) is = leads outcome end_ is

      by : (s : State) (r : Ran A) → Leads program variables bound code waiting choices fact mid point s r → LeadsTo goes point s (then_with f r)
      by s (went a t) is = carried s a t is.2 (f a t) ((rest a is.0).go t is.1)
      by s (over outcome end_) is = is

  -- after a step that goes one of several ways
  pub follows_to : {A B : Type 0} → {first : Step A} → (f : A → Step B) → {point : Point} → {goes : Goes A} → {ends : Goes B}
      → PerformsTo first point goes
      → ((a : A) (s t : State) → IsAt program variables bound t
      → ((outcome : Outcome) (end_ : State) → goes a t outcome end_ → Comes program point s outcome end_) → LeadsTo ends point s (f a t))
      → PerformsTo (first >>= f) point ends
  follows_to {A = A} {B = B} {first = first} f {point = point} {goes = goes} {ends = ends} before rest =
      record { go = λ s at. by s (first s) (before.go s at) }
    where
      by : (s : State) (r : Ran A) → LeadsTo goes point s r → LeadsTo ends point s (then_with f r)
      by s (went a t) is = rest a s t is.0 is.1
      by s (over outcome end_) is = is

  -- an operation in front that only goes on
  pub silent : {A : Type 0} → {first : Step A} → {goes : Goes A} → (point next : Point) → ((s : State) → stepped program point s ≡ went next s)
      → PerformsTo first next goes → PerformsTo first point goes
  silent {A = A} {first = first} {goes = goes} point next is performs = record { go = λ s at. by s (first s) (performs.go s at) }
    where
      by : (s : State) (r : Ran A) → LeadsTo goes next s r → LeadsTo goes point s r
      by s (went a t) so =
          (so.0, λ outcome end_ comes. goes_onward point next s s end_ outcome (is s) (so.1 outcome end_ comes))
      by s (over outcome end_) so = goes_onward point next s s end_ outcome (is s) so

  -- an equal step
  pub same_to : {A : Type 0} → {first other : Step A} → {point : Point} → {goes : Goes A}
      → ((s : State) → IsAt program variables bound s → other s ≡ first s) → PerformsTo first point goes → PerformsTo other point goes
  same_to {point = point} {goes = goes} same performs = record { go = λ s at. subst (LeadsTo goes point s) (sym (same s at)) (performs.go s at) }

  -- other ways to go on, which lead there
  pub weakened : {A : Type 0} → {first : Step A} → {point : Point} → {goes ends : Goes A}
      → ((a : A) (t : State) (outcome : Outcome) (end_ : State) → ends a t outcome end_ → goes a t outcome end_) → PerformsTo first point goes
      → PerformsTo first point ends
  weakened {A = A} {first = first} {point = point} {goes = goes} {ends = ends} leads performs = record { go = λ s at. by s (first s) (performs.go s at) }
    where
      by : (s : State) (r : Ran A) → LeadsTo goes point s r → LeadsTo ends point s r
      by s (went a t) is = (is.0, λ outcome end_ comes. is.1 outcome end_ (leads a t outcome end_ comes))
      by s (over outcome end_) is = is

  -- a step that does nothing, where its way leads on already
  pub gives_to : {A : Type 0} → {goes : Goes A} → (a : A) (point : Point)
      → ((s : State) (outcome : Outcome) (end_ : State) → goes a s outcome end_ → Comes program point s outcome end_)
      → PerformsTo (give a) point goes
  gives_to a point leads = record { go = λ s at. (at, λ outcome end_ comes. leads s outcome end_ comes) }

  -- ---- single operations

  -- Mark, and Jump, from one operation to another
  pub mark_steps : (at piece : ℕ) (pos_ : Pos) → slice_get code.ops at ≡ Some (placed_at piece pos_ op.Mark 0) → (s : State)
      → stepped program (bare_point at) s ≡ went (bare_point (suc at)) s
  mark_steps at piece pos_ there s = ap (λ found. stepped_at program (bare_point at) found s) there

  pub jump_steps : (at piece target : ℕ) (pos_ : Pos) → slice_get code.ops at ≡ Some (placed_at piece pos_ (op.Jump target) 0) → (s : State)
      → stepped program (bare_point at) s ≡ went (bare_point target) s
  jump_steps at piece target pos_ there s = ap (λ found. stepped_at program (bare_point at) found s) there

  -- an operation that goes on there
  pub comes_by : (point next : Point) → ((s : State) → stepped program point s ≡ went next s) → (s after : State) (outcome : Outcome)
      → Comes program next s outcome after → Comes program point s outcome after
  comes_by point next is s after outcome comes = goes_onward point next s s after outcome (is s) comes

  -- Return, with the value on the stack
  pub returns_to : (targets : Targets) (at end_ piece depth : ℕ) (pos_ : Pos) (value : Value)
      → slice_get code.ops at ≡ Some (placed_at piece pos_ op.Return depth)
      → PerformsTo (give (returned value pos_)) (at_point program variables bound code waiting choices at (value ∷ [])) (goes_by targets end_)
  returns_to targets at end_ piece depth pos_ value there =
      gives_to (returned value pos_) (at_point program variables bound code waiting choices at (value ∷ []))
      (λ s outcome after comes. comes_stepped program (at_point program variables bound code waiting choices at (value ∷ [])) s
      (returned_to program pos_ (bare_point 0) value waiting s)
      (ap (λ found. stepped_at program (at_point program variables bound code waiting choices at (value ∷ [])) found s) there ∙ whatever s waiting)
      outcome after comes)
    where
      whatever : (s : State) (all : List Waiting)
          → returned_to program pos_ (at_point program variables bound code waiting choices at (value ∷ [])) value all s
          ≡ returned_to program pos_ (bare_point 0) value all s
      whatever s [] = refl
      whatever s (caller ∷ rest) = refl

  -- ---- statements one after the other

  -- the next statement begins where the first one goes on
  pub next_statement : {first next : Step Flow} → {point : Point} → (targets : Targets) (mid end_ : ℕ) → PerformsTo first point (goes_by targets mid)
      → PerformsTo next (bare_point mid) (goes_by targets end_) → PerformsTo (first >>= meaning.after next) point (goes_by targets end_)
  next_statement {next = next} {point = point} targets mid end_ before rest = follows_to (meaning.after next) before by
    where
      carried : (s t : State) → ((outcome : Outcome) (last : State) → Comes program (bare_point mid) t outcome last → Comes program point s outcome last)
          → (r : Ran Flow) → LeadsTo (goes_by targets end_) (bare_point mid) t r → LeadsTo (goes_by targets end_) point s r
      carried s t leads (went flow u) is = (is.0, λ outcome last comes. leads outcome last (is.1 outcome last comes))
      carried s t leads (over outcome last) is = leads outcome last is

      by : (flow : Flow) (s t : State) → IsAt program variables bound t
          → ((outcome : Outcome) (last : State) → goes_by targets mid flow t outcome last → Comes program point s outcome last)
          → LeadsTo (goes_by targets end_) point s (meaning.after next flow t)
      by onward s t at leads = carried s t leads (next t) (rest.go t at)
      by breaks s t at leads = (at, leads)
      by continues s t at leads = (at, leads)
      by (returned value pos_) s t at leads = (at, leads)
