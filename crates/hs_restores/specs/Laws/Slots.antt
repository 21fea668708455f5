-- The slots that are listed are those that the function changes.
use Rattle.std.proofs.Common.{◌≡◌, ◌<◌, ℕ, zero, suc, ◌+◌, nat_lt, Bool, true, false, ◌&&◌, ap, ◌∙◌, refl, arith, List, [], ◌∷◌, length, get_or}
use Rattle.hs_code.specs.Stacks.{Scope}
use Rattle.hs_code.specs.declared.function_code.FunctionCode.{FunctionCode}
use Rattle.hs_fact_rows.specs.Laws.Numbers.{less_number, least_number, less_numbers}
use Rattle.hs_restores.specs.Laws.Numbering.{is_in, is_listed, less_next}
use Rattle.hs_restores.specs.Marks.{assigned_globals, is_changed, is_marked, listed, local_set_by, one_names}
use Rattle.hs_tree.specs.declared.globals.Global.{Global}
use Rattle.hs_tree.specs.declared.head.Variable.{Variable}
use Rattle.hs_tree.specs.declared.head.Variable.TheVariants as name

-- a mark is there if there are so many
marked_within : (marks : List Bool) (place : ℕ) → is_marked marks place ≡ (nat_lt place (length marks) && get_or marks place false)
marked_within [] place = rw (least_number place 0 (omega arith)) refl
marked_within (mark ∷ rest) zero = rw (less_number 0 (suc (length rest)) (omega arith)) refl
marked_within (mark ∷ rest) (suc place) = rw (less_next place (length rest)) (marked_within rest place)

-- a test that counts only where the other one is true
and_same : (a b c : Bool) → (a ≡ true → b ≡ c) → (a && b) ≡ (a && c)
and_same true b c same = same refl
and_same false b c same = refl

global_marked : (assigned : ℕ → Bool) (from : ℕ) (globals : List Global) (k : ℕ)
    → is_marked (assigned_globals assigned from globals) k ≡ (nat_lt k (length globals) && assigned (from + k))
global_marked assigned from [] k = rw (least_number k 0 (omega arith)) refl
global_marked assigned from (it ∷ rest) zero =
    rw (less_number 0 (suc (length rest)) (omega arith)) (ap assigned (let e : from ≡ from + 0 = omega arith in e))
global_marked assigned from (it ∷ rest) (suc k) =
    rw (less_next k (length rest))
    (global_marked assigned (suc from) rest k
    ∙ ap (λ n. nat_lt k (length rest) && assigned n) (let e : suc from + k ≡ from + suc k = omega arith in e))

module _ (scope : Scope) (code : FunctionCode) (assigned : ℕ → Bool) (locals : List Bool)
    (count : length locals ≡ length scope.variables)
    (marks : (p : ℕ) → p < length scope.variables → get_or locals p false ≡ one_names local_set_by code.ops p) where
  pub are_changed : (v : Variable) → is_in (listed locals (assigned_globals assigned 0 scope.globals)) v ≡ is_changed scope code assigned v
  are_changed (name.Local place) =
      is_listed locals (assigned_globals assigned 0 scope.globals) (name.Local place)
      ∙ marked_within locals place
      ∙ ap (λ n. nat_lt place n && get_or locals place false) count
      ∙ and_same (nat_lt place (length scope.variables)) (get_or locals place false) (one_names local_set_by code.ops place)
      (λ h. marks place (less_numbers place (length scope.variables) h))
  are_changed (name.Global place) =
      is_listed locals (assigned_globals assigned 0 scope.globals) (name.Global place)
      ∙ global_marked assigned 0 scope.globals place
      ∙ ap (λ n. nat_lt place (length scope.globals) && assigned n) (let e : 0 + place ≡ place = omega arith in e)
