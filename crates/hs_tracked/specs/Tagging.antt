-- Code of which no two functions have the same: an operation more at the end of each function, to which control never comes, says its number (own).
--     tagged fn code, all_tagged          the code of a function, and of all functions from one on
--     with_tag fn function                a function with that code
--     tags_are_code                       it is code of the program too
--     tagged_there                        the functions are where they were
--     same_number                         functions with the same code have the same number
-- Two functions of a program may have one code, and what is known of the kinds of values names a function by its code alone. Over code with tags it is the
-- function of the call.
use Rattle.std.proofs.Common.{◌≡◌, ◌≤◌, ◌<◌, ◌⊎◌, inl, inr, ℕ, zero, suc, ◌+◌, List, [], ◌∷◌, ◌++◌, length, slice_get, Some, sym, ap, ◌∙◌, subst, arith}
use Rattle.std.proofs.lemmas.Option.{none-some, same_Some}
use Rattle.hs_base.specs.Entries.{entry_stays, last_either}
use Rattle.hs_code.specs.Codes.{AreCodesOf, IsCodeOf, IsInRange, scope_of}
use Rattle.hs_code.specs.Following.{IsNextOf}
use Rattle.hs_code.specs.Stacks.{HasOperands, IsStacked, Kind, Reaches, Scope, begins, goes, kinds_after_at}
use Rattle.hs_code.specs.declared.function_code.FunctionCode.{FunctionCode}
use Rattle.hs_code.specs.declared.function_code.Placed.{Placed}
use Rattle.hs_code.specs.declared.op.Object.TheVariants as object
use Rattle.hs_code.specs.declared.op.Op.TheVariants as op
use Rattle.hs_code.specs.declared.op.Op.{Op}
use Rattle.hs_code_run.specs.Codes.{CodeFunction, function_with, functions_with}
use Rattle.hs_tree.specs.Trees.{TypedFunction, TypedProgram}
use Rattle.hs_tree.specs.declared.class.Class.{Class}

-- ---- tags

-- an operation that says a number
abbrev pub tag_of : ℕ → Placed
tag_of fn = record { op = op.Call fn; at = record { file = 0; line = 0; col = 0 }; piece = 0; places = 0 }

-- the code of the function of that number
abbrev pub tagged : ℕ → FunctionCode → FunctionCode
tagged fn code = record { ops = code.ops ++ tag_of fn ∷ []; cases = code.cases }

-- of the functions from that number on
abbrev pub all_tagged : ℕ → List FunctionCode → List FunctionCode
all_tagged fn [] = []
all_tagged fn (code ∷ its) = tagged fn code ∷ all_tagged (suc fn) its

-- the function with that code
abbrev pub with_tag : ℕ → CodeFunction → CodeFunction
with_tag fn function = record function { code = tagged fn function.code }

-- an operation is where it was
pub tagged_at : (fn : ℕ) (code : FunctionCode) (at : ℕ) (its : Placed) → slice_get code.ops at ≡ Some its → slice_get (tagged fn code).ops at ≡ Some its
tagged_at fn code at its there = entry_stays code.ops (tag_of fn ∷ []) at its there

-- ---- the code is code of the program

module _ (scope : Scope) (fn : ℕ) (code : FunctionCode) (stacked : IsStacked scope code) where
  -- control goes as it did
  untagged : (at : ℕ) (kinds : List Kind) → Reaches scope (tagged fn code) at kinds → Reaches scope code at kinds
  untagged _ _ begins = begins
  untagged _ _ (goes at next kinds after from is follows) = from_there (untagged at kinds from)
    where
      from_there : Reaches scope code at kinds → Reaches scope code next after
      from_there before =
          goes at next kinds after before (subst (λ o. kinds_after_at scope o kinds ≡ Some after) same_there is)
          (subst (λ o. IsNextOf o code.cases at next) same_there follows)
        where
          has : HasOperands scope code at kinds
          has = stacked at kinds before

          same_there : slice_get (tagged fn code).ops at ≡ slice_get code.ops at
          same_there = tagged_at fn code at has.its has.there ∙ sym has.there

  tagged_stacked : IsStacked scope (tagged fn code)
  tagged_stacked at kinds reached = on (stacked at kinds (untagged at kinds reached))
    where
      on : HasOperands scope code at kinds → HasOperands scope (tagged fn code) at kinds
      on has =
          record {
            its = has.its;
            there = tagged_at fn code at has.its has.there;
            noted = has.noted;
            after = has.after;
            operands = has.operands;
          }

longer : {A : Type 0} → (xs : List A) (x : A) (k : ℕ) → k < length xs → k < length (xs ++ x ∷ [])
longer [] x k less = absurd (omega (less, arith))
longer (y ∷ xs) x zero less = omega arith
longer (y ∷ xs) x (suc k) less = up k (length (xs ++ x ∷ [])) (longer xs x k (down k (length xs) less))
  where
    up : (a b : ℕ) → a < b → suc a < suc b
    up a b is = omega (is, arith)

    down : (a b : ℕ) → suc a < suc b → a < b
    down a b is = omega (is, arith)

module _ (program : TypedProgram) (classes : List Class) where
  in_range : (fn : ℕ) (function : TypedFunction) (code : FunctionCode) (o : Op) → IsInRange program classes function code o
      → IsInRange program classes function (tagged fn code) o
  in_range fn function code (op.Address (object.Variable x)) is = is
  in_range fn function code (op.Address (object.Literal place)) is = is
  in_range fn function code (op.Get x) is = is
  in_range fn function code (op.Set x) is = is
  in_range fn function code (op.Load its) is = is
  in_range fn function code (op.Store its) is = is
  in_range fn function code (op.Jump target) is = longer code.ops (tag_of fn) target is
  in_range fn function code (op.Zero target) is = longer code.ops (tag_of fn) target is
  in_range fn function code (op.Pick target) is = longer code.ops (tag_of fn) target is
  in_range fn function code (op.Choose goal) is = (longer code.ops (tag_of fn) goal.default is.0, is.1, is.2)
  in_range fn function code (op.Shift place) is = is
  in_range fn function code (op.Routine place) is = is
  in_range fn function code (op.Call place) is = is
  in_range fn function code o is = tt

  one_is_code : (fn : ℕ) (function : TypedFunction) (code : FunctionCode) → fn < length program.functions → IsCodeOf program classes function code
      → IsCodeOf program classes function (tagged fn code)
  one_is_code fn function code low is =
      record {
        ranges = λ at its there. by_either at its (last_either code.ops (tag_of fn) at its there);
        cases = λ place its there. longer code.ops (tag_of fn) its.target (is.cases place its there);
        stacked = tagged_stacked (scope_of program function) fn code is.stacked;
      }
    where
      by_either : (at : ℕ) (its : Placed) → (slice_get code.ops at ≡ Some its) ⊎ (tag_of fn ≡ its)
          → IsInRange program classes function (tagged fn code) its.op
      by_either at its (inl old) = in_range fn function code its.op (is.ranges at its old)
      by_either at its (inr new) = subst (λ (o : Placed). IsInRange program classes function (tagged fn code) o.op) new low

  pub tags_are_code : (fn : ℕ) (functions : List TypedFunction) (its : List FunctionCode) → fn + length functions ≤ length program.functions
      → AreCodesOf program classes functions its → AreCodesOf program classes functions (all_tagged fn its)
  tags_are_code fn [] [] low are = tt
  tags_are_code fn [] (code ∷ its) low are = absurd are
  tags_are_code fn (function ∷ functions) [] low are = absurd are
  tags_are_code fn (function ∷ functions) (code ∷ its) low are = (
    one_is_code fn function code (first fn (length functions) (length program.functions) low) are.0,
    tags_are_code (suc fn) functions its (rest fn (length functions) (length program.functions) low) are.1,
  )
    where
      first : (a b c : ℕ) → a + suc b ≤ c → a < c
      first a b c is = omega (is, arith)

      rest : (a b c : ℕ) → a + suc b ≤ c → suc a + b ≤ c
      rest a b c is = omega (is, arith)

-- ---- functions

pub tagged_there : (fn : ℕ) (functions : List TypedFunction) (its : List FunctionCode) (k : ℕ) (function : CodeFunction)
    → slice_get (functions_with functions its) k ≡ Some function
    → slice_get (functions_with functions (all_tagged fn its)) k ≡ Some (with_tag (fn + k) function)
tagged_there fn [] its k function is = absurd (none-some function is)
tagged_there fn (one ∷ functions) [] k function is = absurd (none-some function is)
tagged_there fn (one ∷ functions) (code ∷ its) zero function is =
    ap (λ n. Some (with_tag n (function_with one code))) (at_first fn) ∙ ap (λ f. Some (with_tag (fn + 0) f)) (same_Some (function_with one code) function is)
  where
    at_first : (n : ℕ) → n ≡ n + 0
    at_first n = omega arith
tagged_there fn (one ∷ functions) (code ∷ its) (suc k) function is =
    tagged_there (suc fn) functions its k function is ∙ ap (λ n. Some (with_tag n function)) (one_on fn k)
  where
    one_on : (n i : ℕ) → suc n + i ≡ n + suc i
    one_on n i = omega arith

-- the code of a function ends with its tag
pub tag_there : (fn : ℕ) (functions : List TypedFunction) (its : List FunctionCode) (k : ℕ) (function : CodeFunction)
    → slice_get (functions_with functions (all_tagged fn its)) k ≡ Some function
    → (ops : List Placed) × (function.code.ops ≡ ops ++ tag_of (fn + k) ∷ [])
tag_there fn [] its k function is = absurd (none-some function is)
tag_there fn (one ∷ functions) [] k function is = absurd (none-some function is)
tag_there fn (one ∷ functions) (code ∷ its) zero function is = (
  code.ops,
  ap (λ (f : CodeFunction). f.code.ops) (sym (same_Some (function_with one (tagged fn code)) function is))
      ∙ ap (λ n. code.ops ++ tag_of n ∷ []) (at_first fn),
)
  where
    at_first : (n : ℕ) → n ≡ n + 0
    at_first n = omega arith
tag_there fn (one ∷ functions) (code ∷ its) (suc k) function is = on (tag_there (suc fn) functions its k function is)
  where
    one_on : (n i : ℕ) → suc n + i ≡ n + suc i
    one_on n i = omega arith

    on : (ops : List Placed) × (function.code.ops ≡ ops ++ tag_of (suc fn + k) ∷ [])
        → (ops : List Placed) × (function.code.ops ≡ ops ++ tag_of (fn + suc k) ∷ [])
    on found = (found.0, found.1 ∙ ap (λ n. found.0 ++ tag_of n ∷ []) (one_on fn k))

-- ---- numbers

last_same : (xs ys : List Placed) (x y : Placed) → xs ++ x ∷ [] ≡ ys ++ y ∷ [] → x ≡ y
last_same [] [] x y is = cc
last_same [] (b ∷ []) x y is = absurd cc
last_same [] (b ∷ c ∷ ys) x y is = absurd cc
last_same (a ∷ []) [] x y is = absurd cc
last_same (a ∷ c ∷ xs) [] x y is = absurd cc
last_same (a ∷ xs) (b ∷ ys) x y is = last_same xs ys x y (rest is)
  where
    rest : a ∷ (xs ++ x ∷ []) ≡ b ∷ (ys ++ y ∷ []) → xs ++ x ∷ [] ≡ ys ++ y ∷ []
    rest so = cc

pub same_number : (xs ys : List Placed) (f g : ℕ) → xs ++ tag_of f ∷ [] ≡ ys ++ tag_of g ∷ [] → f ≡ g
same_number xs ys f g is = number_of (ap (λ (o : Placed). o.op) (last_same xs ys (tag_of f) (tag_of g) is))
  where
    number_of : op.Call f ≡ op.Call g → f ≡ g
    number_of so = cc
