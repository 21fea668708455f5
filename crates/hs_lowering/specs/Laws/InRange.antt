-- The code of a typed program is in range (own).
--     IsRanged program function     what each operation of the code of the function names is there, and where it and its cases go too
--     code_ranged                   the law
use Rattle.std.proofs.Common.{◌≡◌, ◌≤◌, ◌<◌, ℕ, suc, List, [], ◌∷◌, length, slice_get, Some, sym, ap, ◌∙◌, subst, arith, append-nil}
use Rattle.std.specs.List.{AllByRecursion}
use Rattle.hs_base.specs.Entries.{all_at, all_appended}
use Rattle.hs_code.specs.Codes.{IsInRange}
use Rattle.hs_code.specs.declared.function_code.Case.{Case}
use Rattle.hs_code.specs.declared.function_code.FunctionCode.{FunctionCode}
use Rattle.hs_code.specs.declared.function_code.Placed.{Placed}
use Rattle.hs_code.specs.declared.op.Object.TheVariants as object
use Rattle.hs_code.specs.declared.op.Op.{Op}
use Rattle.hs_code.specs.declared.op.Op.TheVariants as op
use Rattle.hs_lowering.specs.Laws.Functions.{FunctionNames, code_names}
use Rattle.hs_lowering.specs.Laws.Jobs.{code_of}
use Rattle.hs_lowering.specs.Laws.Jumps.{Within, after_from}
use Rattle.hs_lowering.specs.Laws.Lengths.{same_block, cases_of_a_block}
use Rattle.hs_lowering.specs.Laws.Placing.{past_length, length_given}
use Rattle.hs_lowering.specs.Laws.Ranges.{IsThere, class_range, class_range_too}
use Rattle.hs_lowering.specs.Laws.Targets.{GoesIn, AllGo, all_within, missing_within, block_goes}
use Rattle.hs_lowering.specs.Lowering.{Lowered, after}
use Rattle.hs_lowering.specs.Performing.{after_append, after_length}
use Rattle.hs_lowering.specs.Statements as code
use Rattle.hs_lowering.specs.Statements.{Written, nowhere, body_counts, end_at, after_block, block_code, function_code}
use Rattle.hs_meaning.specs.Classes.{classes_of}
use Rattle.hs_meaning.specs.Settings.{Setting, setting_of}
use Rattle.hs_meaning.specs.Statements.{closing_of}
use Rattle.hs_tree.specs.Fitting.{Fits}
use Rattle.hs_tree.specs.Kinds.{is_pointer, is_struct_row}
use Rattle.hs_tree.specs.Trees.{TypedFunction, TypedProgram}
use Rattle.hs_tree.specs.declared.class.Class.{Class}
use Rattle.hs_types.specs.TypeTables.{row_of}

-- ---- the code of a function goes to itself

module _ (setting : Setting) (function : TypedFunction) where
  -- all that is written
  abbrev whole : Written
  whole = function_code setting function

  -- where its body ends
  abbrev end_ : ℕ
  end_ = after 0 (block_code setting function function.body body_counts nowhere 0).ops

  -- its body
  abbrev body : Written
  body = block_code setting function function.body body_counts (end_at end_) 0

  -- and what is returned there
  abbrev value : Lowered
  value =
      code.missing_code setting function 1 (closing_of function.body) (is_pointer setting.types function.result)
      (is_struct_row (row_of setting.types function.result))

  -- the operation after the body
  abbrev mid : ℕ
  mid = after 0 body.ops

  body_ends : mid ≡ end_
  body_ends = ((same_block setting function function.body body_counts (end_at end_) nowhere).at 0).0

  long : length whole.ops ≡ suc (after mid (value mid 0))
  long =
      sym (after_length 0 whole.ops ∙ omega arith) ∙ after_append 0 body.ops (code.return_code setting function 1 (closing_of function.body) mid).ops
      ∙ length_given 1 (closing_of function.body) value op.Return mid

  few : (after_block function.body body_counts).cases ≤ length whole.cases
  few =
      omega (arith, cases_of_a_block setting function function.body body_counts (end_at end_) 0, past_length 0 body.cases, ap length (append-nil body.cases))

  mid_less : mid < length whole.ops
  mid_less = omega (arith, long, after_from mid (value mid 0))

  value_less : after mid (value mid 0) < length whole.ops
  value_less = omega (arith, long)

  pub function_goes : AllGo (length whole.ops) (length whole.cases) whole
  function_goes =
      record {
        ops =
            all_appended (λ one. GoesIn last cases one.op) body.ops _ inner.ops
            (all_appended (λ one. GoesIn last cases one.op) (value mid 0) _
            (all_within last cases mid (after mid (value mid 0)) (value mid 0) (within.at mid 0) value_less) (tt, tt));
        targets = all_appended (λ it. it.target < last) body.cases [] inner.targets tt;
        labels = all_appended (λ it. it.1 < last) body.labels [] inner.labels tt;
      }
    where
      last : ℕ
      last = length whole.ops

      cases : ℕ
      cases = length whole.cases

      within : Within value
      within =
          missing_within last cases setting function 1 (closing_of function.body) (is_pointer setting.types function.result)
          (is_struct_row (row_of setting.types function.result))

      end_less : end_ < length whole.ops
      end_less = subst (λ n. n < length whole.ops) body_ends mid_less

      inner : AllGo last cases body
      inner = (block_goes last cases setting function function.body body_counts (end_at end_) 0 few end_less end_less).go mid_less

-- ---- in range

module _ (program : TypedProgram) (classes : List Class) (function : TypedFunction) (its : FunctionCode) where
  ranged : (one : Op) → IsThere program classes function one → GoesIn (length its.ops) (length its.cases) one → IsInRange program classes function its one
  ranged (op.Address (object.Variable name)) is goes = is
  ranged (op.Address (object.Literal place)) is goes = is
  ranged (op.Get name) is goes = is
  ranged (op.Set name) is goes = is
  ranged (op.Load access) is goes = class_range program classes function its access is
  ranged (op.Store access) is goes = class_range_too program classes function its access is
  ranged (op.Shift place) is goes = is
  ranged (op.Routine place) is goes = is
  ranged (op.Call place) is goes = is
  ranged (op.Jump target) is goes = goes
  ranged (op.Zero target) is goes = goes
  ranged (op.Pick target) is goes = goes
  ranged (op.Choose goal) is goes = goes
  ranged one is goes = tt

-- ---- the program

module _ (program : TypedProgram) where
  -- in range
  pub record IsRanged (function : TypedFunction) : Type 0 where
    pub ranges : (at : ℕ) (its : Placed) → slice_get (code_of program function).ops at ≡ Some its
        → IsInRange program (classes_of program) function (code_of program function) its.op
    pub cases : (place : ℕ) (its : Case) → slice_get (code_of program function).cases place ≡ Some its → its.target < length (code_of program function).ops

  function_ranged : (function : TypedFunction) → FunctionNames program function → IsRanged function
  function_ranged function names =
      record {
        ranges = λ at its there.
            ranged program (classes_of program) function (code_of program function) its.op
            (all_at (λ one. IsThere program (classes_of program) function one.op) (code_of program function).ops at its names there)
            (all_at (λ one. GoesIn (length (code_of program function).ops) (length (code_of program function).cases) one.op)
            (code_of program function).ops at its
            (function_goes (setting_of program) function).ops there);
        cases = λ place its there.
            all_at (λ it. it.target < length (code_of program function).ops) (code_of program function).cases place its
            (function_goes (setting_of program) function).targets there;
      }

  functions_ranged : (its : List TypedFunction) → AllByRecursion (FunctionNames program) its → AllByRecursion IsRanged its
  functions_ranged [] names = tt
  functions_ranged (function ∷ rest) names = (function_ranged function names.0, functions_ranged rest names.1)

  -- by what the program keeps
  pub code_ranged : Fits program → AllByRecursion IsRanged program.functions
  code_ranged fits = functions_ranged program.functions (code_names program fits)
