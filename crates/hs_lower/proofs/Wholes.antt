-- The code of a function in the steps that the code takes, and that of a program.
--     written_is, written_past     what an answer says of the code of a function
--     setting_same, codes_are      with the classes of the program it is the setting of the program, and the code its code
use Rattle.std.proofs.Common.{◌≡◌, ◌≤◌, ◌<◌, ℕ, true, false, List, [], ◌++◌, map, length, Some, None, refl, arith, sym, ◌∙◌, ap, ◌⊎◌, inl, inr, append-nil}
use Rattle.std.specs.Prelude.{Err}
use Rattle.std.proofs.Math.Dec.{leb}
use Rattle.std.proofs.lemmas.Bool.Decides.{leb_tells}
use Rattle.hs_base.specs.declared.pos.Pos.{Pos}
use Rattle.hs_classes.specs.Blocks.{block_out}
use Rattle.hs_code.specs.Codes.{view_program}
use Rattle.hs_code.specs.declared.function_code.Placed.{Placed}
use Rattle.hs_code.specs.declared.op.Op.TheVariants as op
use Rattle.hs_lower_expressions.specs.Emits.{most_ops}
use Rattle.hs_lower_expressions.specs.EmittingLaws.{after_ops}
use Rattle.hs_lower_expressions.specs.declared.emit_end.EmitEnd.{EmitEnd}
use Rattle.hs_lower_expressions.specs.declared.emit_end.EmitEnd.TheVariants.{Limit, NoMemory}
use Rattle.hs_lowering.specs.Laws.Lengths.{same_block}
use Rattle.hs_lowering.specs.Laws.Targets.{missing_within}
use Rattle.hs_lowering.specs.Lowering.{Lowered, after}
use Rattle.hs_lowering.specs.Statements.{Part, ◌then◌, nowhere, body_counts, end_at, after_block, missing_code, return_code, block_code, function_code, functions_code, codes_of}
use Rattle.hs_meaning.specs.Classes.{classes_of}
use Rattle.hs_meaning.specs.Settings.{Setting, setting_of}
use Rattle.hs_meaning.specs.Statements.{closing_of}
use Rattle.hs_tree.specs.Kinds.{is_pointer, is_struct_row}
use Rattle.hs_tree.specs.Trees.{TypedFunction}
use Rattle.hs_tree.specs.Views.{view_block, view_function}
use Rattle.hs_tree.specs.declared.class.Class.{Class}
use Rattle.hs_tree.specs.declared.program.Program.{Program}
use Rattle.hs_tree.specs.declared.statement.Block.{Block, out-Block}
use Rattle.hs_types.specs.TypeTables.{row_of}
use Rattle.hs_lower.specs.Aiming.{AimsAt, then_aims, given_aims, block_aims}
use Rattle.hs_lower.specs.Places.{setting_with}
use Rattle.hs_lower.specs.Writing.{fitting, ◌>>=◌, with_ops, with_part, with_pieces, unknown, aimed_text, block_steps, return_steps, empty_text, Written, Ends, function_steps}
use Rattle.hs_lower.specs.declared.text.Text.{Text}
use Rattle.hs_lower.proofs.Chains.{passes, ends_if, fits, fit_is, longer, same_ops, aimed_part, aimed_length}

module _ (setting : Setting) (function : TypedFunction) where
  abbrev at : Pos
  at = closing_of function.body

  abbrev part : Part
  part = block_code setting function function.body body_counts unknown

  abbrev value : Lowered
  value = missing_code setting function 1 at (is_pointer setting.types function.result) (is_struct_row (row_of setting.types function.result))

  abbrev back : ℕ → List Placed
  back n = (return_code setting function 1 at n).ops

  abbrev middle : Text
  middle = with_part part (with_pieces (after_block function.body body_counts).pieces empty_text)

  goes : block_steps setting function function.body empty_text ≡ fitting middle
  unfolding block_steps
  goes = refl

  abbrev last : Text
  last = with_ops back middle

  -- the operation after the body
  abbrev end_ : ℕ
  end_ = after 0 (block_code setting function function.body body_counts nowhere 0).ops

  abbrev unaimed : Part
  unaimed = part then return_code setting function 1 at

  abbrev its : Part
  its = block_code setting function function.body body_counts (end_at end_) then return_code setting function 1 at

  aims : AimsAt (end_at end_) unaimed its 0
  aims =
      then_aims (end_at end_) (block_aims (end_at end_) setting function function.body body_counts unknown 0)
      (given_aims (end_at end_) 1 at value op.Return op.Return _
      (missing_within 0 0 setting function 1 at (is_pointer setting.types function.result) (is_struct_row (row_of setting.types function.result))) refl)

  written : last.ops ≡ (unaimed 0).ops
  written = ap (λ n. (part 0).ops ++ back n) (sym (after_ops [] (part 0).ops))

  ends : length middle.ops ≡ end_
  ends = sym (after_ops [] (part 0).ops) ∙ ((same_block setting function function.body body_counts unknown nowhere).at 0).0

  -- the whole code
  abbrev pub whole : Text
  whole =
      record {
        ops = (function_code setting function).ops;
        cases = (function_code setting function).cases;
        pieces = (after_block function.body body_counts).pieces;
      }

  same : length last.ops ≤ most_ops → aimed_text (length middle.ops) (length middle.ops) 0 last ≡ whole
  same few =
      ap (λ n. aimed_text n n 0 last) ends
      ∙ same_ops _ _ last.cases (after_block function.body body_counts).pieces (aimed_part (end_at end_) unaimed its [] last.ops aims written few)
      ∙ ap (λ list. record { ops = (its 0).ops; cases = list; pieces = (after_block function.body body_counts).pieces })
      (sym ((aims.aims (omega (arith, few, ap length written, after_ops [] (unaimed 0).ops))).1 ∙ append-nil (part 0).cases))

  written_steps : function_steps setting function ≡ fitting whole
  unfolding function_steps return_steps
  written_steps =
      ap (λ x. x >>= (λ body. return_steps setting function 1 at body >>= (λ text'. Some (aimed_text (length body.ops) (length body.ops) 0 text')))) goes
      ∙ passes middle (λ body. return_steps setting function 1 at body >>= (λ text'. Some (aimed_text (length body.ops) (length body.ops) 0 text'))) whole
      (omega (arith, long, longer back middle))
      (λ few. ends_if last (λ text'. aimed_text (length middle.ops) (length middle.ops) 0 text') whole same long)
    where
      long : length last.ops ≡ length whole.ops
      long = aimed_length (end_at end_) unaimed its [] last.ops aims written

  -- an answer with a text
  pub written_is : (text : Text) → function_steps setting function ≡ Some text
      → (text.ops ≡ (function_code setting function).ops) × (text.cases ≡ (function_code setting function).cases)
  written_is text is = let there : whole ≡ text = fit_is whole text (sym written_steps ∙ is) in (
    sym (ap (λ its. its.ops) there),
    sym (ap (λ its. its.cases) there),
  )

  -- and one without
  pub written_past : function_steps setting function ≡ None → most_ops < length (function_code setting function).ops
  written_past is = by (leb_tells (length whole.ops) most_ops)
    where
      by : ((leb (length whole.ops) most_ops ≡ true) × (length whole.ops ≤ most_ops))
          ⊎ ((leb (length whole.ops) most_ops ≡ false) × (most_ops < length whole.ops))
          → most_ops < length whole.ops
      by (inl few) = let none : None ≡ Some whole = sym is ∙ written_steps ∙ fits whole few.1 in absurd (cc)
      by (inr past) = past.1

-- and why
pub ended : {A : Type 0} → (setting : Setting) (function : TypedFunction) (fact : A → Type 0) (why : EmitEnd)
    → Written (function_steps setting function) (Err why) → Ends (Err why) fact (most_ops < length (function_code setting function).ops)
ended setting function fact Limit is = written_past setting function is
ended setting function fact NoMemory is = tt

-- the place of the end of a function
pub end_seen : (it : Block) → closing_of (view_block it) ≡ (out-Block it).closing.pos
end_seen it = ap closing_of (block_out it)

-- with the classes of the program
pub setting_same : (program : Program) (classes : List Class) → classes ≡ classes_of (view_program program)
    → setting_with program classes ≡ setting_of (view_program program)
unfolding setting_with
setting_same program classes same = ap (λ list. setting_with program list) same

pub codes_are : (program : Program) (classes : List Class) → classes ≡ classes_of (view_program program)
    → functions_code (setting_with program classes) (map view_function program.functions.items) ≡ codes_of (view_program program)
codes_are program classes same = ap (λ setting. functions_code setting (map view_function program.functions.items)) (setting_same program classes same)
