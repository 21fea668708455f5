use Rattle.std.proofs.Common.{rules, ◌≡◌, ◌∙◌, sym, ap, subst, map}
use mathlib.Core.Logic.{∥∥₁_map}
use Rattle.hs_code.specs.Codes.{IsCode, view_program}
use Rattle.hs_lowering.specs.Laws.Stacking.{code_whole}
use Rattle.hs_lowering.specs.Statements.{functions_code, codes_of}
use Rattle.hs_meaning.specs.Classes.{classes_of}
use Rattle.hs_tree.specs.Views.{view_function}
use Rattle.hs_lower.specs.Places.{setting_with}
use Rattle.hs_lower.proofs.Wholes.{codes_are}
use Rattle.hs_lower.proofs.program.lowered.Goals as goal

-- the functions have too many operations
pub returns-in_err-functions-clause-code : goal.returns-in_err-functions-clause-code
returns-in_err-functions-clause-code c =
    let codes : functions_code (setting_with c.args.program.now c.in_ok-classes.classes) (map view_function c.deref.result.now)
    ≡ codes_of (view_program c.args.program.now) =
    ap (λ its. functions_code (setting_with c.args.program.now c.in_ok-classes.classes) (map view_function its)) c.deref.ensures.value
    ∙ codes_are c.args.program.now c.in_ok-classes.classes c.in_ok-classes.ensures in
    rw (← codes) (search rules)

-- what is put together is the code of the program
pub assembled-requires : goal.assembled-requires
assembled-requires c =
    let classes : c.in_ok-to_vec.field-0.items ≡ classes_of (view_program c.args.program.now) = c.in_ok-to_vec.ensures ∙ c.in_ok-classes.ensures in
    let codes : c.in_ok-functions.functions.items ≡ codes_of (view_program c.args.program.now) =
    c.in_ok-functions.ensures.code
    ∙ ap (λ its. functions_code (setting_with c.args.program.now c.in_ok-classes.classes) (map view_function its)) c.deref.ensures.value
    ∙ codes_are c.args.program.now c.in_ok-classes.classes c.in_ok-classes.ensures in
    record {
      whole =
          ∥∥₁_map c.args.program.now.fits
          (λ fits. subst (λ list. IsCode (view_program c.args.program.now) list c.in_ok-functions.functions.items) (sym classes)
          (subst (λ list. IsCode (view_program c.args.program.now) (classes_of (view_program c.args.program.now)) list) (sym codes)
          (code_whole (view_program c.args.program.now) c.is_right.ensures fits)));
    }

-- and the answer
pub returns-clause-code : goal.returns-clause-code
returns-clause-code c =
    c.assembled.ensures.functions ∙ c.in_ok-functions.ensures.code
    ∙ ap (λ its. functions_code (setting_with c.args.program.now c.in_ok-classes.classes) (map view_function its)) c.deref.ensures.value
    ∙ codes_are c.args.program.now c.in_ok-classes.classes c.in_ok-classes.ensures
