use Rattle.std.proofs.Common.{◌∙◌}
use Rattle.std.specs.Str.{bytes_eq}
use Rattle.hs_macros.proofs.Pairs.{pointwise-zip-map}
use Rattle.hs_macros.proofs.definition.are_same_names.Goals as goal

-- of one length, and each pair is the same
pub returns-then-old-new : goal.returns-then-old-new
returns-then-old-new c =
    c.agree_in_names.ensures
    ∙ pointwise-zip-map bytes_eq (λ parameter. parameter.name) (λ name. name.now) c.args.old.now c.args.new.now c.if-old-new.true
