-- Every operator makes something well typed of well-typed operands: one lemma for each of them. So are the arguments of a call.
use Rattle.hs_operands.specs.Laws.{AreTypedAnywhere}
use Rattle.hs_operands.specs.Laws.AssignedTyped.{assigned-typed, assign-typed, update-typed, post_update-typed, cast-typed}
use Rattle.hs_operands.specs.Laws.BranchesTyped.{conditional-typed, comma-typed}
pub use Rattle.hs_operands.specs.Laws.CallsTyped.{IsArgument, AreArguments, all_with_one, arguments_typed, arguments_readable, one-typed, called-typed}
use Rattle.hs_operands.specs.Laws.Conditions.{not-typed, and-typed, or-typed}
use Rattle.hs_operands.specs.Laws.Numbers.{unary-typed, arithmetic-typed}
use Rattle.hs_operands.specs.Laws.ObjectsTyped.{size-typed, target-typed, element-typed, member-typed, arrow-typed, loaded-typed, address-typed}
use Rattle.hs_operands.specs.Laws.PointersTyped.{plus-typed, minus-typed, compared-typed}

pub operators_typed : AreTypedAnywhere
operators_typed program function types sound grows =
    record {
      unary = unary-typed program function types sound grows;
      arithmetic = arithmetic-typed program function types sound grows;
      plus = plus-typed program function types sound grows;
      minus = minus-typed program function types sound grows;
      comparison = compared-typed program function types sound grows;
      not = not-typed program function types sound grows;
      and = and-typed program function types sound grows;
      or = or-typed program function types sound grows;
      size = size-typed program function types sound grows;
      target = target-typed program function types sound grows;
      element = element-typed program function types sound grows;
      member = member-typed program function types sound grows;
      arrow = arrow-typed program function types sound grows;
      assigned = assigned-typed program function types sound grows;
      assign = assign-typed program function types sound grows;
      update = update-typed program function types sound grows;
      post_update = post_update-typed program function types sound grows;
      cast = cast-typed program function types sound grows;
      conditional = conditional-typed program function types sound grows;
      comma = comma-typed program function;
      loaded = loaded-typed program function types sound grows;
      address = address-typed program function types sound grows;
    }
