use Rattle.std.proofs.Common.{rules, ◌≡◌, nat_eq, false, Ok}
use Rattle.std.specs.List.{list_any}
use Rattle.indexmap.specs.IndexSet.{insert_key}
use Rattle.hs_operand_types.specs.Constants.{constant_value}
use Rattle.hs_branches.specs.Branches.{valued, case_bits}
use Rattle.hs_syntax.specs.Views.{view}
use Rattle.hs_tree.specs.Views.{view_right}
use Rattle.hs_branches.proofs.NewCases.{new_case-new}
use Rattle.hs_branches.proofs.labels.case_of.Goals as goal

-- the value, its bits, and the constants with one more
pub returns : goal.returns
returns c =
    let typed : valued (view c.args.e.now) c.args.m.now ≡ Ok (view_right c.in_ok-value.value.value, c.valued.new.m) = search rules in
    let bits : case_bits c.args.at c.args.kind (constant_value c.valued.new.m.typer.types (view_right c.in_ok-value.value.value))
    ≡ Ok c.in_ok-bits.bits = search rules in
    let none : list_any (nat_eq c.in_ok-bits.bits) c.args.cases.values ≡ false = search rules in
    let values : c.in_ok-values.values ≡ insert_key nat_eq c.args.cases.values c.in_ok-bits.bits = search rules in
    rw (typed, bits) (new_case-new c.args.at c.args.cases c.in_ok-bits.bits c.in_ok-values.values c.valued.new.m none values)
