-- The row goes on by one, ends, or breaks off: by the reader of one declaration.
use Rattle.std.proofs.Common.{◌≡◌, true, false, None, Some, [], sym, ◌∙◌}
use Rattle.std.specs.Prelude.{codes}
use Rattle.hs_tree.specs.Straight.Fine.{are_fine_names}
use Rattle.hs_checker.specs.Straight.Reading.{is_at, declaration_at}
use Rattle.hs_checker.specs.Straight.Rows.{declaration, begins_declaration}
use Rattle.hs_checker.proofs.Rows.{one_more, less, whole_row, broken_row}
use Rattle.hs_checker.proofs.Fine.{declaration_reader}
use Rattle.hs_checker.proofs.straight.declarations.declarations.Goals as goal
use Rattle.hs_checker.proofs.straight.declarations.declarations.Goals.{In-Some}

pub returns-in_default-clause-none : goal.returns-in_default-clause-none
returns-in_default-clause-none c =
    let here : is_at (codes "char") c.all.rest.now ≡ true = sym c.is_at.ensures ∙ c.all-test.true in
    let fails : declaration_at c.all.variables.items c.all.rest.now ≡ None = rw c.deref.ensures.value at c.in_default.ensures in
    broken_row declaration (are_fine_names []) begins_declaration declaration_at declaration_reader c.args.tokens.now c.all.variables.items
    c.all.rest.now c.all.invariant here fails

read : (c : In-Some) → declaration_at c.all.variables.items c.all.rest.now ≡ Some
    (record { kind = c.in-Some.kind; name = c.in-Some.name.now }, c.in-Some.after.now)
read c = rw c.deref.ensures.value at c.in-Some.ensures

pub all-smaller : goal.all-smaller
all-smaller c = less declaration (are_fine_names []) begins_declaration declaration_at declaration_reader c.args.tokens.now c.all.variables.items
    c.all.rest.now _ (read (goal.at.all-smaller c).In-Some)

pub all-preserved : goal.all-preserved
all-preserved c =
    let here : is_at (codes "char") c.all.rest.now ≡ true = sym c.is_at.ensures ∙ c.all-test.true in
    rw (c.in_ok-push.ensures.items, c.from_vec-name.ensures, c.in_ok-from_slice.ensures.items)
    (one_more declaration (are_fine_names []) begins_declaration declaration_at declaration_reader c.args.tokens.now c.all.variables.items
    c.all.rest.now _ c.all.invariant here (read (goal.at.all-preserved c).In-Some))

pub returns-clause-found : goal.returns-clause-found
returns-clause-found c =
    let past : is_at (codes "char") c.all.rest.now ≡ false = sym c.is_at.ensures ∙ c.all-test.false in
    whole_row declaration (are_fine_names []) begins_declaration declaration_at declaration_reader c.args.tokens.now c.all.variables.items
    c.all.rest.now c.all.invariant past
