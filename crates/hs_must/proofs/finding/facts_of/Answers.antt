use Rattle.std.proofs.Common.{length, option_map, sym, ◌∙◌, ap, arith}
use Rattle.std.proofs.lemmas.Option.{slice_get-map}
use Rattle.hs_effects.specs.Calling.{whole_of}
use Rattle.hs_must.proofs.Found.{named, none_empty}
use Rattle.hs_must.proofs.Rows.{none_found}
use Rattle.hs_tree.specs.Views.{view_function}
use Rattle.hs_must.proofs.finding.facts_of.Goals as goal

-- it has no name
pub returns-then-count-eq0 : goal.returns-then-count-eq0
returns-then-count-eq0 c =
    let all = named (whole_of c.args.code.now) c.args.number (view_function c.args.function.now) c.args.own.now
    (slice_get-map view_function c.args.code.now.program.now.functions.items c.args.number ∙ ap (option_map view_function) c.requires.of_function)
    c.requires.of_code in
    none_found (whole_of c.args.code.now) c.args.number c.args.own.now c.in_ok-nameless.field-0 c.requires.of_code
    (all ∙ sym c.in_ok-names.ensures ∙ none_empty c.in_ok-names.names (sym (ap length c.items-count.ensures) ∙ c.if-count-eq0.true))
    c.in_ok-nameless.ensures

-- it has some, and not too many
pub returns : goal.returns
returns c =
    let all = named (whole_of c.args.code.now) c.args.number (view_function c.args.function.now) c.args.own.now
    (slice_get-map view_function c.args.code.now.program.now.functions.items c.args.number ∙ ap (option_map view_function) c.requires.of_function)
    c.requires.of_code in
    let long = ap length (all ∙ sym c.in_ok-names.ensures ∙ sym c.items-count.ensures) in
    let few = c.if-count-gt64.false in
    record { facts = c.in_ok-facts.ensures.facts; few = omega (arith, long, few); rows = c.in_ok-facts.ensures.rows }
