use Rattle.std.proofs.Common.{◌≡◌, ◌++◌, List, length, slice_get, rules}
use Rattle.hs_effects.specs.Calling.{whole_of}
use Rattle.hs_flow.proofs.Restored.{all_put}
use Rattle.hs_flow.specs.Given.{Given}
use Rattle.hs_flow.specs.Programs.{variables_in}
use Rattle.hs_flow.specs.Restorable.{classes_below, places_below, pointer_globals, pointer_locals, purgeable_of}
use Rattle.hs_flow.specs.declared.fact.Slot.{Slot}
use Rattle.hs_flow.specs.declared.fact.Slot.TheVariants as slot
use Rattle.hs_tree.specs.declared.globals.Global.{Global}
use Rattle.hs_tree.specs.declared.head.VariableDecl.{VariableDecl}
use Rattle.hs_types.specs.TypeTables.{TypeTable}
use Rattle.hs_flow.proofs.restoring.put_back.Goals as goal

-- the four parts are put, one after the other
pub returns-clause-facts : goal.returns-clause-facts
returns-clause-facts g c =
    let given : Given = g.A.Around.given c.args.around.now in
    let argument : Slot = slot.Place c.args.base in
    let types : TypeTable = c.args.code.now.program.now.types in
    let globals : List Global = c.args.code.now.program.now.globals in
    let locals : List VariableDecl = variables_in (slice_get (whole_of c.args.code.now).program.functions c.args.f) in
    let first : c.put_globals.new.into.facts ≡ c.args.into.now.facts ++ purgeable_of given argument (pointer_globals types 0 globals) = search rules in
    let second : c.put_locals.new.into.facts ≡ c.put_globals.new.into.facts ++ purgeable_of given argument (pointer_locals types 0 locals) = search rules in
    let third : c.put_places.new.into.facts ≡ c.put_locals.new.into.facts ++ purgeable_of given argument (places_below c.args.base) = search rules in
    let fourth : c.put_classes.new.into.facts
    ≡ c.put_places.new.into.facts ++ purgeable_of given argument (classes_below (length c.args.code.now.classes.items)) = search rules in
    all_put given argument c.args.into.now.facts c.put_globals.new.into.facts c.put_locals.new.into.facts c.put_places.new.into.facts
    c.put_classes.new.into.facts (pointer_globals types 0 globals) (pointer_locals types 0 locals) (places_below c.args.base)
    (classes_below (length c.args.code.now.classes.items)) first second third fourth
