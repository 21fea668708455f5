use Rattle.std.proofs.Common.{rules, ◌≡◌, ◌++◌, ◌∷◌, [], slice_get, Some, None, sym, ap, ◌∙◌}
use Rattle.indexmap.specs.IndexMap.{insert_entry}
use Rattle.hs_same_types.proofs.Along.{drop_none, types_next}
use Rattle.hs_same_types.specs.Representatives.{next_row, same_row, type_of, types_of}
use Rattle.hs_same_types.proofs.types.types_of.Goals as goal

-- one type more is done
pub rows-preserved : goal.rows-preserved
rows-preserved c =
    let there : slice_get c.args.types.now.rows c.rows.number ≡ Some c.in-Some.row = search rules in
    let its : c.next_row-its.result ≡ next_row c.args.structs.now c.rows.done.items c.in-Some.row = search rules in
    let first : c.type_of-first.result ≡ type_of c.rows.known.entries c.rows.number c.next_row-its.result = search rules in
    let more : c.insert.new.self.entries ≡ insert_entry same_row c.rows.known.entries c.next_row-its.result c.type_of-first.result = search rules in
    let all : c.push.new.self.items ≡ c.rows.done.items ++ c.type_of-first.result ∷ [] = search rules in
    types_next c.args.structs.now c.args.types.now.rows c.rows.done.items c.push.new.self.items c.rows.known.entries c.insert.new.self.entries
    c.rows.number c.in_ok-number.number c.in-Some.row c.next_row-its.result c.type_of-first.result
    (types_of c.args.structs.now [] [] c.args.types.now.rows) c.rows.invariant.0 there its first more all c.in_ok-number.ensures c.rows.invariant.1

-- all are done
pub returns : goal.returns
returns c =
    let over : slice_get c.args.types.now.rows c.rows.number ≡ None = search rules in
    sym (ap (types_of c.args.structs.now c.rows.done.items c.rows.known.entries) (drop_none c.args.types.now.rows c.rows.number over))
    ∙ c.rows.invariant.1
