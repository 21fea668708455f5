use Rattle.std.proofs.Common.{◌≡◌, [], ◌∷◌, ◌∙◌, ap, string_bytes, arith, rules}
use Rattle.std.proofs.lemmas.Grind.{common_steps}
use Rattle.toml.specs.View.{view, members_view, table_view}
use Rattle.toml.proofs.Views.{Entry}
use Rattle.hs_table_text.proofs.Documents.{keys_ascend-sorted}
use Rattle.hs_table_text.proofs.Fronts.{after, read_all, read_more}
use Rattle.hs_table_text.specs.ReadingLaws.{reads_table}
use Rattle.hs_table_text.specs.Texts.{routines_in}
use Rattle.hs_table_text.proofs.reader.routines.Goals as goal

-- the routine of the next entry is read
pub entries-preserved : goal.entries-preserved
entries-preserved c =
    let next : Entry = (c.in-Some.name.now, c.in-Some.written.now) in
    let left : c.entries.name-iterator ≡ next ∷ c.next.new.self = grind (arith, common_steps) in
    let so_far = c.entries.invariant ∙ ap (λ it. after c.entries.routines.items (routines_in (members_view it))) left in
    let read = rw c.as_str.ensures.value at c.in_ok-entry.ensures in
    read_more _ c.entries.routines.items c.push.new.self.items (string_bytes next.0) (view next.1) c.in_ok-entry.field-0
    (members_view c.next.new.self) so_far read (search rules)

-- all are read, from keys that ascend
pub returns-clause-table : goal.returns-clause-table
returns-clause-table c =
    let none_left : c.entries.name-iterator ≡ [] = grind (arith, common_steps) in
    let all = c.entries.invariant ∙ ap (λ it. after c.entries.routines.items (routines_in (members_view it))) none_left in
    reads_table (table_view c.args.entries.now) c.entries.routines.items (keys_ascend-sorted c.args.entries.now.entries c.len.ensures.ordered)
    (read_all _ c.entries.routines.items all)
