use Rattle.std.proofs.Common.{◌≡◌, ◌≤◌, [], ◌∷◌, ◌++◌, arith}
use Rattle.std.specs.List.{list_all}
use Rattle.std.proofs.lemmas.Bool.{and_parts}
use Rattle.std.proofs.lemmas.Grind.{common_steps}
use Rattle.std.proofs.lemmas.List.Elements.{All-push}
use Rattle.toml.specs.View.{table_view}
use Rattle.hs_table.specs.declared.routine.Routine.{Routine}
use Rattle.hs_table.specs.Tables.{is_right, names_ascend}
use Rattle.hs_table_text.proofs.Inserting.{put_last, right_parts, trees_onto_none}
use Rattle.hs_table_text.proofs.printer.routine_tables.Goals as goal

-- all routines are left
pub routines-init : goal.routines-init
routines-init c =
    let all_left : c.into_iter-routine-iterator.result.iter.rest.now ≡ c.args.routines.now = grind (arith, common_steps) in
    let parts = and_parts (names_ascend c.args.routines.now) (list_all is_right c.args.routines.now) c.requires in
    record {
      trees = rw (all_left, c.new-entries.ensures.empty) (trees_onto_none c.args.routines.now);
      right = rw all_left parts.1;
      small = rw all_left (λ small. small);
    }

-- the last of those that are left is right
pub put_routine-requires : goal.put_routine-requires
put_routine-requires c =
    let left : c.routines.routine-iterator.iter.rest.now ≡ c.next.new.self.iter.rest.now ++ c.in-Some.routine.now ∷ [] = grind (arith, common_steps) in
    (right_parts c.next.new.self.iter.rest.now c.in-Some.routine.now (rw (← left) c.routines.invariant.right)).1

-- it is put in front of those that are there
pub routines-preserved : goal.routines-preserved
routines-preserved c =
    let left : c.routines.routine-iterator.iter.rest.now ≡ c.next.new.self.iter.rest.now ++ c.in-Some.routine.now ∷ [] = grind (arith, common_steps) in
    let parts = and_parts (names_ascend c.args.routines.now) (list_all is_right c.args.routines.now) c.requires in
    record {
      trees = put_last c.args.routines.now c.next.new.self.iter.rest.now c.in-Some.routine.now (table_view c.routines.entries)
          (table_view c.put_routine.new.entries) parts.0 (rw (← left) c.routines.invariant.trees) c.in_ok-put_routine.ensures.tree;
      right = (right_parts c.next.new.self.iter.rest.now c.in-Some.routine.now (rw (← left) c.routines.invariant.right)).0;
      small = λ small. c.routines.invariant.small
          (rw left (All-push (λ (routine : Routine). routine.fills ≤ 4294967295) c.next.new.self.iter.rest.now c.in-Some.routine.now small
          c.in_ok-put_routine.ensures.small));
    }
