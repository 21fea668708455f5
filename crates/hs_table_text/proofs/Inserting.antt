-- Members that are put at their place in the order of keys.
use Rattle.std.proofs.Common.{◌≡◌, ℕ, true, List, [], ◌∷◌, ◌++◌, String, Global, Ordering, Less, Equal, Greater, string_bytes, refl, sym, ap, ◌∙◌}
use Rattle.std.specs.List.{list_all}
use Rattle.std.specs.BTreeMap.{insert_entry}
use Rattle.std.specs.Cmp.Lexicographic.{slice_cmp}
use Rattle.std.specs.Ordering.{is_lt, match_ordering, nat_cmp}
use Rattle.std.specs.String.{string_cmp}
use Rattle.std.proofs.lemmas.Bool.{and_from, and_parts}
use Rattle.toml.specs.Data.{Data, table, Members, no_members, member, is_before}
use Rattle.toml.specs.View.{view, members_view}
use Rattle.toml.specs.declared.value.Value.{Value}
use Rattle.toml.proofs.Views.{Entry}
use Rattle.hs_table.specs.declared.routine.Routine.{Routine}
use Rattle.hs_table.specs.Tables.{is_before as is_before_name, is_right, names_ascend}
use Rattle.hs_table_text.specs.Building.{insert_member, trees_onto}
use Rattle.hs_table_text.specs.ReadingLaws.{keys_ascend}
use Rattle.hs_table_text.specs.Trees.{entry_tree, routine_trees}

match_members : (order : Ordering) (less same more : List Entry)
    → members_view (match_ordering order less same more) ≡ match_ordering order (members_view less) (members_view same) (members_view more)
match_members Less less same more = refl
match_members Equal less same more = refl
match_members Greater less same more = refl

-- an entry that the map of a table takes is a member at its place
pub members_view_insert : (entries : List Entry) (key : String Global) (value : Value)
    → members_view (insert_entry string_cmp entries key value) ≡ insert_member (string_bytes key) (view value) (members_view entries)
members_view_insert [] key value = refl
members_view_insert (entry ∷ entries) key value =
    match_members (string_cmp key entry.0) _ _ _ ∙ rw (members_view_insert entries key value) refl

-- a key that is before the others goes in front
pub insert_in_front : (key : List ℕ) (written : Data) (members : Members) → is_before key members ≡ true
    → insert_member key written members ≡ member key written members
insert_in_front key written no_members before = refl
insert_in_front key written (member other data_of_other members) before = by_order (slice_cmp nat_cmp key other) before
  where
    by_order : (order : Ordering) → is_lt order ≡ true
        → match_ordering order (member key written (member other data_of_other members)) (member other written members)
        (member other data_of_other (insert_member key written members)) ≡ member key written (member other data_of_other members)
    by_order Less before = refl
    by_order Equal before = absurd (cc)
    by_order Greater before = absurd (cc)

-- the last of the routines that are left is in front of the members
pub trees_onto_last : (routines : List Routine) (routine : Routine) (placed : Members)
    → trees_onto (routines ++ routine ∷ []) placed ≡ trees_onto routines (member routine.name (table (entry_tree routine)) placed)
trees_onto_last [] routine placed = refl
trees_onto_last (first ∷ routines) routine placed =
    ap (member first.name (table (entry_tree first))) (trees_onto_last routines routine placed)

-- the trees of the routines alone
pub trees_onto_none : (routines : List Routine) → trees_onto routines no_members ≡ routine_trees routines
trees_onto_none [] = refl
trees_onto_none (first ∷ routines) = ap (member first.name (table (entry_tree first))) (trees_onto_none routines)

-- if all keys ascend, those after the routines do
pub keys_ascend-behind : (routines : List Routine) (placed : Members) → keys_ascend (trees_onto routines placed) ≡ true
    → keys_ascend placed ≡ true
keys_ascend-behind [] placed ascend = ascend
keys_ascend-behind (first ∷ routines) placed ascend =
    keys_ascend-behind routines placed (and_parts (is_before first.name (trees_onto routines placed)) _ ascend).1

-- names that ascend are keys that ascend
pub keys_ascend-names : (routines : List Routine) → names_ascend routines ≡ true → keys_ascend (routine_trees routines) ≡ true
keys_ascend-names [] ascend = refl
keys_ascend-names (routine ∷ []) ascend = refl
keys_ascend-names (routine ∷ next ∷ routines) ascend =
    let parts = and_parts (is_before_name routine.name next.name) (names_ascend (next ∷ routines)) ascend in
    rw (parts.0, keys_ascend-names (next ∷ routines) parts.1) refl

-- the last of the routines that are left is put
pub put_last : (routines left : List Routine) (routine : Routine) (placed now : Members) → names_ascend routines ≡ true
    → trees_onto (left ++ routine ∷ []) placed ≡ routine_trees routines
    → now ≡ insert_member routine.name (table (entry_tree routine)) placed → trees_onto left now ≡ routine_trees routines
put_last routines left routine placed now ascend is put =
    let one : Members = member routine.name (table (entry_tree routine)) placed in
    let whole : trees_onto left one ≡ routine_trees routines = sym (trees_onto_last left routine placed) ∙ is in
    let all_ascend : keys_ascend (trees_onto left one) ≡ true = rw whole (keys_ascend-names routines ascend) in
    let first : is_before routine.name placed ≡ true = (and_parts (is_before routine.name placed) _ (keys_ascend-behind left one all_ascend)).0 in
    rw (put, insert_in_front routine.name (table (entry_tree routine)) placed first) whole

-- if all are right, the last one is, and those in front of it
pub right_parts : (left : List Routine) (routine : Routine) → list_all is_right (left ++ routine ∷ []) ≡ true
    → (list_all is_right left ≡ true) × (is_right routine ≡ true)
right_parts [] routine right = (refl, (and_parts (is_right routine) true right).0)
right_parts (first ∷ left) routine right =
    let parts = and_parts (is_right first) (list_all is_right (left ++ routine ∷ [])) right in
    let others = right_parts left routine parts.1 in (and_from _ _ parts.0 others.0, others.1)
