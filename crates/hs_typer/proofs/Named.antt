-- An index of the names of members stays right as one more member is put.
use Rattle.std.proofs.Common.{◌≡◌, ℕ, Bool, true, false, ◌||◌, nat_eq, List, [], ◌∷◌, ◌++◌, Option, Some, refl, ap, sym, ◌∙◌, if◌then◌else◌}
use Rattle.std.specs.Prelude.{is_some}
use Rattle.std.specs.Cmp.Lexicographic.{pointwise}
use Rattle.hs_base.specs.Tests.{or_again}
use Rattle.hs_typer.specs.Specifiers.{has_member, member_as}
use Rattle.hs_index.specs.Index.{at, Puts}
use Rattle.hs_types.specs.declared.body.Member.{Member}
use Rattle.hs_types.specs.declared.row.TypeId.{TypeId}

or-false : (b : Bool) → (b || false) ≡ b
or-false true = refl
or-false false = refl

has_member-last : (name : List ℕ) (members : List Member) (member : Member)
    → has_member name (members ++ member ∷ []) ≡ (has_member name members || pointwise nat_eq member.name name)
has_member-last name [] member = or-false (pointwise nat_eq member.name name)
has_member-last name (first ∷ members) member =
    ap (λ it. pointwise nat_eq first.name name || it) (has_member-last name members member)
    ∙ or_again (pointwise nat_eq first.name name) (has_member name members) (pointwise nat_eq member.name name)

put-if : (same : Bool) (had : Option ℕ) (before : Bool) → is_some had ≡ before → is_some (if same then Some 0 else had) ≡ (before || same)
put-if true had true is = refl
put-if true had false is = refl
put-if false had before is = is ∙ or-is before
  where
    or-is : (b : Bool) → b ≡ (b || false)
    or-is true = refl
    or-is false = refl

pub named_with : (old new : List (List ℕ × ℕ)) (members : List Member) (text : List ℕ) (id : TypeId)
    → ((name : List ℕ) → is_some (at name old) ≡ has_member name members) → Puts text 0 old new
    → (name : List ℕ) → is_some (at name new) ≡ has_member name (members ++ member_as text id ∷ [])
named_with old new members text id were puts name =
    ap is_some (puts name)
    ∙ put-if (pointwise nat_eq text name) (at name old) (has_member name members) (were name)
    ∙ sym (has_member-last name members (member_as text id))
