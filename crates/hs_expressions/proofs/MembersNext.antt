-- The members of a struct, one on.
use Rattle.std.proofs.Common.{◌≡◌, ℕ, ◌+◌, ◌<◌, length, drop, get_or, map, List, ◌∷◌, ap, sym, ◌∙◌}
use Rattle.std.proofs.lemmas.List.{drop_more}
use Rattle.hs_syntax.specs.RowLaws.{view_member-out}
use Rattle.hs_syntax.specs.RowViews.{view_member, one_member, OneMember, members_from, declarators_from}
use Rattle.hs_syntax.specs.Trees as syntax
use Rattle.hs_syntax.specs.Views.{view_declarator, specification_of}
use Rattle.hs_syntax.specs.declared.expr.Declarator.{Declarator}
use Rattle.hs_syntax.specs.declared.expr.Member.{Member, out-Member}
use Rattle.hs_syntax.specs.declared.expr.Specifier.{Specifier}

-- the next ones are seen by their lists of specifiers and declarators
seen : (it : Member) (specifiers : List Specifier) (declarators : List Declarator) → specifiers ≡ (out-Member it).specifiers.items
    → declarators ≡ (out-Member it).declarators.items
    → view_member it ≡ one_member (specification_of specifiers) (declarators_from (map view_declarator declarators))
seen it specifiers declarators first second =
    view_member-out it
    ∙ ap (λ its. one_member (specification_of its) (declarators_from (map view_declarator (out-Member it).declarators.items))) (sym first)
    ∙ ap (λ its. one_member (specification_of specifiers) (declarators_from (map view_declarator its))) (sym second)

pub members_next : (its : List Member) (index : ℕ) (it : Member) (specifiers : List Specifier) (declarators : List Declarator) → index < length its
    → it ≡ get_or its index it → specifiers ≡ (out-Member it).specifiers.items → declarators ≡ (out-Member it).declarators.items
    → members_from (map view_member (drop index its))
    ≡ syntax.more_members (specification_of specifiers) (declarators_from (map view_declarator declarators))
    (members_from (map view_member (drop (index + 1) its)))
members_next its index it specifiers declarators within is first second =
    ap (λ rest. members_from (map view_member rest)) (drop_more its index it within ∙ ap (λ next. next ∷ drop (index + 1) its) (sym is))
    ∙ ap (λ (one : OneMember). members_from (one ∷ map view_member (drop (index + 1) its))) (seen it specifiers declarators first second)
