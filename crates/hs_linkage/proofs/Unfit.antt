-- The oldest declaration that does not fit is the first one among the entries.
use Rattle.std.proofs.Common.{◌≡◌, Bool, true, false, List, [], ◌∷◌, Option, None, Some, refl, sym, ap, ◌∙◌, if◌then◌else◌}
use Rattle.hs_linkage.specs.Chains.{onto, newest_first, externals_of}
use Rattle.hs_linkage.specs.Externals.{unfit, or_later, if_unfit, is_unfit}
use Rattle.hs_linkage.specs.declared.externals.Entry.{Entry}
use Rattle.hs_linkage.specs.declared.externals.External.{External}
use Rattle.hs_typer.specs.declared.origins.Origins.{Origins}
use Rattle.hs_types.specs.TypeTables.{TypeTable}

-- among entries, the oldest first
abbrev pub first_unfit : TypeTable → Origins → List External → List Entry → Option External
first_unfit types o all [] = None
first_unfit types o all (it ∷ entries) = or_later (if_unfit types o all it.external) (first_unfit types o all entries)

or_later-none : (it : Option External) → or_later it None ≡ it
or_later-none None = refl
or_later-none (Some it) = refl

or_later-assoc : (a b c : Option External) → or_later (or_later a b) c ≡ or_later a (or_later b c)
or_later-assoc None b c = refl
or_later-assoc (Some it) b c = refl

unfit-onto : (types : TypeTable) (o : Origins) (all : List External) (older entries : List Entry)
    → unfit types o all (externals_of (onto older entries)) ≡ or_later (unfit types o all (externals_of older)) (first_unfit types o all entries)
unfit-onto types o all older [] = sym (or_later-none (unfit types o all (externals_of older)))
unfit-onto types o all older (it ∷ entries) =
    unfit-onto types o all (it ∷ older) entries
    ∙ or_later-assoc (unfit types o all (externals_of older)) (if_unfit types o all it.external) (first_unfit types o all entries)

pub unfit_entries : (types : TypeTable) (o : Origins) (all : List External) (entries : List Entry)
    → unfit types o all (externals_of (newest_first entries)) ≡ first_unfit types o all entries
unfit_entries types o all entries = unfit-onto types o all [] entries

found-if : (b : Bool) (it : External) (later : Option External) → b ≡ true → or_later (if b then Some it else None) later ≡ Some it
found-if true it later same = refl
found-if false it later same = absurd cc

pub unfit_found : (types : TypeTable) (o : Origins) (all : List External) (entries part rest : List Entry) (it : Entry)
    → externals_of (newest_first entries) ≡ all → first_unfit types o all part ≡ first_unfit types o all entries → part ≡ it ∷ rest
    → is_unfit types o all it.external ≡ true → unfit types o all all ≡ Some it.external
unfit_found types o all entries part rest it seen same split found =
    ap (unfit types o all) (sym seen) ∙ unfit_entries types o all entries ∙ sym same ∙ ap (first_unfit types o all) split
    ∙ found-if (is_unfit types o all it.external) it.external (first_unfit types o all rest) found

pub unfit_none : (types : TypeTable) (o : Origins) (all : List External) (entries part : List Entry) → externals_of (newest_first entries) ≡ all
    → first_unfit types o all part ≡ first_unfit types o all entries → part ≡ [] → unfit types o all all ≡ None
unfit_none types o all entries part seen same gone =
    ap (unfit types o all) (sym seen) ∙ unfit_entries types o all entries ∙ sym same ∙ ap (first_unfit types o all) gone
