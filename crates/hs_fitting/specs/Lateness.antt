-- If nothing is refused at the end of a unit, each of its declarations fits the others of its name.
--     all_fit           those with external linkage, and those that are bound to a routine
use Rattle.std.proofs.Common.{◌≡◌, Bool, true, false, Option, Some, None, refl, if◌then◌else◌}
use Rattle.hs_linkage.specs.Externals.{unfit}
use Rattle.hs_linkage.specs.Late.{is_before, earlier, late_clash, late_object}
use Rattle.hs_linkage.specs.Linkage.{late_struct, late_external, first_late}
use Rattle.hs_linkage.specs.declared.externals.External.{External}
use Rattle.hs_linkage.specs.declared.late.Late.{Late}
use Rattle.hs_linkage.specs.declared.translator.Translator.{Translator}

-- nothing is the earlier of two refusals only if neither is there
neither : (a b : Option Late) → earlier a b ≡ None → (a ≡ None) × (b ≡ None)
neither None b is = (refl, is)
neither (Some a) None is = absurd cc
neither (Some a) (Some b) is = by_test (is_before b.mark a.mark) is
  where
    by_test : (t : Bool) → (if t then Some b else Some a) ≡ None → (Some a ≡ None) × (Some b ≡ None)
    by_test true is = absurd cc
    by_test false is = absurd cc

-- a declaration that does not fit is refused
no_clash : (o : Option External) → late_clash o ≡ None → o ≡ None
no_clash None is = refl
no_clash (Some it) is = absurd cc

-- all of them fit
pub all_fit : (m : Translator) → first_late m ≡ None
    → (unfit m.typer.types m.typer.origins m.externals m.externals ≡ None) × (unfit m.typer.types m.typer.origins m.routines m.routines ≡ None)
all_fit m is =
    let others
    = neither (late_struct m)
    (earlier (late_external m m.externals) (earlier (late_external m m.routines) (late_object m.typer.types m.typer.tentatives))) is in
    let rest
    = neither (late_external m m.externals) (earlier (late_external m m.routines) (late_object m.typer.types m.typer.tentatives)) others.1 in
    let last = neither (late_external m m.routines) (late_object m.typer.types m.typer.tentatives) rest.1 in (
      no_clash (unfit m.typer.types m.typer.origins m.externals m.externals) rest.0,
      no_clash (unfit m.typer.types m.typer.origins m.routines m.routines) last.0,
    )
