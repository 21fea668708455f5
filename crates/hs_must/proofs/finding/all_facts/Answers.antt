use Rattle.std.proofs.Common.{◌≡◌, ◌+◌, rules, sym, subst, List}
use Rattle.hs_effects.specs.Calling.{whole_of}
use Rattle.hs_must.proofs.Found.{some_next}
use Rattle.hs_must.specs.Ends.{AreSome, Finds, IsFound}
use Rattle.hs_must.specs.declared.kept.Kept.{Kept}
use Rattle.hs_must.proofs.finding.all_facts.Goals as goal

-- one function more is found
pub functions-preserved : goal.functions-preserved
functions-preserved c =
    let same : c.in_ok-number.number ≡ c.functions.number = search rules in
    let found : IsFound (whole_of c.args.code.now) c.in_ok-number.number c.in-Some.kept =
    subst (Finds (whole_of c.args.code.now) c.in_ok-number.number) c.in-Some.is c.in_ok-kept.ensures in
    record {
      items = search rules;
      are =
          subst (λ (all : List Kept). AreSome (whole_of c.args.code.now) (c.functions.number + 1) all) (sym c.in_ok-push.ensures.items)
          (some_next (whole_of c.args.code.now) c.functions.number c.functions.all.items c.in-Some.kept c.functions.invariant.are
          (subst (λ n. IsFound (whole_of c.args.code.now) n c.in-Some.kept) same found));
    }
