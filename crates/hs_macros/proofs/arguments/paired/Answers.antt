use Rattle.std.proofs.Common.{◌≡◌, [], ◌∷◌, refl, ap, ◌∙◌, arith}
use Rattle.std.proofs.lemmas.List.{nil_from_length, map-append}
use Rattle.hs_macros.specs.Slots.{names_of}
use Rattle.hs_macros.specs.Stacks.{waiting}
use Rattle.hs_macros.specs.declared.slot.Parameter.{Parameter}
use Rattle.hs_macros.proofs.Collecting.{paired_step, none_left, parameters_step}
use Rattle.hs_macros.proofs.arguments.paired.Goals as goal

-- a parameter without an argument
pub returns-in_default-pop-clause-waiting : goal.returns-in_default-pop-clause-waiting
returns-in_default-pop-clause-waiting c names =
    let none : c.parameters.given.items ≡ [] = nil_from_length _ (omega (arith, c.parameters.given.ok.0, c.in_default-pop.ensures.cases.0)) in
    let split =
    ap names_of c.in-Some.ensures.cases.0 ∙ map-append (λ (parameter : Parameter). parameter.name) c.in-Some.others.now (c.in-Some.parameter.now ∷ []) in
    none_left names (names_of c.parameters.left.now) (names_of c.in-Some.others.now) c.in-Some.parameter.now.name c.parameters.given.items
    (waiting names c.parameters.waiting.items) _ split none (c.parameters.invariant.same names)

-- the last parameter with the last argument
pub parameters-preserved : goal.parameters-preserved
parameters-preserved c =
    let split =
    ap names_of c.in-Some.ensures.cases.0 ∙ map-append (λ (parameter : Parameter). parameter.name) c.in-Some.others.now (c.in-Some.parameter.now ∷ []) in
    record {
      same = λ names. paired_step names (names_of c.parameters.left.now) (names_of c.in-Some.others.now) c.in-Some.parameter.now.name c.parameters.given.items
          c.pop.new.self.items c.in-Some-pop.tokens c.parameters.waiting.items c.push.new.self.items _ _ split c.in-Some-pop.ensures.items
          c.in_ok-push.ensures.items refl refl (c.parameters.invariant.same names);
      all =
          parameters_step c.parameters.left.now c.in-Some.others.now c.in-Some.parameter.now c.parameters.waiting.items c.push.new.self.items _
          c.args.parameters.now
          c.in-Some.ensures.cases.0 c.in_ok-push.ensures.items refl c.parameters.invariant.all;
    }
