use Rattle.std.proofs.Common.{◌≡◌, ◌∙◌, [], ◌∷◌, ap, sym}
use Rattle.hs_chains.specs.Answering.{given_by}
use Rattle.hs_chains.specs.Knowledge.{Knowledge, places_of}
use Rattle.hs_code.specs.declared.op.Op.TheVariants as op
use Rattle.hs_effects.specs.Calling.{whole_of}
use Rattle.hs_facts.specs.Effects.{WholeCode, placed_in}
use Rattle.hs_flow.specs.Calls.{leave_of}
use Rattle.hs_flow.specs.Programs.{next_in}
use Rattle.hs_taint.specs.Flowing.{known_in, whole_in}
use Rattle.hs_taint.specs.Routes.{left_by}
use Rattle.hs_taint.specs.Stepping.{listed_fact}
use Rattle.hs_taint.proofs.graph.ProgramGraph.left_fact.Goals as goal

-- the function returned with a fact
pub returns-in-Some : goal.returns-in-Some
returns-in-Some c =
    let whole : WholeCode = whole_in c.args.self.now in
    let known : Knowledge = known_in c.args.self.now in
    let s = c.args.s.known in
    let caller = c.args.c.known in
    let places : (known.at s.function s.at).places ≡ s.places =
    sym (s.placed ∙ ap (λ code. places_of (placed_in (whole_of code) s.function s.at)) c.requires.last_code) in
    let exits : next_in whole s.function (known.at s.function s.at) op.Return c.args.last ≡ c.in-Some.exit ∷ [] =
    c.exit_of.ensures whole s.function (known.at s.function s.at) places ∙ ap listed_fact c.in-Some.is in
    let given : given_by (whole_of caller.code.now) caller.effects.now caller.must.now caller.function caller.at ≡ known.at caller.function caller.at =
    λ i. given_by (whole_of (c.requires.caller_code i)) (c.requires.caller_effects i) (c.requires.caller_must i) caller.function caller.at in
    c.leave.ensures
    ∙ (ap (λ given. leave_of (known.of s.function) given c.args.caller c.in-Some.exit) given
    ∙ sym (ap (left_by whole known s.function caller.function caller.at c.args.caller) exits))

-- or with none
pub returns-in-None : goal.returns-in-None
returns-in-None c =
    let whole : WholeCode = whole_in c.args.self.now in
    let known : Knowledge = known_in c.args.self.now in
    let s = c.args.s.known in
    let caller = c.args.c.known in
    let places : (known.at s.function s.at).places ≡ s.places =
    sym (s.placed ∙ ap (λ code. places_of (placed_in (whole_of code) s.function s.at)) c.requires.last_code) in
    let exits : next_in whole s.function (known.at s.function s.at) op.Return c.args.last ≡ [] =
    c.exit_of.ensures whole s.function (known.at s.function s.at) places ∙ ap listed_fact c.in-None.is in
    sym (ap (left_by whole known s.function caller.function caller.at c.args.caller) exits)
