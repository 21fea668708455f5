use Rattle.std.proofs.Common.{List, [], ◌∷◌, ◌++◌, map, sym, ap, subst, ◌∙◌}
use Rattle.std.specs.List.{flat_map}
use Rattle.std.proofs.lemmas.List.{nil_from_length}
use Rattle.hs_macros.specs.Arguments.{Hidden}
use Rattle.hs_macros.specs.Numbers.{named}
use Rattle.hs_macros.specs.Replacement.{argument_for, from_argument, placed_for, placed_at}
use Rattle.hs_macros.specs.Slots.{names_of, place_in, ArePlaced}
use Rattle.hs_macros.specs.Stacks.{done, ahead, ready, seen_argument, parameters_in}
use Rattle.hs_macros.specs.declared.arguments.Supplied.{Supplied}
use Rattle.hs_macros.specs.declared.slot.Slot.{Slot}
use Rattle.hs_macros.proofs.Collecting.{put_one, put_many}
use Rattle.hs_macros.proofs.Places.{placed_last, flat_map-tokens_of}
use Rattle.hs_macros.proofs.call.Call.place.Goals as goal

-- a parameter stands for its argument
pub loop-slot-preserved-in_ok-put_argument-in-Some-argument_at : goal.loop-slot-preserved-in_ok-put_argument-in-Some-argument_at
loop-slot-preserved-in_ok-put_argument-in-Some-argument_at c =
    let last = placed_last (names_of (parameters_in c.args.self.ready.items)) c.next.new.self.iter.rest.now c.in-Some.slot.now
    (subst (λ (slots : List Slot). ArePlaced (names_of (parameters_in c.args.self.ready.items)) slots) c.in-Some.ensures.steps c.loop-slot.invariant.placed) in
    let place = last.0
    ∙ ap (λ (arguments : List Supplied). place_in (names_of (parameters_in arguments)) c.in-Some.slot.now.token) (sym c.as_slice.ensures.value) in
    record {
      put = λ names.
          let hides' = named names c.args.self.hides.value in
          let found = sym (ap (seen_argument names) c.in-Some-argument_at.is)
          ∙ c.argument_at.ensures names c.in-Some.slot.now.token place
          ∙ ap (λ (arguments : List Supplied). argument_for c.in-Some.slot.now.token (ready names arguments)) c.as_slice.ensures.value in
          put_many names (λ (slot : Slot). placed_at c.args.self.pos hides' (ready names c.args.self.ready.items) slot.token)
          c.loop-slot.slot-iterator.iter.rest.now c.next.new.self.iter.rest.now c.in-Some.slot.now c.loop-slot.tokens.items
          c.put_argument.new.tokens.items (map (from_argument c.args.self.pos hides') (done names c.in-Some-argument_at.argument.now)) _
          c.in-Some.ensures.steps (c.in_ok-put_argument-in-Some-argument_at.ensures names)
          (ap (placed_for c.args.self.pos hides' c.in-Some.slot.now.token) (sym found)) (c.loop-slot.invariant.put names);
      placed = last.1;
    }

-- a token that is no parameter stands for itself
pub loop-slot-preserved : goal.loop-slot-preserved
loop-slot-preserved c =
    let last = placed_last (names_of (parameters_in c.args.self.ready.items)) c.next.new.self.iter.rest.now c.in-Some.slot.now
    (subst (λ (slots : List Slot). ArePlaced (names_of (parameters_in c.args.self.ready.items)) slots) c.in-Some.ensures.steps c.loop-slot.invariant.placed) in
    let place = last.0
    ∙ ap (λ (arguments : List Supplied). place_in (names_of (parameters_in arguments)) c.in-Some.slot.now.token) (sym c.as_slice.ensures.value) in
    record {
      put = λ names.
          let hides' = named names c.args.self.hides.value in
          let other = sym (ap (seen_argument names) c.in-None-argument_at.is)
          ∙ c.argument_at.ensures names c.in-Some.slot.now.token place
          ∙ ap (λ (arguments : List Supplied). argument_for c.in-Some.slot.now.token (ready names arguments)) c.as_slice.ensures.value in
          let itself = ap (placed_for c.args.self.pos hides' c.in-Some.slot.now.token) (sym other)
          ∙ ap (λ (first : Hidden). first ∷ []) (sym (c.in_ok-from_body-in-None-argument_at.ensures names)) in
          put_one names (λ (slot : Slot). placed_at c.args.self.pos hides' (ready names c.args.self.ready.items) slot.token)
          c.loop-slot.slot-iterator.iter.rest.now c.next.new.self.iter.rest.now c.in-Some.slot.now c.loop-slot.tokens.items
          c.push.new.self.items c.in_ok-from_body-in-None-argument_at.field-0 _
          c.in-Some.ensures.steps c.in_ok-push-in-None-argument_at.ensures.items itself (c.loop-slot.invariant.put names);
      placed = last.1;
    }

-- all tokens are put
pub returns : goal.returns
returns c names =
    let put : Slot → List Hidden = λ slot. placed_at c.args.self.pos (named names c.args.self.hides.value) (ready names c.args.self.ready.items) slot.token in
    sym (ap (λ (rest : List Slot). flat_map put rest ++ ahead names c.loop-slot.tokens.items) (nil_from_length _ c.in-None.ensures.steps.0))
    ∙ c.loop-slot.invariant.put names
    ∙ ap (λ (front : List Hidden). front ++ ahead names c.args.self.behind.items)
    (sym (flat_map-tokens_of (placed_at c.args.self.pos (named names c.args.self.hides.value) (ready names c.args.self.ready.items)) c.args.self.body.now))
