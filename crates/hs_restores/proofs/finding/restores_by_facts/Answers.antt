use Rattle.std.proofs.Common.{◌≡◌, ◌≤◌, ◌+◌, ◌&&◌, false, List, length, nat_lt, option_map, replicate, sym, subst, ◌∙◌, ap, arith, rules}
use Rattle.std.proofs.lemmas.Option.{slice_get-map}
use Rattle.hs_code.specs.declared.function_code.Placed.{Placed}
use Rattle.hs_effects.specs.Calling.{whole_of}
use Rattle.hs_restores.proofs.Shown.{written}
use Rattle.hs_restores.specs.Laws.Assigning.{ready_is}
use Rattle.hs_restores.specs.Laws.Noting.{noted_all, noted_none}
use Rattle.hs_restores.specs.Restoring.{IsReady, Noted}
use Rattle.hs_rows.specs.Sets.{has}
use Rattle.hs_tree.specs.Views.{view_function}
use Rattle.hs_tree.specs.declared.globals.Global.{Global}
use Rattle.hs_tree.specs.declared.head.Variable.{Variable}
use Rattle.hs_restores.proofs.finding.restores_by_facts.Goals as goal

-- none is noted
pub windows-init : goal.windows-init
windows-init c =
    let blank : c.in_ok-restores.restores.items ≡ replicate (length c.items-2.result.now) false =
    c.in_ok-restores.ensures.items_if_clones_equal (λ y h. search rules) in
    let same : c.in_ok-restores.restores.items ≡ replicate (length c.args.own.now.ops) false =
    blank ∙ ap (λ (ops : List Placed). replicate (length ops) false) c.items-2.ensures.lends in
    record {
      within = omega arith;
      noted =
          subst (Noted (whole_of c.args.code.now) c.args.number c.in_ok-names.names 0) (sym same)
          (noted_none (whole_of c.args.code.now) c.args.number c.in_ok-names.names c.args.own.now c.requires.of_code);
    }

-- the lists are made from the code of the program
pub note_window-requires-clause-ready : goal.note_window-requires-clause-ready
note_window-requires-clause-ready c =
    let functions : c.len.result ≡ length c.args.code.now.functions.items = search rules in
    let globals : c.items.result.now ≡ c.args.code.now.program.now.globals = c.items.ensures in
    subst (λ n. IsReady (whole_of c.args.code.now) c.args.number (view_function c.args.function.now) c.args.own.now c.in_ok-slots.slots
    (λ f g. nat_lt f n && (nat_lt g (length c.items.result.now) && has c.args.assigned.now f g))) (sym functions)
    (subst (λ (list : List Global). IsReady (whole_of c.args.code.now) c.args.number (view_function c.args.function.now) c.args.own.now c.in_ok-slots.slots
    (λ f g. nat_lt f (length c.args.code.now.functions.items) && (nat_lt g (length list) && has c.args.assigned.now f g))) (sym globals)
    (ready_is (whole_of c.args.code.now) c.args.code.now.whole c.args.assigned.now c.requires.assigned c.args.number
    (view_function c.args.function.now) c.args.own.now
    (slice_get-map view_function c.args.code.now.program.now.functions.items c.args.number ∙ ap (option_map view_function) c.requires.of_function)
    c.requires.of_code c.in_ok-slots.slots c.in_ok-slots.ensures))

-- those of one window more
pub windows-preserved : goal.windows-preserved
windows-preserved c =
    let most = c.window_len-count.ensures.fits in
    let below = c.windows-test.true in
    let so_far = c.windows.invariant.within in
    let len = ap length c.items-len.ensures in
    let old = c.windows.invariant.noted.long in
    let new = c.in_ok-note_window.ensures.long in
    record {
      within = omega (arith, most, below, so_far, len);
      noted =
          subst (Noted (whole_of c.args.code.now) c.args.number c.in_ok-names.names (c.windows.from + c.window_len-count.result))
          (sym (written c.windows.restores.items c.note_window.new.restores c.windows.restores.len (omega (arith, old, new))))
          c.in_ok-note_window.ensures;
    }

-- all names are done
pub returns : goal.returns
returns c at =
    let all = c.windows-test.false in
    noted_all (whole_of c.args.code.now) c.args.number (view_function c.args.function.now) c.args.own.now
    (slice_get-map view_function c.args.code.now.program.now.functions.items c.args.number ∙ ap (option_map view_function) c.requires.of_function)
    c.requires.of_code c.windows.from c.windows.restores.items
    (subst (λ (list : List Variable). length list ≤ c.windows.from) c.in_ok-names.ensures (search (rules, all)))
    (subst (λ (list : List Variable). Noted (whole_of c.args.code.now) c.args.number list c.windows.from c.windows.restores.items) c.in_ok-names.ensures
    c.windows.invariant.noted) at
