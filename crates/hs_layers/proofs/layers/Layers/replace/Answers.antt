-- A write after the place where the list on top begins is a write in that list, and the item that was there was in that list.
use Rattle.std.proofs.Common.{◌<◌, length, drop, sym, ap, ◌∙◌, refl, arith, subst, get_or, List}
use Rattle.std.proofs.lemmas.Grind.{common_steps}
use Rattle.std.proofs.lemmas.List.{drop-set-add, get_or-drop}
use Rattle.std.proofs.lemmas.Option.{slice_get_read}
use Rattle.hs_layers.specs.Layers.{Layered}
use Rattle.hs_layers.proofs.layers.Layers.replace.Goals as goal

pub returns-clause-top : goal.returns-clause-top
returns-clause-top g c =
    rw c.replace.ensures.after
    (grind (arith, common_steps, drop-set-add c.self.inside.base c.self.inside.items.items c.args.place c.args.item))

pub returns-clause-was : goal.returns-clause-was
returns-clause-was g c =
    let base = c.self.inside.base in
    let its = c.self.inside.items.items in
    let top = sym (ap (λ (v : Layered g.row.T.Denot). v.top) c.self.view_is) in
    let found = c.replace.ensures.value ∙ c.index_mut.ensures.value in
    rw top (slice_get_read (drop base its) (length (drop base its)) c.args.place c.replace.result refl
    (subst (λ (l : List g.row.T.Denot). c.args.place < length l) top c.requires.there)
    (found ∙ sym (get_or-drop base its c.args.place c.index_mut.result.now)
    ∙ ap (λ (d : g.row.T.Denot). get_or (drop base its) c.args.place d) (sym c.replace.ensures.value)))
