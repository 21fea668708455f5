-- An item that is taken out of the list on top, and put at its end.
use Rattle.std.proofs.Common.{rules, ◌≡◌, ◌≤◌, ℕ, suc, ◌+◌, List, [], ◌∷◌, ◌++◌, length, take, drop, slice_get, Some, sym, ap, ◌∙◌, arith, length-append, length-take}
use Rattle.std.proofs.lemmas.List.{drop-drop, drop-take, drop-append-le, get_or-drop}
use Rattle.std.proofs.lemmas.Option.{get_or_from_slice_get}
use Rattle.hs_layers.specs.Layers.{Layered, brought}
use Rattle.hs_layers.proofs.layers.Layers.bring.Goals as goal

-- what is after the place where the list on top begins
taken_out : {T : Type 0} (base place : ℕ) (its : List T) (item : T) → base ≤ length its
    → drop base ((take (base + place) its ++ drop (suc (base + place)) its) ++ item ∷ []) ≡ brought place item (drop base its)
taken_out base place its item within =
    let front = take (base + place) its in
    let back = drop (suc (base + place)) its in
    let held : base ≤ length front = omega (arith, length-take (base + place) its) in
    let long : base ≤ length (front ++ back) = omega (arith, length-append front back) in
    let next : base + suc place ≡ suc (base + place) = omega arith in
    let rest : drop (suc place) (drop base its) ≡ back = drop-drop (suc place) base its ∙ ap (λ n. drop n its) next in
    drop-append-le base (front ++ back) (item ∷ []) long
    ∙ ap (λ l. l ++ item ∷ []) (drop-append-le base front back held ∙ ap (λ l. l ++ back) (drop-take base place its))
    ∙ ap (λ l. (take place (drop base its) ++ l) ++ item ∷ []) (sym rest)

pub returns-clause-top : goal.returns-clause-top
returns-clause-top g c = λ item there.
    let base = c.self.inside.base in
    let its = c.self.inside.items.items in
    let top : c.args.self.now.top ≡ drop base its = sym (ap (λ (v : Layered g.row.T.Denot). v.top) c.self.view_is) in
    let found : slice_get (drop base its) c.args.place ≡ Some item = rw (← top) there in
    let whole = taken_out base c.args.place its c.remove-item.result (omega arith) in
    let behind = get_or-drop base its c.args.place c.remove-item.result in
    let at = get_or_from_slice_get (drop base its) c.args.place item c.remove-item.result found in
    let same : c.remove-item.result ≡ item = cc in
    let put : c.push.new.self.items ≡ (take (base + c.args.place) its ++ drop (suc (base + c.args.place)) its) ++ c.remove-item.result ∷ [] = search rules in
    rw (top, ← same) (ap (drop base) put ∙ whole)
