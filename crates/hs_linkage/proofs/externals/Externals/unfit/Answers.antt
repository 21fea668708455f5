use Rattle.std.proofs.Common.{rules, ◌≡◌, ◌∷◌, [], ◌+◌, get_or, true, drop, sym, ◌∙◌, ap}
use Rattle.std.proofs.lemmas.List.{drop_more, drop_all}
use Rattle.hs_linkage.specs.Chains.{newest_first, externals_of}
use Rattle.hs_linkage.specs.Externals.{is_unfit}
use Rattle.hs_linkage.proofs.Unfit.{unfit_found, unfit_none}
use Rattle.hs_linkage.proofs.externals.Externals.unfit.Goals as goal

-- the first one that does not fit
pub returns-then-is_unfit : goal.returns-then-is_unfit
returns-then-is_unfit c =
    let entries = c.deref-entry-items.result.now in
    let seen : externals_of (newest_first entries) ≡ c.args.self.now =
    ap (λ its. externals_of (newest_first its)) c.deref-entry-items.ensures.value ∙ c.self.view_is in
    let here : get_or entries c.entries.entry-index c.entry-item.result ≡ c.entry-item.result = search rules in
    let split : drop c.entries.entry-index entries ≡ c.entry-item.result ∷ drop (c.entries.entry-index + 1) entries =
    drop_more entries c.entries.entry-index c.entry-item.result (search rules) ∙ ap (λ first. first ∷ drop (c.entries.entry-index + 1) entries) here in
    let found : is_unfit c.args.types.now c.args.origins.now c.args.self.now c.entry-item.result.external ≡ true = search rules in
    sym (unfit_found c.args.types.now c.args.origins.now c.args.self.now entries (drop c.entries.entry-index entries)
    (drop (c.entries.entry-index + 1) entries) c.entry-item.result seen c.entries.invariant split found)

-- all fit
pub returns : goal.returns
returns c =
    let entries = c.deref-entry-items.result.now in
    let seen : externals_of (newest_first entries) ≡ c.args.self.now =
    ap (λ its. externals_of (newest_first its)) c.deref-entry-items.ensures.value ∙ c.self.view_is in
    let gone : drop c.entries.entry-index entries ≡ [] = drop_all c.entries.entry-index entries (search rules) in
    sym (unfit_none c.args.types.now c.args.origins.now c.args.self.now entries (drop c.entries.entry-index entries) seen c.entries.invariant gone)
