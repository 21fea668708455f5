use Rattle.std.proofs.Common.{rules, ◌≡◌, length, sym, ap, ◌∙◌}
use Rattle.hs_linkage.proofs.Chained.{entries-length}
use Rattle.hs_linkage.proofs.externals.Externals.len.Goals as goal

-- a declaration for each entry
pub returns : goal.returns
returns c =
    let entries : c.len.result ≡ length c.self.inside.entries.items = search rules in
    entries ∙ sym (entries-length c.self.inside.entries.items) ∙ ap length c.self.view_is
