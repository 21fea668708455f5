use Rattle.std.proofs.Common.{rules, ◌≡◌, ◌==◌, ◌++◌, ◌∷◌, [], true, false, map, append_assoc, subst}
use Rattle.hs_names.specs.Entries.{declaration, declarations_of, named_at}
use Rattle.hs_names.specs.Scopes.{inside}
use Rattle.hs_names.proofs.Newest.{inside_here, inside_gone}
use Rattle.hs_names.proofs.scopes.Scopes.inner.Goals as goal

-- the entries that are left declare nothing in the innermost scope
pub returns-then-last-self : goal.returns-then-last-self
returns-then-last-self g c =
    let level : c.self.inside.level ≡ c.args.self.now.level = search rules in
    let other : (c.in-Some.last.now.level == c.args.self.now.level) ≡ false = search rules in
    let gone : inside c.args.self.now.level (declarations_of c.rest.rest.now) ≡ [] =
    inside_gone c.args.self.now.level c.rest.rest.now c.in-Some.front.now c.in-Some.last.now c.in-Some.ensures.some other in
    search (rules, gone)

-- one more is copied
pub rest-preserved : goal.rest-preserved
rest-preserved g c =
    let same : c.in-Some.last.now.level ≡ c.args.self.now.level = search rules in
    let here : (c.in-Some.last.now.level == c.args.self.now.level) ≡ true = search rules in
    let more : inside c.args.self.now.level (declarations_of c.rest.rest.now)
    ≡ declaration c.in-Some.last.now ∷ inside c.args.self.now.level (declarations_of c.in-Some.front.now) =
    inside_here c.args.self.now.level c.rest.rest.now c.in-Some.front.now c.in-Some.last.now c.in-Some.ensures.some here in
    let copied : map (named_at c.args.self.now.level) c.in_ok-done.done.items
    ≡ map (named_at c.args.self.now.level) c.rest.done.items ++ declaration c.in-Some.last.now ∷ [] =
    subst (λ level. map (named_at level) c.in_ok-done.done.items ≡ map (named_at level) c.rest.done.items ++ declaration c.in-Some.last.now ∷ [])
    same c.in_ok-done.ensures in
    rw (
      copied,
      append_assoc (map (named_at c.args.self.now.level) c.rest.done.items) (declaration c.in-Some.last.now ∷ [])
          (inside c.args.self.now.level (declarations_of c.in-Some.front.now)),
      ← more,
    ) c.rest.invariant
