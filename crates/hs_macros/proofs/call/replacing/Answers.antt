use Rattle.std.proofs.Common.{◌≡◌, ℕ, true, false, List, Some, sym, ap, ◌∙◌, rules}
use Rattle.std.specs.FinSet as set
use Rattle.std.specs.FinMap as finite
use Rattle.hs_tokens.specs.Marks.{is_identifier}
use Rattle.hs_macros.specs.Numbers.{Numbers, IsNumber, names_in, definitions_in, number_in}
use Rattle.hs_macros.specs.Stacks.{hidden}
use Rattle.hs_macros.proofs.Calls.{found_by, hides_itself}
use Rattle.hs_macros.proofs.Naming.{contains-named_at}
use Rattle.hs_macros.proofs.call.replacing.Goals as goal

-- the token hides the number of its name, so it hides its name
pub returns-then-contains-clause-replaces : goal.returns-then-contains-clause-replaces
returns-then-contains-clause-replaces c rest =
    let names : List (List ℕ) = names_in c.args.table.now.entries in
    let found' = rw c.in-Some.is at c.in_ok-found.ensures.found in
    let number : IsNumber names c.args.token.now.token.now.text c.in-Some.found.number = ap (number_in names) (sym c.name_of.ensures) ∙ found'.1 in
    hides_itself (definitions_in c.args.table.now.entries) (hidden names c.args.token.now) rest (
    contains-named_at names c.args.token.now.hides.value c.args.token.now.token.now.text c.in-Some.found.number number
    ∙ ap (λ (held : Numbers). set.contains held c.in-Some.found.number) (sym c.deref.ensures)
    ∙ sym c.contains.ensures
    ∙ c.if-contains.true)

-- an identifier that is defined, and does not hide its name
pub returns-clause-replaces : goal.returns-clause-replaces
returns-clause-replaces c =
    let names : List (List ℕ) = names_in c.args.table.now.entries in
    let found' = rw c.in-Some.is at c.in_ok-found.ensures.found in
    let number : IsNumber names c.args.token.now.token.now.text c.in-Some.found.number = ap (number_in names) (sym c.name_of.ensures) ∙ found'.1 in
    let identifier : is_identifier c.args.token.now.token.now ≡ true = search rules in
    let shown =
    contains-named_at names c.args.token.now.hides.value c.args.token.now.token.now.text c.in-Some.found.number number
    ∙ ap (λ (held : Numbers). set.contains held c.in-Some.found.number) (sym c.deref.ensures)
    ∙ sym c.contains.ensures
    ∙ c.if-contains.false in
    let defined' = ap (λ (name : List ℕ). finite.get (definitions_in c.args.table.now.entries) name) (sym c.name_of.ensures) ∙ found'.0 in (
      λ rest. found_by (definitions_in c.args.table.now.entries) (hidden names c.args.token.now) rest true false (Some c.in-Some.found.definition.now)
          identifier shown defined',
      number,
    )
