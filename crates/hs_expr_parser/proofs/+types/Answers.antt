use Rattle.std.proofs.Common.{rules, ◌≡◌, [], length, map, true, false, List, ◌∷◌, ◌++◌, ap, sym, ◌∙◌, arith}
use Rattle.std.proofs.lemmas.List.{map-append}
use Rattle.std.proofs.lemmas.Result.{err_from_is_err_and}
use Rattle.hs_syntax.specs.RowViews.{OneMember, view_member, view_parameter}
use Rattle.hs_syntax.specs.Trees as tree
use Rattle.hs_syntax.specs.Views.{view_specifier, view_declarator}
use Rattle.hs_expr_parser.specs.Steps.{struct_at, specifiers_at, declarator_at, declarators_at, parameters_at, parameter_at, members_at, member_at, some_specifiers_at, specifier_at}
use Rattle.hs_expr_parser.specs.Laws.Fails.{fails_along}
use Rattle.hs_expr_parser.proofs.Stepping.{declarators_on, declarators_goes, declarators_fails, parameters_on, parameters_goes, parameters_fails, members_on, members_goes, members_fails, specifiers_none, specifiers_more, specifier_dropped, specifier_basic, struct_list_none, struct_close_none, struct_whole}
use Rattle.hs_syntax.specs.RowLaws.{members_seen}
use Rattle.hs_expr_parser.specs.Ahead.{mark_at, is_mark_ahead, storage_of, dropped_of, basic_of, begins_specifier}
use Rattle.std.specs.Prelude.{codes, suc, ◌||◌, Some, None}
use Rattle.hs_syntax.specs.Phrases.{is_type}
use Rattle.hs_expr_parser.proofs.+types.Goals as goal

-- one that fails
pub declarators::declarators-returns-in_err-it-clause-read : goal.declarators::declarators-returns-in_err-it-clause-read
declarators::declarators-returns-in_err-it-clause-read g t c =
    let exit = err_from_is_err_and c.from_residual-in_err-it.result c.from_residual-in_err-it.ensures.1 in
    rw (exit.1, exit.2) (fails_along c.in_err-it.field-0.0 (declarators_at c.args.known.now [] c.args.tokens.now)
    (declarator_at c.args.known.now false c.in-Some.next.now)
    (λ none. sym c.declarators.invariant.0 ∙ declarators_fails c.args.known.now
    (map view_declarator c.declarators.its.items) c.declarators.rest.now c.in-Some.field-0-0 c.in-Some.next.now c.in-Some.ensures.read none)
    c.in_err-it.ensures.read)

-- one more
pub declarators::declarators-declarators-preserved : goal.declarators::declarators-declarators-preserved
declarators::declarators-declarators-preserved g t c =
    let items : map view_declarator c.push-in-Some.new.self.items ≡ map view_declarator c.declarators.its.items ++ view_declarator c.in_ok-it.it ∷ [] =
    ap (map view_declarator) c.in_ok-push-2.ensures.items ∙ map-append view_declarator c.declarators.its.items (c.in_ok-it.it ∷ []) in (
      ap (λ its. declarators_on c.args.known.now its c.in_ok-it.left.now) items
          ∙ sym (declarators_goes c.args.known.now
          (map view_declarator c.declarators.its.items) c.declarators.rest.now c.in-Some.field-0-0 c.in-Some.next.now
          (view_declarator c.in_ok-it.it) c.in_ok-it.left.now
          c.in-Some.ensures.read c.in_ok-it.ensures.read)
          ∙ c.declarators.invariant.0,
      omega (arith, c.in_ok-it.ensures.shorter, c.in-Some.ensures.shorter, c.declarators.invariant.1),
    )

-- one that fails
pub declarators::parameters-returns-in_err-it-clause-read : goal.declarators::parameters-returns-in_err-it-clause-read
declarators::parameters-returns-in_err-it-clause-read g t c =
    let exit = err_from_is_err_and c.from_residual-in_err-it.result c.from_residual-in_err-it.ensures.1 in
    rw (exit.1, exit.2) (fails_along c.in_err-it.field-0.0 (parameters_at c.args.known.now [] c.args.tokens.now)
    (parameter_at c.args.known.now c.in-Some.next.now)
    (λ none. sym c.parameters.invariant.0 ∙ parameters_fails c.args.known.now
    (map view_parameter c.parameters.its.items) c.parameters.rest.now c.in-Some.field-0-0 c.in-Some.next.now c.in-Some.ensures.read none)
    c.in_err-it.ensures.read)

-- one more
pub declarators::parameters-parameters-preserved : goal.declarators::parameters-parameters-preserved
declarators::parameters-parameters-preserved g t c =
    let items : map view_parameter c.push-in-Some.new.self.items ≡ map view_parameter c.parameters.its.items ++ view_parameter c.in_ok-it.it ∷ [] =
    ap (map view_parameter) c.in_ok-push-2.ensures.items ∙ map-append view_parameter c.parameters.its.items (c.in_ok-it.it ∷ []) in (
      ap (λ its. parameters_on c.args.known.now its c.in_ok-it.left.now) items
          ∙ sym
          (parameters_goes c.args.known.now
          (map view_parameter c.parameters.its.items) c.parameters.rest.now c.in-Some.field-0-0 c.in-Some.next.now
          (view_parameter c.in_ok-it.it) c.in_ok-it.left.now
          c.in-Some.ensures.read c.in_ok-it.ensures.read)
          ∙ c.parameters.invariant.0,
      omega (arith, c.in_ok-it.ensures.shorter, c.in-Some.ensures.shorter, c.parameters.invariant.1),
    )

-- one that fails
pub types::members-returns-in_err-it-clause-read : goal.types::members-returns-in_err-it-clause-read
types::members-returns-in_err-it-clause-read g t c =
    let exit = err_from_is_err_and c.from_residual-in_err-it.result c.from_residual-in_err-it.ensures.1 in
    let ahead : is_mark_ahead (codes "}") c.members.rest.now ≡ false = search rules in
    rw (exit.1, exit.2) (fails_along c.in_err-it.field-0.0 (members_at c.args.known.now [] c.args.tokens.now) (member_at c.args.known.now c.members.rest.now)
    (λ none. sym c.members.invariant.0 ∙ members_fails c.args.known.now (map view_member c.members.its.items) c.members.rest.now ahead none)
    c.in_err-it.ensures.read)

-- one more
pub types::members-members-preserved : goal.types::members-members-preserved
types::members-members-preserved g t c =
    let items : map view_member c.push-in-members.new.self.items ≡ map view_member c.members.its.items ++ view_member c.in_ok-it.it ∷ [] =
    ap (map view_member) c.in_ok-push-2.ensures.items ∙ map-append view_member c.members.its.items (c.in_ok-it.it ∷ []) in
    let ahead : is_mark_ahead (codes "}") c.members.rest.now ≡ false = search rules in (
      ap (λ its. members_on c.args.known.now its c.in_ok-it.left.now) items
          ∙ sym (members_goes c.args.known.now (map view_member c.members.its.items) c.members.rest.now
          (view_member c.in_ok-it.it) c.in_ok-it.left.now ahead c.in_ok-it.ensures.read)
          ∙ c.members.invariant.0,
      omega (arith, c.in_ok-it.ensures.shorter, c.members.invariant.1),
    )

-- a specifier that fails
pub types::specifiers-returns-in_err-it-clause-read : goal.types::specifiers-returns-in_err-it-clause-read
types::specifiers-returns-in_err-it-clause-read g t c =
    let exit = err_from_is_err_and c.from_residual-in_err-it.result c.from_residual-in_err-it.ensures.1 in
    let begins : begins_specifier c.args.known.now c.specifiers.typed c.in-Some-first.source.now ≡ true =
    sym c.begins_specifier-in-specifiers.ensures ∙ c.if-begins_specifier.true in
    rw (exit.1, exit.2) (fails_along c.in_err-it.field-0.0 (some_specifiers_at c.args.known.now c.args.tokens.now)
    (specifier_at c.args.known.now c.in-Some-first.source.now c.in-Some-first.behind.now)
    (λ none. sym c.specifiers.invariant.0
    ∙ ap (specifiers_at c.args.known.now c.specifiers.typed (map view_specifier c.specifiers.its.items)) c.in-Some-first.ensures.found
    ∙ specifiers_none c.args.known.now c.specifiers.typed
    (map view_specifier c.specifiers.its.items) c.in-Some-first.source.now c.in-Some-first.behind.now begins none)
    c.in_err-it.ensures.read)

-- one more specifier
pub types::specifiers-specifiers-preserved : goal.types::specifiers-specifiers-preserved
types::specifiers-specifiers-preserved g t c =
    let begins : begins_specifier c.args.known.now c.specifiers.typed c.in-Some-first.source.now ≡ true =
    sym c.begins_specifier-in-specifiers.ensures ∙ c.if-begins_specifier.true in
    let items : map view_specifier c.push-in-specifiers.new.self.items ≡ map view_specifier c.specifiers.its.items ++ view_specifier c.in_ok-it.it ∷ [] =
    ap (map view_specifier) c.in_ok-push-2.ensures.items ∙ map-append view_specifier c.specifiers.its.items (c.in_ok-it.it ∷ []) in
    let shorter : length c.specifiers.rest.now ≡ suc (length c.in-Some-first.behind.now) = ap length c.in-Some-first.ensures.found in (
      ap (λ typed. specifiers_at c.args.known.now typed
          (map view_specifier c.push-in-specifiers.new.self.items) c.in_ok-it.left.now) c.is_typed-typed-in-specifiers.ensures
          ∙ ap (λ its. specifiers_at c.args.known.now (c.specifiers.typed || is_type (view_specifier c.in_ok-it.it)) its c.in_ok-it.left.now) items
          ∙ sym (specifiers_more c.args.known.now c.specifiers.typed
          (map view_specifier c.specifiers.its.items) c.in-Some-first.source.now c.in-Some-first.behind.now
          (view_specifier c.in_ok-it.it) c.in_ok-it.left.now begins c.in_ok-it.ensures.read)
          ∙ sym (ap (specifiers_at c.args.known.now c.specifiers.typed (map view_specifier c.specifiers.its.items)) c.in-Some-first.ensures.found)
          ∙ c.specifiers.invariant.0,
      omega (arith, c.in_ok-it.ensures.shorter, shorter, c.specifiers.invariant.1),
    )

-- a word that means nothing
pub types::specifier-returns-in-Some-dropped_of-clause-read : goal.types::specifier-returns-in-Some-dropped_of-clause-read
types::specifier-returns-in-Some-dropped_of-clause-read g t c =
    let one : storage_of c.args.source.now ≡ None = search rules in
    let two : dropped_of c.args.source.now ≡ Some c.in-Some-dropped_of.it = search rules in
    specifier_dropped c.args.known.now c.args.source.now c.args.rest.now c.in-Some-dropped_of.it one two
    ∙ ap (λ at. Some (tree.dropped c.in-Some-dropped_of.it at, c.args.rest.now)) (sym c.place_of-at.ensures)

-- a type specifier of one word
pub types::specifier-returns-in-Some-basic_of-clause-read : goal.types::specifier-returns-in-Some-basic_of-clause-read
types::specifier-returns-in-Some-basic_of-clause-read g t c =
    let one : storage_of c.args.source.now ≡ None = search rules in
    let two : dropped_of c.args.source.now ≡ None = search rules in
    let three : basic_of c.args.source.now ≡ Some c.in-Some-basic_of.it = search rules in
    specifier_basic c.args.known.now c.args.source.now c.args.rest.now c.in-Some-basic_of.it one two three
    ∙ ap (λ at. Some (tree.basic c.in-Some-basic_of.it at, c.args.rest.now)) (sym c.place_of-at.ensures)

-- the list fails
pub types::struct_specifier-returns-in_err-members-clause-read : goal.types::struct_specifier-returns-in_err-members-clause-read
types::struct_specifier-returns-in_err-members-clause-read g t c =
    let exit = err_from_is_err_and c.from_residual.result c.from_residual.ensures.1 in
    rw (exit.1, exit.2) (fails_along c.in_err-members.field-0.0 (struct_at c.args.known.now c.args.at c.args.tag c.args.rest.now)
    (members_at c.args.known.now [] c.in-Some.behind.now)
    (λ none. struct_list_none c.args.known.now c.args.at c.args.tag c.args.rest.now c.in-Some.brace c.in-Some.behind.now c.in-Some.ensures.read none)
    c.in_err-members.ensures.read)

-- its end is missing
pub types::struct_specifier-returns-in_err-left-clause-read : goal.types::struct_specifier-returns-in_err-left-clause-read
types::struct_specifier-returns-in_err-left-clause-read g t c =
    let exit = err_from_is_err_and c.from_residual-in_err-left.result c.from_residual-in_err-left.ensures.1 in
    let its : List OneMember = map view_member c.in_ok-members.members.items in
    rw (exit.1, exit.2) (fails_along c.in_err-left.field-0.0 (struct_at c.args.known.now c.args.at c.args.tag c.args.rest.now)
    (mark_at (codes "}") c.in_ok-members.close.now)
    (λ none.
    struct_close_none c.args.known.now c.args.at c.args.tag c.args.rest.now c.in-Some.brace c.in-Some.behind.now its c.in_ok-members.close.now
    c.in-Some.ensures.read c.in_ok-members.ensures.read none)
    c.in_err-left.ensures.read)

-- all of it
pub types::struct_specifier-returns-clause-read : goal.types::struct_specifier-returns-clause-read
types::struct_specifier-returns-clause-read g t c =
    let its : List OneMember = map view_member c.in_ok-members.members.items in
    struct_whole c.args.known.now c.args.at c.args.tag c.args.rest.now c.in-Some.brace c.in-Some.behind.now its c.in_ok-members.close.now c.in_ok-left.field-0-0
    c.in_ok-left.left.now
    c.in-Some.ensures.read c.in_ok-members.ensures.read c.in_ok-left.ensures.read
    ∙ ap (λ its. Some (tree.struct_body c.args.at c.args.tag c.in-Some.brace its, c.in_ok-left.left.now)) (sym (members_seen c.in_ok-members.members))
