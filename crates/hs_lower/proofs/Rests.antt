-- What is left of a list, in the steps of its first entry and of the others.
--     items_on, items_next, items_end            of the variables of a declaration
--     declarations_on, .., marks_on, ..          of declarations, and of labels
--     list_on, list_next, list_end               of statements with their labels
--     codes_on, codes_next                       of the code of functions
use Rattle.std.proofs.Common.{◌≡◌, ◌≤◌, ◌<◌, ◌+◌, ℕ, suc, List, [], ◌∷◌, ◌++◌, map, drop, length, Option, Some, arith, sym, ◌∙◌, ap}
use Rattle.std.specs.Prelude.{get_or}
use Rattle.std.proofs.lemmas.List.{append_assoc, drop_more, drop_all}
use Rattle.hs_base.specs.Entries.{drop_item}
use Rattle.hs_code.specs.declared.function_code.FunctionCode.{FunctionCode}
use Rattle.hs_code.specs.declared.op.Op.TheVariants as op
use Rattle.hs_lower_expressions.specs.Emits.{most_ops}
use Rattle.hs_lowering.specs.Statements.{labels_at, list_code, function_code, as_code, functions_code}
use Rattle.hs_meaning.specs.Settings.{Setting}
use Rattle.hs_tree.specs.RowLaws.{statements_from, view_labelled}
use Rattle.hs_tree.specs.Trees.{TypedFunction}
use Rattle.hs_tree.specs.Views.{view_item, view_declaration, view_statement, view_function}
use Rattle.hs_tree.specs.declared.function.Function.{Function}
use Rattle.hs_tree.specs.declared.statement.Declaration.{Declaration}
use Rattle.hs_tree.specs.declared.statement.Initialised.{Initialised}
use Rattle.hs_tree.specs.declared.statement.Label.{Label}
use Rattle.hs_tree.specs.declared.statement.Labelled.{Labelled}
use Rattle.hs_lower.specs.Writing.{◌>>=◌, with_pieces, counts_of, unknown, label_pos, put_steps, first_steps, items_steps, labels_steps, declarations_steps, statement_steps, list_steps, count_ops}
use Rattle.hs_lower.specs.declared.text.Text.{Text}
use Rattle.hs_lower.proofs.Lists.{items_done, items_more, declarations_done, declarations_more, labels_done, labels_more, list_done, list_more, list_labels}

module _ (setting : Setting) (function : TypedFunction) where
  -- ---- the variables of a declaration

  module _ (piece : ℕ) (all : List Initialised) (i : ℕ) where
    module _ (e : Initialised) (within : i < length all) (is : e ≡ get_or all i e) where
      pub items_on : (text : Text) → items_steps setting function piece (map view_item (drop i all)) text
          ≡ (first_steps setting function piece (view_item e) text >>= (λ mid. items_steps setting function piece (map view_item (drop (i + 1) all)) mid))
      items_on text =
          ap (λ its. items_steps setting function piece (map view_item its) text) (drop_item all i e within is)
          ∙ items_more setting function piece (view_item e) (map view_item (drop (i + 1) all)) text

      pub items_next : (text mid : Text) → first_steps setting function piece (view_item e) text ≡ Some mid
          → items_steps setting function piece (map view_item (drop (i + 1) all)) mid ≡ items_steps setting function piece (map view_item (drop i all)) text
      items_next text mid done =
          sym (items_on text ∙ ap (λ x. x >>= (λ mid. items_steps setting function piece (map view_item (drop (i + 1) all)) mid)) done)

    pub items_end : length all ≤ i → (text : Text) → length text.ops ≤ most_ops
        → items_steps setting function piece (map view_item (drop i all)) text ≡ Some text
    items_end past text few =
        ap (λ its. items_steps setting function piece (map view_item its) text) (drop_all i all past) ∙ items_done setting function piece text few

  -- ---- declarations

  module _ (all : List Declaration) (i : ℕ) where
    module _ (e : Declaration) (within : i < length all) (is : e ≡ get_or all i e) where
      pub declarations_on : (text : Text) → declarations_steps setting function (map view_declaration (drop i all)) text
          ≡ (items_steps setting function text.pieces (map view_item e.items.items) (with_pieces (suc text.pieces) text)
          >>= (λ mid. declarations_steps setting function (map view_declaration (drop (i + 1) all)) mid))
      declarations_on text =
          ap (λ its. declarations_steps setting function (map view_declaration its) text) (drop_item all i e within is)
          ∙ declarations_more setting function (view_declaration e) (map view_declaration (drop (i + 1) all)) text

      pub declarations_next : (text mid : Text)
          → items_steps setting function text.pieces (map view_item e.items.items) (with_pieces (suc text.pieces) text) ≡ Some mid
          → declarations_steps setting function (map view_declaration (drop (i + 1) all)) mid
          ≡ declarations_steps setting function (map view_declaration (drop i all)) text
      declarations_next text mid done =
          sym (declarations_on text ∙ ap (λ x. x >>= (λ mid. declarations_steps setting function (map view_declaration (drop (i + 1) all)) mid)) done)

    pub declarations_end : length all ≤ i → (text : Text) → length text.ops ≤ most_ops
        → declarations_steps setting function (map view_declaration (drop i all)) text ≡ Some text
    declarations_end past text few =
        ap (λ its. declarations_steps setting function (map view_declaration its) text) (drop_all i all past) ∙ declarations_done setting function text few

  -- ---- statements

  module _ (all : List Labelled) (i : ℕ) where
    -- what the statements that are left come to
    abbrev pub rest_steps : ℕ → Text → Option Text
    rest_steps from text = list_steps setting function (statements_from (map view_labelled (drop from all))) text

    abbrev pub rest_labels : ℕ → Text → List (Label × ℕ)
    rest_labels from text =
        (list_code setting function (statements_from (map view_labelled (drop from all))) (counts_of text) unknown (length text.ops)).labels

    module _ (e : Labelled) (within : i < length all) (is : e ≡ get_or all i e) where
      pub list_on : (text : Text) → rest_steps i text
          ≡ (labels_steps e.labels.items text
          >>= (λ mid. statement_steps setting function (view_statement e.statement) mid >>= (λ end_. rest_steps (i + 1) end_)))
      list_on text =
          ap (λ its. list_steps setting function (statements_from (map view_labelled its)) text) (drop_item all i e within is)
          ∙ list_more setting function e.labels.items (view_statement e.statement) (statements_from (map view_labelled (drop (i + 1) all))) text

      pub list_next : (text mid end_ : Text) → labels_steps e.labels.items text ≡ Some mid
          → statement_steps setting function (view_statement e.statement) mid ≡ Some end_ → rest_steps (i + 1) end_ ≡ rest_steps i text
      list_next text mid end_ marked done =
          sym (list_on text
          ∙ ap (λ x. x >>= (λ mid. statement_steps setting function (view_statement e.statement) mid >>= (λ end_. rest_steps (i + 1) end_))) marked
          ∙ ap (λ x. x >>= (λ end_. rest_steps (i + 1) end_)) done)

      pub labels_next : (text mid end_ : Text) → labels_steps e.labels.items text ≡ Some mid
          → statement_steps setting function (view_statement e.statement) mid ≡ Some end_
          → rest_labels i text ≡ labels_at e.labels.items (length text.ops) ++ rest_labels (i + 1) end_
      labels_next text mid end_ marked done =
          ap (λ its. (list_code setting function (statements_from (map view_labelled its)) (counts_of text) unknown (length text.ops)).labels)
          (drop_item all i e within is)
          ∙ list_labels setting function e.labels.items (view_statement e.statement) (statements_from (map view_labelled (drop (i + 1) all))) text mid end_
          marked done

    pub list_end : length all ≤ i → (text : Text) → length text.ops ≤ most_ops → rest_steps i text ≡ Some text
    list_end past text few =
        ap (λ its. list_steps setting function (statements_from (map view_labelled its)) text) (drop_all i all past) ∙ list_done setting function text few

    pub labels_end : length all ≤ i → (text : Text) → rest_labels i text ≡ []
    labels_end past text =
        ap (λ its. (list_code setting function (statements_from (map view_labelled its)) (counts_of text) unknown (length text.ops)).labels)
        (drop_all i all past)

-- ---- labels

module _ (all : List Label) (i : ℕ) where
  module _ (d : Label) (within : i < length all) where
    pub marks_on : (text : Text) → labels_steps (drop i all) text
        ≡ (put_steps text.pieces (label_pos (get_or all i d)) op.Mark (with_pieces (suc text.pieces) text) >>= (λ mid. labels_steps (drop (i + 1) all) mid))
    marks_on text = ap (λ its. labels_steps its text) (drop_more all i d within) ∙ labels_more (get_or all i d) (drop (i + 1) all) text

    pub marks_next : (text mid : Text) → put_steps text.pieces (label_pos (get_or all i d)) op.Mark (with_pieces (suc text.pieces) text) ≡ Some mid
        → labels_steps (drop (i + 1) all) mid ≡ labels_steps (drop i all) text
    marks_next text mid done = sym (marks_on text ∙ ap (λ x. x >>= (λ mid. labels_steps (drop (i + 1) all) mid)) done)

    pub places_next : (labels : List (Label × ℕ)) (start next : ℕ) → next ≡ suc start
        → (labels ++ ((get_or all i d, start) ∷ [])) ++ labels_at (drop (i + 1) all) next ≡ labels ++ labels_at (drop i all) start
    places_next labels start next is =
        append_assoc labels ((get_or all i d, start) ∷ []) (labels_at (drop (i + 1) all) next)
        ∙ ap (λ n. labels ++ ((get_or all i d, start) ∷ labels_at (drop (i + 1) all) n)) is
        ∙ ap (λ its. labels ++ labels_at its start) (sym (drop_more all i d within))

  pub marks_end : length all ≤ i → (text : Text) → length text.ops ≤ most_ops → labels_steps (drop i all) text ≡ Some text
  marks_end past text few = ap (λ its. labels_steps its text) (drop_all i all past) ∙ labels_done text few

-- ---- functions

pub count_joined : (first second : List FunctionCode) → count_ops (first ++ second) ≡ count_ops first + count_ops second
count_joined [] second = omega arith
count_joined (code ∷ first) second = omega (arith, count_joined first second)

module _ (setting : Setting) (all : List Function) (i : ℕ) (e : Function) (within : i < length all) (is : e ≡ get_or all i e) where
  -- the code of a function, and that of the others
  abbrev pub rest_codes : ℕ → List FunctionCode
  rest_codes from = functions_code setting (map view_function (drop from all))

  abbrev pub one_code : FunctionCode
  one_code = as_code (function_code setting (view_function e))

  pub codes_on : rest_codes i ≡ one_code ∷ rest_codes (i + 1)
  codes_on = ap (λ its. functions_code setting (map view_function its)) (drop_item all i e within is)

  module _ (done whole : List FunctionCode) (same : done ++ rest_codes i ≡ whole) where
    pub codes_next : (done ++ (one_code ∷ [])) ++ rest_codes (i + 1) ≡ whole
    codes_next =
        append_assoc done (one_code ∷ []) (rest_codes (i + 1)) ∙ ap (λ list. done ++ list) (sym codes_on) ∙ same

    -- too many operations with that function are too many in all
    pub codes_past : most_ops < count_ops done + length one_code.ops → most_ops < count_ops whole
    codes_past past =
        omega (
          arith,
          past,
          ap count_ops (sym same ∙ ap (λ list. done ++ list) codes_on),
          count_joined done (one_code ∷ rest_codes (i + 1)),
        )
