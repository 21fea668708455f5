-- What branches of statements are made of (X3.159-1989 3.6): controlling expressions, values that are returned, and the labels of a switch.
--     condition at e               a controlling expression, as a number
--     switched at e                that of a switch
--     all_labelled [] cases its    the labels in front of a statement, in a switch with those labels so far
--     returned at id e             the value that a function returns
use Rattle.std.specs.Prelude.{ℕ, true, false, List, [], ◌∷◌, ◌++◌, nat_eq, Option, Some, None, Result, Ok, Err, if◌then◌else◌}
use Rattle.std.specs.List.{list_any}
use Rattle.indexmap.specs.IndexSet.{insert_key}
use Rattle.hs_constants.specs.declared.value.Value.{Value}
use Rattle.hs_linkage.specs.Works.{Work, ◌>>=◌, ◌>>◌, pass, stop, typing, knowing, unless}
use Rattle.hs_expressions.specs.Expressions.{typed}
use Rattle.hs_expressions.specs.Operations.{value_of}
use Rattle.hs_operands.specs.Assignments.{assigned}
use Rattle.hs_operand_types.specs.Constants.{constant_value}
use Rattle.hs_operand_types.specs.Conversions.{truth}
use Rattle.hs_branches.specs.declared.labels.Cases.{Cases}
use Rattle.hs_syntax.specs.Trees as syntax
use Rattle.hs_syntax.specs.Trees.{Expression, Labelling}
use Rattle.hs_tokens.specs.declared.place.Place.{Place}
use Rattle.hs_tree.specs.Kinds.{number_kind}
use Rattle.hs_tree.specs.Trees.{RightValue, type_of}
use Rattle.hs_tree.specs.declared.statement.Label.{Label}
use Rattle.hs_tree.specs.declared.statement.Label.TheVariants as label
use Rattle.hs_typer.specs.Steps.{of_types, lifted}
use Rattle.hs_typer.specs.declared.type_error.TypeError.{TypeError}
use Rattle.hs_typer.specs.declared.type_error.TypeError.TheVariants.{Untyped}
use Rattle.hs_types.specs.Integers.{promoted, converted}
use Rattle.hs_types.specs.Rows.{integer_id}
use Rattle.hs_types.specs.TypeTables.{TypeTable}
use Rattle.hs_types.specs.declared.integer.Integer.{Integer}
use Rattle.hs_types.specs.declared.row.TypeId.{TypeId}

-- the value of an expression
abbrev pub valued : Expression → Work RightValue
valued e = typing (value_of (typed e))

-- if there is an expression
abbrev pub valued_if : Option Expression → Work (Option RightValue)
valued_if None = pass None
valued_if (Some e) = valued e >>= (λ its. pass (Some its))

-- 3.6.4.1, 3.6.5: a controlling expression, as a number; refused at the keyword of its statement
abbrev pub condition : Place → Expression → Work RightValue
condition at e = valued e >>= (λ its. typing (of_types (λ types. lifted (truth types at its))))

-- if there is one
abbrev pub condition_if : Place → Option Expression → Work (Option RightValue)
condition_if at None = pass None
condition_if at (Some e) = condition at e >>= (λ its. pass (Some its))

-- 3.6.4.2: the controlling expression of a switch is a number, and is promoted
abbrev pub switched_by : TypeTable → Place → RightValue → Option Integer → Result RightValue TypeError
switched_by types at e None = Err (Untyped at)
switched_by types at e (Some its) = lifted (assigned types at (integer_id (promoted its)) e)

abbrev pub switched : Place → Expression → Work RightValue
switched at e = valued e >>= (λ its. typing (of_types (λ types. switched_by types at its (number_kind types (type_of its)))))

-- the labels of a switch before any
abbrev pub no_cases : Cases
no_cases = record { kind = None; values = []; default = false }

-- in the own block of a switch over numbers of that kind
abbrev pub cases_of : TypeTable → TypeId → Cases
cases_of types id = record { kind = number_kind types id; values = []; default = false }

-- the constant, converted to the type of the controlling expression
abbrev pub case_bits : Place → Integer → Option Value → Result ℕ TypeError
case_bits at its None = Err (Untyped at)
case_bits at its (Some value) = if value.fails then Err (Untyped at) else Ok (converted its value.bits)

-- 3.6.4.2: no constant twice
abbrev pub new_case : Place → Cases → ℕ → Work (Label × Cases)
new_case at cases bits =
    unless (Untyped at) (λ m. list_any (nat_eq bits) cases.values)
    >> pass (label.Case at bits, record cases { values = insert_key nat_eq cases.values bits })

-- `case e:` of a switch over that kind
abbrev pub case_of : Place → Expression → Cases → Integer → Work (Label × Cases)
case_of at e cases its = do
  value ← valued e
  bits ← knowing (λ m. case_bits at its (constant_value m.typer.types value))
  new_case at cases bits

-- 3.6.1: labels are in the own block of a switch (own: C allows them deeper); others are refused at the label
abbrev pub case_label : Place → Expression → Cases → Option Integer → Work (Label × Cases)
case_label at e cases None = stop (Untyped at)
case_label at e cases (Some its) = case_of at e cases its

-- `default:`, at most one
abbrev pub default_label : Place → Cases → Option Integer → Work (Label × Cases)
default_label at cases None = stop (Untyped at)
default_label at cases (Some its) =
    unless (Untyped at) (λ m. cases.default) >> pass (label.Default at, record cases { default = true })

-- one label
abbrev pub labelled : Cases → Labelling → Work (Label × Cases)
labelled cases (syntax.case_ at e) = case_label at e cases cases.kind
labelled cases (syntax.default_ at) = default_label at cases cases.kind

-- those in front of one statement; `done` are those before
abbrev pub all_labelled : List Label → Cases → List Labelling → Work (List Label × Cases)
all_labelled done cases [] = pass (done, cases)
all_labelled done cases (it ∷ rest) = labelled cases it >>= (λ p. all_labelled (done ++ p.0 ∷ []) p.1 rest)

-- 3.6.6.4: the value that a function returns, as by assignment; refused at `return`
abbrev pub returned_as : Place → TypeId → RightValue → Work RightValue
returned_as at id e = typing (of_types (λ types. lifted (assigned types at id e)))

-- if there is a value
abbrev pub returned : Place → TypeId → Option Expression → Work (Option RightValue)
returned at id None = pass None
returned at id (Some e) = valued e >>= (λ its. returned_as at id its >>= (λ value. pass (Some value)))
