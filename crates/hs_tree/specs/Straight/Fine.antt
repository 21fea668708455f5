-- What the tree of a straight program keeps, beside its shape.
--     * a name is declared once
--     * each variable of a step is declared, with the kind that its form asks for
--     * a number is at most 32767 as a size and at most 127 elsewhere
--     * a step that reads a variable stands after one that assigns it
-- The steps and variables before one are listed newest first.
use Rattle.std.specs.Prelude.{ℕ, ◌==◌, nat_le, Bool, true, false, not, ◌&&◌, List, [], ◌∷◌, Option, Some, None, slice_get}
use Rattle.std.specs.List.{list_any}
use Rattle.std.specs.Str.{bytes_eq}
use Rattle.hs_tree.specs.Straight.Names.{is_name}
use Rattle.hs_tree.specs.declared.straight.tree.Kind.{Kind}
use Rattle.hs_tree.specs.declared.straight.tree.Kind.TheVariants.{Handle, Pointer, Letter}
use Rattle.hs_tree.specs.declared.straight.tree.Variable.{Variable}
use Rattle.hs_tree.specs.declared.straight.tree.Expr.{Expr}
use Rattle.hs_tree.specs.declared.straight.tree.Expr.TheVariants as expr
use Rattle.hs_tree.specs.declared.straight.tree.Step.{Step}
use Rattle.hs_tree.specs.declared.straight.tree.Step.TheVariants as step

-- the kinds are equal
abbrev pub kind_eq : Kind → Kind → Bool
kind_eq Handle Handle = true
kind_eq Pointer Pointer = true
kind_eq Letter Letter = true
kind_eq Handle Pointer = false
kind_eq Handle Letter = false
kind_eq Pointer Handle = false
kind_eq Pointer Letter = false
kind_eq Letter Handle = false
kind_eq Letter Pointer = false

-- there is a variable, of that kind
abbrev pub has_kind : Kind → Option Variable → Bool
has_kind kind None = false
has_kind kind (Some variable) = kind_eq variable.kind kind

-- the variable of that number is declared with that kind
abbrev pub is_declared : Kind → List Variable → ℕ → Bool
is_declared kind variables number = has_kind kind (slice_get variables number)

-- the step assigns the variable
abbrev pub assigns : ℕ → Step → Bool
assigns variable (step.NewHandle handle size) = handle == variable
assigns variable (step.Derive pos pointer handle) = pointer == variable
assigns variable (step.Set letter value) = letter == variable
assigns variable (step.HLock pos handle) = false
assigns variable (step.HUnlock pos handle) = false
assigns variable (step.Store pos pointer value) = false
assigns variable (step.Putchar value) = false

-- one of the steps assigns the variable
abbrev pub was_assigned : ℕ → List Step → Bool
was_assigned variable done = list_any (assigns variable) done

-- the variable has that kind, and a step before assigned it
abbrev pub is_readable : Kind → List Variable → List Step → ℕ → Bool
is_readable kind variables done number = is_declared kind variables number && was_assigned number done

-- the expression may stand after the steps
abbrev pub is_fine_expr : List Variable → List Step → Expr → Bool
is_fine_expr variables done (expr.Letter pos letter) = is_readable Letter variables done letter
is_fine_expr variables done (expr.Load pos pointer) = is_readable Pointer variables done pointer
is_fine_expr variables done (expr.Number value) = nat_le value 127

-- the step may stand after the steps
abbrev pub is_fine_step : List Variable → List Step → Step → Bool
is_fine_step variables done (step.NewHandle handle size) = is_declared Handle variables handle && nat_le size 32767
is_fine_step variables done (step.HLock pos handle) = is_readable Handle variables done handle
is_fine_step variables done (step.HUnlock pos handle) = is_readable Handle variables done handle
is_fine_step variables done (step.Derive pos pointer handle) = is_declared Pointer variables pointer && is_readable Handle variables done handle
is_fine_step variables done (step.Set letter value) = is_declared Letter variables letter && is_fine_expr variables done value
is_fine_step variables done (step.Store pos pointer value) = is_readable Pointer variables done pointer && is_fine_expr variables done value
is_fine_step variables done (step.Putchar value) = is_fine_expr variables done value

-- each step may stand after those before it
abbrev pub are_fine_steps : List Variable → List Step → List Step → Bool
are_fine_steps variables done [] = true
are_fine_steps variables done (step ∷ steps) = is_fine_step variables done step && are_fine_steps variables (step ∷ done) steps

-- one of the variables has that name
abbrev pub is_taken : List Variable → List ℕ → Bool
is_taken earlier name = list_any (λ variable. bytes_eq variable.name name) earlier

-- the name may be declared after the variables
abbrev pub is_fine_name : List Variable → List ℕ → Bool
is_fine_name earlier name = is_name name && not (is_taken earlier name)

-- each name may be declared after those before it
abbrev pub are_fine_names : List Variable → List Variable → Bool
are_fine_names earlier [] = true
are_fine_names earlier (variable ∷ variables) = is_fine_name earlier variable.name && are_fine_names (variable ∷ earlier) variables

-- the variables and steps of a tree
abbrev pub is_fine : List Variable → List Step → Bool
is_fine variables steps = are_fine_names [] variables && are_fine_steps variables [] steps
