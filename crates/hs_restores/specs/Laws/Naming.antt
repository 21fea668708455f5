-- The handle names are the variables that are marked.
--     names_listed      they are the list of names
--     are_names         a variable is a name exactly if it is in the list
use Rattle.std.proofs.Common.{◌≡◌, ℕ, zero, suc, ◌+◌, Bool, true, false, ◌&&◌, ap, sym, subst, ◌∙◌, refl, arith, List, [], ◌∷◌, ◌++◌, slice_get, Some}
use Rattle.hs_code.specs.Stacks.{Scope, variable_of_global}
use Rattle.hs_code.specs.declared.function_code.FunctionCode.{FunctionCode}
use Rattle.hs_code.specs.declared.function_code.Placed.{Placed}
use Rattle.hs_facts.specs.Names.{is_handle, is_name, mentions, named_if, local_names, global_names, names_of}
use Rattle.hs_restores.specs.Laws.Numbering.{IsDistinct, distinct_listed, is_in, is_listed, mark_of}
use Rattle.hs_restores.specs.Marks.{is_marked, listed_from, listed, handle_locals, handle_globals}
use Rattle.hs_restores.specs.declared.numbers.Whose.TheVariants as whose
use Rattle.hs_tree.specs.declared.globals.Global.{Global}
use Rattle.hs_tree.specs.declared.head.Variable.{Variable}
use Rattle.hs_tree.specs.declared.head.Variable.TheVariants as name
use Rattle.hs_tree.specs.declared.head.VariableDecl.{VariableDecl}
use Rattle.hs_types.specs.TypeTables.{TypeTable}

-- ---- the list

locals_listed : (types : TypeTable) (place : ℕ) (variables : List VariableDecl)
    → listed_from whose.Local place (handle_locals types variables) ≡ local_names types place variables
locals_listed types place [] = refl
locals_listed types place (it ∷ rest) =
    ap (named_if (is_handle types (Some it)) (name.Local place)) (locals_listed types (suc place) rest)

globals_listed : (types : TypeTable) (ops : List Placed) (place : ℕ) (globals : List Global)
    → listed_from whose.Global place (handle_globals types ops place globals) ≡ global_names types ops place globals
globals_listed types ops place [] = refl
globals_listed types ops place (it ∷ rest) =
    ap (named_if (is_handle types (Some it.variable) && mentions ops place) (name.Global place)) (globals_listed types ops (suc place) rest)

pub names_listed : (types : TypeTable) (ops : List Placed) (variables : List VariableDecl) (globals : List Global)
    → listed (handle_locals types variables) (handle_globals types ops 0 globals) ≡ local_names types 0 variables ++ global_names types ops 0 globals
names_listed types ops variables globals =
    ap (λ (list : List Variable). list ++ listed_from whose.Global 0 (handle_globals types ops 0 globals)) (locals_listed types 0 variables)
    ∙ ap (λ (list : List Variable). local_names types 0 variables ++ list) (globals_listed types ops 0 globals)

-- ---- names

local_marked : (types : TypeTable) (variables : List VariableDecl) (place : ℕ)
    → is_marked (handle_locals types variables) place ≡ is_handle types (slice_get variables place)
local_marked types [] place = refl
local_marked types (it ∷ rest) zero = refl
local_marked types (it ∷ rest) (suc place) = local_marked types rest place

global_marked : (types : TypeTable) (ops : List Placed) (from : ℕ) (globals : List Global) (k : ℕ)
    → is_marked (handle_globals types ops from globals) k
    ≡ (is_handle types (variable_of_global (slice_get globals k)) && mentions ops (from + k))
global_marked types ops from [] k = refl
global_marked types ops from (it ∷ rest) zero =
    ap (λ n. is_handle types (Some it.variable) && mentions ops n) (let e : from ≡ from + 0 = omega arith in e)
global_marked types ops from (it ∷ rest) (suc k) =
    global_marked types ops (suc from) rest k
    ∙ ap (λ n. is_handle types (variable_of_global (slice_get rest k)) && mentions ops n) (let e : suc from + k ≡ from + suc k = omega arith in e)

and_true : (a : Bool) → a ≡ (a && true)
and_true true = refl
and_true false = refl

module _ (scope : Scope) (code : FunctionCode) where
  name_marked : (v : Variable) → mark_of (handle_locals scope.types scope.variables) (handle_globals scope.types code.ops 0 scope.globals) v
      ≡ is_name scope code v
  name_marked (name.Local place) = local_marked scope.types scope.variables place ∙ and_true (is_handle scope.types (slice_get scope.variables place))
  name_marked (name.Global place) =
      global_marked scope.types code.ops 0 scope.globals place
      ∙ ap (λ n. is_handle scope.types (variable_of_global (slice_get scope.globals place)) && mentions code.ops n)
      (let e : 0 + place ≡ place = omega arith in e)

  pub are_names : (v : Variable) → is_name scope code v ≡ is_in (names_of scope code) v
  are_names v =
      sym (name_marked v)
      ∙ sym (is_listed (handle_locals scope.types scope.variables) (handle_globals scope.types code.ops 0 scope.globals) v)
      ∙ ap (λ (list : List Variable). is_in list v) (names_listed scope.types code.ops scope.variables scope.globals)

  pub distinct_names : IsDistinct (names_of scope code)
  distinct_names =
      subst IsDistinct (names_listed scope.types code.ops scope.variables scope.globals)
      (distinct_listed (handle_locals scope.types scope.variables) (handle_globals scope.types code.ops 0 scope.globals))
