-- The tree that a tree of the code is: the same, but for memory.
--     view, view_specifier, view_direct, ..                 of the types that contain one another
--     views, view_specifiers, ..                            of the rows of their lists
--     specification_of, view_type, view_declarator, .., view_unit      of lists, and of the other types
use Rattle.std.specs.Prelude.{List, [], ◌∷◌, map, Option, option_map}
use Rattle.hs_syntax.specs.declared.expr.Expr.{Expr, Name, Number, Character, Strings, Parens', Index', Call', Member'}
use Rattle.hs_syntax.specs.declared.expr.Expr.{Postfix', Prefix', SizeofValue', SizeofType', Cast', Binary'}
use Rattle.hs_syntax.specs.declared.expr.Expr.{Conditional', Assign', Comma', Row_of-Expr, end_of-Expr, more_of-Expr}
use Rattle.hs_syntax.specs.declared.expr.Expr.{Row_of-Left, end_of-Left, more_of-Left}
use Rattle.hs_syntax.specs.declared.expr.TypeName.{TypeName, Row_of-Specifier, end_of-Specifier, more_of-Specifier}
use Rattle.hs_syntax.specs.declared.expr.Specifier.{Specifier, Storage, Dropped, Basic, Named, StructTag, Struct'}
use Rattle.hs_syntax.specs.declared.expr.Specifier.{EnumTag, Enum', Row_of-Member, end_of-Member, more_of-Member}
use Rattle.hs_syntax.specs.declared.expr.Specifier.{Row_of-Constant, end_of-Constant, more_of-Constant}
use Rattle.hs_syntax.specs.declared.expr.Member.{Member' as AMember, Row_of-Declarator, end_of-Declarator}
use Rattle.hs_syntax.specs.declared.expr.Member.{more_of-Declarator}
use Rattle.hs_syntax.specs.declared.expr.Constant.{Plain, Valued'}
use Rattle.hs_syntax.specs.declared.expr.Declarator.{Declarator}
use Rattle.hs_syntax.specs.declared.expr.Direct.{Direct, Empty, Name as ItsName, Parens' as InParens, Array', Sized'}
use Rattle.hs_syntax.specs.declared.expr.Direct.{Function', FunctionOfVoid', Row_of-Parameter, end_of-Parameter}
use Rattle.hs_syntax.specs.declared.expr.Direct.{more_of-Parameter}
use Rattle.hs_syntax.specs.declared.decl.Initialiser.{Initialiser, Value, List', Row_of-Initialiser, end_of-Initialiser}
use Rattle.hs_syntax.specs.declared.decl.Initialiser.{more_of-Initialiser}
use Rattle.hs_syntax.specs.declared.decl.Item.{Item}
use Rattle.hs_syntax.specs.declared.decl.Decl.{Decl}
use Rattle.hs_syntax.specs.declared.stmt.Label.{Label}
use Rattle.hs_syntax.specs.declared.stmt.Label.TheVariants.{Case, Default}
use Rattle.hs_syntax.specs.declared.stmt.Stmt.{Stmt, Block as ABlock, Expr as AnExpr, Empty as AnEmpty, If', IfElse'}
use Rattle.hs_syntax.specs.declared.stmt.Stmt.{While', Do', For', Switch as ASwitch, Break, Continue, Return}
use Rattle.hs_syntax.specs.declared.stmt.Block.{Block, Block', Row_of-Labelled, end_of-Labelled, more_of-Labelled}
use Rattle.hs_syntax.specs.declared.unit.External.{External}
use Rattle.hs_syntax.specs.declared.unit.External.TheVariants.{Function, Declaration as ADeclaration}
use Rattle.hs_syntax.specs.declared.unit.Unit.{Unit}
use Rattle.hs_syntax.specs.Trees as tree
use Rattle.hs_syntax.specs.Trees.{Expression, Expressions, Lefts, NamedType, Specified, Specification, Members}
use Rattle.hs_syntax.specs.Trees.{Constants, Declared, Declarators, Directly, Parameters, Initialising, Initialisers}
use Rattle.hs_syntax.specs.Trees.{Declaring, Declaration, Labelling, Statement, Statements, Compound}
use Rattle.hs_syntax.specs.Trees.{ExternalDeclaration, TranslationUnit}

abbrev mutual
  pub view : Expr → Expression
  view (Name word) = tree.name word
  view (Number word) = tree.number word
  view (Character word) = tree.character word
  view (Strings first others) = tree.strings first others.items
  view (Parens' at p inner) = tree.parens at (view inner)
  view (Index' p base at q index) = tree.index (view base) at (view index)
  view (Call' p callee shape arguments) = tree.call (view callee) (views arguments)
  view (Member' p base access at name) = tree.member (view base) access at name
  view (Postfix' p operand operator at) = tree.postfix (view operand) operator at
  view (Prefix' operator at p operand) = tree.prefix operator at (view operand)
  view (SizeofValue' at p operand) = tree.sizeof_value at (view operand)
  view (SizeofType' at p shape specifiers pointers direct) =
      tree.sizeof_type at
      (tree.typed_as (view_specifiers specifiers) (tree.pointing pointers.items (view_direct direct)))
  view (Cast' at p shape specifiers pointers direct q operand) =
      tree.cast at (tree.typed_as (view_specifiers specifiers) (tree.pointing pointers.items (view_direct direct)))
      (view operand)
  view (Binary' p left operator at q right) = tree.binary (view left) operator at (view right)
  view (Conditional' p test at q then r otherwise) = tree.conditional (view test) at (view then) (view otherwise)
  view (Assign' p target operator at q value) = tree.assign (view target) operator at (view value)
  view (Comma' shape lefts p right) = tree.comma (view_lefts lefts) (view right)

  pub views : {m : _} → Row_of-Expr m → Expressions
  views end_of-Expr = tree.no_expressions
  views (more_of-Expr e rest) = tree.more_expressions (view e) (views rest)

  pub view_lefts : {m : _} → Row_of-Left m → Lefts
  view_lefts end_of-Left = tree.no_lefts
  view_lefts (more_of-Left e at rest) = tree.more_lefts (view e) at (view_lefts rest)

  pub view_specifier : Specifier → Specified
  view_specifier (Storage word at) = tree.storage word at
  view_specifier (Dropped word at) = tree.dropped word at
  view_specifier (Basic word at) = tree.basic word at
  view_specifier (Named word) = tree.named word
  view_specifier (StructTag at tag) = tree.struct_tag at tag
  view_specifier (Struct' at tag brace shape members) = tree.struct_body at tag brace (view_members members)
  view_specifier (EnumTag at tag) = tree.enum_tag at tag
  view_specifier (Enum' at tag brace shape constants comma) =
      tree.enum_body at tag brace (view_constants constants) comma

  pub view_specifiers : {m : _} → Row_of-Specifier m → Specification
  view_specifiers end_of-Specifier = tree.no_specifiers
  view_specifiers (more_of-Specifier specifier rest) =
      tree.more_specifiers (view_specifier specifier) (view_specifiers rest)

  pub view_members : {m : _} → Row_of-Member m → Members
  view_members end_of-Member = tree.no_members
  view_members (more_of-Member (AMember shape specifiers shape' declarators) rest) =
      tree.more_members (view_specifiers specifiers) (view_declarators declarators) (view_members rest)

  pub view_constants : {m : _} → Row_of-Constant m → Constants
  view_constants end_of-Constant = tree.no_constants
  view_constants (more_of-Constant (Plain name) rest) = tree.constant name (view_constants rest)
  view_constants (more_of-Constant (Valued' name p value) rest) =
      tree.valued_constant name (view value) (view_constants rest)

  pub view_declarators : {m : _} → Row_of-Declarator m → Declarators
  view_declarators end_of-Declarator = tree.no_declarators
  view_declarators (more_of-Declarator pointers direct rest) =
      tree.more_declarators (tree.pointing pointers.items (view_direct direct)) (view_declarators rest)

  pub view_direct : Direct → Directly
  view_direct Empty = tree.nothing
  view_direct (ItsName word) = tree.identifier word
  view_direct (InParens p pointers direct) = tree.parens_of (tree.pointing pointers.items (view_direct direct))
  view_direct (Array' p base) = tree.array (view_direct base)
  view_direct (Sized' p base q length) = tree.sized_array (view_direct base) (view length)
  view_direct (Function' p base shape parameters) = tree.function (view_direct base) (view_parameters parameters)
  view_direct (FunctionOfVoid' p base at) = tree.function_of_void (view_direct base) at

  pub view_parameters : {m : _} → Row_of-Parameter m → Parameters
  view_parameters end_of-Parameter = tree.no_parameters
  view_parameters (more_of-Parameter shape specifiers pointers direct rest) =
      tree.more_parameters (view_specifiers specifiers) (tree.pointing pointers.items (view_direct direct))
      (view_parameters rest)

-- a list of specifiers
abbrev pub specification_of : List Specifier → Specification
specification_of [] = tree.no_specifiers
specification_of (it ∷ rest) = tree.more_specifiers (view_specifier it) (specification_of rest)

abbrev pub view_declarator : Declarator → Declared
view_declarator it = tree.pointing it.pointers.items (view_direct it.direct)

abbrev pub view_type : TypeName → NamedType
view_type it = tree.typed_as (specification_of it.specifiers.items) (view_declarator it.declarator)

abbrev mutual
  pub view_initialiser : Initialiser → Initialising
  view_initialiser (Value e) = tree.value (view e)
  view_initialiser (List' at shape its comma) = tree.list at (view_initialisers its) comma

  pub view_initialisers : {m : _} → Row_of-Initialiser m → Initialisers
  view_initialisers end_of-Initialiser = tree.no_initialisers
  view_initialisers (more_of-Initialiser it rest) =
      tree.more_initialisers (view_initialiser it) (view_initialisers rest)

abbrev pub view_item : Item → Declaring
view_item it =
    record { declarator = view_declarator it.declarator; initialiser = option_map view_initialiser it.initialiser }

abbrev pub view_declaration : Decl → Declaration
view_declaration it = record { specifiers = specification_of it.specifiers.items; items = map view_item it.items.items }

abbrev pub view_label : Label → Labelling
view_label (Case at e) = tree.case_ at (view e)
view_label (Default at) = tree.default_ at

abbrev mutual
  pub view_statement : Stmt → Statement
  view_statement (ABlock it) = tree.block (view_block it)
  view_statement (AnExpr e) = tree.expression (view e)
  view_statement (AnEmpty at) = tree.empty at
  view_statement (If' at test p then) = tree.if_ at (view test) (view_statement then)
  view_statement (IfElse' at test p then q otherwise) =
      tree.if_else at (view test) (view_statement then) (view_statement otherwise)
  view_statement (While' at test p body) = tree.while_ at (view test) (view_statement body)
  view_statement (Do' at p body test) = tree.do_ at (view_statement body) (view test)
  view_statement (For' at first test step p body) =
      tree.for_ at (option_map view first) (option_map view test) (option_map view step) (view_statement body)
  view_statement (ASwitch at e it) = tree.switch_ at (view e) (view_block it)
  view_statement (Break at) = tree.break_ at
  view_statement (Continue at) = tree.continue_ at
  view_statement (Return at e) = tree.return_ at (option_map view e)

  pub view_block : Block → Compound
  view_block (Block' opening declarations shape its closing) =
      tree.compound opening (map view_declaration declarations.items) (view_statements its) closing

  pub view_statements : {m : _} → Row_of-Labelled m → Statements
  view_statements end_of-Labelled = tree.no_statements
  view_statements (more_of-Labelled labels it rest) =
      tree.more_statements (map view_label labels.items) (view_statement it) (view_statements rest)

abbrev pub view_external : External → ExternalDeclaration
view_external (Function specifiers declarator body) =
    tree.function_definition (specification_of specifiers.items) (view_declarator declarator) (view_block body)
view_external (ADeclaration it) = tree.declaration (view_declaration it)

abbrev pub view_unit : Unit → TranslationUnit
view_unit it = map view_external it.externals.items
