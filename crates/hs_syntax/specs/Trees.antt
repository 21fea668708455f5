-- Syntax trees, as contracts see them: without memory. A node for each production of the grammar (`Grammar.antt`), with
-- the places of its tokens that later phases name, and lists of nodes. `Views.antt` says which of them a tree of the
-- code is.
use Rattle.std.specs.Prelude.{Bool, List, Option}
use Rattle.hs_tokens.specs.declared.place.Place.{Place}
use Rattle.hs_syntax.specs.declared.word.Word.{Word}
use Rattle.hs_syntax.specs.declared.operators.Access.{Access}
use Rattle.hs_syntax.specs.declared.operators.AssignOperator.{AssignOperator}
use Rattle.hs_syntax.specs.declared.operators.Basic.{Basic}
use Rattle.hs_syntax.specs.declared.operators.BinaryOperator.{BinaryOperator}
use Rattle.hs_syntax.specs.declared.operators.Dropped.{Dropped}
use Rattle.hs_syntax.specs.declared.operators.Pointer.{Pointer}
use Rattle.hs_syntax.specs.declared.operators.PostfixOperator.{PostfixOperator}
use Rattle.hs_syntax.specs.declared.operators.PrefixOperator.{PrefixOperator}
use Rattle.hs_syntax.specs.declared.operators.Storage.{Storage}

mutual
  -- expressions (X3.159-1989 3.3)
  pub data Expression : Type 0 where
    name : Word → Expression
    number : Word → Expression
    character : Word → Expression
    strings : Word → List Word → Expression
    parens : Place → Expression → Expression
    index : Expression → Place → Expression → Expression
    call : Expression → Expressions → Expression
    member : Expression → Access → Place → Word → Expression
    postfix : Expression → PostfixOperator → Place → Expression
    prefix : PrefixOperator → Place → Expression → Expression
    sizeof_value : Place → Expression → Expression
    sizeof_type : Place → NamedType → Expression
    cast : Place → NamedType → Expression → Expression
    binary : Expression → BinaryOperator → Place → Expression → Expression
    conditional : Expression → Place → Expression → Expression → Expression
    assign : Expression → AssignOperator → Place → Expression → Expression
    comma : Lefts → Expression → Expression

  pub data Expressions : Type 0 where
    no_expressions : Expressions
    more_expressions : Expression → Expressions → Expressions

  -- the left operands of commas, each with the place of its comma (3.3.17)
  pub data Lefts : Type 0 where
    no_lefts : Lefts
    more_lefts : Expression → Place → Lefts → Lefts

  -- type names (3.5.5)
  pub data NamedType : Type 0 where
    typed_as : Specification → Declared → NamedType

  -- declaration specifiers (3.5.1 to 3.5.3)
  pub data Specified : Type 0 where
    storage : Storage → Place → Specified
    dropped : Dropped → Place → Specified
    basic : Basic → Place → Specified
    named : Word → Specified
    struct_tag : Place → Word → Specified
    struct_body : Place → Option Word → Place → Members → Specified
    enum_tag : Place → Word → Specified
    enum_body : Place → Option Word → Place → Constants → Bool → Specified

  pub data Specification : Type 0 where
    no_specifiers : Specification
    more_specifiers : Specified → Specification → Specification

  -- members of structs (3.5.2.1)
  pub data Members : Type 0 where
    no_members : Members
    more_members : Specification → Declarators → Members → Members

  -- enumeration constants (3.5.2.2)
  pub data Constants : Type 0 where
    no_constants : Constants
    constant : Word → Constants → Constants
    valued_constant : Word → Expression → Constants → Constants

  -- declarators (3.5.4, 3.5.5)
  pub data Declared : Type 0 where
    pointing : List Pointer → Directly → Declared

  pub data Declarators : Type 0 where
    no_declarators : Declarators
    more_declarators : Declared → Declarators → Declarators

  -- what follows the pointers of a declarator
  pub data Directly : Type 0 where
    nothing : Directly
    identifier : Word → Directly
    parens_of : Declared → Directly
    array : Directly → Directly
    sized_array : Directly → Expression → Directly
    function : Directly → Parameters → Directly
    function_of_void : Directly → Place → Directly

  -- parameters (3.5.4.3)
  pub data Parameters : Type 0 where
    no_parameters : Parameters
    more_parameters : Specification → Declared → Parameters → Parameters

mutual
  -- initialisers (3.5.7)
  pub data Initialising : Type 0 where
    value : Expression → Initialising
    list : Place → Initialisers → Bool → Initialising

  pub data Initialisers : Type 0 where
    no_initialisers : Initialisers
    more_initialisers : Initialising → Initialisers → Initialisers

-- declarators with what they start with (3.5)
pub record Declaring : Type 0 where
  pub declarator : Declared
  pub initialiser : Option Initialising

-- declarations
pub record Declaration : Type 0 where
  pub specifiers : Specification
  pub items : List Declaring

-- labels of a switch (3.6.1)
pub data Labelling : Type 0 where
  case_ : Place → Expression → Labelling
  default_ : Place → Labelling

mutual
  -- statements (3.6)
  pub data Statement : Type 0 where
    block : Compound → Statement
    expression : Expression → Statement
    empty : Place → Statement
    if_ : Place → Expression → Statement → Statement
    if_else : Place → Expression → Statement → Statement → Statement
    while_ : Place → Expression → Statement → Statement
    do_ : Place → Statement → Expression → Statement
    for_ : Place → Option Expression → Option Expression → Option Expression → Statement → Statement
    switch_ : Place → Expression → Compound → Statement
    break_ : Place → Statement
    continue_ : Place → Statement
    return_ : Place → Option Expression → Statement

  -- compound statements (3.6.2)
  pub data Compound : Type 0 where
    compound : Place → List Declaration → Statements → Place → Compound

  pub data Statements : Type 0 where
    no_statements : Statements
    more_statements : List Labelling → Statement → Statements → Statements

-- external declarations (3.7)
pub data ExternalDeclaration : Type 0 where
  function_definition : Specification → Declared → Compound → ExternalDeclaration
  declaration : Declaration → ExternalDeclaration

-- translation units
abbrev pub TranslationUnit : Type 0
TranslationUnit = List ExternalDeclaration
