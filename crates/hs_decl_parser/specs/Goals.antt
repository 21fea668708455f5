-- What is read at a place of declarations and statements, and what is found there.
--     Goal         a phrase, or the rest of one after its entries so far
--     Tree goal    what is found
use Rattle.std.specs.Prelude.{Bool, List}
use Rattle.hs_syntax.specs.StatementViews.{OneStatement}
use Rattle.hs_syntax.specs.Trees.{Initialising, Declaring, Declaration, Labelling, Statement}

pub data Goal : Type 0 where
  -- an initialiser; initialisers after earlier ones, and whether a comma ends them
  initialiser : Goal
  initialisers : List Initialising → Goal
  -- declarators of a declaration after earlier ones
  items : List Declaring → Goal
  -- declarations, labels and labelled statements after earlier ones
  declarations : List Declaration → Goal
  labels : List Labelling → Goal
  statements : List OneStatement → Goal
  statement : Goal

abbrev pub Tree : Goal → Type 0
Tree initialiser = Initialising
Tree (initialisers earlier) = List Initialising × Bool
Tree (items earlier) = List Declaring
Tree (declarations earlier) = List Declaration
Tree (labels earlier) = List Labelling
Tree (statements earlier) = List OneStatement
Tree statement = Statement
