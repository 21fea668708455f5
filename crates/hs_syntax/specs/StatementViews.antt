-- The views of lists of initialisers and of labelled statements: each is made of the views of its entries.
--     view_labelled                       of one labelled statement, which has no type of its own in `Trees.antt`
--     initialisers_from, statements_from  the list of those entries
use Rattle.std.specs.Prelude.{List, [], ◌∷◌, map}
use Rattle.hs_syntax.specs.declared.stmt.Labelled.{Labelled}
use Rattle.hs_syntax.specs.Trees as tree
use Rattle.hs_syntax.specs.Trees.{Initialising, Initialisers, Labelling, Statement, Statements}
use Rattle.hs_syntax.specs.Views.{view_label, view_statement}

-- a statement with its labels
pub data OneStatement : Type 0 where
  one_statement : List Labelling → Statement → OneStatement

abbrev pub view_labelled : Labelled → OneStatement
view_labelled it = one_statement (map view_label it.labels.items) (view_statement it.statement)

abbrev pub initialisers_from : List Initialising → Initialisers
initialisers_from [] = tree.no_initialisers
initialisers_from (it ∷ rest) = tree.more_initialisers it (initialisers_from rest)

abbrev pub statements_from : List OneStatement → Statements
statements_from [] = tree.no_statements
statements_from (one_statement labels it ∷ rest) = tree.more_statements labels it (statements_from rest)
