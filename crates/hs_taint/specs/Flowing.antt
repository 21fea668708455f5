-- The graph of the code's record.
--     whole_in, known_in graph      the program and what is known in it
--     flow_in graph                 its graph
--     is_framed graph               it keeps to its calls
--     site_in here                  the operation of the code's record
use Rattle.hs_chains.specs.Answering.{knowledge_by}
use Rattle.hs_chains.specs.Knowledge.{Knowledge}
use Rattle.hs_effects.specs.Calling.{whole_of}
use Rattle.hs_facts.specs.Effects.{WholeCode}
use Rattle.hs_search.specs.Graphs.{FlowGraph, IsFramed}
use Rattle.hs_taint.specs.Laws.Framed.{framed}
use Rattle.hs_taint.specs.Routes.{Site, flow_of}
use Rattle.hs_taint.specs.declared.graph.Here.{Here}
use Rattle.hs_taint.specs.declared.graph.ProgramGraph.{ProgramGraph}

-- the program
abbrev pub whole_in : ProgramGraph → WholeCode
whole_in it = whole_of it.code.now

-- what is known in it
abbrev pub known_in : ProgramGraph → Knowledge
known_in it = knowledge_by (whole_of it.code.now) it.effects.now it.must.now

-- its graph
abbrev pub flow_in : ProgramGraph → FlowGraph
flow_in it = flow_of (whole_in it) (known_in it)

-- it keeps to its calls
pub is_framed : (it : ProgramGraph) → IsFramed (flow_in it)
is_framed it = framed (whole_in it) (known_in it) it.starts

-- the operation
abbrev pub site_in : Here → Site
site_in it = record { function = it.known.function; at = it.known.at; its = it.its }
