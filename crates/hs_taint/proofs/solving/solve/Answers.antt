use Rattle.std.proofs.Common.{◌≡◌, ◌∙◌, Err, List, Ok, Result, ap, inl, inr, subst}
use Rattle.hs_chains.specs.Answering.{knowledge_by}
use Rattle.hs_chains.specs.Laws.Knowing.{knowledge_of_tables}
use Rattle.hs_code.specs.declared.code.Code.{Code}
use Rattle.hs_effects.specs.Answers.{Answers}
use Rattle.hs_effects.specs.Answers as effects_right
use Rattle.hs_effects.specs.Calling.{whole_of}
use Rattle.hs_must.specs.Answers as must_right
use Rattle.hs_must.specs.declared.kept.Kept.{Kept}
use Rattle.hs_search.specs.declared.reach.SearchEnd.{SearchEnd}
use Rattle.hs_taint.specs.Flowing.{known_in, whole_in}
use Rattle.hs_taint.specs.Reaching.{IsSolved}
use Rattle.hs_taint.specs.Solving.{Finds}
use Rattle.hs_taint.specs.declared.graph.ProgramGraph.{ProgramGraph}
use Rattle.hs_taint.specs.declared.reached.Reached.{Reached}
use Rattle.hs_taint.proofs.solving.solve.Goals as goal

-- what the graph finds, by the tables that it was made from
finds_by : (code : Code) (effects : Answers) (facts : List Kept) (graph : ProgramGraph) (result : Result Reached SearchEnd) → graph.code.now ≡ code
    → graph.effects.now ≡ effects → graph.must.now ≡ facts → Finds (whole_in graph) (known_in graph) result
    → Finds (whole_of code) (knowledge_by (whole_of code) effects facts) result
finds_by code effects facts graph result code_is effects_is facts_is finds =
    subst (λ m. Finds (whole_of code) (knowledge_by (whole_of code) effects m) result) facts_is
    (subst (λ e. Finds (whole_of code) (knowledge_by (whole_of code) e graph.must.now) result) effects_is
    (subst (λ c. Finds (whole_of c) (knowledge_by (whole_of c) graph.effects.now graph.must.now) result) code_is finds))

-- the pairs that are found are those of the program
solved_by : (code : Code) (effects : Answers) (facts : List Kept) (graph : ProgramGraph) (result : Result Reached SearchEnd) (reached : Reached)
    → graph.code.now ≡ code → graph.effects.now ≡ effects → graph.must.now ≡ facts → effects_right.IsExact (whole_of code) effects
    → must_right.IsExact (whole_of code) facts → Finds (whole_in graph) (known_in graph) result → result ≡ Ok reached → IsSolved (whole_of code) reached
solved_by code effects facts graph result reached code_is effects_is facts_is effects_exact facts_exact finds is =
    record {
      known = knowledge_by (whole_of code) effects facts;
      is_known = knowledge_of_tables (whole_of code) effects facts effects_exact facts_exact;
      exact =
          subst (Finds (whole_of code) (knowledge_by (whole_of code) effects facts)) is
          (finds_by code effects facts graph result code_is effects_is facts_is finds);
    }

-- too many pairs
pub returns-in-Err-Limit : goal.returns-in-Err-Limit
returns-in-Err-Limit c =
    let whole = whole_of c.args.code.now in
    let known = knowledge_by whole c.args.effects.now c.args.must.now in
    inl (record {
      limit_is = λ i. record { kind = c.passed.ensures.kind i; reached = c.passed.ensures.reached i };
      known = known;
      is_known = knowledge_of_tables whole c.args.effects.now c.args.must.now c.requires.effects c.requires.must;
      many =
          subst (Finds whole known) (c.in-Err-Limit.is ∙ ap Err c.in-Err-Limit.field-0-is)
          (finds_by c.args.code.now c.args.effects.now c.args.must.now c.in_ok-graph.graph c.reached_in.result c.in_ok-graph.ensures.code
          c.in_ok-graph.ensures.effects c.in_ok-graph.ensures.must c.reached_in.ensures);
    })

-- not too many
pub has_long-requires : goal.has_long-requires
has_long-requires c = record {
  solved =
      solved_by c.args.code.now c.args.effects.now c.args.must.now c.in_ok-graph.graph c.reached_in.result c.in-Ok.reached c.in_ok-graph.ensures.code
      c.in_ok-graph.ensures.effects c.in_ok-graph.ensures.must c.requires.effects c.requires.must c.reached_in.ensures c.in-Ok.is;
}

-- each chain to some hazard is too long
pub returns-then-branch : goal.returns-then-branch
returns-then-branch c =
    inr (record {
      limit_is = λ i. record { kind = c.passed-then-branch.ensures.kind i; reached = c.passed-then-branch.ensures.reached i };
      reached = c.in-Ok.reached;
      solved =
          solved_by c.args.code.now c.args.effects.now c.args.must.now c.in_ok-graph.graph c.reached_in.result c.in-Ok.reached c.in_ok-graph.ensures.code
          c.in_ok-graph.ensures.effects c.in_ok-graph.ensures.must c.requires.effects c.requires.must c.reached_in.ensures c.in-Ok.is;
      long = c.in_ok-has_long.ensures.long c.if-branch.true;
    })

-- or to none
pub returns : goal.returns
returns c = (
  solved_by c.args.code.now c.args.effects.now c.args.must.now c.in_ok-graph.graph c.reached_in.result c.in-Ok.reached c.in_ok-graph.ensures.code
      c.in_ok-graph.ensures.effects c.in_ok-graph.ensures.must c.requires.effects c.requires.must c.reached_in.ensures c.in-Ok.is,
  c.in_ok-has_long.ensures.short c.if-branch.false,
)
