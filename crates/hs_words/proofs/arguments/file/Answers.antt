use Rattle.clap.specs.Lexer.{usize_max}
use Rattle.std.proofs.Common.{codes}
use Rattle.hs_words.proofs.Building.{required_rule}
use Rattle.hs_words.proofs.arguments.file.Goals as goal

pub returns-clause-rule : goal.returns-clause-rule
returns-clause-rule c =
    required_rule (codes "FILE") c.new.result c.required.result c.num_args.result (record { start_inclusive = 1; end_inclusive = usize_max })
    c.new.ensures.rule c.required.ensures c.num_args.ensures.0 c.num_args.ensures.1
