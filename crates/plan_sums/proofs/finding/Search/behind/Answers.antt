use Rattle.plan_sums.proofs.Searching.{row_more, full_end, bare_end, other_more}
use Rattle.plan_sums.proofs.finding.Search.behind.Goals as goal

pub returns-in-Row : goal.returns-in-Row
returns-in-Row c = λ lines within h e. row_more lines c.args.k c.args.kind c.args.self c.in-Row.is h e

pub returns-in-Other : goal.returns-in-Other
returns-in-Other c = λ lines within h e. other_more lines c.args.k c.args.kind c.args.self c.in-Other.is h e

pub returns-in-End : goal.returns-in-End
returns-in-End c = λ lines within h e. full_end lines c.args.k c.args.kind c.args.self within c.in-End.is c.if-self-k.true h e

pub returns-in-End-2 : goal.returns-in-End-2
returns-in-End-2 c = λ lines within h e. bare_end lines c.args.k c.args.kind c.args.self c.in-End-2.is c.if-self-k.false h e
