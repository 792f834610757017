use Rattle.board_lines.proofs.Roles.{names_fail, one_more}
use Rattle.board_lines.proofs.arguments.names_argument.Goals as goal

pub returns-in_default : goal.returns-in_default
returns-in_default c = names_fail c.args.words.now c.loop-word.word-index _ c.loop-word-test.true c.in_default.ensures.valid

pub loop-word-preserved : goal.loop-word-preserved
loop-word-preserved c = one_more c.args.words.now c.loop-word.list.items c.push.new.self.items c.in-Some.name c.loop-word.word-index _ c.loop-word-test.true c.loop-word.invariant.0 c.loop-word.invariant.1 c.in-Some.ensures.valid c.in-Some.ensures.value c.in_ok-push.ensures.items
