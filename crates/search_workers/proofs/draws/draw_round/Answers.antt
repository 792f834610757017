use Rattle.std.proofs.Common.{◌∙◌}
use Rattle.search_workers.specs.Draws.{stream_in, seeded}
use Rattle.search_workers.proofs.Drawing.{behind_two, first_drawn, second_drawn}
use Rattle.search_workers.proofs.draws.draw_round.Goals as goal

pub returns-clause-first : goal.returns-clause-first
unfolding stream_in
returns-clause-first c job words vehicles =
    first_drawn c.args.done c.args.k c.draw-v.result.0 (seeded c.args.seed) (stream_in c.args.rng.now) job c.requires.words words vehicles c.draw-v.ensures.first

pub returns-clause-second : goal.returns-clause-second
unfolding stream_in
returns-clause-second c job words vehicles =
    second_drawn c.args.done c.args.k c.draw-v.result.1 (seeded c.args.seed) (stream_in c.args.rng.now) job c.requires.words words vehicles c.draw-v.ensures.second

pub returns-clause-words : goal.returns-clause-words
unfolding stream_in
returns-clause-words c = c.draw-v.ensures.stream ∙ behind_two c.args.done (seeded c.args.seed) (stream_in c.args.rng.now) c.requires.words
