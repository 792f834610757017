use Rattle.std.proofs.Common.{◌≡◌, rules, replicate}
use Rattle.dimension_core.specs.Setup.{setting}
use Rattle.board_core.proofs.Keeping.{kept_opened}
use Rattle.board_core.proofs.body.Core.new.Goals as goal

pub returns-clause-kept : goal.returns-clause-kept
returns-clause-kept g c =
    let turns : c.in_ok-turns.turns.items ≡ replicate c.args.desks 0 = search (rules, c.in_ok-turns.ensures.items_if_clones_equal, c.in_ok-turns.ensures.items) in
    kept_opened (setting c.args.setup.now) _ c.args.desks c.in_ok-state.ensures c.in_ok-new.ensures.entries turns c.requires.low c.requires.high
