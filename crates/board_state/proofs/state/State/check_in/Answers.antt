use Rattle.std.proofs.Common.{ap, ◌∙◌}
use Rattle.std.specs.Option.{option_map}
use Rattle.permission_table.specs.Bits.{allowed_by}
use Rattle.board_state.specs.Held.{HeldState}
use Rattle.board_state.proofs.Stepping.{may_same}
use Rattle.board_state.proofs.state.State.check_in.Goals as goal

pub returns : goal.returns
returns c s state session holds found =
    let held = c.args.self.now in
    c.allows.ensures
    ∙ ap (λ (h : HeldState). allowed_by h.tables.customers h.tables.vehicles (option_map (λ rows. rows.now) c.args.found) c.args.operation c.args.object) c.self.view_is
    ∙ ap (λ rows. allowed_by held.tables.customers held.tables.vehicles rows c.args.operation c.args.object) found
    ∙ may_same s held state holds session c.args.operation c.args.object
