use Rattle.std.proofs.Common.{rules, ◌≡◌, refl, subst, length}
use Rattle.callback_store.specs.Tables.{matrix_table}
use Rattle.program_parts.specs.Network.{Sites}
use Rattle.program_parts.proofs.Listed.{travel_listed}
use Rattle.program_parts.proofs.network.Network.travel_matrix.Goals as goal

pub returns : goal.returns
returns c =
    let nodes = subst (λ (s : Sites). s.travel.size ≡ length s.nodes) c.self.view_is c.self.invariant.travel.sized in
    travel_listed (length c.args.self.now.nodes) c.size.result c.args.self.now.travel (matrix_table c.symmetric.result) _
    c.size.ensures.value nodes (search rules) (search rules) c.symmetric.ensures.sized refl c.symmetric.ensures.answers
