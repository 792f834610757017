use Rattle.board_lock.proofs.Versions.{never_fall, ends_at, in_later, in_met}
use Rattle.board_lock.proofs.laws.commits_stay_in_views.Goals as goal

pub returns : goal.returns
returns c =
    let go_on = c.histories_go_on.ensures.state in
    let push = c.histories_grow_by_entries.ensures.state in
    record { rises = never_fall go_on push; last = ends_at go_on push; own = in_later go_on push; met = in_met go_on push }
