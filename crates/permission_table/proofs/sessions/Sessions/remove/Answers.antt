use Rattle.std.proofs.Common.{ℕ, ◌-◌, List, sym, ap, ◌∙◌, arith}
use Rattle.permission_table.specs.Bits.{SessionAccess}
use Rattle.permission_table.specs.Reaching.{SessionsState, reach_at}
use Rattle.permission_table.proofs.ReachLaws.{removed_reached}
use Rattle.permission_table.proofs.sessions.Sessions.remove.Goals as goal

pub invariant_of-self : goal.invariant_of-self
invariant_of-self c =
    let es : List (ℕ × SessionAccess) = c.self.inside.rows.entries in
    removed_reached c.self.inside.reaching c.turn.new.self c.turn-2.new.self es c.swap_remove.new.self.entries c.args.session c.in-Some.place (c.len-last.result - 1) c.reach_at-moved.result c.new.result c.self.invariant
    (sym c.get_index_of.ensures.index ∙ c.in-Some.is) (omega (arith, c.len-last.ensures.len)) (c.reach_at-moved.ensures ∙ ap (λ (s : SessionsState). reach_at s.entries (c.len-last.result - 1)) (sym c.self.view_is)) c.new.ensures
    c.turn.ensures.places c.turn.ensures.marks c.turn-2.ensures.places c.turn-2.ensures.marks c.swap_remove.ensures.entries (omega (arith, c.swap_remove.ensures.len))
