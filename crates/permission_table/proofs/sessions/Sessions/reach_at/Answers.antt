use Rattle.std.proofs.Common.{ℕ, sym, ap, ◌∙◌}
use Rattle.permission_table.specs.Bits.{SessionAccess}
use Rattle.permission_table.specs.Reaching.{SessionsState, reach_at}
use Rattle.permission_table.proofs.ReachLaws.{reach_of, reach_missing}
use Rattle.permission_table.proofs.sessions.Sessions.reach_at.Goals as goal

pub returns-in-Some : goal.returns-in-Some
returns-in-Some c =
    let e : ℕ × SessionAccess = (c.in-Some.field-0-0.now, c.in-Some.rows.now) in
    c.reach.ensures ∙ sym (reach_of c.self.inside.rows.entries c.args.place e (sym c.in-Some.ensures.entry))
    ∙ ap (λ (s : SessionsState). reach_at s.entries c.args.place) c.self.view_is

pub returns-in-None : goal.returns-in-None
returns-in-None c =
    c.new.ensures ∙ sym (reach_missing c.self.inside.rows.entries c.args.place (sym c.in-None.ensures.entry))
    ∙ ap (λ (s : SessionsState). reach_at s.entries c.args.place) c.self.view_is
