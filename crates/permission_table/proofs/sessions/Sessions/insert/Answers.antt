use Rattle.std.proofs.Common.{ℕ, cond, List, Option, is_some, sym, ap, ◌∙◌, arith}
use Rattle.std.specs.Prelude.{nat_eq}
use Rattle.std.specs.Option.{option_map_or}
use Rattle.role_hierarchy.specs.Roles.{has}
use Rattle.permission_table.specs.Bits.{SessionAccess}
use Rattle.permission_table.specs.Reaching.{SessionsState, reach_at}
use Rattle.permission_table.proofs.ReachLaws.{reach_before, reach_inserted, turned_reached, one_more}
use Rattle.permission_table.proofs.sessions.Sessions.insert.Goals as goal

pub turn-requires-clause-place : goal.turn-requires-clause-place
turn-requires-clause-place c =
    omega (arith, c.in-Ok.ensures.within, c.in-Ok.ensures.len, one_more (is_some c.in-Ok.old), c.requires, ap (λ (s : SessionsState). s.room) c.self.view_is, c.self.invariant.within)

pub turn-requires-clause-from : goal.turn-requires-clause-from
turn-requires-clause-from c role small =
    c.self.invariant.marks role c.in-Ok.place small
    (omega (arith, c.in-Ok.ensures.within, c.in-Ok.ensures.len, one_more (is_some c.in-Ok.old), c.requires, ap (λ (s : SessionsState). s.room) c.self.view_is, c.self.invariant.within))
    ∙ ap (λ n. has n role)
    (ap (reach_at c.self.inside.rows.entries) c.in-Ok.ensures.index ∙ reach_before c.args.session c.self.inside.rows.entries
    ∙ sym (c.reach_of.ensures ∙ ap (λ (o : Option SessionAccess). option_map_or (λ (access : SessionAccess). access.reach) o 0) c.in-Ok.ensures.old))

pub invariant_of-self : goal.invariant_of-self
invariant_of-self c =
    let es : List (ℕ × SessionAccess) = c.self.inside.rows.entries in
    turned_reached c.self.inside.reaching c.turn.new.self es c.insert_full.new.self.entries c.in-Ok.place c.reach-reach.result c.self.invariant c.turn.ensures.places c.turn.ensures.marks
    (omega (arith, c.in-Ok.ensures.len, one_more (is_some c.in-Ok.old), c.requires, ap (λ (s : SessionsState). s.room) c.self.view_is, c.self.invariant.within))
    (λ q.
    ap (λ x. reach_at x q) c.in-Ok.ensures.entries ∙ reach_inserted c.args.session c.args.made es q
    ∙ ap (λ n. cond (nat_eq q n) c.args.made.reach (reach_at es q)) (sym c.in-Ok.ensures.index)
    ∙ ap (λ n. cond (nat_eq q c.in-Ok.place) n (reach_at es q)) (sym c.reach-reach.ensures))
