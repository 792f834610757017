use Rattle.std.proofs.Common.{ap, ◌∙◌, arith, sym, length-append, length, ◌∷◌, []}
use Rattle.std.specs.Prelude.{unwrap_or, nat_eq}
use Rattle.std.specs.Map.{lookup}
use Rattle.permission_table.proofs.PutLaws.{unwrap_or-last}
use Rattle.permission_table.proofs.tables.put_all.Goals as goal

pub loop-session-preserved : goal.loop-session-preserved
loop-session-preserved c = record {
  room = omega (arith, c.put.ensures.room, c.loop-session.invariant.room, ap length c.in-Some.ensures.items, length-append c.pop.new.self.items ((c.in-Some.session, c.in-Some.found) ∷ []));
  found = λ q.
      ap (λ old. unwrap_or (lookup (nat_eq q) c.pop.new.self.items) old) (c.put.ensures.rows q)
      ∙ unwrap_or-last c.pop.new.self.items c.in-Some.session c.in-Some.found (lookup (nat_eq q) c.loop-session.rows.entries) q
      ∙ ap (λ changes. unwrap_or (lookup (nat_eq q) changes) (lookup (nat_eq q) c.loop-session.rows.entries)) (sym c.in-Some.ensures.items)
      ∙ c.loop-session.invariant.found q;
}
