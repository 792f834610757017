use Rattle.std.proofs.Common.{◌≡◌, ℕ, List, Option, ◌++◌, ◌∷◌, [], length, get_or, subst, sym, ap, ◌∙◌, arith, length-append}
use Rattle.std.specs.Prelude.{nat_eq, is_some}
use Rattle.std.specs.Map.{lookup}
use Rattle.permission_table.specs.Bits.{SessionAccess}
use Rattle.permission_table.specs.Compiled.{AreChangesOf}
use Rattle.permission_table.proofs.CompiledLaws.{changes-push, among-push}
use Rattle.permission_table.proofs.tables.changes_for.Goals as goal

pub loop-session-preserved : goal.loop-session-preserved
loop-session-preserved c =
    let before : List (ℕ × Option SessionAccess) = c.loop-session.changes.items in
    let i : ℕ = c.loop-session.session-index in
    let session : ℕ = get_or c.args.sessions.now i 0 in
    let rows : Option SessionAccess = c.in_ok-rows_for.field-0 in
    let pushed : c.push.new.self.items ≡ before ++ (session, rows) ∷ [] = c.in_ok-push.ensures.items in
    record {
      few = omega (arith, ap length pushed, length-append before ((session, rows) ∷ []), c.loop-session.invariant.few);
      sessions = λ q.
          ap (λ changes. is_some (lookup (nat_eq q) changes)) pushed
          ∙ among-push before c.args.sessions.now i rows c.loop-session-test.true q (c.loop-session.invariant.sessions q);
      rows = subst (AreChangesOf c.args.policy.now) (sym pushed) (changes-push c.args.policy.now before session rows c.loop-session.invariant.rows c.in_ok-rows_for.ensures);
    }
