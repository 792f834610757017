use Rattle.std.proofs.Common.{rules, ◌+◌, List, [], ◌∷◌, sym, subst}
use Rattle.rbac_core.specs.declared.command.Command.TheVariants as policy
use Rattle.board_rules.specs.declared.call.Call.{Call}
use Rattle.board_rules.specs.declared.reply.Reply.{Reply}
use Rattle.board_rules.specs.declared.reply.Reply.TheVariants as replies
use Rattle.board_lines.specs.declared.command.Command.TheVariants as commands
use Rattle.line_engine.specs.Answers.{Replied}
use Rattle.worker_runs.specs.SetUp.{AreAsked, by_root, sessions_to, worker}
use Rattle.worker_runs.proofs.Asked.{asked_more, sessions_more}
use Rattle.worker_runs.proofs.set_up.sessions.Goals as goal

pub loop-before-preserved : goal.loop-before-preserved
loop-before-preserved g c =
    let n = c.loop-before.before in
    let told : g.F.Front.step (g.F.Front.seen c.loop-before.front) (commands.Submit (by_root (policy.CreateSession worker (worker ∷ [])))) (Replied (replies.Session (n + 2))) (g.F.Front.seen c.opened.new.front) = search rules in
    record {
      ready = c.opened.ensures.ready;
      asked = subst (λ (calls : List (Call × Reply)). AreAsked g.F.Front.step (g.F.Front.seen c.args.front.now) calls (g.F.Front.seen c.opened.new.front)) (sym (sessions_more n))
          (asked_more g.F.Front.step (g.F.Front.seen c.args.front.now) (g.F.Front.seen c.loop-before.front) (g.F.Front.seen c.opened.new.front) (sessions_to n) (by_root (policy.CreateSession worker (worker ∷ []))) (replies.Session (n + 2)) c.loop-before.invariant.asked told);
    }
