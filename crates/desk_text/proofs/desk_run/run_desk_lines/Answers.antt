use Rattle.std.proofs.lemmas.Result.{IfOk-weaker, IfErr-weaker}
use Rattle.desk_text.proofs.Held.{held, held_at_stop}
use Rattle.desk_text.proofs.Alone.{alone, alone_at_stop}
use Rattle.desk_text.proofs.desk_run.run_desk_lines.Goals as goal

pub returns-clause-ok : goal.returns-clause-ok
returns-clause-ok g c = IfOk-weaker c.run_lines.result _ _ (λ counts h. held g.N.Naming.opening _ _ _ _ _ _ _ _ c.turns_are_seen.ensures h) c.run_lines.ensures.ok

pub returns-clause-err : goal.returns-clause-err
returns-clause-err g c = IfErr-weaker c.run_lines.result _ _ (λ e h. held_at_stop g.N.Naming.opening e _ _ _ _ _ _ c.turns_are_seen.ensures h) c.run_lines.ensures.err

pub returns-clause-alone : goal.returns-clause-alone
returns-clause-alone g c = λ one only. IfOk-weaker c.run_lines.result _ _ (λ counts h. alone g.N.Naming.opening _ _ _ _ _ _ _ _ one only h) c.run_lines.ensures.ok

pub returns-clause-alone_at_fault : goal.returns-clause-alone_at_fault
returns-clause-alone_at_fault g c = λ one only. IfErr-weaker c.run_lines.result _ _ (λ e h. alone_at_stop g.N.Naming.opening e _ _ _ _ _ _ one only h) c.run_lines.ensures.err
