use mir.Syntax.{of_param}
use denote.Exit.{unseen}
use denote.Param.Send.{Quiet-if}
use Rattle.search_workers.proofs.all.work_all.Goals as goal

-- The closure may be called: what it requires holds, and its types may go to threads.
pub scoped-requires : goal.scoped-requires
scoped-requires g c =
    let may = c.type_bounds in
    record {
      at = λ a. (
        (c.requires.setups, c.requires.few, c.requires.lengths.0, c.requires.lengths.1),
        (
          record { owned = may.send-N.owned; leaving = λ k. Quiet-if (k (of_param 0)) unseen unseen (λ x w. tt) (λ x w. tt) },
          record { owned = may.send-R.owned; leaving = λ k. Quiet-if (k (of_param 1)) unseen unseen (λ x w. tt) (λ x w. tt) },
          record { shared = may.sync-N.shared },
          record { shared = may.sync-R.shared },
          record { shared = may.sync-W.shared },
          record { shared = may.sync-G.shared },
        ),
      );
    }
