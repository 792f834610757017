use mir.Syntax.{of_param}
use denote.Exit.{unseen}
use denote.Param.Send.{Quiet-if}
use Rattle.desk_tests.proofs.workers.crowd.both.Goals as goal

-- The closure may be called: what it requires holds, and its types may go to threads.
pub scoped-requires : goal.scoped-requires
scoped-requires g c =
    let may = c.type_bounds in
    record {
      at = λ a. (
        (c.requires.one, c.requires.all),
        (
          record { owned = may.send-N.owned; leaving = λ k. Quiet-if (k (of_param 0)) unseen unseen (λ x w. tt) (λ x w. tt) },
          record { owned = may.send-R.owned; leaving = λ k. Quiet-if (k (of_param 1)) unseen unseen (λ x w. tt) (λ x w. tt) },
          record { shared = may.sync-N.shared },
          record { shared = may.sync-R.shared },
          record { shared = may.sync-W.shared },
        ),
      );
    }
