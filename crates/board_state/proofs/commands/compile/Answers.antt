use Rattle.std.proofs.Common.{◌≡◌, None, sym, subst}
use Rattle.rbac_core.specs.declared.command.Command.{Command}
use Rattle.rbac_core.specs.Step.{after, refusal_of}
use Rattle.board_state.proofs.commands.compile.Goals as goal

pub returns-clause-change : goal.returns-clause-change
returns-clause-change c =
    let a = c.args in
    record {
      ready = (
        c.in_ok-rows.ensures.of,
        subst (λ (m : Command). refusal_of a.policy.now.now m ≡ None) (sym c.in_ok-command.ensures) c.requires.allowed,
        subst (λ (m : Command). a.policy.now.tried ≡ after a.policy.now.now m) (sym c.in_ok-command.ensures) c.requires.tried,
      );
      made = c.requires.tried;
      compiled = c.in_ok-rows.ensures.compiled;
      sizes = c.in_ok-rows.ensures.sizes;
    }
