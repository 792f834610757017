use Rattle.std.proofs.Common.{refl}
use Rattle.board_rules.specs.declared.call.Call.TheVariants.{Policy}
use Rattle.board_state.proofs.Stepping.{policy_kept}
use Rattle.board_state.proofs.state.State.command.Goals as goal

pub returns-clause-holds : goal.returns-clause-holds
returns-clause-holds c s state holds =
    policy_kept s c.args.self.now c.carry_out.new.self state (Policy c.args.session c.args.command.now) c.args.session c.args.command.now c.carry_out.result refl holds
    c.carry_out.ensures.others c.carry_out.ensures.reply c.carry_out.ensures.made
