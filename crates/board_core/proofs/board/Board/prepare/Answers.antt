use Rattle.std.proofs.Common.{◌≡◌, ◌↔◌, true, length, ap, subst}
use Rattle.std.specs.Prelude.{IfOk, IsErrOf}
use Rattle.dimension_core.specs.Setting.{Setting}
use Rattle.dimension_core.specs.Setup.{setting}
use Rattle.board_rules.specs.declared.reply.Fault.TheVariants.{Full}
use Rattle.board_rules.specs.History.{is_turn, state_after}
use Rattle.board_state.specs.Work.{IsWorkOf, WorksAtMost, call_asks, call_probes}
use Rattle.board_core.specs.Kept.{IsKept}
use Rattle.board_core.specs.Prepared.{Makes}
use Rattle.board_core.proofs.board.Board.prepare.Goals as goal

pub returns-clause-of : goal.returns-clause-of
returns-clause-of g c = c.prepare.ensures.of

pub returns-clause-entry : goal.returns-clause-entry
returns-clause-entry g c = c.prepare.ensures.entry

pub returns-clause-makes : goal.returns-clause-makes
returns-clause-makes g c =
    let same = ap (λ u. setting u) c.deref.ensures in
    subst (λ (s : Setting). IfOk c.prepare.result (Makes s)) same c.prepare.ensures.makes

pub returns-clause-untaken : goal.returns-clause-untaken
returns-clause-untaken g c = c.prepare.ensures.untaken

pub returns-clause-given_up : goal.returns-clause-given_up
returns-clause-given_up g c = c.prepare.ensures.given_up

pub returns-clause-untried : goal.returns-clause-untried
returns-clause-untried g c = c.prepare.ensures.untried

pub returns-clause-out_of_turn : goal.returns-clause-out_of_turn
returns-clause-out_of_turn g c = c.prepare.ensures.out_of_turn

pub returns-clause-full : goal.returns-clause-full
returns-clause-full g c =
    let same = ap (λ u. setting u) c.deref.ensures in
    subst (λ (s : Setting). IsErrOf c.prepare.result Full ↔ ((is_turn (length c.args.self.now.core.turns) c.args.self.now.core.journal c.args.event.desk c.args.event.turn ≡ true) × (length c.args.self.now.core.journal ≡ s.max_events))) same
    c.prepare.ensures.full

pub returns-clause-work : goal.returns-clause-work
returns-clause-work g c =
    let same = ap (λ u. setting u) c.deref.ensures in
    subst (λ (s : Setting). IfOk c.prepare.result (λ prepared. IsWorkOf s (state_after s c.args.self.now.core.journal).pins (state_after s c.args.self.now.core.journal).routes c.args.event.call prepared.entry.reply c.args.meter.now c.prepare.new.meter)) same
    c.prepare.ensures.work

pub returns-clause-most : goal.returns-clause-most
returns-clause-most g c =
    let same = ap (λ u. setting u) c.deref.ensures in
    subst (λ (s : Setting). WorksAtMost c.args.meter.now c.prepare.new.meter (call_asks s (state_after s c.args.self.now.core.journal).routes c.args.event.call)
    (call_probes (state_after s c.args.self.now.core.journal).pins (state_after s c.args.self.now.core.journal).routes c.args.event.call)) same c.prepare.ensures.most

pub invariant_of-self : goal.invariant_of-self
invariant_of-self g c =
    let same = ap (λ u. setting u) c.deref.ensures in
    record { kept = subst (λ (s : Setting). IsKept s c.prepare.new.self) same c.prepare.ensures.kept }
