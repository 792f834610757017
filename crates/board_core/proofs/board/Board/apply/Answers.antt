use Rattle.std.proofs.Common.{◌≡◌, ◌↔◌, ℕ, true, length, ap, subst}
use Rattle.std.specs.Prelude.{IfOk, IsErrOf}
use Rattle.dimension_core.specs.Setting.{Setting}
use Rattle.dimension_core.specs.Setup.{setting}
use Rattle.board_rules.specs.declared.reply.Fault.TheVariants.{Full}
use Rattle.board_rules.specs.History.{Opening, is_turn, state_after}
use Rattle.board_state.specs.Work.{IsWorkOf, WorksAtMost, call_asks, call_probes}
use Rattle.board_core.specs.Kept.{IsKept}
use Rattle.board_core.proofs.Applying.{history_stays}
use Rattle.board_core.proofs.board.Board.apply.Goals as goal

pub returns-clause-ok : goal.returns-clause-ok
returns-clause-ok g c = c.apply.ensures.ok

pub returns-clause-untaken : goal.returns-clause-untaken
returns-clause-untaken g c = c.apply.ensures.untaken

pub returns-clause-given_up : goal.returns-clause-given_up
returns-clause-given_up g c = c.apply.ensures.given_up

pub returns-clause-untried : goal.returns-clause-untried
returns-clause-untried g c = c.apply.ensures.untried

pub returns-clause-out_of_turn : goal.returns-clause-out_of_turn
returns-clause-out_of_turn g c = c.apply.ensures.out_of_turn

pub returns-clause-full : goal.returns-clause-full
returns-clause-full g c =
    let same = ap (λ u. setting u) c.deref.ensures in
    subst (λ (s : Setting). IsErrOf c.apply.result Full ↔ ((is_turn (length c.args.self.now.core.turns) c.args.self.now.core.journal c.args.event.desk c.args.event.turn ≡ true) × (length c.args.self.now.core.journal ≡ s.max_events))) same
    c.apply.ensures.full

pub returns-clause-work : goal.returns-clause-work
returns-clause-work g c =
    let same = ap (λ u. setting u) c.deref.ensures in
    subst (λ (s : Setting). IfOk c.apply.result (λ reply. IsWorkOf s (state_after s c.args.self.now.core.journal).pins (state_after s c.args.self.now.core.journal).routes c.args.event.call reply c.args.meter.now c.apply.new.meter)) same
    c.apply.ensures.work

pub returns-clause-most : goal.returns-clause-most
returns-clause-most g c =
    let same = ap (λ u. setting u) c.deref.ensures in
    subst (λ (s : Setting). WorksAtMost c.args.meter.now c.apply.new.meter (call_asks s (state_after s c.args.self.now.core.journal).routes c.args.event.call)
    (call_probes (state_after s c.args.self.now.core.journal).pins (state_after s c.args.self.now.core.journal).routes c.args.event.call)) same c.apply.ensures.most

pub invariant_of-self : goal.invariant_of-self
invariant_of-self g c =
    let same = ap (λ u. setting u) c.deref.ensures in
    record { kept = subst (λ (s : Setting). IsKept s c.apply.new.self) same c.apply.ensures.kept }

pub returns-clause-legal : goal.returns-clause-legal
returns-clause-legal g c =
    let same = ap (λ u. setting u) c.deref.ensures in
    (subst (λ (s : Setting). IsKept s c.apply.new.self) same c.apply.ensures.kept).legal

pub returns-clause-opening : goal.returns-clause-opening
returns-clause-opening g c =
    ap (λ (n : ℕ). let o : Opening = record { setting = setting c.args.self.now.setup.value; desks = n } in o) c.apply.ensures.desks

pub returns-clause-err : goal.returns-clause-err
returns-clause-err g c =
    history_stays (setting c.args.self.now.setup.value) c.args.self.now.core c.apply.new.self c.apply.result c.apply.ensures.desks c.apply.ensures.err
