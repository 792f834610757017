use Rattle.dimension_core.specs.Setup.{setting}
use Rattle.board_rules.specs.declared.hold.Hold.TheVariants.{Pin, Unpin, Freeze, Thaw}
use Rattle.board_core.proofs.Applying.{hold_applied}
use Rattle.board_core.proofs.body.Core.apply.Goals as goal

pub propose-requires : goal.propose-requires
propose-requires g c = c.requires

pub answer_hold-requires : goal.answer_hold-requires
answer_hold-requires g c = c.requires

pub answer_hold-requires-in-Unpin : goal.answer_hold-requires-in-Unpin
answer_hold-requires-in-Unpin g c = c.requires

pub answer_hold-requires-in-Freeze : goal.answer_hold-requires-in-Freeze
answer_hold-requires-in-Freeze g c = c.requires

pub answer_hold-requires-in-Thaw : goal.answer_hold-requires-in-Thaw
answer_hold-requires-in-Thaw g c = c.requires

pub answer_command-requires : goal.answer_command-requires
answer_command-requires g c = c.requires

pub returns-in-Pin : goal.returns-in-Pin
returns-in-Pin g c =
    let e = c.answer_hold.ensures in
    let p = hold_applied (setting c.args.setup.now) c.args.self.now c.answer_hold.new.self c.args.event.desk c.args.event.turn (Pin c.in-Pin.session c.in-Pin.customer) c.args.event.call c.answer_hold.result c.args.meter.now c.answer_hold.new.meter
    c.in-Pin.is e.kept e.ok e.desks e.err e.untried e.out_of_turn e.full e.untaken e.work e.most in
    record { kept = p.kept; ok = p.ok; desks = p.desks; err = p.err; given_up = p.given_up; untried = p.untried; out_of_turn = p.out_of_turn; full = p.full; untaken = p.untaken; work = p.work; most = p.most }

pub returns-in-Unpin : goal.returns-in-Unpin
returns-in-Unpin g c =
    let e = c.answer_hold-in-Unpin.ensures in
    let p = hold_applied (setting c.args.setup.now) c.args.self.now c.answer_hold-in-Unpin.new.self c.args.event.desk c.args.event.turn (Unpin c.in-Unpin.session c.in-Unpin.customer) c.args.event.call c.answer_hold-in-Unpin.result c.args.meter.now c.answer_hold-in-Unpin.new.meter
    c.in-Unpin.is e.kept e.ok e.desks e.err e.untried e.out_of_turn e.full e.untaken e.work e.most in
    record { kept = p.kept; ok = p.ok; desks = p.desks; err = p.err; given_up = p.given_up; untried = p.untried; out_of_turn = p.out_of_turn; full = p.full; untaken = p.untaken; work = p.work; most = p.most }

pub returns-in-Freeze : goal.returns-in-Freeze
returns-in-Freeze g c =
    let e = c.answer_hold-in-Freeze.ensures in
    let p = hold_applied (setting c.args.setup.now) c.args.self.now c.answer_hold-in-Freeze.new.self c.args.event.desk c.args.event.turn (Freeze c.in-Freeze.session c.in-Freeze.vehicle c.in-Freeze.length) c.args.event.call c.answer_hold-in-Freeze.result c.args.meter.now c.answer_hold-in-Freeze.new.meter
    c.in-Freeze.is e.kept e.ok e.desks e.err e.untried e.out_of_turn e.full e.untaken e.work e.most in
    record { kept = p.kept; ok = p.ok; desks = p.desks; err = p.err; given_up = p.given_up; untried = p.untried; out_of_turn = p.out_of_turn; full = p.full; untaken = p.untaken; work = p.work; most = p.most }

pub returns-in-Thaw : goal.returns-in-Thaw
returns-in-Thaw g c =
    let e = c.answer_hold-in-Thaw.ensures in
    let p = hold_applied (setting c.args.setup.now) c.args.self.now c.answer_hold-in-Thaw.new.self c.args.event.desk c.args.event.turn (Thaw c.in-Thaw.session c.in-Thaw.vehicle c.in-Thaw.length) c.args.event.call c.answer_hold-in-Thaw.result c.args.meter.now c.answer_hold-in-Thaw.new.meter
    c.in-Thaw.is e.kept e.ok e.desks e.err e.untried e.out_of_turn e.full e.untaken e.work e.most in
    record { kept = p.kept; ok = p.ok; desks = p.desks; err = p.err; given_up = p.given_up; untried = p.untried; out_of_turn = p.out_of_turn; full = p.full; untaken = p.untaken; work = p.work; most = p.most }
