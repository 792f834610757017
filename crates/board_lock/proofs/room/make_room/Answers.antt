use Rattle.std.proofs.Common.{◌≡◌, ℕ, ◌<◌, ◌≤◌, length, refl, sym, ap, subst, ◌∙◌, arith}
use Rattle.dimension_core.specs.Setting.{Setting}
use Rattle.dimension_core.specs.Setup.{setting}
use Rattle.board_rules.specs.History.{Opening, state_after}
use Rattle.board_core.specs.Kept.{CoreState, IsKept}
use Rattle.published_board.specs.Shelves.{view_of}
use Rattle.board_lock.proofs.room.make_room.Goals as goal

few_readers : (n : ℕ) → 1 ≤ n → n ≤ 64 → (0 < n) × (n < 4294967296)
few_readers n low high = (low, omega arith)

pub invariant_of-room : goal.invariant_of-room
invariant_of-room g c =
    let s : Setting = setting c.args.board.setup.value in
    let old : CoreState = c.args.board.core in
    let new : CoreState = c.give_up.new.self in
    let opening : c.in-Ok-open.publication.opening ≡ record { setting = s; desks = length old.turns } = c.in-Ok-open.ensures.opening in
    let same : new ≡ record old { held = new.held } = c.give_up.ensures.others in
    record {
      kept = subst (λ (o : Opening). IsKept o.setting new) (sym opening) (c.give_up.ensures.kept s c.args.board.kept);
      desks = ap (λ (k : CoreState). length k.turns) same ∙ sym (ap (λ (o : Opening). o.desks) opening);
      few = subst (λ (o : Opening). o.setting.max_events ≤ 16777216) (sym opening) (subst (λ (n : ℕ). n ≤ 16777216) (ap (λ x. x.max_events) c.deref.ensures) c.max_events-few.ensures.sound.few_events);
      book_is = refl;
      opening_is = refl;
      entries_are = c.in-Ok-open.ensures.entries ∙ sym (ap (λ (k : CoreState). k.journal) same);
      shown_are = c.in-Ok-open.ensures.shown ∙ sym (ap (λ (k : CoreState). k.journal) same);
      untried = c.give_up.ensures.untried;
    }

pub view-requires : goal.view-requires
view-requires g c = subst (λ x. IsKept (setting x) c.args.board.core) (sym c.deref-2.ensures) c.args.board.kept

pub open-requires-clause-readers : goal.open-requires-clause-readers
open-requires-clause-readers g c = few_readers c.desks-readers.result c.desks-readers.ensures.low c.desks-readers.ensures.high

pub open-requires-clause-legal : goal.open-requires-clause-legal
open-requires-clause-legal g c = c.args.board.kept.legal

pub open-requires-clause-view : goal.open-requires-clause-view
open-requires-clause-view g c = c.in-Ok.ensures.view ∙ ap (λ x. view_of (state_after (setting x) c.args.board.core.journal)) c.deref-2.ensures

pub returns : goal.returns
returns g c =
    let of = c.in-Ok-open.ensures in
    record { start = (of.opening, of.entries); setup = sym (ap (λ (o : Opening). o.setting) of.opening); fault = tt }
