use Rattle.std.proofs.Common.{◌≡◌, ℕ, ◌<◌, List, [], ◌∷◌, ◌++◌, length, ap, sym, ◌∙◌, subst}
use Rattle.dimension_core.specs.Setting.{Setting}
use Rattle.board_rules.specs.declared.call.Entry.{Entry}
use Rattle.board_rules.specs.History.{IsLegal, state_after}
use Rattle.board_core.specs.Kept.{CoreState, IsKept, entry_of}
use Rattle.published_board.specs.Changed.{IsChangeBy}
use Rattle.board_lock.specs.Commits.{IsFault}
use Rattle.board_lock.proofs.Results.{on_ok, if_ok}
use Rattle.board_lock.proofs.locked.Locked.commit.Goals as goal

pub put_in_place-requires-clause-change : goal.put_in_place-requires-clause-change
put_in_place-requires-clause-change g c =
    let s : Setting = g.N.Naming.opening.setting in
    let of : c.in-Ok.prepared.of ≡ c.judge.new.core = c.in-Ok.ensures.of in
    subst (λ (k : CoreState). IsChangeBy s (state_after s k.journal) c.in-Ok.prepared.entry c.in-Ok-change_of.change) of
    (c.in-Ok-change_of.ensures s (subst (λ (k : CoreState). IsKept s k) (sym of) c.in-Ok.ensures.kept) c.in-Ok.ensures.makes)

pub returns-clause-ok : goal.returns-clause-ok
returns-clause-ok g c =
    let s : Setting = g.N.Naming.opening.setting in
    let made : Entry = c.in-Ok.prepared.entry in
    let before : c.judge.new.core.journal ≡ c.args.self.now.journal = c.judge.ensures.journal ∙ ap (λ (k : CoreState). k.journal) c.self.view_is in
    let journal : c.put_in_place.new.core.journal ≡ c.judge.new.core.journal ++ made ∷ [] = on_ok c.put_in_place.result _ c.in-Ok-put_in_place.reply c.in-Ok-put_in_place.is c.put_in_place.ensures.journal in
    let reply : c.in-Ok-put_in_place.reply ≡ made.reply = if_ok c.put_in_place.result (λ r. r ≡ made.reply) c.in-Ok-put_in_place.reply c.in-Ok-put_in_place.is c.put_in_place.ensures.reply in
    let e : made ≡ entry_of c.args.event c.in-Ok-put_in_place.reply = c.in-Ok.ensures.entry ∙ ap (entry_of c.args.event) (sym reply) in
    record {
      room = subst (λ (es : List Entry). length es < s.max_events) (ap (λ (k : CoreState). k.journal) c.in-Ok.ensures.of ∙ before) c.in-Ok.ensures.makes.space;
      after_is = journal ∙ (λ i. before i ++ e i ∷ []);
      legal = subst (λ (n : ℕ). IsLegal (record { opening = record { setting = s; desks = n }; entries = c.put_in_place.new.core.journal })) c.put_in_place.ensures.desks c.put_in_place.ensures.kept.legal;
    }

pub judge-requires-clause-kept : goal.judge-requires-clause-kept
judge-requires-clause-kept g c = c.self.invariant.kept

pub put_in_place-requires-clause-kept : goal.put_in_place-requires-clause-kept
put_in_place-requires-clause-kept g c = c.in-Ok.ensures.kept

pub put_in_place-requires-clause-entries : goal.put_in_place-requires-clause-entries
put_in_place-requires-clause-entries g c = c.self.invariant.entries_are ∙ sym c.judge.ensures.journal

pub put_in_place-requires-clause-makes : goal.put_in_place-requires-clause-makes
put_in_place-requires-clause-makes g c = c.in-Ok.ensures.makes

pub put_in_place-requires-clause-untried : goal.put_in_place-requires-clause-untried
put_in_place-requires-clause-untried g c = c.in-Ok.ensures.untried

pub invariant_of-self : goal.invariant_of-self
invariant_of-self g c =
    let old = c.self.invariant in
    record {
      kept = c.in-Err.ensures.kept;
      desks = ap length c.judge.ensures.turns ∙ old.desks;
      few = old.few;
      book_is = old.book_is;
      opening_is = old.opening_is;
      entries_are = old.entries_are ∙ sym c.judge.ensures.journal;
      shown_are = old.shown_are ∙ sym c.judge.ensures.journal;
      untried = c.in-Err.ensures.untried;
    }

pub returns-in-Err-clause-err : goal.returns-in-Err-clause-err
returns-in-Err-clause-err g c = (
  c.judge.ensures.journal ∙ ap (λ (k : CoreState). k.journal) c.self.view_is,
  subst (λ (k : CoreState). IsFault g.N.Naming.opening k.journal c.args.event.desk c.args.event.turn c.in-Err.fault) c.self.view_is c.in-Err.ensures.fault,
)

pub returns-in_default-clause-err : goal.returns-in_default-clause-err
returns-in_default-clause-err g c =
    let before = c.judge.ensures.journal ∙ ap (λ (k : CoreState). k.journal) c.self.view_is in (
      ap (λ (k : CoreState). k.journal) c.give_up.ensures.others ∙ before,
      subst (λ (es : List Entry). length es < g.N.Naming.opening.setting.max_events) (ap (λ (k : CoreState). k.journal) c.in-Ok.ensures.of ∙ before) c.in-Ok.ensures.makes.space,
    )
