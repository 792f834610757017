-- A core keeps its history after one more call, and what it holds is ready for the next judgement.
use Rattle.std.proofs.Common.{◌≡◌, ℕ, zero, suc, Some, ◌+◌, ◌-◌, ◌<◌, ◌≤◌, true, List, [], ◌∷◌, ◌++◌, length, refl, sym, ap, ◌∙◌, subst, arith, inl, inr, length-set, length-append, Result, Ok, Err}
use Rattle.std.specs.Prelude.{OnErr, ◌==◌, slice_get, slice_index, slice_set, replicate, cond, if◌then◌else◌}
use Rattle.std.proofs.lemmas.Bool.{and_parts, leb-true, cases_eq, eq-eqb, ne_eqb, eqb-true}
use Rattle.std.proofs.lemmas.List.{length-replicate, get_or-set_same, get_or-set_other}
use Rattle.callback_store.specs.declared.meter.Meter.{Meter}
use Rattle.dimension_core.specs.Setting.{Setting}
use Rattle.dimension_core.specs.Feasible.{IsFeasible}
use Rattle.pin_core.specs.Pins.{PinState, DoPinsHold, DoFrontsFit}
use Rattle.range_cache.specs.Cache.{IsCacheOf}
use Rattle.policy_core.specs.State.{PolicyState}
use Rattle.permission_table.specs.Compiled.{AreCompiled, HasSizes}
use Rattle.board_rules.specs.declared.call.Call.{Call}
use Rattle.board_rules.specs.declared.call.Entry.{Entry}
use Rattle.board_rules.specs.declared.reply.Reply.{Reply}
use Rattle.board_rules.specs.Good.{IsGood}
use Rattle.board_rules.specs.History.{Opening, state_after, turns_of, is_turn, IsNext, IsLegal}
use Rattle.board_rules.specs.State.{BoardState}
use Rattle.board_rules.specs.Step.{IsReply, after}
use Rattle.board_state.specs.Changes.{Tries, GivesUp, WillHold}
use Rattle.board_state.specs.Held.{HeldState, Holds, IsOpening, IsReady}
use Rattle.board_state.specs.Work.{IsWorkOf, WorksAtMost, call_asks, call_probes}
use Rattle.board_core.specs.Kept.{CoreState, IsKept}
use Rattle.board_core.specs.Prepared.{PreparedState, Makes}

-- calls may be judged on what is held of a good state that has room for one more commit
pub ready : (s : Setting) (held : HeldState) (state : BoardState) → Holds s held state → IsGood s state → length state.commits < 16777216 → IsReady s held
ready s held state holds good few = record {
  customers = holds.customers;
  sized = ap length holds.routes ∙ good.sized;
  pinned = ap (λ (p : PinState). length p.pins) holds.pins ∙ good.pinned;
  frozen = ap (λ (p : PinState). length p.fronts) holds.pins ∙ good.frozen;
  holding = subst (λ (rs : List (List ℕ)). DoPinsHold held.pins rs) (sym holds.routes) (subst (λ (p : PinState). DoPinsHold p state.routes) (sym holds.pins) good.pins);
  fitting = subst (λ (rs : List (List ℕ)). DoFrontsFit held.pins rs) (sym holds.routes) (subst (λ (p : PinState). DoFrontsFit p state.routes) (sym holds.pins) good.fronts);
  feasible = subst (λ (rs : List (List ℕ)). IsFeasible s rs) (sym holds.routes) good.feasible;
  cache = subst (λ (rs : List (List ℕ)). IsCacheOf s rs held.cache) (sym holds.routes) holds.cache;
  compiled = subst (λ (p : PolicyState). ∥ AreCompiled held.tables p ∥₁) (sym holds.policy) holds.compiled;
  sizes = subst (λ (p : PolicyState). HasSizes p held.tables) (sym holds.policy) holds.sizes;
  room = subst (λ (n : ℕ). n < 16777216) (sym holds.stamps.version) few;
}

-- what stands for the state does not depend on what was tried or on how much room there is
pub holds_tried : (s : Setting) (old new : HeldState) (state : BoardState) → Tries old new → Holds s old state → Holds s new state
holds_tried s old new state tries holds = subst (λ (h : HeldState). Holds s h state) (sym tries) (record {
  policy = holds.policy;
  compiled = holds.compiled;
  sizes = record { customers = holds.sizes.customers; vehicles = holds.sizes.vehicles };
  customers = holds.customers;
  routes = holds.routes;
  stamps = holds.stamps;
  pins = holds.pins;
  cache = holds.cache;
})

-- a core with the same journal and turns, which holds the same state, keeps its history too
pub kept_same : (s : Setting) (old new : CoreState) → IsKept s old → new.journal ≡ old.journal → new.turns ≡ old.turns → Tries old.held new.held
    → IsKept s new
kept_same s old new kept journal turns tries =
    let same : new ≡ record old { held = new.held; room = new.room; spare = new.spare } =
    λ i. record { held = new.held; journal = journal i; turns = turns i; room = new.room; spare = new.spare } in
    subst (λ (c : CoreState). IsKept s c) (sym same) (record {
      legal = kept.legal;
      held = holds_tried s old.held new.held (state_after s old.journal) tries kept.held;
      few = kept.few;
      turns = kept.turns;
      some_desk = kept.some_desk;
      few_desks = kept.few_desks;
    })

-- what was tried is given up
pub gives_up_tries : (old new : HeldState) → GivesUp old new → Tries old new
gives_up_tries old new e = λ i. record {
  policy = record new.policy { now = ap (λ (h : HeldState). h.policy.now) e i };
  tables = record (ap (λ (h : HeldState). h.tables) e i) { room = new.tables.room };
  plan = ap (λ (h : HeldState). h.plan) e i;
  pins = ap (λ (h : HeldState). h.pins) e i;
  cache = ap (λ (h : HeldState). h.cache) e i;
}

-- one more entry
pub kept_after : (s : Setting) (core new : CoreState) (e : Entry)
    → ((o : Opening) (es : List Entry) (x : Entry) → IsLegal (record { opening = o; entries = es }) → IsNext o es x → IsLegal (record { opening = o; entries = es ++ x ∷ [] }))
    → ((t : Setting) (es : List Entry) (x : Entry) → state_after t (es ++ x ∷ []) ≡ after (state_after t es) x.call x.reply)
    → ((desk : ℕ) (es : List Entry) (x : Entry) → turns_of desk (es ++ x ∷ []) ≡ turns_of desk es + (if x.desk == desk then 1 else 0))
    → IsKept s core → length core.journal < s.max_events → IsNext (record { setting = s; desks = length core.turns }) core.journal e
    → new.journal ≡ core.journal ++ e ∷ [] → new.turns ≡ slice_set core.turns (e.desk - 1) e.turn
    → Holds s new.held (after (state_after s core.journal) e.call e.reply) → IsKept s new
kept_after s core new e legal_more state_more turns_more kept space next journal turns holds =
    let o : Opening = record { setting = s; desks = length core.turns } in
    let same_desks : length new.turns ≡ length core.turns = ap length turns ∙ length-set core.turns (e.desk - 1) e.turn in
    let low = next.desk_low in
    let high = next.desk_high in
    record {
      legal = subst (λ (n : ℕ). IsLegal (record { opening = record { setting = s; desks = n }; entries = new.journal })) (sym same_desks)
          (subst (λ (es : List Entry). IsLegal (record { opening = o; entries = es })) (sym journal) (legal_more o core.journal e kept.legal next));
      held = subst (λ (x : BoardState). Holds s new.held x) (sym (ap (state_after s) journal ∙ state_more s core.journal e)) holds;
      few = let more = ap length journal ∙ length-append core.journal (e ∷ []) in omega (arith, space, more);
      turns = λ desk from to.
          let there : desk ≤ length core.turns = omega arith in
          let old : slice_index core.turns (desk - 1) ≡ turns_of desk core.journal = kept.turns desk from there in
          let count : turns_of desk new.journal ≡ turns_of desk core.journal + cond (e.desk == desk) 1 0 = ap (turns_of desk) journal ∙ turns_more desk core.journal e in
          let row : slice_index new.turns (desk - 1) ≡ slice_index (slice_set core.turns (e.desk - 1) e.turn) (desk - 1) = ap (λ xs. slice_index xs (desk - 1)) turns in
          elim (cases_eq desk e.desk) [
            | inl same ↦
                let within : e.desk - 1 < length core.turns = omega arith in
                let here : slice_index (slice_set core.turns (e.desk - 1) e.turn) (desk - 1) ≡ e.turn =
                ap (λ n. slice_index (slice_set core.turns (e.desk - 1) e.turn) (n - 1)) same ∙ get_or-set_same core.turns (e.desk - 1) e.turn 0 within in
                let one : (let n : ℕ = cond (e.desk == desk) 1 0 in n ≡ 1) = ap (λ b. cond b 1 0) (eq-eqb e.desk desk (sym same)) in
                row ∙ (here ∙ (next.turn ∙ (ap (λ n. turns_of n core.journal + 1) (sym same) ∙ (ap (λ n. turns_of desk core.journal + n) (sym one) ∙ sym count))))
            | inr other ↦
                let apart : (desk - 1 ≡ e.desk - 1) → ⊥ = λ h. other (omega (arith, h)) in
                let here : slice_index (slice_set core.turns (e.desk - 1) e.turn) (desk - 1) ≡ slice_index core.turns (desk - 1) =
                get_or-set_other core.turns (e.desk - 1) (desk - 1) e.turn 0 apart in
                let none : (let n : ℕ = cond (e.desk == desk) 1 0 in n ≡ 0) = ap (λ b. cond b 1 0) (ne_eqb e.desk desk (λ h. other (sym h))) in
                row ∙ (here ∙ (old ∙ (sym (omega (arith, none)) ∙ sym count)))
          ];
      some_desk = subst (λ (n : ℕ). 1 ≤ n) (sym same_desks) kept.some_desk;
      few_desks = subst (λ (n : ℕ). n ≤ 64) (sym same_desks) kept.few_desks;
    }

-- an event that has its turn
pub turn_due : (n : ℕ) (es : List Entry) (desk turn : ℕ) → is_turn n es desk turn ≡ true → (1 ≤ desk) × (desk ≤ n) × (turn ≡ turns_of desk es + 1)
turn_due n es desk turn h =
    let one = and_parts _ _ h in
    let two = and_parts _ _ one.0 in
    (leb-true 1 desk two.0, leb-true desk n two.1, eqb-true turn (turns_of desk es + 1) one.1)

-- a judged event that has its turn, over a core with the same journal and turns
pub makes_of : (s : Setting) (old new : CoreState) (p : PreparedState) → p.of ≡ new → new.journal ≡ old.journal → new.turns ≡ old.turns
    → is_turn (length old.turns) old.journal p.entry.desk p.entry.turn ≡ true → length old.journal < s.max_events
    → ∥ IsReply s (state_after s old.journal) p.entry.call p.entry.reply ∥₁
    → WillHold s new.held p.judged.change (after (state_after s old.journal) p.entry.call p.entry.reply) → Makes s p
makes_of s old new p of same_journal same_turns turn space reply will =
    let due = turn_due (length old.turns) old.journal p.entry.desk p.entry.turn turn in
    let journal : p.of.journal ≡ old.journal = ap (λ (x : CoreState). x.journal) of ∙ same_journal in
    let turns : p.of.turns ≡ old.turns = ap (λ (x : CoreState). x.turns) of ∙ same_turns in
    record {
      next = record {
        desk_low = due.0;
        desk_high = subst (λ (ts : List ℕ). p.entry.desk ≤ length ts) (sym turns) due.1;
        turn = subst (λ (es : List Entry). p.entry.turn ≡ turns_of p.entry.desk es + 1) (sym journal) due.2;
        reply = subst (λ (es : List Entry). ∥ IsReply s (state_after s es) p.entry.call p.entry.reply ∥₁) (sym journal) reply;
      };
      will = subst (λ (es : List Entry). WillHold s p.of.held p.judged.change (after (state_after s es) p.entry.call p.entry.reply)) (sym journal)
          (subst (λ (x : CoreState). WillHold s x.held p.judged.change (after (state_after s old.journal) p.entry.call p.entry.reply)) (sym of) will);
      space = subst (λ (es : List Entry). length es < s.max_events) (sym journal) space;
    }

-- a core that was just opened
pub kept_opened : (s : Setting) (core : CoreState) (desks : ℕ) → IsOpening s core.held → core.journal ≡ [] → core.turns ≡ replicate desks 0 → 1 ≤ desks → desks ≤ 64 → IsKept s core
unfolding IsOpening
kept_opened s core desks opening journal turns low high =
    let many : length core.turns ≡ desks = ap length turns ∙ length-replicate desks 0 in
    record {
      legal = λ k e at. let none : slice_get (let es : List Entry = [] in es) k ≡ Some e = subst (λ (es : List Entry). slice_get es k ≡ Some e) journal at in absurd cc;
      held = subst (λ (es : List Entry). Holds s core.held (state_after s es)) (sym journal) opening;
      few = subst (λ (es : List Entry). length es ≤ s.max_events) (sym journal) (omega arith);
      turns = λ desk from to. ap (λ xs. slice_index xs (desk - 1)) turns ∙ (zeros desks (desk - 1) ∙ sym (ap (turns_of desk) journal));
      some_desk = subst (λ (n : ℕ). 1 ≤ n) (sym many) low;
      few_desks = subst (λ (n : ℕ). n ≤ 64) (sym many) high;
    }
  where
    zeros : (n k : ℕ) → slice_index (replicate n 0) k ≡ 0
    zeros zero k = refl
    zeros (suc n) zero = refl
    zeros (suc n) (suc k) = zeros n k

-- what is counted on what is held is counted of the state for which it stands
pub work_of : (s : Setting) (held : HeldState) (state : BoardState) (call : Call) (reply : Reply) (from to : Meter) → Holds s held state
    → IsWorkOf s held.pins held.plan.routes call reply from to → IsWorkOf s state.pins state.routes call reply from to
work_of s held state call reply from to holds work =
    subst (λ (rs : List (List ℕ)). IsWorkOf s state.pins rs call reply from to) holds.routes
    (subst (λ (p : PinState). IsWorkOf s p held.plan.routes call reply from to) holds.pins work)

pub most_of : (s : Setting) (held : HeldState) (state : BoardState) (call : Call) (from to : Meter) → Holds s held state
    → WorksAtMost from to (call_asks s held.plan.routes call) (call_probes held.pins held.plan.routes call) → WorksAtMost from to (call_asks s state.routes call) (call_probes state.pins state.routes call)
most_of s held state call from to holds most =
    subst (λ (rs : List (List ℕ)). WorksAtMost from to (call_asks s rs call) (call_probes state.pins rs call)) holds.routes
    (subst (λ (p : PinState). WorksAtMost from to (call_asks s held.plan.routes call) (call_probes p held.plan.routes call)) holds.pins most)

pub none_counted : (m : Meter) (asks probes : ℕ) → WorksAtMost m m asks probes
none_counted m asks probes = record {
  walks = refl;
  asks_low = omega arith;
  asks_least = omega arith;
  asks_high = omega arith;
  probes_low = omega arith;
  probes_least = omega arith;
  probes_high = omega arith;
}

pub on_err : {T E : Type 0} (result : Result T E) (P : Type 0) → P → OnErr result P
on_err (Ok x) P h = tt
on_err (Err e) P h = h
