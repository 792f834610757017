-- Legal histories, entry by entry.
use Rattle.std.proofs.Common.{◌≡◌, ℕ, zero, suc, ◌+◌, ◌<◌, ◌≤◌, ◌⊎◌, inl, inr, sym, ap, subst, refl, arith, ◌∙◌, List, [], ◌∷◌, ◌++◌, length, take, drop, Some, length-append}
use Rattle.std.specs.Prelude.{slice_get, cond, ◌==◌}
use Rattle.std.proofs.Math.Logic.{∥∥₁_elim}
use Rattle.std.proofs.Props.{props}
use Rattle.std.proofs.lemmas.List.{take_all, take-append-drop}
use Rattle.std.proofs.lemmas.List.Sums.{sum_by-append}
use Rattle.dimension_core.specs.Setting.{Setting}
use Rattle.move_core.specs.Moves.{named_by}
use Rattle.board_rules.specs.declared.call.Call.{Call}
use Rattle.board_rules.specs.declared.call.Call.TheVariants.{Propose, Pin, Unpin, Freeze, Thaw, Policy}
use Rattle.board_rules.specs.declared.call.Entry.{Entry}
use Rattle.board_rules.specs.declared.reply.Reply.{Reply}
use Rattle.board_rules.specs.declared.reply.Reply.TheVariants.{Done, Session, Committed, Denied, Refused}
use Rattle.board_rules.specs.State.{BoardState, opening_state}
use Rattle.board_rules.specs.Step.{IsReply, after}
use Rattle.board_rules.specs.History.{Opening, state_from, state_after, turns_of, IsNext, IsLegal}
use Rattle.board_rules.specs.Good.{IsGood}
use Rattle.board_rules.specs.Given.{Laws}
use Rattle.board_rules.proofs.Good.{good_after, good_opening, good_said}

-- the state after one more entry
state_from-push : (state : BoardState) (es : List Entry) (e : Entry) → state_from state (es ++ e ∷ []) ≡ after (state_from state es) e.call e.reply
state_from-push state [] e = refl
state_from-push state (x ∷ es) e = state_from-push (after state x.call x.reply) es e

pub state_after-push : (s : Setting) (es : List Entry) (e : Entry) → state_after s (es ++ e ∷ []) ≡ after (state_after s es) e.call e.reply
state_after-push s es e = state_from-push (opening_state s) es e

-- the entry at a place
pub entry_at : (es : List Entry) (k : ℕ) → k < length es → (e : Entry) × (slice_get es k ≡ Some e) × (take (suc k) es ≡ take k es ++ e ∷ [])
entry_at [] k h = absurd (omega arith)
entry_at (x ∷ es) zero h = (x, refl, refl)
entry_at (x ∷ es) (suc k) h = let r = entry_at es k (omega arith) in (r.0, r.1, ap (λ xs. x ∷ xs) r.2)

-- how many of some entries and one more are those of a desk
pub turns_more : (desk : ℕ) (es : List Entry) (e : Entry) → turns_of desk (es ++ e ∷ []) ≡ turns_of desk es + cond (e.desk == desk) 1 0
turns_more desk es e = sum_by-append (λ (x : Entry). cond (x.desk == desk) 1 0) es (e ∷ []) ∙ ap (λ n. turns_of desk es + n) (omega arith)

-- what the opening state has, and what every right reply keeps, holds of each state of a legal history
along : (o : Opening) (P : ℕ → BoardState → Type 0) → ((n : ℕ) (state : BoardState) → IsProp (P n state)) → P 0 (opening_state o.setting)
    → ((n : ℕ) (state : BoardState) (call : Call) (reply : Reply) → P n state → IsReply o.setting state call reply → P (suc n) (after state call reply))
    → (es : List Entry) → IsLegal (record { opening = o; entries = es }) → (k : ℕ) → k ≤ length es → P k (state_after o.setting (take k es))
along o P alone first next es legal zero h = first
along o P alone first next es legal (suc k) h =
    let r = entry_at es k (omega arith) in
    let before = along o P alone first next es legal k (omega arith) in
    let state : BoardState = state_after o.setting (take k es) in
    let now = ∥∥₁_elim ((legal k r.0 r.1).reply) (alone (suc k) (after state r.0.call r.0.reply)) (λ right. next k state r.0.call r.0.reply before right) in
    subst (λ (xs : List Entry). P (suc k) (state_after o.setting xs)) (sym r.2)
    (subst (λ (x : BoardState). P (suc k) x) (sym (state_after-push o.setting (take k es) r.0)) now)

-- at most one more commit
few_more : (n : ℕ) (state : BoardState) (call : Call) (reply : Reply) → length state.commits ≤ n → length (after state call reply).commits ≤ suc n
few_more n state (Propose session base mv) (Committed m) few = omega (arith, length-append state.commits (named_by mv ∷ []), few)
few_more n state (Propose session base mv) Done few = omega (arith, few)
few_more n state (Propose session base mv) (Session m) few = omega (arith, few)
few_more n state (Propose session base mv) (Denied d) few = omega (arith, few)
few_more n state (Propose session base mv) (Refused r) few = omega (arith, few)
few_more n state (Pin session c) Done few = omega (arith, few)
few_more n state (Pin session c) _ few = omega (arith, few)
few_more n state (Unpin session c) Done few = omega (arith, few)
few_more n state (Unpin session c) _ few = omega (arith, few)
few_more n state (Freeze session v m) Done few = omega (arith, few)
few_more n state (Freeze session v m) _ few = omega (arith, few)
few_more n state (Thaw session v m) Done few = omega (arith, few)
few_more n state (Thaw session v m) _ few = omega (arith, few)
few_more n state (Policy session command) Done few = omega (arith, few)
few_more n state (Policy session command) (Session m) few = omega (arith, few)
few_more n state (Policy session command) _ few = omega (arith, few)

-- what is carried along: the state is good, and has no more commits than there were entries
record IsKeptTo (s : Setting) (n : ℕ) (state : BoardState) : Type 0 where
  good : ∥ IsGood s state ∥₁
  few : length state.commits ≤ n

kept_alone : (s : Setting) (n : ℕ) (state : BoardState) → IsProp (IsKeptTo s n state)
kept_alone s n state = hlevel props

module _ (law : Laws) (o : Opening) (es : List Entry) (legal : IsLegal (record { opening = o; entries = es })) where
  kept_to : (k : ℕ) → k ≤ length es → IsKeptTo o.setting k (state_after o.setting (take k es))
  kept_to k h =
      along o (IsKeptTo o.setting) (kept_alone o.setting)
      (record { good = ∣ good_opening law o.setting ∣₁; few = omega arith })
      (λ n state call reply kept right. record {
        good = ∣ good_after law o.setting state (good_said law o.setting state kept.good) call reply right ∣₁;
        few = few_more n state call reply kept.few;
      })
      es legal k h

  pub good_at : (k : ℕ) → k ≤ length es → IsGood o.setting (state_after o.setting (take k es))
  good_at k h = good_said law o.setting (state_after o.setting (take k es)) (kept_to k h).good

  whole : take (length es) es ≡ es
  whole = take_all (length es) es (omega arith)

  pub good_end : IsGood o.setting (state_after o.setting es)
  good_end = subst (λ (xs : List Entry). IsGood o.setting (state_after o.setting xs)) whole (good_at (length es) (omega arith))

  pub few_commits : length (state_after o.setting es).commits ≤ length es
  few_commits = subst (λ (xs : List Entry). length (state_after o.setting xs).commits ≤ length es) whole (kept_to (length es) (omega arith)).few

-- where an entry of a longer list stands
places : (es : List Entry) (e : Entry) (k : ℕ) (f : Entry) → slice_get (es ++ e ∷ []) k ≡ Some f
    → ((slice_get es k ≡ Some f) × (take k (es ++ e ∷ []) ≡ take k es)) ⊎ ((f ≡ e) × (take k (es ++ e ∷ []) ≡ es))
places [] e zero f h = inr (cc, refl)
places [] e (suc k) f h = cc
places (x ∷ es) e zero f h = inl (h, refl)
places (x ∷ es) e (suc k) f h = elim (places es e k f h) [
  | inl p ↦ inl (p.0, ap (λ xs. x ∷ xs) p.1)
  | inr p ↦ inr (p.0, ap (λ xs. x ∷ xs) p.1)
]

pub legal-push : (o : Opening) (es : List Entry) (e : Entry) → IsLegal (record { opening = o; entries = es }) → IsNext o es e
    → IsLegal (record { opening = o; entries = es ++ e ∷ [] })
legal-push o es e legal next k f h = elim (places es e k f h) [
  | inl p ↦ subst (λ (before : List Entry). IsNext o before f) (sym p.1) (legal k f p.0)
  | inr p ↦ subst (λ (before : List Entry). IsNext o before f) (sym p.1) (subst (λ (x : Entry). IsNext o es x) (sym p.0) next)
]

-- ---- prefixes

-- what stands in a list stands in each list that goes on from it, after the same entries
within : (es more : List Entry) (k : ℕ) (e : Entry) → slice_get es k ≡ Some e → (slice_get (es ++ more) k ≡ Some e) × (take k (es ++ more) ≡ take k es)
within [] more k e h = absurd cc
within (x ∷ es) more zero e h = (h, refl)
within (x ∷ es) more (suc k) e h = let r = within es more k e h in (r.0, ap (λ xs. x ∷ xs) r.1)

pub legal-prefix : (o : Opening) (es more : List Entry) → IsLegal (record { opening = o; entries = es ++ more }) → IsLegal (record { opening = o; entries = es })
legal-prefix o es more legal k e h =
    let there = within es more k e h in
    subst (λ (before : List Entry). IsNext o before e) there.1 (legal k e there.0)

pub legal-take : (o : Opening) (es : List Entry) (k : ℕ) → IsLegal (record { opening = o; entries = es }) → IsLegal (record { opening = o; entries = take k es })
legal-take o es k legal = legal-prefix o (take k es) (drop k es) (subst (λ (xs : List Entry). IsLegal (record { opening = o; entries = xs })) (sym (take-append-drop k es)) legal)

-- ---- more entries

pub state_from-append : (state : BoardState) (es more : List Entry) → state_from state (es ++ more) ≡ state_from (state_from state es) more
state_from-append state [] more = refl
state_from-append state (e ∷ es) more = state_from-append (after state e.call e.reply) es more

pub turns_of-append : (desk : ℕ) (es more : List Entry) → turns_of desk (es ++ more) ≡ turns_of desk es + turns_of desk more
turns_of-append desk es more = sum_by-append (λ (e : Entry). cond (e.desk == desk) 1 0) es more
