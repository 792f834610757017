-- In a state that a legal history leaves a call has one right reply at most.
use Rattle.std.proofs.Common.{◌≡◌, ℕ, zero, suc, ◌<◌, ◌≤◌, inl, inr, true, List, length, Option, Some, None, refl, sym, ap, ◌∙◌, subst, arith}
use Rattle.std.specs.Prelude.{slice_get}
use Rattle.std.proofs.lemmas.Bool.{cases_eq, cases_order, both_ways}
use Rattle.dimension_core.specs.Setting.{Setting}
use Rattle.dimension_core.specs.Feasible.{IsFirstOut, IsFeasible}
use Rattle.plan_core.specs.declared.touch.Touch.{Touch}
use Rattle.plan_core.specs.Plan.{IsPlan, AreApart}
use Rattle.pin_core.specs.Pins.{AreFreezesKept, IsFrontKept}
use Rattle.move_core.specs.declared.moves.Move.{Move}
use Rattle.move_core.specs.Moves.{named_by, changes_by, effect}
use Rattle.move_core.specs.Touched.{touched_by}
use Rattle.board_rules.specs.declared.call.Call.{Call}
use Rattle.board_rules.specs.declared.call.Call.TheVariants.{Propose, Pin, Unpin, Freeze, Thaw, Policy}
use Rattle.board_rules.specs.declared.reply.Denial.{Denial}
use Rattle.board_rules.specs.declared.reply.Denial.TheVariants.{NoSession, BadVehicle, AccessVehicle, Ahead, Stale, BadPlace, AccessCustomer, Frozen, Pinned, Bound}
use Rattle.board_rules.specs.declared.reply.Reply.{Reply}
use Rattle.board_rules.specs.declared.reply.Reply.TheVariants.{Done, Session, Committed, Denied, Refused}
use Rattle.board_rules.specs.Override.{DoPinsAllow, IsAllowed}
use Rattle.board_rules.specs.State.{BoardState}
use Rattle.board_rules.specs.Rules.{Basis, IsVerdictBy, PassesSession, PassesFleet, PassesVehicles, PassesVersion, PassesBase, PassesEffect, PassesCustomers, PassesFronts, PassesPins, PassesAll, basis_of, are_in_fleet, first_barred_vehicle, first_stale, first_barred_customer, may_override, routes_after}
use Rattle.board_rules.specs.RuleLaws.{effect_by_customers, effect_by_fronts, effect_by_pins}
use Rattle.board_rules.specs.Step.{IsReply, IsAnswer}
use Rattle.board_rules.specs.Good.{IsGood}
use Rattle.board_rules.specs.Given.{Laws}
use Rattle.board_rules.proofs.Finds.{one_first, place_by_all}
use Rattle.board_rules.proofs.Outs.{same_out, out_feasible}

-- a first dimension that is out of bounds is the only one
abbrev pub OneOut : Type 0
OneOut = (s : Setting) (vehicle : ℕ) (route : List ℕ) (d e : ℕ) → IsFirstOut s vehicle route d → IsFirstOut s vehicle route e → d ≡ e

-- which rule a verdict is about, from 0; none is about the one after the last
stage : Option Denial → ℕ
stage (Some NoSession) = 0
stage (Some BadVehicle) = 1
stage (Some (AccessVehicle v)) = 2
stage (Some Ahead) = 3
stage (Some (Stale v)) = 4
stage (Some BadPlace) = 5
stage (Some (AccessCustomer v p)) = 6
stage (Some (Frozen v)) = 7
stage (Some (Pinned v p)) = 8
stage (Some (Bound v d)) = 9
stage None = 10

module _ (law : Laws) (alone : OneOut) (s : Setting) (b : Basis) (base : ℕ) (mv : Move) (sized : length b.routes ≡ s.vehicles) (plan : IsPlan s.customers b.routes) where
  -- the rules by their numbers
  Holds : ℕ → Type 0
  Holds zero = b.is_open ≡ true
  Holds (suc zero) = are_in_fleet s.vehicles mv ≡ true
  Holds (suc (suc zero)) = first_barred_vehicle b mv ≡ None
  Holds (suc (suc (suc zero))) = base ≤ b.version
  Holds (suc (suc (suc (suc zero)))) = first_stale b base mv ≡ None
  Holds (suc (suc (suc (suc (suc zero))))) = effect s.customers b.routes mv ≡ Some (changes_by b.routes mv)
  Holds (suc (suc (suc (suc (suc (suc zero)))))) = first_barred_customer b mv ≡ None
  Holds (suc (suc (suc (suc (suc (suc (suc zero))))))) = AreFreezesKept b.pins b.routes (routes_after b.routes mv)
  Holds (suc (suc (suc (suc (suc (suc (suc (suc zero)))))))) = DoPinsAllow b.pins (may_override b) (routes_after b.routes mv)
  Holds _ = IsFeasible s (routes_after b.routes mv)

  -- the first n rules hold
  AllHold : ℕ → Type 0
  AllHold n = (k : ℕ) → k < n → Holds k

  one_more : (n : ℕ) → AllHold n → Holds n → AllHold (suc n)
  unfolding AllHold
  one_more n before here k below = elim (cases_eq k n) [
    | inl same ↦ subst Holds (sym same) here
    | inr other ↦ before k (omega (arith, below, other))
  ]

  pass1 : PassesSession s b base mv → AllHold 1
  unfolding Holds AllHold
  pass1 h = one_more 0 (λ k below. absurd (omega (arith, below))) h

  pass2 : PassesFleet s b base mv → AllHold 2
  unfolding Holds
  pass2 h = one_more 1 (pass1 h.0) h.1

  pass3 : PassesVehicles s b base mv → AllHold 3
  unfolding Holds
  pass3 h = one_more 2 (pass2 h.0) h.1

  pass4 : PassesVersion s b base mv → AllHold 4
  unfolding Holds
  pass4 h = one_more 3 (pass3 h.0) h.1

  pass5 : PassesBase s b base mv → AllHold 5
  unfolding Holds
  pass5 h = one_more 4 (pass4 h.0) h.1

  pass6 : PassesEffect s b base mv → AllHold 6
  unfolding Holds
  pass6 h = one_more 5 (pass5 h.0) h.1

  pass7 : PassesCustomers s b base mv → AllHold 7
  unfolding Holds
  pass7 h = one_more 6 (pass6 h.0) h.1

  pass8 : PassesFronts s b base mv → AllHold 8
  unfolding Holds
  pass8 h = one_more 7 (pass7 h.0) h.1

  pass9 : PassesPins s b base mv → AllHold 9
  unfolding Holds
  pass9 h = one_more 8 (pass8 h.0) h.1

  pass10 : PassesAll s b base mv → AllHold 10
  unfolding Holds
  pass10 h = one_more 9 (pass9 h.0) h.1

  -- all rules before that of a verdict hold
  before : (verdict : Option Denial) → IsVerdictBy s b base mv verdict → AllHold (stage verdict)
  unfolding stage AllHold
  before None h = pass10 h
  before (Some NoSession) h = λ k below. absurd (omega (arith, below))
  before (Some BadVehicle) h = pass1 h.0
  before (Some (AccessVehicle v)) h = pass2 h.0
  before (Some Ahead) h = pass3 h.0
  before (Some (Stale v)) h = pass4 h.0
  before (Some BadPlace) h = pass5 h.0
  before (Some (AccessCustomer v p)) h = pass6 h.0
  before (Some (Frozen v)) h = pass7 h.0
  before (Some (Pinned v p)) h = pass8 h.0
  before (Some (Bound v d)) h = pass9 h.0

  apart : PassesEffect s b base mv → AreApart (length b.routes) (changes_by b.routes mv)
  apart h = (law.names.changes s.customers b.routes mv (changes_by b.routes mv) h.1).apart

  fronts_by_named : PassesEffect s b base mv → AreFreezesKept b.pins b.routes (routes_after b.routes mv)
      → (k v : ℕ) → slice_get (named_by mv) k ≡ Some v → IsFrontKept b.pins b.routes (routes_after b.routes mv) v
  fronts_by_named h kept k v at =
      (law.pins.named b.pins (changes_by b.routes mv) b.routes (apart h)).0 kept k v
      (subst (λ (vs : List ℕ). slice_get vs k ≡ Some v) (sym (law.names.named s.customers b.routes mv (changes_by b.routes mv) h.1)) at)

  pins_by_touched : PassesEffect s b base mv → DoPinsAllow b.pins (may_override b) (routes_after b.routes mv)
      → (k : ℕ) (t : Touch) → slice_get (touched_by b.routes mv) k ≡ Some t → IsAllowed b.pins (may_override b) (routes_after b.routes mv) t.customer
  pins_by_touched h allow k t at =
      allow t.customer (place_by_all (λ u. (1 ≤ u.customer) × (u.customer ≤ s.customers)) (touched_by b.routes mv) (law.keeps.known s.customers b.routes mv (changes_by b.routes mv) plan h.1) k t at).0

  -- and that one does not
  broken : (denial : Denial) → IsVerdictBy s b base mv (Some denial) → Holds (stage (Some denial)) → ⊥
  unfolding stage Holds
  broken NoSession h holds = both_ways _ h holds
  broken BadVehicle h holds = both_ways _ h.1 holds
  broken (AccessVehicle v) h holds = let e = sym holds ∙ h.1 in absurd cc
  broken Ahead h holds = let above = h.1 in absurd (omega (arith, above, holds))
  broken (Stale v) h holds = let e = sym holds ∙ h.1 in absurd cc
  broken BadPlace h holds = let e = sym h.1 ∙ holds in absurd cc
  broken (AccessCustomer v p) h holds = let e = sym holds ∙ h.1.1 in absurd cc
  broken (Frozen v) h holds = h.1.1.fails (fronts_by_named (effect_by_customers s b base mv h.0) holds h.1.0 v h.1.1.found)
  broken (Pinned v p) h holds = h.1.1.1.fails (pins_by_touched (effect_by_fronts s b base mv h.0) holds h.1.1.0 h.1.0 h.1.1.1.found)
  broken (Bound v d) h holds =
      out_feasible s (changes_by b.routes mv) b.routes v d sized (subst (λ (n : ℕ). AreApart n (changes_by b.routes mv)) sized (apart (effect_by_pins s b base mv h.0))) h.1 holds

  not_before : (denial : Denial) (other : Option Denial) → IsVerdictBy s b base mv (Some denial) → IsVerdictBy s b base mv other → stage (Some denial) < stage other → ⊥
  unfolding AllHold
  not_before denial other f g early = broken denial f (before other g (stage (Some denial)) early)

  -- two verdicts about the same rule are equal
  named_of : Option ℕ → Option Denial → Option Denial → ℕ → ℕ
  named_of (Some v) a b n = v
  named_of None a b n = n

  same_vehicle : (o : Option ℕ) (v w : ℕ) → o ≡ Some v → o ≡ Some w → v ≡ w
  same_vehicle o v w f g = some_same v w (sym f ∙ g)
    where
      some_same : (v w : ℕ) → Some v ≡ Some w → v ≡ w
      some_same v w h = cc

  same_touch : (o : Option Touch) (t u : Touch) → o ≡ Some t → o ≡ Some u → t ≡ u
  same_touch o t u f g = some_same t u (sym f ∙ g)
    where
      some_same : (t u : Touch) → Some t ≡ Some u → t ≡ u
      some_same t u h = cc

  -- a denial is about one of the ten
  low_stage : (denial : Denial) → stage (Some denial) < 10
  unfolding stage
  low_stage NoSession = omega arith
  low_stage BadVehicle = omega arith
  low_stage (AccessVehicle v) = omega arith
  low_stage Ahead = omega arith
  low_stage (Stale v) = omega arith
  low_stage BadPlace = omega arith
  low_stage (AccessCustomer v p) = omega arith
  low_stage (Frozen v) = omega arith
  low_stage (Pinned v p) = omega arith
  low_stage (Bound v d) = omega arith

  late : (verdict : Option Denial) → 10 < stage verdict → ⊥
  unfolding stage
  late None h = absurd (omega (arith, h))
  late (Some denial) h = let low = low_stage denial in absurd (omega (arith, h, low))

  on_one : (a c : Option Denial) → stage a ≡ stage c → IsVerdictBy s b base mv a → IsVerdictBy s b base mv c → a ≡ c
  unfolding stage
  on_one None None e f g = refl
  on_one None (Some d) e f g = let low = low_stage d in absurd (omega (arith, e, low))
  on_one (Some d) None e f g = let low = low_stage d in absurd (omega (arith, e, low))
  on_one (Some NoSession) (Some NoSession) e f g = refl
  on_one (Some BadVehicle) (Some BadVehicle) e f g = refl
  on_one (Some (AccessVehicle v)) (Some (AccessVehicle w)) e f g = ap (λ n. Some (AccessVehicle n)) (same_vehicle _ v w f.1 g.1)
  on_one (Some Ahead) (Some Ahead) e f g = refl
  on_one (Some (Stale v)) (Some (Stale w)) e f g = ap (λ n. Some (Stale n)) (same_vehicle _ v w f.1 g.1)
  on_one (Some BadPlace) (Some BadPlace) e f g = refl
  on_one (Some (AccessCustomer v p)) (Some (AccessCustomer w q)) e f g =
      let same = same_touch _ f.1.0 g.1.0 f.1.1 g.1.1 in
      let vehicles : v ≡ w = sym f.1.2 ∙ (ap (λ t. t.vehicle) same ∙ g.1.2) in
      let places : p ≡ q = sym f.1.3 ∙ (ap (λ t. t.place) same ∙ g.1.3) in
      ap (λ n. Some (AccessCustomer n p)) vehicles ∙ ap (λ n. Some (AccessCustomer w n)) places
  on_one (Some (Frozen v)) (Some (Frozen w)) e f g =
      ap (λ n. Some (Frozen n)) (same_vehicle (Some v) v w refl (one_first _ (named_by mv) f.1.0 g.1.0 v w f.1.1 g.1.1))
  on_one (Some (Pinned v p)) (Some (Pinned w q)) e f g =
      let same = same_touch (Some f.1.0) f.1.0 g.1.0 refl (one_first _ (touched_by b.routes mv) f.1.1.0 g.1.1.0 f.1.0 g.1.0 f.1.1.1 g.1.1.1) in
      let vehicles : v ≡ w = sym f.1.2 ∙ (ap (λ t. t.vehicle) same ∙ g.1.2) in
      let places : p ≡ q = sym f.1.3 ∙ (ap (λ t. t.place) same ∙ g.1.3) in
      ap (λ n. Some (Pinned n p)) vehicles ∙ ap (λ n. Some (Pinned w n)) places
  on_one (Some (Bound v d)) (Some (Bound w k)) e f g =
      let same = same_out alone s (changes_by b.routes mv) v d w k f.1 g.1 in
      ap (λ n. Some (Bound n d)) same.0 ∙ ap (λ n. Some (Bound w n)) same.1
  on_one a c e f g = absurd (omega (arith, e))

  earlier : (a c : Option Denial) → IsVerdictBy s b base mv a → IsVerdictBy s b base mv c → stage a < stage c → ⊥
  unfolding stage
  earlier None c f g early = late c early
  earlier (Some d) c f g early = not_before d c f g early

  pub same_verdict : (a c : Option Denial) → IsVerdictBy s b base mv a → IsVerdictBy s b base mv c → a ≡ c
  same_verdict a c f g = elim (cases_order (stage a) (stage c)) [
    | inl same ↦ on_one a c same f g
    | inr q ↦ elim q [ inl h ↦ absurd (earlier a c f g h) | inr h ↦ absurd (earlier c a g f h) ]
  ]

some_denial : (d e : Denial) → Some d ≡ Some e → d ≡ e
some_denial d e h = cc

none_denial : (d : Denial) → None ≡ Some d → ⊥
none_denial d h = absurd cc

module _ (law : Laws) (alone : OneOut) (s : Setting) (state : BoardState) (good : IsGood s state) where
  same_answer : (session base : ℕ) (mv : Move) (one other : Reply) → IsAnswer s state session base mv one → IsAnswer s state session base mv other → one ≡ other
  same_answer session base mv (Committed m) (Committed n) f g = ap Committed (f.0 ∙ sym g.0)
  same_answer session base mv (Committed m) (Denied d) f g =
      absurd (none_denial d (same_verdict law alone s (basis_of state session) base mv good.sized good.plan None (Some d) f.1 g))
  same_answer session base mv (Denied d) (Committed m) f g =
      absurd (none_denial d (same_verdict law alone s (basis_of state session) base mv good.sized good.plan None (Some d) g.1 f))
  same_answer session base mv (Denied d) (Denied e) f g =
      ap Denied (some_denial d e (same_verdict law alone s (basis_of state session) base mv good.sized good.plan (Some d) (Some e) f g))
  same_answer session base mv (Committed m) Done f g = absurd g
  same_answer session base mv (Committed m) (Session n) f g = absurd g
  same_answer session base mv (Committed m) (Refused r) f g = absurd g
  same_answer session base mv (Denied d) Done f g = absurd g
  same_answer session base mv (Denied d) (Session n) f g = absurd g
  same_answer session base mv (Denied d) (Refused r) f g = absurd g
  same_answer session base mv Done other f g = absurd f
  same_answer session base mv (Session n) other f g = absurd f
  same_answer session base mv (Refused r) other f g = absurd f

  pub same_reply : (call : Call) (one other : Reply) → IsReply s state call one → IsReply s state call other → one ≡ other
  same_reply (Propose session base mv) one other f g = same_answer session base mv one other f g
  same_reply (Pin session c) one other f g = f ∙ sym g
  same_reply (Unpin session c) one other f g = f ∙ sym g
  same_reply (Freeze session v n) one other f g = f ∙ sym g
  same_reply (Thaw session v n) one other f g = f ∙ sym g
  same_reply (Policy session command) one other f g = f ∙ sym g
