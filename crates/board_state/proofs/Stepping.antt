-- What is held answers the rules as the state does, and stands for the next state once a call is in place.
use Rattle.std.proofs.Common.{◌≡◌, ℕ, ◌++◌, ◌∷◌, [], List, length, Option, Some, None, Ok, Err, Result, refl, sym, ap, ◌∙◌, subst, arith}
use Rattle.std.specs.Prelude.{nat_lt}
use Rattle.std.specs.Prelude.{IfOk}
use Rattle.std.proofs.Math.Logic.{∥∥₁_map}
use Rattle.dimension_core.specs.Setting.{Setting}
use Rattle.plan_core.specs.Plan.{PlanState, Changes, AreApart, changes_of, replaced, with_routes}
use Rattle.plan_core.specs.Commits.{AreStamps, last_commit, named_vehicles}
use Rattle.pin_core.specs.Pins.{PinState}
use Rattle.pin_core.specs.Override.{after_commit}
use Rattle.range_cache.specs.Cache.{IsCacheOf}
use Rattle.range_cache.specs.Pending.{AreNewRows}
use Rattle.permission_core.specs.declared.objects.Operation.{Operation}
use Rattle.permission_core.specs.declared.objects.Object.{Object}
use Rattle.policy_core.specs.State.{PolicyState, is_session}
use Rattle.permission_table.specs.Compiled.{AreCompiled, HasSizes}
use Rattle.move_core.specs.declared.moves.Move.{Move}
use Rattle.move_core.specs.Moves.{named_by, changes_by}
use Rattle.board_rules.specs.State.{BoardState}
use Rattle.board_rules.specs.Rules.{Agree, basis_of, is_changed_after, routes_after}
use Rattle.std.specs.Option.{option_or}
use Rattle.policy_core.specs.declared.refusal.Refusal.{Refusal as PolicyRefusal}
use Rattle.rbac_core.specs.declared.command.Command.{Command as PolicyCommand}
use Rattle.rbac_core.specs.declared.command.Outcome.{Outcome}
use Rattle.rbac_core.specs.declared.command.Outcome.TheVariants.{Done as OutcomeDone, Session as OutcomeSession}
use Rattle.rbac_core.specs.Step.{guard, refusal_of, after as after_command, outcome_of, step, answered}
use Rattle.board_rules.specs.Policies.{reply_of, policy_reply, policy_after}
use Rattle.board_rules.specs.declared.call.Call.{Call}
use Rattle.board_rules.specs.declared.call.Call.TheVariants.{Policy}
use Rattle.board_rules.specs.declared.reply.Reply.{Reply}
use Rattle.board_rules.specs.Step.{committed, after}
use Rattle.rbac_core.specs.Tried.{Tried}
use Rattle.permission_table.specs.Tables.{TablesState}
use Rattle.board_state.specs.declared.change.Commit.{Commit}
use Rattle.board_state.specs.declared.change.NewRoutes.{NewRoutes}
use Rattle.board_state.specs.declared.change.Change.{Change}
use Rattle.board_state.specs.declared.change.Change.TheVariants.{Nothing, Replace, Pins, Command}
use Rattle.board_state.specs.declared.change.PinChange.{PinChange}
use Rattle.board_state.specs.Held.{HeldState, Holds, held_basis}
use Rattle.board_state.specs.Changes.{Tries, WillHold, WillCompile, WillKeep, PinsWillBe, PolicyWillBe, policy_made, plan_after, pins_after}
use Rattle.board_state.proofs.Commanding.{allows_access}

module _ (s : Setting) (held : HeldState) (state : BoardState) (holds : Holds s held state) where
  pub may_same : (session : ℕ) (operation : Operation) (object : Object)
      → (held_basis held session).may operation object ≡ (basis_of state session).may operation object
  may_same session operation object =
      allows_access held.tables state.policy holds.compiled session operation object

  -- what is held answers as the state does
  pub agree : ((commits : List (List ℕ)) (base v : ℕ) → is_changed_after commits base v ≡ nat_lt base (last_commit v commits))
      → length held.plan.stamps ≡ s.vehicles → (session : ℕ) → Agree s (held_basis held session) (basis_of state session)
  agree told sized session = record {
    is_open = ap (λ (p : PolicyState). is_session p session) holds.policy;
    may = may_same session;
    version = holds.stamps.version;
    is_changed = λ base v low high. ap (nat_lt base) (holds.stamps.stamps v low (omega (arith, sized, high))) ∙ sym (told state.commits base v);
    routes = holds.routes;
    pins = holds.pins;
  }

  -- nothing changes
  pub stays : WillHold s held Nothing state
  stays = record {
    policy = holds.policy;
    compiled = holds.compiled;
    sizes = holds.sizes;
    customers = holds.customers;
    routes = holds.routes;
    stamps = holds.stamps;
    pins = holds.pins;
    cache = holds.cache;
  }

  -- pins and frozen lengths alone change
  pub pins_will : (change : PinChange) (old next : PinState) → PinsWillBe held change old → old ≡ next → WillHold s held (Pins change) (record state { pins = next })
  pins_will change old next will same =
      record { policy = holds.policy; compiled = holds.compiled; sizes = holds.sizes; customers = holds.customers; routes = holds.routes; stamps = holds.stamps; pins = will.made ∙ same; cache = holds.cache }

  -- new routes are put in place
  pub commit_will : (commit : Commit) (mv : Move) → changes_of commit.new.changes.items ≡ changes_by held.plan.routes mv → named_vehicles (changes_by held.plan.routes mv) ≡ named_by mv
      → AreNewRows s (changes_by held.plan.routes mv) commit.new.pending.rows → AreApart (length held.plan.stamps) (changes_of commit.new.changes.items)
      → ((commits : List (List ℕ)) (plan : PlanState) (changes : Changes) → AreStamps commits plan → AreApart (length plan.stamps) changes → AreStamps (commits ++ named_vehicles changes ∷ []) (replaced changes plan))
      → WillHold s held (Replace commit) (committed state mv)
  commit_will commit mv same names ranges apart law =
      let routes : with_routes (changes_of commit.new.changes.items) held.plan.routes ≡ routes_after state.routes mv =
      ap (λ (cs : Changes). with_routes cs held.plan.routes) same ∙ ap (λ (rs : List (List ℕ)). routes_after rs mv) holds.routes in
      record {
        policy = holds.policy;
        compiled = holds.compiled;
        sizes = holds.sizes;
        customers = holds.customers;
        routes = routes;
        stamps = subst (λ (vehicles : List ℕ). AreStamps (state.commits ++ vehicles ∷ []) (replaced (changes_of commit.new.changes.items) held.plan))
            (ap (λ (cs : Changes). named_vehicles cs) same ∙ names) (law state.commits held.plan (changes_of commit.new.changes.items) holds.stamps apart);
        pins = ap (λ (rs : List (List ℕ)). after_commit rs held.pins) routes ∙ ap (λ (p : PinState). after_commit (routes_after state.routes mv) p) holds.pins;
        cache = (
          subst (λ (rs : List (List ℕ)). IsCacheOf s rs held.cache) (sym holds.routes) holds.cache,
          subst (λ (cs : Changes). AreNewRows s cs commit.new.pending.rows) (sym same) ranges,
          routes,
        );
      }

-- new routes that are in place
pub new_holds : (s : Setting) (held after : HeldState) (state : BoardState) (new : NewRoutes) (mv : Move) → Holds s held state
    → changes_of new.changes.items ≡ changes_by held.plan.routes mv → named_vehicles (changes_by held.plan.routes mv) ≡ named_by mv
    → AreNewRows s (changes_by held.plan.routes mv) new.pending.rows → AreApart (length held.plan.stamps) (changes_of new.changes.items)
    → ((commits : List (List ℕ)) (plan : PlanState) (changes : Changes) → AreStamps commits plan → AreApart (length plan.stamps) changes → AreStamps (commits ++ named_vehicles changes ∷ []) (replaced changes plan))
    → after.policy ≡ held.policy → after.tables ≡ held.tables → after.plan ≡ replaced (changes_of new.changes.items) held.plan
    → after.pins ≡ after_commit (with_routes (changes_of new.changes.items) held.plan.routes) held.pins
    → ((routes : List (List ℕ)) (changes : Changes) → IsCacheOf s routes held.cache → AreNewRows s changes new.pending.rows → IsCacheOf s (with_routes changes routes) after.cache)
    → Holds s after (committed state mv)
new_holds s held after state new mv holds same names ranges apart law policy tables plan pins keeps =
    let routes : with_routes (changes_of new.changes.items) held.plan.routes ≡ routes_after state.routes mv =
    ap (λ (cs : Changes). with_routes cs held.plan.routes) same ∙ ap (λ (rs : List (List ℕ)). routes_after rs mv) holds.routes in
    record {
      policy = ap (λ (p : Tried). p.now) policy ∙ holds.policy;
      compiled = ∥∥₁_map holds.compiled (λ are. subst (λ (t : TablesState). AreCompiled t state.policy) (sym tables) are);
      sizes = subst (λ (t : TablesState). HasSizes state.policy t) (sym tables) holds.sizes;
      customers = ap (λ (p : PlanState). p.customers) plan ∙ holds.customers;
      routes = ap (λ (p : PlanState). p.routes) plan ∙ routes;
      stamps = subst (λ (p : PlanState). AreStamps (committed state mv).commits p) (sym plan)
          (subst (λ (vehicles : List ℕ). AreStamps (state.commits ++ vehicles ∷ []) (replaced (changes_of new.changes.items) held.plan))
          (ap (λ (cs : Changes). named_vehicles cs) same ∙ names) (law state.commits held.plan (changes_of new.changes.items) holds.stamps apart));
      pins = pins ∙ ap (λ (rs : List (List ℕ)). after_commit rs held.pins) routes ∙ ap (λ (p : PinState). after_commit (routes_after state.routes mv) p) holds.pins;
      cache = subst (λ (rs : List (List ℕ)). IsCacheOf s rs after.cache) routes
          (keeps held.plan.routes (changes_of new.changes.items)
          (subst (λ (rs : List (List ℕ)). IsCacheOf s rs held.cache) (sym holds.routes) holds.cache)
          (subst (λ (cs : Changes). AreNewRows s cs new.pending.rows) (sym same) ranges));
    }

-- what is held is the same where only what was tried and the room differ
pub policy_will : (s : Setting) (old new : HeldState) (state : BoardState) (change : Change) (next : PolicyState) → Holds s old state
    → new ≡ record old { policy = new.policy; tables = new.tables } → PolicyWillBe new.policy new.tables change next → WillHold s new change (record state { policy = next })
policy_will s old new state Nothing next holds kept will =
    subst (λ (h : HeldState). WillHold s h Nothing (record state { policy = next })) (sym kept)
    (record { policy = will.made; compiled = will.compiled; sizes = will.sizes; customers = holds.customers; routes = holds.routes; stamps = holds.stamps; pins = holds.pins; cache = holds.cache })
policy_will s old new state (Command rows command) next holds kept will =
    subst (λ (h : HeldState). WillHold s h (Command rows command) (record state { policy = next })) (sym kept)
    (record { policy = will.made; compiled = will.compiled; sizes = will.sizes; customers = holds.customers; routes = holds.routes; stamps = holds.stamps; pins = holds.pins; cache = holds.cache })
policy_will s old new state (Replace commit) next holds kept will = absurd will.ready
policy_will s old new state (Pins change) next holds kept will = absurd will.ready

-- what is held once a change is in place
pub holds_from : (s : Setting) (old new : HeldState) (change : Change) (next : BoardState) → new.policy.now ≡ policy_made old.policy change
    → ((p : PolicyState) → WillCompile old.tables change p → AreCompiled new.tables p)
    → new.tables.customers ≡ old.tables.customers → new.tables.vehicles ≡ old.tables.vehicles
    → new.plan ≡ plan_after old.plan change → new.pins ≡ pins_after old change → (plan_after old.plan change).customers ≡ old.plan.customers
    → ((routes : List (List ℕ)) → WillKeep s old change routes → IsCacheOf s routes new.cache) → WillHold s old change next → Holds s new next
holds_from s old new change next policy compiled customers vehicles plan pins stay ranges will = record {
  policy = policy ∙ will.policy;
  compiled = ∥∥₁_map will.compiled (λ are. compiled next.policy are);
  sizes = record { customers = will.sizes.customers ∙ sym customers; vehicles = will.sizes.vehicles ∙ sym vehicles };
  customers = ap (λ (p : PlanState). p.customers) plan ∙ stay ∙ will.customers;
  routes = ap (λ (p : PlanState). p.routes) plan ∙ will.routes;
  stamps = subst (λ (p : PlanState). AreStamps next.commits p) (sym plan) will.stamps;
  pins = pins ∙ will.pins;
  cache = ranges next.routes will.cache;
}

pub customers_stay : (plan : PlanState) (change : Change) → (plan_after plan change).customers ≡ plan.customers
customers_stay plan Nothing = refl
customers_stay plan (Replace commit) = refl
customers_stay plan (Pins change) = refl
customers_stay plan (Command rows command) = refl

-- ---- policy commands

after_answered : (state : BoardState) (session : ℕ) (command : PolicyCommand) (o : Option PolicyRefusal) (next : PolicyState) (outcome : Outcome)
    → policy_after state.policy session command ≡ (answered state.policy o next outcome).0
    → after state (Policy session command) (reply_of (answered state.policy o next outcome).1) ≡ record state { policy = (answered state.policy o next outcome).0 }
after_answered state session command None next OutcomeDone e = ap (λ (p : PolicyState). record state { policy = p }) e
after_answered state session command None next (OutcomeSession n) e = ap (λ (p : PolicyState). record state { policy = p }) e
after_answered state session command (Some refusal) next outcome e = refl

-- the state after a command that got its right reply
after_policy : (state : BoardState) (session : ℕ) (command : PolicyCommand)
    → after state (Policy session command) (policy_reply state.policy session command) ≡ record state { policy = policy_after state.policy session command }
unfolding policy_reply policy_after step
after_policy state session command =
    after_answered state session command (option_or (guard state.policy session command) (refusal_of state.policy command)) (after_command state.policy command) (outcome_of state.policy command) refl

pub policy_call : {E : Type 0} (s : Setting) (old new : HeldState) (state : BoardState) (call : Call) (session : ℕ) (command : PolicyCommand) (result : Result (Reply × Change) E) → call ≡ Policy session command
    → Holds s old state → Tries old new → IfOk result (λ r. r.0 ≡ policy_reply old.policy.now session command)
    → IfOk result (λ r. PolicyWillBe new.policy new.tables r.1 (policy_after old.policy.now session command))
    → IfOk result (λ r. WillHold s new r.1 (after state call r.0))
policy_call s old new state call session command (Err e) is holds kept said will = tt
policy_call s old new state call session command (Ok r) is holds kept said will =
    let whole : new ≡ record old { policy = new.policy; tables = new.tables } =
    kept ∙ (λ i. record old { policy = sym (ap (λ (h : HeldState). h.policy) kept) i; tables = sym (ap (λ (h : HeldState). h.tables) kept) i }) in
    let made = policy_will s old new state r.1 (policy_after state.policy session command) holds whole
    (subst (λ (p : PolicyState). PolicyWillBe new.policy new.tables r.1 (policy_after p session command)) holds.policy will) in
    let reply : r.0 ≡ policy_reply state.policy session command = said ∙ ap (λ (p : PolicyState). policy_reply p session command) holds.policy in
    subst (λ (x : Call). WillHold s new r.1 (after state x r.0)) (sym is)
    (subst (λ (b : BoardState). WillHold s new r.1 b) (sym (ap (after state (Policy session command)) reply ∙ after_policy state session command)) made)

-- what is held once a command got its right reply and its policy is in place
pub policy_kept : {E : Type 0} (s : Setting) (old new : HeldState) (state : BoardState) (call : Call) (session : ℕ) (command : PolicyCommand) (result : Result Reply E) → call ≡ Policy session command
    → Holds s old state → new ≡ record old { policy = new.policy; tables = new.tables } → IfOk result (λ reply. reply ≡ policy_reply old.policy.now session command)
    → IfOk result (λ _. PolicyWillBe new.policy new.tables Nothing (policy_after old.policy.now session command))
    → IfOk result (λ reply. Holds s new (after state call reply))
policy_kept s old new state call session command (Err e) is holds kept said will = tt
policy_kept s old new state call session command (Ok reply) is holds kept said will =
    let made = policy_will s old new state Nothing (policy_after state.policy session command) holds kept
    (subst (λ (p : PolicyState). PolicyWillBe new.policy new.tables Nothing (policy_after p session command)) holds.policy will) in
    let right : reply ≡ policy_reply state.policy session command = said ∙ ap (λ (p : PolicyState). policy_reply p session command) holds.policy in
    let next = record state { policy = policy_after state.policy session command } in
    subst (λ (x : Call). Holds s new (after state x reply)) (sym is)
    (subst (λ (b : BoardState). Holds s new b) (sym (ap (after state (Policy session command)) right ∙ after_policy state session command))
    (record { policy = made.policy; compiled = made.compiled; sizes = made.sizes; customers = made.customers; routes = made.routes; stamps = made.stamps; pins = made.pins; cache = made.cache }))
