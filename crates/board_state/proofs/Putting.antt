-- What is held once a change is put in place.
use Rattle.std.proofs.Common.{◌≡◌, ℕ, List, refl, sym, subst}
use Rattle.dimension_core.specs.Setting.{Setting}
use Rattle.plan_core.specs.Plan.{Changes, changes_of, replaced, with_routes}
use Rattle.pin_core.specs.Override.{after_commit}
use Rattle.range_cache.specs.Cache.{IsCacheOf}
use Rattle.range_cache.specs.Pending.{AreNewRows}
use Rattle.policy_core.specs.State.{PolicyState}
use Rattle.permission_table.specs.Compiled.{AreCompiled}
use Rattle.permission_table.specs.Tables.{TablesState}
use Rattle.board_state.specs.declared.change.Change.{Change}
use Rattle.board_state.specs.declared.change.Change.TheVariants.{Nothing, Replace}
use Rattle.board_state.specs.declared.change.Commit.{Commit}
use Rattle.board_state.specs.Changes.{WillCompile, WillKeep, plan_after, pins_after, policy_made}
use Rattle.board_state.specs.Held.{HeldState, routes_with}

pub record IsPut (held new : HeldState) (change : Change) : Type 0 where
  pub policy : new.policy.now ≡ policy_made held.policy change
  pub tried : new.policy.tried ≡ held.policy.tried
  pub compiled : (p : PolicyState) → WillCompile held.tables change p → AreCompiled new.tables p
  pub customers : new.tables.customers ≡ held.tables.customers
  pub vehicles : new.tables.vehicles ≡ held.tables.vehicles
  pub plan : new.plan ≡ plan_after held.plan change
  pub pins : new.pins ≡ pins_after held change
  pub ranges : (s : Setting) (routes : List (List ℕ)) → WillKeep s held change routes → IsCacheOf s routes new.cache

pub put_nothing : (held new : HeldState) (change : Change) → new ≡ held → change ≡ Nothing → IsPut held new change
put_nothing held new change same is =
    subst (λ (x : Change). IsPut held new x) (sym is) (subst (λ (h : HeldState). IsPut held h Nothing) (sym same) (record {
      policy = refl;
      tried = refl;
      compiled = λ p will. will;
      customers = refl;
      vehicles = refl;
      plan = refl;
      pins = refl;
      ranges = λ s routes will. will;
    }))

pub put_routes : (held new : HeldState) (change : Change) (commit : Commit) → change ≡ Replace commit → new.policy ≡ held.policy → new.tables ≡ held.tables
    → new.plan ≡ replaced (changes_of commit.new.changes.items) held.plan → new.pins ≡ after_commit (routes_with held commit.new.changes.items) held.pins
    → ((s : Setting) (routes : List (List ℕ)) (changes : Changes) → IsCacheOf s routes held.cache → AreNewRows s changes commit.new.pending.rows → IsCacheOf s (with_routes changes routes) new.cache)
    → IsPut held new change
put_routes held new change commit is policy tables plan pins cache =
    subst (λ (x : Change). IsPut held new x) (sym is) (record {
      policy = λ i. (policy i).now;
      tried = λ i. (policy i).tried;
      compiled = λ p will. subst (λ (t : TablesState). AreCompiled t p) (sym tables) will;
      customers = λ i. (tables i).customers;
      vehicles = λ i. (tables i).vehicles;
      plan = plan;
      pins = pins;
      ranges = λ s routes will.
          subst (λ (rs : List (List ℕ)). IsCacheOf s rs new.cache) will.2 (cache s held.plan.routes (changes_of commit.new.changes.items) will.0 will.1);
    })
