-- Facts that agree give one verdict.
use Rattle.std.proofs.Common.{◌≡◌, ℕ, Option, Some, None, sym, ◌∙◌, subst}
use Rattle.std.proofs.lemmas.Bool.{and_parts, leb-true}
use Rattle.dimension_core.specs.Setting.{Setting}
use Rattle.move_core.specs.declared.moves.Move.{Move}
use Rattle.move_core.specs.Moves.{named_by}
use Rattle.board_rules.specs.declared.reply.Denial.{Denial}
use Rattle.board_rules.specs.declared.reply.Denial.TheVariants.{NoSession, BadVehicle, AccessVehicle, Ahead, Stale, BadPlace, AccessCustomer, Frozen, Pinned, Bound}
use Rattle.board_rules.specs.Rules.{Basis, Agree, IsVerdictBy, PassesVersion, PassesBase, PassesEffect, PassesCustomers, PassesFronts, PassesPins, first_stale, is_one_of}
use Rattle.board_rules.proofs.Finds.{find_same}

module _ (s : Setting) (b c : Basis) (base : ℕ) (mv : Move) (agree : Agree s b c) where
  -- the one facts, with the changes of the other
  mixed : Basis
  mixed = record c { is_changed = b.is_changed }

  is_mixed : b ≡ mixed
  unfolding mixed
  is_mixed = λ i. record {
    is_open = agree.is_open i;
    may = λ operation object. agree.may operation object i;
    version = agree.version i;
    is_changed = b.is_changed;
    routes = agree.routes i;
    pins = agree.pins i;
  }

  stale_same : PassesVersion s mixed base mv → first_stale mixed base mv ≡ first_stale c base mv
  unfolding mixed
  stale_same h =
      find_same (is_one_of s.vehicles) (b.is_changed base) (c.is_changed base)
      (λ v inside. let parts = and_parts _ _ inside in agree.is_changed base v (leb-true _ _ parts.0) (leb-true _ _ parts.1))
      (named_by mv) h.0.0.1

  base_same : PassesBase s mixed base mv → PassesBase s c base mv
  unfolding mixed
  base_same h = (h.0, sym (stale_same h.0) ∙ h.1)

  effect_same : PassesEffect s mixed base mv → PassesEffect s c base mv
  unfolding mixed
  effect_same h = (base_same h.0, h.1)

  customers_same : PassesCustomers s mixed base mv → PassesCustomers s c base mv
  unfolding mixed
  customers_same h = (effect_same h.0, h.1)

  fronts_same : PassesFronts s mixed base mv → PassesFronts s c base mv
  unfolding mixed
  fronts_same h = (customers_same h.0, h.1)

  pins_same : PassesPins s mixed base mv → PassesPins s c base mv
  unfolding mixed
  pins_same h = (fronts_same h.0, h.1)

  by_changes : (verdict : Option Denial) → IsVerdictBy s mixed base mv verdict → IsVerdictBy s c base mv verdict
  unfolding mixed
  by_changes None h = (pins_same h.0, h.1)
  by_changes (Some NoSession) h = h
  by_changes (Some BadVehicle) h = h
  by_changes (Some (AccessVehicle v)) h = h
  by_changes (Some Ahead) h = h
  by_changes (Some (Stale v)) h = (h.0, sym (stale_same h.0) ∙ h.1)
  by_changes (Some BadPlace) h = (base_same h.0, h.1)
  by_changes (Some (AccessCustomer v p)) h = (effect_same h.0, h.1)
  by_changes (Some (Frozen v)) h = (customers_same h.0, h.1)
  by_changes (Some (Pinned v p)) h = (fronts_same h.0, h.1)
  by_changes (Some (Bound v d)) h = (pins_same h.0, h.1)

  pub verdict_same : (verdict : Option Denial) → IsVerdictBy s b base mv verdict → IsVerdictBy s c base mv verdict
  verdict_same verdict h = by_changes verdict (subst (λ (x : Basis). IsVerdictBy s x base mv verdict) is_mixed h)
