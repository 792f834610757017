use Rattle.std.proofs.Common.{◌≡◌, ◌∙◌, ◌<◌, ◌≤◌, ◌↔◌, ℕ, ◌∷◌, inl, inr, Bool, true, false, not, List, Option, Some, None, length, find, refl, sym, ap, subst}
use Rattle.std.specs.Prelude.{IsTrue, nat_lt, if◌then◌else◌}
use Rattle.std.specs.List.{list_all}
use Rattle.std.specs.Option.{option_to_list}
use Rattle.std.proofs.lemmas.Bool.{both_ways, cases_lt}
use Rattle.permission_core.specs.declared.objects.Operation.TheVariants as operations
use Rattle.permission_core.specs.declared.objects.Object.TheVariants as objects
use Rattle.permission_table.specs.Tables.{allows, rows_at}
use Rattle.dimension_core.specs.Setup.{setting}
use Rattle.plan_core.specs.Plan.{PlanState, stamp_of}
use Rattle.move_core.specs.declared.moves.Move.{Move}
use Rattle.move_core.specs.Moves.{changes_by, effect, is_possible, named_by, vehicles_of}
use Rattle.board_rules.specs.Rules.{PassesVehicles, is_one_of}
use Rattle.board_state.specs.Held.{HeldState, held_basis}
use Rattle.board_state.specs.Work.{Works, WorksJust}
use Rattle.board_state.proofs.Commanding.{allowed_open, first_allowed, none_there}
use Rattle.board_state.proofs.WorkLaws.{where_none}
use Rattle.board_state.proofs.state.State.early_denial.Goals as goal

names_of : (named : ℕ × Option ℕ) (mv : Move) → named ≡ vehicles_of mv → named.0 ∷ option_to_list named.1 ≡ named_by mv
names_of named mv is = ap (λ (n : ℕ × Option ℕ). n.0 ∷ option_to_list n.1) is

fleet_is : (b : Bool) (n m : ℕ) (xs ys : List ℕ) → b ≡ list_all (is_one_of n) xs → n ≡ m → xs ≡ ys → b ≡ list_all (is_one_of m) ys
fleet_is b n m xs ys e same alike = e ∙ ap (λ (k : ℕ). list_all (is_one_of k) xs) same ∙ ap (λ (zs : List ℕ). list_all (is_one_of m) zs) alike

first_is : (P : ℕ → Bool) (o : Option ℕ) (xs ys : List ℕ) → o ≡ find P xs → xs ≡ ys → find P ys ≡ o
first_is P o xs ys e alike = sym (e ∙ ap (λ (zs : List ℕ). find P zs) alike)

not_ahead : (b : Bool) (version base : ℕ) → IsTrue b ↔ (version < base) → b ≡ false → base ≤ version
not_ahead b version base ahead e = elim (cases_lt version base) [
  | inl less ↦ absurd (both_ways b e (ahead.1 less))
  | inr more ↦ more
]

effect_if : (b : Bool) (customers : ℕ) (plan : PlanState) (mv : Move) → plan.customers ≡ customers → b ≡ is_possible plan.customers plan.routes mv
    → effect customers plan.routes mv ≡ (if b then Some (changes_by plan.routes mv) else None)
effect_if b customers plan mv same is =
    ap (λ (x : Bool). if x then Some (changes_by plan.routes mv) else None) (sym (is ∙ ap (λ (n : ℕ). is_possible n plan.routes mv) same))

pub is_open-requires : goal.is_open-requires
is_open-requires g c = λ e.
    let held = c.args.self.now in
    let named = c.vehicles-named.result in
    allowed_open held.tables held.policy.now c.requires.ready.compiled c.args.proposal.now.session operations.Move (objects.Vehicle named.0)
    (first_allowed (λ v. allows held.tables c.args.proposal.now.session operations.Move (objects.Vehicle v)) named.0 (option_to_list named.1)
    (sym c.first_barred_vehicle-barred.ensures.first ∙ none_there c.first_barred_vehicle-barred.result c.is_none.result c.is_none.ensures e))

pub first_barred_vehicle-barred-requires : goal.first_barred_vehicle-barred-requires
first_barred_vehicle-barred-requires g c =
    let p = c.args.proposal.now in
    c.rows_at-found.ensures ∙ ap (λ (h : HeldState). rows_at h.tables p.place) c.self.view_is ∙ c.requires.place

pub returns-then-not-is_open-clause-denial : goal.returns-then-not-is_open-clause-denial
returns-then-not-is_open-clause-denial g c = sym c.is_open.ensures ∙ c.if-not-is_open.true

pub returns-then-not-is_open-clause-work : goal.returns-then-not-is_open-clause-work
returns-then-not-is_open-clause-work g c =
    let names = names_of c.vehicles-named.result c.args.proposal.now.mv.now c.vehicles-named.ensures in
    subst (λ (xs : List ℕ). Works c.args.meter.now c.first_barred_vehicle-barred.new.meter 0 0 1 (length xs)) names c.first_barred_vehicle-barred.ensures.work

pub returns-then-not-are_in_fleet-clause-work : goal.returns-then-not-are_in_fleet-clause-work
returns-then-not-are_in_fleet-clause-work g c =
    let names = names_of c.vehicles-named.result c.args.proposal.now.mv.now c.vehicles-named.ensures in
    subst (λ (xs : List ℕ). Works c.args.meter.now c.first_barred_vehicle-barred.new.meter 0 0 1 (length xs)) names c.first_barred_vehicle-barred.ensures.work

pub returns-in-Some-clause-work : goal.returns-in-Some-clause-work
returns-in-Some-clause-work g c =
    let names = names_of c.vehicles-named.result c.args.proposal.now.mv.now c.vehicles-named.ensures in
    subst (λ (xs : List ℕ). Works c.args.meter.now c.first_barred_vehicle-barred.new.meter 0 0 1 (length xs)) names c.first_barred_vehicle-barred.ensures.work

pub returns-then-not-are_in_fleet-clause-denial : goal.returns-then-not-are_in_fleet-clause-denial
returns-then-not-are_in_fleet-clause-denial g c =
    let names = names_of c.vehicles-named.result c.args.proposal.now.mv.now c.vehicles-named.ensures in
    let fleet = fleet_is _ _ _ _ _ c.are_in_fleet.ensures c.vehicles.ensures.value names in
    (sym c.is_open.ensures ∙ c.if-not-is_open.false, sym fleet ∙ c.if-not-are_in_fleet.true)

pub returns-in-Some-clause-denial : goal.returns-in-Some-clause-denial
returns-in-Some-clause-denial g c =
    let names = names_of c.vehicles-named.result c.args.proposal.now.mv.now c.vehicles-named.ensures in
    let fleet = fleet_is _ _ _ _ _ c.are_in_fleet.ensures c.vehicles.ensures.value names in
    (((sym c.is_open.ensures ∙ c.if-not-is_open.false), sym fleet ∙ c.if-not-are_in_fleet.false), first_is (λ v. not (allows c.args.self.now.tables c.args.proposal.now.session operations.Move (objects.Vehicle v))) _ _ _ c.first_barred_vehicle-barred.ensures.first names ∙ c.in-Some.is)

pub returns-then-is_ahead-clause-denial : goal.returns-then-is_ahead-clause-denial
returns-then-is_ahead-clause-denial g c =
    let names = names_of c.vehicles-named.result c.args.proposal.now.mv.now c.vehicles-named.ensures in
    let fleet = fleet_is _ _ _ _ _ c.are_in_fleet.ensures c.vehicles.ensures.value names in
    let vehicles : PassesVehicles (setting c.args.setup.now) (held_basis c.args.self.now c.args.proposal.now.session) c.args.proposal.now.base c.args.proposal.now.mv.now =
    (((sym c.is_open.ensures ∙ c.if-not-is_open.false), sym fleet ∙ c.if-not-are_in_fleet.false), first_is (λ v. not (allows c.args.self.now.tables c.args.proposal.now.session operations.Move (objects.Vehicle v))) _ _ _ c.first_barred_vehicle-barred.ensures.first names ∙ c.in_default.is) in
    (vehicles, c.is_ahead.ensures.0 c.if-is_ahead.true)

pub returns-in-Some-first_stale-clause-denial : goal.returns-in-Some-first_stale-clause-denial
returns-in-Some-first_stale-clause-denial g c =
    let names = names_of c.vehicles-named.result c.args.proposal.now.mv.now c.vehicles-named.ensures in
    let fleet = fleet_is _ _ _ _ _ c.are_in_fleet.ensures c.vehicles.ensures.value names in
    let vehicles : PassesVehicles (setting c.args.setup.now) (held_basis c.args.self.now c.args.proposal.now.session) c.args.proposal.now.base c.args.proposal.now.mv.now =
    (((sym c.is_open.ensures ∙ c.if-not-is_open.false), sym fleet ∙ c.if-not-are_in_fleet.false), first_is (λ v. not (allows c.args.self.now.tables c.args.proposal.now.session operations.Move (objects.Vehicle v))) _ _ _ c.first_barred_vehicle-barred.ensures.first names ∙ c.in_default.is) in
    ((vehicles, not_ahead _ _ _ c.is_ahead.ensures c.if-is_ahead.false), first_is (λ v. nat_lt c.args.proposal.now.base (stamp_of c.args.self.now.plan v)) _ _ _ c.first_stale.ensures names ∙ c.in-Some-first_stale.is)

pub returns-then-not-is_possible-clause-denial : goal.returns-then-not-is_possible-clause-denial
returns-then-not-is_possible-clause-denial g c =
    let names = names_of c.vehicles-named.result c.args.proposal.now.mv.now c.vehicles-named.ensures in
    let fleet = fleet_is _ _ _ _ _ c.are_in_fleet.ensures c.vehicles.ensures.value names in
    let vehicles : PassesVehicles (setting c.args.setup.now) (held_basis c.args.self.now c.args.proposal.now.session) c.args.proposal.now.base c.args.proposal.now.mv.now =
    (((sym c.is_open.ensures ∙ c.if-not-is_open.false), sym fleet ∙ c.if-not-are_in_fleet.false), first_is (λ v. not (allows c.args.self.now.tables c.args.proposal.now.session operations.Move (objects.Vehicle v))) _ _ _ c.first_barred_vehicle-barred.ensures.first names ∙ c.in_default.is) in
    (((vehicles, not_ahead _ _ _ c.is_ahead.ensures c.if-is_ahead.false), first_is (λ v. nat_lt c.args.proposal.now.base (stamp_of c.args.self.now.plan v)) _ _ _ c.first_stale.ensures names ∙ c.in_default-first_stale.is), effect_if false (setting c.args.setup.now).customers c.args.self.now.plan c.args.proposal.now.mv.now c.requires.ready.customers (sym c.if-not-is_possible.true ∙ c.is_possible.ensures ∙ ap (λ (h : HeldState). is_possible h.plan.customers h.plan.routes c.args.proposal.now.mv.now) c.self.view_is))

pub returns-clause-denial : goal.returns-clause-denial
returns-clause-denial g c =
    let names = names_of c.vehicles-named.result c.args.proposal.now.mv.now c.vehicles-named.ensures in
    let fleet = fleet_is _ _ _ _ _ c.are_in_fleet.ensures c.vehicles.ensures.value names in
    let vehicles : PassesVehicles (setting c.args.setup.now) (held_basis c.args.self.now c.args.proposal.now.session) c.args.proposal.now.base c.args.proposal.now.mv.now =
    (((sym c.is_open.ensures ∙ c.if-not-is_open.false), sym fleet ∙ c.if-not-are_in_fleet.false), first_is (λ v. not (allows c.args.self.now.tables c.args.proposal.now.session operations.Move (objects.Vehicle v))) _ _ _ c.first_barred_vehicle-barred.ensures.first names ∙ c.in_default.is) in
    (((vehicles, not_ahead _ _ _ c.is_ahead.ensures c.if-is_ahead.false), first_is (λ v. nat_lt c.args.proposal.now.base (stamp_of c.args.self.now.plan v)) _ _ _ c.first_stale.ensures names ∙ c.in_default-first_stale.is), effect_if true (setting c.args.setup.now).customers c.args.self.now.plan c.args.proposal.now.mv.now c.requires.ready.customers (sym c.if-not-is_possible.false ∙ c.is_possible.ensures ∙ ap (λ (h : HeldState). is_possible h.plan.customers h.plan.routes c.args.proposal.now.mv.now) c.self.view_is))

pub returns-then-is_ahead-clause-work : goal.returns-then-is_ahead-clause-work
returns-then-is_ahead-clause-work g c =
    let names = names_of c.vehicles-named.result c.args.proposal.now.mv.now c.vehicles-named.ensures in
    subst (λ (xs : List ℕ). WorksJust c.args.meter.now c.first_barred_vehicle-barred.new.meter 0 (length xs)) names
    (where_none _ _ c.first_barred_vehicle-barred.ensures.whole c.in_default.is)

pub returns-in-Some-first_stale-clause-work : goal.returns-in-Some-first_stale-clause-work
returns-in-Some-first_stale-clause-work g c =
    let names = names_of c.vehicles-named.result c.args.proposal.now.mv.now c.vehicles-named.ensures in
    subst (λ (xs : List ℕ). WorksJust c.args.meter.now c.first_barred_vehicle-barred.new.meter 0 (length xs)) names
    (where_none _ _ c.first_barred_vehicle-barred.ensures.whole c.in_default.is)

pub returns-then-not-is_possible-clause-work : goal.returns-then-not-is_possible-clause-work
returns-then-not-is_possible-clause-work g c =
    let names = names_of c.vehicles-named.result c.args.proposal.now.mv.now c.vehicles-named.ensures in
    subst (λ (xs : List ℕ). WorksJust c.args.meter.now c.first_barred_vehicle-barred.new.meter 0 (length xs)) names
    (where_none _ _ c.first_barred_vehicle-barred.ensures.whole c.in_default.is)

pub returns-clause-work : goal.returns-clause-work
returns-clause-work g c =
    let names = names_of c.vehicles-named.result c.args.proposal.now.mv.now c.vehicles-named.ensures in
    subst (λ (xs : List ℕ). WorksJust c.args.meter.now c.first_barred_vehicle-barred.new.meter 0 (length xs)) names
    (where_none _ _ c.first_barred_vehicle-barred.ensures.whole c.in_default.is)

pub first_stale-requires : goal.first_stale-requires
first_stale-requires g c =
    let named : List ℕ = c.vehicles-named.result.0 ∷ option_to_list c.vehicles-named.result.1 in
    let fleet = fleet_is _ _ _ named named c.are_in_fleet.ensures c.vehicles.ensures.value refl in
    subst (λ (n : ℕ). list_all (is_one_of n) named ≡ true) (sym c.requires.ready.sized)
    (sym fleet ∙ c.if-not-are_in_fleet.false)
