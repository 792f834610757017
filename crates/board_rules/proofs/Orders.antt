-- What the policy of every history keeps: its sizes, and an order whose rows are those of 256 slots.
use Rattle.std.proofs.Common.{◌≡◌, ℕ, zero, suc, ◌+◌, ◌<◌, inl, inr, Bool, true, false, List, [], ◌∷◌, length, map, replicate, Option, Some, None, refl, sym, ap, ◌∙◌, subst, arith, length-set}
use Rattle.std.specs.Prelude.{slice_index, slice_set, cond, unwrap_or, find, not, bytes_eq}
use Rattle.std.specs.List.{range_with_len}
use Rattle.std.specs.Map.{lookup, remove_entry}
use Rattle.std.specs.Option.{option_map_or, option_or}
use Rattle.std.proofs.lemmas.Bool.{cases_eq, cases_lt, both_ways}
use Rattle.std.proofs.lemmas.List.{length-map, length-replicate, get_or-set_same, get_or-set_other, get_or-map, get_or_past}
use Rattle.indexmap.specs.IndexMap.{insert_entry}
use Rattle.role_hierarchy.specs.Roles.{has, without, first_free}
use Rattle.role_hierarchy.specs.RoleLaws.{has-empty}
use Rattle.role_hierarchy.specs.Order.{Order, stands, without_pair, without_slot}
use Rattle.role_hierarchy.specs.Below.{IsOrder}
use Rattle.role_hierarchy.specs.BelowLaws.{order-with_pair}
use Rattle.policy_core.specs.declared.refusal.Refusal.{Refusal as PolicyRefusal}
use Rattle.policy_core.specs.State.{PolicyState, slot_of}
use Rattle.policy_core.specs.KeptLaws.{without_within}
use Rattle.policy_core.specs.Commands.{role_at, role_added}
use Rattle.policy_core.specs.Opening.{opening}
use Rattle.rbac_core.specs.declared.command.Command.{Command}
use Rattle.rbac_core.specs.declared.command.Command.TheVariants.{AddRole, DeleteRole, AddInheritance, DeleteInheritance}
use Rattle.rbac_core.specs.declared.command.Outcome.{Outcome}
use Rattle.rbac_core.specs.Step.{step, answered, guard, refusal_of, after, outcome_of}
use Rattle.board_rules.specs.Policies.{policy_after}

-- each slot is below 256
pub AllSlots : List (List ℕ × ℕ) → Type 0
AllSlots [] = Unit {0}
AllSlots (e ∷ es) = (e.1 < 256) × AllSlots es

slot_small : (roles : List (List ℕ × ℕ)) (name : List ℕ) → AllSlots roles → unwrap_or (lookup (bytes_eq name) roles) 0 < 256
unfolding AllSlots
slot_small [] name h = omega arith
slot_small (e ∷ es) name h = elim (bytes_eq name e.0) as (λ t. unwrap_or (cond t (Some e.1) (lookup (bytes_eq name) es)) 0 < 256) [
  | true ↦ h.0
  | false ↦ slot_small es name h.1
]

slots_with : (roles : List (List ℕ × ℕ)) (name : List ℕ) (slot : ℕ) → slot < 256 → AllSlots roles → AllSlots (insert_entry bytes_eq roles name slot)
unfolding AllSlots
slots_with [] name slot small h = (small, tt)
slots_with (e ∷ es) name slot small h = elim (bytes_eq name e.0) as (λ t. AllSlots (cond t ((e.0, slot) ∷ es) (e ∷ insert_entry bytes_eq es name slot))) [
  | true ↦ (small, h.1)
  | false ↦ (h.0, slots_with es name slot small h.1)
]

slots_less : (test : List ℕ → Bool) (roles : List (List ℕ × ℕ)) → AllSlots roles → AllSlots (remove_entry test roles)
unfolding AllSlots
slots_less test [] h = h
slots_less test (e ∷ es) h = elim (test e.0) as (λ t. AllSlots (cond t es (e ∷ remove_entry test es))) [
  | true ↦ h.1
  | false ↦ (h.0, slots_less test es h.1)
]

-- a free slot is one of the 256
found_below : (p : ℕ → Bool) (a n r : ℕ) → find p (range_with_len a n) ≡ Some r → r < a + n
found_below p a zero r h = absurd cc
found_below p a (suc n) r h = by_test (p a) a n (find p (range_with_len (a + 1) n)) r (λ e. found_below p (a + 1) n r e) h
  where
    by_test : (t : Bool) (a n : ℕ) (rest : Option ℕ) (r : ℕ) → (rest ≡ Some r → r < a + 1 + n) → cond t (Some a) rest ≡ Some r → r < a + suc n
    by_test true a n rest r later e = let same : a ≡ r = cc in omega (arith, same)
    by_test false a n rest r later e = let below = later e in omega (arith, below)

free_below : (roles r : ℕ) → first_free roles ≡ Some r → r < 256
unfolding first_free
free_below roles r h = found_below (λ role. not (has roles role)) 0 256 r h

-- ---- orders with fewer pairs

-- each pair of the first order stands in the second
abbrev pub within : Order → Order → Type 0
within few many = (a b : ℕ) → stands few a b ≡ true → stands many a b ≡ true

set_within : (pairs : List ℕ) (at row : ℕ) → ((b : ℕ) → has row b ≡ true → has (slice_index pairs at) b ≡ true) → (a b : ℕ)
    → has (slice_index (slice_set pairs at row) a) b ≡ true → has (slice_index pairs a) b ≡ true
set_within pairs at row small a b h = elim (cases_eq a at) [
  | inr other ↦ sym (ap (λ r. has r b) (get_or-set_other pairs at a row 0 other)) ∙ h
  | inl same ↦ elim (cases_lt at (length pairs)) [
    | inl below ↦
        ap (λ n. has (slice_index pairs n) b) same
        ∙ small b (sym (ap (λ r. has r b) (ap (λ n. slice_index (slice_set pairs at row) n) same ∙ get_or-set_same pairs at row 0 below)) ∙ h)
    | inr past ↦
        let none : slice_index (slice_set pairs at row) a ≡ 0 = get_or_past (slice_set pairs at row) a 0 (omega (arith, past, same, length-set pairs at row)) in
        absurd (both_ways (has 0 b) (has-empty b) (sym (ap (λ r. has r b) none) ∙ h))
  ]
]

map_within : (pairs : List ℕ) (slot a b : ℕ) → has (slice_index (map (λ row. without row slot) pairs) a) b ≡ true → has (slice_index pairs a) b ≡ true
map_within pairs slot a b h = elim (cases_lt a (length pairs)) [
  | inl below ↦ without_within (slice_index pairs a) slot b (sym (ap (λ r. has r b) (get_or-map (λ row. without row slot) pairs a 0 0 below)) ∙ h)
  | inr past ↦
      let none : slice_index (map (λ row. without row slot) pairs) a ≡ 0 = get_or_past (map (λ row. without row slot) pairs) a 0 (omega (arith, past, length-map pairs (λ row. without row slot))) in
      absurd (both_ways (has 0 b) (has-empty b) (sym (ap (λ r. has r b) none) ∙ h))
]

pub slot_within : (order : Order) (slot : ℕ) → within (without_slot order slot) order
slot_within order slot a b h =
    map_within order.pairs slot a b
    (set_within (map (λ row. without row slot) order.pairs) slot 0 (λ c there. absurd (both_ways (has 0 c) (has-empty c) there)) a b h)

pub pair_within : (order : Order) (a b : ℕ) → within (without_pair order a b) order
pair_within order a b x y h = set_within order.pairs a (without (slice_index order.pairs a) b) (λ c there. without_within (slice_index order.pairs a) b c there) x y h

pub all_within : (order : Order) → within order order
all_within order a b h = h

-- the policy is over this many customers and vehicles, and its order has the rows of 256 slots
pub record IsSettled (customers vehicles : ℕ) (p : PolicyState) : Type 0 where
  pub customers_are : p.customers ≡ customers
  pub vehicles_are : p.vehicles ≡ vehicles
  pub order : IsOrder p.order
  pub slots : AllSlots p.roles

module _ (customers vehicles : ℕ) where
  settled_order : (p : PolicyState) → IsSettled customers vehicles p → (order : Order) (q : PolicyState) → q.customers ≡ p.customers → q.vehicles ≡ p.vehicles
      → q.roles ≡ p.roles → q.order ≡ order → IsOrder order → IsSettled customers vehicles q
  settled_order p h order q c v roles at is = record {
    customers_are = c ∙ h.customers_are;
    vehicles_are = v ∙ h.vehicles_are;
    order = subst IsOrder (sym at) is;
    slots = subst AllSlots (sym roles) h.slots;
  }

  role_added_at : (p : PolicyState) (role : List ℕ) (free : Option ℕ) → ((r : ℕ) → free ≡ Some r → r < 256) → IsSettled customers vehicles p
      → IsSettled customers vehicles (option_map_or (role_at p role) free p)
  role_added_at p role None small h = h
  role_added_at p role (Some slot) small h = record {
    customers_are = h.customers_are;
    vehicles_are = h.vehicles_are;
    order = record { rows = h.order.rows; small = h.order.small };
    slots = slots_with p.roles role slot (small slot refl) h.slots;
  }

  pub settled_role : (p : PolicyState) (role : List ℕ) → IsSettled customers vehicles p → IsSettled customers vehicles (role_added p role)
  settled_role p role h = role_added_at p role (first_free p.order.roles) (free_below p.order.roles) h

  settled_gone : (p : PolicyState) (role : List ℕ) → IsSettled customers vehicles p → IsSettled customers vehicles (after p (DeleteRole role))
  settled_gone p role h =
      let slot : ℕ = slot_of p role in
      let less : List ℕ = map (λ row. without row slot) p.order.pairs in
      record {
        customers_are = h.customers_are;
        vehicles_are = h.vehicles_are;
        order = record {
          rows = length-set less slot 0 ∙ (length-map p.order.pairs (λ row. without row slot) ∙ h.order.rows);
          small = λ a b there. h.order.small a b (slot_within p.order slot a b there);
        };
        slots = slots_less (bytes_eq role) p.roles h.slots;
      }

  settled_uninherited : (p : PolicyState) (senior junior : List ℕ) → IsSettled customers vehicles p → IsSettled customers vehicles (after p (DeleteInheritance senior junior))
  settled_uninherited p senior junior h =
      let a : ℕ = slot_of p senior in
      let b : ℕ = slot_of p junior in
      let row : ℕ = without (slice_index p.order.pairs a) b in
      record {
        customers_are = h.customers_are;
        vehicles_are = h.vehicles_are;
        order = record {
          rows = length-set p.order.pairs a row ∙ h.order.rows;
          small = λ x y there. h.order.small x y (pair_within p.order a b x y there);
        };
        slots = h.slots;
      }

  settled_inherited : (p : PolicyState) (senior junior : List ℕ) → IsSettled customers vehicles p → IsSettled customers vehicles (after p (AddInheritance senior junior))
  settled_inherited p senior junior h = record {
    customers_are = h.customers_are;
    vehicles_are = h.vehicles_are;
    order = order-with_pair p.order h.order (slot_of p senior) (slot_of p junior) (slot_small p.roles senior h.slots) (slot_small p.roles junior h.slots);
    slots = h.slots;
  }

  pub settled : (p : PolicyState) (command : Command) → IsSettled customers vehicles p → IsSettled customers vehicles (after p command)
  settled p (AddRole role) h = settled_role p role h
  settled p (DeleteRole role) h = settled_gone p role h
  settled p (AddInheritance senior junior) h = settled_inherited p senior junior h
  settled p (DeleteInheritance senior junior) h = settled_uninherited p senior junior h
  settled p command h = settled_order p h p.order (after p command) refl refl refl refl h.order

  answered_settled : (p next : PolicyState) (outcome : Outcome) (refusal : Option PolicyRefusal) → IsSettled customers vehicles p → IsSettled customers vehicles next
      → IsSettled customers vehicles (answered p refusal next outcome).0
  answered_settled p next outcome None h g = g
  answered_settled p next outcome (Some e) h g = h

  pub settled_after : (p : PolicyState) (session : ℕ) (command : Command) → IsSettled customers vehicles p → IsSettled customers vehicles (policy_after p session command)
  unfolding policy_after step
  settled_after p session command h =
      answered_settled p (after p command) (outcome_of p command) (option_or (guard p session command) (refusal_of p command)) h (settled p command h)

  pub settled_first : IsSettled customers vehicles (opening customers vehicles)
  unfolding AllSlots
  settled_first = record {
    customers_are = refl;
    vehicles_are = refl;
    order = record {
      rows = length-replicate {A = ℕ} 256 0;
      small = λ a b h. absurd (both_ways (has 0 b) (has-empty b) (sym (ap (λ r. has r b) (empty_row 256 a)) ∙ h));
    };
    slots = (omega arith, tt);
  }
    where
      empty_row : (n k : ℕ) → slice_index (replicate n 0) k ≡ 0
      empty_row zero k = refl
      empty_row (suc n) zero = refl
      empty_row (suc n) (suc k) = empty_row n k
