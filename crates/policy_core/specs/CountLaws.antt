-- Which roles DSD counts for a session.
use Rattle.std.proofs.Common.{◌≡◌, ℕ, true, refl}
use Rattle.role_hierarchy.specs.Roles.{has}
use Rattle.role_hierarchy.specs.Order.{Order, stands, with_slot}
use Rattle.role_hierarchy.specs.Below.{IsOrder}
use Rattle.role_hierarchy.specs.BelowLaws.{closed_fewer, closed_fewer_pairs, closed-with_slot}
use Rattle.policy_core.specs.declared.session.Counting.{Counting}
use Rattle.policy_core.specs.declared.session.Counting.TheVariants.{Active, Inherited}
use Rattle.policy_core.specs.State.{counted}
use Rattle.policy_core.specs.BreakLaws.{closed_none}

-- fewer active roles, fewer counted
pub counted_fewer : (counting : Counting) (order : Order) → IsOrder order → (few many : ℕ) → ((q : ℕ) → has few q ≡ true → has many q ≡ true) → (q : ℕ) → has (counted counting order few) q ≡ true → has (counted counting order many) q ≡ true
counted_fewer Active order is few many within q h = within q h
counted_fewer Inherited order is few many within q h = closed_fewer order is few many within q h

-- fewer pairs, fewer counted
pub counted_fewer_pairs : (counting : Counting) (few many : Order) → IsOrder few → IsOrder many → ((a b : ℕ) → stands few a b ≡ true → stands many a b ≡ true) →
    (active q : ℕ) → has (counted counting few active) q ≡ true → has (counted counting many active) q ≡ true
counted_fewer_pairs Active few many is_few is_many within active q h = h
counted_fewer_pairs Inherited few many is_few is_many within active q h = closed_fewer_pairs few many is_few is_many within active q h

pub counted-with_slot : (counting : Counting) (order : Order) (slot active : ℕ) → counted counting (with_slot order slot) active ≡ counted counting order active
counted-with_slot Active order slot active = refl
counted-with_slot Inherited order slot active = closed-with_slot order slot active

-- no role is counted where none is active
pub counted_none : (counting : Counting) (order : Order) → counted counting order 0 ≡ 0
counted_none Active order = refl
counted_none Inherited order = closed_none order
