-- Pins and freezes: why a call on them is refused, the first reason that holds, and what it changes.
use Rattle.std.specs.Prelude.{ℕ, ◌+◌, not, ◌&&◌, nat_le, nat_lt, if◌then◌else◌, List, length, position, is_some, is_none, Option, Some, None}
use Rattle.std.specs.Option.{option_map, option_or}
use Rattle.permission_core.specs.declared.objects.Operation.TheVariants as operations
use Rattle.permission_core.specs.declared.objects.Object.TheVariants as objects
use Rattle.dimension_core.specs.Setting.{Setting}
use Rattle.plan_core.specs.Plan.{route_at}
use Rattle.plan_core.specs.Among.{is_among}
use Rattle.pin_core.specs.Pins.{PinState, pin_of, front_of, with_pin}
use Rattle.board_rules.specs.declared.reply.Refusal.{Refusal}
use Rattle.board_rules.specs.declared.reply.Refusal.TheVariants.{NoSession, NoAccess, BadVehicle, BadCustomer, Already, NotThere, NotPlaced, Length}
use Rattle.board_rules.specs.Rules.{Basis, is_one_of}

-- the vehicle on which a customer stands, if it stands on one
abbrev pub vehicle_of : List (List ℕ) → ℕ → Option ℕ
vehicle_of routes customer = option_map (λ k. k + 1) (position (is_among customer) routes)

-- a pin and an unpin need a session that exists, a customer of the board and `pin` on it
unfoldable pub pin_guard : Setting → Basis → ℕ → Option Refusal
pin_guard s b customer =
    if not b.is_open then Some NoSession
    else if not (is_one_of s.customers customer) then Some BadCustomer
    else if not (b.may operations.Pin (objects.Customer customer)) then Some NoAccess
    else None

-- a freeze and a thaw need a session that exists, a vehicle of the fleet and `freeze` on it
unfoldable pub freeze_guard : Setting → Basis → ℕ → Option Refusal
freeze_guard s b vehicle =
    if not b.is_open then Some NoSession
    else if not (is_one_of s.vehicles vehicle) then Some BadVehicle
    else if not (b.may operations.Freeze (objects.Vehicle vehicle)) then Some NoAccess
    else None

-- Pin
unfoldable pub pin_refusal : Setting → Basis → ℕ → Option Refusal
pin_refusal s b customer = option_or (pin_guard s b customer)
    (if is_none (vehicle_of b.routes customer) then Some NotPlaced
    else if is_some (pin_of b.pins customer) then Some Already
    else None)

abbrev pub pinned : List (List ℕ) → ℕ → PinState → PinState
pinned routes customer pins = with_pin customer (vehicle_of routes customer) pins

-- Unpin
unfoldable pub unpin_refusal : Setting → Basis → ℕ → Option Refusal
unpin_refusal s b customer = option_or (pin_guard s b customer) (if is_none (pin_of b.pins customer) then Some NotThere else None)

-- Freeze: the length is above the old one, and at most the route's
unfoldable pub freeze_refusal : Setting → Basis → ℕ → ℕ → Option Refusal
freeze_refusal s b vehicle n = option_or (freeze_guard s b vehicle)
    (if not (nat_lt (front_of b.pins vehicle) n && nat_le n (length (route_at b.routes vehicle))) then Some Length else None)

-- Thaw: the length is below the old one
unfoldable pub thaw_refusal : Setting → Basis → ℕ → ℕ → Option Refusal
thaw_refusal s b vehicle n = option_or (freeze_guard s b vehicle) (if not (nat_lt n (front_of b.pins vehicle)) then Some Length else None)
