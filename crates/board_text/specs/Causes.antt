-- Why a move has no effect: which of its numbers is wrong, by what a move of its kind must have.
use Rattle.std.specs.Prelude.{ℕ, ◌+◌, ◌-◌, not, ◌==◌, ◌&&◌, ◌||◌, nat_le, nat_lt, if◌then◌else◌, List, length}
use Rattle.plan_core.specs.Plan.{route_at}
use Rattle.move_core.specs.declared.moves.Move.{Move}
use Rattle.move_core.specs.declared.moves.Move.TheVariants.{Insert, Remove, Shift, Swap, Reverse, Cross}
use Rattle.move_core.specs.Moves.{is_vehicle, is_placed}
use Rattle.board_text.specs.declared.cause.Cause.{Cause}
use Rattle.board_text.specs.declared.cause.Cause.TheVariants as causes

-- a place that has to be 1 to `most`
abbrev pub place_cause : ℕ → ℕ → ℕ → Cause
place_cause v p most = if nat_le 1 p && nat_le p most then causes.Nothing else causes.NoPlace v p most

abbrev pub insert_cause : ℕ → List (List ℕ) → ℕ → ℕ → ℕ → Cause
insert_cause customers routes c v p =
    if not (is_vehicle routes v) then causes.NoVehicle v
    else if (c == 0) || nat_lt customers c then causes.NoCustomer c customers
    else if is_placed routes c then causes.Planned c
    else place_cause v p (length (route_at routes v) + 1)

abbrev pub remove_cause : List (List ℕ) → ℕ → ℕ → Cause
remove_cause routes v p =
    if not (is_vehicle routes v) then causes.NoVehicle v
    else place_cause v p (length (route_at routes v))

-- the last place at which n customers of vehicle v may stand in vehicle w, once they are out of v
abbrev pub last_place : List (List ℕ) → ℕ → ℕ → ℕ → ℕ
last_place routes v n w = if v == w then length (route_at routes w) + 1 - n else length (route_at routes w) + 1

abbrev pub shift_cause : List (List ℕ) → ℕ → ℕ → ℕ → ℕ → ℕ → Cause
shift_cause routes v p n w q =
    if not (is_vehicle routes v) then causes.NoVehicle v
    else if not (is_vehicle routes w) then causes.NoVehicle w
    else if n == 0 then causes.Empty
    else if (p == 0) || nat_lt (length (route_at routes v)) p then causes.NoPlace v p (length (route_at routes v))
    else if nat_lt (length (route_at routes v) + 1) (p + n) then causes.TooLong v p n
    else if (v == w) && (p == q) then causes.SamePlace
    else place_cause w q (last_place routes v n w)

abbrev pub swap_cause : List (List ℕ) → ℕ → ℕ → ℕ → ℕ → Cause
swap_cause routes v p w q =
    if not (is_vehicle routes v) then causes.NoVehicle v
    else if not (is_vehicle routes w) then causes.NoVehicle w
    else if (v == w) && (p == q) then causes.SamePlace
    else if (p == 0) || nat_lt (length (route_at routes v)) p then causes.NoPlace v p (length (route_at routes v))
    else place_cause w q (length (route_at routes w))

abbrev pub reverse_cause : List (List ℕ) → ℕ → ℕ → ℕ → Cause
reverse_cause routes v first last =
    if not (is_vehicle routes v) then causes.NoVehicle v
    else if nat_le last first then causes.Order first last
    else if first == 0 then causes.NoPlace v first (length (route_at routes v))
    else place_cause v last (length (route_at routes v))

abbrev pub cross_cause : List (List ℕ) → ℕ → ℕ → ℕ → ℕ → Cause
cross_cause routes v k w l =
    if not (is_vehicle routes v) then causes.NoVehicle v
    else if not (is_vehicle routes w) then causes.NoVehicle w
    else if v == w then causes.SameVehicle v
    else if nat_lt (length (route_at routes v)) k then causes.NoKeep v k (length (route_at routes v))
    else if nat_lt (length (route_at routes w)) l then causes.NoKeep w l (length (route_at routes w))
    else if (k == length (route_at routes v)) && (l == length (route_at routes w)) then causes.NoTails
    else causes.Nothing

abbrev pub cause_of : ℕ → List (List ℕ) → Move → Cause
cause_of customers routes (Insert c v p) = insert_cause customers routes c v p
cause_of customers routes (Remove v p) = remove_cause routes v p
cause_of customers routes (Shift v p n w q) = shift_cause routes v p n w q
cause_of customers routes (Swap v p w q) = swap_cause routes v p w q
cause_of customers routes (Reverse v first last) = reverse_cause routes v first last
cause_of customers routes (Cross v k w l) = cross_cause routes v k w l
