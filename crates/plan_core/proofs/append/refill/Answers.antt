use Rattle.std.proofs.Common.{◌≡◌, ◌∙◌, ℕ, List, OnOk, subst, vec_len, vec_capacity}
use Rattle.plan_core.proofs.Appended.{four_parts, room_all, room_next, room_now}
use Rattle.plan_core.proofs.append.refill.Goals as goal

pub append_part-requires : goal.append_part-requires
append_part-requires c =
    let all = room_all (vec_len c.reserve.new.self) _ _ _ _ (vec_capacity c.reserve.new.self) c.in_ok-reserve.ensures.ok in
    record { room = room_now (vec_len c.reserve.new.self) _ _ (vec_capacity c.reserve.new.self) all }

pub append_part-requires-2 : goal.append_part-requires-2
append_part-requires-2 c =
    let all = room_all (vec_len c.reserve.new.self) _ _ _ _ (vec_capacity c.reserve.new.self) c.in_ok-reserve.ensures.ok in
    let more = room_next (vec_len c.append_part.new.list) (vec_len c.reserve.new.self) _ _ (vec_capacity c.append_part.new.list) (vec_capacity c.reserve.new.self) all c.in_ok-append_part.ensures.len c.append_part.ensures.capacity in
    record { room = room_now (vec_len c.append_part.new.list) _ _ (vec_capacity c.append_part.new.list) more }

pub append_part-requires-3 : goal.append_part-requires-3
append_part-requires-3 c =
    let all = room_all (vec_len c.reserve.new.self) _ _ _ _ (vec_capacity c.reserve.new.self) c.in_ok-reserve.ensures.ok in
    let more = room_next (vec_len c.append_part.new.list) (vec_len c.reserve.new.self) _ _ (vec_capacity c.append_part.new.list) (vec_capacity c.reserve.new.self) all c.in_ok-append_part.ensures.len c.append_part.ensures.capacity in
    let few = room_next (vec_len c.append_part-2.new.list) (vec_len c.append_part.new.list) _ _ (vec_capacity c.append_part-2.new.list) (vec_capacity c.append_part.new.list) more c.in_ok-append_part-2.ensures.len c.append_part-2.ensures.capacity in
    record { room = room_now (vec_len c.append_part-2.new.list) _ _ (vec_capacity c.append_part-2.new.list) few }

pub append_part-requires-4 : goal.append_part-requires-4
append_part-requires-4 c =
    let all = room_all (vec_len c.reserve.new.self) _ _ _ _ (vec_capacity c.reserve.new.self) c.in_ok-reserve.ensures.ok in
    let more = room_next (vec_len c.append_part.new.list) (vec_len c.reserve.new.self) _ _ (vec_capacity c.append_part.new.list) (vec_capacity c.reserve.new.self) all c.in_ok-append_part.ensures.len c.append_part.ensures.capacity in
    let few = room_next (vec_len c.append_part-2.new.list) (vec_len c.append_part.new.list) _ _ (vec_capacity c.append_part-2.new.list) (vec_capacity c.append_part.new.list) more c.in_ok-append_part-2.ensures.len c.append_part-2.ensures.capacity in
    let rest = room_next (vec_len c.append_part-3.new.list) (vec_len c.append_part-2.new.list) _ _ (vec_capacity c.append_part-3.new.list) (vec_capacity c.append_part-2.new.list) few c.in_ok-append_part-3.ensures.len c.append_part-3.ensures.capacity in
    record { room = rest }

pub returns : goal.returns
returns c =
    subst (λ (xs : List ℕ). OnOk c.append_part-4.result (c.append_part-4.new.list.items ≡ xs))
    (four_parts c.reserve.new.self.items _ _ _ _ _ _ _ (c.in_ok-reserve.ensures.items ∙ c.clear.ensures.items) c.in_ok-append_part.ensures.items c.in_ok-append_part-2.ensures.items
    c.in_ok-append_part-3.ensures.items)
    c.append_part-4.ensures.items
