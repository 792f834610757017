use Rattle.std.proofs.Common.{length, add-zero, sym, append-nil, le_refl, vec_len, vec_capacity}
use Rattle.plan_core.proofs.Appended.{part_more, part_all, room_left, count_more, count_all, capacity_kept, given}
use Rattle.plan_core.proofs.append.append_part.Goals as goal

pub returns-then-part-gt-FEW-clause-items : goal.returns-then-part-gt-FEW-clause-items
returns-then-part-gt-FEW-clause-items g c = given _ _ _ _ c.extend_from_slice.ensures.items

pub returns-then-part-gt-FEW-clause-len : goal.returns-then-part-gt-FEW-clause-len
returns-then-part-gt-FEW-clause-len g c = given _ _ _ _ c.extend_from_slice.ensures.len

pub loop-element-init : goal.loop-element-init
loop-element-init g c = record { items = sym (append-nil c.args.list.now.items); len = sym (add-zero (vec_len c.args.list.now)); capacity = le_refl (vec_capacity c.args.list.now) }

pub push_reserved-requires : goal.push_reserved-requires
push_reserved-requires g c =
    let i = c.loop-element.invariant in
    room_left _ (vec_len c.args.list.now) (length c.args.part.now) (vec_capacity c.args.list.now) _ _ i.len i.capacity c.requires.room c.loop-element-test.true

pub loop-element-preserved : goal.loop-element-preserved
loop-element-preserved g c =
    let i = c.loop-element.invariant in
    let new = c.push_reserved.ensures in
    record {
      items = part_more c.push_reserved.new.self.items _ _ c.args.part.now _ _ new.items i.items c.element-item.is c.loop-element-test.true;
      len = count_more (vec_len c.push_reserved.new.self) (vec_len c.loop-element.list) (vec_len c.args.list.now) _ new.len i.len;
      capacity = capacity_kept _ _ _ i.capacity new.capacity;
    }

pub returns-clause-items : goal.returns-clause-items
returns-clause-items g c = part_all _ _ c.args.part.now _ c.loop-element.invariant.items c.loop-element-test.false

pub returns-clause-len : goal.returns-clause-len
returns-clause-len g c =
    count_all _ (vec_len c.args.list.now) _ _ c.loop-element.invariant.len c.loop-element.auto.element-index-end c.loop-element-test.false
