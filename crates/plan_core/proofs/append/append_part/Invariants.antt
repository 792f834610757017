use Rattle.std.proofs.Common.{◌≡◌, ◌+◌, ◌≤◌, ◌++◌, take, vec_len, vec_capacity}
use Rattle.plan_core.proofs.append.append_part.Given as goal

-- the elements so far
abbrev pub invariant-loop-element : goal.invariant-loop-element
invariant-loop-element g l = record {
  items : l.list.items ≡ l.fn.list.items ++ take l.element-index l.part;
  len : vec_len l.list ≡ vec_len l.fn.list + l.element-index;
  capacity : vec_capacity l.fn.list ≤ vec_capacity l.list;
}
