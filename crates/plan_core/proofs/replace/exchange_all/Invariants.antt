use Rattle.std.proofs.Common.{◌≡◌, ◌++◌, length, take, drop}
use Rattle.plan_core.specs.Plan.{routes_of, changes_of, former, with_routes, with_stamps}
use Rattle.plan_core.proofs.Exchange.{IsExchanging}
use Rattle.plan_core.proofs.replace.exchange_all.Given as goal

-- the changes that are left lead to what is promised
abbrev pub invariant-loop-k : goal.invariant-loop-k
invariant-loop-k l = record {
  kept : IsExchanging (with_routes (changes_of l.fn.changes) (routes_of l.fn.routes)) (with_stamps (changes_of l.fn.changes) l.version l.fn.stamps)
      l.version (changes_of (drop l.k l.changes)) (routes_of l.routes) l.stamps l.homes;
  gone : changes_of (take l.k l.changes) ++ former (routes_of l.routes) (changes_of (drop l.k l.changes)) ≡ former (routes_of l.fn.routes) (changes_of l.fn.changes);
  sized : length l.stamps ≡ length l.routes;
}
