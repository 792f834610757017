use Rattle.std.proofs.Common.{◌≡◌, ◌++◌, string_bytes, drop}
use Rattle.plan_sums.specs.Pieces.{filled}
use Rattle.plan_sums.proofs.pieces.push_filled.Given as goal

-- what is left to append
abbrev pub invariant-loop-k : goal.invariant-loop-k
invariant-loop-k l = string_bytes l.fn.out ++ filled l.texts l.numbers l.last ≡ string_bytes l.out ++ filled (drop l.k l.texts) (drop l.k l.numbers) l.last
