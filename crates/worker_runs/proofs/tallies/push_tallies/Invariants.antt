use Rattle.std.proofs.Common.{◌≡◌, ◌++◌, take, string_bytes}
use Rattle.worker_runs.specs.Tallies.{tally_lines}
use Rattle.worker_runs.proofs.tallies.push_tallies.Given as goal

abbrev pub invariant-loop-k : goal.invariant-loop-k
invariant-loop-k l = string_bytes l.text ≡ string_bytes l.fn.text ++ tally_lines 1 (take l.k l.tallies)
