-- The status that a run ends with.
use Rattle.std.specs.Prelude.{ℕ, ◌==◌, Result, Ok, Err, if◌then◌else◌}
use Rattle.line_engine.specs.declared.run_fault.Counts.{Counts}
use Rattle.program_parts.specs.declared.stop.Stop.{Stop}

-- 1 where a line counted as refused, 3 where the run ended early, else 0
abbrev pub end_status : Result Counts Stop → ℕ
end_status (Ok counts) = if counts.refused == 0 then 0 else 1
end_status (Err stop) = 3
