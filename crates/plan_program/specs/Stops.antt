-- Why a view of a plan was not made, and the line that says so.
use Rattle.std.specs.Prelude.{◌≡◌, ℕ, List, ◌++◌, codes, Option}
use Rattle.std.specs.Fmt.{decimal}
use Rattle.solomon_reader.specs.declared.fault.ReadFault.{ReadFault}
use Rattle.solomon_reader.specs.declared.fault.ReadFault.TheVariants as reads
use Rattle.line_engine.specs.Running.{AppendsPrefix}
use Rattle.line_engine.specs.declared.run_fault.RunFault.TheVariants as runs
use Rattle.program_parts.specs.declared.stop.Stop.TheVariants as stops
use Rattle.program_parts.specs.Streams.{stop_line}
use Rattle.plan_sums.specs.declared.fault.RowsFault.{RowsFault}
use Rattle.plan_sums.specs.declared.fault.RowsFault.TheVariants as faults
use Rattle.plan_program.specs.declared.stop.ViewStop.{ViewStop}
use Rattle.plan_program.specs.declared.stop.ViewStop.TheVariants as views

-- the stop of an instance that could not be read
abbrev pub IsInstanceStop : ReadFault → ViewStop → Type 0
IsInstanceStop reads.NoMemory stop = stop ≡ views.Parts stops.Open
IsInstanceStop (reads.At kind line) stop = stop ≡ views.Parts (stops.Instance kind line)

-- the stop of rows that could not be read
abbrev pub IsRowsStop : RowsFault → ViewStop → Type 0
IsRowsStop faults.NoMemory stop = stop ≡ views.Parts stops.Open
IsRowsStop (faults.Line line) stop = stop ≡ views.Rows line

-- the line of a stop
abbrev pub view_line : ViewStop → List ℕ
view_line (views.Parts stop) = stop_line stop
view_line (views.Rows line) = codes "dispatch: rows fault line " ++ (decimal line ++ codes "\n")

-- The status is 3, and the line of the stop is reported, or a prefix of it where that stream fails.
abbrev pub IsViewReported : ViewStop → Option (List ℕ) → Option (List ℕ) → ℕ → Type 0
IsViewReported stop was now status = (status ≡ 3) × AppendsPrefix was now (view_line stop)

-- what may come while a view is written: memory runs out, or the writer fails
abbrev pub IsWriting : ViewStop → Type 0
IsWriting (views.Parts (stops.Instance kind line)) = ⊥
IsWriting (views.Parts stops.Open) = Unit {0}
IsWriting (views.Parts (stops.Run runs.Write)) = Unit {0}
IsWriting (views.Parts (stops.Run _)) = ⊥
IsWriting (views.Rows line) = ⊥
