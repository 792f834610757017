-- What `dispatch check` prints of an instance, and the status that it ends with.
use Rattle.std.specs.Prelude.{◌≡◌, ℕ, ◌-◌, ◌*◌, ◌⊎◌, List, ◌++◌, length, codes, Option, Result, Ok, Err}
use Rattle.std.specs.Fmt.{decimal}
use Rattle.std.specs.Io.KnownBytes.{Appends, Keeps}
use Rattle.solomon_reader.specs.Checks.{Fault, fault}
use Rattle.solomon_reader.specs.Instances.{Plain}
use Rattle.travel_table.specs.Travel.{node_at}
use Rattle.line_engine.specs.Running.{AppendsPrefix}
use Rattle.line_engine.specs.declared.run_fault.RunFault.TheVariants as runs
use Rattle.program_parts.specs.Streams.{Streams, IsReported}
use Rattle.program_parts.specs.declared.stop.Stop.{Stop}
use Rattle.program_parts.specs.declared.stop.Stop.TheVariants as stops

-- the five lines, with their line ends: the depot is no customer, and the horizon is its due date in tenths
abbrev pub report_text : Plain → List ℕ
report_text i = codes "name " ++ (i.name
    ++ (codes "\ncustomers " ++ (decimal (length i.nodes - 1)
    ++ (codes "\nvehicles " ++ (decimal i.vehicles
    ++ (codes "\ncapacity " ++ (decimal i.capacity
    ++ (codes "\nhorizon " ++ (decimal ((node_at i.nodes 0).due * 10) ++ codes "\n")))))))))

-- Why there is no whole report, with what was written: the text is no instance, or memory ran out, and nothing was; or the writer failed.
abbrev pub IsCheckShort : Result Plain Fault → Option (List ℕ) → Option (List ℕ) → Stop → Type 0
IsCheckShort read was now (stops.Instance kind line) = (read ≡ fault kind line) × Keeps was now
IsCheckShort read was now stops.Open = Keeps was now
IsCheckShort read was now (stops.Run runs.Write) = (i : Plain) × (read ≡ Ok i) × AppendsPrefix was now (report_text i)
IsCheckShort read was now (stops.Run _) = ⊥

-- what a check comes to, before it is reported
abbrev pub ChecksTo : Result Plain Fault → Option (List ℕ) → Option (List ℕ) → Result (Unit {0}) Stop → Type 0
ChecksTo read was now (Ok done) = (i : Plain) × (read ≡ Ok i) × Appends was now (report_text i)
ChecksTo read was now (Err stop) = IsCheckShort read was now stop

-- By what the text says: its report is written, nothing is reported, and the status is 0; or there is no whole report, which is reported, and
-- it is 3.
abbrev pub IsChecked : Result Plain Fault → Streams → ℕ → Type 0
IsChecked read streams status = ((i : Plain) × (read ≡ Ok i) × (status ≡ 0) × Appends streams.was streams.now (report_text i) × Keeps streams.reports_were streams.reports_are)
    ⊎ ((stop : Stop) × IsCheckShort read streams.was streams.now stop × IsReported stop streams.reports_were streams.reports_are status)
