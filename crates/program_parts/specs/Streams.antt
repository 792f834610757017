-- What is written to the two streams: the replies, and one line, with its line end, where a fault is reported.
use Rattle.std.specs.Prelude.{◌≡◌, ◌≤◌, ℕ, ◌⊎◌, List, ◌++◌, codes, Option}
use Rattle.std.specs.Fmt.{decimal}
use Rattle.std.specs.Io.KnownBytes.{Keeps}
use Rattle.solomon_reader.specs.declared.fault.Kind.{Kind}
use Rattle.solomon_reader.specs.declared.fault.Kind.TheVariants as kinds
use Rattle.line_engine.specs.Running.{AppendsPrefix}
use Rattle.line_engine.specs.declared.run_fault.RunFault.TheVariants as runs
use Rattle.program_parts.specs.declared.stop.Stop.{Stop}
use Rattle.program_parts.specs.declared.stop.Stop.TheVariants as stops

-- the bytes of both, before and after, where they are known
pub record Streams : Type 0 where
  pub was : Option (List ℕ)
  pub now : Option (List ℕ)
  pub reports_were : Option (List ℕ)
  pub reports_are : Option (List ℕ)

abbrev pub streams_of : Option (List ℕ) → Option (List ℕ) → Option (List ℕ) → Option (List ℕ) → Streams
streams_of was now reports_were reports_are = record { was = was; now = now; reports_were = reports_were; reports_are = reports_are }

-- the check of an instance that fails
abbrev pub kind_text : Kind → List ℕ
kind_text kinds.Name = codes "name"
kind_text kinds.Vehicle = codes "vehicle"
kind_text kinds.Fleet = codes "fleet"
kind_text kinds.Customer = codes "customer"
kind_text kinds.Heading = codes "heading"
kind_text kinds.Fields = codes "fields"
kind_text kinds.Number = codes "number"
kind_text kinds.Order = codes "order"
kind_text kinds.Window = codes "window"
kind_text kinds.Depot = codes "depot"
kind_text kinds.Count = codes "count"
kind_text kinds.End = codes "end"

-- what stands before the number of the line at which it fails
abbrev pub instance_head : Kind → List ℕ
instance_head kind = codes "dispatch: instance fault " ++ (kind_text kind ++ codes " line ")

-- the line of a stop
abbrev pub stop_line : Stop → List ℕ
stop_line (stops.Instance kind line) = instance_head kind ++ (decimal line ++ codes "\n")
stop_line stops.Open = codes "dispatch: open fault\n"
stop_line (stops.Run runs.Read) = codes "dispatch: run fault read\n"
stop_line (stops.Run runs.Write) = codes "dispatch: run fault write\n"
stop_line (stops.Run runs.LongLine) = codes "dispatch: run fault long-line\n"
stop_line (stops.Run runs.NoMemory) = codes "dispatch: run fault no-memory\n"

-- the line of a path that cannot be read
abbrev pub path_line : List ℕ → List ℕ
path_line path = codes "dispatch: cannot read " ++ (path ++ codes "\n")

-- The status is 3, and the line of the stop is reported, or a prefix of it where that stream fails.
abbrev pub IsReported : Stop → Option (List ℕ) → Option (List ℕ) → ℕ → Type 0
IsReported stop was now status = (status ≡ 3) × AppendsPrefix was now (stop_line stop)

-- Nothing is reported where the status is 0 or 1, and else the line of some stop is.
abbrev pub AgreesWithStatus : Option (List ℕ) → Option (List ℕ) → ℕ → Type 0
AgreesWithStatus was now status = ((status ≤ 1) × Keeps was now) ⊎ ((stop : Stop) × IsReported stop was now status)

-- The status is 3, and the line of a path that cannot be read is reported, or that of memory which ran out.
abbrev pub IsUnreadable : List ℕ → Option (List ℕ) → Option (List ℕ) → ℕ → Type 0
IsUnreadable path was now status = (status ≡ 3) × (AppendsPrefix was now (path_line path) ⊎ AppendsPrefix was now (stop_line stops.Open))
