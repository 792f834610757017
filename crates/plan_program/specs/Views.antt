-- What is written of a plan: its picture, or its sums.
use Rattle.std.specs.Prelude.{◌≡◌, ℕ, ◌≤◌, ◌⊎◌, All, List, length, Option, Ok}
use Rattle.std.specs.Io.KnownBytes.{Appends, Keeps}
use Rattle.limits.specs.declared.TheConstants.{MOST_VEHICLES}
use Rattle.line_engine.specs.Running.{AppendsPrefix}
use Rattle.solomon_reader.specs.Checks.{fault}
use Rattle.solomon_reader.specs.Instances.{Plain}
use Rattle.solomon_reader.specs.Reading.{read_of}
use Rattle.line_engine.specs.declared.run_fault.RunFault.TheVariants as runs
use Rattle.program_parts.specs.declared.stop.Stop.TheVariants as stops
use Rattle.program_parts.specs.Streams.{Streams, IsUnreadable}
use Rattle.plan_sums.specs.declared.row.Row.{Row}
use Rattle.plan_sums.specs.declared.fault.RowsFault.TheVariants as faults
use Rattle.plan_sums.specs.declared.tour.Tour.{Tour}
use Rattle.plan_sums.specs.Places.{Places, ArePlaces}
use Rattle.plan_sums.specs.Reading.{AreLastRows, IsFault}
use Rattle.plan_sums.specs.Rows.{AreRows}
use Rattle.plan_sums.specs.Tours.{tours_of}
use Rattle.plan_program.specs.declared.stop.ViewStop.{ViewStop}
use Rattle.plan_program.specs.declared.stop.ViewStop.TheVariants as views
use Rattle.plan_program.specs.Stops.{IsViewReported}

-- the bytes are those of an instance, which has these places
pub record IsInstanceOf (bytes : List ℕ) (p : Places) : Type 0 where
  pub plain : Plain
  pub read : read_of bytes ≡ Ok plain
  pub name : p.name ≡ plain.name
  pub vehicles : p.vehicles ≡ plain.vehicles
  pub capacity : p.capacity ≡ plain.capacity
  pub nodes : p.nodes ≡ plain.nodes
  pub sound : ArePlaces p

-- What is written is the text of the rows of the output's last listing.
pub record IsShown (text_of : Places → List Row → List ℕ) (instance output : List ℕ) (was now : Option (List ℕ)) : Type 0 where
  pub places : Places
  pub of : IsInstanceOf instance places
  pub rows : List Row
  pub listed : AreLastRows places output rows
  pub written : Appends was now (text_of places rows)

-- A prefix of that text is written.
pub record IsPartShown (text_of : Places → List Row → List ℕ) (instance output : List ℕ) (was now : Option (List ℕ)) : Type 0 where
  pub places : Places
  pub of : IsInstanceOf instance places
  pub rows : List Row
  pub listed : AreLastRows places output rows
  pub written : AppendsPrefix was now (text_of places rows)

-- Why it is not: there is no instance, or a row is at fault, and nothing is written; or the writer fails, or memory runs out, maybe before
-- anything is written, and a prefix of the text is.
abbrev pub IsUnshown : (Places → List Row → List ℕ) → List ℕ → List ℕ → Option (List ℕ) → Option (List ℕ) → ViewStop → Type 0
IsUnshown text_of instance output was now (views.Parts (stops.Instance kind line)) = (read_of instance ≡ fault kind line) × Keeps was now
IsUnshown text_of instance output was now (views.Parts stops.Open) = Keeps was now ⊎ IsPartShown text_of instance output was now
IsUnshown text_of instance output was now (views.Parts (stops.Run runs.Write)) = IsPartShown text_of instance output was now
IsUnshown text_of instance output was now (views.Parts (stops.Run _)) = ⊥
IsUnshown text_of instance output was now (views.Rows line) = (p : Places) × IsInstanceOf instance p × IsFault p output (faults.Line line) × Keeps was now

-- By both inputs: all is written, nothing is reported, and the status is 0; or not, which is reported, and it is 3.
abbrev pub IsView : (Places → List Row → List ℕ) → List ℕ → List ℕ → Streams → ℕ → Type 0
IsView text_of instance output streams status = ((status ≡ 0) × IsShown text_of instance output streams.was streams.now × Keeps streams.reports_were streams.reports_are)
    ⊎ ((stop : ViewStop) × IsUnshown text_of instance output streams.was streams.now stop × IsViewReported stop streams.reports_were streams.reports_are status)

-- ---- before anything is written

-- an instance, the rows of a listing of it, and their sums
pub record IsOpened (instance output : List ℕ) (p : Places) (rows : List Row) (tours : List Tour) : Type 0 where
  pub of : IsInstanceOf instance p
  pub listed : AreLastRows p output rows
  pub are : AreRows p rows
  pub sums : tours ≡ tours_of p rows
  pub few : length tours ≤ MOST_VEHICLES
  pub small : All (λ tour. tour.distance ≤ 1000141421342) tours

-- why they are not there
abbrev pub IsUnopened : List ℕ → List ℕ → ViewStop → Type 0
IsUnopened instance output (views.Parts (stops.Instance kind line)) = read_of instance ≡ fault kind line
IsUnopened instance output (views.Parts stops.Open) = Unit {0}
IsUnopened instance output (views.Parts (stops.Run _)) = ⊥
IsUnopened instance output (views.Rows line) = (p : Places) × IsInstanceOf instance p × IsFault p output (faults.Line line)

-- ---- files

-- a file that cannot be read is reported, and nothing is written
abbrev pub IsUnreadFile : List ℕ → Streams → ℕ → Type 0
IsUnreadFile path streams status = (streams.now ≡ streams.was) × IsUnreadable path streams.reports_were streams.reports_are status

-- one of the files cannot be read, or some bytes were read of each
abbrev pub IsViewOfFiles : (Places → List Row → List ℕ) → List ℕ → List ℕ → Streams → ℕ → Type 0
IsViewOfFiles text_of instance_path rows_path streams status = IsUnreadFile instance_path streams status ⊎ IsUnreadFile rows_path streams status
    ⊎ ((instance : List ℕ) × (output : List ℕ) × IsView text_of instance output streams status)
