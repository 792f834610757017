-- A run of files.
use Rattle.std.specs.Prelude.{◌≡◌, ℕ, ◌⊎◌, List, [], Option, Some, None, Result, Ok}
use Rattle.solomon_reader.specs.Checks.{Fault}
use Rattle.solomon_reader.specs.Instances.{Plain}
use Rattle.solomon_reader.specs.Reading.{read_of}
use Rattle.program_parts.specs.Streams.{Streams, IsUnreadable}
use Rattle.board_program.specs.Joined.{IsOfFiles}
use Rattle.worker_runs.specs.declared.orders.Orders.{Orders}
use Rattle.worker_runs.specs.Scripted.{IsRunOfBytes, flow_of}

-- a file that cannot be read is reported, and nothing is written
abbrev pub IsUnreadFile : List ℕ → Streams → ℕ → Type 0
IsUnreadFile path s status = (s.now ≡ s.was) × IsUnreadable path s.reports_were s.reports_are status

abbrev pub IsUnreadLive : Option (List ℕ) → Streams → ℕ → Type 0
IsUnreadLive None s status = ⊥
IsUnreadLive (Some path) s status = IsUnreadFile path s status

-- The instance was read and judged before a script is opened.
abbrev pub IsJudged : List ℕ → Type 0
IsJudged bytes = (i : Plain) × (read_of bytes ≡ Ok i)

-- the run of these orders over what was read of an instance, a script and a live script, whatever the bytes of the two are; where there is no
-- live script there are no live lines
abbrev pub IsRunOfSome : Result Plain Fault → Option (List ℕ) → Orders → Streams → ℕ → Type 0
IsRunOfSome read live orders s status = (script_old : Option (List ℕ)) × (script_new : Option (List ℕ)) × (live_old : Option (List ℕ)) × (live_new : Option (List ℕ))
    × (live ≡ None → live_old ≡ Some []) × IsRunOfBytes read orders (flow_of script_old script_new live_old live_new s.was s.now) s.reports_were s.reports_are status

-- once some bytes of an instance are read: they are judged, and the script or then the live script cannot be read; or it is the run of them
abbrev pub IsOfInstance : List ℕ → List ℕ → Option (List ℕ) → Orders → Streams → ℕ → Type 0
IsOfInstance bytes script live orders s status = (IsJudged bytes × (IsUnreadFile script s status ⊎ IsUnreadLive live s status)) ⊎ IsRunOfSome (read_of bytes) live orders s status

-- Without workers and a live script it is a run on a board of one thread. Else the instance's file cannot be read, or it is read first.
abbrev pub IsOfPaths : List ℕ → List ℕ → Option (List ℕ) → Orders → Streams → ℕ → Type 0
IsOfPaths instance script live orders s status = ((orders.workers ≡ 0) × (live ≡ None) × IsOfFiles instance script s status)
    ⊎ (IsUnreadFile instance s status ⊎ ((bytes : List ℕ) × IsOfInstance bytes script live orders s status))
