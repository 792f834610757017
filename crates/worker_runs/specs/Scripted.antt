-- What a run with workers and a live script writes, and the status that it ends with, from the bytes of its inputs.
use Rattle.std.specs.Prelude.{◌≡◌, ℕ, ◌+◌, ◌⊎◌, Bool, ◌||◌, nat_lt, List, Option, Result, Ok, if◌then◌else◌}
use Rattle.std.specs.Io.KnownBytes.{Keeps}
use Rattle.board_rules.specs.History.{History}
use Rattle.board_text.specs.BoardSteps.{DeskState, desk_state, IsBoardStep, LacksMemory}
use Rattle.line_engine.specs.WholeRuns.{IsAnswered, IsStopped}
use Rattle.line_engine.specs.declared.run_fault.RunFault.{RunFault}
use Rattle.solomon_reader.specs.Checks.{Fault, fault}
use Rattle.solomon_reader.specs.Instances.{Plain}
use Rattle.program_parts.specs.Network.{Sites}
use Rattle.program_parts.specs.Streams.{IsReported}
use Rattle.program_parts.specs.declared.stop.Stop.{Stop}
use Rattle.program_parts.specs.declared.stop.Stop.TheVariants as stops
use Rattle.board_program.specs.Standard.{IsOpening, opening_of}
use Rattle.program_parts.specs.Standard.{AreSitesOf}
use Rattle.worker_runs.specs.declared.orders.Orders.{Orders}
use Rattle.worker_runs.specs.SetUp.{AreAsked, set_up_of}
use Rattle.worker_runs.specs.Halls.{IsHallRun, IsHallShort}

-- ---- over a board

-- what is left of the two scripts and what has been written, before and after
pub record Flow : Type 0 where
  pub script_old : Option (List ℕ)
  pub script_new : Option (List ℕ)
  pub live_old : Option (List ℕ)
  pub live_new : Option (List ℕ)
  pub was : Option (List ℕ)
  pub now : Option (List ℕ)

abbrev pub flow_of : Option (List ℕ) → Option (List ℕ) → Option (List ℕ) → Option (List ℕ) → Option (List ℕ) → Option (List ℕ) → Flow
flow_of script_old script_new live_old live_new was now =
    record { script_old = script_old; script_new = script_new; live_old = live_old; live_new = live_new; was = was; now = now }

-- The workers are set up on desk 1 of a board, and then the script was answered there, by nobody but this desk.
pub record IsScriptAnswered (h : History) (orders : Orders) (f : Flow) (now : Option (List ℕ)) (refusals : ℕ) (done : DeskState) : Type 0 where
  pub ready : DeskState
  pub set_up : AreAsked IsBoardStep (desk_state h 1 1) (set_up_of orders.workers) ready
  pub answers : ℕ
  pub answered : IsAnswered IsBoardStep ready done f.script_old f.script_new f.was now answers refusals

-- The script ended early, and the live script was not read.
pub record IsScriptStopped (h : History) (orders : Orders) (f : Flow) (fault : RunFault) : Type 0 where
  pub ready : DeskState
  pub set_up : AreAsked IsBoardStep (desk_state h 1 1) (set_up_of orders.workers) ready
  pub done : DeskState
  pub stopped : IsStopped IsBoardStep LacksMemory fault ready done f.script_old f.script_new f.was f.now
  pub unread : f.live_new ≡ f.live_old

-- The script was answered, and then the hall was run. Whether a line of either counted as refused.
pub record IsServed (h : History) (orders : Orders) (f : Flow) (refused : Bool) : Type 0 where
  pub done : DeskState
  pub mid : Option (List ℕ)
  pub refusals : ℕ
  pub script : IsScriptAnswered h orders f mid refusals done
  pub live_refusals : ℕ
  pub hall : IsHallRun done.history.opening orders done.history.entries f.live_old f.live_new mid f.now live_refusals
  pub refused_is : refused ≡ (nat_lt 0 refusals || nat_lt 0 live_refusals)

-- The script was answered, and the hall could not be opened, or came to no end.
pub record IsHallStopped (h : History) (orders : Orders) (f : Flow) (stop : Stop) : Type 0 where
  pub done : DeskState
  pub mid : Option (List ℕ)
  pub refusals : ℕ
  pub script : IsScriptAnswered h orders f mid refusals done
  pub short : IsHallShort done.history.opening orders done.history.entries f.live_old f.live_new mid f.now stop

-- nothing was read or written
abbrev pub IsUntouched : Flow → Type 0
IsUntouched f = (f.script_new ≡ f.script_old) × (f.live_new ≡ f.live_old) × (f.now ≡ f.was)

-- Why a run came to no end: memory ran out before the script; or the script ended early; or the hall came to no end.
abbrev pub IsServedShort : History → Orders → Flow → Stop → Type 0
IsServedShort h orders f (stops.Instance kind line) = ⊥
IsServedShort h orders f stops.Open = IsUntouched f ⊎ IsHallStopped h orders f stops.Open
IsServedShort h orders f (stops.Run fault) = IsScriptStopped h orders f fault ⊎ IsHallStopped h orders f (stops.Run fault)

-- ---- over an instance

-- a history that an instance opens, with a desk more than workers, before its first entry
abbrev pub IsOpened : Plain → Orders → History → Type 0
IsOpened i orders h = IsOpening i (orders.workers + 1) h

-- it was opened and served
pub record IsRunOf (i : Plain) (orders : Orders) (f : Flow) (refused : Bool) : Type 0 where
  pub sites : Sites
  pub of : AreSitesOf i sites
  pub served : IsServed (opening_of sites (orders.workers + 1)) orders f refused

-- or it was not opened, or came to no end
pub record IsRunShort (i : Plain) (orders : Orders) (f : Flow) (stop : Stop) : Type 0 where
  pub sites : Sites
  pub of : AreSitesOf i sites
  pub short : IsServedShort (opening_of sites (orders.workers + 1)) orders f stop

abbrev pub IsUnrun : Plain → Orders → Flow → Stop → Type 0
IsUnrun i orders f stop = ((stop ≡ stops.Open) × IsUntouched f) ⊎ IsRunShort i orders f stop

-- ---- all bytes

-- 1 where a line counted as refused
abbrev pub status_of : Bool → ℕ
status_of refused = if refused then 1 else 0

-- the bytes are no instance, or memory ran out while they were read, and nothing was read or written
abbrev pub IsNoInstance : Result Plain Fault → Flow → Stop → Type 0
IsNoInstance read f (stops.Instance kind line) = (read ≡ fault kind line) × IsUntouched f
IsNoInstance read f stops.Open = IsUntouched f
IsNoInstance read f (stops.Run fault) = ⊥

-- By what the instance's bytes say: the run on its board came to its end, nothing is reported, and the status is 0 or 1; or it did not, which
-- is reported, and the status is 3.
abbrev pub IsRunOfBytes : Result Plain Fault → Orders → Flow → Option (List ℕ) → Option (List ℕ) → ℕ → Type 0
IsRunOfBytes read orders f reports_were reports_are status =
    ((i : Plain) × (read ≡ Ok i) × (refused : Bool) × IsRunOf i orders f refused × (status ≡ status_of refused) × Keeps reports_were reports_are)
    ⊎ ((stop : Stop) × (IsNoInstance read f stop ⊎ ((i : Plain) × (read ≡ Ok i) × IsUnrun i orders f stop)) × IsReported stop reports_were reports_are status)
