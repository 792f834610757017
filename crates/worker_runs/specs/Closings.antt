-- The version that closes a run, and how the lines that close it may fail to be written.
use Rattle.std.specs.Prelude.{◌≡◌, ℕ, List, Option}
use mathlib.Core.List.{IsPrefix}
use Rattle.board_rules.specs.declared.call.Entry.{Entry}
use Rattle.board_rules.specs.History.{Opening}
use Rattle.board_lock.specs.Watches.{Watch}
use Rattle.line_engine.specs.Running.{AppendsPrefix}
use Rattle.line_engine.specs.declared.run_fault.RunFault.{RunFault}
use Rattle.line_engine.specs.declared.run_fault.RunFault.TheVariants as runs
use Rattle.search_workers.specs.Jobs.{view_after}
use Rattle.worker_runs.specs.Halls.{AreMet}

-- the version of the plan after entries in which these desks met, and which begin what has been seen by now
pub record IsVersionOf (o : Opening) (desks : List Watch) (seen : List Entry) (version : ℕ) : Type 0 where
  pub entries : List Entry
  pub met : AreMet o desks entries
  pub within : IsPrefix entries seen
  pub version_is : version ≡ (view_after o entries).version

-- memory ran out before any of it was written, or the writer failed after a prefix of it
abbrev pub IsWrittenShort : RunFault → Option (List ℕ) → Option (List ℕ) → List ℕ → Type 0
IsWrittenShort runs.NoMemory was now text = now ≡ was
IsWrittenShort runs.Write was now text = AppendsPrefix was now text
IsWrittenShort _ was now text = ⊥
