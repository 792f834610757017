-- Why a run ended early.
use Rattle.std.specs.Prelude.{◌≡◌}
use Rattle.solomon_reader.specs.declared.fault.ReadFault.{ReadFault}
use Rattle.solomon_reader.specs.declared.fault.ReadFault.TheVariants as reads
use Rattle.line_engine.specs.declared.run_fault.RunFault.TheVariants as runs
use Rattle.program_parts.specs.declared.stop.Stop.{Stop}
use Rattle.program_parts.specs.declared.stop.Stop.TheVariants as stops

-- the stop of an instance that could not be read
abbrev pub IsStopOf : ReadFault → Stop → Type 0
IsStopOf reads.NoMemory stop = stop ≡ stops.Open
IsStopOf (reads.At kind line) stop = stop ≡ stops.Instance kind line

-- What may come before the mark: memory ran out; or a read failed, or more bytes came than an instance may have.
abbrev pub IsUnread : Stop → Type 0
IsUnread (stops.Instance kind line) = ⊥
IsUnread stops.Open = Unit {0}
IsUnread (stops.Run runs.Read) = Unit {0}
IsUnread (stops.Run runs.Write) = ⊥
IsUnread (stops.Run runs.LongLine) = ⊥
IsUnread (stops.Run runs.NoMemory) = ⊥
