-- The parts of a script, as they are cut off what was read of it.
use Rattle.std.specs.Prelude.{◌≡◌, ℕ, Bool, true, false, List, [], ◌++◌, Option, Result, Ok, Err}
use Rattle.std.specs.Io.KnownBytes.{Consumes, IsAtEnd, Keeps}
use Rattle.board_lines.specs.Replies.{ended}
use Rattle.line_engine.specs.Running.{HasNoEnd, IsLine, IsTooLong}
use Rattle.line_engine.specs.declared.run_fault.RunFault.{RunFault}
use Rattle.line_engine.specs.declared.run_fault.RunFault.TheVariants as runs
use Rattle.board_text.specs.declared.feed.Piece.{Piece}
use Rattle.board_text.specs.declared.feed.Piece.TheVariants as pieces

-- the bytes are a line with its end, and the rest
abbrev pub IsCut : List ℕ → List ℕ → List ℕ → Type 0
IsCut bytes line rest = (l : List ℕ) × HasNoEnd l × (line ≡ ended l) × (bytes ≡ line ++ rest)

-- what is held is a part of a line, and stays
abbrev pub IsUncut : List ℕ → List ℕ → Type 0
IsUncut had held = IsLine had × (held ≡ had)

-- a line was cut off what was held, or what is held is too long
abbrev pub IsFirst : List ℕ → List ℕ → Piece → Type 0
IsFirst had held (pieces.Line line) = (l : List ℕ) × IsLine l × (line.items ≡ ended l) × (had ≡ ended l ++ held)
IsFirst had held (pieces.Last rest) = ⊥
IsFirst had held pieces.Long = IsTooLong had

-- more bytes were read and are held, or there are no more
abbrev pub AreRead : Bool → List ℕ → List ℕ → Option (List ℕ) → Option (List ℕ) → Type 0
AreRead true had held old new = (bytes : List ℕ) × Consumes old new bytes × (held ≡ had ++ bytes)
AreRead false had held old new = Consumes old new [] × (held ≡ had) × IsAtEnd new

-- the read failed, or memory ran out for what it gave
abbrev pub IsUnread : RunFault → Option (List ℕ) → Option (List ℕ) → Type 0
IsUnread runs.Read old new = Keeps old new
IsUnread runs.NoMemory old new = (bytes : List ℕ) × Consumes old new bytes
IsUnread _ old new = ⊥

-- With what was held and these bytes: a line, or what follows the last line end, at the end of all, or more than a line may have; or the
-- rest of the line could not be read, or memory ran out.
abbrev pub IsPart : List ℕ → List ℕ → Option (List ℕ) → Result Piece RunFault → Type 0
IsPart had held left (Ok (pieces.Last rest)) = IsLine rest.items × (had ≡ rest.items) × IsAtEnd left
IsPart had held left (Ok piece) = IsFirst had held piece
IsPart had held left (Err runs.Read) = IsLine had
IsPart had held left (Err runs.NoMemory) = Unit {0}
IsPart had held left (Err _) = ⊥

abbrev pub IsNext : List ℕ → List ℕ → Option (List ℕ) → Option (List ℕ) → Result Piece RunFault → Type 0
IsNext had held old new result = (bytes : List ℕ) × Consumes old new bytes × IsPart (had ++ bytes) held new result
