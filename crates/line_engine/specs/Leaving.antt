-- What comes of a line at a front, where step says which answers a command may have, and refuses what running out of memory at a command may
-- leave.
use Rattle.std.specs.Prelude.{◌≡◌, ◌⊎◌, Result, Ok, Err}
use Rattle.board_lines.specs.declared.command.Command.{Command}
use Rattle.board_lines.specs.declared.command.Command.TheVariants.{Skip, List as ListRows, Json}
use Rattle.board_lines.specs.declared.command.LineFault.{LineFault}
use Rattle.line_engine.specs.Answers.{Answer, Listed, Rowed}
use Rattle.line_engine.specs.Outcomes.{Outcome, Nothing, Said, Bad}

-- the same answer with its rows as JSON
abbrev pub as_json : Answer → Answer
as_json (Listed rows) = Rowed rows
as_json answer = answer

-- what a front is asked for a command: for rows as JSON it is asked for a listing
abbrev pub asked : Command → Command
asked (Json session) = ListRows session
asked command = command

-- From old, the command has this outcome and leaves new. Rows as JSON are those of a listing.
abbrev pub Does : {S : Type 0} → (S → Command → Answer → S → Type 0) → S → Command → Outcome → S → Type 0
Does step old Skip outcome new = (outcome ≡ Nothing) × (new ≡ old)
Does step old (Json session) outcome new = (answer : Answer) × (outcome ≡ Said (as_json answer)) × step old (ListRows session) answer new
Does step old command outcome new = (answer : Answer) × (outcome ≡ Said answer) × step old command answer new

-- From old, what was read has this outcome and leaves new.
abbrev pub Gives : {S : Type 0} → (S → Command → Answer → S → Type 0) → S → Result Command LineFault → Outcome → S → Type 0
Gives step old (Err fault) outcome new = (outcome ≡ Bad fault) × (new ≡ old)
Gives step old (Ok command) outcome new = Does step old command outcome new

-- Running out of memory left the front as it may, or the front answered and the text is lost.
abbrev pub Fails : {S : Type 0} → (S → Command → Answer → S → Type 0) → (S → Command → S → Type 0) → S → Command → S → Type 0
Fails step refuses old command new = refuses old (asked command) new ⊎ ((outcome : Outcome) × Does step old command outcome new)

-- and the same for what the front answers by itself
abbrev pub Loses : {S : Type 0} → (S → Command → Answer → S → Type 0) → (S → Command → S → Type 0) → S → Command → S → Type 0
Loses step refuses old command new = refuses old command new ⊎ ((answer : Answer) × step old command answer new)

-- From old, memory ran out at what was read, which left new.
abbrev pub RunsOut : {S : Type 0} → (S → Command → S → Type 0) → S → Result Command LineFault → S → Type 0
RunsOut refuses old (Err fault) new = ⊥
RunsOut refuses old (Ok command) new = refuses old (asked command) new

-- From old, what was read was asked for, which left new: memory ran out at it, or it was answered.
abbrev pub Leaves : {S : Type 0} → (S → Command → Answer → S → Type 0) → (S → Command → S → Type 0) → S → Result Command LineFault → S → Type 0
Leaves step refuses old read new = RunsOut refuses old read new ⊎ ((outcome : Outcome) × Gives step old read outcome new)

-- The text of a line's answer is lost: the front was not asked, or it was.
abbrev pub Drops : {S : Type 0} → (S → Command → Answer → S → Type 0) → (S → Command → S → Type 0) → S → Result Command LineFault → S → Type 0
Drops step refuses old read new = (new ≡ old) ⊎ Leaves step refuses old read new
