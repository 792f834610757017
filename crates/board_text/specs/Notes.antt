-- What a denial means.
use Rattle.std.specs.Prelude.{◌≡◌, ℕ, ◌==◌, ◌&&◌, ◌||◌, nat_lt, length, find, Option, Some, None, if◌then◌else◌}
use Rattle.dimension_core.specs.Setting.{Setting}
use Rattle.denial_facts.specs.declared.excess.Excess.{Excess}
use Rattle.denial_facts.specs.declared.excess.Excess.TheVariants as excesses
use Rattle.denial_facts.specs.Excesses.{IsOutBy}
use Rattle.plan_core.specs.declared.touch.Touch.{Touch}
use Rattle.plan_core.specs.Plan.{PlanState, stamp_of}
use Rattle.move_core.specs.declared.moves.Move.{Move}
use Rattle.move_core.specs.Moves.{changes_by, is_possible}
use Rattle.move_core.specs.Touched.{touched_by}
use Rattle.board_rules.specs.declared.reply.Denial.{Denial}
use Rattle.board_rules.specs.declared.reply.Denial.TheVariants as denials
use Rattle.board_text.specs.declared.note.Note.{Note}
use Rattle.board_text.specs.declared.note.Note.TheVariants as notes
use Rattle.board_text.specs.Causes.{cause_of}

-- ---- bounds

-- what is said of a vehicle's route that is out of bounds
abbrev pub excess_note : ℕ → Excess → Note
excess_note v (excesses.Load total most) = notes.Load v total most
excess_note v (excesses.Late place node least most) = notes.Late v place node least most
excess_note v excesses.Start = notes.Start v

-- By how much a new route that the move would give the vehicle is out of bounds in dimension d, from 1 on.
abbrev pub IsBoundNote : Setting → PlanState → Move → ℕ → ℕ → Note → Type 0
IsBoundNote s plan mv v d note = (excess : Excess) × (note ≡ excess_note v excess) × IsOutBy s (changes_by plan.routes mv) v d excess

-- ---- the others

-- the customer that the move touches at a place of a vehicle
abbrev pub customer_by : ℕ → ℕ → Option Touch → Note
customer_by v p None = notes.Rule (denials.AccessCustomer v p)
customer_by v p (Some t) = notes.Customer v p t.customer

abbrev pub customer_note : PlanState → Move → ℕ → ℕ → Note
customer_note plan mv v p =
    if is_possible plan.customers plan.routes mv then customer_by v p (find (λ t. (t.vehicle == v) && (t.place == p)) (touched_by plan.routes mv))
    else notes.Rule (denials.AccessCustomer v p)

-- the last commit that changed the vehicle, and the version
abbrev pub stale_note : PlanState → ℕ → Note
stale_note plan v =
    if (v == 0) || nat_lt (length plan.routes) v then notes.Rule (denials.Stale v)
    else notes.Stale v (stamp_of plan v) plan.version

-- what the denial of a move means on a plan
abbrev pub IsNoteOf : Setting → PlanState → Move → Denial → Note → Type 0
IsNoteOf s plan mv (denials.Bound v d) note = IsBoundNote s plan mv v d note
IsNoteOf s plan mv (denials.AccessCustomer v p) note = note ≡ customer_note plan mv v p
IsNoteOf s plan mv (denials.Stale v) note = note ≡ stale_note plan v
IsNoteOf s plan mv denials.Ahead note = note ≡ notes.Ahead plan.version
IsNoteOf s plan mv denials.BadPlace note = note ≡ notes.Place (cause_of plan.customers plan.routes mv)
IsNoteOf s plan mv denial note = note ≡ notes.Rule denial
