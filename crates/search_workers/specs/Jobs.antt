-- What a worker is given, and what it finds at a point of the history.
use Rattle.std.specs.Prelude.{ℕ, ◌+◌, ◌*◌, ◌-◌, ◌%◌, List}
use Rattle.rand_core.specs.Stream.{Stream}
use Rattle.callback_store.specs.Tables.{table_at}
use Rattle.plan_core.specs.Cost.{cost_of}
use Rattle.pin_core.specs.View.{ViewState}
use Rattle.board_rules.specs.declared.call.Entry.{Entry}
use Rattle.board_rules.specs.History.{Opening, state_after}
use Rattle.published_board.specs.Shelves.{view_of}
use Rattle.search_workers.specs.Draws.{word, seeded}

-- How the board was opened, the desk and the session by which the worker proposes, and the words from which it draws.
pub record Job : Type 0 where
  pub opening : Opening
  pub desk : ℕ
  pub session : ℕ
  pub words : Stream

abbrev pub job_of : Opening → ℕ → ℕ → ℕ → Job
job_of o desk session seed = record { opening = o; desk = desk; session = session; words = seeded seed }

-- the plan, pins, freezes and version after these entries
abbrev pub view_after : Opening → List Entry → ViewState
view_after o es = view_of (state_after o.setting es)

-- the cost of the plan after these entries
abbrev pub cost_at : Opening → List Entry → ℕ
cost_at o es = cost_of (table_at o.setting.tables o.setting.cost) (state_after o.setting es).routes

-- a vehicle of k by a word
abbrev pub vehicle_by : ℕ → ℕ → ℕ
vehicle_by k w = w % k + 1

-- the two vehicles of round i, counted from 1: by words 2 i - 1 and 2 i
abbrev pub first_vehicle : Job → ℕ → ℕ
first_vehicle job i = vehicle_by job.opening.setting.vehicles (word (2 * i - 1) job.words)

abbrev pub second_vehicle : Job → ℕ → ℕ
second_vehicle job i = vehicle_by job.opening.setting.vehicles (word (2 * i) job.words)
