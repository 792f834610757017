-- What comes of a hall: the live lines of desk 1, and the rounds of the workers at the other desks, in a history that all of them share.
use Rattle.std.specs.Prelude.{◌≡◌, ◌≢◌, ℕ, zero, suc, ◌+◌, ◌⊎◌, List, [], ◌∷◌, ◌++◌, All, Option, Some, None, Result, Ok, Err}
use Rattle.std.specs.Option.{IsSomeAnd}
use Rattle.std.specs.Io.KnownBytes.{Appends}
use mathlib.Core.List.{IsPrefix}
use Rattle.board_rules.specs.declared.call.Entry.{Entry}
use Rattle.board_rules.specs.History.{Opening, turns_of}
use Rattle.board_lock.specs.Commits.{Legal}
use Rattle.board_lock.specs.Watches.{Watch, watch_at}
use Rattle.line_engine.specs.Running.{AppendsPrefix}
use Rattle.line_engine.specs.declared.run_fault.Counts.{Counts}
use Rattle.line_engine.specs.declared.run_fault.RunFault.{RunFault}
use Rattle.line_engine.specs.declared.run_fault.RunFault.TheVariants as runs
use Rattle.desk_text.specs.DeskRuns.{IsHeld, IsHeldAtStop}
use Rattle.search_workers.specs.declared.tally.Tally.{Tally}
use Rattle.search_workers.specs.Jobs.{view_after}
use Rattle.search_workers.specs.Works.{Worked}
use Rattle.program_parts.specs.declared.stop.Stop.{Stop}
use Rattle.program_parts.specs.declared.stop.Stop.TheVariants as stops
use Rattle.worker_runs.specs.declared.orders.Orders.{Orders}
use Rattle.worker_runs.specs.Tallies.{closing_text}

-- ---- the workers

-- their desks, 2 for the first, which have seen these entries
abbrev pub worker_desks : List Entry → ℕ → List Watch
worker_desks entries zero = []
worker_desks entries (suc n) = worker_desks entries n ++ watch_at entries (n + 2) ∷ []

-- what a worker is given: its number, from 1, what all of them are to do, and its desk
pub record Post : Type 0 where
  pub worker : ℕ
  pub orders : Orders
  pub desk : Watch

abbrev pub post : ℕ → Orders → Watch → Post
post worker orders desk = record { worker = worker; orders = orders; desk = desk }

-- for each of these desks, behind so many others
abbrev pub posts : Orders → ℕ → List Watch → List Post
posts orders n [] = []
posts orders n (desk ∷ desks) = post (n + 1) orders desk ∷ posts orders (n + 1) desks

-- Worker i proposes by session i + 1 and draws by the seed plus i. Its rounds left a desk, and a tally that counts them.
abbrev pub IsDone : Opening → Post → Watch → Tally → Type 0
IsDone o p after tally = Worked o (p.worker + 1) (p.orders.seed + p.worker) p.orders.rounds p.desk after tally

-- and so did those of all workers, in their order
abbrev pub AreDone : Opening → List Post → List Watch → List Tally → Type 0
AreDone o [] [] [] = Unit {0}
AreDone o (p ∷ ps) (after ∷ afters) (tally ∷ tallies) = IsDone o p after tally × AreDone o ps afters tallies
AreDone o _ _ _ = ⊥

-- From the one list of desks on each worker did its rounds, which left the other, and which its tally counts.
abbrev pub AllSearched : Opening → Orders → List Watch → List Watch → List Tally → Type 0
AllSearched o orders befores afters tallies = AreDone o (posts orders 0 befores) afters tallies

-- ---- the end

-- These entries are a legal history, and begin with what each of the desks has seen. Each desk has as many turns in them as it had: none
-- submitted a call since.
pub record AreMet (o : Opening) (desks : List Watch) (entries : List Entry) : Type 0 where
  pub legal : Legal o entries
  pub each : All (λ w. IsPrefix w.seen entries) desks
  pub turns : All (λ w. turns_of w.number entries ≡ w.own) desks

-- the lines of these tallies, and the version of the plan after all that the desks have seen, before a new call of theirs
pub record IsClosing (o : Opening) (desks : List Watch) (tallies : List Tally) (text : List ℕ) : Type 0 where
  pub entries : List Entry
  pub met : AreMet o desks entries
  pub text_is : text ≡ closing_text tallies (view_after o entries).version

-- Why the lines were not all written: the version could not be read, or memory ran out, and nothing was; or the writer failed, after a
-- prefix of them.
abbrev pub IsClosedShort : Opening → List Watch → List Tally → Option (List ℕ) → Option (List ℕ) → Stop → Type 0
IsClosedShort o desks tallies was now stops.Open = now ≡ was
IsClosedShort o desks tallies was now (stops.Run runs.NoMemory) = now ≡ was
IsClosedShort o desks tallies was now (stops.Run runs.Write) = (text : List ℕ) × IsClosing o desks tallies text × AppendsPrefix was now text
IsClosedShort o desks tallies was now _ = ⊥

-- ---- desk 1 and the workers

-- what came of the workers, if all of them could be started: their desks and their tallies
abbrev pub Found : Type 0
Found = Option (List Watch × List Tally)

-- How a run ends that has workers, where desk 1 has seen what it has, by what came of the live lines and of the workers.
abbrev pub IsEnd : Opening → Watch → Result Counts RunFault → Found → Option (List ℕ) → Option (List ℕ) → Result ℕ Stop → Type 0
IsEnd o desk (Ok counts) (Some found) was now (Ok refusals) = (refusals ≡ counts.refused) × (text : List ℕ) × IsClosing o (desk ∷ found.0) found.1 text × Appends was now text
IsEnd o desk (Ok counts) (Some found) was now (Err stop) = IsClosedShort o (desk ∷ found.0) found.1 was now stop
IsEnd o desk (Ok counts) None was now (Err stop) = (stop ≡ stops.Open) × (now ≡ was)
IsEnd o desk (Err fault) found was now (Err stop) = (stop ≡ stops.Run fault) × (fault ≡ runs.Write → now ≡ was)
    × ((now ≡ was) ⊎ IsSomeAnd found (λ f. (text : List ℕ) × IsClosing o (desk ∷ f.0) f.1 text × AppendsPrefix was now text))
IsEnd o desk _ _ was now _ = ⊥

-- the workers searched from the history of these entries, and the text closes a run in which desk 1 has seen what it has
pub record IsSearched (o : Opening) (orders : Orders) (entries : List Entry) (desk : Watch) (text : List ℕ) : Type 0 where
  pub afters : List Watch
  pub tallies : List Tally
  pub searched : AllSearched o orders (worker_desks entries orders.workers) afters tallies
  pub closing : IsClosing o (desk ∷ afters) tallies text

-- where there are workers, a text closes the run
abbrev pub Closes : ℕ → Opening → Orders → List Entry → Watch → Option (List ℕ) → Option (List ℕ) → Type 0
Closes zero o orders entries desk was now = now ≡ was
Closes (suc n) o orders entries desk was now = (text : List ℕ) × IsSearched o orders entries desk text × Appends was now text

-- After a fault of the live lines it does so too, as far as memory and the writer allow, but not where the writer failed.
abbrev pub MayClose : ℕ → RunFault → Opening → Orders → List Entry → Watch → Option (List ℕ) → Option (List ℕ) → Type 0
MayClose zero fault o orders entries desk was now = now ≡ was
MayClose (suc n) runs.Write o orders entries desk was now = now ≡ was
MayClose (suc n) _ o orders entries desk was now = (now ≡ was) ⊎ ((text : List ℕ) × IsSearched o orders entries desk text × AppendsPrefix was now text)

-- the live lines were all answered on desk 1, which had seen these entries
pub record IsLive (o : Opening) (entries : List Entry) (left_old left_new was now : Option (List ℕ)) (desk : Watch) (refusals : ℕ) : Type 0 where
  pub answers : ℕ
  pub held : IsHeld o (watch_at entries 1) desk left_old left_new was now answers refusals

-- and the run was closed
pub record IsHallRun (o : Opening) (orders : Orders) (entries : List Entry) (left_old left_new was now : Option (List ℕ)) (refusals : ℕ) : Type 0 where
  pub desk : Watch
  pub mid : Option (List ℕ)
  pub live : IsLive o entries left_old left_new was mid desk refusals
  pub closes : Closes orders.workers o orders entries desk mid now

-- there are workers, the live lines were answered, and the workers could not be started, or the run could not be closed
pub record IsUnclosed (o : Opening) (orders : Orders) (entries : List Entry) (left_old left_new was now : Option (List ℕ)) (stop : Stop) : Type 0 where
  pub desk : Watch
  pub refusals : ℕ
  pub mid : Option (List ℕ)
  pub some : orders.workers ≢ 0
  pub live : IsLive o entries left_old left_new was mid desk refusals
  pub why : ((stop ≡ stops.Open) × (now ≡ mid))
      ⊎ ((afters : List Watch) × (tallies : List Tally) × AllSearched o orders (worker_desks entries orders.workers) afters tallies × IsClosedShort o (desk ∷ afters) tallies mid now stop)

-- the live lines ended early
pub record IsLiveStopped (o : Opening) (orders : Orders) (entries : List Entry) (left_old left_new was now : Option (List ℕ)) (fault : RunFault) : Type 0 where
  pub desk : Watch
  pub mid : Option (List ℕ)
  pub stopped : IsHeldAtStop o fault (watch_at entries 1) desk left_old left_new was mid
  pub may : MayClose orders.workers fault o orders entries desk mid now

-- Why a hall came to no end: its desks could not be opened, and nothing was read or written; or the live lines ended early; or they were
-- answered, and the run was not closed.
abbrev pub IsHallShort : Opening → Orders → List Entry → Option (List ℕ) → Option (List ℕ) → Option (List ℕ) → Option (List ℕ) → Stop → Type 0
IsHallShort o orders entries left_old left_new was now (stops.Instance kind line) = ⊥
IsHallShort o orders entries left_old left_new was now stops.Open =
    ((left_new ≡ left_old) × (now ≡ was)) ⊎ IsUnclosed o orders entries left_old left_new was now stops.Open
IsHallShort o orders entries left_old left_new was now (stops.Run fault) =
    IsLiveStopped o orders entries left_old left_new was now fault ⊎ IsUnclosed o orders entries left_old left_new was now (stops.Run fault)
