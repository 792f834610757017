-- From the run of a board to that of an instance, and to its status.
use Rattle.std.proofs.Common.{◌≡◌, ◌∙◌, ◌+◌, ℕ, Bool, List, refl, sym, ap, subst, inl, inr, Option, Some, None, Result, Ok, Err}
use Rattle.std.specs.Prelude.{◌||◌, nat_lt, MatchResult}
use Rattle.std.specs.Io.KnownBytes.{Keeps}
use Rattle.board_rules.specs.declared.call.Entry.{Entry}
use Rattle.board_rules.specs.History.{History, Opening}
use Rattle.line_engine.specs.Running.{AppendsPrefix}
use Rattle.solomon_reader.specs.Checks.{Fault}
use Rattle.solomon_reader.specs.Reading.{Fails}
use Rattle.solomon_reader.specs.declared.fault.ReadFault.{ReadFault}
use Rattle.solomon_reader.specs.declared.fault.ReadFault.TheVariants as reads
use Rattle.program_parts.specs.Stops.{IsStopOf}
use Rattle.solomon_reader.specs.Instances.{Plain}
use Rattle.program_parts.specs.Streams.{stop_line}
use Rattle.line_engine.specs.TextLines.{lines_of}
use Rattle.line_engine.specs.WholeRuns.{IsAnswered, IsStopped}
use Rattle.line_engine.specs.declared.run_fault.RunFault.{RunFault}
use Rattle.board_text.specs.BoardSteps.{DeskState, IsBoardStep, LacksMemory, desk_state}
use Rattle.worker_runs.specs.SetUp.{AreAsked, set_up_of}
use Rattle.worker_runs.proofs.Asked.{asked_keep, runs_keep}
use Rattle.program_parts.specs.declared.stop.Stop.{Stop}
use Rattle.program_parts.specs.declared.stop.Stop.TheVariants as stops
use Rattle.worker_runs.specs.declared.orders.Orders.{Orders}
use Rattle.worker_runs.specs.Halls.{IsHallRun, IsHallShort}
use Rattle.worker_runs.specs.Scripted.{Flow, IsHallStopped, IsNoInstance, IsOpened, IsRunOf, IsRunOfBytes, IsScriptAnswered, IsServed, IsServedShort, IsUnrun, IsUntouched, status_of}

pub run_of : (r : Result Bool Stop) (i : Plain) (orders : Orders) (f : Flow) (h : History) → IsOpened i orders h → MatchResult r (IsServed h orders f) (IsServedShort h orders f) → MatchResult r (IsRunOf i orders f) (IsUnrun i orders f)
run_of (Ok refused) i orders f h k m = record { sites = k.sites; of = k.of; served = subst (λ (x : History). IsServed x orders f refused) k.opens m }
run_of (Err stop) i orders f h k m = inr (record { sites = k.sites; of = k.of; short = subst (λ (x : History). IsServedShort x orders f stop) k.opens m })

pub short_of : (i : Plain) (orders : Orders) (f : Flow) (h : History) (stop : Stop) → IsOpened i orders h → IsServedShort h orders f stop → IsUnrun i orders f stop
short_of i orders f h stop k m = inr (record { sites = k.sites; of = k.of; short = subst (λ (x : History). IsServedShort x orders f stop) k.opens m })

-- a hall by the history that it goes on from
pub hall_at : (o p : Opening) (es fs : List Entry) (orders : Orders) (left_old left_new was now : Option (List ℕ)) (refusals : ℕ) → o ≡ p → es ≡ fs
    → IsHallRun o orders es left_old left_new was now refusals → IsHallRun p orders fs left_old left_new was now refusals
hall_at o p es fs orders left_old left_new was now refusals e g h =
    subst (λ (x : Opening). IsHallRun x orders fs left_old left_new was now refusals) e (subst (λ (x : List Entry). IsHallRun o orders x left_old left_new was now refusals) g h)

pub hall_short_at : (o p : Opening) (es fs : List Entry) (orders : Orders) (left_old left_new was now : Option (List ℕ)) (stop : Stop) → o ≡ p → es ≡ fs
    → IsHallShort o orders es left_old left_new was now stop → IsHallShort p orders fs left_old left_new was now stop
hall_short_at o p es fs orders left_old left_new was now stop e g h =
    subst (λ (x : Opening). IsHallShort x orders fs left_old left_new was now stop) e (subst (λ (x : List Entry). IsHallShort o orders x left_old left_new was now stop) g h)

-- the script was answered, and a hall was run
pub served : (h : History) (orders : Orders) (f : Flow) (mid : Option (List ℕ)) (refusals : ℕ) (done : DeskState) (o : Opening) (es : List Entry) (hall : Result ℕ Stop) (r : Result Bool Stop) → IsScriptAnswered h orders f mid refusals done
    → o ≡ done.history.opening → es ≡ done.history.entries → MatchResult hall (IsHallRun o orders es f.live_old f.live_new mid f.now) (IsHallShort o orders es f.live_old f.live_new mid f.now)
    → MatchResult hall (λ n. r ≡ Ok (nat_lt 0 refusals || nat_lt 0 n)) (λ stop. r ≡ Err stop) → MatchResult r (IsServed h orders f) (IsServedShort h orders f)
served h orders f mid refusals done o es (Ok n) r script e g m is =
    subst (λ (x : Result Bool Stop). MatchResult x (IsServed h orders f) (IsServedShort h orders f)) (sym is)
    (record { done = done; mid = mid; refusals = refusals; script = script; live_refusals = n; hall = hall_at o done.history.opening es done.history.entries orders f.live_old f.live_new mid f.now n e g m; refused_is = refl })
served h orders f mid refusals done o es (Err stop) r script e g m is =
    subst (λ (x : Result Bool Stop). MatchResult x (IsServed h orders f) (IsServedShort h orders f)) (sym is)
    (short stop (record { done = done; mid = mid; refusals = refusals; script = script; short = hall_short_at o done.history.opening es done.history.entries orders f.live_old f.live_new mid f.now stop e g m }))
  where
    short : (stop : Stop) → IsHallStopped h orders f stop → IsServedShort h orders f stop
    short stops.Open x = inr x
    short (stops.Run fault) x = inr x
    short (stops.Instance kind line) x = absurd x.short

-- nothing came of the instance
pub no_instance : (e : ReadFault) (stop : Stop) (read : Result Plain Fault) (f : Flow) → IsUntouched f → IsStopOf e stop → Fails e read → IsNoInstance read f stop
no_instance reads.NoMemory stop read f u s x = subst (λ (z : Stop). IsNoInstance read f z) (sym s) u
no_instance (reads.At kind line) stop read f u s x = subst (λ (z : Stop). IsNoInstance read f z) (sym s) (x, u)

-- what came of an instance's board, with its status
pub ran : (i : Plain) (orders : Orders) (f : Flow) (reports_were reports_are : Option (List ℕ)) (refused : Bool) (status : ℕ) → IsRunOf i orders f refused → status ≡ status_of refused → Keeps reports_were reports_are → IsRunOfBytes (Ok i) orders f reports_were reports_are status
ran i orders f reports_were reports_are refused status r s k = inl (i, refl, refused, r, s, k)

pub unrun : (i : Plain) (orders : Orders) (f : Flow) (reports_were reports_are : Option (List ℕ)) (stop : Stop) (status : ℕ) → IsUnrun i orders f stop → status ≡ 3 → AppendsPrefix reports_were reports_are (stop_line stop) → IsRunOfBytes (Ok i) orders f reports_were reports_are status
unrun i orders f reports_were reports_are stop status r s k = inr (stop, inr (i, refl, r), (s, k))

pub unread : (read : Result Plain Fault) (orders : Orders) (f : Flow) (reports_were reports_are : Option (List ℕ)) (stop : Stop) (status : ℕ) → IsNoInstance read f stop → status ≡ 3 → AppendsPrefix reports_were reports_are (stop_line stop) → IsRunOfBytes read orders f reports_were reports_are status
unread read orders f reports_were reports_are stop status r s k = inr (stop, inl r, (s, k))

pub keeps : (was : Option (List ℕ)) → Keeps was was
keeps None = tt
keeps (Some xs) = refl

pub at_read : (r q : Result Plain Fault) (orders : Orders) (f : Flow) (reports_were reports_are : Option (List ℕ)) (status : ℕ) → r ≡ q → IsRunOfBytes q orders f reports_were reports_are status → IsRunOfBytes r orders f reports_were reports_are status
at_read r q orders f reports_were reports_are status e h = subst (λ (x : Result Plain Fault). IsRunOfBytes x orders f reports_were reports_are status) (sym e) h

-- ---- on the board that was just opened

abbrev Asked : History → Orders → DeskState → Type 0
Asked h orders ready = AreAsked IsBoardStep (desk_state h 1 1) (set_up_of orders.workers) ready

scripted : (h : History) (orders : Orders) (f : Flow) (mid : Option (List ℕ)) (answers refusals : ℕ) (ready done : DeskState) → Asked h orders ready → IsAnswered IsBoardStep ready done f.script_old f.script_new f.was mid answers refusals → IsScriptAnswered h orders f mid refusals done
scripted h orders f mid answers refusals ready done a b = record { ready = ready; set_up = a; answers = answers; answered = b }

-- the script ended early
pub script_short : (i : Plain) (orders : Orders) (f : Flow) (h : History) (fault : RunFault) (ready done : DeskState) → IsOpened i orders h → Asked h orders ready → IsStopped IsBoardStep LacksMemory fault ready done f.script_old f.script_new f.was f.now
    → f.live_new ≡ f.live_old → IsUnrun i orders f (stops.Run fault)
script_short i orders f h fault ready done k a b e = short_of i orders f h (stops.Run fault) k (inl (record { ready = ready; set_up = a; done = done; stopped = b; unread = e }))

-- the hall could not be made
pub hall_unmade : (i : Plain) (orders : Orders) (f : Flow) (h : History) (answers refusals : ℕ) (ready done : DeskState) → IsOpened i orders h → Asked h orders ready → IsAnswered IsBoardStep ready done f.script_old f.script_new f.was f.now answers refusals
    → f.live_new ≡ f.live_old → IsUnrun i orders f stops.Open
hall_unmade i orders f h answers refusals ready done k a b e =
    short_of i orders f h stops.Open k (inr (record { done = done; mid = f.now; refusals = refusals; script = scripted h orders f f.now answers refusals ready done a b; short = inl (e, refl) }))

-- the hall was run
pub hall_made : (i : Plain) (orders : Orders) (f : Flow) (h : History) (mid : Option (List ℕ)) (answers refusals : ℕ) (ready done : DeskState) (o : Opening) (es : List Entry) (hall : Result ℕ Stop) (r : Result Bool Stop)
    → IsOpened i orders h → Asked h orders ready → IsAnswered IsBoardStep ready done f.script_old f.script_new f.was mid answers refusals → o ≡ done.history.opening → es ≡ done.history.entries
    → MatchResult hall (IsHallRun o orders es f.live_old f.live_new mid f.now) (IsHallShort o orders es f.live_old f.live_new mid f.now)
    → MatchResult hall (λ n. r ≡ Ok (nat_lt 0 refusals || nat_lt 0 n)) (λ stop. r ≡ Err stop) → MatchResult r (IsRunOf i orders f) (IsUnrun i orders f)
hall_made i orders f h mid answers refusals ready done o es hall r k a b e g m is =
    run_of r i orders f h k (served h orders f mid refusals done o es hall r (scripted h orders f mid answers refusals ready done a b) e g m is)

-- what the board was opened with is what the hall is opened with
pub opening_by : (h : History) (orders : Orders) (left_old left_new was mid : Option (List ℕ)) (answers refusals : ℕ) (ready done : DeskState) (o : Opening) → Asked h orders ready → IsAnswered IsBoardStep ready done left_old left_new was mid answers refusals
    → o ≡ done.history.opening → o ≡ h.opening
opening_by h orders left_old left_new was mid answers refusals ready done o a b e =
    e ∙ (runs_keep ready done (lines_of b.bytes) b.outcomes b.run.run ∙ asked_keep (desk_state h 1 1) ready (set_up_of orders.workers) a)

pub desks_by : (i : Plain) (orders : Orders) (h : History) (o : Opening) → IsOpened i orders h → o ≡ h.opening → o.desks ≡ orders.workers + 1
desks_by i orders h o k e = ap (λ (x : Opening). x.desks) (e ∙ ap (λ (x : History). x.opening) k.opens)
