-- From the parts of the input and what came of its board to all bytes.
use Rattle.std.proofs.Common.{◌≡◌, ◌∙◌, ℕ, ◌≤◌, Bool, true, false, eqb, List, [], ◌++◌, ◌-◌, length, take, drop, Option, Some, None, Result, Ok, Err, refl, sym, ap, subst, append_assoc, append-nil, inl, inr, arith}
use Rattle.std.proofs.lemmas.List.{length-drop, take_all}
use Rattle.std.specs.Prelude.{◌⊎◌, ◌==◌, IfOk, IfErr, IfSome, MatchResult, count_by, if◌then◌else◌}
use Rattle.std.specs.Io.KnownBytes.{Keeps, Consumes, IsAtEnd}
use Rattle.std.specs.Fmt.{option_append}
use Rattle.solomon_reader.specs.Checks.{Fault, fault}
use Rattle.solomon_reader.specs.Instances.{Plain}
use Rattle.solomon_reader.specs.Reading.{read_of}
use Rattle.line_engine.specs.Outcomes.{is_refusal}
use Rattle.line_engine.specs.Running.{AppendsPrefix}
use Rattle.line_engine.specs.TextLines.{lines_of}
use Rattle.line_engine.specs.WholeRuns.{AreOutcomes, EndsAt}
use Rattle.board_text.specs.BoardSteps.{DeskState, IsBoardStep, LacksMemory}
use Rattle.line_engine.specs.declared.run_fault.Counts.{Counts}
use Rattle.line_engine.specs.declared.run_fault.RunFault.{RunFault}
use Rattle.line_engine.specs.declared.run_fault.RunFault.TheVariants as runs
use Rattle.solomon_reader.specs.Reading.{Fails}
use Rattle.solomon_reader.specs.declared.fault.ReadFault.{ReadFault}
use Rattle.solomon_reader.specs.declared.fault.ReadFault.TheVariants as reads
use Rattle.program_parts.specs.Head.{Halves, halves, AreRead}
use Rattle.program_parts.specs.Stops.{IsStopOf, IsUnread}
use Rattle.board_program.specs.Status.{end_status}
use Rattle.board_program.specs.Joined.{IsRun, IsCutOff, IsUnfinished, IsDone, IsBrokenOff, IsCause, IsShort, IsEnd, Says, IsJoined, IsOfHalves, IsScripted, IsOfFiles}
use Rattle.program_parts.specs.Streams.{Streams, streams_of, stop_line, AgreesWithStatus}
use Rattle.board_program.specs.Standard.{opened}
use Rattle.program_parts.specs.declared.stop.Stop.{Stop}
use Rattle.program_parts.specs.declared.stop.Stop.TheVariants as stops

-- ---- readers and writers

keeps : (was : Option (List ℕ)) → Keeps was was
keeps None = tt
keeps (Some xs) = refl

-- all bytes of a reader at its end
all_given : (script : List ℕ) (now : Option (List ℕ)) (bytes : List ℕ) → Consumes (Some script) now bytes → IsAtEnd now → script ≡ bytes
all_given script None bytes c e = absurd c
all_given script (Some ys) bytes c e = c ∙ ap (λ (xs : List ℕ). bytes ++ xs) e ∙ append-nil bytes

-- a front of a reader's bytes
abbrev IsFront : List ℕ → Option (List ℕ) → List ℕ → List ℕ → Type 0
IsFront script now bytes more = (rest : List ℕ) × (script ≡ bytes ++ rest) × (more ≡ [] → IsAtEnd now → rest ≡ []) × (behind : List ℕ) × (rest ≡ more ++ behind)

front_given : (script : List ℕ) (now : Option (List ℕ)) (bytes more : List ℕ) → Consumes (Some script) now (bytes ++ more) → IsFront script now bytes more
front_given script None bytes more c = absurd c
front_given script (Some ys) bytes more c = (more ++ ys, c ∙ append_assoc bytes more ys, λ e f. ap (λ (l : List ℕ). l ++ ys) e ∙ f, ys, refl)

-- ---- what was answered

abbrev status_at : ℕ → ℕ
status_at n = if n == 0 then 0 else 1

status_by : (refused count : ℕ) → refused ≡ count → status_at refused ≡ status_at count
status_by refused count e = ap status_at e

done : (i : Plain) (script : List ℕ) (left now_left was now : Option (List ℕ)) (counts : Counts) → left ≡ Some script → IsRun i left now_left was now counts → IsDone i script was now (if counts.refused == 0 then 0 else 1)
done i script left now_left was now counts known h =
    let a = h.answered in
    let given = subst (λ (k : Option (List ℕ)). Consumes k now_left a.bytes) known a.given in
    let all : script ≡ a.bytes = all_given script now_left a.bytes given a.at_end in (
      a.outcomes,
      record { sites = h.sites; of = h.of; new = h.new; run = subst (λ (l : List ℕ). AreOutcomes IsBoardStep (opened h.sites) l a.outcomes h.new) (sym all) a.run },
      a.text,
      status_by counts.refused (count_by is_refusal a.outcomes) a.refused,
      subst (λ (l : List ℕ). length (lines_of l) ≤ 4294967296) (sym all) a.few,
    )

-- ---- what was answered before the run ended early

-- why the run ended, by all that comes next
cause_of : (fault : RunFault) (mid new : DeskState) (used more behind all : List ℕ) (left : Option (List ℕ)) → all ≡ more ++ behind → EndsAt IsBoardStep LacksMemory fault mid new used more left → IsCause fault all
cause_of runs.Read mid new used more behind all left e h = tt
cause_of runs.NoMemory mid new used more behind all left e h = tt
cause_of runs.Write mid new used more behind all left e h = tt
cause_of runs.LongLine mid new used more behind all left e h =
    let long = h.1 in
    (long.0, long.1 ++ behind, e ∙ ap (λ (xs : List ℕ). xs ++ behind) long.2 ∙ append_assoc long.0 long.1 behind, long.3, long.4)

cut_off : (fault : RunFault) (i : Plain) (script : List ℕ) (left now_left was now : Option (List ℕ)) → left ≡ Some script → IsCutOff i left now_left was now fault → IsBrokenOff fault i script was now
cut_off fault i script left now_left was now known h =
    let s = h.stopped in
    let front = front_given script now_left s.used s.more (subst (λ (k : Option (List ℕ)). Consumes k now_left (s.used ++ s.more)) known s.given) in (
      s.used,
      front.0,
      front.1,
      elim s.whole [ inl lines ↦ inl lines | inr end ↦ inr (front.2 end.0 end.1) ],
      cause_of fault s.mid h.new s.used s.more front.3 front.0 now_left front.4 s.end,
      s.outcomes,
      record { sites = h.sites; of = h.of; new = s.mid; run = s.run },
      s.text,
    )

-- ---- all bytes

-- the parts of the known bytes
pub parts_on : (bytes : List ℕ) (left : Option (List ℕ)) (instance behind : List ℕ) → AreRead (Some bytes) left instance behind true → (script : List ℕ) × (halves bytes ≡ record { instance = instance; script = script }) × (option_append (Some behind) left ≡ Some script)
parts_on bytes None instance behind h = absurd h.1
parts_on bytes (Some left) instance behind h = (behind ++ left, ap halves h.1 ∙ h.2 left, refl)

pub parts_off : (bytes : List ℕ) (left : Option (List ℕ)) (instance behind : List ℕ) → AreRead (Some bytes) left instance behind false → (halves bytes ≡ record { instance = instance; script = [] }) × (Some behind ≡ Some [])
parts_off bytes None instance behind h = absurd h.1
parts_off bytes (Some left) instance behind h = (ap halves (all_given bytes (Some left) h.0 h.1 h.2.0) ∙ h.2.2, ap (λ (x : List ℕ). Some x) h.2.1)

-- what stands behind a place of a piece
pub behind_used : (used : ℕ) (piece given : List ℕ) → given ≡ piece → take (length given - used) (drop used given) ≡ drop used piece
behind_used used piece given e = take_all (length given - used) (drop used given) (omega (arith, length-drop used given)) ∙ ap (λ (xs : List ℕ). drop used xs) e

-- what came of the board
pub board_end : (result : Result Counts Stop) (h : Halves) (i : Plain) (instance script : List ℕ) (left now_left was now : Option (List ℕ)) → h ≡ record { instance = instance; script = script } → read_of instance ≡ Ok i → length instance ≤ 16777216 → left ≡ Some script → IfOk result (λ counts. IsRun i left now_left was now counts) → IfErr result (λ stop. IsUnfinished i left now_left was now stop) → IsEnd h was now result
board_end (Ok counts) h i instance script left now_left was now e r short known ok err =
    subst (λ (x : Halves). IsEnd x was now (Ok counts)) (sym e) (i, r, short, done i script left now_left was now counts known ok)
board_end (Err (stops.Instance kind line)) h i instance script left now_left was now e r short known ok err = absurd err
board_end (Err stops.Open) h i instance script left now_left was now e r short known ok err = inr (tt, err.1)
board_end (Err (stops.Run fault)) h i instance script left now_left was now e r short known ok err =
    subst (λ (x : Halves). IsEnd x was now (Err (stops.Run fault))) (sym e) (inl (short, (i, r, cut_off fault i script left now_left was now known err)))

-- nothing came of the instance
unread_short : (e : ReadFault) (stop : Stop) (r : Result Plain Fault) (script : List ℕ) (was : Option (List ℕ)) → IsStopOf e stop → Fails e r → IsShort r script was was stop
unread_short reads.NoMemory stop r script was s f = subst (λ (x : Stop). IsShort r script was was x) (sym s) (keeps was)
unread_short (reads.At kind line) stop r script was s f = subst (λ (x : Stop). IsShort r script was was x) (sym s) (f, keeps was)

pub if_known : (known : Option (List ℕ)) (P : List ℕ → Type 0) → ((bytes : List ℕ) → known ≡ Some bytes → P bytes) → IfSome known P
if_known None P f = tt
if_known (Some bytes) P f = f bytes refl

-- ---- the status

abbrev chosen : Bool → ℕ
chosen b = if b then 0 else 1

some_chosen : (b : Bool) → (chosen b ≡ 0) ⊎ ((chosen b ≡ 1) ⊎ (chosen b ≡ 3))
some_chosen true = inl refl
some_chosen false = inr (inl refl)

some_status : (r : Result Counts Stop) → (end_status r ≡ 0) ⊎ ((end_status r ≡ 1) ⊎ (end_status r ≡ 3))
some_status (Ok counts) = some_chosen (eqb counts.refused 0)
some_status (Err stop) = inr (inr refl)

pub status_among : (r : Result Counts Stop) (status : ℕ) → status ≡ end_status r → (status ≡ 0) ⊎ ((status ≡ 1) ⊎ (status ≡ 3))
status_among r status s = subst (λ (n : ℕ). (n ≡ 0) ⊎ ((n ≡ 1) ⊎ (n ≡ 3))) (sym s) (some_status r)

-- what a run's end is reported by
abbrev IsReportedBy : Result Counts Stop → Option (List ℕ) → Option (List ℕ) → Type 0
IsReportedBy r reports_were reports_are = MatchResult r (λ _. Keeps reports_were reports_are) (λ stop. AppendsPrefix reports_were reports_are (stop_line stop))

few_chosen : (b : Bool) → chosen b ≤ 1
few_chosen true = omega arith
few_chosen false = omega arith

-- nothing is reported of a whole run
pub reported_by : (r : Result Counts Stop) (status : ℕ) (reports_were reports_are : Option (List ℕ)) → status ≡ end_status r → IsReportedBy r reports_were reports_are → AgreesWithStatus reports_were reports_are status
reported_by (Ok counts) status reports_were reports_are s t = inl (subst (λ (n : ℕ). n ≤ 1) (sym s) (few_chosen (eqb counts.refused 0)), t)
reported_by (Err stop) status reports_were reports_are s t = inr (stop, (s, t))

-- by what came of the two halves of a joined input
halves_by : (r : Result Counts Stop) (status : ℕ) (h : Halves) (was now reports_were reports_are : Option (List ℕ)) → status ≡ end_status r → IsReportedBy r reports_were reports_are
    → IsEnd h was now r → IsOfHalves h (streams_of was now reports_were reports_are) status
halves_by (Ok counts) status h was now reports_were reports_are s t e =
    subst (λ (n : ℕ). IsOfHalves h (streams_of was now reports_were reports_are) n) (sym s) (inl (e.2, inl (e.0, e.1, e.3, t)))
halves_by (Err stop) status h was now reports_were reports_are s t e = elim e [
  | inl k ↦ inl (k.0, inr (stop, k.1, (s, t)))
  | inr u ↦ inr (stop, u.0, u.1, (s, t))
]

-- by what came of the joined input
pub joined_by : (r : Result Counts Stop) (status : ℕ) (known was now reports_were reports_are : Option (List ℕ)) → status ≡ end_status r → IsReportedBy r reports_were reports_are
    → IfSome known (λ bytes. IsEnd (halves bytes) was now r) → IfSome known (λ bytes. IsJoined bytes (streams_of was now reports_were reports_are) status)
joined_by r status None was now reports_were reports_are s t e = tt
joined_by r status (Some bytes) was now reports_were reports_are s t e = halves_by r status (halves bytes) was now reports_were reports_are s t e

pub joined_ran : (r : Result Counts Stop) (status : ℕ) (was now reports_were reports_are : Option (List ℕ)) → status ≡ end_status r → IsReportedBy r reports_were reports_are
    → (h : Halves) × IsEnd h was now r → (h : Halves) × IsOfHalves h (streams_of was now reports_were reports_are) status
joined_ran r status was now reports_were reports_are s t e = (e.0, halves_by r status e.0 was now reports_were reports_are s t e.1)

-- by what came of an instance's board
pub scripted_by : (r : Result Counts Stop) (status : ℕ) (i : Plain) (left now_left was now reports_were reports_are : Option (List ℕ)) → status ≡ end_status r → IsReportedBy r reports_were reports_are
    → IfOk r (λ counts. IsRun i left now_left was now counts) → IfErr r (λ stop. IsUnfinished i left now_left was now stop) → IfSome left (λ script. Says (Ok i) script (streams_of was now reports_were reports_are) status)
scripted_by r status i None now_left was now reports_were reports_are s t ok err = tt
scripted_by (Ok counts) status i (Some script) now_left was now reports_were reports_are s t ok err =
    subst (λ (n : ℕ). Says (Ok i) script (streams_of was now reports_were reports_are) n) (sym s) (inl (i, refl, done i script (Some script) now_left was now counts refl ok, t))
scripted_by (Err (stops.Instance kind line)) status i (Some script) now_left was now reports_were reports_are s t ok err = absurd err
scripted_by (Err stops.Open) status i (Some script) now_left was now reports_were reports_are s t ok err = inr (stops.Open, err.1, (s, t))
scripted_by (Err (stops.Run fault)) status i (Some script) now_left was now reports_were reports_are s t ok err =
    inr (stops.Run fault, (i, refl, cut_off fault i script (Some script) now_left was now refl err), (s, t))

-- nothing came of the instance, whatever the script is
unread_says : (e : ReadFault) (stop : Stop) (r : Result Plain Fault) (script : List ℕ) (was reports_were reports_are : Option (List ℕ)) (status : ℕ) → IsStopOf e stop → Fails e r → status ≡ 3 → AppendsPrefix reports_were reports_are (stop_line stop)
    → Says r script (streams_of was was reports_were reports_are) status
unread_says e stop r script was reports_were reports_are status s f three t = inr (stop, unread_short e stop r script was s f, (three, t))

pub unread_known : (e : ReadFault) (stop : Stop) (r : Result Plain Fault) (known was reports_were reports_are : Option (List ℕ)) (status : ℕ) → IsStopOf e stop → Fails e r → status ≡ 3 → AppendsPrefix reports_were reports_are (stop_line stop)
    → IfSome known (λ script. Says r script (streams_of was was reports_were reports_are) status)
unread_known e stop r None was reports_were reports_are status s f three t = tt
unread_known e stop r (Some script) was reports_were reports_are status s f three t = unread_says e stop r script was reports_were reports_are status s f three t

pub unread_ran : (e : ReadFault) (stop : Stop) (r : Result Plain Fault) (was reports_were reports_are : Option (List ℕ)) (status : ℕ) → IsStopOf e stop → Fails e r → status ≡ 3 → AppendsPrefix reports_were reports_are (stop_line stop)
    → (script : List ℕ) × Says r script (streams_of was was reports_were reports_are) status
unread_ran e stop r was reports_were reports_are status s f three t = ([], unread_says e stop r [] was reports_were reports_are status s f three t)

-- ---- whatever the bytes of the script are

ran_to_end : (i : Plain) (left now_left was now : Option (List ℕ)) (counts : Counts) → IsRun i left now_left was now counts → (script : List ℕ) × IsDone i script was now (if counts.refused == 0 then 0 else 1)
ran_to_end i left now_left was now counts h =
    let a = h.answered in
    (a.bytes, (a.outcomes, record { sites = h.sites; of = h.of; new = h.new; run = a.run }, a.text, status_by counts.refused (count_by is_refusal a.outcomes) a.refused, a.few))

ran_off : (f : RunFault) (i : Plain) (left now_left was now : Option (List ℕ)) → IsCutOff i left now_left was now f → (script : List ℕ) × IsBrokenOff f i script was now
ran_off f i left now_left was now h =
    let s = h.stopped in (
      s.used ++ s.more,
      (
        s.used,
        s.more,
        refl,
        elim s.whole [ inl lines ↦ inl lines | inr end ↦ inr end.0 ],
        cause_of f s.mid h.new s.used s.more [] s.more now_left (sym (append-nil s.more)) s.end,
        s.outcomes,
        record { sites = h.sites; of = h.of; new = s.mid; run = s.run },
        s.text,
      ),
    )

-- by what came of an instance's board
pub ran_by : (r : Result Counts Stop) (status : ℕ) (i : Plain) (left now_left was now reports_were reports_are : Option (List ℕ)) → status ≡ end_status r → IsReportedBy r reports_were reports_are
    → IfOk r (λ counts. IsRun i left now_left was now counts) → IfErr r (λ stop. IsUnfinished i left now_left was now stop) → (script : List ℕ) × Says (Ok i) script (streams_of was now reports_were reports_are) status
ran_by (Ok counts) status i left now_left was now reports_were reports_are s t ok err =
    let d = ran_to_end i left now_left was now counts ok in
    (d.0, subst (λ (n : ℕ). Says (Ok i) d.0 (streams_of was now reports_were reports_are) n) (sym s) (inl (i, refl, d.1, t)))
ran_by (Err (stops.Instance kind line)) status i left now_left was now reports_were reports_are s t ok err = absurd err
ran_by (Err stops.Open) status i left now_left was now reports_were reports_are s t ok err = ([], inr (stops.Open, err.1, (s, t)))
ran_by (Err (stops.Run fault)) status i left now_left was now reports_were reports_are s t ok err =
    let d = ran_off fault i left now_left was now err in
    (d.0, inr (stops.Run fault, (i, refl, d.1), (s, t)))

-- what came of a joined input's board
pub board_ran : (r : Result Counts Stop) (i : Plain) (instance : List ℕ) (left now_left was now : Option (List ℕ)) → read_of instance ≡ Ok i → length instance ≤ 16777216
    → IfOk r (λ counts. IsRun i left now_left was now counts) → IfErr r (λ stop. IsUnfinished i left now_left was now stop) → (h : Halves) × IsEnd h was now r
board_ran (Ok counts) i instance left now_left was now read short ok err =
    let d = ran_to_end i left now_left was now counts ok in
    (record { instance = instance; script = d.0 }, (i, read, short, d.1))
board_ran (Err (stops.Instance kind line)) i instance left now_left was now read short ok err = absurd err
board_ran (Err stops.Open) i instance left now_left was now read short ok err = (record { instance = instance; script = [] }, inr (tt, err.1))
board_ran (Err (stops.Run fault)) i instance left now_left was now read short ok err =
    let d = ran_off fault i left now_left was now err in
    (record { instance = instance; script = d.0 }, inl (short, (i, read, d.1)))

-- nothing was read up to the mark
pub unread_ended : (stop : Stop) (r : Result Counts Stop) (was : Option (List ℕ)) → r ≡ Err stop → IsUnread stop → (h : Halves) × IsEnd h was was r
unread_ended stop r was e u =
    let ended : (h : Halves) × IsEnd h was was (Err stop) = (record { instance = []; script = [] }, inr (u, keeps was)) in
    subst (λ (x : Result Counts Stop). (h : Halves) × IsEnd h was was x) (sym e) ended

-- nothing came of the instance before the mark
pub instance_ended : (e : ReadFault) (stop : Stop) (r : Result Counts Stop) (instance : List ℕ) (was : Option (List ℕ)) → r ≡ Err stop → IsStopOf e stop → Fails e (read_of instance) → length instance ≤ 16777216
    → (h : Halves) × IsEnd h was was r
instance_ended e stop r instance was is s f short =
    let ended : (h : Halves) × IsEnd h was was (Err stop) = (record { instance = instance; script = [] }, inl (short, unread_short e stop (read_of instance) [] was s f)) in
    subst (λ (x : Result Counts Stop). (h : Halves) × IsEnd h was was x) (sym is) ended

-- an instance's text says which it is
pub script_known : (text : List ℕ) (r : Result Plain Fault) (known : Option (List ℕ)) (streams : Streams) (status : ℕ) → read_of text ≡ r → IfSome known (λ script. Says r script streams status) → IfSome known (λ script. IsScripted text script streams status)
script_known text r known streams status e s = subst (λ (x : Result Plain Fault). IfSome known (λ script. Says x script streams status)) (sym e) s

pub script_ran : (text : List ℕ) (r : Result Plain Fault) (streams : Streams) (status : ℕ) → read_of text ≡ r → (script : List ℕ) × Says r script streams status → (script : List ℕ) × IsScripted text script streams status
script_ran text r streams status e s = (s.0, subst (λ (x : Result Plain Fault). Says x s.0 streams status) (sym e) s.1)

pub files_ran : (instance_path script_path text : List ℕ) (r : Result Plain Fault) (streams : Streams) (status : ℕ) → read_of text ≡ r → (script : List ℕ) × Says r script streams status → IsOfFiles instance_path script_path streams status
files_ran instance_path script_path text r streams status e s =
    let d = script_ran text r streams status e s in
    inr (text, d.0, d.1)

pub files_unread : (instance_path script_path text : List ℕ) (streams : Streams) (status : ℕ) → (script : List ℕ) × IsScripted text script streams status → IsOfFiles instance_path script_path streams status
files_unread instance_path script_path text streams status s = inr (text, s.0, s.1)
