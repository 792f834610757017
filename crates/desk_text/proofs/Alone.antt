-- A desk alone answers as a board of one thread.
use Rattle.std.proofs.Common.{◌≡◌, ◌≢◌, ◌==◌, ℕ, zero, suc, ◌+◌, ◌<◌, ◌≤◌, Bool, true, false, cond, inl, inr, List, [], ◌∷◌, ◌++◌, length, refl, ap, sym, subst, ◌∙◌, append_assoc, arith, Option, Some, Result, Ok, Err}
use Rattle.std.specs.Prelude.{slice_get, ◌&&◌, nat_le}
use Rattle.std.proofs.lemmas.List.{append-nil, nil_from_length, length-append}
use Rattle.std.proofs.lemmas.List.Sums.{sum_by-cons}
use Rattle.std.proofs.lemmas.Bool.Decides.{nat_tests}
use mathlib.Core.List.{IsPrefix}
use Rattle.board_rules.specs.declared.call.Call.{Call}
use Rattle.board_rules.specs.declared.call.Entry.{Entry}
use Rattle.board_rules.specs.declared.reply.Reply.{Reply}
use Rattle.board_rules.specs.declared.reply.Fault.{Fault}
use Rattle.board_rules.specs.declared.reply.Fault.TheVariants as faults
use Rattle.board_rules.specs.History.{Opening, turns_of, is_turn}
use Rattle.board_lines.specs.Reading.{read_of}
use Rattle.board_lines.specs.declared.command.Command.{Command}
use Rattle.board_lines.specs.declared.command.Command.TheVariants as commands
use Rattle.board_lines.specs.declared.command.LineFault.{LineFault}
use Rattle.line_engine.specs.Answers.{Answer, Replied, Faulted, Listed, Rowed, Audited, Reviewed, Checked, Refused}
use Rattle.line_engine.specs.BoardAnswers.{IsAnswerTo}
use Rattle.line_engine.specs.Outcomes.{Outcome}
use Rattle.line_engine.specs.Leaving.{Gives, Leaves, asked}
use Rattle.line_engine.specs.Running.{Runs, body}
use Rattle.line_engine.specs.TextLines.{lines_of}
use Rattle.line_engine.specs.WholeRuns.{AreOutcomes, IsAnswered, IsNear, EndsAt, IsStopped}
use Rattle.line_engine.specs.declared.run_fault.RunFault.{RunFault}
use Rattle.line_engine.specs.declared.run_fault.RunFault.TheVariants as runs
use Rattle.board_lock.specs.Commits.{Legal, entry}
use Rattle.board_lock.specs.Watches.{Watch}
use Rattle.board_lock.specs.DeskSteps.{HadNoTurn, HadTurn, IsDeskStep, DeskLacksMemory}
use Rattle.board_text.specs.BoardSteps.{DeskState, IsReplied, has_turn, IsBoardStep, LacksMemory}
use Rattle.desk_text.specs.DeskRuns.{IsOnlyDesk, board_state}
use Rattle.desk_text.proofs.Held.{is_same}

-- ---- on a board of one desk all entries are that desk's

abbrev counted : Bool → ℕ
counted b = cond b 1 0

all_turns : (d : ℕ) (es : List Entry) → ((k : ℕ) (e : Entry) → slice_get es k ≡ Some e → e.desk ≡ d) → turns_of d es ≡ length es
all_turns d [] each = refl
all_turns d (x ∷ xs) each =
    let rest : turns_of d xs ≡ length xs = all_turns d xs (λ k e is. each (suc k) e is) in
    let unit : ℕ = 1 in
    let here : counted (x.desk == d) ≡ unit = ap counted (is_same x.desk d (each 0 x refl)) in
    let both : turns_of d (x ∷ xs) ≡ counted (x.desk == d) + turns_of d xs = sum_by-cons (λ e. cond (e.desk == d) 1 0) x xs in
    omega (arith, both, here, rest)

at_most_one : (b : Bool) → counted b ≤ 1
at_most_one true = omega arith
at_most_one false = omega arith

few_turns : (d : ℕ) (es : List Entry) → turns_of d es ≤ length es
few_turns d [] = omega arith
few_turns d (x ∷ xs) =
    let both : turns_of d (x ∷ xs) ≡ counted (x.desk == d) + turns_of d xs = sum_by-cons (λ e. cond (e.desk == d) 1 0) x xs in
    omega (arith, both, at_most_one (x.desk == d), few_turns d xs)

legal_turns : (o : Opening) (es : List Entry) → o.desks ≡ 1 → Legal o es → turns_of 1 es ≡ length es
legal_turns o es one legal = all_turns 1 es (λ k e is. let next = legal k e is in omega (arith, one, next.desk_low, next.desk_high))

at_desk : (w : Watch) (es : List Entry) → w.number ≡ 1 → turns_of w.number es ≡ turns_of 1 es
at_desk w es is = ap (λ d. turns_of d es) is

-- ---- so nothing comes between its turns

stays : (o : Opening) (old new : Watch) → o.desks ≡ 1 → IsOnlyDesk old → HadNoTurn o old new → new ≡ old
stays o old new one only waited =
    let on : IsPrefix old.seen new.seen = waited.looked.grows in
    let turns : turns_of old.number new.seen ≡ old.own = waited.looked.turns_are in
    let all : turns_of 1 new.seen ≡ length new.seen = legal_turns o new.seen one waited.looked.legal in
    let after : turns_of old.number new.seen ≡ turns_of 1 new.seen = at_desk old new.seen only.number in
    let long : length old.seen + length on.0 ≡ length new.seen = sym (length-append old.seen on.0) ∙ ap length on.1 in
    let few : turns_of old.number old.seen ≤ length old.seen = few_turns old.number old.seen in
    let before : turns_of old.number old.seen ≡ old.own = only.turns in
    let none : on.0 ≡ [] = nil_from_length on.0 (omega (arith, turns, all, after, long, few, before)) in
    let seen : new.seen ≡ old.seen = sym on.1 ∙ (ap (λ xs. old.seen ++ xs) none ∙ append-nil old.seen) in
    λ i. record { number = waited.number i; own = waited.own i; seen = seen i; viewed = waited.viewed i }

only_too : (old new : Watch) → IsOnlyDesk old → new ≡ old → IsOnlyDesk new
only_too old new only is = subst IsOnlyDesk (sym is) only

same_state : (o : Opening) (old new : Watch) → new ≡ old → board_state o new ≡ board_state o old
same_state o old new is = ap (board_state o) is

-- its turn is the next of its board
turn_is : (number desks turns own : ℕ) → number ≡ 1 → desks ≡ 1 → turns ≡ own → (nat_le 1 number && nat_le number desks && ((own + 1) == turns + 1)) ≡ true
turn_is number desks turns own a b c = grind (arith, nat_tests, a, b, c)

turn_is_due : (o : Opening) (w : Watch) → o.desks ≡ 1 → IsOnlyDesk w → has_turn (board_state o w) ≡ true
turn_is_due o w one only = turn_is w.number o.desks (turns_of w.number w.seen) w.own only.number one only.turns

replied : (o : Opening) (old new : Watch) (call : Call) (reply : Reply) → o.desks ≡ 1 → IsOnlyDesk old → HadTurn o old call reply new
    → IsReplied (board_state o old) call reply (board_state o new) × IsOnlyDesk new
replied o old new call reply one only is =
    let sub = is.submitted in
    let e : Entry = entry old.number (old.own + 1) call reply in
    let turns : turns_of old.number new.seen ≡ old.own + 1 = sub.turns_are in
    let all : turns_of 1 new.seen ≡ length new.seen = legal_turns o new.seen one sub.legal in
    let after : turns_of old.number new.seen ≡ turns_of 1 new.seen = at_desk old new.seen only.number in
    let few : turns_of old.number old.seen ≤ length old.seen = few_turns old.number old.seen in
    let before : turns_of old.number old.seen ≡ old.own = only.turns in
    let front : length (old.seen ++ sub.between) ≡ length old.seen + length sub.between = length-append old.seen sub.between in
    let long : length new.seen ≡ length (old.seen ++ sub.between) + 1 = ap length sub.after_is ∙ length-append (old.seen ++ sub.between) (e ∷ []) in
    let none : sub.between ≡ [] = nil_from_length sub.between (omega (arith, turns, all, after, few, before, front, long)) in
    let behind : old.seen ++ sub.between ≡ old.seen = ap (λ xs. old.seen ++ xs) none ∙ append-nil old.seen in
    let same : turns_of new.number new.seen ≡ turns_of old.number new.seen = ap (λ k. turns_of k new.seen) is.number in (
      record {
        room = λ full. absurd (omega (arith, sub.few, long, front, full));
        opening = refl;
        entries = sub.after_is ∙ ap (λ xs. xs ++ e ∷ []) behind;
        legal = sub.legal;
        desk = is.number;
        turn = ap (λ n. n + 1) is.own;
      },
      record { number = is.number ∙ only.number; turns = same ∙ (turns ∙ sym is.own) },
    )

-- ---- commands

answers : (o : Opening) (old new : Watch) (question : Command) (answer : Answer) → o.desks ≡ 1 → IsOnlyDesk old → HadNoTurn o old new → IsAnswerTo (record { opening = o; entries = new.seen }) question answer
    → (IsAnswerTo (record { opening = o; entries = old.seen }) question answer × (board_state o new ≡ board_state o old)) × IsOnlyDesk new
answers o old new question answer one only waited is =
    let same : new ≡ old = stays o old new one only waited in
    ((subst (λ (w : Watch). IsAnswerTo (record { opening = o; entries = w.seen }) question answer) same is, same_state o old new same), only_too old new only same)

faulted : (o : Opening) (old new : Watch) (call : Call) (fault : Fault) → o.desks ≡ 1 → IsOnlyDesk old → IsDeskStep o old (commands.Submit call) (Faulted fault) new
    → IsBoardStep (board_state o old) (commands.Submit call) (Faulted fault) (board_state o new) × IsOnlyDesk new
faulted o old new call faults.Full one only step =
    let same : new ≡ old = stays o old new one only step.0 in
    (((turn_is_due o old one only, subst (λ (w : Watch). length w.seen ≡ o.setting.max_events) same step.1), same_state o old new same), only_too old new only same)
faulted o old new call faults.OutOfTurn one only step = absurd step.1
faulted o old new call faults.NoMemory one only step = absurd step.1

called : (o : Opening) (old new : Watch) (call : Call) (answer : Answer) → o.desks ≡ 1 → IsOnlyDesk old → IsDeskStep o old (commands.Submit call) answer new
    → IsBoardStep (board_state o old) (commands.Submit call) answer (board_state o new) × IsOnlyDesk new
called o old new call (Replied reply) one only step = replied o old new call reply one only step
called o old new call (Faulted fault) one only step = faulted o old new call fault one only step
called o old new call (Listed rows) one only step = absurd step.1
called o old new call (Rowed rows) one only step = absurd step.1
called o old new call (Audited entries) one only step = absurd step.1
called o old new call (Reviewed names) one only step = absurd step.1
called o old new call (Checked answer) one only step = absurd step.1
called o old new call (Refused fault) one only step = absurd step.1

gives_alone : (o : Opening) (old new : Watch) (read : Result Command LineFault) (outcome : Outcome) → o.desks ≡ 1 → IsOnlyDesk old → Gives (IsDeskStep o) old read outcome new
    → Gives IsBoardStep (board_state o old) read outcome (board_state o new) × IsOnlyDesk new
gives_alone o old new (Err fault) outcome one only g = ((g.0, same_state o old new g.1), only_too old new only g.1)
gives_alone o old new (Ok commands.Skip) outcome one only g = ((g.0, same_state o old new g.1), only_too old new only g.1)
gives_alone o old new (Ok (commands.Submit call)) outcome one only g =
    let both = called o old new call g.0 one only g.2 in
    ((g.0, g.1, both.0), both.1)
gives_alone o old new (Ok (commands.List session)) outcome one only g =
    let both = answers o old new (commands.List session) g.0 one only g.2.0 g.2.1 in
    ((g.0, g.1, both.0), both.1)
gives_alone o old new (Ok (commands.Json session)) outcome one only g =
    let both = answers o old new (commands.List session) g.0 one only g.2.0 g.2.1 in
    ((g.0, g.1, both.0), both.1)
gives_alone o old new (Ok (commands.Audit session)) outcome one only g =
    let both = answers o old new (commands.Audit session) g.0 one only g.2.0 g.2.1 in
    ((g.0, g.1, both.0), both.1)
gives_alone o old new (Ok (commands.Check session operation object)) outcome one only g =
    let both = answers o old new (commands.Check session operation object) g.0 one only g.2.0 g.2.1 in
    ((g.0, g.1, both.0), both.1)
gives_alone o old new (Ok (commands.Review session which)) outcome one only g =
    let both = answers o old new (commands.Review session which) g.0 one only g.2.0 g.2.1 in
    ((g.0, g.1, both.0), both.1)

-- ---- lines

runs_alone : (o : Opening) (old new : Watch) (lines : List (List ℕ)) (outcomes : List Outcome) → o.desks ≡ 1 → IsOnlyDesk old → Runs (IsDeskStep o) old lines outcomes new
    → Runs IsBoardStep (board_state o old) lines outcomes (board_state o new) × IsOnlyDesk new
runs_alone o old new [] [] one only run = (same_state o old new run, only_too old new only run)
runs_alone o old new [] (x ∷ outcomes) one only run = absurd run
runs_alone o old new (line ∷ lines) [] one only run = absurd run
runs_alone o old new (line ∷ lines) (x ∷ outcomes) one only run =
    let mid : Watch = run.0 in
    let first = gives_alone o old mid (read_of (body line)) x one only run.1 in
    let rest = runs_alone o mid new lines outcomes one first.1 run.2 in
    ((board_state o mid, first.0, rest.0), rest.1)

-- ---- what the next line leaves

room_left : (old new : Watch) (most : ℕ) → new ≡ old → length new.seen < most → length old.seen ≢ most
room_left old new most same few = λ full. absurd (omega (arith, subst (λ (w : Watch). length w.seen < most) same few, full))

lacks_alone : (o : Opening) (old new : Watch) (command : Command) → o.desks ≡ 1 → IsOnlyDesk old → DeskLacksMemory o old command new → LacksMemory (board_state o old) command (board_state o new)
lacks_alone o old new (commands.Submit call) one only h =
    let same : new ≡ old = stays o old new one only h.0 in
    ((turn_is_due o old one only, room_left old new o.setting.max_events same h.1), same_state o old new same)
lacks_alone o old new commands.Skip one only h = same_state o old new (stays o old new one only h)
lacks_alone o old new (commands.List session) one only h = same_state o old new (stays o old new one only h)
lacks_alone o old new (commands.Json session) one only h = same_state o old new (stays o old new one only h)
lacks_alone o old new (commands.Audit session) one only h = same_state o old new (stays o old new one only h)
lacks_alone o old new (commands.Check session operation object) one only h = same_state o old new (stays o old new one only h)
lacks_alone o old new (commands.Review session which) one only h = same_state o old new (stays o old new one only h)

leaves_alone : (o : Opening) (old new : Watch) (read : Result Command LineFault) → o.desks ≡ 1 → IsOnlyDesk old → Leaves (IsDeskStep o) (DeskLacksMemory o) old read new → Leaves IsBoardStep LacksMemory (board_state o old) read (board_state o new)
leaves_alone o old new (Err fault) one only h = elim h [
  | inl r ↦ absurd r
  | inr l ↦ inr (l.0, (gives_alone o old new (Err fault) l.0 one only l.1).0)
]
leaves_alone o old new (Ok command) one only h = elim h [
  | inl r ↦ inl (lacks_alone o old new (asked command) one only r)
  | inr l ↦ inr (l.0, (gives_alone o old new (Ok command) l.0 one only l.1).0)
]

near_alone : (o : Opening) (mid new : Watch) (more : List ℕ) (left : Option (List ℕ)) → o.desks ≡ 1 → IsOnlyDesk mid → IsNear (IsDeskStep o) (DeskLacksMemory o) mid new more left → IsNear IsBoardStep LacksMemory (board_state o mid) (board_state o new) more left
near_alone o mid new more left one only h = elim h [
  | inl e ↦ inl (same_state o mid new e)
  | inr l ↦ inr (l.0, l.1, leaves_alone o mid new (read_of (body l.0)) one only l.2)
]

ends_alone : (o : Opening) (fault : RunFault) (mid new : Watch) (used more : List ℕ) (left : Option (List ℕ)) → o.desks ≡ 1 → IsOnlyDesk mid → EndsAt (IsDeskStep o) (DeskLacksMemory o) fault mid new used more left → EndsAt IsBoardStep LacksMemory fault (board_state o mid) (board_state o new) used more left
ends_alone o runs.Read mid new used more left one only h = (same_state o mid new h.0, h.1)
ends_alone o runs.LongLine mid new used more left one only h = (same_state o mid new h.0, h.1)
ends_alone o runs.NoMemory mid new used more left one only h = near_alone o mid new more left one only h
ends_alone o runs.Write mid new used more left one only h = near_alone o mid new more left one only h

-- ---- whole runs

pub alone : (o : Opening) (old new : Watch) (left_old left_new was now : Option (List ℕ)) (replies refusals : ℕ) → o.desks ≡ 1 → IsOnlyDesk old
    → IsAnswered (IsDeskStep o) old new left_old left_new was now replies refusals → IsAnswered IsBoardStep (board_state o old) (board_state o new) left_old left_new was now replies refusals
alone o old new left_old left_new was now replies refusals one only h =
    let run = runs_alone o old new (lines_of h.bytes) h.outcomes one only h.run.run in
    record {
      bytes = h.bytes;
      given = h.given;
      at_end = h.at_end;
      few = h.few;
      outcomes = h.outcomes;
      run = record { short = h.run.short; run = run.0 };
      text = h.text;
      answered = h.answered;
      refused = h.refused;
    }

pub alone_at_stop : (o : Opening) (fault : RunFault) (old new : Watch) (left_old left_new was now : Option (List ℕ)) → o.desks ≡ 1 → IsOnlyDesk old
    → IsStopped (IsDeskStep o) (DeskLacksMemory o) fault old new left_old left_new was now → IsStopped IsBoardStep LacksMemory fault (board_state o old) (board_state o new) left_old left_new was now
alone_at_stop o fault old new left_old left_new was now one only h =
    let run = runs_alone o old h.mid (lines_of h.used) h.outcomes one only h.run.run in
    record {
      used = h.used;
      more = h.more;
      given = h.given;
      whole = h.whole;
      outcomes = h.outcomes;
      mid = board_state o h.mid;
      run = record { short = h.run.short; run = run.0 };
      end = ends_alone o fault h.mid new h.used h.more left_new one run.1 h.end;
      text = h.text;
    }
