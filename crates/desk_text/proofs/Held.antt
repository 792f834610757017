-- A desk's list holds the replies of its lines.
use Rattle.std.proofs.Common.{◌≡◌, ◌==◌, ℕ, ◌+◌, ◌≤◌, Bool, true, false, cond, inl, inr, List, [], ◌∷◌, ◌++◌, length, map, refl, ap, sym, subst, ◌∙◌, append_assoc, arith, Option, Result, Ok, Err, filter}
use Rattle.std.proofs.lemmas.List.{append-nil, nil_from_length, map-append}
use Rattle.std.proofs.lemmas.List.Sums.{sum_by-append, sum_by-cons}
use Rattle.std.proofs.lemmas.Bool.Decides.{nat_tests}
use mathlib.Core.List.{IsPrefix}
use Rattle.board_rules.specs.declared.call.Call.{Call}
use Rattle.board_rules.specs.declared.call.Entry.{Entry}
use Rattle.board_rules.specs.declared.reply.Reply.{Reply}
use Rattle.board_rules.specs.History.{Opening, turns_of}
use Rattle.board_lines.specs.Reading.{read_of}
use Rattle.board_lines.specs.declared.command.Command.{Command}
use Rattle.board_lines.specs.declared.command.Command.TheVariants as commands
use Rattle.board_lines.specs.declared.command.LineFault.{LineFault}
use Rattle.line_engine.specs.Answers.{Answer, Replied, Faulted, Listed, Rowed, Audited, Reviewed, Checked, Refused}
use Rattle.line_engine.specs.Outcomes.{Outcome, Said}
use Rattle.line_engine.specs.Leaving.{Gives, Leaves, asked}
use Rattle.line_engine.specs.Running.{Runs, body}
use Rattle.line_engine.specs.TextLines.{lines_of}
use Rattle.line_engine.specs.WholeRuns.{IsAnswered, IsNear, EndsAt, IsStopped}
use Rattle.line_engine.specs.declared.run_fault.RunFault.{RunFault}
use Rattle.line_engine.specs.declared.run_fault.RunFault.TheVariants as runs
use Rattle.board_lock.specs.Commits.{entry}
use Rattle.board_lock.specs.Watches.{Watch}
use Rattle.board_lock.specs.DeskSteps.{HadNoTurn, HadTurn, IsDeskStep, DeskLacksMemory}
use Rattle.desk_text.specs.DeskRuns.{journaled, all_journaled, held_by, HasSeenItsTurns, AreHeld, IsHeld, IsHeldAtStop}

-- ---- a desk's entries

abbrev pub of_desk : ℕ → List Entry → List Entry
of_desk desk entries = filter (λ e. e.desk == desk) entries

of_cons : (b : Bool) (x : Entry) (whole front back : List Entry) → whole ≡ front ++ back → cond b (x ∷ whole) whole ≡ cond b (x ∷ front) front ++ back
of_cons true x whole front back is = ap (λ zs. x ∷ zs) is
of_cons false x whole front back is = is

of_append : (d : ℕ) (xs ys : List Entry) → of_desk d (xs ++ ys) ≡ of_desk d xs ++ of_desk d ys
of_append d [] ys = refl
of_append d (x ∷ xs) ys = of_cons (x.desk == d) x (of_desk d (xs ++ ys)) (of_desk d xs) (of_desk d ys) (of_append d xs ys)

length_cons : (b : Bool) (x : Entry) (xs : List Entry) (n : ℕ) → length xs ≡ n → length (cond b (x ∷ xs) xs) ≡ cond b 1 0 + n
length_cons true x xs n is = omega (arith, is)
length_cons false x xs n is = omega (arith, is)

of_length : (d : ℕ) (xs : List Entry) → length (of_desk d xs) ≡ turns_of d xs
of_length d [] = refl
of_length d (x ∷ xs) = length_cons (x.desk == d) x (of_desk d xs) (turns_of d xs) (of_length d xs) ∙ sym (sum_by-cons (λ e. cond (e.desk == d) 1 0) x xs)

pub is_same : (a b : ℕ) → a ≡ b → (a == b) ≡ true
is_same a b e = grind (arith, nat_tests)

of_one : (d : ℕ) (e : Entry) → e.desk ≡ d → of_desk d (e ∷ []) ≡ e ∷ []
of_one d e is = ap (λ b. cond b (e ∷ []) []) (is_same e.desk d is)

pub turns_append : (d : ℕ) (xs ys : List Entry) → turns_of d (xs ++ ys) ≡ turns_of d xs + length (of_desk d ys)
turns_append d xs ys = sum_by-append _ xs ys ∙ ap (λ n. turns_of d xs + n) (sym (of_length d ys))

held_append : (d : ℕ) (xs ys : List Entry) → held_by d (xs ++ ys) ≡ held_by d xs ++ held_by d ys
held_append d xs ys = ap (map (λ e. (e.call, e.reply))) (of_append d xs ys) ∙ map-append (λ e. (e.call, e.reply)) (of_desk d xs) (of_desk d ys)

-- ---- one line

-- what one line adds to what a desk has seen
pub record Adds (old new : Watch) (pairs : List (Call × Reply)) : Type 0 where
  pub number : new.number ≡ old.number
  pub added : List Entry
  pub added_is : new.seen ≡ old.seen ++ added
  pub held : held_by old.number added ≡ pairs
  pub turns : HasSeenItsTurns new

adds_nothing : (o : Opening) (old new : Watch) → HasSeenItsTurns old → HadNoTurn o old new → Adds old new []
adds_nothing o old new own waited =
    let on : IsPrefix old.seen new.seen = waited.looked.grows in
    let turns : turns_of old.number new.seen ≡ old.own = waited.looked.turns_are in
    let grown : turns_of old.number new.seen ≡ turns_of old.number old.seen + length (of_desk old.number on.0) = ap (turns_of old.number) (sym on.1) ∙ turns_append old.number old.seen on.0 in
    let none : of_desk old.number on.0 ≡ [] = nil_from_length (of_desk old.number on.0) (omega (arith, own, turns, grown)) in
    let same : turns_of new.number new.seen ≡ turns_of old.number new.seen = ap (λ d. turns_of d new.seen) waited.number in
    let stays : new.own ≡ old.own = waited.own in
    record { number = waited.number; added = on.0; added_is = sym on.1; held = ap (map (λ e. (e.call, e.reply))) none; turns = omega (arith, stays, same, turns) }

adds_reply : (o : Opening) (old new : Watch) (call : Call) (reply : Reply) → HasSeenItsTurns old → HadTurn o old call reply new → Adds old new ((call, reply) ∷ [])
adds_reply o old new call reply own is =
    let sub = is.submitted in
    let d : ℕ = old.number in
    let e : Entry = entry d (old.own + 1) call reply in
    let one : of_desk d (e ∷ []) ≡ e ∷ [] = of_one d e refl in
    let one_long : length (of_desk d (e ∷ [])) ≡ 1 = ap length one in
    let turns : turns_of d new.seen ≡ old.own + 1 = sub.turns_are in
    let front : turns_of d (old.seen ++ sub.between) ≡ turns_of d old.seen + length (of_desk d sub.between) = turns_append d old.seen sub.between in
    let whole : turns_of d new.seen ≡ turns_of d (old.seen ++ sub.between) + length (of_desk d (e ∷ [])) = ap (turns_of d) sub.after_is ∙ turns_append d (old.seen ++ sub.between) (e ∷ []) in
    let none : of_desk d sub.between ≡ [] = nil_from_length (of_desk d sub.between) (omega (arith, own, turns, front, whole, one_long)) in
    let same : turns_of new.number new.seen ≡ turns_of d new.seen = ap (λ k. turns_of k new.seen) is.number in
    let next : new.own ≡ old.own + 1 = is.own in
    record {
      number = is.number;
      added = sub.between ++ e ∷ [];
      added_is = sub.after_is ∙ append_assoc old.seen sub.between (e ∷ []);
      held = held_append d sub.between (e ∷ []) ∙ (λ i. map (λ e. (e.call, e.reply)) (none i) ++ map (λ e. (e.call, e.reply)) (one i));
      turns = omega (arith, next, same, turns);
    }

pub adds_none : (old new : Watch) → HasSeenItsTurns old → new ≡ old → Adds old new []
adds_none old new own is = subst (λ (w : Watch). Adds old w []) (sym is) (record { number = refl; added = []; added_is = sym (append-nil old.seen); held = refl; turns = own })

-- a line adds the entry of its call, if it was journaled
pub adds_line : (o : Opening) (old new : Watch) (read : Result Command LineFault) (outcome : Outcome) → HasSeenItsTurns old → Gives (IsDeskStep o) old read outcome new → Adds old new (journaled read outcome)
adds_line o old new (Err fault) outcome own gives = adds_none old new own gives.1
adds_line o old new (Ok commands.Skip) outcome own gives = adds_none old new own gives.1
adds_line o old new (Ok (commands.List session)) outcome own gives = adds_nothing o old new own gives.2.0
adds_line o old new (Ok (commands.Json session)) outcome own gives = adds_nothing o old new own gives.2.0
adds_line o old new (Ok (commands.Audit session)) outcome own gives = adds_nothing o old new own gives.2.0
adds_line o old new (Ok (commands.Check session operation object)) outcome own gives = adds_nothing o old new own gives.2.0
adds_line o old new (Ok (commands.Review session which)) outcome own gives = adds_nothing o old new own gives.2.0
adds_line o old new (Ok (commands.Submit call)) outcome own gives = subst (λ out. Adds old new (journaled (Ok (commands.Submit call)) out)) (sym gives.1) (by_answer gives.0 gives.2) where
  by_answer : (answer : Answer) → IsDeskStep o old (commands.Submit call) answer new → Adds old new (journaled (Ok (commands.Submit call)) (Said answer))
  by_answer (Replied reply) step = adds_reply o old new call reply own step
  by_answer (Faulted fault) step = adds_nothing o old new own step.0
  by_answer (Listed rows) step = absurd step.1
  by_answer (Rowed rows) step = absurd step.1
  by_answer (Audited entries) step = absurd step.1
  by_answer (Reviewed names) step = absurd step.1
  by_answer (Checked answer) step = absurd step.1
  by_answer (Refused fault) step = absurd step.1

-- ---- many lines

pub adds_all : (o : Opening) (old new : Watch) (lines : List (List ℕ)) (outcomes : List Outcome) → HasSeenItsTurns old → Runs (IsDeskStep o) old lines outcomes new → Adds old new (all_journaled lines outcomes)
adds_all o old new [] [] own run = adds_none old new own run
adds_all o old new [] (x ∷ outcomes) own run = absurd run
adds_all o old new (line ∷ lines) [] own run = absurd run
adds_all o old new (line ∷ lines) (outcome ∷ outcomes) own run =
    let mid : Watch = run.0 in
    let first = adds_line o old mid (read_of (body line)) outcome own run.1 in
    let rest = adds_all o mid new lines outcomes first.turns run.2 in
    let rest_held : held_by old.number rest.added ≡ all_journaled lines outcomes = ap (λ d. held_by d rest.added) (sym first.number) ∙ rest.held in
    record {
      number = rest.number ∙ first.number;
      added = first.added ++ rest.added;
      added_is = rest.added_is ∙ (ap (λ xs. xs ++ rest.added) first.added_is ∙ append_assoc old.seen first.added rest.added);
      held = held_append old.number first.added rest.added ∙ (λ i. first.held i ++ rest_held i);
      turns = rest.turns;
    }

-- what the line that comes next leaves
lacks : (o : Opening) (old new : Watch) (command : Command) → DeskLacksMemory o old command new → HadNoTurn o old new
lacks o old new (commands.Submit call) h = h.0
lacks o old new commands.Skip h = h
lacks o old new (commands.List session) h = h
lacks o old new (commands.Json session) h = h
lacks o old new (commands.Audit session) h = h
lacks o old new (commands.Check session operation object) h = h
lacks o old new (commands.Review session which) h = h

pub after_next : (o : Opening) (mid new : Watch) (read : Result Command LineFault) → HasSeenItsTurns mid → Leaves (IsDeskStep o) (DeskLacksMemory o) mid read new → (pairs : List (Call × Reply)) × Adds mid new pairs
after_next o mid new (Err fault) turns h = elim h [
  | inl r ↦ absurd r
  | inr l ↦ (_, adds_line o mid new (Err fault) l.0 turns l.1)
]
after_next o mid new (Ok command) turns h = elim h [
  | inl r ↦ (_, adds_nothing o mid new turns (lacks o mid new (asked command) r))
  | inr l ↦ (_, adds_line o mid new (Ok command) l.0 turns l.1)
]

pub near : (o : Opening) (mid new : Watch) (more : List ℕ) (left : Option (List ℕ)) → HasSeenItsTurns mid → IsNear (IsDeskStep o) (DeskLacksMemory o) mid new more left → (pairs : List (Call × Reply)) × Adds mid new pairs
near o mid new more left turns h = elim h [
  | inl e ↦ (_, adds_none mid new turns e)
  | inr l ↦ after_next o mid new (read_of (body l.0)) turns l.2
]

pub ends : (o : Opening) (fault : RunFault) (mid new : Watch) (used more : List ℕ) (left : Option (List ℕ)) → HasSeenItsTurns mid → EndsAt (IsDeskStep o) (DeskLacksMemory o) fault mid new used more left → (pairs : List (Call × Reply)) × Adds mid new pairs
ends o runs.Read mid new used more left turns h = (_, adds_none mid new turns h.0)
ends o runs.LongLine mid new used more left turns h = (_, adds_none mid new turns h.0)
ends o runs.NoMemory mid new used more left turns h = near o mid new more left turns h
ends o runs.Write mid new used more left turns h = near o mid new more left turns h

-- ---- whole runs

are_held : (old new : Watch) (text : List ℕ) (outcomes : List Outcome) → Adds old new (all_journaled (lines_of text) outcomes) → AreHeld old new text outcomes
are_held old new text outcomes adds = record { added = adds.added; added_is = adds.added_is; held = adds.held }

pub held : (o : Opening) (old new : Watch) (left_old left_new was now : Option (List ℕ)) (answers refusals : ℕ) → HasSeenItsTurns old → IsAnswered (IsDeskStep o) old new left_old left_new was now answers refusals → IsHeld o old new left_old left_new was now answers refusals
held o old new left_old left_new was now answers refusals turns answered =
    let all = adds_all o old new (lines_of answered.bytes) answered.outcomes turns answered.run.run in
    record { answered = answered; held = are_held old new answered.bytes answered.outcomes all; turns = all.turns }

pub held_at_stop : (o : Opening) (fault : RunFault) (old new : Watch) (left_old left_new was now : Option (List ℕ)) → HasSeenItsTurns old → IsStopped (IsDeskStep o) (DeskLacksMemory o) fault old new left_old left_new was now → IsHeldAtStop o fault old new left_old left_new was now
held_at_stop o fault old new left_old left_new was now turns stopped =
    let all = adds_all o old stopped.mid (lines_of stopped.used) stopped.outcomes turns stopped.run.run in
    let last = ends o fault stopped.mid new stopped.used stopped.more left_new all.turns stopped.end in
    record { stopped = stopped; held = are_held old stopped.mid stopped.used stopped.outcomes all; turns = last.1.turns }
