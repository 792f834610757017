-- Answers of a front as outcomes of a line.
use Rattle.std.proofs.Common.{◌≡◌, ℕ, List, inl, inr, refl, sym, ap, subst, ◌∙◌, Result, Ok, Err, IfOk, OnErr, Bor, map}
use Rattle.board_lines.specs.declared.command.Command.{Command}
use Rattle.board_lines.specs.declared.command.Command.TheVariants as commands
use Rattle.board_lines.specs.declared.command.LineFault.{LineFault}
use Rattle.board_lines.specs.declared.command.ReadFault.{ReadFault}
use Rattle.board_lines.specs.declared.command.ReadFault.TheVariants.{Line, NoMemory}
use Rattle.board_lines.specs.declared.reading.Proposed.{Proposed}
use Rattle.board_lines.specs.declared.reading.Order.{Order}
use Rattle.board_lines.specs.declared.reading.Head.{Head}
use Rattle.board_lines.specs.declared.reading.Head.TheVariants.{Asks}
use Rattle.board_lines.specs.declared.word.Word.{Word}
use Rattle.board_lines.specs.Reading.{Begins, Says, Proposes, Holds, Orders, after_word, by_policy}
use Rattle.board_rules.specs.declared.call.Call.{Call}
use Rattle.board_rules.specs.declared.call.Call.TheVariants as calls
use Rattle.board_rules.specs.declared.hold.Hold.{Hold}
use Rattle.board_rules.specs.Holds.{call_of}
use Rattle.line_engine.specs.Answers.{Answer}
use Rattle.line_engine.specs.Outcomes.{Said, Bad}
use Rattle.line_engine.specs.Leaving.{Does, Gives, Fails, Drops, Loses, RunsOut, as_json, asked}
use Rattle.line_engine.specs.declared.mark.Mark.{Mark}
use Rattle.line_engine.specs.declared.mark.Mark.TheVariants as marks
use Rattle.line_engine.specs.Marks.{Marks, Obeys, Tells, TellsJson, IsUnread}

-- a command whose outcome is what the front answers to it
abbrev pub IsPlain : {S : Type 0} → (S → Command → Answer → S → Type 0) → S → Command → S → Type 0
IsPlain step old command new = (answer : Answer) → step old command answer new → Does step old command (Said answer) new

module _ {S E : Type 0} (step : S → Command → Answer → S → Type 0) (refuses : S → Command → S → Type 0) (old new : S) (command : Command) where
  pub obeyed : (given : Command) → command ≡ given → IsPlain step old given new → (text : List ℕ) (r : Result Mark E)
      → IfOk r (Tells step old given new text) → IfOk r (Obeys step old command new text)
  obeyed given is plain text (Ok mark) t =
      subst (λ (x : Command). Obeys step old x new text mark) (sym is)
      (record { outcome = Said t.0; holds = plain t.0 t.1; reported = t.2; replied = t.3; refused = t.4 })
  obeyed given is plain text (Err e) t = tt

  pub failed : (given : Command) → command ≡ given → asked given ≡ given → IsPlain step old given new → (r : Result Mark E)
      → OnErr r (Loses step refuses old given new) → OnErr r (Fails step refuses old command new)
  failed given is same plain (Ok mark) h = tt
  failed given is same plain (Err e) h = elim h [
    | inl r ↦ inl (subst (λ (x : Command). refuses old x new) (sym (ap asked is ∙ same)) r)
    | inr t ↦ inr (Said t.0, subst (λ (x : Command). Does step old x (Said t.0) new) (sym is) (plain t.0 t.1))
  ]

  pub obeyed_json : (session : ℕ) → command ≡ commands.Json session → (text : List ℕ) (r : Result Mark E)
      → IfOk r (TellsJson step old session new text) → IfOk r (Obeys step old command new text)
  obeyed_json session is text (Ok mark) t =
      subst (λ (x : Command). Obeys step old x new text mark) (sym is)
      (record { outcome = Said (as_json t.0); holds = (t.0, refl, t.1); reported = t.2; replied = t.3; refused = t.4 })
  obeyed_json session is text (Err e) t = tt

  pub failed_json : (session : ℕ) → command ≡ commands.Json session → (r : Result Mark E)
      → OnErr r (Loses step refuses old (commands.List session) new) → OnErr r (Fails step refuses old command new)
  failed_json session is (Ok mark) h = tt
  failed_json session is (Err e) h = elim h [
    | inl r ↦ inl (subst (λ (x : Command). refuses old x new) (sym (ap asked is)) r)
    | inr t ↦ inr (Said (as_json t.0), subst (λ (x : Command). Does step old x (Said (as_json t.0)) new) (sym is) (t.0, refl, t.1))
  ]

-- a line that was read
pub dropped : {S E : Type 0} (step : S → Command → Answer → S → Type 0) (refuses : S → Command → S → Type 0) (old new : S) (read : Result Command LineFault) (command : Command) → read ≡ Ok command
    → (r : Result Mark E) → OnErr r (Fails step refuses old command new) → OnErr r (Drops step refuses old read new)
dropped step refuses old new read command is (Ok mark) h = tt
dropped step refuses old new read command is (Err e) h = elim h [
  | inl r ↦ inr (inl (subst (λ (x : Result Command LineFault). RunsOut refuses old x new) (sym is) r))
  | inr o ↦ inr (inr (o.0, subst (λ (x : Result Command LineFault). Gives step old x o.0 new) (sym is) o.1))
]

-- a line that was read as a command which the front answers itself
module _ {S E : Type 0} (step : S → Command → Answer → S → Type 0) (refuses : S → Command → S → Type 0) (old new : S) (read : Result Command LineFault) (command : Command) (is : read ≡ Ok command) (plain : IsPlain step old command new) where
  pub answered : (text : List ℕ) (r : Result Mark E) → IfOk r (Tells step old command new text) → IfOk r (Marks (λ outcome. Gives step old read outcome new) text)
  answered text (Ok mark) t =
      record { outcome = Said t.0; holds = subst (λ (x : Result Command LineFault). Gives step old x (Said t.0) new) (sym is) (plain t.0 t.1); reported = t.2; replied = t.3; refused = t.4 }
  answered text (Err e) t = tt

  pub unanswered : asked command ≡ command → (r : Result Mark E) → OnErr r (Loses step refuses old command new) → OnErr r (Drops step refuses old read new)
  unanswered same r h = dropped step refuses old new read command is r (failed step refuses old new command command refl same plain r h)

-- what was to be read, by what reading a proposal returned
pub proposed : (r : Result Proposed LineFault) (read : Result Command LineFault) (p : Proposed) → r ≡ Ok p → Proposes r read → read ≡ Ok (commands.Submit (calls.Propose p.session p.base p.mv))
proposed r read p is h = subst (λ (x : Result Proposed LineFault). Proposes x read) is h

-- by what reading a call on a pin or on a frozen front returned
pub held : (r : Result Hold LineFault) (read : Result Command LineFault) (hold : Hold) (call : Call) → r ≡ Ok hold → call ≡ call_of hold → Holds r read → read ≡ Ok (commands.Submit call)
held r read hold call is e h = rw e (subst (λ (x : Result Hold LineFault). Holds x read) is h)

pub not_held : (r : Result Hold LineFault) (read : Result Command LineFault) (fault : LineFault) → r ≡ Err fault → Holds r read → read ≡ Err fault
not_held r read fault is h = subst (λ (x : Result Hold LineFault). Holds x read) is h

-- and by what reading a change of the policy returned
pub ordered : (r : Result Order LineFault) (read : Result Command LineFault) (o : Order) → r ≡ Ok o → Orders r read → read ≡ Ok (by_policy o.session o.command)
ordered r read o is h = subst (λ (x : Result Order LineFault). Orders x read) is h

pub not_ordered : (r : Result Order LineFault) (read : Result Command LineFault) (fault : LineFault) → r ≡ Err fault → Orders r read → read ≡ Err fault
not_ordered r read fault is h = subst (λ (x : Result Order LineFault). Orders x read) is h

pub not_proposed : (r : Result Proposed LineFault) (read : Result Command LineFault) (fault : LineFault) → r ≡ Err fault → Proposes r read → read ≡ Err fault
not_proposed r read fault is h = subst (λ (x : Result Proposed LineFault). Proposes x read) is h

-- a line that is not a command
pub unreported : {S E : Type 0} (step : S → Command → Answer → S → Type 0) (old : S) (read : Result Command LineFault) (got : Result Command ReadFault) (fault : ReadFault) → got ≡ Err fault → Says got read
    → (text : List ℕ) (r : Result Mark E) → IfOk r (IsUnread fault text) → IfOk r (Marks (λ outcome. Gives step old read outcome old) text)
unreported {E = E} step old read got fault is says text r h = of_fault fault (subst (λ (x : Result Command ReadFault). Says x read) is says) h
  where
    of_fault : (e : ReadFault) → Says (Err e) read → IfOk r (IsUnread e text) → IfOk r (Marks (λ outcome. Gives step old read outcome old) text)
    of_fault (Line f) same k = made r k
      where
        made : (q : Result Mark E) → IfOk q (IsUnread (Line f) text) → IfOk q (Marks (λ outcome. Gives step old read outcome old) text)
        made (Ok mark) p = record { outcome = Bad f; holds = subst (λ (x : Result Command LineFault). Gives step old x (Bad f) old) (sym same) (refl, refl); reported = p.0; replied = p.1; refused = p.2 }
        made (Err x) p = tt
    of_fault NoMemory same k = made r k
      where
        made : (q : Result Mark E) → IfOk q (IsUnread NoMemory text) → IfOk q (Marks (λ outcome. Gives step old read outcome old) text)
        made (Ok mark) p = absurd p
        made (Err x) p = tt

-- what was read, by what reading returned
pub read_whole : (r : Result Command ReadFault) (read : Result Command LineFault) (command : Command) → r ≡ Ok command → Says r read → read ≡ Ok command
read_whole r read command is h = subst (λ (x : Result Command ReadFault). Says x read) is h

-- a line that its head shows to be bad
pub bad_head : {S : Type 0} (step : S → Command → Answer → S → Type 0) (old : S) (read : Result Command LineFault) (fault : LineFault) → read ≡ Err fault
    → (text : List ℕ) → Marks (λ outcome. Gives step old read outcome old) text (marks.Bad fault)
bad_head step old read fault is text =
    record { outcome = Bad fault; holds = subst (λ (x : Result Command LineFault). Gives step old x (Bad fault) old) (sym is) (refl, refl); reported = refl; replied = refl; refused = refl }

-- a line whose head names its command
pub begun : (head : Head) (session : ℕ) (named word : Word) (args : Bor (List (Bor (List ℕ)))) (read : Result Command LineFault) → head ≡ Asks session named args → named ≡ word → Begins (Ok head) read
    → read ≡ after_word session word (map (λ w. w.now) args.now)
begun head session named word args read is same h = subst (λ (x : Head). Begins (Ok x) read) is h ∙ ap (λ (w : Word). after_word session w (map (λ x. x.now) args.now)) same

pub marks_as : {S E : Type 0} (step : S → Command → Answer → S → Type 0) (old new : S) (read is : Result Command LineFault) → read ≡ is → (text : List ℕ) (r : Result Mark E)
    → IfOk r (Marks (λ outcome. Gives step old is outcome new) text) → IfOk r (Marks (λ outcome. Gives step old read outcome new) text)
marks_as step old new read is e text r h = subst (λ (x : Result Command LineFault). IfOk r (Marks (λ outcome. Gives step old x outcome new) text)) (sym e) h

pub drops_as : {S E : Type 0} (step : S → Command → Answer → S → Type 0) (refuses : S → Command → S → Type 0) (old new : S) (read is : Result Command LineFault) → read ≡ is → (r : Result Mark E)
    → OnErr r (Drops step refuses old is new) → OnErr r (Drops step refuses old read new)
drops_as step refuses old new read is e r h = subst (λ (x : Result Command LineFault). OnErr r (Drops step refuses old x new)) (sym e) h
