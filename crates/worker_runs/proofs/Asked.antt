-- Calls that are asked one after another, and runs of lines: what a board was opened with stays.
use Rattle.std.proofs.Common.{◌≡◌, ◌∙◌, ℕ, zero, suc, ◌+◌, List, [], ◌∷◌, ◌++◌, refl, ap, subst, add-one, Result, Ok, Err}
use Rattle.std.specs.Prelude.{◌≢◌}
use Rattle.board_rules.specs.History.{Opening}
use Rattle.board_rules.specs.declared.call.Call.{Call}
use Rattle.board_rules.specs.declared.reply.Reply.{Reply}
use Rattle.board_lines.specs.Reading.{read_of}
use Rattle.board_lines.specs.declared.command.Command.{Command}
use Rattle.board_lines.specs.declared.command.Command.TheVariants as commands
use Rattle.board_lines.specs.declared.command.LineFault.{LineFault}
use Rattle.line_engine.specs.Answers.{Answer, Replied, Faulted, Listed, Rowed, Audited, Reviewed, Checked, Refused}
use Rattle.line_engine.specs.Outcomes.{Outcome}
use Rattle.line_engine.specs.Leaving.{Does, Gives}
use Rattle.line_engine.specs.Running.{Runs, body}
use Rattle.board_text.specs.BoardSteps.{DeskState, IsBoardStep}
use Rattle.worker_runs.specs.SetUp.{AreAsked, sessions_to, set_up_of, user_and_role}

-- ---- calls one after another

pub asked_append : {S : Type 0} (step : S → Command → Answer → S → Type 0) (old mid new : S) (xs ys : List (Call × Reply)) → AreAsked step old xs mid → AreAsked step mid ys new → AreAsked step old (xs ++ ys) new
asked_append {S} step old mid new [] ys a b = subst (λ (s : S). AreAsked step s ys new) a b
asked_append step old mid new (x ∷ xs) ys a b = (a.0, a.1, asked_append step a.0 mid new xs ys a.2 b)

pub asked_more : {S : Type 0} (step : S → Command → Answer → S → Type 0) (old mid new : S) (xs : List (Call × Reply)) (call : Call) (reply : Reply)
    → AreAsked step old xs mid → step mid (commands.Submit call) (Replied reply) new → AreAsked step old (xs ++ (call, reply) ∷ []) new
asked_more step old mid new xs call reply a s = asked_append step old mid new xs ((call, reply) ∷ []) a (new, s, refl)

pub sessions_more : (n : ℕ) → sessions_to (n + 1) ≡ sessions_to (suc n)
sessions_more n = ap sessions_to (add-one n)

pub set_up_by : (n : ℕ) → n ≢ 0 → set_up_of n ≡ user_and_role ++ sessions_to n
set_up_by zero h = absurd (h refl)
set_up_by (suc n) h = refl

-- ---- what the board was opened with stays

abbrev opening_in : DeskState → Opening
opening_in s = s.history.opening

step_keeps : (old new : DeskState) (command : Command) (answer : Answer) → IsBoardStep old command answer new → opening_in new ≡ opening_in old
step_keeps old new (commands.Submit call) (Replied reply) h = h.opening
step_keeps old new (commands.Submit call) (Faulted fault) h = ap opening_in h.1
step_keeps old new (commands.Submit call) (Listed rows) h = ap opening_in h.1
step_keeps old new (commands.Submit call) (Rowed rows) h = ap opening_in h.1
step_keeps old new (commands.Submit call) (Audited entries) h = ap opening_in h.1
step_keeps old new (commands.Submit call) (Reviewed names) h = ap opening_in h.1
step_keeps old new (commands.Submit call) (Checked value) h = ap opening_in h.1
step_keeps old new (commands.Submit call) (Refused fault) h = ap opening_in h.1
step_keeps old new commands.Skip answer h = ap opening_in h.1
step_keeps old new (commands.List session) answer h = ap opening_in h.1
step_keeps old new (commands.Json session) answer h = ap opening_in h.1
step_keeps old new (commands.Audit session) answer h = ap opening_in h.1
step_keeps old new (commands.Check session operation object) answer h = ap opening_in h.1
step_keeps old new (commands.Review session which) answer h = ap opening_in h.1

does_keep : (old new : DeskState) (command : Command) (outcome : Outcome) → Does IsBoardStep old command outcome new → opening_in new ≡ opening_in old
does_keep old new commands.Skip outcome h = ap opening_in h.1
does_keep old new (commands.Json session) outcome h = step_keeps old new (commands.List session) h.0 h.2
does_keep old new (commands.Submit call) outcome h = step_keeps old new (commands.Submit call) h.0 h.2
does_keep old new (commands.List session) outcome h = step_keeps old new (commands.List session) h.0 h.2
does_keep old new (commands.Audit session) outcome h = step_keeps old new (commands.Audit session) h.0 h.2
does_keep old new (commands.Check session operation object) outcome h = step_keeps old new (commands.Check session operation object) h.0 h.2
does_keep old new (commands.Review session which) outcome h = step_keeps old new (commands.Review session which) h.0 h.2

gives_keep : (old new : DeskState) (read : Result Command LineFault) (outcome : Outcome) → Gives IsBoardStep old read outcome new → opening_in new ≡ opening_in old
gives_keep old new (Ok command) outcome h = does_keep old new command outcome h
gives_keep old new (Err fault) outcome h = ap opening_in h.1

pub runs_keep : (old new : DeskState) (lines : List (List ℕ)) (outcomes : List Outcome) → Runs IsBoardStep old lines outcomes new → opening_in new ≡ opening_in old
runs_keep old new [] [] h = ap opening_in h
runs_keep old new (line ∷ lines) (outcome ∷ outcomes) h = runs_keep h.0 new lines outcomes h.2 ∙ gives_keep old h.0 (read_of (body line)) outcome h.1
runs_keep old new [] (outcome ∷ outcomes) h = absurd h
runs_keep old new (line ∷ lines) [] h = absurd h

pub asked_keep : (old new : DeskState) (calls : List (Call × Reply)) → AreAsked IsBoardStep old calls new → opening_in new ≡ opening_in old
asked_keep old new [] h = ap opening_in h
asked_keep old new (call ∷ calls) h = asked_keep h.0 new calls h.2 ∙ h.1.opening
