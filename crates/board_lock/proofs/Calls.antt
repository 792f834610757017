-- From the journal to what a desk has seen.
use Rattle.std.proofs.Common.{◌≡◌, ℕ, ◌+◌, ◌==◌, ◌<◌, ◌≤◌, true, List, [], ◌∷◌, ◌++◌, length, sym, ap, ◌∙◌, arith}
use Rattle.std.specs.Prelude.{if◌then◌else◌}
use Rattle.std.proofs.lemmas.Bool.Decides.{nat_tests}
use Rattle.std.proofs.lemmas.List.{length-append}
use mathlib.Core.List.{IsPrefix}
use Rattle.board_rules.specs.declared.call.Call.{Call}
use Rattle.board_rules.specs.declared.call.Entry.{Entry}
use Rattle.board_rules.specs.declared.reply.Reply.{Reply}
use Rattle.board_rules.specs.declared.reply.Fault.{Fault}
use Rattle.board_rules.specs.declared.reply.Fault.TheVariants.{OutOfTurn, Full, NoMemory}
use Rattle.board_rules.specs.History.{Opening, turns_of, is_turn}
use Rattle.board_lock.specs.Commits.{IsCommitted, IsFault, Submitted, Faulted, IsRefusal, Legal, entry}

abbrev pub TurnLaw : Type 0
TurnLaw = (desk : ℕ) (es : List Entry) (e : Entry) → turns_of desk (es ++ e ∷ []) ≡ turns_of desk es + (if e.desk == desk then 1 else 0)

self_test : (n : ℕ) → (n == n) ≡ true
self_test n = grind (arith, nat_tests)

one_more : (before after most : ℕ) → after ≡ before + 1 → before < most → after ≤ most
one_more before after most is room = omega (arith, is, room)

pub submitted : TurnLaw → (o : Opening) (desk own : ℕ) (call : Call) (reply : Reply) (before es after : List Entry) → IsPrefix before es → turns_of desk es ≡ own
    → IsCommitted o es (entry desk (own + 1) call reply) after → Submitted o desk own call reply before after
submitted law o desk own call reply before es after seen turns done =
    let e : Entry = entry desk (own + 1) call reply in
    record {
      legal = done.legal;
      few = one_more (length es) (length after) o.setting.max_events (ap length done.after_is ∙ length-append es (e ∷ [])) done.room;
      between = seen.0;
      after_is = done.after_is ∙ (λ i. sym seen.1 i ++ e ∷ []);
      turns_are = ap (turns_of desk) done.after_is ∙ (law desk es e ∙ (ap (λ b. turns_of desk es + (if b then 1 else 0)) (self_test desk) ∙ ap (λ n. n + 1) turns));
    }

next_turn : (desks desk own : ℕ) (es : List Entry) → 1 ≤ desk → desk ≤ desks → turns_of desk es ≡ own → is_turn desks es desk (own + 1) ≡ true
next_turn desks desk own es low high turns = grind (arith, nat_tests)

refused : (o : Opening) (es : List Entry) (desk turn : ℕ) (f : Fault) → is_turn o.desks es desk turn ≡ true → IsFault o es desk turn f → IsRefusal o es f
refused o es desk turn OutOfTurn due fault = let both = sym due ∙ fault in absurd cc
refused o es desk turn Full due fault = fault
refused o es desk turn NoMemory due fault = fault

pub faulted : (o : Opening) (desk own : ℕ) (f : Fault) (before es : List Entry) → 1 ≤ desk → desk ≤ o.desks → IsPrefix before es → turns_of desk es ≡ own → Legal o es
    → IsFault o es desk (own + 1) f → Faulted o desk own f before es
faulted o desk own f before es low high seen turns legal fault = record {
  looked = record { legal = legal; grows = seen; turns_are = turns };
  refusal = refused o es desk (own + 1) f (next_turn o.desks desk own es low high turns) fault;
}
