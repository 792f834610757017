-- Whether an event is taken, in the form in which the public clauses of a core say it.
use Rattle.std.proofs.Common.{◌≡◌, ◌↔◌, ℕ, true, false, length, refl, sym, ◌∙◌, arith, Result, Ok, Err}
use Rattle.std.specs.Prelude.{IsErrOf, IfErr}
use Rattle.dimension_core.specs.Setting.{Setting}
use Rattle.board_rules.specs.declared.reply.Fault.{Fault}
use Rattle.board_rules.specs.declared.reply.Fault.TheVariants.{OutOfTurn, Full, NoMemory}
use Rattle.board_rules.specs.History.{is_turn}
use Rattle.board_core.specs.Kept.{CoreState}
use Rattle.board_core.specs.Taking.{IsTaken, IsDue}

module _ {R : Type 0} (s : Setting) (core : CoreState) (desk turn : ℕ) where
  -- a fault that is due
  pub due_turn : (fault : Fault) → IsDue s core desk turn fault
      → IsErrOf {T = R} (Err fault) OutOfTurn ↔ (is_turn (length core.turns) core.journal desk turn ≡ false)
  due_turn OutOfTurn due = ((λ e. due), (λ h. refl))
  due_turn Full due = ((λ e. absurd cc), (λ h. let both = sym due.0 ∙ h in absurd cc))
  due_turn NoMemory due = absurd due

  pub due_full : (fault : Fault) → IsDue s core desk turn fault
      → IsErrOf {T = R} (Err fault) Full ↔ ((is_turn (length core.turns) core.journal desk turn ≡ true) × (length core.journal ≡ s.max_events))
  due_full OutOfTurn due = ((λ e. absurd cc), (λ h. let both = sym h.0 ∙ due in absurd cc))
  due_full Full due = ((λ e. due), (λ h. refl))
  due_full NoMemory due = absurd due

  -- an event that is taken
  pub taken_turn : (result : Result R Fault) → (IsErrOf result OutOfTurn → ⊥) → IsTaken s core desk turn
      → IsErrOf result OutOfTurn ↔ (is_turn (length core.turns) core.journal desk turn ≡ false)
  taken_turn result other taken = ((λ e. absurd (other e)), (λ h. let both = sym taken.due ∙ h in absurd cc))

  pub taken_full : (result : Result R Fault) → (IsErrOf result Full → ⊥) → IsTaken s core desk turn
      → IsErrOf result Full ↔ ((is_turn (length core.turns) core.journal desk turn ≡ true) × (length core.journal ≡ s.max_events))
  taken_full result other taken = ((λ e. absurd (other e)), (λ h. absurd (omega (arith, h.1, taken.space))))

-- a call that is taken fails by running out of memory alone
module _ {R : Type 0} where
  pub not_turn : (result : Result R Fault) → IfErr result (λ fault. fault ≡ NoMemory) → IsErrOf result OutOfTurn → ⊥
  not_turn (Ok r) only e = absurd cc
  not_turn (Err fault) only e = absurd cc

  pub not_full : (result : Result R Fault) → IfErr result (λ fault. fault ≡ NoMemory) → IsErrOf result Full → ⊥
  not_full (Ok r) only e = absurd cc
  not_full (Err fault) only e = absurd cc

  pub untaken : {X : Type 0} (x y : X) (result : Result R Fault) → IfErr result (λ fault. fault ≡ NoMemory) → IfErr result (λ fault. (fault ≡ NoMemory → ⊥) → x ≡ y)
  untaken x y (Ok r) only = tt
  untaken x y (Err fault) only = λ other. absurd (other only)
