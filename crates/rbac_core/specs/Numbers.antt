-- The numbers of sessions, from one policy to a later one.
use Rattle.std.specs.Prelude.{◌≡◌, ◌⊎◌, ◌<◌, ◌≤◌, ℕ, ◌+◌, true, false}
use Rattle.policy_core.specs.State.{PolicyState, is_session}

-- no session has a number above the last one used
abbrev pub AreNumbersUsed : PolicyState → Type 0
AreNumbersUsed p = (number : ℕ) → is_session p number ≡ true → number ≤ p.last

-- The last number used stays or is the next one, and a session that was not there before has that next number.
pub record IsNumberedNext (old new : PolicyState) : Type 0 where
  pub last : (new.last ≡ old.last) ⊎ (new.last ≡ old.last + 1)
  pub fresh : (number : ℕ) → is_session new number ≡ true → is_session old number ≡ false → (number ≡ old.last + 1) × (new.last ≡ old.last + 1)

-- The last number used does not fall, and a session that was not there before has a number that was not used before.
pub record DoNumbersRise (old new : PolicyState) : Type 0 where
  pub last : old.last ≤ new.last
  pub fresh : (number : ℕ) → is_session new number ≡ true → is_session old number ≡ false → (old.last < number) × (number ≤ new.last)
