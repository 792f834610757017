use Rattle.std.proofs.Common.{◌≡◌, ℕ, map, filter, take}
use Rattle.std.specs.Prelude.{bytes_eq}
use Rattle.policy_core.specs.declared.session.Session.{Session}
use Rattle.policy_core.proofs.reviews.numbers_with.Given as goal

abbrev pub invariant-loop-place : goal.invariant-loop-place
invariant-loop-place l = l.numbers.items ≡ map (λ (u : ℕ × Session). u.0) (filter (λ u. bytes_eq u.1.user l.user) (take l.place l.sessions.entries))
