-- What holds of a search that leaves the dimensions out.
use Rattle.std.proofs.Common.{◌≡◌, ℕ, false, Bool, subst}
use Rattle.move_core.specs.declared.moves.Move.{Move}
use Rattle.move_judge.specs.Allowed.{IsAllowed}
use Rattle.move_judge.specs.Scope.{scope}
use Rattle.best_moves.specs.Best.{Counts, IsBest, IsIdle}
use Rattle.best_moves.specs.Searched.{Searched, IsBestOf, IsIdleOf, IsSearch}

module _ (q : Searched) (is : IsSearch q) (unbounded : q.bounded ≡ false) where
  -- a move that counts does so without dimensions
  counts_without : (mv : Move) → Counts q.setting q.view q.skip q.v q.w mv → Counts (scope false q.setting) q.view q.skip q.v q.w mv
  counts_without mv c = record { near = c.near; possible = c.possible; allowed = is.laws.bounds.allowed q.setting q.view q.skip mv c.allowed; lower = c.lower }

  -- where no move counts without them, none does with them
  pub idle_with : IsIdleOf q → IsIdle q.setting q.view q.skip q.v q.w
  idle_with idle = λ mv c. (subst (λ (b : Bool). IsIdle (scope b q.setting) q.view q.skip q.v q.w) unbounded idle) mv (counts_without mv c)

  best_without : (mv : Move) (gain : ℕ) → IsBestOf q mv gain → IsBest (scope false q.setting) q.view q.skip q.v q.w mv gain
  best_without mv gain best = subst (λ (b : Bool). IsBest (scope b q.setting) q.view q.skip q.v q.w mv gain) unbounded best

  -- the best move without them is allowed without them, and the best one if they allow it
  pub allowed_without : (mv : Move) (gain : ℕ) → IsBestOf q mv gain → IsAllowed (scope false q.setting) q.view q.skip mv
  allowed_without mv gain best = (best_without mv gain best).counts.allowed

  pub best_with : (mv : Move) (gain : ℕ) → IsBestOf q mv gain → IsAllowed q.setting q.view q.skip mv → IsBest q.setting q.view q.skip q.v q.w mv gain
  best_with mv gain found allowed =
      let best = best_without mv gain found in
      record {
        counts = record { near = best.counts.near; possible = best.counts.possible; allowed = allowed; lower = best.counts.lower };
        gained = best.gained;
        least = λ other c. best.least other (counts_without other c);
        first = λ other c e. best.first other (counts_without other c) e;
      }
