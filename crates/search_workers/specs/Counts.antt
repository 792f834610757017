-- How rounds are counted.
use Rattle.std.specs.Prelude.{◌≡◌, List}
use Rattle.search_workers.specs.declared.tally.Tally.{Tally}
use Rattle.search_workers.specs.Kinds.{Round, ended, is_committed, is_denied, is_refused, is_idle}

-- the tally counts these rounds
pub record AreCounted (rounds : List Round) (tally : Tally) : Type 0 where
  pub committed_is : tally.committed ≡ ended is_committed rounds
  pub denied_is : tally.denied ≡ ended is_denied rounds
  pub refused_is : tally.refused ≡ ended is_refused rounds
  pub idle_is : tally.idle ≡ ended is_idle rounds
