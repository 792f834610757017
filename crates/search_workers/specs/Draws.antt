-- The words that a worker draws from.
use Rattle.std.specs.Prelude.{ℕ, zero, suc, ◌-◌}
use Rattle.rand_core.specs.Stream.{Stream, next_u32}
use Rattle.rand_core.specs.Steps.{stream_of, steps_u32}
use Rattle.rand_core.specs.Pcg32Seed.{pcg32_seed}
use Rattle.rand_pcg.specs.Lcg.{Lcg}
use Rattle.rand_pcg.specs.Pcg.{pcg32, pcg32_of_seed}

-- what is left of a stream behind its first n words
abbrev pub behind : ℕ → Stream → Stream
behind zero s = s
behind (suc n) s = (next_u32 (behind n s)).1

-- word n of a stream, counted from 1
abbrev pub word : ℕ → Stream → ℕ
word n s = (next_u32 (behind (n - 1) s)).0

-- all that a generator answers from now on
unfoldable pub stream_in : Lcg → Stream
stream_in g = stream_of (steps_u32 pcg32) g

-- all that the generator of a seed answers
unfoldable pub seeded : ℕ → Stream
seeded seed = stream_in (pcg32_of_seed (pcg32_seed 16 seed))
