-- The ends of words, by bits.
use Rattle.std.specs.Prelude.{◌≡◌, ℕ, ◌+◌, ◌<◌, ◌≤◌, true, false, List, length, slice_index}
use Rattle.std.specs.Int.{bit_at}
use Rattle.text_words.specs.Words.{ends_word}

-- no word ends from one place of a text up to another
abbrev pub EndsNoWord : List ℕ → ℕ → ℕ → Type 0
EndsNoWord text from to = (k : ℕ) → from ≤ k → k < to → ends_word (slice_index text k) ≡ false

-- a word ends at a place of a text that is not before another one
pub record IsWordEnd (text : List ℕ) (from i : ℕ) : Type 0 where
  pub low : from ≤ i
  pub high : i < length text
  pub end : ends_word (slice_index text i) ≡ true

-- the bits are those of places of a text, counted from a base, where a word ends; the first of them is the first end from a place on
pub record AreWordEnds (text : List ℕ) (from base bits : ℕ) : Type 0 where
  pub none : EndsNoWord text from base
  pub each : (k j : ℕ) → k < j → bit_at bits j ≡ 1 → from ≤ base + k → ends_word (slice_index text (base + k)) ≡ true → bit_at bits k ≡ 1
  pub only : (k : ℕ) → bit_at bits k ≡ 1 → IsWordEnd text from (base + k) × (k < 64)
