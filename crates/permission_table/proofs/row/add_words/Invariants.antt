use Rattle.std.proofs.Common.{◌≡◌, ◌<◌, ◌≤◌, ℕ, length, get_or}
use Rattle.std.specs.Prelude.{bit_or}
use Rattle.permission_table.proofs.row.add_words.Given as goal

abbrev pub invariant-loop-place : goal.invariant-loop-place
invariant-loop-place l = record {
  order : l.fn.places.0 ≤ l.place;
  within : l.place ≤ l.fn.places.1;
  inside : (k : ℕ) → l.fn.places.0 ≤ k → k < l.place → get_or l.words k 0 ≡ bit_or (get_or l.initial.words k 0) (get_or l.other k 0);
  below : (k : ℕ) → k < l.fn.places.0 → get_or l.words k 0 ≡ get_or l.initial.words k 0;
  above : (k : ℕ) → l.place ≤ k → get_or l.words k 0 ≡ get_or l.initial.words k 0;
  whole : length l.words ≡ 32;
}
