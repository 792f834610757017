use Rattle.std.specs.Prelude.{◌≡◌, ℕ, ◌+◌, ◌*◌, ◌<◌, List, slice_index}

-- numbers for the ordered pairs of so many nodes, row by row, in which a pair has the number of the turned pair
abbrev pub AreSymmetric : ℕ → List ℕ → Type 0
AreSymmetric size entries = (i j : ℕ) → i < size → j < size → slice_index entries (i * size + j) ≡ slice_index entries (j * size + i)
