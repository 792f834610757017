-- How far apart two places on a line are.
use Rattle.std.specs.Prelude.{ℕ, ◌+◌, ◌-◌}

abbrev pub way : ℕ → ℕ → ℕ
way i j = i - j + (j - i)
