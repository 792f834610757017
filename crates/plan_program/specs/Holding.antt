-- Text that is held before it is written.
use Rattle.std.specs.Prelude.{◌≡◌, ℕ, List, ◌++◌, Option}
use Rattle.std.specs.Io.KnownBytes.{Appends}

-- some of a text was written, and the rest of it is held
pub record IsHeld (was now : Option (List ℕ)) (held all : List ℕ) : Type 0 where
  pub done : List ℕ
  pub appended : Appends was now done
  pub whole : done ++ held ≡ all
