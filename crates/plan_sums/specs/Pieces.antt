-- Texts and numbers, one behind another.
use Rattle.std.specs.Prelude.{ℕ, List, [], ◌∷◌, ◌++◌}
use Rattle.std.specs.Borrow.{Bor}
use Rattle.std.specs.Fmt.{decimal}

-- texts, each with a number behind it, and a last text
abbrev pub filled : List (Bor (List ℕ)) → List ℕ → List ℕ → List ℕ
filled [] numbers last = last
filled (text ∷ texts) [] last = last
filled (text ∷ texts) (number ∷ numbers) last = text.now ++ (decimal number ++ filled texts numbers last)
