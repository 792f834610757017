-- Notes behind the numbers of their lines.
use Rattle.std.specs.Prelude.{◌≡◌, ℕ, List}
use Rattle.denial_facts.specs.Numbered.{numbered_text}

-- a text is some note on that line
abbrev pub IsNumbered : ℕ → List ℕ → Type 0
IsNumbered number text = (note : List ℕ) × (text ≡ numbered_text number note)
