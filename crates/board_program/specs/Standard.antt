-- The board that an instance opens.
use Rattle.std.specs.Prelude.{◌≡◌, ℕ, []}
use Rattle.dimension_core.specs.Setting.{Setting}
use Rattle.board_rules.specs.History.{History}
use Rattle.board_text.specs.BoardSteps.{DeskState}
use Rattle.solomon_reader.specs.Instances.{Plain}
use Rattle.program_parts.specs.Network.{Sites}
use Rattle.program_parts.specs.Standard.{AreSitesOf, standard_setting}

-- the history of a board with so many desks, before its first entry
abbrev pub opening_with : Setting → ℕ → History
opening_with setting desks = record { opening = record { setting = setting; desks = desks }; entries = [] }

-- that of a board over some sites
abbrev pub opening_of : Sites → ℕ → History
opening_of s desks = opening_with (standard_setting s) desks

-- a history that an instance opens
pub record IsOpening (i : Plain) (desks : ℕ) (h : History) : Type 0 where
  pub sites : Sites
  pub of : AreSitesOf i sites
  pub opens : h ≡ opening_of sites desks

-- desk 1 of a board with that one desk, before its first turn
abbrev pub opened : Sites → DeskState
opened s = record { history = opening_of s 1; desk = 1; turn = 1 }
