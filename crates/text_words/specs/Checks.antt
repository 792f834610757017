-- What is checked of a text, in order, and the fault of the first check that fails.
use Rattle.std.specs.Prelude.{◌≡◌, Bool, true, false, List, [], ◌∷◌, ◌++◌, Option, None, Some, if◌then◌else◌}
use Rattle.std.specs.List.{AllByRecursion}

-- a check: the fault that it gives, and whether it holds
pub record Check (F : Type 0) : Type 0 where
  pub fault : F
  pub holds : Bool

abbrev pub check : {F : Type 0} → F → Bool → Check F
check f b = record { fault = f; holds = b }

-- every check holds
abbrev pub AllHold : {F : Type 0} → List (Check F) → Type 0
AllHold checks = AllByRecursion (λ c. c.holds ≡ true) checks

-- the first check that fails has that fault: every earlier one holds
pub record IsFirstFailed {F : Type 0} (checks : List (Check F)) (fault : F) : Type 0 where
  pub before : List (Check F)
  pub behind : List (Check F)
  pub whole : checks ≡ before ++ check fault false ∷ behind
  pub earlier : AllHold before

-- the same, computed
abbrev pub first_fault : {F : Type 0} → List (Check F) → Option F
first_fault [] = None
first_fault (c ∷ more) = if c.holds then first_fault more else Some c.fault
