-- What has not changed since an entry.
use Rattle.std.specs.Prelude.{◌≡◌, ℕ, ◌≤◌, List, length}
use mathlib.Core.List.{IsPrefix}
use Rattle.board_rules.specs.declared.call.Entry.{Entry}

-- after each beginning of the journal that has the first n entries the value is what it is after the whole
abbrev pub Stays : {V : Type 0} → (List Entry → V) → ℕ → List Entry → Type 0
Stays value n es = (xs : List Entry) → IsPrefix xs es → n ≤ length xs → value xs ≡ value es
