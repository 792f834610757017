-- What a text says: an instance, or the first fault.
use Rattle.std.specs.Prelude.{◌≡◌, ℕ, List, map, Result, Ok, Err}
use Rattle.text_words.specs.Words.{words}
use Rattle.solomon_reader.specs.Cuts.{Numbered, full_left, number_after}
use Rattle.solomon_reader.specs.Fields.{trimmed}
use Rattle.solomon_reader.specs.Checks.{Fault, fault, checked, IsFirstFailedCheck, first_text, value_at, tail, checks}
use Rattle.solomon_reader.specs.Instances.{Plain}
use Rattle.solomon_reader.specs.declared.fault.ReadFault.{ReadFault}
use Rattle.solomon_reader.specs.declared.fault.ReadFault.TheVariants.{NoMemory, At}
use Rattle.solomon_reader.specs.declared.instance.Node.{Node}

-- What a function returned, seen by view, is what reading gives, unless memory ran out.
abbrev pub Fails : {Y : Type 0} → ReadFault → Result Y Fault → Type 0
Fails NoMemory read = Unit {0}
Fails (At k n) read = read ≡ fault k n

abbrev pub Gives : {X Y : Type 0} → (X → Y) → Result X ReadFault → Result Y Fault → Type 0
Gives view (Ok x) read = read ≡ Ok (view x)
Gives view (Err e) read = Fails e read

abbrev pub node_of : List (List ℕ) → Node
node_of fields = record { x = value_at 1 fields; y = value_at 2 fields; demand = value_at 3 fields; ready = value_at 4 fields; due = value_at 5 fields; service = value_at 6 fields }

abbrev pub nodes_of_rows : List Numbered → List Node
nodes_of_rows = map (λ line. node_of (words line.text))

-- the values of the fields, where all checks hold
unfoldable pub instance_of : List Numbered → Plain
instance_of lines =
    let fleet = tail (tail (tail lines)) in
    let rows = tail (tail (tail fleet)) in
    record { name = trimmed (first_text lines); vehicles = value_at 0 (words (first_text fleet)); capacity = value_at 1 (words (first_text fleet)); nodes = nodes_of_rows rows }

abbrev pub all_of : ℕ → List Numbered → Result Plain Fault
all_of missing lines = checked (checks missing lines) (instance_of lines)

-- what a text says
abbrev pub read_of : List ℕ → Result Plain Fault
read_of text = all_of (number_after 1 text) (full_left 1 text)

-- the fault is that of the first check that fails
abbrev pub IsFault : List ℕ → ReadFault → Type 0
IsFault text NoMemory = Unit {0}
IsFault text (At kind line) = IsFirstFailedCheck (checks (number_after 1 text) (full_left 1 text)) kind line
