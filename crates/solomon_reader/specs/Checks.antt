-- What is checked of an instance file, in the order of the file.
use Rattle.std.specs.Prelude.{ℕ, ◌+◌, Bool, false, ◌&&◌, ◌||◌, List, [], ◌∷◌, ◌++◌, length, get_or, Result, Ok, Err, nat_lt, nat_le, ◌==◌, if◌then◌else◌, codes}
use Rattle.std.specs.List.{list_all}
use Rattle.limits.specs.declared.TheConstants.{MOST_NODES, MOST_VEHICLES}
use Rattle.text_words.specs.Words.{words}
use Rattle.text_words.specs.Checks.{Check, IsFirstFailed}
use Rattle.solomon_reader.specs.Cuts.{Numbered}
use Rattle.solomon_reader.specs.Fields.{is_field, field_value, is_keyword, trimmed, is_name}
use Rattle.solomon_reader.specs.declared.fault.Kind.{Kind}
use Rattle.solomon_reader.specs.declared.fault.Kind.TheVariants.{Name, Vehicle, Fleet, Customer, Heading, Fields, Number, Order, Window, Depot, Count, End}

-- a fault: its kind and its line
pub record Fault : Type 0 where
  pub kind : Kind
  pub line : ℕ

abbrev pub fault : {A : Type 0} → Kind → ℕ → Result A Fault
fault k n = Err (record { kind = k; line = n })

-- the check of that kind of a line
abbrev pub check : Kind → ℕ → Bool → Check Fault
check k n b = record { fault = record { kind = k; line = n }; holds = b }

-- the value, or the fault of the first check that fails
abbrev pub checked : {A : Type 0} → List (Check Fault) → A → Result A Fault
checked [] value = Ok value
checked (c ∷ more) value = if c.holds then checked more value else Err c.fault

-- the check of that kind on that line fails, and every earlier one holds
abbrev pub IsFirstFailedCheck : List (Check Fault) → Kind → ℕ → Type 0
IsFirstFailedCheck checks kind line = IsFirstFailed checks (record { kind = kind; line = line })

-- the bytes of the first line
abbrev pub first_text : List Numbered → List ℕ
first_text [] = []
first_text (line ∷ more) = line.text

-- ---- fields by their place in a line, from 0

abbrev pub value_at : ℕ → List (List ℕ) → ℕ
value_at i fields = field_value (get_or fields i [])

-- ---- the lines of headings

abbrev pub is_vehicle : List (List ℕ) → Bool
is_vehicle [] = false
is_vehicle (word ∷ []) = is_keyword (codes "VEHICLE") word
is_vehicle (word ∷ next ∷ more) = false

abbrev pub is_fleet_heading : List (List ℕ) → Bool
is_fleet_heading [] = false
is_fleet_heading (word ∷ []) = false
is_fleet_heading (word ∷ next ∷ []) = is_keyword (codes "NUMBER") word && is_keyword (codes "CAPACITY") next
is_fleet_heading (word ∷ next ∷ third ∷ more) = false

abbrev pub is_customer : List (List ℕ) → Bool
is_customer [] = false
is_customer (word ∷ []) = is_keyword (codes "CUSTOMER") word
is_customer (word ∷ next ∷ more) = false

-- the first field is CUST
abbrev pub is_node_heading : List (List ℕ) → Bool
is_node_heading [] = false
is_node_heading (word ∷ more) = is_keyword (codes "CUST") word

-- the words are the heading whose check has that kind
abbrev pub heading_test : Kind → List (List ℕ) → Bool
heading_test Vehicle words = is_vehicle words
heading_test Fleet words = is_fleet_heading words
heading_test Customer words = is_customer words
heading_test Heading words = is_node_heading words
heading_test _ words = false

-- ---- the checks of each part; the line of a part that is missing is given

abbrev pub name_checks : ℕ → List Numbered → List (Check Fault)
name_checks missing [] = check Name missing false ∷ []
name_checks missing (line ∷ more) = check Name line.number (is_name (trimmed line.text)) ∷ []

abbrev pub heading_checks : Kind → (List (List ℕ) → Bool) → ℕ → List Numbered → List (Check Fault)
heading_checks kind test missing [] = check kind missing false ∷ []
heading_checks kind test missing (line ∷ more) = check kind line.number (test (words line.text)) ∷ []

abbrev pub fleet_line_checks : ℕ → List (List ℕ) → List (Check Fault)
fleet_line_checks n fields =
    check Fleet n (length fields == 2)
    ∷ check Number n (list_all is_field fields)
    ∷ check Count n (nat_le 1 (value_at 0 fields) && nat_le (value_at 0 fields) MOST_VEHICLES)
    ∷ []

abbrev pub fleet_checks : ℕ → List Numbered → List (Check Fault)
fleet_checks missing [] = check Fleet missing false ∷ []
fleet_checks missing (line ∷ more) = fleet_line_checks line.number (words line.text)

-- the checks of a node row on line n, with this many rows before it
abbrev pub row_checks : ℕ → ℕ → List (List ℕ) → List (Check Fault)
row_checks count n fields =
    check Count n (nat_lt count MOST_NODES)
    ∷ check Fields n (length fields == 7)
    ∷ check Number n (list_all is_field fields)
    ∷ check Order n (value_at 0 fields == count)
    ∷ check Window n (nat_le (value_at 4 fields) (value_at 5 fields))
    ∷ check Depot n (nat_lt 0 count || (value_at 3 fields == 0))
    ∷ []

-- all node rows, of which there are at least two
abbrev pub rows_checks : ℕ → ℕ → List Numbered → List (Check Fault)
rows_checks missing count [] = check End missing (nat_le 2 count) ∷ []
rows_checks missing count (line ∷ more) = row_checks count line.number (words line.text) ++ rows_checks missing (count + 1) more

-- ---- the whole file

-- what follows the first line
abbrev pub tail : List Numbered → List Numbered
tail [] = []
tail (line ∷ more) = more

unfoldable pub checks : ℕ → List Numbered → List (Check Fault)
checks missing lines =
    let vehicle = tail lines in
    let fleet_heading = tail vehicle in
    let fleet = tail fleet_heading in
    let customer = tail fleet in
    let heading = tail customer in
    let rows = tail heading in
    name_checks missing lines
    ++ (heading_checks Vehicle is_vehicle missing vehicle
    ++ (heading_checks Fleet is_fleet_heading missing fleet_heading
    ++ (fleet_checks missing fleet
    ++ (heading_checks Customer is_customer missing customer
    ++ (heading_checks Heading is_node_heading missing heading
    ++ rows_checks missing 0 rows)))))
