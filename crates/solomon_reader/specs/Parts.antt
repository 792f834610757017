-- What each part of the reader answers, from the lines that are left.
use Rattle.std.specs.Prelude.{ℕ, Bool, ◌&&◌, ◌||◌, nat_lt, nat_le, List, [], ◌∷◌, Result, Ok, Err, ◌==◌, if◌then◌else◌}
use Rattle.limits.specs.declared.TheConstants.{MOST_NODES, MOST_VEHICLES}
use Rattle.text_words.specs.Words.{words}
use Rattle.solomon_reader.specs.Cuts.{Numbered}
use Rattle.solomon_reader.specs.Fields.{is_field, field_value, trimmed}
use Rattle.solomon_reader.specs.Checks.{Fault, fault, checked, first_text, value_at, name_checks, heading_checks, fleet_checks, rows_checks}
use Rattle.solomon_reader.specs.Reading.{nodes_of_rows}
use Rattle.solomon_reader.specs.declared.fault.Kind.{Kind}
use Rattle.solomon_reader.specs.declared.fault.Kind.TheVariants.{Fleet, Fields, Number, Order, Window, Depot, Count}
use Rattle.solomon_reader.specs.declared.instance.Node.{Node}

infixl 10 ◌>>=◌
abbrev pub ◌>>=◌ : {A B : Type 0} → Result A Fault → (A → Result B Fault) → Result B Fault
(Ok x) >>= f = f x
(Err e) >>= f = Err e

abbrev pub number_field : List ℕ → ℕ → Result ℕ Fault
number_field word n = if is_field word then Ok (field_value word) else fault Number n

abbrev pub need : Bool → Kind → ℕ → Result (Unit {0}) Fault
need test kind n = if test then Ok tt else fault kind n

unfoldable pub fleet_of : ℕ → List (List ℕ) → Result (ℕ × ℕ) Fault
fleet_of n (vehicles ∷ capacity ∷ []) = do
  v ← number_field vehicles n
  c ← number_field capacity n
  range ← need (nat_le 1 v && nat_le v MOST_VEHICLES) Count n
  Ok (v, c)
fleet_of n _ = fault Fleet n

unfoldable pub row_fields_of : ℕ → List (List ℕ) → Result (ℕ × Node) Fault
row_fields_of n (number ∷ x ∷ y ∷ demand ∷ ready ∷ due ∷ service ∷ []) = do
  place ← number_field number n
  x ← number_field x n
  y ← number_field y n
  demand ← number_field demand n
  ready ← number_field ready n
  due ← number_field due n
  service ← number_field service n
  Ok (place, record { x = x; y = y; demand = demand; ready = ready; due = due; service = service })
row_fields_of n _ = fault Fields n

unfoldable pub row_of : ℕ → ℕ → List (List ℕ) → Result Node Fault
row_of count n fields = do
  room ← need (nat_lt count MOST_NODES) Count n
  row ← row_fields_of n fields
  order ← need (row.0 == count) Order n
  window ← need (nat_le row.1.ready row.1.due) Window n
  depot ← need (nat_lt 0 count || (row.1.demand == 0)) Depot n
  Ok row.1

abbrev pub name_read : ℕ → List Numbered → Result (List ℕ) Fault
name_read missing lines = checked (name_checks missing lines) (trimmed (first_text lines))

abbrev pub heading_read : Kind → (List (List ℕ) → Bool) → ℕ → List Numbered → Result (Unit {0}) Fault
heading_read kind test missing lines = checked (heading_checks kind test missing lines) tt

abbrev pub fleet_read : ℕ → List Numbered → Result (ℕ × ℕ) Fault
fleet_read missing lines = checked (fleet_checks missing lines) (value_at 0 (words (first_text lines)), value_at 1 (words (first_text lines)))

abbrev pub rows_read : ℕ → ℕ → List Numbered → Result (List Node) Fault
rows_read missing count lines = checked (rows_checks missing count lines) (nodes_of_rows lines)
