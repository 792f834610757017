-- What is read is an instance, and an instance is read.
use Rattle.std.proofs.Common.{◌≡◌, ℕ, suc, ◌+◌, ◌<◌, ◌≤◌, List, [], ◌∷◌, length, map, Ok, true, false, eqb, refl, sym, ap, subst, ◌∙◌, arith}
use Rattle.std.specs.Prelude.{◌&&◌, ◌||◌, nat_lt, nat_le, codes}
use Rattle.std.specs.List.{list_all, AllByRecursion, AllZip}
use Rattle.std.specs.Str.{str_to_ascii_lowercase}
use Rattle.std.proofs.lemmas.Slice.Eq.{bytes_eq-Decides}
use Rattle.text_words.specs.Words.{words}
use Rattle.solomon_reader.specs.Cuts.{Numbered}
use Rattle.solomon_reader.specs.Fields.{is_field, field_value, trimmed, is_name, is_keyword, IsNumber, IsKeyword}
use Rattle.solomon_reader.specs.declared.instance.Node.{Node}
use Rattle.text_words.specs.Checks.{Check}
use Rattle.solomon_reader.specs.Checks.{Fault, value_at, row_checks, rows_checks, checks, is_vehicle, is_fleet_heading, is_customer, is_node_heading}
use Rattle.solomon_reader.specs.Instances.{Plain, IsRow, AreRows, BeginsWith, IsInstance}
use Rattle.solomon_reader.specs.Reading.{node_of, nodes_of_rows, instance_of, all_of}
use Rattle.solomon_reader.proofs.Booleans.{both, eq_from, le_from, lt_from, most_of, lt_test, same_again, depot_from, depot_test, not_two, not_seven}
use Rattle.solomon_reader.proofs.Checking.{done, checked_value}
use Rattle.solomon_reader.proofs.Faults.{all_hold, hold_all}
use Rattle.solomon_reader.proofs.NumberRelation.{number_form, value_of}
use Rattle.solomon_reader.proofs.NameRelation.{name_from, name_test, is_trimmed, trimmed_is}

abbrev Hold : List (Check Fault) → Type 0
Hold cs = AllByRecursion (λ c. c.holds ≡ true) cs

no : false ≡ true → ⊥
no e = cc

-- ---- what holds of the lines

keyword_from : (keyword word : List ℕ) → is_keyword keyword word ≡ true → IsKeyword keyword word
keyword_from keyword word e = (bytes_eq-Decides (str_to_ascii_lowercase word) (str_to_ascii_lowercase keyword)).0 e

vehicle_from : (ws : List (List ℕ)) → is_vehicle ws ≡ true → AllZip IsKeyword (codes "VEHICLE" ∷ []) ws
vehicle_from [] e = absurd (no e)
vehicle_from (w ∷ []) e = (keyword_from (codes "VEHICLE") w e, tt)
vehicle_from (w ∷ v ∷ ws) e = absurd (no e)

customer_from : (ws : List (List ℕ)) → is_customer ws ≡ true → AllZip IsKeyword (codes "CUSTOMER" ∷ []) ws
customer_from [] e = absurd (no e)
customer_from (w ∷ []) e = (keyword_from (codes "CUSTOMER") w e, tt)
customer_from (w ∷ v ∷ ws) e = absurd (no e)

fleet_words_from : (ws : List (List ℕ)) → is_fleet_heading ws ≡ true → AllZip IsKeyword (codes "NUMBER" ∷ codes "CAPACITY" ∷ []) ws
fleet_words_from [] e = absurd (no e)
fleet_words_from (w ∷ []) e = absurd (no e)
fleet_words_from (w ∷ v ∷ []) e =
    let h = both (is_keyword (codes "NUMBER") w) (is_keyword (codes "CAPACITY") v) e in
    (keyword_from (codes "NUMBER") w h.0, (keyword_from (codes "CAPACITY") v h.1, tt))
fleet_words_from (w ∷ v ∷ u ∷ ws) e = absurd (no e)

heading_from : (ws : List (List ℕ)) → is_node_heading ws ≡ true → BeginsWith (codes "CUST") ws
heading_from [] e = absurd (no e)
heading_from (w ∷ ws) e = (w, ws, refl, keyword_from (codes "CUST") w e)

numbers_from : (ws : List (List ℕ)) → list_all is_field ws ≡ true → AllZip IsNumber ws (map field_value ws)
numbers_from [] e = tt
numbers_from (w ∷ ws) e = let h = both (is_field w) (list_all is_field ws) e in (number_form w h.0, numbers_from ws h.1)

two_values : (ws : List (List ℕ)) → eqb (length ws) 2 ≡ true → map field_value ws ≡ value_at 0 ws ∷ value_at 1 ws ∷ []
two_values [] e = absurd (no e)
two_values (a ∷ []) e = absurd (no e)
two_values (a ∷ b ∷ []) e = refl
two_values (a ∷ b ∷ c ∷ ws) e = absurd (no (sym (not_two (length ws)) ∙ e))

seven_values : (ws : List (List ℕ)) → eqb (length ws) 7 ≡ true → map field_value ws ≡ value_at 0 ws ∷ value_at 1 ws ∷ value_at 2 ws ∷ value_at 3 ws ∷ value_at 4 ws ∷ value_at 5 ws ∷ value_at 6 ws ∷ []
seven_values [] e = absurd (no e)
seven_values (a ∷ []) e = absurd (no e)
seven_values (a ∷ b ∷ []) e = absurd (no e)
seven_values (a ∷ b ∷ c ∷ []) e = absurd (no e)
seven_values (a ∷ b ∷ c ∷ d ∷ []) e = absurd (no e)
seven_values (a ∷ b ∷ c ∷ d ∷ f ∷ []) e = absurd (no e)
seven_values (a ∷ b ∷ c ∷ d ∷ f ∷ g ∷ []) e = absurd (no e)
seven_values (a ∷ b ∷ c ∷ d ∷ f ∷ g ∷ h ∷ []) e = refl
seven_values (a ∷ b ∷ c ∷ d ∷ f ∷ g ∷ h ∷ i ∷ ws) e = absurd (no (sym (not_seven (length ws)) ∙ e))

row_from : (count n : ℕ) (ws : List (List ℕ)) → Hold (row_checks count n ws) → IsRow count (node_of ws) ws
row_from count n ws h =
    let values = seven_values ws h.1.0 in
    let place : value_at 0 ws ≡ count = eq_from (value_at 0 ws) count h.1.1.1.0 in
    let node = node_of ws in
    let same : map field_value ws ≡ count ∷ node.x ∷ node.y ∷ node.demand ∷ node.ready ∷ node.due ∷ node.service ∷ [] = values ∙ ap (λ (p : ℕ). p ∷ node.x ∷ node.y ∷ node.demand ∷ node.ready ∷ node.due ∷ node.service ∷ []) place in
    subst (λ (l : List ℕ). AllZip IsNumber ws l) same (numbers_from ws h.1.1.0)

pub record TookRows (count : ℕ) (lines : List Numbered) : Type 0 where
  pub each : AreRows count lines (nodes_of_rows lines)
  pub some : 2 ≤ count + length lines
  pub few : count ≤ 1001 → count + length lines ≤ 1001

rows_from : (missing count : ℕ) (lines : List Numbered) → Hold (rows_checks missing count lines) → TookRows count lines
rows_from missing count [] h = let l : 2 ≤ count = le_from 2 count h.0 in record { each = tt; some = omega (arith, l); few = λ k. omega (arith, k) }
rows_from missing count (line ∷ lines) h =
    let ws = words line.text in
    let more = rows_from missing (count + 1) lines h.1.1.1.1.1.1 in
    let room : count < 1001 = lt_from count 1001 h.0 in
    record {
      each = (row_from count line.number ws (h.0, (h.1.0, (h.1.1.0, (h.1.1.1.0, (h.1.1.1.1.0, (h.1.1.1.1.1.0, tt)))))), le_from (value_at 4 ws) (value_at 5 ws) h.1.1.1.1.0, depot_from count (value_at 3 ws) h.1.1.1.1.1.0, more.each);
      some = omega (arith, more.some);
      few = λ k. omega (arith, more.few (omega arith));
    }

length-nodes : (lines : List Numbered) → length (nodes_of_rows lines) ≡ length lines
length-nodes [] = refl
length-nodes (line ∷ lines) = ap suc (length-nodes lines)

pub lines_are : (missing : ℕ) (lines : List Numbered) → Hold (checks missing lines) → IsInstance lines (instance_of lines)
unfolding checks instance_of
lines_are missing [] h = absurd (no h.0)
lines_are missing (a ∷ []) h = absurd (no h.1.0)
lines_are missing (a ∷ b ∷ []) h = absurd (no h.1.1.0)
lines_are missing (a ∷ b ∷ c ∷ []) h = absurd (no h.1.1.1.0)
lines_are missing (a ∷ b ∷ c ∷ d ∷ []) h = absurd (no h.1.1.1.1.1.1.0)
lines_are missing (a ∷ b ∷ c ∷ d ∷ e ∷ []) h = absurd (no h.1.1.1.1.1.1.1.0)
lines_are missing (a ∷ b ∷ c ∷ d ∷ e ∷ f ∷ rows) h =
    let ws = words d.text in
    let range = both (nat_le 1 (value_at 0 ws)) (nat_le (value_at 0 ws) 1000) h.1.1.1.1.1.0 in
    let took = rows_from missing 0 rows h.1.1.1.1.1.1.1.1 in
    record {
      name_line = a;
      vehicle_line = b;
      fleet_heading = c;
      fleet_line = d;
      customer_line = e;
      node_heading = f;
      rows = rows;
      whole = refl;
      trimmed_name = is_trimmed a.text;
      name = name_from (trimmed a.text) h.0;
      vehicle = vehicle_from (words b.text) h.1.0;
      fleet_words = fleet_words_from (words c.text) h.1.1.0;
      fleet = subst (λ (l : List ℕ). AllZip IsNumber ws l) (two_values ws h.1.1.1.0) (numbers_from ws h.1.1.1.1.0);
      some_vehicles = le_from 1 (value_at 0 ws) range.0;
      few_vehicles = le_from (value_at 0 ws) 1000 range.1;
      customer = customer_from (words e.text) h.1.1.1.1.1.1.0;
      heading = heading_from (words f.text) h.1.1.1.1.1.1.1.0;
      nodes = took.each;
      some_nodes = omega (arith, took.some, length-nodes rows);
      few_nodes = omega (arith, took.few (omega arith), length-nodes rows);
    }

pub read_is_instance : (missing : ℕ) (lines : List Numbered) (i : Plain) → all_of missing lines ≡ Ok i → IsInstance lines i
read_is_instance missing lines i e =
    subst (λ (j : Plain). IsInstance lines j) (checked_value (checks missing lines) (instance_of lines) i e) (lines_are missing lines (all_hold (checks missing lines) (instance_of lines) i e))

-- ---- what is an instance is read

keyword_test : (keyword word : List ℕ) → IsKeyword keyword word → is_keyword keyword word ≡ true
keyword_test keyword word e = (bytes_eq-Decides (str_to_ascii_lowercase word) (str_to_ascii_lowercase keyword)).1 e

vehicle_test : (ws : List (List ℕ)) → AllZip IsKeyword (codes "VEHICLE" ∷ []) ws → is_vehicle ws ≡ true
vehicle_test [] h = absurd h
vehicle_test (w ∷ []) h = keyword_test (codes "VEHICLE") w h.0
vehicle_test (w ∷ v ∷ ws) h = absurd h.1

customer_test : (ws : List (List ℕ)) → AllZip IsKeyword (codes "CUSTOMER" ∷ []) ws → is_customer ws ≡ true
customer_test [] h = absurd h
customer_test (w ∷ []) h = keyword_test (codes "CUSTOMER") w h.0
customer_test (w ∷ v ∷ ws) h = absurd h.1

fleet_words_test : (ws : List (List ℕ)) → AllZip IsKeyword (codes "NUMBER" ∷ codes "CAPACITY" ∷ []) ws → is_fleet_heading ws ≡ true
fleet_words_test [] h = absurd h
fleet_words_test (w ∷ []) h = absurd h.1
fleet_words_test (w ∷ v ∷ []) h = rw (keyword_test (codes "NUMBER") w h.0, keyword_test (codes "CAPACITY") v h.1.0) refl
fleet_words_test (w ∷ v ∷ u ∷ ws) h = absurd h.1.1

heading_test : (ws : List (List ℕ)) → BeginsWith (codes "CUST") ws → is_node_heading ws ≡ true
heading_test ws h = rw h.2 (keyword_test (codes "CUST") h.0 h.3)

numbers_test : (ws : List (List ℕ)) (ns : List ℕ) → AllZip IsNumber ws ns → list_all is_field ws ≡ true
numbers_test [] [] h = refl
numbers_test [] (n ∷ ns) h = absurd h
numbers_test (w ∷ ws) [] h = absurd h
numbers_test (w ∷ ws) (n ∷ ns) h = rw ((value_of w n h.0).0, numbers_test ws ns h.1) refl

pub record HoldsFleet (ws : List (List ℕ)) (vehicles capacity : ℕ) : Type 0 where
  pub both_fields : eqb (length ws) 2 ≡ true
  pub first : value_at 0 ws ≡ vehicles
  pub second : value_at 1 ws ≡ capacity

fleet_holds : (ws : List (List ℕ)) (vehicles capacity : ℕ) → AllZip IsNumber ws (vehicles ∷ capacity ∷ []) → HoldsFleet ws vehicles capacity
fleet_holds [] vehicles capacity h = absurd h
fleet_holds (a ∷ []) vehicles capacity h = absurd h.1
fleet_holds (a ∷ b ∷ []) vehicles capacity h = record { both_fields = refl; first = (value_of a vehicles h.0).1; second = (value_of b capacity h.1.0).1 }
fleet_holds (a ∷ b ∷ c ∷ ws) vehicles capacity h = absurd h.1.1

pub record HoldsRow (count : ℕ) (node : Node) (ws : List (List ℕ)) : Type 0 where
  pub all_fields : eqb (length ws) 7 ≡ true
  pub place : value_at 0 ws ≡ count
  pub node_is : node_of ws ≡ node

row_holds : (count : ℕ) (node : Node) (ws : List (List ℕ)) → IsRow count node ws → HoldsRow count node ws
row_holds count node [] h = absurd h
row_holds count node (a ∷ []) h = absurd h.1
row_holds count node (a ∷ b ∷ []) h = absurd h.1.1
row_holds count node (a ∷ b ∷ c ∷ []) h = absurd h.1.1.1
row_holds count node (a ∷ b ∷ c ∷ d ∷ []) h = absurd h.1.1.1.1
row_holds count node (a ∷ b ∷ c ∷ d ∷ e ∷ []) h = absurd h.1.1.1.1.1
row_holds count node (a ∷ b ∷ c ∷ d ∷ e ∷ f ∷ []) h = absurd h.1.1.1.1.1.1
row_holds count node (a ∷ b ∷ c ∷ d ∷ e ∷ f ∷ g ∷ []) h = record {
  all_fields = refl;
  place = (value_of a count h.0).1;
  node_is = rw ((value_of b node.x h.1.0).1, (value_of c node.y h.1.1.0).1, (value_of d node.demand h.1.1.1.0).1, (value_of e node.ready h.1.1.1.1.0).1, (value_of f node.due h.1.1.1.1.1.0).1, (value_of g node.service h.1.1.1.1.1.1.0).1) refl;
}
row_holds count node (a ∷ b ∷ c ∷ d ∷ e ∷ f ∷ g ∷ i ∷ ws) h = absurd h.1.1.1.1.1.1.1

pub record HoldsRows (missing count : ℕ) (lines : List Numbered) (nodes : List Node) : Type 0 where
  pub all : Hold (rows_checks missing count lines)
  pub nodes_are : nodes_of_rows lines ≡ nodes

rows_hold : (missing count : ℕ) (lines : List Numbered) (nodes : List Node) → AreRows count lines nodes → 2 ≤ count + length nodes → count + length nodes ≤ 1001 → HoldsRows missing count lines nodes
rows_hold missing count [] [] h some few = record { all = (most_of 2 count (omega (arith, some)), tt); nodes_are = refl }
rows_hold missing count [] (node ∷ nodes) h some few = absurd h
rows_hold missing count (line ∷ lines) [] h some few = absurd h
rows_hold missing count (line ∷ lines) (node ∷ nodes) h some few =
    let ws = words line.text in
    let r = row_holds count node ws h.0 in
    let more = rows_hold missing (count + 1) lines nodes h.3 (omega (arith, some)) (omega (arith, few)) in
    let room : nat_lt count 1001 ≡ true = lt_test count 1001 (omega (arith, few)) in
    let order : eqb (value_at 0 ws) count ≡ true = rw r.place (same_again count) in
    let window : nat_le (node_of ws).ready (node_of ws).due ≡ true = subst (λ (n : Node). nat_le n.ready n.due ≡ true) (sym r.node_is) (most_of node.ready node.due h.1) in
    let depot : (nat_lt 0 count || eqb (node_of ws).demand 0) ≡ true = subst (λ (n : Node). (nat_lt 0 count || eqb n.demand 0) ≡ true) (sym r.node_is) (depot_test count node.demand h.2) in
    record {
      all = (room, (r.all_fields, (numbers_test ws _ h.0, (order, (window, (depot, more.all))))));
      nodes_are = ap (λ (n : Node). n ∷ nodes_of_rows lines) r.node_is ∙ ap (λ (l : List Node). node ∷ l) more.nodes_are;
    }

abbrev lines_of : {lines : List Numbered} {i : Plain} → IsInstance lines i → List Numbered
lines_of h = h.name_line ∷ h.vehicle_line ∷ h.fleet_heading ∷ h.fleet_line ∷ h.customer_line ∷ h.node_heading ∷ h.rows

pub instance_holds : (missing : ℕ) (lines : List Numbered) (i : Plain) (h : IsInstance lines i) → Hold (checks missing (lines_of h))
unfolding checks
instance_holds missing lines i h =
    let name : is_name (trimmed h.name_line.text) ≡ true = rw (trimmed_is h.name_line.text i.name h.trimmed_name) (name_test i.name h.name) in
    let ws = words h.fleet_line.text in
    let f = fleet_holds ws i.vehicles i.capacity h.fleet in
    let range : (nat_le 1 (value_at 0 ws) && nat_le (value_at 0 ws) 1000) ≡ true = rw (f.first, most_of 1 i.vehicles h.some_vehicles, most_of i.vehicles 1000 h.few_vehicles) refl in
    let rows = rows_hold missing 0 h.rows i.nodes h.nodes (omega (arith, h.some_nodes)) (omega (arith, h.few_nodes)) in
    (name, (vehicle_test (words h.vehicle_line.text) h.vehicle, (fleet_words_test (words h.fleet_heading.text) h.fleet_words, (f.both_fields, (numbers_test ws (i.vehicles ∷ i.capacity ∷ []) h.fleet, (range, (customer_test (words h.customer_line.text) h.customer, (heading_test (words h.node_heading.text) h.heading, rows.all))))))))

pub instance_is : (lines : List Numbered) (i : Plain) (h : IsInstance lines i) → instance_of (lines_of h) ≡ i
unfolding instance_of
instance_is lines i h =
    let f = fleet_holds (words h.fleet_line.text) i.vehicles i.capacity h.fleet in
    let rows = rows_hold 0 0 h.rows i.nodes h.nodes (omega (arith, h.some_nodes)) (omega (arith, h.few_nodes)) in
    rw (trimmed_is h.name_line.text i.name h.trimmed_name, f.first, f.second, rows.nodes_are) refl

pub instance_is_read : (missing : ℕ) (lines : List Numbered) (i : Plain) → IsInstance lines i → all_of missing lines ≡ Ok i
instance_is_read missing lines i h =
    ap (all_of missing) h.whole ∙ hold_all (checks missing (lines_of h)) (instance_of (lines_of h)) (instance_holds missing lines i h) ∙ ap (done {A = Plain}) (instance_is lines i h)
