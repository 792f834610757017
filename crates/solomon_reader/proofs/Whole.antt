-- The parts of a file are read one after the other.
use Rattle.std.proofs.Common.{◌≡◌, ℕ, List, [], ◌∷◌, ◌++◌, Result, Ok, refl, sym, ap, ◌∙◌}
use Rattle.text_words.specs.Words.{words}
use Rattle.solomon_reader.specs.Cuts.{Numbered}
use Rattle.solomon_reader.specs.Fields.{trimmed}
use Rattle.solomon_reader.specs.declared.fault.Kind.TheVariants.{Vehicle, Fleet, Customer, Heading}
use Rattle.solomon_reader.specs.declared.fault.ReadFault.{ReadFault}
use Rattle.solomon_reader.specs.declared.fault.ReadFault.TheVariants.{NoMemory, At}
use Rattle.solomon_reader.specs.declared.instance.Node.{Node}
use Rattle.text_words.specs.Checks.{Check}
use Rattle.solomon_reader.specs.Checks.{Fault, checked, name_checks, heading_checks, fleet_checks, rows_checks, tail, checks, first_text, value_at, is_vehicle, is_fleet_heading, is_customer, is_node_heading}
use Rattle.solomon_reader.specs.Reading.{Fails, instance_of, all_of, nodes_of_rows}
use Rattle.solomon_reader.specs.Instances.{Plain}
use Rattle.solomon_reader.specs.Parts.{name_read, fleet_read, rows_read}
use Rattle.solomon_reader.proofs.Checking.{done, failed, held, fail_step, checked_more, checked_value, Fails_on}

-- the checks from each part on
abbrev pub from_heading : ℕ → List Numbered → List (Check Fault)
from_heading m lines = heading_checks Heading is_node_heading m lines ++ rows_checks m 0 (tail lines)

abbrev pub from_customer : ℕ → List Numbered → List (Check Fault)
from_customer m lines = heading_checks Customer is_customer m lines ++ from_heading m (tail lines)

abbrev pub from_fleet : ℕ → List Numbered → List (Check Fault)
from_fleet m lines = fleet_checks m lines ++ from_customer m (tail lines)

abbrev pub from_fleet_heading : ℕ → List Numbered → List (Check Fault)
from_fleet_heading m lines = heading_checks Fleet is_fleet_heading m lines ++ from_fleet m (tail lines)

abbrev pub from_vehicle : ℕ → List Numbered → List (Check Fault)
from_vehicle m lines = heading_checks Vehicle is_vehicle m lines ++ from_fleet_heading m (tail lines)

abbrev pub from_name : ℕ → List Numbered → List (Check Fault)
from_name m lines = name_checks m lines ++ from_vehicle m (tail lines)

pub start : (m : ℕ) (lines : List Numbered) → checked (from_name m lines) (instance_of lines) ≡ all_of m lines
unfolding checks
start m lines = refl

-- a part that holds is skipped
pub passed : {A : Type 0} (part rest : ℕ → List Numbered → List (Check Fault)) (m m' : ℕ) (lines lines' : List Numbered) (x y : A) (v : Plain) (whole : Result Plain Fault) → checked (part m lines ++ rest m (tail lines)) v ≡ whole → checked (part m lines) x ≡ Ok y → lines' ≡ tail lines → m' ≡ m → checked (rest m' lines') v ≡ whole
passed part rest m m' lines lines' x y v whole h e l k = rw (k, l) (sym (checked_more (part m lines) (rest m (tail lines)) x y v e) ∙ h)

-- a part that fails gives its fault
pub stopped : {A : Type 0} (bad : ReadFault) (part rest : ℕ → List Numbered → List (Check Fault)) (m : ℕ) (lines : List Numbered) (x : A) (v : Plain) (whole : Result Plain Fault) → checked (part m lines ++ rest m (tail lines)) v ≡ whole → Fails bad (checked (part m lines) x) → Fails bad whole
stopped bad part rest m lines x v whole h e = rw (← h) (Fails_on bad (part m lines) (rest m (tail lines)) x v e)

checked_any : {A B : Type 0} (cs : List (Check Fault)) (x y : A) (v : B) → checked cs x ≡ done y → checked cs v ≡ done v
checked_any [] x y v e = refl
checked_any (c ∷ cs) x y v e =
    let h = held c.holds (checked cs x) c.fault y e in
    rw h.0 (checked_any cs x y v h.1)

same_fault : {A B : Type 0} (cs : List (Check Fault)) (x : A) (v : B) (f : Fault) → checked cs x ≡ failed f → checked cs v ≡ failed f
same_fault [] x v f e = absurd cc
same_fault (c ∷ cs) x v f e = fail_step c.holds (checked cs x) (checked cs v) c.fault f e (λ h. same_fault cs x v f h)

any_fails : {A B : Type 0} (bad : ReadFault) (cs : List (Check Fault)) (x : A) (v : B) → Fails bad (checked cs x) → Fails bad (checked cs v)
any_fails NoMemory cs x v h = tt
any_fails (At k n) cs x v h = same_fault cs x v (record { kind = k; line = n }) h

pub stopped_last : (bad : ReadFault) (m : ℕ) (lines : List Numbered) (v : Plain) (whole : Result Plain Fault) → checked (rows_checks m 0 lines) v ≡ whole → Fails bad (rows_read m 0 lines) → Fails bad whole
stopped_last bad m lines v whole h e = rw (← h) (any_fails bad (rows_checks m 0 lines) (nodes_of_rows lines) v e)

abbrev plain : List ℕ → ℕ × ℕ → List Node → Plain
plain name fleet nodes = record { name = name; vehicles = fleet.0; capacity = fleet.1; nodes = nodes }

abbrev fleet_values : List Numbered → ℕ × ℕ
fleet_values lines = (value_at 0 (words (first_text lines)), value_at 1 (words (first_text lines)))

parts_of : (lines fleet rows : List Numbered) → fleet ≡ tail (tail (tail lines)) → rows ≡ tail (tail (tail fleet)) → instance_of lines ≡ plain (trimmed (first_text lines)) (fleet_values fleet) (nodes_of_rows rows)
unfolding instance_of
parts_of lines fleet rows f r = rw (r, f) refl

pub made : (m m' m'' : ℕ) (lines l1 l2 l3 l4 l5 l6 : List Numbered) (name : List ℕ) (fleet : ℕ × ℕ) (nodes : List Node) (whole : Result Plain Fault) → l1 ≡ tail lines → l2 ≡ tail l1 → l3 ≡ tail l2 → l4 ≡ tail l3 → l5 ≡ tail l4 → l6 ≡ tail l5 → name_read m lines ≡ Ok name → fleet_read m' l3 ≡ Ok fleet → rows_read m'' 0 l6 ≡ Ok nodes → checked (rows_checks m'' 0 l6) (instance_of lines) ≡ whole → whole ≡ Ok (record { name = name; vehicles = fleet.0; capacity = fleet.1; nodes = nodes })
made m m' m'' lines l1 l2 l3 l4 l5 l6 name fleet nodes whole e1 e2 e3 e4 e5 e6 n f r h =
    let at3 : l3 ≡ tail (tail (tail lines)) = e3 ∙ ap tail (e2 ∙ ap tail e1) in
    let at6 : l6 ≡ tail (tail (tail l3)) = e6 ∙ ap tail (e5 ∙ ap tail e4) in
    let all : checked (rows_checks m'' 0 l6) (instance_of lines) ≡ done (instance_of lines) = checked_any (rows_checks m'' 0 l6) (nodes_of_rows l6) nodes (instance_of lines) r in
    let same_name : trimmed (first_text lines) ≡ name = checked_value (name_checks m lines) (trimmed (first_text lines)) name n in
    let same_fleet : fleet_values l3 ≡ fleet = checked_value (fleet_checks m' l3) (fleet_values l3) fleet f in
    let same_nodes : nodes_of_rows l6 ≡ nodes = checked_value (rows_checks m'' 0 l6) (nodes_of_rows l6) nodes r in
    let first : instance_of lines ≡ plain name fleet nodes =
    parts_of lines l3 l6 at3 at6
    ∙ ap (λ (x : List ℕ). plain x (fleet_values l3) (nodes_of_rows l6)) same_name
    ∙ ap (λ (x : ℕ × ℕ). plain name x (nodes_of_rows l6)) same_fleet
    ∙ ap (λ (x : List Node). plain name fleet x) same_nodes in
    sym h ∙ all ∙ ap (done {A = Plain}) first
