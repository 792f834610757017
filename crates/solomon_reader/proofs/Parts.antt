-- The fields of a line are read one after the other.
use Rattle.std.proofs.Common.{◌≡◌, ℕ, List, [], ◌∷◌, length, map, get_or, take, Bor, Result, Ok, Err, Bool, true, false, ◌<◌, ◌≤◌, cond, eqb, refl, sym, subst, ap, ◌∙◌, arith}
use Rattle.std.specs.Prelude.{◌&&◌, ◌||◌, nat_lt, nat_le}
use Rattle.std.specs.Result.{IsErr, IsErrAnd}
use Rattle.std.proofs.lemmas.Bool.Decides.{nat_tests}
use Rattle.text_words.specs.Words.{words}
use Rattle.solomon_reader.specs.Cuts.{Numbered, numbered}
use Rattle.solomon_reader.specs.Fields.{is_field, field_value}
use Rattle.std.specs.List.{list_all}
use Rattle.solomon_reader.specs.declared.fault.Kind.{Kind}
use Rattle.solomon_reader.specs.declared.fault.Kind.TheVariants.{Fields, Number, Order, Window, Depot, Count}
use Rattle.solomon_reader.specs.declared.instance.Node.{Node}
use Rattle.solomon_reader.specs.Checks.{Fault, fault, checked, value_at, fleet_line_checks, row_checks}
use Rattle.solomon_reader.proofs.Booleans.{not_two, not_seven}
use Rattle.solomon_reader.specs.Parts.{◌>>=◌, number_field, need, fleet_of, fleet_read, row_fields_of, row_of}
use Rattle.solomon_reader.specs.declared.fault.ReadFault.{ReadFault}
use Rattle.solomon_reader.specs.declared.fault.ReadFault.TheVariants.{NoMemory, At}
use Rattle.solomon_reader.specs.Reading.{Fails, Gives, node_of}

-- ---- what fails first

fails_as : {Y : Type 0} (bad : ReadFault) (r s : Result Y Fault) → r ≡ s → Fails bad s → Fails bad r
fails_as {Y = Y} bad r s e h = subst (λ (x : Result Y Fault). Fails bad x) (sym e) h

pub step_bad : {A B : Type 0} (bad : ReadFault) (r : Result A Fault) (f : A → Result B Fault) → Fails bad r → Fails bad (r >>= f)
step_bad NoMemory r f h = tt
step_bad (At k n) r f h = rw h refl

pub after_ok : {A B : Type 0} (bad : ReadFault) (r : Result A Fault) (f : A → Result B Fault) (x : A) → r ≡ Ok x → Fails bad (f x) → Fails bad (r >>= f)
after_ok bad r f x e h = fails_as bad (r >>= f) (f x) (rw e refl) h

-- a fault that is passed on
pub fault_given : {X Y : Type 0} (view : X → Y) (r : Result X ReadFault) (bad : ReadFault) (read : Result Y Fault) → IsErr r × IsErrAnd r (λ e. e ≡ bad) → Fails bad read → Gives view r read
fault_given view (Ok x) bad read h k = absurd (cc)
fault_given view (Err e) bad read h k = subst (λ (f : ReadFault). Fails f read) (sym h.1) k

-- a field by its place
abbrev pub field_at : ℕ → List (Bor (List ℕ)) → ℕ → Result ℕ Fault
field_at n ws i = number_field (get_or ws i (record { ref_ptr = (0, 0); now = [] })).now n

-- ---- the fleet

-- a field by its test and its value
abbrev tested : Bool → ℕ → ℕ → Result ℕ Fault
tested b v n = cond b (Ok v) (fault Number n)

abbrev pair_of : ℕ → ℕ → Result (ℕ × ℕ) Fault
pair_of v w = Ok (v, w)

need_then : {A : Type 0} (b : Bool) (kind : Kind) (n : ℕ) (r : Result A Fault) → (need b kind n >>= λ _. r) ≡ cond b r (fault kind n)
need_then true kind n r = refl
need_then false kind n r = refl

two : (n v w : ℕ) (a b : Bool) → (tested a v n >>= λ x. tested b w n >>= λ y. need (nat_le 1 x && nat_le x 1000) Count n >>= λ _. pair_of x y) ≡ cond (a && (b && true)) (cond (nat_le 1 v && nat_le v 1000) (pair_of v w) (fault Count n)) (fault Number n)
two n v w true true = need_then (nat_le 1 v && nat_le v 1000) Count n (pair_of v w)
two n v w true false = refl
two n v w false b = refl

pub fleet_checked : (n : ℕ) (ws : List (List ℕ)) → fleet_of n ws ≡ checked (fleet_line_checks n ws) (value_at 0 ws, value_at 1 ws)
unfolding fleet_of
fleet_checked n [] = refl
fleet_checked n (x ∷ []) = refl
fleet_checked n (x ∷ y ∷ []) = two n (field_value x) (field_value y) (is_field x) (is_field y)
fleet_checked n (x ∷ y ∷ z ∷ more) = rw (not_two (length more)) refl

-- its two fields by their places
abbrev pair_values : ℕ → List (Bor (List ℕ)) → Result (ℕ × ℕ) Fault
pair_values n ws = field_at n ws 0 >>= λ v. field_at n ws 1 >>= λ w. need (nat_le 1 v && nat_le v 1000) Count n >>= λ _. pair_of v w

fleet_two : (n : ℕ) (ws : List (Bor (List ℕ))) → 2 ≤ length ws → length ws < 3 → fleet_of n (map (λ w. w.now) ws) ≡ pair_values n ws
unfolding fleet_of
fleet_two n [] le lt = absurd (omega arith)
fleet_two n (x ∷ []) le lt = absurd (omega arith)
fleet_two n (x ∷ y ∷ []) le lt = refl
fleet_two n (x ∷ y ∷ z ∷ more) le lt = absurd (omega arith)

pub fleet_fails : (bad : ReadFault) (n : ℕ) (ws : List (Bor (List ℕ))) → 2 ≤ length ws → length ws < 3 → Fails bad (pair_values n ws) → Fails bad (fleet_of n (map (λ w. w.now) ws))
fleet_fails bad n ws le lt h = fails_as bad (fleet_of n (map (λ w. w.now) ws)) (pair_values n ws) (fleet_two n ws le lt) h

in_range : (v : ℕ) → 1 ≤ v → v ≤ 1000 → (nat_le 1 v && nat_le v 1000) ≡ true
in_range v ge le = grind (arith, nat_tests)

pub fleet_made : (n v w : ℕ) (ws : List (Bor (List ℕ))) → 2 ≤ length ws → length ws < 3 → field_at n ws 0 ≡ Ok v → field_at n ws 1 ≡ Ok w → 1 ≤ v → v ≤ 1000 → fleet_of n (map (λ w. w.now) ws) ≡ Ok (v, w)
fleet_made n v w ws le lt e f ge most = fleet_two n ws le lt ∙ rw (e, f, in_range v ge most) refl

-- ---- a node row

seven_list : {A : Type 0} (ws : List A) (d : A) → length ws ≡ 7 → ws ≡ get_or ws 0 d ∷ get_or ws 1 d ∷ get_or ws 2 d ∷ get_or ws 3 d ∷ get_or ws 4 d ∷ get_or ws 5 d ∷ get_or ws 6 d ∷ []
seven_list [] d e = absurd (omega arith)
seven_list (a ∷ []) d e = absurd (omega arith)
seven_list (a ∷ b ∷ []) d e = absurd (omega arith)
seven_list (a ∷ b ∷ c ∷ []) d e = absurd (omega arith)
seven_list (a ∷ b ∷ c ∷ x ∷ []) d e = absurd (omega arith)
seven_list (a ∷ b ∷ c ∷ x ∷ y ∷ []) d e = absurd (omega arith)
seven_list (a ∷ b ∷ c ∷ x ∷ y ∷ z ∷ []) d e = absurd (omega arith)
seven_list (a ∷ b ∷ c ∷ x ∷ y ∷ z ∷ w ∷ []) d e = refl
seven_list (a ∷ b ∷ c ∷ x ∷ y ∷ z ∷ w ∷ v ∷ more) d e = absurd (omega arith)

-- the seven fields by their places
abbrev pub row_values : ℕ → List ℕ → List ℕ → List ℕ → List ℕ → List ℕ → List ℕ → List ℕ → Result (ℕ × Node) Fault
row_values n a b c d e f g =
    number_field a n >>= λ place. number_field b n >>= λ x. number_field c n >>= λ y. number_field d n >>= λ demand. number_field e n >>= λ ready. number_field f n >>= λ due. number_field g n >>= λ service. Ok (place, record { x = x; y = y; demand = demand; ready = ready; due = due; service = service })

pub row_seven : (n : ℕ) (ws : List (Bor (List ℕ))) (d : Bor (List ℕ)) → length ws ≡ 7 → row_fields_of n (map (λ w. w.now) ws) ≡ row_values n (get_or ws 0 d).now (get_or ws 1 d).now (get_or ws 2 d).now (get_or ws 3 d).now (get_or ws 4 d).now (get_or ws 5 d).now (get_or ws 6 d).now
unfolding row_fields_of
row_seven n ws d e = ap (λ (l : List (Bor (List ℕ))). row_fields_of n (map (λ w. w.now) l)) (seven_list ws d e)

abbrev values_at : ℕ → List (Bor (List ℕ)) → Result (ℕ × Node) Fault
values_at n ws =
    field_at n ws 0 >>= λ place. field_at n ws 1 >>= λ x. field_at n ws 2 >>= λ y. field_at n ws 3 >>= λ demand. field_at n ws 4 >>= λ ready. field_at n ws 5 >>= λ due. field_at n ws 6 >>= λ service. Ok (place, record { x = x; y = y; demand = demand; ready = ready; due = due; service = service })

pub row_fails : (bad : ReadFault) (n : ℕ) (ws : List (Bor (List ℕ))) → 7 ≤ length ws → length ws < 8 → Fails bad (values_at n ws) → Fails bad (row_fields_of n (map (λ w. w.now) ws))
row_fails bad n ws le lt h = fails_as bad (row_fields_of n (map (λ w. w.now) ws)) (values_at n ws) (row_seven n ws (record { ref_ptr = (0, 0); now = [] }) (omega arith)) h

pub row_made : (n : ℕ) (ws : List (Bor (List ℕ))) (place x y demand ready due service : ℕ) → 7 ≤ length ws → length ws < 8 → field_at n ws 0 ≡ Ok place → field_at n ws 1 ≡ Ok x → field_at n ws 2 ≡ Ok y → field_at n ws 3 ≡ Ok demand
    → field_at n ws 4 ≡ Ok ready → field_at n ws 5 ≡ Ok due → field_at n ws 6 ≡ Ok service
    → row_fields_of n (map (λ w. w.now) ws) ≡ Ok (place, record { x = x; y = y; demand = demand; ready = ready; due = due; service = service })
row_made n ws place x y demand ready due service le lt a b c d e f g = row_seven n ws (record { ref_ptr = (0, 0); now = [] }) (omega arith) ∙ rw (a, b, c, d, e, f, g) refl

abbrev row_pair : ℕ → ℕ → ℕ → ℕ → ℕ → ℕ → ℕ → Result (ℕ × Node) Fault
row_pair place x y demand ready due service = Ok (place, record { x = x; y = y; demand = demand; ready = ready; due = due; service = service })

seven : (n p q r s t u v : ℕ) (a b c d e f g : Bool) → (tested a p n >>= λ place. tested b q n >>= λ x. tested c r n >>= λ y. tested d s n >>= λ demand. tested e t n >>= λ ready. tested f u n >>= λ due. tested g v n >>= λ service. row_pair place x y demand ready due service) ≡ cond (a && (b && (c && (d && (e && (f && (g && true))))))) (row_pair p q r s t u v) (fault Number n)
seven n p q r s t u v true true true true true true true = refl
seven n p q r s t u v true true true true true true false = refl
seven n p q r s t u v true true true true true false g = refl
seven n p q r s t u v true true true true false f g = refl
seven n p q r s t u v true true true false e f g = refl
seven n p q r s t u v true true false d e f g = refl
seven n p q r s t u v true false c d e f g = refl
seven n p q r s t u v false b c d e f g = refl

fields_checked : (n : ℕ) (ws : List (List ℕ)) → row_fields_of n ws ≡ cond (eqb (length ws) 7) (cond (list_all is_field ws) (Ok (value_at 0 ws, node_of ws)) (fault Number n)) (fault Fields n)
unfolding row_fields_of
fields_checked n [] = refl
fields_checked n (a ∷ []) = refl
fields_checked n (a ∷ b ∷ []) = refl
fields_checked n (a ∷ b ∷ c ∷ []) = refl
fields_checked n (a ∷ b ∷ c ∷ d ∷ []) = refl
fields_checked n (a ∷ b ∷ c ∷ d ∷ e ∷ []) = refl
fields_checked n (a ∷ b ∷ c ∷ d ∷ e ∷ f ∷ []) = refl
fields_checked n (a ∷ b ∷ c ∷ d ∷ e ∷ f ∷ g ∷ []) = seven n (field_value a) (field_value b) (field_value c) (field_value d) (field_value e) (field_value f) (field_value g) (is_field a) (is_field b) (is_field c) (is_field d) (is_field e) (is_field f) (is_field g)
fields_checked n (a ∷ b ∷ c ∷ d ∷ e ∷ f ∷ g ∷ h ∷ more) = rw (not_seven (length more)) refl

abbrev node_done : Node → Result Node Fault
node_done node = Ok node

three : (o w d : Bool) (n : ℕ) (node : Node) → (need o Order n >>= λ _. need w Window n >>= λ _. need d Depot n >>= λ _. node_done node) ≡ cond o (cond w (cond d (node_done node) (fault Depot n)) (fault Window n)) (fault Order n)
three true true true n node = refl
three true true false n node = refl
three true false d n node = refl
three false w d n node = refl

abbrev row_after : ℕ → ℕ → ℕ × Node → Result Node Fault
row_after count n row = need (eqb row.0 count) Order n >>= λ _. need (nat_le row.1.ready row.1.due) Window n >>= λ _. need (nat_lt 0 count || eqb row.1.demand 0) Depot n >>= λ _. node_done row.1

abbrev fields_then : Bool → Bool → ℕ × Node → ℕ → Result (ℕ × Node) Fault
fields_then l f row n = cond l (cond f (Ok row) (fault Number n)) (fault Fields n)

joined : (count n : ℕ) (row : ℕ × Node) (a l f : Bool) → (need a Count n >>= λ _. fields_then l f row n >>= row_after count n) ≡ cond a (cond l (cond f (cond (eqb row.0 count) (cond (nat_le row.1.ready row.1.due) (cond (nat_lt 0 count || eqb row.1.demand 0) (node_done row.1) (fault Depot n)) (fault Window n)) (fault Order n)) (fault Number n)) (fault Fields n)) (fault Count n)
joined count n row true true true = three (eqb row.0 count) (nat_le row.1.ready row.1.due) (nat_lt 0 count || eqb row.1.demand 0) n row.1
joined count n row true true false = refl
joined count n row true false f = refl
joined count n row false l f = refl

pub row_checked : (count n : ℕ) (ws : List (List ℕ)) → row_of count n ws ≡ checked (row_checks count n ws) (node_of ws)
unfolding row_of
row_checked count n ws = ap (λ (r : Result (ℕ × Node) Fault). need (nat_lt count 1001) Count n >>= λ _. r >>= row_after count n) (fields_checked n ws) ∙ joined count n (value_at 0 ws, node_of ws) (nat_lt count 1001) (eqb (length ws) 7) (list_all is_field ws)

-- ---- the first words of a line decide, with one more than its part has

pub fleet_few : (n : ℕ) (ws : List (List ℕ)) → fleet_of n (take 3 ws) ≡ fleet_of n ws
unfolding fleet_of
fleet_few n [] = refl
fleet_few n (a ∷ []) = refl
fleet_few n (a ∷ b ∷ []) = refl
fleet_few n (a ∷ b ∷ c ∷ more) = refl

fields_few : (n : ℕ) (ws : List (List ℕ)) → row_fields_of n (take 8 ws) ≡ row_fields_of n ws
unfolding row_fields_of
fields_few n [] = refl
fields_few n (a ∷ []) = refl
fields_few n (a ∷ b ∷ []) = refl
fields_few n (a ∷ b ∷ c ∷ []) = refl
fields_few n (a ∷ b ∷ c ∷ d ∷ []) = refl
fields_few n (a ∷ b ∷ c ∷ d ∷ e ∷ []) = refl
fields_few n (a ∷ b ∷ c ∷ d ∷ e ∷ f ∷ []) = refl
fields_few n (a ∷ b ∷ c ∷ d ∷ e ∷ f ∷ g ∷ []) = refl
fields_few n (a ∷ b ∷ c ∷ d ∷ e ∷ f ∷ g ∷ h ∷ more) = refl

pub row_few : (count n : ℕ) (ws : List (List ℕ)) → row_of count n (take 8 ws) ≡ row_of count n ws
unfolding row_of
row_few count n ws = ap (λ (r : Result (ℕ × Node) Fault). need (nat_lt count 1001) Count n >>= λ _. r >>= row_after count n) (fields_few n ws)

pub fleet_line : (missing n : ℕ) (text : List ℕ) (given item : List (List ℕ)) (full more : List Numbered) → full ≡ numbered n text ∷ more → item ≡ take 3 (words text) → given ≡ item → fleet_of n given ≡ fleet_read missing full
fleet_line missing n text given item full more f w g = rw (f, g, w) (fleet_few n (words text) ∙ fleet_checked n (words text))
