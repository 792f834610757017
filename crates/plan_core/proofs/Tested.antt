use Rattle.std.proofs.Common.{◌≡◌, ℕ, zero, suc, ◌-◌, ◌≤◌, ◌∙◌, sym, ap, subst, refl, arith, List, [], ◌∷◌, slice_get, get_or, Some, Bool, true, false, not, nat_le, ◌||◌}
use Rattle.std.specs.List.{list_any}
use Rattle.std.proofs.lemmas.Bool.{and_parts, not-true, leb-true}
use Rattle.std.proofs.lemmas.List.Folds.{list_any_at}
use Rattle.plan_core.specs.Plan.{IsPlan}
use Rattle.plan_core.specs.Among.{is_among}
use Rattle.plan_core.specs.Tested.{is_route, is_plan}
use Rattle.plan_core.proofs.LastCommits.{among_from_contains}
use Rattle.plan_core.proofs.Places.{contains_from_place}

-- what the test of one customer says
record IsFree (n c : ℕ) (cs : List ℕ) (later : List (List ℕ)) : Type 0 where
  low : 1 ≤ c
  high : c ≤ n
  once : is_among c cs ≡ false
  here : list_any (λ r. is_among c r) later ≡ false
  rest : is_route n cs later ≡ true

free_from_test : (n c : ℕ) (cs : List ℕ) (later : List (List ℕ)) → is_route n (c ∷ cs) later ≡ true → IsFree n c cs later
free_from_test n c cs later t =
    let a = and_parts (nat_le 1 c) _ t in
    let b = and_parts (nat_le c n) _ a.1 in
    let d = and_parts (not (is_among c cs)) _ b.1 in
    let e = and_parts (not (list_any (λ r. is_among c r) later)) _ d.1 in
    record {
      low = leb-true 1 c a.0;
      high = leb-true c n b.0;
      once = not-true (is_among c cs) d.0;
      here = not-true (list_any (λ r. is_among c r) later) e.0;
      rest = e.1;
    }

clash : (b : Bool) → b ≡ true → b ≡ false → ⊥
clash b h l = let e : true ≡ false = sym h ∙ l in cc

route_known : (n : ℕ) (cs : List ℕ) (later : List (List ℕ)) (i c : ℕ) → is_route n cs later ≡ true → slice_get cs i ≡ Some c → (1 ≤ c) × (c ≤ n)
route_known n [] later i c t e = absurd cc
route_known n (d ∷ cs) later zero c t e =
    let f = free_from_test n d cs later t in
    let same : d ≡ c = cc in
    (subst (λ (m : ℕ). 1 ≤ m) same f.low, subst (λ (m : ℕ). m ≤ n) same f.high)
route_known n (d ∷ cs) later (suc i) c t e = route_known n cs later i c (free_from_test n d cs later t).rest e

-- a customer of the route is on no later route
route_apart : (n : ℕ) (cs : List ℕ) (later : List (List ℕ)) (i c : ℕ) → is_route n cs later ≡ true → slice_get cs i ≡ Some c
    → list_any (λ r. is_among c r) later ≡ false
route_apart n [] later i c t e = absurd cc
route_apart n (d ∷ cs) later zero c t e =
    let same : d ≡ c = cc in
    subst (λ (m : ℕ). list_any (λ r. is_among m r) later ≡ false) same (free_from_test n d cs later t).here
route_apart n (d ∷ cs) later (suc i) c t e = route_apart n cs later i c (free_from_test n d cs later t).rest e

-- and at one place of it
route_alone : (n : ℕ) (cs : List ℕ) (later : List (List ℕ)) (i j c : ℕ) → is_route n cs later ≡ true → slice_get cs i ≡ Some c → slice_get cs j ≡ Some c → i ≡ j
route_alone n [] later i j c t e f = absurd cc
route_alone n (d ∷ cs) later zero zero c t e f = refl
route_alone n (d ∷ cs) later zero (suc j) c t e f =
    let same : d ≡ c = cc in
    absurd (clash (is_among c cs) (among_from_contains c cs (contains_from_place cs j c f)) (subst (λ (m : ℕ). is_among m cs ≡ false) same (free_from_test n d cs later t).once))
route_alone n (d ∷ cs) later (suc i) zero c t e f =
    let same : d ≡ c = cc in
    absurd (clash (is_among c cs) (among_from_contains c cs (contains_from_place cs i c e)) (subst (λ (m : ℕ). is_among m cs ≡ false) same (free_from_test n d cs later t).once))
route_alone n (d ∷ cs) later (suc i) (suc j) c t e f = ap (λ (m : ℕ). suc m) (route_alone n cs later i j c (free_from_test n d cs later t).rest e f)

plan_known : (n : ℕ) (routes : List (List ℕ)) (k i c : ℕ) → is_plan n routes ≡ true → slice_get (get_or routes k []) i ≡ Some c → (1 ≤ c) × (c ≤ n)
plan_known n [] k i c t e = absurd cc
plan_known n (r ∷ rs) zero i c t e = route_known n r rs i c (and_parts (is_route n r rs) _ t).0 e
plan_known n (r ∷ rs) (suc k) i c t e = plan_known n rs k i c (and_parts (is_route n r rs) _ t).1 e

-- a customer that stands on some route is found by the test
found_on : (routes : List (List ℕ)) (k i c : ℕ) → slice_get (get_or routes k []) i ≡ Some c → list_any (λ r. is_among c r) routes ≡ true
found_on [] k i c e = absurd cc
found_on (r ∷ rs) zero i c e = list_any_at (λ s. is_among c s) (r ∷ rs) zero [] (omega arith) (among_from_contains c r (contains_from_place r i c e))
found_on (r ∷ rs) (suc k) i c e = or_right (is_among c r) (list_any (λ s. is_among c s) rs) (found_on rs k i c e)
  where
    or_right : (b d : Bool) → d ≡ true → (b || d) ≡ true
    or_right true d h = refl
    or_right false d h = h

plan_alone : (n : ℕ) (routes : List (List ℕ)) (k l i j c : ℕ) → is_plan n routes ≡ true → slice_get (get_or routes k []) i ≡ Some c → slice_get (get_or routes l []) j ≡ Some c
    → (k ≡ l) × (i ≡ j)
plan_alone n [] k l i j c t e f = absurd cc
plan_alone n (r ∷ rs) zero zero i j c t e f = (refl, route_alone n r rs i j c (and_parts (is_route n r rs) _ t).0 e f)
plan_alone n (r ∷ rs) zero (suc l) i j c t e f =
    absurd (clash (list_any (λ s. is_among c s) rs) (found_on rs l j c f) (route_apart n r rs i c (and_parts (is_route n r rs) _ t).0 e))
plan_alone n (r ∷ rs) (suc k) zero i j c t e f =
    absurd (clash (list_any (λ s. is_among c s) rs) (found_on rs k i c e) (route_apart n r rs j c (and_parts (is_route n r rs) _ t).0 f))
plan_alone n (r ∷ rs) (suc k) (suc l) i j c t e f =
    let p = plan_alone n rs k l i j c (and_parts (is_route n r rs) _ t).1 e f in (ap (λ (m : ℕ). suc m) p.0, p.1)

-- a plan written out
pub plan_from_test : (n : ℕ) (routes : List (List ℕ)) → is_plan n routes ≡ true → IsPlan n routes
plan_from_test n routes t = record {
  known = λ c v p s. plan_known n routes (v - 1) (p - 1) c t s.found;
  alone = λ c v p w q s u.
      let same = plan_alone n routes (v - 1) (w - 1) (p - 1) (q - 1) c t s.found u.found in
      let one : v - 1 ≡ w - 1 = same.0 in
      let two : p - 1 ≡ q - 1 = same.1 in
      let low : 1 ≤ v = s.low in
      let here : 1 ≤ w = u.low in
      let first : 1 ≤ p = s.place in
      let second : 1 ≤ q = u.place in
      (omega arith, omega arith);
}
