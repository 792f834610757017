use Rattle.std.proofs.Common.{zero, suc, ◌≡◌, ◌≢◌, ℕ, ◌-◌, ◌≤◌, ◌⊎◌, ◌∙◌, sym, ap, subst, refl, arith, inl, inr, List, [], ◌∷◌, ◌++◌, length, slice_get, slice_index_or, Some, slice_set, slice_index, get_or, take, drop, drop-cons, add-one, append-nil, ◌+◌, ◌<◌, Contains, All}
use Rattle.std.specs.declared.sync.Arc.{Arc}
use Rattle.std.proofs.lemmas.Bool.{cases_eq}
use Rattle.std.proofs.lemmas.List.{append_assoc, drop_all, take_all, length-map, length-set, get_or-set_same, get_or-set_other}
use Rattle.std.proofs.lemmas.List.Elements.{Contains-get_or}
use Rattle.plan_core.specs.Plan.{Changes, StandsAt, IsPlan, IsNamed, AreApart, route_at, routes_of, changes_of, former, with_routes, with_stamps}
use Rattle.plan_core.specs.Homes.{AreHomes}
use Rattle.plan_core.proofs.Places.{contains_from_stands, stands_from_contains}

pub length-with_routes : (changes : Changes) (routes : List (List ℕ)) → length (with_routes changes routes) ≡ length routes
length-with_routes [] routes = refl
length-with_routes (c ∷ cs) routes = length-with_routes cs (slice_set routes (c.0 - 1) c.1) ∙ length-set routes (c.0 - 1) c.1

pub length-with_stamps : (changes : Changes) (n : ℕ) (stamps : List ℕ) → length (with_stamps changes n stamps) ≡ length stamps
length-with_stamps [] n stamps = refl
length-with_stamps (c ∷ cs) n stamps = length-with_stamps cs n (slice_set stamps (c.0 - 1) n) ∙ length-set stamps (c.0 - 1) n

-- vehicles that no change names keep their routes
pub route_at-others : (changes : Changes) (routes : List (List ℕ)) (v : ℕ) → AreApart (length routes) changes → 1 ≤ v → ¬ IsNamed changes v
    → route_at (with_routes changes routes) v ≡ route_at routes v
route_at-others [] routes v apart low out = refl
route_at-others (c ∷ cs) routes v (one, high, once, apart) low out =
    let other : v ≢ c.0 = λ e. out (inl e) in
    let away : v - 1 ≢ c.0 - 1 = λ e. other (omega arith) in
    let later : AreApart (length (slice_set routes (c.0 - 1) c.1)) cs = subst (λ (n : ℕ). AreApart n cs) (sym (length-set routes (c.0 - 1) c.1)) apart in
    route_at-others cs (slice_set routes (c.0 - 1) c.1) v later low (λ h. out (inr h))
    ∙ get_or-set_other routes (c.0 - 1) (v - 1) c.1 [] away

-- and the first named one has its new route
pub route_at-first : (v : ℕ) (route : List ℕ) (rest : Changes) (routes : List (List ℕ)) → AreApart (length routes) ((v, route) ∷ rest)
    → route_at (with_routes ((v, route) ∷ rest) routes) v ≡ route
route_at-first v route rest routes (one, high, once, apart) =
    let later : AreApart (length (slice_set routes (v - 1) route)) rest = subst (λ (n : ℕ). AreApart n rest) (sym (length-set routes (v - 1) route)) apart in
    route_at-others rest (slice_set routes (v - 1) route) v later one once
    ∙ get_or-set_same routes (v - 1) route [] (omega arith)

pub route_at-named : (changes : Changes) (routes : List (List ℕ)) (k : ℕ) (c : ℕ × List ℕ) → AreApart (length routes) changes → slice_get changes k ≡ Some c
    → route_at (with_routes changes routes) c.0 ≡ c.1
route_at-named [] routes k c apart e = absurd cc
route_at-named (d ∷ ds) routes zero c apart e =
    let same : d ≡ c = cc in
    subst (λ (x : ℕ × List ℕ). route_at (with_routes (d ∷ ds) routes) x.0 ≡ x.1) same (route_at-first d.0 d.1 ds routes apart)
route_at-named (d ∷ ds) routes (suc k) c (one, high, once, apart) e =
    route_at-named ds (slice_set routes (d.0 - 1) d.1) k c (subst (λ (n : ℕ). AreApart n ds) (sym (length-set routes (d.0 - 1) d.1)) apart) e

pub route_at-second : (v : ℕ) (route : List ℕ) (c : ℕ × List ℕ) (routes : List (List ℕ)) → AreApart (length routes) (c ∷ (v, route) ∷ [])
    → route_at (with_routes (c ∷ (v, route) ∷ []) routes) v ≡ route
route_at-second v route c routes (one, high, once, apart) =
    route_at-first v route [] (slice_set routes (c.0 - 1) c.1)
    (subst (λ (n : ℕ). AreApart n ((v, route) ∷ [])) (sym (length-set routes (c.0 - 1) c.1)) apart)

-- the customers of the vehicles that are done, or were never named, are recorded at their vehicles
abbrev pub AreDone : List (List ℕ) → Changes → List ℕ → Type 0
AreDone final rest homes = (c v p : ℕ) → StandsAt final c v p → ¬ IsNamed rest v → slice_index homes (c - 1) ≡ v

done_more : (n : ℕ) (final routes : List (List ℕ)) (v : ℕ) (route : List ℕ) (rest : Changes) (homes after : List ℕ)
    → IsPlan n final → AreApart (length routes) ((v, route) ∷ rest) → with_routes ((v, route) ∷ rest) routes ≡ final
    → AreDone final ((v, route) ∷ rest) homes
    → ((c : ℕ) → Contains route c → slice_index after (c - 1) ≡ v)
    → ((c : ℕ) → 1 ≤ c → ¬ Contains route c → slice_index after (c - 1) ≡ slice_index homes (c - 1))
    → (c w p : ℕ) → StandsAt final c w p → ¬ IsNamed rest w → (w ≡ v) ⊎ (w ≢ v) → slice_index after (c - 1) ≡ w
done_more n final routes v route rest homes after plan apart made done settled others c w p s out (inl e) =
    let own : route_at final v ≡ route = subst (λ (rs : List (List ℕ)). route_at rs v ≡ route) made (route_at-first v route rest routes apart) in
    let here : Contains (route_at final v) c = subst (λ (u : ℕ). Contains (route_at final u) c) e (contains_from_stands final c w p s) in
    settled c (subst (λ (r : List ℕ). Contains r c) own here) ∙ sym e
done_more n final routes v route rest homes after plan apart made done settled others c w p s out (inr e) =
    let own : route_at final v ≡ route = subst (λ (rs : List (List ℕ)). route_at rs v ≡ route) made (route_at-first v route rest routes apart) in
    let long : length final ≡ length routes = ap length (sym made) ∙ length-with_routes ((v, route) ∷ rest) routes in
    let away : ¬ Contains route c = λ h.
    let there = stands_from_contains final c v apart.0 (omega arith) (subst (λ (r : List ℕ). Contains r c) (sym own) h) in
    e (plan.alone c w p v there.0 s there.1).0 in
    others c (plan.known c w p s).0 away ∙ done c w p s (elim_out w v rest e out)
  where
    elim_out : (w v : ℕ) (rest : Changes) → w ≢ v → ¬ IsNamed rest w → ¬ ((w ≡ v) ⊎ IsNamed rest w)
    elim_out w v rest e out (inl h) = e h
    elim_out w v rest e out (inr h) = out h

pub done_step : (n : ℕ) (final routes : List (List ℕ)) (v : ℕ) (route : List ℕ) (rest : Changes) (homes after : List ℕ)
    → IsPlan n final → AreApart (length routes) ((v, route) ∷ rest) → with_routes ((v, route) ∷ rest) routes ≡ final
    → AreDone final ((v, route) ∷ rest) homes
    → ((c : ℕ) → Contains route c → slice_index after (c - 1) ≡ v)
    → ((c : ℕ) → 1 ≤ c → ¬ Contains route c → slice_index after (c - 1) ≡ slice_index homes (c - 1))
    → AreDone final rest after
done_step n final routes v route rest homes after plan apart made done settled others c w p s out =
    done_more n final routes v route rest homes after plan apart made done settled others c w p s out (cases_eq w v)

-- before the first change all customers that stay are recorded
pub done_none : (changes : Changes) (routes : List (List ℕ)) (homes : List ℕ) → AreApart (length routes) changes → AreHomes routes homes
    → AreDone (with_routes changes routes) changes homes
done_none changes routes homes apart kept c v p s out =
    let same : route_at (with_routes changes routes) v ≡ route_at routes v = route_at-others changes routes v apart s.low out in
    let long : length (with_routes changes routes) ≡ length routes = length-with_routes changes routes in
    let there = stands_from_contains routes c v s.low (omega (arith, s.high))
    (subst (λ (r : List ℕ). Contains r c) same (contains_from_stands (with_routes changes routes) c v p s)) in
    kept.at c v there.0 there.1

-- later changes are of vehicles that still have the routes that they had
pub former-later : (routes : List (List ℕ)) (v : ℕ) (route : List ℕ) (vehicles : ℕ) (rest : Changes) → 1 ≤ v → ¬ IsNamed rest v → AreApart vehicles rest
    → former (slice_set routes (v - 1) route) rest ≡ former routes rest
former-later routes v route n [] low out apart = refl
former-later routes v route n (c ∷ cs) low out (one, high, once, apart) =
    let away : c.0 - 1 ≢ v - 1 = λ e. out (inl (omega arith)) in
    ap (λ (r : List ℕ). (c.0, r) ∷ former (slice_set routes (v - 1) route) cs) (get_or-set_other routes (v - 1) (c.0 - 1) route [] away)
    ∙ ap (λ (xs : Changes). (c.0, route_at routes c.0) ∷ xs) (former-later routes v route n cs low (λ h. out (inr h)) apart)

pub gone_step : (front rest : Changes) (routes : List (List ℕ)) (v : ℕ) (route before : List ℕ) (all : Changes)
    → AreApart (length routes) ((v, route) ∷ rest) → before ≡ route_at routes v
    → front ++ former routes ((v, route) ∷ rest) ≡ all
    → (front ++ (v, before) ∷ []) ++ former (slice_set routes (v - 1) route) rest ≡ all
gone_step front rest routes v route before all (one, high, once, apart) e kept =
    append_assoc front ((v, before) ∷ []) (former (slice_set routes (v - 1) route) rest)
    ∙ ap (λ (xs : Changes). front ++ (v, before) ∷ xs) (former-later routes v route (length routes) rest one once apart)
    ∙ ap (λ (r : List ℕ). front ++ (v, r) ∷ former routes rest) e
    ∙ kept

-- between two exchanges: with the changes that are left, the routes and stamps become the promised ones
pub record IsExchanging (final : List (List ℕ)) (target : List ℕ) (version : ℕ) (rest : Changes) (routes : List (List ℕ)) (stamps row : List ℕ) : Type 0 where
  pub apart : AreApart (length routes) rest
  pub made : with_routes rest routes ≡ final
  pub stamped : with_stamps rest version stamps ≡ target
  pub done : AreDone final rest row
  pub known : (k : ℕ) → slice_index row k ≤ length routes

pub exchanging_first : (changes : Changes) (routes : List (List ℕ)) (version : ℕ) (stamps row : List ℕ) → AreApart (length routes) changes → AreHomes routes row
    → IsExchanging (with_routes changes routes) (with_stamps changes version stamps) version changes routes stamps row
exchanging_first changes routes version stamps row apart homes = record {
  apart = apart;
  made = refl;
  stamped = refl;
  done = done_none changes routes row apart homes;
  known = homes.known;
}

pub exchanging_step : (n : ℕ) (final : List (List ℕ)) (target : List ℕ) (version v : ℕ) (route : List ℕ) (rest : Changes) (routes : List (List ℕ)) (stamps row after : List ℕ)
    → IsPlan n final → IsExchanging final target version ((v, route) ∷ rest) routes stamps row
    → ((c : ℕ) → Contains route c → slice_index after (c - 1) ≡ v)
    → ((c : ℕ) → 1 ≤ c → ¬ Contains route c → slice_index after (c - 1) ≡ slice_index row (c - 1))
    → ((m : ℕ) → v ≤ m → ((k : ℕ) → slice_index row k ≤ m) → (k : ℕ) → slice_index after k ≤ m)
    → IsExchanging final target version rest (slice_set routes (v - 1) route) (slice_set stamps (v - 1) version) after
exchanging_step n final target version v route rest routes stamps row after plan x settled others known =
    let long : length (slice_set routes (v - 1) route) ≡ length routes = length-set routes (v - 1) route in
    record {
      apart = subst (λ (m : ℕ). AreApart m rest) (sym long) x.apart.3;
      made = x.made;
      stamped = x.stamped;
      done = done_step n final routes v route rest row after plan x.apart x.made x.done settled others;
      known = λ k. subst (λ (m : ℕ). slice_index after k ≤ m) (sym long) (known (length routes) x.apart.1 x.known k);
    }

-- the customers of a new route are known
pub known_next : (n : ℕ) (final : List (List ℕ)) (target : List ℕ) (version v : ℕ) (route : List ℕ) (rest : Changes) (routes : List (List ℕ)) (stamps row : List ℕ)
    → IsPlan n final → IsExchanging final target version ((v, route) ∷ rest) routes stamps row → All (λ c. (1 ≤ c) × (c ≤ n)) route
known_next n final target version v route rest routes stamps row plan x k d h =
    let own : route_at final v ≡ route = subst (λ (rs : List (List ℕ)). route_at rs v ≡ route) x.made (route_at-first v route rest routes x.apart) in
    let long : length final ≡ length routes = ap length (sym x.made) ∙ length-with_routes ((v, route) ∷ rest) routes in
    let top : v ≤ length routes = x.apart.1 in
    let here : Contains (route_at final v) (get_or route k d) = subst (λ (r : List ℕ). Contains r (get_or route k d)) (sym own) (Contains-get_or route k d h) in
    let there = stands_from_contains final (get_or route k d) v x.apart.0 (omega arith) here in
    plan.known (get_or route k d) v there.0 there.1

-- the next change is of a vehicle
pub next_vehicle : {Z : Type 0} (changes : List (ℕ × Arc (List ℕ) Z)) (k n : ℕ) (d : ℕ × Arc (List ℕ) Z) (final : List (List ℕ)) (target : List ℕ) (version : ℕ)
    (routes : List (Arc (List ℕ) Z)) (stamps row : List ℕ) → k < n → length changes ≡ n
    → IsExchanging final target version (changes_of (drop k changes)) (routes_of routes) stamps row
    → (1 ≤ (slice_index_or changes k d).0) × ((slice_index_or changes k d).0 - 1 < length routes)
next_vehicle {Z} changes k n d final target version routes stamps row h long x =
    let next : drop k changes ≡ slice_index_or changes k d ∷ drop (k + 1) changes = rw add-one (drop-cons changes k d (omega arith)) in
    let apart = subst (λ (xs : List (ℕ × Arc (List ℕ) Z)). AreApart (length (routes_of routes)) (changes_of xs)) next x.apart in
    let low : 1 ≤ (slice_index_or changes k d).0 = apart.0 in
    let high : (slice_index_or changes k d).0 ≤ length (routes_of routes) = apart.1 in
    let same = length-map routes (λ r. r.value) in
    (low, omega arith)

-- after the last change
pub exchanged : {Z : Type 0} (changes : List (ℕ × Arc (List ℕ) Z)) (k n : ℕ) (final : List (List ℕ)) (target : List ℕ) (version : ℕ) (routes : List (List ℕ)) (stamps row : List ℕ)
    → n ≤ k → length changes ≡ n → IsExchanging final target version (changes_of (drop k changes)) routes stamps row
    → IsExchanging final target version [] routes stamps row
exchanged {Z} changes k n final target version routes stamps row h long x =
    subst (λ (xs : List (ℕ × Arc (List ℕ) Z)). IsExchanging final target version (changes_of xs) routes stamps row) (drop_all k changes (omega arith)) x

pub homes_exchanged : (final : List (List ℕ)) (target : List ℕ) (version : ℕ) (routes : List (List ℕ)) (stamps row : List ℕ)
    → IsExchanging final target version [] routes stamps row → AreHomes routes row
homes_exchanged final target version routes stamps row x = record {
  at = λ c v p s. x.done c v p (subst (λ (rs : List (List ℕ)). StandsAt rs c v p) x.made s) (λ h. h);
  known = x.known;
}

pub gone_all : {Z : Type 0} (changes : List (ℕ × Arc (List ℕ) Z)) (k n : ℕ) (routes : List (List ℕ)) (all : Changes) → n ≤ k → length changes ≡ n
    → changes_of (take k changes) ++ former routes (changes_of (drop k changes)) ≡ all → changes_of changes ≡ all
gone_all {Z} changes k n routes all h long gone =
    sym (append-nil (changes_of changes))
    ∙ ap (λ (xs : List (ℕ × Arc (List ℕ) Z)). changes_of xs ++ []) (sym (take_all k changes (omega arith)))
    ∙ subst (λ (xs : List (ℕ × Arc (List ℕ) Z)). changes_of (take k changes) ++ former routes (changes_of xs) ≡ all) (drop_all k changes (omega arith)) gone
