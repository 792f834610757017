use Rattle.std.proofs.Common.{◌-◌, length-drop, get_or-drop, ◌≡◌, ◌≢◌, ◌∙◌, ℕ, zero, suc, ◌+◌, ◌<◌, ◌≤◌, ◌⊎◌, ◌↔◌, inl, inr, refl, sym, ap, subst, arith, List, [], ◌∷◌, ◌++◌, length, take, drop, slice_get, Option, Some, None, true, false, Contains, Bool, IsTrue, is_some, slice_index, slice_index_or, All}
use Rattle.std.proofs.lemmas.List.{get_or_default, get_or-take, length-take-le}
use Rattle.std.proofs.lemmas.List.Elements.{Contains-append_right, Contains-get_or, All-take, All-drop}
use Rattle.std.proofs.lemmas.Bool.{false≢true}
use Rattle.plan_core.specs.declared.touch.Touch.{Touch}
use Rattle.plan_core.specs.Plan.{Changes, StandsAt, IsPlan, IsNamed, route_at, with_routes}
use Rattle.plan_core.specs.Commits.{named_vehicles}
use Rattle.pin_core.specs.Pins.{PinState, StandsOn, DoPinsHold, IsFrontKept, AreFreezesKept, pin_of, front_of}
use Rattle.pin_core.specs.View.{ViewState}
use Rattle.move_core.specs.declared.moves.Move.{Move}
use Rattle.move_core.specs.Moves.{is_possible, changes_by, effect}
use Rattle.move_core.specs.Touched.{touches, touched_by}
use Rattle.move_core.specs.Changed.{first_change}
use Rattle.dimension_core.specs.Setting.{Setting}
use Rattle.route_parts.specs.View.{IsViewOf}
use Rattle.move_judge.specs.Allowed.{AreLoose}
use Rattle.move_judge.specs.Given.{Laws}

-- the effect of a move that is possible
pub has_effect : (n : ℕ) (routes : List (List ℕ)) (mv : Move) → is_possible n routes mv ≡ true → effect n routes mv ≡ Some (changes_by routes mv)
has_effect n routes mv can = rw can refl

module _ (law : Laws) where
  -- the freezes are kept exactly where each of two named vehicles changes first after its frozen front
  pub freezes_two : (n : ℕ) (s : PinState) (routes : List (List ℕ)) (mv : Move) (v w : ℕ) (r q : List ℕ) → IsPlan n routes → is_possible n routes mv ≡ true
      → changes_by routes mv ≡ (v, r) ∷ (w, q) ∷ [] → 1 ≤ v → v ≤ length routes → 1 ≤ w → w ≤ length routes
      → AreFreezesKept s routes (with_routes (changes_by routes mv) routes) ↔ (front_of s v < first_change mv v) × (front_of s w < first_change mv w)
  freezes_two n s routes mv v w r q plan can e lv hv lw hw =
      let has : effect n routes mv ≡ Some (changes_by routes mv) = has_effect n routes mv can in
      let apart = (law.names.changes n routes mv (changes_by routes mv) has).apart in
      let by = law.freezes s (changes_by routes mv) routes apart in
      let fv = law.fronts.front n routes mv (changes_by routes mv) v (front_of s v) plan has (subst (λ (cs : Changes). IsNamed cs v) (sym e) (inl refl)) in
      let fw = law.fronts.front n routes mv (changes_by routes mv) w (front_of s w) plan has (subst (λ (cs : Changes). IsNamed cs w) (sym e) (inr (inl refl))) in
      let named : named_vehicles (changes_by routes mv) ≡ v ∷ w ∷ [] = ap named_vehicles e in (
        λ kept. (fv.0 (kept v lv hv), fw.0 (kept w lw hw)),
        λ both. by.1 (λ j u f. each j u (subst (λ (vs : List ℕ). slice_get vs j ≡ Some u) named f) (fv.1 both.0) (fw.1 both.1)),
      )
    where
      each : (j u : ℕ) → slice_get (v ∷ w ∷ []) j ≡ Some u → IsFrontKept s routes (with_routes (changes_by routes mv) routes) v
          → IsFrontKept s routes (with_routes (changes_by routes mv) routes) w → IsFrontKept s routes (with_routes (changes_by routes mv) routes) u
      each zero u f kv kw = let same : v ≡ u = cc in subst (IsFrontKept s routes (with_routes (changes_by routes mv) routes)) same kv
      each (suc zero) u f kv kw = let same : w ≡ u = cc in subst (IsFrontKept s routes (with_routes (changes_by routes mv) routes)) same kw
      each (suc (suc j)) u f kv kw = absurd cc

  -- and where one does
  pub freezes_one : (n : ℕ) (s : PinState) (routes : List (List ℕ)) (mv : Move) (v : ℕ) (r : List ℕ) → IsPlan n routes → is_possible n routes mv ≡ true
      → changes_by routes mv ≡ (v, r) ∷ [] → 1 ≤ v → v ≤ length routes
      → AreFreezesKept s routes (with_routes (changes_by routes mv) routes) ↔ (front_of s v < first_change mv v)
  freezes_one n s routes mv v r plan can e lv hv =
      let has : effect n routes mv ≡ Some (changes_by routes mv) = has_effect n routes mv can in
      let apart = (law.names.changes n routes mv (changes_by routes mv) has).apart in
      let by = law.freezes s (changes_by routes mv) routes apart in
      let fv = law.fronts.front n routes mv (changes_by routes mv) v (front_of s v) plan has (subst (λ (cs : Changes). IsNamed cs v) (sym e) (inl refl)) in
      let named : named_vehicles (changes_by routes mv) ≡ v ∷ [] = ap named_vehicles e in (
        λ kept. fv.0 (kept v lv hv),
        λ h. by.1 (λ j u f. each j u (subst (λ (vs : List ℕ). slice_get vs j ≡ Some u) named f) (fv.1 h)),
      )
    where
      each : (j u : ℕ) → slice_get (v ∷ []) j ≡ Some u → IsFrontKept s routes (with_routes (changes_by routes mv) routes) v → IsFrontKept s routes (with_routes (changes_by routes mv) routes) u
      each zero u f kv = let same : v ≡ u = cc in subst (IsFrontKept s routes (with_routes (changes_by routes mv) routes)) same kv
      each (suc j) u f kv = absurd cc

  -- who goes from one vehicle to another where the pins hold before and after is not pinned
  pub loose_from_held : (n : ℕ) (s : PinState) (routes others : List (List ℕ)) (c v w : ℕ) → IsPlan n routes → IsPlan n others → DoPinsHold s routes → DoPinsHold s others
      → v ≢ w → StandsOn routes c v → StandsOn others c w → pin_of s c ≡ None
  loose_from_held n s routes others c v w plan after held holds o here there = split (pin_of s c) refl
    where
      low : 1 ≤ c
      low = (plan.known c v here.0 here.1).0

      split : (pin : Option ℕ) → pin_of s c ≡ pin → pin_of s c ≡ None
      split None e = e
      split (Some x) e =
          let one = held c low x e in
          let two = holds c low x e in
          let a : x ≡ v = (plan.alone c x one.0 v here.0 one.1 here.1).0 in
          let b : x ≡ w = (after.alone c x two.0 w there.0 two.1 there.1).0 in
          absurd (o (sym a ∙ b))

  -- the touch of each of some customers that stand one after the other
  slice_get-touches : (v p : ℕ) (cs : List ℕ) (k : ℕ) → k < length cs → slice_get (touches v p cs) k ≡ Some (record { vehicle = v; place = p + k; customer = slice_index cs k })
  slice_get-touches v p [] k h = absurd (omega arith)
  slice_get-touches v p (c ∷ cs) zero h =
      let none : p ≡ p + 0 = omega arith in
      ap (λ (n : ℕ). let t : Touch = record { vehicle = v; place = n; customer = c } in Some t) none
  slice_get-touches v p (c ∷ cs) (suc k) h =
      let next : p + 1 + k ≡ p + suc k = omega arith in
      slice_get-touches v (p + 1) cs k (omega arith) ∙ ap (λ (n : ℕ). let t : Touch = record { vehicle = v; place = n; customer = slice_index cs k } in Some t) next

  length-touches : (v p : ℕ) (cs : List ℕ) → length (touches v p cs) ≡ length cs
  length-touches v p [] = refl
  length-touches v p (c ∷ cs) = ap (λ (n : ℕ). suc n) (length-touches v (p + 1) cs)

  -- a customer is that of some touch
  abbrev pub IsTouchedBy : List Touch → ℕ → Type 0
  IsTouchedBy touched c = (k : ℕ) × ((t : Touch) × (slice_get touched k ≡ Some t) × (t.customer ≡ c))

  pub touched_among : (v p : ℕ) (cs : List ℕ) (c : ℕ) → Contains cs c → IsTouchedBy (touches v p cs) c
  touched_among v p cs c (k, h, e) =
      (k, (record { vehicle = v; place = p + k; customer = slice_index cs k }, slice_get-touches v p cs k h, get_or_default cs k 0 c h ∙ e))

  pub touched_left : (xs ys : List Touch) (c : ℕ) → IsTouchedBy xs c → IsTouchedBy (xs ++ ys) c
  touched_left [] ys c (k, (t, e, f)) = absurd cc
  touched_left (x ∷ xs) ys c (zero, (t, e, f)) = (zero, (t, e, f))
  touched_left (x ∷ xs) ys c (suc k, (t, e, f)) = let r = touched_left xs ys c (k, (t, e, f)) in (suc r.0, (r.1.0, r.1.1, r.1.2))

  pub touched_right : (xs ys : List Touch) (c : ℕ) → IsTouchedBy ys c → IsTouchedBy (xs ++ ys) c
  touched_right [] ys c h = h
  touched_right (x ∷ xs) ys c h = let r = touched_right xs ys c h in (suc r.0, (r.1.0, r.1.1, r.1.2))

  pub touched_in : (v p : ℕ) (cs : List ℕ) (k : ℕ) (t : Touch) → slice_get (touches v p cs) k ≡ Some t → Contains cs t.customer
  touched_in v p [] k t e = absurd cc
  touched_in v p (c ∷ cs) zero t e =
      let same : (record { vehicle = v; place = p; customer = c }) ≡ t = cc in
      subst (λ (u : Touch). Contains (c ∷ cs) u.customer) same (0, omega arith, refl)
  touched_in v p (c ∷ cs) (suc k) t e = Contains-append_right (c ∷ []) cs t.customer (touched_in v (p + 1) cs k t e)

  pub touched_two : (v p w q : ℕ) (cs ds : List ℕ) (k : ℕ) (t : Touch) → slice_get (touches v p cs ++ touches w q ds) k ≡ Some t → Contains cs t.customer ⊎ Contains ds t.customer
  touched_two v p w q [] ds k t e = inr (touched_in w q ds k t e)
  touched_two v p w q (c ∷ cs) ds zero t e =
      let same : (record { vehicle = v; place = p; customer = c }) ≡ t = cc in
      inl (subst (λ (u : Touch). Contains (c ∷ cs) u.customer) same (0, omega arith, refl))
  touched_two v p w q (c ∷ cs) ds (suc k) t e = more (touched_two v (p + 1) w q cs ds k t e)
    where
      more : Contains cs t.customer ⊎ Contains ds t.customer → Contains (c ∷ cs) t.customer ⊎ Contains ds t.customer
      more (inl a) = inl (Contains-append_right (c ∷ []) cs t.customer a)
      more (inr a) = inr a

  -- where no touched customer is pinned, the pins go on holding
  pub held_from_loose : (n : ℕ) (s : PinState) (routes : List (List ℕ)) (mv : Move) → is_possible n routes mv ≡ true → DoPinsHold s routes
      → ((k : ℕ) (t : Touch) → slice_get (touched_by routes mv) k ≡ Some t → pin_of s t.customer ≡ None) → DoPinsHold s (with_routes (changes_by routes mv) routes)
  held_from_loose n s routes mv can held loose c low v e =
      let old = held c low v e in split (law.untouched.stay n routes mv (changes_by routes mv) c v old.0 (has_effect n routes mv can) old.1)
    where
      split : ((q : ℕ) × StandsAt (with_routes (changes_by routes mv) routes) c v q) ⊎ ((k : ℕ) × ((t : Touch) × (slice_get (touched_by routes mv) k ≡ Some t) × (t.customer ≡ c)))
          → StandsOn (with_routes (changes_by routes mv) routes) c v
      split (inl (q, stands)) = (q, stands)
      split (inr (k, (t, found, same))) =
          let none : pin_of s c ≡ None = subst (λ (d : ℕ). pin_of s d ≡ None) same (loose k t found) in
          let both : None ≡ Some v = sym none ∙ e in
          absurd cc

  -- a customer of a list that is pinned, and a list of which none is
  pub not_loose : (s : PinState) (cs : List ℕ) (k c : ℕ) (b : Bool) → k < length cs → c ≡ slice_index cs k → b ≡ is_some (pin_of s c) → b ≡ true → IsTrue false ↔ AreLoose s cs
  not_loose s cs k c b h e t is = (λ never. absurd (false≢true never), λ loose. split (pin_of s (slice_index cs k)) (loose (slice_index cs k) (Contains-get_or cs k 0 h)) (sym (ap (λ (d : ℕ). is_some (pin_of s d)) e) ∙ sym t ∙ is))
    where
      split : (o : Option ℕ) → o ≡ None → is_some o ≡ true → IsTrue false
      split None n y = cc
      split (Some x) n y = absurd cc

  -- and of one whose tail begins no later
  pub not_loose_from : (s : PinState) (cs : List ℕ) (i k c : ℕ) (b : Bool) → k ≤ i → i < length cs → c ≡ slice_index cs i → b ≡ is_some (pin_of s c) → b ≡ true
      → AreLoose s (drop k cs) → ⊥
  not_loose_from s cs i k c b order h e t is loose =
      let back : k + (i - k) ≡ i = omega arith in
      let there : slice_index (drop k cs) (i - k) ≡ slice_index cs i = get_or-drop k cs (i - k) 0 ∙ ap (λ (n : ℕ). slice_index cs n) back in
      let long : i - k < length (drop k cs) = let d = length-drop k cs in omega arith in
      let wrong = (not_loose s (drop k cs) (i - k) c b long (e ∙ sym there) t is).1 loose in
      let both : false ≡ true = wrong in
      absurd cc

  -- and of a stretch
  pub not_loose_within : (s : PinState) (cs : List ℕ) (i k n c : ℕ) (b : Bool) → k < n → i + n ≤ length cs → c ≡ slice_index cs (i + k) → b ≡ is_some (pin_of s c) → b ≡ true
      → AreLoose s (take n (drop i cs)) → ⊥
  not_loose_within s cs i k n c b h fits e t is loose =
      let rest = length-drop i cs in
      let long : length (take n (drop i cs)) ≡ n = length-take-le n (drop i cs) (omega arith) in
      let there : slice_index (take n (drop i cs)) k ≡ slice_index cs (i + k) = get_or-take n (drop i cs) k 0 h ∙ get_or-drop i cs k 0 in
      let wrong = (not_loose s (take n (drop i cs)) k c b (omega arith) (e ∙ sym there) t is).1 loose in
      let both : false ≡ true = wrong in
      absurd cc

  pub loose_one : (s : PinState) (c : ℕ) (b : Bool) → b ≡ is_some (pin_of s c) → b ≡ false → pin_of s c ≡ None
  loose_one s c b t e = split (pin_of s c) (sym t ∙ e)
    where
      split : (o : Option ℕ) → is_some o ≡ false → o ≡ None
      split None n = refl
      split (Some x) n = let both : true ≡ false = n in absurd cc

  pub all_loose : (s : PinState) (cs : List ℕ) (k : ℕ) → length cs ≤ k → ((i : ℕ) → i < k → pin_of s (slice_index cs i) ≡ None) → IsTrue true ↔ AreLoose s cs
  all_loose s cs k h each = (
    λ _ c inside.
        let i : inside.0 < length cs = inside.1 in
        let e : slice_index cs inside.0 ≡ c = get_or_default cs inside.0 0 c inside.1 ∙ inside.2 in
        subst (λ (d : ℕ). pin_of s d ≡ None) e (each inside.0 (omega arith)),
    λ loose. refl,
  )

  -- a stretch, and a tail, of which none is pinned
  pub loose_within : (s : PinState) (cs : List ℕ) (i n : ℕ) → i + n ≤ length cs → ((k : ℕ) → k < n → pin_of s (slice_index cs (i + k)) ≡ None) → AreLoose s (take n (drop i cs))
  loose_within s cs i n fits each =
      let rest = length-drop i cs in
      let long : length (take n (drop i cs)) ≡ n = length-take-le n (drop i cs) (omega arith) in
      (all_loose s (take n (drop i cs)) n (omega arith)
      (λ k h. subst (λ (d : ℕ). pin_of s d ≡ None) (sym (get_or-take n (drop i cs) k 0 h ∙ get_or-drop i cs k 0)) (each k h))).0 refl

  pub loose_behind : (s : PinState) (cs : List ℕ) (k : ℕ) → ((i : ℕ) → i < length cs → k ≤ i → pin_of s (slice_index cs i) ≡ None) → AreLoose s (drop k cs)
  loose_behind s cs k each =
      let rest = length-drop k cs in
      (all_loose s (drop k cs) (length cs - k) (omega arith)
      (λ i h. subst (λ (d : ℕ). pin_of s d ≡ None) (sym (get_or-drop k cs i 0)) (each (k + i) (omega arith) (omega arith)))).0 refl

  abbrev pub AreKnown : ℕ → List ℕ → Type 0
  AreKnown n = All (λ c. (1 ≤ c) × (c ≤ n))

  pub back_known : (n : ℕ) (r xs : List ℕ) (i : ℕ) → AreKnown n r → xs ≡ drop i r → AreKnown n xs
  back_known n r xs i all e = subst (λ (ys : List ℕ). AreKnown n ys) (sym e) (All-drop (λ c. (1 ≤ c) × (c ≤ n)) i r all)

  pub stretch_known : (n : ℕ) (r xs : List ℕ) (i m : ℕ) → AreKnown n r → xs ≡ take m (drop i r) → AreKnown n xs
  stretch_known n r xs i m all e =
      subst (λ (ys : List ℕ). AreKnown n ys) (sym e) (All-take (λ c. (1 ≤ c) × (c ≤ n)) m (drop i r) (All-drop (λ c. (1 ≤ c) × (c ≤ n)) i r all))

  pub at_most : (n : ℕ) (xs : List ℕ) → AreKnown n xs → All (λ c. c ≤ n) xs
  at_most n xs all k d h = (all k d h).1

  pub known_within : (n m : ℕ) (xs : List ℕ) → n ≡ m → AreKnown n xs → All (λ c. (1 ≤ c) × (c ≤ m)) xs
  known_within n m xs e all k d h = let a = all k d h in (a.0, subst (λ (z : ℕ). slice_index_or xs k d ≤ z) e a.1)

  -- the routes of a view
  pub view_known : (s : Setting) (view : ViewState) (v : ℕ) → IsViewOf s view → 1 ≤ v → v ≤ length view.routes → AreKnown s.customers (route_at view.routes v)
  view_known s view v sound low high = law.known.known s.customers view.routes v sound.plan

  -- a customer who stands on a route of a view
  pub short_of : (s : Setting) (view : ViewState) (v : ℕ) (xs : List ℕ) → IsViewOf s view → s.customers ≤ 1000 → xs ≡ route_at view.routes v → length xs ≤ 1000
  short_of s view v xs sound few e = subst (λ (ys : List ℕ). length ys ≤ 1000) (sym e) (most (length (route_at view.routes v)) s.customers (law.known.short s.customers view.routes v sound.plan) few)
    where
      most : (a b : ℕ) → a ≤ b → b ≤ 1000 → a ≤ 1000
      most a b h few = omega arith

  pub standing_known : (s : Setting) (view : ViewState) (v i : ℕ) (xs : List ℕ) → IsViewOf s view → 1 ≤ v → v ≤ length view.routes → xs ≡ route_at view.routes v → i < length xs
      → (1 ≤ slice_index xs i) × (slice_index xs i ≤ length view.pinned)
  standing_known s view v i xs sound low high e h =
      let known : AreKnown s.customers xs = subst (λ (ys : List ℕ). AreKnown s.customers ys) (sym e) (view_known s view v sound low high) in
      known_within s.customers (length view.pinned) xs (sym sound.pinned) known i 0 h
