use Rattle.std.proofs.Common.{◌≡◌, ◌≢◌, ℕ, zero, suc, ◌+◌, ◌-◌, ◌<◌, ◌≤◌, ◌⊎◌, ◌∙◌, sym, ap, subst, refl, arith, inl, inr, List, [], ◌∷◌, ◌++◌, length, slice_set, slice_index, slice_index_or, get_or, Contains, Bool, true, false, nat_lt, ◌||◌, ◌==◌, if◌then◌else◌}
use Rattle.std.proofs.lemmas.Bool.{ne_eqb, eq-eqb, eqb-true, cases_eq, cases_order, lt-ltb}
use Rattle.std.proofs.lemmas.List.{get_or_default, get_or-set_same, get_or-set_other, length-set, length_push}
use Rattle.std.proofs.lemmas.List.Folds.{Any-from_list_any, list_any_at}
use Rattle.plan_core.specs.Plan.{Changes, PlanState, AreApart, replaced, with_stamps}
use Rattle.plan_core.specs.Among.{is_among}
use Rattle.plan_core.specs.Commits.{IsChange, IsCurrentAt, IsLastCommit, AreStamps, last_commit, named_vehicles}
use Rattle.plan_core.proofs.Exchange.{length-with_stamps}

-- a set holds a vehicle exactly where the test says so
pub contains_from_among : (v : ℕ) (xs : List ℕ) → is_among v xs ≡ true → Contains xs v
contains_from_among v xs h =
    let some = Any-from_list_any (λ w. w == v) xs h in
    let same : some.1 ≡ v = eqb-true some.1 v some.4 in
    (some.0, some.2, get_or_default xs some.0 v some.1 some.2 ∙ some.3 ∙ same)

pub among_from_contains : (v : ℕ) (xs : List ℕ) → Contains xs v → is_among v xs ≡ true
among_from_contains v xs (k, h, e) = list_any_at (λ w. w == v) xs k v h (eq-eqb (get_or xs k v) v e)

-- the commits after the first one, counted on
change_later : (s : List ℕ) (ss : List (List ℕ)) (j k v : ℕ) → j ≡ k + 1 → IsChange ss k v → IsChange (s ∷ ss) j v
change_later s ss j k v e c =
    let low : 1 ≤ k = c.low in
    let high : k ≤ length ss = c.high in
    let step : suc (k - 1) ≡ j - 1 = omega arith in
    record { low = omega arith; high = omega arith; changed = subst (λ (n : ℕ). Contains (slice_index_or (s ∷ ss) n []) v) step c.changed }

change_earlier : (s : List ℕ) (ss : List (List ℕ)) (j k v : ℕ) → j ≡ k + 1 → 1 ≤ k → IsChange (s ∷ ss) j v → IsChange ss k v
change_earlier s ss j k v e low c =
    let high : j ≤ length (s ∷ ss) = c.high in
    let step : j - 1 ≡ suc (k - 1) = omega arith in
    record { low = low; high = omega arith; changed = subst (λ (n : ℕ). Contains (slice_index_or (s ∷ ss) n []) v) step c.changed }

-- where the rest has a last commit, it is one later
last_some : (v : ℕ) (s : List ℕ) (ss : List (List ℕ)) (m : ℕ) → 0 < m → IsLastCommit ss v m → IsLastCommit (s ∷ ss) v (m + 1)
last_some v s ss m some l = record {
  made = inr (change_later s ss (m + 1) m v refl (was v ss m some l.made));
  latest = λ k above c. after v s ss m k above l c;
}
  where
    was : (v : ℕ) (ss : List (List ℕ)) (m : ℕ) → 0 < m → (m ≡ 0) ⊎ IsChange ss m v → IsChange ss m v
    was v ss m some (inl e) = absurd (omega arith)
    was v ss m some (inr c) = c

    after : (v : ℕ) (s : List ℕ) (ss : List (List ℕ)) (m k : ℕ) → m + 1 < k → IsLastCommit ss v m → IsChange (s ∷ ss) k v → ⊥
    after v s ss m zero above l c = omega arith
    after v s ss m (suc k) above l c = l.latest k (omega arith) (change_earlier s ss (suc k) k v (omega arith) (omega arith) c)

-- where it has none, the first set decides
last_none : (v : ℕ) (s : List ℕ) (ss : List (List ℕ)) (b : Bool) → is_among v s ≡ b → IsLastCommit ss v 0 → IsLastCommit (s ∷ ss) v (if b then 1 else 0)
last_none v s ss true h l = record {
  made = inr (record { low = omega arith; high = omega arith; changed = contains_from_among v s h });
  latest = λ k above c. after v s ss k above l c;
}
  where
    after : (v : ℕ) (s : List ℕ) (ss : List (List ℕ)) (k : ℕ) → 1 < k → IsLastCommit ss v 0 → IsChange (s ∷ ss) k v → ⊥
    after v s ss zero above l c = omega arith
    after v s ss (suc k) above l c = l.latest k (omega arith) (change_earlier s ss (suc k) k v (omega arith) (omega arith) c)
last_none v s ss false h l = record {
  made = inl refl;
  latest = λ k above c. none v s ss k h l c above;
}
  where
    none : (v : ℕ) (s : List ℕ) (ss : List (List ℕ)) (k : ℕ) → is_among v s ≡ false → IsLastCommit ss v 0 → IsChange (s ∷ ss) k v → 0 < k → ⊥
    none v s ss zero h l c above = omega arith
    none v s ss (suc zero) h l c above = let yes = among_from_contains v s c.changed in let e : true ≡ false = sym yes ∙ h in cc
    none v s ss (suc (suc k)) h l c above = l.latest (suc k) (omega arith) (change_earlier s ss (suc (suc k)) (suc k) v (omega arith) (omega arith) c)

last_cons : (v : ℕ) (s : List ℕ) (ss : List (List ℕ)) (m : ℕ) (b : Bool) → is_among v s ≡ b → IsLastCommit ss v m
    → IsLastCommit (s ∷ ss) v (if nat_lt 0 m then m + 1 else if b then 1 else 0)
last_cons v s ss zero b h l = last_none v s ss b h l
last_cons v s ss (suc m) b h l = rw (lt-ltb 0 (suc m) (omega arith)) (last_some v s ss (suc m) (omega arith) l)

-- the number is that of the last commit
pub last_is : (commits : List (List ℕ)) (v : ℕ) → IsLastCommit commits v (last_commit v commits)
last_is [] v = record { made = inl refl; latest = λ k above c. omega (arith, c.low, c.high) }
last_is (s ∷ ss) v = last_cons v s ss (last_commit v ss) (is_among v s) refl (last_is ss v)

pub current_to : (commits : List (List ℕ)) (base v n : ℕ) → IsLastCommit commits v n → IsCurrentAt commits base v → n ≤ base
current_to commits base v n l current = split commits base v n l.made current (cases_order base n)
  where
    split : (commits : List (List ℕ)) (base v n : ℕ) → (n ≡ 0) ⊎ IsChange commits n v → IsCurrentAt commits base v → (base ≡ n) ⊎ ((base < n) ⊎ (n < base)) → n ≤ base
    split commits base v n made current (inl e) = omega arith
    split commits base v n made current (inr (inr h)) = omega arith
    split commits base v n (inl e) current (inr (inl h)) = omega arith
    split commits base v n (inr c) current (inr (inl h)) = absurd (current n h c)

pub current_from : (commits : List (List ℕ)) (base v n : ℕ) → IsLastCommit commits v n → n ≤ base → IsCurrentAt commits base v
current_from commits base v n l h k above c = l.latest k (omega arith) c

pub last_only : (commits : List (List ℕ)) (v n m : ℕ) → IsLastCommit commits v n → IsLastCommit commits v m → n ≡ m
last_only commits v n m l k =
    let up : n ≤ m = current_to commits m v n l k.latest in
    let down : m ≤ n = current_to commits n v m k l.latest in
    omega arith

-- one more commit
pub last_commit-push : (commits : List (List ℕ)) (changed : List ℕ) (v : ℕ)
    → last_commit v (commits ++ changed ∷ []) ≡ (if is_among v changed then length commits + 1 else last_commit v commits)
last_commit-push [] changed v = refl
last_commit-push (s ∷ ss) changed v =
    ap (λ (n : ℕ). if nat_lt 0 n then n + 1 else if is_among v s then 1 else 0) (last_commit-push ss changed v)
    ∙ pushed (is_among v changed) (is_among v s) (length ss) (last_commit v ss)
  where
    pushed : (b d : Bool) (n m : ℕ) → (if nat_lt 0 (if b then n + 1 else m) then (if b then n + 1 else m) + 1 else if d then 1 else 0)
        ≡ (if b then suc n + 1 else if nat_lt 0 m then m + 1 else if d then 1 else 0)
    pushed true d n m = grind arith
    pushed false d n m = refl

-- the stamps after some changes
stamps_at : (changes : Changes) (n : ℕ) (stamps : List ℕ) (v vehicles : ℕ) → AreApart vehicles changes → 1 ≤ v → v ≤ length stamps
    → slice_index (with_stamps changes n stamps) (v - 1) ≡ (if is_among v (named_vehicles changes) then n else slice_index stamps (v - 1))
stamps_at [] n stamps v vehicles apart low high = refl
stamps_at (c ∷ cs) n stamps v vehicles (one, top, once, apart) low high =
    let long : v ≤ length (slice_set stamps (c.0 - 1) n) = rw (length-set stamps (c.0 - 1) n) high in
    stamps_at cs n (slice_set stamps (c.0 - 1) n) v vehicles apart low long
    ∙ split (is_among v (named_vehicles cs)) c.0 v n stamps one low high (cases_eq c.0 v)
  where
    split : (b : Bool) (w v n : ℕ) (stamps : List ℕ) → 1 ≤ w → 1 ≤ v → v ≤ length stamps → (w ≡ v) ⊎ (w ≡ v → ⊥)
        → (if b then n else slice_index (slice_set stamps (w - 1) n) (v - 1)) ≡ (if w == v || b then n else slice_index stamps (v - 1))
    split true w v n stamps one low high (inl e) = rw (eq-eqb w v e) refl
    split true w v n stamps one low high (inr o) = rw (ne_eqb w v o) refl
    split false w v n stamps one low high (inl e) =
        rw (eq-eqb w v e) (subst (λ (u : ℕ). slice_index (slice_set stamps (u - 1) n) (v - 1) ≡ n) (sym e) (get_or-set_same stamps (v - 1) n 0 (omega arith)))
    split false w v n stamps one low high (inr o) =
        let away : v - 1 ≢ w - 1 = λ e. o (omega arith) in
        rw (ne_eqb w v o) (get_or-set_other stamps (w - 1) (v - 1) n 0 away)

pub stamps_more : (commits : List (List ℕ)) (plan : PlanState) (changes : Changes) → AreStamps commits plan → AreApart (length plan.stamps) changes
    → AreStamps (commits ++ named_vehicles changes ∷ []) (replaced changes plan)
stamps_more commits plan changes kept apart = record {
  version = ap (λ (n : ℕ). n + 1) kept.version ∙ sym (length_push commits (named_vehicles changes));
  stamps = λ v low high.
      let long : v ≤ length plan.stamps = rw (length-with_stamps changes (plan.version + 1) plan.stamps) at high in
      stamps_at changes (plan.version + 1) plan.stamps v (length plan.stamps) apart low long
      ∙ ap (λ (n : ℕ). if is_among v (named_vehicles changes) then n + 1 else slice_index plan.stamps (v - 1)) kept.version
      ∙ ap (λ (n : ℕ). if is_among v (named_vehicles changes) then length commits + 1 else n) (kept.stamps v low long)
      ∙ sym (last_commit-push commits (named_vehicles changes) v);
}
