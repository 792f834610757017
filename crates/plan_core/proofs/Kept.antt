use Rattle.std.proofs.Common.{◌≡◌, ℕ, ◌+◌, ◌-◌, ◌<◌, ◌≤◌, ◌∙◌, sym, subst, arith, List, [], ◌∷◌, ◌++◌, length, take, drop, slice_set, slice_index}
use Rattle.std.proofs.lemmas.List.{take_at}
use Rattle.plan_core.specs.Plan.{PlanState, Changes, IsPlan, with_routes, with_stamps, replaced}
use Rattle.plan_core.specs.Homes.{AreHomes, IsKept}
use Rattle.plan_core.proofs.Exchange.{length-with_routes, length-with_stamps}
use Rattle.plan_core.proofs.Settled.{get_or-set-le}

-- no stamp is above the number of the last commit
stamps-le : (changes : Changes) (n : ℕ) (stamps : List ℕ) (k m : ℕ) → n ≤ m → ((i : ℕ) → slice_index stamps i ≤ m) → slice_index (with_stamps changes n stamps) k ≤ m
stamps-le [] n stamps k m h old = old k
stamps-le (c ∷ cs) n stamps k m h old = stamps-le cs n (slice_set stamps (c.0 - 1) n) k m h (λ i. get_or-set-le stamps (c.0 - 1) n i m h (old i))

stamp_low : (stamps : List ℕ) (m i : ℕ) → ((v : ℕ) → slice_index stamps (v - 1) ≤ m) → slice_index stamps i ≤ m
stamp_low stamps m i old = let back : i + 1 - 1 ≡ i = omega arith in subst (λ (j : ℕ). slice_index stamps j ≤ m) back (old (i + 1))

-- a commit keeps what every plan keeps
pub replaced_kept : (changes : Changes) (plan : PlanState) (row after : List ℕ) → IsKept plan row → IsPlan plan.customers (with_routes changes plan.routes)
    → plan.version < 16777216 → AreHomes (with_routes changes plan.routes) after → length after ≡ length row → IsKept (replaced changes plan) after
replaced_kept changes plan row after kept sound room homes same = record {
  sound = sound;
  sizes = record {
    customers = kept.sizes.customers;
    vehicles = subst (λ (n : ℕ). n ≤ 1000) (sym (length-with_routes changes plan.routes)) kept.sizes.vehicles;
    stamps = length-with_stamps changes (plan.version + 1) plan.stamps ∙ kept.sizes.stamps ∙ sym (length-with_routes changes plan.routes);
    stamped = λ v. stamps-le changes (plan.version + 1) plan.stamps (v - 1) (plan.version + 1) (omega arith)
        (λ i. let low : slice_index plan.stamps i ≤ plan.version = stamp_low plan.stamps plan.version i kept.sizes.stamped in omega arith);
    version = omega arith;
  };
  counted = same ∙ kept.counted;
  homes = homes;
}

-- what is written through a slice of a vector
pub written : {A : Type 0} (n : ℕ) (xs ys : List A) → length xs ≡ n → take n (xs ++ drop (length xs) ys) ≡ xs
written n xs ys h = take_at xs (drop (length xs) ys) n h

pub kept_at : (customers version : ℕ) (routes others : List (List ℕ)) (stamps marks row after : List ℕ) → routes ≡ others → stamps ≡ marks → row ≡ after
    → IsKept (record { customers = customers; routes = others; version = version; stamps = marks }) after
    → IsKept (record { customers = customers; routes = routes; version = version; stamps = stamps }) row
kept_at customers version routes others stamps marks row after d e f k = rw (d, e, f) k
