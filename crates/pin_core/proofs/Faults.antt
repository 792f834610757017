use Rattle.std.proofs.Common.{◌≡◌, ℕ, ◌<◌, ◌≤◌, ◌⊎◌, ◌∙◌, sym, subst, inl, inr, List, length, slice_get, Some, Bool, true, false, All}
use Rattle.std.proofs.lemmas.Bool.{cases_order}
use Rattle.std.proofs.lemmas.Option.{slice_get_within, get_or_from_slice_get}
use Rattle.plan_core.specs.declared.touch.Touch.{Touch}
use Rattle.plan_core.specs.Plan.{Changes, AreApart}
use Rattle.plan_core.specs.Commits.{named_vehicles}
use Rattle.pin_core.specs.declared.fault.PinFault.{PinFault}
use Rattle.pin_core.specs.declared.fault.PinFault.TheVariants.{Frozen, Pinned}
use Rattle.pin_core.specs.Pins.{PinState, IsHeld, DoPinsHold, IsFrontKept, AreFreezesKept}
use Rattle.pin_core.specs.Allowed.{IsFirstFailing, IsPinFault}
use Rattle.pin_core.specs.Override.{IsPassed, DoPinsPass, IsFirstForbidden, IsFaultWith}
use Rattle.pin_core.proofs.Fronts.{kept_named}

-- a list has one first failing element
one_first : {X : Type 0} (P : X → Type 0) (xs : List X) (j k : ℕ) (x y : X) → IsFirstFailing P xs j x → IsFirstFailing P xs k y → x ≡ y
one_first {X} P xs j k x y f g = split (cases_order j k)
  where
    split : (j ≡ k) ⊎ ((j < k) ⊎ (k < j)) → x ≡ y
    split (inl e) =
        let here : slice_get xs k ≡ Some x = subst (λ (n : ℕ). slice_get xs n ≡ Some x) e f.found in
        let both : Some x ≡ Some y = sym here ∙ g.found in
        cc
    split (inr (inl h)) = absurd (f.fails (g.before j x h f.found))
    split (inr (inr h)) = absurd (g.fails (f.before k y h g.found))

pub one_fault : (s : PinState) (routes others : List (List ℕ)) (changes : Changes) (touched : List Touch) (f g : PinFault) → AreApart (length routes) changes
    → IsPinFault s routes others (named_vehicles changes) touched f → IsPinFault s routes others (named_vehicles changes) touched g → f ≡ g
one_fault s routes others changes touched (Frozen v) (Frozen w) apart a b =
    let same : v ≡ w = one_first (IsFrontKept s routes others) (named_vehicles changes) a.0 b.0 v w a.1 b.1 in cc
one_fault s routes others changes touched (Frozen v) (Pinned w q) apart a b = absurd (a.1.fails (kept_named s routes others changes a.0 v apart a.1.found b.0))
one_fault s routes others changes touched (Pinned v p) (Frozen w) apart a b = absurd (b.1.fails (kept_named s routes others changes b.0 w apart b.1.found a.0))
one_fault s routes others changes touched (Pinned v p) (Pinned w q) apart (kept, (t, a, ev, ep)) (also, (u, b, ew, eq)) =
    let same : t ≡ u = one_first (λ x. IsHeld s others x.customer) touched a.0 b.0 t u a.1 b.1 in
    let one : v ≡ w = cc in
    let two : p ≡ q = cc in
    cc

pub fault_excludes : (s : PinState) (routes others : List (List ℕ)) (changes : Changes) (touched : List Touch) (f : PinFault) → AreApart (length routes) changes
    → All (λ t. 1 ≤ t.customer) touched → IsPinFault s routes others (named_vehicles changes) touched f → ¬ (AreFreezesKept s routes others × DoPinsHold s others)
fault_excludes s routes others changes touched (Frozen v) apart known a ok = a.1.fails (kept_named s routes others changes a.0 v apart a.1.found ok.0)
fault_excludes s routes others changes touched (Pinned v p) apart known (kept, (t, a, ev, ep)) ok =
    let low : 1 ≤ t.customer = subst (λ (u : Touch). 1 ≤ u.customer) (get_or_from_slice_get touched a.0 t t a.1.found) (known a.0 t (slice_get_within touched a.0 t a.1.found)) in
    a.1.fails (ok.1 t.customer low)

-- the same where some pins are overridden
not_passed : (s : PinState) (others : List (List ℕ)) (touched : List Touch) (free : List Bool) (k : ℕ) (t : Touch) → slice_get touched k ≡ Some t
    → ¬ IsHeld s others t.customer → slice_get free k ≡ Some false → ¬ IsPassed s others touched free k
not_passed s others touched free k t e loose bound pass = split (pass t e)
  where
    split : IsHeld s others t.customer ⊎ (slice_get free k ≡ Some true) → ⊥
    split (inl held) = loose held
    split (inr f) = let both : Some true ≡ Some false = sym f ∙ bound in cc

one_forbidden : (s : PinState) (others : List (List ℕ)) (touched : List Touch) (free : List Bool) (t u : Touch) → IsFirstForbidden s others touched free t
    → IsFirstForbidden s others touched free u → t ≡ u
one_forbidden s others touched free t u a b = split (cases_order a.k b.k)
  where
    split : (a.k ≡ b.k) ⊎ ((a.k < b.k) ⊎ (b.k < a.k)) → t ≡ u
    split (inl e) =
        let here : slice_get touched b.k ≡ Some t = subst (λ (n : ℕ). slice_get touched n ≡ Some t) e a.found in
        let both : Some t ≡ Some u = sym here ∙ b.found in
        cc
    split (inr (inl h)) = absurd (not_passed s others touched free a.k t a.found a.loose a.bound (b.before a.k h))
    split (inr (inr h)) = absurd (not_passed s others touched free b.k u b.found b.loose b.bound (a.before b.k h))

pub one_fault_with : (s : PinState) (routes others : List (List ℕ)) (changes : Changes) (touched : List Touch) (free : List Bool) (f g : PinFault) → AreApart (length routes) changes
    → IsFaultWith s routes others (named_vehicles changes) touched free f → IsFaultWith s routes others (named_vehicles changes) touched free g → f ≡ g
one_fault_with s routes others changes touched free (Frozen v) (Frozen w) apart a b =
    let same : v ≡ w = one_first (IsFrontKept s routes others) (named_vehicles changes) a.0 b.0 v w a.1 b.1 in cc
one_fault_with s routes others changes touched free (Frozen v) (Pinned w q) apart a b = absurd (a.1.fails (kept_named s routes others changes a.0 v apart a.1.found b.0))
one_fault_with s routes others changes touched free (Pinned v p) (Frozen w) apart a b = absurd (b.1.fails (kept_named s routes others changes b.0 w apart b.1.found a.0))
one_fault_with s routes others changes touched free (Pinned v p) (Pinned w q) apart (kept, (t, a, ev, ep)) (also, (u, b, ew, eq)) =
    let same : t ≡ u = one_forbidden s others touched free t u a b in
    let one : v ≡ w = cc in
    let two : p ≡ q = cc in
    cc

pub fault_excludes_with : (s : PinState) (routes others : List (List ℕ)) (changes : Changes) (touched : List Touch) (free : List Bool) (f : PinFault) → AreApart (length routes) changes
    → IsFaultWith s routes others (named_vehicles changes) touched free f → ¬ (AreFreezesKept s routes others × DoPinsPass s others touched free)
fault_excludes_with s routes others changes touched free (Frozen v) apart a ok = a.1.fails (kept_named s routes others changes a.0 v apart a.1.found ok.0)
fault_excludes_with s routes others changes touched free (Pinned v p) apart (kept, (t, a, ev, ep)) ok =
    not_passed s others touched free a.k t a.found a.loose a.bound (ok.1 a.k)
