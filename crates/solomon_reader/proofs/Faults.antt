-- The fault is that of the first check that fails.
use Rattle.std.proofs.Common.{◌≡◌, ℕ, List, [], ◌∷◌, Bool, true, false, cond, Option, Some, Result, refl, ap}
use Rattle.text_words.specs.Checks.{Check, AllHold, first_fault}
use Rattle.text_words.specs.CheckLaws.{first_is, is_first}
use Rattle.solomon_reader.specs.declared.fault.Kind.{Kind}
use Rattle.solomon_reader.specs.Checks.{Fault, fault, checked, IsFirstFailedCheck}
use Rattle.solomon_reader.proofs.Checking.{done, failed, held}

pub all_hold : {A : Type 0} (cs : List (Check Fault)) (x y : A) → checked cs x ≡ done y → AllHold cs
all_hold [] x y e = tt
all_hold (c ∷ cs) x y e =
    let h = held c.holds (checked cs x) c.fault y e in
    (h.0, all_hold cs x y h.1)

pub hold_all : {A : Type 0} (cs : List (Check Fault)) (x : A) → AllHold cs → checked cs x ≡ done x
hold_all [] x h = refl
hold_all (c ∷ cs) x h = rw h.0 (hold_all cs x h.1)

found_step : {A : Type 0} (b : Bool) (r : Result A Fault) (v : Option Fault) (d f : Fault) → cond b r (failed d) ≡ failed f → (r ≡ failed f → v ≡ Some f) → cond b v (Some d) ≡ Some f
found_step true r v d f e h = h e
found_step false r v d f e h = let same : d ≡ f = cc in ap Some same

found : {A : Type 0} (cs : List (Check Fault)) (x : A) (f : Fault) → checked cs x ≡ failed f → first_fault cs ≡ Some f
found [] x f e = absurd cc
found (c ∷ cs) x f e = found_step c.holds (checked cs x) (first_fault cs) c.fault f e (λ h. found cs x f h)

made_step : {A : Type 0} (b : Bool) (r : Result A Fault) (v : Option Fault) (d f : Fault) → cond b v (Some d) ≡ Some f → (v ≡ Some f → r ≡ failed f) → cond b r (failed d) ≡ failed f
made_step true r v d f e h = h e
made_step false r v d f e h = let same : d ≡ f = cc in ap failed same

made : {A : Type 0} (cs : List (Check Fault)) (x : A) (f : Fault) → first_fault cs ≡ Some f → checked cs x ≡ failed f
made [] x f e = absurd cc
made (c ∷ cs) x f e = made_step c.holds (checked cs x) (first_fault cs) c.fault f e (λ h. made cs x f h)

pub first_failing : {A : Type 0} (cs : List (Check Fault)) (x : A) (kind : Kind) (line : ℕ) → checked cs x ≡ fault kind line → IsFirstFailedCheck cs kind line
first_failing cs x kind line e = first_is cs (record { kind = kind; line = line }) (found cs x (record { kind = kind; line = line }) e)

pub failing_first : {A : Type 0} (cs : List (Check Fault)) (x : A) (kind : Kind) (line : ℕ) → IsFirstFailedCheck cs kind line → checked cs x ≡ fault kind line
failing_first cs x kind line h = made cs x (record { kind = kind; line = line }) (is_first cs (record { kind = kind; line = line }) h)
