-- Checks are made one after the other.
use Rattle.std.proofs.Common.{◌≡◌, List, [], ◌∷◌, ◌++◌, Result, Ok, Err, Bool, true, false, cond, refl, ap}
use Rattle.solomon_reader.specs.declared.fault.ReadFault.{ReadFault}
use Rattle.solomon_reader.specs.declared.fault.ReadFault.TheVariants.{NoMemory, At}
use Rattle.text_words.specs.Checks.{Check}
use Rattle.solomon_reader.specs.Checks.{Fault, checked}
use Rattle.solomon_reader.specs.Reading.{Fails}

abbrev pub done : {A : Type 0} → A → Result A Fault
done x = Ok x

abbrev pub failed : {A : Type 0} → Fault → Result A Fault
failed e = Err e

pub ok_is : {A : Type 0} (x y : A) → done x ≡ done y → x ≡ y
ok_is x y e = cc

pub held : {A : Type 0} (b : Bool) (r : Result A Fault) (d : Fault) (y : A) → cond b r (failed d) ≡ done y → (b ≡ true) × (r ≡ done y)
held true r d y e = (refl, e)
held false r d y e = absurd cc

err_again : {A B : Type 0} (d f : Fault) → failed {A = A} d ≡ failed f → failed {A = B} d ≡ failed f
err_again {A} {B} d f e = let same : d ≡ f = cc in ap (failed {A = B}) same

pub fail_step : {A B : Type 0} (b : Bool) (r : Result A Fault) (s : Result B Fault) (d f : Fault) → cond b r (failed d) ≡ failed f → (r ≡ failed f → s ≡ failed f) → cond b s (failed d) ≡ failed f
fail_step true r s d f e h = h e
fail_step false r s d f e h = err_again d f e

-- checks that hold add nothing
pub checked_more : {A B : Type 0} (cs more : List (Check Fault)) (x y : A) (v : B) → checked cs x ≡ done y → checked (cs ++ more) v ≡ checked more v
checked_more [] more x y v e = refl
checked_more (c ∷ cs) more x y v e =
    let h = held c.holds (checked cs x) c.fault y e in
    rw h.0 (checked_more cs more x y v h.1)

pub checked_value : {A : Type 0} (cs : List (Check Fault)) (x y : A) → checked cs x ≡ done y → x ≡ y
checked_value [] x y e = ok_is x y e
checked_value (c ∷ cs) x y e = checked_value cs x y (held c.holds (checked cs x) c.fault y e).1

-- the first fault is that of the whole list
pub checked_fails : {A B : Type 0} (cs more : List (Check Fault)) (x : A) (v : B) (f : Fault) → checked cs x ≡ failed f → checked (cs ++ more) v ≡ failed f
checked_fails [] more x v f e = absurd cc
checked_fails (c ∷ cs) more x v f e = fail_step c.holds (checked cs x) (checked (cs ++ more) v) c.fault f e (λ h. checked_fails cs more x v f h)

pub Fails_on : {A B : Type 0} (bad : ReadFault) (cs more : List (Check Fault)) (x : A) (v : B) → Fails bad (checked cs x) → Fails bad (checked (cs ++ more) v)
Fails_on NoMemory cs more x v h = tt
Fails_on (At k n) cs more x v h = checked_fails cs more x v (record { kind = k; line = n }) h
