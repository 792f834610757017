use Rattle.std.proofs.Common.{◌≡◌, ℕ, zero, suc, ◌≤◌, ◌-◌, ◌∙◌, sym, subst, refl, arith, List, length, replicate, get_or, Option, Some, None}
use Rattle.plan_core.specs.Plan.{route_at}
use Rattle.pin_core.specs.Pins.{DoPinsHold, DoFrontsFit}

-- a row that begins with one value at each place has it at each place
same_row : {X : Type 0} (n k : ℕ) (x : X) → get_or (replicate n x) k x ≡ x
same_row zero k x = refl
same_row (suc n) zero x = refl
same_row (suc n) (suc k) x = same_row n k x

pub opening_pins : (customers vehicles : ℕ) (routes : List (List ℕ)) → DoPinsHold (record { pins = replicate customers None; fronts = replicate vehicles 0 }) routes
opening_pins customers vehicles routes c low v e =
    let empty : Option ℕ = None in
    let none : empty ≡ Some v = sym (same_row customers (c - 1) empty) ∙ e in
    absurd cc

pub opening_fronts : (customers vehicles : ℕ) (routes : List (List ℕ)) → DoFrontsFit (record { pins = replicate customers None; fronts = replicate vehicles 0 }) routes
opening_fronts customers vehicles routes v low high =
    let none : get_or (replicate vehicles 0) (v - 1) 0 ≡ 0 = same_row vehicles (v - 1) 0 in
    subst (λ (n : ℕ). n ≤ length (route_at routes v)) (sym none) (omega arith)
