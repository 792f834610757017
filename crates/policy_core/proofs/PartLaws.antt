-- What is copied back, and what stays.
use Rattle.std.proofs.Common.{◌≡◌, Bool, true, false, ◌||◌, List, Option, Some, None, sym, refl, ap, ◌∙◌, subst}
use Rattle.std.specs.Prelude.{unwrap_or, Result, Ok, Err, IfOk, OnErr}
use Rattle.std.specs.List.{AllZip}
use Rattle.std.specs.Result.{MatchResult}
use Rattle.std.specs.Option.{option_map}
use Rattle.std.proofs.lemmas.Bool.{or_left}
use Rattle.std.proofs.lemmas.List.Elements.{same_from_all_zip}
use Rattle.policy_core.specs.declared.parts.Parts.{Parts}
use Rattle.policy_core.specs.State.{PolicyState}
use Rattle.policy_core.specs.Parts.{DifferIn, chosen, is_copied}

pub moved : (parts : Parts) (p q a b : PolicyState) → p ≡ a → q ≡ b → DifferIn parts a b → DifferIn parts p q
moved parts p q a b is_a is_b differ =
    let P : PolicyState → Type 0 = λ x. DifferIn parts x q in
    let Q : PolicyState → Type 0 = λ y. DifferIn parts a y in
    subst P (sym is_a) (subst Q (sym is_b) differ)

-- a part that is copied where it is marked, and stays where it is not
pub restored : {M X : Type 0} (see : M → X) (own new : M) (copy : Option M) (part : Bool) (x : X) →
    new ≡ unwrap_or copy own → option_map see copy ≡ chosen part x → (part ≡ false → see own ≡ x) → see new ≡ x
restored see own new (Some m) true x put is same = ap see put ∙ ap (λ o. unwrap_or o x) is
restored see own new (Some m) false x put is same = cc
restored see own new None true x put is same = cc
restored see own new None false x put is same = ap see put ∙ same refl

pub restored_whole : {X : Type 0} (own new : X) (copy : Option X) (part : Bool) (x : X) →
    new ≡ unwrap_or copy own → copy ≡ chosen part x → (part ≡ false → own ≡ x) → new ≡ x
restored_whole own new copy true x put is same = put ∙ ap (λ o. unwrap_or o own) is
restored_whole own new copy false x put is same = put ∙ ap (λ o. unwrap_or o own) is ∙ same refl

or_late : (x y : Bool) → y ≡ true → (x || y) ≡ true
or_late true y h = refl
or_late false y h = h

pub sessions_copied : (parts : Parts) → parts.sessions ≡ true → is_copied parts ≡ true
sessions_copied parts h = or_late _ parts.sessions h

pub dsd_copied : (parts : Parts) → parts.dsd ≡ true → is_copied parts ≡ true
dsd_copied parts h = or_left _ parts.sessions (or_late _ parts.dsd h)

pub ssd_copied : (parts : Parts) → parts.ssd ≡ true → is_copied parts ≡ true
ssd_copied parts h = or_left _ parts.sessions (or_left _ parts.dsd (or_late _ parts.ssd h))

pub order_copied : (parts : Parts) → parts.order ≡ true → is_copied parts ≡ true
order_copied parts h = or_left _ parts.sessions (or_left _ parts.dsd (or_left _ parts.ssd (or_late _ parts.order h)))

pub on_err : {T E P : Type 0} (r : Result T E) → P → OnErr r P
on_err (Ok x) p = tt
on_err (Err e) p = p

-- a copy has the same entries
pub copied : {M K V E : Type 0} (see : M → List (K × V)) (m : M) (r : Result M E) (Q : E → Type 0) →
    MatchResult r (λ w. AllZip (λ (p q : K × V). (q.0 ≡ p.0) × (q.1 ≡ p.1)) (see m) (see w)) Q → IfOk r (λ w. see w ≡ see m)
copied see m (Ok w) Q same = same_from_all_zip _ (see m) (see w) same (λ p q e. λ i. (e.0 i, e.1 i))
copied see m (Err e) Q same = tt
