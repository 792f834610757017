-- Numbers below a bound that pass a test, and CheckAccess by its test.
use Rattle.std.proofs.Common.{◌≡◌, ℕ, zero, suc, ◌+◌, ◌<◌, ◌≤◌, Bool, true, false, ◌||◌, ◌&&◌, ◌↔◌, refl, sym, ap, ap₂, ◌∙◌, subst, arith, inl, inr}
use Rattle.std.proofs.lemmas.Bool.{cases_eq, cases_lt, and_parts, and_from, false≢true}
use Rattle.std.proofs.Common.{List, [], ◌∷◌, Option, Some, None}
use Rattle.std.specs.Prelude.{is_some, unwrap_or, nat_eq}
use Rattle.std.specs.Map.{lookup}
use Rattle.role_hierarchy.specs.Roles.{has}
use Rattle.role_hierarchy.specs.Order.{Order, Chain, IsSenior, stands}
use Rattle.role_hierarchy.specs.Below.{closed, IsOrder}
use Rattle.role_hierarchy.specs.BelowLaws.{has-closed}
use Rattle.policy_core.specs.declared.session.Session.{Session}
use Rattle.permission_core.specs.declared.objects.Operation.{Operation}
use Rattle.permission_core.specs.declared.objects.Object.{Object}
use Rattle.permission_core.specs.Objects.{number_of}
use Rattle.policy_core.specs.State.{PolicyState}
use Rattle.policy_core.specs.Access.{some_below, is_reached, reaches, row_of, is_here, has_access, CheckAccess}

pub some_below-none : (test : ℕ → Bool) → some_below test 0 ≡ false
unfolding some_below
some_below-none test = refl

pub some_below-next : (test : ℕ → Bool) (n : ℕ) → some_below test n ≡ false → test n ≡ false → some_below test (n + 1) ≡ false
unfolding some_below
some_below-next test n none new = (let more : n + 1 ≡ suc n = omega arith in ap (some_below test) more) ∙ ap₂ (λ s t. s || t) none new

or_true : (t : Bool) → (t || true) ≡ true
or_true true = refl
or_true false = refl

pub some_below-at : (test : ℕ → Bool) (k n : ℕ) → k < n → test k ≡ true → some_below test n ≡ true
unfolding some_below
some_below-at test k zero h passes = absurd (omega arith)
some_below-at test k (suc n) h passes = elim (cases_eq k n) [
  | inl e ↦ ap (λ t. some_below test n || t) (ap test (sym e) ∙ passes) ∙ or_true (some_below test n)
  | inr ne ↦ ap (λ t. t || test n) (some_below-at test k n (omega arith) passes)
]

some_below-found : (test : ℕ → Bool) (n : ℕ) → some_below test n ≡ true → (k : ℕ) × (k < n) × (test k ≡ true)
unfolding some_below
some_below-found test zero h = absurd cc
some_below-found test (suc n) h =
    elim (some_below test n) as (λ t. some_below test n ≡ t → (t || test n) ≡ true → (k : ℕ) × (k < suc n) × (test k ≡ true)) [
      | true ↦ λ e w. (let f = some_below-found test n e in (f.0, omega (arith, f.1), f.2))
      | false ↦ λ e w. (n, omega arith, w)
    ] refl h

-- numbers that do not pass are skipped
pub some_below-past : (test : ℕ → Bool) (from n : ℕ) → ((q : ℕ) → from ≤ q → q < n → test q ≡ false) → some_below test from ≡ false → some_below test n ≡ false
some_below-past test from n none before = by (some_below test n) refl
  where
    by : (t : Bool) → some_below test n ≡ t → some_below test n ≡ false
    by false e = e
    by true e =
        let k = some_below-found test n e in
        elim (cases_lt k.0 from) [
          | inl low ↦ absurd (false≢true (sym before ∙ some_below-at test k.0 from low k.2))
          | inr high ↦ absurd (false≢true (sym (none k.0 high k.1) ∙ k.2))
        ]

-- a chain of pairs ends at a slot
chain_small : (order : Order) → IsOrder order → (a : ℕ) (rest : List ℕ) (b : ℕ) → a < 256 → Chain (stands order) a rest b → b < 256
chain_small order is a [] b h chain = subst (λ n. n < 256) chain h
chain_small order is a (x ∷ rest) b h chain = chain_small order is x rest b (is.small a x chain.0) chain.1

module _ (p : PolicyState) (is : IsOrder p.order) (session : ℕ) (operation : Operation) (object : Object) where
  abbrev AtSession : Option Session → Type 0
  AtSession found = ((is_some found && (is_here p object && reaches p (unwrap_or found (record { user = []; active = 0 })).active operation (number_of object))) ≡ true)
      ↔ ((s : Session) × (found ≡ Some s) × (is_here p object ≡ true)
      × ((a : ℕ) × (a < 256) × (has s.active a ≡ true) × ((b : ℕ) × IsSenior (stands p.order) a b × (has (row_of p b operation) (number_of object) ≡ true))))

  at_session : (found : Option Session) → AtSession found
  unfolding reaches
  at_session None = (λ h. absurd cc, λ c. absurd cc)
  at_session (Some s) = (
    (λ h.
        let parts = and_parts _ _ h in
        let k = some_below-found (is_reached p (closed p.order s.active) operation (number_of object)) 256 parts.1 in
        let reached = and_parts _ _ k.2 in
        let from = (has-closed p.order is s.active k.0).0 reached.0 in
        (s, refl, parts.0, (from.0, from.1, from.2, (k.0, from.3, reached.1)))),
    (λ c.
        let same : c.0.active ≡ s.active = cc in
        let b = c.3.3.0 in
        let active : has s.active c.3.0 ≡ true = ap (λ set. has set c.3.0) (sym same) ∙ c.3.2 in
        let below : has (closed p.order s.active) b ≡ true = (has-closed p.order is s.active b).1 (c.3.0, c.3.1, active, c.3.3.1) in
        and_from _ _ c.2 (some_below-at (is_reached p (closed p.order s.active) operation (number_of object)) b 256 (chain_small p.order is c.3.0 c.3.3.1.0 b c.3.1 c.3.3.1.1) (and_from _ _ below c.3.3.2))),
  )

  pub access_by_test : (has_access p session operation object ≡ true) ↔ CheckAccess p session operation object
  unfolding has_access
  access_by_test = at_session (lookup (nat_eq session) p.sessions)
