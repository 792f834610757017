-- What breaks no set: sessions that keep some of their active roles, users with fewer roles, an order with fewer pairs or with one more slot.
use Rattle.std.proofs.Common.{◌≡◌, ℕ, true, false, cond, List, [], ◌∷◌, map, Option, Some, None, sym, refl, ap, ap₂, ◌∙◌}
use Rattle.std.specs.Prelude.{bit_and, unwrap_or, bytes_eq, is_some}
use Rattle.std.specs.Map.{lookup}
use Rattle.std.specs.Option.{option_map}
use Rattle.std.proofs.lemmas.Bool.{and_parts}
use Rattle.role_hierarchy.specs.Roles.{has, without}
use Rattle.role_hierarchy.specs.RoleLaws.{has-bit_and, has-without}
use Rattle.role_hierarchy.specs.Order.{Order, stands}
use Rattle.role_hierarchy.specs.Below.{closed, IsOrder}
use Rattle.role_hierarchy.specs.BelowLaws.{closed_fewer, closed_fewer_pairs}
use Rattle.separation_core.specs.Groups.{Groups, AreSets, first_broken, first_breaking}
use Rattle.policy_core.specs.declared.refusal.Refusal.{Refusal}
use Rattle.policy_core.specs.declared.session.Session.{Session}
use Rattle.policy_core.specs.declared.session.Counting.{Counting}
use Rattle.policy_core.specs.State.{counted}
use Rattle.policy_core.specs.Commands.{kept_session, kept_authorized, migrated_session}
use Rattle.policy_core.specs.BreakLaws.{AreFewer, BreakNone, breaking_each, closed_none, none_breaks}
use Rattle.policy_core.specs.CountLaws.{counted_fewer, counted_fewer_pairs}

pub none_mapped : (f : List ℕ → Refusal) (found : Option (List ℕ)) → option_map f found ≡ None → found ≡ None
none_mapped f None h = refl
none_mapped f (Some x) h = absurd cc

pub without_within : (roles slot q : ℕ) → has (without roles slot) q ≡ true → has roles q ≡ true
without_within roles slot q h = (and_parts _ _ (sym (has-without roles slot q) ∙ h)).1

-- a session keeps some of its active roles
abbrev pub Keeps : (Session → Session) → Type 0
Keeps k = (s : Session) (q : ℕ) → has (k s).active q ≡ true → has s.active q ≡ true

pub kept_within : (user : List ℕ) (allowed : ℕ) → Keeps (kept_session user allowed)
kept_within user allowed s q h =
    elim (bytes_eq s.user user) as (λ t. has (cond t (record s { active = bit_and s.active allowed }) s).active q ≡ true → has s.active q ≡ true) [
      | true ↦ λ w. (and_parts _ _ (sym (has-bit_and s.active allowed q) ∙ w)).0
      | false ↦ λ w. w
    ] h

pub kept_authorized_within : (users : List (List ℕ × ℕ)) (order : Order) → Keeps (kept_authorized users order)
kept_authorized_within users order s q h = (and_parts _ _ (sym (has-bit_and s.active (closed order (unwrap_or (lookup (bytes_eq s.user) users) 0)) q) ∙ h)).0

-- sessions that keep some of their active roles, with fewer pairs or the same
pub fewer_counted : (counting : Counting) (few many : Order) → IsOrder few → IsOrder many → ((a b : ℕ) → stands few a b ≡ true → stands many a b ≡ true) → (k : Session → Session) → Keeps k → (es : List (ℕ × Session)) →
    AreFewer (map (λ (e : ℕ × Session). counted counting few e.1.active) (map (λ e. (e.0, k e.1)) es)) (map (λ e. counted counting many e.1.active) es)
fewer_counted counting few many is_few is_many within k keeps [] = tt
fewer_counted counting few many is_few is_many within k keeps (e ∷ es) = (
  (λ q h. counted_fewer counting many is_many (k e.1).active e.1.active (keeps e.1) q (counted_fewer_pairs counting few many is_few is_many within (k e.1).active q h)),
  fewer_counted counting few many is_few is_many within k keeps es,
)

abbrev pub closed_all : Order → List (List ℕ × ℕ) → List ℕ
closed_all order users = map (λ u. closed order u.1) users

abbrev pub changed_all : (ℕ → ℕ) → List (List ℕ × ℕ) → List (List ℕ × ℕ)
changed_all f users = map (λ u. (u.0, f u.1)) users

-- fewer pairs
pub fewer_pairs : (few many : Order) → IsOrder few → IsOrder many → ((a b : ℕ) → stands few a b ≡ true → stands many a b ≡ true) → (users : List (List ℕ × ℕ)) → AreFewer (closed_all few users) (closed_all many users)
fewer_pairs few many is_few is_many within [] = tt
fewer_pairs few many is_few is_many within (u ∷ users) = ((λ q h. closed_fewer_pairs few many is_few is_many within u.1 q h), fewer_pairs few many is_few is_many within users)

-- fewer pairs, and one role fewer for each user
pub fewer_roles : (few many : Order) → IsOrder few → IsOrder many → ((a b : ℕ) → stands few a b ≡ true → stands many a b ≡ true) → (f : ℕ → ℕ) → ((r q : ℕ) → has (f r) q ≡ true → has r q ≡ true) → (users : List (List ℕ × ℕ)) →
    AreFewer (closed_all few (changed_all f users)) (closed_all many users)
fewer_roles few many is_few is_many within f drops [] = tt
fewer_roles few many is_few is_many within f drops (u ∷ users) =
    ((λ q h. closed_fewer many is_many (f u.1) u.1 (drops u.1) q (closed_fewer_pairs few many is_few is_many within (f u.1) q h)), fewer_roles few many is_few is_many within f drops users)

-- an order below which each set of roles has what it had
pub same_authorized : (few many : Order) → ((roles : ℕ) → closed few roles ≡ closed many roles) → (users : List (List ℕ × ℕ)) → map (λ u. closed few u.1) users ≡ map (λ u. closed many u.1) users
same_authorized few many same [] = refl
same_authorized few many same (u ∷ users) = ap₂ (λ x xs. x ∷ xs) (same u.1) (same_authorized few many same users)

pub same_counted : (counting : Counting) (few many : Order) → ((active : ℕ) → counted counting few active ≡ counted counting many active) → (sessions : List (ℕ × Session)) → map (λ s. counted counting few s.1.active) sessions ≡ map (λ s. counted counting many s.1.active) sessions
same_counted counting few many same [] = refl
same_counted counting few many same (s ∷ sessions) = ap₂ (λ x xs. x ∷ xs) (same s.1.active) (same_counted counting few many same sessions)

-- sessions that lose their active roles where what they inherit breaks a set
pub migrated_sets : (order : Order) (groups : Groups) → AreSets groups → (sessions : List (ℕ × Session)) → first_breaking (map (λ (e : ℕ × Session). closed order e.1.active) (map (λ e. (e.0, migrated_session order groups e.1)) sessions)) groups ≡ None
migrated_sets order groups are sessions = breaking_each _ groups (each sessions)
  where
    one : (s : Session) → first_broken (closed order (migrated_session order groups s).active) groups ≡ None
    one s = by (first_broken (closed order s.active) groups) refl
      where
        by : (found : Option (List ℕ)) → first_broken (closed order s.active) groups ≡ found → first_broken (closed order (cond (is_some found) (record s { active = 0 }) s).active) groups ≡ None
        by None e = e
        by (Some x) e = ap (λ given. first_broken given groups) (closed_none order) ∙ none_breaks groups are

    each : (es : List (ℕ × Session)) → BreakNone groups (map (λ (e : ℕ × Session). closed order e.1.active) (map (λ e. (e.0, migrated_session order groups e.1)) es))
    each [] = tt
    each (e ∷ es) = (one e.1, each es)
