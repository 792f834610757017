-- A role that joins others brings those below it, and no other.
use Rattle.std.proofs.Common.{◌≡◌, ℕ, ◌<◌, Bool, true, false, ◌||◌, List, Option, None, Some, eqb, sym, refl, ap, ◌∙◌, subst}
use Rattle.std.specs.Prelude.{bytes_eq, nat_eq}
use Rattle.std.specs.Map.{lookup}
use Rattle.std.specs.Option.{option_map}
use Rattle.std.proofs.lemmas.Bool.{true≢false, eqb-true, eq-eqb}
use Rattle.role_hierarchy.specs.Roles.{has, with_role}
use Rattle.role_hierarchy.specs.RoleLaws.{has-empty, has-with_role}
use Rattle.role_hierarchy.specs.Order.{Order, stands, IsSenior}
use Rattle.role_hierarchy.specs.Below.{IsOrder, closed}
use Rattle.role_hierarchy.specs.BelowLaws.{has-closed}
use Rattle.separation_core.specs.Groups.{Groups, first_broken}
use Rattle.policy_core.specs.declared.refusal.Refusal.TheVariants.{Ssd, Dsd}
use Rattle.policy_core.specs.declared.session.Session.{Session}
use Rattle.policy_core.specs.declared.session.Counting.{Counting}
use Rattle.policy_core.specs.declared.session.Counting.TheVariants.{Active, Inherited}
use Rattle.policy_core.specs.State.{PolicyState, IsPolicy, counted, with_roles, with_session, broken_ssd, broken_dsd}
use Rattle.policy_core.specs.BreakLaws.{broken_at}
use Rattle.policy_core.proofs.CommandLaws.{counted_of, roles_judged, session_judged}

-- a member that the others did not have is the one that came
the_one : (roles slot a : ℕ) → has (with_role roles slot) a ≡ true → has roles a ≡ false → eqb a slot ≡ true
the_one roles slot a h absent = sym (ap (λ t. t || eqb a slot) absent) ∙ sym (has-with_role roles slot a) ∙ h

came : (slot a : ℕ) → eqb a slot ≡ true → has (with_role 0 slot) a ≡ true
came slot a e = has-with_role 0 slot a ∙ ap (λ t. t || eqb a slot) (has-empty a) ∙ e

module _ (order : Order) (is : IsOrder order) (roles slot coming : ℕ) (brings : (b : ℕ) → IsSenior (stands order) slot b → has coming b ≡ true) where
  below_one : (a b : ℕ) → a < 256 → has (with_role roles slot) a ≡ true → IsSenior (stands order) a b → has coming b ≡ false → has (closed order roles) b ≡ true
  below_one a b small member senior absent = by (has roles a) refl
    where
      by : (t : Bool) → has roles a ≡ t → has (closed order roles) b ≡ true
      by true e = (has-closed order is roles b).1 (a, small, e, senior)
      by false e =
          let one : a ≡ slot = eqb-true a slot (the_one roles slot a member e) in
          let P : ℕ → Type 0 = λ s. IsSenior (stands order) s b in
          absurd (true≢false (sym (brings b (subst P one senior)) ∙ absent))

  pub closed_coming : (b : ℕ) → has (closed order (with_role roles slot)) b ≡ true → has coming b ≡ false → has (closed order roles) b ≡ true
  closed_coming b h absent =
      let s = (has-closed order is (with_role roles slot) b).0 h in
      below_one s.0 b s.1 s.2 s.3 absent

pub counted_coming : (counting : Counting) (order : Order) → IsOrder order → (active slot : ℕ) → slot < 256 →
    (b : ℕ) → has (counted counting order (with_role active slot)) b ≡ true → has (counted counting order (with_role 0 slot)) b ≡ false → has (counted counting order active) b ≡ true
counted_coming Active order is active slot small b h absent = by (has active b) refl
  where
    by : (t : Bool) → has active b ≡ t → has active b ≡ true
    by true e = e
    by false e = absurd (true≢false (sym (came slot b (the_one active slot b h e)) ∙ absent))
counted_coming Inherited order is active slot small b h absent =
    closed_coming order is active slot (closed order (with_role 0 slot)) (λ q senior. (has-closed order is (with_role 0 slot) q).1 (slot, small, came slot slot (same slot), senior)) b h absent
  where
    same : (n : ℕ) → eqb n n ≡ true
    same n = eq-eqb n n refl

-- the first broken set, where it is found for roles that broke none except through the coming ones
abbrev pub IsFirst : ℕ → ℕ → Groups → Option (List ℕ) → Type 0
IsFirst given coming groups found =
    (before : ℕ) → first_broken before groups ≡ None → ((q : ℕ) → has given q ≡ true → has coming q ≡ false → has before q ≡ true) → found ≡ first_broken given groups

module _ (p now : PolicyState) (same : p ≡ now) (is : IsPolicy p) (ordered : IsOrder p.order) where
  pub role_judged : (user : List ℕ) (held slot given coming : ℕ) (found : Option (List ℕ)) → Some held ≡ lookup (bytes_eq user) p.users → given ≡ closed p.order (with_role held slot) →
      ((b : ℕ) → IsSenior (stands p.order) slot b → has coming b ≡ true) → IsFirst given coming p.ssd found → option_map Ssd found ≡ broken_ssd (with_roles now user (with_role held slot))
  role_judged user held slot given coming found there is_given brings first =
      roles_judged p now same is user (with_role held slot) found
      (first (closed p.order held) (broken_at (closed p.order) (bytes_eq user) held p.users p.ssd is.ssd there)
      (λ q h absent. closed_coming p.order ordered held slot coming brings q (sym (ap (λ s. has s q) is_given) ∙ h) absent)
      ∙ ap (λ s. first_broken s p.ssd) is_given)

  pub activation_judged : (number : ℕ) (user : List ℕ) (active slot given coming : ℕ) (found : Option (List ℕ)) → slot < 256 → Some (record { user = user; active = active }) ≡ lookup (nat_eq number) p.sessions →
      given ≡ counted p.counting p.order (with_role active slot) → coming ≡ counted p.counting p.order (with_role 0 slot) → IsFirst given coming p.dsd found →
      option_map Dsd found ≡ broken_dsd (with_session now number (record { user = user; active = with_role active slot }))
  activation_judged number user active slot given coming found small there is_given is_coming first =
      let session : Session = record { user = user; active = active } in
      session_judged p now same is number (record { user = user; active = with_role active slot }) found
      (first (counted_of p session) (broken_at (counted_of p) (nat_eq number) session p.sessions p.dsd is.dsd there)
      (λ q h absent. counted_coming p.counting p.order ordered active slot small q (sym (ap (λ s. has s q) is_given) ∙ h) (sym (ap (λ s. has s q) is_coming) ∙ absent))
      ∙ ap (λ s. first_broken s p.dsd) is_given)
