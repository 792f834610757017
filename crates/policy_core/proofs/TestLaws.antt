-- The tests of a refusal, one by one, each with what it yields.
use Rattle.std.proofs.Common.{◌≡◌, ℕ, ◌+◌, Bool, true, false, not, ◌&&◌, ◌||◌, cond, List, [], length, Option, Some, None, sym, ap, ap₂, ◌∙◌}
use Rattle.std.specs.Prelude.{bytes_eq, is_some, nat_eq, nat_le, unwrap_or}
use Rattle.std.specs.List.{list_all}
use Rattle.std.specs.Map.{lookup}
use Rattle.std.specs.Option.{option_or}
use Rattle.limits.specs.declared.TheConstants.{MOST_SESSIONS}
use Rattle.role_hierarchy.specs.Roles.{has, is_within, with_role}
use Rattle.role_hierarchy.specs.Order.{stands, with_pair}
use Rattle.role_hierarchy.specs.Below.{closed, juniors_of}
use Rattle.policy_core.specs.declared.refusal.Refusal.TheVariants.{Already, NotThere, NotAuthorized, Cycle, Full}
use Rattle.policy_core.specs.declared.session.Session.{Session}
use Rattle.policy_core.specs.State.{PolicyState, broken, broken_ssd, broken_dsd, is_role, with_roles, with_session}
use Rattle.policy_core.specs.Commands.{activate_refusal, activated, assign_refusal, authorized_for, inherit_refusal, open_refusal, slots_of}

-- what has to hold does not, or does
pub fails : {X : Type 0} {t : Bool} {due : X} (rest : X) → false ≡ t → due ≡ cond (not t) due rest
fails {due = due} rest h = ap (λ b. cond (not b) due rest) h

pub passes : {X : Type 0} {t : Bool} (due : X) {rest now : X} → true ≡ t → now ≡ rest → now ≡ cond (not t) due rest
passes due {rest = rest} h e = e ∙ ap (λ b. cond (not b) due rest) h

-- what must not hold does, or does not
pub holds : {X : Type 0} {t : Bool} {due : X} (rest : X) → true ≡ t → due ≡ cond t due rest
holds {due = due} rest h = ap (λ b. cond b due rest) h

pub misses : {X : Type 0} {t : Bool} (due : X) {rest now : X} → false ≡ t → now ≡ rest → now ≡ cond t due rest
misses due {rest = rest} h e = e ∙ ap (λ b. cond b due rest) h

-- what was looked for is found, or is not
pub found : {X : Type 0} {o : Option X} {x : X} (rest : Option X) → Some x ≡ o → Some x ≡ option_or o rest
found rest h = ap (λ p. option_or p rest) h

pub missed : {X : Type 0} {o rest now : Option X} → None ≡ o → now ≡ rest → now ≡ option_or o rest
missed {rest = rest} h e = e ∙ ap (λ p. option_or p rest) h

-- why a pair is refused, by the slots of its roles
pub by_slots : (p : PolicyState) (senior junior : List ℕ) (s j : ℕ) → Some s ≡ lookup (bytes_eq senior) p.roles → Some j ≡ lookup (bytes_eq junior) p.roles →
    inherit_refusal p senior junior ≡ cond (stands p.order s j) (Some Already) (cond (has (juniors_of p.order j) s) (Some Cycle) (broken (record p { order = with_pair p.order s j })))
unfolding inherit_refusal
by_slots p senior junior s j above below = sym (passes _ (ap is_some above) (passes _ (ap is_some below) (ap₂ (λ (o r : Option ℕ).
    let a = unwrap_or o 0 in
    let b = unwrap_or r 0 in
    cond (stands p.order a b) (Some Already) (cond (has (juniors_of p.order b) a) (Some Cycle) (broken (record p { order = with_pair p.order a b })))) above below)))

-- why a session is refused, by its user's roles and its own
pub by_active : (p : PolicyState) (user : List ℕ) (roles : List (List ℕ)) (held active : ℕ) → Some held ≡ lookup (bytes_eq user) p.users → true ≡ list_all (is_role p) roles → active ≡ slots_of p roles →
    cond (not (is_within active (closed p.order held))) (Some NotAuthorized) (option_or (broken_dsd (with_session p (p.last + 1) (record { user = user; active = active })))
    (cond (nat_le MOST_SESSIONS (length p.sessions) || nat_le 4294967295 p.last) (Some Full) None)) ≡ open_refusal p user roles
unfolding open_refusal
by_active p user roles held active there named slots = passes _ (ap is_some there) (passes _ named (ap₂ (λ (o : Option ℕ) (a : ℕ).
    cond (not (is_within a (closed p.order (unwrap_or o 0)))) (Some NotAuthorized) (option_or (broken_dsd (with_session p (p.last + 1) (record { user = user; active = a })))
    (cond (nat_le MOST_SESSIONS (length p.sessions) || nat_le 4294967295 p.last) (Some Full) None))) there slots))

-- a role that becomes active in a session, and why that is refused
module _ (p : PolicyState) (number : ℕ) (role : List ℕ) (slot : ℕ) (s : Session) (there : Some slot ≡ lookup (bytes_eq role) p.roles) (here : Some s ≡ lookup (nat_eq number) p.sessions) where
  abbrev of : Option Session → Session
  of o = unwrap_or o (record { user = []; active = 0 })

  pub with_active : with_session p number (record s { active = with_role s.active slot }) ≡ activated p number role
  with_active = ap₂ (λ (o : Option Session) (r : Option ℕ). with_session p number (record (of o) { active = with_role (of o).active (unwrap_or r 0) })) here there

  pub by_session : cond (has s.active slot) (Some Already) (cond (not (has (authorized_for p s.user) slot)) (Some NotAuthorized) (broken_dsd (with_session p number (record s { active = with_role s.active slot }))))
      ≡ activate_refusal p number role
  unfolding activate_refusal
  by_session = passes _ (ap is_some there) (ap₂ (λ (o : Option Session) (r : Option ℕ).
      let a = unwrap_or r 0 in
      cond (is_some o && has (of o).active a) (Some Already) (cond (not (is_some o)) (Some NotThere)
      (cond (not (has (authorized_for p (of o).user) a)) (Some NotAuthorized) (broken_dsd (with_session p number (record (of o) { active = with_role (of o).active a })))))) here there)

-- why a user is not assigned to a role
pub by_held : (p : PolicyState) (user role : List ℕ) (held slot : ℕ) → Some held ≡ lookup (bytes_eq user) p.users → Some slot ≡ lookup (bytes_eq role) p.roles →
    cond (has held slot) (Some Already) (broken_ssd (with_roles p user (with_role held slot))) ≡ assign_refusal p user role
unfolding assign_refusal
by_held p user role held slot here there = passes _ (ap is_some here) (passes _ (ap is_some there) (ap₂ (λ (o r : Option ℕ).
    cond (has (unwrap_or o 0) (unwrap_or r 0)) (Some Already) (broken_ssd (with_roles p user (with_role (unwrap_or o 0) (unwrap_or r 0))))) here there))
