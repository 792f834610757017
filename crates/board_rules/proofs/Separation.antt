-- Each command that is not refused keeps separation of duty.
use Rattle.std.proofs.Common.{◌≡◌, ℕ, Bool, true, List, map, Option, Some, None, refl, sym, ap, ◌∙◌, subst}
use Rattle.std.specs.Prelude.{unwrap_or, bytes_eq, nat_eq}
use Rattle.std.specs.Map.{lookup}
use Rattle.indexmap.specs.IndexMap.{insert_entry}
use Rattle.role_hierarchy.specs.Roles.{has}
use Rattle.role_hierarchy.specs.Order.{with_slot}
use Rattle.role_hierarchy.specs.Below.{closed, IsOrder}
use Rattle.role_hierarchy.specs.BelowLaws.{closed_fewer, closed-with_slot}
use Rattle.separation_core.specs.Groups.{Groups, AreSets, first_breaking, first_broken}
use Rattle.separation_core.specs.GroupLaws.{first_broken-fewer}
use Rattle.policy_core.specs.declared.refusal.Refusal.TheVariants.{Ssd, Dsd}
use Rattle.policy_core.specs.declared.separation.Separation.{Separation}
use Rattle.policy_core.specs.declared.separation.Separation.TheVariants.{Static, Dynamic}
use Rattle.policy_core.specs.declared.session.Session.{Session}
use Rattle.policy_core.specs.declared.session.Counting.{Counting}
use Rattle.policy_core.specs.declared.session.Counting.TheVariants.{Inherited}
use Rattle.policy_core.specs.State.{PolicyState, authorized, counted, counted_all, held_by, with_roles, with_session}
use Rattle.policy_core.specs.Kinds.{sets_of, with_sets, given_by, broken_by}
use Rattle.policy_core.specs.Commands.{migrated_session}
use Rattle.policy_core.specs.BreakLaws.{breaking_inserted, broken_at, AreFewer, breaking_fewer, closed_none, none_breaks}
use Rattle.policy_core.specs.KeptLaws.{none_mapped, Keeps, fewer_counted, same_authorized, same_counted, migrated_sets}
use Rattle.policy_core.specs.CountLaws.{counted-with_slot}
use Rattle.board_rules.proofs.Orders.{within}

-- No user is authorized for, and for no session are counted, as many roles of a set as its number, in sound sets.
pub record IsSeparate (p : PolicyState) : Type 0 where
  pub ssd_sets : AreSets p.ssd
  pub dsd_sets : AreSets p.dsd
  pub ssd : first_breaking (authorized p) p.ssd ≡ None
  pub dsd : first_breaking (counted_all p) p.dsd ≡ None

-- where no set was broken, what is found by a key, or a value without roles in its place, breaks none with fewer roles
pub lessened_at : {K X : Type 0} (g : X → ℕ) (f : X → X) → ((x : X) (q : ℕ) → has (g (f x)) q ≡ true → has (g x) q ≡ true) → (key : K → Bool) (none : X) → g none ≡ 0
    → (es : List (K × X)) (groups : Groups) → AreSets groups → first_breaking (map (λ e. g e.1) es) groups ≡ None → first_broken (g (f (unwrap_or (lookup key es) none))) groups ≡ None
lessened_at {K} {X} g f fewer key none without es groups are whole = by (lookup key es) refl
  where
    judged : (x : X) → first_broken (g x) groups ≡ None → first_broken (g (f x)) groups ≡ None
    judged x h = first_broken-fewer (g (f x)) (g x) groups (fewer x) h

    by : (found : Option X) → lookup key es ≡ found → first_broken (g (f (unwrap_or found none))) groups ≡ None
    by None at = judged none (ap (λ given. first_broken given groups) without ∙ none_breaks groups are)
    by (Some x) at = judged x (broken_at g key x es groups whole (sym at))

-- ---- changes of the whole policy

module _ (p : PolicyState) (is : IsSeparate p) where
  -- the sessions keep some of their active roles, with fewer pairs, and the users are authorized for fewer
  pub lessened : IsOrder p.order → (q : PolicyState) → IsOrder q.order → within q.order p.order → (k : Session → Session) → Keeps k
      → q.ssd ≡ p.ssd → q.dsd ≡ p.dsd → q.counting ≡ p.counting → AreFewer (authorized q) (authorized p) → q.sessions ≡ map (λ e. (e.0, k e.1)) p.sessions → IsSeparate q
  lessened order q next less k keeps ssd dsd counting fewer sessions = record {
    ssd_sets = subst AreSets (sym ssd) is.ssd_sets;
    dsd_sets = subst AreSets (sym dsd) is.dsd_sets;
    ssd = ap (first_breaking (authorized q)) ssd ∙ breaking_fewer (authorized q) (authorized p) p.ssd fewer is.ssd;
    dsd =
        ap (first_breaking (counted_all q)) dsd
        ∙ (ap (λ (xs : List (ℕ × Session)). first_breaking (map (λ e. counted q.counting q.order e.1.active) xs) p.dsd) sessions
        ∙ (ap (λ (c : Counting). first_breaking (map (λ (e : ℕ × Session). counted c q.order e.1.active) (map (λ e. (e.0, k e.1)) p.sessions)) p.dsd) counting
        ∙ breaking_fewer _ (counted_all p) p.dsd (fewer_counted p.counting q.order p.order next order less k keeps p.sessions) is.dsd));
  }

  -- one more role without pairs
  pub slotted : (role : List ℕ) (slot : ℕ) → IsSeparate (record p { roles = insert_entry bytes_eq p.roles role slot; order = with_slot p.order slot })
  slotted role slot = record {
    ssd_sets = is.ssd_sets;
    dsd_sets = is.dsd_sets;
    ssd = ap (λ all. first_breaking all p.ssd) (same_authorized (with_slot p.order slot) p.order (λ given. closed-with_slot p.order slot given) p.users) ∙ is.ssd;
    dsd =
        ap (λ all. first_breaking all p.dsd) (same_counted p.counting (with_slot p.order slot) p.order (λ active. counted-with_slot p.counting p.order slot active) p.sessions)
        ∙ is.dsd;
  }

  -- a user whose roles are judged
  pub with_user : (user : List ℕ) (roles : ℕ) → first_broken (closed p.order roles) p.ssd ≡ None → IsSeparate (with_roles p user roles)
  with_user user roles none = record {
    ssd_sets = is.ssd_sets;
    dsd_sets = is.dsd_sets;
    ssd = breaking_inserted (closed p.order) bytes_eq user roles p.users p.ssd is.ssd ∙ none;
    dsd = is.dsd;
  }

  -- fewer roles of a user that is there, or none
  pub user_lessened : IsOrder p.order → (user : List ℕ) (f : ℕ → ℕ) → ((r q : ℕ) → has (f r) q ≡ true → has r q ≡ true) → IsSeparate (with_roles p user (f (held_by p user)))
  user_lessened order user f drops =
      with_user user (f (held_by p user)) (lessened_at (closed p.order) f (λ r q h. closed_fewer p.order order (f r) r (drops r) q h) (bytes_eq user) 0 (closed_none p.order) p.users p.ssd is.ssd_sets is.ssd)

  -- the sets of a kind, and others in their place
  pub sets_kept : (kind : Separation) → AreSets (sets_of kind p)
  sets_kept Static = is.ssd_sets
  sets_kept Dynamic = is.dsd_sets

  pub unbroken : (kind : Separation) → first_breaking (given_by kind p) (sets_of kind p) ≡ None
  unbroken Static = is.ssd
  unbroken Dynamic = is.dsd

  pub none_broken : (kind : Separation) (groups : Groups) → broken_by kind (with_sets kind p groups) ≡ None → first_breaking (given_by kind p) groups ≡ None
  none_broken Static groups h = none_mapped Ssd _ h
  none_broken Dynamic groups h = none_mapped Dsd _ h

  pub with_other : (kind : Separation) (groups : Groups) → AreSets groups → first_breaking (given_by kind p) groups ≡ None → IsSeparate (with_sets kind p groups)
  with_other Static groups sets none = record { ssd_sets = sets; dsd_sets = is.dsd_sets; ssd = none; dsd = is.dsd }
  with_other Dynamic groups sets none = record { ssd_sets = is.ssd_sets; dsd_sets = sets; ssd = is.ssd; dsd = none }

  -- other sessions
  pub with_sessions : (sessions : List (ℕ × Session)) (last : ℕ) → first_breaking (map (λ (e : ℕ × Session). counted p.counting p.order e.1.active) sessions) p.dsd ≡ None
      → IsSeparate (record p { sessions = sessions; last = last })
  with_sessions sessions last none = record { ssd_sets = is.ssd_sets; dsd_sets = is.dsd_sets; ssd = is.ssd; dsd = none }

  -- a session whose active roles are judged
  pub with_one : (number : ℕ) (s : Session) → first_broken (counted p.counting p.order s.active) p.dsd ≡ None → IsSeparate (with_session p number s)
  with_one number s none = record {
    ssd_sets = is.ssd_sets;
    dsd_sets = is.dsd_sets;
    ssd = is.ssd;
    dsd = breaking_inserted (λ (x : Session). counted p.counting p.order x.active) nat_eq number s p.sessions p.dsd is.dsd ∙ none;
  }

  -- DSD counts what is inherited, and the sessions that break a set lose their roles
  pub migrated_keeps : IsSeparate (record p { counting = Inherited; sessions = map (λ e. (e.0, migrated_session p.order p.dsd e.1)) p.sessions })
  migrated_keeps = record {
    ssd_sets = is.ssd_sets;
    dsd_sets = is.dsd_sets;
    ssd = is.ssd;
    dsd = migrated_sets p.order p.dsd is.dsd_sets p.sessions;
  }
