-- The numbers of sessions rise over a step.
use Rattle.std.proofs.Common.{◌≡◌, ◌⊎◌, ◌<◌, ◌≤◌, ℕ, ◌+◌, Bool, true, false, cond, not, ◌&&◌, inl, inr, List, [], ◌∷◌, map, filter, Option, Some, None, sym, refl, ap, ◌∙◌, arith}
use Rattle.std.specs.Prelude.{nat_eq, is_some}
use Rattle.std.specs.Map.{lookup, remove_entry}
use Rattle.std.specs.Option.{option_or, option_map_or}
use Rattle.indexmap.specs.IndexMap.{insert_entry}
use Rattle.std.proofs.lemmas.Bool.{false≢true, eqb-true, leb-true, and_parts}
use Rattle.role_hierarchy.specs.Roles.{has, first_free}
use Rattle.policy_core.specs.declared.session.Session.{Session}
use Rattle.policy_core.specs.declared.refusal.Refusal.{Refusal}
use Rattle.policy_core.specs.declared.refusal.Refusal.TheVariants.{NoRole, Already, NotThere}
use Rattle.policy_core.specs.State.{PolicyState, is_session, is_role, session_of, slot_of, with_session, numbers_of, rise}
use Rattle.policy_core.specs.Commands.{activate_refusal, deactivate_refusal, opened, role_at}
use Rattle.rbac_core.specs.declared.command.Command.{Command}
use Rattle.rbac_core.specs.declared.command.Command.TheVariants.{DeleteUser, AddRole, DeleteRole, DeassignUser, DeleteInheritance, CreateSession, DeleteSession, AddActiveRole, DropActiveRole, Migrate}
use Rattle.rbac_core.specs.Step.{guard, refusal_of, after, outcome_of, answered, step}
use Rattle.rbac_core.specs.Numbers.{AreNumbersUsed, IsNumberedNext, DoNumbersRise}
use Rattle.rbac_core.proofs.AffectedLaws.{lookup-other}

-- there is an entry of that number
abbrev has_number : List (ℕ × Session) → ℕ → Bool
has_number es n = is_some (lookup (nat_eq n) es)

there_filter : (keep : (ℕ × Session) → Bool) (n : ℕ) (es : List (ℕ × Session)) → has_number (filter keep es) n ≡ true → has_number es n ≡ true
there_filter keep n [] h = h
there_filter keep n (e ∷ es) h = by (nat_eq n e.0) refl (keep e) h (there_filter keep n es)
  where
    by : (b : Bool) → nat_eq n e.0 ≡ b → (t : Bool) → has_number (cond t (e ∷ filter keep es) (filter keep es)) n ≡ true → (has_number (filter keep es) n ≡ true → has_number es n ≡ true) →
        is_some (cond b (Some e.1) (lookup (nat_eq n) es)) ≡ true
    by true is t w rest = refl
    by false is true w rest = rest (ap (λ b. is_some (cond b (Some e.1) (lookup (nat_eq n) (filter keep es)))) (sym is) ∙ w)
    by false is false w rest = rest w

there_removed : (key : ℕ → Bool) (n : ℕ) (es : List (ℕ × Session)) → has_number (remove_entry key es) n ≡ true → has_number es n ≡ true
there_removed key n [] h = h
there_removed key n (e ∷ es) h = by (nat_eq n e.0) refl (key e.0) h (there_removed key n es)
  where
    by : (b : Bool) → nat_eq n e.0 ≡ b → (t : Bool) → has_number (cond t es (e ∷ remove_entry key es)) n ≡ true → (has_number (remove_entry key es) n ≡ true → has_number es n ≡ true) →
        is_some (cond b (Some e.1) (lookup (nat_eq n) es)) ≡ true
    by true is t w rest = refl
    by false is true w rest = w
    by false is false w rest = rest (ap (λ b. is_some (cond b (Some e.1) (lookup (nat_eq n) (remove_entry key es)))) (sym is) ∙ w)

there_mapped : (k : Session → Session) (n : ℕ) (es : List (ℕ × Session)) → has_number (map (λ e. (e.0, k e.1)) es) n ≡ true → has_number es n ≡ true
there_mapped k n [] h = h
there_mapped k n (e ∷ es) h =
    elim (nat_eq n e.0) as (λ b. is_some (cond b (Some (k e.1)) (lookup (nat_eq n) (map (λ x. (x.0, k x.1)) es))) ≡ true → is_some (cond b (Some e.1) (lookup (nat_eq n) es)) ≡ true) [
      | true ↦ λ w. refl
      | false ↦ λ w. there_mapped k n es w
    ] h

-- a session that is put is the one of its number
there_put : (number n : ℕ) (s : Session) (es : List (ℕ × Session)) → has_number (insert_entry nat_eq es number s) n ≡ true → (n ≡ number) ⊎ (has_number es n ≡ true)
there_put number n s es h = by (nat_eq n number) refl
  where
    by : (b : Bool) → nat_eq n number ≡ b → (n ≡ number) ⊎ (has_number es n ≡ true)
    by true is = inl (eqb-true n number is)
    by false is = inr (ap is_some (sym (lookup-other n number s es is)) ∙ h)

module _ (p q : PolicyState) where
  -- no session is new
  none_new : q.last ≡ p.last → ((n : ℕ) → is_session q n ≡ true → is_session p n ≡ true) → IsNumberedNext p q
  none_new last within = record {
    last = inl last;
    fresh = λ n there gone. absurd (false≢true (sym gone ∙ within n there));
  }

stays : (p q : PolicyState) → q.last ≡ p.last → q.sessions ≡ p.sessions → IsNumberedNext p q
stays p q last same = none_new p q last (λ n there. ap (λ es. has_number es n) (sym same) ∙ there)

-- a session that is put where there is one
put : (p : PolicyState) (number : ℕ) (s : Session) → is_session p number ≡ true → IsNumberedNext p (with_session p number s)
put p number s here = none_new p (with_session p number s) refl (λ n there. elim (there_put number n s p.sessions there) [
  | inl same ↦ ap (is_session p) same ∙ here
  | inr old ↦ old
])

activate_there : (p : PolicyState) (number : ℕ) (role : List ℕ) → activate_refusal p number role ≡ None → is_session p number ≡ true
unfolding activate_refusal
activate_there p number role h = by (not (is_role p role)) (is_session p number && has (session_of p number).active (slot_of p role)) (is_session p number) _ h
  where
    by : (a b c : Bool) (rest : Option Refusal) → cond a (Some NoRole) (cond b (Some Already) (cond (not c) (Some NotThere) rest)) ≡ None → c ≡ true
    by true b c rest w = cc
    by false true c rest w = cc
    by false false true rest w = refl
    by false false false rest w = cc

deactivate_there : (p : PolicyState) (number : ℕ) (role : List ℕ) → deactivate_refusal p number role ≡ None → is_session p number ≡ true
unfolding deactivate_refusal
deactivate_there p number role h =
    (and_parts _ _ (by (not (is_role p role)) (is_session p number && has (session_of p number).active (slot_of p role)) h)).0
  where
    by : (a b : Bool) → cond a (Some NoRole) (cond (not b) (Some NotThere) None) ≡ None → b ≡ true
    by true b w = cc
    by false true w = refl
    by false false w = cc

-- the session that is opened is the next one
next : (p : PolicyState) (user : List ℕ) (roles : List (List ℕ)) → IsNumberedNext p (opened p user roles)
next p user roles = record {
  last = inr refl;
  fresh = λ n there gone. elim (there_put (p.last + 1) n _ p.sessions there) [
    | inl same ↦ (same, refl)
    | inr old ↦ absurd (false≢true (sym gone ∙ old))
  ];
}

numbered : (p : PolicyState) (command : Command) → refusal_of p command ≡ None → IsNumberedNext p (after p command)
numbered p (DeleteUser user) allowed = none_new p _ refl (λ n there. there_filter _ n p.sessions there)
numbered p (AddRole role) allowed = by (first_free p.order.roles)
  where
    by : (slot : Option ℕ) → IsNumberedNext p (option_map_or (role_at p role) slot p)
    by None = stays p p refl refl
    by (Some slot) = stays p (role_at p role slot) refl refl
numbered p (DeleteRole role) allowed = none_new p _ refl (λ n there. there_mapped _ n p.sessions there)
numbered p (DeassignUser user role) allowed = none_new p _ refl (λ n there. there_mapped _ n p.sessions there)
numbered p (DeleteInheritance senior junior) allowed = none_new p _ refl (λ n there. there_mapped _ n p.sessions there)
numbered p (CreateSession user roles) allowed = next p user roles
numbered p (DeleteSession number) allowed = none_new p _ refl (λ n there. there_removed _ n p.sessions there)
numbered p (AddActiveRole number role) allowed = put p number _ (activate_there p number role allowed)
numbered p (DropActiveRole number role) allowed = put p number _ (deactivate_there p number role allowed)
numbered p Migrate allowed = none_new p _ refl (λ n there. there_mapped _ n p.sessions there)
numbered p command allowed = stays p (after p command) refl refl

second_none : {X : Type 0} (a b : Option X) → option_or a b ≡ None → b ≡ None
second_none None b h = h
second_none (Some x) b h = cc

pub step_numbered : (p : PolicyState) (session : ℕ) (command : Command) → IsNumberedNext p (step p session command).0
unfolding step
step_numbered p session command = by (option_or (guard p session command) (refusal_of p command)) (λ none. numbered p command (second_none (guard p session command) (refusal_of p command) none))
  where
    by : (refusal : Option Refusal) → (refusal ≡ None → IsNumberedNext p (after p command)) → IsNumberedNext p (answered p refusal (after p command) (outcome_of p command)).0
    by None h = h refl
    by (Some e) h = stays p p refl refl

pub rise_next : (p q : PolicyState) → IsNumberedNext p q → DoNumbersRise p q
rise_next p q h = record {
  last = elim h.last [ inl same ↦ omega (arith, same) | inr more ↦ omega (arith, more) ];
  fresh = λ n there gone. (let is = h.fresh n there gone in (omega (arith, is.0), omega (arith, is.0, is.1)));
}

pub rise_same : (p : PolicyState) → DoNumbersRise p p
rise_same p = record { last = omega arith; fresh = λ n there gone. absurd (false≢true (sym gone ∙ there)) }

pub rise_on : (p q r : PolicyState) → DoNumbersRise p q → DoNumbersRise q r → DoNumbersRise p r
rise_on p q r h k = record { last = omega (arith, h.last, k.last); fresh = λ n there gone. by n there gone (is_session q n) refl }
  where
    by : (n : ℕ) → is_session r n ≡ true → is_session p n ≡ false → (t : Bool) → is_session q n ≡ t → (p.last < n) × (n ≤ r.last)
    by n there gone true is = (let old = h.fresh n is gone in (old.0, omega (arith, old.1, k.last)))
    by n there gone false is = (let new = k.fresh n there is in (omega (arith, new.0, h.last), new.1))

pub rise_used : (p q : PolicyState) → AreNumbersUsed p → DoNumbersRise p q → AreNumbersUsed q
rise_used p q used h n there = by (is_session p n) refl
  where
    by : (t : Bool) → is_session p n ≡ t → n ≤ q.last
    by true is = omega (arith, used n is, h.last)
    by false is = (h.fresh n there is).1

pub used_by_order : (low last : ℕ) (es : List (ℕ × Session)) → rise low last (numbers_of es) ≡ true → (n : ℕ) → has_number es n ≡ true → n ≤ last
used_by_order low last [] r n there = absurd (false≢true there)
used_by_order low last (e ∷ es) r n there =
    let rest = and_parts _ _ (and_parts _ _ r).1 in
    by (leb-true e.0 last rest.0) (used_by_order e.0 last es rest.1 n) (nat_eq n e.0) refl there
  where
    by : e.0 ≤ last → (has_number es n ≡ true → n ≤ last) → (b : Bool) → nat_eq n e.0 ≡ b → is_some (cond b (Some e.1) (lookup (nat_eq n) es)) ≡ true → n ≤ last
    by few later true is w = (let same : n ≡ e.0 = eqb-true n e.0 is in omega (arith, same, few))
    by few later false is w = later w
