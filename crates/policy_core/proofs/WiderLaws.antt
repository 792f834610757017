-- One more pair: a user that was authorized for no role senior to the pair's senior is authorized for no more roles than before.
use Rattle.std.proofs.Common.{◌≡◌, ℕ, ◌+◌, ◌<◌, Bool, true, false, cond, not, eqb, ◌||◌, List, [], ◌∷◌, ◌++◌, Option, Some, None, map, take, sym, refl, ap, ap₂, ◌∙◌, subst}
use Rattle.std.specs.Prelude.{bit_or, bit_and, slice_get}
use Rattle.std.specs.List.{list_any}
use Rattle.std.proofs.lemmas.Bool.{or_parts, true≢false, false≢true, and_from, and_parts, eq-eqb, ne_eqb}
use Rattle.std.proofs.lemmas.List.{append_assoc, append-nil}
use Rattle.role_hierarchy.specs.Roles.{has}
use Rattle.role_hierarchy.specs.Order.{Order, stands, is_there, IsRefusal, with_pair}
use Rattle.role_hierarchy.specs.Below.{closed, juniors_of, IsOrder}
use Rattle.role_hierarchy.specs.BelowLaws.{closed-with_pair, has-juniors_of, has-closed}
use Rattle.role_hierarchy.specs.RoleLaws.{has-bit_and, has-empty, same_roles}
use Rattle.role_hierarchy.specs.declared.hierarchy.HierarchyFault.{HierarchyFault}
use Rattle.role_hierarchy.specs.declared.hierarchy.HierarchyFault.TheVariants.{Full, NotThere, Already, Cycle}
use Rattle.separation_core.specs.Groups.{Groups, first_breaking, is_broken}
use Rattle.separation_core.specs.GroupLaws.{take_at}
use Rattle.std.specs.Option.{option_map}
use Rattle.policy_core.specs.declared.refusal.Refusal.TheVariants.{Ssd, Dsd}
use Rattle.policy_core.specs.declared.session.Counting.{Counting}
use Rattle.policy_core.specs.declared.session.Counting.TheVariants.{Active, Inherited}
use Rattle.policy_core.specs.State.{PolicyState, IsPolicy, counted, broken_ssd, broken_dsd}
use Rattle.policy_core.specs.Wider.{AreSeniors, wider, all_wider, held_in, active_in}
use Rattle.policy_core.specs.BreakLaws.{not_broken}

module _ {E : Type 0} (order : Order) (is : IsOrder order) (s j : ℕ) (in_s : s < 256) (in_j : j < 256) (g : E → ℕ) where
  any_append : (test : ℕ → Bool) (xs ys : List ℕ) → list_any test (xs ++ ys) ≡ (list_any test xs || list_any test ys)
  any_append test [] ys = refl
  any_append test (x ∷ xs) ys = by (test x) (any_append test xs ys)
    where
      by : (t : Bool) → list_any test (xs ++ ys) ≡ (list_any test xs || list_any test ys) → (t || list_any test (xs ++ ys)) ≡ ((t || list_any test xs) || list_any test ys)
      by true h = refl
      by false h = h

  or_none : (t : Bool) → (t || false) ≡ t
  or_none true = refl
  or_none false = refl

  one_wider : (test : ℕ → Bool) (roles : ℕ) → test (closed order roles) ≡ false → test (closed (with_pair order s j) roles) ≡ list_any test (wider order s j roles)
  one_wider test roles none =
      ap test (closed-with_pair order is s j in_s in_j roles)
      ∙ (elim (has (closed order roles) s) as (λ t. test (cond t (bit_or (closed order roles) (juniors_of order j)) (closed order roles)) ≡ list_any test (cond t (bit_or (closed order roles) (juniors_of order j) ∷ []) [])) [
        | true ↦ sym (or_none (test (bit_or (closed order roles) (juniors_of order j))))
        | false ↦ none
      ])

  any_wider : (test : ℕ → Bool) (es : List E) → list_any test (map (λ e. closed order (g e)) es) ≡ false → list_any test (map (λ e. closed (with_pair order s j) (g e)) es) ≡ list_any test (all_wider order s j g es)
  any_wider test [] none = refl
  any_wider test (e ∷ es) none =
      let parts = or_parts _ _ none in
      ap₂ (λ t u. t || u) (one_wider test (g e) parts.0) (any_wider test es parts.1)
      ∙ sym (any_append test (wider order s j (g e)) (all_wider order s j g es))

  -- the first set that is broken with the pair is the first that the wider sets of roles break
  pub breaking_wider : (es : List E) (groups : Groups) → first_breaking (map (λ e. closed order (g e)) es) groups ≡ None →
      first_breaking (map (λ e. closed (with_pair order s j) (g e)) es) groups ≡ first_breaking (all_wider order s j g es) groups
  unfolding first_breaking
  breaking_wider es [] none = refl
  breaking_wider es (l ∷ groups) none =
      let parts = not_broken (list_any (λ given. is_broken given l.1) (map (λ e. closed order (g e)) es)) l.0 (first_breaking (map (λ e. closed order (g e)) es) groups) none in
      ap₂ (λ t rest. cond t (Some l.0) rest) (any_wider (λ given. is_broken given l.1) es parts.0) (breaking_wider es groups parts.1)

-- a role of the set is senior to the senior exactly where the senior is below the set
pub meets_below : (order : Order) → IsOrder order → (s seniors roles : ℕ) → AreSeniors order s seniors → not (eqb (bit_and roles seniors) 0) ≡ has (closed order roles) s
meets_below order is s seniors roles are = by (has (closed order roles) s) refl
  where
    by : (t : Bool) → has (closed order roles) s ≡ t → not (eqb (bit_and roles seniors) 0) ≡ t
    by true h =
        let a = (has-closed order is roles s).0 h in
        let both : has (bit_and roles seniors) a.0 ≡ true = has-bit_and roles seniors a.0 ∙ and_from _ _ a.2 ((are a.0).1 (a.1, a.3)) in
        ap not (ne_eqb (bit_and roles seniors) 0 (λ none. absurd (false≢true (sym (ap (λ n. has n a.0) none ∙ has-empty a.0) ∙ both))))
    by false h = ap not (eq-eqb (bit_and roles seniors) 0 (same_roles _ _ (λ q. no_member q (has (bit_and roles seniors) q) refl ∙ sym (has-empty q))))
      where
        no_member : (q : ℕ) (t : Bool) → has (bit_and roles seniors) q ≡ t → has (bit_and roles seniors) q ≡ false
        no_member q false e = e
        no_member q true e =
            let parts = and_parts _ _ (sym (has-bit_and roles seniors q) ∙ e) in
            let a = (are q).0 parts.1 in
            absurd (false≢true (sym h ∙ (has-closed order is roles s).1 (q, a.0, parts.0, a.1)))

all_wider-append : {E : Type 0} (order : Order) (s j : ℕ) (g : E → ℕ) (xs ys : List E) → all_wider order s j g (xs ++ ys) ≡ all_wider order s j g xs ++ all_wider order s j g ys
all_wider-append order s j g [] ys = refl
all_wider-append order s j g (x ∷ xs) ys = ap (λ rest. wider order s j (g x) ++ rest) (all_wider-append order s j g xs ys) ∙ sym (append_assoc (wider order s j (g x)) (all_wider order s j g xs) (all_wider order s j g ys))

pub all_wider-next : {E : Type 0} (order : Order) (s j : ℕ) (g : E → ℕ) (es : List E) (i : ℕ) (e : E) → slice_get es i ≡ Some e →
    all_wider order s j g (take i es) ++ wider order s j (g e) ≡ all_wider order s j g (take (i + 1) es)
all_wider-next order s j g es i e here =
    ap (λ xs. all_wider order s j g (take i es) ++ xs) (sym (append-nil (wider order s j (g e))))
    ∙ sym (ap (all_wider order s j g) (take_at es i e here) ∙ all_wider-append order s j g (take i es) (e ∷ []))

module _ (order : Order) (is : IsOrder order) (s j : ℕ) (small : j < 256) (senior : is_there order s ≡ true) (junior : is_there order j ≡ true) (new : stands order s j ≡ false) (apart : has (juniors_of order j) s ≡ false) where
  -- the hierarchy does not refuse what was tested before
  pub no_refusal : (e : HierarchyFault) → IsRefusal order s j e → ⊥
  no_refusal Full h = h
  no_refusal NotThere h = true≢false (sym (and_from _ _ senior junior) ∙ h)
  no_refusal Already h = false≢true (sym new ∙ h.1)
  no_refusal Cycle h = false≢true (sym apart ∙ (has-juniors_of order is j s small).1 h.2)

module _ (p now : PolicyState) (same : p ≡ now) (is : IsPolicy p) (order : IsOrder p.order) (s j : ℕ) (in_s : s < 256) (in_j : j < 256) (found : Option (List ℕ)) where
  -- the SSD sets, judged only by the users who get more roles
  pub ssd_of_pair : found ≡ first_breaking (all_wider p.order s j held_in p.users) p.ssd → option_map Ssd found ≡ broken_ssd (record now { order = with_pair now.order s j })
  ssd_of_pair h =
      let P : PolicyState → Type 0 = λ q. option_map Ssd found ≡ broken_ssd (record q { order = with_pair q.order s j }) in
      subst P same (ap (option_map Ssd) (h ∙ sym (breaking_wider p.order order s j in_s in_j held_in p.users p.ssd is.ssd)))

  -- and the DSD sets by such sessions
  pub dsd_of_pair : (p.counting ≡ Active → ⊥) → found ≡ first_breaking (all_wider p.order s j active_in p.sessions) p.dsd → option_map Dsd found ≡ broken_dsd (record now { order = with_pair now.order s j })
  dsd_of_pair inherits h =
      let P : PolicyState → Type 0 = λ q. option_map Dsd found ≡ broken_dsd (record q { order = with_pair q.order s j }) in
      subst P same (ap (option_map Dsd) (h ∙ sym (by p.counting refl is.dsd)))
    where
      by : (counting : Counting) → p.counting ≡ counting → first_breaking (map (λ e. counted counting p.order (active_in e)) p.sessions) p.dsd ≡ None →
          first_breaking (map (λ e. counted counting (with_pair p.order s j) (active_in e)) p.sessions) p.dsd ≡ first_breaking (all_wider p.order s j active_in p.sessions) p.dsd
      by Active e none = absurd (inherits e)
      by Inherited e none = breaking_wider p.order order s j in_s in_j active_in p.sessions p.dsd none

-- what is appended where the roles meet the seniors, and that nothing is where they do not
module _ (order : Order) (is : IsOrder order) (s j seniors juniors roles : ℕ) (are : AreSeniors order s seniors) (below : juniors ≡ juniors_of order j) where
  pub wider_met : not (eqb (bit_and roles seniors) 0) ≡ true → bit_or (closed order roles) juniors ∷ [] ≡ wider order s j roles
  wider_met met =
      ap (λ row. bit_or (closed order roles) row ∷ []) below
      ∙ sym (ap (λ t. cond t (bit_or (closed order roles) (juniors_of order j) ∷ []) []) (sym (meets_below order is s seniors roles are) ∙ met))

  pub wider_apart : not (eqb (bit_and roles seniors) 0) ≡ false → wider order s j roles ≡ []
  wider_apart apart = ap (λ t. cond t (bit_or (closed order roles) (juniors_of order j) ∷ []) []) (sym (meets_below order is s seniors roles are) ∙ apart)

-- where there is no set, none is broken
pub no_set_breaks : (all : List ℕ) (sets : Groups) → sets ≡ [] → None ≡ first_breaking all sets
unfolding first_breaking
no_set_breaks all sets none = sym (ap (first_breaking all) none)
