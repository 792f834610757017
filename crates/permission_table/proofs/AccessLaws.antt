-- CheckAccess by its test and by the two roles that exist.
use Rattle.std.proofs.Common.{◌≡◌, ℕ, ◌<◌, Bool, true, ◌&&◌, ◌↔◌, List, [], ◌∷◌, Option, Some, None, refl, ap, ◌∙◌, subst}
use Rattle.std.specs.Prelude.{nat_eq, is_some, unwrap_or}
use Rattle.std.specs.Map.{lookup}
use Rattle.std.proofs.lemmas.Bool.{and_parts, and_from, false≢true}
use Rattle.role_hierarchy.specs.Roles.{has}
use Rattle.role_hierarchy.specs.Order.{Order, Chain, stands}
use Rattle.role_hierarchy.specs.Below.{closed, IsOrder}
use Rattle.role_hierarchy.specs.BelowLaws.{has-closed}
use Rattle.permission_core.specs.declared.objects.Operation.{Operation}
use Rattle.permission_core.specs.declared.objects.Object.{Object}
use Rattle.permission_core.specs.Objects.{number_of}
use Rattle.policy_core.specs.declared.session.Session.{Session}
use Rattle.policy_core.specs.State.{PolicyState}
use Rattle.policy_core.specs.Access.{is_reached, reaches, is_here, has_access, CheckAccess}
use Rattle.permission_table.proofs.SomeLaws.{some_below-at, some_below-found}

-- a chain of pairs ends at a slot
chain_small : (order : Order) → IsOrder order → (a : ℕ) (rest : List ℕ) (b : ℕ) → a < 256 → Chain (stands order) a rest b → b < 256
chain_small order is a [] b h chain = subst (λ n. n < 256) chain h
chain_small order is a (x ∷ rest) b h chain = chain_small order is x rest b (is.small a x chain.0) chain.1

module _ (p : PolicyState) (is : IsOrder p.order) (session : ℕ) (operation : Operation) (object : Object) where
  test_at : Option Session → Bool
  test_at found = is_some found && (is_here p object && reaches p (unwrap_or found (record { user = []; active = 0 })).active operation (number_of object))

  there : (found : Option Session) → lookup (nat_eq session) p.sessions ≡ found → test_at found ≡ true → CheckAccess p session operation object
  unfolding test_at reaches
  there None at h = absurd (false≢true h)
  there (Some s) at h =
      let parts = and_parts _ _ h in
      let below = some_below-found (is_reached p (closed p.order s.active) operation (number_of object)) 256 parts.1 in
      let reached = and_parts _ _ below.1 in
      let from = (has-closed p.order is s.active below.0).0 reached.0 in
      (s, at, parts.0, (from.0, from.1, from.2, (below.0, from.3, reached.1)))

  back : CheckAccess p session operation object → test_at (lookup (nat_eq session) p.sessions) ≡ true
  unfolding test_at reaches
  back c =
      let s : Session = c.0 in
      let a : ℕ = c.3.0 in
      let b : ℕ = c.3.3.0 in
      let below : has (closed p.order s.active) b ≡ true = (has-closed p.order is s.active b).1 (a, c.3.1, c.3.2, c.3.3.1) in
      ap test_at c.1 ∙ and_from _ _ c.2
      (some_below-at (is_reached p (closed p.order s.active) operation (number_of object)) b 256 (chain_small p.order is a c.3.3.1.0 b c.3.1 c.3.3.1.1) (and_from _ _ below c.3.3.2))

  pub access_exists : (has_access p session operation object ≡ true) ↔ CheckAccess p session operation object
  unfolding has_access test_at
  access_exists = (there (lookup (nat_eq session) p.sessions) refl, back)
