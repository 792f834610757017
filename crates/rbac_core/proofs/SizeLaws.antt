-- No command changes the numbers of customers and vehicles.
use Rattle.std.proofs.Common.{◌≡◌, ℕ, refl, Option, Some, None}
use Rattle.std.specs.Option.{option_map_or}
use Rattle.role_hierarchy.specs.Roles.{first_free}
use Rattle.policy_core.specs.State.{PolicyState}
use Rattle.rbac_core.specs.declared.command.Command.{Command}
use Rattle.rbac_core.specs.declared.command.Command.TheVariants.{AddRole}
use Rattle.rbac_core.specs.Step.{after}

-- a number that each value of an option gives, and the default too
same_by_option : {X Y : Type 0} (f : Y → ℕ) (g : X → Y) (o : Option X) (d : Y) (n : ℕ) → ((x : X) → f (g x) ≡ n) → f d ≡ n → f (option_map_or g o d) ≡ n
same_by_option f g None d n each none = none
same_by_option f g (Some x) d n each none = each x

pub customers_stay : (p : PolicyState) (command : Command) → (after p command).customers ≡ p.customers
customers_stay p (AddRole role) = same_by_option (λ (q : PolicyState). q.customers) _ (first_free p.order.roles) p p.customers (λ x. refl) refl
customers_stay p command = refl

pub vehicles_stay : (p : PolicyState) (command : Command) → (after p command).vehicles ≡ p.vehicles
vehicles_stay p (AddRole role) = same_by_option (λ (q : PolicyState). q.vehicles) _ (first_free p.order.roles) p p.vehicles (λ x. refl) refl
vehicles_stay p command = refl
