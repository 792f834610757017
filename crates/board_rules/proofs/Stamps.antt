-- A stamp says whether some commit after a base changed a vehicle, and so does the list of commits.
use Rattle.std.proofs.Common.{◌≡◌, ℕ, zero, suc, ◌+◌, ◌≤◌, Bool, true, false, List, [], ◌∷◌, refl, sym, ap, ◌∙◌, arith}
use Rattle.std.specs.Prelude.{◌||◌, ◌↔◌, nat_lt, if◌then◌else◌}
use Rattle.std.proofs.lemmas.Bool.{ltb-false, le-ltb}
use Rattle.std.proofs.lemmas.Grind.{common_steps}
use Rattle.plan_core.specs.Among.{is_among}
use Rattle.plan_core.specs.Commits.{IsCurrentAt, last_commit}
use Rattle.board_rules.specs.Rules.{is_changed_after}

-- the number of the last commit where one more list comes first, and n is that of the rest
first_last : Bool → ℕ → ℕ
first_last b n = if nat_lt 0 n then n + 1 else (if b then 1 else 0)

below : (b : Bool) (n : ℕ) → (b || nat_lt 0 n) ≡ nat_lt 0 (first_last b n)
unfolding first_last
below true zero = refl
below false zero = refl
below true (suc n) = grind (arith, common_steps)
below false (suc n) = grind (arith, common_steps)

above : (b : Bool) (k n : ℕ) → nat_lt k n ≡ nat_lt (suc k) (first_last b n)
unfolding first_last
above true k zero = grind (arith, common_steps)
above false k zero = grind (arith, common_steps)
above true k (suc n) = grind (arith, common_steps)
above false k (suc n) = grind (arith, common_steps)

pub changed_by_stamp : (commits : List (List ℕ)) (base v : ℕ) → is_changed_after commits base v ≡ nat_lt base (last_commit v commits)
unfolding first_last
changed_by_stamp [] zero v = refl
changed_by_stamp [] (suc base) v = grind (arith, common_steps)
changed_by_stamp (c ∷ cs) zero v = ap (λ b. is_among v c || b) (changed_by_stamp cs zero v) ∙ below (is_among v c) (last_commit v cs)
changed_by_stamp (c ∷ cs) (suc base) v = changed_by_stamp cs base v ∙ above (is_among v c) base (last_commit v cs)

-- and so whether the vehicle is current at the base
pub current_by_test : ((commits : List (List ℕ)) (base v : ℕ) → IsCurrentAt commits base v ↔ (last_commit v commits ≤ base))
    → (commits : List (List ℕ)) (base v : ℕ) → (is_changed_after commits base v ≡ false) ↔ IsCurrentAt commits base v
current_by_test law commits base v = (
  (λ unchanged. (law commits base v).1 (ltb-false base (last_commit v commits) (sym (changed_by_stamp commits base v) ∙ unchanged))),
  (λ current. changed_by_stamp commits base v ∙ le-ltb base (last_commit v commits) ((law commits base v).0 current)),
)
