-- Where several sets of roles break no set, none of them breaks one by itself.
use Rattle.std.proofs.Common.{◌≡◌, ℕ, zero, suc, ◌<◌, Bool, false, cond, List, [], ◌∷◌, Some, None, map, length, get_or, sym, refl, ap, ap₂, ◌∙◌, arith}
use Rattle.std.specs.Prelude.{Contains}
use Rattle.std.specs.List.{list_any}
use Rattle.std.proofs.lemmas.Bool.{or_parts}
use Rattle.separation_core.specs.Groups.{Groups, HoldsFor, is_broken, first_broken, first_breaking}
use Rattle.separation_core.specs.GroupLaws.{first_broken-holds}
use Rattle.policy_core.specs.BreakLaws.{not_broken}

module _ {E : Type 0} (g : E → ℕ) where
  fails_at : (test : ℕ → Bool) (es : List E) (e : E) → list_any test (map g es) ≡ false → (k : ℕ) → k < length es → get_or es k e ≡ e → test (g e) ≡ false
  fails_at test [] e none k h is = absurd (omega (arith, h))
  fails_at test (x ∷ xs) e none zero h is = ap (λ y. test (g y)) (sym is) ∙ (or_parts _ _ none).0
  fails_at test (x ∷ xs) e none (suc k) h is = fails_at test xs e (or_parts _ _ none).1 k (omega (arith, h)) is

  whole_at : (es : List E) (groups : Groups) → first_breaking (map g es) groups ≡ None → (e : E) → Contains es e → first_broken (g e) groups ≡ None
  unfolding first_breaking first_broken
  whole_at es [] none e there = refl
  whole_at es (l ∷ groups) none e there =
      let parts = not_broken (list_any (λ given. is_broken given l.1) (map g es)) l.0 (first_breaking (map g es) groups) none in
      ap₂ (λ t rest. cond t (Some l.0) rest) (fails_at (λ given. is_broken given l.1) es e parts.0 there.0 there.1 there.2) (whole_at es groups parts.1 e there)

  pub holds_at : (es : List E) (groups : Groups) → first_breaking (map g es) groups ≡ None → (e : E) → Contains es e → HoldsFor (g e) groups
  holds_at es groups none e there = first_broken-holds (g e) groups (whole_at es groups none e there)
