use Rattle.std.proofs.Common.{◌≡◌, ◌<◌, ℕ, length, sym, ap, ◌∙◌, subst, arith, [], ◌∷◌, refl}
use Rattle.std.proofs.lemmas.Bool.{false≢true}
use Rattle.separation_core.specs.Groups.{Groups}
use Rattle.separation_core.specs.Index.{IsIndex, IsPlaces}
use Rattle.separation_core.proofs.Coming.{breaks_at_coming}
use Rattle.separation_core.proofs.sets.Sets.has_broken_coming.Goals as goal

some_there : (groups : Groups) → (groups ≡ [] → ⊥) → 0 < length groups
some_there [] apart = absurd (apart refl)
some_there (g ∷ groups) apart = omega arith

pub places_of-requires : goal.places_of-requires
places_of-requires c = ap length c.deref.ensures.value
    ∙ c.self.invariant.whole (subst (λ gs. 0 < length gs) (sym c.self.view_is) (some_there c.args.self.now (λ e. false≢true (sym c.if-is_empty.false ∙ c.is_empty.ensures.1 e))))

pub returns : goal.returns
returns c =
    let groups = c.args.self.now in
    let some : 0 < length groups = some_there groups (λ e. false≢true (sym c.if-is_empty.false ∙ c.is_empty.ensures.1 e)) in
    let whole : length c.self.inside.rows.items ≡ 256 = c.self.invariant.whole (subst (λ gs. 0 < length gs) (sym c.self.view_is) some) in
    let index : IsIndex c.self.inside.rows.items groups = subst (λ gs. IsIndex c.self.inside.rows.items gs) c.self.view_is c.self.invariant.index in
    let places : IsPlaces c.places_of.result c.self.inside.rows.items c.args.coming = subst (λ rows. IsPlaces c.places_of.result rows c.args.coming) c.deref.ensures.value c.places_of.ensures in
    breaks_at_coming groups c.self.inside.rows.items c.args.coming c.places_of.result (λ q h. below q (length c.self.inside.rows.items) whole (c.is_small.ensures q h)) index places
    c.args.given c.has_broken_at.result c.has_broken_at.ensures
  where
    below : (q n : ℕ) → n ≡ 256 → q < 256 → q < n
    below q n e h = omega (arith, e, h)
