-- One or two drafts, read from their list.
use Rattle.std.proofs.Common.{◌≡◌, ◌≢◌, ◌∙◌, ℕ, ◌≤◌, ap, refl, arith, List, [], ◌∷◌, length, get_or}
use Rattle.plan_core.specs.Drafts.{DraftState, AreFrontsWithin, drafted, drafts_of}
use Rattle.plan_core.specs.Plan.{Changes, AreChanges, route_at}

pub record IsDraft (routes : List (List ℕ)) (d : DraftState) : Type 0 where
  pub low : 1 ≤ d.vehicle
  pub high : d.vehicle ≤ length routes
  pub front : d.kept ≤ length (route_at routes d.vehicle)

pub first_draft : (routes : List (List ℕ)) (seen drafts : List DraftState) (d : DraftState) → seen ≡ drafts → d ≡ get_or seen 0 d
    → AreChanges (length routes) (drafts_of routes drafts) → AreFrontsWithin routes drafts → IsDraft routes d
first_draft routes seen [] d same is changes fronts = let some = changes.some in absurd (omega arith)
first_draft routes seen (x ∷ xs) d same is changes fronts =
    let here : d ≡ x = is ∙ ap (λ (ds : List DraftState). get_or ds 0 d) same in
    rw here (record { low = changes.apart.0; high = changes.apart.1; front = fronts 0 x (omega arith) })

pub second_draft : (routes : List (List ℕ)) (seen drafts : List DraftState) (d : DraftState) → seen ≡ drafts → length seen ≢ 1 → d ≡ get_or seen 1 d
    → AreChanges (length routes) (drafts_of routes drafts) → AreFrontsWithin routes drafts → IsDraft routes d
second_draft routes seen [] d same many is changes fronts = let some = changes.some in absurd (omega arith)
second_draft routes seen (x ∷ []) d same many is changes fronts = absurd (many (ap length same))
second_draft routes seen (x ∷ (y ∷ ys)) d same many is changes fronts =
    let here : d ≡ y = is ∙ ap (λ (ds : List DraftState). get_or ds 1 d) same in
    rw here (record { low = changes.apart.3.0; high = changes.apart.3.1; front = fronts 1 y (omega arith) })

-- their new routes
pub one_drafted : (routes : List (List ℕ)) (seen drafts : List DraftState) (d : DraftState) (v : ℕ) (route : List ℕ) → seen ≡ drafts → length seen ≡ 1 → d ≡ get_or seen 0 d
    → v ≡ d.vehicle → route ≡ drafted routes d → ◌≡◌ {A = Changes} ((v, route) ∷ []) (drafts_of routes drafts)
one_drafted routes seen [] d v route same one is named made = let long = ap length same in absurd (omega arith)
one_drafted routes seen (x ∷ []) d v route same one is named made =
    let here : d ≡ x = is ∙ ap (λ (ds : List DraftState). get_or ds 0 d) same in
    rw (named, made, here) refl
one_drafted routes seen (x ∷ (y ∷ ys)) d v route same one is named made = let long = ap length same in absurd (omega arith)

pub two_drafted : (routes : List (List ℕ)) (seen drafts : List DraftState) (d e : DraftState) (v w : ℕ) (route other : List ℕ) → seen ≡ drafts → length seen ≢ 1
    → AreChanges (length routes) (drafts_of routes drafts) → d ≡ get_or seen 0 d → e ≡ get_or seen 1 e
    → v ≡ d.vehicle → route ≡ drafted routes d → w ≡ e.vehicle → other ≡ drafted routes e
    → ◌≡◌ {A = Changes} ((v, route) ∷ (w, other) ∷ []) (drafts_of routes drafts)
two_drafted routes seen [] d e v w route other same many changes is there named made named_too made_too = let some = changes.some in absurd (omega arith)
two_drafted routes seen (x ∷ []) d e v w route other same many changes is there named made named_too made_too = absurd (many (ap length same))
two_drafted routes seen (x ∷ (y ∷ [])) d e v w route other same many changes is there named made named_too made_too =
    let first : d ≡ x = is ∙ ap (λ (ds : List DraftState). get_or ds 0 d) same in
    let second : e ≡ y = there ∙ ap (λ (ds : List DraftState). get_or ds 1 e) same in
    rw (named, made, named_too, made_too, first, second) refl
two_drafted routes seen (x ∷ (y ∷ (z ∷ zs))) d e v w route other same many changes is there named made named_too made_too =
    let few = changes.few in absurd (omega arith)
