-- The named vehicles of a commit, by its new routes.
use Rattle.std.proofs.Common.{◌≡◌, ℕ, zero, suc, ◌+◌, ◌<◌, ◌≤◌, List, [], ◌∷◌, length, drop, get_or, All, Option, Some, None, refl, sym, ap, subst, ◌∙◌, arith}
use Rattle.std.specs.Prelude.{slice_get}
use Rattle.std.specs.Option.{option_map}
use Rattle.std.specs.declared.sync.Arc.{Arc}
use Rattle.plan_core.specs.Commits.{named_vehicles}
use Rattle.plan_core.specs.Plan.{Changes, changes_of, route_at}
use Rattle.move_core.specs.declared.moves.Move.{Move}
use Rattle.board_state.specs.Deltas.{spots_behind, kept_by, new_spots}

pub item_read : {Z : Type 0} (items : List (ℕ × Arc (List ℕ) Z)) (k : ℕ) (x : ℕ × Arc (List ℕ) Z) → k < length items → x ≡ get_or items k x → slice_get (changes_of items) k ≡ Some (x.0, x.1.value)
item_read [] k x lt e = absurd (omega (arith, lt))
item_read (y ∷ ys) zero x lt e = ap (λ z. Some (z.0, z.1.value)) (sym e)
item_read (y ∷ ys) (suc k) x lt e = item_read ys k x (omega (arith, lt)) e

pub short_read : {Z : Type 0} (items : List (ℕ × Arc (List ℕ) Z)) (k : ℕ) (x : ℕ × Arc (List ℕ) Z) → k < length items → x ≡ get_or items k x
    → All (λ c. length c.1.value ≤ 1000) items → length x.1.value ≤ 1000
short_read items k x lt e short = subst (λ z. length z.1.value ≤ 1000) (sym e) (short k x lt)

pub as_many : {Z : Type 0} (items : List (ℕ × Arc (List ℕ) Z)) → length (changes_of items) ≡ length items
as_many [] = refl
as_many (x ∷ xs) = ap suc (as_many xs)

pub name_at : (changes : Changes) (names : List ℕ) (k : ℕ) (c : ℕ × List ℕ) → named_vehicles changes ≡ names → slice_get changes k ≡ Some c → slice_get names k ≡ Some c.0
name_at changes names k c same at = subst (λ l. slice_get l k ≡ Some c.0) same (by_place changes k at)
  where
    by_place : (cs : Changes) (j : ℕ) → slice_get cs j ≡ Some c → slice_get (named_vehicles cs) j ≡ Some c.0
    by_place [] j h = absurd cc
    by_place (d ∷ ds) zero h = let e : d ≡ c = cc in ap (λ z. Some z.0) e
    by_place (d ∷ ds) (suc j) h = by_place ds j h

pub two_named : (changes : Changes) (v w : ℕ) → named_vehicles changes ≡ v ∷ w ∷ [] → length changes ≡ 2
two_named [] v w h = absurd cc
two_named (c ∷ []) v w h = absurd cc
two_named (c ∷ d ∷ []) v w h = refl
two_named (c ∷ d ∷ e ∷ cs) v w h = absurd cc

pub spots_same : (routes others : List (List ℕ)) (mv : Move) (v vehicle kept : ℕ) (old new : List ℕ) → vehicle ≡ v → kept ≡ kept_by mv vehicle → old ≡ route_at routes v → new ≡ route_at others v
    → spots_behind vehicle (kept + 1) old (drop kept new) ≡ new_spots routes others mv v
spots_same routes others mv v vehicle kept old new same front was is =
    let keeps : kept ≡ kept_by mv v = front ∙ ap (kept_by mv) same in
    λ i. spots_behind (same i) (keeps i + 1) (was i) (drop (keeps i) (is i))

pub none_back : {A B : Type 0} (f : A → B) (o : Option A) → option_map f o ≡ None → o ≡ None
none_back f None h = refl
none_back f (Some x) h = absurd cc

pub some_back : {A B : Type 0} (f : A → B) (o : Option A) (y : B) → option_map f o ≡ Some y → (x : A) × (o ≡ Some x) × (f x ≡ y)
some_back f None y h = absurd cc
some_back f (Some x) y h = (x, refl, cc)
