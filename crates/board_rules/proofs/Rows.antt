-- The rows of a listing are unique.
use Rattle.std.proofs.Common.{◌≡◌, ℕ, zero, suc, ◌<◌, List, [], ◌∷◌, length, map, take, refl, sym, ap, ap₂, ◌∙◌, subst, arith}
use Rattle.std.specs.Prelude.{All, slice_index, if◌then◌else◌, ◌==◌}
use Rattle.std.proofs.lemmas.Grind.{same_number_lists}
use Rattle.dimension_core.specs.Cumuls.{IsEarly, table_of}
use Rattle.dimension_core.specs.Setting.{Setting, dimension_at}
use Rattle.plan_core.specs.declared.touch.Touch.{Touch}
use Rattle.plan_core.specs.Plan.{route_at}
use Rattle.board_rules.specs.Listing.{RowShown, HasEarlyValues, IsListing, spot_of}
use Rattle.board_rules.specs.State.{BoardState}

module _ (s : Setting) (routes : List (List ℕ)) where
  same_early : (row other : RowShown) → row.vehicle ≡ other.vehicle → row.place ≡ other.place → HasEarlyValues s routes row → HasEarlyValues s routes other → row.early ≡ other.early
  same_early row other vehicles places one two =
      same_number_lists row.early other.early sized (λ k below. same k below)
    where
      sized : length row.early ≡ length other.early
      sized = one.sized ∙ (ap (λ (v : ℕ). if v == 0 then 0 else length s.dimensions) vehicles ∙ sym two.sized)

      Early : ℕ → ℕ → ℕ → ℕ → Type 0
      Early k v p y = IsEarly (table_of s.tables (dimension_at s k)) (dimension_at s k) v (take p (route_at routes v)) y

      same : (k : ℕ) → k < length row.early → slice_index row.early k ≡ slice_index other.early k
      same k below =
          let sizes = sized in
          let a = one.values k below in
          let b = two.values k (omega (arith, below, sizes)) in
          let b' = subst (λ (v : ℕ). Early k v row.place (slice_index other.early k)) (sym vehicles)
          (subst (λ (p : ℕ). Early k other.vehicle p (slice_index other.early k)) (sym places) b) in
          let low = a.least (slice_index other.early k) b'.reached in
          let high = b'.least (slice_index row.early k) a.reached in
          omega (arith, low, high)

  same_row : (row other : RowShown) → spot_of row ≡ spot_of other → HasEarlyValues s routes row → HasEarlyValues s routes other → row ≡ other
  same_row row other spots one two =
      let vehicles : row.vehicle ≡ other.vehicle = ap (λ (t : Touch). t.vehicle) spots in
      let places : row.place ≡ other.place = ap (λ (t : Touch). t.place) spots in
      let customers : row.customer ≡ other.customer = ap (λ (t : Touch). t.customer) spots in
      let early = same_early row other vehicles places one two in
      λ i. record { vehicle = vehicles i; place = places i; customer = customers i; early = early i }

  heads : (a b : Touch) (xs ys : List Touch) → a ∷ xs ≡ b ∷ ys → a ≡ b
  heads a b xs ys h = cc

  tails : (a b : Touch) (xs ys : List Touch) → a ∷ xs ≡ b ∷ ys → xs ≡ ys
  tails a b xs ys h = cc

  same_rows : (rows others : List RowShown) → map spot_of rows ≡ map spot_of others → All (HasEarlyValues s routes) rows → All (HasEarlyValues s routes) others → rows ≡ others
  same_rows [] [] h one two = refl
  same_rows [] (y ∷ ys) h one two = absurd cc
  same_rows (x ∷ xs) [] h one two = absurd cc
  same_rows (x ∷ xs) (y ∷ ys) h one two =
      ap₂ (λ a rest. a ∷ rest)
      (same_row x y (heads (spot_of x) (spot_of y) (map spot_of xs) (map spot_of ys) h) (one zero x (omega arith)) (two zero y (omega arith)))
      (same_rows xs ys (tails (spot_of x) (spot_of y) (map spot_of xs) (map spot_of ys) h) (λ k d below. one (suc k) d (omega (arith, below))) (λ k d below. two (suc k) d (omega (arith, below))))

pub same_listing : (s : Setting) (state : BoardState) (session : ℕ) (rows others : List RowShown) → IsListing s state session rows → IsListing s state session others → rows ≡ others
same_listing s state session rows others one two = same_rows s state.routes rows others (one.spots ∙ sym two.spots) one.early two.early
