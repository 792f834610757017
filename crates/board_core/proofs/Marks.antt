-- The marks of the customers that stand on routes.
use Rattle.std.proofs.Common.{◌≡◌, ℕ, zero, suc, ◌+◌, ◌-◌, ◌<◌, ◌≤◌, Bool, true, false, List, [], ◌∷◌, ◌++◌, length, take, refl, sym, ap, ◌∙◌, arith, slice_index, inl, inr, length-set}
use Rattle.std.specs.Prelude.{slice_index_or, slice_set, replicate, ◌==◌, ◌||◌}
use Rattle.std.specs.List.{list_any}
use Rattle.std.proofs.lemmas.Bool.{cases_eq, eq-eqb, ne_eqb}
use Rattle.std.proofs.lemmas.List.{take_more, get_or-set_same, get_or-set_other}
use Rattle.plan_core.specs.Plan.{route_at}
use Rattle.plan_core.specs.Among.{is_among}
use Rattle.move_core.specs.Moves.{is_placed}
use Rattle.board_core.specs.Shown.{AreMarked, AreMarkedOn}

or_assoc : (a b c : Bool) → (a || (b || c)) ≡ ((a || b) || c)
or_assoc true b c = refl
or_assoc false b c = refl

or_false : (a : Bool) → (a || false) ≡ a
or_false true = refl
or_false false = refl

any_push : {X : Type 0} (p : X → Bool) (xs : List X) (x : X) → list_any p (xs ++ x ∷ []) ≡ (list_any p xs || p x)
any_push p [] x = or_false (p x)
any_push p (y ∷ ys) x = ap (λ (b : Bool). p y || b) (any_push p ys x) ∙ or_assoc (p y) (list_any p ys) (p x)

pub marked_none : (old : List Bool) → AreMarkedOn [] old old
marked_none old = record { sized = refl; each = λ k h. sym (or_false (slice_index_or old k false)) }

-- one customer of the route more
pub marked_more : (route : List ℕ) (i : ℕ) (old mid : List Bool) → i < length route → 1 ≤ slice_index route i → slice_index route i ≤ length old
    → AreMarkedOn (take i route) old mid → AreMarkedOn (take (i + 1) route) old (slice_set mid (slice_index route i - 1) true)
marked_more route i old mid h low high a =
    let c : ℕ = slice_index route i in
    let sized = a.sized in
    record {
      sized = length-set mid (c - 1) true ∙ a.sized;
      each = λ k below.
          let front : is_among (k + 1) (take (i + 1) route) ≡ (is_among (k + 1) (take i route) || (c == k + 1)) =
          ap (λ (xs : List ℕ). is_among (k + 1) xs) (take_more route i 0 h) ∙ any_push (λ m. m == k + 1) (take i route) c in
          elim (cases_eq c (k + 1)) [
            | inl same ↦
                let at : c - 1 ≡ k = omega (arith, same) in
                let within : c - 1 < length mid = omega (arith, same, sized, below) in
                let set : slice_index_or (slice_set mid (c - 1) true) k false ≡ true =
                ap (λ (n : ℕ). slice_index_or (slice_set mid (c - 1) true) n false) (sym at) ∙ get_or-set_same mid (c - 1) true false within in
                set ∙ sym (ap (λ (b : Bool). slice_index_or old k false || b) (front ∙ ap (λ (b : Bool). is_among (k + 1) (take i route) || b) (eq-eqb c (k + 1) same))
                ∙ all_true (slice_index_or old k false) (is_among (k + 1) (take i route)))
            | inr other ↦
                let apart : (k ≡ c - 1) → ⊥ = λ e. other (omega (arith, e, low)) in
                get_or-set_other mid (c - 1) k true false apart ∙ (a.each k below
                ∙ sym (ap (λ (b : Bool). slice_index_or old k false || b) (front ∙ (ap (λ (b : Bool). is_among (k + 1) (take i route) || b) (ne_eqb c (k + 1) other) ∙ or_false (is_among (k + 1) (take i route))))))
          ];
    }
  where
    all_true : (a b : Bool) → (a || (b || true)) ≡ true
    all_true true b = refl
    all_true false true = refl
    all_true false false = refl

pub none_marked : (old : List Bool) → AreMarked [] old old
none_marked old = record { sized = refl; each = λ k h. sym (or_false (slice_index_or old k false)) }

-- one more route
pub routes_marked : (routes : List (List ℕ)) (i : ℕ) (old mid new : List Bool) → i < length routes → AreMarked (take i routes) old mid
    → AreMarkedOn (route_at routes (i + 1)) mid new → AreMarked (take (i + 1) routes) old new
routes_marked routes i old mid new h a b =
    let sized = a.sized in
    let f : slice_index_or routes i [] ≡ route_at routes (i + 1) = ap (λ (n : ℕ). slice_index_or routes n []) (let e : i ≡ i + 1 - 1 = omega arith in e) in
    record {
      sized = b.sized ∙ a.sized;
      each = λ k below.
          let front : is_placed (take (i + 1) routes) (k + 1) ≡ (is_placed (take i routes) (k + 1) || is_among (k + 1) (route_at routes (i + 1))) =
          ap (λ (rs : List (List ℕ)). is_placed rs (k + 1)) (take_more routes i [] h) ∙ (any_push (λ r. is_among (k + 1) r) (take i routes) (slice_index_or routes i [])
          ∙ ap (λ (r : List ℕ). is_placed (take i routes) (k + 1) || is_among (k + 1) r) f) in
          b.each k (omega (arith, sized, below)) ∙ (ap (λ (x : Bool). x || is_among (k + 1) (route_at routes (i + 1))) (a.each k below)
          ∙ (sym (or_assoc (slice_index_or old k false) (is_placed (take i routes) (k + 1)) (is_among (k + 1) (route_at routes (i + 1))))
          ∙ ap (λ (x : Bool). slice_index_or old k false || x) (sym front)));
    }

-- marks that were all unset at first say which customers stand somewhere
pub marks_tell : (routes others : List (List ℕ)) (n : ℕ) (old new : List Bool) → old ≡ replicate n false → routes ≡ others → AreMarked routes old new
    → (k : ℕ) → k < length new → slice_index_or new k false ≡ is_placed others (k + 1)
marks_tell routes others n old new e same a k below =
    let sized = a.sized in
    a.each k (omega (arith, sized, below)) ∙ (ap (λ (b : Bool). b || is_placed routes (k + 1)) (ap (λ (xs : List Bool). slice_index_or xs k false) e ∙ none n k)
    ∙ ap (λ (rs : List (List ℕ)). is_placed rs (k + 1)) same)
  where
    none : (m i : ℕ) → slice_index_or (replicate m false) i false ≡ false
    none zero i = refl
    none (suc m) zero = refl
    none (suc m) (suc i) = none m i

-- marks that are written over a list of the same length
pub written_back : (n : ℕ) (xs ys : List Bool) → n ≡ length xs → take n (xs ++ ys) ≡ xs
written_back n xs ys e = ap (λ (m : ℕ). take m (xs ++ ys)) e ∙ front xs ys
  where
    front : (ps qs : List Bool) → take (length ps) (ps ++ qs) ≡ ps
    front [] qs = refl
    front (p ∷ ps) qs = ap (λ (l : List Bool). p ∷ l) (front ps qs)
