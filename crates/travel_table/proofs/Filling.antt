use Rattle.std.proofs.Common.{◌≡◌, ◌≢◌, ℕ, ◌+◌, ◌-◌, ◌*◌, ◌<◌, ◌≤◌, ◌∙◌, sym, ap, refl, subst, arith, inl, inr, List, length, map, set, slice_index}
use Rattle.std.proofs.lemmas.Bool.{cases_lt, cases_order}
use Rattle.std.proofs.lemmas.List.{get_or-set_other, get_or-set_same, length-set, length-map}
use Rattle.std.proofs.Math.ListN.{get_or-map}
use Rattle.std.specs.Int.{abs_diff}
use Rattle.std.proofs.lemmas.Nat.{same_from_place, mul-add-lt}
use Rattle.solomon_reader.specs.declared.instance.Node.{Node}
use Rattle.travel_table.specs.Root.{IsRoot}
use Rattle.travel_table.specs.Travel.{node_at, point_of, point_at, square_apart, IsTravel, IsWay, AreKnown, IsTravelOf}
use Rattle.travel_table.specs.declared.travel.Point.{Point}
use Rattle.travel_table.proofs.Squares.{square_apart-comm}

abbrev IsSmall : List ℕ → Type 0
IsSmall entries = (k : ℕ) → k < length entries → slice_index entries k ≤ 141421342

set_small : (entries : List ℕ) (p t : ℕ) → t ≤ 141421342 → IsSmall entries → IsSmall (set entries p t)
set_small entries p t small f = λ k below.
    let below' : k < length entries = subst (λ (n : ℕ). k < n) (length-set entries p t) below in
    elim (cases_order k p) [
      | inl same ↦ subst (λ (n : ℕ). slice_index (set entries n t) k ≤ 141421342) same (subst (λ (n : ℕ). n ≤ 141421342) (sym (get_or-set_same entries k t 0 below')) small)
      | inr q ↦ elim q [
        | inl h ↦ subst (λ (n : ℕ). n ≤ 141421342) (sym (get_or-set_other entries p k t 0 (λ e. absurd (omega (arith, e))))) (f k below')
        | inr h ↦ subst (λ (n : ℕ). n ≤ 141421342) (sym (get_or-set_other entries p k t 0 (λ e. absurd (omega (arith, e))))) (f k below')
      ]
    ]

-- two places of different pairs
apart : (a b c d n : ℕ) → b < n → d < n → ((a ≡ c) → (b ≡ d) → ⊥) → a * n + b ≢ c * n + d
apart a b c d n h k f = λ e. let s = same_from_place a b c d n h k e in f s.0 s.1

-- what is at a place to which neither of two writes goes
kept : (entries : List ℕ) (p q k t : ℕ) → k ≢ p → k ≢ q → slice_index (set (set entries p t) q t) k ≡ slice_index entries k
kept entries p q k t f g = get_or-set_other (set entries p t) q k t 0 g ∙ get_or-set_other entries p k t 0 f

written_first : (entries : List ℕ) (p q t : ℕ) → p ≢ q → p < length entries → slice_index (set (set entries p t) q t) p ≡ t
written_first entries p q t f h = get_or-set_other (set entries p t) q p t 0 f ∙ get_or-set_same entries p t 0 h

written_last : (entries : List ℕ) (p q t : ℕ) → q < length entries → slice_index (set (set entries p t) q t) q ≡ t
written_last entries p q t h = get_or-set_same (set entries p t) q t 0 (subst (λ (n : ℕ). q < n) (sym (length-set entries p t)) h)

turned : (points : List Point) (i j t : ℕ) → IsWay points i j t → IsWay points j i t
turned points i j t r = subst (λ (n : ℕ). IsRoot n t) (square_apart-comm (point_at points i) (point_at points j)) r

-- one more pair
pub known_more : (points : List Point) (entries : List ℕ) (i j t : ℕ) → i < j → j < length points → AreKnown points entries (i * length points + j)
    → IsWay points i j t → t ≤ 141421342
    → AreKnown points (set (set entries (i * length points + j) t) (j * length points + i) t) (i * length points + (j + 1))
known_more points entries i j t lt h f r small =
    let n = length points in
    let p = i * n + j in
    let q = j * n + i in
    let first : p < length entries = subst (λ (m : ℕ). p < m) (sym f.counted) (mul-add-lt i n j n (omega arith) h) in
    let last : q < length entries = subst (λ (m : ℕ). q < m) (sym f.counted) (mul-add-lt j n i n h (omega arith)) in
    record {
      counted = length-set (set entries p t) q t ∙ length-set entries p t ∙ f.counted;
      small = set_small (set entries p t) q t small (set_small entries p t small f.small);
      own = λ a k below.
          let other = apart a a i j n k h (λ e g. absurd (omega (arith, e, g))) in
          let before : a * n + a < p = elim (cases_lt (a * n + a) p) [ inl before ↦ before | inr here ↦ absurd (other (omega arith)) ] in
          kept entries p q (a * n + a) t other (apart a a j i n k (omega arith) (λ e g. absurd (omega (arith, e, g)))) ∙ f.own a k before;
      there = λ a b less k below. elim (cases_lt (a * n + b) p) [
        | inl before ↦
            let e = kept entries p q (a * n + b) t (λ e. absurd (omega (arith, e))) (apart a b j i n k (omega arith) (λ e g. absurd (omega (arith, e, g)))) in
            subst (λ (m : ℕ). IsWay points a b m) (sym e) (f.there a b less k before)
        | inr here ↦
            let s = same_from_place a b i j n k h (omega arith) in
            let e = written_first entries p q t (apart i j j i n h (omega arith) (λ e g. absurd (omega (arith, e, g)))) first in
            let r' = subst (λ (m : ℕ). IsWay points i j m) (sym e) r in
            let x = subst (λ (m : ℕ). IsWay points m j (slice_index (set (set entries p t) q t) (m * n + j))) (sym s.0) r' in
            subst (λ (m : ℕ). IsWay points a m (slice_index (set (set entries p t) q t) (a * n + m))) (sym s.1) x
      ];
      back = λ a b less k below. elim (cases_lt (a * n + b) p) [
        | inl before ↦
            let e = kept entries p q (b * n + a) t (apart b a i j n (omega arith) h (λ e g. absurd (omega (arith, e, g)))) (apart b a j i n (omega arith) (omega arith) (λ e g. absurd (let same : a * n + b ≡ p = ap (λ (m : ℕ). m * n + b) g ∙ ap (λ (m : ℕ). i * n + m) e in omega (arith, same)))) in
            subst (λ (m : ℕ). IsWay points a b m) (sym e) (f.back a b less k before)
        | inr here ↦
            let s = same_from_place a b i j n k h (omega arith) in
            let e = written_last entries p q t last in
            let r' = subst (λ (m : ℕ). IsWay points i j m) (sym e) r in
            let x = subst (λ (m : ℕ). IsWay points m j (slice_index (set (set entries p t) q t) (j * n + m))) (sym s.0) r' in
            subst (λ (m : ℕ). IsWay points a m (slice_index (set (set entries p t) q t) (m * n + a))) (sym s.1) x
      ];
    }

-- the travel of a node to itself, the first of its pairs
pub known_own : (points : List Point) (entries : List ℕ) (i : ℕ) → i < length points → AreKnown points entries (i * length points)
    → AreKnown points (set entries (i * length points + i) 0) (i * length points + (i + 1))
known_own points entries i h f =
    let n = length points in
    let p = i * n + i in
    let here : p < length entries = subst (λ (m : ℕ). p < m) (sym f.counted) (mul-add-lt i n i n h h) in
    let within : (a b : ℕ) → a ≤ b → b < n → a * n + b < p + 1 → a * n + b ≢ p → a * n + b < i * n = λ a b le k below other. elim (cases_lt (a * n + b) (i * n)) [
      | inl before ↦ before
      | inr from ↦
          let s = same_from_place a b i (a * n + b - i * n) n k (omega arith) (omega arith) in
          absurd (other (omega (arith, s.0, s.1)))
    ] in
    let stays : (k : ℕ) → k ≢ p → slice_index (set entries p 0) k ≡ slice_index entries k = λ k other. get_or-set_other entries p k 0 0 other in
    record {
      counted = length-set entries p 0 ∙ f.counted;
      small = set_small entries p 0 (omega arith) f.small;
      own = λ a k below. elim (cases_lt (a * n + a) p) [
        | inl before ↦
            let other : a * n + a ≢ p = λ e. absurd (omega (arith, e)) in
            stays (a * n + a) other ∙ f.own a k (within a a (omega arith) k (omega arith) other)
        | inr at ↦
            let same : a * n + a ≡ p = omega arith in
            ap (λ (m : ℕ). slice_index (set entries p 0) m) same ∙ get_or-set_same entries p 0 0 here
      ];
      there = λ a b less k below.
          let other = apart a b i i n k h (λ e g. absurd (omega (arith, e, g))) in
          subst (λ (m : ℕ). IsWay points a b m) (sym (stays (a * n + b) other)) (f.there a b less k (within a b (omega arith) k (omega arith) other));
      back = λ a b less k below.
          let other = apart a b i i n k h (λ e g. absurd (omega (arith, e, g))) in
          subst (λ (m : ℕ). IsWay points a b m) (sym (stays (b * n + a) (apart b a i i n (omega arith) h (λ e g. absurd (omega (arith, e, g)))))) (f.back a b less k (within a b (omega arith) k (omega arith) other));
    }

no_way : (p : Point) → square_apart p p ≡ 0
no_way p =
    let x : abs_diff p.x p.x ≡ 0 = omega arith in
    let y : abs_diff p.y p.y ≡ 0 = omega arith in
    rw (x, y) refl

-- a table of points that is filled
known_way : (points : List Point) (entries : List ℕ) → AreKnown points entries (length points * length points)
    → (i j : ℕ) → i < length points → j < length points → IsWay points i j (slice_index entries (i * length points + j))
known_way points entries f i j h k =
    let n = length points in
    elim (cases_order i j) [
      | inl same ↦
          let zero_root : IsRoot 0 0 = record { low = omega arith; high = omega arith } in
          let here : IsWay points i i (slice_index entries (i * n + i)) =
          subst (λ (m : ℕ). IsRoot m (slice_index entries (i * n + i))) (sym (no_way (point_at points i))) (subst (λ (m : ℕ). IsRoot 0 m) (sym (f.own i h (mul-add-lt i n i n h h))) zero_root) in
          subst (λ (m : ℕ). IsWay points i m (slice_index entries (i * n + m))) same here
      | inr q ↦ elim q [
        | inl less ↦ f.there i j less k (mul-add-lt i n j n h k)
        | inr more ↦ turned points j i (slice_index entries (i * n + j)) (f.back j i more h (mul-add-lt j n i n k h))
      ]
    ]

-- the way between the points of two nodes is their travel
way_of : (nodes : List Node) (i j t : ℕ) → IsWay (map point_of nodes) i j t → IsTravel nodes i j t
way_of nodes i j t r =
    let from : point_at (map point_of nodes) i ≡ point_of (node_at nodes i) = get_or-map point_of nodes i _ in
    let to : point_at (map point_of nodes) j ≡ point_of (node_at nodes j) = get_or-map point_of nodes j _ in
    let both : square_apart (point_at (map point_of nodes) i) (point_at (map point_of nodes) j) ≡ square_apart (point_of (node_at nodes i)) (point_of (node_at nodes j)) =
    ap (λ (p : Point). square_apart p (point_at (map point_of nodes) j)) from ∙ ap (λ (p : Point). square_apart (point_of (node_at nodes i)) p) to in
    subst (λ (n : ℕ). IsRoot n t) both r

-- and so is a table of the points of some nodes
pub known_whole : (nodes : List Node) (points : List Point) (entries : List ℕ) → points ≡ map point_of nodes → AreKnown points entries (length points * length points)
    → IsTravelOf nodes (record { size = length points; entries = entries })
known_whole nodes points entries is f =
    let sized : length points ≡ length nodes = ap (λ (ps : List Point). length ps) is ∙ length-map nodes point_of in
    record {
      sized = sized;
      travel = λ i j h k. way_of nodes i j _ (subst (λ (ps : List Point). IsWay ps i j (slice_index entries (i * length points + j))) is (known_way points entries f i j (omega (arith, sized)) (omega (arith, sized))));
      small = λ i j h k. f.small (i * length points + j) (subst (λ (m : ℕ). i * length points + j < m) (sym f.counted) (mul-add-lt i (length points) j (length points) (omega (arith, sized)) (omega (arith, sized))));
    }
