-- The ways along the stops of a vehicle, and the sums of them, by a table of the ways between all its stops.
use Rattle.std.proofs.Common.{append_assoc, All, ◌^◌, ◌≡◌, ℕ, zero, suc, ◌+◌, ◌-◌, ◌*◌, ◌<◌, ◌≤◌, ◌∙◌, refl, sym, ap, subst, arith, inl, inr, List, [], ◌∷◌, ◌++◌, length, slice_index, length-append, Bool, true, false, if◌then◌else◌, take, drop}
use Rattle.std.proofs.lemmas.Bool.{cases_lt}
use Rattle.std.proofs.lemmas.List.{get_or_push, get_or_append_left, take_all}
use Rattle.std.proofs.lemmas.List.Elements.{All-append, All-cons, All-nil}
use Rattle.std.proofs.Math.Seq.{take-append_seam, drop-append_seam}
use Rattle.callback_store.specs.Tables.{Table}
use Rattle.plan_core.specs.Cost.{way}
use Rattle.way_costs.specs.Ways.{hop_by, along, AreHopsFrom, AreEdges, IsTurned, AreSums}
use Rattle.gathered_ways.specs.Sums.{ArePicked, AddsSums, AreBothSums}

-- a row lies inside its table
pub row_fits : (a n w : ℕ) → a < n → a * w + w ≤ n * w
row_fits a n w h =
    let parts : n ≡ a + 1 + (n - a - 1) = omega arith in
    let all : n * w ≡ (a + 1 + (n - a - 1)) * w = ap (λ (k : ℕ). k * w) parts in
    omega arith

pushed_before : (cells : List ℕ) (x k : ℕ) → k < length cells → slice_index (cells ++ x ∷ []) k ≡ slice_index cells k
pushed_before cells x k h = get_or_append_left cells (x ∷ []) 0 k h

pushed_last : (cells : List ℕ) (x k : ℕ) → length cells ≡ k → slice_index (cells ++ x ∷ []) k ≡ x
pushed_last cells x k h = get_or_push cells x 0 k h

-- such a table of the ways as they are driven has those as they are driven back
pub turned_ways : (t : Table) (S out into : List ℕ) → AreHopsFrom false t S S 0 1 out → IsTurned (length S) (length S) out into → AreHopsFrom true t S S 1 0 into
turned_ways t S out into all f = record {
  counted = f.whole;
  hops = λ a b la ha lb hb. f.turned a b la (omega arith) (omega arith) ∙ all.hops b a (omega arith) (omega arith) la (omega arith);
}

-- a way between two stops that follow one another, as it is driven or driven back
pub steps_by : (turned : Bool) (t : Table) (S cells : List ℕ) (i : ℕ) → AreHopsFrom false t S S 0 1 cells → 1 ≤ i → i + 2 < length S
    → (if turned then slice_index cells ((i + 1) * length S + i) else slice_index cells (i * length S + (i + 1))) ≡ hop_by turned t (slice_index S i) (slice_index S (i + 1))
steps_by true t S cells i all l h = all.hops (i + 1) i (omega arith) (omega arith) l (omega arith)
steps_by false t S cells i all l h = all.hops i (i + 1) (omega arith) (omega arith) (omega arith) (omega arith)

-- one edge more
pub picked_more : (w n : ℕ) (cells edges new : List ℕ) (x : ℕ) → ArePicked w n cells edges → new ≡ edges ++ x ∷ [] → x ≡ slice_index cells (n * w + (n + 1))
    → ArePicked w (n + 1) cells new
picked_more w n cells edges new x all e here = record {
  counted = ap length e ∙ length-append edges (x ∷ []) ∙ ap (λ (k : ℕ). k + 1) all.counted;
  picked = λ k h. ap (λ (xs : List ℕ). slice_index xs k) e ∙ elim (cases_lt k n) [
    | inl less ↦ pushed_before edges x k (subst (λ (m : ℕ). k < m) (sym all.counted) less) ∙ all.picked k less
    | inr more ↦
        let same : n ≡ k = omega arith in
        pushed_last edges x k (all.counted ∙ same) ∙ subst (λ (m : ℕ). x ≡ slice_index cells (m * w + (m + 1))) same here
  ];
}

pub picked_edges : (t : Table) (S cells edges : List ℕ) → 1 ≤ length S → AreHopsFrom false t S S 0 1 cells → ArePicked (length S) (length S - 1) cells edges → AreEdges t S edges
picked_edges t S cells edges some all p =
    let counted = p.counted in
    record {
      counted = omega arith;
      hops = λ k h. p.picked k (omega arith) ∙ all.hops k (k + 1) (omega arith) (omega arith) (omega arith) (omega arith);
    }

-- one way more of what the first ones cost
along_from : (f : ℕ → ℕ → ℕ) (i : ℕ) (R : List ℕ) (k : ℕ) → k < length R → way f i (take (suc k) R) ≡ way f i (take k R) + f (slice_index (i ∷ R) k) (slice_index R k)
along_from f i [] k h = absurd (omega arith)
along_from f i (x ∷ xs) zero h = omega arith
along_from f i (x ∷ xs) (suc k) h = let e = along_from f x xs k (omega arith) in omega arith

along_more : (f : ℕ → ℕ → ℕ) (R : List ℕ) (k : ℕ) → k < length R → along f (0 ∷ R) (k + 1) ≡ along f (0 ∷ R) k + f (slice_index (0 ∷ R) k) (slice_index (0 ∷ R) (k + 1))
along_more f R k h =
    let e : k + 1 ≡ suc k = omega arith in
    ap (λ (n : ℕ). along f (0 ∷ R) n) e ∙ along_from f 0 R k h ∙ ap (λ (n : ℕ). along f (0 ∷ R) k + f (slice_index (0 ∷ R) k) (slice_index (0 ∷ R) n)) (sym e)

-- one sum more
sums_more : (turned : Bool) (t : Table) (S sums : List ℕ) (n x : ℕ) → AreSums turned t S n sums
    → x + hop_by turned t (slice_index S 0) (slice_index S 1) ≡ along (hop_by turned t) S n → AreSums turned t S (n + 1) (sums ++ x ∷ [])
sums_more turned t S sums n x all new = record {
  counted = length-append sums (x ∷ []) ∙ ap (λ (m : ℕ). m + 1) all.counted;
  sums = λ k l h. elim (cases_lt k n) [
    | inl less ↦
        ap (λ (y : ℕ). y + hop_by turned t (slice_index S 0) (slice_index S 1)) (pushed_before sums x k (subst (λ (m : ℕ). k < m) (sym all.counted) less)) ∙ all.sums k l less
    | inr more ↦
        let same : k ≡ n = omega arith in
        ap (λ (y : ℕ). y + hop_by turned t (slice_index S 0) (slice_index S 1)) (pushed_last sums x k (all.counted ∙ sym same)) ∙ new ∙ ap (along (hop_by turned t) S) (sym same)
  ];
}

pub adds_none : (turned : Bool) (t : Table) (S old new : List ℕ) → new ≡ old ++ 0 ∷ [] → AddsSums turned t S 1 old new
adds_none turned t S old new e = record {
  added = 0 ∷ [];
  is = e;
  sums = record { counted = refl; sums = λ k l h. absurd (omega arith) };
  small = All-cons (λ y. y ≤ 2 ^ 42) 0 [] (omega arith) (All-nil (λ y. y ≤ 2 ^ 42));
}

pub adds_more : (turned : Bool) (t : Table) (S old sums new : List ℕ) (n x : ℕ) → AddsSums turned t S n old sums → new ≡ sums ++ x ∷ []
    → x + hop_by turned t (slice_index S 0) (slice_index S 1) ≡ along (hop_by turned t) S n → x ≤ 2 ^ 42 → AddsSums turned t S (n + 1) old new
adds_more turned t S old sums new n x all e here small = record {
  added = all.added ++ x ∷ [];
  is = e ∙ ap (λ (xs : List ℕ). xs ++ x ∷ []) all.is ∙ append_assoc old all.added (x ∷ []);
  sums = sums_more turned t S all.added n x all.sums here;
  small = All-append (λ y. y ≤ 2 ^ 42) all.added (x ∷ []) all.small (All-cons (λ y. y ≤ 2 ^ 42) x [] small (All-nil (λ y. y ≤ 2 ^ 42)));
}

-- the sums, and behind them those back
pub both_sums : (t : Table) (S one all : List ℕ) → AddsSums false t S (length S - 1) [] one → AddsSums true t S (length S - 1) one all → AreBothSums t S all
both_sums t S one all f g =
    let n = length S - 1 in
    let counted : length one ≡ n = ap length f.is ∙ f.sums.counted in
    let front : take n all ≡ one = subst (λ (k : ℕ). take k all ≡ one) counted (ap (λ (xs : List ℕ). take (length one) xs) g.is ∙ take-append_seam one g.added) in
    let back : drop n all ≡ g.added = subst (λ (k : ℕ). drop k all ≡ g.added) counted (ap (λ (xs : List ℕ). drop (length one) xs) g.is ∙ drop-append_seam one g.added) in
    let both : length all ≡ length one + length g.added = ap length g.is ∙ length-append one g.added in
    record {
      long = omega arith;
      sums = rw front (subst (λ (xs : List ℕ). AreSums false t S n xs) (sym f.is) f.sums);
      back_sums = rw back g.sums;
      small = (rw front (subst (λ (xs : List ℕ). All (λ y. y ≤ 2 ^ 42) xs) (sym f.is) f.small), rw back g.small);
    }

-- the first way alone
pub first_way : (turned : Bool) (t : Table) (S R : List ℕ) → S ≡ 0 ∷ R → 1 ≤ length R → 0 + hop_by turned t (slice_index S 0) (slice_index S 1) ≡ along (hop_by turned t) S 1
first_way turned t S R e h = rw e (sym (along_more (hop_by turned t) R 0 (omega arith)))

-- one way more of a sum that lacks the first one
pub next_way : (turned : Bool) (t : Table) (S R : List ℕ) (k sum x : ℕ) → S ≡ 0 ∷ R → k < length R
    → sum + hop_by turned t (slice_index S 0) (slice_index S 1) ≡ along (hop_by turned t) S k → x ≡ hop_by turned t (slice_index S k) (slice_index S (k + 1))
    → sum + x + hop_by turned t (slice_index S 0) (slice_index S 1) ≡ along (hop_by turned t) S (k + 1)
next_way turned t S R k sum x e h so_far new =
    let more : along (hop_by turned t) S (k + 1) ≡ along (hop_by turned t) S k + hop_by turned t (slice_index S k) (slice_index S (k + 1)) = rw e (along_more (hop_by turned t) R k h) in
    omega arith

-- what stands behind the first part of a list
pub behind_first : (S E all : List ℕ) (n : ℕ) → all ≡ S ++ E → n ≡ length S → take (length all - n) (drop n all) ≡ E
behind_first S E all n e m =
    let behind : drop n all ≡ E =
    subst (λ (k : ℕ). drop k all ≡ E) (sym m) (subst (λ (xs : List ℕ). drop (length S) xs ≡ E) (sym e) (drop-append_seam S E)) in
    let long : length all ≡ length S + length E = ap length e ∙ length-append S E in
    subst (λ (xs : List ℕ). take (length all - n) xs ≡ E) (sym behind) (take_all (length all - n) E (omega (arith, long, m)))

pub behind_fits : (S E all : List ℕ) (n m : ℕ) → all ≡ S ++ E → m ≡ length S → n ≡ m → n ≤ length all
behind_fits S E all n m e long counted =
    let both = ap length e ∙ length-append S E in
    omega arith
