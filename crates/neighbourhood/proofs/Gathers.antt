-- What a search gathers before it begins, put together.
use Rattle.std.proofs.Common.{◌≡◌, ◌∙◌, ℕ, ◌+◌, ◌-◌, ◌^◌, ◌≤◌, ap, arith, refl, sym, subst, true, false, List, ◌++◌, length, length-append, take, drop, All}
use Rattle.std.proofs.Math.Seq.{take-append_seam, drop-append_seam}
use Rattle.callback_store.specs.Tables.{Table}
use Rattle.gathered_ways.specs.Sides.{AlongState, AreFloored, AreWaysBetween, IsAlong, TwoWays}
use Rattle.gathered_ways.specs.Sums.{AreBothSums}
use Rattle.way_costs.specs.Ways.{AreEdges, AreFloors, AreHopsFrom, AreStops, AreSums}
use Rattle.dimension_core.specs.Setting.{Setting}
use Rattle.move_judge.specs.Kept.{KeptSpans, AreKept}
use Rattle.best_moves.specs.declared.searched.Gathered.{Gathered}
use Rattle.best_moves.specs.Searched.{Searched, AreSummed, IsGathered, costs_of}

pub edges_of : (t : Table) (S E R F : List ℕ) → R ≡ S → F ≡ E → AreEdges t S E → AreEdges t R F
edges_of t S E R F e f edges = subst (λ (xs : List ℕ). AreEdges t xs F) (sym e) (subst (λ (xs : List ℕ). AreEdges t S xs) (sym f) edges)

-- of two vehicles
pub gathered_between : (q : Searched) (g : Gathered) (ways : TwoWays) → AreStops q.setting.customers q.view.routes q.v g.from.now → AreStops q.setting.customers q.view.routes q.w g.to.now
    → AreEdges (costs_of q) g.from.now g.from_edges.now → AreEdges (costs_of q) g.to.now g.to_edges.now → All (λ x. x ≤ g.most) g.to_edges.now
    → AreWaysBetween (costs_of q) g.from.now g.to.now ways → AreFloored g.from.now g.to.now ways → g.out.now ≡ ways.out → g.into.now ≡ ways.into → IsGathered q g
gathered_between q g ways from to from_edges to_edges most between floored e f = record {
  from = from;
  to = to;
  from_edges = from_edges;
  to_edges = to_edges;
  most = most;
  out = subst (λ (xs : List ℕ). AreHopsFrom false (costs_of q) g.from.now g.to.now 0 1 xs) (sym e) between.out;
  into = subst (λ (xs : List ℕ). AreHopsFrom true (costs_of q) g.from.now g.to.now 1 0 xs) (sym f) between.into;
  out_floors = λ apart. subst (λ (xs : List ℕ). AreFloors g.from.now g.to.now 0 1 xs) (sym e) floored.out;
  into_floors = λ apart. subst (λ (xs : List ℕ). AreFloors g.from.now g.to.now 1 0 xs) (sym f) floored.into;
}

-- of one vehicle
pub gathered_inside : (q : Searched) (g : Gathered) (ways : TwoWays) (E : List ℕ) (way : AlongState) → q.v ≡ q.w → g.to.now ≡ g.from.now → AreStops q.setting.customers q.view.routes q.v g.from.now
    → AreWaysBetween (costs_of q) g.from.now g.from.now ways → IsAlong (costs_of q) g.from.now E way
    → g.from_edges.now ≡ E → g.to_edges.now ≡ E → g.most ≡ way.most → g.out.now ≡ ways.out → g.into.now ≡ ways.into → IsGathered q g
gathered_inside q g ways E way inside same are between goes e f m o i =
    let t = costs_of q in
    let S = g.from.now in
    record {
      from = are;
      to = subst (λ (xs : List ℕ). AreStops q.setting.customers q.view.routes q.w xs) (sym same) (subst (λ (w : ℕ). AreStops q.setting.customers q.view.routes w S) inside are);
      from_edges = edges_of t S E S g.from_edges.now refl e goes.ways;
      to_edges = edges_of t S E g.to.now g.to_edges.now same f goes.ways;
      most = subst (λ (xs : List ℕ). All (λ x. x ≤ g.most) xs) (sym f) (subst (λ (n : ℕ). All (λ x. x ≤ n) E) (sym m) goes.most);
      out = subst (λ (xs : List ℕ). AreHopsFrom false t S xs 0 1 g.out.now) (sym same) (subst (λ (xs : List ℕ). AreHopsFrom false t S S 0 1 xs) (sym o) between.out);
      into = subst (λ (xs : List ℕ). AreHopsFrom true t S xs 1 0 g.into.now) (sym same) (subst (λ (xs : List ℕ). AreHopsFrom true t S S 1 0 xs) (sym i) between.into);
      out_floors = λ apart. absurd (apart inside);
      into_floors = λ apart. absurd (apart inside);
    }

-- the two halves of its sums
pub summed_inside : (q : Searched) (g : Gathered) (E : List ℕ) (way : AlongState) (cells on back : List ℕ) → IsAlong (costs_of q) g.from.now E way → cells ≡ way.sums
    → on ≡ take (length g.from.now - 1) cells → back ≡ drop (length g.from.now - 1) cells → AreSummed q g on back
summed_inside q g E way cells on back goes e f b =
    let t = costs_of q in
    let n = length g.from.now - 1 in
    let both = subst (λ (xs : List ℕ). AreBothSums t g.from.now xs) (sym e) goes.sums in
    record {
      sums = subst (λ (xs : List ℕ). AreSums false t g.from.now n xs) (sym f) both.sums;
      back_sums = subst (λ (xs : List ℕ). AreSums true t g.from.now n xs) (sym b) both.back_sums;
      small = (subst (λ (xs : List ℕ). All (λ x. x ≤ 2 ^ 42) xs) (sym f) both.small.0, subst (λ (xs : List ℕ). All (λ x. x ≤ 2 ^ 42) xs) (sym b) both.small.1);
    }

-- a list of two parts, as it is split behind the first
pub halves_of : (S E all : List ℕ) (n : ℕ) → all ≡ S ++ E → n ≡ length S → (take n all ≡ S) × (drop n all ≡ E)
halves_of S E all n e m =
    let there = subst (λ (xs : List ℕ). take (length S) xs ≡ S) (sym e) (take-append_seam S E) in
    let then = subst (λ (xs : List ℕ). drop (length S) xs ≡ E) (sym e) (drop-append_seam S E) in
    (subst (λ (k : ℕ). take k all ≡ S) (sym m) there, subst (λ (k : ℕ). drop k all ≡ E) (sym m) then)

pub halves_fit : (S E all : List ℕ) (n m : ℕ) → all ≡ S ++ E → m ≡ length S → n ≡ m → n ≤ length all
halves_fit S E all n m e long counted =
    let both = ap length e ∙ length-append S E in
    omega arith

-- the ways along the stops of one vehicle, by the ways between them
pub goes_along : (t : Table) (S R E cells : List ℕ) (ways : TwoWays) (way : AlongState) → R ≡ S → AreWaysBetween t R R ways → cells ≡ ways.out
    → ((t : Table) → AreHopsFrom false t S S 0 1 cells → IsAlong t S E way) → IsAlong t S E way
goes_along t S R E cells ways way same between out along =
    along t (subst (λ (xs : List ℕ). AreHopsFrom false t S S 0 1 xs) (sym out) (subst (λ (xs : List ℕ). AreHopsFrom false t xs xs 0 1 ways.out) same between.out))

pub sums_fit : (t : Table) (S E cells : List ℕ) (way : AlongState) (n m : ℕ) → IsAlong t S E way → m ≡ length S → n ≡ m → cells ≡ way.sums → n - 1 ≤ length cells
sums_fit t S E cells way n m goes long counted e =
    let all = subst (λ (xs : List ℕ). length S - 1 ≤ length xs) (sym e) goes.sums.long in
    omega arith

-- all of one vehicle, where the ways stand behind the stops and are cut from them
pub inside_gathered : (q : Searched) (g : Gathered) (S R E all : List ℕ) (n m : ℕ) (ways : TwoWays) (way : AlongState) → q.v ≡ q.w → g.to.now ≡ g.from.now
    → AreStops q.setting.customers q.view.routes q.v S → R ≡ S → AreWaysBetween (costs_of q) R R ways → IsAlong (costs_of q) S E way
    → m ≡ length S → n ≡ m → all ≡ S ++ E → g.from.now ≡ take n all → g.from_edges.now ≡ drop n all → g.to_edges.now ≡ drop n all
    → g.most ≡ way.most → g.out.now ≡ ways.out → g.into.now ≡ ways.into → IsGathered q g
inside_gathered q g S R E all n m ways way inside to are same between goes long counted joined f e d most out into =
    let halves = halves_of S E all n joined (counted ∙ long) in
    let front = f ∙ halves.0 in
    gathered_inside q g ways E way inside to (subst (λ (xs : List ℕ). AreStops q.setting.customers q.view.routes q.v xs) (sym front) are)
    (subst (λ (xs : List ℕ). AreWaysBetween (costs_of q) xs xs ways) (same ∙ sym front) between) (subst (λ (xs : List ℕ). IsAlong (costs_of q) xs E way) (sym front) goes)
    (e ∙ halves.1) (d ∙ halves.1) most out into

pub inside_summed : (q : Searched) (g : Gathered) (S E all cells on back : List ℕ) (n m : ℕ) (way : AlongState) → IsAlong (costs_of q) S E way → m ≡ length S → n ≡ m → all ≡ S ++ E
    → g.from.now ≡ take n all → cells ≡ way.sums → on ≡ take (n - 1) cells → back ≡ drop (n - 1) cells → AreSummed q g on back
inside_summed q g S E all cells on back n m way goes long counted joined f e here there =
    let front = f ∙ (halves_of S E all n joined (counted ∙ long)).0 in
    let wide : n ≡ length g.from.now = counted ∙ long ∙ ap length (sym front) in
    summed_inside q g E way cells on back (subst (λ (xs : List ℕ). IsAlong (costs_of q) xs E way) (sym front) goes) e
    (here ∙ ap (λ (k : ℕ). take (k - 1) cells) wide) (there ∙ ap (λ (k : ℕ). drop (k - 1) cells) wide)

-- a vehicle has at least the depot at both ends
pub two_stops : (n m : ℕ) → n ≡ m + 2 → 2 ≤ n
two_stops n m e = omega arith

pub some_stops : (xs ys : List ℕ) (m : ℕ) → xs ≡ ys → length ys ≡ m + 2 → 1 ≤ length xs
some_stops xs ys m same e = let long = ap length same in omega arith

-- what is kept of a vehicle alone is kept of it beside itself
pub kept_alone : (s : Setting) (routes : List (List ℕ)) (v w : ℕ) (kept : KeptSpans) → w ≡ v → AreKept s routes v v kept → AreKept s routes v w kept × AreKept s routes w v kept
kept_alone s routes v w kept e own = (subst (λ (x : ℕ). AreKept s routes v x kept) (sym e) own, subst (λ (x : ℕ). AreKept s routes x v kept) (sym e) own)
