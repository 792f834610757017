use Rattle.std.proofs.Common.{◌≡◌, Bool, IsTrue, ◌↔◌, slice_index_or, ℕ, ◌+◌, ◌-◌, ◌*◌, ◌<◌, ◌≤◌, All, get_or, inl, inr, sym, ap, subst, arith, List, length, ◌∙◌, zero-mul, mul-le-mul_right}
use Rattle.std.proofs.lemmas.Bool.{cases_order}
use Rattle.std.proofs.lemmas.List.{get_or_default}
use Rattle.callback_store.specs.declared.meter.Meter.{Meter}
use Rattle.callback_store.specs.Meter.{AsksJust, AsksAtMost, none_asked, asks_after, asks_wider}
use Rattle.callback_store.specs.Tables.{Table}
use Rattle.dimension_core.specs.Cumuls.{Bounds, IsServed, IsInBounds, table_of}
use Rattle.dimension_core.specs.Setting.{Setting, IsSetting, dimension_at, no_bounds}
use Rattle.dimension_core.specs.Feasible.{FitsIn, FitsAll, IsFirstOut}

-- the tables of a setup serve each of its dimensions
pub served_at : (s : Setting) (k : ℕ) → IsSetting s → k < length s.dimensions → IsServed s.tables (dimension_at s k)
served_at s k sound h = record { registered = sound.ids k h; sized = sound.tables ∙ sym (sound.ranges k h) }

-- a route that is out of bounds in a first dimension is not in bounds in all
pub out_fits : (s : Setting) (v : ℕ) (r : List ℕ) (d : ℕ) → IsFirstOut s v r d → FitsAll s v r → ⊥
out_fits s v r d out fits = let low = out.low in let high = out.high in out.out (fits (d - 1) (omega arith))

not_later : (s : Setting) (v : ℕ) (r : List ℕ) (d e : ℕ) → IsFirstOut s v r d → IsFirstOut s v r e → d < e → ⊥
not_later s v r d e out other h = let low = out.low in out.out (other.before (d - 1) (omega arith))

-- one dimension is the first in which a route is out of bounds
pub first_out_unique : (s : Setting) (v : ℕ) (r : List ℕ) (d e : ℕ) → IsFirstOut s v r d → IsFirstOut s v r e → d ≡ e
first_out_unique s v r d e out other = elim (cases_order d e) [
  | inl same ↦ same
  | inr q ↦ elim q [ inl h ↦ absurd (not_later s v r d e out other h) | inr h ↦ absurd (not_later s v r e d other out h) ]
]

-- an item of the dimensions is the one at its place
item_at : (s : Setting) (k : ℕ) (ds : List Bounds) (d : Bounds) → ds ≡ s.dimensions → k < length ds → d ≡ slice_index_or ds k d → d ≡ dimension_at s k
item_at s k ds d ed h e = e ∙ get_or_default ds k d no_bounds h ∙ ap (λ (xs : List Bounds). slice_index_or xs k no_bounds) ed

within_at : (s : Setting) (k : ℕ) (ds : List Bounds) → ds ≡ s.dimensions → k < length ds → k < length s.dimensions
within_at s k ds ed h = subst (λ (xs : List Bounds). k < length xs) ed h

-- the tables serve it, its nodes are the depot and the customers, and it has the vehicles
pub served_item : (s : Setting) (k : ℕ) (ts : List Table) (ds : List Bounds) (d : Bounds) → IsSetting s → ts ≡ s.tables → ds ≡ s.dimensions → k < length ds
    → d ≡ slice_index_or ds k d → IsServed ts d
served_item s k ts ds d sound et ed h e =
    subst (λ (xs : List Table). IsServed xs d) (sym et)
    (subst (λ (x : Bounds). IsServed s.tables x) (sym (item_at s k ds d ed h e)) (served_at s k sound (within_at s k ds ed h)))

pub known_item : (s : Setting) (k : ℕ) (ds : List Bounds) (d : Bounds) (route : List ℕ) → IsSetting s → ds ≡ s.dimensions → k < length ds → d ≡ slice_index_or ds k d
    → All (λ c. c ≤ s.customers) route → All (λ node. node < length d.ranges) route
known_item s k ds d route sound ed h e known i z l =
    let long : length d.ranges ≡ s.customers + 1 = ap (λ (x : Bounds). length x.ranges) (item_at s k ds d ed h e) ∙ sound.ranges k (within_at s k ds ed h) in
    let low : get_or route i z ≤ s.customers = known i z l in
    omega arith

pub high_item : (s : Setting) (k : ℕ) (ds : List Bounds) (d : Bounds) (v : ℕ) → IsSetting s → ds ≡ s.dimensions → k < length ds → d ≡ slice_index_or ds k d
    → v ≤ s.vehicles → v ≤ length d.caps
high_item s k ds d v sound ed h e high =
    let long : length d.caps ≡ s.vehicles = ap (λ (x : Bounds). length x.caps) (item_at s k ds d ed h e) ∙ sound.caps k (within_at s k ds ed h) in
    omega arith

-- and its number is small
pub few_items : (s : Setting) (k : ℕ) (ds : List Bounds) → IsSetting s → ds ≡ s.dimensions → k < length ds → k + 1 ≤ 8
few_items s k ds sound ed h = let few : length s.dimensions ≤ 8 = sound.few in let within = within_at s k ds ed h in omega arith

pub few_index : (s : Setting) (k : ℕ) (ds : List Bounds) → IsSetting s → ds ≡ s.dimensions → k < length ds → k ≤ 8
few_index s k ds sound ed h = let few = few_items s k ds sound ed h in omega arith

-- before the first one
pub none_fit : (s : Setting) (v : ℕ) (route : List ℕ) (n : ℕ) → n < 0 → FitsIn s n v route
none_fit s v route n h = absurd (omega arith)

pub asked_none : (a : Meter) (m : ℕ) → AsksJust a a (0 * m)
asked_none a m = subst (λ (n : ℕ). AsksJust a a n) (sym (zero-mul m)) (none_asked a)

-- what was asked of some dimensions and of one more, and of all
pub asked_most : (a b d : Meter) (k m : ℕ) (ds es : List Bounds) → ds ≡ es → k < length ds → AsksJust a b (k * m) → AsksAtMost b d m → AsksAtMost a d (length es * m)
asked_most a b d k m ds es e h p q =
    let more : (k + 1) * m ≡ k * m + m = grind arith in
    let most : (k + 1) * m ≤ length es * m = mul-le-mul_right m (subst (λ (xs : List Bounds). k + 1 ≤ length xs) e (omega arith)) in
    asks_after a b d (k * m) m (length es * m) p q (omega arith)

pub asked_all : (a b : Meter) (k m : ℕ) (ds es : List Bounds) → ds ≡ es → k ≤ length ds → length ds ≤ k → AsksJust a b (k * m) → AsksJust a b (length es * m)
asked_all a b k m ds es e low high p =
    let all : k ≡ length ds = omega arith in
    subst (λ (n : ℕ). AsksJust a b (n * m)) (all ∙ ap (λ (xs : List Bounds). length xs) e) p

pub asked_so : (a b : Meter) (k n : ℕ) → k ≤ n → n ≤ k → AsksJust a b k → AsksJust a b n
asked_so a b k n low high p = let all : k ≡ n = omega arith in subst (λ (m : ℕ). AsksJust a b m) all p

pub asked_on : (a b d : Meter) (k n : ℕ) → k < n → AsksJust a b k → AsksJust b d 1 → AsksAtMost a d n
asked_on a b d k n h p q = asks_after a b d k 1 n p q (omega arith)

pub at_most : (a b : Meter) (n : ℕ) → AsksJust a b n → AsksAtMost a b n
at_most a b n p = asks_wider a b n n 0 n p (omega arith) (omega arith)

-- what one dimension answers, as a fact of the setting
pub fits_at : (s : Setting) (k v : ℕ) (route : List ℕ) (ts : List Table) (ds : List Bounds) (d : Bounds) (r : Bool)
    → ts ≡ s.tables → ds ≡ s.dimensions → k < length ds → d ≡ slice_index_or ds k d
    → (IsTrue r ↔ IsInBounds (table_of ts d) d v route) → IsTrue r ↔ FitsIn s k v route
fits_at s k v route ts ds d r et ed h e b =
    let same = item_at s k ds d ed h e in
    let b' = subst (λ (xs : List Table). IsTrue r ↔ IsInBounds (table_of xs d) d v route) et b in
    subst (λ (x : Bounds). IsTrue r ↔ IsInBounds (table_of s.tables x) x v route) same b'

-- the first dimension that is out of bounds
pub first_out_at : (s : Setting) (v k : ℕ) (route : List ℕ) → k < length s.dimensions → ((n : ℕ) → n < k → FitsIn s n v route) → (FitsIn s k v route → ⊥)
    → IsFirstOut s v route (k + 1)
first_out_at s v k route h before out =
    let e : k + 1 - 1 ≡ k = omega arith in
    record {
      low = omega arith;
      high = omega arith;
      out = λ f. out (subst (λ (n : ℕ). FitsIn s n v route) e f);
      before = λ n below. before n (omega arith);
    }
