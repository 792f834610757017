use Rattle.std.proofs.Common.{All, Fits, w32, w64, ◌≡◌, ◌≢◌, ℕ, ◌+◌, ◌-◌, ◌*◌, ◌<◌, ◌≤◌, ◌∙◌, ◌⊎◌, refl, sym, ap, subst, arith, inl, inr, List, ◌++◌, length, set, slice_index, slice_index_or, min, Bool, true, false, take, drop, Option, Some, None, IfSome, IsTrue, not}
use Rattle.std.proofs.lemmas.Bool.{cases_lt, ne_eqb}
use Rattle.std.proofs.lemmas.List.{get_or_default, get_or_append_left, get_or-append-add, get_or-take, get_or-drop, get_or-set_same, get_or-set_other, length-set, length-take-le, length-drop}
use Rattle.std.proofs.lemmas.List.Elements.{All-drop, All-take}
use Rattle.std.proofs.Math.Seq.{take-append_seam}
use Rattle.std.proofs.lemmas.Nat.{mul-le}
use Rattle.std.proofs.Math.Nat.{min-le_left, min-le_right}
use borrow.Rule.Slice.PartMut.{put_mid, post_of, same_len_mid}
use Rattle.callback_store.specs.Tables.{Table, entry, nodes_of, table_at, IsSymmetric}
use Rattle.dimension_core.specs.Setting.{Setting, IsSetting}
use Rattle.plan_core.specs.Cost.{way}
use Rattle.way_costs.specs.Known.{AreAlike, AreAnswers}
use Rattle.way_costs.specs.Ways.{hop, hop_by, entry_by, spare_of, AreHopsFrom, AreFloors, IsTurned}

-- a row lies inside its table
pub row_fits : (a n w : ℕ) → a < n → a * w + w ≤ n * w
row_fits a n w h =
    let parts : n ≡ a + 1 + (n - a - 1) = omega arith in
    let all : n * w ≡ (a + 1 + (n - a - 1)) * w = ap (λ (k : ℕ). k * w) parts in
    omega arith

-- a part of a list is put anew
put_at : (a k : ℕ) (xs ys : List ℕ) (n : ℕ) → a ≤ length xs → n < length ys → slice_index (put_mid a k xs ys) (a + n) ≡ slice_index ys n
put_at a k xs ys n fits h =
    subst (λ (m : ℕ). slice_index (put_mid a k xs ys) (m + n) ≡ slice_index ys n) (length-take-le a xs fits)
    (get_or-append-add (take a xs) (ys ++ post_of a k xs) n 0 ∙ get_or_append_left ys (post_of a k xs) 0 n h)

put_before : (a k : ℕ) (xs ys : List ℕ) (n : ℕ) → a ≤ length xs → n < a → slice_index (put_mid a k xs ys) n ≡ slice_index xs n
put_before a k xs ys n fits h =
    get_or_append_left (take a xs) (ys ++ post_of a k xs) 0 n (subst (λ (m : ℕ). n < m) (sym (length-take-le a xs fits)) h) ∙ get_or-take a xs n 0 h

-- a row is a part of a table, which is put anew
pub row_long : (a n : ℕ) (cells : List ℕ) → a + n ≤ length cells → length (take (a + n - a) (drop a cells)) ≡ n
row_long a n cells fits =
    let d = length-drop a cells in
    let same : a + n - a ≡ n = omega arith in
    rw same (length-take-le n (drop a cells) (omega arith))

pub row_sized : (a n : ℕ) (cells row : List ℕ) → a + n ≤ length cells → length row ≡ n → length (put_mid a (a + n - a) cells row) ≡ length cells
row_sized a n cells row fits e = same_len_mid a (a + n - a) cells row (e ∙ sym (row_long a n cells fits))

pub row_at : (a n m : ℕ) (cells row : List ℕ) → a + n ≤ length cells → length row ≡ n → (k : ℕ) → k < n → slice_index (put_mid a m cells row) (a + k) ≡ slice_index row k
row_at a n m cells row fits e k h = put_at a m cells row k (omega arith) (omega arith)

pub row_kept : (a n m : ℕ) (cells row : List ℕ) → a + n ≤ length cells → (k : ℕ) → k < a → slice_index (put_mid a m cells row) k ≡ slice_index cells k
row_kept a n m cells row fits k h = put_before a m cells row k (omega arith) h

pub row_least : (a n m x : ℕ) (cells row : List ℕ) → a + n ≤ length cells → length row ≡ n → All (λ y. x ≤ y) row → (k : ℕ) → k < n → x ≤ slice_index (put_mid a m cells row) (a + k)
row_least a n m x cells row fits e all k h = subst (λ (y : ℕ). x ≤ y) (sym (row_at a n m cells row fits e k h)) (all k 0 (omega arith))

-- what a list holds after it was lent whole
pub written_back : (n : ℕ) (xs ys : List ℕ) → length xs ≡ n → xs ≡ take n (xs ++ ys)
written_back n xs ys e = subst (λ (m : ℕ). xs ≡ take m (xs ++ ys)) e (sym (take-append_seam xs ys))

-- numbers that fit
pub way_fits : (x : ℕ) → x ≤ 1000000000 → Fits w32 x
way_fits x h = omega arith

pub table_fits : (a b : ℕ) → a ≤ 1002 → b ≤ 1002 → Fits w64 (a * b)
table_fits a b h k = let most = mul-le a b 1002 1002 h k in omega arith

-- a row that is filled lies in its table
pub row_in : (first n i : ℕ) → first ≤ 1 → 1 ≤ n → i < first + n - 1 → i < n
row_in first n i few some h = omega arith

pub begin_fits : (first n w i : ℕ) → first ≤ 1 → n ≤ 1002 → w ≤ 1002 → i < first + n - 1 → Fits w64 (i * w)
begin_fits first n w i few short narrow h = table_fits i w (omega arith) narrow

pub begun_fits : (first n w i x : ℕ) → first ≤ 1 → n ≤ 1002 → w ≤ 1002 → i < first + n - 1 → x ≤ 1 → Fits w64 (i * w + x)
begun_fits first n w i x few short narrow h inside =
    let low : i ≤ 1002 = omega arith in
    let most = mul-le i w 1002 1002 low narrow in
    omega arith

pub place_fits : (first n w i x : ℕ) → first ≤ 1 → n ≤ 1002 → w ≤ 1002 → i < first + n - 1 → x < w → Fits w64 (i * w + x)
place_fits first n w i x few short narrow h inside =
    let low : i ≤ 1002 = omega arith in
    let most = mul-le i w 1002 1002 low narrow in
    omega arith

-- the rows up to one of a table that lacks a column
pub record AreFilledFrom (turned : Bool) (t : Table) (from to : List ℕ) (row column n : ℕ) (cells : List ℕ) : Type 0 where
  pub whole : length cells ≡ length from * length to
  pub hops : (a b : ℕ) → row ≤ a → a < n → column ≤ b → b + 1 < length to + column → slice_index cells (a * length to + b) ≡ hop_by turned t (slice_index from a) (slice_index to b)

pub filled_from : (turned : Bool) (t : Table) (from to cells filled : List ℕ) (row column i : ℕ) → column ≤ 1 → AreFilledFrom turned t from to row column i cells
    → length filled ≡ length cells
    → ((k : ℕ) → k < length (take (length to - 1) (drop column to)) → slice_index filled (i * length to + column + k) ≡ hop_by turned t (slice_index from i) (slice_index (take (length to - 1) (drop column to)) k))
    → ((k : ℕ) → k < i * length to + column → slice_index filled k ≡ slice_index cells k) → AreFilledFrom turned t from to row column (i + 1) filled
filled_from turned t from to cells filled row column i few f sized ways kept =
    let w = length to in
    record {
      whole = sized ∙ f.whole;
      hops = λ a b la ha lb hb. elim (cases_lt a i) [
        | inl less ↦
            let fits = row_fits a i w less in
            kept (a * w + b) (omega arith) ∙ f.hops a b la less lb hb
        | inr more ↦
            let same : i ≡ a = omega arith in
            let long : length (take (w - 1) (drop column to)) ≡ w - 1 = length-take-le (w - 1) (drop column to) (let d = length-drop column to in omega arith) in
            let back : column + (b - column) ≡ b = omega arith in
            let place : i * w + column + (b - column) ≡ i * w + b = omega arith in
            let here : slice_index (take (w - 1) (drop column to)) (b - column) ≡ slice_index to b =
            get_or-take (w - 1) (drop column to) (b - column) 0 (omega arith) ∙ get_or-drop column to (b - column) 0 ∙ ap (λ (n : ℕ). slice_index to n) back in
            subst (λ (n : ℕ). slice_index filled (n * w + b) ≡ hop_by turned t (slice_index from n) (slice_index to b)) same
            (ap (λ (n : ℕ). slice_index filled n) (sym place) ∙ ways (b - column) (omega arith) ∙ ap (λ (n : ℕ). hop_by turned t (slice_index from i) n) here)
      ];
    }

-- the first rows of a table that lacks a column have there a number that none of theirs is below
pub record AreFlooredTo (to : List ℕ) (row column spare n : ℕ) (cells : List ℕ) : Type 0 where
  pub floors : (a b : ℕ) → row ≤ a → a < n → column ≤ b → b + 1 < length to + column → slice_index cells (a * length to + spare) ≤ slice_index cells (a * length to + b)

-- that number is put where the row lacks a way
pub spared : (turned : Bool) (t : Table) (from to cells : List ℕ) (row column i spare x : ℕ) → column ≤ 1 → spare < length to
    → ((b : ℕ) → column ≤ b → b + 1 < length to + column → b ≢ spare)
    → AreFilledFrom turned t from to row column (i + 1) cells → AreFilledFrom turned t from to row column (i + 1) (set cells (i * length to + spare) x)
spared turned t from to cells row column i spare x few wide apart f =
    let w = length to in
    record {
      whole = length-set cells (i * w + spare) x ∙ f.whole;
      hops = λ a b la ha lb hb.
          get_or-set_other cells (i * w + spare) (a * w + b) x 0 (elim (cases_lt a i) [
            | inl less ↦
                let fits = row_fits a i w less in
                λ same. absurd (omega (arith, same))
            | inr more ↦
                let here : a ≡ i = omega arith in
                let rows : a * w ≡ i * w = ap (λ (n : ℕ). n * w) here in
                let o = apart b lb hb in
                λ same. let place : b ≡ spare = omega (arith, same) in absurd (o place)
          ]) ∙ f.hops a b la ha lb hb;
    }

pub floored : (to cells filled : List ℕ) (row column i spare x : ℕ) → column ≤ 1 → spare < length to
    → ((b : ℕ) → column ≤ b → b + 1 < length to + column → b ≢ spare) → i * length to + spare < length filled
    → AreFlooredTo to row column spare i cells
    → ((k : ℕ) → k < i * length to + column → slice_index filled k ≡ slice_index cells k)
    → ((k : ℕ) → k < length to - 1 → x ≤ slice_index filled (i * length to + column + k))
    → AreFlooredTo to row column spare (i + 1) (set filled (i * length to + spare) x)
floored to cells filled row column i spare x few wide apart room f kept low = record {
  floors = λ a b la ha lb hb. elim (cases_lt a i) [
    | inl less ↦
        let w = length to in
        let fits = row_fits a i w less in
        let one = get_or-set_other filled (i * w + spare) (a * w + spare) x 0 (λ same. absurd (omega (arith, same))) in
        let two = get_or-set_other filled (i * w + spare) (a * w + b) x 0 (λ same. absurd (omega (arith, same))) in
        let one_kept = kept (a * w + spare) (omega arith) in
        let two_kept = kept (a * w + b) (omega arith) in
        let old = f.floors a b la less lb hb in
        omega arith
    | inr more ↦
        let w = length to in
        let same : i ≡ a = omega arith in
        let o = apart b lb hb in
        let here = get_or-set_same filled (i * w + spare) x 0 room in
        let there = get_or-set_other filled (i * w + spare) (i * w + b) x 0 (λ e. let place : b ≡ spare = omega (arith, e) in absurd (o place)) in
        let bound = low (b - column) (omega arith) in
        let place : i * w + column + (b - column) ≡ i * w + b = omega arith in
        let value : slice_index filled (i * w + column + (b - column)) ≡ slice_index filled (i * w + b) = ap (λ (n : ℕ). slice_index filled n) place in
        subst (λ (n : ℕ). slice_index (set filled (i * w + spare) x) (n * w + spare) ≤ slice_index (set filled (i * w + spare) x) (n * w + b)) same (omega arith)
  ];
}

-- one row more of a table that lacks a column, with that number
pub rows_more : (turned : Bool) (t : Table) (from to asked old cells filled new : List ℕ) (row column i spare x : ℕ)
    → row ≤ 1 → column ≤ 1 → i < row + length from - 1 → 1 ≤ length from → 1 ≤ length to → spare < length to
    → ((b : ℕ) → column ≤ b → b + 1 < length to + column → b ≢ spare) → asked ≡ take (length to - 1) (drop column to) → cells ≡ old
    → AreFilledFrom turned t from to row column i old → AreFlooredTo to row column spare i old → length filled ≡ length cells
    → ((k : ℕ) → k < length asked → slice_index filled (i * length to + column + k) ≡ hop_by turned t (slice_index from i) (slice_index asked k))
    → ((k : ℕ) → k < i * length to + column → slice_index filled k ≡ slice_index cells k)
    → ((k : ℕ) → k < length asked → x ≤ slice_index filled (i * length to + column + k)) → filled ≡ new
    → AreFilledFrom turned t from to row column (i + 1) (set new (i * length to + spare) x) × AreFlooredTo to row column spare (i + 1) (set new (i * length to + spare) x)
rows_more turned t from to asked old cells filled new row column i spare x low few below some wide within apart is same f g sized ways kept least back =
    let w = length to in
    let long : length asked ≡ w - 1 = ap length is ∙ length-take-le (w - 1) (drop column to) (let d = length-drop column to in omega arith) in
    let before : AreFilledFrom turned t from to row column i cells = subst (λ (xs : List ℕ). AreFilledFrom turned t from to row column i xs) (sym same) f in
    let lower : AreFlooredTo to row column spare i cells = subst (λ (xs : List ℕ). AreFlooredTo to row column spare i xs) (sym same) g in
    let more = filled_from turned t from to cells filled row column i few before sized (rw (sym is) ways) kept in
    let fits = row_fits i (length from) w (omega arith) in
    let whole = more.whole in (
      subst (λ (xs : List ℕ). AreFilledFrom turned t from to row column (i + 1) (set xs (i * w + spare) x)) back (spared turned t from to filled row column i spare x few within apart more),
      subst (λ (xs : List ℕ). AreFlooredTo to row column spare (i + 1) (set xs (i * w + spare) x)) back
          (floored to cells filled row column i spare x few within apart (omega arith) lower kept (λ k h. least k (omega arith))),
    )

-- a row has room, and the place of its number
pub rows_room : (first column i : ℕ) (from to asked cells old : List ℕ) → first ≤ 1 → column ≤ 1 → 1 ≤ length from → 1 ≤ length to → i < first + length from - 1
    → asked ≡ take (length to - 1) (drop column to) → cells ≡ old → length old ≡ length from * length to → i * length to + column + length asked ≤ length cells
rows_room first column i from to asked cells old few thin some wide h is same sized =
    let fits = row_fits i (length from) (length to) (row_in first (length from) i few some h) in
    let long : length asked ≡ length to - 1 = ap length is ∙ length-take-le (length to - 1) (drop column to) (let d = length-drop column to in omega arith) in
    let all : length cells ≡ length old = ap length same in
    omega arith

pub cell_room : (first i spare room : ℕ) (from to : List ℕ) → first ≤ 1 → 1 ≤ length from → i < first + length from - 1 → spare < length to
    → room ≡ length from * length to → i * length to + spare < room
cell_room first i spare room from to few some h within all =
    let fits = row_fits i (length from) (length to) (row_in first (length from) i few some h) in
    omega arith

-- what is asked is known
pub part_known : (n m k : ℕ) (to asked : List ℕ) → asked ≡ take m (drop k to) → All (λ c. c ≤ n) to → All (λ c. c ≤ n) asked
part_known n m k to asked is all = subst (λ (xs : List ℕ). All (λ c. c ≤ n) xs) (sym is) (All-take (λ c. c ≤ n) m (drop k to) (All-drop (λ c. c ≤ n) k to all))

-- all rows
pub rows_hops : (turned : Bool) (t : Table) (from to cells : List ℕ) (row column first begin n : ℕ) → first ≡ row → begin ≡ column → first + length from - 1 ≤ n
    → AreFilledFrom turned t from to first begin n cells → AreHopsFrom turned t from to row column cells
rows_hops turned t from to cells row column first begin n e f end g = record {
  counted = g.whole;
  hops = λ a b la ha lb hb. g.hops a b (omega arith) (omega arith) (omega arith) (omega arith);
}

pub rows_floors : (from to cells : List ℕ) (row column first begin spare n : ℕ) → first ≡ row → begin ≡ column → spare ≡ spare_of begin to → first + length from - 1 ≤ n
    → AreFlooredTo to first begin spare n cells → AreFloors from to row column cells
rows_floors from to cells row column first begin spare n e f s end g = λ a b la ha lb hb.
    let place : spare ≡ spare_of column to = s ∙ ap (λ (k : ℕ). spare_of k to) f in
    subst (λ (k : ℕ). slice_index cells (a * length to + k) ≤ slice_index cells (a * length to + b)) place (g.floors a b (omega arith) (omega arith) (omega arith) (omega arith))

-- a table that is turned: one row more
pub turned_line : (w i : ℕ) (cells back new : List ℕ) → IsTurned w i cells back → length new ≡ length back
    → ((k : ℕ) → k < w - 1 → slice_index new (i * w + k) ≡ slice_index cells (k * w + i)) → ((k : ℕ) → k < i * w → slice_index new k ≡ slice_index back k) → IsTurned w (i + 1) cells new
turned_line w i cells back new f sized line kept = record {
  whole = sized ∙ f.whole;
  turned = λ a b la ha lb. elim (cases_lt a i) [
    | inl less ↦
        let before = row_fits a i w less in
        kept (a * w + b) (omega arith) ∙ f.turned a b la less lb
    | inr more ↦
        let same : i ≡ a = omega arith in
        subst (λ (n : ℕ). slice_index new (n * w + b) ≡ slice_index cells (b * w + n)) same (line b (omega arith))
  ];
}

pub turned_all : (w i : ℕ) (cells back : List ℕ) → w ≤ i → IsTurned w i cells back → IsTurned w w cells back
turned_all w i cells back all f = record { whole = f.whole; turned = λ a b la ha lb. f.turned a b la (omega arith) lb }

-- the first answers of a row, and a number that none of them is below
pub record AreAsked (turned : Bool) (t : Table) (stop : ℕ) (to : List ℕ) (n least : ℕ) (row : List ℕ) : Type 0 where
  pub sized : length row ≡ length to
  pub ways : (k : ℕ) → k < n → slice_index row k ≡ hop_by turned t stop (slice_index to k)
  pub floor : (k : ℕ) → k < n → least ≤ slice_index row k

pub asked_none : (turned : Bool) (t : Table) (stop : ℕ) (to row : List ℕ) (least : ℕ) → length row ≡ length to → AreAsked turned t stop to 0 least row
asked_none turned t stop to row least e = record { sized = e; ways = λ k h. absurd (omega arith); floor = λ k h. absurd (omega arith) }

pub asked_more : (turned : Bool) (t : Table) (stop : ℕ) (to row : List ℕ) (n least less way : ℕ) → n < length to → AreAsked turned t stop to n least row
    → way ≡ hop_by turned t stop (slice_index to n) → less ≡ min least way → AreAsked turned t stop to (n + 1) less (set row n way)
asked_more turned t stop to row n least less way more f e m =
    let sized = f.sized in
    let here = get_or-set_same row n way 0 (omega arith) in
    let left : less ≤ least = subst (λ (x : ℕ). x ≤ least) (sym m) (min-le_left least way) in
    let right : less ≤ way = subst (λ (x : ℕ). x ≤ way) (sym m) (min-le_right least way) in
    record {
      sized = length-set row n way ∙ f.sized;
      ways = λ k h. elim (cases_lt k n) [
        | inl before ↦ get_or-set_other row n k way 0 (λ same. absurd (omega (arith, same))) ∙ f.ways k before
        | inr after ↦
            let same : n ≡ k = omega arith in
            subst (λ (j : ℕ). slice_index (set row n way) j ≡ hop_by turned t stop (slice_index to j)) same (here ∙ e)
      ];
      floor = λ k h. elim (cases_lt k n) [
        | inl before ↦
            let there = get_or-set_other row n k way 0 (λ same. absurd (omega (arith, same))) in
            let old = f.floor k before in
            omega arith
        | inr after ↦
            let same : n ≡ k = omega arith in
            subst (λ (j : ℕ). less ≤ slice_index (set row n way) j) same (omega arith)
      ];
    }

pub asked_ways : (turned : Bool) (t : Table) (stop : ℕ) (to row : List ℕ) (n least : ℕ) → length to ≤ n → AreAsked turned t stop to n least row
    → (k : ℕ) → k < length to → slice_index row k ≡ hop_by turned t stop (slice_index to k)
asked_ways turned t stop to row n least all f k h = f.ways k (omega arith)

pub asked_floor : (turned : Bool) (t : Table) (stop : ℕ) (to row : List ℕ) (n least : ℕ) → length to ≤ n → AreAsked turned t stop to n least row → All (λ x. least ≤ x) row
asked_floor turned t stop to row n least all f k d h =
    let sized = f.sized in
    subst (λ (x : ℕ). least ≤ x) (get_or_default row k 0 d h) (f.floor k (omega arith))

-- the ways of a row, whichever way they are driven
pub ways_by : (turned b : Bool) (t : Table) (stop : ℕ) (to row : List ℕ) → turned ≡ b → ((k : ℕ) → k < length to → slice_index row k ≡ hop_by b t stop (slice_index to k))
    → (k : ℕ) → k < length to → slice_index row k ≡ hop_by turned t stop (slice_index to k)
ways_by turned b t stop to row e all = subst (λ (x : Bool). (k : ℕ) → k < length to → slice_index row k ≡ hop_by x t stop (slice_index to k)) (sym e) all

-- a callback answers on each way that is driven
hop_away : (t : Table) (i j : ℕ) → (i ≡ 0 → j ≢ 0) → hop t i j ≡ entry t i j
hop_away t i j h = elim (cases_lt 0 j) [
  | inl more ↦
      let apart : j ≢ 0 = λ same. absurd (omega (arith, same)) in
      rw (ne_eqb j 0 apart) refl
  | inr none ↦
      let here : j ≡ 0 = omega arith in
      let apart : i ≢ 0 = λ same. absurd (h same here) in
      rw (here, ne_eqb i 0 apart) refl
]

pub way_away : (turned : Bool) (t : Table) (i j : ℕ) → (i ≡ 0 → j ≢ 0) → hop_by turned t i j ≡ entry_by turned t i j
way_away true t i j h = hop_away t j i (λ e f. h f e)
way_away false t i j h = hop_away t i j h

pub way_from : (turned : Bool) (t : Table) (i j way : ℕ) → 1 ≤ i → way ≡ entry_by turned t i j → way ≡ hop_by turned t i j
way_from turned t i j way low e = e ∙ sym (way_away turned t i j (λ none. absurd (omega arith)))

-- the way from the depot to a stop, which may be the depot
pub stays : (turned : Bool) (t : Table) (j : ℕ) → j ≡ 0 → 0 ≡ hop_by turned t 0 j
stays true t j e = rw e refl
stays false t j e = rw e refl

pub way_answered : (turned b : Bool) (t : Table) (j way : ℕ) → turned ≡ b → j ≢ 0 → way ≡ entry_by b t 0 j → way ≡ hop_by turned t 0 j
way_answered turned b t j way e away answer = subst (λ (x : Bool). way ≡ hop_by x t 0 j) (sym e) (answer ∙ sym (way_away b t 0 j (λ none. away)))

-- the ways of a row, by the table of a callback
pub ways_of : (b : Bool) (t u : Table) (from stop : ℕ) (to row : List ℕ) → t ≡ u → stop ≡ from
    → ((k : ℕ) → k < length to → slice_index row k ≡ hop_by b t from (slice_index to k)) → (k : ℕ) → k < length to → slice_index row k ≡ hop_by b u stop (slice_index to k)
ways_of b t u from stop to row e same all =
    subst (λ (n : ℕ). (k : ℕ) → k < length to → slice_index row k ≡ hop_by b u n (slice_index to k)) (sym same)
    (subst (λ (x : Table). (k : ℕ) → k < length to → slice_index row k ≡ hop_by b x from (slice_index to k)) e all)

-- the nodes of a setup are those of its callbacks
pub depot_asked : (n m : ℕ) → n ≡ m + 1 → 0 < n
depot_asked n m e = omega arith

pub node_asked : (n m i : ℕ) → n ≡ m + 1 → i ≤ m → i < n
node_asked n m i e h = omega arith

pub nodes_asked : (n m : ℕ) (xs : List ℕ) → n ≡ m + 1 → All (λ c. c ≤ m) xs → All (λ c. c < n) xs
nodes_asked n m xs e all k d h = node_asked n m (slice_index_or xs k d) e (all k d h)

-- what is asked of a setup's callbacks, by the registry that it lends
below_nodes : (i n m : ℕ) → m ≡ n + 1 → i ≤ n → i < m
below_nodes i n m e h = omega arith

pub id_known : (s : Setting) (ts : List Table) (id : ℕ) → ts ≡ s.tables → id < length s.tables → id < length ts
id_known s ts id e h = subst (λ (xs : List Table). id < length xs) (sym e) h

pub node_known : (s : Setting) (ts : List Table) (i : ℕ) → ts ≡ s.tables → IsSetting s → i ≤ s.customers → i < nodes_of ts
node_known s ts i e is h = subst (λ (xs : List Table). i < nodes_of xs) (sym e) (below_nodes i s.customers (nodes_of s.tables) is.tables h)

pub answer_of : (s : Setting) (ts : List Table) (id i j way : ℕ) → ts ≡ s.tables → id ≡ s.cost → way ≡ entry (table_at ts id) i j → way ≡ entry (table_at s.tables s.cost) i j
answer_of s ts id i j way e f g =
    subst (λ (n : ℕ). way ≡ entry (table_at s.tables n) i j) f (subst (λ (xs : List Table). way ≡ entry (table_at xs id) i j) e g)

-- what a registry has of a callback that is given as its answers is known of the cost
pub answers_at : (s : Setting) (ts : List Table) (id : ℕ) (answers : List ℕ) → ts ≡ s.tables → id ≡ s.cost → IsSetting s
    → length answers ≡ nodes_of ts * nodes_of ts → ((i j : ℕ) → slice_index answers (i * nodes_of ts + j) ≡ entry (table_at ts id) i j) → AreAnswers s answers
answers_at s ts id answers e f is sized at =
    let nodes : nodes_of ts ≡ s.customers + 1 = ap (λ (xs : List Table). nodes_of xs) e ∙ is.tables in
    record {
      sized = subst (λ (n : ℕ). length answers ≡ n * n) nodes sized;
      at = λ i j. subst (λ (n : ℕ). slice_index answers (i * n + j) ≡ entry (table_at s.tables s.cost) i j) nodes (answer_of s ts id i j (slice_index answers (i * nodes_of ts + j)) e f (at i j));
    }

-- the way back between two nodes that have one answer both ways
pub hop_back : (t : Table) (i j : ℕ) → entry t i j ≡ entry t j i → hop t i j ≡ hop t j i
hop_back t i j e = elim (cases_lt 0 (i + j)) [
  | inl more ↦ hop_away t i j (λ x y. absurd (omega (arith, x, y))) ∙ e ∙ sym (hop_away t j i (λ x y. absurd (omega (arith, x, y))))
  | inr none ↦
      let same : i ≡ j = omega arith in
      ap (λ (k : ℕ). hop t i k) (sym same) ∙ ap (λ (k : ℕ). hop t k i) same
]

-- ways back that have the answers of the ways there are read as these
pub read_along : (s : Setting) (ts : List Table) (id : ℕ) (turned symmetric : Bool) → ts ≡ s.tables → id ≡ s.cost → IsSetting s → turned ≡ true
    → (IsTrue symmetric → IsSymmetric (nodes_of ts) (table_at ts id)) → AreAlike s (not symmetric) turned
read_along s ts id turned false e f is back even = λ i j h k. ap (λ (b : Bool). hop_by b (table_at s.tables s.cost) i j) (sym back)
read_along s ts id turned true e f is back even =
    let nodes : nodes_of ts ≡ s.customers + 1 = ap (λ (xs : List Table). nodes_of xs) e ∙ is.tables in
    let same : IsSymmetric (nodes_of s.tables) (table_at s.tables s.cost) =
    subst (λ (n : ℕ). IsSymmetric (nodes_of s.tables) (table_at s.tables n)) f (subst (λ (xs : List Table). IsSymmetric (nodes_of xs) (table_at xs id)) e (even refl)) in
    λ i j h k. hop_back (table_at s.tables s.cost) i j (same i j (omega arith) (omega arith)) ∙ ap (λ (b : Bool). hop_by b (table_at s.tables s.cost) i j) (sym back)

-- two facts of what there may be give a third
pub some_both : {T : Type 0} (o : Option T) (P Q R : T → Type 0) → ((x : T) → P x → Q x → R x) → IfSome o P → IfSome o Q → IfSome o R
some_both None P Q R f p q = tt
some_both (Some x) P Q R f p q = f x p q

-- places among all answers, of so many customers
pub nodes_fit : (m n : ℕ) → m ≡ n → n ≤ 1000 → Fits w64 (m + 1)
nodes_fit m n e few = omega arith

pub answers_fit : (m n i : ℕ) → m ≡ n → n ≤ 1000 → i ≤ n → Fits w64 (i * (m + 1))
answers_fit m n i e few h = table_fits i (m + 1) (omega arith) (omega arith)

pub answer_fits : (m n i j : ℕ) → m ≡ n → n ≤ 1000 → i ≤ n → j ≤ n → Fits w64 (i * (m + 1) + j)
answer_fits m n i j e few h l = place_fits 1 (m + 1) (m + 1) i j (omega arith) (omega arith) (omega arith) (omega arith) (omega arith)

pub answers_in : (m n i j all : ℕ) → all ≡ (n + 1) * (n + 1) → m ≡ n → i ≤ n → j ≤ n → i * (m + 1) + j < all
answers_in m n i j all sized e h l =
    let row = row_fits i (m + 1) (m + 1) (omega arith) in
    let same : (m + 1) * (m + 1) ≡ (n + 1) * (n + 1) = ap (λ (k : ℕ). (k + 1) * (k + 1)) e in
    omega arith

pub not_both : (i j : ℕ) → ((i ≡ 0) × ¬ (j ≡ 0)) ⊎ ¬ (i ≡ 0) → i ≡ 0 → j ≢ 0
not_both i j (inl p) e = p.1
not_both i j (inr p) e = absurd (p e)

pub neither : (i j : ℕ) → ((j ≡ 0) × ¬ (i ≡ 0)) ⊎ ¬ (j ≡ 0) → i ≡ 0 → j ≢ 0
neither i j (inl p) e = absurd (p.1 e)
neither i j (inr p) e = p

-- a column of a table
pub turned_low : (j n w : ℕ) → j < n → n + 1 ≡ w → w ≤ 1002 → j ≤ 1002
turned_low j n w h e short = omega arith

pub turned_place : (n : ℕ) → n ≤ n
turned_place n = omega arith

pub column_in : (j n w : ℕ) → j < n → n + 1 ≡ w → j < 1 + w - 1
column_in j n w h e = omega arith

-- the callback of a setting's costs, had by their name, answers as the table of the costs
pub table_asked : (s : Setting) (ts : List Table) (id : ℕ) (t : Table) → ts ≡ s.tables → id ≡ s.cost → t ≡ table_at ts id → t ≡ table_at s.tables s.cost
table_asked s ts id t e d h = h ∙ ap (λ (xs : List Table). table_at xs id) e ∙ ap (λ (n : ℕ). table_at s.tables n) d

-- and knows the depot and each customer
pub size_asked : (s : Setting) (ts : List Table) (n : ℕ) → ts ≡ s.tables → IsSetting s → n ≡ nodes_of ts → n ≡ s.customers + 1
size_asked s ts n e is h = h ∙ ap (λ (xs : List Table). nodes_of xs) e ∙ is.tables
