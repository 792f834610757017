-- Rows that are gone through: the places lie in them, the sums fit, and none of the numbers so far wins.
use Rattle.std.proofs.Common.{Fits, w64, ◌≡◌, ◌^◌, ℕ, ◌+◌, ◌-◌, ◌%◌, ◌<◌, ◌≤◌, inl, inr, subst, arith}
use Rattle.std.proofs.lemmas.Bool.{cases_lt}
use Rattle.row_gains.specs.declared.gains.CutRow.{CutRow}
use Rattle.row_gains.specs.declared.gains.SwapRow.{SwapRow}
use Rattle.row_gains.specs.Rows.{IsCutRow, IsSwapRow}
use borrow.Author.Count.{below_more}

pub never : (k from : ℕ) → k < from → from ≤ k → ⊥
never k from h l = absurd (omega arith)

pub within : (k end n : ℕ) → k < end → end ≤ n → k < n
within k end n h fits = omega arith

pub within_before : (k end n : ℕ) → k < end → end ≤ n → k - 1 < n
within_before k end n h fits = omega arith

pub within_next : (k end n : ℕ) → k < end → end < n → k + 1 < n
within_next k end n h fits = omega arith

pub next_fits : (k end : ℕ) → k < end → Fits w64 end → Fits w64 (k + 1)
next_fits k end h fits = omega arith

pub begun_low : (from k : ℕ) → 1 ≤ from → from ≤ k → 1 ≤ k
begun_low from k h l = omega arith

pub inside : (k end : ℕ) → k < end → k ≤ end
inside k end h = omega arith

pub whole : (n : ℕ) → n ≤ n
whole n = omega arith

pub passed : (m k end : ℕ) → m < end → end ≤ k → m < k
passed m k end h l = omega arith

-- sums fit
pub lost_fits : (x a : ℕ) → x < 2 ^ 51 → a < 2 ^ 43 → Fits w64 (x + a)
lost_fits x a h i = omega arith

pub wanted_fits : (w a : ℕ) → w < 2 ^ 61 → a < 2 ^ 43 → Fits w64 (w + a)
wanted_fits w a h i = omega arith

-- what a candidate loses and gains beside what is wanted
pub wins : (lost wanted x y a b : ℕ) → x ≡ a → y ≡ b → wanted + y < lost + x → wanted + b < lost + a
wins lost wanted x y a b e f h = omega arith

pub loses : (lost wanted x y a b : ℕ) → x ≡ a → y ≡ b → lost + x ≤ wanted + y → lost + a ≤ wanted + b
loses lost wanted x y a b e f h = omega arith

pub none_on : (loses gains : ℕ → ℕ) (lost wanted from k : ℕ) → ((m : ℕ) → m < k → from ≤ m → lost + loses m ≤ wanted + gains m)
    → lost + loses k ≤ wanted + gains k → (m : ℕ) → m < k + 1 → from ≤ m → lost + loses m ≤ wanted + gains m
none_on loses gains lost wanted from k below here = below_more (λ (m : ℕ). from ≤ m → lost + loses m ≤ wanted + gains m) k below (λ l. here)

-- a row in steps, of which the last may begin inside the one before
pub step_low : (from end : ℕ) → from + 8 ≤ end → from ≤ end
step_low from end h = omega arith

pub step_fits : (from end : ℕ) → from + 8 ≤ end → (end - from) % 8 ≤ end
step_fits from end h = omega arith

pub step_high : (from end : ℕ) → from + 8 ≤ end → from ≤ end - (end - from) % 8
step_high from end h = omega arith

pub step_last : (from end : ℕ) → from + 8 ≤ end → end < end - (end - from) % 8 + 8
step_last from end h = omega arith

pub step_room : (from end : ℕ) → from + 8 ≤ end → 8 ≤ end
step_room from end h = omega arith

pub step_order : (end : ℕ) → end - 8 ≤ end
step_order end = omega arith

pub step_begin : (from end : ℕ) → 1 ≤ from → from + 8 ≤ end → 1 ≤ end - 8
step_begin from end b h = omega arith

pub long_row : (from end : ℕ) → from ≤ end → 10 ≤ end - from → from + 8 ≤ end
long_row from end order h = omega arith

pub steps_all : (P : ℕ → Type 0) (from whole end : ℕ) → end < whole + 8 → ((k : ℕ) → k < whole → from ≤ k → P k)
    → ((k : ℕ) → k < end → end - 8 ≤ k → P k) → (k : ℕ) → k < end → from ≤ k → P k
steps_all P from whole end last some others k h l = elim (cases_lt k whole) [
  | inl before ↦ some k before l
  | inr after ↦ others k h (omega arith)
]

pub cut_shorter : (row : CutRow) (n m : ℕ) → n ≤ m → IsCutRow row m → IsCutRow row n
cut_shorter row n m h is =
    let e = is.edges in let t = is.to in let o = is.on in
    record { edges = omega arith; to = omega arith; on = omega arith; most = is.most }

pub swap_shorter : (row : SwapRow) (n m : ℕ) → n ≤ m → IsSwapRow row m → IsSwapRow row n
swap_shorter row n m h is =
    let e = is.edges in let b = is.before in let a = is.here in let x = is.next in let y = is.back in
    record { edges = omega arith; before = omega arith; here = omega arith; next = omega arith; back = omega arith; most = is.most }

-- a long row that has each candidate has them all
pub last_of : (from end : ℕ) → from ≤ end → 10 ≤ end - from → (from ≤ end - 1) × (end - 1 < end) × (end - 1 + 1 ≡ end)
last_of from end order h = (omega arith, omega arith, omega arith)

pub cut_whole : (row : CutRow) (from end : ℕ) → from ≤ end → 10 ≤ end - from → ((k : ℕ) → from ≤ k → k < end → IsCutRow row (k + 1)) → IsCutRow row end
cut_whole row from end order h each = let l = last_of from end order h in subst (λ (n : ℕ). IsCutRow row n) l.2 (each (end - 1) l.0 l.1)

pub swap_whole : (row : SwapRow) (from end : ℕ) → from ≤ end → 10 ≤ end - from → ((k : ℕ) → from ≤ k → k < end → (1 ≤ k) × IsSwapRow row (k + 1)) → IsSwapRow row end
swap_whole row from end order h each = let l = last_of from end order h in subst (λ (n : ℕ). IsSwapRow row n) l.2 (each (end - 1) l.0 l.1).1

pub first_in : (from end : ℕ) → from ≤ end → 10 ≤ end - from → from < end
first_in from end order h = omega arith
