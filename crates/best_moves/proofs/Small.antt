-- Places lie in the rows, and sums of few ways fit.
use Rattle.std.proofs.Common.{Fits, w32, w64, ◌≡◌, ◌^◌, ℕ, ◌+◌, ◌-◌, ◌<◌, ◌≤◌, arith}

pub two_fit : (a b : ℕ) → a < 2 ^ 32 → b < 2 ^ 32 → Fits w64 (a + b)
two_fit a b h k = omega arith

pub three_fit : (a b d : ℕ) → a < 2 ^ 32 → b < 2 ^ 32 → d < 2 ^ 32 → Fits w64 (a + b + d)
three_fit a b d h k l = omega arith

pub four_fit : (a b d e : ℕ) → a < 2 ^ 32 → b < 2 ^ 32 → d < 2 ^ 32 → e < 2 ^ 32 → Fits w64 (a + b + d + e)
four_fit a b d e h k l m = omega arith

pub four_low : (a b d e : ℕ) → a < 2 ^ 32 → b < 2 ^ 32 → d < 2 ^ 32 → e < 2 ^ 32 → a + b + d + e < 2 ^ 50
four_low a b d e h k l m = omega arith

pub three_low : (a b d : ℕ) → a < 2 ^ 32 → b < 2 ^ 32 → d < 2 ^ 32 → a + b + d < 2 ^ 60
three_low a b d h k l = omega arith

-- a stop that has one behind it, and the ways before and behind it
pub edge_before : (p n m : ℕ) → p + 1 < n → m + 1 ≡ n → p - 1 < m
edge_before p n m h e = omega arith

pub edge_at : (p n m : ℕ) → p + 1 < n → m + 1 ≡ n → p < m
edge_at p n m h e = omega arith

pub place_fits : (p n : ℕ) → p + 1 < n → n ≤ 1002 → Fits w64 (p + 1)
place_fits p n h short = omega arith

-- the ends of a row of ways to the stops of a route
pub wide_some : (n l : ℕ) → n ≡ l + 2 → 1 ≤ n
wide_some n l e = omega arith

pub row_some : (m n l : ℕ) → m ≡ n → n ≡ l + 2 → 0 < m
row_some m n l e f = omega arith

pub row_end : (m n l : ℕ) → m ≡ n → n ≡ l + 2 → n - 1 < m
row_end m n l e f = omega arith

pub end_casts : (n : ℕ) → n ≤ 1002 → Fits w32 (n - 1)
end_casts n short = omega arith

pub leaves_room : (p n l : ℕ) → p + 1 < n → n ≡ l + 2 → p + 1 ≤ l + 1
leaves_room p n l h e = omega arith

pub begins : (b f : ℕ) → b ≡ f + 1 → 1 ≤ b
begins b f e = omega arith

pub one_small : (a : ℕ) → a < 2 ^ 32 → a < 2 ^ 34
one_small a h = omega arith

pub two_low : (a b : ℕ) → a < 2 ^ 32 → b < 2 ^ 32 → a + b < 2 ^ 50
two_low a b h k = omega arith

pub two_more_fit : (a b d : ℕ) → a < 2 ^ 32 → b < 2 ^ 32 → d < 2 ^ 34 → Fits w64 (a + b + d)
two_more_fit a b d h k l = omega arith

pub two_more_low : (a b d : ℕ) → a < 2 ^ 32 → b < 2 ^ 32 → d < 2 ^ 34 → a + b + d < 2 ^ 50
two_more_low a b d h k l = omega arith

-- what is lost or gained with the sums of ways over many stops
pub way_sum_fits : (a s : ℕ) → a < 2 ^ 32 → s ≤ 2 ^ 42 → Fits w64 (a + s)
way_sum_fits a s h k = omega arith

pub way_sum_low : (a s : ℕ) → a < 2 ^ 32 → s ≤ 2 ^ 42 → a + s < 2 ^ 50
way_sum_low a s h k = omega arith

pub sum_low : (s : ℕ) → s ≤ 2 ^ 42 → s < 2 ^ 50
sum_low s k = omega arith

-- places further on
pub row_has : (m n k : ℕ) → m ≡ n → k < n → k < m
row_has m n k e h = omega arith

pub count_fits : (p m n : ℕ) → p + m < n → n ≤ 1002 → Fits w64 (p + m)
count_fits p m n h short = omega arith

pub after_low : (p m : ℕ) → 1 ≤ p → 1 ≤ p + m
after_low p m h = omega arith

pub before_first : (p m n e : ℕ) → 1 ≤ p → p + m < n → e + 1 ≡ n → p - 1 < e
before_first p m n e low h f = omega arith

pub before_after : (p m n e : ℕ) → 1 ≤ p → p + m < n → e + 1 ≡ n → p + m - 1 < e
before_after p m n e low h f = omega arith

pub gap_order : (p m : ℕ) → 1 ≤ p → p - 1 < p + m
gap_order p m low = omega arith

pub width_casts : (n : ℕ) → n ≤ 1002 → Fits w32 n
width_casts n short = omega arith

pub next_casts : (p m n : ℕ) → p + m < n → n ≤ 1002 → Fits w32 (p + 1)
next_casts p m n h short = omega arith

pub next_order : (p m n : ℕ) → p + m < n → p + 1 ≤ n - m
next_order p m n h = omega arith

-- a stop that has two behind it
pub edge_two_before : (p n m : ℕ) → p + 2 < n → m + 1 ≡ n → p - 1 < m
edge_two_before p n m h e = omega arith

pub edge_two_at : (p n m : ℕ) → p + 2 < n → m + 1 ≡ n → p < m
edge_two_at p n m h e = omega arith

pub edge_two_next : (p n m : ℕ) → p + 2 < n → m + 1 ≡ n → p + 1 < m
edge_two_next p n m h e = omega arith

pub row_two_next : (m n p : ℕ) → m ≡ n → p + 2 < n → p + 1 < m
row_two_next m n p e h = omega arith

pub two_next_fits : (p n : ℕ) → p + 2 < n → n ≤ 1002 → Fits w64 (p + 1)
two_next_fits p n h short = omega arith

pub two_fits : (p n : ℕ) → p + 1 < n → n ≤ 1002 → Fits w64 (p + 2)
two_fits p n h short = omega arith

pub three_fits : (p n : ℕ) → p + 1 < n → n ≤ 1002 → Fits w64 (p + 3)
three_fits p n h short = omega arith

pub two_casts : (p n : ℕ) → p + 1 < n → n ≤ 1002 → Fits w32 (p + 2)
two_casts p n h short = omega arith

pub wide_two : (n l : ℕ) → n ≡ l + 2 → 2 ≤ n
wide_two n l e = omega arith

pub sums_at : (p n m : ℕ) → p + 1 < n → m ≡ n - 1 → p < m
sums_at p n m h e = omega arith

-- the closing of a gap
pub gap_from : (a b n : ℕ) → a < b → b < n → a < n
gap_from a b n h k = omega arith

pub gap_fits : (p n : ℕ) → p < n → n ≤ 1002 → Fits w64 (p + 1)
gap_fits p n h short = omega arith

-- the loops over places
pub two_one : (p n : ℕ) → p + 2 < n → p + 1 < n
two_one p n h = omega arith

pub begin_room : (b n l : ℕ) → b ≤ l → n ≡ l + 2 → b + 2 ≤ n
begin_room b n l h e = omega arith

pub place_room : (p n : ℕ) → p < n - 1 → p + 1 < n
place_room p n h = omega arith

pub next_less : (p n : ℕ) → p + 1 < n → p < n
next_less p n h = omega arith

pub one_less : (p n : ℕ) → p + 1 < n → p - 1 < n
one_less p n h = omega arith

pub count_less : (p m n : ℕ) → p + m < n → p < n
count_less p m n h = omega arith

pub count_first : (p m n : ℕ) → p + m < n → p - 1 < n
count_first p m n h = omega arith

pub count_last : (p m n : ℕ) → p + m < n → p + m - 1 < n
count_last p m n h = omega arith

pub wide_one : (n l : ℕ) → n ≡ l + 2 → 1 ≤ n - 1
wide_one n l e = omega arith

pub too_early : (f k b : ℕ) → f < k → k < b → b ≡ f + 1 → ⊥
too_early f k b h l e = absurd (omega arith)

pub two_behind : (p at : ℕ) → p + 2 ≤ at → p < at
two_behind p at h = omega arith

pub two_apart : (p at : ℕ) → p + 2 ≤ at → p + 1 < at
two_apart p at h = omega arith

pub not_both : (a b : ℕ) → a ≤ b → b < a → ⊥
not_both a b h l = absurd (omega arith)

-- the end of a row of crosses, before the last cut or at it
pub below_then : (l end n : ℕ) → end ≡ n - 2 → l < end → l + 1 < n
below_then l end n e h = omega arith

pub below_else : (l end n : ℕ) → end ≡ n - 1 → l < end → l + 1 < n
below_else l end n e h = omega arith

pub begin_then : (b end n : ℕ) → end ≡ n - 2 → b + 2 ≤ n → b ≤ end
begin_then b end n e h = omega arith

pub begin_else : (b end n : ℕ) → end ≡ n - 1 → b + 2 ≤ n → b ≤ end
begin_else b end n e h = omega arith

pub end_then : (end n l : ℕ) → end ≡ n - 2 → n ≡ l + 2 → end + 1 ≤ n
end_then end n l e w = omega arith

pub end_else : (end n l : ℕ) → end ≡ n - 1 → n ≡ l + 2 → end + 1 ≤ n
end_else end n l e w = omega arith
