use Rattle.std.specs.Prelude.{◌≡◌, ℕ, ◌+◌, ◌≤◌, min}
use Rattle.std.proofs.Common.{refl, sym, ap, subst, ◌∙◌, arith}
use Rattle.callback_store.specs.declared.meter.Meter.{Meter}

-- one more than a count, but no more than the greatest u64
abbrev pub counted : ℕ → ℕ
counted n = min (n + 1) 18446744073709551615

-- the meter after one more ask
abbrev pub after_ask : Meter → Meter
after_ask m = record m { asks = counted m.asks }

-- the meter after this many more asks
abbrev pub after_asks : Meter → ℕ → Meter
after_asks m n = record m { asks = min (m.asks + n) 18446744073709551615 }

-- the meter after one more probe
abbrev pub after_probe : Meter → Meter
after_probe m = record m { probes = counted m.probes }

-- the meter after one more walk
abbrev pub after_walk : Meter → Meter
after_walk m = record m { walks = counted m.walks }

-- From the old meter to the new one between `least` and `most` asks were counted, and no probe and no walk. A count that stops at its
-- greatest value shows as many as it can.
pub record Asks (old new : Meter) (least most : ℕ) : Type 0 where
  pub probes : new.probes ≡ old.probes
  pub walks : new.walks ≡ old.walks
  pub rises : old.asks ≤ new.asks
  pub low : min (old.asks + least) 18446744073709551615 ≤ new.asks
  pub high : new.asks ≤ old.asks + most

-- exactly n asks were counted
abbrev pub AsksJust : Meter → Meter → ℕ → Type 0
AsksJust old new n = Asks old new n n

-- at most n asks were counted
abbrev pub AsksAtMost : Meter → Meter → ℕ → Type 0
AsksAtMost old new n = Asks old new 0 n

-- no count went down
pub record NoCountFell (old new : Meter) : Type 0 where
  pub asks : old.asks ≤ new.asks
  pub probes : old.probes ≤ new.probes
  pub walks : old.walks ≤ new.walks

-- nothing was asked
pub no_ask : (m : Meter) (n : ℕ) → AsksAtMost m m n
no_ask m n = record { probes = refl; walks = refl; rises = omega arith; low = omega arith; high = omega arith }

pub none_asked : (m : Meter) → AsksJust m m 0
none_asked m = record { probes = refl; walks = refl; rises = omega arith; low = omega arith; high = omega arith }

-- wider bounds hold as well
pub asks_wider : (a b : Meter) (m n j k : ℕ) → Asks a b m n → j ≤ m → n ≤ k → Asks a b j k
asks_wider a b m n j k p fewer more =
    let rises = p.rises in
    let low = p.low in
    let high = p.high in
    record { probes = p.probes; walks = p.walks; rises = rises; low = omega arith; high = omega arith }

-- asks that follow others are as many as both together
pub asks_then : (a b c : Meter) (i m j n : ℕ) → Asks a b i m → Asks b c j n → Asks a c (i + j) (m + n)
asks_then a b c i m j n p q =
    let rises = p.rises in
    let low = p.low in
    let high = p.high in
    let rises_then = q.rises in
    let low_then = q.low in
    let high_then = q.high in
    record { probes = q.probes ∙ p.probes; walks = q.walks ∙ p.walks; rises = omega arith; low = omega arith; high = omega arith }

-- asks that follow others are at most as many as both together
pub asks_after : {i j : ℕ} (a b c : Meter) (m n k : ℕ) → Asks a b i m → Asks b c j n → m + n ≤ k → AsksAtMost a c k
asks_after {i} {j} a b c m n k p q few = asks_wider a c (i + j) (m + n) 0 k (asks_then a b c i m j n p q) (omega arith) few

-- counts that follow others, at both ends
pub asks_both : (a b c : Meter) (i m j n l k : ℕ) → Asks a b i m → Asks b c j n → l ≤ i + j → m + n ≤ k → Asks a c l k
asks_both a b c i m j n l k p q few many = asks_wider a c (i + j) (m + n) l k (asks_then a b c i m j n p q) few many

-- where exactly n asks were counted, the new meter is known
pub asked_just : (a b : Meter) (n : ℕ) → AsksJust a b n → b.asks ≤ 18446744073709551615 → b ≡ after_asks a n
asked_just a b n p fits =
    let low = p.low in
    let high = p.high in
    let asks : b.asks ≡ min (a.asks + n) 18446744073709551615 = omega arith in
    ap (λ (k : ℕ). record b { asks = k }) asks
    ∙ ap (λ (k : ℕ). record b { asks = min (a.asks + n) 18446744073709551615; probes = k }) p.probes
    ∙ ap (λ (k : ℕ). record a { asks = min (a.asks + n) 18446744073709551615; walks = k }) p.walks

counted_just : (m : Meter) (n : ℕ) → m.asks ≤ 18446744073709551615 → AsksJust m (after_asks m n) n
counted_just m n fits = record { probes = refl; walks = refl; rises = omega arith; low = omega arith; high = omega arith }

pub just_asked : (a b : Meter) (n : ℕ) → a.asks ≤ 18446744073709551615 → b ≡ after_asks a n → AsksJust a b n
just_asked a b n fits e = subst (λ (m : Meter). AsksJust a m n) (sym e) (counted_just a n fits)

-- where asks alone were counted, no count went down
pub none_fell : {i : ℕ} (old new : Meter) (n : ℕ) → Asks old new i n → NoCountFell old new
none_fell old new n p =
    let probes = p.probes in
    let walks = p.walks in
    record { asks = p.rises; probes = omega arith; walks = omega arith }
