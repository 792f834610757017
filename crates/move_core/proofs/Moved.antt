use Rattle.std.proofs.Common.{◌≡◌, ℕ, ◌+◌, ◌-◌, ◌≤◌, ◌∙◌, sym, ap, subst, refl, arith, List, ◌++◌, length, take, drop, append_assoc}
use Rattle.std.proofs.lemmas.List.{take-append-drop, take-append-le, take-take, drop-append-le, drop-take, drop-drop, take_at, drop_at, length-take-le, length-append, length-drop}
use Rattle.move_core.specs.Moves.{stretch, without, with_stretch}
use Rattle.move_core.specs.Laws.{ShiftsInParts}

-- a route without a stretch, which is put in again before the place where it stood
pub moved_front : (r s : List ℕ) (t f e : ℕ) → t ≤ f → f ≤ length r
    → take t (take f r ++ drop e r) ++ (s ++ drop t (take f r ++ drop e r)) ≡ take t r ++ (s ++ (take (f - t) (drop t r) ++ drop e r))
moved_front r s t f e h high =
    let long : length (take f r) ≡ f = length-take-le f r high in
    let reach : t ≤ length (take f r) = omega arith in
    let all : t + (f - t) ≡ f = omega arith in
    let front : take t (take f r ++ drop e r) ≡ take t r = take-append-le t (take f r) (drop e r) reach ∙ take-take t f r h in
    let middle : drop t (take f r) ≡ take (f - t) (drop t r) = subst (λ (n : ℕ). drop t (take n r) ≡ take (f - t) (drop t r)) all (drop-take t (f - t) r) in
    let back : drop t (take f r ++ drop e r) ≡ take (f - t) (drop t r) ++ drop e r = drop-append-le t (take f r) (drop e r) reach ∙ ap (λ (xs : List ℕ). xs ++ drop e r) middle in
    rw (front, back) refl

-- and after it
pub moved_back : (r s : List ℕ) (t f e n : ℕ) → f ≤ t → f + n ≡ e → t + n ≤ length r
    → take t (take f r ++ drop e r) ++ (s ++ drop t (take f r ++ drop e r)) ≡ take f r ++ (take (t + n - e) (drop e r) ++ (s ++ drop (t + n) r))
moved_back r s t f e n h end high =
    let m : ℕ = t - f in
    let a = take f r in
    let b = take m (drop e r) in
    let c = drop m (drop e r) in
    let whole : a ++ drop e r ≡ (a ++ b) ++ c = ap (λ (xs : List ℕ). a ++ xs) (sym (take-append-drop m (drop e r))) ∙ sym (append_assoc a b c) in
    let gone : length (drop e r) ≡ length r - e = length-drop e r in
    let one : length (take f r) ≡ f = length-take-le f r (omega arith) in
    let two : length (take (t - f) (drop e r)) ≡ t - f = length-take-le (t - f) (drop e r) (omega arith) in
    let both : length (take f r ++ take (t - f) (drop e r)) ≡ length (take f r) + length (take (t - f) (drop e r)) = length-append (take f r) (take (t - f) (drop e r)) in
    let long : length (a ++ b) ≡ t = omega arith in
    let count : t + n - e ≡ t - f = omega arith in
    let last : e + (t - f) ≡ t + n = omega arith in
    let front : take t (a ++ drop e r) ≡ a ++ b = ap (λ (xs : List ℕ). take t xs) whole ∙ take_at (a ++ b) c t long in
    let back : drop t (a ++ drop e r) ≡ drop (t + n) r =
    ap (λ (xs : List ℕ). drop t xs) whole ∙ drop_at (a ++ b) c t long ∙ drop-drop m e r ∙ ap (λ (k : ℕ). drop k r) last in
    ap (λ (xs : List ℕ). xs ++ (s ++ drop t (a ++ drop e r))) front ∙ ap (λ (xs : List ℕ). (a ++ b) ++ (s ++ xs)) back
    ∙ append_assoc a b (s ++ drop (t + n) r) ∙ ap (λ (k : ℕ). a ++ (take k (drop e r) ++ (s ++ drop (t + n) r))) (sym count)

pub shifts_parted : ShiftsInParts
shifts_parted = record { before = before; after = after }
  where
    before : (r : List ℕ) (p n at : ℕ) → 1 ≤ at → at ≤ p → p ≤ length r + 1
        → with_stretch (without r p n) at (stretch r p n) ≡ take (at - 1) r ++ (stretch r p n ++ (take (p - at) (drop (at - 1) r) ++ drop (p - 1 + n) r))
    before r p n at low h high =
        let e : p - 1 - (at - 1) ≡ p - at = omega arith in
        moved_front r (stretch r p n) (at - 1) (p - 1) (p - 1 + n) (omega arith) (omega arith)
        ∙ ap (λ (k : ℕ). take (at - 1) r ++ (stretch r p n ++ (take k (drop (at - 1) r) ++ drop (p - 1 + n) r))) e

    after : (r : List ℕ) (p n at : ℕ) → 1 ≤ p → p ≤ at → at + n ≤ length r + 1
        → with_stretch (without r p n) at (stretch r p n) ≡ take (p - 1) r ++ (take (at - p) (drop (p - 1 + n) r) ++ (stretch r p n ++ drop (at - 1 + n) r))
    after r p n at low h high =
        let e : at - 1 + n - (p - 1 + n) ≡ at - p = omega arith in
        moved_back r (stretch r p n) (at - 1) (p - 1) (p - 1 + n) n (omega arith) refl (omega arith)
        ∙ ap (λ (k : ℕ). take (p - 1) r ++ (take k (drop (p - 1 + n) r) ++ (stretch r p n ++ drop (at - 1 + n) r))) e
