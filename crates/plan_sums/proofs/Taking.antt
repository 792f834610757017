-- One more row of a listing.
use Rattle.std.proofs.Common.{◌≡◌, ◌≢◌, ◌∙◌, ℕ, ◌+◌, ◌<◌, ◌≤◌, Bool, true, false, ◌||◌, ◌&&◌, eqb, List, [], ◌∷◌, ◌++◌, length, map, get_or, take, set, Bor, Option, Some, None, ⊎_elim, refl, sym, ap, subst, arith}
use Rattle.std.specs.Prelude.{nat_lt, slice_index_or}
use Rattle.std.specs.List.{list_any}
use Rattle.std.proofs.lemmas.Bool.{cases_lt}
use Rattle.std.proofs.lemmas.Bool.Decides.{nat_tests}
use Rattle.std.proofs.lemmas.List.{length_push, get_or_push, get_or_append_left, take-append-le, take_at, get_or-set_same, get_or-set_other, length-set}
use Rattle.std.proofs.lemmas.List.Folds.{list_any-append}
use Rattle.plan_sums.specs.declared.row.Row.{Row}
use Rattle.plan_sums.specs.Places.{Places}
use Rattle.plan_sums.specs.Rows.{AllFit, AreRows, AreSeen, IsRow, fits, is_row, no_row, row_at}
use Rattle.plan_sums.specs.Progress.{AreTaken}
use Rattle.plan_sums.specs.Lines.{line_at}
use Rattle.plan_sums.specs.declared.finding.Span.{Span}
use Rattle.text_words.specs.Words.{number}
use Rattle.plan_sums.specs.Reading.{IsBadRowAt, IsNoRow, lone_row, planned_row, row_of, row_of_words}

-- one more row, at a place before the last one and at the last
row_before : (rows : List Row) (row : Row) (k : ℕ) → k < length rows → row_at (rows ++ row ∷ []) k ≡ row_at rows k
row_before rows row k lt = get_or_append_left rows (row ∷ []) no_row k lt

row_here : (rows : List Row) (row : Row) (k : ℕ) → length rows ≡ k → row_at (rows ++ row ∷ []) k ≡ row
row_here rows row k e = get_or_push rows row no_row k e

-- what holds of each row, and of one more
pub each_more : (P : ℕ → Row → Type 0) (rows : List Row) (row : Row) → ((k : ℕ) → k < length rows → P k (row_at rows k)) → P (length rows) row → (k : ℕ) → k < length (rows ++ row ∷ []) → P k (row_at (rows ++ row ∷ []) k)
each_more P rows row h here k lt =
    ⊎_elim (λ less. subst (λ (r : Row). P k r) (sym (row_before rows row k less)) (h k less))
    (λ more. let e : length rows ≡ k = omega (arith, length_push rows row) in
    subst (λ (r : Row). P k r) (sym (row_here rows row k e)) (subst (λ (n : ℕ). P n row) e here))
    (cases_lt k (length rows))

and_left : (a b : Bool) → (a && b) ≡ true → a ≡ true
and_left true b h = refl
and_left false b h = h

and_right : (a b : Bool) → (a && b) ≡ true → b ≡ true
and_right true b h = h
and_right false b h = cc

is_row_of : (p : Places) (row : Row) → is_row p row ≡ true → IsRow p row
is_row_of p row h = record { vehicle = grind (arith, nat_tests); some_customer = grind (arith, nat_tests); few_customers = grind (arith, nat_tests); place = grind (arith, nat_tests) }

rows_more : (p : Places) (rows : List Row) (row : Row) → fits p rows row ≡ true → length rows < 1000 → AreRows p rows → AreRows p (rows ++ row ∷ [])
rows_more p rows row f few h =
    let rest = and_right (nat_lt (length rows + 1) (length p.nodes)) _ f in record {
      few = omega (arith, few, length_push rows row);
      each = each_more (λ _ r. IsRow p r) rows row h.each (is_row_of p row (and_left (is_row p row) _ rest));
    }

pub fit_more : (p : Places) (rows : List Row) (row : Row) → fits p rows row ≡ true → AllFit p rows → AllFit p (rows ++ row ∷ [])
fit_more p rows row f h k lt =
    ⊎_elim (λ less. ap (λ (b : List Row). fits p b (row_at (rows ++ row ∷ []) k)) (take-append-le k rows (row ∷ []) (omega arith)) ∙ ap (fits p (take k rows)) (row_before rows row k less) ∙ h k less)
    (λ more. let e : length rows ≡ k = omega (arith, length_push rows row) in
    ap (λ (b : List Row). fits p b (row_at (rows ++ row ∷ []) k)) (take_at rows (row ∷ []) k e) ∙ ap (fits p rows) (row_here rows row k e) ∙ f)
    (cases_lt k (length rows))

or_false : (b : Bool) → (b || (false || false)) ≡ b
or_false true = refl
or_false false = refl

or_true : (b : Bool) → (b || (true || false)) ≡ true
or_true true = refl
or_true false = refl

-- whether a customer is seen behind one more row
seen_at : (rows : List Row) (row : Row) (seen : List Bool) (c : ℕ) (same : Bool) → eqb row.customer c ≡ same → c < length seen → slice_index_or seen c false ≡ list_any (λ r. eqb r.customer c) rows → slice_index_or (set seen row.customer true) c false ≡ list_any (λ r. eqb r.customer c) (rows ++ row ∷ [])
seen_at rows row seen c true is lt h =
    let e : row.customer ≡ c = grind (arith, nat_tests) in
    subst (λ (k : ℕ). slice_index_or (set seen k true) c false ≡ list_any (λ r. eqb r.customer c) (rows ++ row ∷ [])) (sym e)
    (get_or-set_same seen c true false lt ∙ sym (or_true (list_any (λ r. eqb r.customer c) rows)) ∙ ap (λ (b : Bool). list_any (λ r. eqb r.customer c) rows || (b || false)) (sym is) ∙ sym (list_any-append (λ r. eqb r.customer c) rows (row ∷ [])))
seen_at rows row seen c false is lt h =
    let ne : c ≢ row.customer = grind (arith, nat_tests) in
    get_or-set_other seen row.customer c true false ne ∙ h ∙ sym (or_false (list_any (λ r. eqb r.customer c) rows)) ∙ ap (λ (b : Bool). list_any (λ r. eqb r.customer c) rows || (b || false)) (sym is) ∙ sym (list_any-append (λ r. eqb r.customer c) rows (row ∷ []))

seen_more : (p : Places) (rows : List Row) (row : Row) (seen : List Bool) → AreSeen p rows seen → AreSeen p (rows ++ row ∷ []) (set seen row.customer true)
seen_more p rows row seen h = record {
  sized = length-set seen row.customer true ∙ h.sized;
  marks = λ c lt. seen_at rows row seen c (eqb row.customer c) refl (omega (arith, lt, h.sized)) (h.marks c lt);
}

-- one more row that fits
pub taken_more : (p : Places) (rows new : List Row) (row : Row) (seen : List Bool) → new ≡ rows ++ row ∷ [] → fits p rows row ≡ true → length rows < 1000 → AreTaken p rows seen → AreTaken p new (set seen row.customer true)
taken_more p rows new row seen e f few h = subst (λ (l : List Row). AreTaken p l (set seen row.customer true)) (sym e) (record {
  are_rows = rows_more p rows row f few h.are_rows;
  fit = fit_more p rows row f h.fit;
  known = seen_more p rows row seen h.known;
})

-- ---- the lines that were read

pub read_more : (ls : List (List ℕ)) (first k : ℕ) (rows new : List Row) (row : Row) → new ≡ rows ++ row ∷ [] → first + length rows ≡ k → row_of (line_at ls k) ≡ Some row → ((j : ℕ) → j < length rows → row_of (line_at ls (first + j)) ≡ Some (row_at rows j)) → (j : ℕ) → j < length new → row_of (line_at ls (first + j)) ≡ Some (row_at new j)
read_more ls first k rows new row e here is h = subst (λ (l : List Row). (j : ℕ) → j < length l → row_of (line_at ls (first + j)) ≡ Some (row_at l j)) (sym e) (each_more (λ j r. row_of (line_at ls (first + j)) ≡ Some r) rows row h (subst (λ (n : ℕ). row_of (line_at ls n) ≡ Some row) (sym here) is))

-- a line that is no row, or one that does not fit, behind those that were read
pub bad_row : (p : Places) (ls : List (List ℕ)) (span : Span) (k : ℕ) (rows : List Row) → k < span.end → span.first + length rows ≡ k → AllFit p rows → ((j : ℕ) → j < length rows → row_of (line_at ls (span.first + j)) ≡ Some (row_at rows j)) → IsNoRow p rows (line_at ls k) → IsBadRowAt p ls span (k + 1)
bad_row p ls span k rows within counted fit read bad = record {
  before = rows;
  within = omega (arith, within, counted);
  rows_from = record { read = read; fit = fit };
  bad = subst (λ (n : ℕ). IsNoRow p rows (line_at ls n)) (sym counted) bad;
  here = omega (arith, counted);
}

-- a line of five words is no row
pub five_words : (ws : List (List ℕ)) → 5 ≤ length ws → length ws < 6 → None ≡ row_of_words ws
five_words [] low high = absurd (omega arith)
five_words (a ∷ []) low high = absurd (omega arith)
five_words (a ∷ b ∷ []) low high = absurd (omega arith)
five_words (a ∷ b ∷ c ∷ []) low high = absurd (omega arith)
five_words (a ∷ b ∷ c ∷ d ∷ []) low high = absurd (omega arith)
five_words (a ∷ b ∷ c ∷ d ∷ e ∷ []) low high = refl
five_words (a ∷ b ∷ c ∷ d ∷ e ∷ f ∷ ws) low high = absurd (omega arith)

-- what a line of four words is, and one of six
pub four_words : (ws : List (Bor (List ℕ))) (e : Bor (List ℕ)) (v p c : Option ℕ) (r : Option Row) → 4 ≤ length ws → length ws < 5
    → v ≡ number (get_or ws 1 e).now → p ≡ number (get_or ws 2 e).now → c ≡ number (get_or ws 3 e).now → r ≡ lone_row v p c → r ≡ row_of_words (map (λ w. w.now) ws)
four_words [] e v p c r low high ev ep ec is = absurd (omega arith)
four_words (w1 ∷ []) e v p c r low high ev ep ec is = absurd (omega arith)
four_words (w1 ∷ w2 ∷ []) e v p c r low high ev ep ec is = absurd (omega arith)
four_words (w1 ∷ w2 ∷ w3 ∷ []) e v p c r low high ev ep ec is = absurd (omega arith)
four_words (w1 ∷ w2 ∷ w3 ∷ w4 ∷ []) e v p c r low high ev ep ec is = is ∙ rw (ev, ep, ec) refl
four_words (w1 ∷ w2 ∷ w3 ∷ w4 ∷ w5 ∷ ws) e v p c r low high ev ep ec is = absurd (omega arith)

pub six_words : (ws : List (Bor (List ℕ))) (e : Bor (List ℕ)) (v p c l t : Option ℕ) (r : Option Row) → 6 ≤ length ws → length ws < 7
    → v ≡ number (get_or ws 1 e).now → p ≡ number (get_or ws 2 e).now → c ≡ number (get_or ws 3 e).now → l ≡ number (get_or ws 4 e).now → t ≡ number (get_or ws 5 e).now
    → r ≡ planned_row v p c l t → r ≡ row_of_words (map (λ w. w.now) ws)
six_words [] e v p c l t r low high ev ep ec el et is = absurd (omega arith)
six_words (w1 ∷ []) e v p c l t r low high ev ep ec el et is = absurd (omega arith)
six_words (w1 ∷ w2 ∷ []) e v p c l t r low high ev ep ec el et is = absurd (omega arith)
six_words (w1 ∷ w2 ∷ w3 ∷ []) e v p c l t r low high ev ep ec el et is = absurd (omega arith)
six_words (w1 ∷ w2 ∷ w3 ∷ w4 ∷ []) e v p c l t r low high ev ep ec el et is = absurd (omega arith)
six_words (w1 ∷ w2 ∷ w3 ∷ w4 ∷ w5 ∷ []) e v p c l t r low high ev ep ec el et is = absurd (omega arith)
six_words (w1 ∷ w2 ∷ w3 ∷ w4 ∷ w5 ∷ w6 ∷ []) e v p c l t r low high ev ep ec el et is = is ∙ rw (ev, ep, ec, el, et) refl
six_words (w1 ∷ w2 ∷ w3 ∷ w4 ∷ w5 ∷ w6 ∷ w7 ∷ ws) e v p c l t r low high ev ep ec el et is = absurd (omega arith)
