-- A name stands between spaces and tabs.
use Rattle.std.proofs.Common.{◌≡◌, ℕ, ◌≤◌, true, false, List, [], ◌∷◌, ◌++◌, length, reverse, ◌⊎◌, ⊎_elim, refl, sym, ap, subst, ◌∙◌}
use Rattle.std.specs.Prelude.{nat_le}
use Rattle.std.specs.List.{list_all, AllByRecursion}
use Rattle.std.proofs.lemmas.List.{append-nil, reverse-append, reverse-reverse}
use Rattle.text_words.specs.Words.{is_gap}
use Rattle.solomon_reader.specs.Fields.{trimmed_start, trimmed_end, trimmed, is_name_byte, is_name, AreGaps, IsTrimmed, IsName}
use Rattle.solomon_reader.proofs.Booleans.{both, true_or_false, le_from, most_of}
use Rattle.solomon_reader.proofs.Trimming.{start_more, start_done}

-- ---- the bytes of a name

printed_from : (bs : List ℕ) → list_all is_name_byte bs ≡ true → AllByRecursion (λ b. (32 ≤ b) × (b ≤ 126)) bs
printed_from [] e = tt
printed_from (b ∷ bs) e =
    let h = both (is_name_byte b) (list_all is_name_byte bs) e in
    let k = both (nat_le 32 b) (nat_le b 126) h.0 in
    ((le_from 32 b k.0, le_from b 126 k.1), printed_from bs h.1)

printed_test : (bs : List ℕ) → AllByRecursion (λ b. (32 ≤ b) × (b ≤ 126)) bs → list_all is_name_byte bs ≡ true
printed_test [] h = refl
printed_test (b ∷ bs) h = rw (most_of 32 b h.0.0, most_of b 126 h.0.1, printed_test bs h.1) refl

pub name_from : (name : List ℕ) → is_name name ≡ true → IsName name
name_from name e =
    let a = both (nat_le 1 (length name)) _ e in
    let b = both (nat_le (length name) 64) (list_all is_name_byte name) a.1 in
    record { some = le_from 1 (length name) a.0; few = le_from (length name) 64 b.0; printed = printed_from name b.1 }

pub name_test : (name : List ℕ) → IsName name → is_name name ≡ true
name_test name h = rw (most_of 1 (length name) h.some, most_of (length name) 64 h.few, printed_test name h.printed) refl

-- ---- trimming

gaps_append : (xs ys : List ℕ) → AreGaps xs → AreGaps ys → AreGaps (xs ++ ys)
gaps_append [] ys h k = k
gaps_append (x ∷ xs) ys h k = (h.0, gaps_append xs ys h.1 k)

reverse_cons : (b : ℕ) (bs : List ℕ) → reverse (b ∷ bs) ≡ reverse bs ++ b ∷ []
reverse_cons b bs = reverse-append (b ∷ []) bs

gaps_reverse : (xs : List ℕ) → AreGaps xs → AreGaps (reverse xs)
gaps_reverse [] h = tt
gaps_reverse (x ∷ xs) h = subst AreGaps (sym (reverse_cons x xs)) (gaps_append (reverse xs) (x ∷ []) (gaps_reverse xs h.1) (h.0, tt))

-- a line begins with gaps, and then with none
pub record Starts (line rest : List ℕ) : Type 0 where
  pub front : List ℕ
  pub whole : line ≡ front ++ rest
  pub gaps : AreGaps front
  pub begins : (b : ℕ) (more : List ℕ) → rest ≡ b ∷ more → is_gap b ≡ false

begins_first : (b : ℕ) (bs : List ℕ) → is_gap b ≡ false → (c : ℕ) (more : List ℕ) → b ∷ bs ≡ c ∷ more → is_gap c ≡ false
begins_first b bs e c more s = let same : b ≡ c = cc in subst (λ (x : ℕ). is_gap x ≡ false) same e

starts_after : (b : ℕ) (bs : List ℕ) → Starts bs (trimmed_start bs) → (is_gap b ≡ true) ⊎ (is_gap b ≡ false) → Starts (b ∷ bs) (trimmed_start (b ∷ bs))
starts_after b bs h = ⊎_elim
    (λ e. subst (λ (r : List ℕ). Starts (b ∷ bs) r) (sym (start_more b bs e)) (record { front = b ∷ h.front; whole = ap (λ (l : List ℕ). b ∷ l) h.whole; gaps = (e, h.gaps); begins = h.begins }))
    (λ e. subst (λ (r : List ℕ). Starts (b ∷ bs) r) (sym (start_done b bs e)) (record { front = []; whole = refl; gaps = tt; begins = begins_first b bs e }))

starts : (line : List ℕ) → Starts line (trimmed_start line)
starts [] = record { front = []; whole = refl; gaps = tt; begins = λ b more e. absurd cc }
starts (b ∷ bs) = starts_after b bs (starts bs) (true_or_false (is_gap b))

pub record Ends (text name : List ℕ) : Type 0 where
  pub back : List ℕ
  pub whole : text ≡ name ++ back
  pub gaps : AreGaps back
  pub ends : (b : ℕ) (more : List ℕ) → name ≡ more ++ b ∷ [] → is_gap b ≡ false

ends : (text : List ℕ) → Ends text (trimmed_end text)
ends text =
    let s = starts (reverse text) in
    let name = trimmed_start (reverse text) in
    record {
      back = reverse s.front;
      whole = sym (reverse-reverse text) ∙ ap reverse s.whole ∙ reverse-append s.front name;
      gaps = gaps_reverse s.front s.gaps;
      ends = λ b more e. s.begins b (reverse more) (sym (reverse-reverse name) ∙ ap reverse e ∙ reverse-append more (b ∷ []));
    }

pub is_trimmed : (line : List ℕ) → IsTrimmed line (trimmed line)
is_trimmed line =
    let s = starts line in
    let e = ends (trimmed_start line) in
    record {
      front = s.front;
      back = e.back;
      whole = s.whole ∙ ap (λ (l : List ℕ). s.front ++ l) e.whole;
      before = s.gaps;
      behind = e.gaps;
      begins = λ b more same. s.begins b (more ++ e.back) (e.whole ∙ ap (λ (l : List ℕ). l ++ e.back) same);
      ends = e.ends;
    }

start_past : (front rest : List ℕ) → AreGaps front → trimmed_start (front ++ rest) ≡ trimmed_start rest
start_past [] rest h = refl
start_past (b ∷ front) rest h = start_more b (front ++ rest) h.0 ∙ start_past front rest h.1

end_kept : (r name : List ℕ) → reverse name ≡ r → ((b : ℕ) (more : List ℕ) → name ≡ more ++ b ∷ [] → is_gap b ≡ false) → trimmed_start r ≡ r
end_kept [] name e h = refl
end_kept (b ∷ r) name e h = start_done b r (h b (reverse r) (sym (reverse-reverse name) ∙ ap reverse e ∙ reverse_cons b r))

end_past : (name back : List ℕ) → AreGaps back → ((b : ℕ) (more : List ℕ) → name ≡ more ++ b ∷ [] → is_gap b ≡ false) → trimmed_end (name ++ back) ≡ name
end_past name back gaps h =
    ap reverse (ap trimmed_start (reverse-append name back) ∙ start_past (reverse back) (reverse name) (gaps_reverse back gaps) ∙ end_kept (reverse name) name refl h)
    ∙ reverse-reverse name

kept : (name back : List ℕ) → AreGaps back → ((b : ℕ) (more : List ℕ) → name ≡ b ∷ more → is_gap b ≡ false) → ((b : ℕ) (more : List ℕ) → name ≡ more ++ b ∷ [] → is_gap b ≡ false) → trimmed_end (trimmed_start (name ++ back)) ≡ name
kept [] back gaps begins ends =
    let none : trimmed_start back ≡ [] = ap trimmed_start (sym (append-nil back)) ∙ start_past back [] gaps in
    ap trimmed_end none
kept (b ∷ more) back gaps begins ends = ap trimmed_end (start_done b (more ++ back) (begins b more refl)) ∙ end_past (b ∷ more) back gaps ends

pub trimmed_is : (line name : List ℕ) → IsTrimmed line name → trimmed line ≡ name
trimmed_is line name h = ap trimmed h.whole ∙ ap trimmed_end (start_past h.front (name ++ h.back) h.before) ∙ kept name h.back h.behind h.begins h.ends
