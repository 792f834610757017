-- The words of a line that begins at some place of a text.
use Rattle.std.proofs.Common.{◌≡◌, ◌≢◌, ℕ, ◌+◌, ◌-◌, ◌<◌, ◌≤◌, true, List, [], ◌∷◌, ◌++◌, length, get_or, take, drop, refl, sym, ap, ◌∙◌, subst, arith}
use Rattle.std.proofs.lemmas.List.{drop-drop, get_or-drop, length-drop, take_all}
use Rattle.text_words.specs.Ends.{EndsNoWord}
use Rattle.text_words.specs.Words.{is_gap, ends_word, full_parts, words, HasNoGap, HasNoFeed, HasNoLineFeed, IsLineEnd, AreWordsUpTo}
use Rattle.text_words.proofs.Parts.{kept_front, kept_last, words_before, no_feed_yet, no_feed_more, no_feed_then, front_has_none, gap_byte, no_gap_there, no_feed_there}

-- The words up to a place are kept, which is the line's start or comes after a gap: with the words behind it they are those of any line that
-- goes on from there.
pub record AreKept (text : List ℕ) (start : ℕ) (kept : List (List ℕ)) : Type 0 where
  pub feeds : HasNoFeed text 0 start
  pub whole : (k : ℕ) → k + 1 ≡ start → is_gap (get_or text k 0) ≡ true
  pub found : (n : ℕ) → start ≤ n → n ≤ length text → kept ++ words (drop start (take n text)) ≡ words (take n text)

pub none_kept : (text : List ℕ) (start : ℕ) → start ≡ 0 → AreKept text start []
none_kept text start e = subst (λ (n : ℕ). AreKept text n []) (sym e) (record {
  feeds = no_feed_yet text 0 0 (omega arith);
  whole = λ k next. absurd (omega (arith, next));
  found = λ n low high. refl;
})

pub are_words : (text : List ℕ) (start : ℕ) (kept : List (List ℕ)) → start ≤ length text → AreKept text start kept → AreWordsUpTo text start kept
are_words text start kept le k = record {
  within = le;
  line = front_has_none text start k.feeds;
  whole = k.whole;
  words = words_before text start kept (k.found start (omega arith) le);
}

-- ---- places of a text, and of what is left of it from one on

none_left : (text : List ℕ) (from start end : ℕ) → from ≤ start → EndsNoWord text start end → EndsNoWord (drop from text) (start - from) (end - from)
none_left text from start end low none = λ k ge lt. rw (get_or-drop from text k 0) (none (from + k) (omega (arith, low)) (omega (arith, low)))

at_left : (text : List ℕ) (from at : ℕ) → from ≤ at → get_or (drop from text) (at - from) 0 ≡ get_or text at 0
at_left text from at low = get_or-drop from text (at - from) 0 ∙ ap (λ (i : ℕ). get_or text i 0) (let e : from + (at - from) ≡ at = omega (arith, low) in e)

part_left : (text : List ℕ) (from start end : ℕ) → from ≤ start → start ≤ end → take (end - start) (drop start text) ≡ take ((end - from) - (start - from)) (drop (start - from) (drop from text))
part_left text from start end low le =
    let size : end - start ≡ (end - from) - (start - from) = omega (arith, low, le) in
    let place : from + (start - from) ≡ start = omega (arith, low) in
    ap (λ (n : ℕ). take n (drop start text)) size
    ∙ ap (λ (l : List ℕ). take ((end - from) - (start - from)) l) (ap (λ (n : ℕ). drop n text) (sym place) ∙ sym (drop-drop (start - from) from text))

-- no gap is left where no word ends any more
pub no_gap_left : (text : List ℕ) (from start : ℕ) → from ≤ start → EndsNoWord text start (length text) → HasNoGap (drop from text) (start - from) (length (drop from text))
no_gap_left text from start low none =
    subst (λ (n : ℕ). HasNoGap (drop from text) (start - from) n) (sym (length-drop from text)) (no_gap_there (drop from text) (start - from) (length text - from) (none_left text from start (length text) low none))

-- and no line feed
pub no_feed_left : (text : List ℕ) (from start : ℕ) (kept : List (List ℕ)) → from ≤ start → EndsNoWord text start (length text) → AreKept (drop from text) (start - from) kept → HasNoLineFeed (drop from text)
no_feed_left text from start kept low none k =
    let rest = drop from text in
    let size : length text - from ≡ length rest = sym (length-drop from text) in
    let feeds : HasNoFeed rest 0 (length text - from) = no_feed_then rest 0 (start - from) (length text - from) k.feeds (no_feed_there rest (start - from) (length text - from) (none_left text from start (length text) low none)) in
    subst (λ (l : List ℕ). HasNoLineFeed l) (take_all (length text - from) rest (omega (arith, size))) (front_has_none rest (length text - from) feeds)

-- ---- the next word, of a line that begins at a place

module _ (text : List ℕ) (from start end : ℕ) (old now : List (List ℕ)) (low : from ≤ start) (le : start ≤ end) (lt : end < length text) (none : EndsNoWord text start end)
    (more : now ≡ old ++ full_parts (take (end - start) (drop start text) ∷ [])) (kept : AreKept (drop from text) (start - from) old) where
  here : end - from < length (drop from text)
  here = omega (arith, low, le, lt, length-drop from text)

  plain : EndsNoWord (drop from text) (start - from) (end - from)
  plain = none_left text from start end low none

  feeds : HasNoFeed (drop from text) 0 (end - from)
  feeds = no_feed_then (drop from text) 0 (start - from) (end - from) kept.feeds (no_feed_there (drop from text) (start - from) (end - from) plain)

  part : now ≡ old ++ full_parts (take ((end - from) - (start - from)) (drop (start - from) (drop from text)) ∷ [])
  part = more ∙ ap (λ (l : List ℕ). old ++ full_parts (l ∷ [])) (part_left text from start end low le)

  -- it ends with a gap
  pub kept_more : ends_word (get_or text end 0) ≡ true → get_or text end 0 ≢ 10 → AreKept (drop from text) (end + 1 - from) now
  kept_more there other =
      let rest = drop from text in
      let same = at_left text from end (omega (arith, low, le)) in
      let gap : is_gap (get_or rest (end - from) 0) ≡ true = rw same (gap_byte _ there other) in
      let next : (end - from) + 1 ≡ end + 1 - from = omega (arith, low, le) in
      subst (λ (n : ℕ). AreKept rest n now) next (record {
        feeds = no_feed_more rest 0 (end - from) feeds (rw same other);
        whole = λ k h. let at : k ≡ end - from = omega (arith, h) in rw at gap;
        found = λ n above high. kept_front rest (start - from) (end - from) n old now (omega (arith, le)) (omega (arith, above)) high (no_gap_there rest (start - from) (end - from) plain) gap part
            (kept.found n (omega (arith, above, le)) high);
      })

  -- it ends with the line
  pub line_kept : now ≡ words (take (end - from) (drop from text))
  line_kept = kept_last (drop from text) (start - from) (end - from) old now (omega (arith, le)) (omega (arith, here)) (no_gap_there (drop from text) (start - from) (end - from) plain) part
      (kept.found (end - from) (omega (arith, le)) (omega (arith, here)))

  pub line_ends : get_or text end 0 ≡ 10 → IsLineEnd (drop from text) (end - from)
  line_ends feed = (here, front_has_none (drop from text) (end - from) feeds, at_left text from end (omega (arith, low, le)) ∙ feed)
