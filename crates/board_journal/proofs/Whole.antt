-- A page with one more record.
use Rattle.std.proofs.Common.{◌≡◌, ℕ, ◌<◌, ◌≤◌, List, [], ◌∷◌, ◌++◌, length, refl, ap, ◌∙◌, arith}
use Rattle.std.proofs.lemmas.List.{map-append, get_or_append_left, get_or_push, length_push}
use Rattle.std.specs.List.{All}
use Rattle.std.proofs.lemmas.List.Elements.{All-head, All-tail, All-push, All-weaker}
use Rattle.board_rules.specs.declared.call.Entry.{Entry}
use Rattle.board_journal.specs.declared.packed.Packed.{Packed}
use Rattle.board_journal.specs.declared.packed.Packed.TheVariants.{Proposal, Hold, Whole}
use Rattle.board_journal.specs.Records.{no_entry, entry_in, entries_in, IsWithin}
use Rattle.board_journal.specs.Pages.{IsPage}

-- a record stands for the same entry beside one more whole entry
entry-more : (whole : List Entry) (e : Entry) (p : Packed) → IsWithin (length whole) p → entry_in (whole ++ e ∷ []) p ≡ entry_in whole p
entry-more whole e (Proposal desk turn session base mv answer) h = refl
entry-more whole e (Hold desk turn hold ruling) h = refl
entry-more whole e (Whole place) h = get_or_append_left whole (e ∷ []) no_entry place h

entries-more : (whole : List Entry) (e : Entry) (ps : List Packed) → All (IsWithin (length whole)) ps → entries_in (whole ++ e ∷ []) ps ≡ entries_in whole ps
entries-more whole e [] h = refl
entries-more whole e (p ∷ ps) h =
    let one = entry-more whole e p (All-head (IsWithin (length whole)) p ps h) in
    let rest = entries-more whole e ps (All-tail (IsWithin (length whole)) p ps h) in
    cc (one, rest)

-- the entries with one more record
pub entries-push : (whole : List Entry) (ps : List Packed) (p : Packed) (e : Entry) → entry_in whole p ≡ e → entries_in whole (ps ++ p ∷ []) ≡ entries_in whole ps ++ e ∷ []
entries-push whole ps p e is = map-append (entry_in whole) ps (p ∷ []) ∙ ap (λ x. entries_in whole ps ++ x ∷ []) is

-- and with one more whole entry and its record
pub entries-push_whole : (whole : List Entry) (ps : List Packed) (e : Entry) (n : ℕ) → n ≡ length whole → All (IsWithin (length whole)) ps
    → entries_in (whole ++ e ∷ []) (ps ++ Whole n ∷ []) ≡ entries_in whole ps ++ e ∷ []
entries-push_whole whole ps e n is h =
    entries-push (whole ++ e ∷ []) ps (Whole n) e (get_or_push whole e no_entry n (let same : length whole ≡ n = omega (arith, is) in same))
    ∙ ap (λ xs. xs ++ e ∷ []) (entries-more whole e ps h)

within-more : (m n : ℕ) → m ≤ n → (p : Packed) → IsWithin m p → IsWithin n p
within-more m n le (Proposal desk turn session base mv answer) h = tt
within-more m n le (Hold desk turn hold ruling) h = tt
within-more m n le (Whole place) h = omega (arith, le, h)

pub within-push_whole : (whole : List Entry) (ps : List Packed) (e : Entry) (n : ℕ) → n ≡ length whole → All (IsWithin (length whole)) ps
    → All (IsWithin (length (whole ++ e ∷ []))) (ps ++ Whole n ∷ [])
within-push_whole whole ps e n is h =
    let more = length_push whole e in
    All-push (IsWithin (length (whole ++ e ∷ []))) ps (Whole n)
    (All-weaker (IsWithin (length whole)) (IsWithin (length (whole ++ e ∷ []))) (λ p. within-more (length whole) (length (whole ++ e ∷ [])) (omega (arith, more)) p) ps h)
    (omega (arith, more, is))

-- a page with one more record that is not of a whole entry
pub page-push : (records : List Packed) (whole : List Entry) (most most_whole : ℕ) (p : Packed) → IsPage records whole most most_whole → length records < 4096 → IsWithin (length whole) p
    → IsPage (records ++ p ∷ []) whole most most_whole
page-push records whole most most_whole p page low within =
    let more = length_push records p in
    let few = page.few_whole in
    record {
      few = omega (arith, more, low);
      room = page.room;
      few_whole = omega (arith, more, few);
      room_whole = page.room_whole;
      within = All-push (IsWithin (length whole)) records p page.within within;
    }
