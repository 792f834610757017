-- Where the mark ends the instance.
use Rattle.std.proofs.Common.{◌≡◌, ◌≢◌, ◌∙◌, ℕ, zero, suc, ◌+◌, ◌-◌, ◌<◌, ◌≤◌, Bool, true, false, eqb, List, [], ◌∷◌, ◌++◌, length, take, drop, Option, refl, sym, ap, subst, append_assoc, append-nil, arith}
use Rattle.std.specs.Prelude.{All, if◌then◌else◌}
use Rattle.std.specs.List.{flat_map, slice_split, join_with_byte, AllByRecursion}
use Rattle.std.specs.Str.{bytes_eq}
use Rattle.std.specs.Io.KnownBytes.{Consumes}
use Rattle.std.proofs.lemmas.Bool.Decides.{nat_tests}
use Rattle.std.proofs.lemmas.Grind.{flat_map-append}
use Rattle.std.proofs.lemmas.List.{length-append, length-take, length-drop, take-append-drop, drop-take, take-take, take-append-le}
use Rattle.std.proofs.Math.Seq.{take-length}
use Rattle.std.proofs.lemmas.List.Elements.{All-append}
use Rattle.std.proofs.lemmas.List.Splits.{slice_split_at, slice_split_none, length-slice_split, join_with_byte-slice_split}
use Rattle.board_lines.specs.Replies.{ended}
use Rattle.line_engine.specs.Running.{HasNoEnd}
use Rattle.std.proofs.KnownBytes.{Consumes-nil, Consumes-trans}
use Rattle.program_parts.specs.Head.{mark, ends_instance, Halves, with_line, halves_of, halves, IsBefore, IsHead, IsMarked, Took}

not_end : (b : ℕ) → b ≢ 10 → eqb b 10 ≡ false
not_end b ne = grind (arith, nat_tests)

plain : (line : List ℕ) → HasNoEnd line → All (λ b. eqb b 10 ≡ false) line
plain line h = λ k d lt. not_end _ (h k d lt)

first_line : (line : List ℕ) (parts : List (List ℕ)) → 0 < length parts → halves_of (line ∷ parts) ≡ with_line line parts (halves_of parts)
first_line line [] lt = absurd (omega arith)
first_line line (next ∷ parts) lt = refl

-- a full line, and what is behind it
cut_line : (line tail : List ℕ) → HasNoEnd line → halves (line ++ 10 ∷ tail) ≡ with_line line (slice_split (λ (b : ℕ). eqb b 10) tail) (halves tail)
cut_line line tail h =
    ap halves_of (slice_split_at (λ b. eqb b 10) line 10 tail (plain line h) refl)
    ∙ first_line line (slice_split (λ (b : ℕ). eqb b 10) tail) (omega (arith, length-slice_split (λ (b : ℕ). eqb b 10) tail))

at_mark : (line : List ℕ) (parts : List (List ℕ)) (rest : Halves) → ends_instance line ≡ true → with_line line parts rest ≡ record { instance = []; script = join_with_byte 10 parts }
at_mark line parts rest h = ap (λ (b : Bool). if b then record { instance = []; script = join_with_byte 10 parts } else record { instance = ended line ++ rest.instance; script = rest.script }) h

at_other : (line : List ℕ) (parts : List (List ℕ)) (rest : Halves) → ends_instance line ≡ false → with_line line parts rest ≡ record { instance = ended line ++ rest.instance; script = rest.script }
at_other line parts rest h = ap (λ (b : Bool). if b then record { instance = []; script = join_with_byte 10 parts } else record { instance = ended line ++ rest.instance; script = rest.script }) h

one_more : (line : List ℕ) (lines : List (List ℕ)) (tail : List ℕ) → flat_map ended (line ∷ lines) ++ tail ≡ line ++ 10 ∷ (flat_map ended lines ++ tail)
one_more line lines tail = append_assoc (ended line) (flat_map ended lines) tail ∙ append_assoc line (10 ∷ []) (flat_map ended lines ++ tail)

-- full lines before the mark stay in front
past_lines : (lines : List (List ℕ)) (tail : List ℕ) (instance script : List ℕ) → AllByRecursion IsBefore lines → halves tail ≡ record { instance = instance; script = script } → halves (flat_map ended lines ++ tail) ≡ record { instance = flat_map ended lines ++ instance; script = script }
past_lines [] tail instance script each h = h
past_lines (line ∷ lines) tail instance script each h =
    let rest = flat_map ended lines ++ tail in
    let inner = past_lines lines tail instance script each.1 h in
    ap halves (one_more line lines tail) ∙ cut_line line rest each.0.plain
    ∙ at_other line (slice_split (λ (b : ℕ). eqb b 10) rest) (halves rest) each.0.other
    ∙ ap (λ (x : Halves). record { instance = ended line ++ x.instance; script = x.script }) inner
    ∙ ap (λ (xs : List ℕ). record { instance = xs; script = script }) (sym (append_assoc (ended line) (flat_map ended lines) instance))

mark_alone : (line left : List ℕ) → HasNoEnd line → ends_instance line ≡ true → halves (line ++ 10 ∷ left) ≡ record { instance = []; script = left }
mark_alone line left h is =
    cut_line line left h ∙ at_mark line (slice_split (λ (b : ℕ). eqb b 10) left) (halves left) is
    ∙ ap (λ (xs : List ℕ). record { instance = []; script = xs }) (join_with_byte-slice_split 10 left)

last_alone : (last : List ℕ) → HasNoEnd last → halves last ≡ record { instance = if bytes_eq last mark then [] else last; script = [] }
last_alone last h = ap halves_of (slice_split_none (λ b. eqb b 10) last (plain last h))

drop_front : (xs ys : List ℕ) → drop (length xs) (xs ++ ys) ≡ ys
drop_front [] ys = refl
drop_front (x ∷ xs) ys = drop_front xs ys

take_front : (xs ys : List ℕ) → take (length xs) (xs ++ ys) ≡ xs
take_front [] ys = refl
take_front (x ∷ xs) ys = ap (λ (t : List ℕ). x ∷ t) (take_front xs ys)

line_of : (text : List ℕ) (place : ℕ) (h : IsHead text place) → drop place text ≡ h.partial
line_of text place h = rw (h.start, h.whole) (drop_front (flat_map ended h.lines) h.partial)

front_of : (text : List ℕ) (place : ℕ) (h : IsHead text place) → take place text ≡ flat_map ended h.lines
front_of text place h = rw (h.start, h.whole) (take_front (flat_map ended h.lines) h.partial)

-- the line of the mark ends
pub marked : (text : List ℕ) (place : ℕ) → IsHead text place → ends_instance (drop place text) ≡ true → IsMarked (text ++ 10 ∷ []) (take place text)
marked text place h is left =
    let partial = h.partial in
    let here : ends_instance partial ≡ true = subst (λ (l : List ℕ). ends_instance l ≡ true) (line_of text place h) is in
    let inner = past_lines h.lines (partial ++ 10 ∷ left) [] left h.each (mark_alone partial left h.plain here) in
    let shape : (text ++ 10 ∷ []) ++ left ≡ flat_map ended h.lines ++ (partial ++ 10 ∷ left) =
    append_assoc text (10 ∷ []) left ∙ ap (λ (t : List ℕ). t ++ 10 ∷ left) h.whole ∙ append_assoc (flat_map ended h.lines) partial (10 ∷ left) in
    ap halves shape ∙ inner ∙ ap (λ (xs : List ℕ). record { instance = xs; script = left }) (append-nil (flat_map ended h.lines) ∙ sym (front_of text place h))

-- all that there was
pub unmarked : (text : List ℕ) (place : ℕ) → IsHead text place → halves text ≡ record { instance = take place text ++ (if bytes_eq (drop place text) mark then [] else drop place text); script = [] }
unmarked text place h =
    rw (line_of text place h, front_of text place h) (ap halves h.whole ∙ past_lines h.lines h.partial (if bytes_eq h.partial mark then [] else h.partial) [] h.each (last_alone h.partial h.plain))

more_lines : (lines : List (List ℕ)) (line : List ℕ) → AllByRecursion IsBefore lines → IsBefore line → AllByRecursion IsBefore (lines ++ line ∷ [])
more_lines [] line p q = (q, tt)
more_lines (l ∷ lines) line p q = (p.0, more_lines lines line p.1 q)

ended_more : (lines : List (List ℕ)) (line : List ℕ) → flat_map ended (lines ++ line ∷ []) ≡ flat_map ended lines ++ ended line
ended_more lines line = flat_map-append ended lines (line ∷ []) ∙ ap (λ (t : List ℕ). flat_map ended lines ++ t) (append-nil (ended line))

no_end_nil : HasNoEnd []
no_end_nil = λ k d lt. absurd (omega arith)

-- another line ends
pub line_more : (text : List ℕ) (place : ℕ) → IsHead text place → ends_instance (drop place text) ≡ false → IsHead (text ++ 10 ∷ []) (length text + 1)
line_more text place h is =
    let shape : text ++ 10 ∷ [] ≡ flat_map ended (h.lines ++ h.partial ∷ []) =
    ap (λ (t : List ℕ). t ++ 10 ∷ []) h.whole ∙ append_assoc (flat_map ended h.lines) h.partial (10 ∷ []) ∙ sym (ended_more h.lines h.partial) in
    record {
      lines = h.lines ++ h.partial ∷ [];
      partial = [];
      whole = shape ∙ sym (append-nil (flat_map ended (h.lines ++ h.partial ∷ [])));
      start = sym (length-append text (10 ∷ [])) ∙ ap (λ (t : List ℕ). length t) shape;
      each = more_lines h.lines h.partial h.each (record { plain = h.plain; other = subst (λ (l : List ℕ). ends_instance l ≡ false) (line_of text place h) is });
      plain = no_end_nil;
    }

one_byte : (b : ℕ) → b ≢ 10 → HasNoEnd (b ∷ [])
one_byte b ne zero d lt = ne
one_byte b ne (suc k) d lt = absurd (omega arith)

-- another byte of the line in work
pub byte_more : (text : List ℕ) (place b : ℕ) → IsHead text place → b ≢ 10 → IsHead (text ++ b ∷ []) place
byte_more text place b h ne = record {
  lines = h.lines;
  partial = h.partial ++ b ∷ [];
  whole = ap (λ (t : List ℕ). t ++ b ∷ []) h.whole ∙ append_assoc (flat_map ended h.lines) h.partial (b ∷ []);
  start = h.start;
  each = h.each;
  plain = All-append (λ x. x ≢ 10) h.partial (b ∷ []) h.plain (one_byte b ne);
}

-- nothing yet
pub no_head : IsHead [] 0
no_head = record { lines = []; partial = []; whole = refl; start = refl; each = tt; plain = no_end_nil }

-- a head begins its last line inside
pub head_place : (text : List ℕ) (place : ℕ) → IsHead text place → place ≤ length text
head_place text place h = let e = ap (λ (t : List ℕ). length t) h.whole ∙ length-append (flat_map ended h.lines) h.partial in omega (arith, e, h.start)

-- at the end of the input: the mark is left out
pub end_at_mark : (text : List ℕ) (place : ℕ) (new : List ℕ) → IsHead text place → bytes_eq (drop place text) mark ≡ true → new ≡ take place text → halves text ≡ record { instance = new; script = [] }
end_at_mark text place new h is e =
    unmarked text place h ∙ ap (λ (b : Bool). record { instance = take place text ++ (if b then [] else drop place text); script = [] }) is
    ∙ ap (λ (xs : List ℕ). record { instance = xs; script = [] }) (append-nil (take place text) ∙ sym e)

-- another last line belongs to the instance
pub end_at_other : (text : List ℕ) (place : ℕ) → IsHead text place → bytes_eq (drop place text) mark ≡ false → halves text ≡ record { instance = text; script = [] }
end_at_other text place h is =
    unmarked text place h ∙ ap (λ (b : Bool). record { instance = take place text ++ (if b then [] else drop place text); script = [] }) is
    ∙ ap (λ (xs : List ℕ). record { instance = xs; script = [] }) (take-append-drop place text)

take_short : (n : ℕ) (xs : List ℕ) → length (take n xs) ≤ n
take_short n xs = omega (arith, length-take n xs)

pub marked_as : (old : List ℕ) (place byte : ℕ) (new : List ℕ) → IsHead old place → place ≤ 16777216 → byte ≡ 10 → ends_instance (drop place old) ≡ true → new ≡ take place old → Took old new place byte true
marked_as old place byte new h small end is e =
    let whole : IsMarked (old ++ 10 ∷ []) (take place old) = marked old place h is in
    let short : length (take place old) ≤ 16777216 = let s = take_short place old in omega (arith, s, small) in (
      subst (λ (b : ℕ). IsMarked (old ++ b ∷ []) new) (sym end) (subst (λ (xs : List ℕ). IsMarked (old ++ 10 ∷ []) xs) (sym e) whole),
      subst (λ (xs : List ℕ). length xs ≤ 16777216) (sym e) short,
    )

pub byte_more_as : (old new : List ℕ) (place at byte : ℕ) → IsHead old place → place ≤ 16777216 → byte ≢ 10 → new ≡ old ++ byte ∷ [] → at ≡ place → Took old new at byte false
byte_more_as old new place at byte h small other e same =
    (e, subst (λ (xs : List ℕ). IsHead xs at) (sym e) (subst (λ (n : ℕ). IsHead (old ++ byte ∷ []) n) (sym same) (byte_more old place byte h other)), omega (arith, same, small))

pub line_more_as : (old new : List ℕ) (place at byte : ℕ) → IsHead old place → byte ≡ 10 → ends_instance (drop place old) ≡ false → new ≡ old ++ byte ∷ [] → at ≡ length new → at ≤ 16777216 → Took old new at byte false
line_more_as old new place at byte h end is e here small =
    let shape : new ≡ old ++ 10 ∷ [] = e ∙ ap (λ (b : ℕ). old ++ b ∷ []) end in
    let count : at ≡ length old + 1 = here ∙ ap (λ (xs : List ℕ). length xs) shape ∙ length-append old (10 ∷ []) in
    (e, subst (λ (xs : List ℕ). IsHead xs at) (sym shape) (subst (λ (n : ℕ). IsHead (old ++ 10 ∷ []) n) (sym count) (line_more old place h is)), small)

-- ---- a piece

-- a piece goes on
pub piece_more : (old mid new piece : List ℕ) (k byte : ℕ) → mid ≡ old ++ take k piece → take (suc k) piece ≡ take k piece ++ byte ∷ [] → new ≡ mid ++ byte ∷ [] → new ≡ old ++ take (suc k) piece
piece_more old mid new piece k byte m t n = n ∙ ap (λ (xs : List ℕ). xs ++ byte ∷ []) m ∙ append_assoc old (take k piece) (byte ∷ []) ∙ ap (λ (xs : List ℕ). old ++ xs) (sym t)

-- a piece ends the line of the mark
pub piece_marked : (old mid piece instance : List ℕ) (k byte : ℕ) → mid ≡ old ++ take k piece → take (suc k) piece ≡ take k piece ++ byte ∷ [] → IsMarked (mid ++ byte ∷ []) instance → IsMarked (old ++ take (suc k) piece) instance
piece_marked old mid piece instance k byte m t h = subst (λ (xs : List ℕ). IsMarked xs instance) (piece_more old mid (mid ++ byte ∷ []) piece k byte m t refl) h

-- what a slice behind a place has
pub rest_of : (n : ℕ) (xs ys : List ℕ) → ys ≡ xs → take (length ys - n) (drop n ys) ≡ drop n xs
rest_of n xs ys e = ap (λ (k : ℕ). take k (drop n ys)) (sym (length-drop n ys)) ∙ take-length (drop n ys) ∙ ap (λ (zs : List ℕ). drop n zs) e

-- ---- a reader

pub taken_none : (known : Option (List ℕ)) (text : List ℕ) → text ≡ [] → Consumes known known text
taken_none known text e = subst (λ (xs : List ℕ). Consumes known known xs) (sym e) (Consumes-nil known)

pub head_none : (text : List ℕ) (place : ℕ) → text ≡ [] → place ≡ 0 → IsHead text place
head_none text place e f = subst (λ (xs : List ℕ). IsHead xs place) (sym e) (subst (λ (n : ℕ). IsHead [] n) (sym f) no_head)

pub short_none : (place : ℕ) → place ≡ 0 → place ≤ 16777216
short_none place e = omega (arith, e)

pub taken_more : (a b c : Option (List ℕ)) (old new piece given : List ℕ) → Consumes a b old → Consumes b c given → piece ≡ given → new ≡ old ++ piece → Consumes a c new
taken_more a b c old new piece given h k e n = subst (λ (xs : List ℕ). Consumes a c xs) (sym (n ∙ ap (λ (xs : List ℕ). old ++ xs) e)) (Consumes-trans a b c old given h k)

-- the piece goes on behind the mark
pub behind_mark : (text piece behind instance : List ℕ) (used : ℕ) → behind ≡ drop used piece → IsMarked (text ++ take used piece) instance → (left : List ℕ) → halves ((text ++ piece) ++ left) ≡ record { instance = instance; script = behind ++ left }
behind_mark text piece behind instance used e h left =
    let split : piece ≡ take used piece ++ behind = sym (take-append-drop used piece) ∙ ap (λ (xs : List ℕ). take used piece ++ xs) (sym e) in
    let shape : (text ++ piece) ++ left ≡ (text ++ take used piece) ++ (behind ++ left) =
    ap (λ (xs : List ℕ). (text ++ xs) ++ left) split
    ∙ ap (λ (xs : List ℕ). xs ++ left) (sym (append_assoc text (take used piece) behind))
    ∙ append_assoc (text ++ take used piece) behind left in
    ap halves shape ∙ h (behind ++ left)

-- what a slice between two places has
pub drop_of_take : (used n : ℕ) (xs : List ℕ) → used ≤ n → take (n - used) (drop used xs) ≡ drop used (take n xs)
drop_of_take used n xs h = sym (drop-take used (n - used) xs) ∙ ap (λ (k : ℕ). drop used (take k xs)) (omega (arith, h))

-- the front of a buffer is what was read into it
pub chunk_front : (n len : ℕ) (buf rest : List ℕ) → n ≤ length buf → n ≤ len → take n (take len (buf ++ rest)) ≡ take n buf
chunk_front n len buf rest h k = take-take n len (buf ++ rest) k ∙ take-append-le n buf rest h

-- the same, by what is known of the buffer and of the room that it is of
pub given_front : (n len room : ℕ) (buf rest slice : List ℕ) → slice ≡ take len (buf ++ rest) → length slice ≡ len → length buf ≡ room → room ≡ len → n ≤ length buf → take n slice ≡ take n buf
given_front n len room buf rest slice e l b r h = ap (λ (xs : List ℕ). take n xs) e ∙ chunk_front n len buf rest h (omega (arith, b, r, h))

pub Keeps-end : (a b c : Option (List ℕ)) (text given : List ℕ) → Consumes a b text → Consumes b c given → given ≡ [] → Consumes a c text
Keeps-end a b c text given h k e = subst (λ (xs : List ℕ). Consumes a c xs) (append-nil text) (Consumes-trans a b c text [] h (subst (λ (xs : List ℕ). Consumes b c xs) e k))
