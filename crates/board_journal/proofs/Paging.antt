-- Entries over pages.
use Rattle.std.proofs.Common.{◌≡◌, ℕ, zero, suc, ◌+◌, ◌*◌, ◌<◌, List, [], ◌∷◌, ◌++◌, length, drop, get_or, refl, ap, ◌∙◌, arith, append_assoc, length-append}
use Rattle.std.specs.Prelude.{slice_get, Some}
use Rattle.std.specs.declared.sync.Arc.{Arc}
use Rattle.std.proofs.lemmas.List.{append-nil}
use Rattle.std.proofs.lemmas.List.Concat.{flat_map-append}
use Rattle.std.specs.List.{All}
use Rattle.std.proofs.lemmas.List.Elements.{All-head, All-tail}
use Rattle.board_rules.specs.declared.call.Entry.{Entry}
use Rattle.board_journal.specs.Shown.{Shown}
use Rattle.board_journal.specs.Journals.{paged, IsFull}

-- what is read in the first part of a joined list, and after it
get-left : {A : Type 0} (xs ys : List A) (i : ℕ) → i < length xs → slice_get (xs ++ ys) i ≡ slice_get xs i
get-left [] ys i h = absurd (omega arith)
get-left (x ∷ xs) ys zero h = refl
get-left (x ∷ xs) ys (suc i) h = get-left xs ys i (omega arith)

get-right : {A : Type 0} (xs ys : List A) (i j : ℕ) → j ≡ length xs + i → slice_get (xs ++ ys) j ≡ slice_get ys i
get-right [] ys i j h = ap (λ n. slice_get ys n) (let same : j ≡ i = omega (arith, h) in same)
get-right (x ∷ xs) ys i zero h = absurd (omega (arith, h))
get-right (x ∷ xs) ys i (suc j) h = get-right xs ys i j (omega (arith, h))

pub length-paged : {Z : Type 0} (pages : List (Arc Shown Z)) → All IsFull pages → length (paged pages) ≡ length pages * 4096
length-paged [] h = refl
length-paged (p ∷ ps) h =
    let first = All-head IsFull p ps h in
    let rest = length-paged ps (All-tail IsFull p ps h) in
    let both = length-append p.value.entries (paged ps) in
    omega (arith, first, rest, both)

-- the entries of one page
pub get-paged : {Z : Type 0} (pages : List (Arc Shown Z)) (rest : List Entry) (k r : ℕ) (d : Arc Shown Z) → All IsFull pages → k < length pages → r < 4096
    → slice_get (paged pages ++ rest) (k * 4096 + r) ≡ slice_get (get_or pages k d).value.entries r
get-paged [] rest k r d h low few = absurd (omega (arith, low))
get-paged (p ∷ ps) rest zero r d h low few =
    let size = All-head IsFull p ps h in
    ap (λ n. slice_get (paged (p ∷ ps) ++ rest) n) (let same : 0 * 4096 + r ≡ r = omega arith in same)
    ∙ (ap (λ xs. slice_get xs r) (append_assoc p.value.entries (paged ps) rest) ∙ get-left p.value.entries (paged ps ++ rest) r (omega (arith, size, few)))
get-paged (p ∷ ps) rest (suc k) r d h low few =
    let size = All-head IsFull p ps h in
    ap (λ xs. slice_get xs (suc k * 4096 + r)) (append_assoc p.value.entries (paged ps) rest)
    ∙ (get-right p.value.entries (paged ps ++ rest) (k * 4096 + r) (suc k * 4096 + r) (omega (arith, size))
    ∙ get-paged ps rest k r d (All-tail IsFull p ps h) (omega (arith, low)) few)

-- and those after all pages
pub get-after : {Z : Type 0} (pages : List (Arc Shown Z)) (rest : List Entry) (i r : ℕ) → All IsFull pages → i ≡ length pages * 4096 + r → slice_get (paged pages ++ rest) i ≡ slice_get rest r
get-after pages rest i r h is =
    let size = length-paged pages h in
    get-right (paged pages) rest r i (omega (arith, size, is))

-- a page that is put beside the full ones
pub paged-push : {Z : Type 0} (pages : List (Arc Shown Z)) (p : Arc Shown Z) → paged (pages ++ p ∷ []) ++ [] ≡ paged pages ++ p.value.entries
paged-push pages p =
    append-nil (paged (pages ++ p ∷ []))
    ∙ (flat_map-append (λ page. page.value.entries) pages (p ∷ []) ∙ ap (λ xs. paged pages ++ xs) (append-nil p.value.entries))

-- what is left from an index on, by the entry there
pub drop-get : {A : Type 0} (xs : List A) (i : ℕ) (x : A) → slice_get xs i ≡ Some x → drop i xs ≡ x ∷ drop (i + 1) xs
drop-get [] i x h = absurd cc
drop-get (y ∷ ys) zero x h = let same : y ≡ x = cc h in ap (λ z. z ∷ ys) same
drop-get (y ∷ ys) (suc i) x h = drop-get ys i x h ∙ ap (λ n. x ∷ drop n (y ∷ ys)) (let same : suc (i + 1) ≡ suc i + 1 = omega arith in same)
