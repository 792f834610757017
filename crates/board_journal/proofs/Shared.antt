-- Shared pages are the pages.
use Rattle.std.proofs.Common.{◌≡◌, ℕ, ◌+◌, ◌<◌, List, [], ◌∷◌, ◌++◌, append_assoc, length, take, refl, sym, ap, ◌∙◌, subst, arith}
use Rattle.std.proofs.Math.ListN.{get_or, get_or-map}
use Rattle.std.proofs.lemmas.List.{length-map, length_push, map-append, take_more}
use Rattle.std.proofs.lemmas.List.Elements.{All-push}
use Rattle.std.specs.declared.sync.Arc.{Arc}
use Rattle.board_rules.specs.declared.call.Entry.{Entry}
use Rattle.board_journal.specs.Shown.{Shown}
use Rattle.board_journal.specs.Journals.{pages_of, paged, IsFull, IsJournal}
use Rattle.board_journal.proofs.Paging.{paged-push}

module _ {Z : Type 0} where
  abbrev pub value_of : Arc Shown Z → Shown
  value_of page = page.value

  pub paged_same : (xs ys : List (Arc Shown Z)) → pages_of xs ≡ pages_of ys → paged xs ≡ paged ys
  paged_same [] [] e = refl
  paged_same [] (y ∷ ys) e = absurd (cc e)
  paged_same (x ∷ xs) [] e = absurd (cc e)
  paged_same (x ∷ xs) (y ∷ ys) e =
      let head : x.value ≡ y.value = cc e in
      let rest : paged xs ≡ paged ys = paged_same xs ys (cc e) in
      (λ i. (head i).entries ++ rest i)

  length_same : (xs ys : List (Arc Shown Z)) → pages_of xs ≡ pages_of ys → length xs ≡ length ys
  length_same xs ys e = sym (length-map xs value_of) ∙ (ap length e ∙ length-map ys value_of)

  pub kept_same : (xs ys : List (Arc Shown Z)) (last : Shown) (copy : Shown) → pages_of xs ≡ pages_of ys → copy.entries ≡ last.entries → copy.room ≡ last.room → IsJournal ys last → IsJournal xs copy
  kept_same xs ys last copy e entries room is =
      let sized = length_same xs ys e in
      let few = is.few in
      record {
        full = λ k d below.
            let same : (get_or xs k d).value ≡ (get_or ys k d).value = sym (get_or-map value_of xs k d) ∙ (ap (λ l. get_or l k d.value) e ∙ get_or-map value_of ys k d) in
            subst (λ (s : Shown). length s.entries ≡ 4096) (sym same) (is.full k d (omega (arith, below, sized)));
        few = omega (arith, few, sized);
        last = (λ i. length (entries i) + room i) ∙ is.last;
      }

  -- one page more
  pub pages_more : (xs all : List (Arc Shown Z)) (k : ℕ) (x y : Arc Shown Z) → pages_of xs ≡ pages_of (take k all) → k < length all → y ≡ get_or all k y → x.value ≡ y.value
      → pages_of (xs ++ x ∷ []) ≡ pages_of (take (k + 1) all)
  pages_more xs all k x y so_far h is alike =
      map-append value_of xs (x ∷ [])
      ∙ ((λ i. so_far i ++ alike i ∷ [])
      ∙ (ap (λ z. pages_of (take k all) ++ value_of z ∷ []) is
      ∙ (sym (map-append value_of (take k all) (get_or all k y ∷ [])) ∙ ap pages_of (sym (take_more all k y h)))))

  -- a journal with the same pages
  pub same_journal : (old new : List (Arc Shown Z)) (last next : Shown) → new ≡ old → next ≡ last → IsJournal old last → IsJournal new next
  same_journal old new last next pages page is =
      subst (λ (xs : List (Arc Shown Z)). IsJournal xs next) (sym pages) (subst (λ (s : Shown). IsJournal old s) (sym page) is)

  -- the last page is full, and put beside the others
  module _ (old new : List (Arc Shown Z)) (page : Arc Shown Z) (last next : Shown) (pages : new ≡ old ++ page ∷ []) (same : page.value ≡ last) (none : next.entries ≡ []) where
    pub turned : paged new ++ next.entries ≡ paged old ++ last.entries
    turned = (λ i. paged (pages i) ++ none i) ∙ (paged-push old page ∙ ap (λ (s : Shown). paged old ++ s.entries) same)

    pub turned_journal : IsJournal old last → last.room ≡ 0 → length old < 1048576 → next.room ≡ 4096 → IsJournal new next
    turned_journal is full few room =
        let sized = is.last in
        let page_full : length page.value.entries ≡ 4096 = ap (λ (s : Shown). length s.entries) same ∙ omega (arith, sized, full) in
        let more = length_push old page in
        let empty = ap length none in
        subst (λ (xs : List (Arc Shown Z)). IsJournal xs next) (sym pages) (record {
          full = All-push IsFull old page is.full page_full;
          few = omega (arith, more, few);
          last = omega (arith, empty, room);
        })

  -- one entry more on the last page
  pub journal_push : (pages : List (Arc Shown Z)) (old new : Shown) (e : Entry) → new.entries ≡ old.entries ++ e ∷ [] → new.room + 1 ≡ old.room → IsJournal pages old → IsJournal pages new
  journal_push pages old new e entries room is =
      let long = ap length entries in
      let more = length_push old.entries e in
      let sized = is.last in
      record { full = is.full; few = is.few; last = omega (arith, long, more, room, sized) }

  pub paged_more : (pages : List (Arc Shown Z)) (old new all : List Entry) (e : Entry) → new ≡ old ++ e ∷ [] → paged pages ++ old ≡ all → paged pages ++ new ≡ all ++ e ∷ []
  paged_more pages old new all e is whole = ap (λ es. paged pages ++ es) is ∙ (sym (append_assoc (paged pages) old (e ∷ [])) ∙ ap (λ es. es ++ e ∷ []) whole)
