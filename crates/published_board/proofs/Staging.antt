-- A publication before and after an entry is staged and shown.
use Rattle.std.specs.Prelude.{MatchOption}
use Rattle.std.proofs.Common.{◌≡◌, List, [], ◌∷◌, ◌++◌, length, length-append, fold, sym, subst, ap, ◌∙◌, arith, Option}
use Rattle.board_rules.specs.declared.call.Entry.{Entry}
use Rattle.board_rules.specs.History.{IsLegal}
use Rattle.published_board.specs.declared.trail.Head.{Head}
use Rattle.published_board.specs.declared.shown.Picture.{Picture}
use Rattle.published_board.specs.declared.shown.Step.{Step}
use Rattle.published_board.specs.Reached.{Reached, entries_of, history_in}
use Rattle.published_board.specs.Pictures.{after_step}
use Rattle.published_board.specs.Sights.{IsPicture, Sees, GoesOn}
use Rattle.published_board.specs.Published.{TellSame, IsPublished}
use Rattle.published_board.specs.Trails.{head_of}
use Rattle.published_board.proofs.Rules.{goes_self}
use Rattle.published_board.proofs.Publishing.{same_self, same_back, legal_back, known_back, knows}

-- nothing is pending, and what is published tells what the log does
pub at_rest : (head : Head) (trail : Reached) (p : Picture) (pending : List Step) (known : Option Reached) → IsLegal (history_in trail.pages) → head.word ≡ head_of trail.book
    → TellSame trail p.base → pending ≡ [] → MatchOption known ⊥ (TellSame trail) → IsPublished head trail p pending known
at_rest head trail p pending known legal head_is same none tells =
    let stays : p ≡ fold after_step p pending = ap (fold after_step p) (sym none) in
    record {
      legal = legal;
      head_is = head_is;
      leads = subst (λ (q : Picture). IsPicture p → IsPicture q) stays (λ x. x);
      goes_on = subst (λ (q : Picture). GoesOn p.base q.base) stays (goes_self p.base);
      tells = subst (λ (q : Picture). TellSame trail q.base) stays same;
      settled = λ _. record { pending_is = none; known_tells = tells };
    }

-- where readers see each entry, what is published tells what the log does
pub tells_now : (head : Head) (trail : Reached) (p : Picture) (pending : List Step) (known : Option Reached) → IsPublished head trail p pending known
    → entries_of p.base.pages ≡ entries_of trail.pages → TellSame trail p.base
tells_now head trail p pending known tie same = subst (λ (q : Picture). TellSame trail q.base) (ap (fold after_step p) (tie.settled same).pending_is) tie.tells

-- the step of an entry is pending, and the log has it
pub staged : (head : Head) (trail noted : Reached) (p : Picture) (pending more : List Step) (st : Step) (known : Option Reached) (e : Entry)
    → IsPublished head trail p pending known → entries_of p.base.pages ≡ entries_of trail.pages
    → noted.book ≡ trail.book → entries_of noted.pages ≡ entries_of trail.pages ++ e ∷ [] → st.base ≡ noted → more ≡ pending ++ st ∷ []
    → IsLegal (history_in noted.pages) → (IsPicture p → IsPicture (after_step p st)) × GoesOn p.base st.base
    → IsPublished head noted p more known
staged head trail noted p pending more st known e tie same book entries base longer legal both =
    let leads : after_step p st ≡ fold after_step p more = ap (fold after_step p) (sym (longer ∙ ap (λ xs. xs ++ st ∷ []) (tie.settled same).pending_is)) in
    record {
      legal = legal;
      head_is = tie.head_is ∙ ap head_of (sym book);
      leads = subst (λ (q : Picture). IsPicture p → IsPicture q) leads both.0;
      goes_on = subst (λ (q : Picture). GoesOn p.base q.base) leads both.1;
      tells = subst (λ (q : Picture). TellSame noted q.base) leads (same_self noted st.base base);
      settled = λ now.
          let sized = ap length (sym same ∙ (now ∙ entries)) in
          let long = length-append (entries_of trail.pages) (e ∷ []) in
          absurd (omega (arith, sized, long));
    }

-- the log tells what it told before its last page but one
pub given_back : (head : Head) (trail back : Reached) (p : Picture) (pending after : List Step) (known : Option Reached)
    → IsPublished head trail p pending known → TellSame trail back → after ≡ pending → IsPublished head back p after known
given_back head trail back p pending after known tie same kept =
    let stays : fold after_step p pending ≡ fold after_step p after = ap (fold after_step p) (sym kept) in
    record {
      legal = legal_back trail back same tie.legal;
      head_is = tie.head_is ∙ ap head_of (sym same.book);
      leads = subst (λ (q : Picture). IsPicture p → IsPicture q) stays tie.leads;
      goes_on = subst (λ (q : Picture). GoesOn p.base q.base) stays tie.goes_on;
      tells = subst (λ (q : Picture). TellSame back q.base) stays (same_back trail back _ same tie.tells);
      settled = λ now.
          let was = tie.settled (now ∙ same.entries) in
          record { pending_is = kept ∙ was.pending_is; known_tells = known_back trail back known same was.known_tells };
    }

-- a publication in which nothing changed
pub unmoved : (head : Head) (trail : Reached) (p q : Picture) (pending after : List Step) (v w : Option Reached)
    → IsPublished head trail p pending v → q ≡ p → after ≡ pending → w ≡ v → IsPublished head trail q after w
unmoved head trail p q pending after v w tie same still known =
    subst (λ (x : Picture × (List Step × Option Reached)). IsPublished head trail x.0 x.1.0 x.1.1) (λ i. (sym same i, (sym still i, sym known i))) tie

-- what was pending is shown
pub shown : (head : Head) (trail : Reached) (p q : Picture) (pending after : List Step) (v w : Option Reached)
    → IsPublished head trail p pending v → q ≡ fold after_step p pending → after ≡ [] → Sees v q w → IsPublished head trail q after w
shown head trail p q pending after v w tie is none rule =
    let same : TellSame trail q.base = subst (λ (x : Picture). TellSame trail x.base) (sym is) tie.tells in
    at_rest head trail q after w tie.legal tie.head_is same none (knows trail v q w rule same)
