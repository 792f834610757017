-- What a reader sees, and what a publish shows.
use Rattle.std.specs.Prelude.{MatchOption, All, slice_index_or}
use Rattle.std.specs.declared.sync.Arc.{Arc}
use Rattle.std.proofs.Common.{◌≡◌, ℕ, zero, suc, ◌+◌, ◌-◌, ◌≤◌, List, [], ◌∷◌, ◌++◌, length, refl, sym, subst, ap, ◌∙◌, arith, Option, Some, None}
use Rattle.std.proofs.lemmas.List.FromFn.{length-map-range_with_len, get_or-map-range_with_len}
use mathlib.Core.List.{IsPrefix}
use Rattle.logbook.specs.Pages.{Book}
use Rattle.dimension_core.specs.Setting.{Setting}
use Rattle.plan_core.specs.Plan.{changes_of, route_at, with_routes}
use Rattle.board_rules.specs.declared.call.Entry.{Entry}
use Rattle.board_rules.specs.State.{BoardState}
use Rattle.board_rules.specs.Step.{after}
use Rattle.board_rules.specs.Good.{IsGood, state_of}
use Rattle.board_rules.specs.Delta.{AreRoutesOf}
use Rattle.board_rules.specs.History.{History, Opening, IsLegal, IsNext, state_after}
use mathlib.Core.Option.{some}
use lib.ListN.{get_elem?}
use Rattle.published_board.specs.declared.page.Page.{Page}
use Rattle.published_board.specs.declared.page.Page.TheVariants.{Did, Undone}
use Rattle.published_board.specs.declared.shown.Picture.{Picture}
use Rattle.published_board.specs.declared.shown.Step.{Step}
use Rattle.published_board.specs.declared.shown.Mark.{Mark}
use Rattle.published_board.specs.declared.shown.Shelf.{Shelf}
use Rattle.published_board.specs.Reached.{Reached, entries_of, opening_of, history_in}
use Rattle.published_board.specs.Changed.{IsChange, IsChangeBy}
use Rattle.published_board.specs.Told.{told}
use Rattle.published_board.specs.Lanes.{no_mark, lane_at, lanes_of}
use Rattle.published_board.specs.Pictures.{after_step}
use Rattle.published_board.specs.Shelves.{Shows, IsLane}
use Rattle.published_board.specs.Sights.{entries_in, IsOf, IsPicture, Keeps, Sees, GoesOn}
use Rattle.published_board.specs.Published.{TellSame}
use Rattle.published_board.proofs.Lanes.{named_right}
use Rattle.published_board.proofs.Staying.{stays_new}
use Rattle.published_board.proofs.Pictures.{shows_after}
use Rattle.published_board.proofs.Pages.{undone}
use Rattle.published_board.proofs.Prefixes.{prefix_more}

pub grows_in : (o : Opening) (b : Book) (v : Option Reached) (p : Picture) (w : Option Reached) → IsOf o b v → Sees v p w → IsPrefix (entries_in v) (entries_of p.base.pages)
grows_in o b None p w of sees = absurd of
grows_in o b (Some r) p w of sees = (sees.grows r refl).entries

-- what was seen is legal
pub legal_in : (o : Opening) (b : Book) (v : Option Reached) → IsOf o b v → IsLegal (record { opening = o; entries = entries_in v })
legal_in o b None of = absurd of
legal_in o b (Some r) of = subst (λ (q : Opening). IsLegal (record { opening = q; entries = entries_of r.pages })) of.0 of.2

-- what is seen is of the same board and log
pub sees_of : (o : Opening) (b : Book) (v : Option Reached) (p : Picture) (w : Option Reached) → IsOf o b v → Sees v p w → IsOf o b (Some p.base)
sees_of o b None p w of sees = absurd of
sees_of o b (Some r) p w of sees = ((sees.grows r refl).opening ∙ of.0, (sees.grows r refl).book ∙ of.1, sees.picture.legal)

-- what was seen before is a beginning of what is seen once the published list was
pub grown : (o : Opening) (b : Book) (before : List Entry) (v : Option Reached) (p : Picture) (w after : Option Reached) → entries_in v ≡ before → IsOf o b v → Sees v p w → after ≡ w
    → IsPrefix before (entries_in after)
grown o b before v p w after had of sees same =
    subst (λ (es : List Entry). IsPrefix es (entries_in after)) had (subst (IsPrefix (entries_in v)) (sym (ap entries_in (same ∙ sees.now))) (grows_in o b v p w of sees))

-- who knows what the log tells has seen it
pub known_of : (o : Opening) (b : Book) (trail : Reached) (v : Option Reached) → opening_of trail.pages ≡ o → trail.book ≡ b → IsLegal (history_in trail.pages)
    → MatchOption v ⊥ (TellSame trail) → IsOf o b v
known_of o b trail None opening book legal tells = absurd tells
known_of o b trail (Some r) opening book legal tells =
    (tells.opening ∙ opening, tells.book ∙ book, subst (λ (h : History). IsLegal h) (λ i. record { opening = sym tells.opening i; entries = sym tells.entries i }) legal)

pub known_entries : (trail : Reached) (v : Option Reached) → MatchOption v ⊥ (TellSame trail) → entries_in v ≡ entries_of trail.pages
known_entries trail None tells = absurd tells
known_entries trail (Some r) tells = tells.entries

-- who has seen what is published knows what a log tells that tells the same
pub knows : (trail : Reached) (v : Option Reached) (p : Picture) (w : Option Reached) → Sees v p w → TellSame trail p.base → MatchOption w ⊥ (TellSame trail)
knows trail v p w sees same = subst (λ (x : Option Reached). MatchOption x ⊥ (TellSame trail)) (sym sees.now) same

abbrev pub GoodLaw : Type 0
GoodLaw = (h : History) → IsLegal h → IsGood h.opening.setting (state_of h)

-- the step of an entry leads from a picture of the history to the picture after it
pub advances : GoodLaw → (o : Opening) (es : List Entry) (e : Entry) (p : Picture) (st : Step)
    → p.base.book ≡ st.base.book → opening_of p.base.pages ≡ o → opening_of st.base.pages ≡ o
    → entries_of p.base.pages ≡ es → entries_of st.base.pages ≡ es ++ e ∷ []
    → IsLegal (record { opening = o; entries = es }) → IsLegal (record { opening = o; entries = es ++ e ∷ [] })
    → IsChange o.setting (state_after o.setting es) (state_after o.setting (es ++ e ∷ [])) st.change
    → st.entries ≡ length es + 1
    → (IsPicture p → IsPicture (after_step p st)) × GoesOn p.base st.base
advances good o es e p st book was now old new before legal change count =
    let more : List Entry = es ++ e ∷ [] in
    let tells : told st.base ≡ state_after o.setting more = (λ i. state_after (now i).setting (new i)) in (
      (λ picture.
          let shown : Shows o.setting es p.cells = subst (λ (xs : List Entry). Shows o.setting xs p.cells) old (subst (λ (q : Opening). Shows q.setting (entries_of p.base.pages) p.cells) was picture.shows) in
          let after_it : Shows o.setting more (after_step p st).cells =
          shows_after o.setting es e st.base st.entries p.cells st.change (good (record { opening = o; entries = es }) before) (good (record { opening = o; entries = more }) legal) shown change tells count in
          record {
            legal = subst (λ (h : History). IsLegal h) (λ i. record { opening = sym now i; entries = sym new i }) legal;
            shows = subst (λ (q : Setting). Shows q (entries_of st.base.pages) (after_step p st).cells) (ap (λ (q : Opening). q.setting) (sym now))
                (subst (λ (xs : List Entry). Shows o.setting xs (after_step p st).cells) (sym new) after_it);
          }),
      record {
        book = sym book;
        opening = now ∙ sym was;
        entries = subst (λ (xs : List Entry). IsPrefix (entries_of p.base.pages) xs) (ap (λ xs. xs ++ e ∷ []) old ∙ sym new) (prefix_more (entries_of p.base.pages) (e ∷ []));
      },
    )

abbrev pub LegalLaw : Type 0
LegalLaw = (o : Opening) (es : List Entry) (e : Entry) → IsLegal (record { opening = o; entries = es }) → IsNext o es e → IsLegal (record { opening = o; entries = es ++ e ∷ [] })

abbrev pub StateLaw : Type 0
StateLaw = (s : Setting) (es : List Entry) (e : Entry) → state_after s (es ++ e ∷ []) ≡ after (state_after s es) e.call e.reply

-- a log that gained an entry that may come next is legal
pub legal_next : LegalLaw → (trail more : Reached) (e : Entry) → IsLegal (history_in trail.pages)
    → opening_of more.pages ≡ opening_of trail.pages → entries_of more.pages ≡ entries_of trail.pages ++ e ∷ []
    → IsNext (opening_of trail.pages) (entries_of trail.pages) e → IsLegal (history_in more.pages)
legal_next law trail more e legal opening entries next =
    subst (λ (h : History). IsLegal h) (λ i. record { opening = sym opening i; entries = sym entries i }) (law (opening_of trail.pages) (entries_of trail.pages) e legal next)

-- what such an entry changes leads from what is published to what is published after it
pub step_right : LegalLaw → StateLaw → GoodLaw → (trail : Reached) (p : Picture) (st : Step) (e : Entry) → IsLegal (history_in trail.pages) → TellSame trail p.base
    → st.base.book ≡ trail.book → opening_of st.base.pages ≡ opening_of trail.pages → entries_of st.base.pages ≡ entries_of trail.pages ++ e ∷ []
    → IsNext (opening_of trail.pages) (entries_of trail.pages) e
    → IsChangeBy (opening_of trail.pages).setting (told trail) e st.change
    → st.entries ≡ length (entries_of trail.pages) + 1
    → (IsPicture p → IsPicture (after_step p st)) × GoesOn p.base st.base
step_right legal_law state_law good_law trail p st e legal tells book opening entries next change count =
    let o : Opening = opening_of trail.pages in
    let es : List Entry = entries_of trail.pages in
    let leads = sym (state_law o.setting es e) in
    advances good_law o es e p st (tells.book ∙ sym book) tells.opening opening tells.entries entries legal (legal_law o es e legal next)
    (subst (λ (x : BoardState). IsChange o.setting (told trail) x st.change) leads change)
    count

-- the new routes of an entry are those of the state of which a log with it tells
pub routes_told : StateLaw → (trail base : Reached) (e : Entry) {Z : Type 0} (routes : List (ℕ × Arc (List ℕ) Z))
    → opening_of base.pages ≡ opening_of trail.pages → entries_of base.pages ≡ entries_of trail.pages ++ e ∷ []
    → AreRoutesOf (told trail) (after (told trail) e.call e.reply) (changes_of routes)
    → All (λ c. c.1.value ≡ route_at (told base).routes c.0) routes
routes_told state_law trail base e routes opening entries are =
    let o : Opening = opening_of trail.pages in
    let is : with_routes (changes_of routes) (told trail).routes ≡ (told base).routes =
    are.routes ∙ (ap (λ (x : BoardState). x.routes) (sym (state_law o.setting (entries_of trail.pages) e)) ∙ (λ i. (state_after (sym opening i).setting (sym entries i)).routes)) in
    subst (λ (rs : List (List ℕ)). All (λ c. c.1.value ≡ route_at rs c.0) routes) is (named_right (length (told trail).routes) routes (told trail).routes refl are.apart)

-- cells of the view of a state show it
pub shows_first : (o : Opening) (es : List Entry) (base : Reached) (p : Shelf) (n : ℕ) → IsGood o.setting (state_after o.setting es) → told base ≡ state_after o.setting es
    → p.lanes ≡ lanes_of base n o.setting.vehicles → p.pins ≡ (state_after o.setting es).pins.pins → p.frozen ≡ (state_after o.setting es).pins.fronts
    → p.version ≡ length (state_after o.setting es).commits → n ≡ length es → p.entries ≡ n → p.moved ≡ n → p.turned ≡ n → Shows o.setting es p
shows_first o es base p n good tells lanes pins frozen version count entries moved turned =
    let s : Setting = o.setting in
    let long : length es ≤ n = omega (arith, count) in
    let mark : ℕ → Mark = λ v. record { vehicle = v; since = base; entry = n } in
    record {
      sized = ap length lanes ∙ length-map-range_with_len mark 1 s.vehicles;
      lanes = λ v low high.
          let is : lane_at p.lanes v ≡ mark v = ap (λ (ms : List Mark). lane_at ms v) lanes ∙ get_or-map-range_with_len mark 1 s.vehicles (v - 1) v no_mark (omega (arith, low, high)) (omega (arith, low)) in
          subst (λ (m : Mark). IsLane s es v m) (sym is) (record {
            vehicle = refl;
            route = ap (λ (x : BoardState). route_at x.routes v) tells;
            stays = stays_new (λ xs. route_at (state_after s xs).routes v) n es long;
          });
      pins = record { sized = ap length pins ∙ good.pinned; each = λ k low high. ap (λ (xs : List (Option ℕ)). slice_index_or xs (k - 1) None) pins };
      frozen = record { sized = ap length frozen ∙ good.frozen; each = λ k low high. ap (λ (xs : List ℕ). slice_index_or xs (k - 1) 0) frozen };
      version = version;
      entries = entries ∙ count;
      moved = stays_new (λ xs. (state_after s xs).routes) p.moved es (omega (arith, moved, count));
      turned = stays_new (λ xs. (state_after s xs).pins) p.turned es (omega (arith, turned, count));
    }

pub same_self : (r q : Reached) → q ≡ r → TellSame r q
same_self r q e = record { book = ap (λ (x : Reached). x.book) e; opening = ap (λ (x : Reached). opening_of x.pages) e; entries = ap (λ (x : Reached). entries_of x.pages) e }

pub same_back : (r q t : Reached) → TellSame r q → TellSame r t → TellSame q t
same_back r q t a b = record { book = b.book ∙ sym a.book; opening = b.opening ∙ sym a.opening; entries = b.entries ∙ sym a.entries }

-- a log whose last entry was taken back tells what it told before
pub taken_back : (trail noted back : Reached) (e : Entry) → noted.book ≡ trail.book → back.book ≡ noted.book
    → opening_of noted.pages ≡ opening_of trail.pages → opening_of back.pages ≡ opening_of noted.pages
    → noted.pages ≡ trail.pages ++ Did e ∷ [] → back.pages ≡ noted.pages ++ Undone ∷ [] → TellSame trail back
taken_back trail noted back e book back_book opening back_opening pages back_pages = record {
  book = back_book ∙ book;
  opening = back_opening ∙ opening;
  entries = ap entries_of (back_pages ∙ ap (λ (ps : List Page). ps ++ Undone ∷ []) pages) ∙ undone trail.pages e;
}

pub known_back : (trail back : Reached) (v : Option Reached) → TellSame trail back → MatchOption v ⊥ (TellSame trail) → MatchOption v ⊥ (TellSame back)
known_back trail back None same tells = absurd tells
known_back trail back (Some r) same tells = same_back trail back r same tells

pub legal_back : (trail back : Reached) → TellSame trail back → IsLegal (history_in trail.pages) → IsLegal (history_in back.pages)
legal_back trail back same legal = subst (λ (h : History). IsLegal h) (λ i. record { opening = sym same.opening i; entries = sym same.entries i }) legal

-- nobody has seen anything of a first picture
pub keeps_first : (p : Picture) → IsPicture p → Keeps p (None ∷ [])
keeps_first p is = record { picture = is; seen = none }
  where
    none : (seat : ℕ) (r : Reached) → get_elem? (let vs : List (Option Reached) = None ∷ [] in vs) seat ≡ some (Some r) → GoesOn r p.base
    none zero r e = absurd (cc e)
    none (suc n) r e = absurd (cc e)
