-- The desks of the workers, and how their run is closed.
use Rattle.std.proofs.Common.{◌≡◌, ◌∙◌, ◌≤◌, ℕ, zero, suc, ◌+◌, ◌-◌, List, [], ◌∷◌, ◌++◌, length, map, refl, sym, ap, subst, arith, add-one, append-nil, inl, inr, Option, Some, None, Result, Ok, Err}
use Rattle.std.specs.Prelude.{◌⊎◌, IfSome, OnOk, IfErr, remove, slice_index_or}
use Rattle.std.specs.Option.{IsSomeAnd}
use Rattle.std.proofs.lemmas.List.{length-append, map-append}
use Rattle.std.specs.Io.KnownBytes.{Appends}
use Rattle.board_rules.specs.declared.call.Entry.{Entry}
use Rattle.board_rules.specs.History.{Opening}
use Rattle.board_lock.specs.Watches.{Watch, watch_at, watches}
use Rattle.line_engine.specs.Running.{AppendsPrefix}
use Rattle.line_engine.specs.declared.run_fault.RunFault.{RunFault}
use Rattle.line_engine.specs.declared.run_fault.RunFault.TheVariants as runs
use Rattle.search_workers.specs.declared.tally.Tally.{Tally}
use Rattle.program_parts.specs.declared.stop.Stop.{Stop}
use Rattle.program_parts.specs.declared.stop.Stop.TheVariants as stops
use Rattle.worker_runs.specs.declared.orders.Orders.{Orders}
use Rattle.worker_runs.specs.Closings.{IsVersionOf, IsWrittenShort}
use Rattle.worker_runs.specs.Tallies.{closing_text}
use Rattle.worker_runs.specs.Halls.{AreDone, IsClosedShort, IsClosing, IsDone, Post, post, posts, worker_desks}

-- ---- desks

pub desks_more : (es : List Entry) (n : ℕ) → worker_desks es (n + 1) ≡ worker_desks es n ++ watch_at es (n + 2) ∷ []
desks_more es n = ap (worker_desks es) (add-one n)

-- one worker more
pub posts_more : (orders : Orders) (n : ℕ) (desks : List Watch) (desk : Watch) → posts orders n (desks ++ desk ∷ []) ≡ posts orders n desks ++ post (n + length desks + 1) orders desk ∷ []
posts_more orders n [] desk =
    let e : n + 1 ≡ n + 0 + 1 = omega arith in
    ap (λ (k : ℕ). post k orders desk ∷ []) e
posts_more orders n (d ∷ desks) desk =
    let e : n + 1 + length desks + 1 ≡ n + length (d ∷ desks) + 1 = omega arith in
    ap (λ (ps : List Post). post (n + 1) orders d ∷ ps) (posts_more orders (n + 1) desks desk ∙ ap (λ (k : ℕ). posts orders (n + 1) desks ++ post k orders desk ∷ []) e)

pub done_more : (o : Opening) (ps : List Post) (afters : List Watch) (tallies : List Tally) (p : Post) (after : Watch) (tally : Tally) → AreDone o ps afters tallies → IsDone o p after tally → AreDone o (ps ++ p ∷ []) (afters ++ after ∷ []) (tallies ++ tally ∷ [])
done_more o [] [] [] p after tally a d = (d, tt)
done_more o (q ∷ ps) (w ∷ afters) (t ∷ tallies) p after tally a d = (a.0, done_more o ps afters tallies p after tally a.1 d)
done_more o [] [] (t ∷ tallies) p after tally a d = absurd a
done_more o [] (w ∷ afters) tallies p after tally a d = absurd a
done_more o (q ∷ ps) [] tallies p after tally a d = absurd a
done_more o (q ∷ ps) (w ∷ afters) [] p after tally a d = absurd a

-- threads that were started and joined, by what each was given
pub one_joined : {A : Type 0} (hs rest : List A) (h : A) (given : A → Post) (o : Opening) (seats afters : List Watch) (counts tallies : List Tally) (after : Watch) (tally : Tally) → hs ≡ rest ++ h ∷ []
    → AreDone o (map given rest) seats counts → IsDone o (given h) after tally → afters ≡ seats ++ after ∷ [] → tallies ≡ counts ++ tally ∷ [] → AreDone o (map given hs) afters tallies
one_joined hs rest h given o seats afters counts tallies after tally e a d p q =
    let m : map given hs ≡ map given rest ++ given h ∷ [] = ap (map given) e ∙ map-append given rest (h ∷ []) in
    subst (λ (ps : List Post). AreDone o ps afters tallies) (sym m) (subst (λ (ws : List Watch). AreDone o (map given rest ++ given h ∷ []) ws tallies) (sym p) (subst (λ (ts : List Tally). AreDone o (map given rest ++ given h ∷ []) (seats ++ after ∷ []) ts) (sym q) (done_more o (map given rest) seats counts (given h) after tally a d)))

pub one_started : {A : Type 0} (hs rest : List A) (h : A) (given : A → Post) (orders : Orders) (desks others : List Watch) (desk : Watch) → hs ≡ rest ++ h ∷ [] → map given rest ≡ posts orders 0 others → given h ≡ post (length others + 1) orders desk → desks ≡ others ++ desk ∷ []
    → map given hs ≡ posts orders 0 desks
one_started hs rest h given orders desks others desk e below is all =
    let n : length others + 1 ≡ 0 + length others + 1 = omega arith in
    ap (map given) e ∙ (map-append given rest (h ∷ []) ∙ ((λ i. below i ++ is i ∷ []) ∙ (ap (λ (k : ℕ). posts orders 0 others ++ post k orders desk ∷ []) n ∙ sym (ap (posts orders 0) all ∙ posts_more orders 0 others desk))))

pub if_some : {A : Type 0} (o : Option A) (P Q : A → Type 0) → IfSome o P → ((x : A) → P x → Q x) → IfSome o Q
if_some None P Q p f = tt
if_some (Some x) P Q p f = f x p

pub one_thread : {A : Type 0} (thread : Option A) (hs rest : List A) (given : A → Post) (orders : Orders) (desks others : List Watch) (desk : Watch) → IsSomeAnd thread (λ h. hs ≡ rest ++ h ∷ []) → IfSome thread (λ h. given h ≡ post (length others + 1) orders desk)
    → map given rest ≡ posts orders 0 others → desks ≡ others ++ desk ∷ [] → map given hs ≡ posts orders 0 desks
one_thread None hs rest given orders desks others desk s i below all = absurd s
one_thread (Some h) hs rest given orders desks others desk s i below all = one_started hs rest h given orders desks others desk s below i all

-- desk 1 comes before those of the workers
pub desk_first : (es : List Entry) (n : ℕ) → watches es (suc n) ≡ watch_at es 1 ∷ worker_desks es n
desk_first es zero = refl
desk_first es (suc n) =
    let e : suc n + 1 ≡ n + 2 = omega arith in
    ap (λ (ws : List Watch). ws ++ watch_at es (suc n + 1) ∷ []) (desk_first es n) ∙ ap (λ (k : ℕ). watch_at es 1 ∷ (worker_desks es n ++ watch_at es k ∷ [])) e

pub desks_many : (es : List Entry) (n : ℕ) → length (worker_desks es n) ≡ n
desks_many es zero = refl
desks_many es (suc n) = length-append (worker_desks es n) (watch_at es (n + 2) ∷ []) ∙ (let below = desks_many es n in omega (arith, below))

-- the first of the desks, and the others
pub seats_by : (es : List Entry) (desks : ℕ) (ws rest : List Watch) (w : Watch) → ws ≡ watches es desks → 1 ≤ length ws → w ≡ slice_index_or ws 0 w → rest ≡ remove ws 0
    → (w ≡ watch_at es 1) × (rest ≡ worker_desks es (desks - 1))
seats_by es zero ws rest w is some at left =
    let none : length ws ≡ 0 = ap length is in
    absurd (omega (arith, some, none))
seats_by es (suc n) ws rest w is some at left =
    let both : ws ≡ watch_at es 1 ∷ worker_desks es n = is ∙ desk_first es n in
    let e : n ≡ suc n - 1 = omega arith in
    (at ∙ ap (λ (xs : List Watch). slice_index_or xs 0 w) both, left ∙ (ap (λ (xs : List Watch). remove xs 0) both ∙ ap (worker_desks es) e))

-- ---- the end

pub whole_front : (was now : Option (List ℕ)) (text : List ℕ) → Appends was now text → AppendsPrefix was now text
whole_front was now text a = (text, [], sym (append-nil text), a)

pub closed_short : (o : Opening) (desks : List Watch) (tallies : List Tally) (was now : Option (List ℕ)) (fault : RunFault) (seen : List Entry) (version : ℕ) → IsVersionOf o desks seen version
    → IsWrittenShort fault was now (closing_text tallies version) → IsClosedShort o desks tallies was now (stops.Run fault)
closed_short o desks tallies was now runs.NoMemory seen version m w = w
closed_short o desks tallies was now runs.Write seen version m w = (closing_text tallies version, record { entries = m.entries; met = m.met; text_is = ap (closing_text tallies) m.version_is }, w)
closed_short o desks tallies was now runs.Read seen version m w = absurd w
closed_short o desks tallies was now runs.LongLine seen version m w = absurd w

-- a prefix of the text was written, or nothing
pub as_far : (o : Opening) (desks : List Watch) (tallies : List Tally) (was now : Option (List ℕ)) (r : Result (Unit {0}) Stop)
    → OnOk r ((text : List ℕ) × IsClosing o desks tallies text × Appends was now text) → IfErr r (λ stop. IsClosedShort o desks tallies was now stop)
    → (now ≡ was) ⊎ ((text : List ℕ) × IsClosing o desks tallies text × AppendsPrefix was now text)
as_far o desks tallies was now (Ok done) ok err = inr (ok.0, ok.1, whole_front was now ok.0 ok.2)
as_far o desks tallies was now (Err stops.Open) ok err = inl err
as_far o desks tallies was now (Err (stops.Run runs.NoMemory)) ok err = inl err
as_far o desks tallies was now (Err (stops.Run runs.Write)) ok err = inr err
as_far o desks tallies was now (Err (stops.Run runs.Read)) ok err = absurd err
as_far o desks tallies was now (Err (stops.Run runs.LongLine)) ok err = absurd err
as_far o desks tallies was now (Err (stops.Instance kind line)) ok err = absurd err
