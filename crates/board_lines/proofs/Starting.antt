-- What stands in a text where memory ran out while it grew.
use Rattle.std.proofs.Common.{◌≡◌, ◌∙◌, ◌+◌, ◌<◌, ◌≤◌, List, [], ◌∷◌, ℕ, ◌++◌, length, map, take, drop, get_or, Result, Ok, Err, if◌then◌else◌, refl, sym, ap, suc}
use Rattle.std.specs.Prelude.{OnErr, is_ok}
use Rattle.std.specs.List.{flat_map}
use Rattle.std.proofs.lemmas.List.{append-nil, append_assoc, map-append, take-append-drop, take_all, take_more}
use Rattle.std.proofs.lemmas.Grind.{flat_map-append}
use Rattle.std.proofs.lemmas.Result.{on_err_weaker}
use Rattle.std.proofs.Math.Seq.{drop-cons}
use Rattle.board_lines.specs.Replies.{AppendsPrefix}

pub on_err : {T E P : Type 0} (r : Result T E) → P → OnErr r P
on_err (Ok x) p = tt
on_err (Err e) p = p

-- more was to come
pub cut_more : (old text more whole new : List ℕ) → AppendsPrefix old text new → whole ≡ text ++ more → AppendsPrefix old whole new
cut_more old text more whole new s is = record {
  part = s.part;
  rest = s.rest ++ more;
  whole = is ∙ ap (λ (l : List ℕ). l ++ more) s.whole ∙ append_assoc s.part s.rest more;
  grew = s.grew;
}

-- the first part was appended, and then memory ran out
pub cut_then : (old mid new first text whole : List ℕ) → mid ≡ old ++ first → AppendsPrefix mid text new → whole ≡ first ++ text → AppendsPrefix old whole new
cut_then old mid new first text whole e s is = record {
  part = first ++ s.part;
  rest = s.rest;
  whole = is ∙ ap (λ (l : List ℕ). first ++ l) s.whole ∙ sym (append_assoc first s.part s.rest);
  grew = s.grew ∙ ap (λ (l : List ℕ). l ++ s.part) e ∙ append_assoc old first s.part;
}

pub err_then : {T E : Type 0} (r : Result T E) (old mid new first text whole : List ℕ) → mid ≡ old ++ first → OnErr r (AppendsPrefix mid text new) → whole ≡ first ++ text → OnErr r (AppendsPrefix old whole new)
err_then r old mid new first text whole e h is = on_err_weaker r (λ s. cut_then old mid new first text whole e s is) h

-- what std's texts say where they did not grow
pub pushed : {T E : Type 0} (r : Result T E) (old new grown text : List ℕ) → new ≡ (if is_ok r then grown else old) → OnErr r (AppendsPrefix old text new)
pushed (Ok x) old new grown text h = tt
pushed (Err e) old new grown text h = record { part = []; rest = text; whole = refl; grew = h ∙ sym (append-nil old) }

-- a loop had appended the texts of the elements before one, and then memory ran out
pub cut_loop : {X : Type 0} (f : X → List ℕ) (xs : List X) (i : ℕ) (d x : X) (old mid new : List ℕ) → i < length xs → x ≡ get_or xs i d → mid ≡ old ++ flat_map f (take i xs)
    → AppendsPrefix mid (f x) new → AppendsPrefix old (flat_map f xs) new
cut_loop {X = X} f xs i d x old mid new lt is e s =
    let more = flat_map f (drop (suc i) xs) in
    let split : flat_map f xs ≡ flat_map f (take i xs) ++ (f x ++ more) =
    ap (flat_map f) (sym (take-append-drop i xs))
    ∙ flat_map-append f (take i xs) (drop i xs)
    ∙ ap (λ (l : List X). flat_map f (take i xs) ++ flat_map f l) (drop-cons xs i d lt)
    ∙ ap (λ (y : X). flat_map f (take i xs) ++ (f y ++ more)) (sym is) in
    cut_then old mid new (flat_map f (take i xs)) (f x ++ more) (flat_map f xs) e (cut_more mid (f x) more (f x ++ more) new s refl) split

-- a loop appended the texts of all elements
pub loop_done : {X : Type 0} (f : X → List ℕ) (xs : List X) (i : ℕ) (more : List ℕ) → length xs ≤ i → flat_map f xs ++ more ≡ flat_map f (take i xs) ++ more
loop_done {X = X} f xs i more le = ap (λ (l : List X). flat_map f l ++ more) (sym (take_all i xs le))

-- ---- loops that push one element for each

pub one_grown : {X Y : Type 0} (f : X → Y) (xs : List X) (i : ℕ) (d : X) (old mid new : List Y) → i < length xs → mid ≡ old ++ map f (take i xs) → new ≡ mid ++ f (get_or xs i d) ∷ [] → new ≡ old ++ map f (take (i + 1) xs)
one_grown {Y = Y} f xs i d old mid new lt e grown =
    grown
    ∙ ap (λ (l : List Y). l ++ f (get_or xs i d) ∷ []) e
    ∙ append_assoc old (map f (take i xs)) (f (get_or xs i d) ∷ [])
    ∙ ap (λ (l : List Y). old ++ l) (sym (ap (map f) (take_more xs i d lt) ∙ map-append f (take i xs) (get_or xs i d ∷ [])))

pub one_pushed : {V X Y : Type 0} (view : V → Y) (f : X → Y) (xs : List X) (i : ℕ) (d x : X) (v : V) (mid new : List V) → i < length xs → x ≡ get_or xs i d → map view mid ≡ map f (take i xs) → view v ≡ f x → new ≡ mid ++ v ∷ [] → map view new ≡ map f (take (i + 1) xs)
one_pushed {X = X} {Y = Y} view f xs i d x v mid new lt is e made grown =
    let last : map view new ≡ map view mid ++ f (get_or xs i d) ∷ [] = ap (map view) grown ∙ map-append view mid (v ∷ []) ∙ ap (λ (y : Y). map view mid ++ y ∷ []) (made ∙ ap f is) in
    one_grown f xs i d [] (map view mid) (map view new) lt e last
