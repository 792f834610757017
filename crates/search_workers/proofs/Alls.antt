-- One worker more.
use Rattle.std.proofs.Common.{ℕ, List, [], ◌∷◌, ◌++◌, All}
use Rattle.std.proofs.lemmas.List.Elements.{All-head, All-tail, All-nil, All-push, All-append}
use Rattle.board_rules.specs.History.{Opening}
use Rattle.board_lock.specs.Watches.{Watch}
use Rattle.search_workers.specs.declared.tally.Tally.{Tally}
use Rattle.search_workers.specs.Works.{Worked, AllWorked}

pub all_more : (o : Opening) (rounds : ℕ) (sessions seeds : List ℕ) (befores afters : List Watch) (tallies : List Tally) (session seed : ℕ) (before after : Watch) (tally : Tally)
    → AllWorked o rounds sessions seeds befores afters tallies → Worked o session seed rounds before after tally
    → AllWorked o rounds (sessions ++ session ∷ []) (seeds ++ seed ∷ []) (befores ++ before ∷ []) (afters ++ after ∷ []) (tallies ++ tally ∷ [])
all_more o rounds [] [] [] [] [] session seed before after tally a b = (b, tt)
all_more o rounds (x ∷ sessions) (y ∷ seeds) (v ∷ befores) (w ∷ afters) (t ∷ tallies) session seed before after tally a b =
    (a.0, all_more o rounds sessions seeds befores afters tallies session seed before after tally a.1 b)
all_more o rounds [] [] [] [] (t ∷ tallies) session seed before after tally a b = absurd a
all_more o rounds [] [] [] (w ∷ afters) tallies session seed before after tally a b = absurd a
all_more o rounds [] [] (v ∷ befores) afters tallies session seed before after tally a b = absurd a
all_more o rounds [] (y ∷ seeds) befores afters tallies session seed before after tally a b = absurd a
all_more o rounds (x ∷ sessions) [] befores afters tallies session seed before after tally a b = absurd a
all_more o rounds (x ∷ sessions) (y ∷ seeds) [] afters tallies session seed before after tally a b = absurd a
all_more o rounds (x ∷ sessions) (y ∷ seeds) (v ∷ befores) [] tallies session seed before after tally a b = absurd a
all_more o rounds (x ∷ sessions) (y ∷ seeds) (v ∷ befores) (w ∷ afters) [] session seed before after tally a b = absurd a

-- facts of all elements, of the last one and of those before it
pub all_last : {A : Type 0} (xs : List A) (x : A) (P : A → Type 0) → All P (xs ++ x ∷ []) → P x
all_last [] x P all = All-head P x [] all
all_last (y ∷ xs) x P all = all_last xs x P (All-tail P y (xs ++ x ∷ []) all)

pub all_front : {A : Type 0} (xs : List A) (x : A) (P : A → Type 0) → All P (xs ++ x ∷ []) → All P xs
all_front [] x P all = All-nil P
all_front (y ∷ xs) x P all = All-append P (y ∷ []) xs (All-push P [] y (All-nil P) (All-head P y (xs ++ x ∷ []) all)) (all_front xs x P (All-tail P y (xs ++ x ∷ []) all))
