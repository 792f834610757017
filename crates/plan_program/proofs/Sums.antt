-- The text of the sums, part by part.
use Rattle.std.proofs.Common.{◌≡◌, ◌∙◌, ℕ, List, [], ◌++◌, ap}
use Rattle.std.specs.List.{flat_map}
use Rattle.plan_sums.specs.declared.row.Row.{Row}
use Rattle.plan_sums.specs.declared.tour.Tour.{Tour}
use Rattle.plan_sums.specs.Places.{Places}
use Rattle.plan_sums.specs.Texts.{sums_text, total_text, tour_text}
use Rattle.plan_sums.specs.Tours.{tours_of}

pub sums_is : (p : Places) (rows : List Row) (tours : List Tour) (capacity vehicles : ℕ) (none first all bytes : List ℕ) → tours ≡ tours_of p rows → capacity ≡ p.capacity → vehicles ≡ p.vehicles → none ≡ [] → first ≡ none ++ flat_map (tour_text capacity) tours
    → all ≡ first ++ total_text vehicles rows tours → bytes ≡ all → bytes ≡ sums_text p rows
sums_is p rows tours capacity vehicles none first all bytes t c v n f a b =
    b ∙ a ∙ ap (λ (l : List ℕ). l ++ total_text vehicles rows tours) (f ∙ ap (λ (l : List ℕ). l ++ flat_map (tour_text capacity) tours) n)
    ∙ ap (λ (x : ℕ). flat_map (tour_text x) tours ++ total_text vehicles rows tours) c
    ∙ ap (λ (x : ℕ). flat_map (tour_text p.capacity) tours ++ total_text x rows tours) v
    ∙ ap (λ (x : List Tour). flat_map (tour_text p.capacity) x ++ total_text p.vehicles rows x) t
