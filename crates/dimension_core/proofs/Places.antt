use Rattle.std.proofs.Common.{◌≡◌, ℕ, zero, suc, ◌+◌, ◌<◌, ◌↔◌, sym, subst, refl, arith, List, [], ◌∷◌, length, slice_index}
use Rattle.callback_store.specs.Tables.{Table}
use Rattle.dimension_core.specs.Cumuls.{Bounds, IsStep, GoOn, AreCumuls, AreCumulsByPlace}

-- after x at node i, a step at each place
abbrev StepsFrom : Table → Bounds → ℕ → ℕ → ℕ → List ℕ → List ℕ → Type 0
StepsFrom t d v i x js ys = (k : ℕ) → k < length js
    → IsStep t d v (slice_index (i ∷ js) k) (slice_index (x ∷ ys) k) (slice_index (i ∷ js) (k + 1)) (slice_index (x ∷ ys) (k + 1))

-- a step at a place, by the place before it
stepped : (t : Table) (d : Bounds) (v i x j y : ℕ) (js ys : List ℕ) → IsStep t d v i x j y → StepsFrom t d v j y js ys → StepsFrom t d v i x (j ∷ js) (y ∷ ys)
stepped t d v i x j y js ys s rest zero h = s
stepped t d v i x j y js ys s rest (suc k) h =
    let e : suc k + 1 ≡ suc (k + 1) = omega arith in
    subst (λ (n : ℕ). IsStep t d v (slice_index (j ∷ js) k) (slice_index (y ∷ ys) k) (slice_index (i ∷ (j ∷ js)) n) (slice_index (x ∷ (y ∷ ys)) n))
    (sym e) (rest k (omega arith))

stepped_rest : (t : Table) (d : Bounds) (v i x j y : ℕ) (js ys : List ℕ) → StepsFrom t d v i x (j ∷ js) (y ∷ ys) → StepsFrom t d v j y js ys
stepped_rest t d v i x j y js ys all k h =
    let e : suc k + 1 ≡ suc (k + 1) = omega arith in
    subst (λ (n : ℕ). IsStep t d v (slice_index (j ∷ js) k) (slice_index (y ∷ ys) k) (slice_index (i ∷ (j ∷ js)) n) (slice_index (x ∷ (y ∷ ys)) n))
    e (all (suc k) (omega arith))

placed : (t : Table) (d : Bounds) (v i x : ℕ) (js ys : List ℕ) → GoOn t d v i x js ys → (length ys ≡ length js) × StepsFrom t d v i x js ys
placed t d v i x [] [] g = (refl, λ k h. absurd (omega arith))
placed t d v i x (j ∷ js) (y ∷ ys) g =
    let r = placed t d v j y js ys g.1 in
    let sized = r.0 in
    (omega arith, stepped t d v i x j y js ys g.0 r.1)
placed t d v i x [] (y ∷ ys) g = absurd g
placed t d v i x (j ∷ js) [] g = absurd g

gone_on : (t : Table) (d : Bounds) (v i x : ℕ) (js ys : List ℕ) → length ys ≡ length js → StepsFrom t d v i x js ys → GoOn t d v i x js ys
gone_on t d v i x [] [] e s = tt
gone_on t d v i x (j ∷ js) (y ∷ ys) e s = (s 0 (omega arith), gone_on t d v j y js ys (omega arith) (stepped_rest t d v i x j y js ys s))
gone_on t d v i x [] (y ∷ ys) e s = absurd (omega arith)
gone_on t d v i x (j ∷ js) [] e s = absurd (omega arith)

-- cumuls are cumuls by place
pub cumuls_by_place : (t : Table) (d : Bounds) (v : ℕ) (nodes cumuls : List ℕ) → AreCumuls t d v nodes cumuls ↔ AreCumulsByPlace t d v nodes cumuls
cumuls_by_place t d v nodes [] = (λ a. absurd a, λ p. let sized = p.sized in absurd (omega arith))
cumuls_by_place t d v nodes (x ∷ xs) = (
  λ a. let r = placed t d v 0 x nodes xs a.1 in let sized = r.0 in record { sized = omega arith; start = a.0; steps = r.1 },
  λ p. let sized = p.sized in (p.start, gone_on t d v 0 x nodes xs (omega arith) p.steps),
)
