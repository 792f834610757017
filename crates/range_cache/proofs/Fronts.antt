-- The longest common prefix of two routes of which the first customers are the same.
use Rattle.std.proofs.Common.{◌≡◌, ℕ, ◌+◌, ◌≤◌, ◌∙◌, refl, ap, sym, arith, List, [], ◌∷◌, ◌++◌, append_assoc, length, take, drop}
use Rattle.std.proofs.Math.Seq.{take-add}
use Rattle.std.proofs.lemmas.Bool.{eq-eqb}
use Rattle.std.proofs.lemmas.List.{append-nil, length-take-le, take-append-drop}
use Rattle.plan_core.specs.Front.{IsCommonFront, common_front}

pub front_beside : (k a b : List ℕ) → common_front (k ++ a) (k ++ b) ≡ length k + common_front a b
front_beside [] a b = omega arith
front_beside (x ∷ k) a b = let rest = front_beside k a b in rw (eq-eqb x x refl) (omega (arith, rest))

-- a route and the route that goes on after it
pub front_whole : (before after : List ℕ) → common_front before (before ++ after) ≡ length before
front_whole before after =
    let e = front_beside before [] after in
    let none : common_front before (before ++ after) ≡ common_front (before ++ []) (before ++ after) =
    ap (λ (xs : List ℕ). common_front xs (before ++ after)) (sym (append-nil before)) in
    omega (arith, none, e)

-- the new route of a draft that keeps this many customers, by the longest common prefix of what follows them
module _ (old rest : List ℕ) (kept more : ℕ) (within : kept ≤ length old) (common : IsCommonFront (drop kept old) rest more) where
  pub parts_join : take (kept + more) old ++ drop more rest ≡ take kept old ++ rest
  parts_join =
      ap (λ (xs : List ℕ). xs ++ drop more rest) (take-add kept more old ∙ ap (λ (xs : List ℕ). take kept old ++ xs) common.same)
      ∙ append_assoc (take kept old) (take more rest) (drop more rest) ∙ ap (λ (xs : List ℕ). take kept old ++ xs) (take-append-drop more rest)

  pub parts_front : more ≡ common_front (drop kept old) rest → kept + more ≡ common_front old (take kept old ++ rest)
  parts_front is =
      let e = front_beside (take kept old) (drop kept old) rest in
      let long : length (take kept old) ≡ kept = length-take-le kept old within in
      let whole : common_front (take kept old ++ drop kept old) (take kept old ++ rest) ≡ common_front old (take kept old ++ rest) =
      ap (λ (xs : List ℕ). common_front xs (take kept old ++ rest)) (take-append-drop kept old) in
      omega (arith, is, e, long, whole)
