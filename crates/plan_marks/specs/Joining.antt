-- One more mark, or the marks of one more row, behind those of the rows before.
use Rattle.std.proofs.Common.{◌≡◌, ◌∙◌, ℕ, ◌+◌, List, [], ◌∷◌, ◌++◌, map, sym, ap, append_assoc, append-nil, arith}
use Rattle.std.specs.List.{flat_map, range_with_len}
use Rattle.std.proofs.lemmas.List.{map-id}
use Rattle.std.proofs.lemmas.List.Concat.{flat_map-append}
use Rattle.std.proofs.lemmas.List.FromFn.{map-range_with_len_more}

range_more : (k : ℕ) → range_with_len 0 (k + 1) ≡ range_with_len 0 k ++ k ∷ []
range_more k =
    sym (map-id (range_with_len 0 (k + 1))) ∙ map-range_with_len_more (λ n. n) 0 k k (omega arith) ∙ ap (λ (l : List ℕ). l ++ k ∷ []) (map-id (range_with_len 0 k))

pub map_joined : {X : Type 0} (f : ℕ → X) (start items new : List X) (x : X) (k : ℕ) → items ≡ start ++ map f (range_with_len 0 k) → new ≡ items ++ x ∷ [] → x ≡ f k → new ≡ start ++ map f (range_with_len 0 (k + 1))
map_joined {X} f start items new x k h e is =
    e ∙ ap (λ (l : List X). l ++ x ∷ []) h ∙ append_assoc start (map f (range_with_len 0 k)) (x ∷ [])
    ∙ ap (λ (y : X). start ++ (map f (range_with_len 0 k) ++ y ∷ [])) is
    ∙ ap (λ (l : List X). start ++ l) (sym (map-range_with_len_more f 0 k k (omega arith)))

pub flat_joined : {X : Type 0} (f : ℕ → List X) (start items new xs : List X) (k : ℕ) → items ≡ start ++ flat_map f (range_with_len 0 k) → new ≡ items ++ xs → xs ≡ f k → new ≡ start ++ flat_map f (range_with_len 0 (k + 1))
flat_joined {X} f start items new xs k h e is =
    e ∙ ap (λ (l : List X). l ++ xs) h ∙ append_assoc start (flat_map f (range_with_len 0 k)) xs
    ∙ ap (λ (l : List X). start ++ (flat_map f (range_with_len 0 k) ++ l)) (is ∙ sym (append-nil (f k)))
    ∙ ap (λ (l : List X). start ++ l) (sym (flat_map-append f (range_with_len 0 k) (k ∷ [])))
    ∙ ap (λ (l : List ℕ). start ++ flat_map f l) (sym (range_more k))
