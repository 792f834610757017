-- A loop over a list that took one element more.
use Rattle.std.proofs.Common.{◌≡◌, ℕ, ◌+◌, ◌<◌, List, [], ◌∷◌, ◌++◌, length, take, get_or, map, fold, sym, ap, ◌∙◌}
use Rattle.std.proofs.lemmas.List.{map_more, map_push}
use Rattle.std.proofs.lemmas.List.Sums.{fold_more}

pub folded_more : {X Y : Type 0} (f : Y → X → Y) (a : Y) (xs : List X) (i : ℕ) (x : X) (y z : Y) → i < length xs → x ≡ get_or xs i x
    → y ≡ fold f a (take i xs) → z ≡ f y x → z ≡ fold f a (take (i + 1) xs)
folded_more f a xs i x y z below is was now = now ∙ ((λ j. f (was j) (is j)) ∙ sym (fold_more f a xs i x below))

pub mapped_more : {X Y Z : Type 0} (f : X → Y) (g : Z → Y) (xs : List X) (i : ℕ) (x : X) (made new : List Z) (z : Z) → i < length xs → x ≡ get_or xs i x
    → map g made ≡ map f (take i xs) → new ≡ made ++ z ∷ [] → g z ≡ f x → map g new ≡ map f (take (i + 1) xs)
mapped_more f g xs i x made new z below is was now one =
    ap (map g) now ∙ (map_push g made z ∙ ((λ j. was j ++ (one ∙ ap f is) j ∷ []) ∙ sym (map_more f xs i x below)))
