-- What a caller says of the closures that it passes: the table of a closure that answers by a function, and the entries of one that is
-- written out. No clause can carry these, since they speak of what a closure may answer.
use Rattle.std.proofs.Common.{◌≡◌, ℕ, zero, suc, ◌+◌, ◌*◌, ◌/◌, ◌%◌, ◌<◌, ◌≤◌, ◌∙◌, sym, ap, subst, arith, Bool, true, ◌&&◌, nat_le, List, [], ◌∷◌, length, slice_index}
use Rattle.std.specs.List.{list_all}
use Rattle.std.proofs.lemmas.Bool.{leb-true}
use Rattle.std.proofs.lemmas.List.FromFn.{length-map-range_with_len, get_or-map-range_with_len}
use Rattle.std.proofs.lemmas.Nat.{mul-add-lt, div-mul-add, mod-mul-add}
use Rattle.std.proofs.lemmas.Grind.{same_number_lists}
use Rattle.limits.specs.declared.TheConstants.{LARGEST_ANSWER}
use Rattle.callback_store.specs.Callback.{IsTableOf, IsPairsOf, pair_at}
use Rattle.callback_store.specs.Tables.{node_values, pair_values}

-- the entry for a node is the function's value
pub node_values-at : (size : ℕ) (f : ℕ → ℕ) (i : ℕ) → i < size → slice_index (node_values size f) i ≡ f i
node_values-at size f i h = get_or-map-range_with_len f 0 size i i 0 h (omega arith)

-- the entry for a pair is the function's value
pub pair_values-at : (size : ℕ) (f : ℕ → ℕ → ℕ) (i j : ℕ) → i < size → j < size → slice_index (pair_values size f) (i * size + j) ≡ f i j
pair_values-at size f i j h k =
    get_or-map-range_with_len (λ n. f (n / size) (n % size)) 0 (size * size) (i * size + j) (i * size + j) 0 (mul-add-lt i size j size h k) (omega arith)
    ∙ ap (λ (a : ℕ). f a ((i * size + j) % size)) (div-mul-add i size j k)
    ∙ ap (λ (b : ℕ). f i b) (mod-mul-add i size j k)

-- a one-node callback that answers by a function has the function's values as its table
pub table_of_function : (size : ℕ) (Post : ℕ → ℕ → Type 0) (f : ℕ → ℕ)
    → ((i : ℕ) → i < size → ∥ Post i (f i) ∥₁)
    → ((i r : ℕ) → i < size → Post i r → r ≡ f i)
    → ((i : ℕ) → i < size → f i ≤ LARGEST_ANSWER)
    → IsTableOf size Post (node_values size f)
table_of_function size Post f answered alone small = record {
  sized = length-map-range_with_len f 0 size;
  answered = λ i h. subst (λ (n : ℕ). ∥ Post i n ∥₁) (sym (node_values-at size f i h)) (answered i h);
  alone = λ i r h p. alone i r h p ∙ sym (node_values-at size f i h);
  small = λ i h. subst (λ (n : ℕ). n ≤ LARGEST_ANSWER) (sym (node_values-at size f i h)) (small i h);
}

-- a two-node callback that answers by a function has the function's values as its table
pub pairs_of_function : (size : ℕ) (Post : ℕ → ℕ → ℕ → Type 0) (f : ℕ → ℕ → ℕ)
    → ((i j : ℕ) → i < size → j < size → ∥ Post i j (f i j) ∥₁)
    → ((i j r : ℕ) → i < size → j < size → Post i j r → r ≡ f i j)
    → ((i j : ℕ) → i < size → j < size → f i j ≤ LARGEST_ANSWER)
    → IsPairsOf size Post (pair_values size f)
pairs_of_function size Post f answered alone small = record {
  sized = length-map-range_with_len (λ n. f (n / size) (n % size)) 0 (size * size);
  answered = λ i j h k. subst (λ (n : ℕ). ∥ Post i j n ∥₁) (sym (pair_values-at size f i j h k)) (answered i j h k);
  alone = λ i j r h k p. alone i j r h k p ∙ sym (pair_values-at size f i j h k);
  small = λ i j h k. subst (λ (n : ℕ). n ≤ LARGEST_ANSWER) (sym (pair_values-at size f i j h k)) (small i j h k);
}

-- answers that are a function's, row by row, are its table
pub pairs_listed : (size : ℕ) (f : ℕ → ℕ → ℕ) (answers : List ℕ) → length answers ≡ size * size
    → ((i j : ℕ) → i < size → j < size → slice_index answers (i * size + j) ≡ f i j)
    → answers ≡ pair_values size f
pairs_listed size f answers sized at =
    same_number_lists answers (pair_values size f) (sized ∙ sym (length-map-range_with_len (λ n. f (n / size) (n % size)) 0 (size * size)))
    (λ k h. let below : k < size * size = omega (arith, sized) in
    let p = pair_at size k below in
    let here : slice_index answers ((k / size) * size + k % size) ≡ f (k / size) (k % size) = at (k / size) (k % size) p.0 p.1 in
    let there : slice_index (pair_values size f) k ≡ f (k / size) (k % size) = get_or-map-range_with_len (λ n. f (n / size) (n % size)) 0 (size * size) k k 0 below (omega arith) in
    subst (λ (n : ℕ). slice_index answers n ≡ f (k / size) (k % size)) p.2 here ∙ sym there)

first_holds : (a b : Bool) → (a && b) ≡ true → a ≡ true
first_holds a b h = grind arith

rest_holds : (a b : Bool) → (a && b) ≡ true → b ≡ true
rest_holds a b h = grind arith

-- the entries of a written-out table are small where a test over them computes to true
pub small_at : (table : List ℕ) (k : ℕ) → list_all (λ x. nat_le x LARGEST_ANSWER) table ≡ true → slice_index table k ≤ LARGEST_ANSWER
small_at [] k h = omega arith
small_at (x ∷ xs) zero h = leb-true x LARGEST_ANSWER (first_holds (nat_le x LARGEST_ANSWER) (list_all (λ y. nat_le y LARGEST_ANSWER) xs) h)
small_at (x ∷ xs) (suc k) h = small_at xs k (rest_holds (nat_le x LARGEST_ANSWER) (list_all (λ y. nat_le y LARGEST_ANSWER) xs) h)
