-- Lists of numbers in which none comes twice, and changes at such numbers.
use Rattle.std.proofs.Common.{◌≡◌, ◌≢◌, ℕ, zero, suc, ◌+◌, ◌<◌, ◌≤◌, ◌⊎◌, inl, inr, false, List, [], ◌∷◌, ◌++◌, length, map, take, drop, Contains, Some, nat_eq, refl, sym, ap, subst, ◌∙◌, arith}
use Rattle.std.specs.Prelude.{⊤, slice_get, slice_index_or}
use Rattle.std.specs.List.{IsDistinct, AllByRecursion}
use Rattle.std.proofs.lemmas.Bool.{cases_eq, ne_eqb}
use Rattle.std.proofs.lemmas.List.Elements.{Contains-append_cases}
use Rattle.board_rules.specs.Delta.{AreChangesOf}

-- ---- elements

module _ {X : Type 0} where
  pub first : (x : X) (xs : List X) → Contains (x ∷ xs) x
  first x xs = (0, omega arith, refl)

  pub later : (x y : X) (xs : List X) → Contains xs y → Contains (x ∷ xs) y
  later x y xs h = let lt = h.1 in (suc h.0, omega arith, h.2)

  pub first_or_later : (x y : X) (xs : List X) → Contains (x ∷ xs) y → (x ≡ y) ⊎ Contains xs y
  first_or_later x y xs h = by_place h.0 h.1 h.2
    where
      by_place : (k : ℕ) → k < length (x ∷ xs) → slice_index_or (x ∷ xs) k y ≡ y → (x ≡ y) ⊎ Contains xs y
      by_place zero lt e = inl e
      by_place (suc k) lt e = inr (k, omega (arith, lt), e)

  pub none_in : (x : X) → Contains (let xs : List X = [] in xs) x → ⊥
  none_in x h = let lt = h.1 in absurd (omega arith)

-- ---- numbers of which none comes twice

-- none of the numbers comes twice
abbrev pub Unlike : List ℕ → Type 0
Unlike [] = ⊤
Unlike (c ∷ cs) = ((d : ℕ) → Contains cs d → c ≢ d) × Unlike cs

absent : (k : ℕ) (cs : List ℕ) → ((d : ℕ) → Contains cs d → k ≢ d) → AllByRecursion (λ m. nat_eq k m ≡ false) cs
absent k [] h = tt
absent k (c ∷ cs) h = (ne_eqb k c (h c (first c cs)), absent k cs (λ d at. h d (later c d cs at)))

pub distinct : (cs : List ℕ) → Unlike cs → IsDistinct nat_eq cs
unfolding IsDistinct
distinct [] h = tt
distinct (c ∷ cs) h = (absent c cs h.0, distinct cs h.1)

pub unlike_joined : (xs ys : List ℕ) → Unlike xs → Unlike ys → ((d : ℕ) → Contains xs d → Contains ys d → ⊥) → Unlike (xs ++ ys)
unlike_joined [] ys a b apart = b
unlike_joined (x ∷ xs) ys a b apart = (
  (λ d at e. elim (Contains-append_cases xs ys d at) [
    | inl left ↦ a.0 d left e
    | inr right ↦ apart x (first x xs) (subst (λ (n : ℕ). Contains ys n) (sym e) right)
  ]),
  unlike_joined xs ys a.1 b (λ d left right. apart d (later x d xs left) right),
)

-- a list in which no two places have the same number
abbrev pub Once : List ℕ → Type 0
Once cs = (i j c : ℕ) → slice_get cs i ≡ Some c → slice_get cs j ≡ Some c → i ≡ j

pub place_in : (cs : List ℕ) (c : ℕ) → Contains cs c → (k : ℕ) × (slice_get cs k ≡ Some c)
place_in [] c at = absurd (none_in c at)
place_in (d ∷ ds) c at = elim (first_or_later d c ds at) [
  | inl same ↦ (0, ap Some same)
  | inr rest ↦ let r = place_in ds c rest in (suc r.0, r.1)
]

pub once_rest : (c : ℕ) (cs : List ℕ) → Once (c ∷ cs) → Once cs
once_rest c cs h i j d at also = let e = h (suc i) (suc j) d at also in omega (arith, e)

pub once_unlike : (cs : List ℕ) → Once cs → Unlike cs
once_unlike [] h = tt
once_unlike (c ∷ cs) h = (
  (λ d at e. let r = place_in cs d at in let i = h 0 (suc r.0) c refl (r.1 ∙ ap Some (sym e)) in absurd (omega (arith, i))),
  once_unlike cs (once_rest c cs h),
)

-- what follows the first k elements
pub behind : (a k j : ℕ) (xs : List ℕ) → j ≡ a + k → slice_get (drop a xs) k ≡ slice_get xs j
behind zero k j xs h = let e : k ≡ j = omega (arith, h) in ap (slice_get xs) e
behind (suc a) k j [] h = refl
behind (suc a) k zero (x ∷ xs) h = absurd (omega (arith, h))
behind (suc a) k (suc j) (x ∷ xs) h = behind a k j xs (omega (arith, h))

pub once_behind : (a : ℕ) (xs : List ℕ) → Once xs → Once (drop a xs)
once_behind a xs h i j c at also =
    let e = h (a + i) (a + j) c (sym (behind a i (a + i) xs refl) ∙ at) (sym (behind a j (a + j) xs refl) ∙ also) in omega (arith, e)

taken : (n k c : ℕ) (xs : List ℕ) → slice_get (take n xs) k ≡ Some c → slice_get xs k ≡ Some c
taken zero k c xs h = absurd cc
taken (suc n) k c [] h = h
taken (suc n) zero c (x ∷ xs) h = h
taken (suc n) (suc k) c (x ∷ xs) h = taken n k c xs h

pub once_taken : (n : ℕ) (xs : List ℕ) → Once xs → Once (take n xs)
once_taken n xs h i j c at also = h i j c (taken n i c xs at) (taken n j c xs also)

-- the places within a prefix of a list are those of the list
pub within_taken : (n k : ℕ) (xs : List ℕ) → k < n → slice_get (take n xs) k ≡ slice_get xs k
within_taken zero k xs h = absurd (omega (arith, h))
within_taken (suc n) k [] h = refl
within_taken (suc n) zero (x ∷ xs) h = refl
within_taken (suc n) (suc k) (x ∷ xs) h = within_taken n k xs (omega (arith, h))

-- what stands in a list without one place stood at another place of the whole list
pub left_over : (a k c : ℕ) (xs : List ℕ) → slice_get (take a xs ++ drop (suc a) xs) k ≡ Some c → (j : ℕ) × (j ≢ a) × (slice_get xs j ≡ Some c)
left_over zero k c xs h = (suc k, (λ e. absurd (omega (arith, e))), sym (behind (suc zero) k (suc k) xs (omega arith)) ∙ h)
left_over (suc a) k c [] h = absurd cc
left_over (suc a) zero c (x ∷ xs) h = (0, (λ e. absurd (omega (arith, e))), h)
left_over (suc a) (suc k) c (x ∷ xs) h = let r = left_over a k c xs h in (suc r.0, (λ e. r.1 (omega (arith, e))), r.2)

-- ---- changes of numbers

module _ {V : Type 0} where
  pub entry_of : (xs : List (ℕ × V)) (d : ℕ) → Contains (map (λ c. c.0) xs) d → (x : ℕ × V) × Contains xs x × (x.0 ≡ d)
  entry_of [] d at = absurd (none_in d at)
  entry_of (x ∷ xs) d at = elim (first_or_later x.0 d (map (λ c. c.0) xs) at) [
    | inl same ↦ (x, first x xs, same)
    | inr rest ↦ let r = entry_of xs d rest in (r.0, later x r.0 xs r.1, r.2)
  ]

  pub nothing_differs : (n : ℕ) (old new : ℕ → V) → ((k : ℕ) → new k ≡ old k) → AreChangesOf n old new []
  unfolding IsDistinct
  nothing_differs n old new same = record {
    once = tt;
    made = λ k value at. absurd (none_in (k, value) at);
    all = λ k low high differs. absurd (differs (same k));
  }

  pub one_differs : (n k : ℕ) (value : V) (old new : ℕ → V) → 1 ≤ k → k ≤ n → new k ≡ value → new k ≢ old k → ((j : ℕ) → 1 ≤ j → j ≢ k → new j ≡ old j)
      → AreChangesOf n old new ((k, value) ∷ [])
  one_differs n k value old new low high is differs others = record {
    once = distinct (k ∷ []) ((λ d at. absurd (none_in d at)), tt);
    made = λ j x at. elim (first_or_later (k, value) (j, x) [] at) [
      | inl same ↦ subst (λ (c : ℕ × V). (1 ≤ c.0) × (c.0 ≤ n) × (c.1 ≡ new c.0) × (new c.0 ≢ old c.0)) same (low, high, sym is, differs)
      | inr none ↦ absurd (none_in (j, x) none)
    ];
    all = λ j from to changed. elim (cases_eq k j) [
      | inl same ↦ (let one : List (ℕ × V) = (k, value) ∷ [] in subst (λ (i : ℕ). Contains {X = ℕ × V} one (i, new i)) same (subst (λ (v : V). Contains {X = ℕ × V} one (k, v)) (sym is) (first (k, value) [])))
      | inr apart ↦ absurd (changed (others j from (λ e. apart (sym e))))
    ];
  }
