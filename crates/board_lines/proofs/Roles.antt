-- Names are kept one by one.
use Rattle.std.proofs.Common.{◌≡◌, ℕ, zero, suc, ◌+◌, ◌<◌, Bool, true, false, List, [], ◌∷◌, ◌++◌, length, take, map, get_or, Err, refl, sym, ap, ◌∙◌, arith, Bor}
use Rattle.std.specs.Prelude.{◌&&◌}
use Rattle.std.specs.List.{list_all}
use Rattle.std.proofs.lemmas.List.{take_more}
use Rattle.std.proofs.lemmas.List.Folds.{list_all-append}
use Rattle.separation_core.specs.Names.{is_name}
use Rattle.board_lines.specs.declared.command.LineFault.TheVariants as faults
use Rattle.board_lines.specs.Arguments.{names_arg}

and_false : (a b : Bool) → b ≡ false → (a && b) ≡ false
and_false true b e = e
and_false false b e = refl

one_fails : (ws : List (List ℕ)) (i : ℕ) → i < length ws → is_name (get_or ws i []) ≡ false → list_all is_name ws ≡ false
one_fails [] i lt e = absurd (omega arith)
one_fails (w ∷ ws) zero lt e = rw e refl
one_fails (w ∷ ws) (suc i) lt e = and_false (is_name w) (list_all is_name ws) (one_fails ws i (omega arith) e)

-- the words of a slice, as lists of bytes
abbrev pub lists : List (Bor (List ℕ)) → List (List ℕ)
lists = map (λ w. w.now)

word_at : (ws : List (Bor (List ℕ))) (i : ℕ) (d : Bor (List ℕ)) → i < length ws → (i < length (lists ws)) × (get_or (lists ws) i [] ≡ (get_or ws i d).now)
word_at [] i d lt = absurd (omega arith)
word_at (w ∷ ws) zero d lt = (omega arith, refl)
word_at (w ∷ ws) (suc i) d lt = let p = word_at ws i d (omega arith) in (omega (arith, p.0), p.1)

pub names_fail : (ws : List (Bor (List ℕ))) (i : ℕ) (d : Bor (List ℕ)) → i < length ws → false ≡ is_name (get_or ws i d).now → names_arg (lists ws) ≡ Err faults.Name
names_fail ws i d lt e =
    let p = word_at ws i d lt in
    rw (one_fails (lists ws) i p.0 (ap is_name p.1 ∙ sym e)) refl

both : (a b c : Bool) → a ≡ true → b ≡ true → c ≡ true → (a && (b && c)) ≡ true
both a b c e f g = rw (e, f, g) refl

pub one_more : (ws : List (Bor (List ℕ))) (items made : List (List ℕ)) (n : List ℕ) (i : ℕ) (d : Bor (List ℕ)) → i < length ws → items ≡ take i (lists ws) → list_all is_name (take i (lists ws)) ≡ true → true ≡ is_name (get_or ws i d).now → n ≡ (get_or ws i d).now → made ≡ items ++ n ∷ [] → (made ≡ take (i + 1) (lists ws)) × (list_all is_name (take (i + 1) (lists ws)) ≡ true)
one_more ws items made n i d lt kept good named same grown =
    let p = word_at ws i d lt in
    let more = take_more (lists ws) i [] p.0 in
    let last : n ≡ get_or (lists ws) i [] = same ∙ sym p.1 in
    let all : list_all is_name (take i (lists ws) ++ get_or (lists ws) i [] ∷ []) ≡ true = list_all-append is_name (take i (lists ws)) (get_or (lists ws) i [] ∷ []) ∙ both (list_all is_name (take i (lists ws))) (is_name (get_or (lists ws) i [])) true good (ap is_name p.1 ∙ sym named) refl in
    (grown ∙ ap (λ (x : List (List ℕ)). x ++ n ∷ []) kept ∙ ap (λ (x : List ℕ). take i (lists ws) ++ x ∷ []) last ∙ sym more, ap (list_all is_name) more ∙ all)
