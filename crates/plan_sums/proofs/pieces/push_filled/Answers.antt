use Rattle.std.proofs.Common.{◌≡◌, ◌∙◌, ◌∷◌, ◌++◌, ◌+◌, ◌<◌, ℕ, List, length, drop, get_or, ap, append_assoc, arith, string_bytes, sym}
use Rattle.std.proofs.lemmas.List.{drop_all, drop_more}
use Rattle.std.specs.Borrow.{Bor}
use Rattle.std.specs.Fmt.{decimal}
use Rattle.plan_sums.specs.Pieces.{filled}
use Rattle.plan_sums.proofs.pieces.push_filled.Goals as goal

-- one more text and its number
more : (texts : List (Bor (List ℕ))) (numbers : List ℕ) (last out new : List ℕ) (k : ℕ) (t : Bor (List ℕ)) (n : ℕ) → k < length texts → k < length numbers
    → new ≡ out ++ ((get_or texts k t).now ++ decimal (get_or numbers k n))
    → out ++ filled (drop k texts) (drop k numbers) last ≡ new ++ filled (drop (k + 1) texts) (drop (k + 1) numbers) last
more texts numbers last out new k t n few less e =
    let text = (get_or texts k t).now in
    let number = decimal (get_or numbers k n) in
    let rest = filled (drop (k + 1) texts) (drop (k + 1) numbers) last in
    ap (λ (ts : List (Bor (List ℕ))). out ++ filled ts (drop k numbers) last) (drop_more texts k t few)
    ∙ ap (λ (ns : List ℕ). out ++ filled (get_or texts k t ∷ drop (k + 1) texts) ns last) (drop_more numbers k n less)
    ∙ ap (λ (l : List ℕ). out ++ l) (sym (append_assoc text number rest))
    ∙ sym (append_assoc out (text ++ number) rest)
    ∙ ap (λ (l : List ℕ). l ++ rest) (sym e)

pub loop-k-preserved : goal.loop-k-preserved
loop-k-preserved c =
    c.loop-k.invariant ∙ more c.args.texts.now c.args.numbers.now c.args.last.now (string_bytes c.loop-k.out)
    (string_bytes c.push_piece.new.out) c.loop-k.k _ _ (omega arith) c.loop-k-test.true c.in_ok-push_piece.ensures

pub returns : goal.returns
returns c =
    c.in_ok-push_str.ensures.bytes
    ∙ ap (λ (ts : List (Bor (List ℕ))). string_bytes c.loop-k.out ++ filled ts (drop c.loop-k.k c.args.numbers.now) c.args.last.now)
    (sym (drop_all c.loop-k.k c.args.texts.now (omega arith)))
    ∙ sym c.loop-k.invariant
