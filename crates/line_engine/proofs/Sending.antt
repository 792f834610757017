-- Replies are passed to the writer as a run goes on.
use Rattle.std.proofs.Common.{◌≡◌, ◌<◌, true, false, arith, ℕ, inl, inr, List, [], ◌++◌, length, Option, sym, ap, subst, ◌∙◌, append_assoc}
use Rattle.std.specs.Prelude.{◌==◌}
use Rattle.std.specs.Io.KnownBytes.{Appends}
use Rattle.std.proofs.lemmas.Bool.Decides.{nat_tests}
use Rattle.std.proofs.lemmas.List.{append-nil}
use Rattle.board_lines.specs.declared.command.Command.{Command}
use Rattle.line_engine.specs.Answers.{Answer}
use Rattle.line_engine.specs.declared.run_fault.RunFault.{RunFault}
use Rattle.line_engine.specs.declared.run_fault.RunFault.TheVariants as runs
use Rattle.line_engine.specs.Running.{AppendsPrefix, Reaches, MayBeWrite, Grows, Progress, BrokenWithin}
use Rattle.line_engine.proofs.Bytes.{Appends-then}
use Rattle.line_engine.proofs.Runs.{Broken-write, Progress-broken, feed_line, part_broken, nil_of}

pub AppendsPrefix-then : (a b c : Option (List ℕ)) (x y : List ℕ) → Appends a b x → AppendsPrefix b c y → AppendsPrefix a c (x ++ y)
AppendsPrefix-then a b c x y p q = (x ++ q.0, q.1, ap (λ (l : List ℕ). x ++ l) q.2 ∙ sym (append_assoc x q.0 q.1), Appends-then a b c x q.0 p q.3)

pub Reaches-then : (fault : RunFault) (a b c : Option (List ℕ)) (x y : List ℕ) → Appends a b x → Reaches fault b c y → Reaches fault a c (x ++ y)
Reaches-then runs.Write a b c x y p q = AppendsPrefix-then a b c x y p q
Reaches-then runs.Read a b c x y p q = Appends-then a b c x y p q
Reaches-then runs.LongLine a b c x y p q = Appends-then a b c x y p q
Reaches-then runs.NoMemory a b c x y p q = Appends-then a b c x y p q

-- what is held after what was sent, as it grows
pub sent_more : (sent was held out : List ℕ) → held ≡ was ++ out → (sent ++ was) ++ out ≡ sent ++ held
sent_more sent was held out e = append_assoc sent was out ∙ ap (λ (l : List ℕ). sent ++ l) (sym e)

-- all that was held was sent
pub sent_all : (sent held now : List ℕ) → now ≡ [] → (sent ++ held) ++ now ≡ sent ++ held
sent_all sent held now e = ap (λ (l : List ℕ). (sent ++ held) ++ l) e ∙ append-nil (sent ++ held)

pub part_taken : {S : Type 0} (step : S → Command → Answer → S → Type 0) (a b c : S) (sent was held partial done rest used end : List ℕ) (s0 s1 s2 n0 n1 n2 r0 r1 r2 : ℕ)
    → Progress step a b (sent ++ was) (partial ++ done) rest s0 s1 n0 n1 r0 r1 → Grows was held (λ out. Progress step b c out (rest ++ used) end s1 s2 n1 n2 r1 r2)
    → Progress step a c (sent ++ held) (partial ++ (done ++ used)) end s0 s2 n0 n2 r0 r2
part_taken step a b c sent was held partial done rest used end s0 s1 s2 n0 n1 n2 r0 r1 r2 p q =
    subst (λ (l : List ℕ). Progress step a c l (partial ++ (done ++ used)) end s0 s2 n0 n2 r0 r2) (sent_more sent was held q.0 q.1)
    (feed_line step a b c (sent ++ was) q.0 partial done used rest end s0 s1 s2 n0 n1 n2 r0 r1 r2 p q.2)

pub part_stopped : {S : Type 0} (step : S → Command → Answer → S → Type 0) (refuses : S → Command → S → Type 0) (fault last : RunFault) (a b c : S) (sent was held partial piece done left rest : List ℕ) (s0 s1 n0 n1 r0 r1 : ℕ)
    → piece ≡ done ++ left → Progress step a b (sent ++ was) (partial ++ done) rest s0 s1 n0 n1 r0 r1 → Grows was held (λ out. BrokenWithin step refuses fault b c out s1 rest left) → MayBeWrite fault last
    → BrokenWithin step refuses last a c (sent ++ held) s0 partial piece
part_stopped step refuses fault last a b c sent was held partial piece done left rest s0 s1 n0 n1 r0 r1 e p q m =
    let whole : BrokenWithin step refuses fault a c (sent ++ held) s0 partial piece =
    subst (λ (l : List ℕ). BrokenWithin step refuses fault a c l s0 partial piece) (sent_more sent was held q.0 q.1) (part_broken step refuses fault a b c (sent ++ was) q.0 partial piece done left rest s0 s1 n0 n1 r0 r1 e p q.2) in
    elim m [
      | inl same ↦ subst (λ (f : RunFault). BrokenWithin step refuses f a c (sent ++ held) s0 partial piece) (sym same) whole
      | inr write ↦ subst (λ (f : RunFault). BrokenWithin step refuses f a c (sent ++ held) s0 partial piece) (sym write) (whole.0, whole.1, whole.2, Broken-write step refuses fault a c (sent ++ held) s0 (partial ++ whole.0) whole.3)
    ]

pub part_unwritten : {S : Type 0} (step : S → Command → Answer → S → Type 0) (refuses : S → Command → S → Type 0) (a b : S) (out partial piece done left rest : List ℕ) (s0 s1 n0 n1 r0 r1 : ℕ)
    → piece ≡ done ++ left → Progress step a b out (partial ++ done) rest s0 s1 n0 n1 r0 r1 → BrokenWithin step refuses runs.Write a b out s0 partial piece
part_unwritten step refuses a b out partial piece done left rest s0 s1 n0 n1 r0 r1 e p =
    (done, left, e, Progress-broken step refuses a b out (partial ++ done) rest s0 s1 n0 n1 r0 r1 p)

-- bytes that follow others
pub behind : (piece done left used after : List ℕ) → piece ≡ done ++ left → left ≡ used ++ after → piece ≡ (done ++ used) ++ after
behind piece done left used after e f = e ∙ ap (λ (l : List ℕ). done ++ l) f ∙ sym (append_assoc done used after)

pub whole_piece : (piece done left : List ℕ) → piece ≡ done ++ left → length left ≡ 0 → done ≡ piece
whole_piece piece done left e n = sym (e ∙ ap (λ (l : List ℕ). done ++ l) (nil_of left n) ∙ append-nil done)

-- nothing was held at first
pub nil_first : (was out now : List ℕ) → was ≡ [] → now ≡ was ++ out → now ≡ out
nil_first was out now e f = f ∙ ap (λ (l : List ℕ). l ++ out) e

-- all of a piece was taken
pub part_whole : {S : Type 0} (step : S → Command → Answer → S → Type 0) (a b : S) (out partial done piece rest : List ℕ) (s0 s1 n0 n1 r0 r1 : ℕ)
    → done ≡ piece → Progress step a b out (partial ++ done) rest s0 s1 n0 n1 r0 r1 → Progress step a b out (partial ++ piece) rest s0 s1 n0 n1 r0 r1
part_whole step a b out partial done piece rest s0 s1 n0 n1 r0 r1 e p = subst (λ (l : List ℕ). Progress step a b out (partial ++ l) rest s0 s1 n0 n1 r0 r1) e p

pub none_of : (xs : List ℕ) → true ≡ (length xs == 0) → length xs ≡ 0
none_of xs e = grind (arith, nat_tests)

pub some_of : (xs : List ℕ) → false ≡ (length xs == 0) → 0 < length xs
some_of xs e = grind (arith, nat_tests)
