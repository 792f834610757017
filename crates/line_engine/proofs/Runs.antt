-- Runs that follow one another.
use Rattle.std.proofs.Common.{◌≡◌, ℕ, ◌+◌, ◌<◌, ◌≤◌, ◌⊎◌, inl, inr, List, [], ◌∷◌, ◌++◌, length, Bool, ◌≢◌, cond, refl, sym, ap, subst, ◌∙◌, append_assoc, arith}
use Rattle.std.specs.Prelude.{count_by}
use Rattle.std.specs.List.{flat_map, AllByRecursion}
use Rattle.std.proofs.lemmas.List.{append-nil, length-append}
use Rattle.std.proofs.lemmas.List.Elements.{All-append}
use Rattle.std.proofs.lemmas.Grind.{flat_map-append}
use Rattle.std.proofs.lemmas.List.Sums.{sum_by-append}
use Rattle.board_lines.specs.Replies.{ended}
use Rattle.line_engine.specs.Outcomes.{outcome_text, written, has_reply, is_refusal}
use Rattle.board_lines.specs.declared.command.Command.{Command}
use Rattle.line_engine.specs.Answers.{Answer}
use Rattle.line_engine.specs.Outcomes.{Outcome}
use Rattle.line_engine.specs.declared.run_fault.RunFault.{RunFault}
use Rattle.line_engine.specs.declared.run_fault.RunFault.TheVariants as runs
use Rattle.line_engine.specs.Running.{HasNoEnd, IsLine, Runs, Progress, NextLine, Ends, Broken, Served, ServeBroken, BrokenWithin, EndsLast, Finished, last_line}

-- ---- small facts

each_then : (xs ys : List (List ℕ)) → AllByRecursion IsLine xs → AllByRecursion IsLine ys → AllByRecursion IsLine (xs ++ ys)
each_then [] ys p q = q
each_then (x ∷ xs) ys p q = (p.0, each_then xs ys p.1 q)

pub count_then : (p : Outcome → Bool) (xs ys : List Outcome) → count_by p (xs ++ ys) ≡ count_by p xs + count_by p ys
count_then p xs ys = sum_by-append (λ x. cond (p x) 1 0) xs ys

pub Runs-then : {S : Type 0} (step : S → Command → Answer → S → Type 0) (a b c : S) (xs ys : List (List ℕ)) (os ps : List Outcome) → Runs step a xs os b → Runs step b ys ps c → Runs step a (xs ++ ys) (os ++ ps) c
Runs-then {S} step a b c [] ys [] ps p q = let P : S → Type 0 = λ s. Runs step s ys ps c in subst P p q
Runs-then step a b c [] ys (o ∷ os) ps p q = absurd p
Runs-then step a b c (x ∷ xs) ys [] ps p q = absurd p
Runs-then step a b c (x ∷ xs) ys (o ∷ os) ps p q = (p.0, p.1, Runs-then step p.0 b c xs ys os ps p.2 q)

pub written_then : (out more : List ℕ) (os ps : List Outcome) → out ≡ written os → more ≡ written ps → out ++ more ≡ written (os ++ ps)
written_then out more os ps e f = rw (e, f) (sym (flat_map-append outcome_text os ps))

regroup : (bytes rest more : List ℕ) (xs ys : List (List ℕ)) (end : List ℕ) → bytes ≡ flat_map ended xs ++ rest → rest ++ more ≡ flat_map ended ys ++ end → bytes ++ more ≡ flat_map ended (xs ++ ys) ++ end
regroup bytes rest more xs ys end p q = rw (p, append_assoc, q, flat_map-append ended xs ys) (sym (append_assoc (flat_map ended xs) (flat_map ended ys) end))

pub empty_line : IsLine []
empty_line = record { plain = λ k d h. absurd (omega arith); short = omega arith }

pub same_held : (old new : List ℕ) → new ≡ old → new ≡ old ++ []
same_held old new e = e ∙ sym (append-nil old)

pub held_then : (a b c x y : List ℕ) → b ≡ a ++ x → c ≡ b ++ y → c ≡ a ++ (x ++ y)
held_then a b c x y e f = f ∙ ap (λ (l : List ℕ). l ++ y) e ∙ append_assoc a x y

pub nil_of : (xs : List ℕ) → length xs ≡ 0 → xs ≡ []
nil_of [] e = refl
nil_of (x ∷ xs) e = absurd (omega (arith, e))

pub behind_none : (xs ys : List ℕ) → length xs ≡ 0 → ys ≡ xs ++ ys
behind_none xs ys e = ap (λ (l : List ℕ). l ++ ys) (sym (nil_of xs e))

-- ---- one line

line_done : {S : Type 0} (step : S → Command → Answer → S → Type 0) (old new : S) (out line : List ℕ) (s0 s1 n0 n1 r0 r1 : ℕ) → IsLine line → Served step old new out line s0 s1 n0 n1 r0 r1 → Progress step old new out (line ++ 10 ∷ []) [] s0 s1 n0 n1 r0 r1
line_done step old new out line s0 s1 n0 n1 r0 r1 h s = record {
  lines = line ∷ [];
  outcomes = s.outcome ∷ [];
  cut = record { whole = sym (append-nil (ended line ++ []) ∙ append-nil (ended line)); each = (h, tt); partial = empty_line };
  run = (new, s.gives, refl);
  text = s.text ∙ sym (append-nil (outcome_text s.outcome));
  seen = s.seen;
  answers = omega (arith, s.answers);
  refusals = omega (arith, s.refusals);
}

pub is_full : {S : Type 0} (step : S → Command → Answer → S → Type 0) (refuses : S → Command → S → Type 0) (s : S) (left : List ℕ) (s0 : ℕ) → s0 ≡ 4294967296 → Broken step refuses runs.Read s s [] s0 left
is_full step refuses s left s0 e = record {
  lines = [];
  outcomes = [];
  mid = s;
  left = left;
  whole = refl;
  each = tt;
  run = refl;
  text = refl;
  end = (refl, omega (arith, e));
}

pub no_memory : {S : Type 0} (step : S → Command → Answer → S → Type 0) (refuses : S → Command → S → Type 0) (s : S) (left : List ℕ) (s0 : ℕ) → Broken step refuses runs.NoMemory s s [] s0 left
no_memory step refuses s left s0 = record {
  lines = [];
  outcomes = [];
  mid = s;
  left = left;
  whole = refl;
  each = tt;
  run = refl;
  text = refl;
  end = inl refl;
}

pub line_broken : {S : Type 0} (step : S → Command → Answer → S → Type 0) (refuses : S → Command → S → Type 0) (fault : RunFault) (old new : S) (line left : List ℕ) (s0 : ℕ) → NextLine left line → ServeBroken step refuses fault old new line → Broken step refuses fault old new [] s0 left
line_broken step refuses runs.Read old new line left s0 next h = absurd h
line_broken step refuses runs.LongLine old new line left s0 next h = absurd h
line_broken step refuses runs.Write old new line left s0 next h = absurd h
line_broken step refuses runs.NoMemory old new line left s0 next h = record {
  lines = [];
  outcomes = [];
  mid = old;
  left = left;
  whole = refl;
  each = tt;
  run = refl;
  text = refl;
  end = elim h [ inl e ↦ inl e | inr l ↦ inr (line, next, l) ];
}

pub take_done : {S : Type 0} (step : S → Command → Answer → S → Type 0) (old new : S) (out partial more given rest : List ℕ) (s0 s1 n0 n1 r0 r1 : ℕ) → IsLine given → given ≡ partial ++ more → rest ≡ [] → Served step old new out given s0 s1 n0 n1 r0 r1 → Progress step old new out (partial ++ (more ++ 10 ∷ [])) rest s0 s1 n0 n1 r0 r1
take_done step old new out partial more given rest s0 s1 n0 n1 r0 r1 h e f s =
    let p = line_done step old new out given s0 s1 n0 n1 r0 r1 h s in
    let whole : given ++ 10 ∷ [] ≡ partial ++ (more ++ 10 ∷ []) = ap (λ (l : List ℕ). l ++ 10 ∷ []) e ∙ append_assoc partial more (10 ∷ []) in
    let q = subst (λ (l : List ℕ). Progress step old new out l [] s0 s1 n0 n1 r0 r1) whole p in
    subst (λ (l : List ℕ). Progress step old new out (partial ++ (more ++ 10 ∷ [])) l s0 s1 n0 n1 r0 r1) (sym f) q

pub take_broken : {S : Type 0} (step : S → Command → Answer → S → Type 0) (refuses : S → Command → S → Type 0) (fault : RunFault) (old new : S) (partial more given : List ℕ) (s0 : ℕ) → IsLine given → given ≡ partial ++ more → ServeBroken step refuses fault old new given → Broken step refuses fault old new [] s0 (partial ++ (more ++ 10 ∷ []))
take_broken step refuses fault old new partial more given s0 h e s =
    let b = line_broken step refuses fault old new given (given ++ 10 ∷ []) s0 (h, [], sym (append-nil (ended given))) s in
    let whole : given ++ 10 ∷ [] ≡ partial ++ (more ++ 10 ∷ []) = ap (λ (l : List ℕ). l ++ 10 ∷ []) e ∙ append_assoc partial more (10 ∷ []) in
    subst (λ (l : List ℕ). Broken step refuses fault old new [] s0 l) whole b

pub short_line : (more : List ℕ) → HasNoEnd more → length more ≤ 4096 → IsLine more
short_line more h k = record { plain = h; short = k }

-- the bytes of a line could not be kept
pub keep_broken : {S : Type 0} (step : S → Command → Answer → S → Type 0) (refuses : S → Command → S → Type 0) (fault : RunFault) (s : S) (partial more tail : List ℕ) (s0 : ℕ) → IsLine partial → HasNoEnd more → (fault ≡ runs.NoMemory) ⊎ ((fault ≡ runs.LongLine) × (4096 < length (partial ++ more))) → Broken step refuses fault s s [] s0 (partial ++ (more ++ tail))
keep_broken step refuses fault s partial more tail s0 h plain cause = elim cause [
  | inl e ↦ rw e (no_memory step refuses s (partial ++ (more ++ tail)) s0)
  | inr q ↦ rw q.0 record {
    lines = [];
    outcomes = [];
    mid = s;
    left = partial ++ (more ++ tail);
    whole = refl;
    each = tt;
    run = refl;
    text = refl;
    end = (refl, (partial ++ more, tail, sym (append_assoc partial more tail), All-append (λ x. x ≢ 10) partial more h.plain plain, q.1));
  }
]

pub nothing_yet : {S : Type 0} (step : S → Command → Answer → S → Type 0) (s : S) (line : List ℕ) (s0 n0 r0 : ℕ) → IsLine line → Progress step s s [] line line s0 s0 n0 n0 r0 r0
nothing_yet step s line s0 n0 r0 h = record {
  lines = [];
  outcomes = [];
  cut = record { whole = refl; each = tt; partial = h };
  run = refl;
  text = refl;
  seen = omega arith;
  answers = omega arith;
  refusals = omega arith;
}

-- the bytes of a line were kept
pub keep_done : {S : Type 0} (step : S → Command → Answer → S → Type 0) (s : S) (partial more after : List ℕ) (s0 n0 r0 : ℕ) → (after ≡ partial ++ more) × IsLine after → Progress step s s [] (partial ++ more) after s0 s0 n0 n0 r0 r0
keep_done step s partial more after s0 n0 r0 k =
    subst (λ (l : List ℕ). Progress step s s [] l after s0 s0 n0 n0 r0 r0) k.0 (nothing_yet step s after s0 n0 r0 k.1)

-- ---- what follows

pub Progress-then : {S : Type 0} (step : S → Command → Answer → S → Type 0) (a b c : S) (x y bytes rest more end : List ℕ) (s0 s1 s2 n0 n1 n2 r0 r1 r2 : ℕ) → Progress step a b x bytes rest s0 s1 n0 n1 r0 r1 → Progress step b c y (rest ++ more) end s1 s2 n1 n2 r1 r2 → Progress step a c (x ++ y) (bytes ++ more) end s0 s2 n0 n2 r0 r2
Progress-then step a b c x y bytes rest more end s0 s1 s2 n0 n1 n2 r0 r1 r2 p q = record {
  lines = p.lines ++ q.lines;
  outcomes = p.outcomes ++ q.outcomes;
  cut = record {
    whole = regroup bytes rest more p.lines q.lines end p.cut.whole q.cut.whole;
    each = each_then p.lines q.lines p.cut.each q.cut.each;
    partial = q.cut.partial;
  };
  run = Runs-then step a b c p.lines q.lines p.outcomes q.outcomes p.run q.run;
  text = written_then x y p.outcomes q.outcomes p.text q.text;
  seen = omega (arith, p.seen, q.seen, length-append p.lines q.lines);
  answers = omega (arith, p.answers, q.answers, count_then has_reply p.outcomes q.outcomes);
  refusals = omega (arith, p.refusals, q.refusals, count_then is_refusal p.outcomes q.outcomes);
}

pub Broken-then : {S : Type 0} (step : S → Command → Answer → S → Type 0) (refuses : S → Command → S → Type 0) (fault : RunFault) (a b c : S) (x y bytes rest more : List ℕ) (s0 s1 n0 n1 r0 r1 : ℕ) → Progress step a b x bytes rest s0 s1 n0 n1 r0 r1 → Broken step refuses fault b c y s1 (rest ++ more) → Broken step refuses fault a c (x ++ y) s0 (bytes ++ more)
Broken-then step refuses fault a b c x y bytes rest more s0 s1 n0 n1 r0 r1 p q = record {
  lines = p.lines ++ q.lines;
  outcomes = p.outcomes ++ q.outcomes;
  mid = q.mid;
  left = q.left;
  whole = regroup bytes rest more p.lines q.lines q.left p.cut.whole q.whole;
  each = each_then p.lines q.lines p.cut.each q.each;
  run = Runs-then step a b q.mid p.lines q.lines p.outcomes q.outcomes p.run q.run;
  text = written_then x y p.outcomes q.outcomes p.text q.text;
  end = subst (λ (k : ℕ). Ends step refuses fault q.mid c k q.left) (omega (arith, p.seen, length-append p.lines q.lines)) q.end;
}

-- ---- a piece, line by line

pub feed_line : {S : Type 0} (step : S → Command → Answer → S → Type 0) (a b c : S) (x y partial done line rest end : List ℕ) (s0 s1 s2 n0 n1 n2 r0 r1 r2 : ℕ) → Progress step a b x (partial ++ done) rest s0 s1 n0 n1 r0 r1 → Progress step b c y (rest ++ line) end s1 s2 n1 n2 r1 r2 → Progress step a c (x ++ y) (partial ++ (done ++ line)) end s0 s2 n0 n2 r0 r2
feed_line step a b c x y partial done line rest end s0 s1 s2 n0 n1 n2 r0 r1 r2 p q =
    subst (λ (l : List ℕ). Progress step a c (x ++ y) l end s0 s2 n0 n2 r0 r2) (append_assoc partial done line) (Progress-then step a b c x y (partial ++ done) rest line end s0 s1 s2 n0 n1 n2 r0 r1 r2 p q)

pub feed_broken_line : {S : Type 0} (step : S → Command → Answer → S → Type 0) (refuses : S → Command → S → Type 0) (fault : RunFault) (a b c : S) (x y partial piece done line more rest : List ℕ) (s0 s1 n0 n1 r0 r1 : ℕ) → piece ≡ done ++ (line ++ more) → Progress step a b x (partial ++ done) rest s0 s1 n0 n1 r0 r1 → Broken step refuses fault b c y s1 (rest ++ line) → BrokenWithin step refuses fault a c (x ++ y) s0 partial piece
feed_broken_line step refuses fault a b c x y partial piece done line more rest s0 s1 n0 n1 r0 r1 e p q =
    let whole = Broken-then step refuses fault a b c x y (partial ++ done) rest line s0 s1 n0 n1 r0 r1 p q in
    (done ++ line, more, e ∙ sym (append_assoc done line more), subst (λ (l : List ℕ). Broken step refuses fault a c (x ++ y) s0 l) (append_assoc partial done line) whole)

pub no_memory_within : {S : Type 0} (step : S → Command → Answer → S → Type 0) (refuses : S → Command → S → Type 0) (s : S) (partial piece : List ℕ) (s0 : ℕ) → BrokenWithin step refuses runs.NoMemory s s [] s0 partial piece
no_memory_within step refuses s partial piece s0 = ([], piece, refl, no_memory step refuses s (partial ++ []) s0)

-- a part of a piece stopped in the middle
pub part_broken : {S : Type 0} (step : S → Command → Answer → S → Type 0) (refuses : S → Command → S → Type 0) (fault : RunFault) (a b c : S) (x y partial piece done left rest : List ℕ) (s0 s1 n0 n1 r0 r1 : ℕ) → piece ≡ done ++ left → Progress step a b x (partial ++ done) rest s0 s1 n0 n1 r0 r1 → BrokenWithin step refuses fault b c y s1 rest left → BrokenWithin step refuses fault a c (x ++ y) s0 partial piece
part_broken step refuses fault a b c x y partial piece done left rest s0 s1 n0 n1 r0 r1 e p q =
    feed_broken_line step refuses fault a b c x y partial piece done q.0 q.1 rest s0 s1 n0 n1 r0 r1 (e ∙ ap (λ (l : List ℕ). done ++ l) q.2) p q.3

-- ---- the writer fails

Ends-write : {S : Type 0} (step : S → Command → Answer → S → Type 0) (refuses : S → Command → S → Type 0) (fault : RunFault) (mid new : S) (seen : ℕ) (left : List ℕ) → Ends step refuses fault mid new seen left → Ends step refuses runs.Write mid new seen left
Ends-write step refuses runs.Read mid new seen left e = inl e.0
Ends-write step refuses runs.LongLine mid new seen left e = inl e.0
Ends-write step refuses runs.NoMemory mid new seen left e = e
Ends-write step refuses runs.Write mid new seen left e = e

-- another fault, and then that of the writer
pub Broken-write : {S : Type 0} (step : S → Command → Answer → S → Type 0) (refuses : S → Command → S → Type 0) (fault : RunFault) (old new : S) (out : List ℕ) (s0 : ℕ) (bytes : List ℕ) → Broken step refuses fault old new out s0 bytes → Broken step refuses runs.Write old new out s0 bytes
Broken-write step refuses fault old new out s0 bytes b = record {
  lines = b.lines;
  outcomes = b.outcomes;
  mid = b.mid;
  left = b.left;
  whole = b.whole;
  each = b.each;
  run = b.run;
  text = b.text;
  end = Ends-write step refuses fault b.mid new (s0 + length b.lines) b.left b.end;
}

-- the writer fails between two lines
pub Progress-broken : {S : Type 0} (step : S → Command → Answer → S → Type 0) (refuses : S → Command → S → Type 0) (old new : S) (out bytes rest : List ℕ) (s0 s1 n0 n1 r0 r1 : ℕ) → Progress step old new out bytes rest s0 s1 n0 n1 r0 r1 → Broken step refuses runs.Write old new out s0 bytes
Progress-broken step refuses old new out bytes rest s0 s1 n0 n1 r0 r1 p = record {
  lines = p.lines;
  outcomes = p.outcomes;
  mid = new;
  left = rest;
  whole = p.cut.whole;
  each = p.cut.each;
  run = p.run;
  text = p.text;
  end = inl refl;
}

-- ---- the last line

pub last_broken : {S : Type 0} (step : S → Command → Answer → S → Type 0) (refuses : S → Command → S → Type 0) (fault : RunFault) (old new : S) (line : List ℕ) (seen : ℕ) → ServeBroken step refuses fault old new line → EndsLast step refuses fault old new seen line
last_broken step refuses runs.Read old new line seen h = absurd h
last_broken step refuses runs.LongLine old new line seen h = absurd h
last_broken step refuses runs.NoMemory old new line seen h = h
last_broken step refuses runs.Write old new line seen h = absurd h

-- a fault at the last line, and then that of the writer
pub last_write : {S : Type 0} (step : S → Command → Answer → S → Type 0) (refuses : S → Command → S → Type 0) (fault : RunFault) (old new : S) (seen : ℕ) (line : List ℕ) → EndsLast step refuses fault old new seen line → EndsLast step refuses runs.Write old new seen line
last_write step refuses runs.Read old new seen line h = inl h.0
last_write step refuses runs.LongLine old new seen line h = absurd h
last_write step refuses runs.NoMemory old new seen line h = h
last_write step refuses runs.Write old new seen line h = h

pub finished : {S : Type 0} (step : S → Command → Answer → S → Type 0) (old new : S) (out line : List ℕ) (s0 s1 n0 n1 r0 r1 : ℕ) → 0 < length line → Served step old new out line s0 s1 n0 n1 r0 r1 → Finished step old new out line n0 n1 r0 r1
finished step old new out [] s0 s1 n0 n1 r0 r1 lt s = absurd (omega arith)
finished step old new out (b ∷ line) s0 s1 n0 n1 r0 r1 lt s = record {
  outcomes = s.outcome ∷ [];
  run = (new, s.gives, refl);
  text = s.text ∙ sym (append-nil (outcome_text s.outcome));
  answers = omega (arith, s.answers);
  refusals = omega (arith, s.refusals);
}

-- at most one line follows the last line end, and none where nothing follows it
pub no_last : (rest : List ℕ) → length rest ≡ 0 → length (last_line rest) ≡ 0
no_last [] e = refl
no_last (b ∷ rest) e = absurd (omega (arith, e))

pub one_last : (rest : List ℕ) → length (last_line rest) ≤ 1
one_last [] = omega arith
one_last (b ∷ rest) = omega arith

pub nothing_left : {S : Type 0} (step : S → Command → Answer → S → Type 0) (s : S) (rest : List ℕ) (n r : ℕ) → length rest ≡ 0 → Finished step s s [] rest n n r r
nothing_left step s [] n r e = record { outcomes = []; run = refl; text = refl; answers = omega arith; refusals = omega arith }
nothing_left step s (b ∷ rest) n r e = absurd (omega (arith, e))

-- ---- what is left becomes shorter

pub shorter : (left line after : List ℕ) → left ≡ line ++ 10 ∷ after → length after < length left
shorter left line after e = omega (arith, ap length e, length-append line (10 ∷ after))

pub shorter_part : (piece done left after : List ℕ) → piece ≡ done ++ left → length after < length left → length after < length piece
shorter_part piece done left after e lt = omega (arith, ap length e, length-append done left, lt)

pub shorter_none : (after piece : List ℕ) → after ≡ [] → 0 < length piece → length after < length piece
shorter_none after piece e lt = omega (arith, ap length e, lt)
