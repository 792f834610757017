-- Runs from their start to their end.
use Rattle.std.proofs.Common.{◌≡◌, ℕ, ◌+◌, ◌≤◌, inl, inr, List, [], ◌∷◌, ◌++◌, length, Option, refl, sym, ap, subst, ◌∙◌, append_assoc, arith}
use Rattle.std.specs.List.{flat_map, AllByRecursion}
use Rattle.std.specs.Io.KnownBytes.{Appends, Keeps, Consumes, IsAtEnd}
use Rattle.std.proofs.lemmas.List.{append-nil, length-append}
use Rattle.board_lines.specs.Replies.{ended}
use Rattle.board_lines.specs.declared.command.Command.{Command}
use Rattle.line_engine.specs.Answers.{Answer}
use Rattle.line_engine.specs.Outcomes.{Outcome, written, has_reply, is_refusal}
use Rattle.line_engine.specs.declared.run_fault.RunFault.{RunFault}
use Rattle.line_engine.specs.declared.run_fault.RunFault.TheVariants as runs
use Rattle.line_engine.specs.Running.{AppendsPrefix, Reaches, MayBeWrite, IsLine, Cut, Runs, StandsAt, Ends, Progress, Broken, BrokenWithin, ServeBroken, EndsLast, Finished, last_line}
use Rattle.line_engine.specs.TextLines.{lines_of}
use Rattle.line_engine.specs.WholeRuns.{AreOutcomes, IsAnswered, IsNear, AllLines, EndsAt, IsStopped}
use Rattle.line_engine.proofs.Bytes.{Appends-none, Consumes-none, Consumes-then, Consumes-kept}
use Rattle.line_engine.proofs.CutLines.{cut_lines, full_lines}
use Rattle.line_engine.proofs.Runs.{empty_line, nothing_yet, no_memory, Runs-then, written_then, Broken-then, last_write, Progress-then, Progress-broken, count_then}

-- ---- outcomes of the lines of a text

all_lines : (lines : List (List ℕ)) (rest : List ℕ) → AllByRecursion IsLine lines → IsLine rest → AllByRecursion IsLine (lines ++ last_line rest)
all_lines [] [] each partial = tt
all_lines [] (b ∷ rest) each partial = (partial, tt)
all_lines (line ∷ lines) rest each partial = (each.0, all_lines lines rest each.1 partial)

cut_is : (bytes : List ℕ) (lines : List (List ℕ)) (rest : List ℕ) → Cut bytes lines rest → lines_of bytes ≡ lines ++ last_line rest
cut_is bytes lines rest cut = ap lines_of cut.whole ∙ cut_lines lines rest cut.each cut.partial.plain

outcomes_are : {S : Type 0} (step : S → Command → Answer → S → Type 0) (old new : S) (text : List ℕ) (lines : List (List ℕ)) (outcomes : List Outcome) → lines_of text ≡ lines → AllByRecursion IsLine lines
    → Runs step old lines outcomes new → AreOutcomes step old text outcomes new
outcomes_are step old new text lines outcomes cut each run = record {
  short = subst (λ (ls : List (List ℕ)). AllByRecursion IsLine ls) (sym cut) each;
  run = subst (λ (ls : List (List ℕ)). Runs step old ls outcomes new) (sym cut) run;
}

-- ---- where a run ends

stands_near : {S : Type 0} (step : S → Command → Answer → S → Type 0) (refuses : S → Command → S → Type 0) (mid new : S) (left more : List ℕ) (end : Option (List ℕ)) → StandsAt step refuses mid new left → IsNear step refuses mid new (left ++ more) end
stands_near step refuses mid new left more end h = elim h [
  | inl e ↦ inl e
  | inr l ↦
      let next = l.1 in
      inr (l.0, inl (next.0, next.1 ++ more, ap (λ (xs : List ℕ). xs ++ more) next.2 ∙ append_assoc (ended l.0) next.1 more), l.2)
]

-- as many lines were answered as are seen
all_seen : (lines : List (List ℕ)) (n : ℕ) → lines_of (flat_map ended lines) ≡ lines → n ≡ 0 + length lines → n ≡ 4294967296 → AllLines (flat_map ended lines)
all_seen lines n cut count e = ap (λ (ls : List (List ℕ)). length ls) cut ∙ omega (arith, count, e)

ends_near : {S : Type 0} (step : S → Command → Answer → S → Type 0) (refuses : S → Command → S → Type 0) (fault : RunFault) (mid new : S) (n : ℕ) (lines : List (List ℕ)) (left more : List ℕ) (end : Option (List ℕ))
    → lines_of (flat_map ended lines) ≡ lines → n ≡ 0 + length lines → Ends step refuses fault mid new n left → EndsAt step refuses fault mid new (flat_map ended lines) (left ++ more) end
ends_near step refuses runs.Read mid new n lines left more end cut count h = (h.0, inr (all_seen lines n cut count h.1))
ends_near step refuses runs.LongLine mid new n lines left more end cut count h =
    let long = h.1 in
    (h.0, (long.0, long.1 ++ more, ap (λ (xs : List ℕ). xs ++ more) long.2 ∙ append_assoc long.0 long.1 more, long.3, long.4))
ends_near step refuses runs.NoMemory mid new n lines left more end cut count h = stands_near step refuses mid new left more end h
ends_near step refuses runs.Write mid new n lines left more end cut count h = stands_near step refuses mid new left more end h

-- the last line, which has no line end
last_near : {S : Type 0} (step : S → Command → Answer → S → Type 0) (refuses : S → Command → S → Type 0) (mid new : S) (rest more : List ℕ) (end : Option (List ℕ)) → IsLine rest → more ≡ [] → IsAtEnd end
    → ServeBroken step refuses runs.NoMemory mid new rest → IsNear step refuses mid new (rest ++ more) end
last_near step refuses mid new rest more end part none at_end h = elim h [
  | inl e ↦ inl e
  | inr l ↦ inr (rest, inr (ap (λ (xs : List ℕ). rest ++ xs) none ∙ append-nil rest, part, at_end), l)
]

last_ends : {S : Type 0} (step : S → Command → Answer → S → Type 0) (refuses : S → Command → S → Type 0) (fault : RunFault) (mid new : S) (n : ℕ) (lines : List (List ℕ)) (rest more : List ℕ) (end : Option (List ℕ))
    → lines_of (flat_map ended lines) ≡ lines → n ≡ 0 + length lines → IsLine rest → more ≡ [] → IsAtEnd end → EndsLast step refuses fault mid new n rest → EndsAt step refuses fault mid new (flat_map ended lines) (rest ++ more) end
last_ends step refuses runs.Read mid new n lines rest more end cut count part none at_end h = (h.0, inr (all_seen lines n cut count h.1))
last_ends step refuses runs.LongLine mid new n lines rest more end cut count part none at_end h = absurd h
last_ends step refuses runs.NoMemory mid new n lines rest more end cut count part none at_end h = last_near step refuses mid new rest more end part none at_end h
last_ends step refuses runs.Write mid new n lines rest more end cut count part none at_end h = last_near step refuses mid new rest more end part none at_end h

-- a read failed after whole lines and a part of the next
halted_ends : {S : Type 0} (step : S → Command → Answer → S → Type 0) (refuses : S → Command → S → Type 0) (fault : RunFault) (mid : S) (used rest more : List ℕ) (end : Option (List ℕ)) → fault ≡ runs.Read → more ≡ [] → IsLine rest → EndsAt step refuses fault mid mid used (rest ++ more) end
halted_ends {S} step refuses fault mid used rest more end is none part =
    let open_end : IsLine (rest ++ more) = subst (λ (xs : List ℕ). IsLine xs) (sym (ap (λ (xs : List ℕ). rest ++ xs) none ∙ append-nil rest)) part in
    let read : EndsAt step refuses runs.Read mid mid used (rest ++ more) end = (refl, inl open_end) in
    subst (λ (f : RunFault). EndsAt step refuses f mid mid used (rest ++ more) end) (sym is) read

-- ---- runs that ended early

-- lines with their ends were answered, and what follows them was not
lines_stopped : {S : Type 0} (step : S → Command → Answer → S → Type 0) (refuses : S → Command → S → Type 0) (fault : RunFault) (old mid new : S) (left_old left_new was now : Option (List ℕ)) (bytes more out left : List ℕ) (lines : List (List ℕ)) (outcomes : List Outcome)
    → Consumes left_old left_new (bytes ++ more) → bytes ≡ flat_map ended lines ++ left → AllByRecursion IsLine lines → Runs step old lines outcomes mid
    → EndsAt step refuses fault mid new (flat_map ended lines) (left ++ more) left_new → out ≡ written outcomes → Reaches fault was now out
    → IsStopped step refuses fault old new left_old left_new was now
lines_stopped step refuses fault old mid new left_old left_new was now bytes more out left lines outcomes g e each run end text w = record {
  used = flat_map ended lines;
  more = left ++ more;
  given = subst (λ (l : List ℕ). Consumes left_old left_new l) (ap (λ (l : List ℕ). l ++ more) e ∙ append_assoc (flat_map ended lines) left more) g;
  whole = inl (lines, refl);
  outcomes = outcomes;
  mid = mid;
  run = outcomes_are step old mid (flat_map ended lines) lines outcomes (full_lines lines each) each run;
  end = end;
  text = subst (λ (l : List ℕ). Reaches fault was now l) text w;
}

-- the fault came among lines with their ends
broken_stopped : {S : Type 0} (step : S → Command → Answer → S → Type 0) (refuses : S → Command → S → Type 0) (fault : RunFault) (old new : S) (left_old left_new was now : Option (List ℕ)) (bytes more out : List ℕ)
    → Consumes left_old left_new (bytes ++ more) → Reaches fault was now out → Broken step refuses fault old new out 0 bytes → IsStopped step refuses fault old new left_old left_new was now
broken_stopped step refuses fault old new left_old left_new was now bytes more out g w b =
    lines_stopped step refuses fault old b.mid new left_old left_new was now bytes more out b.left b.lines b.outcomes g b.whole b.each b.run
    (ends_near step refuses fault b.mid new (0 + length b.lines) b.lines b.left more left_new (full_lines b.lines b.each) refl b.end) b.text w

-- the reader failed after these bytes, and each whole line of them was answered
halted_stopped : {S : Type 0} (step : S → Command → Answer → S → Type 0) (refuses : S → Command → S → Type 0) (old new : S) (left_old left_new was now : Option (List ℕ)) (bytes out rest : List ℕ) (s n r : ℕ)
    → Consumes left_old left_new (bytes ++ []) → Appends was now out → Progress step old new out bytes rest 0 s 0 n 0 r → IsStopped step refuses runs.Read old new left_old left_new was now
halted_stopped step refuses old new left_old left_new was now bytes out rest s n r g w p =
    lines_stopped step refuses runs.Read old new new left_old left_new was now bytes [] out rest p.lines p.outcomes g p.cut.whole p.cut.each p.run
    (halted_ends step refuses runs.Read new (flat_map ended p.lines) rest [] left_new refl refl p.cut.partial) p.text w

open_end : (a b : Option (List ℕ)) (bytes : List ℕ) → Consumes a b bytes → Consumes a b (bytes ++ [])
open_end a b bytes g = subst (λ (l : List ℕ). Consumes a b l) (sym (append-nil bytes)) g

pub started : {S : Type 0} (step : S → Command → Answer → S → Type 0) (f : S) (held rest : List ℕ) (s n r : ℕ) → held ≡ [] → rest ≡ [] → s ≡ 0 → n ≡ 0 → r ≡ 0 → Progress step f f ([] ++ held) [] rest 0 s 0 n 0 r
started step f held rest s n r h e d k j = rw (h, e, d, k, j) (nothing_yet step f [] 0 0 0 empty_line)

-- nothing was begun
pub no_room : {S : Type 0} (step : S → Command → Answer → S → Type 0) (refuses : S → Command → S → Type 0) (f : S) (a was : Option (List ℕ)) → IsStopped step refuses runs.NoMemory f f a a was was
no_room step refuses f a was = broken_stopped step refuses runs.NoMemory f f a a was was [] [] [] (Consumes-none a) (Appends-none was) (no_memory step refuses f [] 0)

-- the replies were not written before a read
pub unflushed : {S : Type 0} (step : S → Command → Answer → S → Type 0) (refuses : S → Command → S → Type 0) (old new : S) (a b was now : Option (List ℕ)) (out bytes rest : List ℕ) (s n r : ℕ)
    → Consumes a b bytes → AppendsPrefix was now out → Progress step old new out bytes rest 0 s 0 n 0 r → IsStopped step refuses runs.Write old new a b was now
unflushed step refuses old new a b was now out bytes rest s n r g q p =
    broken_stopped step refuses runs.Write old new a b was now bytes [] out (open_end a b bytes g) q (Progress-broken step refuses old new out bytes rest 0 s 0 n 0 r p)

-- the reader failed
pub unread : {S : Type 0} (step : S → Command → Answer → S → Type 0) (refuses : S → Command → S → Type 0) (old new : S) (a b c was now : Option (List ℕ)) (out bytes rest : List ℕ) (s n r : ℕ)
    → Consumes a b bytes → Keeps b c → Appends was now out → Progress step old new out bytes rest 0 s 0 n 0 r → IsStopped step refuses runs.Read old new a c was now
unread step refuses old new a b c was now out bytes rest s n r g k q p =
    halted_stopped step refuses old new a c was now bytes out rest s n r (Consumes-kept a b c bytes g k) q p

-- there were as many reads as are counted
pub read_ended : {S : Type 0} (step : S → Command → Answer → S → Type 0) (refuses : S → Command → S → Type 0) (last : RunFault) (old new : S) (a b was now : Option (List ℕ)) (out bytes rest : List ℕ) (s n r : ℕ)
    → Consumes a b bytes → MayBeWrite runs.Read last → Reaches last was now out → Progress step old new out bytes rest 0 s 0 n 0 r → IsStopped step refuses last old new a b was now
read_ended step refuses last old new a b was now out bytes rest s n r g m q p = elim m [
  | inl same ↦ subst (λ (f : RunFault). IsStopped step refuses f old new a b was now) (sym same)
      (halted_stopped step refuses old new a b was now bytes out rest s n r (open_end a b bytes g) (subst (λ (f : RunFault). Reaches f was now out) same q) p)
  | inr write ↦ subst (λ (f : RunFault). IsStopped step refuses f old new a b was now) (sym write)
      (broken_stopped step refuses runs.Write old new a b was now bytes [] out (open_end a b bytes g) (subst (λ (f : RunFault). Reaches f was now out) write q) (Progress-broken step refuses old new out bytes rest 0 s 0 n 0 r p))
]

may_be : {S : Type 0} (step : S → Command → Answer → S → Type 0) (refuses : S → Command → S → Type 0) (fault last : RunFault) (old new : S) (seen : ℕ) (line : List ℕ) → MayBeWrite fault last → EndsLast step refuses fault old new seen line → EndsLast step refuses last old new seen line
may_be step refuses fault last old new seen line m e = elim m [
  | inl same ↦ subst (λ (f : RunFault). EndsLast step refuses f old new seen line) (sym same) e
  | inr write ↦ subst (λ (f : RunFault). EndsLast step refuses f old new seen line) (sym write) (last_write step refuses fault old new seen line e)
]

-- the last line was not answered
pub last_stopped : {S : Type 0} (step : S → Command → Answer → S → Type 0) (refuses : S → Command → S → Type 0) (fault last : RunFault) (old mid new : S) (a b c was now : Option (List ℕ)) (x out bytes rest given chunk : List ℕ) (s n r : ℕ)
    → Consumes a b bytes → Consumes b c chunk → chunk ≡ [] → IsAtEnd c → MayBeWrite fault last → Reaches last was now out → out ≡ x → Progress step old mid x bytes rest 0 s 0 n 0 r → given ≡ rest → EndsLast step refuses fault mid new s given → IsStopped step refuses last old new a c was now
last_stopped step refuses fault last old mid new a d c was now x out bytes rest given chunk s n r g k none end m q e p same b =
    let b' = subst (λ (l : List ℕ). EndsLast step refuses fault mid new s l) same b in
    let given' = subst (λ (l : List ℕ). Consumes a c (bytes ++ l)) none (Consumes-then a d c bytes chunk g k) in
    let ends = may_be step refuses fault last mid new s rest m b' in
    lines_stopped step refuses last old mid new a c was now bytes [] out rest p.lines p.outcomes given' p.cut.whole p.cut.each p.run
    (last_ends step refuses last mid new s p.lines rest [] c (full_lines p.lines p.cut.each) p.seen p.cut.partial refl end ends) (e ∙ p.text) q

-- the replies to the last lines were not written
pub last_unwritten : {S : Type 0} (step : S → Command → Answer → S → Type 0) (refuses : S → Command → S → Type 0) (old mid new : S) (a b c was now : Option (List ℕ)) (x y out bytes rest given chunk : List ℕ) (s n0 n1 r0 r1 : ℕ)
    → Consumes a b bytes → Consumes b c chunk → chunk ≡ [] → IsAtEnd c → AppendsPrefix was now out → out ≡ x ++ y → Progress step old mid x bytes rest 0 s 0 n0 0 r0 → given ≡ rest → Finished step mid new y given n0 n1 r0 r1 → IsStopped step refuses runs.Write old new a c was now
last_unwritten step refuses old mid new a b c was now x y out bytes rest given chunk s n0 n1 r0 r1 g k none end q e p same f =
    let f' = subst (λ (l : List ℕ). Finished step mid new y l n0 n1 r0 r1) same f in
    let given' = subst (λ (l : List ℕ). Consumes a c (bytes ++ l)) none (Consumes-then a b c bytes chunk g k) in
    let run = Runs-then step old mid new p.lines (last_line rest) p.outcomes f'.outcomes p.run f'.run in
    let text : out ≡ written (p.outcomes ++ f'.outcomes) = e ∙ written_then x y p.outcomes f'.outcomes p.text f'.text in
    let near : EndsAt step refuses runs.Write new new bytes [] c = inl refl in
    record {
      used = bytes;
      more = [];
      given = given';
      whole = inr (refl, end);
      outcomes = p.outcomes ++ f'.outcomes;
      mid = new;
      run = outcomes_are step old new bytes (p.lines ++ last_line rest) (p.outcomes ++ f'.outcomes) (cut_is bytes p.lines rest p.cut) (all_lines p.lines rest p.cut.each p.cut.partial) run;
      end = near;
      text = subst (λ (l : List ℕ). AppendsPrefix was now l) text q;
    }

pub all_answered : {S : Type 0} (step : S → Command → Answer → S → Type 0) (old mid new : S) (a b c was now : Option (List ℕ)) (x y out bytes rest given chunk : List ℕ) (s n0 n1 r0 r1 : ℕ)
    → Consumes a b bytes → Consumes b c chunk → chunk ≡ [] → IsAtEnd c → Appends was now out → out ≡ x ++ y → Progress step old mid x bytes rest 0 s 0 n0 0 r0 → given ≡ rest → s + length (last_line given) ≤ 4294967296 → Finished step mid new y given n0 n1 r0 r1 → IsAnswered step old new a c was now n1 r1
all_answered step old mid new a b c was now x y out bytes rest given chunk s n0 n1 r0 r1 g k none end q e p same few f =
    let f' = subst (λ (l : List ℕ). Finished step mid new y l n0 n1 r0 r1) same f in
    let given' = subst (λ (l : List ℕ). Consumes a c (bytes ++ l)) none (Consumes-then a b c bytes chunk g k) in
    let few' = subst (λ (l : List ℕ). s + length (last_line l) ≤ 4294967296) same few in
    let lines : lines_of bytes ≡ p.lines ++ last_line rest = cut_is bytes p.lines rest p.cut in
    let most : length (p.lines ++ last_line rest) ≤ 4294967296 = omega (arith, few', p.seen, length-append p.lines (last_line rest)) in
    let run = Runs-then step old mid new p.lines (last_line rest) p.outcomes f'.outcomes p.run f'.run in
    record {
      bytes = bytes;
      given = subst (λ (l : List ℕ). Consumes a c l) (append-nil bytes) given';
      at_end = end;
      few = subst (λ (ls : List (List ℕ)). length ls ≤ 4294967296) (sym lines) most;
      outcomes = p.outcomes ++ f'.outcomes;
      run = outcomes_are step old new bytes (p.lines ++ last_line rest) (p.outcomes ++ f'.outcomes) lines (all_lines p.lines rest p.cut.each p.cut.partial) run;
      text = subst (λ (l : List ℕ). Appends was now l) (e ∙ written_then x y p.outcomes f'.outcomes p.text f'.text) q;
      answered = omega (arith, p.answers, f'.answers, count_then has_reply p.outcomes f'.outcomes);
      refused = omega (arith, p.refusals, f'.refusals, count_then is_refusal p.outcomes f'.outcomes);
    }

-- a piece was not taken to its end
pub piece_stopped : {S : Type 0} (step : S → Command → Answer → S → Type 0) (refuses : S → Command → S → Type 0) (fault : RunFault) (old mid new : S) (a b c was now : Option (List ℕ)) (x y bytes rest piece chunk : List ℕ) (s n r : ℕ)
    → Consumes a b bytes → Consumes b c chunk → piece ≡ chunk → Reaches fault was now (x ++ y) → Progress step old mid x bytes rest 0 s 0 n 0 r → BrokenWithin step refuses fault mid new y s rest piece → IsStopped step refuses fault old new a c was now
piece_stopped step refuses fault old mid new a b c was now x y bytes rest piece chunk s n r g k e w p q =
    let all : bytes ++ chunk ≡ (bytes ++ q.0) ++ q.1 = ap (λ (l : List ℕ). bytes ++ l) (sym e ∙ q.2) ∙ sym (append_assoc bytes q.0 q.1) in
    broken_stopped step refuses fault old new a c was now (bytes ++ q.0) q.1 (x ++ y) (subst (λ (l : List ℕ). Consumes a c l) all (Consumes-then a b c bytes chunk g k)) w
    (Broken-then step refuses fault old mid new x y bytes rest q.0 0 s 0 n 0 r p q.3)

pub piece_done : {S : Type 0} (step : S → Command → Answer → S → Type 0) (a b c : S) (x sent held bytes rest piece chunk end : List ℕ) (s0 s1 n0 n1 r0 r1 : ℕ) → piece ≡ chunk → Progress step a b x bytes rest 0 s0 0 n0 0 r0 → Progress step b c (sent ++ held) (rest ++ piece) end s0 s1 n0 n1 r0 r1 → Progress step a c ((x ++ sent) ++ held) (bytes ++ chunk) end 0 s1 0 n1 0 r1
piece_done step a b c x sent held bytes rest piece chunk end s0 s1 n0 n1 r0 r1 e p q =
    let whole = Progress-then step a b c x (sent ++ held) bytes rest piece end 0 s0 s1 0 n0 n1 0 r0 r1 p q in
    subst (λ (l : List ℕ). Progress step a c l (bytes ++ chunk) end 0 s1 0 n1 0 r1) (sym (append_assoc x sent held)) (subst (λ (l : List ℕ). Progress step a c (x ++ (sent ++ held)) (bytes ++ l) end 0 s1 0 n1 0 r1) e whole)
