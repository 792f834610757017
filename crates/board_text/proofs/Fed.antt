-- Lines that are answered one by one are those of one run.
use Rattle.std.proofs.Common.{◌≡◌, ℕ, suc, ◌+◌, ◌<◌, ◌≤◌, ◌⊎◌, Err, inl, inr, List, [], ◌∷◌, ◌++◌, length, Option, Some, None, Bool, cond, refl, sym, ap, ap₂, subst, ◌∙◌, append_assoc, append-nil, arith}
use Rattle.std.specs.Prelude.{count_by}
use Rattle.std.specs.List.{flat_map, AllByRecursion}
use Rattle.std.specs.Io.KnownBytes.{Appends, Consumes, IsAtEnd}
use Rattle.std.proofs.lemmas.List.{length-append}
use Rattle.std.proofs.lemmas.List.Sums.{sum_by-append, count_by-le-length}
use Rattle.std.proofs.lemmas.Grind.{flat_map-append}
use Rattle.board_lines.specs.Reading.{read_of, words_read}
use Rattle.board_lines.specs.Replies.{ended}
use Rattle.board_lines.specs.declared.command.Command.{Command}
use Rattle.board_lines.specs.declared.command.Command.TheVariants.{Skip}
use Rattle.line_engine.specs.Answers.{Answer}
use Rattle.line_engine.specs.Leaving.{Leaves}
use Rattle.line_engine.specs.Outcomes.{Outcome, outcome_text, written, has_reply, is_refusal}
use Rattle.line_engine.specs.Running.{IsLine, IsTooLong, Reaches, Runs, body}
use Rattle.line_engine.specs.TextLines.{lines_of}
use Rattle.line_engine.specs.WholeRuns.{AreOutcomes, AreWholeLines, EndsAt, IsAnswered, IsNear, IsStopped}
use Rattle.line_engine.specs.declared.run_fault.Counts.{Counts}
use Rattle.line_engine.specs.declared.run_fault.RunFault.{RunFault}
use Rattle.line_engine.specs.declared.run_fault.RunFault.TheVariants as runs
use Rattle.board_text.specs.Fed.{Fed, Flow, IsTextAnswered, IsTextStopped, as_whole, flow_of}
use Rattle.board_text.specs.Pieces.{IsNext}
use Rattle.board_text.proofs.Bytes.{Appends-none, Appends-then, Consumes-none, Consumes-then, Reaches-then}
use Rattle.board_text.proofs.Cuts.{cut_lines, each_then, few_open, full_lines, nothing_behind, one_line}

module _ {S : Type 0} (step : S → Command → Answer → S → Type 0) (refuses : S → Command → S → Type 0) where
  -- ---- runs one behind the other

  runs_then : (a b c : S) (xs ys : List (List ℕ)) (os ps : List Outcome) → Runs step a xs os b → Runs step b ys ps c → Runs step a (xs ++ ys) (os ++ ps) c
  runs_then a b c [] ys [] ps p q = subst (λ (s : S). Runs step s ys ps c) p q
  runs_then a b c [] ys (o ∷ os) ps p q = absurd p
  runs_then a b c (x ∷ xs) ys [] ps p q = absurd p
  runs_then a b c (x ∷ xs) ys (o ∷ os) ps p q = (p.0, p.1, runs_then p.0 b c xs ys os ps p.2 q)

  as_many : (a b : S) (xs : List (List ℕ)) (os : List Outcome) → Runs step a xs os b → length os ≡ length xs
  as_many a b [] [] r = refl
  as_many a b [] (o ∷ os) r = absurd r
  as_many a b (x ∷ xs) [] r = absurd r
  as_many a b (x ∷ xs) (o ∷ os) r = ap suc (as_many r.0 b xs os r.2)

  count_then : (p : Outcome → Bool) (xs ys : List Outcome) (m n : ℕ) → m ≡ count_by p xs → n ≡ count_by p ys → m + n ≡ count_by p (xs ++ ys)
  count_then p xs ys m n e f = rw (e, f) (sym (sum_by-append (λ x. cond (p x) 1 0) xs ys))

  writes_then : (a b c : Option (List ℕ)) (os ps : List Outcome) → Appends a b (written os) → Appends b c (written ps) → Appends a c (written (os ++ ps))
  writes_then a b c os ps p q = subst (λ (l : List ℕ). Appends a c l) (sym (flat_map-append outcome_text os ps)) (Appends-then a b c (written os) (written ps) p q)

  abbrev counted : ℕ → ℕ → Counts
  counted lines refused = record { lines = lines; refused = refused }

  -- ---- the start

  pub none_fed : (s : S) (left was : Option (List ℕ)) (held : List ℕ) (counts : Counts) → held ≡ [] → counts.lines ≡ 0 → counts.refused ≡ 0 → Fed step s s (flow_of left left was was) held 0 counts
  none_fed s left was held counts e f g = record {
    lines = [];
    outcomes = [];
    each = tt;
    run = refl;
    given = subst (λ (l : List ℕ). Consumes left left l) (sym e) (Consumes-none left);
    text = Appends-none was;
    seen_is = refl;
    answers_is = f;
    refusals_is = g;
  }

  -- what was read is the lines, what was held and what came to it
  more_given : (a b c : Option (List ℕ)) (lines held bytes : List ℕ) → Consumes a b (lines ++ held) → Consumes b c bytes → Consumes a c (lines ++ (held ++ bytes))
  more_given a b c lines held bytes p q = subst (λ (l : List ℕ). Consumes a c l) (append_assoc lines held bytes) (Consumes-then a b c (lines ++ held) bytes p q)

  -- ---- a line more

  -- a run over a text answered all of it
  text_whole : (text : List ℕ) (left : Option (List ℕ)) (bytes : List ℕ) → Consumes (Some text) left bytes → IsAtEnd left → text ≡ bytes
  text_whole text None bytes g e = absurd g
  text_whole text (Some xs) bytes g e = g ∙ ap (λ (l : List ℕ). bytes ++ l) e ∙ append-nil bytes

  record TextRun (old new : S) (text : List ℕ) (was now : Option (List ℕ)) (counts : Counts) : Type 0 where
    outcomes : List Outcome
    short : AllByRecursion IsLine (lines_of text)
    run : Runs step old (lines_of text) outcomes new
    written_is : Appends was now (written outcomes)
    answers_is : counts.lines ≡ count_by has_reply outcomes
    refusals_is : counts.refused ≡ count_by is_refusal outcomes

  text_run : (old new : S) (text : List ℕ) (was now : Option (List ℕ)) (counts : Counts) → IsTextAnswered step old new text was now counts → TextRun old new text was now counts
  text_run old new text was now counts h =
      let a = h.1 in
      let e = text_whole text h.0 a.bytes a.given a.at_end in
      let run : AreOutcomes step old text a.outcomes new = subst (λ (l : List ℕ). AreOutcomes step old l a.outcomes new) (sym e) a.run in
      record { outcomes = a.outcomes; short = run.short; run = run.run; written_is = a.text; answers_is = a.answered; refusals_is = a.refused }

  pub line_fed : (old mid new : S) (a b c w x y : Option (List ℕ)) (held next bytes line : List ℕ) (seen : ℕ) (counts more both : Counts) → Fed step old mid (flow_of a b w x) held seen counts → Consumes b c bytes
      → held ++ bytes ≡ ended line ++ next → IsLine line → IsTextAnswered step mid new (ended line) x y more → both.lines ≡ counts.lines + more.lines → both.refused ≡ counts.refused + more.refused → Fed step old new (flow_of a c w y) next (seen + 1) both
  line_fed old mid new a b c w x y held next bytes line seen counts more both f g e l h j k =
      let t = text_run mid new (ended line) x y more h in
      let run : Runs step mid (line ∷ []) t.outcomes new = subst (λ (ls : List (List ℕ)). Runs step mid ls t.outcomes new) (one_line line l) t.run in
      record {
        lines = f.lines ++ line ∷ [];
        outcomes = f.outcomes ++ t.outcomes;
        each = each_then f.lines (line ∷ []) f.each (l, tt);
        run = runs_then old mid new f.lines (line ∷ []) f.outcomes t.outcomes f.run run;
        given = subst (λ (l : List ℕ). Consumes a c l) (regroup f.lines) (more_given a b c (flat_map ended f.lines) held bytes f.given g);
        text = writes_then w x y f.outcomes t.outcomes f.text t.written_is;
        seen_is = omega (arith, f.seen_is, length-append f.lines (line ∷ []));
        answers_is = j ∙ count_then has_reply f.outcomes t.outcomes counts.lines more.lines f.answers_is t.answers_is;
        refusals_is = k ∙ count_then is_refusal f.outcomes t.outcomes counts.refused more.refused f.refusals_is t.refusals_is;
      }
    where
      regroup : (lines : List (List ℕ)) → flat_map ended lines ++ (held ++ bytes) ≡ flat_map ended (lines ++ line ∷ []) ++ next
      regroup lines = rw (e, flat_map-append ended lines (line ∷ []), append-nil (ended line)) (sym (append_assoc (flat_map ended lines) (ended line) next))

  -- ---- the end

  pub last_fed : (old mid new : S) (a b c w x y : Option (List ℕ)) (held bytes rest : List ℕ) (seen : ℕ) (counts more both : Counts) → Fed step old mid (flow_of a b w x) held seen counts → Consumes b c bytes
      → held ++ bytes ≡ rest → IsLine rest → IsAtEnd c → seen + 1 ≤ 4294967296 → IsTextAnswered step mid new rest x y more → both.lines ≡ counts.lines + more.lines → both.refused ≡ counts.refused + more.refused
      → IsAnswered step old new a c w y both.lines both.refused
  last_fed old mid new a b c w x y held bytes rest seen counts more both f g e l at_end few h j k =
      let t = text_run mid new rest x y more h in
      let cut = cut_lines f.lines rest f.each in
      let bound = few_open rest l.plain in
      record {
        bytes = flat_map ended f.lines ++ rest;
        given = subst (λ (l : List ℕ). Consumes a c (flat_map ended f.lines ++ l)) e (more_given a b c (flat_map ended f.lines) held bytes f.given g);
        at_end = at_end;
        few = omega (arith, bound, few, f.seen_is, ap (λ (ls : List (List ℕ)). length ls) cut, length-append f.lines (lines_of rest));
        outcomes = f.outcomes ++ t.outcomes;
        run = record {
          short = subst (λ (ls : List (List ℕ)). AllByRecursion IsLine ls) (sym cut) (each_then f.lines (lines_of rest) f.each t.short);
          run = subst (λ (ls : List (List ℕ)). Runs step old ls (f.outcomes ++ t.outcomes) new) (sym cut) (runs_then old mid new f.lines (lines_of rest) f.outcomes t.outcomes f.run t.run);
        };
        text = writes_then w x y f.outcomes t.outcomes f.text t.written_is;
        answered = j ∙ count_then has_reply f.outcomes t.outcomes counts.lines more.lines f.answers_is t.answers_is;
        refused = k ∙ count_then is_refusal f.outcomes t.outcomes counts.refused more.refused f.refusals_is t.refusals_is;
      }

  -- ---- counts are small

  pub few_fed : (old mid : S) (f : Flow) (held : List ℕ) (seen : ℕ) (counts : Counts) → Fed step old mid f held seen counts → (counts.lines ≤ seen) × (counts.refused ≤ seen)
  few_fed old mid f held seen counts h = (
    omega (arith, h.answers_is, h.seen_is, count_by-le-length has_reply h.outcomes, as_many old mid h.lines h.outcomes h.run),
    omega (arith, h.refusals_is, h.seen_is, count_by-le-length is_refusal h.outcomes, as_many old mid h.lines h.outcomes h.run),
  )

  few_run : (old new : S) (text : List ℕ) (was now : Option (List ℕ)) (counts : Counts) → length (lines_of text) ≤ 1 → TextRun old new text was now counts → (counts.lines ≤ 1) × (counts.refused ≤ 1)
  few_run old new text was now counts few t = (
    omega (arith, few, t.answers_is, count_by-le-length has_reply t.outcomes, as_many old new (lines_of text) t.outcomes t.run),
    omega (arith, few, t.refusals_is, count_by-le-length is_refusal t.outcomes, as_many old new (lines_of text) t.outcomes t.run),
  )

  pub few_of_line : (old new : S) (line : List ℕ) (was now : Option (List ℕ)) (counts : Counts) → IsLine line → IsTextAnswered step old new (ended line) was now counts → (counts.lines ≤ 1) × (counts.refused ≤ 1)
  few_of_line old new line was now counts l h = few_run old new (ended line) was now counts (omega (arith, ap (λ (ls : List (List ℕ)). length ls) (one_line line l))) (text_run old new (ended line) was now counts h)

  pub few_of_last : (old new : S) (rest : List ℕ) (was now : Option (List ℕ)) (counts : Counts) → IsLine rest → IsTextAnswered step old new rest was now counts → (counts.lines ≤ 1) × (counts.refused ≤ 1)
  few_of_last old new rest was now counts l h = few_run old new rest was now counts (few_open rest l.plain) (text_run old new rest was now counts h)

  -- ---- ends before the end

  all_of : (old mid : S) (f : Flow) (held : List ℕ) (seen : ℕ) (counts : Counts) (h : Fed step old mid f held seen counts) → AreOutcomes step old (flat_map ended h.lines) h.outcomes mid
  all_of old mid f held seen counts h =
      let cut = full_lines h.lines h.each in
      record {
        short = subst (λ (ls : List (List ℕ)). AllByRecursion IsLine ls) (sym cut) h.each;
        run = subst (λ (ls : List (List ℕ)). Runs step old ls h.outcomes mid) (sym cut) h.run;
      }

  -- between two lines
  ended_at : (fault : RunFault) (old mid : S) (a b c w x : Option (List ℕ)) (held bytes : List ℕ) (seen : ℕ) (counts : Counts) (h : Fed step old mid (flow_of a b w x) held seen counts) → Consumes b c bytes
      → EndsAt step refuses fault mid mid (flat_map ended h.lines) (held ++ bytes) c → Reaches fault w x (written h.outcomes) → IsStopped step refuses fault old mid a c w x
  ended_at fault old mid a b c w x held bytes seen counts h g end text = record {
    used = flat_map ended h.lines;
    more = held ++ bytes;
    given = more_given a b c (flat_map ended h.lines) held bytes h.given g;
    whole = inl (h.lines, refl);
    outcomes = h.outcomes;
    mid = mid;
    run = all_of old mid (flow_of a b w x) held seen counts h;
    end = end;
    text = text;
  }

  pub long_fed : (old mid : S) (a b c w x : Option (List ℕ)) (held bytes : List ℕ) (seen : ℕ) (counts : Counts) → Fed step old mid (flow_of a b w x) held seen counts → Consumes b c bytes → IsTooLong (held ++ bytes)
      → IsStopped step refuses runs.LongLine old mid a c w x
  long_fed old mid a b c w x held bytes seen counts h g long = ended_at runs.LongLine old mid a b c w x held bytes seen counts h g (refl, long) h.text

  pub unread_fed : (old mid : S) (a b c w x : Option (List ℕ)) (held bytes : List ℕ) (seen : ℕ) (counts : Counts) → Fed step old mid (flow_of a b w x) held seen counts → Consumes b c bytes → IsLine (held ++ bytes)
      → IsStopped step refuses runs.Read old mid a c w x
  unread_fed old mid a b c w x held bytes seen counts h g line = ended_at runs.Read old mid a b c w x held bytes seen counts h g (refl, inl line) h.text

  pub out_of_memory : (old mid : S) (a b c w x : Option (List ℕ)) (held bytes : List ℕ) (seen : ℕ) (counts : Counts) → Fed step old mid (flow_of a b w x) held seen counts → Consumes b c bytes → IsStopped step refuses runs.NoMemory old mid a c w x
  out_of_memory old mid a b c w x held bytes seen counts h g = ended_at runs.NoMemory old mid a b c w x held bytes seen counts h g (inl refl) h.text

  -- after as many lines as are answered at most
  pub full_fed : (old mid : S) (a b w x : Option (List ℕ)) (held : List ℕ) (seen : ℕ) (counts : Counts) → Fed step old mid (flow_of a b w x) held seen counts → seen ≡ 4294967296 → IsStopped step refuses runs.Read old mid a b w x
  full_fed old mid a b w x held seen counts h e =
      ended_at runs.Read old mid a b b w x held [] seen counts h (Consumes-none b) (refl, inr (ap (λ (ls : List (List ℕ)). length ls) (full_lines h.lines h.each) ∙ omega (arith, e, h.seen_is))) h.text

  -- ---- an end within a line

  -- running out of memory at a line that is skipped changes nothing
  abbrev IsSkipping : Type 0
  IsSkipping = (old new : S) → refuses old Skip new → new ≡ old

  -- the text of the line, which has its end, or is all that is left
  abbrev IsPiece : List ℕ → List ℕ → Option (List ℕ) → Type 0
  IsPiece text next left = ((line : List ℕ) × (text ≡ ended line)) ⊎ ((next ≡ []) × IsAtEnd left)

  -- an empty line leaves a front as it is
  nothing_done : IsSkipping → (mid new : S) → Leaves step refuses mid (read_of (body [])) new → new ≡ mid
  unfolding words_read
  nothing_done skips mid new l = elim l [
    | inl e ↦ skips mid new e
    | inr g ↦ g.1.1
  ]

  left_of : (text : List ℕ) (left : Option (List ℕ)) (bytes : List ℕ) → Consumes (Some text) left bytes → (rest : List ℕ) × (text ≡ bytes ++ rest) × (IsAtEnd left → rest ≡ [])
  left_of text None bytes g = absurd g
  left_of text (Some xs) bytes g = (xs, g, λ e. e)

  -- the front stands where it stood, or where the next line of the whole script leaves it
  near : IsSkipping → (mid new : S) (text used more rest next : List ℕ) (left end : Option (List ℕ)) → IsPiece text next end → text ≡ (used ++ more) ++ rest → (IsAtEnd left → rest ≡ [])
      → IsNear step refuses mid new more left → IsNear step refuses mid new (more ++ (rest ++ next)) end
  near skips mid new text used more rest next left end piece e none h = elim h [
    | inl same ↦ inl same
    | inr l ↦ elim l.1 [
      | inl follows ↦ inr (l.0, inl (follows.0, follows.1 ++ (rest ++ next), ap (λ (xs : List ℕ). xs ++ (rest ++ next)) follows.2 ∙ append_assoc (ended l.0) follows.1 (rest ++ next)), l.2)
      | inr last ↦ by_last l.0 last.0 last.1 (none last.2) l.2
    ]
  ]
    where
      by_last : (line : List ℕ) → more ≡ line → IsLine line → rest ≡ [] → Leaves step refuses mid (read_of (body line)) new → IsNear step refuses mid new (more ++ (rest ++ next)) end
      by_last line is part no_rest leaves = elim piece [
        | inl whole ↦
            let behind : used ++ line ≡ ended whole.0 = ap (λ (l : List ℕ). used ++ l) (sym is) ∙ sym (append-nil (used ++ more)) ∙ ap (λ (l : List ℕ). (used ++ more) ++ l) (sym no_rest) ∙ sym e ∙ whole.1 in
            inl (nothing_done skips mid new (subst (λ (l : List ℕ). Leaves step refuses mid (read_of (body l)) new) (nothing_behind used line whole.0 behind part.plain) leaves))
        | inr all ↦ inr (line, inr (ap₂ (λ (x y : List ℕ). more ++ (x ++ y)) no_rest all.0 ∙ append-nil more ∙ is, part, all.1), leaves)
      ]

  -- the fault, as that of the whole run
  ends_whole : IsSkipping → (fault : RunFault) (mid new : S) (text used more rest next all : List ℕ) (left end : Option (List ℕ)) → IsPiece text next end → text ≡ (used ++ more) ++ rest → (IsAtEnd left → rest ≡ [])
      → EndsAt step refuses fault mid new used more left → EndsAt step refuses (as_whole fault) mid new all (more ++ (rest ++ next)) end
  ends_whole skips runs.Read mid new text used more rest next all left end piece e none h = inl h.0
  ends_whole skips runs.LongLine mid new text used more rest next all left end piece e none h =
      let long = h.1 in
      (h.0, (long.0, long.1 ++ (rest ++ next), ap (λ (xs : List ℕ). xs ++ (rest ++ next)) long.2 ∙ append_assoc long.0 long.1 (rest ++ next), long.3, long.4))
  ends_whole skips runs.NoMemory mid new text used more rest next all left end piece e none h = near skips mid new text used more rest next left end piece e none h
  ends_whole skips runs.Write mid new text used more rest next all left end piece e none h = near skips mid new text used more rest next left end piece e none h

  reaches_whole : (fault : RunFault) (a b : Option (List ℕ)) (out : List ℕ) → Reaches fault a b out → Reaches (as_whole fault) a b out
  reaches_whole runs.Read a b out r = r
  reaches_whole runs.LongLine a b out r = r
  reaches_whole runs.NoMemory a b out r = r
  reaches_whole runs.Write a b out r = r

  -- the lines before and those of the piece
  whole_then : (lines : List (List ℕ)) (text used more rest next : List ℕ) (left end : Option (List ℕ)) → IsPiece text next end → text ≡ (used ++ more) ++ rest → (IsAtEnd left → rest ≡ []) → AreWholeLines used more left
      → AreWholeLines (flat_map ended lines ++ used) (more ++ (rest ++ next)) end
  whole_then lines text used more rest next left end piece e none h = elim h [
    | inl whole ↦ inl (lines ++ whole.0, ap (λ (l : List ℕ). flat_map ended lines ++ l) whole.1 ∙ sym (flat_map-append ended lines whole.0))
    | inr last ↦ elim piece [
      | inl line ↦ inl (lines ++ line.0 ∷ [], ap (λ (l : List ℕ). flat_map ended lines ++ l) (all last.0 (none last.1) ∙ line.1 ∙ sym (append-nil (ended line.0))) ∙ sym (flat_map-append ended lines (line.0 ∷ [])))
      | inr no_more ↦ inr (rw (last.0, none last.1, no_more.0) refl, no_more.1)
    ]
  ]
    where
      all : more ≡ [] → rest ≡ [] → used ≡ text
      all f g = sym (e ∙ ap₂ (λ (x y : List ℕ). (used ++ x) ++ y) f g ∙ append-nil (used ++ []) ∙ append-nil used)

  pub broken_fed : IsSkipping → (whole : RunFault) (old mid new : S) (a b c w x y : Option (List ℕ)) (held next bytes text : List ℕ) (seen : ℕ) (counts : Counts) → Fed step old mid (flow_of a b w x) held seen counts → Consumes b c bytes
      → held ++ bytes ≡ text ++ next → IsPiece text next c → IsTextStopped step refuses whole mid new text x y → IsStopped step refuses whole old new a c w y
  broken_fed skips whole old mid new a b c w x y held next bytes text seen counts f g e piece h =
      let s = h.3 in
      let rest = left_of text h.2 (s.used ++ s.more) s.given in
      let cut = cut_lines f.lines s.used f.each in
      subst (λ (fault : RunFault). IsStopped step refuses fault old new a c w y) (sym h.1) (record {
        used = flat_map ended f.lines ++ s.used;
        more = s.more ++ (rest.0 ++ next);
        given = subst (λ (l : List ℕ). Consumes a c l) (regroup f.lines s.used s.more rest.0 rest.1) (more_given a b c (flat_map ended f.lines) held bytes f.given g);
        whole = whole_then f.lines text s.used s.more rest.0 next h.2 c piece rest.1 rest.2 s.whole;
        outcomes = f.outcomes ++ s.outcomes;
        mid = s.mid;
        run = record {
          short = subst (λ (ls : List (List ℕ)). AllByRecursion IsLine ls) (sym cut) (each_then f.lines (lines_of s.used) f.each s.run.short);
          run = subst (λ (ls : List (List ℕ)). Runs step old ls (f.outcomes ++ s.outcomes) s.mid) (sym cut) (runs_then old mid s.mid f.lines (lines_of s.used) f.outcomes s.outcomes f.run s.run.run);
        };
        end = ends_whole skips h.0 s.mid new text s.used s.more rest.0 next (flat_map ended f.lines ++ s.used) h.2 c piece rest.1 rest.2 s.end;
        text = reaches_whole h.0 w y (written (f.outcomes ++ s.outcomes)) (subst (λ (l : List ℕ). Reaches h.0 w y l) (sym (flat_map-append outcome_text f.outcomes s.outcomes)) (Reaches-then h.0 w x y (written f.outcomes) (written s.outcomes) f.text s.text));
      })
    where
      regroup : (lines : List (List ℕ)) (used more rest : List ℕ) → text ≡ (used ++ more) ++ rest → flat_map ended lines ++ (held ++ bytes) ≡ (flat_map ended lines ++ used) ++ (more ++ (rest ++ next))
      regroup lines used more rest is = rw (e, is) (simp append_assoc refl)

  -- ---- by the parts that were cut off

  pub unread_at : (fault : RunFault) (old mid : S) (a b c w x : Option (List ℕ)) (held next : List ℕ) (seen : ℕ) (counts : Counts) → Fed step old mid (flow_of a b w x) held seen counts → IsNext held next b c (Err fault) → IsStopped step refuses fault old mid a c w x
  unread_at runs.Read old mid a b c w x held next seen counts f n = unread_fed old mid a b c w x held n.0 seen counts f n.1 n.2
  unread_at runs.NoMemory old mid a b c w x held next seen counts f n = out_of_memory old mid a b c w x held n.0 seen counts f n.1
  unread_at runs.Write old mid a b c w x held next seen counts f n = absurd n.2
  unread_at runs.LongLine old mid a b c w x held next seen counts f n = absurd n.2

  -- a line with its end was cut off
  abbrev pub IsWhole : List ℕ → List ℕ → List ℕ → Option (List ℕ) → Option (List ℕ) → Type 0
  IsWhole held next text b c = (bytes : List ℕ) × Consumes b c bytes × (line : List ℕ) × IsLine line × (text ≡ ended line) × (held ++ bytes ≡ ended line ++ next)

  -- or what follows the last line end
  abbrev pub IsRest : List ℕ → List ℕ → Option (List ℕ) → Option (List ℕ) → Type 0
  IsRest held text b c = (bytes : List ℕ) × Consumes b c bytes × IsLine text × (held ++ bytes ≡ text) × IsAtEnd c

  -- a line that was cut off, by the text that is held of it
  pub whole_of : (held next text items : List ℕ) (b c : Option (List ℕ)) → text ≡ items → ((bytes : List ℕ) × Consumes b c bytes × ((line : List ℕ) × IsLine line × (items ≡ ended line) × (held ++ bytes ≡ ended line ++ next))) → IsWhole held next text b c
  whole_of held next text items b c e h = (h.0, h.1, h.2.0, h.2.1, e ∙ h.2.2, h.2.3)

  pub rest_of : (held text items : List ℕ) (b c : Option (List ℕ)) → text ≡ items → ((bytes : List ℕ) × Consumes b c bytes × (IsLine items × (held ++ bytes ≡ items) × IsAtEnd c)) → IsRest held text b c
  rest_of held text items b c e h = subst (λ (l : List ℕ). IsRest held l b c) (sym e) (h.0, h.1, h.2.0, h.2.1, h.2.2)

  as_ended : (mid new : S) (text line : List ℕ) (x y : Option (List ℕ)) (more : Counts) → text ≡ ended line → IsTextAnswered step mid new text x y more → IsTextAnswered step mid new (ended line) x y more
  as_ended mid new text line x y more e h = subst (λ (l : List ℕ). IsTextAnswered step mid new l x y more) e h

  pub line_answered : (old mid new : S) (a b c w x y : Option (List ℕ)) (held next text : List ℕ) (seen : ℕ) (counts more both : Counts) → Fed step old mid (flow_of a b w x) held seen counts → IsWhole held next text b c → IsTextAnswered step mid new text x y more
      → both.lines ≡ counts.lines + more.lines → both.refused ≡ counts.refused + more.refused → Fed step old new (flow_of a c w y) next (seen + 1) both
  line_answered old mid new a b c w x y held next text seen counts more both f n h j k = line_fed old mid new a b c w x y held next n.0 n.2 seen counts more both f n.1 n.5 n.3 (as_ended mid new text n.2 x y more n.4 h) j k

  pub line_broken : IsSkipping → (whole : RunFault) (old mid new : S) (a b c w x y : Option (List ℕ)) (held next text : List ℕ) (seen : ℕ) (counts : Counts) → Fed step old mid (flow_of a b w x) held seen counts → IsWhole held next text b c → IsTextStopped step refuses whole mid new text x y
      → IsStopped step refuses whole old new a c w y
  line_broken skips whole old mid new a b c w x y held next text seen counts f n h = broken_fed skips whole old mid new a b c w x y held next n.0 text seen counts f n.1 (n.5 ∙ ap (λ (l : List ℕ). l ++ next) (sym n.4)) (inl (n.2, n.4)) h

  pub line_sums : (old mid new : S) (f : Flow) (b c x y : Option (List ℕ)) (held next text : List ℕ) (seen : ℕ) (counts more : Counts) → Fed step old mid f held seen counts → seen ≤ 4294967296 → IsWhole held next text b c → IsTextAnswered step mid new text x y more
      → (counts.lines + more.lines < 18446744073709551616) × (counts.refused + more.refused < 18446744073709551616)
  line_sums old mid new f b c x y held next text seen counts more h few n t =
      let first = few_fed old mid f held seen counts h in
      let second = few_of_line mid new n.2 x y more n.3 (as_ended mid new text n.2 x y more n.4 t) in
      (omega (arith, few, first.0, second.0), omega (arith, few, first.1, second.1))

  pub last_answered : (old mid new : S) (a b c w x y : Option (List ℕ)) (held text : List ℕ) (seen : ℕ) (counts more both : Counts) → Fed step old mid (flow_of a b w x) held seen counts → IsRest held text b c → seen + 1 ≤ 4294967296 → IsTextAnswered step mid new text x y more
      → both.lines ≡ counts.lines + more.lines → both.refused ≡ counts.refused + more.refused → IsAnswered step old new a c w y both.lines both.refused
  last_answered old mid new a b c w x y held text seen counts more both f n few h j k = last_fed old mid new a b c w x y held n.0 text seen counts more both f n.1 n.3 n.2 n.4 few h j k

  pub last_broken : IsSkipping → (whole : RunFault) (old mid new : S) (a b c w x y : Option (List ℕ)) (held text : List ℕ) (seen : ℕ) (counts : Counts) → Fed step old mid (flow_of a b w x) held seen counts → IsRest held text b c → IsTextStopped step refuses whole mid new text x y
      → IsStopped step refuses whole old new a c w y
  last_broken skips whole old mid new a b c w x y held text seen counts f n h = broken_fed skips whole old mid new a b c w x y held [] n.0 text seen counts f n.1 (n.3 ∙ sym (append-nil text)) (inr (refl, n.4)) h

  pub last_sums : (old mid new : S) (f : Flow) (b c x y : Option (List ℕ)) (held text : List ℕ) (seen : ℕ) (counts more : Counts) → Fed step old mid f held seen counts → seen ≤ 4294967296 → IsRest held text b c → IsTextAnswered step mid new text x y more
      → (counts.lines + more.lines < 18446744073709551616) × (counts.refused + more.refused < 18446744073709551616)
  last_sums old mid new f b c x y held text seen counts more h few n t =
      let first = few_fed old mid f held seen counts h in
      let second = few_of_last mid new text x y more n.2 t in
      (omega (arith, few, first.0, second.0), omega (arith, few, first.1, second.1))
