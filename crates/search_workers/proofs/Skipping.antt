-- Moves that are skipped, as rounds are done.
use Rattle.std.proofs.Common.{◌≡◌, ◌==◌, ℕ, ◌<◌, Bool, true, false, List, [], ◌∷◌, ◌++◌, Some, None, refl, ap, sym, subst, ◌∙◌, arith, if◌then◌else◌}
use Rattle.std.proofs.lemmas.Bool.Decides.{nat_tests}
use Rattle.std.proofs.lemmas.List.{append-nil}
use Rattle.std.proofs.lemmas.List.Elements.{filter_map-append}
use Rattle.std.specs.List.{cons_option}
use Rattle.move_core.specs.declared.moves.Move.{Move}
use Rattle.board_rules.specs.declared.call.Call.TheVariants.{Propose}
use Rattle.board_rules.specs.declared.call.Entry.{Entry}
use Rattle.search_workers.specs.Kinds.{Round, Refused, Idle, Denied, Committed, entries_of}
use Rattle.search_workers.specs.Skips.{is_final, denied_by, denied_at, skip_at}
use Rattle.search_workers.specs.Steps.{AreSkipped}

-- the entries of one round more
pub entries_more : (done : List Round) (round : Round) → entries_of (done ++ round ∷ []) ≡ entries_of done ++ entries_of (round ∷ [])
entries_more [] round = refl
entries_more (Refused ∷ done) round = entries_more done round
entries_more (Idle ∷ done) round = entries_more done round
entries_more (Denied e ∷ done) round = ap (λ es. e ∷ es) (entries_more done round)
entries_more (Committed e ∷ done) round = ap (λ es. e ∷ es) (entries_more done round)

skip_more : (version : ℕ) (done : List Round) (round : Round) → skip_at version (entries_of (done ++ round ∷ [])) ≡ skip_at version (entries_of done) ++ skip_at version (entries_of (round ∷ []))
skip_more version done round = ap (skip_at version) (entries_more done round) ∙ filter_map-append (denied_at version) (entries_of done) (entries_of (round ∷ []))

-- at a later version none is skipped
pub turned_on : (done : List Round) (at version : ℕ) (moves : List Move) → at < version → AreSkipped done at moves → AreSkipped done version []
turned_on done at version moves on skipped = record {
  moves_are = sym (skipped.later version on);
  later = λ n above. skipped.later n (omega (arith, on, above));
}

-- a round that left no entry
pub skipped_none : (done : List Round) (round : Round) (at : ℕ) (moves : List Move) → entries_of (round ∷ []) ≡ [] → AreSkipped done at moves → AreSkipped (done ++ round ∷ []) at moves
skipped_none done round at moves none skipped = record {
  moves_are = skipped.moves_are ∙ same at;
  later = λ n above. sym (same n) ∙ skipped.later n above;
} where
  same : (n : ℕ) → skip_at n (entries_of done) ≡ skip_at n (entries_of (done ++ round ∷ []))
  same n = sym (skip_more n done round ∙ (ap (λ es. skip_at n (entries_of done) ++ skip_at n es) none ∙ append-nil (skip_at n (entries_of done))))

equal_self : (n : ℕ) → (n == n) ≡ true
equal_self n = grind (arith, nat_tests)

above_not : (at n : ℕ) → at < n → (at == n) ≡ false
above_not at n on = grind (arith, nat_tests)

here : (b : Bool) (mv : Move) (moves : List Move) → moves ++ cons_option (if b then Some mv else None) [] ≡ (if b then moves ++ mv ∷ [] else moves)
here true mv moves = refl
here false mv moves = append-nil moves

-- a round that left the entry of a proposal at that version
pub skipped_one : (done : List Round) (round : Round) (at session : ℕ) (moves now : List Move) (mv : Move) (e : Entry) → entries_of (round ∷ []) ≡ e ∷ [] → e.call ≡ Propose session at mv
    → now ≡ (if is_final e.reply then moves ++ mv ∷ [] else moves) → AreSkipped done at moves → AreSkipped (done ++ round ∷ []) at now
skipped_one done round at session moves now mv e one call_is now_is skipped = record {
  moves_are = now_is ∙ sym there;
  later = λ n above. more n ∙ ((λ i. skipped.later n above i ++ cons_option (not_there n above i) []));
} where
  more : (n : ℕ) → skip_at n (entries_of (done ++ round ∷ [])) ≡ skip_at n (entries_of done) ++ cons_option (denied_at n e) []
  more n = skip_more n done round ∙ ap (λ es. skip_at n (entries_of done) ++ skip_at n es) one

  by_call : (n : ℕ) → denied_at n e ≡ (if at == n then (if is_final e.reply then Some mv else None) else None)
  by_call n = ap (λ call. denied_by n call e.reply) call_is

  not_there : (n : ℕ) → at < n → denied_at n e ≡ None
  not_there n above = by_call n ∙ ap (λ b. if b then (if is_final e.reply then Some mv else None) else None) (above_not at n above)

  denied_here : denied_at at e ≡ (if is_final e.reply then Some mv else None)
  denied_here = by_call at ∙ ap (λ b. if b then (if is_final e.reply then Some mv else None) else None) (equal_self at)

  there : skip_at at (entries_of (done ++ round ∷ [])) ≡ (if is_final e.reply then moves ++ mv ∷ [] else moves)
  there = more at ∙ ((λ i. sym skipped.moves_are i ++ cons_option (denied_here i) []) ∙ here (is_final e.reply) mv moves)

pub turned_same : (done : List Round) (at version : ℕ) (moves : List Move) → version ≡ at → AreSkipped done at moves → AreSkipped done version moves
turned_same done at version moves same skipped = subst (λ n. AreSkipped done n moves) (sym same) skipped
