-- The entries that a desk gained are those of its rounds.
use Rattle.std.proofs.Common.{◌≡◌, ◌==◌, ℕ, ◌+◌, ◌≤◌, Bool, true, false, cond, List, [], ◌∷◌, ◌++◌, length, refl, ap, sym, subst, ◌∙◌, append_assoc, arith}
use Rattle.std.proofs.lemmas.List.{nil_from_length}
use Rattle.std.proofs.lemmas.List.Elements.{filter-append}
use Rattle.std.proofs.lemmas.List.Sums.{sum_by-append, sum_by-cons}
use Rattle.std.proofs.lemmas.Bool.Decides.{nat_tests}
use mathlib.Core.List.{IsPrefix}
use Rattle.board_rules.specs.declared.call.Entry.{Entry}
use Rattle.board_rules.specs.History.{turns_of}
use Rattle.search_workers.specs.Kinds.{Round, Refused, Idle, Denied, Committed, entries_of}
use Rattle.search_workers.specs.Jobs.{Job}
use Rattle.search_workers.specs.Rounds.{IsProposal, Rounds}
use Rattle.search_workers.specs.Works.{of_desk}

of_append : (d : ℕ) (xs ys : List Entry) → of_desk d (xs ++ ys) ≡ of_desk d xs ++ of_desk d ys
of_append d xs ys = filter-append (λ e. e.desk == d) xs ys

length_cons : (b : Bool) (x : Entry) (xs : List Entry) (n : ℕ) → length xs ≡ n → length (cond b (x ∷ xs) xs) ≡ cond b 1 0 + n
length_cons true x xs n is = omega arith
length_cons false x xs n is = omega arith

of_length : (d : ℕ) (xs : List Entry) → length (of_desk d xs) ≡ turns_of d xs
of_length d [] = refl
of_length d (x ∷ xs) = length_cons (x.desk == d) x (of_desk d xs) (turns_of d xs) (of_length d xs) ∙ sym (sum_by-cons (λ e. cond (e.desk == d) 1 0) x xs)

of_one : (d : ℕ) (e : Entry) → e.desk ≡ d → of_desk d (e ∷ []) ≡ e ∷ []
of_one d e is = ap (λ b. cond b (e ∷ []) []) same where
  same : (e.desk == d) ≡ true
  same = grind (arith, nat_tests)

turns_append : (d : ℕ) (xs ys : List Entry) → turns_of d (xs ++ ys) ≡ turns_of d xs + length (of_desk d ys)
turns_append d xs ys = sum_by-append _ xs ys ∙ ap (λ n. turns_of d xs + n) (sym (of_length d ys))

-- what was added to the start is the end, and has these entries of the desk, which had so many turns before
pub record IsExact (d own : ℕ) (entries start final : List Entry) : Type 0 where
  pub added : List Entry
  pub final_is : final ≡ start ++ added
  pub entries_are : of_desk d added ≡ entries
  pub turns_are : turns_of d start ≡ own

-- nothing of the desk was added before the rest
later : (d own : ℕ) (entries start mid final : List Entry) → IsPrefix start mid → own ≤ turns_of d start → IsExact d own entries mid final → IsExact d own entries start final
later d own entries start mid final on held rest =
    let grown : turns_of d mid ≡ turns_of d start + length (of_desk d on.0) = ap (turns_of d) (sym on.1) ∙ turns_append d start on.0 in
    let turns = rest.turns_are in
    let none : of_desk d on.0 ≡ [] = nil_from_length (of_desk d on.0) (omega arith) in
    record {
      added = on.0 ++ rest.added;
      final_is = rest.final_is ∙ (ap (λ xs. xs ++ rest.added) (sym on.1) ∙ append_assoc start on.0 rest.added);
      entries_are = of_append d on.0 rest.added ∙ (ap (λ xs. xs ++ of_desk d rest.added) none ∙ rest.entries_are);
      turns_are = omega arith;
    }

-- one entry of the desk was added before the rest
made : (d own : ℕ) (entries start mid final : List Entry) (part : List Entry) (e : Entry) → mid ≡ (start ++ part) ++ e ∷ [] → e.desk ≡ d → own ≤ turns_of d start → IsExact d (own + 1) entries mid final → IsExact d own (e ∷ entries) start final
made d own entries start mid final part e mid_is is held rest =
    let one : of_desk d (e ∷ []) ≡ e ∷ [] = of_one d e is in
    let one_long : length (of_desk d (e ∷ [])) ≡ 1 = ap length one in
    let front : turns_of d (start ++ part) ≡ turns_of d start + length (of_desk d part) = turns_append d start part in
    let whole : turns_of d mid ≡ turns_of d (start ++ part) + length (of_desk d (e ∷ [])) = ap (turns_of d) mid_is ∙ turns_append d (start ++ part) (e ∷ []) in
    let turns = rest.turns_are in
    let none : of_desk d part ≡ [] = nil_from_length (of_desk d part) (omega arith) in
    record {
      added = (part ++ e ∷ []) ++ rest.added;
      final_is = rest.final_is ∙ (ap (λ xs. xs ++ rest.added) (mid_is ∙ append_assoc start part (e ∷ [])) ∙ append_assoc start (part ++ e ∷ []) rest.added);
      entries_are = of_append d (part ++ e ∷ []) rest.added ∙ (ap (λ xs. xs ++ of_desk d rest.added) (of_append d part (e ∷ []) ∙ (λ i. none i ++ one i)) ∙ ap (λ xs. e ∷ xs) rest.entries_are);
      turns_are = omega arith;
    }

at_least : (d own : ℕ) (start mid : List Entry) → IsPrefix start mid → own ≤ turns_of d start → own ≤ turns_of d mid
at_least d own start mid on held =
    let grown : turns_of d mid ≡ turns_of d start + length (of_desk d on.0) = ap (turns_of d) (sym on.1) ∙ turns_append d start on.0 in
    omega arith

-- what stood between, before the entry of a proposal
part_of : (job : Job) (done : List Round) (start mid : List Entry) (e : Entry) → IsProposal job done start mid e → (part : List Entry) × (mid ≡ (start ++ part) ++ e ∷ [])
part_of job done start mid e p = (p.grows.0 ++ p.between, p.after_is ∙ ap (λ xs. xs ++ e ∷ []) (ap (λ xs. xs ++ p.between) (sym p.grows.1) ∙ append_assoc start p.grows.0 p.between))

-- the desk has one turn more, at least
one_at_least : (d own : ℕ) (start mid part : List Entry) (e : Entry) → mid ≡ (start ++ part) ++ e ∷ [] → e.desk ≡ d → own ≤ turns_of d start → own + 1 ≤ turns_of d mid
one_at_least d own start mid part e mid_is is held =
    let one_long : length (of_desk d (e ∷ [])) ≡ 1 = ap length (of_one d e is) in
    let front : turns_of d (start ++ part) ≡ turns_of d start + length (of_desk d part) = turns_append d start part in
    let whole : turns_of d mid ≡ turns_of d (start ++ part) + length (of_desk d (e ∷ [])) = ap (turns_of d) mid_is ∙ turns_append d (start ++ part) (e ∷ []) in
    omega arith

pub exact : (job : Job) (done : List Round) (own : ℕ) (each : List Round) (start seen final : List Entry) → Rounds job done each start seen → IsPrefix seen final → own ≤ turns_of job.desk start
    → turns_of job.desk final ≡ own + length (entries_of each) → IsExact job.desk own (entries_of each) start final
exact job done own [] start seen final run last held turns =
    let on : IsPrefix start final = subst (λ xs. IsPrefix xs final) (sym run) last in
    let grown : turns_of job.desk final ≡ turns_of job.desk start + length (of_desk job.desk on.0) = ap (turns_of job.desk) (sym on.1) ∙ turns_append job.desk start on.0 in
    record {
      added = on.0;
      final_is = sym on.1;
      entries_are = nil_from_length (of_desk job.desk on.0) (omega arith);
      turns_are = omega arith;
    }
exact job done own (Refused ∷ each) start seen final run last held turns =
    let rest = exact job (done ++ Refused ∷ []) own each run.0 seen final run.2 last (at_least job.desk own start run.0 run.1.grows held) turns in
    later job.desk own (entries_of each) start run.0 final run.1.grows held rest
exact job done own (Idle ∷ each) start seen final run last held turns =
    let rest = exact job (done ++ Idle ∷ []) own each run.0 seen final run.2 last (at_least job.desk own start run.0 run.1.grows held) turns in
    later job.desk own (entries_of each) start run.0 final run.1.grows held rest
exact job done own (Denied e ∷ each) start seen final run last held turns =
    let p = part_of job done start run.0 e run.1.proposal in
    let desk_is = run.1.proposal.desk_is in
    let rest = exact job (done ++ Denied e ∷ []) (own + 1) each run.0 seen final run.2 last (one_at_least job.desk own start run.0 p.0 e p.1 desk_is held) (omega arith) in
    made job.desk own (entries_of each) start run.0 final p.0 e p.1 desk_is held rest
exact job done own (Committed e ∷ each) start seen final run last held turns =
    let p = part_of job done start run.0 e run.1.proposal in
    let desk_is = run.1.proposal.desk_is in
    let rest = exact job (done ++ Committed e ∷ []) (own + 1) each run.0 seen final run.2 last (one_at_least job.desk own start run.0 p.0 e p.1 desk_is held) (omega arith) in
    made job.desk own (entries_of each) start run.0 final p.0 e p.1 desk_is held rest
