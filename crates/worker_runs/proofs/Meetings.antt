-- Desks that meet: between two looks of a desk with the same turns there is no turn of it.
use Rattle.std.proofs.Common.{◌≡◌, ◌∙◌, ◌≤◌, ◌+◌, ℕ, List, [], ◌∷◌, ◌++◌, All, arith, ap, sym, subst}
use Rattle.std.proofs.lemmas.List.Elements.{All-cons, All-head, All-nil, All-push, All-tail}
use mathlib.Core.List.{IsPrefix}
use Rattle.board_rules.specs.declared.call.Entry.{Entry}
use Rattle.board_rules.specs.History.{Opening, turns_of}
use Rattle.board_lock.specs.Watches.{Watch}
use Rattle.board_lock.specs.Commits.{Legal}
use Rattle.worker_runs.specs.Closings.{IsVersionOf}
use Rattle.worker_runs.specs.Halls.{AreMet}
use Rattle.worker_runs.proofs.Prefixes.{prefix_trans}

-- how turns add up
abbrev Turns : Type 0
Turns = (desk : ℕ) (es more : List Entry) → turns_of desk (es ++ more) ≡ turns_of desk es + turns_of desk more

turns_grow : Turns → (desk : ℕ) (es after : List Entry) → IsPrefix es after → turns_of desk es ≤ turns_of desk after
turns_grow add desk es after p =
    let more = add desk es p.0 in
    subst (λ (xs : List Entry). turns_of desk es ≤ turns_of desk xs) p.1 (omega (arith, more))

-- a desk that had its turns before, and has no more behind, has as many between
pub turns_between : Turns → (desk own : ℕ) (first mid last : List Entry) → IsPrefix first mid → IsPrefix mid last → own ≤ turns_of desk first → turns_of desk last ≡ own
    → turns_of desk mid ≡ own
turns_between add desk own first mid last p q low high =
    let below = turns_grow add desk first mid p in
    let above = turns_grow add desk mid last q in
    omega (arith, below, above, low, high)

abbrev IsIn : List Entry → Watch → Type 0
IsIn es w = IsPrefix w.seen es

abbrev HasTurns : List Entry → Watch → Type 0
HasTurns es w = turns_of w.number es ≡ w.own

pub one_met : (o : Opening) (w : Watch) (es : List Entry) → Legal o es → IsPrefix w.seen es → turns_of w.number es ≡ w.own → AreMet o (w ∷ []) es
one_met o w es legal p n = record { legal = legal; each = All-cons (IsIn es) w [] p (All-nil (IsIn es)); turns = All-cons (HasTurns es) w [] n (All-nil (HasTurns es)) }

-- one more met the first of them before
pub more_met : (o : Opening) (w mid last : Watch) (rest others : List Watch) (es : List Entry) → AreMet o (mid ∷ rest) es → IsPrefix w.seen mid.seen → mid.number ≡ w.number → mid.own ≡ w.own
    → others ≡ rest ++ last ∷ [] → IsPrefix last.seen mid.seen → turns_of last.number es ≡ last.own → AreMet o (w ∷ others) es
more_met o w mid last rest others es m p number own all q n =
    let first : IsPrefix mid.seen es = All-head (IsIn es) mid rest m.each in
    let turns : turns_of mid.number es ≡ mid.own = All-head (HasTurns es) mid rest m.turns in
    record {
      legal = m.legal;
      each = All-cons (IsIn es) w others (prefix_trans w.seen mid.seen es p first)
          (subst (All (IsIn es)) (sym all) (All-push (IsIn es) rest last (All-tail (IsIn es) mid rest m.each) (prefix_trans last.seen mid.seen es q first)));
      turns = All-cons (HasTurns es) w others (ap (λ (d : ℕ). turns_of d es) (sym number) ∙ (turns ∙ own))
          (subst (All (HasTurns es)) (sym all) (All-push (HasTurns es) rest last (All-tail (HasTurns es) mid rest m.turns) n));
    }

-- what a desk that met another one had, by what the other one has seen
pub turns_at : (number own : ℕ) (seen : List Entry) (desk turns : ℕ) (other : List Entry) → desk ≡ number → turns ≡ own → seen ≡ other → turns_of desk other ≡ turns → turns_of number seen ≡ own
turns_at number own seen desk turns other d t e h = ap (λ (k : ℕ). turns_of k seen) (sym d) ∙ (ap (turns_of desk) e ∙ (h ∙ t))

-- one more met the first of them before the version was read, and once more behind it
pub version_more : Turns → (o : Opening) (w mid last : Watch) (rest others : List Watch) (seen after : List Entry) (version : ℕ) → IsVersionOf o (mid ∷ rest) seen version → IsPrefix w.seen mid.seen → mid.number ≡ w.number → mid.own ≡ w.own
    → others ≡ rest ++ last ∷ [] → IsPrefix last.seen mid.seen → turns_of last.number mid.seen ≡ last.own → IsPrefix seen after → turns_of last.number after ≡ last.own → IsVersionOf o (w ∷ others) after version
version_more add o w mid last rest others seen after version m p number own all q before on behind =
    let within = prefix_trans m.entries seen after m.within on in
    let turns = turns_between add last.number last.own mid.seen m.entries after (All-head (IsIn m.entries) mid rest m.met.each) within (omega (arith, before)) behind in
    record { entries = m.entries; met = more_met o w mid last rest others m.entries m.met p number own all q turns; within = within; version_is = m.version_is }
