-- Rows are read one after the other.
use Rattle.std.proofs.Common.{◌≡◌, ℕ, ◌+◌, List, [], ◌∷◌, ◌++◌, take, Result, Ok, sym, subst, ◌∙◌, append_assoc}
use Rattle.text_words.specs.Words.{words}
use Rattle.solomon_reader.specs.Cuts.{Numbered, numbered}
use Rattle.solomon_reader.specs.declared.fault.ReadFault.{ReadFault}
use Rattle.solomon_reader.specs.declared.instance.Node.{Node}
use Rattle.solomon_reader.specs.Checks.{Fault, checked, row_checks, rows_checks}
use Rattle.solomon_reader.specs.Reading.{Fails, node_of, nodes_of_rows}
use Rattle.solomon_reader.specs.Parts.{row_of}
use Rattle.solomon_reader.proofs.Checking.{checked_more, checked_value, Fails_on}
use Rattle.solomon_reader.proofs.Parts.{row_checked, row_few}

pub row_more : (missing missing' count count' n : ℕ) (text : List ℕ) (given item : List (List ℕ)) (full more : List Numbered) (node : Node) (all : List Node) (whole : Result (List Node) Fault) → full ≡ numbered n text ∷ more → item ≡ take 8 (words text) → given ≡ item → missing' ≡ missing → count' ≡ count + 1 → row_of count n given ≡ Ok node → checked (rows_checks missing count full) all ≡ whole → checked (rows_checks missing' count' more) all ≡ whole
row_more missing missing' count count' n text given item full more node all whole f w g m j e h =
    let e' : checked (row_checks count n (words text)) (node_of (words text)) ≡ Ok node = sym (row_few count n (words text) ∙ row_checked count n (words text)) ∙ (rw (← w, ← g) e) in
    let h' : checked (rows_checks missing count (numbered n text ∷ more)) all ≡ whole = subst (λ (l : List Numbered). checked (rows_checks missing count l) all ≡ whole) f h in
    rw (m, j) (sym (checked_more (row_checks count n (words text)) (rows_checks missing (count + 1) more) (node_of (words text)) node all e') ∙ h')

pub nodes_more : (count n : ℕ) (text : List ℕ) (given item : List (List ℕ)) (full more : List Numbered) (node : Node) (front after all : List Node) → full ≡ numbered n text ∷ more → item ≡ take 8 (words text) → given ≡ item → row_of count n given ≡ Ok node → after ≡ front ++ node ∷ [] → front ++ nodes_of_rows full ≡ all → after ++ nodes_of_rows more ≡ all
nodes_more count n text given item full more node front after all f w g e k h =
    let e' : checked (row_checks count n (words text)) (node_of (words text)) ≡ Ok node = sym (row_few count n (words text) ∙ row_checked count n (words text)) ∙ (rw (← w, ← g) e) in
    let same : node_of (words text) ≡ node = checked_value (row_checks count n (words text)) (node_of (words text)) node e' in
    let h' : front ++ (node_of (words text) ∷ nodes_of_rows more) ≡ all = subst (λ (l : List Numbered). front ++ nodes_of_rows l ≡ all) f h in
    rw (k, append_assoc front (node ∷ []) (nodes_of_rows more), ← same) h'

pub row_fails : (missing count n : ℕ) (text : List ℕ) (given item : List (List ℕ)) (full more : List Numbered) (bad : ReadFault) (all : List Node) (whole : Result (List Node) Fault) → full ≡ numbered n text ∷ more → item ≡ take 8 (words text) → given ≡ item → Fails bad (row_of count n given) → checked (rows_checks missing count full) all ≡ whole → Fails bad whole
row_fails missing count n text given item full more bad all whole f w g e h =
    let e' = rw (g, w, row_few count n (words text), row_checked count n (words text)) at e in
    let h' : checked (rows_checks missing count (numbered n text ∷ more)) all ≡ whole = subst (λ (l : List Numbered). checked (rows_checks missing count l) all ≡ whole) f h in
    rw (← h') (Fails_on bad (row_checks count n (words text)) (rows_checks missing (count + 1) more) (node_of (words text)) all e')
