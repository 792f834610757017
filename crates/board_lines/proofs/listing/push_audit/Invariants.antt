use Rattle.std.proofs.Common.{◌≡◌, ℕ, List, ◌+◌, ◌++◌, length, string_bytes}
use Rattle.board_lines.proofs.Journals.{lines_from}
use Rattle.board_lines.proofs.listing.push_audit.Given as goal

-- with the lines of the entries that are left, the text is that of all entries
abbrev pub invariant-loop-kept : goal.invariant-loop-kept
invariant-loop-kept l = record {
  can_next : (goal.iterator-loop-kept).can_next l.kept-iterator;
  is_finite : (goal.iterator-loop-kept).is_finite l.kept-iterator;
  text : string_bytes l.out ++ lines_from (l.n + 1) l.kept-iterator ≡ string_bytes l.fn.out ++ lines_from 1 l.journal.entries;
  grew : (more : List ℕ) × (string_bytes l.out ≡ string_bytes l.fn.out ++ more);
  count : l.n + length l.kept-iterator ≡ length l.journal.entries;
}
