use Rattle.std.proofs.Common.{◌≡◌, true, map, take}
use Rattle.std.specs.List.{list_all}
use Rattle.separation_core.specs.Names.{is_name}
use Rattle.board_lines.proofs.arguments.names_argument.Given as goal

abbrev pub invariant-loop-word : goal.invariant-loop-word
invariant-loop-word l = (l.list.items ≡ take l.word-index (map (λ w. w.now) l.words)) × (list_all is_name (take l.word-index (map (λ w. w.now) l.words)) ≡ true)
