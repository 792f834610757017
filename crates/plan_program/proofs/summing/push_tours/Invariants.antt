use Rattle.std.proofs.Common.{◌≡◌, ◌++◌, take}
use Rattle.std.specs.List.{flat_map}
use Rattle.std.specs.Prelude.{string_bytes}
use Rattle.plan_sums.specs.Texts.{tour_text}
use Rattle.plan_program.proofs.summing.push_tours.Given as goal

abbrev pub invariant-loop-tour : goal.invariant-loop-tour
invariant-loop-tour l = string_bytes l.text ≡ string_bytes l.fn.text ++ flat_map (tour_text l.capacity) (take l.tour-index l.tours)
