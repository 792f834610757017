-- The lines of the table.
use Rattle.std.specs.Prelude.{ℕ, ◌+◌, ◌*◌, List, map, slice_index_or, None}
use Rattle.std.specs.List.{range_with_len}
use Rattle.plan_sums.specs.declared.tour.Tour.{Tour}
use Rattle.plan_sums.specs.Places.{Places}
use Rattle.plan_marks.specs.declared.mark.Mark.{Mark}
use Rattle.plan_marks.specs.declared.mark.Mark.TheVariants as marks

abbrev pub no_tour : Tour
no_tour = record { vehicle = 0; stops = 0; hidden = 0; load = 0; start = None; back = 0; distance = 0 }

abbrev pub entry_at : Places → List Tour → ℕ → Mark
entry_at p tours k = marks.Entry (record { y = 1300 + 190 * k; tour = slice_index_or tours k no_tour; capacity = p.capacity })

abbrev pub entries_before : Places → List Tour → ℕ → List Mark
entries_before p tours n = map (entry_at p tours) (range_with_len 0 n)
