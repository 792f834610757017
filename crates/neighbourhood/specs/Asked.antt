-- What is asked of a search, as what is searched.
use Rattle.std.specs.Prelude.{Bool}
use Rattle.dimension_core.specs.Setup.{setting}
use Rattle.move_judge.specs.Kept.{KeptSpans}
use Rattle.best_moves.specs.Searched.{Searched}
use Rattle.neighbourhood.specs.declared.search.Asked.{Asked}

-- what is asked, searched with the dimensions or without them, and what is kept of these for each vehicle
abbrev pub searching : {i j : Type 0} {held : i → Type 0} {holds : j → Type 0} {calls : _} {asks : _} → Asked i j held holds calls asks → Bool → KeptSpans → KeptSpans → Searched
searching asked bounded v_kept w_kept = record {
  setting = setting asked.setup.now;
  view = asked.view.now;
  skip = asked.skip.now;
  bounded = bounded;
  v = asked.v;
  w = asked.w;
  v_kept = v_kept;
  w_kept = w_kept;
}
