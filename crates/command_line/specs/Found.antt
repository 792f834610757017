-- The words of a run, as a parse found them.
use Rattle.std.specs.Prelude.{option_map}
use Rattle.command_line.specs.Words.{RunWords}
use Rattle.command_line.specs.declared.parse.RunFound.{RunFound}

abbrev pub run_words : RunFound → RunWords
run_words f = record {
  instance = f.instance.now;
  script = f.script.now;
  workers = option_map (λ s. s.now) f.workers;
  rounds = option_map (λ s. s.now) f.rounds;
  seed = option_map (λ s. s.now) f.seed;
  live = option_map (λ s. s.now) f.live;
  progress = option_map (λ s. s.now) f.progress;
  explain = option_map (λ s. s.now) f.explain;
}
