-- What the words of the command line ask for.
use Rattle.std.specs.Prelude.{ℕ, ◌≤◌, nat_le, Bool, List, Option, Some, None, is_some, option_map, option_and_then, if◌then◌else◌, Result, Ok, Err}
use Rattle.std.specs.Result.{result_ok}
use Rattle.limits.specs.declared.TheConstants.{MOST_ROUNDS, MOST_WORKERS}
use Rattle.text_words.specs.Words.{number}
use Rattle.command_line.specs.Words.{Request, RunWords, requested}
use Rattle.command_line.specs.Words as words
use Rattle.command_line.specs.declared.form.Options.{Options}
use Rattle.command_line.specs.declared.form.Options.TheVariants as options
use Rattle.command_line.specs.declared.form.NumberFault.{NumberFault}
use Rattle.command_line.specs.declared.form.NumberFault.TheVariants.{Workers, Rounds, Seed}

-- a run: its files, how many workers do how many rounds from which seed, and whether it reports how far they are, and what refusals mean
pub record Run : Type 0 where
  pub instance : List ℕ
  pub script : List ℕ
  pub workers : ℕ
  pub rounds : ℕ
  pub seed : ℕ
  pub live : Option (List ℕ)
  pub progress : Bool
  pub explain : Bool

-- what they ask for, without saying where a text lies in memory
pub data Form : Type 0 where
  joined : Form
  check : List ℕ → Form
  run : Run → Form
  draw : List ℕ → List ℕ → Form
  sums : List ℕ → List ℕ → Form

abbrev pub form : Options → Form
form options.Joined = joined
form (options.Check instance) = check instance.now
form (options.Draw instance rows) = draw instance.now rows.now
form (options.Sums instance rows) = sums instance.now rows.now
form (options.Run instance script workers rounds seed live progress explain) = run (record {
  instance = instance.now;
  script = script.now;
  workers = workers;
  rounds = rounds;
  seed = seed;
  live = option_map (λ s. s.now) live;
  progress = progress;
  explain = explain;
})

-- the same of an answer that may be a fault
abbrev pub form_in : Result Options NumberFault → Result Form NumberFault
form_in (Ok o) = Ok (form o)
form_in (Err fault) = Err fault

-- a number that is not above a limit
abbrev pub up_to : ℕ → ℕ → Option ℕ
up_to most n = if nat_le n most then Some n else None

-- the number that an option has: digits alone, up to a limit; where the option is not given, its default
abbrev pub number_or : ℕ → ℕ → Option (List ℕ) → Option ℕ
number_or most default None = Some default
number_or most default (Some text) = option_and_then (up_to most) (number text)

-- a run with these numbers
abbrev pub with_numbers : RunWords → ℕ → ℕ → ℕ → Form
with_numbers w workers rounds seed = run (record {
  instance = w.instance;
  script = w.script;
  workers = workers;
  rounds = rounds;
  seed = seed;
  live = w.live;
  progress = is_some w.progress;
  explain = is_some w.explain;
})

-- what a number leads to, and the fault of its option where it is none
abbrev pub with_number : NumberFault → Option ℕ → (ℕ → Result Form NumberFault) → Result Form NumberFault
with_number fault None next = Err fault
with_number fault (Some n) next = next n

-- a run with its numbers, or the first of its options, in this order, whose text is no number in its range
abbrev pub numbered : RunWords → Result Form NumberFault
numbered w = with_number Workers (number_or MOST_WORKERS 0 w.workers) (λ workers. with_number Rounds (number_or MOST_ROUNDS 100 w.rounds)
    (λ rounds. with_number Seed (number_or 4294967295 1 w.seed) (λ seed. Ok (with_numbers w workers rounds seed))))

abbrev pub form_of : Request → Result Form NumberFault
form_of words.joined = Ok joined
form_of (words.check instance) = Ok (check instance)
form_of (words.run w) = numbered w
form_of (words.draw instance rows) = Ok (draw instance rows)
form_of (words.sums instance rows) = Ok (sums instance rows)

-- what words ask for, or the option at fault, where they have the shape of a command
abbrev pub answer : List (List ℕ) → Option (Result Form NumberFault)
answer ws = option_map form_of (requested ws)

-- what words ask for
abbrev pub asked : List (List ℕ) → Option Form
asked ws = option_and_then result_ok (answer ws)

-- the numbers of a run are in their ranges
abbrev pub IsInRange : Options → Type 0
IsInRange (options.Run instance script workers rounds seed live progress explain) = (workers ≤ MOST_WORKERS) × (rounds ≤ MOST_ROUNDS) × (seed ≤ 4294967295)
IsInRange _ = Unit {0}
