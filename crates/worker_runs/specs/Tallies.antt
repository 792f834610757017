-- The lines that close a run with workers.
use Rattle.std.specs.Prelude.{ℕ, ◌+◌, List, [], ◌∷◌, ◌++◌, codes}
use Rattle.std.specs.Fmt.{decimal}
use Rattle.search_workers.specs.declared.tally.Tally.{Tally}

-- `worker I tried T committed C denied D refused R`, with its line end
abbrev pub tally_text : ℕ → Tally → List ℕ
tally_text worker t = codes "worker " ++ (decimal worker ++ (codes " tried " ++ (decimal t.tried ++ (codes " committed " ++ (decimal t.committed
    ++ (codes " denied " ++ (decimal t.denied ++ (codes " refused " ++ (decimal t.refused ++ codes "\n")))))))))

-- the lines of workers, of whom the first has this number
abbrev pub tally_lines : ℕ → List Tally → List ℕ
tally_lines worker [] = []
tally_lines worker (tally ∷ tallies) = tally_text worker tally ++ tally_lines (worker + 1) tallies

-- `version V`, with its line end
abbrev pub version_line : ℕ → List ℕ
version_line version = codes "version " ++ (decimal version ++ codes "\n")

-- the lines of all workers, who are counted from 1, and that of the version
abbrev pub closing_text : List Tally → ℕ → List ℕ
closing_text tallies version = tally_lines 1 tallies ++ version_line version
