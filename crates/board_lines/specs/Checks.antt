-- What is checked of a line, in order, and its fault: that of the first check that fails.
use Rattle.std.specs.Prelude.{◌≡◌, ◌↔◌, ℕ, List, [], ◌∷◌, Bool, true, false, ◌||◌, codes, map, bytes_eq, Option, None, Some, Err, if◌then◌else◌}
use Rattle.std.specs.List.{list_any}
use Rattle.text_words.specs.Words.{is_number, words}
use Rattle.text_words.specs.Checks.{Check, check, IsFirstFailed}
use Rattle.separation_core.specs.Names.{is_name}
use Rattle.permission_core.specs.declared.objects.TheConstants.Operation.{ALL}
use Rattle.board_lines.specs.declared.command.LineFault.{LineFault}
use Rattle.board_lines.specs.declared.command.LineFault.TheVariants as faults
use Rattle.board_lines.specs.declared.word.Word.{Word}
use Rattle.board_lines.specs.Table.{Kinds, nothing, object, range, names, number, name, operation, row_of, word_of}
use Rattle.board_lines.specs.Arguments.{counted, operation_word}
use Rattle.board_lines.specs.Reading.{is_comment, read_of}

-- ---- arguments

abbrev pub is_operation : List ℕ → Bool
is_operation w = list_any (λ o. bytes_eq w (operation_word o)) ALL

abbrev pub is_kind : List ℕ → Bool
is_kind w = bytes_eq w (codes "board") || (bytes_eq w (codes "vehicle") || bytes_eq w (codes "customer"))

abbrev pub number_check : List ℕ → Check LineFault
number_check w = check faults.Number (is_number w)

abbrev pub name_check : List ℕ → Check LineFault
name_check w = check faults.Name (is_name w)

-- an object's kind, then its numbers
abbrev pub object_checks : List ℕ → List (List ℕ) → List (Check LineFault)
object_checks kind ws = check faults.Object (is_kind kind) ∷ map number_check ws

-- each word by its kind, from the left
abbrev pub argument_checks : Kinds → List (List ℕ) → List (Check LineFault)
argument_checks nothing ws = []
argument_checks object [] = []
argument_checks object (kind ∷ ws) = object_checks kind ws
argument_checks range [] = []
argument_checks range (kind ∷ ws) = object_checks kind ws
argument_checks names ws = map name_check ws
argument_checks (number more) [] = []
argument_checks (number more) (w ∷ ws) = number_check w ∷ argument_checks more ws
argument_checks (name more) [] = []
argument_checks (name more) (w ∷ ws) = name_check w ∷ argument_checks more ws
argument_checks (operation more) [] = []
argument_checks (operation more) (w ∷ ws) = check faults.Op (is_operation w) ∷ argument_checks more ws

-- ---- lines

-- the command's word, the count of the words after it, and those words
abbrev pub named_checks : List (List ℕ) → Option Word → List (Check LineFault)
named_checks args None = check faults.Word false ∷ []
named_checks args (Some word) =
    let kinds = (row_of word).kinds in
    check faults.Word true ∷ check faults.Count (counted kinds args) ∷ argument_checks kinds args

abbrev pub word_checks : List (List ℕ) → List (Check LineFault)
word_checks [] = check faults.Word false ∷ []
word_checks (word ∷ args) = named_checks args (word_of word)

-- a line without words and a comment are checked for nothing
abbrev pub line_checks : List (List ℕ) → List (Check LineFault)
line_checks [] = []
line_checks (first ∷ rest) = if is_comment first then [] else (number_check first ∷ word_checks rest)

-- A line is read as a fault exactly where that is the fault of the first check that fails.
abbrev pub FaultsAreFirst : Type 0
FaultsAreFirst = (line : List ℕ) → (fault : LineFault) → IsFirstFailed (line_checks (words line)) fault ↔ (read_of line ≡ Err fault)
