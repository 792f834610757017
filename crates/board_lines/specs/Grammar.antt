-- What the lines of each command are, word by word.
use Rattle.std.specs.Prelude.{◌≡◌, ◌↔◌, ℕ, List, [], ◌∷◌, true, codes, Ok}
use Rattle.std.specs.List.{list_all}
use Rattle.std.specs.Str.Parse.{digits_value}
use Rattle.text_words.specs.Words.{is_number, words}
use Rattle.separation_core.specs.Names.{is_name}
use Rattle.permission_core.specs.declared.objects.Object.{Object}
use Rattle.permission_core.specs.declared.objects.Object.TheVariants as objects
use Rattle.permission_core.specs.declared.objects.ObjectRange.{ObjectRange}
use Rattle.permission_core.specs.declared.objects.ObjectRange.TheVariants as ranges
use Rattle.board_rules.specs.declared.review.Review.TheVariants as reviews
use Rattle.board_lines.specs.declared.command.Command.{Command}
use Rattle.board_lines.specs.declared.command.Command.TheVariants.{Skip, Submit, List as ListRows, Json, Audit, Check, Review}
use Rattle.board_lines.specs.declared.word.Word.TheVariants.{Ask}
use Rattle.board_lines.specs.declared.word.AskWord.TheVariants as asks
use Rattle.board_lines.specs.Table.{row_of}
use Rattle.board_lines.specs.Arguments.{Arguments, no_more, the_object, the_range, the_names, a_number, a_name, an_operation, operation_word}
use Rattle.board_lines.specs.Reading.{is_comment, read_of}
use Rattle.board_lines.specs.Saying.{Said, say, call_said}

-- the digits of a number, with or without leading zeros
pub record IsNumeral (w : List ℕ) (n : ℕ) : Type 0 where
  pub digits : is_number w ≡ true
  pub value : digits_value 10 w ≡ n

-- A
pub record IsOne (ws : List (List ℕ)) (a : ℕ) : Type 0 where
  pub word : List ℕ
  pub words : ws ≡ word ∷ []
  pub is : IsNumeral word a

-- A B
pub record IsPair (ws : List (List ℕ)) (a b : ℕ) : Type 0 where
  pub first : List ℕ
  pub last : List ℕ
  pub words : ws ≡ first ∷ last ∷ []
  pub from : IsNumeral first a
  pub to : IsNumeral last b

-- board, vehicle N or customer N
abbrev pub IsObjectText : List ℕ → List (List ℕ) → Object → Type 0
IsObjectText kind ws objects.Board = (kind ≡ codes "board") × (ws ≡ [])
IsObjectText kind ws (objects.Vehicle n) = (kind ≡ codes "vehicle") × IsOne ws n
IsObjectText kind ws (objects.Customer n) = (kind ≡ codes "customer") × IsOne ws n

-- board, vehicle A B or customer A B
abbrev pub IsRangeText : List ℕ → List (List ℕ) → ObjectRange → Type 0
IsRangeText kind ws ranges.Board = (kind ≡ codes "board") × (ws ≡ [])
IsRangeText kind ws (ranges.Vehicles first last) = (kind ≡ codes "vehicle") × IsPair ws first last
IsRangeText kind ws (ranges.Customers first last) = (kind ≡ codes "customer") × IsPair ws first last

-- the words are these arguments, in order
abbrev pub AreArguments : Arguments → List (List ℕ) → Type 0
AreArguments no_more ws = ws ≡ []
AreArguments (the_object o) [] = ⊥
AreArguments (the_object o) (kind ∷ ws) = IsObjectText kind ws o
AreArguments (the_range r) [] = ⊥
AreArguments (the_range r) (kind ∷ ws) = IsRangeText kind ws r
AreArguments (the_names ns) ws = (ws ≡ ns) × (list_all is_name ns ≡ true)
AreArguments (a_number n more) [] = ⊥
AreArguments (a_number n more) (w ∷ ws) = IsNumeral w n × AreArguments more ws
AreArguments (a_name n more) [] = ⊥
AreArguments (a_name n more) (w ∷ ws) = (w ≡ n) × (is_name n ≡ true) × AreArguments more ws
AreArguments (an_operation op more) [] = ⊥
AreArguments (an_operation op more) (w ∷ ws) = (w ≡ operation_word op) × AreArguments more ws

-- the session, the command's word and its arguments
pub record IsLine (ws : List (List ℕ)) (said : Said) : Type 0 where
  pub first : List ℕ
  pub behind : List (List ℕ)
  pub words : ws ≡ first ∷ (row_of said.word).text ∷ behind
  pub session : IsNumeral first said.session
  pub arguments : AreArguments said.arguments behind

-- no words, or a comment
abbrev pub IsSkipped : List (List ℕ) → Type 0
IsSkipped [] = Unit {0}
IsSkipped (first ∷ ws) = is_comment first ≡ true

-- the words of a line that is this command
abbrev pub IsCommandText : List (List ℕ) → Command → Type 0
IsCommandText ws Skip = IsSkipped ws
IsCommandText ws (Submit call) = IsLine ws (call_said call)
IsCommandText ws (ListRows s) = IsLine ws (say s (Ask asks.List) no_more)
IsCommandText ws (Json s) = IsLine ws (say s (Ask asks.Json) no_more)
IsCommandText ws (Audit s) = IsLine ws (say s (Ask asks.Audit) no_more)
IsCommandText ws (Check s op o) = IsLine ws (say s (Ask asks.Check) (an_operation op (the_object o)))
IsCommandText ws (Review s (reviews.Users role)) = IsLine ws (say s (Ask asks.Users) (a_name role no_more))
IsCommandText ws (Review s (reviews.Roles user)) = IsLine ws (say s (Ask asks.Roles) (a_name user no_more))
IsCommandText ws (Review s (reviews.Active n)) = IsLine ws (say s (Ask asks.Active) (a_number n no_more))

-- A line is read as a command exactly where its words are the words of that command.
abbrev pub LinesAreCommands : Type 0
LinesAreCommands = (line : List ℕ) → (command : Command) → IsCommandText (words line) command ↔ (read_of line ≡ Ok command)
