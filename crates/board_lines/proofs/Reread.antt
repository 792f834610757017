-- The text of a call is read as that call.
use Rattle.std.proofs.Common.{◌≡◌, ℕ, ◌^◌, ◌<◌, true, List, [], ◌∷◌, codes, refl}
use Rattle.std.specs.List.{AllByRecursion, list_all}
use Rattle.std.specs.Fmt.{decimal}
use Rattle.text_words.specs.Words.{words}
use Rattle.separation_core.specs.Names.{is_name}
use Rattle.permission_core.specs.declared.objects.Operation.{Operation}
use Rattle.permission_core.specs.declared.objects.Operation.TheVariants as operations
use Rattle.permission_core.specs.declared.objects.Object.{Object}
use Rattle.permission_core.specs.declared.objects.Object.TheVariants as objects
use Rattle.permission_core.specs.declared.objects.ObjectRange.{ObjectRange}
use Rattle.permission_core.specs.declared.objects.ObjectRange.TheVariants as ranges
use Rattle.board_lines.specs.declared.command.Command.TheVariants.{Submit}
use Rattle.board_lines.specs.Table.{row_of}
use Rattle.board_lines.specs.Arguments.{Arguments, no_more, the_object, the_range, the_names, a_number, a_name, an_operation, operation_word}
use Rattle.board_lines.specs.Saying.{Said, argument_words, call_said, line_text, IsObject, IsRange, ArePlain, TextIsRead}
use Rattle.board_lines.specs.Grammar.{AreArguments, IsLine}
use Rattle.board_lines.proofs.Booleans.{and_first, and_second}
use Rattle.board_lines.proofs.Spelled.{IsWord, words_behind, spelled, name_word}
use Rattle.board_lines.proofs.Shapes.{call_says}
use Rattle.board_lines.proofs.Commands.{line_is}
use Rattle.board_lines.proofs.Texts.{text_is_name}

-- the words of arguments are words, and are those arguments
record IsPlain (a : Arguments) : Type 0 where
  each : AllByRecursion IsWord (argument_words a)
  are : AreArguments a (argument_words a)

operation_is_word : (o : Operation) → IsWord (operation_word o)
operation_is_word operations.View = name_word (operation_word operations.View) refl
operation_is_word o = name_word (operation_word o) refl

board_word : IsWord (codes "board")
board_word = name_word (codes "board") refl

vehicle_word : IsWord (codes "vehicle")
vehicle_word = name_word (codes "vehicle") refl

customer_word : IsWord (codes "customer")
customer_word = name_word (codes "customer") refl

object_plain : (o : Object) → IsObject o → IsPlain (the_object o)
object_plain objects.Board h = record { each = (board_word, tt); are = (refl, refl) }
object_plain (objects.Vehicle n) h = let d = spelled n h in record { each = (vehicle_word, (d.word, tt)); are = (refl, record { word = decimal n; words = refl; is = d.numeral }) }
object_plain (objects.Customer n) h = let d = spelled n h in record { each = (customer_word, (d.word, tt)); are = (refl, record { word = decimal n; words = refl; is = d.numeral }) }

range_plain : (r : ObjectRange) → IsRange r → IsPlain (the_range r)
range_plain ranges.Board h = record { each = (board_word, tt); are = (refl, refl) }
range_plain (ranges.Vehicles a b) h =
    let d = spelled a h.0 in
    let e = spelled b h.1 in
    record { each = (vehicle_word, (d.word, (e.word, tt))); are = (refl, record { first = decimal a; last = decimal b; words = refl; from = d.numeral; to = e.numeral }) }
range_plain (ranges.Customers a b) h =
    let d = spelled a h.0 in
    let e = spelled b h.1 in
    record { each = (customer_word, (d.word, (e.word, tt))); are = (refl, record { first = decimal a; last = decimal b; words = refl; from = d.numeral; to = e.numeral }) }

names_words : (ns : List (List ℕ)) → list_all is_name ns ≡ true → AllByRecursion IsWord ns
names_words [] h = tt
names_words (n ∷ ns) h = (name_word n (and_first _ _ h), names_words ns (and_second (is_name n) (list_all is_name ns) h))

plain : (a : Arguments) → ArePlain a → IsPlain a
plain no_more h = record { each = tt; are = refl }
plain (the_object o) h = object_plain o h
plain (the_range r) h = range_plain r h
plain (the_names ns) h = record { each = names_words ns h; are = (refl, h) }
plain (a_number n more) h = let d = spelled n h.0 in let p = plain more h.1 in record { each = (d.word, p.each); are = (d.numeral, p.are) }
plain (a_name n more) h = let p = plain more h.1 in record { each = (name_word n h.0, p.each); are = (refl, h.0, p.are) }
plain (an_operation op more) h = let p = plain more h in record { each = (operation_is_word op, p.each); are = (refl, p.are) }

line_said : (said : Said) → said.session < 2 ^ 32 → ArePlain said.arguments → IsLine (words (line_text said)) said
line_said said lt h =
    let s = spelled said.session lt in
    let p = plain said.arguments h in
    record {
      first = decimal said.session;
      behind = argument_words said.arguments;
      words = words_behind (decimal said.session) ((row_of said.word).text ∷ argument_words said.arguments) s.word (name_word (row_of said.word).text (text_is_name said.word), p.each);
      session = s.numeral;
      arguments = p.are;
    }

pub text_is_read : TextIsRead
text_is_read call h = line_is (words (line_text (call_said call))) (call_said call) (Submit call) (call_says call) (line_said (call_said call) h.0 h.1)
