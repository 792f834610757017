-- A line is read as a command exactly where its words are the words of that command.
use Rattle.std.proofs.Common.{◌≡◌, ℕ, Bool, true, false, cond, List, [], ◌∷◌, length, codes, Option, None, Some, Result, Ok, Err, refl, ap, subst, ◌∙◌, ◌⊎◌, inl, inr, arith}
use Rattle.std.specs.Prelude.{◌==◌, bytes_eq}
use Rattle.std.specs.List.{list_all}
use Rattle.std.specs.Map.{lookup}
use Rattle.std.specs.Str.Parse.{digits_value}
use Rattle.std.proofs.lemmas.Slice.Eq.{bytes_eq-Decides}
use Rattle.std.proofs.lemmas.Bool.Decides.{nat_tests}
use Rattle.text_words.specs.Words.{is_number, words}
use Rattle.separation_core.specs.Names.{is_name}
use Rattle.permission_core.specs.declared.objects.Operation.{Operation}
use Rattle.permission_core.specs.declared.objects.Operation.TheVariants as operations
use Rattle.permission_core.specs.declared.objects.TheConstants.Operation.{ALL}
use Rattle.permission_core.specs.declared.objects.Object.{Object}
use Rattle.permission_core.specs.declared.objects.Object.TheVariants as objects
use Rattle.permission_core.specs.declared.objects.ObjectRange.{ObjectRange}
use Rattle.permission_core.specs.declared.objects.ObjectRange.TheVariants as ranges
use Rattle.board_rules.specs.declared.review.Review.TheVariants as reviews
use Rattle.board_lines.specs.declared.command.Command.{Command}
use Rattle.board_lines.specs.declared.command.Command.TheVariants.{Skip, Submit, List as ListRows, Json, Audit, Check, Review}
use Rattle.board_lines.specs.declared.command.LineFault.{LineFault}
use Rattle.board_lines.specs.declared.command.LineFault.TheVariants as faults
use Rattle.board_lines.specs.declared.word.Word.{Word}
use Rattle.board_lines.specs.Table.{Kinds, nothing, object, range, names, number, name, operation, row_of, word_of, table}
use Rattle.board_lines.specs.Arguments.{Arguments, no_more, the_object, the_range, the_names, a_number, a_name, an_operation, ◌>>=◌, number_arg, name_arg, operation_word, operation_among, operation_arg, one_arg, pair_arg, object_arg, range_arg, is_counted, counted, each_read, number_then, arguments_of}
use Rattle.board_lines.specs.Reading.{command_of, after_word, named_by, after_session, is_comment, words_read}
use Rattle.board_lines.specs.Saying.{Said, say}
use Rattle.board_lines.specs.Grammar.{IsNumeral, IsOne, IsPair, IsObjectText, IsRangeText, AreArguments, IsLine, IsCommandText, LinesAreCommands}
use Rattle.board_lines.proofs.Booleans.{and_first, and_second}
use Rattle.board_lines.proofs.Spelled.{digits_no_comment}
use Rattle.board_lines.proofs.Shapes.{kinds_of, named_so, Says, call_says, list_says, json_says, audit_says, check_says, users_says, roles_says, active_says, command_text}

-- ---- what was read without a fault

bind_ok : {A B : Type 0} (r : Result A LineFault) (f : A → Result B LineFault) (y : B) → (r >>= f) ≡ Ok y → (x : A) × (r ≡ Ok x) × (f x ≡ Ok y)
bind_ok (Ok x) f y h = (x, refl, h)
bind_ok (Err e) f y h = absurd (cc)

if_ok : {A : Type 0} (b : Bool) (r s : Result A LineFault) (y : A) → cond b r s ≡ Ok y → ((b ≡ true) × (r ≡ Ok y)) ⊎ ((b ≡ false) × (s ≡ Ok y))
if_ok true r s y h = inl (refl, h)
if_ok false r s y h = inr (refl, h)

only_if_ok : {A : Type 0} (b : Bool) (r : Result A LineFault) (e : LineFault) (y : A) → cond b r (Err e) ≡ Ok y → (b ≡ true) × (r ≡ Ok y)
only_if_ok true r e y h = (refl, h)
only_if_ok false r e y h = absurd (cc)

abbrev good : {A : Type 0} → A → Result A LineFault
good x = Ok x

ok_same : {A : Type 0} (x y : A) → good x ≡ Ok y → x ≡ y
ok_same x y h = cc

same_bytes : (w text : List ℕ) → bytes_eq w text ≡ true → w ≡ text
same_bytes w text h = (bytes_eq-Decides w text).0 h

-- ---- one word

number_ok : (w : List ℕ) (n : ℕ) → number_arg w ≡ Ok n → IsNumeral w n
number_ok w n h = let p = only_if_ok (is_number w) (Ok (digits_value 10 w)) faults.Number n h in record { digits = p.0; value = ok_same _ _ p.1 }

number_is : (w : List ℕ) (n : ℕ) → IsNumeral w n → number_arg w ≡ Ok n
number_is w n h = rw (h.digits, h.value) refl

name_ok : (w n : List ℕ) → name_arg w ≡ Ok n → (w ≡ n) × (is_name n ≡ true)
name_ok w n h =
    let p = only_if_ok (is_name w) (Ok w) faults.Name n h in
    let e : w ≡ n = ok_same _ _ p.1 in
    (e, subst (λ (x : List ℕ). is_name x ≡ true) e p.0)

name_is : (w n : List ℕ) → w ≡ n → is_name n ≡ true → name_arg w ≡ Ok n
name_is w n e h = rw (e, h) refl

operation_ok : (os : List Operation) (w : List ℕ) (o : Operation) → operation_among os w ≡ Ok o → w ≡ operation_word o
operation_ok [] w o h = absurd (cc)
operation_ok (x ∷ os) w o h = elim (if_ok (bytes_eq w (operation_word x)) (Ok x) (operation_among os w) o h) [
  | inl p ↦ same_bytes w (operation_word x) p.0 ∙ ap operation_word (ok_same x o p.1)
  | inr q ↦ operation_ok os w o q.1
]

-- Naming one operation makes the next line a case for each of the others.
operation_read : (o : Operation) → operation_arg (operation_word o) ≡ Ok o
operation_read operations.View = refl
operation_read _ = refl

-- ---- the last words

one_ok : (ws : List (List ℕ)) (n : ℕ) → one_arg ws ≡ Ok n → IsOne ws n
one_ok [] n h = absurd (cc)
one_ok (w ∷ []) n h = record { word = w; words = refl; is = number_ok w n h }
one_ok (w ∷ v ∷ ws) n h = absurd (cc)

one_is : (ws : List (List ℕ)) (n : ℕ) → IsOne ws n → one_arg ws ≡ Ok n
one_is ws n h = rw (h.words, number_is h.word n h.is) refl

pair_ok : (ws : List (List ℕ)) (p : ℕ × ℕ) → pair_arg ws ≡ Ok p → IsPair ws p.0 p.1
pair_ok [] p h = absurd (cc)
pair_ok (x ∷ []) p h = absurd (cc)
pair_ok (x ∷ y ∷ []) p h =
    let a = bind_ok (number_arg x) _ p h in
    let b = bind_ok (number_arg y) _ p a.2 in
    let e = ok_same (a.0, b.0) p b.2 in
    subst (λ (q : ℕ × ℕ). IsPair (x ∷ y ∷ []) q.0 q.1) e (record { first = x; last = y; words = refl; from = number_ok x a.0 a.1; to = number_ok y b.0 b.1 })
pair_ok (x ∷ y ∷ z ∷ ws) p h = absurd (cc)

pair_is : (ws : List (List ℕ)) (a b : ℕ) → IsPair ws a b → pair_arg ws ≡ Ok (a, b)
pair_is ws a b h = rw (h.words, number_is h.first a h.from, number_is h.last b h.to) refl

none : (ws : List (List ℕ)) → (length ws == 0) ≡ true → ws ≡ []
none [] h = refl
none (w ∷ ws) h = let e : length (w ∷ ws) ≡ 0 = grind (arith, nat_tests) in absurd (omega (arith, e))

object_ok : (kind : List ℕ) (ws : List (List ℕ)) (o : Object) → is_counted 1 kind ws ≡ true → object_arg kind ws ≡ Ok o → IsObjectText kind ws o
object_ok kind ws o counted h =
    elim (if_ok (bytes_eq kind (codes "board")) _ _ o h) [
      | inl p ↦ subst (λ (r : Object). IsObjectText kind ws r) (ok_same objects.Board o p.1) (same_bytes kind _ p.0, none ws (rw p.0 at counted))
      | inr q ↦
          elim (if_ok (bytes_eq kind (codes "vehicle")) _ _ o q.1) [
            | inl p ↦ let a = bind_ok (one_arg ws) _ o p.1 in subst (λ (r : Object). IsObjectText kind ws r) (ok_same (objects.Vehicle a.0) o a.2) (same_bytes kind _ p.0, one_ok ws a.0 a.1)
            | inr q ↦
                let p = only_if_ok (bytes_eq kind (codes "customer")) _ faults.Object o q.1 in
                let a = bind_ok (one_arg ws) _ o p.1 in
                subst (λ (r : Object). IsObjectText kind ws r) (ok_same (objects.Customer a.0) o a.2) (same_bytes kind _ p.0, one_ok ws a.0 a.1)
          ]
    ]

range_ok : (kind : List ℕ) (ws : List (List ℕ)) (over : ObjectRange) → is_counted 2 kind ws ≡ true → range_arg kind ws ≡ Ok over → IsRangeText kind ws over
range_ok kind ws over counted h =
    elim (if_ok (bytes_eq kind (codes "board")) _ _ over h) [
      | inl p ↦ subst (λ (r : ObjectRange). IsRangeText kind ws r) (ok_same ranges.Board over p.1) (same_bytes kind _ p.0, none ws (rw p.0 at counted))
      | inr q ↦
          elim (if_ok (bytes_eq kind (codes "vehicle")) _ _ over q.1) [
            | inl p ↦ let a = bind_ok (pair_arg ws) _ over p.1 in subst (λ (r : ObjectRange). IsRangeText kind ws r) (ok_same (ranges.Vehicles a.0.0 a.0.1) over a.2) (same_bytes kind _ p.0, pair_ok ws a.0 a.1)
            | inr q ↦
                let p = only_if_ok (bytes_eq kind (codes "customer")) _ faults.Object over q.1 in
                let a = bind_ok (pair_arg ws) _ over p.1 in
                subst (λ (r : ObjectRange). IsRangeText kind ws r) (ok_same (ranges.Customers a.0.0 a.0.1) over a.2) (same_bytes kind _ p.0, pair_ok ws a.0 a.1)
          ]
    ]

object_is : (kind : List ℕ) (ws : List (List ℕ)) (o : Object) → IsObjectText kind ws o → (is_counted 1 kind ws ≡ true) × (object_arg kind ws ≡ Ok o)
object_is kind ws objects.Board h = (rw (h.0, h.1) refl, rw h.0 refl)
object_is kind ws (objects.Vehicle n) h = (rw (h.0, h.1.words) refl, rw (h.0, one_is ws n h.1) refl)
object_is kind ws (objects.Customer n) h = (rw (h.0, h.1.words) refl, rw (h.0, one_is ws n h.1) refl)

range_is : (kind : List ℕ) (ws : List (List ℕ)) (over : ObjectRange) → IsRangeText kind ws over → (is_counted 2 kind ws ≡ true) × (range_arg kind ws ≡ Ok over)
range_is kind ws ranges.Board h = (rw (h.0, h.1) refl, rw h.0 refl)
range_is kind ws (ranges.Vehicles a b) h = (rw (h.0, h.1.words) refl, rw (h.0, pair_is ws a b h.1) refl)
range_is kind ws (ranges.Customers a b) h = (rw (h.0, h.1.words) refl, rw (h.0, pair_is ws a b h.1) refl)

-- ---- all arguments

-- the words are these arguments, which have the kinds that were asked for
record IsRead (k : Kinds) (ws : List (List ℕ)) (a : Arguments) : Type 0 where
  are : AreArguments a ws
  kinds : kinds_of a ≡ k

is_read : (k : Kinds) (ws : List (List ℕ)) (made a : Arguments) → good made ≡ Ok a → AreArguments made ws → kinds_of made ≡ k → IsRead k ws a
is_read k ws made a h are kinds = subst (λ (x : Arguments). IsRead k ws x) (ok_same made a h) (record { are = are; kinds = kinds })

each_ok : (k : Kinds) (ws : List (List ℕ)) (a : Arguments) → counted k ws ≡ true → each_read k ws ≡ Ok a → IsRead k ws a
unfolding number_then
each_ok nothing [] a c h = is_read nothing [] no_more a h refl refl
each_ok nothing (w ∷ ws) a c h = absurd (cc)
each_ok object [] a c h = absurd (cc)
each_ok object (kind ∷ ws) a c h = let o = bind_ok (object_arg kind ws) _ a h in is_read object (kind ∷ ws) (the_object o.0) a o.2 (object_ok kind ws o.0 c o.1) refl
each_ok range [] a c h = absurd (cc)
each_ok range (kind ∷ ws) a c h = let r = bind_ok (range_arg kind ws) _ a h in is_read range (kind ∷ ws) (the_range r.0) a r.2 (range_ok kind ws r.0 c r.1) refl
each_ok names ws a c h =
    let ns = bind_ok (cond (list_all is_name ws) (good ws) (Err faults.Name)) _ a h in
    let p = only_if_ok (list_all is_name ws) (Ok ws) faults.Name ns.0 ns.1 in
    let e : ws ≡ ns.0 = ok_same _ _ p.1 in
    is_read names ws (the_names ns.0) a ns.2 (e, subst (λ (x : List (List ℕ)). list_all is_name x ≡ true) e p.0) refl
each_ok (number more) [] a c h = absurd (cc)
each_ok (number more) (w ∷ ws) a c h =
    let n = bind_ok (number_arg w) _ a h in
    let m = bind_ok (each_read more ws) _ a n.2 in
    let rest = each_ok more ws m.0 c m.1 in
    is_read (number more) (w ∷ ws) (a_number n.0 m.0) a m.2 (number_ok w n.0 n.1, rest.are) (ap number rest.kinds)
each_ok (name more) [] a c h = absurd (cc)
each_ok (name more) (w ∷ ws) a c h =
    let n = bind_ok (name_arg w) _ a h in
    let m = bind_ok (each_read more ws) _ a n.2 in
    let rest = each_ok more ws m.0 c m.1 in
    let p = name_ok w n.0 n.1 in
    is_read (name more) (w ∷ ws) (a_name n.0 m.0) a m.2 (p.0, p.1, rest.are) (ap name rest.kinds)
each_ok (operation more) [] a c h = absurd (cc)
each_ok (operation more) (w ∷ ws) a c h =
    let o = bind_ok (operation_arg w) _ a h in
    let m = bind_ok (each_read more ws) _ a o.2 in
    let rest = each_ok more ws m.0 c m.1 in
    is_read (operation more) (w ∷ ws) (an_operation o.0 m.0) a m.2 (operation_ok ALL w o.0 o.1, rest.are) (ap operation rest.kinds)

each_is : (a : Arguments) (ws : List (List ℕ)) → AreArguments a ws → (counted (kinds_of a) ws ≡ true) × (each_read (kinds_of a) ws ≡ Ok a)
unfolding number_then
each_is no_more ws h = (rw h refl, rw h refl)
each_is (the_object o) [] h = absurd h
each_is (the_object o) (kind ∷ ws) h = let p = object_is kind ws o h in (p.0, rw p.1 refl)
each_is (the_range r) [] h = absurd h
each_is (the_range r) (kind ∷ ws) h = let p = range_is kind ws r h in (p.0, rw p.1 refl)
each_is (the_names ns) ws h = (refl, rw (h.0, h.1) refl)
each_is (a_number n more) [] h = absurd h
each_is (a_number n more) (w ∷ ws) h = let p = each_is more ws h.1 in (p.0, rw (number_is w n h.0, p.1) refl)
each_is (a_name n more) [] h = absurd h
each_is (a_name n more) (w ∷ ws) h = let p = each_is more ws h.2 in (p.0, rw (name_is w n h.0 h.1, p.1) refl)
each_is (an_operation op more) [] h = absurd h
each_is (an_operation op more) (w ∷ ws) h = let p = each_is more ws h.1 in (p.0, rw (h.0, operation_read op, p.1) refl)

-- ---- lines

-- the word of the line is that of the command
text_is : (w : List ℕ) (t : List (List ℕ × Word)) (word : Word) → list_all (λ e. bytes_eq e.0 (row_of e.1).text) t ≡ true → lookup (bytes_eq w) t ≡ Some word → w ≡ (row_of word).text
text_is w [] word all h = absurd (cc)
text_is w (e ∷ t) word all h = by_word (bytes_eq w e.0) refl h (λ g. text_is w t word (and_second (bytes_eq e.0 (row_of e.1).text) (list_all (λ x. bytes_eq x.0 (row_of x.1).text) t) all) g)
  where
    some_same : (x y : Word) → ◌≡◌ {A = Option Word} (Some x) (Some y) → x ≡ y
    some_same x y s = cc

    by_word : (b : Bool) → bytes_eq w e.0 ≡ b → cond b (Some e.1) (lookup (bytes_eq w) t) ≡ Some word → (lookup (bytes_eq w) t ≡ Some word → w ≡ (row_of word).text) → w ≡ (row_of word).text
    by_word true f g again = same_bytes w e.0 f ∙ same_bytes e.0 (row_of e.1).text (and_first _ _ all) ∙ ap (λ (x : Word). (row_of x).text) (some_same e.1 word g)
    by_word false f g again = again g

named_ok : (first w : List ℕ) (s : ℕ) (args : List (List ℕ)) (word : Option Word) (command : Command) → IsNumeral first s → word_of w ≡ word → named_by s args word ≡ Ok command → IsCommandText (first ∷ w ∷ args) command
unfolding word_of arguments_of
named_ok first w s args None command n e h = absurd (cc)
named_ok first w s args (Some word) command n e h =
    let a = bind_ok (arguments_of (row_of word).kinds args) _ command h in
    let p = only_if_ok (counted (row_of word).kinds args) (each_read (row_of word).kinds args) faults.Count a.0 a.1 in
    let read = each_ok (row_of word).kinds args a.0 p.0 p.1 in
    let line : IsLine (first ∷ w ∷ args) (say s word a.0) = record { first = first; behind = args; words = ap (λ (x : List ℕ). first ∷ x ∷ args) (text_is w table word refl e); session = n; arguments = read.are } in
    subst (λ (c : Command). IsCommandText (first ∷ w ∷ args) c) (ok_same _ command a.2) (command_text s word a.0 (first ∷ w ∷ args) read.kinds line)

session_ok : (first : List ℕ) (s : ℕ) (rest : List (List ℕ)) (command : Command) → IsNumeral first s → after_session s rest ≡ Ok command → IsCommandText (first ∷ rest) command
session_ok first s [] command n h = absurd (cc)
session_ok first s (w ∷ args) command n h = named_ok first w s args (word_of w) command n refl h

read_ok : (ws : List (List ℕ)) (command : Command) → words_read ws ≡ Ok command → IsCommandText ws command
unfolding words_read
read_ok [] command h = subst (λ (c : Command). IsCommandText [] c) (ok_same Skip command h) tt
read_ok (first ∷ rest) command h =
    elim (if_ok (is_comment first) _ _ command h) [
      | inl p ↦ subst (λ (c : Command). IsCommandText (first ∷ rest) c) (ok_same Skip command p.1) p.0
      | inr q ↦ let s = bind_ok (number_arg first) _ command q.1 in session_ok first s.0 rest command (number_ok first s.0 s.1) s.2
    ]

after_first : (w : List ℕ) (s : ℕ) (rest : List (List ℕ)) → is_comment w ≡ false → number_arg w ≡ Ok s → words_read (w ∷ rest) ≡ after_session s rest
unfolding words_read
after_first w s rest e f = rw (e, f) refl

word_is : (s : ℕ) (word : Word) (args : List (List ℕ)) (a : Arguments) → (row_of word).kinds ≡ kinds_of a → AreArguments a args → after_word s word args ≡ Ok (command_of s word a)
unfolding arguments_of
word_is s word args a kinds are = let p = each_is a args are in rw (kinds, p.0, p.1) refl

pub line_is : (ws : List (List ℕ)) (said : Said) (command : Command) → Says said command → IsLine ws said → words_read ws ≡ Ok command
line_is ws said command says h =
    ap words_read h.words
    ∙ after_first h.first said.session ((row_of said.word).text ∷ h.behind) (digits_no_comment h.first h.session.digits) (number_is h.first said.session h.session)
    ∙ ap (named_by said.session h.behind) (named_so said.word)
    ∙ word_is said.session said.word h.behind said.arguments says.kinds h.arguments
    ∙ ap good says.made

read_is : (ws : List (List ℕ)) (command : Command) → IsCommandText ws command → words_read ws ≡ Ok command
unfolding words_read
read_is [] Skip h = refl
read_is (first ∷ rest) Skip h = rw h refl
read_is ws (Submit call) h = line_is ws _ (Submit call) (call_says call) h
read_is ws (ListRows s) h = line_is ws _ (ListRows s) (list_says s) h
read_is ws (Json s) h = line_is ws _ (Json s) (json_says s) h
read_is ws (Audit s) h = line_is ws _ (Audit s) (audit_says s) h
read_is ws (Check s op o) h = line_is ws _ (Check s op o) (check_says s op o) h
read_is ws (Review s (reviews.Users role)) h = line_is ws _ (Review s (reviews.Users role)) (users_says s role) h
read_is ws (Review s (reviews.Roles user)) h = line_is ws _ (Review s (reviews.Roles user)) (roles_says s user) h
read_is ws (Review s (reviews.Active n)) h = line_is ws _ (Review s (reviews.Active n)) (active_says s n) h

pub lines_are_commands : LinesAreCommands
lines_are_commands line command = (read_is (words line) command, read_ok (words line) command)
