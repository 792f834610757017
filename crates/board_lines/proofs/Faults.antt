-- A line's fault is that of the first check that fails.
use Rattle.std.proofs.Common.{◌≡◌, ℕ, Bool, true, false, cond, List, [], ◌∷◌, length, map, codes, Option, None, Some, Result, Ok, Err, refl, sym, ap, ◌∙◌, arith}
use Rattle.std.specs.Prelude.{◌==◌, ◌||◌, ◌&&◌, bytes_eq}
use Rattle.std.specs.List.{list_all, list_any}
use Rattle.std.specs.Str.Parse.{digits_value}
use Rattle.std.proofs.lemmas.Bool.Decides.{nat_tests}
use Rattle.text_words.specs.Words.{is_number, words}
use Rattle.text_words.specs.Checks.{Check, check, first_fault}
use Rattle.text_words.specs.CheckLaws.{first_is, is_first}
use Rattle.separation_core.specs.Names.{is_name}
use Rattle.permission_core.specs.declared.objects.Operation.{Operation}
use Rattle.permission_core.specs.declared.objects.TheConstants.Operation.{ALL}
use Rattle.board_lines.specs.declared.command.LineFault.{LineFault}
use Rattle.board_lines.specs.declared.command.LineFault.TheVariants as faults
use Rattle.board_lines.specs.declared.command.Command.TheVariants.{Skip}
use Rattle.board_lines.specs.declared.word.Word.{Word}
use Rattle.board_lines.specs.Table.{Kinds, nothing, object, range, names, number, name, operation, row_of, word_of}
use Rattle.board_lines.specs.Arguments.{a_number, a_name, an_operation, ◌>>=◌, number_arg, name_arg, operation_word, operation_among, operation_arg, one_arg, pair_arg, number_then, counted, is_counted, each_read, arguments_of}
use Rattle.board_lines.specs.Reading.{command_of, named_by, after_session, is_comment, words_read}
use Rattle.board_lines.specs.Checks.{is_operation, number_check, name_check, object_checks, argument_checks, named_checks, word_checks, line_checks, FaultsAreFirst}

-- ---- what failed, and the first check that fails

abbrev verdict : {A : Type 0} → Result A LineFault → Option LineFault
verdict (Ok x) = None
verdict (Err e) = Some e

abbrev or_else : Option LineFault → Option LineFault → Option LineFault
or_else None v = v
or_else (Some e) v = Some e

none_bad : {A : Type 0} (f : LineFault) → ◌≡◌ {A = Option LineFault} None (Some f) → A
none_bad f e = absurd cc

some_same : (e f : LineFault) → ◌≡◌ {A = Option LineFault} (Some e) (Some f) → e ≡ f
some_same e f h = cc

-- ---- steps

then_fails : {A B C : Type 0} (r : Result A LineFault) (m : Result B LineFault) (g : A → B → C) → verdict (r >>= λ x. (m >>= λ y. Ok (g x y))) ≡ or_else (verdict r) (verdict m)
then_fails (Ok x) (Ok y) g = refl
then_fails (Ok x) (Err e) g = refl
then_fails (Err e) m g = refl

made_fails : {A B : Type 0} (r : Result A LineFault) (g : A → B) → verdict (r >>= λ x. Ok (g x)) ≡ verdict r
made_fails (Ok x) g = refl
made_fails (Err e) g = refl

each_fails : {A B : Type 0} (r : Result A LineFault) (f : A → Result B LineFault) (v : Option LineFault) → ((x : A) → verdict (f x) ≡ v) → verdict (r >>= f) ≡ or_else (verdict r) v
each_fails (Ok x) f v h = h x
each_fails (Err e) f v h = refl

if_fails : {A : Type 0} (b : Bool) (x : A) (e : LineFault) → verdict (cond b (Ok x) (Err e)) ≡ cond b None (Some e)
if_fails true x e = refl
if_fails false x e = refl

or_if : (b : Bool) (e : LineFault) (v : Option LineFault) → or_else (cond b None (Some e)) v ≡ cond b v (Some e)
or_if true e v = refl
or_if false e v = refl

-- ---- words

number_fails : (w : List ℕ) → verdict (number_arg w) ≡ cond (is_number w) None (Some faults.Number)
number_fails w = if_fails (is_number w) (digits_value 10 w) faults.Number

name_fails : (w : List ℕ) → verdict (name_arg w) ≡ cond (is_name w) None (Some faults.Name)
name_fails w = if_fails (is_name w) w faults.Name

or_fails : {A : Type 0} (b c : Bool) (x : A) (r : Result A LineFault) (e : LineFault) → verdict r ≡ cond c None (Some e) → verdict (cond b (Ok x) r) ≡ cond (b || c) None (Some e)
or_fails true c x r e h = refl
or_fails false c x r e h = h

operation_fails : (os : List Operation) (w : List ℕ) → verdict (operation_among os w) ≡ cond (list_any (λ o. bytes_eq w (operation_word o)) os) None (Some faults.Op)
operation_fails [] w = refl
operation_fails (o ∷ os) w = or_fails (bytes_eq w (operation_word o)) _ o _ faults.Op (operation_fails os w)

-- a word that fails, or what follows it
word_fails : {A B C : Type 0} (r : Result A LineFault) (m : Result B LineFault) (g : A → B → C) (b : Bool) (e : LineFault) (cs : List (Check LineFault)) → verdict r ≡ cond b None (Some e) → verdict m ≡ first_fault cs → verdict (r >>= λ x. (m >>= λ y. Ok (g x y))) ≡ first_fault (check e b ∷ cs)
word_fails r m g b e cs h i = then_fails r m g ∙ rw (h, i) (or_if b e (first_fault cs))

-- ---- the last words

none : (ws : List (List ℕ)) → (length ws == 0) ≡ true → ws ≡ []
none [] h = refl
none (w ∷ ws) h = let e : length (w ∷ ws) ≡ 0 = grind (arith, nat_tests) in absurd (omega (arith, e))

wrong_length : (n m : ℕ) → n ≡ m → (m == n) ≡ false → ⊥
wrong_length n m e h = grind (arith, nat_tests)

is_length : (n m : ℕ) → (m == n) ≡ true → m ≡ n
is_length n m h = grind (arith, nat_tests)

one_fails : (ws : List (List ℕ)) → (length ws == 1) ≡ true → verdict (one_arg ws) ≡ first_fault (map number_check ws)
one_fails [] h = absurd (omega (arith, is_length 1 0 h))
one_fails (w ∷ []) h = number_fails w
one_fails (w ∷ v ∷ ws) h = absurd (omega (arith, is_length 1 (length (w ∷ v ∷ ws)) h))

pair_fails : (ws : List (List ℕ)) → (length ws == 2) ≡ true → verdict (pair_arg ws) ≡ first_fault (map number_check ws)
pair_fails [] h = absurd (omega (arith, is_length 2 0 h))
pair_fails (w ∷ []) h = absurd (omega (arith, is_length 2 1 h))
pair_fails (w ∷ v ∷ []) h = word_fails (number_arg w) (number_arg v) (λ a b. (a, b)) (is_number w) faults.Number (map number_check (v ∷ [])) (number_fails w) (number_fails v)
pair_fails (w ∷ v ∷ u ∷ ws) h = absurd (omega (arith, is_length 2 (length (w ∷ v ∷ u ∷ ws)) h))

twice : {A B C : Type 0} (r : Result B LineFault) (f : B → A) (h : A → C) → verdict ((r >>= λ x. Ok (f x)) >>= λ x. Ok (h x)) ≡ verdict r
twice (Ok x) f h = refl
twice (Err e) f h = refl

by_kind : {A B C : Type 0} (each : ℕ) (ws : List (List ℕ)) (board : A) (r : Result B LineFault) (f g : B → A) (h : A → C) (b v c : Bool)
    → cond b (length ws == 0) (cond (v || c) (length ws == each) true) ≡ true → ((length ws == each) ≡ true → verdict r ≡ first_fault (map number_check ws))
    → verdict (cond b (Ok board) (cond v (r >>= λ x. Ok (f x)) (cond c (r >>= λ x. Ok (g x)) (Err faults.Object))) >>= λ x. Ok (h x)) ≡ first_fault (check faults.Object (b || (v || c)) ∷ map number_check ws)
by_kind each ws board r f g h true v c e fails = rw (none ws e) refl
by_kind each ws board r f g h false true c e fails = twice r f h ∙ fails e
by_kind each ws board r f g h false false true e fails = twice r g h ∙ fails e
by_kind each ws board r f g h false false false e fails = refl

-- the words of an object or a range fail as their checks do, by whether the kind is board, vehicle or customer
object_fails : {A B C : Type 0} (each : ℕ) (kind : List ℕ) (ws : List (List ℕ)) (board : A) (r : Result B LineFault) (f g : B → A) (h : A → C)
    → is_counted each kind ws ≡ true → ((length ws == each) ≡ true → verdict r ≡ first_fault (map number_check ws))
    → verdict (cond (bytes_eq kind (codes "board")) (Ok board) (cond (bytes_eq kind (codes "vehicle")) (r >>= λ x. Ok (f x)) (cond (bytes_eq kind (codes "customer")) (r >>= λ x. Ok (g x)) (Err faults.Object))) >>= λ x. Ok (h x)) ≡ first_fault (object_checks kind ws)
object_fails each kind ws board r f g h counted fails = by_kind each ws board r f g h (bytes_eq kind (codes "board")) (bytes_eq kind (codes "vehicle")) (bytes_eq kind (codes "customer")) counted fails

names_fail : (ws : List (List ℕ)) → cond (list_all is_name ws) None (Some faults.Name) ≡ first_fault (map name_check ws)
names_fail [] = refl
names_fail (w ∷ ws) = one (is_name w) (list_all is_name ws) (first_fault (map name_check ws)) (names_fail ws)
  where
    one : (a b : Bool) (v : Option LineFault) → cond b None (Some faults.Name) ≡ v → cond (a && b) None (Some faults.Name) ≡ cond a v (Some faults.Name)
    one true b v h = h
    one false b v h = refl

-- ---- all arguments

each_read_fails : (k : Kinds) (ws : List (List ℕ)) → counted k ws ≡ true → verdict (each_read k ws) ≡ first_fault (argument_checks k ws)
unfolding number_then
each_read_fails nothing [] c = refl
each_read_fails nothing (w ∷ ws) c = absurd (cc)
each_read_fails object [] c = absurd (cc)
each_read_fails object (kind ∷ ws) c = object_fails 1 kind ws _ (one_arg ws) _ _ _ c (one_fails ws)
each_read_fails range [] c = absurd (cc)
each_read_fails range (kind ∷ ws) c = object_fails 2 kind ws _ (pair_arg ws) _ _ _ c (pair_fails ws)
each_read_fails names ws c = made_fails (cond (list_all is_name ws) (Ok ws) (Err faults.Name)) _ ∙ if_fails (list_all is_name ws) ws faults.Name ∙ names_fail ws
each_read_fails (number more) [] c = absurd (cc)
each_read_fails (number more) (w ∷ ws) c = word_fails (number_arg w) (each_read more ws) a_number (is_number w) faults.Number (argument_checks more ws) (number_fails w) (each_read_fails more ws c)
each_read_fails (name more) [] c = absurd (cc)
each_read_fails (name more) (w ∷ ws) c = word_fails (name_arg w) (each_read more ws) a_name (is_name w) faults.Name (argument_checks more ws) (name_fails w) (each_read_fails more ws c)
each_read_fails (operation more) [] c = absurd (cc)
each_read_fails (operation more) (w ∷ ws) c = word_fails (operation_arg w) (each_read more ws) an_operation (is_operation w) faults.Op (argument_checks more ws) (operation_fails ALL w) (each_read_fails more ws c)

arguments_fail : (k : Kinds) (ws : List (List ℕ)) → verdict (arguments_of k ws) ≡ first_fault (check faults.Count (counted k ws) ∷ argument_checks k ws)
unfolding arguments_of
arguments_fail k ws = by_count (counted k ws) refl
  where
    by_count : (b : Bool) → counted k ws ≡ b → verdict (cond b (each_read k ws) (Err faults.Count)) ≡ cond b (first_fault (argument_checks k ws)) (Some faults.Count)
    by_count true e = each_read_fails k ws e
    by_count false e = refl

-- ---- lines

named_fails : (s : ℕ) (args : List (List ℕ)) (word : Option Word) → verdict (named_by s args word) ≡ first_fault (named_checks args word)
named_fails s args None = refl
named_fails s args (Some word) = made_fails (arguments_of (row_of word).kinds args) (λ a. command_of s word a) ∙ arguments_fail (row_of word).kinds args

after_session_fails : (rest : List (List ℕ)) (s : ℕ) → verdict (after_session s rest) ≡ first_fault (word_checks rest)
after_session_fails [] s = refl
after_session_fails (word ∷ args) s = named_fails s args (word_of word)

line_fails : (ws : List (List ℕ)) → verdict (words_read ws) ≡ first_fault (line_checks ws)
unfolding words_read
line_fails [] = refl
line_fails (first ∷ rest) = by_comment (is_comment first)
  where
    by_comment : (b : Bool) → verdict (cond b (Ok Skip) (number_arg first >>= λ s. after_session s rest)) ≡ first_fault (cond b [] (number_check first ∷ word_checks rest))
    by_comment true = refl
    by_comment false = each_fails (number_arg first) (λ s. after_session s rest) (first_fault (word_checks rest)) (after_session_fails rest) ∙ rw (number_fails first) (or_if (is_number first) faults.Number (first_fault (word_checks rest)))

err_from : {A : Type 0} (r : Result A LineFault) (f : LineFault) → verdict r ≡ Some f → r ≡ Err f
err_from (Ok x) f e = none_bad f e
err_from (Err g) f e = ap Err (some_same g f e)

pub faults_are_first : FaultsAreFirst
faults_are_first line f = (
  λ p. err_from (words_read (words line)) f (line_fails (words line) ∙ is_first (line_checks (words line)) f p),
  λ e. first_is (line_checks (words line)) f (sym (line_fails (words line)) ∙ ap verdict e),
)
