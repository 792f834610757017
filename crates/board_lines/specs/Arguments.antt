-- The arguments of a command, and how they are read from left to right with the first fault that is met.
use Rattle.std.specs.Prelude.{ℕ, List, [], ◌∷◌, Bool, true, false, ◌||◌, codes, length, bytes_eq, Result, Ok, Err, ◌==◌, if◌then◌else◌}
use Rattle.std.specs.List.{list_all}
use Rattle.std.specs.Str.Parse.{digits_value}
use Rattle.text_words.specs.Words.{is_number}
use Rattle.separation_core.specs.Names.{is_name}
use Rattle.permission_core.specs.declared.objects.Operation.{Operation}
use Rattle.permission_core.specs.declared.objects.Operation.TheVariants as operations
use Rattle.permission_core.specs.declared.objects.TheConstants.Operation.{ALL}
use Rattle.permission_core.specs.declared.objects.Object.{Object}
use Rattle.permission_core.specs.declared.objects.Object.TheVariants as objects
use Rattle.permission_core.specs.declared.objects.ObjectRange.{ObjectRange}
use Rattle.permission_core.specs.declared.objects.ObjectRange.TheVariants as ranges
use Rattle.board_lines.specs.declared.command.LineFault.{LineFault}
use Rattle.board_lines.specs.declared.command.LineFault.TheVariants as faults
use Rattle.board_lines.specs.Table.{Kinds, nothing, object, range, names, number, name, operation}

-- what follows a command's word, by its kinds
pub data Arguments : Type 0 where
  no_more : Arguments
  the_object : Object → Arguments
  the_range : ObjectRange → Arguments
  the_names : List (List ℕ) → Arguments
  a_number : ℕ → Arguments → Arguments
  a_name : List ℕ → Arguments → Arguments
  an_operation : Operation → Arguments → Arguments

infixl 10 ◌>>=◌
abbrev pub ◌>>=◌ : {A B : Type 0} → Result A LineFault → (A → Result B LineFault) → Result B LineFault
(Ok x) >>= f = f x
(Err e) >>= f = Err e

-- ---- one word

abbrev pub number_arg : List ℕ → Result ℕ LineFault
number_arg w = if is_number w then Ok (digits_value 10 w) else Err faults.Number

abbrev pub name_arg : List ℕ → Result (List ℕ) LineFault
name_arg w = if is_name w then Ok w else Err faults.Name

abbrev pub operation_word : Operation → List ℕ
operation_word operations.View = codes "view"
operation_word operations.Move = codes "move"
operation_word operations.Pin = codes "pin"
operation_word operations.Freeze = codes "freeze"
operation_word operations.Admin = codes "admin"
operation_word operations.Audit = codes "audit"
operation_word operations.Override = codes "override"

-- the one of these operations whose word it is
abbrev pub operation_among : List Operation → List ℕ → Result Operation LineFault
operation_among [] w = Err faults.Op
operation_among (o ∷ os) w = if bytes_eq w (operation_word o) then Ok o else operation_among os w

abbrev pub operation_arg : List ℕ → Result Operation LineFault
operation_arg w = operation_among ALL w

-- ---- the last words

-- The right number of words follows the kind of an object: none after board, and the given number after vehicle and customer. The words
-- after another kind are not counted.
abbrev pub is_counted : ℕ → List ℕ → List (List ℕ) → Bool
is_counted each kind numbers =
    if bytes_eq kind (codes "board") then length numbers == 0
    else (if bytes_eq kind (codes "vehicle") || bytes_eq kind (codes "customer") then length numbers == each
    else true)

abbrev pub one_arg : List (List ℕ) → Result ℕ LineFault
one_arg (word ∷ []) = number_arg word
one_arg _ = Err faults.Count

abbrev pub pair_arg : List (List ℕ) → Result (ℕ × ℕ) LineFault
pair_arg (first ∷ last ∷ []) = do
  a ← number_arg first
  b ← number_arg last
  Ok (a, b)
pair_arg _ = Err faults.Count

-- board, vehicle N or customer N, by its kind and the words after it
abbrev pub object_arg : List ℕ → List (List ℕ) → Result Object LineFault
object_arg kind numbers =
    if bytes_eq kind (codes "board") then Ok objects.Board
    else (if bytes_eq kind (codes "vehicle") then (one_arg numbers >>= λ n. Ok (objects.Vehicle n))
    else (if bytes_eq kind (codes "customer") then (one_arg numbers >>= λ n. Ok (objects.Customer n))
    else Err faults.Object))

-- board, vehicle A B or customer A B, by its kind and the words after it
abbrev pub range_arg : List ℕ → List (List ℕ) → Result ObjectRange LineFault
range_arg kind numbers =
    if bytes_eq kind (codes "board") then Ok ranges.Board
    else (if bytes_eq kind (codes "vehicle") then (pair_arg numbers >>= λ pair. Ok (ranges.Vehicles pair.0 pair.1))
    else (if bytes_eq kind (codes "customer") then (pair_arg numbers >>= λ pair. Ok (ranges.Customers pair.0 pair.1))
    else Err faults.Object))

abbrev pub names_arg : List (List ℕ) → Result (List (List ℕ)) LineFault
names_arg ws = if list_all is_name ws then Ok ws else Err faults.Name

-- ---- all of them

-- a number, and what follows it
unfoldable pub number_then : List ℕ → Result Arguments LineFault → Result Arguments LineFault
number_then w more = number_arg w >>= λ n. (more >>= λ rest. Ok (a_number n rest))

-- a name, and what follows it
abbrev pub name_then : List ℕ → Result Arguments LineFault → Result Arguments LineFault
name_then w more = name_arg w >>= λ n. (more >>= λ rest. Ok (a_name n rest))

-- an operation, and what follows it
abbrev pub operation_then : List ℕ → Result Arguments LineFault → Result Arguments LineFault
operation_then w more = operation_arg w >>= λ o. (more >>= λ rest. Ok (an_operation o rest))

-- there are as many words as the kinds ask for
abbrev pub counted : Kinds → List (List ℕ) → Bool
counted nothing [] = true
counted nothing (w ∷ ws) = false
counted object [] = false
counted object (kind ∷ ws) = is_counted 1 kind ws
counted range [] = false
counted range (kind ∷ ws) = is_counted 2 kind ws
counted names ws = true
counted (number more) [] = false
counted (number more) (w ∷ ws) = counted more ws
counted (name more) [] = false
counted (name more) (w ∷ ws) = counted more ws
counted (operation more) [] = false
counted (operation more) (w ∷ ws) = counted more ws

abbrev pub each_read : Kinds → List (List ℕ) → Result Arguments LineFault
each_read nothing [] = Ok no_more
each_read nothing (w ∷ ws) = Err faults.Count
each_read object [] = Err faults.Count
each_read object (kind ∷ ws) = object_arg kind ws >>= λ o. Ok (the_object o)
each_read range [] = Err faults.Count
each_read range (kind ∷ ws) = range_arg kind ws >>= λ r. Ok (the_range r)
each_read names ws = names_arg ws >>= λ ns. Ok (the_names ns)
each_read (number more) [] = Err faults.Count
each_read (number more) (w ∷ ws) = number_then w (each_read more ws)
each_read (name more) [] = Err faults.Count
each_read (name more) (w ∷ ws) = name_then w (each_read more ws)
each_read (operation more) [] = Err faults.Count
each_read (operation more) (w ∷ ws) = operation_then w (each_read more ws)

-- the arguments of these kinds: the count of the words is checked first
unfoldable pub arguments_of : Kinds → List (List ℕ) → Result Arguments LineFault
arguments_of kinds ws = if counted kinds ws then each_read kinds ws else Err faults.Count

-- what was read, as arguments
abbrev pub read_as : {A : Type 0} → (A → Arguments) → Result A LineFault → Result Arguments LineFault
read_as f (Ok x) = Ok (f x)
read_as f (Err e) = Err e
