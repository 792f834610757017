-- Fields of a line: numbers, keywords and the name.
use Rattle.std.specs.Prelude.{◌≡◌, ℕ, ◌+◌, ◌≤◌, Bool, true, false, ◌&&◌, ◌⊎◌, List, [], ◌∷◌, ◌++◌, length, reverse, replicate, nat_le, nat_lt, ◌==◌, if◌then◌else◌, Option, None, is_some, unwrap_or}
use Rattle.std.specs.List.{slice_split, list_all, AllByRecursion}
use Rattle.std.specs.Str.{all_ascii_digits, str_to_ascii_lowercase, str_eq_ignore_ascii_case}
use Rattle.std.specs.Str.Parse.{digits_value}
use Rattle.limits.specs.declared.TheConstants.{LONGEST_INSTANCE_NAME, MOST_DIGITS}
use Rattle.text_words.specs.Words.{is_gap, number}

-- ---- numbers

-- the value of 1 to 7 digits
abbrev pub whole_number : List ℕ → Option ℕ
whole_number digits = if nat_le (length digits) MOST_DIGITS then number digits else None

-- one or more zeros
abbrev pub is_zeros : List ℕ → Bool
is_zeros text = nat_lt 0 (length text) && list_all (λ b. b == 48) text

-- the value of a word by its parts between dots
abbrev pub number_of_parts : List (List ℕ) → Option ℕ
number_of_parts [] = None
number_of_parts (digits ∷ []) = whole_number digits
number_of_parts (digits ∷ zeros ∷ []) = if is_zeros zeros then whole_number digits else None
number_of_parts (digits ∷ zeros ∷ part ∷ parts) = None

-- the number that a word is
abbrev pub field : List ℕ → Option ℕ
field word = number_of_parts (slice_split (λ b. b == 46) word)

abbrev pub is_field : List ℕ → Bool
is_field word = is_some (field word)

-- its value, and 0 for a word that is no number
abbrev pub field_value : List ℕ → ℕ
field_value word = unwrap_or (field word) 0

-- nothing, or a dot and one or more zeros
abbrev pub IsZeroTail : List ℕ → Type 0
IsZeroTail tail = (tail ≡ []) ⊎ ((more : ℕ) × (tail ≡ 46 ∷ replicate (more + 1) 48))

-- the word is 1 to 7 digits with the value n, and such a tail
pub record IsNumber (word : List ℕ) (n : ℕ) : Type 0 where
  pub digits : List ℕ
  pub tail : List ℕ
  pub whole : word ≡ digits ++ tail
  pub some : 1 ≤ length digits
  pub few : length digits ≤ MOST_DIGITS
  pub each : all_ascii_digits digits ≡ true
  pub value : digits_value 10 digits ≡ n
  pub zeros : IsZeroTail tail

-- ---- keywords

-- the word is the keyword, in any ASCII case
abbrev pub IsKeyword : List ℕ → List ℕ → Type 0
IsKeyword keyword word = str_to_ascii_lowercase word ≡ str_to_ascii_lowercase keyword

abbrev pub is_keyword : List ℕ → List ℕ → Bool
is_keyword keyword word = str_eq_ignore_ascii_case word keyword

-- ---- the name

-- from the first byte on that is no space or tab
abbrev pub trimmed_start : List ℕ → List ℕ
trimmed_start [] = []
trimmed_start (b ∷ bs) = if is_gap b then trimmed_start bs else (b ∷ bs)

-- up to the last byte that is no space or tab
abbrev pub trimmed_end : List ℕ → List ℕ
trimmed_end text = reverse (trimmed_start (reverse text))

-- without the spaces and tabs at both ends
abbrev pub trimmed : List ℕ → List ℕ
trimmed text = trimmed_end (trimmed_start text)

-- a byte from space to ~
abbrev pub is_name_byte : ℕ → Bool
is_name_byte b = nat_le 32 b && nat_le b 126

-- 1 to 64 such bytes
abbrev pub is_name : List ℕ → Bool
is_name text = nat_le 1 (length text) && (nat_le (length text) LONGEST_INSTANCE_NAME && list_all is_name_byte text)

abbrev pub AreGaps : List ℕ → Type 0
AreGaps = AllByRecursion (λ b. is_gap b ≡ true)

-- the line is the name between spaces and tabs; the name begins and ends with neither
pub record IsTrimmed (line name : List ℕ) : Type 0 where
  pub front : List ℕ
  pub back : List ℕ
  pub whole : line ≡ front ++ (name ++ back)
  pub before : AreGaps front
  pub behind : AreGaps back
  pub begins : (b : ℕ) (more : List ℕ) → name ≡ b ∷ more → is_gap b ≡ false
  pub ends : (b : ℕ) (more : List ℕ) → name ≡ more ++ b ∷ [] → is_gap b ≡ false

-- 1 to 64 bytes from space to ~
pub record IsName (name : List ℕ) : Type 0 where
  pub some : 1 ≤ length name
  pub few : length name ≤ LONGEST_INSTANCE_NAME
  pub printed : AllByRecursion (λ b. (32 ≤ b) × (b ≤ 126)) name
