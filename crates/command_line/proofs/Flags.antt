-- One word of a command line, by its first bytes: two hyphens, a flag, or another word.
use Rattle.std.proofs.Common.{◌≡◌, ℕ, Bool, true, false, eqb, cond, List, [], ◌∷◌, drop, refl, ap, ap₂, sym, subst, ◌∙◌, eqb-true, true≢false, length, inl, inr, Option, Some, None}
use Rattle.std.specs.Prelude.{◌⊎◌, not, slice_get, encode_utf8, if◌then◌else◌}
use Rattle.std.specs.Str.{chars}
use Rattle.std.specs.Option.{is_some, option_map_or}
use Rattle.clap.specs.Lexer.{long_of, name_and_value, short_of}
use Rattle.clap.specs.Words.{Rule, Row, Text}
use Rattle.clap.specs.Faults.{bundle_fault, other_fault, flag_word_fault, long_fault, short_fault, bundle_step_fault, settle_fault, step_fault, turn_fault, use_fault}
use Rattle.clap.specs.Walk.{Outcome, settled, after_flag, after_step, subcommand_met, subcommand_or_other, trailing, bundle_step, plain, plain_word, short_or_plain, Held, Walk, Waiting, Names, Step, arg_by_long, arg_by_short, idle, long_or_other, walked}
use Rattle.clap.specs.Simple.{Shape, filled, help_rule, version_rule}
use Rattle.clap.specs.Kinds.{Kinds, or_else}
use Rattle.clap.proofs.OnLiterals.{clap_on_literals}
use Rattle.command_line.specs.Words.{is_among, is_end_of_flags, is_empty, is_flag, known}

-- ---- lists of kinds

abbrev pub Fails : Kinds → Type 0
Fails [] = ⊥
Fails (kind ∷ kinds) = Unit {0}

pub fails_first : (xs ys : Kinds) → Fails xs → Fails (or_else xs ys)
fails_first [] ys h = absurd h
fails_first (x ∷ xs) ys h = tt

pub fails_then : (xs ys : Kinds) → Fails ys → Fails (or_else xs ys)
fails_then [] ys h = h
fails_then (x ∷ xs) ys h = tt

-- ---- flags, where those for help and the version are the only ones

abbrev pub help : Rule
help = filled help_rule

abbrev pub version : Rule
version = filled version_rule

-- no flag, or one of the two
abbrev pub IsKnown : Option Rule → Type 0
IsKnown a = (a ≡ None) ⊎ ((a ≡ Some help) ⊎ (a ≡ Some version))

pub flag_known : (b d : Bool) → IsKnown (cond b (Some help) (cond d (Some version) None))
flag_known true d = inr (inl refl)
flag_known false true = inr (inr refl)
flag_known false false = inl refl

help_used : (rows : List Row) → Fails (use_fault false help [] rows)
unfolding clap_on_literals
help_used rows = tt

version_used : (rows : List Row) → Fails (use_fault false version [] rows)
unfolding clap_on_literals
version_used rows = tt

help_met : (rules : List Rule) (h : Held) → Fails (or_else (settle_fault rules false h) (use_fault false help [] (settled rules h).rows))
help_met rules h = fails_then (settle_fault rules false h) _ (help_used (settled rules h).rows)

version_met : (rules : List Rule) (h : Held) → Fails (or_else (settle_fault rules false h) (use_fault false version [] (settled rules h).rows))
version_met rules h = fails_then (settle_fault rules false h) _ (version_used (settled rules h).rows)

long_unknown : (rules : List Rule) (v : Option Text) (h : Held) → Fails (long_fault rules false None v h)
unfolding clap_on_literals
long_unknown rules v h = tt

long_help : (rules : List Rule) (v : Option Text) (h : Held) → Fails (long_fault rules false (Some help) v h)
unfolding clap_on_literals
long_help rules None h = help_met rules h
long_help rules (Some v) h = tt

long_version : (rules : List Rule) (v : Option Text) (h : Held) → Fails (long_fault rules false (Some version) v h)
unfolding clap_on_literals
long_version rules None h = version_met rules h
long_version rules (Some v) h = tt

pub long_met : (rules : List Rule) (a : Option Rule) (v : Option Text) (h : Held) → IsKnown a → Fails (long_fault rules false a v h)
long_met rules a v h k = elim k [
  | inl e ↦ subst (λ (x : Option Rule). Fails (long_fault rules false x v h)) (sym e) (long_unknown rules v h)
  | inr f ↦ elim f [
    | inl e ↦ subst (λ (x : Option Rule). Fails (long_fault rules false x v h)) (sym e) (long_help rules v h)
    | inr e ↦ subst (λ (x : Option Rule). Fails (long_fault rules false x v h)) (sym e) (long_version rules v h)
  ]
]

short_unknown : (rules : List Rule) (rest : Text) (h : Held) (more : Held → Kinds) → Fails (short_fault rules false None rest h more)
unfolding clap_on_literals
short_unknown rules rest h more = tt

short_help : (rules : List Rule) (rest : Text) (h : Held) (more : Held → Kinds) → Fails (short_fault rules false (Some help) rest h more)
unfolding clap_on_literals
short_help rules rest h more = fails_first _ _ (help_met rules h)

short_version : (rules : List Rule) (rest : Text) (h : Held) (more : Held → Kinds) → Fails (short_fault rules false (Some version) rest h more)
unfolding clap_on_literals
short_version rules rest h more = fails_first _ _ (version_met rules h)

short_met : (rules : List Rule) (a : Option Rule) (rest : Text) (h : Held) (more : Held → Kinds) → IsKnown a → Fails (short_fault rules false a rest h more)
short_met rules a rest h more k = elim k [
  | inl e ↦ subst (λ (x : Option Rule). Fails (short_fault rules false x rest h more)) (sym e) (short_unknown rules rest h more)
  | inr f ↦ elim f [
    | inl e ↦ subst (λ (x : Option Rule). Fails (short_fault rules false x rest h more)) (sym e) (short_help rules rest h more)
    | inr e ↦ subst (λ (x : Option Rule). Fails (short_fault rules false x rest h more)) (sym e) (short_version rules rest h more)
  ]
]

-- these rules have no flag besides the two and the options of these names
pub record HasFlags (names : List Text) (rules : List Rule) : Type 0 where
  pub long : (name : Text) → is_among names name ≡ false → IsKnown (arg_by_long rules name)
  pub short : (x : ℕ) → IsKnown (arg_by_short rules x)

-- ---- words by their first bytes

pub by_hyphens : (P : List ℕ → Type 0) → P [] → P (45 ∷ []) → P (45 ∷ 45 ∷ []) → ((x : ℕ) (xs : List ℕ) → P (45 ∷ 45 ∷ x ∷ xs)) → ((c : ℕ) (rest : List ℕ) → eqb c 45 ≡ false → P (45 ∷ c ∷ rest)) → ((b : ℕ) (rest : List ℕ) → eqb b 45 ≡ false → P (b ∷ rest)) → (word : List ℕ) → P word
by_hyphens P none one two long short other [] = none
by_hyphens P none one two long short other (b ∷ rest) = go (eqb b 45) refl
  where
    second : (c : ℕ) (more : List ℕ) (t : Bool) → eqb c 45 ≡ t → P (45 ∷ c ∷ more)
    second c more false e = short c more e
    second c [] true e = subst (λ (k : ℕ). P (45 ∷ k ∷ [])) (sym (eqb-true c 45 e)) two
    second c (x ∷ xs) true e = subst (λ (k : ℕ). P (45 ∷ k ∷ x ∷ xs)) (sym (eqb-true c 45 e)) (long x xs)

    first : (more : List ℕ) → P (45 ∷ more)
    first [] = one
    first (c ∷ more) = second c more (eqb c 45) refl

    go : (t : Bool) → eqb b 45 ≡ t → P (b ∷ rest)
    go false e = other b rest e
    go true e = subst (λ (k : ℕ). P (k ∷ rest)) (sym (eqb-true b 45 e)) (first rest)

-- where a walk stands: what was found, the argument whose values are being read, and the place of the next
pub record Spot : Type 0 where
  pub rows : List Row
  pub pending : Option (Text × List Text)
  pub position : ℕ

abbrev pub held : Spot → Held
held k = record { rows = k.rows; pending = k.pending; skip = 0 }

abbrev pub start : Spot
start = record { rows = []; pending = None; position = 1 }

pub never : {A : Type 0} → false ≡ true → A
never e = absurd (true≢false (sym e))

bundle_fails : (names : List Text) (rules : List Rule) → HasFlags names rules → (cs : List ℕ) (flags : Text) (k : Spot) (more : Text → ℕ → Held → Kinds) → not (is_empty cs) ≡ true → Fails (bundle_step_fault rules false (slice_get cs 0) flags 0 (held k) more)
bundle_fails names rules has [] flags k more e = never e
bundle_fails names rules has (x ∷ cs) flags k more e = short_met rules (arg_by_short rules x) (drop (length (encode_utf8 x)) flags) (held k) (more (drop (length (encode_utf8 x)) flags) 0) (has.short x)

long_none : (c : ℕ) (rest : List ℕ) → eqb c 45 ≡ false → long_of (45 ∷ c ∷ rest) ≡ None
long_none c rest e = rw e refl

short_some : (c : ℕ) (rest : List ℕ) → eqb c 45 ≡ false → short_of (45 ∷ c ∷ rest) ≡ Some (c ∷ rest)
short_some c rest e = rw e refl

long_other : (b : ℕ) (rest : List ℕ) → eqb b 45 ≡ false → long_of (b ∷ rest) ≡ None
long_other b rest e = rw e refl

short_other : (b : ℕ) (rest : List ℕ) → eqb b 45 ≡ false → short_of (b ∷ rest) ≡ None
short_other b rest e = rw e refl

end_other : (b : ℕ) (rest : List ℕ) → eqb b 45 ≡ false → is_end_of_flags (b ∷ rest) ≡ false
end_other b rest e = rw e refl

end_short : (c : ℕ) (rest : List ℕ) → eqb c 45 ≡ false → is_end_of_flags (45 ∷ c ∷ rest) ≡ false
end_short c rest e = rw e refl

abbrev short_kinds : List Rule → Held → Option Text → Kinds
short_kinds rules h flags = option_map_or (λ (f : Text). bundle_fault rules false f h) flags []

word_kinds : (rules : List Rule) (word : Text) (h : Held) (flags : Option Text) → long_of word ≡ None → short_of word ≡ flags → flag_word_fault rules false (long_of word) word h ≡ short_kinds rules h flags
word_kinds rules word h flags e f = ap (λ (l : Option (Text × Option Text)). flag_word_fault rules false l word h) e ∙ ap (short_kinds rules h) f

word_step : (rules : List Rule) (wt : Waiting) (word : Text) (h : Held) (flags : Option Text) → long_of word ≡ None → short_of word ≡ flags → long_or_other rules wt word (long_of word) h ≡ short_or_plain rules wt word flags h
word_step rules wt word h flags e f = ap (λ (l : Option (Text × Option Text)). long_or_other rules wt word l h) e ∙ ap (λ (s : Option Text). short_or_plain rules wt word s h) f

no_kinds : (rules : List Rule) (cs : List ℕ) (flags : Text) (k : Spot) (more : Text → ℕ → Held → Kinds) → not (is_empty cs) ≡ false → bundle_step_fault rules false (slice_get cs 0) flags 0 (held k) more ≡ []
no_kinds rules [] flags k more e = refl
no_kinds rules (x ∷ cs) flags k more e = never (sym e)

no_step : (rules : List Rule) (cs : List ℕ) (flags : Text) (k : Spot) (more : Text → ℕ → Outcome → Held → Held × Outcome) → not (is_empty cs) ≡ false → bundle_step rules (slice_get cs 0) flags 0 plain (held k) more ≡ (held k, plain)
no_step rules [] flags k more e = refl
no_step rules (x ∷ cs) flags k more e = never (sym e)

unknown_is : (names : List Text) (p : Text × Option Text) → known names (Some p) ≡ None → is_among names p.0 ≡ false
unknown_is names p = go (is_among names p.0) refl
  where
    go : (t : Bool) → is_among names p.0 ≡ t → known names (Some p) ≡ None → is_among names p.0 ≡ false
    go false e h = e
    go true e h = absurd (true≢false (ap is_some (rw e at h)))

abbrev FlagFails : List Text → List Rule → Spot → Text → Type 0
FlagFails names rules k word = is_flag word ≡ true → is_end_of_flags word ≡ false → known names (long_of word) ≡ None → Fails (flag_word_fault rules false (long_of word) word (held k))

-- a flag that is no option is refused, or asks for help
pub flag_fails : (names : List Text) (rules : List Rule) → HasFlags names rules → (k : Spot) (word : Text) → FlagFails names rules k word
unfolding clap_on_literals
flag_fails names rules has k = by_hyphens (FlagFails names rules k)
    (λ flag end none. never flag)
    (λ flag end none. never flag)
    (λ flag end none. never (sym end))
    (λ x xs flag end none. let parts = name_and_value (x ∷ xs) in long_met rules (arg_by_long rules parts.0) parts.1 (held k) (has.long parts.0 (unknown_is names parts none)))
    (λ c rest e flag end none. subst Fails (sym (word_kinds rules (45 ∷ c ∷ rest) (held k) (Some (c ∷ rest)) (long_none c rest e) (short_some c rest e))) (bundle_fails names rules has (chars (c ∷ rest)) (c ∷ rest) k _ flag))
    (λ b rest e flag end none. never (rw e at flag))

abbrev Plain : List Rule → Spot → Waiting → Text → Type 0
Plain rules k wt word = is_flag word ≡ false → (is_end_of_flags word ≡ false) × (flag_word_fault rules false (long_of word) word (held k) ≡ []) × (long_or_other rules wt word (long_of word) (held k) ≡ plain_word rules wt word (held k))

-- another word is a value
pub plain_passes : (rules : List Rule) (k : Spot) (wt : Waiting) (word : Text) → Plain rules k wt word
unfolding clap_on_literals
plain_passes rules k wt = by_hyphens (Plain rules k wt)
    (λ flag. (refl, refl, refl))
    (λ flag. (refl, refl, refl))
    (λ flag. never (sym flag))
    (λ x xs flag. never (sym flag))
    (λ c rest e flag.
    let none = long_none c rest e in
    let some = short_some c rest e in (
      end_short c rest e,
      word_kinds rules (45 ∷ c ∷ rest) (held k) (Some (c ∷ rest)) none some ∙ no_kinds rules (chars (c ∷ rest)) (c ∷ rest) k _ flag,
      word_step rules wt (45 ∷ c ∷ rest) (held k) (Some (c ∷ rest)) none some ∙ ap (λ (met : Held × Outcome). after_flag rules wt (45 ∷ c ∷ rest) met.0 met.1) (no_step rules (chars (c ∷ rest)) (c ∷ rest) k _ flag),
    ))
    (λ b rest e flag.
    let none = long_other b rest e in
    let some = short_other b rest e in
    (end_other b rest e, word_kinds rules (b ∷ rest) (held k) None none some, word_step rules wt (b ∷ rest) (held k) None none some))

-- ---- one word, where no subcommand has its name

-- a walk that stands at a spot, before or after two hyphens, with what waits for a value
abbrev pub at : Spot → Bool → Waiting → Walk
at k past wt = record { held = held k; waiting = wt; position = k.position; is_trailing = past; stopped = None }

abbrev met_kinds : Shape → ℕ → Held → Bool → Kinds → Held × Step → Kinds
met_kinds s position h end kinds step = or_else (if end then [] else kinds) (step_fault s position (if end then (h, trailing position) else step).0 (if end then (h, trailing position) else step).1)

abbrev met_walk : List Rule → Walk → Text → Bool → Held × Step → Walk
met_walk rules w word end step = after_step rules word w (if end then (w.held, trailing w.position) else step).0 (if end then (w.held, trailing w.position) else step).1

abbrev pub unnamed : Names → Waiting → Text → Type 0
unnamed names wt word = subcommand_met names wt word ≡ None

abbrev word_of : Shape → Text → Held → Kinds
word_of s word h = flag_word_fault s.rules s.args_override_self (long_of word) word h

abbrev step_of : Shape → Waiting → Text → Held → Held × Step
step_of s wt word h = long_or_other s.rules wt word (long_of word) h

turn_is : (s : Shape) (names : Names) (k : Spot) (wt : Waiting) (word : Text) → unnamed names wt word → turn_fault s names (at k false wt) word ≡ met_kinds s k.position (held k) (is_end_of_flags word) (word_of s word (held k)) (step_of s wt word (held k))
turn_is s names k wt word e = ap (λ (m : Option Text). or_else (other_fault s m word (held k)) (step_fault s k.position (subcommand_or_other s.rules m wt k.position word (held k)).0 (subcommand_or_other s.rules m wt k.position word (held k)).1)) e

walked_is : (rules : List Rule) (names : Names) (k : Spot) (wt : Waiting) (word : Text) → unnamed names wt word → walked rules names (at k false wt) word ≡ met_walk rules (at k false wt) word (is_end_of_flags word) (long_or_other rules wt word (long_of word) (held k))
unfolding clap_on_literals
walked_is rules names k wt word e = ap (λ (m : Option Text). after_step rules word (at k false wt) (subcommand_or_other rules m wt k.position word (held k)).0 (subcommand_or_other rules m wt k.position word (held k)).1) e

-- two hyphens
pub end_turn : (s : Shape) (names : Names) (k : Spot) (wt : Waiting) (word : Text) → unnamed names wt word → is_end_of_flags word ≡ true → turn_fault s names (at k false wt) word ≡ []
end_turn s names k wt word e end = turn_is s names k wt word e ∙ ap (λ (b : Bool). met_kinds s k.position (held k) b (word_of s word (held k)) (step_of s wt word (held k))) end

pub end_walked : (rules : List Rule) (names : Names) (k : Spot) (wt : Waiting) (word : Text) → unnamed names wt word → is_end_of_flags word ≡ true → walked rules names (at k false wt) word ≡ at k true wt
end_walked rules names k wt word e end = walked_is rules names k wt word e ∙ ap (λ (b : Bool). met_walk rules (at k false wt) word b (long_or_other rules wt word (long_of word) (held k))) end

-- a word that is none
pub other_turn : (s : Shape) (names : Names) (k : Spot) (wt : Waiting) (word : Text) → unnamed names wt word → s.args_override_self ≡ false → is_end_of_flags word ≡ false
    → turn_fault s names (at k false wt) word ≡ or_else (flag_word_fault s.rules false (long_of word) word (held k)) (step_fault s k.position (step_of s wt word (held k)).0 (step_of s wt word (held k)).1)
other_turn s names k wt word e once end =
    turn_is s names k wt word e ∙ ap (λ (b : Bool). met_kinds s k.position (held k) b (word_of s word (held k)) (step_of s wt word (held k))) end ∙ ap (λ (b : Bool). or_else (flag_word_fault s.rules b (long_of word) word (held k)) (step_fault s k.position (step_of s wt word (held k)).0 (step_of s wt word (held k)).1)) once

pub other_walked : (rules : List Rule) (names : Names) (k : Spot) (wt : Waiting) (word : Text) → unnamed names wt word → is_end_of_flags word ≡ false
    → walked rules names (at k false wt) word ≡ after_step rules word (at k false wt) (long_or_other rules wt word (long_of word) (held k)).0 (long_or_other rules wt word (long_of word) (held k)).1
other_walked rules names k wt word e end = walked_is rules names k wt word e ∙ ap (λ (b : Bool). met_walk rules (at k false wt) word b (long_or_other rules wt word (long_of word) (held k))) end

-- a flag that is no option
pub flag_turn : (s : Shape) (names : Names) (options : List Text) (k : Spot) (word : Text) → unnamed names idle word → HasFlags options s.rules → s.args_override_self ≡ false → is_flag word ≡ true → is_end_of_flags word ≡ false
    → known options (long_of word) ≡ None → Fails (turn_fault s names (at k false idle) word)
flag_turn s names options k word e has once flag end none = subst Fails (sym (other_turn s names k idle word e once end)) (fails_first _ _ (flag_fails options s.rules has k word flag end none))

-- a word that is no flag goes to what waits, or to a positional
pub plain_turn : (s : Shape) (names : Names) (k : Spot) (wt : Waiting) (word : Text) → unnamed names wt word → s.args_override_self ≡ false → is_flag word ≡ false
    → turn_fault s names (at k false wt) word ≡ step_fault s k.position (plain_word s.rules wt word (held k)).0 (plain_word s.rules wt word (held k)).1
plain_turn s names k wt word e once flag =
    let h = plain_passes s.rules k wt word flag in
    other_turn s names k wt word e once h.0 ∙ ap₂ (λ (kinds : Kinds) (t : Held × Step). or_else kinds (step_fault s k.position t.0 t.1)) h.1 h.2

pub plain_walked : (rules : List Rule) (names : Names) (k : Spot) (wt : Waiting) (word : Text) → unnamed names wt word → is_flag word ≡ false
    → walked rules names (at k false wt) word ≡ after_step rules word (at k false wt) (plain_word rules wt word (held k)).0 (plain_word rules wt word (held k)).1
plain_walked rules names k wt word e flag =
    let h = plain_passes rules k wt word flag in
    other_walked rules names k wt word e h.0 ∙ ap (λ (t : Held × Step). after_step rules word (at k false wt) t.0 t.1) h.2

pub end_is : (word : Text) → is_end_of_flags word ≡ true → word ≡ 45 ∷ 45 ∷ []
end_is = by_hyphens (λ word. is_end_of_flags word ≡ true → word ≡ 45 ∷ 45 ∷ [])
    (λ e. never e)
    (λ e. never e)
    (λ e. refl)
    (λ x xs e. never e)
    (λ c rest off e. never (sym (end_short c rest off) ∙ e))
    (λ b rest off e. never (sym (end_other b rest off) ∙ e))
