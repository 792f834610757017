-- What a parse keeps of paths and options, beside the items that they are.
use Rattle.std.proofs.Common.{◌≡◌, ℕ, Bool, true, false, cond, List, [], ◌∷◌, ◌++◌, refl, ap, ap₂, sym, subst, ◌∙◌, append-nil, true≢false, Option, Some, None}
use Rattle.std.specs.Prelude.{◌&&◌, ◌||◌, fold, find, if◌then◌else◌, option_and_then, slice_get}
use Rattle.std.specs.List.{list_all, list_any}
use Rattle.std.specs.Str.{bytes_eq}
use Rattle.std.specs.Option.{is_some, option_map, option_map_or, option_or}
use Rattle.std.proofs.lemmas.List.Folds.{find-append}
use Rattle.std.proofs.lemmas.Slice.Eq.{bytes_eq-Decides}
use Rattle.clap.specs.Words.{Rule, Row, Text}
use Rattle.clap.specs.Facts.{explicit_source}
use Rattle.std.proofs.lemmas.Bool.{and_parts}
use Rattle.clap.specs.Takes.{is_given}
use Rattle.clap.specs.Faults.{defaults_fault, given_default_fault, use_fault}
use Rattle.clap.specs.Walk.{at_row, default_rows, first_of, more_values, has_row, is_empty, reading_by, used, with_default, without}
use Rattle.clap.specs.Simple.{filled, with_index}
use Rattle.clap.specs.Kinds.{Kinds, or_else}
use Rattle.clap.proofs.OnLiterals.{clap_on_literals}
use Rattle.clap.specs.declared.error.kind.ErrorKind.TheVariants as kind
use Rattle.clap.specs.declared.builder.value_parser.Reading.TheVariants as reading
use Rattle.clap.specs.declared.parser.matches.ValueSource.TheVariants.{CommandLine}
use Rattle.command_line.specs.CommandLine.{option_rule, path_rule, switch_rule}
use Rattle.command_line.specs.Words as grammar
use Rattle.command_line.specs.Words.{Item, is_among, on, once, only, option, path, paths_of, values_of}
use Rattle.command_line.proofs.Flags.{Fails}

-- ---- rows

-- a value that the words give
abbrev pub set_row : Text → Text → Row
set_row id v = record { id = id; values = v ∷ []; count = None; source = Some CommandLine; reading = reading.AsWritten }

abbrev row_at : Text → List Row → Option Row
row_at id rows = find (λ r. bytes_eq r.id id) rows

-- the value of an id among rows
abbrev pub IsLook : Text → List Row → Option Text → Type 0
IsLook id rows o = row_at id rows ≡ option_map (set_row id) o

any_is_find : (p : Row → Bool) (rows : List Row) → list_any p rows ≡ is_some (find p rows)
any_is_find p [] = refl
any_is_find p (r ∷ rows) = go (p r) (any_is_find p rows)
  where
    go : (t : Bool) → list_any p rows ≡ is_some (find p rows) → (t || list_any p rows) ≡ is_some (cond t (Some r) (find p rows))
    go true e = refl
    go false e = e

map_is_some : (id : Text) (o : Option Text) → is_some (option_map (set_row id) o) ≡ is_some o
map_is_some id None = refl
map_is_some id (Some v) = refl

pub has_is : (id : Text) (rows : List Row) (o : Option Text) → IsLook id rows o → has_row id rows ≡ is_some o
has_is id rows o e = any_is_find (λ r. bytes_eq r.id id) rows ∙ ap is_some e ∙ map_is_some id o

first_by : (id : Text) (o : Option Text) → option_and_then (λ (r : Row). slice_get r.values 0) (option_map (set_row id) o) ≡ o
first_by id None = refl
first_by id (Some v) = refl

pub first_is : (id : Text) (rows : List Row) (o : Option Text) → IsLook id rows o → first_of id rows ≡ o
first_is id rows o e = ap (option_and_then (λ (r : Row). slice_get r.values 0)) e ∙ first_by id o

given_by : (id : Text) (o : Option Text) → option_map_or (λ (r : Row). explicit_source r.source) (option_map (set_row id) o) false ≡ is_some o
given_by id None = refl
given_by id (Some v) = refl

pub given_is : (id : Text) (rows : List Row) (o : Option Text) → IsLook id rows o → is_given id rows ≡ is_some o
given_is id rows o e = ap (λ (r : Option Row). option_map_or (λ (r : Row). explicit_source r.source) r false) e ∙ given_by id o

pub same_bytes : (id : Text) → bytes_eq id id ≡ true
same_bytes id = (bytes_eq-Decides id id).1 refl

pub same_text : (id other : Text) → bytes_eq id other ≡ true → id ≡ other
same_text id other e = (bytes_eq-Decides id other).0 e

-- one row more
pub look_new : (id v : Text) (rows : List Row) → IsLook id rows None → IsLook id (rows ++ set_row id v ∷ []) (Some v)
look_new id v rows e = find-append (λ r. bytes_eq r.id id) rows (set_row id v ∷ []) ∙ ap₂ (λ (o : Option Row) (t : Bool). option_or o (cond t (Some (set_row id v)) None)) e (same_bytes id)

or_nothing : (o : Option Row) → option_or o None ≡ o
or_nothing None = refl
or_nothing (Some r) = refl

pub look_kept : (id v other : Text) (rows : List Row) (o : Option Text) → bytes_eq id other ≡ false → IsLook other rows o → IsLook other (rows ++ set_row id v ∷ []) o
look_kept id v other rows o f e = find-append (λ r. bytes_eq r.id other) rows (set_row id v ∷ []) ∙ ap (λ (t : Bool). option_or (row_at other rows) (cond t (Some (set_row id v)) None)) f ∙ or_nothing (row_at other rows) ∙ e

at_none : (id : Text) (change : Row → List Row) (missing : List Row) (rows : List Row) → row_at id rows ≡ None → at_row id change missing rows ≡ rows ++ missing
at_none id change missing [] e = refl
at_none id change missing (r ∷ rows) e = go (bytes_eq r.id id) e (at_none id change missing rows)
  where
    go : (t : Bool) → cond t (Some r) (row_at id rows) ≡ None → (row_at id rows ≡ None → at_row id change missing rows ≡ rows ++ missing) → (if t then change r ++ rows else r ∷ at_row id change missing rows) ≡ r ∷ (rows ++ missing)
    go true f below = absurd (true≢false (ap is_some f))
    go false f below = ap (λ (rs : List Row). r ∷ rs) (below f)

-- ---- rules of paths and options

abbrev pub path_at : ℕ → Text → Rule
path_at i id = with_index i (filled (path_rule id))

abbrev pub option_of : Text → Rule
option_of name = filled (option_rule name)

abbrev pub switch_of : Text → Rule
switch_of name = filled (switch_rule name)

with_new : (id v : Text) (rows : List Row) → IsLook id rows None → at_row id (more_values CommandLine (v ∷ [])) (set_row id v ∷ []) (without id rows) ≡ rows ++ set_row id v ∷ []
with_new id v rows e = ap (λ (rs : List Row). at_row id (more_values CommandLine (v ∷ [])) (set_row id v ∷ []) rs) (at_none id (λ r. []) [] rows e ∙ append-nil rows) ∙ at_none id (more_values CommandLine (v ∷ [])) (set_row id v ∷ []) rows e

pub path_used : (i : ℕ) (id v : Text) (rows : List Row) → IsLook id rows None → used (path_at i id) (v ∷ []) rows ≡ rows ++ set_row id v ∷ []
unfolding clap_on_literals
path_used i id v rows e = with_new id v rows e

pub option_used : (name v : Text) (rows : List Row) → IsLook name rows None → used (option_of name) (v ∷ []) rows ≡ rows ++ set_row name v ∷ []
unfolding clap_on_literals
option_used name v rows e = with_new name v rows e

pub switch_used : (name : Text) (rows : List Row) → IsLook name rows None → used (switch_of name) [] rows ≡ rows ++ set_row name on ∷ []
unfolding clap_on_literals
switch_used name rows e = with_new name on rows e

repeat : (t : Bool) → Kinds
repeat t = or_else (if t && true then kind.ArgumentConflict ∷ [] else []) []

pub path_free : (i : ℕ) (id v : Text) (rows : List Row) → IsLook id rows None → use_fault false (path_at i id) (v ∷ []) rows ≡ []
unfolding clap_on_literals repeat
path_free i id v rows e = ap repeat (has_is id rows None e)

pub option_free : (name v : Text) (rows : List Row) → IsLook name rows None → use_fault false (option_of name) (v ∷ []) rows ≡ []
unfolding clap_on_literals repeat
option_free name v rows e = ap repeat (has_is name rows None e)

pub option_again : (name v : Text) (rows : List Row) (x : Text) → IsLook name rows (Some x) → Fails (use_fault false (option_of name) (v ∷ []) rows)
unfolding clap_on_literals repeat
option_again name v rows x e = subst Fails (sym (ap repeat (has_is name rows (Some x) e))) tt

pub switch_free : (name : Text) (rows : List Row) → IsLook name rows None → use_fault false (switch_of name) [] rows ≡ []
unfolding clap_on_literals repeat
switch_free name rows e = ap repeat (has_is name rows None e)

pub switch_again : (name : Text) (rows : List Row) (x : Text) → IsLook name rows (Some x) → Fails (use_fault false (switch_of name) [] rows)
unfolding clap_on_literals repeat
switch_again name rows x e = subst Fails (sym (ap repeat (has_is name rows (Some x) e))) tt

pub option_wants : (name : Text) (rows : List Row) → Fails (use_fault false (option_of name) [] rows)
unfolding clap_on_literals
option_wants name rows = tt

-- ---- rules without defaults

abbrev pub has_none : Rule → Bool
has_none a = grammar.is_empty a.defaults

no_defaults : (a : Rule) (xs : List Text) (rows : List Row) → grammar.is_empty xs ≡ true → default_rows a.id (reading_by a) xs rows ≡ rows
no_defaults a [] rows e = refl
no_defaults a (x ∷ xs) rows e = absurd (true≢false (sym e))

no_fault : (a : Rule) (xs : List Text) (rows : List Row) → grammar.is_empty xs ≡ true → (if has_row a.id rows || is_empty xs then [] else given_default_fault a xs) ≡ []
no_fault a [] rows e = go (has_row a.id rows)
  where
    go : (t : Bool) → (if t || true then [] else given_default_fault a []) ≡ []
    go true = refl
    go false = refl
no_fault a (x ∷ xs) rows e = absurd (true≢false (sym e))

pub defaults_kept : (rules : List Rule) (rows : List Row) → list_all has_none rules ≡ true → fold with_default rows rules ≡ rows
defaults_kept [] rows e = refl
defaults_kept (a ∷ rules) rows e =
    let parts = and_parts (has_none a) (list_all has_none rules) e in
    ap (λ (rs : List Row). fold with_default rs rules) (one (has_row a.id rows) parts.0) ∙ defaults_kept rules rows parts.1
  where
    one : (t : Bool) → has_none a ≡ true → (if t then rows else default_rows a.id (reading_by a) a.defaults rows) ≡ rows
    one true h = refl
    one false h = no_defaults a a.defaults rows h

kept_by : (a : Rule) (rows : List Row) → has_none a ≡ true → with_default rows a ≡ rows
kept_by a rows h = go (has_row a.id rows)
  where
    go : (t : Bool) → (if t then rows else default_rows a.id (reading_by a) a.defaults rows) ≡ rows
    go true = refl
    go false = no_defaults a a.defaults rows h

pub defaults_pass : (rules : List Rule) (rows : List Row) → list_all has_none rules ≡ true → defaults_fault rows rules ≡ []
unfolding clap_on_literals
defaults_pass [] rows e = refl
defaults_pass (a ∷ rules) rows e =
    let parts = and_parts (has_none a) (list_all has_none rules) e in
    ap₂ (λ (kinds : Kinds) (rs : List Row). or_else kinds (defaults_fault rs rules)) (no_fault a a.defaults rows parts.0) (kept_by a rows parts.0) ∙ defaults_pass rules rows parts.1

-- ---- items

pub paths_append : (xs ys : List Item) → paths_of (xs ++ ys) ≡ paths_of xs ++ paths_of ys
paths_append [] ys = refl
paths_append (path word ∷ xs) ys = ap (λ (ps : List Text). word ∷ ps) (paths_append xs ys)
paths_append (option name value ∷ xs) ys = paths_append xs ys

pub values_append : (name : Text) (xs ys : List Item) → values_of name (xs ++ ys) ≡ values_of name xs ++ values_of name ys
values_append name [] ys = refl
values_append name (path word ∷ xs) ys = values_append name xs ys
values_append name (option other value ∷ xs) ys = go (bytes_eq other name) (values_append name xs ys)
  where
    go : (t : Bool) → values_of name (xs ++ ys) ≡ values_of name xs ++ values_of name ys → (if t then value ∷ values_of name (xs ++ ys) else values_of name (xs ++ ys)) ≡ (if t then value ∷ values_of name xs else values_of name xs) ++ values_of name ys
    go true e = ap (λ (vs : List Text). value ∷ vs) e
    go false e = e

is_absent : Option (Option Text) → Bool
is_absent (Some None) = true
is_absent (Some (Some v)) = false
is_absent None = false

is_single : Option (Option Text) → Bool
is_single (Some None) = false
is_single (Some (Some v)) = true
is_single None = false

once_none : (vs : List Text) → once vs ≡ Some None → vs ≡ []
unfolding is_absent
once_none [] e = refl
once_none (v ∷ []) e = absurd (true≢false (sym (ap is_absent e)))
once_none (v ∷ w ∷ vs) e = absurd (true≢false (sym (ap is_absent e)))

once_some : (vs : List Text) (x : Text) → once vs ≡ Some (Some x) → (v : Text) × (vs ≡ v ∷ [])
unfolding is_single
once_some [] x e = absurd (true≢false (sym (ap is_single e)))
once_some (v ∷ []) x e = (v, refl)
once_some (v ∷ w ∷ vs) x e = absurd (true≢false (sym (ap is_single e)))

own_value : (name v : Text) → values_of name (option name v ∷ []) ≡ v ∷ []
own_value name v = rw (same_bytes name) refl

pub only_new : (name v : Text) (acc : List Item) → only name acc ≡ Some None → only name (acc ++ option name v ∷ []) ≡ Some (Some v)
only_new name v acc e = ap once (values_append name acc (option name v ∷ []) ∙ ap₂ (λ (xs ys : List Text). xs ++ ys) (once_none (values_of name acc) e) (own_value name v))

other_value : (name other v : Text) → bytes_eq name other ≡ false → values_of other (option name v ∷ []) ≡ []
other_value name other v f = rw f refl

pub only_kept : (name other v : Text) (acc : List Item) → bytes_eq name other ≡ false → only other (acc ++ option name v ∷ []) ≡ only other acc
only_kept name other v acc f = ap once (values_append other acc (option name v ∷ []) ∙ ap (λ (ys : List Text). values_of other acc ++ ys) (other_value name other v f) ∙ append-nil (values_of other acc))

pub only_path : (other word : Text) (acc : List Item) → only other (acc ++ path word ∷ []) ≡ only other acc
only_path other word acc = ap once (values_append other acc (path word ∷ []) ∙ append-nil (values_of other acc))

more_values_of : (name v : Text) (more : List Item) → values_of name (option name v ∷ more) ≡ v ∷ values_of name more
more_values_of name v more = rw (same_bytes name) refl

pub only_twice : (name v x : Text) (acc more : List Item) → only name acc ≡ Some (Some x) → only name (acc ++ option name v ∷ more) ≡ None
only_twice name v x acc more e =
    let one = once_some (values_of name acc) x e in
    ap once (values_append name acc (option name v ∷ more) ∙ ap₂ (λ (xs ys : List Text). xs ++ ys) one.1 (more_values_of name v more))

-- ---- what was given of options

pub record OptionFits (acc : List Item) (rows : List Row) (name : Text) : Type 0 where
  pub given : Option Text
  pub look : IsLook name rows given
  pub only_is : only name acc ≡ Some given

abbrev pub Fits : List Text → List Item → List Row → Type 0
Fits names acc rows = (name : Text) → is_among names name ≡ true → OptionFits acc rows name

pub fits_option : (names : List Text) (acc : List Item) (rows : List Row) (name v : Text) → Fits names acc rows → IsLook name rows None → only name acc ≡ Some None → Fits names (acc ++ option name v ∷ []) (rows ++ set_row name v ∷ [])
fits_option names acc rows name v fits look none other among = go (bytes_eq name other) refl
  where
    mine : OptionFits (acc ++ option name v ∷ []) (rows ++ set_row name v ∷ []) name
    mine = record { given = Some v; look = look_new name v rows look; only_is = only_new name v acc none }

    go : (t : Bool) → bytes_eq name other ≡ t → OptionFits (acc ++ option name v ∷ []) (rows ++ set_row name v ∷ []) other
    go true e = subst (λ (n : Text). OptionFits (acc ++ option name v ∷ []) (rows ++ set_row name v ∷ []) n) (same_text name other e) mine
    go false e = let old = fits other among in record { given = old.given; look = look_kept name v other rows old.given e old.look; only_is = only_kept name other v acc e ∙ old.only_is }

pub fits_path : (names : List Text) (acc : List Item) (rows : List Row) (id v : Text) → Fits names acc rows → ((other : Text) → is_among names other ≡ true → bytes_eq id other ≡ false) → Fits names (acc ++ path v ∷ []) (rows ++ set_row id v ∷ [])
fits_path names acc rows id v fits apart other among = let old = fits other among in record { given = old.given; look = look_kept id v other rows old.given (apart other among) old.look; only_is = only_path other v acc ∙ old.only_is }
