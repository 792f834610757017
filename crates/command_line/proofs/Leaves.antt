-- The words after a command: where its paths and options are, the parse agrees with them.
use Rattle.std.proofs.Common.{◌≡◌, ℕ, Bool, true, false, List, [], ◌∷◌, ◌++◌, map, refl, ap, ap₂, sym, subst, ◌∙◌, append_assoc, append-nil, inl, inr, Option, Some, None}
use Rattle.std.specs.Prelude.{◌⊎◌, ◌&&◌, fold, ◌||◌, nat_lt, if◌then◌else◌, option_and_then}
use Rattle.std.specs.Str.{bytes_eq}
use Rattle.std.specs.Option.{is_some, option_map, option_map_or}
use Rattle.std.proofs.lemmas.Slice.Eq.{bytes_eq-Decides}
use Rattle.clap.specs.Lexer.{long_of}
use Rattle.clap.specs.Words.{Rule, Row, Text}
use Rattle.clap.specs.Faults.{check_fault, defaults_fault, flag_word_fault, long_fault, option_fault, positional_fault, react_fault, settle_fault, step_fault, stray_fault, turn_fault, use_fault, walk_fault}
use Rattle.clap.specs.Walk.{Held, Names, Step, Waiting, Walk, after_step, arg_by_id, arg_by_index, arg_by_long, finished, idle, is_multiple, is_pending, long_or_other, most_values, next_position, option, plain_word, positional, positional_held, pushed, settled, settled_rows, takes_several, takes_values, to_positional, used, used_by_id, value, walked, with_default}
use Rattle.clap.specs.Walk as walk
use Rattle.clap.specs.Simple.{Shape}
use Rattle.clap.specs.Kinds.{Kinds, or_else}
use Rattle.clap.proofs.OnLiterals.{clap_on_literals}
use Rattle.command_line.specs.Words.{Item, Request, is_among, is_end_of_flags, is_flag, items, known, on, path, with_flag, with_item, with_switch, with_value}
use Rattle.command_line.specs.Words as grammar
use Rattle.clap.specs.declared.error.kind.ErrorKind.TheVariants as kind
use Rattle.command_line.proofs.Flags.{Fails, HasFlags, Spot, at, end_turn, end_walked, fails_first, fails_then, flag_fails, flag_turn, held, other_turn, other_walked, plain_turn, plain_walked}

-- the parse fails where nothing is asked for, and else gives what is asked for
abbrev pub Agrees : Option Request → Kinds → Option Request → Type 0
Agrees None kinds found = Fails kinds
Agrees (Some f) kinds found = (kinds ≡ []) × (found ≡ Some f)

agrees_none : (wanted : Option Request) (kinds : Kinds) (found : Option Request) → wanted ≡ None → Fails kinds → Agrees wanted kinds found
agrees_none wanted kinds found e h = subst (λ (o : Option Request). Agrees o kinds found) (sym e) h

or_none : (kinds : Kinds) → or_else kinds [] ≡ kinds
or_none [] = refl
or_none (kind ∷ kinds) = refl

stray_fails : (s : Shape) → Fails (stray_fault s)
stray_fails s = go s.is_leaf
  where
    go : (b : Bool) → Fails (if b then stray_fault (record s { is_leaf = true }) else stray_fault (record s { is_leaf = false }))
    go true = tt
    go false = tt

-- ---- a rule that takes one value in a use

pub record IsSingle (rules : List Rule) (a : Rule) : Type 0 where
  pub by_id : arg_by_id rules a.id ≡ Some a
  pub one : takes_several a ≡ false
  pub single : is_multiple a ≡ false
  pub trailing : a.trailing_var_arg ≡ false

-- and an option of a name
pub record IsOption (rules : List Rule) (name : Text) (a : Rule) : Type 0 where
  pub by_long : arg_by_long rules name ≡ Some a
  pub by_id : arg_by_id rules name ≡ Some a
  pub id_is : a.id ≡ name
  pub takes : takes_values a ≡ true
  pub most : most_values a ≡ 1
  pub wants : (rows : List Row) → Fails (use_fault false a [] rows)

-- and a switch of a name
pub record IsSwitch (rules : List Rule) (name : Text) (a : Rule) : Type 0 where
  pub by_long : arg_by_long rules name ≡ Some a
  pub takes : takes_values a ≡ false

module _ (leaf : Shape) (shows : List Row → Option Request) (names switches : List Text) (shape : List Item → Option Request) (Good : List Item → ℕ → List Row → Type 0) where
  abbrev pub leaf_level : Kinds → Walk → Kinds
  leaf_level kinds e = or_else kinds (or_else [] (or_else (settle_fault leaf.rules leaf.args_override_self e.held) (or_else (defaults_fault (settled leaf.rules e.held).rows leaf.rules) (check_fault leaf (finished leaf.rules e.held) false))))

  abbrev pub leaf_fault : Walk → List Text → Kinds
  leaf_fault w words = leaf_level (walk_fault leaf [] w words) (fold (walked leaf.rules []) w words)

  abbrev pub leaf_form : Walk → List Text → Option Request
  leaf_form w words = shows (finished leaf.rules (fold (walked leaf.rules []) w words).held)

  abbrev pub leaf_agrees : Option Request → Walk → List Text → Type 0
  leaf_agrees wanted w words = Agrees wanted (leaf_fault w words) (leaf_form w words)

  goes : (wanted : Option Request) (w v : Walk) (word : Text) (words : List Text) → turn_fault leaf [] w word ≡ [] → walked leaf.rules [] w word ≡ v → leaf_agrees wanted v words → leaf_agrees wanted w (word ∷ words)
  unfolding clap_on_literals
  goes wanted w v word words e f h = subst (λ (p : Kinds × Walk). Agrees wanted (leaf_level (or_else p.0 (walk_fault leaf [] p.1 words)) (fold (walked leaf.rules []) p.1 words)) (shows (finished leaf.rules (fold (walked leaf.rules []) p.1 words).held))) (sym (ap₂ (λ (kinds : Kinds) (x : Walk). (kinds, x)) e f)) h

  stops : (wanted : Option Request) (w : Walk) (word : Text) (words : List Text) → wanted ≡ None → Fails (turn_fault leaf [] w word) → leaf_agrees wanted w (word ∷ words)
  unfolding clap_on_literals
  stops wanted w word words none h = agrees_none wanted _ _ none (fails_first _ _ (fails_first _ _ h))

  -- how the use that is pending at a spot fails, and the rows after it
  abbrev settles : Spot → Kinds
  settles k = settle_fault leaf.rules false (held k)

  abbrev after : Spot → List Row
  after k = settled_rows leaf.rules k.pending k.rows

  -- a word goes to a positional argument, or there is none at its position
  abbrev pub Strays : List Item → ℕ → Type 0
  Strays acc place = (arg_by_index leaf.rules place ≡ None) × ((word : Text) (more : List Item) → shape (acc ++ path word ∷ more) ≡ None)

  pub record Takes (acc : List Item) (place : ℕ) (rows : List Row) : Type 0 where
    pub rule : Rule
    pub by_index : arg_by_index leaf.rules place ≡ Some rule
    pub single : IsSingle leaf.rules rule
    pub free : (word : Text) → use_fault false rule (word ∷ []) rows ≡ []
    pub good : (word : Text) → Good (acc ++ path word ∷ []) (next_position rule place) (used rule (word ∷ []) rows)

  -- an option was not used before, or was
  pub record Uses (name : Text) (acc : List Item) (place : ℕ) (rows : List Row) (a : Rule) : Type 0 where
    pub free : (v : Text) → use_fault false a (v ∷ []) rows ≡ []
    pub good : (v : Text) → Good (acc ++ grammar.option name v ∷ []) place (used a (v ∷ []) rows)

  pub record Repeats (name : Text) (acc : List Item) (rows : List Row) (a : Rule) : Type 0 where
    pub fails : (v : Text) → Fails (use_fault false a (v ∷ []) rows)
    pub none : (v : Text) (more : List Item) → shape (acc ++ grammar.option name v ∷ more) ≡ None

  -- a switch was not used before, or was
  pub record Turns (name : Text) (acc : List Item) (place : ℕ) (rows : List Row) (a : Rule) : Type 0 where
    pub free : use_fault false a [] rows ≡ []
    pub good : Good (acc ++ grammar.option name on ∷ []) place (used a [] rows)

  pub record TurnsAgain (name : Text) (acc : List Item) (rows : List Row) (a : Rule) : Type 0 where
    pub fails : Fails (use_fault false a [] rows)
    pub none : (more : List Item) → shape (acc ++ grammar.option name on ∷ more) ≡ None

  -- the name of an option that has a value, and that of a switch
  abbrev pub IsValued : Text → Type 0
  IsValued name = (is_among names name ≡ true) × (is_among switches name ≡ false)

  abbrev pub IsSwitched : Text → Type 0
  IsSwitched name = (is_among names name ≡ true) × (is_among switches name ≡ true)

  pub record IsLeaf : Type 0 where
    pub flags : HasFlags names leaf.rules
    pub once : leaf.args_override_self ≡ false
    pub rule : Text → Rule
    pub switch : Text → Rule
    pub options : (name : Text) → IsValued name → IsOption leaf.rules name (rule name)
    pub switched : (name : Text) → IsSwitched name → IsSwitch leaf.rules name (switch name)
    pub single : (place : ℕ) (a : Rule) → arg_by_index leaf.rules place ≡ Some a → takes_several a ≡ false
    pub paths : (acc : List Item) (place : ℕ) (rows : List Row) → Good acc place rows → Strays acc place ⊎ Takes acc place rows
    pub uses : (name : Text) → IsValued name → (acc : List Item) (place : ℕ) (rows : List Row) → Good acc place rows → Uses name acc place rows (rule name) ⊎ Repeats name acc rows (rule name)
    pub turns : (name : Text) → IsSwitched name → (acc : List Item) (place : ℕ) (rows : List Row) → Good acc place rows → Turns name acc place rows (switch name) ⊎ TurnsAgain name acc rows (switch name)
    pub ends : (acc : List Item) (place : ℕ) (rows : List Row) → Good acc place rows → Agrees (shape acc) (or_else (defaults_fault rows leaf.rules) (check_fault leaf (fold with_default rows leaf.rules) false)) (shows (fold with_default rows leaf.rules))

  -- a parse stands well behind these items, or it fails whatever comes, as nothing is asked for then
  abbrev Stands : List Item → Spot → Type 0
  Stands acc k = ((settles k ≡ []) × Good acc k.position (after k)) ⊎ (Fails (settles k) × ((more : List Item) → shape (acc ++ more) ≡ None))

  module _ (is : IsLeaf) where
    settles_is : (k : Spot) → settle_fault leaf.rules leaf.args_override_self (held k) ≡ settles k
    settles_is k = ap (λ (b : Bool). settle_fault leaf.rules b (held k)) is.once

    -- ---- the end of the words

    end_fails : (wanted : Option Request) (k : Spot) (past : Bool) (wt : Waiting) → wanted ≡ None → Fails (settles k) → leaf_agrees wanted (at k past wt) []
    unfolding clap_on_literals
    end_fails wanted k past wt none h = agrees_none wanted _ _ none (subst (λ (kinds : Kinds). Fails (or_else kinds (or_else (defaults_fault (after k) leaf.rules) (check_fault leaf (finished leaf.rules (held k)) false)))) (sym (settles_is k)) (fails_first _ _ h))

    ends_well : (acc : List Item) (k : Spot) (past : Bool) (wt : Waiting) → settles k ≡ [] → Good acc k.position (after k) → leaf_agrees (shape acc) (at k past wt) []
    unfolding clap_on_literals
    ends_well acc k past wt e g = subst (λ (kinds : Kinds). Agrees (shape acc) (or_else kinds (or_else (defaults_fault (after k) leaf.rules) (check_fault leaf (fold with_default (after k) leaf.rules) false))) (shows (fold with_default (after k) leaf.rules))) (sym (settles_is k ∙ e)) (is.ends acc k.position (after k) g)

    end_at : (acc : List Item) (k : Spot) (past : Bool) (wt : Waiting) → Stands acc k → leaf_agrees (shape acc) (at k past wt) []
    end_at acc k past wt s = elim s [
      | inl good ↦ ends_well acc k past wt good.0 good.1
      | inr bad ↦ end_fails (shape acc) k past wt (ap shape (sym (append-nil acc)) ∙ bad.1 []) bad.0
    ]

    -- ---- a word for a positional argument

    value_fails : (k : Spot) → Fails (settles k) → Fails (step_fault leaf k.position (held k) value)
    value_fails k h = go (arg_by_index leaf.rules k.position) refl
      where
        one : (a : Rule) (pending : Bool) → takes_several a ≡ false → Fails (if pending && takes_several a then [] else settle_fault leaf.rules leaf.args_override_self (held k))
        one a true e = rw e (subst Fails (sym (settles_is k)) h)
        one a false e = subst Fails (sym (settles_is k)) h

        go : (o : Option Rule) → arg_by_index leaf.rules k.position ≡ o → Fails (option_map_or (λ a. positional_fault leaf.rules leaf.args_override_self a (held k)) o (stray_fault leaf))
        go None e = stray_fails leaf
        go (Some a) e = one a (is_pending a k.pending) (is.single k.position a e)

    value_strays : (k : Spot) → arg_by_index leaf.rules k.position ≡ None → Fails (step_fault leaf k.position (held k) value)
    value_strays k e = subst (λ (o : Option Rule). Fails (option_map_or (λ a. positional_fault leaf.rules leaf.args_override_self a (held k)) o (stray_fault leaf))) (sym e) (stray_fails leaf)

    value_passes : (k : Spot) (a : Rule) → arg_by_index leaf.rules k.position ≡ Some a → takes_several a ≡ false → settles k ≡ [] → step_fault leaf k.position (held k) value ≡ []
    value_passes k a e one h = ap (λ (o : Option Rule). option_map_or (λ a. positional_fault leaf.rules leaf.args_override_self a (held k)) o (stray_fault leaf)) e ∙ go (is_pending a k.pending)
      where
        go : (pending : Bool) → (if pending && takes_several a then [] else settle_fault leaf.rules leaf.args_override_self (held k)) ≡ []
        go true = rw one (settles_is k ∙ h)
        go false = settles_is k ∙ h

    -- the spot behind a word that is one more path, or the value of an option
    abbrev pending_at : Spot → Rule → Text → ℕ → Spot
    pending_at k a word place = record { rows = after k; pending = Some (a.id, word ∷ []); position = place }

    held_by : (k : Spot) (a : Rule) (word : Text) → takes_several a ≡ false → positional_held leaf.rules a word (held k) ≡ held (pending_at k a word k.position)
    held_by k a word one = go (is_pending a k.pending)
      where
        go : (pending : Bool) → pushed a.id word (if pending && takes_several a then held k else settled leaf.rules (held k)) ≡ held (pending_at k a word k.position)
        go true = rw one refl
        go false = refl

    moves : (k : Spot) (past : Bool) (wt : Waiting) (a : Rule) (word : Text) → arg_by_index leaf.rules k.position ≡ Some a → IsSingle leaf.rules a
        → to_positional leaf.rules (arg_by_index leaf.rules k.position) word (at k past wt) (held k) ≡ at (pending_at k a word (next_position a k.position)) past idle
    moves k past wt a word e s = ap (λ (o : Option Rule). to_positional leaf.rules o word (at k past wt) (held k)) e ∙ go past
      where
        by : (past : Bool) (h : Held) (multiple trailing : Bool) → h ≡ held (pending_at k a word k.position) → multiple ≡ false → trailing ≡ false
            → record (at k past wt) { held = h; waiting = if multiple then positional else idle; position = next_position a k.position; is_trailing = past || trailing; stopped = None } ≡ at (pending_at k a word (next_position a k.position)) past idle
        by true h multiple trailing e f g = rw (e, f) refl
        by false h multiple trailing e f g = rw (e, f, g) refl

        go : (past : Bool) → to_positional leaf.rules (Some a) word (at k past wt) (held k) ≡ at (pending_at k a word (next_position a k.position)) past idle
        go past = by past _ _ _ (held_by k a word s.one) s.single s.trailing

    -- one use is pending
    pends : (k : Spot) (a : Rule) (word : Text) (place : ℕ) → arg_by_id leaf.rules a.id ≡ Some a
        → (settles (pending_at k a word place) ≡ use_fault false a (word ∷ []) (after k)) × (after (pending_at k a word place) ≡ used a (word ∷ []) (after k))
    pends k a word place e = (ap (λ (o : Option Rule). option_map_or (λ b. use_fault false b (word ∷ []) (after k)) o []) e, ap (λ (o : Option Rule). used_by_id o (word ∷ []) (after k)) e)

    stands_by : (acc : List Item) (k : Spot) (a : Rule) (word : Text) (place : ℕ) → arg_by_id leaf.rules a.id ≡ Some a → use_fault false a (word ∷ []) (after k) ≡ [] → Good acc place (used a (word ∷ []) (after k)) → Stands acc (pending_at k a word place)
    stands_by acc k a word place id e g =
        let p = pends k a word place id in
        inl (p.0 ∙ e, subst (λ (rows : List Row). Good acc place rows) (sym p.1) g)

    -- ---- after two hyphens

    past_turn : (k : Spot) (wt : Waiting) (word : Text) → turn_fault leaf [] (at k true wt) word ≡ step_fault leaf k.position (held k) value
    past_turn k wt word = refl

    past_walked : (k : Spot) (wt : Waiting) (word : Text) → walked leaf.rules [] (at k true wt) word ≡ to_positional leaf.rules (arg_by_index leaf.rules k.position) word (at k true wt) (held k)
    unfolding clap_on_literals
    past_walked k wt word = refl

    past_fails : (wanted : Option Request) (k : Spot) (wt : Waiting) (words : List Text) → wanted ≡ None → Fails (settles k) → leaf_agrees wanted (at k true wt) words
    past_fails wanted k wt [] none h = end_fails wanted k true wt none h
    past_fails wanted k wt (word ∷ words) none h = stops wanted (at k true wt) word words none (subst Fails (sym (past_turn k wt word)) (value_fails k h))

    one_more : (acc : List Item) (item : Item) (more : List Item) → (acc ++ item ∷ []) ++ more ≡ acc ++ item ∷ more
    one_more acc item more = append_assoc acc (item ∷ []) more

    past : (words : List Text) (acc : List Item) (k : Spot) (wt : Waiting) → Stands acc k → leaf_agrees (shape (acc ++ map path words)) (at k true wt) words
    past [] acc k wt s = subst (λ (more : List Item). leaf_agrees (shape more) (at k true wt) []) (sym (append-nil acc)) (end_at acc k true wt s)
    past (word ∷ words) acc k wt s = elim s [
      | inr bad ↦ past_fails (shape (acc ++ path word ∷ map path words)) k wt (word ∷ words) (bad.1 (path word ∷ map path words)) bad.0
      | inl good ↦ elim (is.paths acc k.position (after k) good.1) [
        | inl stray ↦ stops (shape (acc ++ path word ∷ map path words)) (at k true wt) word words (stray.1 word (map path words)) (subst Fails (sym (past_turn k wt word)) (value_strays k stray.0))
        | inr t ↦ goes (shape (acc ++ path word ∷ map path words)) (at k true wt) (at (pending_at k t.rule word (next_position t.rule k.position)) true idle) word words (past_turn k wt word ∙ value_passes k t.rule t.by_index t.single.one good.0) (past_walked k wt word ∙ moves k true wt t.rule word t.by_index t.single)
            (subst (λ (more : List Item). leaf_agrees (shape more) (at (pending_at k t.rule word (next_position t.rule k.position)) true idle) words) (one_more acc (path word) (map path words)) (past words (acc ++ path word ∷ []) (pending_at k t.rule word (next_position t.rule k.position)) idle (stands_by (acc ++ path word ∷ []) k t.rule word (next_position t.rule k.position) t.single.by_id (t.free word) (t.good word))))
      ]
    ]

    -- ---- an option

    -- the spot behind an option of which these values are pending
    abbrev option_at : Spot → Text → List Text → Spot
    option_at k name values = record { rows = after k; pending = Some (name, values); position = k.position }

    -- and behind one whose value was attached to it
    abbrev used_at : Spot → Rule → Text → Spot
    used_at k a v = record { rows = used a (v ∷ []) (after k); pending = None; position = k.position }

    option_settles : (k : Spot) (name : Text) (values : List Text) → IsValued name → settles (option_at k name values) ≡ use_fault false (is.rule name) values (after k)
    option_settles k name values among = ap (λ (o : Option Rule). option_map_or (λ b. use_fault false b values (after k)) o []) (is.options name among).by_id

    option_after : (k : Spot) (name : Text) (values : List Text) → IsValued name → after (option_at k name values) ≡ used (is.rule name) values (after k)
    option_after k name values among = ap (λ (o : Option Rule). used_by_id o values (after k)) (is.options name among).by_id

    wants_fails : (k : Spot) (name : Text) → IsValued name → Fails (settles (option_at k name []))
    wants_fails k name among = subst Fails (sym (option_settles k name [] among)) ((is.options name among).wants (after k))

    flag_is : (k : Spot) (word name : Text) (v : Option Text) → long_of word ≡ Some (name, v) → IsValued name
        → flag_word_fault leaf.rules false (long_of word) word (held k) ≡ option_fault leaf.rules false (is.rule name) v (held k)
    flag_is k word name v e among =
        ap (λ (l : Option (Text × Option Text)). flag_word_fault leaf.rules false l word (held k)) e
        ∙ ap (λ (o : Option Rule). long_fault leaf.rules false o v (held k)) (is.options name among).by_long
        ∙ ap (λ (b : Bool). if b then option_fault leaf.rules false (is.rule name) v (held k) else (if is_some v then kind.TooManyValues ∷ [] else react_fault leaf.rules false (is.rule name) [] (held k))) (is.options name among).takes

    step_is : (k : Spot) (word name : Text) (v : Option Text) → long_of word ≡ Some (name, v) → IsValued name
        → long_or_other leaf.rules idle word (long_of word) (held k) ≡ walk.after_flag leaf.rules idle word (walk.option_met leaf.rules (is.rule name) v (held k)).0 (walk.option_met leaf.rules (is.rule name) v (held k)).1
    step_is k word name v e among =
        ap (λ (l : Option (Text × Option Text)). long_or_other leaf.rules idle word l (held k)) e
        ∙ ap (λ (o : Option Rule). walk.after_flag leaf.rules idle word (walk.long_met leaf.rules o v (held k)).0 (walk.long_met leaf.rules o v (held k)).1) (is.options name among).by_long
        ∙ ap (λ (b : Bool). walk.after_flag leaf.rules idle word (if b then walk.option_met leaf.rules (is.rule name) v (held k) else walk.flag_met leaf.rules (is.rule name) v (held k)).0 (if b then walk.option_met leaf.rules (is.rule name) v (held k) else walk.flag_met leaf.rules (is.rule name) v (held k)).1) (is.options name among).takes

    option_turn : (k : Spot) (word name : Text) (v : Option Text) → is_end_of_flags word ≡ false → long_of word ≡ Some (name, v) → IsValued name → turn_fault leaf [] (at k false idle) word ≡ option_fault leaf.rules false (is.rule name) v (held k)
    option_turn k word name v end e among =
        other_turn leaf [] k idle word refl is.once end
        ∙ ap₂ (λ (kinds : Kinds) (t : Held × Step). or_else kinds (step_fault leaf k.position t.0 t.1)) (flag_is k word name v e among) (step_is k word name v e among)
        ∙ no_more v
      where
        no_more : (v : Option Text) → or_else (option_fault leaf.rules false (is.rule name) v (held k)) (step_fault leaf k.position (walk.after_flag leaf.rules idle word (walk.option_met leaf.rules (is.rule name) v (held k)).0 (walk.option_met leaf.rules (is.rule name) v (held k)).1).0 (walk.after_flag leaf.rules idle word (walk.option_met leaf.rules (is.rule name) v (held k)).0 (walk.option_met leaf.rules (is.rule name) v (held k)).1).1) ≡ option_fault leaf.rules false (is.rule name) v (held k)
        no_more (Some x) = or_none _
        no_more None = or_none _

    option_walked : (k : Spot) (word name : Text) (v : Option Text) → is_end_of_flags word ≡ false → long_of word ≡ Some (name, v) → IsValued name
        → walked leaf.rules [] (at k false idle) word ≡ after_step leaf.rules word (at k false idle) (walk.after_flag leaf.rules idle word (walk.option_met leaf.rules (is.rule name) v (held k)).0 (walk.option_met leaf.rules (is.rule name) v (held k)).1).0 (walk.after_flag leaf.rules idle word (walk.option_met leaf.rules (is.rule name) v (held k)).0 (walk.option_met leaf.rules (is.rule name) v (held k)).1).1
    option_walked k word name v end e among = other_walked leaf.rules [] k idle word refl end ∙ ap (λ (t : Held × Step). after_step leaf.rules word (at k false idle) t.0 t.1) (step_is k word name v e among)

    waiting_is : (k : Spot) (a : Rule) (name : Text) → a.id ≡ name → at (option_at k a.id []) false (option a.id) ≡ at (option_at k name []) false (option name)
    waiting_is k a name e = ap (λ (id : Text). at (option_at k id []) false (option id)) e

    option_fails : (k : Spot) (a : Rule) (v : Option Text) → Fails (settles k) → Fails (option_fault leaf.rules false a v (held k))
    option_fails k a (Some x) h = fails_first _ _ h
    option_fails k a None h = h

    -- ---- a switch

    -- the spot behind it
    abbrev switched_at : Spot → Rule → Spot
    switched_at k a = record { rows = used a [] (after k); pending = None; position = k.position }

    abbrev switch_fault : Rule → Option Text → Spot → Kinds
    switch_fault a v k = if is_some v then kind.TooManyValues ∷ [] else react_fault leaf.rules false a [] (held k)

    switch_is : (k : Spot) (word name : Text) (v : Option Text) → long_of word ≡ Some (name, v) → IsSwitched name
        → flag_word_fault leaf.rules false (long_of word) word (held k) ≡ switch_fault (is.switch name) v k
    switch_is k word name v e among =
        ap (λ (l : Option (Text × Option Text)). flag_word_fault leaf.rules false l word (held k)) e
        ∙ ap (λ (o : Option Rule). long_fault leaf.rules false o v (held k)) (is.switched name among).by_long
        ∙ ap (λ (b : Bool). if b then option_fault leaf.rules false (is.switch name) v (held k) else switch_fault (is.switch name) v k) (is.switched name among).takes

    switch_step : (k : Spot) (word name : Text) (v : Option Text) → long_of word ≡ Some (name, v) → IsSwitched name
        → long_or_other leaf.rules idle word (long_of word) (held k) ≡ walk.after_flag leaf.rules idle word (walk.flag_met leaf.rules (is.switch name) v (held k)).0 (walk.flag_met leaf.rules (is.switch name) v (held k)).1
    switch_step k word name v e among =
        ap (λ (l : Option (Text × Option Text)). long_or_other leaf.rules idle word l (held k)) e
        ∙ ap (λ (o : Option Rule). walk.after_flag leaf.rules idle word (walk.long_met leaf.rules o v (held k)).0 (walk.long_met leaf.rules o v (held k)).1) (is.switched name among).by_long
        ∙ ap (λ (b : Bool). walk.after_flag leaf.rules idle word (if b then walk.option_met leaf.rules (is.switch name) v (held k) else walk.flag_met leaf.rules (is.switch name) v (held k)).0 (if b then walk.option_met leaf.rules (is.switch name) v (held k) else walk.flag_met leaf.rules (is.switch name) v (held k)).1) (is.switched name among).takes

    -- it has no value
    switch_refused : (k : Spot) (word name v : Text) → is_end_of_flags word ≡ false → long_of word ≡ Some (name, Some v) → IsSwitched name → Fails (turn_fault leaf [] (at k false idle) word)
    switch_refused k word name v end e among = subst Fails (sym (other_turn leaf [] k idle word refl is.once end)) (fails_first _ _ (subst Fails (sym (switch_is k word name (Some v) e among)) tt))

    switch_turn : (k : Spot) (word name : Text) → is_end_of_flags word ≡ false → long_of word ≡ Some (name, None) → IsSwitched name
        → turn_fault leaf [] (at k false idle) word ≡ or_else (settles k) (use_fault false (is.switch name) [] (after k))
    switch_turn k word name end e among =
        other_turn leaf [] k idle word refl is.once end
        ∙ ap₂ (λ (kinds : Kinds) (t : Held × Step). or_else kinds (step_fault leaf k.position t.0 t.1)) (switch_is k word name None e among) (switch_step k word name None e among)
        ∙ or_none _

    switch_walked : (k : Spot) (word name : Text) → is_end_of_flags word ≡ false → long_of word ≡ Some (name, None) → IsSwitched name → walked leaf.rules [] (at k false idle) word ≡ at (switched_at k (is.switch name)) false idle
    switch_walked k word name end e among = other_walked leaf.rules [] k idle word refl end ∙ ap (λ (t : Held × Step). after_step leaf.rules word (at k false idle) t.0 t.1) (switch_step k word name None e among)

    switch_fails : (k : Spot) (a : Rule) (v : Option Text) → Fails (settles k) → Fails (switch_fault a v k)
    switch_fails k a (Some x) h = tt
    switch_fails k a None h = fails_first _ _ h

    -- ---- before two hyphens

    -- what is asked for, by the items so far and those that are left
    abbrev wanted : List Item → Option (List Item) → Option Request
    wanted acc left = option_and_then shape (option_map (λ more. acc ++ more) left)

    wanted_item : (acc : List Item) (item : Item) (left : Option (List Item)) → wanted (acc ++ item ∷ []) left ≡ wanted acc (with_item item left)
    wanted_item acc item None = refl
    wanted_item acc item (Some more) = ap shape (one_more acc item more)

    abbrev Free : List Text → Type 0
    Free words = (acc : List Item) (k : Spot) → Stands acc k → leaf_agrees (wanted acc (items names switches None words)) (at k false idle) words

    abbrev Waits : List Text → Type 0
    Waits words = (acc : List Item) (k : Spot) (name : Text) → IsValued name → settles k ≡ [] → Good acc k.position (after k) → leaf_agrees (wanted acc (items names switches (Some name) words)) (at (option_at k name []) false (option name)) words

    as_items : (acc : List Item) (left mine : Option (List Item)) (w : Walk) (words : List Text) → mine ≡ left → leaf_agrees (wanted acc left) w words → leaf_agrees (wanted acc mine) w words
    as_items acc left mine w words e h = subst (λ (o : Option (List Item)). leaf_agrees (wanted acc o) w words) (sym e) h

    -- a path
    free_path : (word : Text) (words : List Text) → Free words → is_flag word ≡ false → (acc : List Item) (k : Spot) → Stands acc k → leaf_agrees (wanted acc (with_item (path word) (items names switches None words))) (at k false idle) (word ∷ words)
    free_path word words free flag acc k s = subst (λ (o : Option Request). leaf_agrees o (at k false idle) (word ∷ words)) (wanted_item acc (path word) (items names switches None words)) (elim s [
      | inr bad ↦ stops (wanted (acc ++ path word ∷ []) (items names switches None words)) (at k false idle) word words (nothing acc bad.1 (items names switches None words)) (subst Fails (sym turn) (value_fails k bad.0))
      | inl good ↦ elim (is.paths acc k.position (after k) good.1) [
        | inl stray ↦ stops (wanted (acc ++ path word ∷ []) (items names switches None words)) (at k false idle) word words (no_room acc stray.1 (items names switches None words)) (subst Fails (sym turn) (value_strays k stray.0))
        | inr t ↦ goes (wanted (acc ++ path word ∷ []) (items names switches None words)) (at k false idle) (at (pending_at k t.rule word (next_position t.rule k.position)) false idle) word words (turn ∙ value_passes k t.rule t.by_index t.single.one good.0) (plain_walked leaf.rules [] k idle word refl flag ∙ moves k false idle t.rule word t.by_index t.single)
            (free (acc ++ path word ∷ []) (pending_at k t.rule word (next_position t.rule k.position)) (stands_by (acc ++ path word ∷ []) k t.rule word (next_position t.rule k.position) t.single.by_id (t.free word) (t.good word)))
      ]
    ])
      where
        turn : turn_fault leaf [] (at k false idle) word ≡ step_fault leaf k.position (held k) value
        turn = plain_turn leaf [] k idle word refl is.once flag

        nothing : (acc : List Item) → ((more : List Item) → shape (acc ++ more) ≡ None) → (left : Option (List Item)) → wanted (acc ++ path word ∷ []) left ≡ None
        nothing acc none None = refl
        nothing acc none (Some more) = ap shape (one_more acc (path word) more) ∙ none (path word ∷ more)

        no_room : (acc : List Item) → ((word : Text) (more : List Item) → shape (acc ++ path word ∷ more) ≡ None) → (left : Option (List Item)) → wanted (acc ++ path word ∷ []) left ≡ None
        no_room acc none None = refl
        no_room acc none (Some more) = ap shape (one_more acc (path word) more) ∙ none word more

    repeated : (acc : List Item) (item : Item) → ((more : List Item) → shape (acc ++ item ∷ more) ≡ None) → (left : Option (List Item)) → wanted (acc ++ item ∷ []) left ≡ None
    repeated acc item none None = refl
    repeated acc item none (Some more) = ap shape (one_more acc item more) ∙ none more

    hopeless : (acc : List Item) → ((more : List Item) → shape (acc ++ more) ≡ None) → (left : Option (List Item)) → wanted acc left ≡ None
    hopeless acc none None = refl
    hopeless acc none (Some more) = none more

    -- an option with its value attached
    free_given : (word : Text) (words : List Text) → Free words → (name v : Text) → is_end_of_flags word ≡ false → long_of word ≡ Some (name, Some v) → IsValued name
        → (acc : List Item) (k : Spot) → Stands acc k → leaf_agrees (wanted acc (with_item (grammar.option name v) (items names switches None words))) (at k false idle) (word ∷ words)
    free_given word words free name v end e among acc k s = subst (λ (o : Option Request). leaf_agrees o (at k false idle) (word ∷ words)) (wanted_item acc (grammar.option name v) (items names switches None words)) (elim s [
      | inr bad ↦ stops (wanted (acc ++ grammar.option name v ∷ []) (items names switches None words)) (at k false idle) word words (repeated acc (grammar.option name v) (λ more. bad.1 (grammar.option name v ∷ more)) (items names switches None words)) (subst Fails (sym turn) (fails_first _ _ bad.0))
      | inl good ↦ elim (is.uses name among acc k.position (after k) good.1) [
        | inr r ↦ stops (wanted (acc ++ grammar.option name v ∷ []) (items names switches None words)) (at k false idle) word words (repeated acc (grammar.option name v) (r.none v) (items names switches None words)) (subst Fails (sym turn) (fails_then _ _ (r.fails v)))
        | inl u ↦ goes (wanted (acc ++ grammar.option name v ∷ []) (items names switches None words)) (at k false idle) (at (used_at k (is.rule name) v) false idle) word words (turn ∙ ap₂ (λ (a b : Kinds). or_else a b) good.0 (u.free v)) (option_walked k word name (Some v) end e among)
            (free (acc ++ grammar.option name v ∷ []) (used_at k (is.rule name) v) (inl (refl, u.good v)))
      ]
    ])
      where
        turn : turn_fault leaf [] (at k false idle) word ≡ or_else (settles k) (use_fault false (is.rule name) (v ∷ []) (after k))
        turn = option_turn k word name (Some v) end e among

    -- an option that waits for its value
    free_waits : (word : Text) (words : List Text) → Waits words → (name : Text) → is_end_of_flags word ≡ false → long_of word ≡ Some (name, None) → IsValued name
        → (acc : List Item) (k : Spot) → Stands acc k → leaf_agrees (wanted acc (items names switches (Some name) words)) (at k false idle) (word ∷ words)
    free_waits word words waits name end e among acc k s = elim s [
      | inr bad ↦ stops (wanted acc (items names switches (Some name) words)) (at k false idle) word words (hopeless acc bad.1 (items names switches (Some name) words)) (subst Fails (sym turn) bad.0)
      | inl good ↦ goes (wanted acc (items names switches (Some name) words)) (at k false idle) (at (option_at k name []) false (option name)) word words (turn ∙ good.0) (option_walked k word name None end e among ∙ waiting_is k (is.rule name) name (is.options name among).id_is) (waits acc k name among good.0 good.1)
    ]
      where
        turn : turn_fault leaf [] (at k false idle) word ≡ settles k
        turn = option_turn k word name None end e among

    -- a switch
    free_switch : (word : Text) (words : List Text) → Free words → (name : Text) → is_end_of_flags word ≡ false → long_of word ≡ Some (name, None) → IsSwitched name
        → (acc : List Item) (k : Spot) → Stands acc k → leaf_agrees (wanted acc (with_item (grammar.option name on) (items names switches None words))) (at k false idle) (word ∷ words)
    free_switch word words free name end e among acc k s = subst (λ (o : Option Request). leaf_agrees o (at k false idle) (word ∷ words)) (wanted_item acc (grammar.option name on) (items names switches None words)) (elim s [
      | inr bad ↦ stops (wanted (acc ++ grammar.option name on ∷ []) (items names switches None words)) (at k false idle) word words (repeated acc (grammar.option name on) (λ more. bad.1 (grammar.option name on ∷ more)) (items names switches None words)) (subst Fails (sym turn) (fails_first _ _ bad.0))
      | inl good ↦ elim (is.turns name among acc k.position (after k) good.1) [
        | inr r ↦ stops (wanted (acc ++ grammar.option name on ∷ []) (items names switches None words)) (at k false idle) word words (repeated acc (grammar.option name on) r.none (items names switches None words)) (subst Fails (sym turn) (fails_then _ _ r.fails))
        | inl u ↦ goes (wanted (acc ++ grammar.option name on ∷ []) (items names switches None words)) (at k false idle) (at (switched_at k (is.switch name)) false idle) word words (turn ∙ ap₂ (λ (a b : Kinds). or_else a b) good.0 u.free) (switch_walked k word name end e among)
            (free (acc ++ grammar.option name on ∷ []) (switched_at k (is.switch name)) (inl (refl, u.good)))
      ]
    ])
      where
        turn : turn_fault leaf [] (at k false idle) word ≡ or_else (settles k) (use_fault false (is.switch name) [] (after k))
        turn = switch_turn k word name end e among

    -- a word that is a flag
    free_flag : (word : Text) (words : List Text) → Free words → Waits words → is_end_of_flags word ≡ false → is_flag word ≡ true → (acc : List Item) (k : Spot) → Stands acc k
        → leaf_agrees (wanted acc (with_flag switches (known names (long_of word)) (λ waiting. items names switches waiting words))) (at k false idle) (word ∷ words)
    free_flag word words free waits end flag acc k s = go (long_of word) refl
      where
        refused : known names (long_of word) ≡ None → leaf_agrees (wanted acc (with_flag switches (known names (long_of word)) (λ waiting. items names switches waiting words))) (at k false idle) (word ∷ words)
        refused none = stops _ (at k false idle) word words (ap (λ (o : Option (Text × Option Text)). wanted acc (with_flag switches o (λ waiting. items names switches waiting words))) none) (flag_turn leaf [] names k word refl is.flags is.once flag end none)

        by_value : (name : Text) (v : Option Text) → long_of word ≡ Some (name, v) → IsValued name → leaf_agrees (wanted acc (with_value name v (λ waiting. items names switches waiting words))) (at k false idle) (word ∷ words)
        by_value name (Some v) e among = free_given word words free name v end e among acc k s
        by_value name None e among = free_waits word words waits name end e among acc k s

        by_switch : (name : Text) (v : Option Text) → long_of word ≡ Some (name, v) → IsSwitched name → leaf_agrees (wanted acc (with_switch name v (λ waiting. items names switches waiting words))) (at k false idle) (word ∷ words)
        by_switch name (Some v) e among = stops (wanted acc None) (at k false idle) word words refl (switch_refused k word name v end e among)
        by_switch name None e among = free_switch word words free name end e among acc k s

        by_name : (p : Text × Option Text) → long_of word ≡ Some p → (t u : Bool) → is_among names p.0 ≡ t → is_among switches p.0 ≡ u → leaf_agrees (wanted acc (with_flag switches (known names (long_of word)) (λ waiting. items names switches waiting words))) (at k false idle) (word ∷ words)
        by_name p e false u f g = refused (ap (known names) e ∙ rw f refl)
        by_name p e true false f g = as_items acc (with_value p.0 p.1 (λ waiting. items names switches waiting words)) (with_flag switches (known names (long_of word)) (λ waiting. items names switches waiting words)) (at k false idle) (word ∷ words) (ap (λ (o : Option (Text × Option Text)). with_flag switches (known names o) (λ waiting. items names switches waiting words)) e ∙ rw (f, g) refl) (by_value p.0 p.1 e (f, g))
        by_name p e true true f g = as_items acc (with_switch p.0 p.1 (λ waiting. items names switches waiting words)) (with_flag switches (known names (long_of word)) (λ waiting. items names switches waiting words)) (at k false idle) (word ∷ words) (ap (λ (o : Option (Text × Option Text)). with_flag switches (known names o) (λ waiting. items names switches waiting words)) e ∙ rw (f, g) refl) (by_switch p.0 p.1 e (f, g))

        go : (l : Option (Text × Option Text)) → long_of word ≡ l → leaf_agrees (wanted acc (with_flag switches (known names (long_of word)) (λ waiting. items names switches waiting words))) (at k false idle) (word ∷ words)
        go None e = refused (ap (known names) e)
        go (Some p) e = by_name p e (is_among names p.0) (is_among switches p.0) refl refl

    items_end : (word : Text) (words : List Text) → is_end_of_flags word ≡ true → items names switches None (word ∷ words) ≡ Some (map path words)
    items_end word words e = rw e refl

    items_flag : (word : Text) (words : List Text) → is_end_of_flags word ≡ false → is_flag word ≡ true → items names switches None (word ∷ words) ≡ with_flag switches (known names (long_of word)) (λ waiting. items names switches waiting words)
    items_flag word words e f = rw (e, f) refl

    items_path : (word : Text) (words : List Text) → is_end_of_flags word ≡ false → is_flag word ≡ false → items names switches None (word ∷ words) ≡ with_item (path word) (items names switches None words)
    items_path word words e f = rw (e, f) refl

    free_step : (word : Text) (words : List Text) → Free words → Waits words → Free (word ∷ words)
    free_step word words free waits acc k s = go (is_end_of_flags word) (is_flag word) refl refl
      where
        go : (e f : Bool) → is_end_of_flags word ≡ e → is_flag word ≡ f → leaf_agrees (wanted acc (items names switches None (word ∷ words))) (at k false idle) (word ∷ words)
        go true f e g = as_items acc (Some (map path words)) (items names switches None (word ∷ words)) (at k false idle) (word ∷ words) (items_end word words e) (goes (shape (acc ++ map path words)) (at k false idle) (at k true idle) word words (end_turn leaf [] k idle word refl e) (end_walked leaf.rules [] k idle word refl e) (past words acc k idle s))
        go false true e g = as_items acc _ (items names switches None (word ∷ words)) (at k false idle) (word ∷ words) (items_flag word words e g) (free_flag word words free waits e g acc k s)
        go false false e g = as_items acc _ (items names switches None (word ∷ words)) (at k false idle) (word ∷ words) (items_path word words e g) (free_path word words free g acc k s)

    free_end : Free []
    free_end acc k s = subst (λ (more : List Item). leaf_agrees (shape more) (at k false idle) []) (sym (append-nil acc)) (end_at acc k false idle s)

    -- ---- the value of an option

    waits_end : Waits []
    waits_end acc k name among e g = end_fails None (option_at k name []) false (option name) refl (wants_fails k name among)

    -- what looks like a flag is none
    waits_flag : (word : Text) (words : List Text) → is_flag word ≡ true → (acc : List Item) (k : Spot) (name : Text) → IsValued name → leaf_agrees None (at (option_at k name []) false (option name)) (word ∷ words)
    waits_flag word words flag acc k name among = by_end (is_end_of_flags word) refl
      where
        mine : Spot
        mine = option_at k name []

        fails : Fails (settles mine)
        fails = wants_fails k name among

        refused : is_end_of_flags word ≡ false → Fails (flag_word_fault leaf.rules false (long_of word) word (held mine))
        refused end = go (long_of word) refl
          where
            by_name : (p : Text × Option Text) → long_of word ≡ Some p → (t u : Bool) → is_among names p.0 ≡ t → is_among switches p.0 ≡ u → Fails (flag_word_fault leaf.rules false (long_of word) word (held mine))
            by_name p e false u f g = flag_fails names leaf.rules is.flags mine word flag end (ap (known names) e ∙ rw f refl)
            by_name p e true false f g = subst Fails (sym (flag_is mine word p.0 p.1 e (f, g))) (option_fails mine (is.rule p.0) p.1 fails)
            by_name p e true true f g = subst Fails (sym (switch_is mine word p.0 p.1 e (f, g))) (switch_fails mine (is.switch p.0) p.1 fails)

            go : (l : Option (Text × Option Text)) → long_of word ≡ l → Fails (flag_word_fault leaf.rules false (long_of word) word (held mine))
            go None e = flag_fails names leaf.rules is.flags mine word flag end (ap (known names) e)
            go (Some p) e = by_name p e (is_among names p.0) (is_among switches p.0) refl refl

        by_end : (t : Bool) → is_end_of_flags word ≡ t → leaf_agrees None (at mine false (option name)) (word ∷ words)
        by_end true e = goes None (at mine false (option name)) (at mine true (option name)) word words (end_turn leaf [] mine (option name) word refl e) (end_walked leaf.rules [] mine (option name) word refl e) (past_fails None mine (option name) words refl fails)
        by_end false e = stops None (at mine false (option name)) word words refl (subst Fails (sym (other_turn leaf [] mine (option name) word refl is.once e)) (fails_first _ _ (refused e)))

    same_bytes : (name : Text) → bytes_eq name name ≡ true
    same_bytes name = (bytes_eq-Decides name name).1 refl

    value_met : (k : Spot) (word name : Text) → IsValued name → at (option_at k name (word ∷ [])) false (if nat_lt (walk.pending_count (is.rule name) (Some (name, word ∷ []))) (most_values (is.rule name)) then option name else idle) ≡ at (option_at k name (word ∷ [])) false idle
    value_met k word name among = ap (λ (wt : Waiting). at (option_at k name (word ∷ [])) false wt) (by (bytes_eq name (is.rule name).id) (most_values (is.rule name)) (ap (bytes_eq name) (is.options name among).id_is ∙ same_bytes name) (is.options name among).most)
      where
        by : (same : Bool) (most : ℕ) → same ≡ true → most ≡ 1 → (if nat_lt (if same then 1 else 0) most then option name else idle) ≡ idle
        by same most e f = rw (e, f) refl

    value_walked : (k : Spot) (word name : Text) → IsValued name → is_flag word ≡ false → walked leaf.rules [] (at (option_at k name []) false (option name)) word ≡ at (option_at k name (word ∷ [])) false idle
    value_walked k word name among flag =
        plain_walked leaf.rules [] (option_at k name []) (option name) word refl flag
        ∙ ap (λ (o : Option Rule). record (at (option_at k name []) false (option name)) { held = (walk.option_word o name word (held (option_at k name []))).0; waiting = (walk.option_word o name word (held (option_at k name []))).1 }) (is.options name among).by_id
        ∙ value_met k word name among

    waits_value : (word : Text) (words : List Text) → Free words → is_flag word ≡ false → (acc : List Item) (k : Spot) (name : Text) → IsValued name → settles k ≡ [] → Good acc k.position (after k)
        → leaf_agrees (wanted acc (with_item (grammar.option name word) (items names switches None words))) (at (option_at k name []) false (option name)) (word ∷ words)
    waits_value word words free flag acc k name among e g = subst (λ (o : Option Request). leaf_agrees o (at (option_at k name []) false (option name)) (word ∷ words)) (wanted_item acc (grammar.option name word) (items names switches None words))
        (goes (wanted (acc ++ grammar.option name word ∷ []) (items names switches None words)) (at (option_at k name []) false (option name)) (at (option_at k name (word ∷ [])) false idle) word words (plain_turn leaf [] (option_at k name []) (option name) word refl is.once flag) (value_walked k word name among flag)
        (free (acc ++ grammar.option name word ∷ []) (option_at k name (word ∷ [])) stands))
      where
        stands : Stands (acc ++ grammar.option name word ∷ []) (option_at k name (word ∷ []))
        stands = elim (is.uses name among acc k.position (after k) g) [
          | inl u ↦ inl (option_settles k name (word ∷ []) among ∙ u.free word, subst (λ (rows : List Row). Good (acc ++ grammar.option name word ∷ []) k.position rows) (sym (option_after k name (word ∷ []) among)) (u.good word))
          | inr r ↦ inr (subst Fails (sym (option_settles k name (word ∷ []) among)) (r.fails word), λ more. ap shape (one_more acc (grammar.option name word) more) ∙ r.none word more)
        ]

    waits_step : (word : Text) (words : List Text) → Free words → Waits (word ∷ words)
    waits_step word words free acc k name among e g = go (is_flag word) refl
      where
        go : (t : Bool) → is_flag word ≡ t → leaf_agrees (wanted acc (items names switches (Some name) (word ∷ words))) (at (option_at k name []) false (option name)) (word ∷ words)
        go true f = as_items acc None (items names switches (Some name) (word ∷ words)) (at (option_at k name []) false (option name)) (word ∷ words) (rw f refl) (waits_flag word words f acc k name among)
        go false f = as_items acc (with_item (grammar.option name word) (items names switches None words)) (items names switches (Some name) (word ∷ words)) (at (option_at k name []) false (option name)) (word ∷ words) (rw f refl) (waits_value word words free f acc k name among e g)

    both : (words : List Text) → Free words × Waits words
    both [] = (free_end, waits_end)
    both (word ∷ words) = let below = both words in (free_step word words below.0 below.1, waits_step word words below.0)

    -- from any spot, what the parse gives is what is asked for
    pub agrees_from : (words : List Text) → Free words
    agrees_from words = (both words).0
