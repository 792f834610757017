-- Commands with one path or two.
use Rattle.std.proofs.Common.{◌≡◌, ℕ, Bool, true, false, List, [], ◌∷◌, ◌++◌, refl, ap, ap₂, sym, subst, ◌∙◌, codes, append-nil, true≢false, inl, inr, Option, Some, None}
use Rattle.std.specs.Prelude.{◌⊎◌, ◌&&◌, ◌+◌, fold, min, if◌then◌else◌}
use Rattle.std.specs.List.{list_all}
use Rattle.std.specs.Str.{bytes_eq}
use Rattle.clap.specs.Lexer.{usize_max}
use Rattle.clap.specs.Words.{Rule, Row, Text}
use Rattle.clap.specs.Takes.{is_given}
use Rattle.clap.specs.Faults.{check_fault, defaults_fault}
use Rattle.clap.specs.Walk.{arg_by_id, arg_by_index, arg_by_long, next_position, takes_several, with_default}
use Rattle.clap.specs.Simple.{Shape}
use Rattle.clap.specs.Kinds.{Kinds, or_else}
use Rattle.clap.specs.declared.error.kind.ErrorKind.TheVariants as kind
use Rattle.clap.proofs.OnLiterals.{clap_on_literals}
use Rattle.command_line.specs.Words.{Item, Request, is_among, on, only, option, path, paths_of}
use Rattle.command_line.proofs.Flags.{Fails, HasFlags}
use Rattle.command_line.proofs.Leaves.{Agrees, IsOption, IsLeaf, IsSwitch, Repeats, Strays, Takes, Turns, TurnsAgain, Uses}
use Rattle.command_line.proofs.Rows.{Fits, IsLook, defaults_kept, defaults_pass, fits_option, fits_path, given_is, has_none, look_kept, look_new, only_twice, option_again, option_free, option_of, option_used, option_wants, path_at, path_free, path_used, paths_append, set_row, switch_again, switch_free, switch_of, switch_used}

abbrev pub first : Text
first = codes "INSTANCE"

-- ---- what every such command has

pub record HasOptions (leaf : Shape) (names switches : List Text) (shape : List Item → Option Request) : Type 0 where
  pub flags : HasFlags names leaf.rules
  pub once : leaf.args_override_self ≡ false
  pub by_long : (name : Text) → is_among names name ≡ true → is_among switches name ≡ false → arg_by_long leaf.rules name ≡ Some (option_of name)
  pub by_id : (name : Text) → is_among names name ≡ true → is_among switches name ≡ false → arg_by_id leaf.rules name ≡ Some (option_of name)
  pub switched : (name : Text) → is_among names name ≡ true → is_among switches name ≡ true → arg_by_long leaf.rules name ≡ Some (switch_of name)
  pub single : (place : ℕ) (a : Rule) → arg_by_index leaf.rules place ≡ Some a → takes_several a ≡ false
  pub plain : list_all has_none leaf.rules ≡ true
  -- an option that is given twice
  pub twice : (name : Text) (acc : List Item) → is_among names name ≡ true → only name acc ≡ None → shape acc ≡ None

options_are : (leaf : Shape) (names switches : List Text) (shape : List Item → Option Request) → HasOptions leaf names switches shape → (name : Text) → (is_among names name ≡ true) × (is_among switches name ≡ false) → IsOption leaf.rules name (option_of name)
unfolding clap_on_literals
options_are leaf names switches shape has name among = record { by_long = has.by_long name among.0 among.1; by_id = has.by_id name among.0 among.1; id_is = refl; takes = refl; most = refl; wants = λ rows. option_wants name rows }

switches_are : (leaf : Shape) (names switches : List Text) (shape : List Item → Option Request) → HasOptions leaf names switches shape → (name : Text) → (is_among names name ≡ true) × (is_among switches name ≡ true) → IsSwitch leaf.rules name (switch_of name)
unfolding clap_on_literals
switches_are leaf names switches shape has name among = record { by_long = has.switched name among.0 among.1; takes = refl }

checked_by : (leaf : Shape) (rows : List Row) (shows : List Row → Option Request) (wanted : Option Request) → list_all has_none leaf.rules ≡ true → Agrees wanted (check_fault leaf rows false) (shows rows)
    → Agrees wanted (or_else (defaults_fault rows leaf.rules) (check_fault leaf (fold with_default rows leaf.rules) false)) (shows (fold with_default rows leaf.rules))
checked_by leaf rows shows wanted plain h = subst (λ (p : Kinds × List Row). Agrees wanted (or_else p.0 (check_fault leaf p.1 false)) (shows p.1)) (sym (ap₂ (λ (kinds : Kinds) (rs : List Row). (kinds, rs)) (defaults_pass leaf.rules rows plain) (defaults_kept leaf.rules rows plain))) h

one_path_more : (acc : List Item) (word : Text) (ps : List Text) → paths_of acc ≡ ps → paths_of (acc ++ path word ∷ []) ≡ ps ++ word ∷ []
one_path_more acc word ps e = paths_append acc (path word ∷ []) ∙ ap (λ (xs : List Text). xs ++ word ∷ []) e

same_paths : (acc : List Item) (name v : Text) → paths_of (acc ++ option name v ∷ []) ≡ paths_of acc
same_paths acc name v = paths_append acc (option name v ∷ []) ∙ append-nil (paths_of acc)

-- ---- two paths

-- the paths so far, and the place of the next
abbrev Placed : Text → List Text → ℕ → List Row → Type 0
Placed second [] place rows = (place ≡ 1) × IsLook first rows None × IsLook second rows None
Placed second (a ∷ []) place rows = (place ≡ 2) × IsLook first rows (Some a) × IsLook second rows None
Placed second (a ∷ b ∷ []) place rows = (place ≡ 3) × IsLook first rows (Some a) × IsLook second rows (Some b)
Placed second _ place rows = ⊥

pub record Good (names : List Text) (second : Text) (acc : List Item) (place : ℕ) (rows : List Row) : Type 0 where
  pub fits : Fits names acc rows
  pub placed : Placed second (paths_of acc) place rows

pub record IsTwo (leaf : Shape) (shows : List Row → Option Request) (names switches : List Text) (second : Text) (shape : List Item → Option Request) : Type 0 where
  pub has : HasOptions leaf names switches shape
  pub at_first : arg_by_index leaf.rules 1 ≡ Some (path_at 1 first)
  pub at_second : arg_by_index leaf.rules 2 ≡ Some (path_at 2 second)
  pub at_third : arg_by_index leaf.rules 3 ≡ None
  pub first_id : arg_by_id leaf.rules first ≡ Some (path_at 1 first)
  pub second_id : arg_by_id leaf.rules second ≡ Some (path_at 2 second)
  pub apart : bytes_eq first second ≡ false
  pub apart_too : bytes_eq second first ≡ false
  pub no_first : (name : Text) → is_among names name ≡ true → (bytes_eq first name ≡ false) × (bytes_eq name first ≡ false)
  pub no_second : (name : Text) → is_among names name ≡ true → (bytes_eq second name ≡ false) × (bytes_eq name second ≡ false)
  pub checks : (rows : List Row) (b c : Bool) → is_given first rows ≡ b → is_given second rows ≡ c → check_fault leaf rows false ≡ (if b && c then [] else kind.MissingRequiredArgument ∷ [])
  pub none : (acc : List Item) → paths_of acc ≡ [] → shape acc ≡ None
  pub one : (acc : List Item) (a : Text) → paths_of acc ≡ a ∷ [] → shape acc ≡ None
  pub many : (acc : List Item) (a b c : Text) (more : List Text) → paths_of acc ≡ a ∷ b ∷ c ∷ more → shape acc ≡ None
  pub whole : (acc : List Item) (a b : Text) (rows : List Row) → paths_of acc ≡ a ∷ b ∷ [] → Fits names acc rows → IsLook first rows (Some a) → IsLook second rows (Some b) → (r : Request) × (shape acc ≡ Some r) × (shows rows ≡ Some r)

module _ (leaf : Shape) (shows : List Row → Option Request) (names switches : List Text) (second : Text) (shape : List Item → Option Request) (is : IsTwo leaf shows names switches second shape) where
  abbrev pub good : List Item → ℕ → List Row → Type 0
  good = Good names second

  placed_kept : (name v : Text) (ps : List Text) (place : ℕ) (rows : List Row) → bytes_eq name first ≡ false → bytes_eq name second ≡ false → Placed second ps place rows → Placed second ps place (rows ++ set_row name v ∷ [])
  placed_kept name v [] place rows e f p = (p.0, look_kept name v first rows None e p.1, look_kept name v second rows None f p.2)
  placed_kept name v (a ∷ []) place rows e f p = (p.0, look_kept name v first rows (Some a) e p.1, look_kept name v second rows None f p.2)
  placed_kept name v (a ∷ b ∷ []) place rows e f p = (p.0, look_kept name v first rows (Some a) e p.1, look_kept name v second rows (Some b) f p.2)
  placed_kept name v (a ∷ b ∷ c ∷ more) place rows e f p = absurd p

  next : (i place : ℕ) (id : Text) → place ≡ i → next_position (path_at i id) place ≡ min (i + 1) usize_max
  unfolding clap_on_literals
  next i place id e = ap (λ (p : ℕ). min (p + 1) usize_max) e

  takes_first : (acc : List Item) (place : ℕ) (rows : List Row) → Fits names acc rows → paths_of acc ≡ [] → Placed second [] place rows → Takes leaf shows names switches shape good acc place rows
  unfolding clap_on_literals
  takes_first acc place rows fits e p = record {
    rule = path_at 1 first;
    by_index = ap (arg_by_index leaf.rules) p.0 ∙ is.at_first;
    single = record { by_id = is.first_id; one = refl; single = refl; trailing = refl };
    free = λ word. path_free 1 first word rows p.1;
    good = λ word. subst (λ (rs : List Row). good (acc ++ path word ∷ []) (next_position (path_at 1 first) place) rs) (sym (path_used 1 first word rows p.1)) (record {
      fits = fits_path names acc rows first word fits (λ other among. (is.no_first other among).0);
      placed = subst (λ (ps : List Text). Placed second ps (next_position (path_at 1 first) place) (rows ++ set_row first word ∷ [])) (sym (one_path_more acc word [] e)) (next 1 place first p.0, look_new first word rows p.1, look_kept first word second rows None is.apart p.2);
    });
  }

  takes_second : (acc : List Item) (place : ℕ) (rows : List Row) (a : Text) → Fits names acc rows → paths_of acc ≡ a ∷ [] → Placed second (a ∷ []) place rows → Takes leaf shows names switches shape good acc place rows
  unfolding clap_on_literals
  takes_second acc place rows a fits e p = record {
    rule = path_at 2 second;
    by_index = ap (arg_by_index leaf.rules) p.0 ∙ is.at_second;
    single = record { by_id = is.second_id; one = refl; single = refl; trailing = refl };
    free = λ word. path_free 2 second word rows p.2;
    good = λ word. subst (λ (rs : List Row). good (acc ++ path word ∷ []) (next_position (path_at 2 second) place) rs) (sym (path_used 2 second word rows p.2)) (record {
      fits = fits_path names acc rows second word fits (λ other among. (is.no_second other among).0);
      placed = subst (λ (ps : List Text). Placed second ps (next_position (path_at 2 second) place) (rows ++ set_row second word ∷ [])) (sym (one_path_more acc word (a ∷ []) e)) (next 2 place second p.0, look_kept second word first rows (Some a) is.apart_too p.1, look_new second word rows p.2);
    });
  }

  paths_by : (acc : List Item) (place : ℕ) (rows : List Row) → Fits names acc rows → (ps : List Text) → paths_of acc ≡ ps → Placed second ps place rows → Strays leaf shows names switches shape good acc place ⊎ Takes leaf shows names switches shape good acc place rows
  paths_by acc place rows fits [] e p = inr (takes_first acc place rows fits e p)
  paths_by acc place rows fits (a ∷ []) e p = inr (takes_second acc place rows a fits e p)
  paths_by acc place rows fits (a ∷ b ∷ []) e p = inl (ap (arg_by_index leaf.rules) p.0 ∙ is.at_third, λ word more. is.many (acc ++ path word ∷ more) a b word (paths_of more) (paths_append acc (path word ∷ more) ∙ ap (λ (xs : List Text). xs ++ word ∷ paths_of more) e))
  paths_by acc place rows fits (a ∷ b ∷ c ∷ more) e p = absurd p

  uses_by : (name : Text) → is_among names name ≡ true → (acc : List Item) (place : ℕ) (rows : List Row) → good acc place rows → (o : Option Text) → IsLook name rows o → only name acc ≡ Some o
      → Uses leaf shows names switches shape good name acc place rows (option_of name) ⊎ Repeats leaf shows names switches shape good name acc rows (option_of name)
  uses_by name among acc place rows g None look once = inl (record {
    free = λ v. option_free name v rows look;
    good = λ v. subst (λ (rs : List Row). good (acc ++ option name v ∷ []) place rs) (sym (option_used name v rows look)) (record {
      fits = fits_option names acc rows name v g.fits look once;
      placed = subst (λ (ps : List Text). Placed second ps place (rows ++ set_row name v ∷ [])) (sym (same_paths acc name v)) (placed_kept name v (paths_of acc) place rows (is.no_first name among).1 (is.no_second name among).1 g.placed);
    });
  })
  uses_by name among acc place rows g (Some x) look once = inr (record {
    fails = λ v. option_again name v rows x look;
    none = λ v more. is.has.twice name (acc ++ option name v ∷ more) among (only_twice name v x acc more once);
  })

  turns_by : (name : Text) → is_among names name ≡ true → (acc : List Item) (place : ℕ) (rows : List Row) → good acc place rows → (o : Option Text) → IsLook name rows o → only name acc ≡ Some o
      → Turns leaf shows names switches shape good name acc place rows (switch_of name) ⊎ TurnsAgain leaf shows names switches shape good name acc rows (switch_of name)
  turns_by name among acc place rows g None look once = inl (record {
    free = switch_free name rows look;
    good = subst (λ (rs : List Row). good (acc ++ option name on ∷ []) place rs) (sym (switch_used name rows look)) (record {
      fits = fits_option names acc rows name on g.fits look once;
      placed = subst (λ (ps : List Text). Placed second ps place (rows ++ set_row name on ∷ [])) (sym (same_paths acc name on)) (placed_kept name on (paths_of acc) place rows (is.no_first name among).1 (is.no_second name among).1 g.placed);
    });
  })
  turns_by name among acc place rows g (Some x) look once = inr (record {
    fails = switch_again name rows x look;
    none = λ more. is.has.twice name (acc ++ option name on ∷ more) among (only_twice name on x acc more once);
  })

  missing : (acc : List Item) (rows : List Row) (b c : Bool) → shape acc ≡ None → is_given first rows ≡ b → is_given second rows ≡ c → (b && c) ≡ false → Agrees (shape acc) (check_fault leaf rows false) (shows rows)
  missing acc rows b c none e f short = subst (λ (o : Option Request). Agrees o (check_fault leaf rows false) (shows rows)) (sym none) (subst Fails (sym (is.checks rows b c e f)) (subst (λ (t : Bool). Fails (if t then [] else kind.MissingRequiredArgument ∷ [])) (sym short) tt))

  ends_by : (acc : List Item) (place : ℕ) (rows : List Row) → Fits names acc rows → (ps : List Text) → paths_of acc ≡ ps → Placed second ps place rows → Agrees (shape acc) (check_fault leaf rows false) (shows rows)
  ends_by acc place rows fits [] e p = missing acc rows false false (is.none acc e) (given_is first rows None p.1) (given_is second rows None p.2) refl
  ends_by acc place rows fits (a ∷ []) e p = missing acc rows true false (is.one acc a e) (given_is first rows (Some a) p.1) (given_is second rows None p.2) refl
  ends_by acc place rows fits (a ∷ b ∷ []) e p =
      let w = is.whole acc a b rows e fits p.1 p.2 in
      subst (λ (o : Option Request). Agrees o (check_fault leaf rows false) (shows rows)) (sym w.1) (is.checks rows true true (given_is first rows (Some a) p.1) (given_is second rows (Some b) p.2), w.2)
  ends_by acc place rows fits (a ∷ b ∷ c ∷ more) e p = absurd p

  pub two_paths : IsLeaf leaf shows names switches shape good
  two_paths = record {
    flags = is.has.flags;
    once = is.has.once;
    rule = option_of;
    switch = switch_of;
    options = options_are leaf names switches shape is.has;
    switched = switches_are leaf names switches shape is.has;
    single = is.has.single;
    paths = λ acc place rows g. paths_by acc place rows g.fits (paths_of acc) refl g.placed;
    uses = λ name among acc place rows g. let fit = g.fits name among.0 in uses_by name among.0 acc place rows g fit.given fit.look fit.only_is;
    turns = λ name among acc place rows g. let fit = g.fits name among.0 in turns_by name among.0 acc place rows g fit.given fit.look fit.only_is;
    ends = λ acc place rows g. checked_by leaf rows shows (shape acc) is.has.plain (ends_by acc place rows g.fits (paths_of acc) refl g.placed);
  }

-- ---- one path, and no option

abbrev AlonePlaced : List Text → ℕ → List Row → Type 0
AlonePlaced [] place rows = (place ≡ 1) × IsLook first rows None
AlonePlaced (a ∷ []) place rows = (place ≡ 2) × IsLook first rows (Some a)
AlonePlaced _ place rows = ⊥

pub record AloneGood (acc : List Item) (place : ℕ) (rows : List Row) : Type 0 where
  pub placed : AlonePlaced (paths_of acc) place rows

pub record IsOne (leaf : Shape) (shows : List Row → Option Request) (shape : List Item → Option Request) : Type 0 where
  pub has : HasOptions leaf [] [] shape
  pub at_first : arg_by_index leaf.rules 1 ≡ Some (path_at 1 first)
  pub at_second : arg_by_index leaf.rules 2 ≡ None
  pub first_id : arg_by_id leaf.rules first ≡ Some (path_at 1 first)
  pub checks : (rows : List Row) (b : Bool) → is_given first rows ≡ b → check_fault leaf rows false ≡ (if b then [] else kind.MissingRequiredArgument ∷ [])
  pub none : (acc : List Item) → paths_of acc ≡ [] → shape acc ≡ None
  pub many : (acc : List Item) (a b : Text) (more : List Text) → paths_of acc ≡ a ∷ b ∷ more → shape acc ≡ None
  pub whole : (acc : List Item) (a : Text) (rows : List Row) → paths_of acc ≡ a ∷ [] → IsLook first rows (Some a) → (r : Request) × (shape acc ≡ Some r) × (shows rows ≡ Some r)

module _ (leaf : Shape) (shows : List Row → Option Request) (shape : List Item → Option Request) (is : IsOne leaf shows shape) where
  alone_next : (place : ℕ) → place ≡ 1 → next_position (path_at 1 first) place ≡ 2
  unfolding clap_on_literals
  alone_next place e = ap (λ (p : ℕ). min (p + 1) usize_max) e

  alone_takes : (acc : List Item) (place : ℕ) (rows : List Row) → paths_of acc ≡ [] → AlonePlaced [] place rows → Takes leaf shows [] [] shape AloneGood acc place rows
  unfolding clap_on_literals
  alone_takes acc place rows e p = record {
    rule = path_at 1 first;
    by_index = ap (arg_by_index leaf.rules) p.0 ∙ is.at_first;
    single = record { by_id = is.first_id; one = refl; single = refl; trailing = refl };
    free = λ word. path_free 1 first word rows p.1;
    good = λ word. subst (λ (rs : List Row). AloneGood (acc ++ path word ∷ []) (next_position (path_at 1 first) place) rs) (sym (path_used 1 first word rows p.1)) (record {
      placed = subst (λ (ps : List Text). AlonePlaced ps (next_position (path_at 1 first) place) (rows ++ set_row first word ∷ [])) (sym (one_path_more acc word [] e)) (alone_next place p.0, look_new first word rows p.1);
    });
  }

  alone_paths : (acc : List Item) (place : ℕ) (rows : List Row) (ps : List Text) → paths_of acc ≡ ps → AlonePlaced ps place rows → Strays leaf shows [] [] shape AloneGood acc place ⊎ Takes leaf shows [] [] shape AloneGood acc place rows
  alone_paths acc place rows [] e p = inr (alone_takes acc place rows e p)
  alone_paths acc place rows (a ∷ []) e p = inl (ap (arg_by_index leaf.rules) p.0 ∙ is.at_second, λ word more. is.many (acc ++ path word ∷ more) a word (paths_of more) (paths_append acc (path word ∷ more) ∙ ap (λ (xs : List Text). xs ++ word ∷ paths_of more) e))
  alone_paths acc place rows (a ∷ b ∷ more) e p = absurd p

  alone_ends : (acc : List Item) (place : ℕ) (rows : List Row) (ps : List Text) → paths_of acc ≡ ps → AlonePlaced ps place rows → Agrees (shape acc) (check_fault leaf rows false) (shows rows)
  alone_ends acc place rows [] e p = subst (λ (o : Option Request). Agrees o (check_fault leaf rows false) (shows rows)) (sym (is.none acc e)) (subst Fails (sym (is.checks rows false (given_is first rows None p.1))) tt)
  alone_ends acc place rows (a ∷ []) e p =
      let w = is.whole acc a rows e p.1 in
      subst (λ (o : Option Request). Agrees o (check_fault leaf rows false) (shows rows)) (sym w.1) (is.checks rows true (given_is first rows (Some a) p.1), w.2)
  alone_ends acc place rows (a ∷ b ∷ more) e p = absurd p

  no_name : (name : Text) → is_among [] name ≡ true → ⊥
  no_name name e = true≢false (sym e)

  pub one_path : IsLeaf leaf shows [] [] shape AloneGood
  one_path = record {
    flags = is.has.flags;
    once = is.has.once;
    rule = option_of;
    switch = switch_of;
    options = options_are leaf [] [] shape is.has;
    switched = switches_are leaf [] [] shape is.has;
    single = is.has.single;
    paths = λ acc place rows g. alone_paths acc place rows (paths_of acc) refl g.placed;
    uses = λ name among acc place rows g. absurd (no_name name among.0);
    turns = λ name among acc place rows g. absurd (no_name name among.0);
    ends = λ acc place rows g. checked_by leaf rows shows (shape acc) is.has.plain (alone_ends acc place rows (paths_of acc) refl g.placed);
  }
