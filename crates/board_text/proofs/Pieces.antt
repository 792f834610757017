-- Parts that are cut off what was read.
use Rattle.std.proofs.Common.{◌≡◌, ℕ, ◌+◌, ◌-◌, ◌<◌, ◌≤◌, List, [], ◌∷◌, ◌++◌, length, take, drop, add-one, false, true, Option, Ok, Err, refl, sym, ap, ap₂, subst, ◌∙◌, append_assoc, arith}
use Rattle.std.specs.Io.KnownBytes.{Consumes, IsAtEnd}
use Rattle.std.proofs.lemmas.List.{append-nil, length-append, length-drop, take-append-drop, take_all}
use Rattle.std.proofs.Math.Seq.{take-suc}
use Rattle.text_words.specs.Words.{IsLineEnd}
use Rattle.board_lines.specs.Replies.{ended}
use Rattle.line_engine.specs.Running.{HasNoEnd, IsLine, IsTooLong}
use Rattle.line_engine.specs.declared.run_fault.RunFault.{RunFault}
use Rattle.line_engine.specs.declared.run_fault.RunFault.TheVariants as runs
use Rattle.board_text.specs.Pieces.{AreRead, IsCut, IsFirst, IsNext, IsPart, IsUncut, IsUnread}
use Rattle.board_text.specs.declared.feed.Piece.{Piece}
use Rattle.board_text.specs.declared.feed.Piece.TheVariants as pieces
use Rattle.board_text.proofs.Bytes.{Consumes-keeps, Consumes-then}

-- ---- the first line of some bytes

line_is : (bytes : List ℕ) (i : ℕ) → IsLineEnd bytes i → take (i + 1) bytes ≡ ended (take i bytes)
line_is bytes i end = rw (add-one, take-suc bytes i 0 end.0, end.2) refl

behind_is : (bytes : List ℕ) (n : ℕ) → take (length bytes - n) (drop n bytes) ≡ drop n bytes
behind_is bytes n = take_all (length bytes - n) (drop n bytes) (omega (arith, length-drop n bytes))

pub cut_is : (bytes line rest : List ℕ) (i : ℕ) → IsLineEnd bytes i → line ≡ take (i + 1) bytes → rest ≡ take (length bytes - (i + 1)) (drop (i + 1) bytes) → IsCut bytes line rest
cut_is bytes line rest i end e f = (take i bytes, end.1, e ∙ line_is bytes i end, sym (ap₂ (λ (x y : List ℕ). x ++ y) e (f ∙ behind_is bytes (i + 1)) ∙ take-append-drop (i + 1) bytes))

-- ---- lines by their length

pub long_line : (had line rest : List ℕ) → IsCut had line rest → 4097 < length line → IsTooLong had
long_line had line rest c n = (c.0, 10 ∷ rest, c.3 ∙ ap (λ (l : List ℕ). l ++ rest) c.2 ∙ append_assoc c.0 (10 ∷ []) rest, c.1, omega (arith, n, ap (λ (l : List ℕ). length l) c.2, length-append c.0 (10 ∷ [])))

pub short_line : (had line rest : List ℕ) → IsCut had line rest → length line ≤ 4097 → (l : List ℕ) × IsLine l × (line ≡ ended l) × (had ≡ ended l ++ rest)
short_line had line rest c n = (c.0, record { plain = c.1; short = omega (arith, n, ap (λ (l : List ℕ). length l) c.2, length-append c.0 (10 ∷ [])) }, c.2, c.3 ∙ ap (λ (l : List ℕ). l ++ rest) c.2)

-- what was cut is what was held
pub cut_of : (had given line rest : List ℕ) → given ≡ had → IsCut given line rest → IsCut had line rest
cut_of had given line rest e c = subst (λ (l : List ℕ). IsCut l line rest) e c

pub plain_of : (had given : List ℕ) → given ≡ had → HasNoEnd given → HasNoEnd had
plain_of had given e h = subst HasNoEnd e h

pub long_part : (had : List ℕ) → HasNoEnd had → 4096 < length had → IsTooLong had
long_part had plain n = (had, [], sym (append-nil had), plain, n)

-- ---- what comes next

first_part : (had held : List ℕ) (left : Option (List ℕ)) (piece : Piece) → IsFirst had held piece → IsPart had held left (Ok piece)
first_part had held left (pieces.Line line) f = f
first_part had held left (pieces.Last rest) f = absurd f
first_part had held left pieces.Long f = f

pub first_next : (had mid held : List ℕ) (old new : Option (List ℕ)) (bytes : List ℕ) (piece : Piece) → Consumes old new bytes → mid ≡ had ++ bytes → IsFirst mid held piece → IsNext had held old new (Ok piece)
first_next had mid held old new bytes piece g e f = (bytes, g, first_part (had ++ bytes) held new piece (subst (λ (l : List ℕ). IsFirst l held piece) e f))

pub no_memory : (had held : List ℕ) (old new : Option (List ℕ)) (bytes : List ℕ) (fault : RunFault) → fault ≡ runs.NoMemory → Consumes old new bytes → IsNext had held old new (Err fault)
no_memory had held old new bytes fault e g = rw e (bytes, g, tt)

pub unread_next : (had mid now held : List ℕ) (old read new : Option (List ℕ)) (bytes : List ℕ) (fault : RunFault) → Consumes old read bytes → mid ≡ had ++ bytes → IsUncut mid now → IsUnread fault read new → IsNext had held old new (Err fault)
unread_next had mid now held old read new bytes runs.Read g e u h = (bytes ++ [], Consumes-then old read new bytes [] g (Consumes-keeps read new h), subst IsLine (e ∙ ap (λ (l : List ℕ). had ++ l) (sym (append-nil bytes))) u.0)
unread_next had mid now held old read new bytes runs.NoMemory g e u h = (bytes ++ h.0, Consumes-then old read new bytes h.0 g h.1, tt)
unread_next had mid now held old read new bytes runs.Write g e u h = absurd h
unread_next had mid now held old read new bytes runs.LongLine g e u h = absurd h

-- there is no more to read
pub last_part : (had mid now after rest : List ℕ) (read new : Option (List ℕ)) (bytes : List ℕ) → mid ≡ had ++ bytes → IsUncut mid now → AreRead false now after read new → rest ≡ after → IsLine rest × (had ++ (bytes ++ []) ≡ rest) × IsAtEnd new
last_part had mid now after rest read new bytes e u r f =
    let same : rest ≡ mid = f ∙ r.1 ∙ u.1 in
    (subst IsLine (sym same) u.0, ap (λ (l : List ℕ). had ++ l) (append-nil bytes) ∙ sym e ∙ sym same, r.2)

-- there was more to read
pub read_more : (had mid now held : List ℕ) (old read new : Option (List ℕ)) (bytes : List ℕ) → Consumes old read bytes → mid ≡ had ++ bytes → IsUncut mid now → AreRead true now held read new → (all : List ℕ) × Consumes old new all × (held ≡ had ++ all)
read_more had mid now held old read new bytes g e u r =
    (bytes ++ r.0, Consumes-then old read new bytes r.0 g r.1, r.2 ∙ ap (λ (l : List ℕ). l ++ r.0) (u.1 ∙ e) ∙ append_assoc had bytes r.0)
