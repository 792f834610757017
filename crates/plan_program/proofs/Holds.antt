-- Text is held, and written later.
use Rattle.std.proofs.Common.{◌≡◌, ◌∙◌, ℕ, ◌+◌, ◌<◌, List, [], ◌++◌, length, take, drop, get_or, Option, Some, None, refl, sym, ap, subst, append_assoc, append-nil}
use Rattle.std.specs.Prelude.{Err, Ok, OnErr, Result}
use Rattle.std.specs.List.{flat_map}
use Rattle.std.proofs.lemmas.List.{flat_map_more, take-append-drop, take_more}
use Rattle.std.proofs.lemmas.List.Concat.{flat_map-append}
use Rattle.std.specs.Io.KnownBytes.{Appends}
use Rattle.line_engine.specs.Running.{AppendsPrefix}
use Rattle.plan_sums.specs.declared.row.Row.{Row}
use Rattle.plan_sums.specs.declared.tour.Tour.{Tour}
use Rattle.plan_sums.specs.Places.{Places}
use Rattle.plan_sums.specs.Tours.{tours_of}
use Rattle.plan_picture.specs.declared.layout.Layout.{Layout}
use Rattle.plan_marks.specs.declared.mark.Mark.{Mark}
use Rattle.plan_picture.specs.Marks.{layout_of, marks_of}
use Rattle.plan_picture.specs.Texts.{end_text, head_text, mark_text, svg_text}
use Rattle.plan_program.specs.Holding.{IsHeld}

adds_then : (a b c : Option (List ℕ)) (x y : List ℕ) → Appends a b x → Appends b c y → Appends a c (x ++ y)
adds_then None b c x y h k = tt
adds_then (Some p) None c x y h k = absurd h
adds_then (Some p) (Some q) None x y h k = absurd k
adds_then (Some p) (Some q) (Some r) x y h k = k ∙ ap (λ (l : List ℕ). l ++ y) h ∙ append_assoc p x y

adds_none : (a : Option (List ℕ)) → Appends a a []
adds_none None = tt
adds_none (Some p) = sym (append-nil p)

-- nothing was written
pub held_still : (was : Option (List ℕ)) (held all : List ℕ) → held ≡ all → IsHeld was was held all
held_still was held all e = record { done = []; appended = adds_none was; whole = e }

-- all was written
pub held_none : (was now : Option (List ℕ)) (held all : List ℕ) → held ≡ [] → Appends was now all → IsHeld was now held all
held_none was now held all e h = record { done = all; appended = h; whole = ap (λ (l : List ℕ). all ++ l) e ∙ append-nil all }

-- more is held, and some of that is written
pub held_more : (a b c : Option (List ℕ)) (held mid next all text : List ℕ) → IsHeld a b held all → mid ≡ held ++ text → IsHeld b c next mid → IsHeld a c next (all ++ text)
held_more a b c held mid next all text h e k = record {
  done = h.done ++ k.done;
  appended = adds_then a b c h.done k.done h.appended k.appended;
  whole = append_assoc h.done k.done next ∙ ap (λ (l : List ℕ). h.done ++ l) (k.whole ∙ e) ∙ sym (append_assoc h.done held text) ∙ ap (λ (l : List ℕ). l ++ text) h.whole;
}

-- the rest is written
pub held_written : (a b c : Option (List ℕ)) (held mid all text : List ℕ) → IsHeld a b held all → mid ≡ held ++ text → Appends b c mid → Appends a c (all ++ text)
held_written a b c held mid all text h e k =
    subst (λ (l : List ℕ). Appends a c l) (ap (λ (l : List ℕ). h.done ++ l) e ∙ sym (append_assoc h.done held text) ∙ ap (λ (l : List ℕ). l ++ text) h.whole) (adds_then a b c h.done mid h.appended k)

-- ---- where a writer fails, or memory runs out

pub on_err : {T E P : Type 0} (r : Result T E) → P → OnErr r P
on_err (Ok x) p = tt
on_err (Err e) p = p

-- a prefix of nothing
pub part_none : (was : Option (List ℕ)) (all : List ℕ) → AppendsPrefix was was all
part_none was all = ([], all, refl, adds_none was)

-- a prefix of the first part is one of the whole
pub part_longer : (was now : Option (List ℕ)) (x y : List ℕ) → AppendsPrefix was now x → AppendsPrefix was now (x ++ y)
part_longer was now x y h = (h.0, h.1 ++ y, ap (λ (l : List ℕ). l ++ y) h.2 ∙ append_assoc h.0 h.1 y, h.3)

-- what was written of a held text
pub part_held : (was now : Option (List ℕ)) (held all : List ℕ) → IsHeld was now held all → AppendsPrefix was now all
part_held was now held all h = (h.done, held, sym h.whole, h.appended)

-- more was held, and a prefix of what was held is written
pub part_more : (a b c : Option (List ℕ)) (held mid all text : List ℕ) → IsHeld a b held all → mid ≡ held ++ text → AppendsPrefix b c mid → AppendsPrefix a c (all ++ text)
part_more a b c held mid all text h e k = (
  h.done ++ k.0,
  k.1,
  ap (λ (l : List ℕ). l ++ text) (sym h.whole) ∙ append_assoc h.done held text ∙ ap (λ (l : List ℕ). h.done ++ l) (sym e ∙ k.2) ∙ sym (append_assoc h.done k.0 k.1),
  adds_then a b c h.done k.0 h.appended k.3,
)

-- ---- a picture

-- a prefix of the text of the first marks
pub marks_part : (a b : Option (List ℕ)) (start : List ℕ) (marks : List Mark) (i : ℕ) → AppendsPrefix a b (start ++ flat_map mark_text (take i marks)) → AppendsPrefix a b (start ++ flat_map mark_text marks)
marks_part a b start marks i h =
    subst (λ (l : List ℕ). AppendsPrefix a b l)
    (append_assoc start (flat_map mark_text (take i marks)) (flat_map mark_text (drop i marks)) ∙ ap (λ (l : List ℕ). start ++ l) (sym (flat_map-append mark_text (take i marks) (drop i marks)) ∙ ap (λ (xs : List Mark). flat_map mark_text xs) (take-append-drop i marks)))
    (part_longer a b (start ++ flat_map mark_text (take i marks)) (flat_map mark_text (drop i marks)) h)

-- memory runs out at one more mark
pub marks_held : (a b : Option (List ℕ)) (held start : List ℕ) (marks : List Mark) (i : ℕ) → IsHeld a b held (start ++ flat_map mark_text (take i marks)) → AppendsPrefix a b (start ++ flat_map mark_text marks)
marks_held a b held start marks i h = marks_part a b start marks i (part_held a b held (start ++ flat_map mark_text (take i marks)) h)

-- or the writer fails
pub marks_fail : (a b c : Option (List ℕ)) (held mid start : List ℕ) (marks : List Mark) (i : ℕ) (d : Mark) → i < length marks → IsHeld a b held (start ++ flat_map mark_text (take i marks)) → mid ≡ held ++ mark_text (get_or marks i d) → AppendsPrefix b c mid → AppendsPrefix a c (start ++ flat_map mark_text marks)
marks_fail a b c held mid start marks i d lt h e k =
    marks_part a c start marks (i + 1)
    (subst (λ (l : List ℕ). AppendsPrefix a c l) (flat_map_more mark_text start (take i marks) (get_or marks i d) ∙ ap (λ (xs : List Mark). start ++ flat_map mark_text xs) (sym (take_more marks i d lt)))
    (part_more a b c held mid (start ++ flat_map mark_text (take i marks)) (mark_text (get_or marks i d)) h e k))

-- a prefix of all that is to be written
pub drawn_part : (a c : Option (List ℕ)) (none out head marks : List ℕ) → none ≡ [] → out ≡ none ++ head → AppendsPrefix a c (out ++ marks) → AppendsPrefix a c (head ++ (marks ++ end_text))
drawn_part a c none out head marks n o h =
    let whole : out ≡ head = o ∙ ap (λ (l : List ℕ). l ++ head) n in
    subst (λ (l : List ℕ). AppendsPrefix a c l) (ap (λ (l : List ℕ). (l ++ marks) ++ end_text) whole ∙ append_assoc head marks end_text) (part_longer a c (out ++ marks) end_text h)

pub drawn_end : (a b c : Option (List ℕ)) (none out held mid head marks : List ℕ) → none ≡ [] → out ≡ none ++ head → IsHeld a b held (out ++ marks) → mid ≡ held ++ end_text → AppendsPrefix b c mid → AppendsPrefix a c (head ++ (marks ++ end_text))
drawn_end a b c none out held mid head marks n o h e k =
    let whole : out ≡ head = o ∙ ap (λ (l : List ℕ). l ++ head) n in
    subst (λ (l : List ℕ). AppendsPrefix a c l) (ap (λ (l : List ℕ). (l ++ marks) ++ end_text) whole ∙ append_assoc head marks end_text) (part_more a b c held mid (out ++ marks) end_text h e k)

-- one more mark
pub marks_more : (a b c : Option (List ℕ)) (held mid next start : List ℕ) (marks : List Mark) (i : ℕ) (d : Mark) → i < length marks → IsHeld a b held (start ++ flat_map mark_text (take i marks)) → mid ≡ held ++ mark_text (get_or marks i d) → IsHeld b c next mid → IsHeld a c next (start ++ flat_map mark_text (take (i + 1) marks))
marks_more a b c held mid next start marks i d lt h e k =
    subst (λ (l : List ℕ). IsHeld a c next l)
    (flat_map_more mark_text start (take i marks) (get_or marks i d) ∙ ap (λ (xs : List Mark). start ++ flat_map mark_text xs) (sym (take_more marks i d lt)))
    (held_more a b c held mid next (start ++ flat_map mark_text (take i marks)) (mark_text (get_or marks i d)) h e k)

-- all that was written
pub drawn : (a b c : Option (List ℕ)) (none out held mid head marks : List ℕ) → none ≡ [] → out ≡ none ++ head → IsHeld a b held (out ++ marks) → mid ≡ held ++ end_text → Appends b c mid → Appends a c (head ++ (marks ++ end_text))
drawn a b c none out held mid head marks n o h e k =
    let whole : out ≡ head = o ∙ ap (λ (l : List ℕ). l ++ head) n in
    subst (λ (l : List ℕ). Appends a c l) (ap (λ (l : List ℕ). (l ++ marks) ++ end_text) whole ∙ append_assoc head marks end_text)
    (held_written a b c held mid (out ++ marks) end_text h e k)

-- the text of the picture
pub svg_is : (p : Places) (rows : List Row) (layout : Layout) (name : List ℕ) (tours : List Tour) (marks : List Mark) → tours ≡ tours_of p rows → layout ≡ layout_of p rows tours → name ≡ p.name → marks ≡ marks_of p layout rows tours → head_text layout name rows tours ++ (flat_map mark_text marks ++ end_text) ≡ svg_text p rows
svg_is p rows layout name tours marks t l n m =
    let place : layout ≡ layout_of p rows (tours_of p rows) = l ∙ ap (layout_of p rows) t in
    ap (λ (x : Layout). head_text x name rows tours ++ (flat_map mark_text marks ++ end_text)) place
    ∙ ap (λ (x : List ℕ). head_text (layout_of p rows (tours_of p rows)) x rows tours ++ (flat_map mark_text marks ++ end_text)) n
    ∙ ap (λ (x : List Tour). head_text (layout_of p rows (tours_of p rows)) p.name rows x ++ (flat_map mark_text marks ++ end_text)) t
    ∙ ap (λ (x : List Mark). head_text (layout_of p rows (tours_of p rows)) p.name rows (tours_of p rows) ++ (flat_map mark_text x ++ end_text))
    (m ∙ ap (λ (x : Layout). marks_of p x rows tours) place ∙ ap (λ (x : List Tour). marks_of p (layout_of p rows (tours_of p rows)) rows x) t)
