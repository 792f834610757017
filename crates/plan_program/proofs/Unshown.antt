-- Why a text is not written, from what was opened and what was written of it.
use Rattle.std.proofs.Common.{◌≡◌, ◌∙◌, ℕ, List, [], Option, Some, None, refl, subst, sym, append-nil, inl, inr}
use Rattle.std.specs.Prelude.{Err, IfErr, IsErrAnd, Ok, Result}
use Rattle.std.specs.Io.KnownBytes.{Appends, Keeps}
use Rattle.line_engine.specs.Running.{AppendsPrefix}
use Rattle.line_engine.specs.declared.run_fault.RunFault.TheVariants as runs
use Rattle.program_parts.specs.declared.stop.Stop.TheVariants as stops
use Rattle.plan_sums.specs.declared.row.Row.{Row}
use Rattle.plan_sums.specs.declared.tour.Tour.{Tour}
use Rattle.plan_sums.specs.Places.{Places}
use Rattle.plan_program.specs.declared.stop.ViewStop.{ViewStop}
use Rattle.plan_program.specs.declared.stop.ViewStop.TheVariants as views
use Rattle.plan_program.specs.Stops.{IsWriting}
use Rattle.plan_program.specs.Views.{IsOpened, IsPartShown, IsUnopened, IsUnshown}

same : (a : Option (List ℕ)) → Keeps a a
same None = tt
same (Some x) = refl

-- nothing was opened
pub unopened : (text_of : Places → List Row → List ℕ) (instance output : List ℕ) (was : Option (List ℕ)) (stop : ViewStop) → IsUnopened instance output stop → IsUnshown text_of instance output was was stop
unopened text_of instance output was (views.Parts (stops.Instance kind line)) h = (h, same was)
unopened text_of instance output was (views.Parts stops.Open) h = inl (same was)
unopened text_of instance output was (views.Parts (stops.Run fault)) h = absurd h
unopened text_of instance output was (views.Rows line) h = (h.0, h.1, h.2, same was)

part_of : (text_of : Places → List Row → List ℕ) (instance output : List ℕ) (was now : Option (List ℕ)) (p : Places) (rows : List Row) (tours : List Tour) → IsOpened instance output p rows tours → AppendsPrefix was now (text_of p rows) → IsPartShown text_of instance output was now
part_of text_of instance output was now p rows tours o w = record { places = p; of = o.of; rows = rows; listed = o.listed; written = w }

-- a prefix was written
pub part_shown : (text_of : Places → List Row → List ℕ) (instance output : List ℕ) (was now : Option (List ℕ)) (p : Places) (rows : List Row) (tours : List Tour) (stop : ViewStop) → IsOpened instance output p rows tours → AppendsPrefix was now (text_of p rows) → IsWriting stop → IsUnshown text_of instance output was now stop
part_shown text_of instance output was now p rows tours (views.Parts (stops.Instance kind line)) o w h = absurd h
part_shown text_of instance output was now p rows tours (views.Parts stops.Open) o w h = inr (part_of text_of instance output was now p rows tours o w)
part_shown text_of instance output was now p rows tours (views.Parts (stops.Run runs.Read)) o w h = absurd h
part_shown text_of instance output was now p rows tours (views.Parts (stops.Run runs.Write)) o w h = part_of text_of instance output was now p rows tours o w
part_shown text_of instance output was now p rows tours (views.Parts (stops.Run runs.LongLine)) o w h = absurd h
part_shown text_of instance output was now p rows tours (views.Parts (stops.Run runs.NoMemory)) o w h = absurd h
part_shown text_of instance output was now p rows tours (views.Rows line) o w h = absurd h

whole : (a b c : Option (List ℕ)) (text : List ℕ) → Appends a b text → Keeps b c → AppendsPrefix a c text
whole None b c text h k = (text, [], sym (append-nil text), tt)
whole (Some x) None c text h k = absurd h
whole (Some x) (Some y) None text h k = absurd k
whole (Some x) (Some y) (Some z) text h k = (text, [], sym (append-nil text), k ∙ h)

-- all was written, and not flushed
pub unflushed : (text_of : Places → List Row → List ℕ) (instance output : List ℕ) (a b c : Option (List ℕ)) (p : Places) (rows : List Row) (tours : List Tour) → IsOpened instance output p rows tours → Appends a b (text_of p rows) → Keeps b c → IsPartShown text_of instance output a c
unflushed text_of instance output a b c p rows tours o h k = part_of text_of instance output a c p rows tours o (whole a b c (text_of p rows) h k)

-- what holds of a stop holds of it as it is passed on
pub passed : {T : Type 0} (r : Result T ViewStop) (stop : ViewStop) (P : ViewStop → Type 0) → IsErrAnd r (λ e. e ≡ stop) → P stop → IfErr r P
passed (Ok x) stop P h p = absurd h
passed (Err e) stop P h p = subst P (sym h) p
