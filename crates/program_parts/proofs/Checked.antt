-- What a check comes to.
use Rattle.std.proofs.Common.{◌≡◌, ◌∙◌, ℕ, List, [], Option, Some, None, Result, Ok, refl, sym, subst, append-nil}
use Rattle.std.specs.Io.KnownBytes.{Appends, Keeps}
use Rattle.solomon_reader.specs.Checks.{Fault}
use Rattle.solomon_reader.specs.Instances.{Plain}
use Rattle.line_engine.specs.Running.{AppendsPrefix}
use Rattle.line_engine.specs.declared.run_fault.RunFault.TheVariants as runs
use Rattle.program_parts.specs.Report.{IsCheckShort, report_text}
use Rattle.program_parts.specs.declared.stop.Stop.{Stop}
use Rattle.program_parts.specs.declared.stop.Stop.TheVariants as stops

keeps : (was : Option (List ℕ)) → Keeps was was
keeps None = tt
keeps (Some xs) = refl

adds_then_keeps : (was mid now : Option (List ℕ)) (bytes : List ℕ) → Appends was mid bytes → Keeps mid now → Appends was now bytes
adds_then_keeps None mid now bytes h k = tt
adds_then_keeps (Some xs) None now bytes h k = absurd h
adds_then_keeps (Some xs) (Some ys) None bytes h k = absurd k
adds_then_keeps (Some xs) (Some ys) (Some zs) bytes h k = k ∙ h

-- memory ran out
pub unreported : (stop : Stop) (r : Result Plain Fault) (was : Option (List ℕ)) → stop ≡ stops.Open → IsCheckShort r was was stop
unreported stop r was s = subst (λ (x : Stop). IsCheckShort r was was x) (sym s) (keeps was)

-- the report was written in part
pub half_written : (stop : Stop) (r : Result Plain Fault) (i : Plain) (bytes : List ℕ) (was now : Option (List ℕ)) → stop ≡ stops.Run runs.Write → r ≡ Ok i → bytes ≡ report_text i → AppendsPrefix was now bytes → IsCheckShort r was now stop
half_written stop r i bytes was now s is same h =
    subst (λ (x : Stop). IsCheckShort r was now x) (sym s) (i, is, subst (λ (x : List ℕ). AppendsPrefix was now x) same h)

-- it was written, and the flush failed
pub unflushed : (r : Result Plain Fault) (i : Plain) (bytes : List ℕ) (was mid now : Option (List ℕ)) → r ≡ Ok i → bytes ≡ report_text i → Appends was mid bytes → Keeps mid now → IsCheckShort r was now (stops.Run runs.Write)
unflushed r i bytes was mid now is same h k = (i, is, (bytes, [], sym same ∙ sym (append-nil bytes), adds_then_keeps was mid now bytes h k))
