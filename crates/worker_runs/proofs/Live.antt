-- How a run of files ends.
use Rattle.std.proofs.Common.{◌≡◌, ℕ, List, [], refl, sym, subst, inl, inr, Option, Some, None, Result, Ok}
use Rattle.solomon_reader.specs.Checks.{Fault}
use Rattle.solomon_reader.specs.Instances.{Plain}
use Rattle.solomon_reader.specs.Reading.{read_of}
use Rattle.program_parts.specs.Streams.{IsUnreadable, streams_of}
use Rattle.board_program.specs.Joined.{IsOfFiles}
use Rattle.worker_runs.specs.declared.orders.Orders.{Orders}
use Rattle.worker_runs.specs.Files.{IsOfPaths}
use Rattle.worker_runs.specs.Scripted.{IsRunOfBytes, flow_of}

pub by_live : (instance script : List ℕ) (live : Option (List ℕ)) (orders : Orders) (was reports_were reports_are : Option (List ℕ)) (status : ℕ) (path bytes : List ℕ) (i : Plain)
    → live ≡ Some path → read_of bytes ≡ Ok i → IsUnreadable path reports_were reports_are status → IsOfPaths instance script live orders (streams_of was was reports_were reports_are) status
by_live instance script live orders was reports_were reports_are status path bytes i l r u = rw l (inr (inr (bytes, inl ((i, r), inr (refl, u)))))

pub by_script : (instance script : List ℕ) (live : Option (List ℕ)) (orders : Orders) (was reports_were reports_are : Option (List ℕ)) (status : ℕ) (bytes : List ℕ) (i : Plain)
    → read_of bytes ≡ Ok i → IsUnreadable script reports_were reports_are status → IsOfPaths instance script live orders (streams_of was was reports_were reports_are) status
by_script instance script live orders was reports_were reports_are status bytes i r u = inr (inr (bytes, inl ((i, r), inl (refl, u))))

pub by_instance : (instance script : List ℕ) (live : Option (List ℕ)) (orders : Orders) (was reports_were reports_are : Option (List ℕ)) (status : ℕ) → IsUnreadable instance reports_were reports_are status → IsOfPaths instance script live orders (streams_of was was reports_were reports_are) status
by_instance instance script live orders was reports_were reports_are status u = inr (inl (refl, u))

pub by_run : (instance script : List ℕ) (live : Option (List ℕ)) (orders : Orders) (a b c d was now reports_were reports_are : Option (List ℕ)) (status : ℕ) (bytes : List ℕ) (read : Result Plain Fault)
    → read_of bytes ≡ read → (live ≡ None → c ≡ Some []) → IsRunOfBytes read orders (flow_of a b c d was now) reports_were reports_are status → IsOfPaths instance script live orders (streams_of was now reports_were reports_are) status
by_run instance script live orders a b c d was now reports_were reports_are status bytes read e none h = inr (inr (bytes, inr (a, b, c, d, none, subst (λ (r : Result Plain Fault). IsRunOfBytes r orders (flow_of a b c d was now) reports_were reports_are status) (sym e) h)))

pub by_alone : (instance script : List ℕ) (live : Option (List ℕ)) (orders : Orders) (was now reports_were reports_are : Option (List ℕ)) (status : ℕ) → orders.workers ≡ 0 → live ≡ None
    → IsOfFiles instance script (streams_of was now reports_were reports_are) status → IsOfPaths instance script live orders (streams_of was now reports_were reports_are) status
by_alone instance script live orders was now reports_were reports_are status e f h = inl (e, f, h)
