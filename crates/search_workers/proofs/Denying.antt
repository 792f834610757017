-- Moves that are skipped were denied.
use Rattle.std.proofs.Common.{◌≡◌, ◌==◌, ℕ, Bool, true, false, List, [], ◌∷◌, ◌++◌, Option, Some, None, All, Contains, refl, ap, sym, subst, ◌∙◌, arith, if◌then◌else◌}
use Rattle.std.specs.List.{cons_option}
use Rattle.std.proofs.lemmas.Bool.Decides.{nat_tests}
use Rattle.std.proofs.lemmas.List.Elements.{All-head, All-tail, All-nil, All-push, All-append, All-contains_itself}
use Rattle.move_core.specs.declared.moves.Move.{Move}
use Rattle.board_rules.specs.declared.call.Call.TheVariants.{Propose}
use Rattle.board_rules.specs.declared.call.Entry.{Entry}
use Rattle.board_rules.specs.declared.reply.Denial.{Denial}
use Rattle.board_rules.specs.declared.reply.Reply.{Reply}
use Rattle.board_rules.specs.declared.reply.Reply.TheVariants as replies
use Rattle.search_workers.specs.Kinds.{Round, Refused, Idle, Denied, Committed, entries_of}
use Rattle.search_workers.specs.Skips.{is_stale, is_final, denied_by, denied_at, skip_at}
use Rattle.search_workers.specs.Jobs.{Job, view_after}
use Rattle.search_workers.specs.Rounds.{IsProposal, Rounds}
use Rattle.search_workers.specs.Laws.{IsDenial}

-- one element before others
all_cons : {A : Type 0} (P : A → Type 0) (x : A) (xs : List A) → P x → All P xs → All P (x ∷ xs)
all_cons P x xs p all = All-append P (x ∷ []) xs (All-push P [] x (All-nil P) p) all

-- a proposal of the worker
record IsOwn (job : Job) (e : Entry) : Type 0 where
  pub desk_is : e.desk ≡ job.desk
  pub base : ℕ
  pub mv : Move
  pub call_is : e.call ≡ Propose job.session base mv

own : (job : Job) (done : List Round) (before after : List Entry) (e : Entry) → IsProposal job done before after e → IsOwn job e
own job done before after e p = record { desk_is = p.desk_is; base = (view_after job.opening p.seen).version; mv = p.mv; call_is = p.call_is }

all_own : (job : Job) (done each : List Round) (before after : List Entry) → Rounds job done each before after → All (IsOwn job) (entries_of each)
all_own job done [] before after run = All-nil (IsOwn job)
all_own job done (Refused ∷ each) before after run = all_own job (done ++ Refused ∷ []) each run.0 after run.2
all_own job done (Idle ∷ each) before after run = all_own job (done ++ Idle ∷ []) each run.0 after run.2
all_own job done (Denied e ∷ each) before after run =
    all_cons (IsOwn job) e (entries_of each) (own job done before run.0 e run.1.proposal) (all_own job (done ++ Denied e ∷ []) each run.0 after run.2)
all_own job done (Committed e ∷ each) before after run =
    all_cons (IsOwn job) e (entries_of each) (own job done before run.0 e run.1.proposal) (all_own job (done ++ Committed e ∷ []) each run.0 after run.2)

-- a reply that is a denial, other than as stale
fresh_of : (b : Bool) → (if b then false else true) ≡ true → b ≡ false
fresh_of true is = absurd (cc is)
fresh_of false is = refl

denied_of : (reply : Reply) → is_final reply ≡ true → (d : Denial) × (reply ≡ replies.Denied d) × (is_stale d ≡ false)
denied_of (replies.Denied d) is = (d, refl, fresh_of (is_stale d) is)
denied_of replies.Done is = absurd (cc is)
denied_of (replies.Session n) is = absurd (cc is)
denied_of (replies.Committed n) is = absurd (cc is)
denied_of (replies.Refused r) is = absurd (cc is)

-- what an entry that says a move was denied says
parts_of : (base version : ℕ) (b c : Bool) (mv wanted : Move) → (base == version) ≡ b → (if b then (if c then Some mv else None) else None) ≡ Some wanted → (base ≡ version) × (c ≡ true) × (mv ≡ wanted)
parts_of base version true true mv wanted same is = (grind (arith, nat_tests), refl, cc is)
parts_of base version true false mv wanted same is = absurd (cc is)
parts_of base version false c mv wanted same is = absurd (cc is)

denial_of : (job : Job) (version : ℕ) (wanted : Move) (e : Entry) → IsOwn job e → denied_at version e ≡ Some wanted → IsDenial job version wanted e
denial_of job version wanted e own is =
    let by_call : (if own.base == version then (if is_final e.reply then Some own.mv else None) else None) ≡ Some wanted = sym (ap (λ call. denied_by version call e.reply) own.call_is) ∙ is in
    let parts = parts_of own.base version (own.base == version) (is_final e.reply) own.mv wanted refl by_call in
    let denied = denied_of e.reply parts.1 in
    record {
      desk_is = own.desk_is;
      call_is = own.call_is ∙ (λ i. Propose job.session (parts.0 i) (parts.2 i));
      denial = denied.0;
      reply_is = denied.1;
      fresh = denied.2;
    }

-- a move that was denied by an entry of a whole
abbrev WasDenied : Job → ℕ → List Entry → Move → Type 0
WasDenied job version whole mv = (e : Entry) × Contains whole e × IsDenial job version mv e

-- and so is each move that is skipped, with one entry more
one_more : (job : Job) (version : ℕ) (whole : List Entry) (e : Entry) (moves : List Move) (o : Option Move) → Contains whole e → IsOwn job e → denied_at version e ≡ o → All (WasDenied job version whole) moves
    → All (WasDenied job version whole) (cons_option o moves)
one_more job version whole e moves None among own is rest = rest
one_more job version whole e moves (Some mv) among own is rest = all_cons (WasDenied job version whole) mv moves (e, among, denial_of job version mv e own is) rest

all_denied : (job : Job) (version : ℕ) (whole es : List Entry) → All (Contains whole) es → All (IsOwn job) es → All (WasDenied job version whole) (skip_at version es)
all_denied job version whole [] among owns = All-nil (WasDenied job version whole)
all_denied job version whole (e ∷ es) among owns =
    let rest = all_denied job version whole es (All-tail (Contains whole) e es among) (All-tail (IsOwn job) e es owns) in
    one_more job version whole e (skip_at version es) (denied_at version e) (All-head (Contains whole) e es among) (All-head (IsOwn job) e es owns) refl rest

pub were_denied : (job : Job) (each : List Round) (first seen : List Entry) (version : ℕ) (mv : Move) → Rounds job [] each first seen → Contains (skip_at version (entries_of each)) mv
    → (e : Entry) × Contains (entries_of each) e × IsDenial job version mv e
were_denied job each first seen version mv run there =
    let all = all_denied job version (entries_of each) (entries_of each) (All-contains_itself (entries_of each)) (all_own job [] each first seen run) in
    subst (WasDenied job version (entries_of each)) there.2 (all there.0 mv there.1)
