-- Two words more.
use Rattle.std.proofs.Common.{◌≡◌, ℕ, suc, ◌+◌, ◌*◌, ◌-◌, ap, sym, ◌∙◌, arith}
use Rattle.rand_core.specs.Stream.{Stream, next_u32}
use Rattle.search_workers.specs.Draws.{behind, word}
use Rattle.search_workers.specs.Jobs.{Job, vehicle_by, first_vehicle, second_vehicle}

two_more : (n : ℕ) → 2 * (n + 1) ≡ suc (suc (2 * n))
two_more n = omega arith

one_more : (n : ℕ) → 2 * (n + 1) - 1 ≡ suc (2 * n)
one_more n = omega arith

first_at : (n : ℕ) → 2 * (n + 1) - 1 - 1 ≡ 2 * n
first_at n = omega arith

pub behind_two : (n : ℕ) (s t : Stream) → t ≡ behind (2 * n) s → (next_u32 (next_u32 t).1).1 ≡ behind (2 * (n + 1)) s
behind_two n s t is = ap (λ u. (next_u32 (next_u32 u).1).1) is ∙ sym (ap (λ m. behind m s) (two_more n))

first_word : (n : ℕ) (s t : Stream) → t ≡ behind (2 * n) s → (next_u32 t).0 ≡ word (2 * (n + 1) - 1) s
first_word n s t is = ap (λ u. (next_u32 u).0) is ∙ sym (ap (λ m. (next_u32 (behind m s)).0) (first_at n))

second_word : (n : ℕ) (s t : Stream) → t ≡ behind (2 * n) s → (next_u32 (next_u32 t).1).0 ≡ word (2 * (n + 1)) s
second_word n s t is = ap (λ u. (next_u32 (next_u32 u).1).0) is ∙ sym (ap (λ m. (next_u32 (behind m s)).0) (one_more n))

-- the two vehicles by the next two words
pub first_drawn : (n k v : ℕ) (s t : Stream) (job : Job) → t ≡ behind (2 * n) s → job.words ≡ s → job.opening.setting.vehicles ≡ k → v ≡ vehicle_by k (next_u32 t).0 → v ≡ first_vehicle job (n + 1)
first_drawn n k v s t job is words vehicles drawn =
    drawn ∙ (ap (vehicle_by k) (first_word n s t is) ∙ (λ i. vehicle_by (sym vehicles i) (word (2 * (n + 1) - 1) (sym words i))))

pub second_drawn : (n k v : ℕ) (s t : Stream) (job : Job) → t ≡ behind (2 * n) s → job.words ≡ s → job.opening.setting.vehicles ≡ k → v ≡ vehicle_by k (next_u32 (next_u32 t).1).0 → v ≡ second_vehicle job (n + 1)
second_drawn n k v s t job is words vehicles drawn =
    drawn ∙ (ap (vehicle_by k) (second_word n s t is) ∙ (λ i. vehicle_by (sym vehicles i) (word (2 * (n + 1)) (sym words i))))
