-- The words of a slice, read as arguments.
use Rattle.std.proofs.Common.{◌≡◌, ℕ, ◌<◌, ◌≤◌, ◌-◌, true, false, List, [], ◌∷◌, length, get_or, take, drop, Result, Ok, Err, refl, ap, ◌∙◌, arith, Bor}
use Rattle.std.specs.Result.{IsErr, IsErrAnd}
use Rattle.std.proofs.lemmas.List.{take_all}
use Rattle.permission_core.specs.declared.objects.Object.{Object}
use Rattle.permission_core.specs.declared.objects.ObjectRange.{ObjectRange}
use Rattle.permission_core.specs.declared.objects.Operation.{Operation}
use Rattle.board_lines.specs.declared.command.LineFault.{LineFault}
use Rattle.board_lines.specs.declared.command.LineFault.TheVariants as faults
use Rattle.board_lines.specs.Table.{Kinds, object, range}
use Rattle.board_lines.specs.Arguments.{Arguments, the_object, the_range, a_number, a_name, an_operation, ◌>>=◌, number_arg, name_arg, operation_arg, object_arg, pair_arg, range_arg, number_then, name_then, operation_then, counted, each_read, arguments_of, read_as}
use Rattle.board_lines.proofs.Roles.{lists}

-- a fault that is passed on
pub fault_passed : {A : Type 0} (f : A → Arguments) (r : Result A LineFault) (x : LineFault) (s : Result Arguments LineFault) → IsErr r × IsErrAnd r (λ e. e ≡ x) → Err x ≡ s → read_as f r ≡ s
fault_passed f (Ok a) x s h e = absurd (cc)
fault_passed f (Err y) x s h e = ap Err h.1 ∙ e

pub fault_same : {A : Type 0} (r : Result A LineFault) (x : LineFault) (s : Result A LineFault) → IsErr r × IsErrAnd r (λ e. e ≡ x) → Err x ≡ s → r ≡ s
fault_same (Ok a) x s h e = absurd (cc)
fault_same (Err y) x s h e = ap Err h.1 ∙ e

-- ---- what was read, and then more

then_ok : {A B C : Type 0} (r : Result A LineFault) (m : Result B LineFault) (g : A → B → C) (a : A) (b : B) → Ok a ≡ r → Ok b ≡ m → Ok (g a b) ≡ (r >>= λ x. (m >>= λ y. Ok (g x y)))
then_ok r m g a b e f = rw (← e, ← f) refl

then_bad : {A B C : Type 0} (r : Result A LineFault) (m : Result B LineFault) (g : A → B → C) (x : LineFault) → Err x ≡ r → Err x ≡ (r >>= λ x. (m >>= λ y. Ok (g x y)))
then_bad r m g x e = rw (← e) refl

after_bad : {A B C : Type 0} (r : Result A LineFault) (m : Result B LineFault) (g : A → B → C) (a : A) (x : LineFault) → Ok a ≡ r → Err x ≡ m → Err x ≡ (r >>= λ x. (m >>= λ y. Ok (g x y)))
after_bad r m g a x e f = rw (← e, ← f) refl

made_ok : {A B : Type 0} (r : Result A LineFault) (g : A → B) (a : A) → Ok a ≡ r → Ok (g a) ≡ (r >>= λ x. Ok (g x))
made_ok r g a e = rw (← e) refl

made_bad : {A B : Type 0} (r : Result A LineFault) (g : A → B) (x : LineFault) → Err x ≡ r → Err x ≡ (r >>= λ x. Ok (g x))
made_bad r g x e = rw (← e) refl

-- ---- one word, and those after it

pub name_read : (w : List ℕ) (n : List ℕ) (m : Result Arguments LineFault) (a : Arguments) → Ok n ≡ name_arg w → Ok a ≡ m → Ok (a_name n a) ≡ name_then w m
name_read w n m a e f = then_ok (name_arg w) m a_name n a e f

pub name_bad : (w : List ℕ) (m : Result Arguments LineFault) (x : LineFault) → Err x ≡ name_arg w → Err x ≡ name_then w m
name_bad w m x e = then_bad (name_arg w) m a_name x e

pub after_name_bad : (w : List ℕ) (n : List ℕ) (m : Result Arguments LineFault) (x : LineFault) → Ok n ≡ name_arg w → Err x ≡ m → Err x ≡ name_then w m
after_name_bad w n m x e f = after_bad (name_arg w) m a_name n x e f

pub number_read : (w : List ℕ) (n : ℕ) (m : Result Arguments LineFault) (a : Arguments) → Ok n ≡ number_arg w → Ok a ≡ m → Ok (a_number n a) ≡ number_then w m
unfolding number_then
number_read w n m a e f = then_ok (number_arg w) m a_number n a e f

pub number_bad : (w : List ℕ) (m : Result Arguments LineFault) (x : LineFault) → Err x ≡ number_arg w → Err x ≡ number_then w m
unfolding number_then
number_bad w m x e = then_bad (number_arg w) m a_number x e

pub after_number_bad : (w : List ℕ) (n : ℕ) (m : Result Arguments LineFault) (x : LineFault) → Ok n ≡ number_arg w → Err x ≡ m → Err x ≡ number_then w m
unfolding number_then
after_number_bad w n m x e f = after_bad (number_arg w) m a_number n x e f

pub operation_read : (w : List ℕ) (n : Operation) (m : Result Arguments LineFault) (a : Arguments) → Ok n ≡ operation_arg w → Ok a ≡ m → Ok (an_operation n a) ≡ operation_then w m
operation_read w n m a e f = then_ok (operation_arg w) m an_operation n a e f

pub operation_bad : (w : List ℕ) (m : Result Arguments LineFault) (x : LineFault) → Err x ≡ operation_arg w → Err x ≡ operation_then w m
operation_bad w m x e = then_bad (operation_arg w) m an_operation x e

pub after_operation_bad : (w : List ℕ) (n : Operation) (m : Result Arguments LineFault) (x : LineFault) → Ok n ≡ operation_arg w → Err x ≡ m → Err x ≡ operation_then w m
after_operation_bad w n m x e f = after_bad (operation_arg w) m an_operation n x e f

-- ---- words by their places

abbrev pub word_at : List (Bor (List ℕ)) → ℕ → List ℕ
word_at ws i = (get_or ws i (record { ref_ptr = (0, 0); now = [] })).now

pub two_read : (k : Kinds) (ws : List (Bor (List ℕ))) (r : Result Arguments LineFault) → 2 ≤ length ws → length ws < 3 → ((x y : List ℕ) → counted k (x ∷ y ∷ []) ≡ true)
    → r ≡ each_read k (word_at ws 0 ∷ word_at ws 1 ∷ []) → r ≡ arguments_of k (lists ws)
unfolding arguments_of
two_read k [] r le lt c h = absurd (omega arith)
two_read k (x ∷ []) r le lt c h = absurd (omega arith)
two_read k (x ∷ y ∷ []) r le lt c h = rw (c x.now y.now) h
two_read k (x ∷ y ∷ z ∷ ws) r le lt c h = absurd (omega arith)

pub pair_read : (ws : List (Bor (List ℕ))) (a b : ℕ) → 2 ≤ length ws → length ws < 3 → Ok a ≡ number_arg (word_at ws 0) → Ok b ≡ number_arg (word_at ws 1) → Ok (a, b) ≡ pair_arg (lists ws)
pair_read [] a b le lt e f = absurd (omega arith)
pair_read (x ∷ []) a b le lt e f = absurd (omega arith)
pair_read (x ∷ y ∷ []) a b le lt e f = then_ok (number_arg x.now) (number_arg y.now) (λ c d. (c, d)) a b e f
pair_read (x ∷ y ∷ z ∷ ws) a b le lt e f = absurd (omega arith)

pub pair_bad : (ws : List (Bor (List ℕ))) (f : LineFault) → 2 ≤ length ws → length ws < 3 → Err f ≡ number_arg (word_at ws 0) → Err f ≡ pair_arg (lists ws)
pair_bad [] f le lt e = absurd (omega arith)
pair_bad (x ∷ []) f le lt e = absurd (omega arith)
pair_bad (x ∷ y ∷ []) f le lt e = then_bad (number_arg x.now) (number_arg y.now) (λ c d. (c, d)) f e
pair_bad (x ∷ y ∷ z ∷ ws) f le lt e = absurd (omega arith)

pub pair_half_bad : (ws : List (Bor (List ℕ))) (a : ℕ) (f : LineFault) → 2 ≤ length ws → length ws < 3 → Ok a ≡ number_arg (word_at ws 0) → Err f ≡ number_arg (word_at ws 1) → Err f ≡ pair_arg (lists ws)
pair_half_bad [] a f le lt e g = absurd (omega arith)
pair_half_bad (x ∷ []) a f le lt e g = absurd (omega arith)
pair_half_bad (x ∷ y ∷ []) a f le lt e g = after_bad (number_arg x.now) (number_arg y.now) (λ c d. (c, d)) a f e g
pair_half_bad (x ∷ y ∷ z ∷ ws) a f le lt e g = absurd (omega arith)

-- two words and more
pub two_and_more : (k : Kinds) (ws : List (Bor (List ℕ))) (m : ℕ) (r : Result Arguments LineFault) → 2 ≤ length ws → m ≡ length ws - 2
    → counted k (word_at ws 0 ∷ word_at ws 1 ∷ lists (take m (drop 2 ws))) ≡ true → r ≡ each_read k (word_at ws 0 ∷ word_at ws 1 ∷ lists (take m (drop 2 ws))) → r ≡ arguments_of k (lists ws)
unfolding arguments_of
two_and_more k [] m r le e c h = absurd (omega arith)
two_and_more k (x ∷ []) m r le e c h = absurd (omega arith)
two_and_more k (x ∷ y ∷ ws) m r le e c h =
    let all : take m ws ≡ ws = take_all m ws (omega (arith, e)) in
    rw (rw all at c) (rw all at h)

pub three_and_more : (k : Kinds) (ws : List (Bor (List ℕ))) (m : ℕ) (r : Result Arguments LineFault) → 3 ≤ length ws → m ≡ length ws - 3
    → counted k (word_at ws 0 ∷ word_at ws 1 ∷ word_at ws 2 ∷ lists (take m (drop 3 ws))) ≡ true
    → r ≡ each_read k (word_at ws 0 ∷ word_at ws 1 ∷ word_at ws 2 ∷ lists (take m (drop 3 ws))) → r ≡ arguments_of k (lists ws)
unfolding arguments_of
three_and_more k [] m r le e c h = absurd (omega arith)
three_and_more k (x ∷ []) m r le e c h = absurd (omega arith)
three_and_more k (x ∷ y ∷ []) m r le e c h = absurd (omega arith)
three_and_more k (x ∷ y ∷ z ∷ ws) m r le e c h =
    let all : take m ws ≡ ws = take_all m ws (omega (arith, e)) in
    rw (rw all at c) (rw all at h)

-- and there are too many or too few of the last
pub miscounted_two : (k : Kinds) (ws : List (Bor (List ℕ))) (m : ℕ) → 2 ≤ length ws → m ≡ length ws - 2
    → counted k (word_at ws 0 ∷ word_at ws 1 ∷ lists (take m (drop 2 ws))) ≡ false → Err faults.Count ≡ arguments_of k (lists ws)
unfolding arguments_of
miscounted_two k [] m le e c = absurd (omega arith)
miscounted_two k (x ∷ []) m le e c = absurd (omega arith)
miscounted_two k (x ∷ y ∷ ws) m le e c =
    let all : take m ws ≡ ws = take_all m ws (omega (arith, e)) in
    rw (rw all at c) refl

pub miscounted_three : (k : Kinds) (ws : List (Bor (List ℕ))) (m : ℕ) → 3 ≤ length ws → m ≡ length ws - 3
    → counted k (word_at ws 0 ∷ word_at ws 1 ∷ word_at ws 2 ∷ lists (take m (drop 3 ws))) ≡ false → Err faults.Count ≡ arguments_of k (lists ws)
unfolding arguments_of
miscounted_three k [] m le e c = absurd (omega arith)
miscounted_three k (x ∷ []) m le e c = absurd (omega arith)
miscounted_three k (x ∷ y ∷ []) m le e c = absurd (omega arith)
miscounted_three k (x ∷ y ∷ z ∷ ws) m le e c =
    let all : take m ws ≡ ws = take_all m ws (omega (arith, e)) in
    rw (rw all at c) refl

-- ---- the last of them

pub object_read : (w : List ℕ) (ws : List (List ℕ)) (o : Object) → Ok o ≡ object_arg w ws → Ok (the_object o) ≡ each_read object (w ∷ ws)
object_read w ws o e = made_ok (object_arg w ws) the_object o e

pub object_bad : (w : List ℕ) (ws : List (List ℕ)) (x : LineFault) → Err x ≡ object_arg w ws → Err x ≡ each_read object (w ∷ ws)
object_bad w ws x e = made_bad (object_arg w ws) the_object x e

pub range_read : (w : List ℕ) (ws : List (List ℕ)) (r : ObjectRange) → Ok r ≡ range_arg w ws → Ok (the_range r) ≡ each_read range (w ∷ ws)
range_read w ws r e = made_ok (range_arg w ws) the_range r e

pub range_bad : (w : List ℕ) (ws : List (List ℕ)) (x : LineFault) → Err x ≡ range_arg w ws → Err x ≡ each_read range (w ∷ ws)
range_bad w ws x e = made_bad (range_arg w ws) the_range x e
