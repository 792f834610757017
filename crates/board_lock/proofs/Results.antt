-- What a clause on a result says where the result is known.
use Rattle.std.proofs.Common.{◌≡◌, Bool, true, false, Result, Ok, Err, subst}
use Rattle.std.specs.Prelude.{IfOk, IfErr, OnOk}
use Rattle.std.specs.Bool.{OnTrue}

pub where_true : (b : Bool) (P : Type 0) → OnTrue b P → b ≡ true → P
where_true true P h e = h
where_true false P h e = absurd (cc e)

pub on_ok : {A B : Type 0} (r : Result A B) (P : Type 0) (x : A) → r ≡ Ok x → OnOk r P → P
on_ok (Ok y) P x e h = h
on_ok (Err y) P x e h = absurd (cc e)

pub if_ok : {A B : Type 0} (r : Result A B) (P : A → Type 0) (x : A) → r ≡ Ok x → IfOk r P → P x
if_ok r P x e h = subst (λ (s : Result _ _). IfOk s P) e h

pub ok_map : {A B : Type 0} (r : Result A B) (P Q : A → Type 0) → IfOk r P → ((x : A) → P x → Q x) → IfOk r Q
ok_map (Ok x) P Q p f = f x p
ok_map (Err e) P Q p f = tt

pub ok_then : {A B : Type 0} (r : Result A B) (P : A → Type 0) (Q : Type 0) → IfOk r P → ((x : A) → P x → Q) → OnOk r Q
ok_then (Ok x) P Q p f = f x p
ok_then (Err e) P Q p f = tt

pub err_map : {A B : Type 0} (r : Result A B) (P Q : B → Type 0) → IfErr r P → ((x : B) → P x → Q x) → IfErr r Q
err_map (Ok x) P Q p f = tt
err_map (Err e) P Q p f = f e p
