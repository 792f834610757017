use Rattle.std.proofs.Common.{sym, subst, refl}
use denote.Param.Object.{Made, read_made}
use denote.Param.Members.{Mut}
use denote.Param.Table.{Table}
use mir.Syntax.{Dict}

-- what a closure may answer, its box may answer
pub post_of_closure : {A R : Type 0} (T : Table (λ X. Mut X A R) Dict) (at : T.I) {i : T.I} {y : (T.entry i).0.Denot} {x : (T.entry at).0.Denot}
    → Made (λ j. (T.entry j).0.coded.code) (T.entry at).0.coded.code at i y x
    → (a : A) (r : R) → (T.entry at).1.post x a r → (T.entry i).1.post y a r
post_of_closure T at {i} {y} {x} m a r =
    subst (λ (P : Type 0). P) (sym (read_made T (T.entry at) at refl (Type 0) (λ j v. j.1.post v a r) i y x m))
