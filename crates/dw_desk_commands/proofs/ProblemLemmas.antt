-- The text of a problem.
use Rattle.std.proofs.Common.{◌≡◌, ℕ, ◌-◌, Option, Some, None, Result, Ok, Err, sym, subst}
use Rattle.std.proofs.Common.{arith}
use Rattle.std.specs.Prelude.{IfErr, IfOk, OnOk}
use Rattle.dw_mend.specs.Mending.{AreBounded}

-- of an answer something holds that follows from what holds of it
pub ok_so : {T E : Type 0} (P Q : T → Type 0) (r : Result T E) → ((x : T) → P x → Q x) → IfOk r P → IfOk r Q
ok_so P Q (Ok x) so h = so x h
ok_so P Q (Err e) so h = tt

pub done_so : {T E : Type 0} (P Q : Type 0) (r : Result T E) → (P → Q) → OnOk r P → OnOk r Q
done_so P Q (Ok x) so h = so h
done_so P Q (Err e) so h = tt

pub err_so : {T E : Type 0} (P Q : E → Type 0) (r : Result T E) → ((e : E) → P e → Q e) → IfErr r P → IfErr r Q
err_so P Q (Ok x) so h = tt
err_so P Q (Err e) so h = so e h

pub is_err : {T E : Type 0} (P : E → Type 0) (result : Result T E) (fault was : E) → result ≡ Err fault → fault ≡ was
    → P was → IfErr result P
is_err P result fault was is same holds = subst (λ z. IfErr z P) (sym is) (subst P (sym same) holds)

-- as many as were expanded since
pub bounded_from : (each : Option ℕ) (all undecided begun before after : ℕ) → begun ≡ before
    → AreBounded each all undecided begun after → AreBounded each all undecided 0 (after - before)
bounded_from None all undecided begun before after same none = none
bounded_from (Some bound) all undecided begun before after same b =
    (omega (arith, b.0, same), omega (arith, b.1, same))
