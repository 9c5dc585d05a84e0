-- Laws of a result of which the error was passed through a function, for the edit place_of_the_list; no proof here cites them. Assumes nothing.
use Rattle.std.specs.Prelude.{◌≡◌, Result, Ok, Err}
use Rattle.std.specs.Result.{MatchResult, IsErrAnd}
use Rattle.std.proofs.Math.Path.{sym, ap}
use Rattle.std.proofs.Common.{◌∙◌}

pub ok_before : {A E : Type 0} (r s : Result A E) (x : A) (post : E → E → Type 0) → MatchResult r (λ y. s ≡ Ok y) (λ e. IsErrAnd s (post e)) → s ≡ Ok x → r ≡ Ok x
ok_before (Ok y) s x post m h = sym m ∙ h
ok_before (Err e) (Ok y) x post m h = absurd m
ok_before (Err e) (Err f) x post m h = cc

pub err_before : {A E : Type 0} (r s : Result A E) (g : E) (post : E → E → Type 0) → MatchResult r (λ y. s ≡ Ok y) (λ e. IsErrAnd s (post e)) → s ≡ Err g → ((e f : E) → post e f → f ≡ e) → r ≡ Err g
err_before (Ok y) s g post m h k = let z : Ok y ≡ Err g = sym m ∙ h in cc
err_before (Err e) (Ok y) g post m h k = absurd m
err_before (Err e) (Err f) g post m h k = sym (ap Err (k e f m)) ∙ h
