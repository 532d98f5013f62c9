-- What the calls of a closure made, number by number.
use Rattle.std.proofs.Common.{◌≡◌, ℕ, zero, suc, ◌+◌, ◌<◌, ◌≤◌, List, get_or, subst, ap, ◌∙◌, sym, inl, inr, arith}
use denote.Param.Members.{Mut, Called}
use Rattle.std.specs.Array.{IsFromFnResultFrom}
use Rattle.std.proofs.lemmas.Bool.{cases_eq}

-- Each call at a number below m gives v of it, and leaves the closure as it was.
module _ {F B : Type 0} (g : Mut F (ℕ × Unit {0}) B) (v : ℕ → B) (f : F) (m : ℕ) (calls : (i : ℕ) (y : B) (q : F) → i < m → Called g f (i, tt) y q → (y ≡ v i) × (q ≡ f)) where
  pub from_fn_at : (ys : List B) (i n k : ℕ) (d : B) → i + n ≡ m → i ≤ k → k < m → IsFromFnResultFrom g f ys i n → get_or ys k d ≡ v k
  from_fn_at ys i zero k d e l h r = absurd (omega arith)
  from_fn_at ys i (suc n) k d e l h (q, y, at, call, rest) =
      let (same, kept) = calls i y q (omega arith) call in
      elim (cases_eq k i) [
        | inl here ↦ ap (λ j. get_or ys j d) here ∙ at.1 d ∙ same ∙ ap v (sym here)
        | inr other ↦ from_fn_at ys (i + 1) n k d (omega arith) (omega arith) h (subst (λ p. IsFromFnResultFrom g p ys (i + 1) n) kept rest)
      ]
