-- What a field that was read is known to be.
use Rattle.std.proofs.Common.{◌≡◌, ℕ, ◌<◌, ◌≤◌, Bool, true, false, cond, leb, List, [], ◌∷◌, length, Some, None, Ok, refl, arith}
use Rattle.std.proofs.lemmas.List.{length-take, length-drop}
use Rattle.std.proofs.lemmas.Bool.{not-false}
use Rattle.std.proofs.lemmas.Bool.Decides.{nat_tests}
use Rattle.std.specs.List.{AllByRecursion as All}
use Rattle.faults.specs.Refusal.{first_met}
use Rattle.faults.specs.declared.job.JobFault.{JobFault}
use Rattle.job.specs.Fields.{length_at, body_at, next_at, past_end, fitting, no_route}
use Rattle.job.specs.Parse.{Piece, piece_at, field_faults, next_field, unless}

-- a body that does not run past the end has the length that its header says, and ends within the job
body_length : (job : List ℕ) (at : ℕ) → past_end job at ≡ false → (length (body_at job at) ≡ length_at job at) × (next_at job at ≤ length job)
body_length job at e =
    let h : next_at job at ≤ length job = grind (arith, nat_tests) in (simp (length-take, length-drop) (omega arith), h)

-- where there is no fault, no condition is met
unmet : {X : Type 0} (cs : List (Bool × JobFault)) (x y : X) → unless (first_met cs) x ≡ Ok y → All (λ c. c.0 ≡ false) cs × (x ≡ y)
unmet [] x y e = (tt, cc)
unmet ((true, f) ∷ cs) x y e = absurd (let z : ◌≡◌ {A = ℕ} 0 1 = cc in omega arith)
unmet ((false, f) ∷ cs) x y e = let m = unmet cs x y e in ((refl, m.0), m.1)

-- what a field that was read is known to be
pub record Sound (last : ℕ) (p : Piece) : Type 0 where
  pub above : last < p.tag
  pub known : p.tag ≤ 6
  pub fits : fitting p.tag (length p.body) ≡ true
  pub routed : no_route p.tag p.body ≡ false

pub sound : (job : List ℕ) (last at : ℕ) (p : Piece) → next_field job last at ≡ Ok (Some p) → Sound last p
sound job last at p e = go (leb (length job) at) e
  where
    go : (b : Bool) → cond b (Ok None) (unless (first_met (field_faults job last at)) (Some (piece_at job at))) ≡ Ok (Some p) → Sound last p
    go true h = absurd (let z : ◌≡◌ {A = ℕ} 0 1 = cc in omega arith)
    go false h =
        let m = unmet (field_faults job last at) _ _ h in
        let u = m.0 in
        let same : piece_at job at ≡ p = cc in
        let n = (body_length job at u.0).0 in
        rw (← same)
        record {
          above = grind (arith, nat_tests);
          known = grind (arith, nat_tests);
          fits = rw n (not-false _ u.1.1.1.1.0);
          routed = u.1.1.1.1.1.0;
        }
