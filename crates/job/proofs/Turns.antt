-- A turn of the reading of a whole job.
use Rattle.std.proofs.Common.{◌≡◌, ℕ, zero, suc, pred, ◌-◌, ◌<◌, ◌≤◌, List, length, Some, None, Ok, Err, Option, Result, ◌∙◌, arith}
use Rattle.std.proofs.lemmas.Bool.{lt-ltb, le-ltb}
use Rattle.faults.specs.declared.job.JobFault.{JobFault}
use Rattle.faults.specs.declared.job.JobFault.TheVariants as fault
use Rattle.job.specs.Parse.{Piece, Parts, next_field, no_parts, go_on, ended, keep, parse_from, parse}
use Rattle.job.proofs.Steps.{Sound}

-- what is left to read gives what the whole job gives
pub record Stands (job held : List ℕ) (last at : ℕ) (p : Parts) : Type 0 where
  pub same : held ≡ job
  pub steps : ℕ
  pub enough : 6 - last < steps
  pub left : parse_from steps job last at p ≡ parse_from 7 job 0 0 no_parts

-- the step that is taken at a place
turn : (job : List ℕ) (last at : ℕ) (p : Parts) (R : Result Parts JobFault) (n : ℕ) → 6 - last < n → parse_from n job last at p ≡ R → go_on (next_field job last at) (ended job last p) (λ f. parse_from (pred n) job f.tag f.next (keep f.tag f.body p)) ≡ R
unfolding parse_from
turn job last at p R zero h e = absurd (omega arith)
turn job last at p R (suc n) h e = e

-- a field leaves fewer tags
fewer : (last tag n : ℕ) → last < tag → tag ≤ 6 → 6 - last < n → 6 - tag < pred n
fewer last tag zero a b h = absurd (omega arith)
fewer last tag (suc n) a b h = omega arith

module _ (job held : List ℕ) (last at : ℕ) (p : Parts) (s : Stands job held last at p) where
  here : {q : Result (Option Piece) JobFault} → next_field held last at ≡ q → go_on q (ended job last p) (λ f. parse_from (pred s.steps) job f.tag f.next (keep f.tag f.body p)) ≡ parse_from 7 job 0 0 no_parts
  here e =
      let t = turn job last at p _ s.steps s.enough s.left in
      rw (← e, s.same) t

  parsed : length held ≤ 65536 → parse_from 7 job 0 0 no_parts ≡ parse job
  parsed short = let b : length job ≤ 65536 = rw s.same at short in simp (le-ltb 65536 (length job) b)

  pub at_fault : (f : JobFault) → next_field held last at ≡ Err f → length held ≤ 65536 → Err f ≡ parse job
  at_fault f e short = here e ∙ parsed short

  -- at the end of the job
  module _ (e : next_field held last at ≡ Ok None) (short : length held ≤ 65536) (last' : ℕ) (t : last' ≡ last) where
    at_end : ended job last p ≡ parse job
    at_end = here e ∙ parsed short

    pub at_missing : last' < 4 → (held' : List ℕ) → held' ≡ held → (f : JobFault) → f ≡ fault.Missing (length held') → Err f ≡ parse job
    at_missing l held' h f m =
        let b : last < 4 = omega arith in
        let d : f ≡ fault.Missing (length job) = m ∙ rw (h, s.same) in
        rw d (simp (lt-ltb last 4 b) at at_end)

    pub at_whole : 4 ≤ last' → Ok p ≡ parse job
    at_whole l = let b : 4 ≤ last = omega arith in simp (le-ltb last 4 b) at at_end

  pub at_field : (f : Piece) → next_field held last at ≡ Ok (Some f) → Sound last f → (held' : List ℕ) → held' ≡ held → (last' : ℕ) → last' ≡ f.tag → (p' : Parts) → p' ≡ keep f.tag f.body p → Stands job held' last' f.next p'
  at_field f e k held' h last' t p' g =
      rw (t, g)
      record {
        same = h ∙ s.same;
        steps = pred s.steps;
        enough = fewer last f.tag s.steps k.above k.known s.enough;
        left = here e;
      }
