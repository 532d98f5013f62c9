-- How the reader's calls follow the definitions.
use Rattle.std.specs.Prelude.{◌≡◌, ℕ, ◌≤◌, true, false, List, Some, None, Ok, Err, Option, Result}
use Rattle.std.specs.Borrow.{Bor}
use Rattle.faults.specs.declared.job.JobFault.{JobFault}
use Rattle.job.specs.Fields.{tag_at, body_at, past_end}
use Rattle.job.specs.Parse.{next_field}
use Rattle.job.specs.declared.field.Field.{Field}
use Rattle.job.specs.declared.reader.Reader.{Reader}
use Rattle.job.specs.declared.field.Field.TheVariants.{Head, Table, Actions, Formulas, Mailbox, Hiding}

-- The tag of each field.
abbrev pub tag_of : Field → ℕ
tag_of (Head body) = 1
tag_of (Table body) = 2
tag_of (Actions body) = 3
tag_of (Formulas body) = 4
tag_of (Mailbox body) = 5
tag_of (Hiding body) = 6

abbrev pub body_of : Field → List ℕ
body_of (Head body) = body.now
body_of (Table body) = body.now
body_of (Actions body) = body.now
body_of (Formulas body) = body.now
body_of (Mailbox body) = body.now
body_of (Hiding body) = body.now

-- The field of a tag from 1 to 6, and none of another tag.
abbrev pub Named : (tag : ℕ) (body : List ℕ) → Option Field → Type 0
Named tag body None = 1 ≤ tag → tag ≤ 6 → ⊥
Named tag body (Some f) = (tag_of f ≡ tag) × (body_of f ≡ body)

-- The header's tag and the body, unless one runs past the end.
abbrev pub Cut : List ℕ → (at : ℕ) → Option (ℕ × Bor (List ℕ)) → Type 0
Cut job at None = past_end job at ≡ true
Cut job at (Some x) = (past_end job at ≡ false) × (x.0 ≡ tag_at job at) × (x.1.now ≡ body_at job at)

-- What a reader reads, the place up to which it has read, and the tag of the last field that it read, or 0.
abbrev pub job_of : Reader → List ℕ
job_of r = r.job.now

abbrev pub place_of : Reader → ℕ
place_of r = r.at

abbrev pub last_of : Reader → ℕ
last_of r = r.last

-- A step of the reader, which stays where it is at a fault and at the end.
abbrev pub Steps : Reader → Result (Option Field) JobFault → Reader → Type 0
Steps r (Err f) r' = (next_field (job_of r) (last_of r) (place_of r) ≡ Err f) × (last_of r' ≡ last_of r) × (place_of r' ≡ place_of r)
Steps r (Ok None) r' = (next_field (job_of r) (last_of r) (place_of r) ≡ Ok None) × (last_of r' ≡ last_of r) × (place_of r' ≡ place_of r)
Steps r (Ok (Some f)) r' =
    (next_field (job_of r) (last_of r) (place_of r) ≡ Ok (Some (record { tag = tag_of f; body = body_of f; next = place_of r' })))
    × (last_of r' ≡ tag_of f)
