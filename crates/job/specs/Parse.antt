-- What a job says, or its first fault: for every list of bytes.
use Rattle.std.specs.Prelude.{ℕ, zero, suc, Bool, cond, not, ◌||◌, List, [], ◌∷◌, length, Some, None, Ok, Err, Option, Result, ◌==◌, nat_le, nat_lt, slice_index}
use Rattle.faults.specs.Bytes.{two_at}
use Rattle.faults.specs.Refusal.{first_met}
use Rattle.faults.specs.declared.job.JobFault.{JobFault}
use Rattle.faults.specs.declared.job.JobFault.TheVariants as fault
use Rattle.job.specs.Fields.{tag_at, length_at, body_at, next_at, past_end, skips, fitting, no_route}

-- The faults of the field at a place, in the order of the checks; `last` is the tag before it, or 0.
abbrev pub field_faults : List ℕ → (last at : ℕ) → List (Bool × JobFault)
field_faults job last at =
    (past_end job at, fault.PastEnd at)
    ∷ (tag_at job at == 0 || nat_lt 6 (tag_at job at), fault.Tag at)
    ∷ (nat_le (tag_at job at) last, fault.Tag at)
    ∷ (skips last (tag_at job at), fault.Missing at)
    ∷ (not (fitting (tag_at job at) (length_at job at)), fault.Length at)
    ∷ (no_route (tag_at job at) (body_at job at), fault.Route at)
    ∷ []

-- A field that was read: its tag, its body and the place after it.
pub record Piece : Type 0 where
  pub tag : ℕ
  pub body : List ℕ
  pub next : ℕ

abbrev pub piece_at : List ℕ → ℕ → Piece
piece_at job at = record { tag = tag_at job at; body = body_at job at; next = next_at job at }

-- A value, unless there is a fault.
abbrev pub unless : {X : Type 0} → Option JobFault → X → Result X JobFault
unless None x = Ok x
unless (Some f) x = Err f

-- The step of the reading: nothing at the end, else the field at the place, or its first fault.
abbrev pub next_field : List ℕ → (last at : ℕ) → Result (Option Piece) JobFault
next_field job last at = cond (nat_le (length job) at) (Ok None) (unless (first_met (field_faults job last at)) (Some (piece_at job at)))

-- What a job says. The route is 0 for direct and 1 for translated; table, actions and formulas are rows.
pub record Parts : Type 0 where
  pub states : ℕ
  pub start : ℕ
  pub route : ℕ
  pub table : List ℕ
  pub actions : List ℕ
  pub formulas : List ℕ
  pub mailbox : Option (List ℕ)
  pub hiding : Option (List ℕ)

-- Before the first field.
abbrev pub no_parts : Parts
no_parts =
    record { states = 0; start = 0; route = 0; table = []; actions = []; formulas = []; mailbox = None; hiding = None }

-- The parts with what a field says.
abbrev pub keep : (tag : ℕ) (body : List ℕ) → Parts → Parts
keep tag body p =
    record {
      states = cond (tag == 1) (two_at body 0) p.states;
      start = cond (tag == 1) (two_at body 2) p.start;
      route = cond (tag == 1) (slice_index body 4) p.route;
      table = cond (tag == 2) body p.table;
      actions = cond (tag == 3) body p.actions;
      formulas = cond (tag == 4) body p.formulas;
      mailbox = cond (tag == 5) (Some body) p.mailbox;
      hiding = cond (tag == 6) (Some body) p.hiding;
    }

-- At the end: the fields 1 to 4 have come, or one is missing.
abbrev pub ended : List ℕ → (last : ℕ) → Parts → Result Parts JobFault
ended job last p = cond (nat_lt last 4) (Err (fault.Missing (length job))) (Ok p)

-- A fault ends the reading; so does the end; a field goes on.
abbrev pub go_on : {X : Type 0} → Result (Option Piece) JobFault → (at_end : Result X JobFault) → (Piece → Result X JobFault) → Result X JobFault
go_on (Err f) at_end more = Err f
go_on (Ok None) at_end more = at_end
go_on (Ok (Some p)) at_end more = more p

-- Reads from a place on, in at most so many steps; with none left it takes no further field.
unfoldable pub parse_from : (steps : ℕ) → List ℕ → (last at : ℕ) → Parts → Result Parts JobFault
parse_from zero job last at p = Err (fault.Tag at)
parse_from (suc n) job last at p =
    go_on (next_field job last at) (ended job last p) (λ f. parse_from n job f.tag f.next (keep f.tag f.body p))

-- The whole job. Tags rise and are at most 6, so that the seventh step meets the end or a fault.
abbrev pub parse : List ℕ → Result Parts JobFault
parse job = cond (nat_lt 65536 (length job)) (Err fault.TooLong) (parse_from 7 job 0 0 no_parts)
