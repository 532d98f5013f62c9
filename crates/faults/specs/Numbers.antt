-- The layer, the number and the place of each fault.
use Rattle.std.specs.Prelude.{◌≡◌, ◌≢◌, ℕ, ◌%◌, ◌^◌, Some, None, Option}
use Rattle.faults.specs.declared.job.JobFault.{JobFault}
use Rattle.faults.specs.declared.job.JobFault.TheVariants.{TooLong, PastEnd, Tag, Missing, Length, Route}
use Rattle.faults.specs.declared.system.SystemFault.{SystemFault}
use Rattle.faults.specs.declared.system.SystemFault.TheVariants.{Count, Row, TooLarge, Buffer}
use Rattle.faults.specs.declared.sheet.SheetFault.{SheetFault}
use Rattle.faults.specs.declared.sheet.SheetFault.TheVariants.{States, Full, Kind, NotEarlier, NotNoted, Finished, StateCount, Columns, Scratch, NoVerdict, Output}
use Rattle.faults.specs.declared.fault.Fault.{Fault}
use Rattle.faults.specs.declared.fault.Fault.TheVariants.{Job, System, Sheet}

abbrev pub job_number : JobFault → ℕ
job_number TooLong = 1
job_number (PastEnd at) = 2
job_number (Tag at) = 3
job_number (Missing at) = 4
job_number (Length at) = 5
job_number (Route at) = 6

abbrev pub job_place : JobFault → ℕ
job_place TooLong = 0
job_place (PastEnd at) = at
job_place (Tag at) = at
job_place (Missing at) = at
job_place (Length at) = at
job_place (Route at) = at

abbrev pub system_number : SystemFault → ℕ
system_number Count = 7
system_number (Row row) = 8
system_number TooLarge = 9
system_number Buffer = 18

abbrev pub system_place : SystemFault → ℕ
system_place Count = 0
system_place (Row row) = row
system_place TooLarge = 0
system_place Buffer = 0

abbrev pub sheet_number : SheetFault → ℕ
sheet_number States = 10
sheet_number (Full row) = 11
sheet_number (Kind row) = 12
sheet_number (NotEarlier row) = 13
sheet_number (NotNoted row) = 14
sheet_number (Finished rows) = 15
sheet_number (StateCount rows) = 16
sheet_number (Columns rows) = 17
sheet_number (Scratch rows) = 18
sheet_number (NoVerdict row) = 21
sheet_number Output = 22

abbrev pub sheet_place : SheetFault → ℕ
sheet_place States = 0
sheet_place (Full row) = row
sheet_place (Kind row) = row
sheet_place (NotEarlier row) = row
sheet_place (NotNoted row) = row
sheet_place (Finished rows) = rows
sheet_place (StateCount rows) = rows
sheet_place (Columns rows) = rows
sheet_place (Scratch rows) = rows
sheet_place (NoVerdict row) = row
sheet_place Output = 0

-- Layer 1 is the job, 2 the systems and structures, 3 the sheet.
abbrev pub layer : Fault → ℕ
layer (Job f) = 1
layer (System f) = 2
layer (Sheet f) = 3

abbrev pub number : Fault → ℕ
number (Job f) = job_number f
number (System f) = system_number f
number (Sheet f) = sheet_number f

abbrev pub place : Fault → ℕ
place (Job f) = job_place f
place (System f) = system_place f
place (Sheet f) = sheet_place f

-- The fault has this number and this place; there is none where no fault has them, by the four bytes of its place.
abbrev pub CodedBy : {F : Type 0} → (F → ℕ) → (F → ℕ) → ℕ → ℕ → Option F → Type 0
CodedBy number place n p (Some f) = (number f ≡ n) × (place f ≡ p)
CodedBy {F} number place n p None = (f : F) → number f ≡ n → place f % 2 ^ 32 ≢ p

-- The same for a fault of any layer.
abbrev pub FaultCoded : ℕ → ℕ → ℕ → Option Fault → Type 0
FaultCoded l n p (Some f) = (layer f ≡ l) × (number f ≡ n) × (place f ≡ p)
FaultCoded l n p None = (f : Fault) → layer f ≡ l → number f ≡ n → place f % 2 ^ 32 ≢ p
