-- How a call refuses.
use Rattle.std.specs.Prelude.{◌≡◌, Bool, cond, List, [], ◌∷◌, Some, None, Ok, Err, Option, Result}

-- The first fault of a list whose condition is met.
abbrev pub first_met : {F : Type 0} → List (Bool × F) → Option F
first_met [] = None
first_met (c ∷ cs) = cond c.0 (Some c.1) (first_met cs)

-- A call whose refusal is due answers it, and leaves all the same; else it does what it should.
abbrev pub Outcome : {X F : Type 0} → Result X F → (due : Option F) (Same : Type 0) (Does : X → Type 0) → Type 0
Outcome (Ok x) due Same Does = (due ≡ None) × Does x
Outcome (Err f) due Same Does = (due ≡ Some f) × Same
