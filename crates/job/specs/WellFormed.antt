-- The bounds that every job keeps that was read.
use Rattle.std.specs.Prelude.{◌≡◌, ℕ, ◌%◌, ◌<◌, ◌≤◌, List, length, Option}
use Rattle.std.specs.Borrow.{Bor}
use Rattle.std.specs.Option.{ForSome, option_map}
use Rattle.rows.specs.declared.route.Route.{Route}
use Rattle.rows.specs.RouteNumber.{route_number}
use Rattle.job.specs.Parse.{Parts}

-- The parts of a job with these fields.
abbrev pub parts : (states start : ℕ) → Route → (table actions formulas : Bor (List ℕ)) → (mailbox hiding : Option (Bor (List ℕ))) → Parts
parts states start route table actions formulas mailbox hiding =
    record {
      states = states;
      start = start;
      route = route_number route;
      table = table.now;
      actions = actions.now;
      formulas = formulas.now;
      mailbox = option_map (λ x. x.now) mailbox;
      hiding = option_map (λ x. x.now) hiding;
    }

-- The bounds that the parts of every sound job keep.
pub record WellFormed (p : Parts) : Type 0 where
  pub states : p.states < 65536
  pub start : p.start < 65536
  pub route : p.route ≤ 1
  pub table : length p.table % 5 ≡ 0
  pub table_rows : length p.table ≤ 20480
  pub actions : length p.actions % 3 ≡ 0
  pub action_rows : length p.actions ≤ 192
  pub formulas : length p.formulas % 5 ≡ 0
  pub formula_rows : length p.formulas ≤ 320
  pub mailbox : ForSome p.mailbox (λ body. length body ≡ 35)
  pub hiding : ForSome p.hiding (λ body. length body ≡ 32)
