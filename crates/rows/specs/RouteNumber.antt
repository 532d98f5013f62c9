-- The numbers of the routes.
use Rattle.std.specs.Prelude.{◌≡◌, ◌≢◌, ℕ, Result, MatchResult}
use Rattle.rows.specs.declared.route.Route.{Route}
use Rattle.rows.specs.declared.route.Route.TheVariants.{Direct, Translated}
use Rattle.rows.specs.declared.route.UnknownRoute.{UnknownRoute}

abbrev pub route_number : Route → ℕ
route_number Direct = 0
route_number Translated = 1

-- The result is the route of the number; or an error with the number, if no route has it.
abbrev pub Numbers : ℕ → Result Route UnknownRoute → Type 0
Numbers n r = MatchResult r (λ route. route_number route ≡ n) (λ e. (e.0 ≡ n) × ((route : Route) → route_number route ≢ n))
