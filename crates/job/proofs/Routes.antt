-- The numbers that are a route's.
use Rattle.std.proofs.Common.{◌≡◌, ℕ, true, false, nat_lt, Ok, Err, Result, refl, sym, ◌∙◌, arith}
use Rattle.std.proofs.lemmas.Bool.{lt-ltb, le-ltb}
use Rattle.std.specs.Result.{is_err, IsOk}
use Rattle.rows.specs.RouteNumber.{Numbers}
use Rattle.rows.specs.declared.route.Route.{Route}
use Rattle.rows.specs.declared.route.Route.TheVariants.{Direct, Translated}
use Rattle.rows.specs.declared.route.UnknownRoute.{UnknownRoute}

pub unknown_route : (n : ℕ) (r : Result Route UnknownRoute) → Numbers n r → is_err r ≡ nat_lt 1 n
unknown_route n (Ok Direct) h = sym (le-ltb 1 n (omega arith))
unknown_route n (Ok Translated) h = sym (le-ltb 1 n (omega arith))
unknown_route n (Err e) h =
    let a = h.1 Direct in
    let b = h.1 Translated in
    sym (lt-ltb 1 n (grind arith))

pub known_route : (n : ℕ) (r : Result Route UnknownRoute) → Numbers n r → nat_lt 1 n ≡ false → IsOk r
known_route n (Ok route) h e = refl
known_route n (Err x) h e = absurd (let z : true ≡ false = unknown_route n (Err x) h ∙ e in cc)
