-- A kind that no row has, and a number that no route has, in words.
use Rattle.std.specs.Prelude.{ℕ, List, ◌++◌, codes, decimal}
use Rattle.rows.specs.declared.fields.UnknownKind.{UnknownKind}
use Rattle.rows.specs.declared.route.UnknownRoute.{UnknownRoute}

abbrev pub unknown_kind_in_words : UnknownKind → List ℕ
unknown_kind_in_words e = codes "no row has kind " ++ decimal e.0

abbrev pub unknown_route_in_words : UnknownRoute → List ℕ
unknown_route_in_words e = codes "no route has number " ++ decimal e.0
