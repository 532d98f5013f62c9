-- What a row says of an action goes through what the rows that it names say.
use Rattle.std.proofs.Common.{◌≡◌, ℕ, zero, suc, ◌<◌, ◌≤◌, Bool, true, false, not, ◌&&◌, List, [], length, get_or, take, set, replicate, Some, None, Option, sym, refl, ap, ◌∙◌, inl, inr, arith}
use Rattle.std.proofs.lemmas.Bool.{cases_eq}
use Rattle.std.proofs.lemmas.Option.{none-some, same_Some}
use native.Mathlib.Decide.{dec_lt}
use Rattle.std.proofs.lemmas.List.{get_or-take, get_or_past, length-take-le, get_or-set_same, get_or-set_other, set_past}
use Rattle.std.proofs.lemmas.Bool.Decides.{nat_tests}
use Rattle.rows.specs.declared.rows.ActionRow.{ActionRow}
use Rattle.rows.specs.declared.rows.ActionRow.TheVariants.{Any, Is, Not, And}
use Rattle.rows.specs.Rows.{action_names, beyond}
use Rattle.rows.specs.Tests.{says, verdict, verdicts, row_says, Remembers}
use Rattle.rows.proofs.InTurn.{in_turn_long, in_turn_at}

-- A row asks only earlier ones.
verdict_same : (r : ActionRow) (n a : ℕ) (f g : ℕ → Bool) → ((p : ℕ) → p < n → f p ≡ g p) → verdict r n f a ≡ verdict r n g a
verdict_same Any n a f g h = refl
verdict_same (Is x) n a f g h = refl
verdict_same (Not p) n a f g h = grind (arith, nat_tests, h p)
verdict_same (And p q) n a f g h = grind (arith, nat_tests, h p, h q)

abbrev made : ℕ → List Bool → ActionRow → Bool
made a earlier row = verdict row (length earlier) (λ p. get_or earlier p false) a

-- Of a row that is there: one that names a row that is not earlier, and any other; and of a row that is not there.
row_says_lem : (rows : List ActionRow) (row a : ℕ) → row < length rows → row_says rows row a ≡ verdict (get_or rows row Any) row (λ p. row_says rows p a) a
row_says_lem rows row a h =
    let all = verdicts rows a in
    let n : length (take row all) ≡ row = length-take-le row all (omega (arith, in_turn_long (made a) [] rows)) in
    in_turn_at (made a) false Any [] rows row row (omega arith) h
    ∙ ap (λ i. verdict (get_or rows row Any) i (λ p. get_or (take row all) p false) a) n
    ∙ verdict_same (get_or rows row Any) row a _ _ (λ p l. get_or-take row all p false l)

pub row_stray : (rows : List ActionRow) (row a : ℕ) → row < length rows → beyond row (action_names (get_or rows row Any)) ≡ true → row_says rows row a ≡ false
row_stray rows row a h e = row_says_lem rows row a h ∙ ap (λ b. not b && says (get_or rows row Any) (λ p. row_says rows p a) a) e

pub row_names_lem :
    (rows : List ActionRow) (row a : ℕ) → row < length rows → beyond row (action_names (get_or rows row Any)) ≡ false
    → row_says rows row a ≡ says (get_or rows row Any) (λ p. row_says rows p a) a
row_names_lem rows row a h e = row_says_lem rows row a h ∙ ap (λ b. not b && says (get_or rows row Any) (λ p. row_says rows p a) a) e

pub row_past : (rows : List ActionRow) (row a : ℕ) → length rows ≤ row → row_says rows row a ≡ false
row_past rows row a h = get_or_past (verdicts rows a) row false (omega (arith, in_turn_long (made a) [] rows))

-- Nothing is remembered at first; what is remembered is right; and one right answer more may be remembered.
unknown : (n p : ℕ) → get_or (replicate {A = Option Bool} n None) p None ≡ None
unknown zero p = refl
unknown (suc n) zero = refl
unknown (suc n) (suc p) = unknown n p

pub remembers_none : (rows : List ActionRow) (a n : ℕ) → Remembers rows a (replicate n None)
unfolding Remembers
remembers_none rows a n p b e = absurd (none-some b (sym (unknown n p) ∙ e))

pub remembered : (rows : List ActionRow) (a : ℕ) (known : List (Option Bool)) (p : ℕ) (b : Bool) → Remembers rows a known → get_or known p None ≡ Some b → b ≡ row_says rows p a
unfolding Remembers
remembered rows a known p b m e = m p b e

pub remembers_more :
    (rows : List ActionRow) (a : ℕ) (known : List (Option Bool)) (p : ℕ) (b : Bool) → Remembers rows a known → b ≡ row_says rows p a
    → Remembers rows a (set known p (Some b))
unfolding Remembers
remembers_more rows a known p b m e i c f =
    elim (cases_eq i p) [
      | inl same ↦
          let here : get_or (set known p (Some b)) p None ≡ Some c = ap (λ j. get_or (set known p (Some b)) j None) (sym same) ∙ f in
          elim (dec_lt p (length known)) [
            | yes h ↦ same_Some c b (sym here ∙ get_or-set_same known p (Some b) None h) ∙ e ∙ ap (λ j. row_says rows j a) (sym same)
            | no h ↦ m i c (ap (λ j. get_or known j None) same ∙ ap (λ l. get_or l p None) (sym (set_past known p (Some b) (omega arith))) ∙ here)
          ]
      | inr other ↦ m i c (sym (get_or-set_other known p i (Some b) None other) ∙ f)
    ]
