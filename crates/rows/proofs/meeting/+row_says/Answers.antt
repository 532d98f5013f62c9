use Rattle.std.proofs.Common.{◌≡◌, sym, subst, arith, rules}
use Rattle.std.proofs.lemmas.Bool.Decides.{nat_tests}
use Rattle.rows.specs.Tests.{row_says, Remembers}
use Rattle.rows.proofs.Verdicts.{row_stray, row_names_lem, row_past, remembered, remembers_more}
use Rattle.rows.proofs.meeting.+row_says.Goals as goal
use Rattle.rows.proofs.meeting.+row_says.Goals.{then-row-rows-via-then-row-rows, then-row-rows-via-else-row-rows+then-names_beyond}
use Rattle.rows.proofs.meeting.+row_says.Goals.{in-Any, in-Is, in-Not, in-And+then-row_says, in-And+else-row_says}

pub returns-then-row-rows : goal.returns-then-row-rows
returns-then-row-rows t c =
    record {
      answer =
          elim c.then-row-rows.branch [
            | then-row-rows-via-then-row-rows w ↦ sym (row_past c.args.rows.now c.args.row c.args.action w.if-row-rows.true)
            | then-row-rows-via-else-row-rows+then-names_beyond w ↦
                sym (row_stray c.args.rows.now c.args.row c.args.action w.if-row-rows.false (sym w.if-names_beyond.ensures))
          ];
      memory = search rules;
    }

pub returns-in-Some : goal.returns-in-Some
returns-in-Some t c =
    record {
      answer = remembered c.args.rows.now c.args.action c.args.known.now c.args.row c.in-Some.answer c.requires (cc);
      memory = search rules;
    }

-- What the match made of the row is what the row says, and what is known by then is right.
pub returns : goal.returns
returns t c =
    let rows = c.args.rows.now in
    let row = c.args.row in
    let a = c.args.action in
    let known = c.match-rows-row.known in
    let e = row_names_lem rows row a c.if-row-rows.false (sym c.if-names_beyond.ensures) in
    let j : (c.match-rows-row.answer ≡ row_says rows row a) × Remembers rows a known =
    elim c.match-rows-row.branch [
      | in-Any w ↦ (grind (arith, nat_tests, e), search rules)
      | in-Is w ↦ (grind (arith, nat_tests, e), search rules)
      | in-Not w ↦ (grind (arith, nat_tests, e), search rules)
      | in-And+then-row_says w ↦ (grind (arith, nat_tests, e), search rules)
      | in-And+else-row_says w ↦ (grind (arith, nat_tests, e), search rules)
    ] in
    record {
      answer = j.0;
      memory = subst (Remembers rows a) (sym c.remember.ensures) (remembers_more rows a known row c.match-rows-row.answer j.1 j.0);
    }
