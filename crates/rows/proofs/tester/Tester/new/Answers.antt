use Rattle.std.proofs.Common.{rules, arith}
use Rattle.rows.specs.Tests.{meets}
use Rattle.rows.proofs.Calls.{from_fn_at}
use Rattle.rows.proofs.tester.Tester.new.Goals as goal

pub invariant_of-result : goal.invariant_of-result
invariant_of-result c =
    record {
      long = search rules;
      right = λ a h. from_fn_at _ (λ b. meets c.args.rows.now c.args.row b) _ 256 (λ i y q l k. search rules) c.from_fn-answers.result 0 256 a _ (omega arith) (omega arith) h c.from_fn-answers.ensures.items.each;
    }
