use Rattle.std.proofs.Common.{arith}
use Rattle.std.proofs.lemmas.Result.{err_from_is_err_and}
use Rattle.job.proofs.Steps.{sound}
use Rattle.job.proofs.Turns.{at_fault, at_missing, at_whole, at_field}
use Rattle.job.proofs.read_job.Goals as goal

pub returns-in_err-field-clause-parsed : goal.returns-in_err-field-clause-parsed
returns-in_err-field-clause-parsed c =
    let x = err_from_is_err_and c.from_residual.result c.from_residual.ensures.1 in
    let s = at_fault _ _ _ _ _ c.loop-field.invariant _ c.in_err-field.ensures.steps.0 c.loop-field.reader.short in
    rw (x.1, x.2) s

pub keep-requires : goal.keep-requires
keep-requires c =
    let e = simp c.in-Some.is at c.in_ok-field.ensures.steps in
    let k = sound c.loop-field.reader.job.now c.loop-field.reader.last c.loop-field.reader.at _ e.0 in
    (k.fits, k.routed)

pub loop-field-smaller : goal.loop-field-smaller
loop-field-smaller c =
    let e = simp c.in-Some.is at c.in_ok-field.ensures.steps in
    let k = sound c.loop-field.reader.job.now c.loop-field.reader.last c.loop-field.reader.at _ e.0 in
    omega (arith, k.above, k.known, e.1)

pub loop-field-preserved : goal.loop-field-preserved
loop-field-preserved c =
    let e = simp c.in-Some.is at c.in_ok-field.ensures.steps in
    let k = sound c.loop-field.reader.job.now c.loop-field.reader.last c.loop-field.reader.at _ e.0 in
    at_field _ _ _ _ _ c.loop-field.invariant _ e.0 k _ c.in_ok-field.ensures.same _ e.1 _ c.keep.ensures

pub returns-in_err-finish-clause-parsed : goal.returns-in_err-finish-clause-parsed
returns-in_err-finish-clause-parsed c =
    let x = err_from_is_err_and c.from_residual-in_err-finish.result c.from_residual-in_err-finish.ensures.1 in
    let e = simp c.in_default.is at c.in_ok-field.ensures.steps in
    let f = c.in_err-finish.ensures in
    let s = at_missing _ _ _ _ _ c.loop-field.invariant e.0 c.loop-field.reader.short _ e.1 f.0 _ c.in_ok-field.ensures.same _ f.1 in
    rw (x.1, x.2) s

pub returns-clause-parsed : goal.returns-clause-parsed
returns-clause-parsed c =
    let e = simp c.in_default.is at c.in_ok-field.ensures.steps in
    at_whole _ _ _ _ _ c.loop-field.invariant e.0 c.loop-field.reader.short _ e.1 c.in_ok-finish.ensures
