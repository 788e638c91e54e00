use Rattle.std.proofs.lemmas.Result.{err_from_is_err_and}
use Rattle.iova_check.specs.declared.fault.CheckFault.TheVariants.{NoMemory}
use Rattle.iova_check.proofs.Streams.{nothing_told, err_is}
use Rattle.iova_check.proofs.run.run.Goals as goal

pub returns-in_err-input : goal.returns-in_err-input
returns-in_err-input g c =
    let p = err_from_is_err_and c.from_residual.result c.from_residual.ensures.1 in
    rw (p.1, p.2) (nothing_told c.args.source.now (g.R.Read.remaining c.args.reader.now) (g.W.Write.contents c.args.writer.now))

pub returns-in_err-state : goal.returns-in_err-state
returns-in_err-state g c =
    let p = err_from_is_err_and c.from_residual-in_err-state.result c.from_residual-in_err-state.ensures.1 in
    rw (p.1, p.2, err_is c.in_err-state.field-0.0 NoMemory c.in_err-state.ensures.err)
    (nothing_told c.args.source.now (g.R.Read.remaining c.args.reader.now) (g.W.Write.contents c.args.writer.now))

pub returns-in-Ok : goal.returns-in-Ok
returns-in-Ok g c = c.in-Ok.ensures.ended c.finish.result (c.finish.ensures c.args.source.now)
