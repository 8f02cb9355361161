-- `fingerprint::put_table` meets its contract: three times 256 places, filled from rows.
use native.Mathlib.Omega.{arith}
use Rattle.fingerprint.proofs.Lookups.{row_of, row_sum, table_put}
use Rattle.fingerprint.proofs.put_table.Goals as goal

pub returns : goal.returns
returns c =
    let y = c.args.y in
    let ra = c.row-a.result in
    let rb = c.row-b.result in
    let rc = c.row-c.result in
    let rac = c.sums-ac.result in
    let rcb = c.sums-cb.result in
    let a = row_of y.a ra (omega (arith, c.well_formed)) c.row-a.ensures in
    let b = row_of y.b rb (omega (arith, c.well_formed)) c.row-b.ensures in
    let d = row_of y.c rc (omega (arith, c.well_formed)) c.row-c.ensures in
    table_put y ra rb rc rac rcb c.fill.new.out c.fill-2.new.out c.fill-3.new.out a b d
    (row_sum y.a y.c ra rc rac a d c.sums-ac.ensures) (row_sum y.c y.b rc rb rcb d b c.sums-cb.ensures)
    c.fill.ensures c.fill-2.ensures c.fill-3.ensures
