-- The bundle's refusal, then the table's, then what the files make.
use Rattle.refusals.proofs.Tables.{lent_fine, answer_kept}
use Rattle.sheet.proofs.Sheets.{by_bundle, read_as, by_table, by_walk}
use Rattle.sheet.proofs.total.Goals as goal

pub returns-in_default : goal.returns-in_default
returns-in_default c = by_bundle _ _ _ _ c.in_default.ensures _ (answer_kept _ c.read-read.result c.passed_on.result c.in_default.is c.passed_on.ensures)

pub returns-in_default-by_rows : goal.returns-in_default-by_rows
returns-in_default-by_rows c =
    let kept = c.passed_on-in_default-by_rows in
    by_table _ _ _ _ c.in-Ok.ensures c.in_default-by_rows.ensures _ (answer_kept _ c.lent-by_rows.result kept.result c.in_default-by_rows.is kept.ensures)

pub walk-sums-requires : goal.walk-sums-requires
walk-sums-requires c = let a = c.args in ((read_as a.bundle.now a.lines.now a.slots.now a.rows.now c.in-Ok.ensures).1, lent_fine 4096 _ c.lent-by_rows.ensures c.in-Ok-by_rows.is)

pub returns : goal.returns
returns c = by_walk _ _ _ _ c.in-Ok.ensures c.in-Ok-by_rows.ensures c.walk-sums.ensures c.write_slots.ensures
