-- By the case of the search's answer.
use Rattle.std.proofs.Common.{refl}
use Rattle.sheet.proofs.Additions.{found_accepted, adds_found, adds_none}
use Rattle.sheet.proofs.sums.add_file.Goals as goal

pub with_schedule-sums-requires : goal.with_schedule-sums-requires
with_schedule-sums-requires c = let a = found_accepted refl c.in-Ok.ensures in (a.0, c.requires, a.1)

pub returns-in-Ok : goal.returns-in-Ok
returns-in-Ok c = adds_found refl c.in-Ok.ensures _ _ c.with_schedule-sums.ensures

pub returns-in-Err : goal.returns-in-Err
returns-in-Err c = adds_none refl c.search-answer.ensures _ c.in-Err.is _
