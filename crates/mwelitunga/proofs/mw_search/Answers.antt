-- What the search says, in numbers.
use mathlib.Core.Path.{refl}
use Rattle.mwelitunga.proofs.Words.{search_told, search_ended}
use Rattle.mwelitunga.proofs.mw_search.Goals as goal

pub returns-in-Ok : goal.returns-in-Ok
returns-in-Ok c = search_told c.in-Ok.ensures refl c.write_answer.ensures

pub returns-in-Err : goal.returns-in-Err
returns-in-Err c = search_ended _ c.in-Err.ensures c.write_unsolved.ensures
