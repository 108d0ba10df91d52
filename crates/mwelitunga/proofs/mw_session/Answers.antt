-- Refused for the calls, refused by opening, or all calls made.
use mathlib.Core.Path.{refl, sym}
use native.Mathlib.Omega.{arith}
use Rattle.replay.proofs.Replays.{fit_room, calls_refused, opening_refused, all_made}
use Rattle.mwelitunga.proofs.mw_session.Goals as goal

pub returns-in-Err : goal.returns-in-Err
returns-in-Err c = rw c.write_refusal.ensures.number (calls_refused _ _ _ _ _ _ _ _ _ _ c.in-Err.refusal c.in-Err.ensures c.write_refusal.ensures.words)

pub returns-in-Err-open : goal.returns-in-Err-open
returns-in-Err-open c = rw c.write_refusal-in-Err-open.ensures.number (opening_refused _ _ _ _ _ _ _ _ _ _ (sym c.in_default.ensures) c.in-Err-open.ensures c.write_refusal-in-Err-open.ensures.words)

pub run-marks-requires : goal.run-marks-requires
run-marks-requires c = (c.in-Ok.ensures.valid c.in-Ok.session refl, omega arith, fit_room _ _ (sym c.in_default.ensures))

pub returns : goal.returns
returns c = all_made _ _ _ _ _ _ _ _ _ _ (sym c.in_default.ensures) c.in-Ok.ensures c.run-marks.ensures c.write_answer.ensures
