-- The starred worked cases, by one theorem over their list. What computes is proved by computing; a bound is proved by starts that meet the
-- dependences and, below it, by a closed walk that is too heavy. Assumes nothing.
use mathlib.Core.Path.{◌≡◌, refl, sym, ap}
use mathlib.Core.List.{List, [], ◌∷◌, flat_map}
use mathlib.Core.Option.{none}
use Prim.Native.Nat.{ℕ, ◌*◌, ◌≤◌, ◌<◌}
use native.Mathlib.Omega.{arith}
use lib.Dec.{lit≤}
use Rattle.model.specs.Lists.{up_from, pairs, any_of, first, count_if, sum_of, max_of}
use Rattle.model.specs.Refusals.{Answer, answered, refused, first_refusal}
use Rattle.model.specs.File.{read_file, signed_byte, first_use, loop_of, length_checks, head_checks, stands_at, entry_checks, contents_checks, op_checks, use_checks, op_use_checks, uses_checks, dep_checks, file_checks, Accepted}
use Rattle.model.specs.Loop.{all_uses}
use Rattle.model.specs.Writer.{fields_of, file_by, first_given, loop_from, op_uses_given_checks, uses_given_checks, given_checks, write_checks, write_file}
use Rattle.model.specs.Legality.{holds, meets, first_breach, cells_in, footprint, share, conflict, self_conflict, apart, legal_at}
use Rattle.model.specs.Table.{number, row_number, table_of, cells_of, free_of, free_rows}
use Rattle.model.specs.Bounds.{total_on, resource_bound, Feasible, Closed, delay_of, distance_of, Heavy, LowerIs, cyclic, within, BoundsIs, by_loop}
use Rattle.model.specs.Search.{words, answer, probes, stage_count, last_occupied, order_of, listing, sweep, request_checks, room_checks, search_checks, intervals, Request, Outcome, SearchIs, by_sweep}
use Rattle.model.specs.Session.{Setup, Starts, Call, Reply, start, state_table, open_checks, open_file, in_the_way, without, mask_of, step, after, replies}
use Rattle.model.specs.Counts.{first_taken}
use Rattle.model.specs.Verifier.{proposal_checks, proposed_checks, first_broken, first_pair, pair_place, verdict, verify_file}
use Rattle.model.specs.Cases.{searched, CaseHolds, AllHold, no_more, ◌also◌, Called, found_at, file_a, loop_a, file_b2, file_c, ring, idle, starred, writing}
use Rattle.model.proofs.Signed.{is_pos, of_lt}
use Rattle.model.proofs.File.{accepted_ok}
use Rattle.model.proofs.Bounds.{refutes}

-- to unfold this is to unfold every definition that the cases compute with
computing : Unit {0}
unfolding read_file file_checks first_refusal length_checks head_checks stands_at entry_checks contents_checks op_checks use_checks op_use_checks uses_checks dep_checks flat_map up_from first_use loop_of signed_byte meets any_of holds total_on resource_bound sum_of max_of delay_of distance_of search_checks request_checks room_checks sweep words answer probes first count_if pairs cells_in footprint first_taken share conflict self_conflict apart legal_at stage_count last_occupied verify_file proposal_checks proposed_checks first_broken first_pair pair_place verdict open_file open_checks first_breach in_the_way without mask_of step after replies order_of listing number row_number table_of free_of free_rows cells_of all_uses fields_of file_by first_given loop_from op_uses_given_checks uses_given_checks given_checks write_checks write_file
computing = tt

-- ---- bounds

-- where starts meet the dependences at b, and a closed walk is too heavy for every interval below b, the bounds are the resource bound and b
lower_by : (f : List ℕ) (b : ℕ) → 1 ≤ b → b ≤ 4096 → Accepted f → Feasible (loop_of f) b
    → (w : List ℕ) → Closed (loop_of f) w → ((c : ℕ) → c < b → Heavy (loop_of f) c w)
    → LowerIs (loop_of f) (answered (record { resource = resource_bound (loop_of f); recurrence = b }))
lower_by f b low high a m w c h =
    within b (record { positive = low; feasible = m; least = λ i p q. refutes (loop_of f) (accepted_ok f a).dep_ok i w c (h i q) }) high refl

-- at an interval of 1 there is nothing below
lower_one : (f : List ℕ) → Feasible (loop_of f) 1 → LowerIs (loop_of f) (answered (record { resource = resource_bound (loop_of f); recurrence = 1 }))
lower_one f m = within 1 (record { positive = lit≤ tt; feasible = m; least = λ c p q. absurd (omega arith) }) (lit≤ tt) refl

lower_A : LowerIs (loop_of file_a) (answered (record { resource = 2; recurrence = 3 }))
unfolding computing
lower_A =
    lower_by file_a 3 (lit≤ tt) (lit≤ tt) refl (record { starts = 0 ∷ 2 ∷ 5 ∷ []; all_ops = refl; all_met = refl })
    (2 ∷ []) (record { some = lit≤ tt; from = 1; goes = (lit≤ tt, refl, refl) }) (λ c h. of_lt (is_pos (c * 1)) (is_pos 3) (omega arith))

case_7_never : BoundsIs (ring 1 0 0 0) (refused (record { number = 8; detail = 0 }))
unfolding computing
case_7_never =
    by_loop refl (cyclic (record {
      walk = 0 ∷ 1 ∷ [];
      closed = record { some = lit≤ tt; from = 0; goes = (lit≤ tt, refl, (lit≤ tt, refl, refl)) };
      still = refl;
      late = of_lt (is_pos 0) (is_pos 1) (omega arith);
    }) refl)

case_7_one : BoundsIs (ring 1 0 255 0) (answered (record { resource = 1; recurrence = 1 }))
unfolding computing
case_7_one = by_loop refl (lower_one (ring 1 0 255 0) (record { starts = 0 ∷ 1 ∷ []; all_ops = refl; all_met = refl }))

case_8 : BoundsIs idle (answered (record { resource = 1; recurrence = 1 }))
unfolding computing
case_8 = by_loop refl (lower_one idle (record { starts = 0 ∷ []; all_ops = refl; all_met = refl }))

-- the walk round the ring
round : (a b : ℕ) → Closed (loop_of (ring a 1 b 1)) (0 ∷ 1 ∷ [])
unfolding computing
round a b = record { some = lit≤ tt; from = 0; goes = (lit≤ tt, refl, (lit≤ tt, refl, refl)) }

case_9_seven : BoundsIs (ring 3 1 4 1) (answered (record { resource = 1; recurrence = 4 }))
unfolding computing
case_9_seven =
    by_loop refl (lower_by (ring 3 1 4 1) 4 (lit≤ tt) (lit≤ tt) refl (record { starts = 0 ∷ 0 ∷ []; all_ops = refl; all_met = refl })
    (0 ∷ 1 ∷ []) (round 3 4) (λ c h. of_lt (is_pos (c * 2)) (is_pos 7) (omega arith)))

case_9_eight : BoundsIs (ring 4 1 4 1) (answered (record { resource = 1; recurrence = 4 }))
unfolding computing
case_9_eight =
    by_loop refl (lower_by (ring 4 1 4 1) 4 (lit≤ tt) (lit≤ tt) refl (record { starts = 0 ∷ 0 ∷ []; all_ops = refl; all_met = refl })
    (0 ∷ 1 ∷ []) (round 4 4) (λ c h. of_lt (is_pos (c * 2)) (is_pos 8) (omega arith)))

case_9_nine : BoundsIs (ring 4 1 5 1) (answered (record { resource = 1; recurrence = 5 }))
unfolding computing
case_9_nine =
    by_loop refl (lower_by (ring 4 1 5 1) 5 (lit≤ tt) (lit≤ tt) refl (record { starts = 0 ∷ 0 ∷ []; all_ops = refl; all_met = refl })
    (0 ∷ 1 ∷ []) (round 4 5) (λ c h. of_lt (is_pos (c * 2)) (is_pos 9) (omega arith)))

-- ---- searches

-- the bounds of loops B2 and C
lower_B2 : LowerIs (loop_of file_b2) (answered (record { resource = 3; recurrence = 1 }))
unfolding computing
lower_B2 = lower_one file_b2 (record { starts = 0 ∷ 3 ∷ 0 ∷ []; all_ops = refl; all_met = refl })

lower_C : LowerIs (loop_of file_c) (answered (record { resource = 1; recurrence = 1 }))
unfolding computing
lower_C = lower_one file_c (record { starts = 2 ∷ 0 ∷ []; all_ops = refl; all_met = refl })

search_A : CaseHolds (searched file_a (record { cap = 4096; horizon = 8; budget = 1000000 }) (found_at 3 2 3 2 10 (0 ∷ 2 ∷ 5 ∷ [])))
unfolding computing
search_A = by_sweep (record { resource = 2; recurrence = 3 }) refl lower_A refl

-- the searches of cases 4 and 5, all of loop B2
search_B2 : {q : Request} {a : Outcome} → first_refusal (search_checks file_b2 q 64 4096) ≡ none
    → sweep (loop_of file_b2) q (record { resource = 3; recurrence = 1 }) 0 (intervals (record { resource = 3; recurrence = 1 }) q.cap) ≡ a
    → SearchIs file_b2 q 64 4096 (answered a)
search_B2 passes comes = by_sweep (record { resource = 3; recurrence = 1 }) passes lower_B2 (ap answered (sym comes))

case_6 : CaseHolds (searched file_c (record { cap = 4096; horizon = 8; budget = 1000000 }) (found_at 1 1 1 3 20 (2 ∷ 0 ∷ [])))
unfolding computing
case_6 = by_sweep (record { resource = 1; recurrence = 1 }) refl lower_C refl

-- ---- calls

-- the session that cases 11 and 12 open
abbrev setup_a : Setup
setup_a = record { loop = loop_a; ii = 3; horizon = 256 }

-- calls on it
calls : {cs : List Call} {rs : List (Answer Reply)} {xs : Starts} {rows free : List ℕ}
    → replies setup_a cs (start setup_a) ≡ rs → (after setup_a cs (start setup_a)).starts ≡ xs → state_table setup_a (after setup_a cs (start setup_a)) ≡ rows → free_rows 3 rows ≡ free
    → Called file_a 3 256 cs rs xs rows free
unfolding computing
calls answers starts table numbers = record { setup = setup_a; opens = refl; answers = answers; starts = starts; table = table; numbers = numbers }

-- ---- the theorem

-- every starred case holds
pub starred_hold : AllHold starred
unfolding computing
starred_hold =
    refl also search_A also refl
    also by_loop refl lower_A
    also refl also refl
    also refl also refl also refl
    also search_B2 refl refl
    also search_B2 refl refl also search_B2 refl refl also search_B2 refl refl
    also search_B2 refl refl also search_B2 refl refl also search_B2 refl refl also search_B2 refl refl also search_B2 refl refl
    also case_6
    also case_7_never also case_7_one
    also case_8
    also case_9_seven also case_9_eight also case_9_nine
    also refl also refl
    also calls refl refl refl refl also calls refl refl refl refl
    also calls refl refl refl refl also calls refl refl refl refl
    also no_more

-- and every case of the writer
pub writing_hold : AllHold writing
unfolding computing
writing_hold =
    refl also refl
    also refl also refl also refl also refl also refl also refl also refl
    also refl also refl also refl also refl also refl
    also no_more
