-- What a caller of `search` may rely on: the theorems about the model's sweep, said of what the code answers for any file, request and lent memory. Assumes nothing.
use mathlib.Core.Path.{◌≡◌, refl, sym, ap, ◌∙◌}
use lib.ListN.{length}
use Rattle.model.specs.Refusals.{Answer, answered}
use Rattle.model.specs.Loop.{Loop, LoopOk}
use Rattle.model.specs.File.{loop_of}
use Rattle.model.specs.Bounds.{Lower, LowerIs}
use Rattle.model.specs.Search.{Request, Outcome, by_sweep}
use Rattle.model.proofs.File.{accepted_ok}
use Rattle.model.proofs.Answers.{search_accepted, search_unique}
use Rattle.search.specs.Answer.{answer_of}
use Rattle.search.specs.Demand2.{Ends, Demand2}
use Rattle.search.proofs.Sweeps.{sweep_all, found_is, is_found, ten_is, is_ten, eleven_is, is_eleven, ended_only}

-- the answer of a sweep
same_outcome : {o p : Outcome} → answered o ≡ answered p → o ≡ p
same_outcome e = cc

-- an answer that is the sweep's ends as the sweep does
ends : (l : Loop) (ok : LoopOk l) (q : Request) (b : Lower) → LowerIs l (answered b) → (a : Answer Outcome) → a ≡ answered (sweep_all l q b) → Ends l q b a
ends l ok q b is a e =
    record {
      found_only = λ s g. found_is l ok q b is s (same_outcome (sym e ∙ g));
      found_said = λ s t. e ∙ ap answered (is_found l ok q b is s t);
      ten_only = λ count g. ten_is l ok q b is count (same_outcome (sym e ∙ g));
      ten_said = λ count t. e ∙ ap answered (is_ten l ok q b is count t);
      eleven_only = λ ii count g. eleven_is l ok q b is ii count (same_outcome (sym e ∙ g));
      eleven_said = λ ii count t. e ∙ ap answered (is_eleven l ok q b is ii count t);
      no_other = λ x count g. ended_only l ok q b is x count (same_outcome (sym e ∙ g));
    }

-- demand 2
pub demand2 : Demand2
demand2 f q list rows r list' rows' b t p is =
    ends (loop_of f) (accepted_ok f (search_accepted f q (length list) (length rows) p)) q b is (answer_of (loop_of f) list' r)
    (search_unique f q (length list) (length rows) (answer_of (loop_of f) list' r) (answered (sweep_all (loop_of f) q b)) t.says (by_sweep b p is refl))
