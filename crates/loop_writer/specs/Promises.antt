-- What `write` and `read` promise together: two statements over what the two functions ensure. Assumes nothing.
use Rattle.std.specs.Prelude.{◌≡◌, List, ℕ, ◌≤◌, Result, Ok, length, take}
use Rattle.model.specs.Refusals.{answered}
use Rattle.model.specs.File.{read_file, loop_of, Accepted}
use Rattle.model.specs.Writer.{Bytes, Fields, fields_of, op_total, use_total, dep_total, buffer_after}
use Rattle.refusals.specs.declared.Refusal.{Refusal}
use Rattle.loop_file.specs.Read.{Counts, reading_of, counted}
use Rattle.loop_file.specs.declared.Counts as code
use Rattle.loop_writer.specs.Answer.{Writes}

-- the numbers of records of the lists
abbrev pub counts_of : Fields → Counts
counts_of d = record { ops = op_total d; uses = use_total d; deps = dep_total d }

-- `read` of the n bytes that `write` says it left at the beginning of the buffer answers the counts of the lists
abbrev pub ReadBack : Type 0
ReadBack =
    (d : Fields) (before after : List ℕ) (n : ℕ) (r : Result code.Counts Refusal)
    → Writes d before (Ok n) after → reading_of r ≡ counted (read_file (take n after)) → reading_of r ≡ answered (counts_of d)

-- of a file that the reader accepts, `write` of its loop's numbers answers the file's length and leaves its very bytes, where there is room
abbrev pub WrittenBack : Type 0
WrittenBack =
    (f before after : List ℕ) (w : Result ℕ Refusal)
    → Bytes f → Accepted f → length f ≤ length before → Writes (fields_of (loop_of f)) before w after → (w ≡ Ok (length f)) × (after ≡ buffer_after (answered f) before)
