-- What the writer's answers say, in document 02's numbers. Assumes nothing.
use Rattle.std.specs.Prelude.{◌≡◌, List, ℕ, ℤ, Result, length}
use Rattle.model.specs.Refusals.{Answer, answered, refused}
use Rattle.model.specs.Writer.{Fields, write_file, buffer_after}
use Rattle.refusals.specs.Told.{answer_of}
use Rattle.refusals.specs.declared.Refusal.{Refusal}

-- the three lists
abbrev pub fields_by : (ops uses deps : List ℤ) → Fields
fields_by ops uses deps = record { ops = ops; uses = uses; deps = deps }

-- what `write` says: a number of bytes, or the refusal
abbrev pub written_of : Result ℕ Refusal → Answer ℕ
written_of = answer_of (λ n. n)

-- the number of bytes of the model's file, or its refusal: what `write` says of the model's answer
abbrev pub bytes_in : Answer (List ℕ) → Answer ℕ
bytes_in (answered f) = answered (length f)
bytes_in (refused r) = refused r

-- what `write` ensures for these lists and a buffer that held `before`: the answer is the model's, and so is what the buffer then holds
pub record Writes (d : Fields) (before : List ℕ) (r : Result ℕ Refusal) (after : List ℕ) : Type 0 where
  pub says : written_of r ≡ bytes_in (write_file d (length before))
  pub leaves : after ≡ buffer_after (write_file d (length before)) before
