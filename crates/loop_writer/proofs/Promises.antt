-- What `write` and `read` promise together. Assumes nothing.
use mathlib.Core.Path.{◌≡◌, refl, ap, ap₂, ◌∙◌}
use mathlib.Core.List.{List}
use Prim.Native.Nat.{ℕ}
use lib.ListN.{length, take}
use Rattle.std.specs.Prelude.{Result, Ok, Err}
use Rattle.model.specs.Refusals.{Answer, answered, refused}
use Rattle.model.specs.File.{read_file}
use Rattle.model.specs.Writer.{write_file, buffer_after}
use Rattle.model.proofs.Given.{given_counts}
use Rattle.model.proofs.Writer.{written_passes, writes_read, gives_back, buffer_file}
use Rattle.refusals.specs.declared.Refusal.{Refusal}
use Rattle.loop_file.specs.Read.{counted}
use Rattle.loop_writer.specs.Answer.{written_of, bytes_in}
use Rattle.loop_writer.specs.Promises.{ReadBack, WrittenBack}

-- a number of bytes is said only of a file that has so many
file_said : (a : Answer (List ℕ)) {n : ℕ} → answered n ≡ bytes_in a → (f : List ℕ) × (a ≡ answered f) × (n ≡ length f)
file_said (answered f) e = (f, refl, cc)
file_said (refused r) e = cc

pub read_back : ReadBack
read_back d before after n r w e =
    let s = file_said (write_file d (length before)) w.says in
    let f : List ℕ = s.0 in
    let left : take n after ≡ f = ap₂ take s.2 (w.leaves ∙ ap (λ (a : Answer (List ℕ)). buffer_after a before) s.1) ∙ buffer_file f before in
    let c = given_counts d (written_passes d (length before) f s.1).0 in
    e ∙ ap (λ (g : List ℕ). counted (read_file g)) left ∙ ap counted (writes_read d (length before) f s.1) ∙ rw (c.0, c.1, c.2)

-- what says a number of bytes is that number
number_said : (w : Result ℕ Refusal) (n : ℕ) → written_of w ≡ answered n → w ≡ Ok n
number_said (Ok m) n e = cc
number_said (Err r) n e = cc

pub written_back : WrittenBack
written_back f before after w bytes a room s =
    let e = gives_back f (length before) bytes a room in
    (number_said w (length f) (s.says ∙ ap bytes_in e), s.leaves ∙ ap (λ (x : Answer (List ℕ)). buffer_after x before) e)
