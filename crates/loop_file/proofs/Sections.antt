-- The section bodies as parts of the file, from what the reader answered. Assumes nothing.
use mathlib.Core.Path.{◌≡◌, sym, ap, ap₂, ◌∙◌}
use mathlib.Core.List.{List, []}
use mathlib.Core.Option.{Option}
use Prim.Native.Nat.{ℕ, ◌+◌, ◌*◌, ◌-◌, ◌≤◌}
use native.Mathlib.Omega.{arith}
use lib.ListN.{length, take, drop}
use Rattle.std.specs.Prelude.{Ok, Err}
use Rattle.model.specs.Refusals.{Refusal, settled}
use Rattle.model.specs.Loop.{all_uses}
use Rattle.model.specs.File.{Section, longest, oper, uses, deps, length_of, op_count, first_use, use_in, loop_of, read_file, part_if, body_of, Accepted}
use Rattle.model.proofs.Lists.{length_tabulate}
use Rattle.model.proofs.File.{Layout, layout, size_is, deps_is, all_uses_is}
use Rattle.refusals.specs.declared.Refusal as code_refusal
use Rattle.loop_file.specs.Read.{reading_of, counted}
use Rattle.loop_file.specs.declared.Counts as code
use Rattle.loop_file.proofs.Answers.{IsAccepted, read_accepted, read_refused}

-- of a refused file the empty part
pub none_of : (f : List ℕ) (s : Section) (start : ℕ) (e : code_refusal.Refusal) → reading_of (Err e) ≡ counted (read_file f) → body_of f s start ≡ []
unfolding body_of read_file
none_of f s start e h = ap (λ (o : Option Refusal). part_if (settled o (loop_of f)) (take (length_of f s) (drop start f))) (read_refused f e h)

-- of an accepted file the bytes from `start` on, as many as the entry says
pub section_of : (f : List ℕ) (s : Section) (start first end : ℕ) → Accepted f → first ≡ start → end - first ≡ length_of f s → take (end - first) (drop first f) ≡ body_of f s start
unfolding body_of read_file
section_of f s start first end a p q =
    ap₂ (λ (n m : ℕ). take n (drop m f)) q p
    ∙ sym (ap (λ (o : Option Refusal). part_if (settled o (loop_of f)) (take (length_of f s) (drop start f))) a)

-- an accepted file's lengths, by the numbers that the reader answered
pub record Spans (f : List ℕ) (c : code.Counts) : Type 0 where
  pub file : Accepted f
  pub oper_length : length_of f oper ≡ 2 * c.operations
  pub uses_length : length_of f uses ≡ 2 * c.uses
  pub deps_length : length_of f deps ≡ 4 * c.dependences
  pub ends : 26 + 2 * c.operations + 2 * c.uses + 4 * c.dependences ≡ length f
  pub short : length f ≤ longest

pub spans : (f : List ℕ) (c : code.Counts) → reading_of (Ok c) ≡ counted (read_file f) → Spans f c
spans f c e =
    let i : IsAccepted f c.operations c.uses c.dependences = read_accepted f c e in
    let y : Layout f = layout f i.file in
    let u : length (all_uses (loop_of f)) ≡ first_use f (op_count f) = ap length (all_uses_is f) ∙ length_tabulate (use_in f) 0 (first_use f (op_count f)) in
    record {
      file = i.file;
      oper_length = omega (arith, i.ops_are, size_is f, y.oper_whole);
      uses_length = omega (arith, i.uses_are, u, y.uses_whole);
      deps_length = omega (arith, i.deps_are, deps_is f, y.deps_whole);
      ends = omega (arith, i.ops_are, i.uses_are, i.deps_are, size_is f, deps_is f, u, y);
      short = y.short;
    }

-- what a section body's goals come to
pub ruleset sections = (spans, none_of, section_of)
