-- Bytes stored in a buffer: what is stored right behind joins what was. Assumes nothing.
use mathlib.Core.Path.{◌≡◌, ap, ap₂, ◌∙◌}
use mathlib.Core.List.{List, ◌++◌, append_assoc}
use Prim.Native.Nat.{ℕ, ◌+◌, ◌≤◌}
use native.Mathlib.Omega.{arith}
use lib.ListN.{length, take, drop, length-append}
use Rattle.std.proofs.lemmas.List.{length-take-le, drop-drop}
use Rattle.std.proofs.Math.Seq.{take-append_seam, drop-append-add}
use Rattle.loop_writer.specs.Buffer.{stored}

-- storing p, and then q right behind it, is storing both
stored_behind : (k : ℕ) (old p q : List ℕ) (at : ℕ) → k ≡ at + length p → at + length p + length q ≤ length old → stored (stored old at p) k q ≡ stored old at (p ++ q)
stored_behind k old p q at e h =
    let front = take at old ++ p in
    let rest = drop (at + length p) old in
    let there : k ≡ length front = omega (arith, length-append (take at old) p, length-take-le at old (omega arith)) in
    let end : at + length p + length q ≡ at + length (p ++ q) = omega (arith, length-append p q) in
    let before : take k (front ++ rest) ≡ front = ap (λ (n : ℕ). take n (front ++ rest)) there ∙ take-append_seam front rest in
    let after : drop (k + length q) (front ++ rest) ≡ drop (at + length (p ++ q)) old =
    ap (λ (n : ℕ). drop (n + length q) (front ++ rest)) there ∙ drop-append-add front rest (length q) ∙ drop-drop (length q) (at + length p) old ∙ ap (λ (n : ℕ). drop n old) end
    in
    ap₂ (λ (a b : List ℕ). a ++ q ++ b) before after ∙ ap (λ (a : List ℕ). a ++ drop (at + length (p ++ q)) old) (append_assoc (take at old) p q)

-- the same, store by store
pub next_stored : (k : ℕ) (old p q : List ℕ) (at : ℕ) {mid new : List ℕ} → mid ≡ stored old at p → new ≡ stored mid k q → k ≡ at + length p → at + length p + length q ≤ length old
    → new ≡ stored old at (p ++ q)
next_stored k old p q at m n e h = n ∙ ap (λ (b : List ℕ). stored b k q) m ∙ stored_behind k old p q at e h
