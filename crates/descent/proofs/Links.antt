-- The index of the dependences by their later operation, and the window that is found with it. Assumes nothing.
use mathlib.Core.Path.{◌≡◌, refl, sym, ap, subst, ◌∙◌}
use mathlib.Core.List.{List}
use Prim.Native.Nat.{ℕ, zero, suc, ◌+◌, ◌-◌, ◌≤◌, ◌<◌}
use native.Mathlib.Nat.{add-zero}
use native.Mathlib.Decide.{dec_lt, ℕ_discrete}
use native.Mathlib.Omega.{arith}
use lib.ListN.{length, get_or, set, take, replicate, length-set, length-replicate, get_or-replicate}
use lib.Seq.{get_or-set_same, get_or-set_other}
use Rattle.model.specs.Loop.{Loop, size, dep_at}
use Rattle.descent.specs.Links.{later_end, NextDep}
use Rattle.descent.specs.Span.{WindowIs, NarrowedIs}
use Rattle.descent.proofs.Spans.{Narrowing, elsewhere, window_next}

-- ---- the window

module _ (l : Loop) (ii op : ℕ) (starts : List ℕ) (room : op ≤ length starts) (h a b : ℕ) where
  -- a dependence whose later operation is another one leaves the window as it is
  stays : (k : ℕ) → (later_end l k ≡ op → ⊥) → NarrowedIs l ii (take op starts) k a b a b
  stays k n =
      let ends : Narrowing l ii k op starts a b (dep_at l k).src (dep_at l k).dst = record { room = room; source = refl; target = refl } in
      elsewhere ends (λ p q. omega arith) (λ p. omega arith) (λ p. omega arith)

  -- so do d such dependences
  passed : (k d : ℕ) → ((i : ℕ) → k ≤ i → i < k + d → later_end l i ≡ op → ⊥) → WindowIs l ii (take op starts) h k a b → WindowIs l ii (take op starts) h (k + d) a b
  passed k zero n w = subst (λ (j : ℕ). WindowIs l ii (take op starts) h j a b) (sym (add-zero k)) w
  passed k (suc d) n w =
      let e : k + 1 + d ≡ k + suc d = omega arith in
      subst (λ (j : ℕ). WindowIs l ii (take op starts) h j a b) e
      (passed (k + 1) d (λ i p q. n i (omega arith) (omega arith))
      (window_next l ii (take op starts) h k a b a b w (stays k (n k (omega arith) (omega arith)))))

  -- to the next one of the operation's own
  pub to_next : (k e : ℕ) → NextDep l op k e → WindowIs l ii (take op starts) h k a b → WindowIs l ii (take op starts) h e a b
  to_next k e next w =
      let z : k + (e - k) ≡ e = omega (arith, next.behind) in
      subst (λ (j : ℕ). WindowIs l ii (take op starts) h j a b) z (passed k (e - k) (λ i p q. next.others i p (omega arith)) w)

-- ---- how the index is made

-- the entries for the dependences from e on are made
pub record Linking (l : Loop) (links : List ℕ) (e : ℕ) : Type 0 where
  pub within : e ≤ length l.deps
  pub long : length links ≡ 320
  pub head : (o : ℕ) → o < size l → NextDep l o e (get_or links o 0)
  pub next : (i : ℕ) → e ≤ i → i < length l.deps → NextDep l (later_end l i) (i + 1) (get_or links (64 + i) 0)

module _ (l : Loop) (few : size l ≤ 64) where
  -- before the first turn: none is
  pub link_none : (links : List ℕ) (m : ℕ) → m ≡ length l.deps → links ≡ replicate 320 m → Linking l links m
  link_none links m e q = record {
    within = omega arith;
    long = ap (λ (v : List ℕ). length v) q ∙ length-replicate {A = ℕ} 320 m;
    head = λ o h.
        let z : get_or links o 0 ≡ m = ap (λ (v : List ℕ). get_or v o 0) q ∙ get_or-replicate {A = ℕ} 320 o m 0 (omega arith) in
        record { behind = omega arith; within = omega arith; others = λ i p r. absurd (omega arith); is = λ r. absurd (omega arith) };
    next = λ i p r. absurd (omega arith);
  }

  -- one turn: dependence e becomes the first of its later operation, and what was the first comes after it
  pub link_more : (links : List ℕ) (k e o : ℕ) → Linking l links k → k ≡ e + 1 → o ≡ later_end l e → o < size l → length l.deps ≤ 256
      → Linking l (set (set links (64 + e) (get_or links o 0)) o e) e
  link_more links k e o made z q inside sparse = record {
    within = omega (arith, made.within);
    long = length-set (set links (64 + e) (get_or links o 0)) o e ∙ length-set links (64 + e) (get_or links o 0) ∙ made.long;
    head = λ p r. heads p r (ℕ_discrete p o);
    next = λ i p r. nexts i p r (ℕ_discrete i e);
  }
    where
      links₁ : List ℕ
      links₁ = set links (64 + e) (get_or links o 0)

      heads : (p : ℕ) → p < size l → Dec (p ≡ o) → NextDep l p e (get_or (set links₁ o e) p 0)
      heads p r (yes s) =
          let g : get_or (set links₁ o e) p 0 ≡ e = ap (λ (j : ℕ). get_or (set links₁ o e) j 0) s ∙ get_or-set_same links₁ o e 0 (omega (arith, length-set links (64 + e) (get_or links o 0), made.long)) in
          subst (NextDep l p e) (sym g)
          (record { behind = omega arith; within = omega (arith, made.within); others = λ i a b. absurd (omega arith); is = λ t. sym (s ∙ q) })
      heads p r (no n) =
          let g : get_or (set links₁ o e) p 0 ≡ get_or links p 0 = get_or-set_other links₁ o p e 0 n ∙ get_or-set_other links (64 + e) p (get_or links o 0) 0 (λ t. omega arith) in
          let b : NextDep l p k (get_or links p 0) = made.head p r in
          subst (NextDep l p e) (sym g)
          (record { behind = omega (arith, b.behind); within = b.within; others = λ i c d. earlier i c d b n (dec_lt e i); is = b.is })
        where
          earlier : (i : ℕ) → e ≤ i → i < get_or links p 0 → NextDep l p k (get_or links p 0) → (p ≡ o → ⊥) → Dec (e < i) → later_end l i ≡ p → ⊥
          earlier i c d b n (yes m) t = b.others i (omega arith) d t
          earlier i c d b n (no m) t = let u : i ≡ e = omega arith in n (sym t ∙ ap (later_end l) u ∙ sym q)

      nexts : (i : ℕ) → e ≤ i → i < length l.deps → Dec (i ≡ e) → NextDep l (later_end l i) (i + 1) (get_or (set links₁ o e) (64 + i) 0)
      nexts i p r (yes s) =
          let g : get_or (set links₁ o e) (64 + i) 0 ≡ get_or links o 0 =
          get_or-set_other links₁ o (64 + i) e 0 (λ t. omega arith) ∙ ap (λ (j : ℕ). get_or links₁ (64 + j) 0) s ∙ get_or-set_same links (64 + e) (get_or links o 0) 0 (omega (arith, made.long)) in
          let u : k ≡ i + 1 = omega arith in
          let v : o ≡ later_end l i = q ∙ ap (later_end l) (sym s) in
          subst (NextDep l (later_end l i) (i + 1)) (sym g)
          (subst (λ (x : ℕ). NextDep l x (i + 1) (get_or links o 0)) v (subst (λ (j : ℕ). NextDep l o j (get_or links o 0)) u (made.head o inside)))
      nexts i p r (no n) =
          let g : get_or (set links₁ o e) (64 + i) 0 ≡ get_or links (64 + i) 0 =
          get_or-set_other links₁ o (64 + i) e 0 (λ t. omega arith) ∙ get_or-set_other links (64 + e) (64 + i) (get_or links o 0) 0 (λ t. n (omega arith)) in
          subst (NextDep l (later_end l i) (i + 1)) (sym g) (made.next i (omega arith) r)
