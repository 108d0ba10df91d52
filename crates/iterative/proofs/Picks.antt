-- The operation that is picked among the first k, one operation after the other. Assumes nothing.
use Rattle.std.proofs.Common.{◌≡◌, ◌+◌, ◌≤◌, ◌<◌, List, ℕ, get_or, Option, None, Some, IfSome, refl, sym, subst, arith, below_more}
use Rattle.std.proofs.lemmas.Option.{none-some, same_Some}
use native.Mathlib.Decide.{dec_lt}
use borrow.Author.Tests.{lt-ltb, le-ltb}
use Rattle.iterative.specs.Priority.{Higher, Highest, Picked}

-- the highest is what is picked
pick_highest : {k r : ℕ} {xs ranks : List ℕ} → Highest k xs ranks r → Picked k xs ranks (Some r)
pick_highest {k} {r} {xs} {ranks} h = record {
  none_left = λ e. absurd (none-some r (sym e));
  highest = λ o e. subst (λ (x : ℕ). Highest k xs ranks x) (same_Some r o e) h;
}

-- an operation, or none
pub pick_within : {k : ℕ} {xs ranks : List ℕ} (best : Option ℕ) → Picked k xs ranks best → k ≤ 64 → IfSome best (λ b. b < 64)
pick_within None p l = tt
pick_within (Some b) p l = omega (arith, (p.highest b refl).inside)

-- the next operation is placed
pub pick_past : {k : ℕ} {best : Option ℕ} {xs ranks : List ℕ} → Picked k xs ranks best → (get_or xs k 65535 ≡ 65535 → ⊥) → Picked (k + 1) xs ranks best
pick_past {k} {best} {xs} {ranks} p d = record { none_left = λ e. below_more _ k (p.none_left e) d; highest = λ o e. more o (p.highest o e) }
  where
    more : (o : ℕ) → Highest k xs ranks o → Highest (k + 1) xs ranks o
    more o h = record { inside = omega (arith, h.inside); blank = h.blank; none_higher = below_more _ k h.none_higher (λ q. absurd (d q)); none_before = h.none_before }

-- it is not
module _ {k : ℕ} {xs ranks : List ℕ} (blank : get_or xs k 65535 ≡ 65535) where
  -- and its rank is above all others
  above : ((o : ℕ) → o < k → get_or xs o 65535 ≡ 65535 → get_or ranks o 0 < get_or ranks k 0) → Picked (k + 1) xs ranks (Some k)
  above h = pick_highest (record { inside = omega arith; blank = blank; none_higher = below_more _ k (λ o l q. omega (arith, h o l q)) (λ q. omega arith); none_before = h })

  -- or one before has as high a rank
  same : {b : ℕ} → Highest k xs ranks b → get_or ranks k 0 ≤ get_or ranks b 0 → Picked (k + 1) xs ranks (Some b)
  same h low = pick_highest (record { inside = omega (arith, h.inside); blank = h.blank; none_higher = below_more _ k h.none_higher (λ q. low); none_before = h.none_before })

  pub pick_next : {r : ℕ} (best : Option ℕ) → Picked k xs ranks best → Higher best k ranks r → Picked (k + 1) xs ranks (Some r)
  pick_next None p is = rw is (above (λ o l q. absurd (p.none_left refl o l q)))
  pick_next {r} (Some b) p is = go (dec_lt (get_or ranks b 0) (get_or ranks k 0))
    where
      go : Dec (get_or ranks b 0 < get_or ranks k 0) → Picked (k + 1) xs ranks (Some r)
      go (yes m) = rw (is, lt-ltb (get_or ranks b 0) (get_or ranks k 0) m) (above (λ o l q. omega (arith, (p.highest b refl).none_higher o l q)))
      go (no m) = rw (is, le-ltb (get_or ranks b 0) (get_or ranks k 0) (omega arith)) (same (p.highest b refl) (omega arith))
