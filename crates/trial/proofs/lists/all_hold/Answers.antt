-- The dependences are looked at in the order in which `all_hold` has them. Assumes nothing.
use Rattle.std.proofs.Common.{◌≡◌, ◌+◌, ◌∙◌, ◌&&◌, ℕ, zero, suc, List, Bool, ap, sym, refl, arith, rules, tests}
use Rattle.std.proofs.Math.Bool.{and-true, and_assoc}
use Rattle.std.specs.List.{list_all, range_with_len}
use Rattle.std.proofs.lemmas.Iterator.{YieldsList-from_range}
use Rattle.std.proofs.lemmas.Iterator.Search.{all_from_yields_List}
use Rattle.trial.specs.declared.drawn.Drawn.{Drawn}
use Rattle.trial.specs.Drawn.{holds_in}
use Rattle.trial.specs.Lists.{all_hold}
use Rattle.trial.proofs.lists.all_hold.Goals as goal

-- the last of a run of numbers
last_passes : (p : ℕ → Bool) (a n k : ℕ) → a + n ≡ k → list_all p (range_with_len a (suc n)) ≡ (list_all p (range_with_len a n) && p k)
last_passes p a zero k e = and-true (p a) ∙ ap p (omega arith)
last_passes p a (suc n) k e =
    let rest = last_passes p (a + 1) n k (omega arith) in
    ap (λ (b : Bool). p a && b) rest ∙ sym (and_assoc (p a) (list_all p (range_with_len (a + 1) n)) (p k))

-- the first n dependences
first_hold : (d : Drawn) (starts : List ℕ) (interval n : ℕ) → list_all (λ e. holds_in d e starts interval) (range_with_len 0 n) ≡ all_hold d starts interval n
unfolding all_hold
first_hold d starts interval zero = refl
first_hold d starts interval (suc n) =
    last_passes (λ e. holds_in d e starts interval) 0 n n (omega arith) ∙ ap (λ (b : Bool). b && holds_in d n starts interval) (first_hold d starts interval n)

pub returns : goal.returns
returns c =
    let d = c.args.d in
    let p = λ (e : ℕ). holds_in d e c.args.starts.now c.args.interval in
    let all : c.all.result ≡ list_all p (range_with_len 0 d.m) =
    all_from_yields_List p _ _ c.all.result c.all.ensures.ran (YieldsList-from_range 0 d.m d.m refl (omega arith)) (λ x b q k. search (rules, tests))
    in
    all ∙ first_hold d c.args.starts.now c.args.interval d.m
