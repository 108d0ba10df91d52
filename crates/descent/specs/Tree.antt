-- The model's search below a prefix, with what is left of a budget: what the contracts of the recursion cite. Assumes nothing.
use Rattle.std.specs.Prelude.{Bool, cond, ℕ, suc, ◌-◌, ltb}
use mathlib.Core.List.{List, [], ◌∷◌, ◌++◌, map, flat_map}
use Rattle.std.proofs.Math.Option.{Option, none, some}
use Rattle.model.specs.Lists.{up_from, first, count_if}
use Rattle.model.specs.Search.{words, whole, tried}

-- ---- the lists that are tried, over any predicate L of lists that says which are legal

-- the predicate below the prefix p
abbrev pub under : (List ℕ → Bool) → List ℕ → List ℕ → Bool
under L p w = L (p ++ w)

-- the empty list, then every list of 1 to m numbers below h
unfoldable pub tree : ℕ → ℕ → List (List ℕ)
tree h m = [] ∷ words h m

-- one of s, s + 1, .. (k numbers), then a list of the tree
unfoldable pub over : ℕ → ℕ → ℕ → ℕ → List (List ℕ)
over h m s k = flat_map (λ t. map (t ∷◌) (tree h m)) (up_from s k)

-- ---- what is found in them, and how many probes that takes

-- the first legal list of m numbers in the tree
unfoldable pub tree_answer : (List ℕ → Bool) → ℕ → ℕ → Option (List ℕ)
tree_answer L h m = first (whole L m) (tree h m)

-- the probes of the tree: its empty list is none
unfoldable pub tree_probes : (List ℕ → Bool) → ℕ → ℕ → ℕ
tree_probes L h m = count_if (tried L (tree_answer L h m)) (words h m)

-- the first legal list of m + 1 numbers that begins with one of s, s + 1, .. (k numbers)
unfoldable pub over_answer : (List ℕ → Bool) → ℕ → ℕ → ℕ → ℕ → Option (List ℕ)
over_answer L h m s k = first (whole L (suc m)) (over h m s k)

-- the probes of those
unfoldable pub over_probes : (List ℕ → Bool) → ℕ → ℕ → ℕ → ℕ → ℕ
over_probes L h m s k = count_if (tried L (over_answer L h m s k)) (over h m s k)

-- ---- with a budget

-- what a part of the search comes to: the budget is spent; a whole list, and what is left; none, and what is left
pub data Res : Type 0 where
  broke : Res
  all : List ℕ → ℕ → Res
  no_more : ℕ → Res

-- an answer, with l left
abbrev pub rest : Option (List ℕ) → ℕ → Res
rest none l = no_more l
rest (some a) l = all a l

-- an answer that takes k probes, with the budget b
abbrev pub res_of : ℕ → Option (List ℕ) → ℕ → Res
res_of b o k = cond (ltb b k) broke (rest o (b - k))

-- the tree, with the budget b
unfoldable pub run : (List ℕ → Bool) → ℕ → ℕ → ℕ → Res
run L h m b = res_of b (tree_answer L h m) (tree_probes L h m)

-- the lists that begin with one of s, s + 1, .. (k numbers), with the budget b
unfoldable pub run_o : (List ℕ → Bool) → ℕ → ℕ → ℕ → ℕ → ℕ → Res
run_o L h m s k b = res_of b (over_answer L h m s k) (over_probes L h m s k)
