-- An answer as numbers: what a C function returns and writes. Assumes nothing.
use Rattle.std.specs.Prelude.{◌≡◌, List, [], ◌∷◌, ℕ}
pub use Rattle.model.specs.Lists.{written}
use Rattle.model.specs.Refusals.{Answer, answered, refused}

-- what is returned: 0, or the refusal's number
abbrev pub number_of : {A : Type 0} → Answer A → ℕ
number_of (answered a) = 0
number_of (refused r) = r.number

-- the eight numbers that are written: 0 and what was found, or the refusal's detail
abbrev pub words_of : {A : Type 0} → (A → List ℕ) → Answer A → List ℕ
words_of tell (answered a) = 0 ∷ tell a
words_of tell (refused r) = r.detail ∷ 0 ∷ 0 ∷ 0 ∷ 0 ∷ 0 ∷ 0 ∷ 0 ∷ []

-- a call whose answer is a, told by `tell`: r is returned, and `after` stands where `before` stood
pub record Gives {A : Type 0} (a : Answer A) (tell : A → List ℕ) (r : ℕ) (before after : List ℕ) : Type 0 where
  pub number : r ≡ number_of a
  pub words : after ≡ written 0 (words_of tell a) before
