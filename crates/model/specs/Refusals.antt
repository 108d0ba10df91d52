-- Refusals, and the rule that the first one met is the answer. Assumes nothing.
use Rattle.std.specs.Prelude.{Bool, true, false, cond, ◌||◌, List, [], ◌∷◌, ℕ, ltb}
use Rattle.std.proofs.Math.Option.{Option, none, some}

-- a refusal: its number in document 01's table, and its detail
pub record Refusal : Type 0 where
  pub number : ℕ
  pub detail : ℕ

-- a line of a table of checks: whether the check fails, and the refusal that it then gives
pub record Check : Type 0 where
  pub fails : Bool
  pub gives : Refusal

-- the check that gives `number` at `detail` where it fails
abbrev pub check : Bool → ℕ → ℕ → Check
check fails number detail = record { fails = fails; gives = record { number = number; detail = detail } }

-- the check that gives `number` where something is found, at that detail
abbrev pub if_found : ℕ → Option ℕ → Check
if_found number none = check false number 0
if_found number (some d) = check true number d

-- x is not one of 1 .. most
abbrev pub outside : ℕ → ℕ → Bool
outside most x = ltb x 1 || ltb most x

-- 7: the number of this field is not one of 1 .. most
abbrev pub range : (field most x : ℕ) → Check
range field most x = check (outside most x) 7 field

-- 20: a lent list or table has fewer numbers than are needed
abbrev pub lent : (needs has : ℕ) → Check
lent needs has = check (ltb has needs) 20 has

-- the first refusal met; none where no check fails
unfoldable pub first_refusal : List Check → Option Refusal
first_refusal [] = none
first_refusal (c ∷ cs) = cond c.fails (some c.gives) (first_refusal cs)

-- what every entry point ends with: an answer, or a refusal
pub data Answer (A : Type 0) : Type 0 where
  answered : A → Answer A
  refused : Refusal → Answer A

-- the refusal, or the answer where there is none
abbrev pub settled : {A : Type 0} → Option Refusal → A → Answer A
settled none a = answered a
settled (some r) a = refused r

-- the first refusal met is the answer
abbrev pub settle : {A : Type 0} → List Check → A → Answer A
settle cs a = settled (first_refusal cs) a
