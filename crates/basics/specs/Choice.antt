-- One of two by a test, and tests joined. Every specification above uses these.
-- Assumes nothing.
use Rattle.std.specs.Prelude.{Bool, true, false, List, [], ◌∷◌, ℕ, leb, ltb, eqb}

-- the first where the test passes, else the second
unfoldable pub if : {A : Type 0} → Bool → A → A → A
if true a b = a
if false a b = b

-- both tests pass
unfoldable pub both : Bool → Bool → Bool
both true b = b
both false b = false

-- one of the tests passes
unfoldable pub either : Bool → Bool → Bool
either true b = true
either false b = b

-- the test passes at every entry of a list
unfoldable pub every : {A : Type 0} → (A → Bool) → List A → Bool
every f [] = true
every f (x ∷ xs) = both (f x) (every f xs)

-- 1 where a test passes, else 0
abbrev pub one_if : Bool → ℕ
one_if true = 1
one_if false = 0

-- ---- the notation of specifications: tests between what they compare, and a case to a line

infixr 34 ◌and◌
infixr 32 ◌or◌
infix 40 ◌≤?◌
infix 40 ◌<?◌
infix 40 ◌=?◌
infix 10 when◌then◌else◌
abbrev pub ◌and◌ : Bool → Bool → Bool
a and b = both a b

abbrev pub ◌or◌ : Bool → Bool → Bool
a or b = either a b

-- a number is at most another, below it, or equal to it
abbrev pub ◌≤?◌ : ℕ → ℕ → Bool
m ≤? n = leb m n

abbrev pub ◌<?◌ : ℕ → ℕ → Bool
m <? n = ltb m n

abbrev pub ◌=?◌ : ℕ → ℕ → Bool
m =? n = eqb m n

abbrev pub when◌then◌else◌ : {A : Type 0} → Bool → A → A → A
when t then a else b = (if) t a b
