-- The laws of a choice and of joined tests: proofs cite these and leave the definitions shut.
-- Assumes nothing.
use mathlib.Core.Path.{◌≡◌, refl, ap}
use mathlib.Core.Bool.{Bool, true, false}
use mathlib.Core.Logic.{◌⊎◌, inl, inr}
use Prim.Native.Nat.{ℕ}
use native.Mathlib.Omega.{arith}
use lib.Dec.{T}
use Rattle.basics.specs.Choice.{if, both, either}

pub if_yes : {A : Type 0} {b : Bool} (x y : A) → b ≡ true → if b x y ≡ x
unfolding if
if_yes {A} {b} x y e = ap (λ (t : Bool). if t x y) e

pub if_no : {A : Type 0} {b : Bool} (x y : A) → b ≡ false → if b x y ≡ y
unfolding if
if_no {A} {b} x y e = ap (λ (t : Bool). if t x y) e

-- what holds of both ways holds of the choice
pub if_ind : {A : Type 0} (P : A → Type 0) (b : Bool) (x y : A) → (b ≡ true → P x) → (b ≡ false → P y) → P (if b x y)
unfolding if
if_ind P true x y h k = h refl
if_ind P false x y h k = k refl

-- a function goes inside a choice
pub if_ap : {A B : Type 0} (f : A → B) (b : Bool) (x y : A) → f (if b x y) ≡ if b (f x) (f y)
unfolding if
if_ap f true x y = refl
if_ap f false x y = refl

pub bool_cases : (b : Bool) → (b ≡ true) ⊎ (b ≡ false)
bool_cases true = inl refl
bool_cases false = inr refl

-- a test as a type, and as an equation
pub true_t : (b : Bool) → b ≡ true → T b
true_t true e = tt
true_t false e = let z : ◌≡◌ {A = ℕ} 0 1 = cc in omega arith

pub T_true : (b : Bool) → T b → b ≡ true
T_true true t = refl
T_true false t = absurd t

pub both_yes : (a b : Bool) → a ≡ true → b ≡ true → both a b ≡ true
unfolding both
both_yes true b e f = f
both_yes false b e f = e

pub both_no_left : (a b : Bool) → a ≡ false → both a b ≡ false
unfolding both
both_no_left true b e = cc
both_no_left false b e = refl

pub both_no_right : (a b : Bool) → b ≡ false → both a b ≡ false
unfolding both
both_no_right true b e = e
both_no_right false b e = refl

pub both_left : (a b : Bool) → both a b ≡ true → a ≡ true
unfolding both
both_left true b e = refl
both_left false b e = e

pub both_right : (a b : Bool) → both a b ≡ true → b ≡ true
unfolding both
both_right true b e = e
both_right false b e = cc

pub either_left : (a b : Bool) → a ≡ true → either a b ≡ true
unfolding either
either_left true b e = refl
either_left false b e = cc

pub either_right : (a b : Bool) → b ≡ true → either a b ≡ true
unfolding either
either_right true b e = refl
either_right false b e = e

pub either_no : (a b : Bool) → a ≡ false → b ≡ false → either a b ≡ false
unfolding either
either_no true b e f = e
either_no false b e f = f

-- a test that passes leaves the other
pub both_true : {a : Bool} (b : Bool) → a ≡ true → both a b ≡ b
unfolding both
both_true {a} b e = ap (λ (t : Bool). both t b) e

pub both_assoc : (a b r : Bool) → both a (both b r) ≡ both (both a b) r
unfolding both
both_assoc true b r = refl
both_assoc false b r = refl

pub either_false : {a : Bool} (b : Bool) → a ≡ false → either a b ≡ b
unfolding either
either_false {a} b e = ap (λ (t : Bool). either t b) e

-- two results of a test differ
pub no : {P : Type 0} → false ≡ true → P
no e = let z : ◌≡◌ {A = ℕ} 0 1 = cc in absurd (omega arith)
