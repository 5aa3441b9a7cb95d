-- Laws of outcomes: what an outcome that is done says of the steps that led to it.
use Prim.Native.Nat.{ℕ, zero, suc}
use mathlib.Core.Path.{◌≡◌, refl}
use mathlib.Core.Bool.{Bool, true, false}
use mathlib.Core.List.{List, ◌∷◌}
use native.Mathlib.Omega.{arith}
use Rattle.common.specs.Outcome.{Outcome, done, refused, ◌then◌, Ground, ◌when◌, lowest, unless}

-- a step and what followed it
pub then_done : {A B : Type 0} (o : Outcome A) (f : A → Outcome B) (b : B) → o then f ≡ done b → (a : A) × (o ≡ done a) × (f a ≡ done b)
unfolding ◌then◌
then_done (done a) f b h = (a, refl, h)
then_done (refused k l) f b h = absurd (let z : ◌≡◌ {A = ℕ} 0 1 = cc in omega arith)

-- no number was given
pub unless_done : {A : Type 0} (k line : ℕ) (rest : Outcome A) (a : A) → unless k line rest ≡ done a → (k ≡ 0) × (rest ≡ done a)
unfolding unless
unless_done zero line rest a h = (refl, h)
unless_done (suc k) line rest a h = absurd (let z : ◌≡◌ {A = ℕ} 0 1 = cc in omega arith)

-- where no number is given, no ground is met: the first, and the others
pub not_met : (k : ℕ) (met : Bool) (gs : List Ground) → lowest ((suc k when met) ∷ gs) ≡ 0 → met ≡ false
unfolding lowest
not_met k true gs h = absurd (omega arith)
not_met k false gs h = refl

pub others : (k : ℕ) (met : Bool) (gs : List Ground) → lowest ((suc k when met) ∷ gs) ≡ 0 → lowest gs ≡ 0
unfolding lowest
others k true gs h = absurd (omega arith)
others k false gs h = h

-- a step that is done goes on, and no number stops nothing
pub then_is : {A B : Type 0} (o : Outcome A) (a : A) (f : A → Outcome B) → o ≡ done a → o then f ≡ f a
unfolding ◌then◌
then_is o a f e = rw e

pub unless_none : {A : Type 0} (k n : ℕ) (o : Outcome A) → k ≡ 0 → unless k n o ≡ o
unfolding unless
unless_none k n o e = rw e

-- one reading goes as another and then f does: step by step, where the steps go on alike
pub unless_then : {A B : Type 0} (f : A → Outcome B) (k n : ℕ) (o : Outcome B) (p : Outcome A) → o ≡ p then f → unless k n o ≡ unless k n p then f
unfolding unless ◌then◌
unless_then f zero n o p e = e
unless_then f (suc k) n o p e = refl

pub then_then :
    {A B C : Type 0} (f : B → Outcome C) (o : Outcome A) (g : A → Outcome C) (h : A → Outcome B) → ((a : A) → g a ≡ h a then f) → o then g ≡ (o then h) then f
unfolding ◌then◌
then_then f (done a) g h e = e a
then_then f (refused k l) g h e = refl

-- a number is a refusal
pub unless_some : {A : Type 0} (k n : ℕ) (o : Outcome A) → (k ≡ 0 → ⊥) → unless k n o ≡ refused k n
unfolding unless
unless_some zero n o h = absurd (h refl)
unless_some (suc k) n o h = refl

-- a refusal stays one
pub then_refused : {A B : Type 0} (o : Outcome A) (k l : ℕ) (f : A → Outcome B) → o ≡ refused k l → o then f ≡ refused k l
unfolding ◌then◌
then_refused o k l f e = rw e
