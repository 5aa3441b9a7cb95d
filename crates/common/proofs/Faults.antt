-- Laws of faults and of what is handed over for an outcome.
use Prim.Native.Nat.{ℕ, zero, suc, ◌≤◌}
use mathlib.Core.Path.{◌≡◌, refl}
use mathlib.Core.List.{List}
use native.Mathlib.Omega.{arith}
use Rattle.std.specs.Prelude.{Result, Ok, Err, IfErr, MatchResult}
use Rattle.std.specs.Result.{result_unwrap_or}
use Rattle.common.specs.declared.Fault.{Fault}
use Rattle.common.specs.declared.Refusal.{Refusal}
use Rattle.common.specs.Lists.{zeros}
use Rattle.common.specs.Outcome.{Outcome, done, refused, ◌then◌, unless, value_of, buffer_of, Answered}
use Rattle.common.specs.Fault.{number_of_fault, faults, fault_of, tested, handed}

-- the number of the fault of a number
pub number_faulted : (k : ℕ) → 1 ≤ k → k ≤ 15 → number_of_fault (fault_of k) ≡ k
unfolding fault_of faults number_of_fault
number_faulted zero a b = absurd (omega arith)
number_faulted (suc zero) a b = refl
number_faulted (suc (suc zero)) a b = refl
number_faulted (suc (suc (suc zero))) a b = refl
number_faulted (suc (suc (suc (suc zero)))) a b = refl
number_faulted (suc (suc (suc (suc (suc zero))))) a b = refl
number_faulted (suc (suc (suc (suc (suc (suc zero)))))) a b = refl
number_faulted (suc (suc (suc (suc (suc (suc (suc zero))))))) a b = refl
number_faulted (suc (suc (suc (suc (suc (suc (suc (suc zero)))))))) a b = refl
number_faulted (suc (suc (suc (suc (suc (suc (suc (suc (suc zero))))))))) a b = refl
number_faulted (suc (suc (suc (suc (suc (suc (suc (suc (suc (suc zero)))))))))) a b = refl
number_faulted (suc (suc (suc (suc (suc (suc (suc (suc (suc (suc (suc zero))))))))))) a b = refl
number_faulted (suc (suc (suc (suc (suc (suc (suc (suc (suc (suc (suc (suc zero)))))))))))) a b = refl
number_faulted (suc (suc (suc (suc (suc (suc (suc (suc (suc (suc (suc (suc (suc zero))))))))))))) a b = refl
number_faulted (suc (suc (suc (suc (suc (suc (suc (suc (suc (suc (suc (suc (suc (suc zero)))))))))))))) a b = refl
number_faulted (suc (suc (suc (suc (suc (suc (suc (suc (suc (suc (suc (suc (suc (suc (suc zero))))))))))))))) a b = refl
number_faulted (suc (suc (suc (suc (suc (suc (suc (suc (suc (suc (suc (suc (suc (suc (suc (suc k)))))))))))))))) a b = absurd (omega arith)

-- a value was handed over: the outcome is done
pub handed_ok : {A B : Type 0} (f : A → B) (o : Outcome A) (b : B) → handed f o ≡ Ok b → (a : A) × (o ≡ done a) × (b ≡ f a)
unfolding handed
handed_ok f (done a) b e = (a, refl, cc)
handed_ok f (refused k l) b e = absurd cc

-- what is handed over, with z in place of a refusal: the outcome's value, and z where it is refused
pub handed_value : {A B : Type 0} (f : A → B) (o : Outcome A) (z : B) → result_unwrap_or (handed f o) z ≡ value_of z f o
unfolding handed value_of
handed_value f (done a) z = refl
handed_value f (refused k l) z = refl

-- a refusal was handed over: it is handed over too by what goes on from that outcome
pub handed_on :
    {A B C D : Type 0} (f : A → B) (g : C → D) (o : Outcome A) (h : A → Outcome C) (r : Refusal)
    → handed f o ≡ Err r
    → handed g (o then h) ≡ Err r
unfolding handed ◌then◌
handed_on f g (done a) h r e = absurd cc
handed_on f g (refused k l) h r e = cc

-- a test that passes, and one that fails, whose fault is put at a line
pub tested_passed : (r : Result (Unit {0}) Fault) (k : ℕ) → r ≡ tested k → IfErr r (λ x. ⊥) → k ≡ 0
unfolding tested
tested_passed r zero e h = refl
tested_passed (Ok u) (suc k) e h = absurd cc
tested_passed (Err x) (suc k) e h = absurd h

pub handed_failed :
    {A B : Type 0} (f : A → B) (n : ℕ) (o : Outcome A) (r : Result (Unit {0}) Fault) (k : ℕ) (q : Refusal)
    → r ≡ tested k
    → MatchResult r (λ u. ⊥) (λ x. q ≡ record { fault = x; line = n })
    → handed f (unless k n o) ≡ Err q
unfolding tested unless handed
handed_failed f n o (Ok u) k q e h = absurd h
handed_failed f n o (Err x) zero q e h = absurd cc
handed_failed f n o (Err x) (suc k) q e h = cc

-- a call that hands on an earlier refusal, with its buffer of zeros
pub answered_on :
    {A B C D : Type 0} (f : A → B) (g : C → D) (entries : C → List ℕ) (o : Outcome A) (h : A → Outcome C) (room : ℕ) (r : Refusal) (after : List ℕ)
    → handed f o ≡ Err r
    → after ≡ zeros room
    → Answered (o then h) (handed g) entries room (Err r) after
unfolding handed ◌then◌ buffer_of
answered_on f g entries (done a) h room r after e z = absurd cc
answered_on f g entries (refused k l) h room r after e z = record { answer = cc; buffer = z }
