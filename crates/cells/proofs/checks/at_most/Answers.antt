-- `cells::checks::at_most` meets its contract: the highest code so far tells of the codes so far.
use Prim.Native.Nat.{ℕ, ◌<◌, ◌≤◌}
use mathlib.Core.Path.{◌≡◌, refl, sym, ◌∙◌}
use mathlib.Core.Bool.{Bool, true, false, ◌&&◌}
use mathlib.Core.Logic.{⊎_elim}
use native.Mathlib.Omega.{arith}
use lib.Dec.{leb}
use borrow.Author.Tests.{lt-ltb, le-ltb, le-leb, lt-leb}
use Rattle.std.proofs.Common.{nat_cmp, cond, get_or, ◌==◌}
use Rattle.std.specs.Ordering.{ord_max, is_lt}
use Rattle.std.specs.declared.cmp.Ordering.TheVariants.{Equal, Greater}
use Rattle.std.proofs.lemmas.Bool.{cases_lt}
use Rattle.std.proofs.Math.Bool.{and-false}
use Rattle.std.proofs.lemmas.List.{take_all}
use Rattle.std.proofs.lemmas.List.Folds.{list_all_more}
use Rattle.cells.proofs.Every.{list_all_is}
use Rattle.cells.proofs.checks.at_most.Goals as goal

not_less : (t x : ℕ) (b : Bool) → cond (is_lt (cond b Equal Greater)) t x ≡ x
not_less t x true = refl
not_less t x false = refl

-- the higher of two numbers is at most a third exactly when both are
pub highest : (m t x : ℕ) → leb (ord_max nat_cmp t x) m ≡ (leb t m && leb x m)
highest m t x =
    ⊎_elim
    (λ (h : x < t).
    rw (lt-ltb x t h)
    (⊎_elim (λ (k : m < t). rw (lt-leb t m k) refl) (λ (k : t ≤ m). rw (le-leb t m k, le-leb x m (omega arith)) refl) (cases_lt m t)))
    (λ (h : t ≤ x).
    rw (le-ltb x t h, not_less t x (x == t))
    (⊎_elim (λ (k : m < x). rw (lt-leb x m k) (sym (and-false (leb t m)))) (λ (k : x ≤ m). rw (le-leb t m (omega arith), le-leb x m k) refl) (cases_lt m x)))
    (cases_lt x t)

pub loop-code-init : goal.loop-code-init
loop-code-init c = sym (le-leb 0 c.args.most (omega arith))

pub loop-code-preserved : goal.loop-code-preserved
loop-code-preserved c =
    let p : ℕ → Bool = λ k. leb k c.args.most in
    let x = get_or c.args.codes.now c.loop-code.code-index 0 in
    rw (c.max-top.ensures, highest c.args.most c.loop-code.top x)
    (list_all_more p c.args.codes.now c.loop-code.code-index 0 c.loop-code-test.true ∙ rw c.loop-code.invariant refl)

pub returns : goal.returns
returns c =
    let p : ℕ → Bool = λ k. leb k c.args.most in
    sym (c.loop-code.invariant) ∙ rw (take_all c.loop-code.code-index c.args.codes.now c.loop-code-test.false) (list_all_is p c.args.codes.now)
