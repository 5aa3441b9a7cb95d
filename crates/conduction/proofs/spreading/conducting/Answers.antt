-- `conduction::spreading::conducting` meets its contract: the codes before the next one are in the table.
use Prim.Native.Nat.{ℕ, zero, suc, ◌+◌, ◌-◌, ◌*◌, ◌<◌, ◌≤◌}
use mathlib.Core.Path.{◌≡◌, refl, sym, ◌∙◌}
use mathlib.Core.Logic.{⊎_elim}
use mathlib.Core.Bool.{Bool, false, ◌&&◌}
use mathlib.Core.List.{List, ◌++◌}
use native.Mathlib.Omega.{arith}
use lib.ListN.{length, get_or, replicate, drop, length-append, length-replicate, length-set, get_or-append}
use lib.Seq.{ext_get_or, get_or-set_same, get_or-set_other, get_or-append_right}
use lib.Dec.{ltb}
use borrow.Author.Tests.{lt-ltb, le-ltb}
use Rattle.std.proofs.lemmas.List.{length-drop, length-take-le, get_or-drop}
use Rattle.std.proofs.lemmas.Bool.{cases_lt, cases_eq}
use Rattle.common.specs.Limits.{max_switches}
use Rattle.common.proofs.Lists.{length-tab, get_or-tab}
use Rattle.cells.specs.Code.{cell_of}
use Rattle.cells.specs.Conducts.{conducts}
use Rattle.conduction.specs.Wires.{on_codes}
use Rattle.conduction.proofs.spreading.conducting.Goals as goal

abbrev dark : List Bool
dark = replicate 256 false

dark_table : (n k : ℕ) → get_or (replicate {A = Bool} n false) k false ≡ false
dark_table zero k = refl
dark_table (suc n) zero = refl
dark_table (suc n) (suc k) = dark_table n k

-- a table of n codes, and no other of 256
table : (n : ℕ) (f : ℕ → Bool) (s : List Bool) → n ≤ 256 → length s ≡ n
    → ((k : ℕ) → k < n → get_or s k false ≡ f k)
    → (k : ℕ) → get_or (s ++ drop n dark) k false ≡ (ltb k n && f k)
table n f s most long each k =
    ⊎_elim
    (λ (h : k < n). rw (lt-ltb k n h) (get_or-append s (drop n dark) false k (omega (arith, h, long)) ∙ each k h))
    (λ (h : n ≤ k).
    rw (le-ltb k n h)
    (get_or-append_right s (drop n dark) k false (omega (arith, h, long))
    ∙ get_or-drop n dark (k - length s) false ∙ dark_table 256 (n + (k - length s))))
    (cases_lt k n)

pub overflow_add-on : goal.overflow_add-on
unfolding max_switches
overflow_add-on c = omega (arith, c.requires)

pub slice_bounds-on-end : goal.slice_bounds-on-end
unfolding max_switches
slice_bounds-on-end c = omega (arith, c.requires)

pub slice_bounds-switched-end : goal.slice_bounds-switched-end
unfolding max_switches
slice_bounds-switched-end c =
    sym (length-take-le _ dark (omega (arith, c.requires)))

pub loop-code-init : goal.loop-code-init
unfolding max_switches
loop-code-init c = (
  length-take-le (2 + 2 * length c.args.setting.now) dark (omega (arith, c.requires)),
  λ k h. absurd (omega (arith, h)),
)

pub loop-code-preserved : goal.loop-code-preserved
loop-code-preserved c =
    let inv = c.loop-code.invariant in
    let s = c.loop-code.switched in
    let code = c.loop-code.code in
    let within : code < length s = omega arith in (
      length-set s code c.conducts_code.result ∙ inv.0,
      λ k h.
          ⊎_elim
          (λ (e : k ≡ code). rw e (get_or-set_same s code c.conducts_code.result false within ∙ c.conducts_code.ensures))
          (λ (n : k ≡ code → ⊥). get_or-set_other s code k c.conducts_code.result false n ∙ inv.1 k (omega (arith, h, n)))
          (cases_eq k code),
    )

pub returns : goal.returns
unfolding on_codes max_switches
returns c =
    let inv = c.loop-code.invariant in
    let setting = c.args.setting.now in
    let n = 2 + 2 * length setting in
    let lit : ℕ → Bool = λ k. conducts setting (cell_of k) in
    let f : ℕ → Bool = λ k. ltb k n && lit k in
    let most : n ≤ 256 = omega (arith, c.requires) in
    let s = c.loop-code.switched in
    let long : length (s ++ drop n dark) ≡ 256 =
    length-append s (drop n dark) ∙ rw (length-drop n dark, length-replicate 256 false) (omega (arith, inv.0, most)) in
    ext_get_or false (s ++ drop n dark) (on_codes setting) (long ∙ sym (length-tab 256 f))
    (λ k h.
    table n lit s most inv.0 (λ i below. inv.1 i (omega (arith, below, inv.0))) k
    ∙ sym (get_or-tab 256 f k false (omega (arith, h, long))))
