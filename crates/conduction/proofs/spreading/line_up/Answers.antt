-- `conduction::spreading::line_up` meets its contract: the first wires stand in order.
use Prim.Native.Nat.{ℕ, ◌*◌, ◌≤◌}
use mathlib.Core.Path.{sym, ◌∙◌}
use native.Mathlib.Omega.{arith}
use native.Mathlib.Nat.{mul-le-mul}
use lib.ListN.{length}
use lib.Seq.{ext_get_or}
use Rattle.common.specs.Limits.{max_rows, max_columns}
use Rattle.common.proofs.Lists.{length-tab, get_or-tab}
use Rattle.conduction.specs.Wires.{no_key, wire_of, in_order}
use Rattle.conduction.proofs.spreading.line_up.Goals as goal

small : (x n step : ℕ) → x ≤ n → n * step ≤ max_rows * max_columns → x * step ≤ 16384
unfolding max_rows max_columns
small x n step h k = let s : step ≤ step = omega arith in let m : x * step ≤ n * step = mul-le-mul h s in omega (arith, m, k)

pub overflow_add-key : goal.overflow_add-key
unfolding max_rows max_columns
overflow_add-key c = omega (arith, c.requires.0)

pub overflow_cast-key : goal.overflow_cast-key
unfolding max_rows max_columns
overflow_cast-key c = omega (arith, c.requires.0)

pub overflow_mul-key : goal.overflow_mul-key
overflow_mul-key c = omega (arith, small c.loop-x.x (length c.args.keys.now) c.args.step (omega arith) c.requires.1)

pub overflow_cast-key-in-loop-x : goal.overflow_cast-key-in-loop-x
overflow_cast-key-in-loop-x c = omega (arith, small c.loop-x.x (length c.args.keys.now) c.args.step (omega arith) c.requires.1)

pub returns : goal.returns
unfolding in_order
returns c =
    let n = length c.args.keys.now in
    let f = wire_of c.args.first c.args.step in
    let inv = c.loop-x.invariant in
    ext_get_or no_key c.loop-x.keys (in_order c.args.first c.args.step n) (inv.0 ∙ sym (length-tab n f))
    (λ k h. inv.1 k (omega (arith, h, inv.0)) ∙ sym (get_or-tab n f k no_key (omega (arith, h, inv.0))))
