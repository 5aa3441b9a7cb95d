-- `conduction::stamping::rounds` meets its contract: whenever the loop begins again, t rounds were run and each added a wire.
use Prim.Native.Nat.{ℕ, ◌*◌, ◌≤◌}
use mathlib.Core.Path.{◌≡◌, refl, sym, ap, ◌∙◌}
use native.Mathlib.Omega.{arith}
use native.Mathlib.Nat.{mul-le-mul}
use lib.ListN.{length, take, replicate}
use lib.Seq.{length-take-le}
use Rattle.common.specs.Limits.{max_rows, max_columns}
use Rattle.conduction.specs.declared.Key.{Key}
use Rattle.conduction.specs.Wires.{no_key, in_order}
use Rattle.conduction.proofs.Counting.{running_start, running_rest, running_on}
use Rattle.conduction.proofs.stamping.rounds.Goals as goal

long : (n : ℕ) → n ≤ 128 → length (take n (replicate {A = Key} 128 no_key)) ≡ n
long n h = length-take-le n (replicate {A = Key} 128 no_key) h

pub slice_bounds-rows-end : goal.slice_bounds-rows-end
unfolding max_rows
slice_bounds-rows-end c = c.requires.fits.rows_fit

pub slice_bounds-rows-end-2 : goal.slice_bounds-rows-end-2
unfolding max_rows
slice_bounds-rows-end-2 c = sym (long c.args.m c.requires.fits.rows_fit)

pub slice_bounds-columns-end : goal.slice_bounds-columns-end
unfolding max_columns
slice_bounds-columns-end c = c.requires.fits.columns_fit

pub slice_bounds-columns-end-2 : goal.slice_bounds-columns-end-2
unfolding max_columns
slice_bounds-columns-end-2 c = sym (long c.args.n c.requires.fits.columns_fit)

pub line_up-requires : goal.line_up-requires
unfolding max_rows max_columns
line_up-requires c =
    let m = long c.args.m c.requires.fits.rows_fit in
    let k : c.args.m * c.args.n ≤ 128 * 128 = mul-le-mul c.requires.fits.rows_fit c.requires.fits.columns_fit in
    (rw m (omega (arith, c.requires.fits.rows_fit)), rw m k)

pub line_up-requires-2 : goal.line_up-requires-2
unfolding max_rows max_columns
line_up-requires-2 c =
    let n = long c.args.n c.requires.fits.columns_fit in
    (rw n (omega (arith, c.requires.fits.rows_fit, c.requires.fits.columns_fit)), rw n (omega (arith, c.requires.fits.columns_fit)))

pub overflow_cast-wires : goal.overflow_cast-wires
unfolding max_rows max_columns
overflow_cast-wires c = omega (arith, c.requires.fits.rows_fit, c.requires.fits.columns_fit)

pub loop-t-init : goal.loop-t-init
unfolding max_rows max_columns
loop-t-init c =
    let m = c.args.m in
    let n = c.args.n in
    running_start _ m n _ _ _ _ c.requires.fits refl (c.line_up.ensures ∙ ap (in_order 0 n) (long m c.requires.fits.rows_fit))
    (c.line_up-2.ensures ∙ ap (in_order m 1) (long n c.requires.fits.columns_fit)) c.requires.stamps_value

pub loop-t-preserved : goal.loop-t-preserved
loop-t-preserved c =
    running_on _ _ _ _ _ _ _ _ _ _ _ c.loop-t.invariant _ _ _ _ (record { rounded = c.round-end.ensures.new_wires; standing = c.round-end.ensures.ready })
    c.if-end-front.false c.if-wires-t.false c.round-end.auto.rows c.round-end.auto.columns c.round-end.auto.stamps

pub returns-then-end-front : goal.returns-then-end-front
returns-then-end-front c =
    running_rest _ _ _ _ _ _ _ _ _ _ _ c.loop-t.invariant _ _ _ _ (record { rounded = c.round-end.ensures.new_wires; standing = c.round-end.ensures.ready })
    c.if-end-front.true
