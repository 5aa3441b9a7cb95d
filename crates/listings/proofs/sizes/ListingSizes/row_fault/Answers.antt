-- `listings::sizes::ListingSizes::row_fault` meets its contract: each return knows the tests that the output passed.
use mathlib.Core.Path.{sym, ap, ◌∙◌}
use lib.ListN.{length-replicate}
use Rattle.common.specs.Fault.{fault_of, faults, tested}
use Rattle.listings.proofs.Faults.{out_of_place, out_of_turn, stand_out, stand_in}
use Rattle.listings.proofs.sizes.ListingSizes.row_fault.Goals as goal

pub returns-then-f-j : goal.returns-then-f-j
unfolding tested fault_of faults
returns-then-f-j c = sym (ap tested (out_of_turn _ _ _ (λ z. c.if-f-j.true (z ∙ length-replicate c.args.j 0))))

pub returns-then-self-f : goal.returns-then-self-f
returns-then-self-f c = out_of_place _ (stand_out _ _ _ (c.if-f-j.false ∙ sym (length-replicate c.args.j 0)) c.if-self-f.true)

pub returns : goal.returns
unfolding tested
returns c = sym (ap tested (stand_in _ _ _ (c.if-f-j.false ∙ sym (length-replicate c.args.j 0)) c.if-self-f.false))
