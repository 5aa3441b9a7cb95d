-- `crossbar::print_bytes` meets its contract: a slice that holds no record is refused, and otherwise print answers.
use mathlib.Core.Path.{◌≡◌}
use lib.ListN.{length}
use Rattle.std.proofs.Common.{rules}
use Rattle.std.specs.Prelude.{Err}
use Rattle.listings.specs.Listing.{print}
use Rattle.crossbar.specs.Host.{host_print}
use Rattle.crossbar.proofs.Calls.{none_answered, one_answered}
use Rattle.crossbar.proofs.print_bytes.Goals as goal

pub returns-in_err-x : goal.returns-in_err-x
unfolding host_print
returns-in_err-x c =
    let a = c.args in
    let q : c.from_residual.result ≡ Err c.in_err-x.field-0.0 = search rules in
    rw q (none_answered length (λ t. t) _ (λ x. print x a.cells.now (length a.text.now)) _ _ _ c.in_err-x.ensures.read c.in_err-x.ensures.buffer)

pub returns-in_err-length : goal.returns-in_err-length
unfolding host_print
returns-in_err-length c =
    let a = c.args in
    let q : c.from_residual-in_err-length.result ≡ Err c.in_err-length.field-0.0 = search rules in
    rw q (one_answered length (λ t. t) _ (λ x. print x a.cells.now (length a.text.now)) _ _ _ _ c.in_ok-x.ensures.read (rw c.in_ok-x.ensures.buffer at c.in_err-length.ensures))

pub returns : goal.returns
unfolding host_print
returns c =
    let a = c.args in
    one_answered length (λ t. t) _ (λ x. print x a.cells.now (length a.text.now)) _ _ _ _ c.in_ok-x.ensures.read (rw c.in_ok-x.ensures.buffer at c.in_ok-length.ensures)
