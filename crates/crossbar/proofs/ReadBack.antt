-- What map or load writes as a record is what light and print read, in a buffer of any length that holds it.
use Prim.Native.Nat.{ℕ, ◌/◌, ◌≤◌}
use mathlib.Core.Path.{◌≡◌, refl, ap, ◌∙◌}
use mathlib.Core.List.{List}
use lib.ListN.{length}
use borrow.Author.Tests.{le-ltb}
use Rattle.common.specs.Limits.{max_outputs}
use Rattle.common.specs.Lists.{padded}
use Rattle.common.specs.Outcome.{Outcome, done, refused, ◌then◌, lowest, unless}
use Rattle.cells.specs.declared.Crossbar.{Crossbar}
use Rattle.cells.specs.Record.{Whole}
use Rattle.conduction.specs.Light.{light}
use Rattle.listings.specs.Listing.{print}
use Rattle.crossbar.specs.Bytes.{record_length, record_bytes}
use Rattle.crossbar.specs.Host.{for_record, host_light, host_print}
use Rattle.crossbar.proofs.Records.{one_held, holds_written, record_written}

-- a record's buffer that is long enough adds no refusal
pub for_record_long : (n : ℕ) (o : Outcome Whole) → record_length ≤ n → for_record n o ≡ o
unfolding for_record ◌then◌ lowest unless
for_record_long n (done w) h = rw (le-ltb n record_length h)
for_record_long n (refused k l) h = refl

module _ (x : Crossbar) (rows : length x.outs ≡ max_outputs) (n : ℕ) (long : record_length ≤ n) where
  pub light-written : (cells setting : List ℕ) (room : ℕ) → host_light (padded n (record_bytes x)) cells setting room ≡ light x cells setting (room / 2)
  unfolding host_light
  light-written cells setting room =
      one_held (padded n (record_bytes x)) _ (holds_written x rows n long)
      ∙ ap (λ (y : Crossbar). light y cells setting (room / 2)) (record_written x rows n)

  pub print-written : (cells : List ℕ) (room : ℕ) → host_print (padded n (record_bytes x)) cells room ≡ print x cells room
  unfolding host_print
  print-written cells room =
      one_held (padded n (record_bytes x)) _ (holds_written x rows n long)
      ∙ ap (λ (y : Crossbar). print y cells room) (record_written x rows n)
