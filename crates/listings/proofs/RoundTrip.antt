-- Print and load are inverse: the proofs of the statements of specs/RoundTrip.antt.
use Prim.Native.Nat.{ℕ, ◌-◌, ◌≤◌}
use mathlib.Core.Path.{◌≡◌, refl, sym, ap, ◌∙◌}
use mathlib.Core.Bool.{true, not}
use mathlib.Core.List.{List, ◌++◌}
use lib.ListN.{length, take}
use lib.Seq.{take-append-le}
use borrow.Author.Tests.{not-false}
use Rattle.common.specs.Lists.{zeros, padded}
use Rattle.common.specs.Outcome.{done}
use Rattle.common.proofs.Outcome.{unless_done, not_met}
use Rattle.cells.specs.Record.{size, sound}
use Rattle.cells.specs.declared.Crossbar.{Crossbar}
use Rattle.cells.proofs.Sizes.{sound_facts}
use Rattle.listings.specs.Listing.{listing, print}
use Rattle.listings.specs.Loading.{record_of, cells_of}
use Rattle.listings.specs.RoundTrip.{PrintThenLoad, PrintThenLoadDone, PrintThenLoadPadded, LoadThenPrint, LoadThenPrintDone, LoadThenPrintPadded}
use Rattle.listings.proofs.Answers.{print-fits}
use Rattle.listings.proofs.Printed.{taken_padded, listing_read, load-listing}
use Rattle.listings.proofs.Loaded.{load_done, loaded_text}
use Rattle.cells.proofs.Slices.{sound-zeros}

-- what print gives is the listing of a sound crossbar
pub print_done :
    (x : Crossbar) (cells : List ℕ) (room : ℕ) (s : List ℕ)
    → print x cells room ≡ done s
    → (sound x cells ≡ true) × (listing x cells ≡ s)
unfolding print
print_done x cells room s h =
    let u = unless_done _ 0 (done (listing x cells)) s h in
    let e : done (listing x cells) ≡ done s = u.1 in
    (not-false (sound x cells) (not_met 11 (not (sound x cells)) _ u.0), cc)

-- print, then load
pub load-printed : PrintThenLoadDone
load-printed x cells room room' s wide h fits =
    let p = print_done x cells room s h in
    rw (← p.1) (load-listing x cells room' wide p.0 fits)

pub load-print : PrintThenLoad
load-print x cells room room' s w wide h g =
    let p = print_done x cells room s h in
    let d = listing_read x cells 1 wide (sound_facts x cells p.0) in
    let l = load_done s room' w g in
    let one : done d.0 ≡ done l.0 = sym d.1 ∙ rw p.1 l.1 in
    let same : d.0 ≡ l.0 = cc in
    (sym l.2 ∙ ap record_of (sym same) ∙ d.2, sym l.3 ∙ ap cells_of (sym same) ∙ d.3)

pub load-printed-padded : PrintThenLoadPadded
load-printed-padded x cells room s wide h =
    let f = sound_facts x cells (print_done x cells room s h).0 in (
      record { head = x; codes = take (size x) cells },
      load-printed x cells room (length cells) s wide h f.enough,
      refl,
      taken_padded (size x) (length cells) cells refl f.enough f.past,
    )

-- load, then print
pub print-load : LoadThenPrintDone
print-load s room room' w h fits =
    let t = loaded_text s room w h in
    rw t.1 at (print-fits w.head w.codes room' t.0 (rw t.1 fits))

pub print-loaded : LoadThenPrint
print-loaded s room room' w s' h g = sym (print_done w.head w.codes room' s' g).1 ∙ (loaded_text s room w h).1

-- print reads the first R-as-C codes, and zeros past them change nothing
module _ (x : Crossbar) (cells : List ℕ) (n : ℕ) (h : size x ≤ length cells) where
  pub print-zeros : (room : ℕ) → print x (cells ++ zeros n) room ≡ print x cells room
  unfolding print listing
  print-zeros room = rw (sound-zeros x cells n h, take-append-le (size x) cells (zeros n) h)

pub print-load-padded : LoadThenPrintPadded
unfolding padded
print-load-padded s room room' n w h fits =
    let enough = (sound_facts w.head w.codes (loaded_text s room w h).0).enough in
    print-zeros w.head w.codes (n - length w.codes) enough room' ∙ print-load s room room' w h fits
