-- What print answers, by case; and a listing in its parts.
use Prim.Native.Nat.{ℕ, ◌+◌, ◌≤◌, ◌<◌}
use mathlib.Core.Path.{◌≡◌, refl, ap, ◌∙◌}
use mathlib.Core.Bool.{true, false}
use mathlib.Core.List.{List, [], ◌∷◌, ◌++◌, append_assoc}
use native.Mathlib.Omega.{arith}
use lib.ListN.{length, take, length-replicate}
use borrow.Author.Tests.{lt-ltb, le-ltb}
use Rattle.std.specs.Prelude.{Some, None, Ok, Err}
use Rattle.common.specs.declared.Fault.TheVariants as fault
use Rattle.common.specs.Lists.{zeros}
use Rattle.common.specs.Outcome.{done, lowest, unless, buffer_of, Answered, refused}
use Rattle.common.specs.Fault.{fault_of, faults, handed}
use Rattle.figures.specs.Position.{splice}
use Rattle.figures.proofs.Writing.{splice-zeros}
use Rattle.cells.specs.declared.Crossbar.{Crossbar}
use Rattle.cells.specs.Record.{size, sound}
use Rattle.forms.specs.Template.{line}
use Rattle.forms.specs.Forms.{crossbar_form, end_form, out_lines}
use Rattle.forms.specs.Written.{Written}
use Rattle.forms.proofs.Parts.{written_fits}
use Rattle.listings.specs.Listing.{cell_lines, listing, print}
use Rattle.common.specs.Limits.{max_outputs}
use Rattle.cells.proofs.Sizes.{sound_facts}

module _ (x : Crossbar) (cells : List ℕ) where
  -- the first line, and the lines of the cells, of the outputs and of the end
  pub listing-parts :
      listing x cells
      ≡ line crossbar_form (x.rows ∷ x.columns ∷ x.switches ∷ x.outputs ∷ [])
      ++ (cell_lines x.columns 0 (take (size x) cells) ++ (out_lines 0 (take x.outputs x.outs) ++ line end_form []))
  unfolding listing
  listing-parts = simp append_assoc

  pub outputs-in : sound x cells ≡ true → x.outputs ≤ max_outputs
  outputs-in h = (sound_facts x cells h).sizes.outputs_most

  module _ (room : ℕ) where
    -- grounds 12 and 14
    pub print-unsound : sound x cells ≡ false → print x cells room ≡ refused 12 0
    unfolding print lowest unless
    print-unsound h = rw h

    pub print-long : sound x cells ≡ true → room < length (listing x cells) → print x cells room ≡ refused 14 0
    unfolding print lowest unless
    print-long h k = rw (h, lt-ltb room (length (listing x cells)) k)

    -- ground 12
    pub answers-unsound :
        sound x cells ≡ false
        → {t : List ℕ}
        → t ≡ zeros room
        → Answered (print x cells room) (handed length) (λ (s : List ℕ). s) room (Err (record { fault = fault.Misplaced; line = 0 })) t
    unfolding print lowest unless handed buffer_of fault_of faults
    answers-unsound h e = record { answer = rw h refl; buffer = rw h e }

    -- neither ground
    pub print-fits : sound x cells ≡ true → length (listing x cells) ≤ room → print x cells room ≡ done (listing x cells)
    unfolding print lowest unless
    print-fits h k = rw (h, le-ltb room (length (listing x cells)) k)

    -- the listing is written into zeros
    module _ (h : sound x cells ≡ true) (s t : List ℕ) (z : s ≡ zeros room) where
      clear-length : length s ≡ room
      clear-length = ap length z ∙ length-replicate room 0

      -- ground 14
      pub answers-long :
          Written s t 0 (listing x cells) None
          → {u : List ℕ}
          → u ≡ zeros room
          → Answered (print x cells room) (handed length) (λ (s : List ℕ). s) room (Err (record { fault = fault.NoRoom; line = 0 })) u
      unfolding print lowest unless handed buffer_of fault_of faults
      answers-long w e =
          let l = clear-length in
          let b : length s < 0 + length (listing x cells) = w.beyond refl in
          let k = lt-ltb room (length (listing x cells)) (omega arith) in
          record { answer = rw (h, k) refl; buffer = rw (h, k) e }

      -- neither
      pub answers-done :
          (n : ℕ)
          → Written s t 0 (listing x cells) (Some n)
          → Answered (print x cells room) (handed length) (λ (s : List ℕ). s) room (Ok n) t
      unfolding handed buffer_of
      answers-done n w =
          let l = clear-length in
          let f = w.within n refl in
          let q : n ≡ length (listing x cells) = f.0 ∙ omega arith in
          let r : n ≤ length s = written_fits w (omega arith) in
          let e : print x cells room ≡ done (listing x cells) = print-fits h (omega arith) in
          record {
            answer = rw (e, q) refl;
            buffer = rw e (f.1 ∙ ap (λ (b : List ℕ). splice b 0 (listing x cells)) z ∙ splice-zeros room (listing x cells));
          }
