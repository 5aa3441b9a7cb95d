-- Lit wires and chains: a wire that is lit after t rounds has a chain of at most t cells from row 0, and a wire with a chain of t cells is lit
-- after t rounds.
use Prim.Native.Nat.{ℕ, zero, suc, ◌+◌, ◌≤◌, ◌<◌}
use mathlib.Core.Path.{◌≡◌, sym, ◌∙◌}
use mathlib.Core.Logic.{⊎_elim}
use mathlib.Core.Bool.{Bool, true, ◌&&◌}
use mathlib.Core.List.{List}
use native.Mathlib.Omega.{arith}
use borrow.Author.Tests.{eqb-true}
use Rattle.std.proofs.lemmas.Bool.{and_from, or_cases, or_right}
use Rattle.common.specs.Lists.{some_below}
use Rattle.common.proofs.Lists.{and_left, and_right, some_below_at, some_below_is}
use Rattle.conduction.specs.Round.{lit, round, rounds}
use Rattle.conduction.specs.Chain.{Wire, row, column, Chain, here, across, back, cell_count, place, Within}
use Rattle.conduction.proofs.Rounds.{next, start-lit, round-lit, place_below}

module _ (m n : ℕ) (joined : ℕ → ℕ → Bool) where
  -- a chain to a wire of at most t cells
  abbrev Short : ℕ → Wire → Type 0
  Short t w = (c : Chain m n joined w) × (cell_count c ≤ t)

  -- a wire that a round lights has a chain of one cell more, if those lit before it have chains
  next_chain :
      (set : List ℕ) (t : ℕ) (w : Wire) → Within m n w
      → ((v : Wire) → Within m n v → lit set (place m v) ≡ true → Short t v)
      → next m n joined set w ≡ true
      → Short (suc t) w
  unfolding next place Within cell_count
  next_chain set t (row r) h before e =
      ⊎_elim
      (λ (p : lit set r ≡ true). let short = before (row r) h p in (short.0, omega (arith, short.1)))
      (λ (p : some_below n (λ c. joined r c && lit set (m + c)) ≡ true).
      let at = some_below_is n (λ c. joined r c && lit set (m + c)) p in
      let c = at.0 in
      let short = before (column c) at.1 (and_right (joined r c) (lit set (m + c)) at.2) in
      (back short.0 h (and_left (joined r c) (lit set (m + c)) at.2), omega (arith, short.1)))
      (or_cases (lit set r) (some_below n (λ c. joined r c && lit set (m + c))) e)
  next_chain set t (column c) h before e =
      ⊎_elim
      (λ (p : lit set (m + c) ≡ true). let short = before (column c) h p in (short.0, omega (arith, short.1)))
      (λ (p : some_below m (λ r. joined r c && lit set r) ≡ true).
      let at = some_below_is m (λ r. joined r c && lit set r) p in
      let r = at.0 in
      let short = before (row r) at.1 (and_right (joined r c) (lit set r) at.2) in
      (across short.0 h (and_left (joined r c) (lit set r) at.2), omega (arith, short.1)))
      (or_cases (lit set (m + c)) (some_below m (λ r. joined r c && lit set r)) e)

  -- the wire at place 0 is row 0
  first_chain : 0 < m → (w : Wire) → place m w ≡ 0 → Short 0 w
  unfolding place cell_count
  first_chain h (row r) e = rw e (here, omega arith)
  first_chain h (column c) e = absurd (omega arith)

  pub lit_short : 0 < m → (t : ℕ) (w : Wire) → Within m n w → lit (rounds m n joined t) (place m w) ≡ true → Short t w
  unfolding rounds
  lit_short h zero w k e =
      first_chain h w (eqb-true (place m w) 0 (sym (start-lit m n (place m w) (place_below m n w k)) ∙ e))
  lit_short h (suc t) w k e =
      next_chain
      (rounds m n joined t)
      t
      w
      k
      (λ v. lit_short h t v)
      (sym (round-lit m n joined (rounds m n joined t) w k) ∙ e)

  -- the wire that a chain comes to
  pub chain_within : 0 < m → (w : Wire) → Chain m n joined w → Within m n w
  unfolding Within
  chain_within h w here = h
  chain_within h w (across before k e) = k
  chain_within h w (back before k e) = k

  -- a step of a chain, over a round
  step_across :
      (set : List ℕ) (r c : ℕ) → r < m → c < n → joined r c ≡ true → lit set r ≡ true
      → lit (round m n joined set) (m + c) ≡ true
  unfolding next place Within
  step_across set r c h k e p =
      round-lit m n joined set (column c) k
      ∙ or_right
      (lit set (m + c))
      (some_below m (λ i. joined i c && lit set i))
      (some_below_at m (λ i. joined i c && lit set i) r h (and_from (joined r c) (lit set r) e p))

  step_back :
      (set : List ℕ) (r c : ℕ) → r < m → c < n → joined r c ≡ true → lit set (m + c) ≡ true
      → lit (round m n joined set) r ≡ true
  unfolding next place Within
  step_back set r c h k e p =
      round-lit m n joined set (row r) h
      ∙ or_right
      (lit set r)
      (some_below n (λ i. joined r i && lit set (m + i)))
      (some_below_at n (λ i. joined r i && lit set (m + i)) c k (and_from (joined r c) (lit set (m + c)) e p))

  -- a chain of t cells lights its wire in t rounds
  pub chain_lights : 0 < m → (w : Wire) (c : Chain m n joined w) → lit (rounds m n joined (cell_count c)) (place m w) ≡ true
  unfolding rounds place Within cell_count
  chain_lights h w here = start-lit m n 0 (omega arith)
  chain_lights h w (across {r} {c} before k e) =
      step_across (rounds m n joined (cell_count before)) r c (chain_within h (row r) before) k e (chain_lights h (row r) before)
  chain_lights h w (back {r} {c} before k e) =
      step_back (rounds m n joined (cell_count before)) r c k (chain_within h (column c) before) e (chain_lights h (column c) before)
